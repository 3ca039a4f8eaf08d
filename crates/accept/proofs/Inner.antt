-- The lists of the stability test hold exactly what stands inside the goal: its locals, and the stores down to each and-box.
use mathlib.Core.Path.{sym, subst}
use mathlib.Core.Logic.{◌↔◌, inl, inr}
use mathlib.Core.List.{List, [], ◌∷◌, ◌++◌, append_assoc}
use Prim.Native.Nat.{ℕ}
use Rattle.constraint.specs.Constraint.{Store, Asg, In, Off, Quiet}
use Rattle.constraint.proofs.Lists.{In-append}
use Rattle.akl.specs.Configuration.{Kind, Node, or, and, stmt, choice_box, guard, Nodes, nil, cons}
use Rattle.akl.specs.Stability.{locals, locals_all, stores_down, stores_down_all}
use Rattle.accept.specs.Inner.{OneOf, first, later, BoxIn, it, in_member, in_or_box, in_choice_box, in_its_guard, LocalIn, OffLocals, QuietInside}

-- ---------------------------------------------------------------------------------------------
-- Locals.

one_local : {k : Kind} {m : Node k} {ns : Nodes k} (x : ℕ) → OneOf m ns → In x (locals m) → In x (locals_all ns)
unfolding locals
one_local {k} {m} x (first ns) i = (In-append x (locals m) (locals_all ns)).1 (inl i)
one_local x (later n ns o) i = (In-append x (locals n) (locals_all ns)).1 (inr (one_local x o i))

box_local : {k : Kind} {n : Node k} {ws : List ℕ} {θ : Store} (x : ℕ) → BoxIn k n ws θ → In x ws → In x (locals n)
unfolding locals
box_local x (it ws θ ms) i = (In-append x ws (locals_all ms)).1 (inl i)
box_local x (in_member vs σ ms m ws θ o b) i = (In-append x vs (locals_all ms)).1 (inr (one_local x o (box_local x b i)))
box_local x (in_or_box ns n ws θ o b) i = one_local x o (box_local x b i)
box_local x (in_choice_box op gs g ws θ o b) i = one_local x o (box_local x b i)
box_local x (in_its_guard g c ws θ b) i = box_local x b i

abbrev LocalAmong : {k : Kind} → Nodes k → ℕ → Type 0
LocalAmong {k} ns x = (m : Node k) × OneOf m ns × LocalIn m x

mutual
  unfolding locals

  local_box : {k : Kind} (n : Node k) (x : ℕ) → In x (locals n) → LocalIn n x
  local_box (or ns) x i = let w = local_among ns x i in (w.2.0, w.2.1, in_or_box ns w.0 w.2.0 w.2.1 w.1 w.2.2, w.2.3)
  local_box (and vs σ ms) x i =
      elim ((In-append x vs (locals_all ms)).0 i)
      [ inl h ↦ (vs, σ, it vs σ ms, h) | inr h ↦ let w = local_among ms x h in (w.2.0, _, in_member vs σ ms w.0 w.2.0 w.2.1 w.1 w.2.2, w.2.3) ]
  local_box (stmt s) x i = absurd i
  local_box (choice_box op gs) x i = let w = local_among gs x i in (w.2.0, w.2.1, in_choice_box op gs w.0 w.2.0 w.2.1 w.1 w.2.2, w.2.3)
  local_box (guard g b) x i = let w = local_box g x i in (w.0, w.1, in_its_guard g b w.0 w.1 w.2, w.3)

  local_among : {k : Kind} (ns : Nodes k) (x : ℕ) → In x (locals_all ns) → LocalAmong ns x
  local_among nil x i = absurd i
  local_among (cons n ns) x i = elim ((In-append x (locals n) (locals_all ns)).0 i) [ inl h ↦ (n, first ns, local_box n x h) | inr h ↦ let w = local_among ns x h in (w.0, later n ns w.1, w.2) ]

-- The test's list of locals has exactly the locals inside the goal.
pub locals_iff : {k : Kind} (n : Node k) (x : ℕ) → In x (locals n) ↔ LocalIn n x
locals_iff n x = (local_box n x, λ w. box_local x w.2 w.3)

off_iff : {k : Kind} (n : Node k) (ρ ρ' : Asg) → Off (locals n) ρ ρ' ↔ OffLocals n ρ ρ'
off_iff n ρ ρ' = (λ h x u. h x (λ i. u ((locals_iff n x).0 i)), λ h x u. h x (λ w. u ((locals_iff n x).1 w)))

-- ---------------------------------------------------------------------------------------------
-- Stores.

-- Q of each of a list
abbrev pub Each : {A : Type 0} → (A → Type 0) → List A → Type 0
Each Q [] = Unit {0}
Each Q (x ∷ l) = Q x × Each Q l

module _ (Q : Store → Type 0) where
  each_append : (a b : List Store) → Each Q (a ++ b) ↔ (Each Q a × Each Q b)
  each_append [] b = (λ h. (tt, h), λ h. h.1)
  each_append (x ∷ a) b = let f = each_append a b in (λ h. ((h.0, (f.0 h.1).0), (f.0 h.1).1), λ h. (h.0.0, f.1 (h.0.1, h.1)))

  -- Q of all stores down to each and-box of the node, θ₀ being stored on the way to it
  abbrev EachBox : {k : Kind} → Node k → Store → Type 0
  EachBox {k} n θ₀ = (ws : List ℕ) (θ : Store) → BoxIn k n ws θ → Q (θ₀ ++ θ)

  abbrev EachBoxAmong : {k : Kind} → Nodes k → Store → Type 0
  EachBoxAmong {k} ns θ₀ = (m : Node k) → OneOf m ns → EachBox m θ₀

  down_one : {k : Kind} {m : Node k} {ns : Nodes k} (θ₀ : Store) → OneOf m ns → Each Q (stores_down_all ns θ₀) → Each Q (stores_down m θ₀)
  unfolding stores_down
  down_one {k} {m} θ₀ (first ns) h = ((each_append (stores_down m θ₀) (stores_down_all ns θ₀)).0 h).0
  down_one θ₀ (later n ns o) h = down_one θ₀ o ((each_append (stores_down n θ₀) (stores_down_all ns θ₀)).0 h).1

  down_box : {k : Kind} {n : Node k} {ws : List ℕ} {θ : Store} (θ₀ : Store) → BoxIn k n ws θ → Each Q (stores_down n θ₀) → Q (θ₀ ++ θ)
  unfolding stores_down
  down_box θ₀ (it ws θ ms) h = h.0
  down_box θ₀ (in_member vs σ ms m ws θ o b) h = subst Q (append_assoc θ₀ σ θ) (down_box (θ₀ ++ σ) b (down_one (θ₀ ++ σ) o h.1))
  down_box θ₀ (in_or_box ns n ws θ o b) h = down_box θ₀ b (down_one θ₀ o h)
  down_box θ₀ (in_choice_box op gs g ws θ o b) h = down_box θ₀ b (down_one θ₀ o h)
  down_box θ₀ (in_its_guard g c ws θ b) h = down_box θ₀ b h

  mutual
    unfolding stores_down

    boxes_down : {k : Kind} (n : Node k) (θ₀ : Store) → EachBox n θ₀ → Each Q (stores_down n θ₀)
    boxes_down (or ns) θ₀ h = among_down ns θ₀ (λ m o ws θ b. h ws θ (in_or_box ns m ws θ o b))
    boxes_down (and vs σ ms) θ₀ h = (h vs σ (it vs σ ms), among_down ms (θ₀ ++ σ) (λ m o ws θ b. subst Q (sym (append_assoc θ₀ σ θ)) (h ws (σ ++ θ) (in_member vs σ ms m ws θ o b))))
    boxes_down (stmt s) θ₀ h = tt
    boxes_down (choice_box op gs) θ₀ h = among_down gs θ₀ (λ m o ws θ b. h ws θ (in_choice_box op gs m ws θ o b))
    boxes_down (guard g c) θ₀ h = boxes_down g θ₀ (λ ws θ b. h ws θ (in_its_guard g c ws θ b))

    among_down : {k : Kind} (ns : Nodes k) (θ₀ : Store) → EachBoxAmong ns θ₀ → Each Q (stores_down_all ns θ₀)
    among_down nil θ₀ h = tt
    among_down (cons n ns) θ₀ h = (each_append (stores_down n θ₀) (stores_down_all ns θ₀)).1 (boxes_down n θ₀ (h n (first ns)), among_down ns θ₀ (λ m o. h m (later n ns o)))

  -- The test's list of stores has exactly those from the goal down to each and-box.
  pub stores_iff : {k : Kind} (n : Node k) → Each Q (stores_down n []) ↔ ((ws : List ℕ) (θ : Store) → BoxIn k n ws θ → Q θ)
  stores_iff n = (λ h ws θ b. down_box [] b h, λ h. boxes_down n [] h)

-- What the test asks of the stores is what document 01 asks.
pub quiet_inside_iff : {k : Kind} (e : Store) (n : Node k) → Each (Quiet (locals n) e) (stores_down n []) ↔ QuietInside e n
quiet_inside_iff e n =
    let s = stores_iff (Quiet (locals n) e) n in
    (λ h ws θ b ρ t. let r = s.0 h ws θ b ρ t in (r.0, (off_iff n ρ r.0).0 r.1, r.2), λ h. s.1 (λ ws θ b ρ t. let r = h ws θ b ρ t in (r.0, (off_iff n ρ r.0).1 r.1, r.2)))
