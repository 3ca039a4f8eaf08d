-- The constraints of a range, word by word. Assumes nothing.
use mathlib.Core.Path.{◌≡◌, refl, ap, ap₂, sym, ◌∙◌, subst}
use mathlib.Core.Logic.{◌↔◌}
use mathlib.Core.List.{List, [], ◌∷◌, ◌++◌, append_assoc, append-nil}
use Prim.Native.Nat.{ℕ, zero, suc, ◌+◌, ◌-◌, ◌≤◌, ◌<◌}
use native.Mathlib.Numerals.{add-one}
use native.Mathlib.Omega.{arith}
use lib.ListN.{length, get_or, drop, length-drop}
use lib.Seq.{get_or-drop, drop-drop}
use Rattle.constraint.specs.Tree.{Label, node}
use Rattle.constraint.specs.Constraint.{Con, ctrue, cfail, ceq, capp, Asg, Store, Sats, Sat, trees}
use Rattle.constraint.specs.Solve.{Bnd, fun}
use Rattle.constraint.proofs.Entail.{sats_append}
use Rattle.constraint.proofs.FormSteps.{Holds}
use Rattle.mem_words.specs.declared.Word.{Word}
use Rattle.mem_words.specs.declared.Word.TheVariants.{End, Free, Level, Num, Place, Inner, Bad}
use Rattle.mem_sorts.specs.declared.Sort.{Sort}
use Rattle.mem_sorts.specs.declared.Sort.TheVariants.{Locals, Store as StoreSort, True, Fail, Eq, App, Call, Comp, Hide, Clause, AskWait, AskCond, AskCommit}
use Rattle.solve_fields.specs.Read.{var_of, num_of, args_of, label_at, args_at, term_at, tab_of, tree_at, told, starts, begun}
use Rattle.solve_begins.specs.Begins.{begins_of, begins_sort}
use Rattle.solve_tells.specs.Tells.{one_at, range_of}

told_snoc : (lab : ℕ → Label) (j : ℕ) (l : List Word) → j < length l → told lab (suc j) l ≡ told lab j l ++ starts lab (get_or l j Bad) (drop (suc j) l)
unfolding told
told_snoc lab j [] h = absurd (omega arith)
told_snoc lab zero (w ∷ l) h = append-nil (starts lab w l)
told_snoc lab (suc j) (w ∷ l) h = ap (λ (s : Store). starts lab w l ++ s) (told_snoc lab j l (omega arith)) ∙ sym (append_assoc (starts lab w l) (told lab j l) _)

told_add : (lab : ℕ → Label) (j k : ℕ) (l : List Word) → told lab (j + k) l ≡ told lab j l ++ told lab k (drop j l)
unfolding told
told_add lab zero k l = let z : 0 + k ≡ k = omega arith in ap (λ (i : ℕ). told lab i l) z
told_add lab (suc j) k [] = let z : suc j + k ≡ suc (j + k) = omega arith in ap (λ (i : ℕ). told lab i []) z ∙ sym (nil k)
  where
    nil : (k : ℕ) → told lab k [] ≡ []
    nil zero = refl
    nil (suc k) = refl
told_add lab (suc j) k (w ∷ l) = let z : suc j + k ≡ suc (j + k) = omega arith in ap (λ (i : ℕ). told lab i (w ∷ l)) z ∙ ap (λ (s : Store). starts lab w l ++ s) (told_add lab j k l) ∙ sym (append_assoc (starts lab w l) (told lab j l) _)

-- a range that ends one word later
pub range_more : (W : List Word) (from i : ℕ) (lab : ℕ → Label) → from ≤ i → i < length W → range_of W from (i + 1) lab ≡ range_of W from i lab ++ one_at W i lab
range_more W from i lab h l =
    let e : i + 1 - from ≡ suc (i - from) = omega arith in
    let f : from + (i - from) ≡ i = omega arith in
    let g : from + suc (i - from) ≡ i + 1 = omega arith in
    ap (λ (k : ℕ). told lab k (drop from W)) e ∙ told_snoc lab (i - from) (drop from W) (omega (arith, length-drop from W))
    ∙ ap₂ (λ (w : Word) (r : List Word). told lab (i - from) (drop from W) ++ starts lab w r) (get_or-drop from W (i - from) Bad ∙ ap (λ (k : ℕ). get_or W k Bad) f) (drop-drop (suc (i - from)) from W ∙ ap (λ (k : ℕ). drop k W) g)

-- a range in two
pub range_split : (W : List Word) (from i to : ℕ) (lab : ℕ → Label) → from ≤ i → i ≤ to → range_of W from to lab ≡ range_of W from i lab ++ range_of W i to lab
range_split W from i to lab h l =
    let e : to - from ≡ (i - from) + (to - i) = omega arith in
    let f : from + (i - from) ≡ i = omega arith in
    ap (λ (k : ℕ). told lab k (drop from W)) e ∙ told_add lab (i - from) (to - i) (drop from W)
    ∙ ap (λ (r : List Word). told lab (i - from) (drop from W) ++ told lab (to - i) r) (drop-drop (i - from) from W ∙ ap (λ (k : ℕ). drop k W) f)

pub range_none : (W : List Word) (i : ℕ) (lab : ℕ → Label) → range_of W i i lab ≡ []
unfolding told
range_none W i lab = let e : i - i ≡ 0 = omega arith in ap (λ (k : ℕ). told lab k (drop i W)) e

-- by what a word begins
pub starts_none : (lab : ℕ → Label) (w : Word) (r : List Word) (ρ : Asg) → (begins_of w ≡ 1 → ⊥) → (begins_of w ≡ 2 → ⊥) → (begins_of w ≡ 3 → ⊥) → Sats ρ (starts lab w r)
starts_none lab End r ρ a b c = tt
starts_none lab (Free v) r ρ a b c = tt
starts_none lab (Level v) r ρ a b c = tt
starts_none lab (Num v) r ρ a b c = tt
starts_none lab (Place k) r ρ a b c = tt
starts_none lab (Inner s) r ρ a b c = go s a b c
  where
    go : (s : Sort) → (begins_sort s ≡ 1 → ⊥) → (begins_sort s ≡ 2 → ⊥) → (begins_sort s ≡ 3 → ⊥) → Sats ρ (begun lab s r)
    go Locals a b c = tt
    go StoreSort a b c = tt
    go True a b c = (tt, tt)
    go Fail a b c = absurd (a refl)
    go Eq a b c = absurd (b refl)
    go App a b c = absurd (c refl)
    go Call a b c = tt
    go Comp a b c = tt
    go Hide a b c = tt
    go Clause a b c = tt
    go AskWait a b c = tt
    go AskCond a b c = tt
    go AskCommit a b c = tt
starts_none lab Bad r ρ a b c = tt

pub starts_fail : (lab : ℕ → Label) (w : Word) (r : List Word) → begins_of w ≡ 1 → starts lab w r ≡ cfail ∷ []
starts_fail lab End r e = absurd (omega arith)
starts_fail lab (Free v) r e = absurd (omega arith)
starts_fail lab (Level v) r e = absurd (omega arith)
starts_fail lab (Num v) r e = absurd (omega arith)
starts_fail lab (Place k) r e = absurd (omega arith)
starts_fail lab (Inner s) r e = go s e
  where
    go : (s : Sort) → begins_sort s ≡ 1 → begun lab s r ≡ cfail ∷ []
    go Locals e = absurd (omega arith)
    go StoreSort e = absurd (omega arith)
    go True e = absurd (omega arith)
    go Fail e = refl
    go Eq e = absurd (omega arith)
    go App e = absurd (omega arith)
    go Call e = absurd (omega arith)
    go Comp e = absurd (omega arith)
    go Hide e = absurd (omega arith)
    go Clause e = absurd (omega arith)
    go AskWait e = absurd (omega arith)
    go AskCond e = absurd (omega arith)
    go AskCommit e = absurd (omega arith)
starts_fail lab Bad r e = absurd (omega arith)

pub starts_eq : (lab : ℕ → Label) (w : Word) (r : List Word) → begins_of w ≡ 2 → starts lab w r ≡ ceq (var_of (get_or r 0 Bad)) (var_of (get_or r 1 Bad)) ∷ []
starts_eq lab End r e = absurd (omega arith)
starts_eq lab (Free v) r e = absurd (omega arith)
starts_eq lab (Level v) r e = absurd (omega arith)
starts_eq lab (Num v) r e = absurd (omega arith)
starts_eq lab (Place k) r e = absurd (omega arith)
starts_eq lab (Inner s) r e = go s e
  where
    go : (s : Sort) → begins_sort s ≡ 2 → begun lab s r ≡ ceq (var_of (get_or r 0 Bad)) (var_of (get_or r 1 Bad)) ∷ []
    go Locals e = absurd (omega arith)
    go StoreSort e = absurd (omega arith)
    go True e = absurd (omega arith)
    go Fail e = absurd (omega arith)
    go Eq e = refl
    go App e = absurd (omega arith)
    go Call e = absurd (omega arith)
    go Comp e = absurd (omega arith)
    go Hide e = absurd (omega arith)
    go Clause e = absurd (omega arith)
    go AskWait e = absurd (omega arith)
    go AskCond e = absurd (omega arith)
    go AskCommit e = absurd (omega arith)
starts_eq lab Bad r e = absurd (omega arith)

pub starts_app : (lab : ℕ → Label) (w : Word) (r : List Word) → begins_of w ≡ 3 → starts lab w r ≡ capp (var_of (get_or r 0 Bad)) (lab (num_of (get_or r 1 Bad))) (args_of (drop 2 r)) ∷ []
starts_app lab End r e = absurd (omega arith)
starts_app lab (Free v) r e = absurd (omega arith)
starts_app lab (Level v) r e = absurd (omega arith)
starts_app lab (Num v) r e = absurd (omega arith)
starts_app lab (Place k) r e = absurd (omega arith)
starts_app lab (Inner s) r e = go s e
  where
    go : (s : Sort) → begins_sort s ≡ 3 → begun lab s r ≡ capp (var_of (get_or r 0 Bad)) (lab (num_of (get_or r 1 Bad))) (args_of (drop 2 r)) ∷ []
    go Locals e = absurd (omega arith)
    go StoreSort e = absurd (omega arith)
    go True e = absurd (omega arith)
    go Fail e = absurd (omega arith)
    go Eq e = absurd (omega arith)
    go App e = refl
    go Call e = absurd (omega arith)
    go Comp e = absurd (omega arith)
    go Hide e = absurd (omega arith)
    go Clause e = absurd (omega arith)
    go AskWait e = absurd (omega arith)
    go AskCond e = absurd (omega arith)
    go AskCommit e = absurd (omega arith)
starts_app lab Bad r e = absurd (omega arith)

-- an equation at i
pub one_eq : (W : List Word) (i x y : ℕ) (b : ℕ) → b ≡ begins_of (get_or W i Bad) → b ≡ 2 → x ≡ var_of (get_or W (i + 1) Bad) → y ≡ var_of (get_or W (i + 1 + 1) Bad) → (lab : ℕ → Label) (ρ : Asg) → Sats ρ (one_at W i lab) ↔ (ρ x ≡ ρ y)
one_eq W i x y b eb e ex ey lab ρ = (λ s. (subst (Sats ρ) p s).0, λ q. subst (Sats ρ) (sym p) (q, tt))
  where
    p : one_at W i lab ≡ ceq x y ∷ []
    p =
        let z : i + 1 + 0 ≡ i + 1 = omega arith in
        starts_eq lab (get_or W i Bad) (drop (i + 1) W) (sym eb ∙ e)
        ∙ ap₂ (λ (a b : ℕ). ceq a b ∷ []) (ap var_of (get_or-drop (i + 1) W 0 Bad ∙ ap (λ (k : ℕ). get_or W k Bad) z) ∙ sym ex) (ap var_of (get_or-drop (i + 1) W 1 Bad) ∙ sym ey)

-- an application at i, which has the number k
pub one_app : (W : List Word) (P : List ℕ) (i k x : ℕ) (b : ℕ) → b ≡ begins_of (get_or W i Bad) → b ≡ 3 → x ≡ var_of (get_or W (i + 1) Bad) → get_or P k 0 ≡ i → (lab : ℕ → Label) (ρ : Asg) → Sats ρ (one_at W i lab) ↔ Holds ρ x (tab_of lab W P k)
unfolding Holds tab_of term_at label_at args_at
one_app W P i k x b eb e ex ep lab ρ = (λ s. t (subst (Sats ρ) p s).0, λ h. subst (Sats ρ) (sym p) (f h, tt))
  where
    p : one_at W i lab ≡ capp x (lab (num_of (get_or W (i + 2) Bad))) (args_of (drop (i + 3) W)) ∷ []
    p =
        let z : i + 1 + 0 ≡ i + 1 = omega arith in
        let y : i + 1 + 1 ≡ i + 2 = omega arith in
        let v : i + 1 + 2 ≡ i + 3 = omega arith in
        starts_app lab (get_or W i Bad) (drop (i + 1) W) (sym eb ∙ e)
        ∙ ap (λ (a : ℕ). capp a (lab (num_of (get_or (drop (i + 1) W) 1 Bad))) (args_of (drop 2 (drop (i + 1) W))) ∷ []) (ap var_of (get_or-drop (i + 1) W 0 Bad ∙ ap (λ (j : ℕ). get_or W j Bad) z) ∙ sym ex)
        ∙ ap₂ (λ (a : Word) (l : List Word). capp x (lab (num_of a)) (args_of l) ∷ []) (get_or-drop (i + 1) W 1 Bad ∙ ap (λ (j : ℕ). get_or W j Bad) y) (drop-drop 2 (i + 1) W ∙ ap (λ (j : ℕ). drop j W) v)

    q : node (lab (num_of (get_or W (i + 2) Bad))) (trees ρ (args_of (drop (i + 3) W))) ≡ node (lab (num_of (get_or W (get_or P k 0 + 2) Bad))) (trees ρ (args_of (drop (get_or P k 0 + 3) W)))
    q = ap (λ (j : ℕ). node (lab (num_of (get_or W (j + 2) Bad))) (trees ρ (args_of (drop (j + 3) W)))) (sym ep)

    t : ρ x ≡ node (lab (num_of (get_or W (i + 2) Bad))) (trees ρ (args_of (drop (i + 3) W))) → Holds ρ x (tab_of lab W P k)
    t h = h ∙ q

    f : Holds ρ x (tab_of lab W P k) → ρ x ≡ node (lab (num_of (get_or W (i + 2) Bad))) (trees ρ (args_of (drop (i + 3) W)))
    f h = h ∙ sym q
