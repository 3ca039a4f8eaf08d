-- Changes of one cell: what they do to links, keys and bindings. Assumes nothing.
use mathlib.Core.Path.{◌≡◌, refl, ap, sym, ◌∙◌, subst}
use mathlib.Core.Logic.{◌↔◌, ite, if_pos, if_neg}
use mathlib.Core.List.{List}
use Prim.Native.Nat.{ℕ, zero, suc, ◌+◌, ◌-◌, ◌*◌, ◌/◌, ◌%◌, ◌≤◌, ◌<◌}
use native.Mathlib.Omega.{arith}
use native.Mathlib.Decide.{ℕ_discrete}
use lib.ListN.{length, get_or}
use Rattle.mem_numbers.specs.Stored.{Stored, stored_same, stored_other}
use Rattle.constraint.specs.Constraint.{Asg}
use Rattle.constraint.specs.Solve.{Bnd, free, fun, to}
use Rattle.constraint.proofs.Form.{Form, build, Solves}
use Rattle.constraint.proofs.FormSteps.{Holds, holds_of, build_of, merge_sem, put_sem}
use Rattle.solve_cells.specs.Cells.{next, par, key, fuel, room, rep, Up}
use Rattle.solve_classes.specs.Means.{bound, Fits, Pend, Apps}
use Rattle.solve_cells.proofs.Climb.{next_link, next_root, rep_root, rep_idem, rep_same, rep_link, root_rep, linked}

-- a cell is what was stored, or what it was
pub cell_cases : {T T' : List ℕ} {a c : ℕ} (P : ℕ → ℕ → Type 0) → Stored T a c T' → a < length T → P a c → ((x : ℕ) → (x ≡ a → ⊥) → P x (get_or T x 0)) → (x : ℕ) → P x (get_or T' x 0)
cell_cases {T} {T'} {a} {c} P s l pa po x = go (ℕ_discrete x a)
  where
    go : Dec (x ≡ a) → P x (get_or T' x 0)
    go (yes e) = subst (λ (y : ℕ). P y (get_or T' y 0)) (sym e) (subst (P a) (sym (stored_same 0 s l)) pa)
    go (no n) = subst (P x) (sym (stored_other x 0 s n)) (po x n)

-- a key is below the fuel
pub key_fuel : (c x : ℕ) → x < 65536 → key c x < fuel
unfolding key fuel
key_fuel c x h = omega arith

-- ranks decide the room
same_room : (T T' : List ℕ) (x : ℕ) → key (get_or T' x 0) x ≡ key (get_or T x 0) x → room T' x ≡ room T x
unfolding room
same_room T T' x e = ap (λ (k : ℕ). fuel - k) e

less_room : (T T' : List ℕ) (x y : ℕ) → key (get_or T x 0) x < key (get_or T' y 0) y → key (get_or T x 0) x < fuel → room T' y < room T x
unfolding room
less_room T T' x y h k = omega arith

le_room : (T T' : List ℕ) (x : ℕ) → key (get_or T x 0) x ≤ key (get_or T' x 0) x → room T' x ≤ room T x
unfolding room
le_room T T' x h = omega arith

key_rank : (c c' x : ℕ) → c' / 4 % 64 ≡ c / 4 % 64 → key c' x ≡ key c x
unfolding key
key_rank c c' x e = omega arith

key_more : (c c' x : ℕ) → c / 4 % 64 ≤ c' / 4 % 64 → key c x ≤ key c' x
unfolding key
key_more c c' x e = omega arith

-- the root a is linked below b, whose key is larger; a keeps its rank
pub up_link : {T T' : List ℕ} (a b c : ℕ) → Up T → Stored T a c T' → a < length T → b < length T → (b ≡ a → ⊥) → c % 4 ≡ 1 → c / 256 ≡ b → c / 4 % 64 ≡ get_or T a 0 / 4 % 64 → key (get_or T a 0) a < key (get_or T b 0) b → Up T'
up_link {T} {T'} a b c U s la lb ne t v r h = record { fall = λ x. fall' x; inside = λ x. inside' x; size = rw s.long U.size }
  where
    rooms : (x : ℕ) → room T' x ≡ room T x
    rooms x = same_room T T' x (cell_cases (λ (y d : ℕ). key d y ≡ key (get_or T y 0) y) s la (key_rank (get_or T a 0) c a r) (λ y n. refl) x)

    fall' : (x : ℕ) → get_or T' x 0 % 4 ≡ 1 → room T' (get_or T' x 0 / 256) < room T' x
    fall' = cell_cases (λ (y d : ℕ). d % 4 ≡ 1 → room T' (d / 256) < room T' y) s la
        (λ e. subst (λ (z : ℕ). room T' z < room T' a) (sym v) (omega (arith, rooms a, rooms b, less_room T T a b h (key_fuel (get_or T a 0) a (omega (arith, U.size))))))
        (λ y n e. omega (arith, U.fall y e, rooms y, rooms (get_or T y 0 / 256)))

    inside' : (x : ℕ) → get_or T' x 0 % 4 ≡ 1 → get_or T' x 0 / 256 < length T'
    inside' = cell_cases (λ (y d : ℕ). d % 4 ≡ 1 → d / 256 < length T') s la (λ e. omega (arith, s.long)) (λ y n e. omega (arith, U.inside y e, s.long))

-- a cell that is no link gets a cell that is no link and has no lower rank
pub up_root : {T T' : List ℕ} (a c : ℕ) → Up T → Stored T a c T' → a < length T → (c % 4 ≡ 1 → ⊥) → (get_or T a 0 % 4 ≡ 1 → ⊥) → get_or T a 0 / 4 % 64 ≤ c / 4 % 64 → Up T'
up_root {T} {T'} a c U s la t q r = record { fall = fall'; inside = inside'; size = rw s.long U.size }
  where
    rooms : (x : ℕ) → room T' x ≤ room T x
    rooms x = le_room T T' x (cell_cases (λ (y d : ℕ). key (get_or T y 0) y ≤ key d y) s la (key_more (get_or T a 0) c a r) (λ y n. omega arith) x)

    others : (x : ℕ) → (x ≡ a → ⊥) → room T' x ≡ room T x
    others x n = same_room T T' x (ap (λ (d : ℕ). key d x) (stored_other x 0 s n))

    fall' : (x : ℕ) → get_or T' x 0 % 4 ≡ 1 → room T' (get_or T' x 0 / 256) < room T' x
    fall' = cell_cases (λ (y d : ℕ). d % 4 ≡ 1 → room T' (d / 256) < room T' y) s la (λ e. absurd (t e)) (λ y n e. omega (arith, U.fall y e, others y n, rooms (get_or T y 0 / 256)))

    inside' : (x : ℕ) → get_or T' x 0 % 4 ≡ 1 → get_or T' x 0 / 256 < length T'
    inside' = cell_cases (λ (y d : ℕ). d % 4 ≡ 1 → d / 256 < length T') s la (λ e. absurd (t e)) (λ y n e. omega (arith, U.inside y e, s.long))

pub bound_yes : (tab : ℕ → Bnd) (c : ℕ) → c % 4 ≡ 2 → bound tab c ≡ tab (c / 256)
unfolding bound
bound_yes tab c e = if_pos (ℕ_discrete (c % 4) 2) e _ _

pub bound_no : (tab : ℕ → Bnd) (c : ℕ) → (c % 4 ≡ 2 → ⊥) → bound tab c ≡ free
unfolding bound
bound_no tab c n = if_neg (ℕ_discrete (c % 4) 2) n _ _

-- the form of a table
unfoldable pub form_of : (ℕ → Bnd) → (T : List ℕ) → Up T → Form
form_of tab T U = record { rep = rep T; bnd = λ x. bound tab (get_or T x 0); idem = rep_idem T U }

pub fits_form : (tab : ℕ → Bnd) (T : List ℕ) (U : Up T) (ρ : Asg) → Fits tab T ρ ↔ Solves ρ (form_of tab T U)
unfolding Fits form_of
fits_form tab T U ρ = (λ h. h, λ h. h)

-- a variable has its representative's tree
pub fits_rep : (tab : ℕ → Bnd) (T : List ℕ) → Up T → (ρ : Asg) → Fits tab T ρ → (x : ℕ) → ρ x ≡ ρ (rep T x)
unfolding Fits
fits_rep tab T U ρ h x = h x ∙ sym (h (rep T x) ∙ ap (λ (r : ℕ). build ρ (ρ r) (bound tab (get_or T r 0))) (rep_idem T U x))

-- and the representative the tree of its binding
pub fits_holds : (tab : ℕ → Bnd) (T : List ℕ) (ρ : Asg) → Fits tab T ρ → (r : ℕ) → par T r ≡ r → Holds ρ r (bound tab (get_or T r 0))
unfolding Fits
fits_holds tab T ρ h r e = holds_of ρ r _ (h r ∙ ap (λ (q : ℕ). build ρ (ρ q) (bound tab (get_or T q 0))) (rep_root T r e))

-- tables with the same links and bindings say the same
pub fits_same : (tab : ℕ → Bnd) (T T' : List ℕ) → Up T → Up T' → ((x : ℕ) → par T' x ≡ par T x) → ((x : ℕ) → bound tab (get_or T' x 0) ≡ bound tab (get_or T x 0)) → (ρ : Asg) → Fits tab T ρ → Fits tab T' ρ
unfolding Fits
fits_same tab T T' U U' hp hb ρ h x =
    h x ∙ ap (λ (r : ℕ). build ρ (ρ r) (bound tab (get_or T r 0))) (sym (rep_same T T' U U' hp x)) ∙ ap (build ρ (ρ (rep T' x))) (sym (hb (rep T' x)))

pub holds_move : (ρ : Asg) (v w : ℕ) (b : Bnd) → ρ v ≡ ρ w → Holds ρ v b → Holds ρ w b
unfolding Holds
holds_move ρ v w free e h = tt
holds_move ρ v w (fun f ys) e h = sym e ∙ h

pub holds_none : (ρ : Asg) (v : ℕ) → Holds ρ v free
unfolding Holds
holds_none ρ v = tt

-- the root a is linked below the root b
pub fits_link : (tab : ℕ → Bnd) {T T' : List ℕ} (a b c : ℕ) → Up T → Up T' → Stored T a c T' → a < length T → par T a ≡ a → par T b ≡ b → (b ≡ a → ⊥) → c % 4 ≡ 1 → c / 256 ≡ b → (ρ : Asg)
    → (Fits tab T ρ × (ρ a ≡ ρ b)) ↔ (Fits tab T' ρ × Holds ρ a (bound tab (get_or T a 0)))
unfolding form_of
fits_link tab {T} {T'} a b c U U' s la ra rb ne t v ρ = (there, back)
  where
    ea : rep T a ≡ a
    ea = rep_root T a ra

    eb : rep T b ≡ b
    eb = rep_root T b rb

    at_a : par T' a ≡ b
    at_a = ap (λ (d : ℕ). next d a) (stored_same 0 s la) ∙ next_link c a t ∙ v

    at_other : (x : ℕ) → (x ≡ a → ⊥) → par T' x ≡ par T x
    at_other x n = ap (λ (d : ℕ). next d x) (stored_other x 0 s n)

    ne' : rep T b ≡ rep T a → ⊥
    ne' e = ne (sym eb ∙ e ∙ ea)

    hr : (z : ℕ) → rep T' z ≡ to (rep T) (rep T a) (rep T b) z
    hr z = sym (rep_link T T' U U' a b ra rb ne at_a at_other z) ∙ ap (λ (q : ℕ). to (rep T) q b z) (sym ea) ∙ ap (λ (q : ℕ). to (rep T) (rep T a) q z) (sym eb)

    hb : (z : ℕ) → (z ≡ rep T a → ⊥) → bound tab (get_or T' z 0) ≡ bound tab (get_or T z 0)
    hb z n = ap (bound tab) (stored_other z 0 s (λ e. n (e ∙ sym ea)))

    m : (Solves ρ (form_of tab T U) × (ρ a ≡ ρ b)) ↔ (Solves ρ (form_of tab T' U') × Holds ρ (rep T b) (bound tab (get_or T (rep T a) 0)))
    m = merge_sem (form_of tab T U) (form_of tab T' U') a b ne' hr hb ρ

    there : Fits tab T ρ × (ρ a ≡ ρ b) → Fits tab T' ρ × Holds ρ a (bound tab (get_or T a 0))
    there q =
        let w = m.0 ((fits_form tab T U ρ).0 q.0, q.1) in
        ((fits_form tab T' U' ρ).1 w.0, holds_move ρ (rep T b) a _ (ap ρ eb ∙ sym q.1) (subst (λ (z : ℕ). Holds ρ (rep T b) (bound tab (get_or T z 0))) ea w.1))

    back : Fits tab T' ρ × Holds ρ a (bound tab (get_or T a 0)) → Fits tab T ρ × (ρ a ≡ ρ b)
    back q =
        let ab : ρ a ≡ ρ b = fits_rep tab T' U' ρ q.0 a ∙ ap ρ (hr a ∙ if_pos (ℕ_discrete (rep T a) (rep T a)) refl _ _ ∙ eb) in
        let w = m.1 ((fits_form tab T' U' ρ).0 q.0, subst (λ (z : ℕ). Holds ρ (rep T b) (bound tab (get_or T z 0))) (sym ea) (holds_move ρ a (rep T b) _ (ab ∙ ap ρ (sym eb)) q.1)) in
        ((fits_form tab T U ρ).1 w.0, w.1)

-- the unbound root r is bound to the application k
pub fits_bind : (tab : ℕ → Bnd) {T T' : List ℕ} (r c : ℕ) → Up T → Up T' → Stored T r c T' → r < length T → par T r ≡ r → (get_or T r 0 % 4 ≡ 2 → ⊥) → c % 4 ≡ 2 → (ρ : Asg)
    → (Fits tab T ρ × Holds ρ r (tab (c / 256))) ↔ Fits tab T' ρ
unfolding form_of
fits_bind tab {T} {T'} r c U U' s lr rr nb t ρ = (λ q. (fits_form tab T' U' ρ).1 (m.0 ((fits_form tab T U ρ).0 q.0, q.1)), λ q. let w = m.1 ((fits_form tab T' U' ρ).0 q) in ((fits_form tab T U ρ).1 w.0, w.1))
  where
    er : rep T r ≡ r
    er = rep_root T r rr

    pars : (x : ℕ) → par T' x ≡ par T x
    pars x = cell_cases (λ (y d : ℕ). next d y ≡ par T y) s lr (next_root c r (λ e. omega arith) ∙ sym rr) (λ y n. refl) x

    m : (Solves ρ (form_of tab T U) × Holds ρ r (tab (c / 256))) ↔ Solves ρ (form_of tab T' U')
    m = put_sem (form_of tab T U) (form_of tab T' U') r (tab (c / 256)) er (bound_no tab (get_or T r 0) nb) (λ z. rep_same T T' U U' pars z) (ap (bound tab) (stored_same 0 s lr) ∙ bound_yes tab c t) (λ z n. ap (bound tab) (stored_other z 0 s n)) ρ
