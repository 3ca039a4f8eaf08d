-- The stack of a traversal: what one turn makes of its frames, and that it is never higher than there are applications.
-- Assumes nothing.
use mathlib.Core.Path.{◌≡◌, refl, ap, ap₂, sym, ◌∙◌, subst}
use mathlib.Core.Logic.{inl, inr}
use mathlib.Core.List.{List, [], ◌∷◌}
use mathlib.Core.Bool.{true, false}
use Prim.Native.Nat.{ℕ, zero, suc, ◌+◌, ◌/◌, ◌%◌, ◌≤◌, ◌<◌}
use native.Mathlib.Nat.{add-zero}
use native.Mathlib.Omega.{arith}
use native.Mathlib.Decide.{ℕ_discrete}
use lib.ListN.{length, get_or, drop}
use lib.Dec.{T as True}
use Rattle.constraint.specs.Constraint.{In}
use Rattle.constraint.specs.Solve.{Bnd, free, fun, distinct}
use Rattle.constraint.proofs.Lists.{distinct_cons}
use Rattle.mem_words.specs.declared.Word.{Word}
use Rattle.mem_words.specs.declared.Word.TheVariants.{Bad}
use Rattle.mem_numbers.specs.Stored.{Stored, stored_same, stored_other}
use Rattle.solve_cells.specs.Cells.{rep}
use Rattle.solve_classes.specs.Means.{bound, Apps}
use Rattle.solve_classes.proofs.Tables.{bound_yes, bound_no}
use Rattle.solve_fields.specs.Read.{var_of, is_var, args_of, args_at, term_at, tab_of}
use Rattle.solve_tells.proofs.Meeting.{args_more, args_done}
use Rattle.solve_explores.specs.Search.{cell_of, Acyclic}
use Rattle.solve_quiet.specs.View.{Term as BoundTo}
use Rattle.answer_walk.specs.Stack.{left_at, frames, stacked, On, Child, Linked}
use Rattle.answer_walk.proofs.Few.{few}

-- ---------------------------------------------------------------------------------------------
-- Arguments, by the word where the next one stands.

pub left_all : (W : List Word) (p : ℕ) → left_at W p 0 ≡ args_at W p
unfolding left_at args_at
left_all W p = ap (λ (n : ℕ). args_of (drop n W)) (add-zero (p + 3))

pub left_next : (W : List Word) (p k : ℕ) → is_var (get_or W (p + 3 + k) Bad) ≡ true → left_at W p k ≡ var_of (get_or W (p + 3 + k) Bad) ∷ left_at W p (k + 1)
unfolding left_at
left_next W p k e = let n : p + 3 + k + 1 ≡ p + 3 + (k + 1) = omega arith in args_more W (p + 3 + k) e ∙ ap (λ (m : ℕ). var_of (get_or W (p + 3 + k) Bad) ∷ args_of (drop m W)) n

pub left_none : (W : List Word) (p k : ℕ) → is_var (get_or W (p + 3 + k) Bad) ≡ false → left_at W p k ≡ []
unfolding left_at
left_none W p k e = args_done W (p + 3 + k) e

-- ---------------------------------------------------------------------------------------------
-- The frames depend on the first h entries alone.

pub frames_kept : (W : List Word) (S K S' K' : List ℕ) (h : ℕ) → ((i : ℕ) → i < h → get_or S' i 0 ≡ get_or S i 0) → ((i : ℕ) → i < h → get_or K' i 0 ≡ get_or K i 0) → frames W S' K' h ≡ frames W S K h
unfolding frames
frames_kept W S K S' K' zero a b = refl
frames_kept W S K S' K' (suc h) a b = ap₂ (λ (l : List ℕ) (fs : List (List ℕ)). l ∷ fs) (ap₂ (left_at W) (a h (omega arith)) (b h (omega arith))) (frames_kept W S K S' K' h (λ i l. a i (omega arith)) (λ i l. b i (omega arith)))

pub stacked_kept : (S S' : List ℕ) (h : ℕ) → ((i : ℕ) → i < h → get_or S' i 0 ≡ get_or S i 0) → stacked S' h ≡ stacked S h
unfolding stacked
stacked_kept S S' zero a = refl
stacked_kept S S' (suc h) a = ap₂ (λ (p : ℕ) (ps : List ℕ). p ∷ ps) (a h (omega arith)) (stacked_kept S S' h (λ i l. a i (omega arith)))

pub length_stacked : (S : List ℕ) (h : ℕ) → length (stacked S h) ≡ h
unfolding stacked
length_stacked S zero = refl
length_stacked S (suc h) = ap suc (length_stacked S h)

-- ---------------------------------------------------------------------------------------------
-- One turn.

below : {L X : List ℕ} {h v : ℕ} → Stored L h v X → (i : ℕ) → i < h → get_or X i 0 ≡ get_or L i 0
below {L} {X} {h} {v} s i l = stored_other i 0 s (λ e. omega arith)

-- an application put on top, with k of its arguments begun
pub push_frames : (W : List Word) {S K S' K' : List ℕ} {h p k : ℕ} → Stored S h p S' → Stored K h k K' → h < length S → h < length K → frames W S' K' (h + 1) ≡ left_at W p k ∷ frames W S K h
unfolding frames
push_frames W {S} {K} {S'} {K'} {h} {p} {k} a b l m =
    let n : h + 1 ≡ suc h = omega arith in
    ap (frames W S' K') n ∙ ap₂ (λ (y : List ℕ) (fs : List (List ℕ)). y ∷ fs) (ap₂ (left_at W) (stored_same 0 a l) (stored_same 0 b m)) (frames_kept W S K S' K' h (below a) (below b))

pub push_stacked : {S S' : List ℕ} {h p : ℕ} → Stored S h p S' → h < length S → stacked S' (h + 1) ≡ p ∷ stacked S h
unfolding stacked
push_stacked {S} {S'} {h} {p} a l =
    let n : h + 1 ≡ suc h = omega arith in
    ap (stacked S') n ∙ ap₂ (λ (y : ℕ) (ps : List ℕ). y ∷ ps) (stored_same 0 a l) (stacked_kept S S' h (below a))

-- one argument more of the top begun
pub next_frames : (W : List Word) (S : List ℕ) {K K' : List ℕ} {h k : ℕ} → Stored K h k K' → h < length K → frames W S K' (suc h) ≡ left_at W (get_or S h 0) k ∷ frames W S K h
unfolding frames
next_frames W S {K} {K'} {h} {k} b m = ap₂ (λ (y : List ℕ) (fs : List (List ℕ)). y ∷ fs) (ap (left_at W (get_or S h 0)) (stored_same 0 b m)) (frames_kept W S K S K' h (λ i l. refl) (below b))

-- the top and what is below it
pub top_frames : (W : List Word) (S K : List ℕ) (h : ℕ) → frames W S K (suc h) ≡ left_at W (get_or S h 0) (get_or K h 0) ∷ frames W S K h
unfolding frames
top_frames W S K h = refl

pub top_stacked : (S : List ℕ) (h : ℕ) → stacked S (suc h) ≡ get_or S h 0 ∷ stacked S h
unfolding stacked
top_stacked S h = refl

-- ---------------------------------------------------------------------------------------------
-- The height.

kind : Bnd → ℕ
kind free = 0
kind (fun g ys) = 1

arguments : Bnd → List ℕ
arguments free = []
arguments (fun g ys) = ys

kind_term : (W : List Word) (p : ℕ) → kind (term_at (λ n. []) W p) ≡ 1
unfolding kind term_at
kind_term W p = refl

arguments_term : (W : List Word) (p : ℕ) → arguments (term_at (λ n. []) W p) ≡ args_at W p
unfolding arguments term_at
arguments_term W p = refl

kind_free : kind free ≡ 0
unfolding kind
kind_free = refl

tab_term : (W : List Word) (P : List ℕ) (c : ℕ) → tab_of (λ n. []) W P c ≡ term_at (λ n. []) W (get_or P c 0)
unfolding tab_of
tab_term W P c = refl

-- as the code views a bound variable
pub on_bound : (W : List Word) {P T : List ℕ} {x r p : ℕ} → BoundTo P T x r p → On W P T x p
on_bound W {P} {T} {x} {r} {p} v = go (ℕ_discrete (cell_of T x % 4) 2)
  where
    tab : ℕ → Bnd
    tab = tab_of (λ n. []) W P

    b : bound tab (cell_of T x) ≡ term_at (λ n. []) W p
    b = v.binding (λ n. []) W

    go : Dec (cell_of T x % 4 ≡ 2) → On W P T x p
    go (yes e) = record { bound = e; args = sym (arguments_term W p) ∙ ap arguments (sym b ∙ bound_yes tab (cell_of T x) e ∙ tab_term W P (cell_of T x / 256)) ∙ arguments_term W (get_or P (cell_of T x / 256) 0) }
    go (no d) = absurd (let z : kind free ≡ kind (term_at (λ n. []) W p) = ap kind (sym (bound_no tab (cell_of T x) d) ∙ b) in omega (arith, kind_free, kind_term W p))

module _ (W : List Word) (P T : List ℕ) where
  pub linked_none : Linked W P T []
  unfolding Linked
  linked_none = tt

  pub linked_push : (x p : ℕ) (ps : List ℕ) → On W P T x p → Child W x ps → Linked W P T ps → Linked W P T (p ∷ ps)
  unfolding Linked
  linked_push x p ps o c l = (x, o, c, l)

  pub linked_pop : (p : ℕ) (ps : List ℕ) → Linked W P T (p ∷ ps) → Linked W P T ps
  unfolding Linked
  linked_pop p ps l = l.3

  -- the numbers of the applications
  unfoldable numbers : (ps : List ℕ) → Linked W P T ps → List ℕ
  unfolding Linked
  numbers [] l = []
  numbers (p ∷ ps) l = cell_of T l.0 / 256 ∷ numbers ps l.3

  length_numbers : (ps : List ℕ) (l : Linked W P T ps) → length (numbers ps l) ≡ length ps
  unfolding numbers
  length_numbers [] l = refl
  length_numbers (p ∷ ps) l = ap suc (length_numbers ps l.3)

  module _ (A : Acyclic W P T) where
    -- every application below an argument has an argument that is no lower
    under : (ps : List ℕ) (l : Linked W P T ps) (x : ℕ) → Child W x ps → (k : ℕ) → In k (numbers ps l) → (y : ℕ) × In y (args_at W (get_or P k 0)) × (A.rk x ≤ A.rk y)
    unfolding numbers
    under [] l x c k i = absurd i
    under (p ∷ ps) l x c k (inl e) = (x, subst (λ (z : ℕ). In x (args_at W (get_or P z 0))) (sym e) (subst (In x) l.1.args c), omega arith)
    under (p ∷ ps) l x c k (inr i) =
        let u = under ps l.3 l.0 l.2 k i in
        (u.0, u.1, omega (arith, u.2, A.down l.0 l.1.bound x (subst (In x) l.1.args c)))

    apart : (ps : List ℕ) (l : Linked W P T ps) → True (distinct (numbers ps l))
    unfolding numbers distinct
    apart [] l = tt
    apart (p ∷ ps) l = (distinct_cons (cell_of T l.0 / 256) (numbers ps l.3)).1 (new, apart ps l.3)
      where
        new : In (cell_of T l.0 / 256) (numbers ps l.3) → ⊥
        new i = let u = under ps l.3 l.0 l.2 (cell_of T l.0 / 256) i in omega (arith, u.2, A.down l.0 l.1.bound u.0 u.1)

    numbers_low : (a : ℕ) → Apps T a → (ps : List ℕ) (l : Linked W P T ps) (k : ℕ) → In k (numbers ps l) → k < a
    unfolding numbers Apps
    numbers_low a h [] l k i = absurd i
    numbers_low a h (p ∷ ps) l k (inl e) = subst (λ (z : ℕ). z < a) (sym e) (h (rep T l.0) l.1.bound)
    numbers_low a h (p ∷ ps) l k (inr i) = numbers_low a h ps l.3 k i

    -- the stack is never higher than there are applications
    pub linked_few : (a : ℕ) → Apps T a → (ps : List ℕ) → Linked W P T ps → length ps ≤ a
    linked_few a h ps l = omega (arith, few a (numbers ps l) (apart ps l) (numbers_low a h ps l), length_numbers ps l)

    -- and has room for one more, where that is the application of an argument of the top
    pub linked_room : (a : ℕ) → Apps T a → (x p : ℕ) (ps : List ℕ) → On W P T x p → Child W x ps → Linked W P T ps → length ps < a
    linked_room a h x p ps o c l = omega (arith, linked_few a h (p ∷ ps) (linked_push x p ps o c l))
