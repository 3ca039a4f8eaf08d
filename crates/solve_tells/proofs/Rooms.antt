-- The trail is never longer than 3 for each different variable of the words, so telling does not stop for it where there is room for
-- these and 2. Assumes nothing.
use mathlib.Core.Path.{◌≡◌, refl, ap, sym, ◌∙◌, subst}
use mathlib.Core.Logic.{◌⊎◌, inl, inr, ⊎_elim}
use mathlib.Core.List.{List, [], ◌∷◌, ◌++◌}
use Prim.Native.Nat.{ℕ, suc, ◌+◌, ◌-◌, ◌*◌, ◌≤◌, ◌<◌}
use native.Mathlib.Omega.{arith}
use native.Mathlib.Decide.{dec_lt}
use lib.ListN.{length, get_or, get_or-append, get_or-eq_default}
use lib.Seq.{get_or-append-add}
use Rattle.constraint.specs.Constraint.{In}
use Rattle.mem_words.specs.declared.Word.{Word}
use Rattle.mem_words.specs.declared.Word.TheVariants.{End, Free, Level, Num, Place, Inner, Bad}
use Rattle.solve_classes.specs.Means.{Within, OldIn}
use Rattle.solve_classes.specs.Weights.{weights, weights_in}
use Rattle.solve_fields.specs.Read.{var_of}
use Rattle.solve_tells.specs.Reach.{vars_of}
use Rattle.solve_tells.proofs.Reach.{var_in}
use Rattle.solve_tells.specs.Draws.{Drawn}
use Rattle.solve_tells.specs.Tells.{Left, Lacks, Stopped}

-- the variables of the words are in the list
in_drawn : (W : List Word) (vs : List ℕ) → ((i : ℕ) → In (var_of (get_or W i Bad)) vs) → (x : ℕ) → In x (vars_of W) → In x vs
unfolding vars_of
in_drawn [] vs d x h = ⊎_elim (λ e. subst (λ (z : ℕ). In z vs) (sym e) (d 0)) (λ z. absurd z) h
in_drawn (End ∷ r) vs d x h = in_drawn r vs (λ i. d (suc i)) x h
in_drawn (Free v ∷ r) vs d x h = ⊎_elim (λ e. subst (λ (z : ℕ). In z vs) (sym e) (d 0)) (λ k. in_drawn r vs (λ i. d (suc i)) x k) h
in_drawn (Level v ∷ r) vs d x h = in_drawn r vs (λ i. d (suc i)) x h
in_drawn (Num v ∷ r) vs d x h = in_drawn r vs (λ i. d (suc i)) x h
in_drawn (Place k ∷ r) vs d x h = in_drawn r vs (λ i. d (suc i)) x h
in_drawn (Inner s ∷ r) vs d x h = in_drawn r vs (λ i. d (suc i)) x h
in_drawn (Bad ∷ r) vs d x h = in_drawn r vs (λ i. d (suc i)) x h

pub within_drawn : (W : List Word) (vs T : List ℕ) → Drawn W vs → Within (vars_of W) T → Within vs T
within_drawn W vs T d w = record { cells = λ x. ⊎_elim (λ e. inl e) (λ i. inr (in_drawn W vs d.at x i)) (w.cells x); links = λ x e. in_drawn W vs d.at _ (w.links x e) }

pub old_drawn : (W : List Word) (vs X : List ℕ) (i n : ℕ) → Drawn W vs → OldIn X i n (vars_of W) → OldIn X i n vs
unfolding OldIn
old_drawn W vs X i n d h t a b = in_drawn W vs d.at _ (h t a b)

-- whatever was told: so many entries the trail has at most
pub trail_most : (W : List Word) (P T X C P' T' X' C' : List ℕ) (n a n' a' : ℕ) (vs : List ℕ) → n ≤ weights T → Left W P T X C n a P' T' X' C' n' a' → Drawn W vs → n' ≤ 3 * length vs
trail_most W P T X C P' T' X' C' n a n' a' vs c l d = omega (arith, l.step.cost, weights_in vs T' (within_drawn W vs T' d l.step.within).cells)

-- the words' own variables are such a list
pub drawn_own : (W : List Word) → Drawn W (vars_of W)
drawn_own W = record { at = λ i. var_in W i _ refl }

-- telling does not stop where the trail has room for the different variables and 2, and there is a place for each application
pub stopped_never : {W : List Word} {P T X C P' T' X' C' : List ℕ} {n a q n' a' : ℕ} (vs : List ℕ) → n ≤ weights T → Stopped W P T X C n a q P' T' X' C' n' a' → Drawn W vs → 3 * length vs + 2 ≤ length X → 3 * length vs + 2 ≤ length C → a + q ≤ length P → ⊥
stopped_never {W} {P} {T} {X} {C} {P'} {T'} {X'} {C'} {n} {a} {q} {n'} {a'} vs c s d x y p = go s.full
  where
    most : n' ≤ 3 * length vs
    most = trail_most W P T X C P' T' X' C' n a n' a' vs c s.left d

    go : Lacks P X C n' a q → ⊥
    go (inl (inl h)) = omega (arith, most)
    go (inl (inr h)) = omega (arith, most)
    go (inr h) = omega arith

-- words put together, and a part of them
pub past_drawn : (A : List Word) (vs : List ℕ) (i : ℕ) → In 0 vs → length A ≤ i → In (var_of (get_or A i Bad)) vs
past_drawn A vs i z h = subst (λ (w : Word). In (var_of w) vs) (sym (get_or-eq_default A Bad h)) z

pub zero_drawn : (W : List Word) (vs : List ℕ) → Drawn W vs → In 0 vs
zero_drawn W vs d = let q : length W ≤ length W = omega arith in subst (λ (w : Word). In (var_of w) vs) (get_or-eq_default W Bad q) (d.at (length W))

pub drawn_none : (W : List Word) (vs : List ℕ) → In 0 vs → length W ≡ 0 → Drawn W vs
drawn_none W vs z e = record { at = λ i. past_drawn W vs i z (omega arith) }

pub drawn_append : (A B : List Word) (vs : List ℕ) → Drawn A vs → Drawn B vs → Drawn (A ++ B) vs
drawn_append A B vs p q = record { at = λ i. go i (dec_lt i (length A)) }
  where
    go : (i : ℕ) → Dec (i < length A) → In (var_of (get_or (A ++ B) i Bad)) vs
    go i (yes h) = subst (λ (w : Word). In (var_of w) vs) (sym (get_or-append A B Bad i h)) (p.at i)
    go i (no h) =
        let e : i ≡ length A + (i - length A) = omega arith in
        subst (λ (w : Word). In (var_of w) vs) (sym (ap (λ (j : ℕ). get_or (A ++ B) j Bad) e ∙ get_or-append-add A B (i - length A) Bad)) (q.at (i - length A))

pub drawn_lower : (A B : List Word) (vs : List ℕ) → Drawn (A ++ B) vs → Drawn A vs
drawn_lower A B vs d = record { at = λ i. go i (dec_lt i (length A)) }
  where
    go : (i : ℕ) → Dec (i < length A) → In (var_of (get_or A i Bad)) vs
    go i (yes h) = subst (λ (w : Word). In (var_of w) vs) (get_or-append A B Bad i h) (d.at i)
    go i (no h) = past_drawn A vs i (zero_drawn (A ++ B) vs d) (omega arith)
