-- Meeting two applications argument by argument. Assumes nothing.
use mathlib.Core.Path.{◌≡◌, refl, ap, ap₂, sym, ◌∙◌, subst}
use mathlib.Core.Logic.{◌↔◌, ◌⊎◌, inl, inr}
use mathlib.Core.Bool.{Bool, true, false}
use mathlib.Core.List.{List, [], ◌∷◌}
use Prim.Native.Nat.{ℕ, zero, suc, ◌+◌, ◌≤◌, ◌<◌}
use native.Mathlib.Numerals.{add-one}
use native.Mathlib.Omega.{arith}
use native.Mathlib.Decide.{dec_lt}
use lib.ListN.{length, get_or, drop}
use Rattle.constraint.specs.Tree.{Label, Tree, Forest, node, fnil, fcons}
use Rattle.constraint.specs.Constraint.{Asg, trees}
use Rattle.constraint.specs.Solve.{Bnd}
use Rattle.mem_words.specs.declared.Word.{Word}
use Rattle.mem_words.specs.declared.Word.TheVariants.{End, Free, Level, Num, Place, Inner, Bad}
use Rattle.solve_cells.specs.Cells.{Up}
use Rattle.solve_classes.specs.Means.{Fits, Pend, Apps, OldApps, OldVars, Joined, CanJoin}
use Rattle.solve_fields.specs.Read.{var_of, num_of, is_var, args_of, label_at, args_at, tree_at, Distinct, Vars}
use Rattle.solve_tells.proofs.Reach.{var_in}
use Rattle.solve_tells.specs.Steps.{Step, Sound, CanMeet, Met}
use Rattle.solve_tells.proofs.Trails.{pend_split, apps_split, pend_none, apps_none, step_none, step_then, step_joined}

false_true : false ≡ true → ⊥
false_true e = let z : ◌≡◌ {A = ℕ} 0 1 = cc in omega arith

-- past the end there is no variable
pub var_inside : (W : List Word) (i : ℕ) → is_var (get_or W i Bad) ≡ true → i < length W
var_inside [] i e = absurd (false_true e)
var_inside (w ∷ W) zero e = omega arith
var_inside (w ∷ W) (suc i) e = omega (arith, var_inside W i e)

args_suc : (W : List Word) (i : ℕ) → is_var (get_or W i Bad) ≡ true → args_of (drop i W) ≡ var_of (get_or W i Bad) ∷ args_of (drop (suc i) W)
unfolding args_of
args_suc [] i e = absurd (false_true e)
args_suc (End ∷ W) zero e = absurd (false_true e)
args_suc (Free v ∷ W) zero e = refl
args_suc (Level v ∷ W) zero e = absurd (false_true e)
args_suc (Num v ∷ W) zero e = absurd (false_true e)
args_suc (Place v ∷ W) zero e = absurd (false_true e)
args_suc (Inner v ∷ W) zero e = absurd (false_true e)
args_suc (Bad ∷ W) zero e = absurd (false_true e)
args_suc (w ∷ W) (suc i) e = args_suc W i e

pub args_more : (W : List Word) (i : ℕ) → is_var (get_or W i Bad) ≡ true → args_of (drop i W) ≡ var_of (get_or W i Bad) ∷ args_of (drop (i + 1) W)
args_more W i e = args_suc W i e ∙ ap (λ (k : ℕ). var_of (get_or W i Bad) ∷ args_of (drop k W)) (sym (add-one i))

pub args_done : (W : List Word) (i : ℕ) → is_var (get_or W i Bad) ≡ false → args_of (drop i W) ≡ []
unfolding args_of
args_done [] zero e = refl
args_done [] (suc i) e = refl
args_done (End ∷ W) zero e = refl
args_done (Free v ∷ W) zero e = absurd (false_true (sym e))
args_done (Level v ∷ W) zero e = refl
args_done (Num v ∷ W) zero e = refl
args_done (Place v ∷ W) zero e = refl
args_done (Inner v ∷ W) zero e = refl
args_done (Bad ∷ W) zero e = refl
args_done (w ∷ W) (suc i) e = args_done W i e

-- trees of two argument lists
pub args_both : (ρ : Asg) (x y : ℕ) (xs ys : List ℕ) → (trees ρ (x ∷ xs) ≡ trees ρ (y ∷ ys)) ↔ ((ρ x ≡ ρ y) × (trees ρ xs ≡ trees ρ ys))
args_both ρ x y xs ys = (λ e. (cc e, cc e), λ q. ap₂ fcons q.0 q.1)

args_left : (ρ : Asg) (x : ℕ) (xs : List ℕ) → trees ρ (x ∷ xs) ≡ trees ρ [] → ⊥
args_left ρ x xs e = let z : ◌≡◌ {A = ℕ} 0 1 = cc e in omega arith

-- what a loop over the arguments has done by the i-th
pub record Meets (W : List Word) (T₀ X₀ C₀ : List ℕ) (n₀ p q : ℕ) (T X C : List ℕ) (n i : ℕ) : Type 0 where
  pub step : Step W T₀ X₀ C₀ n₀ T X C n
  pub apps : (m : ℕ) → Apps T₀ m → Apps T m × OldApps C n₀ n m
  pub label : label_at W p ≡ label_at W q
  pub low : i ≤ length W
  pub means : (tab : ℕ → Bnd) (ρ : Asg) → (Fits tab T₀ ρ × (trees ρ (args_at W p) ≡ trees ρ (args_at W q))) ↔ ((Fits tab T ρ × Pend tab X C n₀ n ρ) × (trees ρ (args_of (drop (p + 3 + i) W)) ≡ trees ρ (args_of (drop (q + 3 + i) W))))

pub meets_first : (W : List Word) (T X C : List ℕ) (n p q : ℕ) → CanMeet W T X C n p q → label_at W p ≡ label_at W q → Meets W T X C n p q T X C n 0
unfolding args_at
meets_first W T X C n p q h e = record {
  step = step_none W T X C n h.sound;
  apps = λ m A. (A, apps_none C n m);
  label = e;
  low = omega arith;
  means = λ tab ρ. (λ w. ((w.0, pend_none tab X C n ρ), sym (at ρ p) ∙ w.1 ∙ at ρ q), λ w. (w.0.0, at ρ p ∙ w.1 ∙ sym (at ρ q)));
}
  where
    at : (ρ : Asg) (r : ℕ) → trees ρ (args_of (drop (r + 3) W)) ≡ trees ρ (args_of (drop (r + 3 + 0) W))
    at ρ r = let z : r + 3 ≡ r + 3 + 0 = omega arith in ap (λ (k : ℕ). trees ρ (args_of (drop k W))) z

pub meets_next : (W : List Word) (T₀ X₀ C₀ : List ℕ) (n₀ p q : ℕ) (T X C : List ℕ) (n i : ℕ) (T' X' C' : List ℕ) (n' x y : ℕ)
    → Meets W T₀ X₀ C₀ n₀ p q T X C n i → is_var (get_or W (p + 3 + i) Bad) ≡ true → is_var (get_or W (q + 3 + i) Bad) ≡ true → x ≡ var_of (get_or W (p + 3 + i) Bad) → y ≡ var_of (get_or W (q + 3 + i) Bad)
    → n + 2 ≤ length X → n + 2 ≤ length C → Joined T X C n x y T' X' C' n' → Meets W T₀ X₀ C₀ n₀ p q T' X' C' n' (i + 1)
meets_next W T₀ X₀ C₀ n₀ p q T X C n i T' X' C' n' x y M vp vq ex ey rx rc J = record {
  step = step_then M.step (step_joined W J (var_in W (p + 3 + i) x ex) (var_in W (q + 3 + i) y ey) M.step.within rx rc);
  apps = λ m A. let a = M.apps m A in let b = J.apps m a.0 in (b.0, apps_split X C X' C' n₀ n n' J.grown.old_x J.grown.old_c m a.1 b.1);
  label = M.label;
  low = omega (arith, var_inside W (p + 3 + i) vp);
  means = λ tab ρ. (λ w. let u = (M.means tab ρ).0 w in let v = (both ρ).0 u.1 in let j = (J.means tab ρ).0 (u.0.0, v.0) in ((j.0, (split tab ρ).0 (u.0.1, j.1)), v.1), λ w. let s = (split tab ρ).1 w.0.1 in let j = (J.means tab ρ).1 (w.0.0, s.1) in (M.means tab ρ).1 ((j.0, s.0), (both ρ).1 (j.1, w.1)));
}
  where
    split : (tab : ℕ → Bnd) (ρ : Asg) → (Pend tab X C n₀ n ρ × Pend tab X' C' n n' ρ) ↔ Pend tab X' C' n₀ n' ρ
    split tab ρ = pend_split X C X' C' n₀ n n' J.grown.old_x J.grown.old_c tab ρ M.step.grown.le J.grown.le

    more : (r z : ℕ) → is_var (get_or W (r + 3 + i) Bad) ≡ true → z ≡ var_of (get_or W (r + 3 + i) Bad) → args_of (drop (r + 3 + i) W) ≡ z ∷ args_of (drop (r + 3 + (i + 1)) W)
    more r z v e =
        let k : r + 3 + i + 1 ≡ r + 3 + (i + 1) = omega arith in
        args_more W (r + 3 + i) v ∙ ap₂ (λ (a : ℕ) (j : ℕ). a ∷ args_of (drop j W)) (sym e) k

    both : (ρ : Asg) → (trees ρ (args_of (drop (p + 3 + i) W)) ≡ trees ρ (args_of (drop (q + 3 + i) W))) ↔ ((ρ x ≡ ρ y) × (trees ρ (args_of (drop (p + 3 + (i + 1)) W)) ≡ trees ρ (args_of (drop (q + 3 + (i + 1)) W))))
    both ρ =
        let a = ap (trees ρ) (more p x vp ex) in
        let b = ap (trees ρ) (more q y vq ey) in
        let d = args_both ρ x y (args_of (drop (p + 3 + (i + 1)) W)) (args_of (drop (q + 3 + (i + 1)) W)) in
        (λ e. d.0 (sym a ∙ e ∙ b), λ w. a ∙ d.1 w ∙ sym b)

-- the trees of two applications are the same when labels and arguments are
tree_parts : (lab : ℕ → Label) (W : List Word) (ρ : Asg) (p q : ℕ) → tree_at lab W ρ p ≡ tree_at lab W ρ q → (lab (label_at W p) ≡ lab (label_at W q)) × (trees ρ (args_at W p) ≡ trees ρ (args_at W q))
unfolding tree_at
tree_parts lab W ρ p q e = (cc e, cc e)

tree_whole : (lab : ℕ → Label) (W : List Word) (ρ : Asg) (p q : ℕ) → label_at W p ≡ label_at W q → trees ρ (args_at W p) ≡ trees ρ (args_at W q) → tree_at lab W ρ p ≡ tree_at lab W ρ q
unfolding tree_at
tree_whole lab W ρ p q e f = ap₂ node (ap lab e) f

pub meets_done : (W : List Word) (T₀ X₀ C₀ : List ℕ) (n₀ p q : ℕ) (T X C : List ℕ) (n i : ℕ) → Meets W T₀ X₀ C₀ n₀ p q T X C n i → is_var (get_or W (p + 3 + i) Bad) ≡ false → is_var (get_or W (q + 3 + i) Bad) ≡ false → Met W T₀ X₀ C₀ n₀ p q T X C n
meets_done W T₀ X₀ C₀ n₀ p q T X C n i M vp vq = record {
  step = M.step;
  apps = M.apps;
  means = λ lab tab ρ. (λ w. ((M.means tab ρ).0 (w.0, (tree_parts lab W ρ p q w.1).1)).0, λ w. let u = (M.means tab ρ).1 (w, ap (trees ρ) (args_done W (p + 3 + i) vp ∙ sym (args_done W (q + 3 + i) vq))) in (u.0, tree_whole lab W ρ p q M.label u.1));
}

abbrev NoTree : List Word → List ℕ → ℕ → ℕ → Type 0
NoTree W T p q = (lab : ℕ → Label) → Distinct lab → (tab : ℕ → Bnd) (ρ : Asg) → Fits tab T ρ → tree_at lab W ρ p ≡ tree_at lab W ρ q → ⊥

pub clash_label : (W : List Word) (T : List ℕ) (p q f g : ℕ) → f ≡ label_at W p → g ≡ label_at W q → (f ≡ g → ⊥) → NoTree W T p q
clash_label W T p q f g ef eg n lab d tab ρ F e = n (ef ∙ d _ _ (tree_parts lab W ρ p q e).0 ∙ sym eg)

pub clash_left : (W : List Word) (T₀ X₀ C₀ : List ℕ) (n₀ p q : ℕ) (T X C : List ℕ) (n i : ℕ) → Meets W T₀ X₀ C₀ n₀ p q T X C n i → is_var (get_or W (p + 3 + i) Bad) ≡ true → is_var (get_or W (q + 3 + i) Bad) ≡ false → NoTree W T₀ p q
clash_left W T₀ X₀ C₀ n₀ p q T X C n i M vp vq lab d tab ρ F e =
    let u = ((M.means tab ρ).0 (F, (tree_parts lab W ρ p q e).1)).1 in
    args_left ρ (var_of (get_or W (p + 3 + i) Bad)) (args_of (drop (p + 3 + i + 1) W)) (sym (ap (trees ρ) (args_more W (p + 3 + i) vp)) ∙ u ∙ ap (trees ρ) (args_done W (q + 3 + i) vq))

pub clash_right : (W : List Word) (T₀ X₀ C₀ : List ℕ) (n₀ p q : ℕ) (T X C : List ℕ) (n i : ℕ) → Meets W T₀ X₀ C₀ n₀ p q T X C n i → is_var (get_or W (p + 3 + i) Bad) ≡ false → is_var (get_or W (q + 3 + i) Bad) ≡ true → NoTree W T₀ p q
clash_right W T₀ X₀ C₀ n₀ p q T X C n i M vp vq lab d tab ρ F e =
    let u = ((M.means tab ρ).0 (F, (tree_parts lab W ρ p q e).1)).1 in
    args_left ρ (var_of (get_or W (q + 3 + i) Bad)) (args_of (drop (q + 3 + i + 1) W)) (sym (ap (trees ρ) (args_more W (q + 3 + i) vq)) ∙ sym u ∙ ap (trees ρ) (args_done W (p + 3 + i) vp))

-- what a variable of the words needs to be joined
pub can_join : (W : List Word) (T₀ X₀ C₀ : List ℕ) (n₀ p q : ℕ) (T X C : List ℕ) (n i x y a b : ℕ) → CanMeet W T₀ X₀ C₀ n₀ p q → Meets W T₀ X₀ C₀ n₀ p q T X C n i → x ≡ var_of (get_or W a Bad) → y ≡ var_of (get_or W b Bad) → n + 2 ≤ length X → n + 2 ≤ length C → CanJoin T X C n x y
can_join W T₀ X₀ C₀ n₀ p q T X C n i x y a b h M ex ey rx rc = record { up = M.step.up; inx = omega (arith, h.sound.vars.low a, M.step.grown.size_t); iny = omega (arith, h.sound.vars.low b, M.step.grown.size_t); room_x = rx; room_c = rc }

pub label_is : (W : List Word) (p f : ℕ) (w : Word) → f ≡ num_of w → w ≡ get_or W (p + 2) Bad → f ≡ label_at W p
unfolding label_at
label_is W p f w e g = e ∙ ap num_of g
