-- What was told from the log's first words stays told when words are appended. Assumes nothing.
use mathlib.Core.Path.{◌≡◌, refl, ap, ap₂, sym, ◌∙◌, subst}
use mathlib.Core.Logic.{◌↔◌, ◌⊎◌, inl, inr, ite, ⊎_elim}
use mathlib.Core.List.{List, [], ◌∷◌, ◌++◌}
use Prim.Native.Nat.{ℕ, ◌+◌, ◌/◌, ◌%◌, ◌≤◌, ◌<◌}
use native.Mathlib.Decide.{ℕ_discrete}
use lib.ListN.{length, get_or}
use Rattle.constraint.specs.Tree.{Label}
use Rattle.constraint.specs.Constraint.{Asg, Store, Sats, In}
use Rattle.constraint.specs.Solve.{Bnd, free, fun}
use Rattle.constraint.proofs.Form.{build}
use Rattle.mem_words.specs.declared.Word.{Word}
use Rattle.mem_words.specs.declared.Word.TheVariants.{End, Free, Level, Num, Place, Inner, Bad}
use Rattle.solve_cells.specs.Cells.{rep}
use Rattle.solve_classes.specs.Means.{Fits, Apps, bound, Within, OldIn}
use Rattle.solve_fields.specs.Read.{tab_of, term_at, Vars, args_at}
use Rattle.solve_tells.specs.Reach.{vars_of}
use Rattle.solve_tells.specs.Steps.{Sound, Step}
use Rattle.solve_tells.specs.Tells.{State, Means, Left}
use Rattle.solve_explores.specs.Search.{Acyclic, cell_of}
use Rattle.work_grows.specs.Closed.{Closed}

zero_in : (W : List Word) → In 0 (vars_of W)
unfolding vars_of
zero_in [] = inl refl
zero_in (End ∷ r) = zero_in r
zero_in (Free v ∷ r) = inr (zero_in r)
zero_in (Level v ∷ r) = zero_in r
zero_in (Num v ∷ r) = zero_in r
zero_in (Place k ∷ r) = zero_in r
zero_in (Inner s ∷ r) = zero_in r
zero_in (Bad ∷ r) = zero_in r

-- a variable of the words is one of more words
pub in_more : (W R : List Word) (x : ℕ) → In x (vars_of W) → In x (vars_of (W ++ R))
unfolding vars_of
in_more [] R x h = ⊎_elim (λ e. subst (λ (z : ℕ). In z (vars_of R)) (sym e) (zero_in R)) (λ z. absurd z) h
in_more (End ∷ r) R x h = in_more r R x h
in_more (Free v ∷ r) R x h = ⊎_elim (λ e. inl e) (λ z. inr (in_more r R x z)) h
in_more (Level v ∷ r) R x h = in_more r R x h
in_more (Num v ∷ r) R x h = in_more r R x h
in_more (Place k ∷ r) R x h = in_more r R x h
in_more (Inner s ∷ r) R x h = in_more r R x h
in_more (Bad ∷ r) R x h = in_more r R x h

within_more : (W R : List Word) (T : List ℕ) → Within (vars_of W) T → Within (vars_of (W ++ R)) T
within_more W R T w = record { cells = λ x. ⊎_elim (λ e. inl e) (λ i. inr (in_more W R x i)) (w.cells x); links = λ x e. in_more W R _ (w.links x e) }

old_more : (W R : List Word) (X : List ℕ) (i n : ℕ) → OldIn X i n (vars_of W) → OldIn X i n (vars_of (W ++ R))
unfolding OldIn
old_more W R X i n h t a b = in_more W R _ (h t a b)

-- the tables are as sound for more words
pub state_more : (W R : List Word) (P T X C : List ℕ) (n a : ℕ) → Vars (W ++ R) (length T) → length (W ++ R) < 4294967296 → State W P T X C n a → State (W ++ R) P T X C n a
state_more W R P T X C n a v l s = record {
  sound = record { up = s.sound.up; vars = v; long = l; fit_x = s.sound.fit_x; fit_c = s.sound.fit_c; plain = s.sound.plain; within = within_more W R T s.sound.within };
  apps = s.apps;
  fit_p = s.fit_p;
  size = s.size;
  vars = s.vars;
  used = old_more W R X 0 n s.used;
  cost = s.cost;
}

-- and what was left by telling is left for more words
pub left_more : (W R : List Word) (P T X C : List ℕ) (n a : ℕ) (P' T' X' C' : List ℕ) (n' a' : ℕ) → Left W P T X C n a P' T' X' C' n' a' → Left (W ++ R) P T X C n a P' T' X' C' n' a'
left_more W R P T X C n a P' T' X' C' n' a' l = record {
  step = record { grown = l.step.grown; up = l.step.up; vars = l.step.vars; plain = l.step.plain; fit_x = l.step.fit_x; fit_c = l.step.fit_c; cost = l.step.cost; within = within_more W R T' l.step.within; used = old_more W R X' n n' l.step.used };
  more = l.more;
  size_p = l.size_p;
  old_p = l.old_p;
}

tab_more : (lab : ℕ → Label) (W R : List Word) (P : List ℕ) (a : ℕ) → Closed W P a → (j : ℕ) → j < a → tab_of lab (W ++ R) P j ≡ tab_of lab W P j
unfolding tab_of term_at
tab_more lab W R P a c j h = ap₂ (λ (l : ℕ) (ys : List ℕ). fun (lab l) ys) (c.label R j h) (c.args R j h)

bound_more : (lab : ℕ → Label) (W R : List Word) (P T : List ℕ) (a : ℕ) → Closed W P a → Apps T a → (x : ℕ) → bound (tab_of lab (W ++ R) P) (get_or T x 0) ≡ bound (tab_of lab W P) (get_or T x 0)
unfolding bound Apps
bound_more lab W R P T a c hs x = go (ℕ_discrete (get_or T x 0 % 4) 2)
  where
    go : (d : Dec (get_or T x 0 % 4 ≡ 2)) → ite d (tab_of lab (W ++ R) P (get_or T x 0 / 256)) free ≡ ite d (tab_of lab W P (get_or T x 0 / 256)) free
    go (yes e) = tab_more lab W R P a c (get_or T x 0 / 256) (hs x e)
    go (no e) = refl

-- what was told means the same for more words
pub means_more : (lab : ℕ → Label) (W R : List Word) (P T : List ℕ) (a : ℕ) (σ : Store) → Closed W P a → Apps T a → Means lab W P T σ → Means lab (W ++ R) P T σ
unfolding Means Fits
means_more lab W R P T a σ c h m ρ = (
  λ s x. (m ρ).0 s x ∙ ap (build ρ (ρ (rep T x))) (sym (bound_more lab W R P T a c h (rep T x))),
  λ f. (m ρ).1 (λ x. f x ∙ ap (build ρ (ρ (rep T x))) (bound_more lab W R P T a c h (rep T x))),
)

-- and has no cycle for more words either
pub acyclic_more : (W R : List Word) (P T : List ℕ) (a : ℕ) → Closed W P a → Apps T a → Acyclic W P T → Acyclic (W ++ R) P T
unfolding Apps
acyclic_more W R P T a c h k = record {
  rk = k.rk;
  top = k.top;
  low = k.low;
  down = λ x e y i. k.down x e y (subst (In y) (c.args R (cell_of T x / 256) (h (rep T x) e)) i);
}
