-- A table that some assignment fits has no cycle: the size of a variable's tree is its rank. Assumes nothing.
use mathlib.Core.Path.{◌≡◌, refl, ap, sym, ◌∙◌, subst}
use mathlib.Core.Logic.{ite, if_pos, if_neg}
use mathlib.Core.List.{List}
use Prim.Native.Nat.{ℕ, zero, suc, ◌+◌, ◌/◌, ◌%◌, ◌≤◌, ◌<◌}
use native.Mathlib.Omega.{arith}
use native.Mathlib.Decide.{ℕ_discrete, dec_lt}
use lib.ListN.{length, get_or, get_or-eq_default}
use Rattle.constraint.specs.Tree.{Label, Tree, Forest, node, tree_size, forest_size}
use Rattle.constraint.specs.Constraint.{Asg, Store, Satisfiable, In, trees}
use Rattle.constraint.specs.Solve.{Bnd, free, fun}
use Rattle.constraint.proofs.Form.{build}
use Rattle.constraint.proofs.Trees.{arg_le}
use Rattle.mem_words.specs.declared.Word.{Word}
use Rattle.solve_cells.specs.Cells.{rep, par}
use Rattle.solve_cells.proofs.Climb.{rep_root, next_root}
use Rattle.solve_classes.specs.Means.{bound, Fits}
use Rattle.solve_classes.proofs.Tables.{bound_yes}
use Rattle.solve_fields.specs.Read.{args_at, label_at, tab_of, term_at}
use Rattle.solve_tells.specs.Tells.{Means}
use Rattle.solve_explores.specs.Search.{Acyclic, cell_of}

-- a bound for the first n values
most : (ℕ → ℕ) → ℕ → ℕ
most f zero = 1
most f (suc n) = most f n + f n

most_one : (f : ℕ → ℕ) (n : ℕ) → 1 ≤ most f n
unfolding most
most_one f zero = omega arith
most_one f (suc n) = omega (arith, most_one f n)

most_low : (f : ℕ → ℕ) (n x : ℕ) → x < n → f x < most f n
unfolding most
most_low f zero x h = absurd (omega arith)
most_low f (suc n) x h = go (most_low f n x) (ℕ_discrete x n)
  where
    go : (x < n → f x < most f n) → Dec (x ≡ n) → f x < most f n + f n
    go ih (yes e) = let q : f x ≡ f n = ap f e in omega (arith, most_one f n, q)
    go ih (no k) = omega (arith, ih (omega arith))

node_size : (f : Label) (fs : Forest) → forest_size fs < tree_size (node f fs)
unfolding tree_size
node_size f fs = omega arith

module _ (lab : ℕ → Label) (W : List Word) (P T : List ℕ) (ρ : Asg) (fit : Fits (tab_of lab W P) T ρ) where
  rank : ℕ → ℕ
  rank x = ite (ℕ_discrete (cell_of T x % 4) 2) (tree_size (ρ x)) 0

  rank_le : (x : ℕ) → rank x ≤ tree_size (ρ x)
  unfolding rank
  rank_le x = go (ℕ_discrete (cell_of T x % 4) 2)
    where
      go : (d : Dec (cell_of T x % 4 ≡ 2)) → ite d (tree_size (ρ x)) 0 ≤ tree_size (ρ x)
      go (yes e) = omega arith
      go (no e) = omega arith

  rank_yes : (x : ℕ) → cell_of T x % 4 ≡ 2 → rank x ≡ tree_size (ρ x)
  unfolding rank
  rank_yes x e = if_pos (ℕ_discrete (cell_of T x % 4) 2) e _ _

  rank_out : (x : ℕ) → length T ≤ x → rank x ≡ 0
  unfolding rank
  rank_out x h =
      let z : get_or T x 0 ≡ 0 = get_or-eq_default T 0 h in
      let r : rep T x ≡ x = rep_root T x (next_root (get_or T x 0) x (λ e. omega arith)) in
      let c : cell_of T x ≡ 0 = ap (λ (y : ℕ). get_or T y 0) r ∙ z in
      if_neg (ℕ_discrete (cell_of T x % 4) 2) (λ e. omega arith) _ _

  value : (x : ℕ) → cell_of T x % 4 ≡ 2 → ρ x ≡ node (lab (label_at W (get_or P (cell_of T x / 256) 0))) (trees ρ (args_at W (get_or P (cell_of T x / 256) 0)))
  unfolding Fits tab_of term_at
  value x e = fit x ∙ ap (build ρ (ρ (rep T x))) (bound_yes (tab_of lab W P) (cell_of T x) e)

  pub fits_acyclic : Acyclic W P T
  fits_acyclic = record {
    rk = rank;
    top = most rank (length T);
    low = λ x. low x (dec_lt x (length T));
    down = λ x e y i. omega (arith, rank_le y, arg_le ρ y (args_at W (get_or P (cell_of T x / 256) 0)) i, node_size (lab (label_at W (get_or P (cell_of T x / 256) 0))) (trees ρ (args_at W (get_or P (cell_of T x / 256) 0))), ap tree_size (value x e), rank_yes x e);
  }
    where
      low : (x : ℕ) → Dec (x < length T) → rank x < most rank (length T)
      low x (yes h) = most_low rank (length T) x h
      low x (no h) = omega (arith, rank_out x (omega arith), most_one rank (length T))

-- so what has a solution has no cycle
pub satisfiable_acyclic : (lab : ℕ → Label) (W : List Word) (P T : List ℕ) (σ : Store) → Means lab W P T σ → Satisfiable σ → Acyclic W P T
unfolding Means
satisfiable_acyclic lab W P T σ m s = fits_acyclic lab W P T s.0 ((m s.0).0 s.1)
