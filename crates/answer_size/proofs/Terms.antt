-- The term of a variable, by its class. Assumes nothing.
use mathlib.Core.Path.{◌≡◌, refl, ap, ◌∙◌}
use mathlib.Core.List.{List}
use Prim.Native.Nat.{ℕ, ◌/◌, ◌%◌}
use lib.ListN.{length, get_or}
use Rattle.akl.specs.Answers.{unbound, built, terms, term_of}
use Rattle.mem_words.specs.declared.Word.{Word}
use Rattle.read_nodes.specs.Spell.{named}
use Rattle.solve_cells.specs.Cells.{rep}
use Rattle.solve_classes.specs.Means.{bound}
use Rattle.solve_classes.proofs.Tables.{bound_yes, bound_no}
use Rattle.solve_fields.specs.Read.{label_at, args_at, term_at, tab_of}
use Rattle.solve_explores.specs.Search.{cell_of}
use Rattle.answer_text.proofs.Depth.{whole_step}
use Rattle.answer_order.specs.Order.{BoundTo}
use Rattle.answer_turn.specs.Turning.{term_in, Shown}

module _ (N : List ℕ) (W : List Word) (P T : List ℕ) (sh : Shown N W P T) where
  step_in : (x : ℕ) → term_in N W P T x ≡ term_of (term_in N W P T) (rep T x) (bound (tab_of (named N) W P) (cell_of T x))
  unfolding term_in
  step_in x = whole_step (named N) W P T sh.acyclic (length P) sh.apps x

  at_app : (c r : ℕ) → term_of (term_in N W P T) r (tab_of (named N) W P c) ≡ built (named N (label_at W (get_or P c 0))) (terms (term_in N W P T) (args_at W (get_or P c 0)))
  unfolding term_at tab_of
  at_app c r = refl

  -- of an unbound class
  pub free_term : (x : ℕ) → (cell_of T x % 4 ≡ 2 → ⊥) → term_in N W P T x ≡ unbound (rep T x)
  free_term x n = step_in x ∙ ap (term_of (term_in N W P T) (rep T x)) (bound_no (tab_of (named N) W P) (cell_of T x) n)

  -- of one that is bound to the application k
  pub app_term : (x k : ℕ) → BoundTo T x k → term_in N W P T x ≡ built (named N (label_at W (get_or P k 0))) (terms (term_in N W P T) (args_at W (get_or P k 0)))
  app_term x k b = step_in x ∙ ap (term_of (term_in N W P T) (rep T x)) (bound_yes (tab_of (named N) W P) (cell_of T x) b.bound) ∙ at_app (cell_of T x / 256) (rep T x) ∙ ap (λ (c : ℕ). built (named N (label_at W (get_or P c 0))) (terms (term_in N W P T) (args_at W (get_or P c 0)))) b.app
