-- The and-boxes in the top or-box and in or-boxes nested in it, by their positions in a configuration's words W. Assumes nothing.
use Rattle.std.specs.Prelude.{◌≡◌, true, false, List, [], ◌∷◌, ◌++◌, ℕ, zero, suc, ◌+◌, length}
use Rattle.constraint.specs.Constraint.{Store}
use Rattle.akl.specs.Configuration.{goal, member, and, Nodes, Ctx}
use Rattle.akl.specs.Places.{at}
use Rattle.akl.specs.Answers.{Answer, solved_box}
use Rattle.runs.specs.AnswerPlaces.{OrsAround}
use Rattle.mem_words.specs.declared.Word.{Word}
use Rattle.mem_sorts.specs.declared.Kind.TheVariants.{And}
use Rattle.store_form.specs.State.{State}
use Rattle.rule_effects.specs.Effects.{behind}
use Rattle.rule_effects.specs.Conditions.{kind_at}
use Rattle.step_meant.specs.Meant.{StandsAt}

-- From j on, at most n words being looked at: what is in an and-box is passed over; an or-box is gone into and out of.
unfoldable pub boxes_from : ℕ → List Word → ℕ → List ℕ
boxes_from zero W j = []
boxes_from (suc n) W j = elim (kind_at W j And) [ true ↦ j ∷ boxes_from n W (behind W j) | false ↦ boxes_from n W (j + 1) ]

unfoldable pub boxes : List Word → List ℕ
boxes W = boxes_from (length W) W 1

-- an and-box at j, with nothing but or-boxes around it
pub record BoxHere (s : State) (W : List Word) (j : ℕ) : Type 0 where
  pub context : Ctx goal
  pub own : List ℕ
  pub store : Store
  pub members : Nodes member
  pub ors : OrsAround context
  pub stands : StandsAt s W (at context (and own store members)) j

-- an and-box stands at each position, and A are the answers among them, in their order
abbrev pub Gathered : State → List Word → List ℕ → List Answer → Type 0
Gathered s W [] A = A ≡ []
Gathered s W (j ∷ js) A = (b : BoxHere s W j) × (rest : List Answer) × (A ≡ solved_box b.own b.store b.members ++ rest) × Gathered s W js rest
