-- Answers, said by contexts. Document 01: "An answer is a solved and-box, satisfiable, in the top or-box or in or-boxes nested
-- in it, left to right." The definition in akl walks the boxes; here the places, which come left to right, are asked one by one.
use Rattle.std.specs.Prelude.{◌≡◌, ◌⊎◌, List, [], ◌∷◌, ℕ}
use Rattle.constraint.specs.Constraint.{Store, Satisfiable}
use Rattle.akl.specs.Configuration.{Kind, goal, member, Node, or, and, stmt, choice_box, guard, Nodes, nil, cons, Ctx, top, in_or, in_and, in_choice, in_guard, plug}
use Rattle.akl.specs.Places.{Place, at}
use Rattle.akl.specs.Answers.{Answer}

-- "in the top or-box or in or-boxes nested in it": nothing but or-boxes is around
abbrev pub OrsAround : {k : Kind} → Ctx k → Type 0
OrsAround top = Unit {0}
OrsAround (in_or χ l r) = OrsAround χ
OrsAround (in_and χ vs σ l r) = ⊥
OrsAround (in_choice χ op l r) = ⊥
OrsAround (in_guard χ b) = ⊥

-- "a solved and-box"
abbrev pub Solved : Nodes member → Type 0
Solved nil = Unit {0}
Solved (cons m ms) = ⊥

-- What stands at the place is the answer a.
abbrev pub IsAnswer : Place → Answer → Type 0
IsAnswer (at χ (or ns)) a = ⊥
IsAnswer (at χ (and vs σ ms)) a = OrsAround χ × Solved ms × Satisfiable σ × (a ≡ (vs, σ))
IsAnswer (at χ (stmt s)) a = ⊥
IsAnswer (at χ (choice_box op gs)) a = ⊥
IsAnswer (at χ (guard g b)) a = ⊥

-- The list has the answers that stand at the places, in their order, and no others.
abbrev pub Gathers : List Place → List Answer → Type 0
Gathers [] l = l ≡ []
Gathers (p ∷ ps) l = ((a : Answer) × (r : List Answer) × IsAnswer p a × (l ≡ a ∷ r) × Gathers ps r) ⊎ (((a : Answer) → ¬ IsAnswer p a) × Gathers ps l)

-- One answer of the configuration g: a solved and-box, satisfiable, in a context of or-boxes alone.
pub record StandsAs (g : Node goal) (a : Answer) : Type 0 where
  pub context : Ctx goal
  pub ors : OrsAround context
  pub whole_of : plug context (and a.0 a.1 nil) ≡ g
  pub satisfiable : Satisfiable a.1

-- "every member is an answer": the members of the top or-box
abbrev pub AnswerBox : Node goal → Type 0
AnswerBox (or ns) = ⊥
AnswerBox (and vs σ ms) = Solved ms × Satisfiable σ

abbrev pub EachAnswer : Nodes goal → Type 0
EachAnswer nil = Unit {0}
EachAnswer (cons n ns) = AnswerBox n × EachAnswer ns
