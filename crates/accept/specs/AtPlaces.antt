-- What stands at a place that is an and-box, said of the place alone.
use Rattle.std.specs.Prelude.{List, [], ◌∷◌, ◌++◌, ℕ}
use Rattle.constraint.specs.Constraint.{Store}
use Rattle.akl.specs.Configuration.{or, and, stmt, choice_box, guard, env}
use Rattle.akl.specs.Places.{Place, at}

-- For an and-box: what is stored around it and in it; its locals. Other places have none.
abbrev pub stores_at : Place → List Store
stores_at (at χ (or ns)) = []
stores_at (at χ (and vs σ ms)) = (env χ ++ σ) ∷ []
stores_at (at χ (stmt s)) = []
stores_at (at χ (choice_box op gs)) = []
stores_at (at χ (guard g b)) = []

abbrev pub locals_at : Place → List ℕ
locals_at (at χ (or ns)) = []
locals_at (at χ (and vs σ ms)) = vs
locals_at (at χ (stmt s)) = []
locals_at (at χ (choice_box op gs)) = []
locals_at (at χ (guard g b)) = []
