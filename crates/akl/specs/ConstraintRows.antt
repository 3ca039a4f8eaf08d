-- Rows of the table: constraints. Variables x, y, z; labels a, b, f.
use Rattle.std.specs.Prelude.{List, [], ◌∷◌, true, false}
use Rattle.constraint.specs.Constraint.{cfail, ceq, capp}
use Rattle.akl.specs.Base.{bytes}
use Rattle.akl.specs.RowKinds.{Row, satisfiable, quiet, x, y, z, ◌is◌}

unfoldable pub constraint_rows : List Row
constraint_rows =
    -- P: X = f(X), no solution
    satisfiable (capp x (bytes "f") (x ∷ []) ∷ []) false
    -- P: f(A) against f(A,B), none
    ∷ satisfiable (capp x (bytes "f") (y ∷ []) ∷ capp x (bytes "f") (y ∷ z ∷ []) ∷ []) false
    ∷ satisfiable (capp x (bytes "f") (y ∷ []) ∷ capp x (bytes "f") (z ∷ []) ∷ (y is "a") ∷ []) true
    ∷ satisfiable (capp x (bytes "f") (y ∷ []) ∷ capp x (bytes "f") (z ∷ []) ∷ (y is "a") ∷ (z is "b") ∷ []) false
    -- a value that would contain itself through another
    ∷ satisfiable (capp x (bytes "f") (y ∷ []) ∷ capp y (bytes "f") (z ∷ []) ∷ ceq z x ∷ []) false
    -- P: environment true, X = a not quiet
    ∷ quiet [] [] ((x is "a") ∷ []) false
    -- P: environment X = a, the same quiet
    ∷ quiet [] ((x is "a") ∷ []) ((x is "a") ∷ []) true
    -- P: environment true, Z local, Z = X quiet (and so X = Z)
    ∷ quiet (z ∷ []) [] (ceq z x ∷ []) true
    ∷ quiet (z ∷ []) [] (ceq x z ∷ []) true
    -- P: X = f(Z), Z local, not quiet
    ∷ quiet (z ∷ []) [] (capp x (bytes "f") (z ∷ []) ∷ []) false
    -- P: that under X = f(b), quiet
    ∷ quiet (z ∷ []) (capp x (bytes "f") (y ∷ []) ∷ (y is "b") ∷ []) (capp x (bytes "f") (z ∷ []) ∷ []) true
    -- P: environment X = a, X = b, anything quiet
    ∷ quiet [] ((x is "a") ∷ (x is "b") ∷ []) ((y is "a") ∷ cfail ∷ []) true
    -- two outer variables joined through a local one are a new constraint
    ∷ quiet (z ∷ []) [] (ceq z x ∷ ceq z y ∷ []) false
    ∷ quiet (z ∷ []) (ceq x y ∷ []) (ceq z x ∷ ceq z y ∷ []) true
    -- a local that also occurs in the environment is another variable there
    ∷ quiet (z ∷ []) ((z is "a") ∷ []) ((z is "b") ∷ []) true
    ∷ []
