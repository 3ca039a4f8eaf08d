-- Rows of the table: texts of programs, queries and steps.
use Rattle.std.specs.Prelude.{List, [], ◌∷◌, ◌++◌, ℕ, zero, suc}
use Rattle.akl.specs.Base.{bytes}
use Rattle.akl.specs.RowKinds.{Row, program_text, query_text, steps_text}

unfoldable pub times : ℕ → List ℕ → List ℕ → List ℕ
times zero l r = r
times (suc n) l r = l ++ times n l r

-- n brackets around `true`
abbrev nested : ℕ → List ℕ
nested n = times n (bytes "(") (bytes "true" ++ times n (bytes ")") (bytes "."))

-- a definition whose name has n letters
abbrev long_name : ℕ → List ℕ
long_name n = times n (bytes "p") (bytes " := true.")

unfoldable pub text_rows : List Row
text_rows =
    -- an empty program is fine, an empty query is none
    program_text [] 0
    ∷ query_text [] [] 2
    -- 2: not of the grammar
    ∷ program_text (bytes "p := true") 2
    ∷ program_text (bytes "true(X) := X = a.") 2
    ∷ program_text (bytes "p() := true.") 2
    ∷ program_text (bytes "12 := true.") 2
    ∷ program_text (bytes "p := q - r.") 2
    ∷ program_text (bytes "p := X = _a.") 2
    ∷ query_text [] (bytes "( : true).") 2
    ∷ query_text [] (bytes "X = 12(Y).") 0
    -- longest first: `:=` is one token, `: =` is two, and so is `- >`
    ∷ program_text (bytes "p : = true.") 2
    ∷ query_text [] (bytes "(true - > true).") 2
    ∷ query_text [] (bytes "(true->true).") 0
    -- names of 32 and 33 bytes
    ∷ program_text (long_name 32) 0
    ∷ program_text (long_name 33) 2
    -- 3: counts and depth
    ∷ program_text (bytes "p(A,B,C,D,E,F,G,H) := true.") 0
    ∷ program_text (bytes "p(A,B,C,D,E,F,G,H,I) := true.") 3
    ∷ query_text [] (bytes "X = f(X,X,X,X,X,X,X,X,X).") 3
    ∷ query_text [] (nested 32) 0
    ∷ query_text [] (nested 33) 3
    ∷ query_text [] (bytes "A = f(B,C,D,E,F,G,H,I), J = f(K,L,M,N,O,P).") 0
    ∷ query_text [] (bytes "A = f(B,C,D,E,F,G,H,I), J = f(K,L,M,N,O,P,Q).") 3
    -- 2 is decided over the whole text, with counts and depth aside
    ∷ program_text (bytes "p(A,B,C,D,E,F,G,H,I) := true. q") 2
    ∷ query_text [] (nested 33 ++ bytes ".") 2
    -- 4: one name and arity twice, a variable twice in a list
    ∷ program_text (bytes "p := true. p(X) := true.") 0
    ∷ program_text (bytes "p(Y) := true. p(X) := true.") 4
    ∷ program_text (bytes "p(X,X) := true.") 4
    ∷ query_text [] (bytes "(X,X : true).") 4
    ∷ query_text [] (bytes "(true ? true ; X,X : true ? true).") 4
    -- 5: program atom without definition; a query's are the program's
    ∷ program_text (bytes "p := q.") 5
    ∷ program_text (bytes "p := q(A), (A : true). q := p.") 5
    ∷ query_text (bytes "p := true.") (bytes "p.") 0
    ∷ query_text (bytes "p := true.") (bytes "p(X).") 5
    -- 6: in a program, a variable neither parameter nor hidden; free ones are the query's own
    ∷ program_text (bytes "p := X = a.") 6
    ∷ program_text (bytes "p := (X : true), X = a.") 6
    ∷ program_text (bytes "p(X) := (Y : Y = X), (Z : Z = a ? X = Z).") 0
    ∷ query_text [] (bytes "X = a.") 0
    -- 7: one choice, two operators
    ∷ program_text (bytes "p := (true ? true ; true -> true).") 7
    ∷ program_text (bytes "p := (true ? (true -> true) ; true ? true).") 0
    -- the lowest number, wherever it stands
    ∷ program_text (bytes "p := (true ? true ; true | true), X = a. q(X,X) := true.") 4
    -- .. 3 before 4, 5, 6 and 7; 4 before 5; 5 before 6; 5 and 6 before 7 (4 before 6 and 7 above)
    ∷ program_text (bytes "p(A,B,C,D,E,F,G,H,I) := q.") 3
    ∷ program_text (bytes "p(A,A,B,C,D,E,F,G,H) := true.") 3
    ∷ program_text (bytes "p := X = a. q(A,B,C,D,E,F,G,H,I) := true.") 3
    ∷ program_text (bytes "p := (true ? true ; true -> true). q(A,B,C,D,E,F,G,H,I) := true.") 3
    ∷ program_text (bytes "p(X,X) := q.") 4
    ∷ program_text (bytes "p := X = a, q.") 5
    ∷ program_text (bytes "p := (true ? true ; true -> true), q.") 5
    ∷ program_text (bytes "p := (true ? true ; true -> true), X = a.") 6
    -- 18: steps lines
    ∷ steps_text [] 0
    ∷ steps_text (bytes "0001 2 4294967295\n") 0
    ∷ steps_text (bytes "1 2 4294967296\n") 18
    ∷ steps_text (bytes "1 2 0") 18
    ∷ steps_text (bytes "1 2  0\n") 18
    ∷ steps_text (bytes "1 2\n") 18
    ∷ steps_text (bytes "1 2 0\n\n") 18
    ∷ steps_text (bytes "+1 2 0\n") 18
    ∷ []
