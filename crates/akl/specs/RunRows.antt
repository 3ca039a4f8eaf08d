-- Rows of the table: runs, by their printed record.
use Rattle.std.specs.Prelude.{List, [], ◌∷◌}
use Rattle.akl.specs.RowKinds.{Row, prints, answers}

unfoldable pub run_rows : List Row
run_rows =
    -- P: the record
    prints "amend(K) := (K = kept ? true ; K = new ? true)." "amend(K)." "2 2 0\n5 2 0\n1 5 0\n1 7 0\n12 2 1\n14 1 0\n6 2 0\n6 4 0\n1 2 0\n1 3 0\n"
    "accepted 10\nrefusal 0\nanswer K = kept\nanswer K = new\nstate final\n"
    -- P: no steps
    ∷ prints "amend(K) := (K = kept ? true ; K = new ? true)." "amend(K)." "" "accepted 0\nrefusal 0\nstate open\n"
    -- a text or the start refused: two lines, the program before the query, both before the steps
    ∷ prints "p" "" "" "accepted 0\nrefusal 2\n"
    ∷ prints "p := q." "p" "" "accepted 0\nrefusal 5\n"
    ∷ prints "" "p." "1" "accepted 0\nrefusal 5\n"
    ∷ prints "" "true." "1" "accepted 0\nrefusal 18\n"
    -- P: rule 7 on the last guarded goal
    ∷ prints "" "(X = a -> true ; true -> true)." "5 2 0\n1 8 0\n7 6 0\n" "accepted 2\nrefusal 13\nstate open\n"
    -- .. and on one that is not the last: rules 6 and 7 then leave the other alternative behind
    ∷ prints "" "(true -> X = b ; X = a -> true)." "5 2 0\n1 5 0\n7 3 0\n6 2 0\n1 2 0\n" "accepted 5\nrefusal 0\nanswer X = b\nstate final\n"
    -- P: rule 8 on an only one
    ∷ prints "" "(true | true)." "5 2 0\n1 5 0\n8 3 0\n" "accepted 2\nrefusal 13\nstate open\n"
    ∷ prints "" "(X = a | true ; true | X = b)." "5 2 0\n1 8 0\n8 6 0\n6 2 0\n1 2 0\n" "accepted 5\nrefusal 0\nanswer X = b\nstate final\n"
    -- P: rule 12 with a constraint atom still in the stable goal
    ∷ prints "amend(K) := (K = kept ? true ; K = new ? true)." "amend(K)." "2 2 0\n5 2 0\n1 5 0\n12 2 1\n" "accepted 3\nrefusal 13\nstate open\n"
    -- not quiet, though it can be met
    ∷ prints "" "(X = a -> true ; true -> true)." "5 2 0\n1 5 0\n7 3 0\n" "accepted 2\nrefusal 13\nstate open\n"
    ∷ prints "" "(X = a | true ; true | true)." "5 2 0\n1 5 0\n8 3 0\n" "accepted 2\nrefusal 13\nstate open\n"
    ∷ prints "" "(X = a -> true)." "5 2 0\n1 5 0\n6 2 0\n" "accepted 2\nrefusal 13\nstate open\n"
    ∷ prints "" "(X = a ? true)." "5 2 0\n1 5 0\n6 2 0\n1 2 0\n" "accepted 4\nrefusal 0\nanswer X = a\nstate final\n"
    -- quiet by what is stored in the and-box around
    ∷ prints "" "X = a, (X = a -> true)." "3 2 0\n1 2 0\n5 2 0\n1 5 0\n6 2 0\n1 2 0\n" "accepted 6\nrefusal 0\nanswer X = a\nstate final\n"
    ∷ prints "" "X = a, (X = a -> true ; true -> true)." "3 2 0\n1 2 0\n5 2 0\n1 5 0\n7 3 0\n" "accepted 5\nrefusal 0\nstate open\n"
    -- .. and failed by it
    ∷ prints "" "X = a, (X = b ? true)." "3 2 0\n1 2 0\n5 2 0\n1 5 0\n9 4 0\n" "accepted 5\nrefusal 0\nstate open\n"
    -- an outer variable bound to a local one is quiet
    ∷ prints "" "(Z : X = Z | true ; true | true)." "5 2 0\n1 5 0\n8 3 0\n" "accepted 3\nrefusal 0\nstate open\n"
    -- two outer variables joined through a local one are not
    ∷ prints "" "(Z : Z = X, Z = Y | true ; true | true)." "5 2 0\n3 5 0\n1 5 0\n1 5 0\n8 3 0\n" "accepted 4\nrefusal 13\nstate open\n"
    -- a solved box whose store has no solution is no answer
    ∷ prints "" "X = a, X = b." "3 2 0\n1 2 0\n1 2 0\n" "accepted 3\nrefusal 0\nstate open\n"
    ∷ prints "" "X = f(X)." "1 2 0\n9 1 0\n14 1 0\n" "accepted 3\nrefusal 0\nstate failed\n"
    -- the stable goal is the one named: the splitting box is stable, the boxes around it are not
    ∷ prints "" "((true ? true ; true ? true) ? true), X = a." "3 2 0\n5 2 0\n5 5 0\n1 8 0\n1 10 0\n12 5 4\n" "accepted 6\nrefusal 0\nstate open\n"
    ∷ prints "" "((true ? true ; true ? true) ? true), X = a." "3 2 0\n5 2 0\n5 5 0\n1 8 0\n1 10 0\n12 5 1\n" "accepted 5\nrefusal 13\nstate open\n"
    ∷ prints "" "((true ? true ; true ? true) ? true), X = a." "3 2 0\n5 2 0\n5 5 0\n1 8 0\n1 10 0\n12 5 0\n" "accepted 5\nrefusal 13\nstate open\n"
    -- .. nor is it stable where its own stores are not quiet for the environment outside: X is outer to box 4, inner to 1
    ∷ prints "" "((X = a ? true ; true ? true) ? true)." "5 2 0\n5 5 0\n1 8 0\n1 10 0\n12 5 4\n" "accepted 4\nrefusal 13\nstate open\n"
    ∷ prints "" "((X = a ? true ; true ? true) ? true)." "5 2 0\n5 5 0\n1 8 0\n1 10 0\n12 5 1\n" "accepted 5\nrefusal 0\nstate open\n"
    -- the choice-box to be split is no goal that contains its and-box; a guarded goal around it may be named
    ∷ prints "" "(true ? true ; true ? true)." "5 2 0\n1 5 0\n1 7 0\n12 2 2\n" "accepted 3\nrefusal 13\nstate open\n"
    ∷ prints "" "((true ? true ; true ? true) ? true)." "5 2 0\n5 5 0\n1 8 0\n1 10 0\n12 5 3\n" "accepted 5\nrefusal 0\nstate open\n"
    -- a splitting by the first alternative only once its guard is solved
    ∷ prints "" "((true ? true ; true ? true) ? true ; true ? true)." "5 2 0\n5 5 0\n1 8 0\n1 10 0\n1 12 0\n12 2 1\n" "accepted 5\nrefusal 13\nstate open\n"
    -- distribution, guard failure, flattening: the order of alternatives is kept to the end
    ∷ prints "" "((true ? X = a ; true ? X = b) ? true)." "5 2 0\n5 5 0\n1 8 0\n1 10 0\n12 5 4\n13 3 0\n6 5 0\n6 9 0\n1 5 0\n1 8 0\n13 5 0\n11 7 0\n12 2 1\n14 1 0\n6 2 0\n6 4 0\n1 2 0\n1 3 0\n"
    "accepted 18\nrefusal 0\nanswer X = a\nanswer X = b\nstate final\n"
    -- goal failure: the and-box becomes failure, which flattening takes away
    ∷ prints "" "(fail ? true)." "5 2 0\n1 5 0\n9 4 0\n11 3 0\n10 2 0\n14 1 0\n" "accepted 6\nrefusal 0\nstate failed\n"
    -- an empty or-box inside the top one: still open
    ∷ prints "" "fail." "1 2 0\n9 1 0\n" "accepted 2\nrefusal 0\nstate open\n"
    -- hiding: fresh locals; a hidden name covers an outer one; the order of the query's variables is by free occurrence
    ∷ prints "" "(X : X = a), Y = X." "3 2 0\n4 2 0\n1 2 0\n1 2 0\n" "accepted 4\nrefusal 0\nanswer Y = _0, X = _0\nstate final\n"
    ∷ prints "" "X = a, (X : X = b)." "3 2 0\n1 2 0\n4 2 0\n1 2 0\n" "accepted 4\nrefusal 0\nanswer X = a\nstate final\n"
    ∷ prints "" "(X : (X : X = a), X = b, Y = X)." "4 2 0\n3 2 0\n4 2 0\n1 2 0\n3 2 0\n1 2 0\n1 2 0\n" "accepted 7\nrefusal 0\nanswer Y = b\nstate final\n"
    -- program atoms: arguments for parameters, hidden variables of a body beside them; a repeated argument
    ∷ prints "p(X,Y) := X = f(Y), (Z : Y = g(Z))." "p(A,B)." "2 2 0\n3 2 0\n1 2 0\n4 2 0\n1 2 0\n" "accepted 5\nrefusal 0\nanswer A = f(g(_0)), B = g(_0)\nstate final\n"
    ∷ prints "p(X,Y) := X = f(Y)." "p(A,A)." "2 2 0\n1 2 0\n9 1 0\n14 1 0\n" "accepted 4\nrefusal 0\nstate failed\n"
    -- terms, unbound variables by first appearance over the whole line, no query variables
    ∷ prints "" "X = f(Y,Z,Y), Z = g(W)." "3 2 0\n1 2 0\n1 2 0\n" "accepted 3\nrefusal 0\nanswer X = f(_0,g(_1),_0), Y = _0, Z = g(_1), W = _1\nstate final\n"
    ∷ prints "" "X = Y, Z = 007." "3 2 0\n1 2 0\n1 2 0\n" "accepted 3\nrefusal 0\nanswer X = _0, Y = _0, Z = 007\nstate final\n"
    ∷ prints "" "true." "1 2 0\n" "accepted 1\nrefusal 0\nanswer true\nstate final\n"
    -- A, B, C reads as A, (B, C)
    ∷ prints "" "X = a, Y = b, Z = c." "3 2 0\n1 2 0\n3 2 0\n1 2 0\n1 2 0\n" "accepted 5\nrefusal 0\nanswer X = a, Y = b, Z = c\nstate final\n"
    ∷ prints "" "X = a, Y = b, Z = c." "3 2 0\n1 2 0\n1 2 0\n" "accepted 2\nrefusal 12\nstate open\n"
    -- a wrong operator in 7, 8 and 12
    ∷ prints "" "(true ? true ; true ? true)." "5 2 0\n1 5 0\n7 3 0\n" "accepted 2\nrefusal 13\nstate open\n"
    ∷ prints "" "(true -> true ; true -> true)." "5 2 0\n1 5 0\n8 3 0\n" "accepted 2\nrefusal 13\nstate open\n"
    ∷ prints "" "(true | true ; true | true)." "5 2 0\n1 5 0\n1 7 0\n12 2 1\n" "accepted 3\nrefusal 13\nstate open\n"
    -- flattening of an or-box that is a guard
    ∷ prints "" "((true ? true ; true ? true) ? true)." "5 2 0\n5 5 0\n1 8 0\n1 10 0\n12 5 4\n14 4 0\n" "accepted 5\nrefusal 12\nstate open\n"
    -- 10 before 11 before 12 before 13
    ∷ prints "" "true." "15 9 9\n" "accepted 0\nrefusal 10\nstate open\n"
    ∷ prints "" "true." "0 2 0\n" "accepted 0\nrefusal 10\nstate open\n"
    ∷ prints "" "true." "1 3 0\n" "accepted 0\nrefusal 11\nstate open\n"
    ∷ prints "" "true." "1 2 1\n" "accepted 0\nrefusal 11\nstate open\n"
    ∷ prints "" "true." "12 2 3\n" "accepted 0\nrefusal 11\nstate open\n"
    ∷ prints "" "true." "12 2 1\n" "accepted 0\nrefusal 12\nstate open\n"
    ∷ prints "" "true." "2 2 0\n" "accepted 0\nrefusal 12\nstate open\n"
    ∷ prints "" "true." "14 0 0\n" "accepted 0\nrefusal 12\nstate open\n"
    ∷ prints "" "true." "9 1 0\n" "accepted 0\nrefusal 13\nstate open\n"
    -- nothing is tried after a refused step: the next one would be accepted
    ∷ prints "" "true." "9 1 0\n1 2 0\n" "accepted 0\nrefusal 13\nstate open\n"
    ∷ prints "" "true, true." "3 2 0\n9 1 0\n1 2 0\n" "accepted 1\nrefusal 13\nstate open\n"
    -- 16: no answer of that number, counted from 1; 17: text longer than the slice
    ∷ answers "" "X = a." "1 2 0\n" 0 9 16
    ∷ answers "" "X = a." "1 2 0\n" 2 9 16
    ∷ answers "" "X = a." "" 1 9 16
    ∷ answers "" "X = a." "1 2 0\n" 1 5 0
    ∷ answers "" "X = a." "1 2 0\n" 1 4 17
    ∷ []
