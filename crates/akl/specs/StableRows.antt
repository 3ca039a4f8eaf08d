-- Rows of the table: rule 12 and stable goals.
use Rattle.std.specs.Prelude.{List, [], ◌∷◌, ℕ}
use Rattle.constraint.specs.Constraint.{ctrue, cfail}
use Rattle.akl.specs.Limits.{most_parts}
use Rattle.akl.specs.Syntax.{wait, cond, commit, atom, comp, hide, choice, no_more, clause}
use Rattle.akl.specs.Configuration.{goal, member, guarded, Node, or, and, stmt, choice_box, guard, Nodes, nil, cons, one}
use Rattle.akl.specs.RowKinds.{Row, prints, steps_from, x, ◌is◌, top_box, config, take, says}

-- a guarded goal that is solved
abbrev ready : Node guarded
ready = guard (and [] [] nil) (atom ctrue)

-- a choice-box that may be split, at place 2, whose goals are at 3 and 5
abbrev splittable : Node member
splittable = choice_box wait (cons ready (one ready))

-- Splitting it in the and-box 1, where this member stands beside it and 1 is named: the refusal.
abbrev beside : Node member → ℕ → Row
beside m n = steps_from 99 (config (top_box (x ∷ []) [] (cons splittable (one m))) 1) (take 12 2 1) n

-- a guard that is an or-box; a choice-box of such a goal and one that is ready
abbrev or_guarded : Nodes goal → Node member
or_guarded ns = choice_box wait (cons (guard (or ns) (atom ctrue)) (one ready))

unfoldable pub stable_rows : List Row
stable_rows =
    -- each determinate rule beside it, possible alone, disturbs (2 and 14 further down); what only splitting can rewrite does not
    beside splittable 0
    ∷ beside (says x) 13
    ∷ beside (stmt (comp (atom ctrue) (atom ctrue))) 13
    ∷ beside (stmt (hide 1 (atom ctrue))) 13
    ∷ beside (stmt (choice wait (clause 0 (atom ctrue) (atom ctrue) no_more))) 13
    ∷ beside (choice_box wait (one ready)) 13
    ∷ beside (choice_box cond (cons ready (one (guard (and [] [] (one splittable)) (atom ctrue))))) 13
    ∷ beside (choice_box cond (cons (guard (and [] [] (one splittable)) (atom ctrue)) (one ready))) 0
    ∷ beside (choice_box commit (cons (guard (and [] [] (one splittable)) (atom ctrue)) (one ready))) 13
    ∷ beside (choice_box commit (cons (guard (and [] ((x is "a") ∷ []) nil) (atom ctrue)) (one (guard (and [] ((x is "b") ∷ []) nil) (atom ctrue))))) 0
    ∷ beside (choice_box wait nil) 13
    ∷ beside (or_guarded nil) 13
    ∷ beside (or_guarded (cons (and [] [] nil) (one (and [] [] nil)))) 13
    -- 9: the environment has no solution, so that all is quiet, and yet the goal is not stable
    ∷ prints "" "X = a, X = b, ((true ? true ; true ? true) ? true)." "3 2 0\n1 2 0\n3 2 0\n1 2 0\n5 2 0\n5 5 0\n1 8 0\n1 10 0\n12 5 4\n" "accepted 8\nrefusal 13\nstate open\n"
    -- .. and with a store that has none in the goal
    ∷ beside (choice_box wait (cons (guard (and [] (cfail ∷ []) nil) (atom ctrue)) (one ready))) 13
    -- 2
    ∷ prints "p := true." "(true ? true ; true ? true), p." "3 2 0\n5 2 0\n1 5 0\n1 7 0\n12 2 1\n" "accepted 4\nrefusal 13\nstate open\n"
    ∷ prints "p := true." "(true ? true ; true ? true), p." "3 2 0\n5 2 0\n1 5 0\n1 7 0\n2 7 0\n1 7 0\n12 2 1\n" "accepted 7\nrefusal 0\nstate open\n"
    -- 14 on the or-box 1 rewrites the or-box 0: it disturbs 0, not 1
    ∷ prints "" "(true ? true ; true ? true ; true ? true)." "5 2 0\n1 5 0\n1 7 0\n1 9 0\n12 2 1\n6 3 0\n1 3 0\n12 4 1\n" "accepted 8\nrefusal 0\nanswer true\nstate open\n"
    ∷ prints "" "(true ? true ; true ? true ; true ? true)." "5 2 0\n1 5 0\n1 7 0\n1 9 0\n12 2 1\n6 3 0\n1 3 0\n12 4 0\n" "accepted 7\nrefusal 13\nanswer true\nstate open\n"
    -- 13 on the guarded goal 3 rewrites the choice-box 2: it disturbs 2, not 3
    ∷ prints "" "((true ? true ; true ? true ; true ? true) ? true)." "5 2 0\n5 5 0\n1 8 0\n1 10 0\n1 12 0\n12 5 4\n6 6 0\n1 6 0\n12 7 3\n" "accepted 9\nrefusal 0\nstate open\n"
    ∷ prints "" "((true ? true ; true ? true ; true ? true) ? true)." "5 2 0\n5 5 0\n1 8 0\n1 10 0\n1 12 0\n12 5 4\n6 6 0\n1 6 0\n12 7 2\n" "accepted 8\nrefusal 13\nstate open\n"
    -- limits do not enter: a step that 14 or 15 would refuse disturbs all the same
    ∷ steps_from 99 (config (top_box [] [] (cons splittable (one (stmt (hide 1 (atom ctrue)))))) 65535) (take 12 2 1) 13
    ∷ steps_from most_parts (config (top_box [] [] (cons splittable (one (stmt (choice wait (clause 2035 (atom ctrue) (atom ctrue) no_more)))))) 0) (take 12 2 1) 13
    -- the goal named is or contains the and-box: not another that is stable, nor the choice-box itself, nor what is in it
    ∷ steps_from 99 (config (or (cons (and (x ∷ []) [] (one splittable)) (one (and (x ∷ []) [] nil)))) 1) (take 12 2 1) 0
    ∷ steps_from 99 (config (or (cons (and (x ∷ []) [] (one splittable)) (one (and (x ∷ []) [] nil)))) 1) (take 12 2 0) 0
    ∷ steps_from 99 (config (or (cons (and (x ∷ []) [] (one splittable)) (one (and (x ∷ []) [] nil)))) 1) (take 12 2 7) 13
    ∷ steps_from 99 (config (or (cons (and (x ∷ []) [] (one splittable)) (one (and (x ∷ []) [] nil)))) 1) (take 12 2 2) 13
    ∷ steps_from 99 (config (or (cons (and (x ∷ []) [] (one splittable)) (one (and (x ∷ []) [] nil)))) 1) (take 12 2 3) 13
    ∷ steps_from 99 (config (or (cons (and (x ∷ []) [] (one splittable)) (one (and (x ∷ []) [] nil)))) 1) (take 12 2 4) 13
    -- .. a choice-box around may be named
    ∷ prints "" "((true ? true ; true ? true) ? true)." "5 2 0\n5 5 0\n1 8 0\n1 10 0\n12 5 2\n" "accepted 5\nrefusal 0\nstate open\n"
    -- .. the box 2 is right behind the goal 1, and not inside it
    ∷ prints "" "(true ? true ; true ? (true ? true ; Y = a ? true))." "5 2 0\n1 5 0\n1 7 0\n12 2 1\n14 1 0\n6 2 0\n1 2 0\n6 3 0\n5 3 0\n1 6 0\n12 3 1\n"
    "accepted 10\nrefusal 13\nanswer Y = _0\nstate open\n"
    -- 12 under `->` and `|`, where neither 7 nor 8 is possible
    ∷ prints "" "(X = a -> true ; true -> true)." "5 2 0\n1 5 0\n1 7 0\n12 2 1\n" "accepted 3\nrefusal 13\nstate open\n"
    ∷ prints "" "(X = a | true ; X = b | true)." "5 2 0\n1 5 0\n1 7 0\n12 2 1\n" "accepted 3\nrefusal 13\nstate open\n"
    -- the stores from the goal down to a box count together: each of the two is quiet alone
    ∷ prints "" "(Z : Z = X, (Z = Y ? true ; true ? true) ? true)." "5 2 0\n3 5 0\n1 5 0\n5 5 0\n1 8 0\n1 10 0\n12 5 4\n" "accepted 6\nrefusal 13\nstate open\n"
    ∷ prints "" "(Z : Z = X, (Z = X ? true ; true ? true) ? true)." "5 2 0\n3 5 0\n1 5 0\n5 5 0\n1 8 0\n1 10 0\n12 5 4\n" "accepted 7\nrefusal 0\nstate open\n"
    -- .. those of different boxes side by side do not
    ∷ prints "" "((Y = a ? true ; Y = b ? true) ? true)." "5 2 0\n5 5 0\n1 8 0\n1 10 0\n12 5 1\n" "accepted 5\nrefusal 0\nstate open\n"
    -- .. for the environment of the goal
    ∷ prints "" "X = a, ((X = a ? true ; true ? true) ? true)." "3 2 0\n1 2 0\n5 2 0\n5 5 0\n1 8 0\n1 10 0\n12 5 4\n" "accepted 7\nrefusal 0\nstate open\n"
    -- .. with the locals of boxes inside the goal
    ∷ prints "" "((Z : Z = X ? true ; true ? true) ? true)." "5 2 0\n5 5 0\n1 8 0\n1 10 0\n12 5 4\n" "accepted 5\nrefusal 0\nstate open\n"
    ∷ []
