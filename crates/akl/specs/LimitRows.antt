-- Rows of the table: limits on fresh numbers and parts.
use Rattle.std.specs.Prelude.{List, [], ◌∷◌}
use Rattle.constraint.specs.Constraint.{ctrue, cfail, capp}
use Rattle.akl.specs.Base.{bytes}
use Rattle.akl.specs.Limits.{most_parts}
use Rattle.akl.specs.Syntax.{number, wait, Stmt, atom, call, comp, hide, choice, no_more, clause}
use Rattle.akl.specs.Configuration.{goal, Node, or, and, stmt, choice_box, guard, nil, cons, one}
use Rattle.akl.specs.RowKinds.{Row, starts, steps_from, texts_refused, has_parts, x, y, ◌is◌, top_box, config, take}

-- the statement as the only member
abbrev holding : Stmt → Node goal
holding s = top_box [] [] (one (stmt s))

unfoldable pub limit_rows : List Row
limit_rows =
    -- 14: 65,534 is the last number given out
    steps_from 99 (config (top_box [] [] (one (stmt (hide 1 (atom ctrue))))) 65534) (take 4 2 0) 0
    ∷ steps_from 99 (config (top_box [] [] (one (stmt (hide 1 (atom ctrue))))) 65535) (take 4 2 0) 14
    ∷ steps_from 99 (config (top_box [] [] (one (stmt (hide 2 (atom ctrue))))) 65534) (take 4 2 0) 14
    ∷ steps_from 99 (config (top_box [] [] (one (stmt (choice wait (clause 1 (atom ctrue) (atom ctrue) (clause 1 (atom ctrue) (atom ctrue) no_more)))))) 65534) (take 5 2 0) 14
    ∷ steps_from 99 (config (top_box [] [] (one (stmt (atom ctrue)))) 65535) (take 1 2 0) 0
    -- 15: an or-box, an and-box, a local, a hiding and its variable, a composition and its two atoms are 8 parts
    ∷ starts 8 (bytes "(Y : Y = X, true).") 0
    ∷ starts 7 (bytes "(Y : Y = X, true).") 15
    -- a choice, two clauses, a hidden variable, four atoms and two boxes are 10 parts
    ∷ starts 10 (bytes "(Y : true ? true ; true ? true).") 0
    ∷ starts 9 (bytes "(Y : true ? true ; true ? true).") 15
    -- splitting copies locals and store too: or, 2 and, or-box inside, 2 stored, 2 locals, 2 choices, 2 guarded, 2 guards, 2 bodies
    ∷ steps_from 16 (config (top_box (x ∷ []) ((x is "a") ∷ []) (one (choice_box wait (cons (guard (and [] [] nil) (atom ctrue)) (one (guard (and [] [] nil) (atom ctrue))))))) 1) (take 12 2 1) 0
    ∷ steps_from 15 (config (top_box (x ∷ []) ((x is "a") ∷ []) (one (choice_box wait (cons (guard (and [] [] nil) (atom ctrue)) (one (guard (and [] [] nil) (atom ctrue))))))) 1) (take 12 2 1) 15
    -- promotion keeps the guard's local: an or-box, an and-box, a local and an atom are left
    ∷ steps_from 4 (config (top_box [] [] (one (choice_box wait (one (guard (and (y ∷ []) [] nil) (atom ctrue)))))) 2) (take 6 2 0) 0
    ∷ steps_from 3 (config (top_box [] [] (one (choice_box wait (one (guard (and (y ∷ []) [] nil) (atom ctrue)))))) 2) (take 6 2 0) 15
    -- 14 before 15
    ∷ steps_from 1 (config (top_box [] [] (one (stmt (hide 1 (atom ctrue))))) 65535) (take 4 2 0) 14
    -- 2,048 parts fit, 2,049 do not: after rule 1 there are an or-box, an and-box, a hiding with its variables, and an atom
    ∷ steps_from most_parts (config (top_box [] [] (cons (stmt (atom ctrue)) (one (stmt (hide 2044 (atom ctrue)))))) 0) (take 1 2 0) 0
    ∷ steps_from most_parts (config (top_box [] [] (cons (stmt (atom ctrue)) (one (stmt (hide 2045 (atom ctrue)))))) 0) (take 1 2 0) 15
    -- 1 and 18 of the steps text before 15 of the start; 5 of the query before 18
    ∷ texts_refused 3 "" "true." "1 2 0\n" 0
    ∷ texts_refused 2 "" "true." "1 2 0\n" 15
    ∷ texts_refused 2 "" "true." "1 2 0" 18
    ∷ texts_refused 2 "" "p." "1 2 0" 5
    -- parts, kind by kind: the top or-box, an empty or-box inside it
    ∷ has_parts (or nil) 1
    ∷ has_parts (or (cons (or nil) (one (or nil)))) 3
    -- an and-box, its locals, what is stored, its members
    ∷ has_parts (top_box [] [] nil) 2
    ∷ has_parts (top_box (x ∷ y ∷ []) [] nil) 4
    ∷ has_parts (top_box [] (cfail ∷ (x is "a") ∷ []) nil) 4
    ∷ has_parts (holding (atom ctrue)) 3
    ∷ has_parts (holding (atom cfail)) 3
    ∷ has_parts (holding (atom (capp (number x) (bytes "f") (number x ∷ number y ∷ [])))) 3
    ∷ has_parts (holding (call (bytes "p") [])) 3
    ∷ has_parts (holding (call (bytes "p") (number x ∷ number y ∷ []))) 3
    ∷ has_parts (holding (comp (atom ctrue) (comp (atom ctrue) (atom ctrue)))) 7
    ∷ has_parts (holding (hide 2 (atom ctrue))) 6
    ∷ has_parts (holding (choice wait (clause 0 (atom ctrue) (atom ctrue) no_more))) 6
    ∷ has_parts (holding (choice wait (clause 2 (atom ctrue) (atom ctrue) (clause 1 (atom ctrue) (hide 1 (atom cfail)) no_more)))) 14
    -- a choice-box, a guarded goal besides its guard and body
    ∷ has_parts (top_box [] [] (one (choice_box wait nil))) 3
    ∷ has_parts (top_box [] [] (one (choice_box wait (one (guard (or nil) (atom ctrue)))))) 6
    ∷ has_parts (top_box [] [] (one (choice_box wait (one (guard (and (y ∷ []) [] nil) (hide 3 (atom ctrue))))))) 11
    ∷ []
