-- Rows of the table: what is well formed.
use Rattle.std.specs.Prelude.{List, [], ◌∷◌, ◌++◌, map, Bool, true, false, ℕ, zero, suc}
use Prim.Native.String.{String}
use Rattle.constraint.specs.Constraint.{ctrue, cfail, ceq, capp}
use Rattle.akl.specs.Base.{bytes, size, range, decimal}
use Rattle.akl.specs.Syntax.{Var, number, level, wait, cond, Stmt, atom, call, comp, hide, choice, no_more, clause, Def, Program}
use Rattle.akl.specs.Configuration.{member, Node, or, and, stmt, choice_box, guard, nil, cons, one, Config}
use Rattle.akl.specs.RowKinds.{Row, formed_with, x, y, z, ◌is◌, top_box, config, says, asks}

-- with the query's variable X and no definitions
abbrev formed : ℕ → Config → Bool → Row
formed limit c b = formed_with limit [] (bytes "X" ∷ []) c b

-- n hidings, one in the other
unfoldable pub deep : ℕ → Stmt
deep zero = atom ctrue
deep (suc n) = hide 1 (deep n)

-- n times the same
unfoldable pub copies : {A : Type 0} → ℕ → A → List A
copies zero a = []
copies (suc n) a = a ∷ copies n a

-- x is a constructor with n arguments
abbrev applied : ℕ → Stmt
applied n = hide 1 (atom (capp (level 0) (bytes "f") (copies n (level 0))))

abbrev equal : Var → Var → Stmt
equal a b = atom (ceq a b)

-- a member in whose guarded goal the statement is the body
abbrev in_body : Stmt → Node member
in_body s = choice_box wait (one (guard (and [] [] nil) s))

abbrev define : String → ℕ → Stmt → Def
define p n s = record { name = bytes p; arity = n; body = s }

-- p0, p1, .., n definitions
unfoldable pub definitions_to : ℕ → Program → Program
definitions_to zero P = P
definitions_to (suc n) P = definitions_to n (record { name = bytes "p" ++ decimal n; arity = 0; body = atom ctrue } ∷ P)

abbrev definitions : ℕ → Program
definitions n = definitions_to n []

-- with the query's variable X, these definitions, and the statement as the only member
abbrev with_program : Program → Stmt → Bool → Row
with_program P s b = formed_with 99 P (bytes "X" ∷ []) (config (top_box (x ∷ []) [] (one (stmt s))) 9) b

-- with query variables of these names, all local
abbrev named : List String → Bool → Row
named ns b = formed_with 99 [] (map bytes ns) (config (top_box (range 0 (size ns)) [] nil) 99) b

unfoldable pub formed_rows : List Row
formed_rows =
    formed 99 (config (top_box (x ∷ []) [] (one (says x))) 1) true
    ∷ formed 99 (config (or nil) 1) true
    ∷ formed 99 (config (and (x ∷ []) [] nil) 1) false
    -- parts fit
    ∷ formed 3 (config (top_box (x ∷ []) [] nil) 1) true
    ∷ formed 2 (config (top_box (x ∷ []) [] nil) 1) false
    -- query variables are local to exactly the and-boxes of the top or-box and of or-boxes nested in it
    ∷ formed 99 (config (or (one (or (one (and (x ∷ []) [] nil))))) 1) true
    ∷ formed 99 (config (top_box [] [] nil) 1) false
    ∷ formed 99 (config (top_box (x ∷ []) [] (one (asks (and (x ∷ []) [] nil) x))) 1) false
    -- no variable has the next fresh number or a higher one, the query's included
    ∷ formed 99 (config (top_box (x ∷ y ∷ []) [] nil) 2) true
    ∷ formed 99 (config (top_box (x ∷ y ∷ []) [] nil) 1) false
    ∷ formed 99 (config (or nil) 0) false
    ∷ formed 99 (config (or nil) 65535) true
    ∷ formed 99 (config (or nil) 65536) false
    -- a free variable is local to an and-box around it; a stored one to its own box
    ∷ formed 99 (config (top_box (x ∷ []) [] (one (says y))) 9) false
    ∷ formed 99 (config (top_box (x ∷ []) ((y is "a") ∷ []) nil) 9) false
    ∷ formed 99 (config (top_box (x ∷ y ∷ []) ((y is "a") ∷ []) nil) 9) true
    -- in a body also to every and-box of its guard
    ∷ formed 99 (config (top_box (x ∷ []) [] (one (asks (and (y ∷ []) [] nil) y))) 9) true
    ∷ formed 99 (config (top_box (x ∷ []) [] (one (asks (and (z ∷ []) [] nil) y))) 9) false
    ∷ formed 99 (config (top_box (x ∷ []) [] (one (asks (or (cons (and (y ∷ []) [] nil) (one (or (one (and (y ∷ []) [] nil)))))) y))) 9) true
    ∷ formed 99 (config (top_box (x ∷ []) [] (one (asks (or (cons (and (y ∷ []) [] nil) (one (and [] [] nil)))) y))) 9) false
    -- a failed guard has no and-box, so that anything used before may stand in its body
    ∷ formed 99 (config (top_box (x ∷ []) [] (one (asks (or nil) y))) 9) true
    ∷ formed 99 (config (top_box (x ∷ []) [] (one (asks (or nil) y))) 1) false
    -- locals interfere: in different members of an and-box, or one box inside the other; not in different alternatives
    ∷ formed 99 (config (top_box (x ∷ []) [] (cons (asks (and (y ∷ []) [] nil) x) (one (asks (and (y ∷ []) [] nil) x)))) 9) false
    ∷ formed 99 (config (top_box (x ∷ y ∷ []) [] (one (asks (and (y ∷ []) [] nil) x))) 9) false
    ∷ formed 99 (config (top_box (x ∷ []) [] (one (choice_box wait (cons (guard (and (y ∷ []) [] nil) (atom ctrue)) (one (guard (and (y ∷ []) [] nil) (atom ctrue))))))) 9) true
    ∷ formed 99 (config (top_box (x ∷ x ∷ []) [] nil) 9) false
    -- statements that no text reads as: an empty hidden list, an empty choice, an atom without definition, a free level
    ∷ formed 99 (config (top_box (x ∷ []) [] (one (stmt (hide 0 (atom ctrue))))) 9) false
    ∷ formed 99 (config (top_box (x ∷ []) [] (one (stmt (choice wait no_more)))) 9) false
    ∷ formed 99 (config (top_box (x ∷ []) [] (one (stmt (call (bytes "p") [])))) 9) false
    ∷ formed 99 (config (top_box (x ∷ []) [] (one (stmt (atom (ceq (level 0) (number x)))))) 9) false
    ∷ formed 99 (config (top_box (x ∷ []) [] (one (stmt (hide 1 (atom (ceq (level 0) (number x))))))) 9) true
    ∷ formed 99 (config (top_box (x ∷ []) (ctrue ∷ []) nil) 9) false
    -- or-boxes nested in a guard's or-box count too
    ∷ formed 99 (config (top_box (x ∷ []) [] (one (asks (or (cons (and (y ∷ []) [] nil) (one (or (one (and [] [] nil)))))) y))) 9) false
    -- a guard's own members do not
    ∷ formed 99 (config (top_box (x ∷ []) [] (one (asks (and (y ∷ []) [] (one (asks (and (z ∷ []) [] nil) z))) y))) 9) true
    ∷ formed 99 (config (top_box (x ∷ []) [] (one (asks (and (y ∷ []) [] (one (asks (and (z ∷ []) [] nil) z))) z))) 9) false
    -- 2 to 7 of statements: depth, arguments, spelling, definitions; in members, bodies and what is stored
    ∷ formed 99 (config (top_box (x ∷ []) [] (one (stmt (deep 32)))) 9) true
    ∷ formed 99 (config (top_box (x ∷ []) [] (one (stmt (deep 33)))) 9) false
    ∷ formed 99 (config (top_box (x ∷ []) [] (one (in_body (deep 33)))) 9) false
    -- .. a composition to the left of a comma stands in a bracket of its own
    ∷ formed 99 (config (top_box (x ∷ []) [] (one (stmt (hide 1 (comp (comp (deep 31) (atom ctrue)) (atom ctrue)))))) 9) false
    ∷ formed 99 (config (top_box (x ∷ []) [] (one (stmt (hide 1 (comp (atom ctrue) (comp (deep 31) (atom ctrue))))))) 9) true
    ∷ formed 99 (config (top_box (x ∷ []) [] (one (stmt (applied 8)))) 9) true
    ∷ formed 99 (config (top_box (x ∷ []) [] (one (stmt (applied 9)))) 9) false
    ∷ formed 99 (config (top_box (x ∷ []) [] (one (in_body (applied 9)))) 9) false
    ∷ formed 99 (config (top_box (x ∷ []) (capp x (bytes "f") (copies 8 x) ∷ []) nil) 9) true
    ∷ formed 99 (config (top_box (x ∷ []) (capp x (bytes "f") (copies 9 x) ∷ []) nil) 9) false
    ∷ formed 99 (config (top_box (x ∷ []) ((x is "12") ∷ []) nil) 9) true
    ∷ formed 99 (config (top_box (x ∷ []) ((x is "1a") ∷ []) nil) 9) false
    ∷ formed 99 (config (top_box (x ∷ []) ((x is "F") ∷ []) nil) 9) false
    ∷ formed 99 (config (top_box (x ∷ []) ((x is "") ∷ []) nil) 9) false
    ∷ formed 99 (config (top_box (x ∷ []) (cfail ∷ []) nil) 9) true
    ∷ formed 99 (config (top_box (x ∷ []) [] (one (in_body (call (bytes "p") [])))) 9) false
    ∷ formed 99 (config (top_box (x ∷ []) [] (one (in_body (equal (level 0) (number x))))) 9) false
    ∷ formed 99 (config (top_box (x ∷ []) [] (one (in_body (choice cond (clause 1 (atom ctrue) (equal (level 0) (number x)) no_more))))) 9) true
    ∷ formed 99 (config (top_box (x ∷ []) [] (one (in_body (choice cond (clause 1 (atom ctrue) (equal (level 1) (number x)) no_more))))) 9) false
    ∷ with_program (define "p" 2 (atom ctrue) ∷ []) (call (bytes "p") (number x ∷ number x ∷ [])) true
    ∷ with_program (define "p" 2 (atom ctrue) ∷ []) (call (bytes "p") (number x ∷ [])) false
    ∷ with_program (define "p" 2 (atom ctrue) ∷ []) (call (bytes "q") (number x ∷ number x ∷ [])) false
    -- .. and of the program: each definition, used or not
    ∷ with_program (define "p" 0 (call (bytes "q") []) ∷ []) (atom ctrue) false
    ∷ with_program (define "p" 0 (call (bytes "q") []) ∷ define "q" 0 (call (bytes "p") []) ∷ []) (atom ctrue) true
    ∷ with_program (define "p" 8 (equal (level 0) (level 7)) ∷ []) (atom ctrue) true
    ∷ with_program (define "p" 8 (equal (level 0) (level 8)) ∷ []) (atom ctrue) false
    ∷ with_program (define "p" 9 (atom ctrue) ∷ []) (atom ctrue) false
    ∷ with_program (define "p" 0 (equal (number x) (number x)) ∷ []) (atom ctrue) false
    ∷ with_program (define "p" 0 (deep 32) ∷ []) (atom ctrue) true
    ∷ with_program (define "p" 0 (deep 33) ∷ []) (atom ctrue) false
    ∷ with_program (define "p" 0 (applied 9) ∷ []) (atom ctrue) false
    ∷ with_program (define "true" 0 (atom ctrue) ∷ []) (atom ctrue) false
    ∷ with_program (define "fail" 1 (atom ctrue) ∷ []) (atom ctrue) false
    ∷ with_program (define "12" 0 (atom ctrue) ∷ []) (atom ctrue) false
    ∷ with_program (define "P" 0 (atom ctrue) ∷ []) (atom ctrue) false
    ∷ with_program (define "p" 1 (atom ctrue) ∷ define "p" 0 (atom ctrue) ∷ []) (atom ctrue) true
    ∷ with_program (define "p" 1 (atom ctrue) ∷ define "q" 0 (atom ctrue) ∷ define "p" 1 (atom ctrue) ∷ []) (atom ctrue) false
    ∷ with_program (definitions 128) (call (bytes "p127") []) true
    ∷ with_program (definitions 129) (atom ctrue) false
    -- the names of the query's variables: at most 16, different, spelled as variables, and each is local
    ∷ named ("X" ∷ []) true
    ∷ named ("X" ∷ "Y" ∷ []) true
    ∷ named ("X" ∷ "X" ∷ []) false
    ∷ named ("Y" ∷ "X" ∷ "Y" ∷ []) false
    ∷ named ("x" ∷ []) false
    ∷ named ("1" ∷ []) false
    ∷ named ("" ∷ []) false
    ∷ named ("X_1a" ∷ []) true
    ∷ named ("X-" ∷ []) false
    ∷ named ("A" ∷ "B" ∷ "C" ∷ "D" ∷ "E" ∷ "F" ∷ "G" ∷ "H" ∷ "I" ∷ "J" ∷ "K" ∷ "L" ∷ "M" ∷ "N" ∷ "O" ∷ "P" ∷ []) true
    ∷ named ("A" ∷ "B" ∷ "C" ∷ "D" ∷ "E" ∷ "F" ∷ "G" ∷ "H" ∷ "I" ∷ "J" ∷ "K" ∷ "L" ∷ "M" ∷ "N" ∷ "O" ∷ "P" ∷ "Q" ∷ []) false
    ∷ formed_with 99 [] (bytes "X" ∷ bytes "Y" ∷ []) (config (top_box (x ∷ []) [] nil) 9) false
    ∷ formed_with 99 [] [] (config (top_box [] [] (one (says x))) 9) false
    ∷ []
