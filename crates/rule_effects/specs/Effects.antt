-- The effects of rules 1 to 14 as edits of a configuration's words W: pieces of them and a few constant words, put together.
-- i is where the place stands that the rule takes. Each is defined for any words and any i; the laws are in proofs/. Assumes nothing.
use Rattle.std.specs.Prelude.{Bool, true, false, cond, ◌&&◌, List, [], ◌∷◌, ◌++◌, map, ℕ, zero, suc, ◌+◌, ◌-◌, eqb, ltb, length, get_or, take, drop}
use Rattle.mem_words.specs.declared.Word.{Word}
use Rattle.mem_words.specs.declared.Word.TheVariants.{End, Free, Level, Num, Place, Inner, Bad}
use Rattle.mem_sorts.specs.declared.Kind.{Kind}
use Rattle.mem_sorts.specs.declared.Kind.TheVariants.{Or, And, Guarded, Member, Wait, Cond, Commit}
use Rattle.mem_sorts.specs.declared.Sort.{Sort}
use Rattle.mem_sorts.specs.declared.Sort.TheVariants.{Locals, Store, True, Fail, Eq, App, Call, Comp, Hide, Clause, AskWait, AskCond, AskCommit}
use Rattle.mem_copies.specs.Open.{open_word}
use Rattle.rule_words.specs.Scans.{close, around}
use Rattle.rule_words.specs.Pieces.{cut, cat}

-- the position behind the bracket that opens at i
abbrev pub behind : List Word → ℕ → ℕ
behind W i = close W i + 1

-- 3 composition: the first part stands up to a, the second up to b; each becomes a member
unfoldable pub composed : List Word → ℕ → ℕ → ℕ → List Word
composed W i a b = cat (take (i + 1) W ∷ cut (i + 2) a W ∷ (End ∷ Place Member ∷ []) ∷ cut a b W ∷ []) (drop (b + 1) W)

unfoldable pub effect_3 : List Word → ℕ → List Word
effect_3 W i = composed W i (behind W (i + 2)) (behind W (behind W (i + 2)))

-- 14 flattening: the or-box closes at e; its first and its last word go
unfoldable pub flattened : List Word → ℕ → ℕ → List Word
flattened W i e = cat (take i W ∷ cut (i + 1) e W ∷ []) (drop (e + 1) W)

unfoldable pub effect_14 : List Word → ℕ → List Word
effect_14 W i = flattened W i (close W i)

-- 7 condition: all between the guarded goal and the end of its choice-box goes
unfoldable pub effect_7 : List Word → ℕ → List Word
effect_7 W i = cat (take (behind W i) W ∷ []) (drop (close W (around W i)) W)

-- 8 commit: all in its choice-box but the guarded goal goes; c is where the choice-box opens
unfoldable pub committed : List Word → ℕ → ℕ → List Word
committed W i c = cat (take (c + 1) W ∷ cut i (behind W i) W ∷ []) (drop (close W c) W)

unfoldable pub effect_8 : List Word → ℕ → List Word
effect_8 W i = committed W i (around W i)

-- 9 environment failure: the and-box becomes failure
unfoldable pub effect_9 : List Word → ℕ → List Word
effect_9 W i = cat (take i W ∷ (Place Or ∷ End ∷ []) ∷ []) (drop (behind W i) W)

-- 10 goal failure: the and-box around the choice-box becomes failure
unfoldable pub effect_10 : List Word → ℕ → List Word
effect_10 W i = effect_9 W (around W i)

-- 11 guard failure: the guarded goal goes
unfoldable pub effect_11 : List Word → ℕ → List Word
effect_11 W i = cat (take i W ∷ []) (drop (behind W i) W)

-- 13 distribution: the guard's first part stands up to q, the guard up to o, the guarded goal up to e
unfoldable pub distributed : List Word → ℕ → ℕ → ℕ → ℕ → List Word
distributed W i q o e = cat (take (i + 1) W ∷ cut (i + 2) q W ∷ cut o e W ∷ (Place Guarded ∷ Place Or ∷ []) ∷ []) (drop q W)

unfoldable pub effect_13 : List Word → ℕ → List Word
effect_13 W i = distributed W i (behind W (i + 2)) (behind W (i + 1)) (behind W i)

-- 12 splitting: the and-box stands from a up to j, the choice-box's first guarded goal up to q, and it closes at e
unfoldable pub parted : List Word → ℕ → ℕ → ℕ → ℕ → ℕ → List Word
parted W i a q e j = cat (take a W ∷ (Place Or ∷ []) ∷ cut a q W ∷ cut e j W ∷ cut a (i + 1) W ∷ cut q j W ∷ (End ∷ []) ∷ []) (drop j W)

unfoldable pub effect_12 : List Word → ℕ → List Word
effect_12 W i = parted W i (around W i) (behind W (i + 1)) (close W i) (behind W (around W i))

-- 1 constraint atom: the member closes at e, the store of its and-box at s; the words up to b go to the store's end
unfoldable pub told : List Word → ℕ → ℕ → ℕ → ℕ → List Word
told W i s b e = cat (take s W ∷ cut (i + 1) b W ∷ cut s i W ∷ []) (drop (e + 1) W)

-- is the word the beginning of `true`? It adds nothing.
abbrev pub true_sort : Sort → Bool
true_sort Locals = false
true_sort Store = false
true_sort True = true
true_sort Fail = false
true_sort Eq = false
true_sort App = false
true_sort Call = false
true_sort Comp = false
true_sort Hide = false
true_sort Clause = false
true_sort AskWait = false
true_sort AskCond = false
true_sort AskCommit = false

abbrev pub begins_true : Word → Bool
begins_true End = false
begins_true (Free v) = false
begins_true (Level v) = false
begins_true (Num v) = false
begins_true (Place k) = false
begins_true (Inner s) = true_sort s
begins_true Bad = false

-- where the locals and the store of the and-box at a close
abbrev pub locals_end : List Word → ℕ → ℕ
locals_end W a = close W (a + 1)

abbrev pub store_end : List Word → ℕ → ℕ
store_end W a = close W (locals_end W a + 1)

unfoldable pub effect_1 : List Word → ℕ → List Word
effect_1 W i = told W i (store_end W (around W i)) (cond (begins_true (get_or W (i + 1) Bad)) (i + 1) (close W i)) (close W i)

-- 6 promotion: the and-box's locals close at u and its store at s; the guard's locals at v and its store at t; the body stands
-- from b up to c, and the choice-box closes at e. Its End is the new member's.
unfoldable pub promoted : List Word → ℕ → ℕ → ℕ → ℕ → ℕ → ℕ → ℕ → ℕ → List Word
promoted W i u s v t b c e = cat (take u W ∷ cut (i + 4) v W ∷ cut u s W ∷ cut (v + 2) t W ∷ cut s i W ∷ (Place Member ∷ []) ∷ cut b c W ∷ []) (drop e W)

unfoldable pub effect_6 : List Word → ℕ → List Word
effect_6 W i = promoted W i (locals_end W (around W i)) (store_end W (around W i)) (locals_end W (i + 2)) (store_end W (i + 2)) (behind W (i + 2)) (behind W (behind W (i + 2))) (close W i)

-- the number that a word is, and 0 if it is none
abbrev pub number_in : Word → ℕ
number_in End = 0
number_in (Free v) = 0
number_in (Level v) = 0
number_in (Num v) = v
number_in (Place k) = 0
number_in (Inner s) = 0
number_in Bad = 0

-- n fresh variables from next on
unfoldable pub frees : ℕ → ℕ → List Word
frees next zero = []
frees next (suc n) = Free next ∷ frees (suc next) n

-- 4 hiding: n fresh variables are put at the end u of the and-box's locals; the statement stands up to s
unfoldable pub revealed : List Word → ℕ → ℕ → ℕ → ℕ → ℕ → List Word
revealed W i n next u s = cat (take u W ∷ frees next n ∷ cut u (i + 1) W ∷ map (open_word (frees next n)) (cut (i + 3) s W) ∷ []) (drop (s + 1) W)

-- how many fresh variables it takes
unfoldable pub fresh_4 : List Word → ℕ → ℕ
fresh_4 W i = number_in (get_or W (i + 2) Bad)

unfoldable pub effect_4 : List Word → ℕ → ℕ → List Word
effect_4 W i next = revealed W i (fresh_4 W i) next (locals_end W (around W i)) (close W (i + 1))

-- 2 program atom: where the body of the definition begins that has the name of number p and n parameters, from the definition at j on
-- in the program's words D; the number of words if there is none. f bounds how many definitions are passed.
unfoldable pub heads_match : List Word → ℕ → ℕ → ℕ → Bool
heads_match D j p n = eqb (number_in (get_or D j Bad)) p && eqb (number_in (get_or D (j + 1) Bad)) n

unfoldable pub body_from : ℕ → List Word → ℕ → ℕ → ℕ → ℕ
body_from zero D j p n = length D
body_from (suc f) D j p n = cond (ltb j (length D)) (cond (heads_match D j p n) (j + 2) (body_from f D (behind D (j + 2)) p n)) (length D)

-- the arguments stand up to v, the body begins at b
unfoldable pub called : List Word → List Word → ℕ → ℕ → ℕ → List Word
called W D i v b = cat (take (i + 1) W ∷ map (open_word (cut (i + 3) v W)) (cut b (behind D b) D) ∷ []) (drop (v + 1) W)

-- the body of the atom at i
unfoldable pub body_of : List Word → List Word → ℕ → ℕ
body_of W D i = body_from (length D) D 0 (number_in (get_or W (i + 2) Bad)) (close W (i + 1) - (i + 3))

unfoldable pub effect_2 : List Word → List Word → ℕ → List Word
effect_2 W D i = called W D i (close W (i + 1)) (body_of W D i)

-- 5 choice: what opens the choice-box
abbrev pub box_of_sort : Sort → Kind
box_of_sort Locals = Wait
box_of_sort Store = Wait
box_of_sort True = Wait
box_of_sort Fail = Wait
box_of_sort Eq = Wait
box_of_sort App = Wait
box_of_sort Call = Wait
box_of_sort Comp = Wait
box_of_sort Hide = Wait
box_of_sort Clause = Wait
box_of_sort AskWait = Wait
box_of_sort AskCond = Cond
box_of_sort AskCommit = Commit

abbrev pub box_of : Word → Kind
box_of End = Wait
box_of (Free v) = Wait
box_of (Level v) = Wait
box_of (Num v) = Wait
box_of (Place k) = Wait
box_of (Inner s) = box_of_sort s
box_of Bad = Wait

-- does a clause begin with the word?
abbrev pub clause_sort : Sort → Bool
clause_sort Locals = false
clause_sort Store = false
clause_sort True = false
clause_sort Fail = false
clause_sort Eq = false
clause_sort App = false
clause_sort Call = false
clause_sort Comp = false
clause_sort Hide = false
clause_sort Clause = true
clause_sort AskWait = false
clause_sort AskCond = false
clause_sort AskCommit = false

abbrev pub begins_clause : Word → Bool
begins_clause End = false
begins_clause (Free v) = false
begins_clause (Level v) = false
begins_clause (Num v) = false
begins_clause (Place k) = false
begins_clause (Inner s) = clause_sort s
begins_clause Bad = false

-- the guarded goal that the clause at j becomes with the fresh variables F: its guard stands up to g, its body up to b
unfoldable pub guarded_one : List Word → ℕ → ℕ → ℕ → List Word → List Word
guarded_one W j g b F =
    cat ((Place Guarded ∷ Place And ∷ []) ∷ (Inner Locals ∷ []) ∷ F ∷ (End ∷ Inner Store ∷ []) ∷ (End ∷ Place Member ∷ []) ∷ map (open_word F) (cut (j + 2) g W) ∷ (End ∷ End ∷ []) ∷ map (open_word F) (cut g b W) ∷ []) (End ∷ [])

-- how many variables the clause at j hides
abbrev pub hides : List Word → ℕ → ℕ
hides W j = number_in (get_or W (j + 1) Bad)

-- the guarded goals of the clauses from j on, and how many variables they hide; f bounds how many clauses there are
unfoldable pub guarded_from : ℕ → List Word → ℕ → ℕ → List Word
guarded_from zero W j next = []
guarded_from (suc f) W j next =
    cond (begins_clause (get_or W j Bad)) (guarded_one W j (behind W (j + 2)) (behind W (behind W (j + 2))) (frees next (hides W j)) ++ guarded_from f W (behind W j) (next + hides W j)) []

unfoldable pub hidden_from : ℕ → List Word → ℕ → ℕ
hidden_from zero W j = 0
hidden_from (suc f) W j = cond (begins_clause (get_or W j Bad)) (hides W j + hidden_from f W (behind W j)) 0

unfoldable pub effect_5 : List Word → ℕ → ℕ → List Word
effect_5 W i next = cat (take i W ∷ (Place (box_of (get_or W (i + 1) Bad)) ∷ []) ∷ guarded_from (length W) W (i + 2) next ∷ []) (drop (behind W (i + 1)) W)

-- how many fresh variables it takes
unfoldable pub fresh_5 : List Word → ℕ → ℕ
fresh_5 W i = hidden_from (length W) W (i + 2)
