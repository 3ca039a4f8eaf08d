-- The parts of a configuration counted from its words, in one pass. Document 01: "one for every box, guarded goal, clause,
-- composition, hiding, choice statement, atom, stored constraint, and local or hidden variable". Each opening word is one part, but
-- for a member's, whose statement is counted, and those of locals and stores; a list of locals counts its variables; the number behind
-- a hiding's or a clause's first word is that of its hidden variables. Assumes nothing.
use Rattle.std.specs.Prelude.{List, [], ◌∷◌, ℕ, ◌+◌}
use Rattle.mem_words.specs.declared.Word.{Word}
use Rattle.mem_words.specs.declared.Word.TheVariants.{End, Free, Level, Num, Place, Inner, Bad}
use Rattle.mem_sorts.specs.declared.Kind.{Kind}
use Rattle.mem_sorts.specs.declared.Kind.TheVariants.{Or, And, Guarded, Member, Wait, Cond, Commit}
use Rattle.mem_sorts.specs.declared.Sort.{Sort}
use Rattle.mem_sorts.specs.declared.Sort.TheVariants.{Locals, Store, True, Fail, Eq, App, Call, Comp, Hide, Clause, AskWait, AskCond, AskCommit}
use Rattle.store_parts.specs.declared.Among.{Among}
use Rattle.store_parts.specs.declared.Among.TheVariants.{Others, Variables, Hidden}

abbrev pub kind_parts : Kind → ℕ
kind_parts Or = 1
kind_parts And = 1
kind_parts Guarded = 1
kind_parts Member = 0
kind_parts Wait = 1
kind_parts Cond = 1
kind_parts Commit = 1

abbrev pub sort_parts : Sort → ℕ
sort_parts Locals = 0
sort_parts Store = 0
sort_parts True = 1
sort_parts Fail = 1
sort_parts Eq = 1
sort_parts App = 1
sort_parts Call = 1
sort_parts Comp = 1
sort_parts Hide = 1
sort_parts Clause = 1
sort_parts AskWait = 1
sort_parts AskCond = 1
sort_parts AskCommit = 1

-- what a word stands among that follows the opening of a sort
abbrev pub behind : Sort → Among
behind Locals = Variables
behind Store = Others
behind True = Others
behind Fail = Others
behind Eq = Others
behind App = Others
behind Call = Others
behind Comp = Others
behind Hide = Hidden
behind Clause = Hidden
behind AskWait = Others
behind AskCond = Others
behind AskCommit = Others

-- a variable among locals is a part
abbrev pub free_parts : Among → ℕ
free_parts Others = 0
free_parts Variables = 1
free_parts Hidden = 0

-- and a number of hidden variables is so many
abbrev pub number_parts : Among → ℕ → ℕ
number_parts Others n = 0
number_parts Variables n = 0
number_parts Hidden n = n

abbrev pub word_parts : Among → Word → ℕ
word_parts m End = 0
word_parts m (Free x) = free_parts m
word_parts m (Level l) = 0
word_parts m (Num n) = number_parts m n
word_parts m (Place k) = kind_parts k
word_parts m (Inner s) = sort_parts s
word_parts m Bad = 0

-- locals go on up to their End
abbrev pub behind_free : Among → Among
behind_free Others = Others
behind_free Variables = Variables
behind_free Hidden = Others

abbrev pub behind_word : Among → Word → Among
behind_word m End = Others
behind_word m (Free x) = behind_free m
behind_word m (Level l) = Others
behind_word m (Num n) = Others
behind_word m (Place k) = Others
behind_word m (Inner s) = behind s
behind_word m Bad = Others

unfoldable pub parts_in : Among → List Word → ℕ
parts_in m [] = 0
parts_in m (w ∷ W) = word_parts m w + parts_in (behind_word m w) W
