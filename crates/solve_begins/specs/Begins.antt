-- Which constraint a word begins. Assumes nothing.
use Rattle.std.specs.Prelude.{ℕ}
use Rattle.mem_words.specs.declared.Word.{Word}
use Rattle.mem_words.specs.declared.Word.TheVariants.{End, Free, Level, Num, Place, Inner, Bad}
use Rattle.mem_sorts.specs.declared.Sort.{Sort}
use Rattle.mem_sorts.specs.declared.Sort.TheVariants.{Locals, Store as StoreSort, True, Fail, Eq, App, Call, Comp, Hide, Clause, AskWait, AskCond, AskCommit}

-- what a word begins: 1 for fail, 2 for an equation, 3 for an application, 0 for nothing or true
abbrev pub begins_sort : Sort → ℕ
begins_sort Locals = 0
begins_sort StoreSort = 0
begins_sort True = 0
begins_sort Fail = 1
begins_sort Eq = 2
begins_sort App = 3
begins_sort Call = 0
begins_sort Comp = 0
begins_sort Hide = 0
begins_sort Clause = 0
begins_sort AskWait = 0
begins_sort AskCond = 0
begins_sort AskCommit = 0

abbrev pub begins_of : Word → ℕ
begins_of End = 0
begins_of (Free v) = 0
begins_of (Level v) = 0
begins_of (Num v) = 0
begins_of (Place k) = 0
begins_of (Inner s) = begins_sort s
begins_of Bad = 0
