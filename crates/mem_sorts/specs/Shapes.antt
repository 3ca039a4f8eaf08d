-- The kinds and sorts of words, and their numbers. Assumes nothing.
use Rattle.std.specs.Prelude.{◌≡◌, refl, List, [], ◌∷◌, ℕ, zero, suc, ◌<◌, ◌≤◌, length}
use Rattle.std.proofs.Common.{not-suc-le-zero, le_of_suc-le-suc, arith}
use Rattle.mem_sorts.specs.declared.Kind.{Kind}
use Rattle.mem_sorts.specs.declared.Kind.TheVariants.{Or, And, Guarded, Member, Wait, Cond, Commit}
use Rattle.mem_sorts.specs.declared.Sort.{Sort}
use Rattle.mem_sorts.specs.declared.Sort.TheVariants.{Locals, Store, True, Fail, Eq, App, Call, Comp, Hide, Clause, AskWait, AskCond, AskCommit}

-- the element at n of a list, and d past its end
abbrev pub pick : {A : Type 0} → List A → A → ℕ → A
pick [] d n = d
pick (x ∷ l) d zero = x
pick (x ∷ l) d (suc n) = pick l d n

-- the number of a kind
abbrev pub kind_no : Kind → ℕ
kind_no Or = 0
kind_no And = 1
kind_no Guarded = 2
kind_no Member = 3
kind_no Wait = 4
kind_no Cond = 5
kind_no Commit = 6

-- the number of a sort
abbrev pub sort_no : Sort → ℕ
sort_no Locals = 0
sort_no Store = 1
sort_no True = 2
sort_no Fail = 3
sort_no Eq = 4
sort_no App = 5
sort_no Call = 6
sort_no Comp = 7
sort_no Hide = 8
sort_no Clause = 9
sort_no AskWait = 10
sort_no AskCond = 11
sort_no AskCommit = 12

pub kind_small : (k : Kind) → kind_no k < 65536
kind_small Or = omega arith
kind_small And = omega arith
kind_small Guarded = omega arith
kind_small Member = omega arith
kind_small Wait = omega arith
kind_small Cond = omega arith
kind_small Commit = omega arith

pub sort_small : (s : Sort) → sort_no s < 65536
sort_small Locals = omega arith
sort_small Store = omega arith
sort_small True = omega arith
sort_small Fail = omega arith
sort_small Eq = omega arith
sort_small App = omega arith
sort_small Call = omega arith
sort_small Comp = omega arith
sort_small Hide = omega arith
sort_small Clause = omega arith
sort_small AskWait = omega arith
sort_small AskCond = omega arith
sort_small AskCommit = omega arith

-- past a list's end `pick` gives the default
pub pick_past : {A : Type 0} (l : List A) (d : A) (n : ℕ) → length l ≤ n → d ≡ pick l d n
pick_past [] d n h = refl
pick_past (x ∷ l) d zero h = absurd (not-suc-le-zero h)
pick_past (x ∷ l) d (suc n) h = pick_past l d n (le_of_suc-le-suc h)
