-- Slots as they are made.
use mathlib.Core.Path.{◌≡◌, refl, ap, sym, ◌∙◌}
use mathlib.Core.List.{List}
use mathlib.Core.Bool.{Bool, true, false}
use Prim.Native.Nat.{ℕ, ◌+◌, ◌≤◌, ◌<◌}
use native.Mathlib.Omega.{arith}
use lib.ListN.{length}
use Rattle.mem_words.specs.declared.Word.{Word}
use Rattle.mem_words.specs.declared.Word.TheVariants.{Num, Inner, Bad}
use Rattle.mem_sorts.specs.declared.Sort.TheVariants.{Clause}
use Rattle.read_emits.specs.TheirContracts.{Emits, EmitTo, NoRoom}
use Rattle.read_pieces.specs.Slots.{SlotsTo, slots_made, ClauseTo, clause_opened}

pub slots_none_1 : {O O' : List Word} {k : ℕ} → NoRoom O k O' → SlotsTo O k O' false
slots_none_1 a = omega (arith, a.full)

pub slots_none_2 : {O O₁ O' : List Word} {k : ℕ} → Emits O k Bad O₁ → NoRoom O₁ (k + 1) O' → SlotsTo O k O' false
slots_none_2 a b = omega (arith, a.stored.long, b.full)

pub slots_last : {O O₁ O₂ : List Word} (O' : List Word) {k : ℕ} → Emits O k Bad O₁ → Emits O₁ (k + 1) Bad O₂ → (r : Bool) → EmitTo O₂ (k + 2) Bad O' r → SlotsTo O k O' r
slots_last O' a b true c = slots_made a b c
slots_last O' a b false c = omega (arith, a.stored.long, b.stored.long, c.full)

pub clause_none : {O O' : List Word} {k : ℕ} (count : ℕ) → NoRoom O k O' → ClauseTo O k count O' false
clause_none count a = omega (arith, a.full)

pub clause_last : {O O₁ : List Word} (O' : List Word) {k : ℕ} (count : ℕ) → Emits O k (Inner Clause) O₁ → (r : Bool) → EmitTo O₁ (k + 1) (Num count) O' r → ClauseTo O k count O' r
clause_last O' count a true b = clause_opened a b
clause_last O' count a false b = omega (arith, a.stored.long, b.full)
