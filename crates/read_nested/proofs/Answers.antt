-- What the answers of the calls of bracket and clause say, once the answer is known. Assumes nothing.
use mathlib.Core.Path.{◌≡◌, sym, ap, ◌∙◌, subst}
use mathlib.Core.List.{List}
use mathlib.Core.Bool.{Bool, true, false, not}
use Prim.Native.Nat.{ℕ, ◌+◌, ◌≤◌, ◌<◌}
use native.Mathlib.Omega.{arith}
use lib.Dec.{eqb}
use lib.ListN.{length}
use Rattle.akl.specs.Reader.{fault}
use Rattle.mem_words.specs.declared.Word.{Word}
use Rattle.read_pieces.specs.Worst.{Lowest}
use Rattle.read_pieces.specs.Slots.{Slots, SlotsTo, ClauseOpened, ClauseTo}
use Rattle.read_phrases.specs.Codes.{op_of}
use Rattle.read_pieces.specs.Reads.{Piece, some_others, ReadTo, Finished}
use Rattle.read_pieces.specs.declared.Read.{Read}
use Rattle.read_pieces.specs.declared.Read.TheVariants.{Done}
use Rattle.read_nested.specs.Answers.{Answer}
use Rattle.read_operators.specs.Binding.{Operates, Mixes}

-- the answer of a function of the reader is known
pub answer_to : {p : Piece} {query : Bool} {L B S Q D : List ℕ} {O : List Word} {at k q level depth : ℕ} {B' S' Q' : List ℕ} {O' : List Word} {r : Read} (s : Read) → Answer p query L B S Q D O at k q level depth B' S' Q' O' r → r ≡ s → ReadTo p query L B S Q D O at k q level depth B' S' Q' O' s
answer_to {p} {query} {L} {B} {S} {Q} {D} {O} {at} {k} {q} {level} {depth} {B'} {S'} {Q'} {O'} {r} s x e = subst (ReadTo p query L B S Q D O at k q level depth B' S' Q' O') e x.to

pub answer_done : {p : Piece} {query : Bool} {L B S Q D : List ℕ} {O : List Word} {at k q level depth : ℕ} {B' S' Q' : List ℕ} {O' : List Word} {r : Read} (a o n f : ℕ) → Answer p query L B S Q D O at k q level depth B' S' Q' O' r → r ≡ Done a o n f → Finished p query L B S Q D O at k q level depth B' S' Q' O' a o n f
answer_done a o n f x e = answer_to (Done a o n f) x e

-- the answer of `slots`
pub slots_yes : (O : List Word) (k : ℕ) (O' : List Word) (b : Bool) → SlotsTo O k O' b → b ≡ true → Slots O k O'
slots_yes O k O' true a e = a
slots_yes O k O' false a e = absurd (let z : ◌≡◌ {A = ℕ} 0 1 = cc in omega arith)

pub slots_no : (O : List Word) (k : ℕ) (O' : List Word) (b : Bool) → SlotsTo O k O' b → b ≡ false → length O < k + 3
slots_no O k O' true a e = absurd (let z : ◌≡◌ {A = ℕ} 0 1 = cc in omega arith)
slots_no O k O' false a e = a

-- the answer of `open_clause`
pub open_yes : (O : List Word) (k count : ℕ) (O' : List Word) (b : Bool) → ClauseTo O k count O' b → b ≡ true → ClauseOpened O k count O'
open_yes O k count O' true a e = a
open_yes O k count O' false a e = absurd (let z : ◌≡◌ {A = ℕ} 0 1 = cc in omega arith)

pub open_no : (O : List Word) (k count : ℕ) (O' : List Word) (b : Bool) → ClauseTo O k count O' b → b ≡ false → length O < k + 2
open_no O k count O' true a e = absurd (let z : ◌≡◌ {A = ℕ} 0 1 = cc in omega arith)
open_no O k count O' false a e = a

-- the answer of `operates`, of the kind m
pub operates_yes : (k m : ℕ) (b : Bool) → k ≡ m → Operates k b → b ≡ true → (11 ≤ m) × (m < 14)
operates_yes k m true e h z = (omega (arith, e, h.0), omega (arith, e, h.1))
operates_yes k m false e h z = absurd (let z : ◌≡◌ {A = ℕ} 0 1 = cc in omega arith)

pub operates_no : (k m : ℕ) (b : Bool) → k ≡ m → Operates k b → b ≡ false → 11 ≤ m → m < 14 → ⊥
operates_no k m true e h z x y = absurd (let z : ◌≡◌ {A = ℕ} 0 1 = cc in omega arith)
operates_no k m false e h z x y = h (omega (arith, e, x)) (omega (arith, e, y))

-- the answer of `mixes`, of the kind m
pub mixes_at : (k m first r : ℕ) → k ≡ m → Mixes k first r → Lowest r (fault 7 (not (eqb first m)))
mixes_at k m first r e h = subst (λ (n : ℕ). Lowest r (fault 7 (not (eqb first n)))) e h

-- the answer of `others`, of the kind m
pub answer_op : {query : Bool} {L B S Q D : List ℕ} {O : List Word} {at k q level depth : ℕ} {B' S' Q' : List ℕ} {O' : List Word} {r : Read} (n m : ℕ) → n ≡ m → Answer (some_others (op_of n)) query L B S Q D O at k q level depth B' S' Q' O' r → Answer (some_others (op_of m)) query L B S Q D O at k q level depth B' S' Q' O' r
answer_op {query} {L} {B} {S} {Q} {D} {O} {at} {k} {q} {level} {depth} {B'} {S'} {Q'} {O'} {r} n m e x = subst (λ (i : ℕ). Answer (some_others (op_of i)) query L B S Q D O at k q level depth B' S' Q' O' r) e x
