-- What is said of a text where the tables have room for it. Assumes nothing.
use Rattle.std.specs.Prelude.{◌≡◌, refl, Bool, true, false, List, ℕ, ◌+◌, ◌/◌, ◌<◌, ◌≤◌, length}
use Rattle.std.proofs.Common.{ap, sym, ◌∙◌, subst, arith}
use Rattle.std.proofs.Math.Option.{Option, some, none}
use Rattle.akl.specs.Base.{◌>>=◌}
use Rattle.akl.specs.Token.{Token, tokens}
use Rattle.mem_numbers.specs.Numbers.{shorts, triples, length_shorts, length_triples}
use Rattle.read_texts.specs.declared.Readable.{Readable}
use Rattle.read_texts.specs.declared.Readable.TheVariants.{Yes, Long, Odd, Short}
use Rattle.read_lexicon.specs.Lexicon.{Lexicon, Begins, Begun}
use Rattle.read_texts.specs.Texts.{Answered}

-- `limit` is the most bytes that a text may have, `parse` what its tokens are by the grammar.
abbrev pub Checked : {A : Type 0} → ℕ → (List Token → Option A) → List ℕ → Readable → Type 0
Checked {A} limit parse text (Yes k m) = (length text ≤ limit) × (t : A) × ((tokens text >>= parse) ≡ some t)
Checked limit parse text Long = limit < length text
Checked limit parse text Odd = (length text ≤ limit) × ((tokens text >>= parse) ≡ none)
Checked limit parse text Short = ⊥

-- the tables' bytes, for the codes, the cells, the first children, the next siblings and the stack
pub record Wide (K N H S D : List ℕ) : Type 0 where
  pub codes : 49152 ≡ length K
  pub cells : 49200 ≡ length N
  pub heads : 32800 ≡ length H
  pub nexts : 32800 ≡ length S
  pub stack : 16384 ≡ length D

pub wide : (K N H S D : List ℕ) → 49152 ≡ length K → 49200 ≡ length N → 32800 ≡ length H → 32800 ≡ length S → 16384 ≡ length D → Wide K N H S D
wide K N H S D k n h s d = record { codes = k; cells = n; heads = h; nexts = s; stack = d }

module _ {codes cells heads nexts stack : List ℕ} (W : Wide codes cells heads nexts stack) {N' H' S' : List ℕ} where
  -- there is room for the two names
  pub begun : (r : Bool) → Begun (triples cells) (shorts heads) (shorts nexts) N' H' S' r → r ≡ false → ⊥
  begun true B e = absurd (let z : ◌≡◌ {A = ℕ} 0 1 = cc in omega arith)
  begun false B e =
      B.begins (record { cells = omega (arith, W.cells, length_triples cells); heads = omega (arith, W.heads, length_shorts heads); nexts = omega (arith, W.nexts, length_shorts nexts); count = omega arith })

  pub lexicon : {r : Bool} → Begun (triples cells) (shorts heads) (shorts nexts) N' H' S' r → r ≡ true → Lexicon N' H' S' 9
  lexicon B e = subst (Begins (triples cells) (shorts heads) (shorts nexts) N' H' S') e B.begins

  -- and for every text
  pub checked : {A : Type 0} (limit : ℕ) (parse : List Token → Option A) {text K'' N'' H'' S'' : List ℕ} {b : Bool} (r : Readable) → limit ≤ 16384 → Begun (triples cells) (shorts heads) (shorts nexts) N' H' S' b → Answered limit parse text (triples codes) N' H' S' 9 stack K'' N'' H'' S'' r → Checked limit parse text r
  checked limit parse (Yes k m) h B Z = (Z.answer.fits, Z.answer.tree, Z.answer.reads)
  checked limit parse Long h B Z = Z.answer
  checked limit parse Odd h B Z = Z.answer
  checked limit parse Short h B Z =
      let l = Z.answer.0 in
      Z.answer.1
      (omega (arith, W.codes, length_triples codes))
      (omega (arith, W.stack))
      (record { cells = omega (arith, W.cells, length_triples cells, B.kept.cells); heads = omega (arith, W.heads, length_shorts heads, B.kept.heads); nexts = omega (arith, W.nexts, length_shorts nexts, B.kept.nexts); count = omega arith })
