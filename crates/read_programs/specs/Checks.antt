-- What the tokens L of a program come to. T is the stack, D the table of heads, B and S those of bindings and saved values, O
-- the words.
use Rattle.std.specs.Prelude.{◌≡◌, ◌⊎◌, List, map, ℕ, ◌+◌, ◌*◌, ◌/◌, ◌≤◌, ◌<◌, length, take}
use Rattle.std.proofs.Math.Option.{some, none}
use Rattle.constraint.specs.Constraint.{In}
use Rattle.akl.specs.Base.{Name, least}
use Rattle.akl.specs.Grammar.{Definition}
use Rattle.akl.specs.Parse.{parse_program}
use Rattle.akl.specs.Reader.{program_faults, definition_of}
use Rattle.akl.specs.Reader as akl
use Rattle.mem_words.specs.declared.Word.{Word}
use Rattle.read_phrases.specs.Codes.{Known, number_at, toks}
use Rattle.read_phrases.specs.Phrases.{Reserved}
use Rattle.layout.specs.Layout.{program_words}
use Rattle.read_pieces.specs.Reads.{Spelling, heads}
use Rattle.refusals.specs.Refusals.{number_of}
use Rattle.read_programs.specs.declared.Programmed.{Programmed}
use Rattle.read_programs.specs.declared.Programmed.TheVariants.{Read, Refused, Short}

pub record CanCheck (L B Q : List ℕ) : Type 0 where
  pub known : Known L
  pub ids : (i : ℕ) → i < length L → number_at L i < length B
  pub cells : length B ≤ 65536
  pub few : length L < 60000
  pub order : 16 ≤ length Q

module _ (L T D B S : List ℕ) (O : List Word) (names : ℕ) where
  -- what holds of the program's definitions, whatever the names' numbers spell
  abbrev pub Whole : ((ℕ → Name) → (Name → ℕ) → List Definition → Type 0) → Type 0
  Whole P = (w : ℕ → Name) (num : Name → ℕ) (ds : List Definition) → Reserved w L → Spelling w num (length B) → parse_program (toks w L 0) ≡ some ds → P w num ds

  -- no refusal is due; the heads and the words
  pub record Fine (D' : List ℕ) (O' : List Word) (d k : ℕ) (w : ℕ → Name) (num : Name → ℕ) (ds : List Definition) : Type 0 where
    pub none_due : least (program_faults ds) ≡ none
    pub heads : akl.heads ds ≡ heads w (take d D')
    pub words : take k O' ≡ program_words num (map definition_of ds)

  abbrev pub Checked : List ℕ → List Word → Programmed → Type 0
  Checked D' O' (Read d k m) = (m ≡ names) × (d ≤ length D') × (k ≤ length O') × ((c : ℕ) → In c (take d D') → c / 256 < length B) × Whole (λ w num ds. Fine D' O' d k w num ds)
  Checked D' O' (Refused r) = Whole (λ w num ds. least (program_faults ds) ≡ some (number_of r))
  Checked D' O' Short = (length T < length L) ⊎ (length D < 128) ⊎ (length O < 4 * length L + 8) ⊎ (length S < length L)

  pub record CheckedTo (D' : List ℕ) (O' : List Word) (r : Programmed) : Type 0 where
    pub answer : Checked D' O' r
