-- What a program's bytes come to: the definition's refusal, or its program, with the heads of its definitions in D' and their
-- words in O'. N, H, S are the trie of names.
use Rattle.std.specs.Prelude.{◌≡◌, List, [], map, ℕ, ◌+◌, ◌*◌, ◌/◌, ◌≤◌, ◌<◌, length, take}
use Rattle.std.proofs.Math.Option.{some}
use Rattle.constraint.specs.Constraint.{In}
use Rattle.akl.specs.Base.{Name, refused, ok}
use Rattle.akl.specs.Limits.{program_bytes}
use Rattle.akl.specs.Syntax.{Program}
use Rattle.akl.specs.Token.{Token, tokens}
use Rattle.akl.specs.Reader.{read_program}
use Rattle.mem_words.specs.declared.Word.{Word}
use Rattle.read_nodes.specs.Spell.{named}
use Rattle.read_nodes.specs.Trie.{Grown, Roomy, Kept}
use Rattle.read_lexed.specs.Marks.{marks}
use Rattle.layout.specs.Layout.{program_words}
use Rattle.read_pieces.specs.Reads.{Spelling, heads}
use Rattle.read_lexicon.specs.Lexicon.{Lexicon}
use Rattle.refusals.specs.Refusals.{number_of}
use Rattle.read_programs.specs.declared.Programmed.{Programmed}
use Rattle.read_programs.specs.declared.Programmed.TheVariants.{Read, Refused, Short}

-- the program P was read: its heads and its words
pub record Says (N' D' : List ℕ) (O' : List Word) (d k m : ℕ) (P : Program) : Type 0 where
  pub heads : heads (named N') (take d D') ≡ map (λ d. (d.name, d.arity)) P
  pub words : (num : Name → ℕ) → Spelling (named N') num m → take k O' ≡ program_words num P

pub record Taken (text N : List ℕ) (n : ℕ) (N' H' S' D' : List ℕ) (O' : List Word) (d k m : ℕ) : Type 0 where
  pub lexicon : Lexicon N' H' S' m
  pub grown : Grown N n N' m
  pub few : m ≤ n + length text
  -- marks make no node, and each has a byte
  pub spare : (ts : List Token) → tokens text ≡ some ts → m + marks ts ≤ n + length text
  pub inside : k ≤ length O'
  pub room : d ≤ length D'
  pub numbers : (c : ℕ) → In c (take d D') → c / 256 < m
  pub program : Program
  pub reads : read_program text ≡ ok program
  pub says : Says N' D' O' d k m program

-- sizes at which no table is too short: an entry for each byte, 4 words for each and 8, and 128 heads
pub record Ample (text K N H S T : List ℕ) (n : ℕ) (D : List ℕ) (O : List Word) (B Z Q : List ℕ) : Type 0 where
  pub codes : length text ≤ length K
  pub stack : length text ≤ length T
  pub nodes : Roomy N H S (n + length text)
  pub heads : 128 ≤ length D
  pub binds : n + length text ≤ length B
  pub saves : length text ≤ length Z
  pub order : 16 ≤ length Q
  pub words : 4 * length text + 8 ≤ length O

module _ (text K N H S T : List ℕ) (n : ℕ) (D : List ℕ) (O : List Word) (B Z Q : List ℕ) (N' H' S' D' : List ℕ) (O' : List Word) where
  abbrev pub Answer : Programmed → Type 0
  Answer (Read d k m) = Taken text N n N' H' S' D' O' d k m
  Answer (Refused r) = read_program text ≡ refused (number_of r)
  Answer Short = (length text ≤ program_bytes) × (Ample text K N H S T n D O B Z Q → ⊥)

  pub record ProgramTo (r : Programmed) : Type 0 where
    pub kept : Kept N H S N' H' S'
    pub answer : Answer r
