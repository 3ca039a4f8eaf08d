-- The heads of a program's definitions. L is the table of tokens, T the stack, D the table of heads.
use Rattle.std.specs.Prelude.{◌≡◌, ◌⊎◌, List, Bool, ℕ, ◌/◌, ◌%◌, ◌≤◌, ◌<◌, length, take}
use Rattle.std.proofs.Math.Option.{some, none}
use Rattle.constraint.specs.Constraint.{In}
use Rattle.akl.specs.Base.{Name, size}
use Rattle.akl.specs.Token.{Token}
use Rattle.akl.specs.Grammar.{Definition}
use Rattle.akl.specs.Parse.{parse_program}
use Rattle.akl.specs.Reader.{program_faults}
use Rattle.akl.specs.Reader as akl
use Rattle.descent.specs.Descent.{the_definition}
use Rattle.read_phrases.specs.Codes.{Known, number_at, toks}
use Rattle.read_phrases.specs.Phrases.{Reserved}
use Rattle.read_lookups.specs.Places.{repeated}
use Rattle.read_pieces.specs.Reads.{heads}
use Rattle.read_heads.specs.declared.Head.{Head}
use Rattle.read_heads.specs.declared.Head.TheVariants as head
use Rattle.read_heads.specs.declared.Headed.{Headed}
use Rattle.read_heads.specs.declared.Headed.TheVariants.{All, Many, Odd, Short}

pub record CanHead (L : List ℕ) : Type 0 where
  pub known : Known L
  pub small : (i : ℕ) → i < length L → number_at L i < 65536

-- h is the head of the definition from `at` up to `rest`
pub record HeadAt (L : List ℕ) (at h rest : ℕ) : Type 0 where
  pub forward : at < rest
  pub inside : rest ≤ length L
  pub number : h / 256 ≡ number_at L at
  pub small : h < 16777216
  pub says : (w : ℕ → Name) → Reserved w L → (d : Definition) × (the_definition (toks w L at) ≡ some (d, toks w L rest)) × (d.head ≡ w (h / 256)) × (size d.parameters ≡ h % 256)

abbrev pub HeadTo : List ℕ → List ℕ → ℕ → Head → Type 0
HeadTo L T at (head.At h rest) = HeadAt L at h rest
HeadTo L T at head.Many = (w : ℕ → Name) → Reserved w L → (d : Definition) × (us : List Token) × (the_definition (toks w L at) ≡ some (d, us)) × (8 < size d.parameters)
HeadTo L T at head.Odd = (w : ℕ → Name) → Reserved w L → the_definition (toks w L at) ≡ none
HeadTo L T at head.Short = length T < length L

-- the first k heads of D are those of the program; t says whether one is there twice
pub record Heads (L D : List ℕ) (k : ℕ) (t : Bool) : Type 0 where
  pub few : k ≤ 128
  pub inside : k ≤ length D
  pub again : repeated (take k D) ≡ t
  pub numbers : (b : ℕ) → ((i : ℕ) → i < length L → number_at L i < b) → (c : ℕ) → In c (take k D) → c / 256 < b
  pub says : (w : ℕ → Name) → Reserved w L → (ds : List Definition) → parse_program (toks w L 0) ≡ some ds → akl.heads ds ≡ heads w (take k D)

abbrev pub Answer : List ℕ → List ℕ → List ℕ → List ℕ → Headed → Type 0
Answer L T D D' (All k t) = Heads L D' k t
Answer L T D D' Many = (w : ℕ → Name) → Reserved w L → (ds : List Definition) → parse_program (toks w L 0) ≡ some ds → In 3 (program_faults ds)
Answer L T D D' Odd = (w : ℕ → Name) → Reserved w L → (ds : List Definition) → parse_program (toks w L 0) ≡ some ds → ⊥
Answer L T D D' Short = (length T < length L) ⊎ (length D < 128)

pub record HeadedTo (L T D D' : List ℕ) (r : Headed) : Type 0 where
  pub long : length D' ≡ length D
  pub answer : Answer L T D D' r
