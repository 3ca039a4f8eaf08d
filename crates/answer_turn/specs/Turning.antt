-- What one turn of the traversal starts with, and what it leaves. Assumes nothing.
-- With N for the table of names, W, P and T for the solver's words, positions and cells, S and K for the stack, M for the numbers.
use Rattle.std.specs.Prelude.{◌≡◌, Bool, true, false, Option, Some, None, List, ◌++◌, ℕ, ◌+◌, ◌/◌, ◌%◌, ◌<◌, length, get_or}
use Rattle.akl.specs.Base.{bytes, decimal}
use Rattle.akl.specs.Answers.{Term, unbound, unknowns, position}
use Rattle.mem_variables.specs.declared.Variable.{Variable}
use Rattle.mem_words.specs.declared.Word.{Word}
use Rattle.mem_words.specs.declared.Word.TheVariants.{Bad}
use Rattle.read_nodes.specs.Spell.{named, Lower}
use Rattle.solve_cells.specs.Cells.{rep, Up}
use Rattle.solve_classes.specs.Means.{Apps}
use Rattle.solve_fields.specs.Read.{num_of, Vars}
use Rattle.solve_explores.specs.Search.{cell_of, Acyclic}
use Rattle.work_tables.specs.Tables.{Laid}
use Rattle.answer_text.specs.Tabled.{whole_term}
use Rattle.answer_walk.specs.Walk.{Going, Back, nodes, turns}
use Rattle.answer_walk.specs.Numbered.{Numbered}
use Rattle.answer_walk.specs.Stack.{frames, stacked, Child, Stacked}
use Rattle.answer_emit.specs.Put.{Put}
use Rattle.answer_stack.specs.Slots.{numbers_of, places_of, begun_of, Answered}

-- the term of a variable
unfoldable pub term_in : List ℕ → List Word → List ℕ → List ℕ → ℕ → Term
term_in N W P T = whole_term (named N) W P T (length P)

-- what is known of the tables
pub record Shown (N : List ℕ) (W : List Word) (P T : List ℕ) : Type 0 where
  pub acyclic : Acyclic W P T
  pub apps : Apps T (length P)
  pub up : Up T
  pub vars : Vars W 65535
  pub classes : (x : ℕ) → x < 65535 → rep T x < 65535
  pub names : Lower N (length N)
  pub labels : (i : ℕ) → num_of (get_or W i Bad) < length N

-- what a turn hands back of the variable that is to be written next: is there one, and which?
abbrev pub goes : Option Variable → Bool
goes (Some x) = true
goes None = false

abbrev pub comes : Option Variable → ℕ
comes (Some x) = x.0
comes None = 0

-- what is to come: x, and then what the frames hold; or this alone
abbrev pub Next : (ℕ → Term) → List Word → List ℕ → List ℕ → Bool → ℕ → ℕ → List ℕ → List ℕ → List ℕ → List ℕ → Type 0
Next f W S K true x h s F D A = Going f x (frames W S K h) s F D A × Child W x (stacked S h) × (x < 65535)
Next f W S K false x h s F D A = Back f (frames W S K h) s F D A

-- the traversal on its way: s was met, D is written; F and A are the unknowns and the text of the whole
pub record Run (N : List ℕ) (W : List Word) (P T S K M : List ℕ) (going : Bool) (x h c : ℕ) (s F D A : List ℕ) : Type 0 where
  pub stack : Stacked W P T S K h
  pub numbers : Numbered M s c 65535
  pub next : Next (term_in N W P T) W S K going x h s F D A

pub record Ready (N : List ℕ) (W : List Word) (P T S K M : List ℕ) (going : Bool) (x h c : ℕ) : Type 0 where
  pub seen : List ℕ
  pub final : List ℕ
  pub done : List ℕ
  pub all : List ℕ
  pub run : Run N W P T S K M going x h c seen final done all

-- how many turns are left
abbrev pub left : (ℕ → Term) → List Word → List ℕ → List ℕ → Bool → ℕ → ℕ → ℕ
left f W S K true x h = nodes (f x) + turns f (frames W S K h)
left f W S K false x h = turns f (frames W S K h)

-- a turn puts some bytes, and goes on with fewer turns left
pub record Step (N : List ℕ) (W : List Word) (P T S K : List ℕ) (O : List ℕ) (going : Bool) (x h at : ℕ) (w : Bool) (S' K' M' O' : List ℕ) (going' : Bool) (x' h' c' at' : ℕ) (s F D A : List ℕ) : Type 0 where
  pub seen : List ℕ
  pub more : List ℕ
  pub run : Run N W P T S' K' M' going' x' h' c' seen F (D ++ more) A
  pub put : Put more w O at O' at'
  pub less : left (term_in N W P T) W S' K' going' x' h' < left (term_in N W P T) W S K going x h

pub record Turned (N : List ℕ) (W : List Word) (P T S K M O : List ℕ) (going : Bool) (x h c at : ℕ) (w : Bool) (S' K' M' O' : List ℕ) (going' : Bool) (x' h' c' at' : ℕ) : Type 0 where
  pub step : (s F D A : List ℕ) → Run N W P T S K M going x h c s F D A → Step N W P T S K O going x h at w S' K' M' O' going' x' h' c' at' s F D A

-- x is bound to the application at p
pub record AtBound (P T : List ℕ) (x p : ℕ) : Type 0 where
  pub bound : cell_of T x % 4 ≡ 2
  pub place : p ≡ get_or P (cell_of T x / 256) 0
  pub small : p < 4294967296

-- an unbound class may be written, and was: with its number among those that were met, itself included
pub record CanNumber (L : List ℕ) (r c : ℕ) : Type 0 where
  pub laid : Laid L
  pub low : r < 65535
  pub seen : List ℕ
  pub numbers : Numbered (numbers_of L) seen c 65535

pub record Named (L : List ℕ) (r c : ℕ) (O : List ℕ) (at : ℕ) (w : Bool) (X O' : List ℕ) (c' at' : ℕ) : Type 0 where
  pub numbers : (s : List ℕ) → Numbered (numbers_of L) s c 65535 → Numbered (numbers_of X) (unknowns (unbound r) s) c' 65535
  pub put : (s : List ℕ) → Numbered (numbers_of L) s c 65535 → Put (bytes "_" ++ decimal (position r (unknowns (unbound r) s))) w O at O' at'
  pub place : places_of X ≡ places_of L
  pub begun : begun_of X ≡ begun_of L
  pub rest : Answered L X
