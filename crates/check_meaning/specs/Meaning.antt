-- What words that pass stand for. Assumes nothing.
use Rattle.std.specs.Prelude.{◌≡◌, List, [], ℕ, T}
use Rattle.std.proofs.Math.Option.{some}
use Rattle.akl.specs.Syntax.{Program}
use Rattle.akl.specs.Configuration.{goal, Node}
use Rattle.akl.specs.WellFormed.{is_or, program_passes, statements_pass}
use Rattle.layout.specs.Layout.{program_words}
use Rattle.layout.specs.Reading.{read_program}
use Rattle.mem_words.specs.declared.Word.{Word}
use Rattle.mem_words.specs.Form.{NoBad}
use Rattle.read_nodes.specs.Spell.{named}
use Rattle.store_form.specs.State.{number_in}
use Rattle.store_words.specs.Boxes.{node_words}
use Rattle.store_words.specs.Reading.{read_node}
use Rattle.check_shapes.specs.Passed.{heads, listed}
use Rattle.check_meaning.specs.Table.{def_in}

-- a program that passes, in names of the table N; the heads in its words are those of its definitions
pub record IsProgram (N : List ℕ) (ws : List Word) (P : Program) : Type 0 where
  pub passes : T (program_passes P)
  pub laid : ws ≡ program_words (number_in N) P
  pub reads : read_program (named N) ws ≡ some P
  pub good : NoBad ws
  pub defines : (q k : ℕ) → listed (heads ws) q k ≡ def_in N P q k

-- a configuration whose statements pass beside the program P
pub record IsConfig (N : List ℕ) (P : Program) (ws : List Word) (n : Node goal) : Type 0 where
  pub passes : T (statements_pass n P)
  pub top : T (is_or n)
  pub laid : ws ≡ node_words (number_in N) n []
  pub reads : read_node (named N) goal ws ≡ some (n, [])
  pub good : NoBad ws
