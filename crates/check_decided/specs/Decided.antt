-- Refusal 9, put together from what code decides, each test on the bytes or on what they are cut into. Assumes nothing.
use Rattle.std.specs.Prelude.{◌≡◌, List, [], ◌++◌, Bool, ◌&&◌, ℕ, ◌≤◌, T, ltb, length}
use Rattle.akl.specs.Base.{all, range}
use Rattle.akl.specs.Syntax.{Program}
use Rattle.akl.specs.Configuration.{goal, Node}
use Rattle.akl.specs.Parts.{parts}
use Rattle.akl.specs.WellFormed.{program_passes, is_or, statements_pass, no_interference, in_scope, query_locals, all_numbers}
use Rattle.layout.specs.Layout.{program_words}
use Rattle.store_words.specs.Boxes.{node_words}
use Rattle.store_form.specs.Sizes.{store_length}
use Rattle.store_form.specs.State.{number_in}
use Rattle.check_names.specs.Names.{NamesStand}
use Rattle.check_held.specs.Checks.{numbers_in, variables_in, next_in, names_at, rules_at, variables_at, words_at, Counts, Unused}

-- locals, scopes, the q variables of the query and the next number
unfoldable pub scoped : Node goal → ℕ → ℕ → Bool
scoped n q next = no_interference n && in_scope n [] && query_locals n q && all (λ x. ltb x next) (range 0 q ++ all_numbers n)

-- b holds the program P and the configuration n, and they are well formed.
pub record Decided (limit : ℕ) (b : List ℕ) (P : Program) (n : Node goal) : Type 0 where
  -- the header, and what is not used
  pub long : store_length limit ≤ length b
  pub counts : Counts limit (numbers_in b)
  pub unused : Unused limit b
  -- the table of names, and the query's variables
  pub names : NamesStand (names_at b) (variables_at b)
  -- the program's words
  pub rules : rules_at b ≡ program_words (number_in (names_at b)) P
  pub program : T (program_passes P)
  -- the configuration's words
  pub words : words_at b ≡ node_words (number_in (names_at b)) n []
  pub top : T (is_or n)
  pub statements : T (statements_pass n P)
  pub scopes : T (scoped n (variables_in b) (next_in b))
  pub fit : parts n ≤ limit
