-- Names, query variables and program of a store b with m nodes, q variables and r words of a program; the configuration is not looked at.
-- Assumes nothing.
use Rattle.std.specs.Prelude.{◌≡◌, List, Bool, true, false, ℕ, ◌+◌, ◌*◌, ◌≤◌, T, length}
use Rattle.akl.specs.Syntax.{Program}
use Rattle.akl.specs.WellFormed.{program_passes}
use Rattle.mem_numbers.specs.Numbers.{triples}
use Rattle.mem_parts.specs.Parts.{cut}
use Rattle.mem_words.specs.declared.Word.{Word}
use Rattle.mem_words.specs.Words.{words}
use Rattle.layout.specs.Layout.{program_words}
use Rattle.store_form.specs.State.{number_in}
use Rattle.check_names.specs.Names.{NamesStand}
use Rattle.check_namekinds.specs.Kinds.{KindsTo}
use Rattle.check_tables.specs.Tables.{kinds_of, arities_of, def_of}
use Rattle.check_meaning.specs.Table.{def_in}
use Rattle.check_meaning.specs.Meaning.{IsProgram}

-- the table of names, the query's variables, the words of the program
unfoldable pub names_of_store : List ℕ → ℕ → List ℕ
names_of_store b m = triples (cut 18 (18 + 3 * m) b)

unfoldable pub variables_of_store : List ℕ → ℕ → List ℕ
variables_of_store b q = triples (cut 159789 (159789 + 3 * q) b)

unfoldable pub rules_of_store : List ℕ → ℕ → ℕ → List Word
rules_of_store b m r = words (cut (18 + 3 * m) (18 + 3 * m + 3 * r) b)

pub record CanRules (b : List ℕ) (m r q : ℕ) (L : List ℕ) : Type 0 where
  pub store : 245853 ≤ length b
  pub working : 524288 ≤ length L
  pub some : 1 ≤ m
  pub names : m ≤ 20489
  pub rules : r ≤ 40960
  pub together : m + r ≤ 53257
  pub variables : q ≤ 16

-- They stand, and the tables in the working slice X have the kinds of the names and the definitions.
pub record RulesStand (N v : List ℕ) (R : List Word) (m : ℕ) (X : List ℕ) : Type 0 where
  pub stand : NamesStand N v
  pub program : Program
  pub is : IsProgram N R program
  pub kinds : KindsTo N (kinds_of X) (length N)
  pub definitions : (p k : ℕ) → def_of m (arities_of X) p k ≡ def_in N program p k

-- or they do not
abbrev pub RulesTold : List ℕ → List ℕ → List Word → ℕ → List ℕ → Bool → Type 0
RulesTold N v R m X true = RulesStand N v R m X
RulesTold N v R m X false = (P : Program) → NamesStand N v → R ≡ program_words (number_in N) P → T (program_passes P) → ⊥

pub record RulesChecked (b : List ℕ) (m r q : ℕ) (L X : List ℕ) (t : Bool) : Type 0 where
  pub told : RulesTold (names_of_store b m) (variables_of_store b q) (rules_of_store b m r) m X t
  pub long : length X ≡ length L
