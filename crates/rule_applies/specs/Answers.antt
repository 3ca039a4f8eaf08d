-- The solver's answer where a rule asks for one, and what follows for the rule. Assumes nothing.
use Rattle.std.specs.Prelude.{◌≡◌, Bool, true, false, not, List, ◌++◌, ℕ}
use Rattle.constraint.specs.Constraint.{Store}
use Rattle.constraint.specs.Solve.{satisfiable?, quiet?}
use Rattle.akl.specs.Base.{Name, is_some, size}
use Rattle.akl.specs.Syntax.{Stmt, atom, call, comp, hide, choice, Program, defined}
use Rattle.akl.specs.Configuration.{Kind, goal, member, Node, or, and, stmt, choice_box, guard, Nodes, Ctx, env}
use Rattle.mem_words.specs.declared.Word.{Word}
use Rattle.rule_effects.specs.Standing.{Stands}
use Rattle.rule_applies.specs.declared.Asks.{Asks}
use Rattle.rule_applies.specs.declared.Asks.TheVariants.{Never, Always, Quiet, Satisfiable}

-- does the rule apply, q being the answer?
abbrev pub verdict : Asks → Bool → Bool
verdict Never q = false
verdict Always q = true
verdict (Quiet g) q = q
verdict (Satisfiable g) q = not q

-- the answers on the and-box that stands at g in the words W of a configuration
pub record IsQuiet (num : Name → ℕ) (Z W : List Word) (g : ℕ) (q : Bool) : Type 0 where
  pub answer : (χ : Ctx goal) (vs : List ℕ) (σ : Store) (ms : Nodes member) → Stands num χ (and vs σ ms) Z W g → q ≡ quiet? vs (env χ) σ

pub record IsSatisfiable (num : Name → ℕ) (Z W : List Word) (g : ℕ) (q : Bool) : Type 0 where
  pub answer : (χ : Ctx goal) (vs : List ℕ) (σ : Store) (ms : Nodes member) → Stands num χ (and vs σ ms) Z W g → q ≡ satisfiable? (env χ ++ σ)

-- q answers what is asked
abbrev pub Answers : (Name → ℕ) → List Word → List Word → Asks → Bool → Type 0
Answers num Z W Never q = Unit
Answers num Z W Always q = Unit
Answers num Z W (Quiet g) q = IsQuiet num Z W g q
Answers num Z W (Satisfiable g) q = IsSatisfiable num Z W g q

-- is the definition of a program atom there? Other places ask for none.
abbrev pub statement_defined : Program → Stmt → Bool
statement_defined P (atom c) = true
statement_defined P (call p xs) = is_some (defined P p (size xs))
statement_defined P (comp a b) = true
statement_defined P (hide n a) = true
statement_defined P (choice op cs) = true

unfoldable pub node_defined : Program → {k : Kind} → Node k → Bool
node_defined P (or ns) = true
node_defined P (and vs σ ms) = true
node_defined P (stmt s) = statement_defined P s
node_defined P (choice_box op gs) = true
node_defined P (guard g b) = true
