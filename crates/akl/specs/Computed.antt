-- Every definition that a computed row goes through: `unfolding everything` computes with them all.
use Rattle.std.proofs.Math.Decide.{ℕ_discrete}
use Rattle.constraint.specs.Tree
use Rattle.constraint.specs.Constraint
use Rattle.constraint.specs.Solve
use Rattle.akl.specs.Base
use Rattle.akl.specs.Syntax
use Rattle.akl.specs.Token
use Rattle.akl.specs.Parse
use Rattle.akl.specs.Reader
use Rattle.akl.specs.StepsText
use Rattle.akl.specs.Configuration
use Rattle.akl.specs.Places
use Rattle.akl.specs.Parts
use Rattle.akl.specs.Table
use Rattle.akl.specs.Rules
use Rattle.akl.specs.Stability
use Rattle.akl.specs.Step
use Rattle.akl.specs.Answers
use Rattle.akl.specs.Record
use Rattle.akl.specs.WellFormed

unfoldable pub everything : Unit {0}
unfolding ℕ_discrete Tree.label_dec Constraint.vars_all
    Solve.untold Solve.tell_all Solve.solve Solve.elem Solve.nub Solve.distinct Solve.keep Solve.any_in Solve.blocked_by Solve.round Solve.rounds Solve.empty?
    Solve.keys Solve.acyclic? Solve.sat_of Solve.satisfiable? Solve.free? Solve.parameter? Solve.all? Solve.untouched? Solve.then_quiet?
    Solve.after_quiet? Solve.quiet_fresh? Solve.top Solve.rename Solve.quiet?
    Base.bytes_from Base.bytes Base.any Base.all Base.flat Base.nth Base.size Base.range Base.same Base.among Base.repeats Base.first Base.last Base.once
    Base.least Base.decimal_from Base.decimal Syntax.defined Syntax.open_level Syntax.open_var Syntax.opened
    Token.class_of Token.span Token.tokens_in Token.tokens
    Parse.variables Parse.arguments Parse.hidden Parse.equation Parse.named Parse.statement Parse.enough Parse.parse_query Parse.definition
    Parse.definitions Parse.parse_program
    Reader.mixed Reader.statement_faults Reader.statement_free Reader.query_variables Reader.statement_of Reader.twice Reader.program_faults
    Reader.read_program Reader.query_faults Reader.read_query StepsText.digits_value StepsText.decimal_number StepsText.line StepsText.lines StepsText.read_steps
    Configuration.◌+n◌ Configuration.plug Configuration.env Configuration.start_config
    Places.places Places.place Places.count Places.place_number Places.holder_number Places.inside Parts.statement_parts Parts.parts
    Table.table Table.rule_row Table.statement_kind Table.or_kind Table.kind_at Rules.guarded_goals Rules.hidden_in Rules.effect
    Stability.disturbs Stability.quiescent Stability.locals Stability.stores_down Stability.stable
    Step.argument_fits Step.argument_stable Step.within_limits Step.step Step.steps
    Answers.answers Answers.terms Answers.variable_term Answers.unknowns Answers.position Answers.term_text Answers.bindings_text Answers.answer_text
    Answers.answer Answers.all_answers Answers.state Record.start Record.checked_run Record.two_lines Record.answer_line Record.printed Record.runcheck
    WellFormed.spelled_name WellFormed.spelled_digits WellFormed.spelled_variable WellFormed.spelled_predicate WellFormed.statement_fits WellFormed.depth
    WellFormed.statement_passes WellFormed.definition_passes WellFormed.program_passes WellFormed.statements_pass WellFormed.disjoint
    WellFormed.no_interference WellFormed.list_numbers WellFormed.numbers WellFormed.guard_boxes WellFormed.in_scope WellFormed.query_locals
    WellFormed.all_numbers WellFormed.names_pass WellFormed.well_formed
everything = tt
