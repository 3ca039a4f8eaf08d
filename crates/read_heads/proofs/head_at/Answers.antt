use mathlib.Core.Path.{ap, ◌∙◌, subst}
use Prim.Native.Nat.{◌+◌}
use native.Mathlib.Omega.{arith}
use Rattle.mem_numbers.specs.Numbers.{triples, length_triples}
use Rattle.read_phrases.specs.Phrases.{ArgumentsTo}
use Rattle.std.specs.Prelude as std
use Rattle.read_statements.specs.declared.Unparsed.{Unparsed}
use Rattle.read_grammar.specs.Grammar.{DefinitionTo}
use Rattle.read_heads.proofs.Heading.{one_odd, one_many, one_head}
use Rattle.read_heads.proofs.head_at.Goals as goal

pub overflow_add-at : goal.overflow_add-at
overflow_add-at c = (let d = subst (DefinitionTo (triples c.args.codes.now) c.args.stack.now c.args.at) c.in-Ok.is c.definition_end-e.ensures in omega (arith, d.0, d.1, length_triples c.args.codes.now))

pub returns-then-count-gt8 : goal.returns-then-count-gt8
returns-then-count-gt8 c = one_many (triples c.args.codes.now) c.args.stack.now c.args.at c.in-Ok.rest c.requires (subst (DefinitionTo (triples c.args.codes.now) c.args.stack.now c.args.at) c.in-Ok.is c.definition_end-e.ensures) c.number_at-name.result c.number_at-name.ensures c.in-To._rest c.in-To.count (subst (ArgumentsTo (triples c.args.codes.now) (c.args.at + 1)) c.in-To.is c.arguments_end-p.ensures) (omega arith)

pub overflow_mul-result : goal.overflow_mul-result
overflow_mul-result c = (let d = subst (DefinitionTo (triples c.args.codes.now) c.args.stack.now c.args.at) c.in-Ok.is c.definition_end-e.ensures in omega (arith, c.number_at-name.ensures, c.requires.small c.args.at (omega (arith, d.0, d.1))))

pub overflow_add-result : goal.overflow_add-result
overflow_add-result c = (let d = subst (DefinitionTo (triples c.args.codes.now) c.args.stack.now c.args.at) c.in-Ok.is c.definition_end-e.ensures in omega (arith, c.number_at-name.ensures, c.requires.small c.args.at (omega (arith, d.0, d.1))))

pub returns-else-count-gt8 : goal.returns-else-count-gt8
returns-else-count-gt8 c = one_head (triples c.args.codes.now) c.args.stack.now c.args.at c.in-Ok.rest c.requires (subst (DefinitionTo (triples c.args.codes.now) c.args.stack.now c.args.at) c.in-Ok.is c.definition_end-e.ensures) c.number_at-name.result c.number_at-name.ensures c.in-To._rest c.in-To.count (subst (ArgumentsTo (triples c.args.codes.now) (c.args.at + 1)) c.in-To.is c.arguments_end-p.ensures) (omega arith)

pub returns-in-Odd : goal.returns-in-Odd
returns-in-Odd c = one_odd (triples c.args.codes.now) c.args.stack.now c.args.at c.in-Ok.rest c.requires (subst (DefinitionTo (triples c.args.codes.now) c.args.stack.now c.args.at) c.in-Ok.is c.definition_end-e.ensures) c.number_at-name.result c.number_at-name.ensures (subst (ArgumentsTo (triples c.args.codes.now) (c.args.at + 1)) c.in-Odd.is c.arguments_end-p.ensures)

pub returns-in-Err-Odd : goal.returns-in-Err-Odd
returns-in-Err-Odd c = subst (DefinitionTo (triples c.args.codes.now) c.args.stack.now c.args.at) (c.in-Err-Odd.is ∙ ap (λ (e : Unparsed). std.Err e) (rw c.in-Err-Odd.is at c.in-Err-Odd.field-0-is)) c.definition_end-e.ensures

pub returns-in-Err-Short : goal.returns-in-Err-Short
returns-in-Err-Short c = subst (DefinitionTo (triples c.args.codes.now) c.args.stack.now c.args.at) (c.in-Err-Short.is ∙ ap (λ (e : Unparsed). std.Err e) (rw c.in-Err-Short.is at c.in-Err-Short.field-0-is)) c.definition_end-e.ensures
