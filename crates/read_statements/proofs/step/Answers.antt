use mathlib.Core.Path.{subst}
use native.Mathlib.Omega.{arith}
use Rattle.mem_numbers.specs.Numbers.{triples}
use Rattle.read_phrases.specs.Phrases.{HiddenTo, SimpleAt}
use Rattle.read_statements.proofs.Stepping.{step_atom, step_program, step_odd, step_full, step_bracket_odd, step_bracket}
use Rattle.read_statements.proofs.step.Goals as goal

pub simple_at-s-requires : goal.simple_at-s-requires
simple_at-s-requires c = c.requires.known

pub follow-requires : goal.follow-requires
follow-requires c = record { height = c.requires.height; inside = (subst (SimpleAt (triples c.args.codes.now) c.args.at) c.in-Atom.is c.simple_at-s.ensures).0.inside }

pub follow-requires-in-Program : goal.follow-requires-in-Program
follow-requires-in-Program c = record { height = c.requires.height; inside = (subst (SimpleAt (triples c.args.codes.now) c.args.at) c.in-Program.is c.simple_at-s.ensures).0.inside }

pub returns-then-stack-h : goal.returns-then-stack-h
returns-then-stack-h c = step_full (triples c.args.codes.now) c.args.stack.now c.args.at c.args.h _ (subst (SimpleAt (triples c.args.codes.now) c.args.at) c.in-Bracket.is c.simple_at-s.ensures) (omega arith)

pub returns-in-Atom : goal.returns-in-Atom
returns-in-Atom c = step_atom (triples c.args.codes.now) c.args.stack.now c.args.at c.args.h _ c.in-Atom.rest c.in-Atom._kind _ (subst (SimpleAt (triples c.args.codes.now) c.args.at) c.in-Atom.is c.simple_at-s.ensures) c.follow.ensures

pub returns-in-Program : goal.returns-in-Program
returns-in-Program c = step_program (triples c.args.codes.now) c.args.stack.now c.args.at c.args.h _ c.in-Program._name c.in-Program._first c.in-Program._count c.in-Program.rest _ (subst (SimpleAt (triples c.args.codes.now) c.args.at) c.in-Program.is c.simple_at-s.ensures) c.follow-in-Program.ensures

pub returns-in-To : goal.returns-in-To
returns-in-To c = step_bracket (triples c.args.codes.now) c.args.stack.now c.args.at c.args.h _ _ _ (subst (SimpleAt (triples c.args.codes.now) c.args.at) c.in-Bracket.is c.simple_at-s.ensures) (omega arith) (subst (HiddenTo (triples c.args.codes.now) _) c.in-To.is c.hidden_end-p.ensures)

pub returns-in-Odd-p : goal.returns-in-Odd-p
returns-in-Odd-p c = step_bracket_odd (triples c.args.codes.now) c.args.stack.now c.args.at c.args.h _ (subst (SimpleAt (triples c.args.codes.now) c.args.at) c.in-Bracket.is c.simple_at-s.ensures) (subst (HiddenTo (triples c.args.codes.now) _) c.in-Odd-p.is c.hidden_end-p.ensures)

pub returns-in-Odd : goal.returns-in-Odd
returns-in-Odd c = step_odd (triples c.args.codes.now) c.args.stack.now c.args.at c.args.h (subst (SimpleAt (triples c.args.codes.now) c.args.at) c.in-Odd.is c.simple_at-s.ensures)
