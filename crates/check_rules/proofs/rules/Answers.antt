-- The parts of the store are lent to each test. Assumes nothing.
use mathlib.Core.Path.{sym, ◌∙◌}
use native.Mathlib.Omega.{arith}
use Prim.Native.Nat.{◌+◌, ◌*◌}
use Rattle.mem_numbers.specs.Numbers.{triples}
use Rattle.mem_parts.specs.Parts.{cut}
use Rattle.mem_words.specs.Words.{words}
use Rattle.check_nodetables.specs.Tables.{kinds_of}
use Rattle.check_rules.specs.Rules.{names_of_store, variables_of_store, rules_of_store}
use Rattle.check_rules.proofs.Telling.{cut_small, names_refused, rules_told, long_names, long_variables, long_rules}
use borrow.Author.Rules.{rules}
use Rattle.check_rules.proofs.rules.Goals as goal

pub names-requires : goal.names-requires
unfolding cut
names-requires c =
    let s = c.args.store.now in
    let p = c.requires in
    (record { long = p.working }, record { some = omega (arith, long_names s c.args.m (omega (arith, p.store, p.names)), p.some); most = omega (arith, long_names s c.args.m (omega (arith, p.store, p.names)), p.names); few = omega (arith, long_variables s c.args.q (omega (arith, p.store, p.variables)), p.variables) })

pub returns-then-not-names : goal.returns-then-not-names
unfolding cut names_of_store variables_of_store rules_of_store
returns-then-not-names c = record { told = names_refused (triples (cut 18 (18 + 3 * c.args.m) c.args.store.now)) (triples (cut 159789 (159789 + 3 * c.args.q) c.args.store.now)) (words (cut (18 + 3 * c.args.m) (18 + 3 * c.args.m + 3 * c.args.r) c.args.store.now)) c.args.m (kinds_of c.names.new.w) c.names.new.w c.names.result (c.if-not-names.true) c.names.ensures.0; long = c.names.auto.w }

pub program-requires : goal.program-requires
unfolding cut
program-requires c =
    let s = c.args.store.now in
    let p = c.requires in
    record { tables = record { long = omega (arith, p.working, c.names.auto.w); names = p.names }; short = omega (arith, long_rules s (18 + 3 * c.args.m) c.args.r (omega (arith, p.store, p.together)), p.rules) }

pub returns : goal.returns
unfolding cut names_of_store variables_of_store rules_of_store
returns c =
    let s = c.args.store.now in
    let p = c.requires in
    record {
      told = rules_told (triples (cut 18 (18 + 3 * c.args.m) c.args.store.now)) (triples (cut 159789 (159789 + 3 * c.args.q) c.args.store.now)) (words (cut (18 + 3 * c.args.m) (18 + 3 * c.args.m + 3 * c.args.r) c.args.store.now)) c.args.m c.names.new.w c.program.new.w c.names.result c.program.result (sym (long_names s c.args.m (omega (arith, p.store, p.names)))) (cut_small (18 + 3 * c.args.m) (18 + 3 * c.args.m + 3 * c.args.r) s (λ i. omega (arith, c.type_inv.store i))) (omega (arith, p.working, c.names.auto.w)) p.names (c.if-not-names.false) c.names.ensures.0 c.program.ensures;
      long = c.program.auto.w ∙ c.names.auto.w;
    }
