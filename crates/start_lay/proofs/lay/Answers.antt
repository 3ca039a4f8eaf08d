use native.Mathlib.Omega.{arith}
use Rattle.mem_numbers.specs.Numbers.{shorts, length_triples}
use Rattle.mem_words.specs.Words.{words, length_words}
use Rattle.store_form.proofs.Bytes.{length_numbers_bytes}
use mathlib.Core.Path.{ap, ◌∙◌}
use mathlib.Core.List.{[], ◌∷◌}
use lib.ListN.{length}
use Rattle.start_lay.specs.Laid.{laid_out, few_grown}
use borrow.Author.Rules.{rules}
use Rattle.start_lay.proofs.lay.Goals as goal

pub widen-requires : goal.widen-requires
widen-requires c = record { source = c.requires.variables; room = omega (arith, c.requires.few_variables, c.zeros-variables.ensures, length_triples c.zeros-variables.result) }

pub first-n-requires : goal.first-n-requires
first-n-requires c = record { source = c.requires.goal; short = omega (arith, c.requires.few_words); few = omega (arith, c.requires.few_variables); room = omega (arith, c.requires.few_words, c.zeros-conf.ensures, length_words c.zeros-conf.result) }

pub fill-requires : goal.fill-requires
fill-requires c =
    let p = c.requires in
    let n = few_grown (words c.args.goal.now) c.args.b c.args.v c.requires.goal c.first-n.ensures in
    record {
      store = p.store;
      header = ap length c.header_bytes-header.ensures ∙ length_numbers_bytes (2 ∷ c.args.m ∷ c.args.a ∷ c.args.v ∷ c.first-n.result ∷ c.args.v ∷ []);
      names = p.names;
      rules = p.rules;
      together = p.together;
      variables = omega (arith, p.few_variables, c.zeros-variables.ensures, c.widen.auto.out);
      few_variables = p.few_variables;
      words = omega (arith, p.few_words, n, p.goal, c.zeros-conf.ensures, c.first-n.auto.out);
      few_words = omega (arith, p.few_words, n);
    }

pub returns : goal.returns
returns c =
    let a = c.args in
    let p = c.requires in
    let n = few_grown (words a.goal.now) a.b a.v p.goal c.first-n.ensures in
    laid_out a.store.now c.header_bytes-header.result a.cells.now a.rules.now (shorts a.order.now) _ _ _ (words a.goal.now) a.m a.a a.v a.b c.first-n.result _ p
    c.widen.ensures (omega (arith, p.few_variables, c.zeros-variables.ensures, c.widen.auto.out))
    c.first-n.ensures (omega (arith, p.few_words, n, c.zeros-conf.ensures, c.first-n.auto.out))
    c.header_bytes-header.ensures c.fill.ensures.0 c.fill.ensures.1
