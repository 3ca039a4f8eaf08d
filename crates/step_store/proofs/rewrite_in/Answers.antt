-- The part came back with the words built. Assumes nothing.
use Rattle.mem_words.specs.Words.{words}
use mathlib.Core.Path.{◌∙◌}
use Rattle.mem_parts.specs.Parts.{cut, length_cut, outside_put}
use Rattle.rule_rewrite.specs.Rewriting.{effect_words}
use Rattle.step_store.proofs.Regions.{built_back}
use Rattle.step_store.proofs.rewrite_in.Goals as goal

pub rewrite-requires : goal.rewrite-requires
unfolding cut
rewrite-requires c = (c.requires.0.there, c.requires.0.numbers, c.requires.0.first, c.requires.0.last)

pub returns : goal.returns
unfolding cut
returns c = (built_back c.args.lo c.args.hi c.args.w.now c.rewrite.new.out _ c.rewrite.result (effect_words (words c.args.t.now) (words c.args.d.now) c.args.r c.args.i c.args.next) c.requires.1 c.requires.2 c.rewrite.auto.out c.rewrite.ensures, outside_put c.args.lo c.args.hi c.args.w.now c.rewrite.new.out c.requires.1 c.requires.2 (c.rewrite.auto.out ∙ length_cut c.args.lo c.args.hi c.args.w.now c.requires.2))
