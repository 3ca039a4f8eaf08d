-- By the word. Assumes nothing.
use mathlib.Core.Path.{refl, sym, ◌∙◌}
use Rattle.mem_words.specs.Words.{words}
use Rattle.rule_kinds.specs.Kinds.{takes_is}
use Rattle.rule_kinds.proofs.kind.Goals as goal

pub of_place-requires : goal.of_place-requires
of_place-requires c = c.requires

pub returns-in-End : goal.returns-in-End
returns-in-End c = takes_is (words c.args.ws.now) c.args.i _ _ (sym c.in-End.is ∙ c.word_at-w.ensures.is) refl

pub returns-in-Free : goal.returns-in-Free
returns-in-Free c = takes_is (words c.args.ws.now) c.args.i _ _ (sym c.in-Free.is ∙ c.word_at-w.ensures.is) refl

pub returns-in-Level : goal.returns-in-Level
returns-in-Level c = takes_is (words c.args.ws.now) c.args.i _ _ (sym c.in-Level.is ∙ c.word_at-w.ensures.is) refl

pub returns-in-Num : goal.returns-in-Num
returns-in-Num c = takes_is (words c.args.ws.now) c.args.i _ _ (sym c.in-Num.is ∙ c.word_at-w.ensures.is) refl

pub returns-in-Place : goal.returns-in-Place
returns-in-Place c = takes_is (words c.args.ws.now) c.args.i _ _ (sym c.in-Place.is ∙ c.word_at-w.ensures.is) c.of_place.ensures

pub returns-in-Inner : goal.returns-in-Inner
returns-in-Inner c = takes_is (words c.args.ws.now) c.args.i _ _ (sym c.in-Inner.is ∙ c.word_at-w.ensures.is) refl

pub returns-in-Bad : goal.returns-in-Bad
returns-in-Bad c = takes_is (words c.args.ws.now) c.args.i _ _ (sym c.in-Bad.is ∙ c.word_at-w.ensures.is) refl
