-- `read_tokens::word_end` meets its contract: the run goes on as long as the bytes pass the test. Assumes nothing.
use mathlib.Core.Path.{◌≡◌, sym, ◌∙◌, subst}
use native.Mathlib.Omega.{arith}
use lib.ListN.{length}
use Rattle.akl.specs.Token.{word_class}
use Rattle.read_tokens.specs.Runs.{Ends, runs_start, runs_more, runs_stop, runs_end}
use Rattle.read_tokens.proofs.word_end.Goals as goal

pub loop-i-init : goal.loop-i-init
loop-i-init c = runs_start word_class c.args.s.now c.args.at c.requires

pub loop-i-preserved : goal.loop-i-preserved
loop-i-preserved c = runs_more word_class _ _ _ c.loop-i.invariant (omega arith) (sym c.if-not-is_word.false ∙ c.is_word.ensures)

pub returns-then-not-is_word : goal.returns-then-not-is_word
returns-then-not-is_word c = runs_stop word_class _ _ _ c.loop-i.invariant (omega arith) (sym c.if-not-is_word.true ∙ c.is_word.ensures)

pub returns : goal.returns
returns c =
    let e : c.loop-i.i ≡ length c.args.s.now = omega arith in
    subst (Ends word_class c.args.s.now c.args.at) e (runs_end word_class _ _ _ c.loop-i.invariant (omega arith))
