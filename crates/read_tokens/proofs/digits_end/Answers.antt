-- `read_tokens::digits_end` meets its contract: the run goes on as long as the bytes pass the test. Assumes nothing.
use mathlib.Core.Path.{◌≡◌, sym, ◌∙◌, subst}
use native.Mathlib.Omega.{arith}
use lib.ListN.{length}
use Rattle.akl.specs.Token.{digit_class}
use Rattle.read_tokens.specs.Runs.{Ends, runs_start, runs_more, runs_stop, runs_end}
use Rattle.read_tokens.proofs.digits_end.Goals as goal

pub loop-i-init : goal.loop-i-init
loop-i-init c = runs_start digit_class c.args.s.now c.args.at c.requires

pub loop-i-preserved : goal.loop-i-preserved
loop-i-preserved c = runs_more digit_class _ _ _ c.loop-i.invariant (omega arith) (sym c.if-not-is_digit.false ∙ c.is_digit.ensures)

pub returns-then-not-is_digit : goal.returns-then-not-is_digit
returns-then-not-is_digit c = runs_stop digit_class _ _ _ c.loop-i.invariant (omega arith) (sym c.if-not-is_digit.true ∙ c.is_digit.ensures)

pub returns : goal.returns
returns c =
    let e : c.loop-i.i ≡ length c.args.s.now = omega arith in
    subst (Ends digit_class c.args.s.now c.args.at) e (runs_end digit_class _ _ _ c.loop-i.invariant (omega arith))
