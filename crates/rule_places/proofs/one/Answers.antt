-- By the three bytes. Assumes nothing.
use Prim.Native.Nat.{◌+◌, ◌*◌}
use native.Mathlib.Omega.{arith}
use Rattle.mem_words.specs.Words.{word}
use Rattle.mem_tallies.specs.Tallies.{first_no, first_yes}
use Rattle.rule_places.specs.Pieces.{place_one, one_not, one_high, one_low}
use Rattle.rule_places.proofs.one.Goals as goal

pub returns-then-m-eq0 : goal.returns-then-m-eq0
returns-then-m-eq0 c = (first_no c.args.m _ (omega arith), omega arith)

pub returns-then-c-ne4 : goal.returns-then-c-ne4
returns-then-c-ne4 c =
    let v = c.args.lo + c.args.hi * 256 in
    (first_yes c.args.m (place_one (word c.args.c v)) 0 (λ e. omega arith) (one_not c.args.c v (λ e. omega arith)), omega arith)

pub returns-then-hi-ne0 : goal.returns-then-hi-ne0
returns-then-hi-ne0 c =
    let v = c.args.lo + c.args.hi * 256 in
    (first_yes c.args.m (place_one (word c.args.c v)) 0 (λ e. omega arith) (one_high c.args.c v (omega arith) (omega arith)), omega arith)

pub returns-then-lo-lt7 : goal.returns-then-lo-lt7
returns-then-lo-lt7 c =
    let v = c.args.lo + c.args.hi * 256 in
    (first_yes c.args.m (place_one (word c.args.c v)) 1 (λ e. omega arith) (one_low c.args.c v (omega arith) (omega arith)), omega arith)

pub returns-else-lo-lt7 : goal.returns-else-lo-lt7
returns-else-lo-lt7 c =
    let v = c.args.lo + c.args.hi * 256 in
    (first_yes c.args.m (place_one (word c.args.c v)) 0 (λ e. omega arith) (one_high c.args.c v (omega arith) (omega arith)), omega arith)
