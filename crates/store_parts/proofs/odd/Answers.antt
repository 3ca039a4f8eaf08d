-- By the three bytes. Assumes nothing.
use mathlib.Core.Path.{refl}
use Prim.Native.Nat.{◌+◌, ◌*◌}
use native.Mathlib.Omega.{arith}
use Rattle.mem_words.specs.Words.{word}
use Rattle.mem_tallies.specs.Tallies.{first_no, first_yes}
use Rattle.store_parts.specs.Pieces.{odd_one, odd_yes, odd_hides, odd_no, odd_other, odd_inner, odd_wide}
use Rattle.store_parts.proofs.odd.Goals as goal

pub returns-then-m-eq0 : goal.returns-then-m-eq0
returns-then-m-eq0 c = (first_no c.args.m _ (omega arith), omega arith)

pub returns-then-hi-ne0 : goal.returns-then-hi-ne0
returns-then-hi-ne0 c =
    let v = c.args.lo + c.args.hi * 256 in
    (first_yes c.args.m (odd_one (word c.args.c v)) 0 (λ e. omega arith) (odd_wide c.args.c v (omega arith)), omega arith)

pub returns-then-c-ne5 : goal.returns-then-c-ne5
returns-then-c-ne5 c =
    let v = c.args.lo + c.args.hi * 256 in
    (first_yes c.args.m (odd_one (word c.args.c v)) 0 (λ e. omega arith) (odd_other c.args.c v (λ e. omega arith)), omega arith)

pub returns-then-lo-eq0 : goal.returns-then-lo-eq0
returns-then-lo-eq0 c =
    let v = c.args.lo + c.args.hi * 256 in
    (first_yes c.args.m (odd_one (word c.args.c v)) 1 (λ e. omega arith) (odd_inner c.args.c v 1 (omega arith) (odd_yes v 0 (omega arith) refl)), omega arith)

pub returns-then-lo-lt8 : goal.returns-then-lo-lt8
returns-then-lo-lt8 c =
    let v = c.args.lo + c.args.hi * 256 in
    (first_yes c.args.m (odd_one (word c.args.c v)) 0 (λ e. omega arith) (odd_inner c.args.c v 0 (omega arith) (odd_no v (λ e. omega arith) (λ e. omega arith) (λ e. omega arith))), omega arith)

pub returns-then-lo-lt10 : goal.returns-then-lo-lt10
returns-then-lo-lt10 c =
    let v = c.args.lo + c.args.hi * 256 in
    (first_yes c.args.m (odd_one (word c.args.c v)) 1 (λ e. omega arith) (odd_inner c.args.c v 1 (omega arith) (odd_hides v (omega arith) (omega arith))), omega arith)

pub returns-else-lo-lt10 : goal.returns-else-lo-lt10
returns-else-lo-lt10 c =
    let v = c.args.lo + c.args.hi * 256 in
    (first_yes c.args.m (odd_one (word c.args.c v)) 0 (λ e. omega arith) (odd_inner c.args.c v 0 (omega arith) (odd_no v (λ e. omega arith) (λ e. omega arith) (λ e. omega arith))), omega arith)
