-- Each test in its turn. Assumes nothing.
use mathlib.Core.Path.{refl}
use native.Mathlib.Omega.{arith}
use Rattle.store_commit.specs.Settled.{number_over, words_over, parts_over, written}
use Rattle.store_commit.proofs.settle.Goals as goal

pub returns-then-next-gt65535 : goal.returns-then-next-gt65535
returns-then-next-gt65535 c = (number_over (omega (arith, c.if-next-gt65535.true)) refl, tt)

pub returns-then-n-gt28672 : goal.returns-then-n-gt28672
returns-then-n-gt28672 c = (words_over (omega (arith, c.if-next-gt65535.false)) (omega (arith, c.if-n-gt28672.true)) refl, tt)

pub counted-p-requires : goal.counted-p-requires
counted-p-requires c = (omega (arith, c.requires.room, c.if-n-gt28672.false), omega (arith, c.if-n-gt28672.false), λ a. c.requires.fit a (omega (arith, c.if-n-gt28672.false)))

pub returns-then-p-gt2048 : goal.returns-then-p-gt2048
returns-then-p-gt2048 c = (parts_over (omega (arith, c.if-next-gt65535.false)) (omega (arith, c.if-n-gt28672.false)) (c.counted-p.ensures.1 (omega (arith, c.if-p-gt2048.true))) refl, tt)

pub commit-requires : goal.commit-requires
commit-requires c = record { store = c.requires.store; source = omega (arith, c.requires.room, c.if-n-gt28672.false); few = omega (arith, c.if-n-gt28672.false); few_old = c.requires.few_old; zeros = c.requires.zeros }

pub returns : goal.returns
returns c = (written (omega (arith, c.if-next-gt65535.false)) (omega (arith, c.if-n-gt28672.false)) (omega (arith, c.counted-p.ensures.0, c.if-p-gt2048.false)) c.commit.ensures, record { few = c.counted-p.ensures.0; limit = omega (arith, c.if-p-gt2048.false) })
