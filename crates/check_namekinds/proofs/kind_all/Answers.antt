-- Kinds stand below i, marks from i on. Assumes nothing.
use mathlib.Core.Path.{◌≡◌, ◌∙◌, subst}
use native.Mathlib.Omega.{arith}
use lib.ListN.{length}
use Rattle.mem_numbers.specs.Numbers.{triples}
use Rattle.check_nodetables.specs.Tables.{kinds_of, outside_same, get_kind, set_kind, put_kind}
use Rattle.check_namekinds.specs.Kinds.{KindsTo}
use Rattle.check_namekinds.proofs.Kinding.{kinding_more}
use Rattle.check_namekinds.proofs.kind_all.Goals as goal

pub loop-i-init : goal.loop-i-init
loop-i-init c = record { laid = c.requires.0; high = omega arith; kinds = λ j g. absurd (omega arith); marks = λ j g l. c.requires.2 j l; rest = outside_same }

pub get1-s-requires : goal.get1-s-requires
get1-s-requires c = get_kind c.loop-i.invariant.laid (omega (arith, c.count-n.ensures.is, c.requires.1.most))

pub kind-k-requires : goal.kind-k-requires
unfolding kinds_of
kind-k-requires c = record { lower = c.requires.1.rooted.lower; node = omega (arith, c.count-n.ensures.is); mark = c.get1-s.ensures.is ∙ c.loop-i.invariant.marks c.loop-i.i (omega arith) (omega (arith, c.count-n.ensures.is)) }

pub put1-requires : goal.put1-requires
put1-requires c = set_kind c.loop-i.invariant.laid (omega (arith, c.count-n.ensures.is, c.requires.1.most)) c.kind-k.ensures.small

pub loop-i-preserved : goal.loop-i-preserved
loop-i-preserved c = kinding_more c.requires.1 c.count-n.ensures.is c.loop-i.invariant (omega arith) c.kind-k.ensures (put_kind c.put1.ensures)

pub returns : goal.returns
returns c = let e : c.loop-i.i ≡ length (triples c.args.cells.now) = omega (arith, c.count-n.ensures.is, c.loop-i.invariant.high) in (subst (KindsTo (triples c.args.cells.now) (kinds_of c.loop-i.w)) e c.loop-i.invariant.kinds, c.loop-i.invariant.rest)
