-- The header is the first 18 bytes. Assumes nothing.
use mathlib.Core.Path.{◌≡◌, sym}
use native.Mathlib.Omega.{arith}
use lib.ListN.{length, take}
use lib.Seq.{length-take-le}
use Rattle.mem_numbers.specs.Numbers.{triples, length_triples}
use Rattle.store_form.specs.Sizes.{header_length}
use Rattle.check_held.specs.Checks.{numbers_in}
use Rattle.check_header.proofs.read.Goals as goal

pub slice_bounds-numbers-end : goal.slice_bounds-numbers-end
slice_bounds-numbers-end c = sym (length-take-le 18 c.args.store.now c.requires.0)

pub numbers-requires : goal.numbers-requires
numbers-requires c = let l = length-take-le 18 c.args.store.now c.requires.0 in let t = length_triples (take 18 c.args.store.now) in let z : length (triples (take 18 c.args.store.now)) ≡ 6 = omega (arith, l, t) in (z, c.requires.1)

pub returns : goal.returns
unfolding numbers_in header_length
returns c = c.numbers.ensures
