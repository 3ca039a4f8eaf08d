-- `read_scopes::listed` meets its contract: the number is not among those passed. Assumes nothing.
use mathlib.Core.Path.{◌≡◌, sym, ap, ◌∙◌}
use Prim.Native.Nat.{ℕ}
use native.Mathlib.Omega.{arith}
use lib.ListN.{take}
use Rattle.mem_numbers.specs.Numbers.{triples}
use Rattle.read_lookups.specs.Places.{among, among_none, among_past, among_at}
use Rattle.read_lookups.proofs.listed.Goals as goal

pub loop-m-init : goal.loop-m-init
loop-m-init c = (omega arith, among_none c.args.head (triples c.args.heads.now))

pub returns-then-get-head : goal.returns-then-get-head
returns-then-get-head c = sym (among_at c.args.head (triples c.args.heads.now) c.args.k c.loop-m.m (omega arith) (omega arith) (omega (arith, c.get.ensures.is)))

pub loop-m-preserved : goal.loop-m-preserved
loop-m-preserved c = (omega arith, among_past c.args.head (triples c.args.heads.now) c.loop-m.m (omega arith) c.loop-m.invariant.1 (λ e. omega (arith, c.get.ensures.is)))

pub returns : goal.returns
returns c =
    let e : c.loop-m.m ≡ c.args.k = omega arith in
    sym (ap (λ (q : ℕ). among c.args.head (take q (triples c.args.heads.now))) (sym e) ∙ c.loop-m.invariant.1)
