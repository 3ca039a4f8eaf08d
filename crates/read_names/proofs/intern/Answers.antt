-- `read_names::intern` meets its contract: one byte after the other. Assumes nothing.
use mathlib.Core.Path.{refl, ◌∙◌}
use Prim.Native.Nat.{◌+◌}
use native.Mathlib.Omega.{arith}
use Rattle.read_names.specs.Interning.{named_none, named_more, intern_full, intern_at}
use Rattle.read_trie.specs.Outcome.{kept_none, kept_twice}
use Rattle.read_names.proofs.intern.Goals as goal

pub loop-i-init : goal.loop-i-init
loop-i-init c = (omega arith, named_none _ c.requires.trie, kept_none _ _ _, refl, refl, refl)

pub overflow_add-b : goal.overflow_add-b
overflow_add-b c = omega (arith, c.requires.inside)

pub bounds-text-at : goal.bounds-text-at
bounds-text-at c = omega (arith, c.requires.inside)

pub child_of-requires : goal.child_of-requires
child_of-requires c = record { trie = c.loop-i.invariant.1.trie; inside = c.loop-i.invariant.1.inside }

pub returns-in_err-q : goal.returns-in_err-q
returns-in_err-q c = rw c.from_residual.ensures (intern_full c.loop-i.invariant.1 c.loop-i.invariant.2 (omega arith) c.in_err-q.ensures)

pub loop-i-preserved : goal.loop-i-preserved
loop-i-preserved c =
    let C = c.in_ok-q.ensures in
    let A = c.loop-i.invariant in (
      omega arith,
      named_more A.1 C.put (omega (arith, c.shared_slice_known-1.given (c.args.at + c.loop-i.i))) (omega (arith, c.requires.inside)),
      kept_twice A.2 C.kept,
      c.child_of.auto.cells ∙ A.3,
      c.child_of.auto.heads ∙ A.4,
      c.child_of.auto.nexts ∙ A.5,
    )

pub returns : goal.returns
returns c = intern_at c.loop-i.invariant.1 c.loop-i.invariant.2 (omega arith)
