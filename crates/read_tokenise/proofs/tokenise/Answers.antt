-- `read_tokenise::tokenise` meets its contract: token by token, with the names of the codes before kept. Assumes nothing.
use mathlib.Core.Path.{refl, ◌∙◌}
use native.Mathlib.Omega.{arith}
use Rattle.read_lexed.specs.Table.{sofar_none, sofar_end, sofar_bad, sofar_codes, sofar_names, sofar_more}
use Rattle.read_tokenise.proofs.tokenise.Goals as goal

pub loop-kind-init : goal.loop-kind-init
loop-kind-init c = (sofar_none _ _ _ _ _ _ c.requires, refl, refl, refl, refl)

pub returns-in-End : goal.returns-in-End
returns-in-End c = sofar_end c.loop-kind.invariant.0 (rw c.in-End.is at c.next-next.ensures)

pub returns-in-Bad : goal.returns-in-Bad
returns-in-Bad c = sofar_bad c.loop-kind.invariant.0 (rw c.in-Bad.is at c.next-next.ensures)

pub returns-then-count-k : goal.returns-then-count-k
returns-then-count-k c = sofar_codes c.loop-kind.invariant.0 _ _ _ _ (rw c.in-Token.is at c.next-next.ensures) (omega arith)

pub code-requires : goal.code-requires
code-requires c =
    let R = (rw c.in-Token.is at c.next-next.ensures) in
    record { intern = record { trie = c.loop-kind.invariant.0.trie; inside = omega (arith, R.forward.past, R.forward.inside) }; some = R.forward.some }

pub returns-in_default : goal.returns-in_default
returns-in_default c = sofar_names c.loop-kind.invariant.0 _ _ _ _ (rw c.in-Token.is at c.next-next.ensures) (rw c.in_default.is at c.code.ensures)

pub put-requires-clause-can : goal.put-requires-clause-can
put-requires-clause-can c =
    let E = (rw c.in-Some.is at c.code.ensures) in
    record { inside = omega arith; small = omega (arith, E.code.fit.number, E.code.trie.room.count) }

pub overflow_add-k : goal.overflow_add-k
overflow_add-k c = omega arith

pub loop-kind-smaller : goal.loop-kind-smaller
loop-kind-smaller c =
    let R = (rw c.in-Token.is at c.next-next.ensures) in
    omega (arith, R.forward.behind, R.forward.some, R.forward.past, R.forward.inside)

pub loop-kind-preserved : goal.loop-kind-preserved
loop-kind-preserved c =
    let R = (rw c.in-Token.is at c.next-next.ensures) in
    let E = (rw c.in-Some.is at c.code.ensures) in
    let A = c.loop-kind.invariant in (
      sofar_more A.0 _ _ _ _ R E (omega arith) c.put.ensures,
      c.put.auto.b ∙ A.1,
      c.code.auto.cells ∙ A.2,
      c.code.auto.heads ∙ A.3,
      c.code.auto.nexts ∙ A.4,
    )
