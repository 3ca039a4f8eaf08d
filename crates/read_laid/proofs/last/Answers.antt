use mathlib.Core.Path.{refl}
use mathlib.Core.List.{◌∷◌, []}
use native.Mathlib.Omega.{arith}
use Rattle.std.specs.Prelude.{Ok}
use Rattle.std.proofs.lemmas.Result.{err_from_is_err_and}
use Rattle.mem_words.specs.Words.{length_words}
use Rattle.mem_words.specs.declared.Word.TheVariants.{End}
use Rattle.read_pieces.specs.Slots.{emit_yes, emit_no}
use Rattle.read_laid.specs.Shapes.{to_part, is_done, last_lay, last_on, err_vars}
use Rattle.read_laid.proofs.last.Goals as goal

pub emit-requires : goal.emit-requires
emit-requires c = record { value = omega arith }

pub returns-then-not-emit : goal.returns-then-not-emit
returns-then-not-emit c = record { to = let p = is_done (to_part 1 (c.args.id ∷ []) _ _ _ _ _ _ _ _ refl (Ok c.in_ok-v.v) c.in_ok-v.ensures) refl in omega (arith, p.at, p.long, (emit_no (End) c.emit.result c.emit.ensures (c.if-not-emit.true)).full) }

pub overflow_add-result : goal.overflow_add-result
overflow_add-result c = let p = is_done (to_part 1 (c.args.id ∷ []) _ _ _ _ _ _ _ _ refl (Ok c.in_ok-v.v) c.in_ok-v.ensures) refl in omega (arith, p.long, (emit_yes {w = End} c.emit.result c.emit.ensures (c.if-not-emit.false)).room, length_words c.args.out.now)

pub returns : goal.returns
returns c = last_on c.requires.0 (to_part 1 (c.args.id ∷ []) _ _ _ _ _ _ _ _ refl (Ok c.in_ok-v.v) c.in_ok-v.ensures) refl (emit_yes {w = End} c.emit.result c.emit.ensures (c.if-not-emit.false))

pub returns-in_err-v : goal.returns-in_err-v
returns-in_err-v c =
    let p = err_from_is_err_and c.from_residual.result c.from_residual.ensures.1 in
    rw (p.1, p.2) (err_vars 2 (c.args.id ∷ []) (last_lay c.args.id) _ _ _ _ _ _ _ _ (omega arith) _ c.in_err-v.ensures)
