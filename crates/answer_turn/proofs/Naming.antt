-- The number of an unbound class, new or met before. Assumes nothing.
use mathlib.Core.Path.{◌≡◌, refl, ap, sym, subst}
use mathlib.Core.Bool.{Bool}
use mathlib.Core.List.{List, [], ◌∷◌, ◌++◌}
use Prim.Native.Nat.{ℕ, suc, ◌+◌, ◌-◌, ◌<◌}
use native.Mathlib.Omega.{arith}
use lib.ListN.{get_or}
use Rattle.akl.specs.Base.{bytes, decimal}
use Rattle.akl.specs.Answers.{unbound, unknowns, position}
use Rattle.work_tables.specs.Tables.{Laid}
use Rattle.answer_walk.specs.Numbered.{Numbered}
use Rattle.answer_walk.proofs.Numbering.{number_old, number_new, number_put}
use Rattle.answer_emit.specs.Put.{Put}
use Rattle.answer_emit.proofs.Put.{put_then, put_as}
use Rattle.answer_stack.specs.Slots.{numbers_of, PutNumber, same_answered, length_numbers}
use Rattle.answer_turn.specs.Turning.{Named}
use Rattle.answer_turn.proofs.Steps.{mark_byte}

spelled : {O O₁ O' : List ℕ} {at a at' : ℕ} {w : Bool} (m n : ℕ) → n ≡ m → Put (95 ∷ []) w O at O₁ a → Put (decimal m) w O₁ a O' at' → Put (bytes "_" ++ decimal n) w O at O' at'
spelled {O} {O₁} {O'} {at} {a} {at'} {w} m n e p q = put_then (put_as (bytes "_") (sym mark_byte) p) (put_as (decimal n) (ap decimal (sym e)) q)

pub named_new : {L X O O₁ O' : List ℕ} {r c at a at' : ℕ} {w : Bool} → Laid L → r < 65535 → get_or (numbers_of L) r 0 ≡ 0 → PutNumber L r (c + 1) X → Put (95 ∷ []) w O at O₁ a → Put (decimal c) w O₁ a O' at' → Named L r c O at w X O' (c + 1) at'
named_new {L} {X} {O} {O₁} {O'} {r} {c} {at} {a} {at'} {w} h l z n p q = record {
  numbers = λ s k. number_put r k z l (omega (arith, length_numbers h)) n.number;
  put = λ s k. spelled c (position r (unknowns (unbound r) s)) (number_new r k z) p q;
  place = n.place;
  begun = n.begun;
  rest = n.rest;
}

pub named_old : {L O O₁ O' : List ℕ} {r c e at a at' : ℕ} {w : Bool} → e ≡ get_or (numbers_of L) r 0 → (e ≡ 0 → ⊥) → Put (95 ∷ []) w O at O₁ a → Put (decimal (e - 1)) w O₁ a O' at' → Named L r c O at w L O' c at'
named_old {L} {O} {O₁} {O'} {r} {c} {e} {at} {a} {at'} {w} i n p q = record {
  numbers = λ s k. subst (λ (u : List ℕ). Numbered (numbers_of L) u c 65535) (sym (number_old r (e - 1) k one).0) k;
  put = λ s k. spelled (e - 1) (position r (unknowns (unbound r) s)) (number_old r (e - 1) k one).1 p q;
  place = refl;
  begun = refl;
  rest = same_answered;
}
  where
    one : get_or (numbers_of L) r 0 ≡ suc (e - 1)
    one = omega (arith, i, n)
