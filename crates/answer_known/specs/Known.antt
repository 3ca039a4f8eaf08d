-- The lengths that are known while an answer is measured, behind what the traversal keeps. Assumes nothing.
--   from      table                                                 entries   bytes each
--   479,232   one more than the length of each application's text     2,048   4
use Rattle.std.specs.Prelude.{◌≡◌, refl, List, ℕ, ◌+◌, ◌-◌, ◌*◌, get_or}
use Rattle.std.proofs.Common.{ap, sym, ◌∙◌, subst, arith}
use Rattle.mem_numbers.specs.Numbers.{shorts, triples, longs, zero_longs}
use Rattle.mem_numbers.specs.Stored.{Stored}
use Rattle.mem_words.specs.declared.Word.{Word}
use Rattle.mem_words.specs.Words.{words}
use Rattle.mem_parts.specs.Parts.{cut, Outside, outside_wide, outside_then, cut_left, cut_right, Set4, Zeroed}
use Rattle.work_tables.specs.Tables.{cells_of, pos_of, log_of, Laid, Logged}
use Rattle.answer_walk.specs.Numbered.{Numbered}
use Rattle.answer_stack.specs.Slots.{numbers_of, places_of, begun_of, Answered}

unfoldable pub known_of : List ℕ → List ℕ
known_of L = longs (cut 479232 487424 L)

-- nothing else was changed than the known lengths and what the traversal keeps
abbrev pub Counted : List ℕ → List ℕ → Type 0
Counted L X = Outside 335872 487424 L X

pub same_counted : {L : List ℕ} → Counted L L
same_counted = record { before = refl; after = refl; long = refl }

pub counted_of : {L X : List ℕ} → Answered L X → Counted L X
counted_of p = outside_wide 335872 487424 (omega arith) (omega arith) p

-- what the traversal changes leaves the lengths as they are
pub known_kept : {L X : List ℕ} → Answered L X → known_of X ≡ known_of L
unfolding known_of
known_kept p = ap longs (cut_right 479232 487424 (omega arith) p)

-- the solver's tables are as they were
pub counted_cell : {L X : List ℕ} → Laid L → Counted L X → cells_of X ≡ cells_of L
unfolding cells_of
counted_cell h p = ap triples (cut_left 16384 212992 (omega arith) (omega arith) (omega (arith, h.long)) p)

pub counted_pos : {L X : List ℕ} → Laid L → Counted L X → pos_of X ≡ pos_of L
unfolding pos_of
counted_pos h p = ap longs (cut_left 253952 262144 (omega arith) (omega arith) (omega (arith, h.long)) p)

pub counted_log : {L X : List ℕ} (k : ℕ) → Logged k → Laid L → Counted L X → log_of k X ≡ log_of k L
unfolding log_of
counted_log k l h p = ap words (cut_left 262144 (262144 + 3 * k) (omega arith) (omega (arith, l.most)) (omega (arith, h.long)) p)

-- so what holds of them holds before a change and after it
pub counted_at : {L X : List ℕ} (k : ℕ) (Q : List Word → List ℕ → List ℕ → Type 0) → Logged k → Laid L → Counted L X → Q (log_of k X) (pos_of X) (cells_of X) → Q (log_of k L) (pos_of L) (cells_of L)
counted_at {L} {X} k Q l h p q = subst (λ (W : List Word). Q W (pos_of L) (cells_of L)) (counted_log k l h p) (subst (λ (P : List ℕ). Q (log_of k X) P (cells_of L)) (counted_pos h p) (subst (Q (log_of k X) (pos_of X)) (counted_cell h p) q))

pub counted_to : {L X : List ℕ} (k : ℕ) (Q : List Word → List ℕ → List ℕ → Type 0) → Logged k → Laid L → Counted L X → Q (log_of k L) (pos_of L) (cells_of L) → Q (log_of k X) (pos_of X) (cells_of X)
counted_to {L} {X} k Q l h p q = subst (λ (W : List Word). Q W (pos_of X) (cells_of X)) (sym (counted_log k l h p)) (subst (λ (P : List ℕ). Q (log_of k L) P (cells_of X)) (sym (counted_pos h p)) (subst (Q (log_of k L) (pos_of L)) (sym (counted_cell h p)) q))

pub record PutKnown (L : List ℕ) (k v : ℕ) (X : List ℕ) : Type 0 where
  pub known : Stored (known_of L) k v (known_of X)
  pub number : numbers_of X ≡ numbers_of L
  pub place : places_of X ≡ places_of L
  pub begun : begun_of X ≡ begun_of L
  pub rest : Counted L X

-- no length is known
pub record NoneKnown (G : List ℕ) : Type 0 where
  pub zero : (k : ℕ) → get_or G k 0 ≡ 0

pub put_known : {L X : List ℕ} {k v : ℕ} → Laid L → Set4 479232 487424 L k v X → PutKnown L k v X
unfolding known_of numbers_of places_of begun_of
put_known h s = record {
  known = s.part;
  number = ap shorts (cut_left 335872 466944 (omega arith) (omega arith) (omega (arith, h.long)) s.rest);
  place = ap longs (cut_left 466944 475136 (omega arith) (omega arith) (omega (arith, h.long)) s.rest);
  begun = ap shorts (cut_left 475136 479232 (omega arith) (omega arith) (omega (arith, h.long)) s.rest);
  rest = outside_wide 335872 487424 (omega arith) (omega arith) s.rest;
}

pub zero_known : {L X : List ℕ} → Zeroed 479232 487424 L X → NoneKnown (known_of X)
unfolding known_of
zero_known z = record { zero = λ k. ap (λ (l : List ℕ). get_or (longs l) k 0) z.part ∙ zero_longs (487424 - 479232) k }

-- the numbers are as they were when the lengths are forgotten
pub zero_numbered : {L X s : List ℕ} {c m : ℕ} → Laid L → Zeroed 479232 487424 L X → Numbered (numbers_of L) s c m → Numbered (numbers_of X) s c m
unfolding numbers_of
zero_numbered {L} {X} {s} {c} {m} h z n = subst (λ (l : List ℕ). Numbered l s c m) (sym (ap shorts (cut_left 335872 466944 (omega arith) (omega arith) (omega (arith, h.long)) z.rest))) n

pub zero_counted : {L M X : List ℕ} → Answered L M → Zeroed 479232 487424 M X → Counted L X
zero_counted p z = outside_then (counted_of p) (outside_wide 335872 487424 (omega arith) (omega arith) z.rest)
