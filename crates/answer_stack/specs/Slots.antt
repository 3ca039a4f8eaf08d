-- What the traversal of an answer keeps in the working slice, behind the solver's log. Assumes nothing.
--   from      table                                                 entries   bytes each
--   335,872   numbers of unknowns, one entry for each class          65,536   2
--   466,944   the stack: applications, by their positions in the log   2,048   4
--             (answer_turn) or by their numbers (answer_visit)
--   475,136   the stack: how many arguments of each were begun        2,048   2
use Rattle.std.specs.Prelude.{◌≡◌, refl, List, ℕ, ◌+◌, ◌-◌, ◌*◌, ◌/◌, ◌<◌, length, get_or}
use Rattle.std.proofs.Common.{ap, sym, ◌∙◌, subst, arith}
use Rattle.mem_numbers.specs.Numbers.{shorts, triples, longs, length_shorts, zero_shorts}
use Rattle.mem_numbers.specs.Stored.{Stored}
use Rattle.mem_words.specs.declared.Word.{Word}
use Rattle.mem_words.specs.Words.{words}
use Rattle.mem_parts.specs.Parts.{cut, length_cut, Outside, outside_wide, outside_then, cut_left, cut_right, CanGet, CanSet, Set2, Set4, Zeroed}
use Rattle.work_tables.specs.Tables.{cells_of, pos_of, log_of, Laid, Logged, CanRead, CanWrite}

unfoldable pub numbers_of : List ℕ → List ℕ
numbers_of L = shorts (cut 335872 466944 L)

unfoldable pub places_of : List ℕ → List ℕ
places_of L = longs (cut 466944 475136 L)

unfoldable pub begun_of : List ℕ → List ℕ
begun_of L = shorts (cut 475136 479232 L)

-- nothing else was changed
abbrev pub Answered : List ℕ → List ℕ → Type 0
Answered L X = Outside 335872 479232 L X

pub same_answered : {L : List ℕ} → Answered L L
same_answered = record { before = refl; after = refl; long = refl }

-- the solver's tables are as they were
pub answered_cell : {L X : List ℕ} → Laid L → Answered L X → cells_of X ≡ cells_of L
unfolding cells_of
answered_cell h p = ap triples (cut_left 16384 212992 (omega arith) (omega arith) (omega (arith, h.long)) p)

pub answered_pos : {L X : List ℕ} → Laid L → Answered L X → pos_of X ≡ pos_of L
unfolding pos_of
answered_pos h p = ap longs (cut_left 253952 262144 (omega arith) (omega arith) (omega (arith, h.long)) p)

pub answered_log : {L X : List ℕ} (k : ℕ) → Logged k → Laid L → Answered L X → log_of k X ≡ log_of k L
unfolding log_of
answered_log k l h p = ap words (cut_left 262144 (262144 + 3 * k) (omega arith) (omega (arith, l.most)) (omega (arith, h.long)) p)

-- so what holds of them holds before a change and after it
pub answered_at : {L X : List ℕ} (k : ℕ) (Q : List Word → List ℕ → List ℕ → Type 0) → Logged k → Laid L → Answered L X → Q (log_of k X) (pos_of X) (cells_of X) → Q (log_of k L) (pos_of L) (cells_of L)
answered_at {L} {X} k Q l h p q = subst (λ (W : List Word). Q W (pos_of L) (cells_of L)) (answered_log k l h p) (subst (λ (P : List ℕ). Q (log_of k X) P (cells_of L)) (answered_pos h p) (subst (Q (log_of k X) (pos_of X)) (answered_cell h p) q))

pub answered_to : {L X : List ℕ} (k : ℕ) (Q : List Word → List ℕ → List ℕ → Type 0) → Logged k → Laid L → Answered L X → Q (log_of k L) (pos_of L) (cells_of L) → Q (log_of k X) (pos_of X) (cells_of X)
answered_to {L} {X} k Q l h p q = subst (λ (W : List Word). Q W (pos_of X) (cells_of X)) (sym (answered_log k l h p)) (subst (λ (P : List ℕ). Q (log_of k L) P (cells_of X)) (sym (answered_pos h p)) (subst (Q (log_of k L) (pos_of L)) (sym (answered_cell h p)) q))

-- ---------------------------------------------------------------------------------------------
-- How long the tables are.

pub length_numbers : {L : List ℕ} → Laid L → length (numbers_of L) ≡ 65536
unfolding numbers_of
length_numbers {L} h = let k = h.long in let n : length (cut 335872 466944 L) ≡ 131072 = length_cut 335872 466944 L (omega arith) in length_shorts (cut 335872 466944 L) ∙ ap (λ (n : ℕ). n / 2) n

pub length_begun : {L : List ℕ} → Laid L → length (begun_of L) ≡ 2048
unfolding begun_of
length_begun {L} h = let k = h.long in let n : length (cut 475136 479232 L) ≡ 4096 = length_cut 475136 479232 L (omega arith) in length_shorts (cut 475136 479232 L) ∙ ap (λ (n : ℕ). n / 2) n

-- ---------------------------------------------------------------------------------------------
-- One table is written, the others are as they were.

pub record PutNumber (L : List ℕ) (r v : ℕ) (X : List ℕ) : Type 0 where
  pub number : Stored (numbers_of L) r v (numbers_of X)
  pub place : places_of X ≡ places_of L
  pub begun : begun_of X ≡ begun_of L
  pub rest : Answered L X

pub record PutPlace (L : List ℕ) (i p : ℕ) (X : List ℕ) : Type 0 where
  pub number : numbers_of X ≡ numbers_of L
  pub place : Stored (places_of L) i p (places_of X)
  pub begun : begun_of X ≡ begun_of L
  pub rest : Answered L X

pub record PutBegun (L : List ℕ) (i k : ℕ) (X : List ℕ) : Type 0 where
  pub number : numbers_of X ≡ numbers_of L
  pub place : places_of X ≡ places_of L
  pub begun : Stored (begun_of L) i k (begun_of X)
  pub rest : Answered L X

pub get_number : {L : List ℕ} {r : ℕ} → CanRead L 65536 r → CanGet 335872 466944 L (shorts (cut 335872 466944 L)) r
unfolding numbers_of
get_number h = record { le = omega arith; fits = omega (arith, h.laid.long); inside = omega (arith, h.inside, length_numbers h.laid) }

pub set_number : {L : List ℕ} {r v : ℕ} → CanWrite L 65536 r 65536 v → CanSet 335872 466944 L (shorts (cut 335872 466944 L)) r 65536 v
unfolding numbers_of
set_number h = record { le = omega arith; fits = omega (arith, h.laid.long); inside = omega (arith, h.inside, length_numbers h.laid); small = h.small }

pub put_number : {L X : List ℕ} {r v : ℕ} → Set2 335872 466944 L r v X → PutNumber L r v X
unfolding numbers_of places_of begun_of
put_number s = record {
  number = s.part;
  place = ap longs (cut_right 466944 475136 (omega arith) s.rest);
  begun = ap shorts (cut_right 475136 479232 (omega arith) s.rest);
  rest = outside_wide 335872 479232 (omega arith) (omega arith) s.rest;
}

pub zero_numbers : {L X : List ℕ} → Zeroed 335872 466944 L X → (r : ℕ) → get_or (numbers_of X) r 0 ≡ 0
unfolding numbers_of
zero_numbers z r = ap (λ (l : List ℕ). get_or (shorts l) r 0) z.part ∙ zero_shorts (466944 - 335872) r

pub put_place : {L X : List ℕ} {i v : ℕ} → Laid L → Set4 466944 475136 L i v X → PutPlace L i v X
unfolding numbers_of places_of begun_of
put_place h s = record {
  number = ap shorts (cut_left 335872 466944 (omega arith) (omega arith) (omega (arith, h.long)) s.rest);
  place = s.part;
  begun = ap shorts (cut_right 475136 479232 (omega arith) s.rest);
  rest = outside_wide 335872 479232 (omega arith) (omega arith) s.rest;
}

pub get_begun : {L : List ℕ} {i : ℕ} → CanRead L 2048 i → CanGet 475136 479232 L (shorts (cut 475136 479232 L)) i
unfolding begun_of
get_begun h = record { le = omega arith; fits = omega (arith, h.laid.long); inside = omega (arith, h.inside, length_begun h.laid) }

pub set_begun : {L : List ℕ} {i v : ℕ} → CanWrite L 2048 i 65536 v → CanSet 475136 479232 L (shorts (cut 475136 479232 L)) i 65536 v
unfolding begun_of
set_begun h = record { le = omega arith; fits = omega (arith, h.laid.long); inside = omega (arith, h.inside, length_begun h.laid); small = h.small }

pub put_begun : {L X : List ℕ} {i v : ℕ} → Laid L → Set2 475136 479232 L i v X → PutBegun L i v X
unfolding numbers_of places_of begun_of
put_begun h s = record {
  number = ap shorts (cut_left 335872 466944 (omega arith) (omega arith) (omega (arith, h.long)) s.rest);
  place = ap longs (cut_left 466944 475136 (omega arith) (omega arith) (omega (arith, h.long)) s.rest);
  begun = s.part;
  rest = outside_wide 335872 479232 (omega arith) (omega arith) s.rest;
}

-- an application put onto the stack
pub record CanPush (L : List ℕ) (h p k : ℕ) : Type 0 where
  pub laid : Laid L
  pub inside : h < 2048
  pub place : p < 4294967296
  pub begun : k < 65536

pub record Pushed (L : List ℕ) (h p k : ℕ) (X : List ℕ) : Type 0 where
  pub number : numbers_of X ≡ numbers_of L
  pub place : Stored (places_of L) h p (places_of X)
  pub begun : Stored (begun_of L) h k (begun_of X)
  pub rest : Answered L X

pub pushed_of : {L M X : List ℕ} {h p k : ℕ} → PutPlace L h p M → PutBegun M h k X → Pushed L h p k X
pushed_of {L} {M} {X} {h} {p} {k} a b = record {
  number = b.number ∙ a.number;
  place = subst (λ (l : List ℕ). Stored (places_of L) h p l) (sym b.place) a.place;
  begun = subst (λ (l : List ℕ). Stored l h k (begun_of X)) a.begun b.begun;
  rest = outside_then a.rest b.rest;
}
