-- The slots of a bracket, and what they are given. Assumes nothing.
use Rattle.std.specs.Prelude.{◌≡◌, refl, List, [], ◌∷◌, ◌++◌, Bool, true, false, ℕ, ◌+◌, ◌≤◌, ◌<◌, eqb, length, get_or}
use Rattle.std.proofs.Common.{ap, ap₂, sym, ◌∙◌, arith, eq-eqb, ne_eqb}
use Rattle.akl.specs.Base.{if}
use Rattle.mem_numbers.specs.Stored.{Stored, stored_same, stored_other}
use Rattle.mem_words.specs.declared.Word.{Word}
use Rattle.mem_words.specs.declared.Word.TheVariants.{End, Num, Inner, Bad}
use Rattle.mem_sorts.specs.declared.Sort.{Sort}
use Rattle.mem_sorts.specs.declared.Sort.TheVariants.{Hide, Clause, AskWait, AskCond, AskCommit}
use Rattle.read_emits.specs.Out.{tight, seg, seg_none, seg_cons, Outside, outside_none, outside_more, Wrote, wrote_word, wrote_then, wrote_to, wrote_same, wrote_slots}
use Rattle.read_emits.specs.TheirContracts.{Emits, EmitTo, NoRoom}

-- three empty slots at k
pub record Slots (O : List Word) (k : ℕ) (O' : List Word) : Type 0 where
  pub outside : Outside k 3 O O'
  pub room : k + 3 ≤ length O
  pub one : get_or O' k Bad ≡ Bad
  pub two : get_or O' (k + 1) Bad ≡ Bad
  pub three : get_or O' (k + 2) Bad ≡ Bad

abbrev pub SlotsTo : List Word → ℕ → List Word → Bool → Type 0
SlotsTo O k O' true = Slots O k O'
SlotsTo O k O' false = length O < k + 3

-- the slots of a hiding, the third left as it was
pub record HideFilled (O : List Word) (k count : ℕ) (O' : List Word) : Type 0 where
  pub outside : Outside k 3 O O'
  pub one : get_or O' k Bad ≡ Inner Hide
  pub two : get_or O' (k + 1) Bad ≡ Num count
  pub three : get_or O' (k + 2) Bad ≡ get_or O (k + 2) Bad

-- what opens a choice, by the kind of its operator's token
unfoldable pub ask_of : ℕ → Sort
ask_of k = if (eqb k 11) AskWait (if (eqb k 12) AskCond AskCommit)

pub record ChoiceFilled (O : List Word) (k kind count : ℕ) (O' : List Word) : Type 0 where
  pub outside : Outside k 3 O O'
  pub one : get_or O' k Bad ≡ Inner (ask_of kind)
  pub two : get_or O' (k + 1) Bad ≡ Inner Clause
  pub three : get_or O' (k + 2) Bad ≡ Num count

-- what opens a later clause
pub record ClauseOpened (O : List Word) (k count : ℕ) (O' : List Word) : Type 0 where
  pub wrote : Wrote O k O' (k + 2) (λ r. Inner Clause ∷ Num count ∷ r)

abbrev pub ClauseTo : List Word → ℕ → ℕ → List Word → Bool → Type 0
ClauseTo O k count O' true = ClauseOpened O k count O'
ClauseTo O k count O' false = length O < k + 2

-- ---------------------------------------------------------------------------------------------
-- Laws.

-- the answer of `emit` is known
pub emit_yes : {O : List Word} {k : ℕ} {w : Word} {O' : List Word} (b : Bool) → EmitTo O k w O' b → b ≡ true → Emits O k w O'
emit_yes true a e = a
emit_yes false a e = absurd (let z : ◌≡◌ {A = ℕ} 0 1 = cc in omega arith)

pub emit_no : {O : List Word} {k : ℕ} (w : Word) {O' : List Word} (b : Bool) → EmitTo O k w O' b → b ≡ false → NoRoom O k O'
emit_no w true a e = absurd (let z : ◌≡◌ {A = ℕ} 0 1 = cc in omega arith)
emit_no w false a e = a

pub slots_made : {O O₁ O₂ O₃ : List Word} {k : ℕ} → Emits O k Bad O₁ → Emits O₁ (k + 1) Bad O₂ → Emits O₂ (k + 2) Bad O₃ → Slots O k O₃
slots_made {O} {O₁} {O₂} {O₃} {k} a b c =
    let x = a.room in
    let y = b.room in
    let z = c.room in
    let l = b.stored.long ∙ a.stored.long in
    record {
      outside = outside_more (outside_more (outside_more (outside_none k 3 O) (omega arith) (omega arith) a.stored) (omega arith) (omega arith) b.stored) (omega arith) (omega arith) c.stored;
      room = omega arith;
      one = stored_other k Bad c.stored (λ e. omega arith) ∙ stored_other k Bad b.stored (λ e. omega arith) ∙ stored_same Bad a.stored x;
      two = stored_other (k + 1) Bad c.stored (λ e. omega arith) ∙ stored_same Bad b.stored y;
      three = stored_same Bad c.stored z;
    }

pub hide_filled : {O O₁ O₂ : List Word} {k count : ℕ} → k + 3 ≤ length O → Stored O k (Inner Hide) O₁ → Stored O₁ (k + 1) (Num count) O₂ → HideFilled O k count O₂
hide_filled {O} {O₁} {O₂} {k} h a b =
    let l = a.long in
    record {
      outside = outside_more (outside_more (outside_none k 3 O) (omega arith) (omega arith) a) (omega arith) (omega arith) b;
      one = stored_other k Bad b (λ e. omega arith) ∙ stored_same Bad a (omega arith);
      two = stored_same Bad b (omega arith);
      three = stored_other (k + 2) Bad b (λ e. omega arith) ∙ stored_other (k + 2) Bad a (λ e. omega arith);
    }

pub choice_filled : {O O₁ O₂ O₃ : List Word} {k kind count : ℕ} {s : Sort} → k + 3 ≤ length O → s ≡ ask_of kind → Stored O k (Inner s) O₁ → Stored O₁ (k + 1) (Inner Clause) O₂ → Stored O₂ (k + 2) (Num count) O₃ → ChoiceFilled O k kind count O₃
choice_filled {O} {O₁} {O₂} {O₃} {k} h e a b c =
    let l = a.long in
    let m = b.long in
    record {
      outside = outside_more (outside_more (outside_more (outside_none k 3 O) (omega arith) (omega arith) a) (omega arith) (omega arith) b) (omega arith) (omega arith) c;
      one = stored_other k Bad c (λ e. omega arith) ∙ stored_other k Bad b (λ e. omega arith) ∙ stored_same Bad a (omega arith) ∙ ap (λ (s : Sort). Inner s) e;
      two = stored_other (k + 1) Bad c (λ e. omega arith) ∙ stored_same Bad b (omega arith);
      three = stored_same Bad c (omega arith);
    }

pub clause_opened : {O O₁ O₂ : List Word} {k count : ℕ} → Emits O k (Inner Clause) O₁ → Emits O₁ (k + 1) (Num count) O₂ → ClauseOpened O k count O₂
clause_opened {O} {O₁} {O₂} {k} a b =
    let e : k + 1 + 1 ≡ k + 2 = omega arith in
    record { wrote = wrote_to e (wrote_then (wrote_word a.room tt a.stored) (wrote_word b.room tt b.stored)) }

pub ask_wait : (k : ℕ) → k ≡ 11 → AskWait ≡ ask_of k
unfolding ask_of
ask_wait k e = sym (ap (λ (b : Bool). if b AskWait (if (eqb k 12) AskCond AskCommit)) (eq-eqb k 11 e))

pub ask_cond : (k : ℕ) → (k ≡ 11 → ⊥) → k ≡ 12 → AskCond ≡ ask_of k
unfolding ask_of
ask_cond k n e = sym (ap (λ (b : Bool). if b AskWait (if (eqb k 12) AskCond AskCommit)) (ne_eqb k 11 n) ∙ ap (λ (b : Bool). if b AskCond AskCommit) (eq-eqb k 12 e))

pub ask_commit : (k : ℕ) → (k ≡ 11 → ⊥) → (k ≡ 12 → ⊥) → AskCommit ≡ ask_of k
unfolding ask_of
ask_commit k n m = sym (ap (λ (b : Bool). if b AskWait (if (eqb k 12) AskCond AskCommit)) (ne_eqb k 11 n) ∙ ap (λ (b : Bool). if b AskCond AskCommit) (ne_eqb k 12 m))

-- what the three slots hold stands before what is written behind them
pub wrote_three : {O : List Word} {k : ℕ} {O₁ O' O'' : List Word} {k' : ℕ} {a b c : Word} {f : List Word → List Word} → Outside k 3 O O₁ → Wrote O₁ (k + 3) O' k' f → Outside k 3 O' O'' → get_or O'' k Bad ≡ a → get_or O'' (k + 1) Bad ≡ b → get_or O'' (k + 2) Bad ≡ c → Wrote O k O'' k' (λ r. tight (a ∷ b ∷ c ∷ []) ++ f r)
wrote_three {O} {k} {O₁} {O'} {O''} {k'} {a} {b} {c} {f} s x p ea eb ec =
    let l : k + 3 ≤ length O'' = omega (arith, x.inside, x.more, p.long) in
    let z : k + 1 + 1 ≡ k + 2 = omega arith in
    let y : k + 2 + 1 ≡ k + 3 = omega arith in
    let e : seg O'' k (k + 3) ≡ a ∷ b ∷ c ∷ [] =
    seg_cons O'' k (k + 3) (omega arith) l ∙ ap₂ (λ (v : Word) (t : List Word). v ∷ t) ea
    (seg_cons O'' (k + 1) (k + 3) (omega arith) l ∙ ap₂ (λ (v : Word) (t : List Word). v ∷ t) eb
    (ap (λ (n : ℕ). seg O'' n (k + 3)) z ∙ seg_cons O'' (k + 2) (k + 3) (omega arith) l ∙ ap₂ (λ (v : Word) (t : List Word). v ∷ t) ec
    (ap (λ (n : ℕ). seg O'' n (k + 3)) y ∙ seg_none O'' (k + 3)))) in
    wrote_same (λ r. ap (λ (t : List Word). tight t ++ f r) e) (wrote_slots k 3 s x p)
