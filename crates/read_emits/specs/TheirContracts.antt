-- What writing one word, some ends, and closing the empty slots promise. Assumes nothing.
use Rattle.std.specs.Prelude.{◌≡◌, refl, Bool, true, false, ℕ, zero, suc, ◌+◌, ◌<◌, ◌≤◌, length, get_or, set}
use Rattle.std.proofs.Math.Path.{ap, sym}
use Rattle.std.proofs.Common.{ap₂, ◌∙◌, subst, add-one, arith, take-suc}
use mathlib.Core.List.{List, [], ◌∷◌, ◌++◌, append-nil}
use Rattle.std.proofs.Math.ListN.{take}
use Rattle.std.proofs.Math.Seq.{take-suc-set}
use Rattle.mem_numbers.specs.Stored.{Stored, stored_other}
use Rattle.mem_words.specs.declared.Word.{Word}
use Rattle.mem_words.specs.declared.Word.TheVariants.{End, Free, Level, Num, Place, Inner, Bad}
use Rattle.read_emits.specs.Out.{tight, Solid, Wrote, tight_none, tight_solid, tight_bad, tight_append, wrote_none, wrote_then, wrote_word, wrote_same, wrote_to}
use Rattle.read_emits.specs.declared.Emitted.{Emitted}
use Rattle.read_emits.specs.declared.Emitted.TheVariants.{To, Full}

-- the word w was written at k
pub record Emits (O : List Word) (k : ℕ) (w : Word) (O' : List Word) : Type 0 where
  pub room : k < length O
  pub stored : Stored O k w O'

-- there was no room at k, and nothing was written
pub record NoRoom (O : List Word) (k : ℕ) (O' : List Word) : Type 0 where
  pub full : length O ≤ k
  pub same : O' ≡ O

-- What `emit` promises of its answer.
abbrev pub EmitTo : List Word → ℕ → Word → List Word → Bool → Type 0
EmitTo O k w O' true = Emits O k w O'
EmitTo O k w O' false = NoRoom O k O'

-- so many words End
unfoldable pub endings : ℕ → List Word → List Word
endings zero r = r
endings (suc c) r = End ∷ endings c r

-- the words End were written
pub record Ended (O : List Word) (k c : ℕ) (O' : List Word) (k' : ℕ) : Type 0 where
  pub at : k' ≡ k + c
  pub wrote : Wrote O k O' k' (endings c)

-- n words from k on have no room
pub record Short (O : List Word) (k n : ℕ) (O' : List Word) : Type 0 where
  pub full : length O < k + n
  pub long : length O' ≡ length O

-- What `ends` promises of its answer.
abbrev pub EndsTo : List Word → ℕ → ℕ → List Word → Emitted → Type 0
EndsTo O k c O' (To k') = Ended O k c O' k'
EndsTo O k c O' Full = Short O k c O'

-- whether a word is an empty slot
abbrev pub is_bad : Word → Bool
is_bad End = false
is_bad (Free x) = false
is_bad (Level x) = false
is_bad (Num x) = false
is_bad (Place x) = false
is_bad (Inner x) = false
is_bad Bad = true

-- the first i words without the empty slots are the first r of O now, and what follows them is as it was
pub record Compacted (O : List Word) (i : ℕ) (O' : List Word) (r : ℕ) : Type 0 where
  pub fewer : r ≤ i
  pub words : take r O' ≡ tight (take i O)
  pub rest : (j : ℕ) → i ≤ j → get_or O' j Bad ≡ get_or O j Bad
  pub long : length O' ≡ length O

-- the answer of `emit` is known
pub emit_yes : {O : List Word} {k : ℕ} {w : Word} {O' : List Word} (b : Bool) → EmitTo O k w O' b → b ≡ true → Emits O k w O'
emit_yes true a e = a
emit_yes false a e = absurd (let z : ◌≡◌ {A = ℕ} 0 1 = cc in omega arith)

pub emit_no : {O : List Word} {k : ℕ} (w : Word) {O' : List Word} (b : Bool) → EmitTo O k w O' b → b ≡ false → NoRoom O k O'
emit_no w true a e = absurd (let z : ◌≡◌ {A = ℕ} 0 1 = cc in omega arith)
emit_no w false a e = a

-- ---------------------------------------------------------------------------------------------
-- Ends.

endings_suc : (c : ℕ) (r : List Word) → endings c (End ∷ r) ≡ endings (suc c) r
unfolding endings
endings_suc zero r = refl
endings_suc (suc c) r = ap (λ (l : List Word). End ∷ l) (endings_suc c r)

pub ended_none : {O : List Word} {k : ℕ} → k ≤ length O → Ended O k 0 O (k + 0)
unfolding endings
ended_none {O} {k} h = record { at = refl; wrote = wrote_to (omega arith) (wrote_none h) }

pub ended_more : {O : List Word} {k c : ℕ} {O' O'' : List Word} → Ended O k c O' (k + c) → Emits O' (k + c) End O'' → Ended O k (c + 1) O'' (k + (c + 1))
ended_more {O} {k} {c} {O'} {O''} a e =
    record {
      at = refl;
      wrote = wrote_to (omega arith) (wrote_same (λ r. endings_suc c r ∙ ap (λ (n : ℕ). endings n r) (sym (add-one c))) (wrote_then a.wrote (wrote_word e.room tt e.stored)));
    }

-- there was no room for the word
pub ended_short : {O : List Word} {k j : ℕ} (c : ℕ) {O' O'' : List Word} → Ended O k j O' (k + j) → NoRoom O' (k + j) O'' → j < c → Short O k c O''
ended_short {O} {k} {j} c {O'} {O''} a e h = record { full = omega (arith, e.full, a.wrote.long); long = ap length e.same ∙ a.wrote.long }

pub ended_all : {O : List Word} {k j c : ℕ} {O' : List Word} → Ended O k j O' (k + j) → j ≡ c → Ended O k c O' (k + c)
ended_all {O} {k} {j} {c} {O'} a e = subst (λ (n : ℕ). Ended O k n O' (k + n)) e a

-- ---------------------------------------------------------------------------------------------
-- The empty slots closed.

solid_word : (w : Word) → is_bad w ≡ false → Solid w
solid_word End e = tt
solid_word (Free x) e = tt
solid_word (Level x) e = tt
solid_word (Num x) e = tt
solid_word (Place x) e = tt
solid_word (Inner x) e = tt
solid_word Bad e = absurd (let z : ◌≡◌ {A = ℕ} 0 1 = cc in omega arith)

bad_word : (w : Word) → is_bad w ≡ true → w ≡ Bad
bad_word End e = absurd (let z : ◌≡◌ {A = ℕ} 0 1 = cc in omega arith)
bad_word (Free x) e = absurd (let z : ◌≡◌ {A = ℕ} 0 1 = cc in omega arith)
bad_word (Level x) e = absurd (let z : ◌≡◌ {A = ℕ} 0 1 = cc in omega arith)
bad_word (Num x) e = absurd (let z : ◌≡◌ {A = ℕ} 0 1 = cc in omega arith)
bad_word (Place x) e = absurd (let z : ◌≡◌ {A = ℕ} 0 1 = cc in omega arith)
bad_word (Inner x) e = absurd (let z : ◌≡◌ {A = ℕ} 0 1 = cc in omega arith)
bad_word Bad e = refl

tight_more : (O : List Word) (i : ℕ) → i < length O → tight (take (i + 1) O) ≡ tight (take i O) ++ tight (get_or O i Bad ∷ [])
tight_more O i h = ap (λ (n : ℕ). tight (take n O)) (add-one i) ∙ ap tight (take-suc O i Bad h) ∙ tight_append (take i O) (get_or O i Bad ∷ [])

pub compacted_none : (O : List Word) → Compacted O 0 O 0
unfolding tight
compacted_none O = record { fewer = omega arith; words = refl; rest = λ j h. refl; long = refl }

module _ {O : List Word} {i : ℕ} {O' : List Word} {r : ℕ} (a : Compacted O i O' r) (w : Word) (e : w ≡ get_or O' i Bad) (h : i < length O) where
  was : get_or O i Bad ≡ w
  was = sym (e ∙ a.rest i (omega arith))

  -- an empty slot
  pub compacted_drop : is_bad w ≡ true → Compacted O (i + 1) O' r
  unfolding was
  compacted_drop b =
      record {
        fewer = omega (arith, a.fewer);
        words =
            a.words
            ∙ sym (append-nil (tight (take i O)))
            ∙ ap (λ (l : List Word). tight (take i O) ++ l) (sym (ap (λ (x : Word). tight (x ∷ [])) (was ∙ bad_word w b) ∙ tight_bad [] ∙ tight_none))
            ∙ sym (tight_more O i h);
        rest = λ j g. a.rest j (omega arith);
        long = a.long;
      }

  -- a word that stays
  pub compacted_keep : {O'' : List Word} → is_bad w ≡ false → Stored O' r w O'' → Compacted O (i + 1) O'' (r + 1)
  unfolding was
  compacted_keep {O''} b s =
      record {
        fewer = omega (arith, a.fewer);
        words =
            ap (λ (l : List Word). take (r + 1) l) s.list
            ∙ ap (λ (n : ℕ). take n (set O' r w)) (add-one r)
            ∙ take-suc-set O' r w (omega (arith, a.fewer, a.long))
            ∙ ap (λ (l : List Word). l ++ (w ∷ [])) a.words
            ∙ ap (λ (l : List Word). tight (take i O) ++ l) (sym (ap (λ (x : Word). tight (x ∷ [])) was ∙ tight_solid w [] (solid_word w b) ∙ ap (λ (l : List Word). w ∷ l) tight_none))
            ∙ sym (tight_more O i h);
        rest = λ j g. stored_other j Bad s (λ q. omega (arith, a.fewer)) ∙ a.rest j (omega arith);
        long = s.long ∙ a.long;
      }

pub compacted_all : {O : List Word} {i n : ℕ} {O' : List Word} {r : ℕ} → Compacted O i O' r → i ≡ n → Compacted O n O' r
compacted_all {O} {i} {n} {O'} {r} a e = subst (λ (m : ℕ). Compacted O m O' r) e a
