-- The test of locals, word by word: the open brackets are those of the stack, and the number kept for a variable, if it is not 0, is
-- one more than the position where it last was a local. So the innermost bracket that has passed it is the innermost that starts
-- before that number. Assumes nothing.
use Rattle.std.specs.Prelude.{◌≡◌, refl, List, [], ◌∷◌, Bool, true, false, ◌&&◌, ◌||◌, not, ℕ, zero, suc, ◌+◌, ◌-◌, ◌≤◌, ◌<◌, eqb, ltb, length, get_or, drop}
use Rattle.std.proofs.Common.{ap, ap₂, sym, ◌∙◌, subst, arith, lt-ltb, le-ltb, eq-eqb, ne_eqb}
use Rattle.std.proofs.Math.Decide.{ℕ_discrete}
use Rattle.mem_numbers.specs.Stored.{Stored, stored_same, stored_other}
use Rattle.mem_words.specs.declared.Word.{Word}
use Rattle.mem_words.specs.declared.Word.TheVariants.{End, Free, Bad}
use Rattle.mem_words.specs.Words.{Read}
use Rattle.check_words.specs.Passes.{drop_word, drop_end, goes_on, stops}
use Rattle.check_words.specs.Apart.{Open, new, widen, saw, closed, names, opened, local_apart, local_after, word_apart, open_after, apart_from, apart_passed}
use Rattle.check_vartables.specs.Stacks.{tops, Rising, tops_same, rising_pushed, rising_on}
use Rattle.check_apart.specs.Search.{strict_word, naming_word, fit}

-- the words at the positions open the brackets
abbrev pub Opens : List Word → List ℕ → List Open → Type 0
Opens C [] [] = Unit {0}
Opens C [] (o ∷ S) = ⊥
Opens C (p ∷ Ps) [] = ⊥
Opens C (p ∷ Ps) (o ∷ S) = ((o.strict ≡ strict_word (get_or C p Bad)) × (o.naming ≡ naming_word (get_or C p Bad))) × Opens C Ps S

-- v is the number kept for x: the brackets that have not passed x start at v or behind it, up to one that has
abbrev pub Kept : ℕ → ℕ → List ℕ → List Open → Type 0
Kept x v [] S = Unit {0}
Kept x v (p ∷ Ps) [] = Unit {0}
Kept x v (p ∷ Ps) (o ∷ S) = elim (o.seen x) as (λ b. Type 0) [ true ↦ p < v | false ↦ (v ≤ p) × Kept x v Ps S ]

-- before the word at i: k brackets are open, at the positions of P; N are the numbers of variables
pub record Holding (C : List Word) (P N : List ℕ) (k i : ℕ) : Type 0 where
  pub stack : List Open
  pub answer : apart_passed C ≡ apart_from stack (drop i C)
  pub opens : Opens C (tops P k) stack
  pub kept : (x : ℕ) → Kept x (get_or N x 0) (tops P k) stack
  pub rising : Rising P k i
  pub few : k ≤ i
  pub small : (x : ℕ) → get_or N x 0 ≤ i

pub begins : (C : List Word) (P N : List ℕ) → ((x : ℕ) → get_or N x 0 ≡ 0) → Holding C P N 0 0
unfolding apart_passed tops
begins C P N z = record {
  stack = [];
  answer = refl;
  opens = tt;
  kept = λ x. tt;
  rising = record { low = λ j h. absurd (omega arith); up = λ a b h g. absurd (omega arith) };
  few = omega arith;
  small = λ x. omega (arith, z x);
}

read : (S : List Open) (C : List Word) (i : ℕ) (w : Word) → i < length C → Read C i w → apart_from S (drop i C) ≡ (word_apart S w && apart_from (open_after S w) (drop (i + 1) C))
unfolding apart_from
read S C i w h e = ap (apart_from S) (drop_word C i w h e)

-- the answer goes on with the next word, or is there
on : (C : List Word) (S : List Open) (i : ℕ) (w : Word) → i < length C → Read C i w → apart_passed C ≡ apart_from S (drop i C) → word_apart S w ≡ true → apart_passed C ≡ apart_from (open_after S w) (drop (i + 1) C)
on C S i w h e a t = a ∙ goes_on (apart_from S (drop i C)) (word_apart S w) (apart_from (open_after S w) (drop (i + 1) C)) (read S C i w h e) t

pub ends : {C : List Word} {P N : List ℕ} {k i : ℕ} → length C ≤ i → Holding C P N k i → true ≡ apart_passed C
unfolding apart_from
ends {C} {P} {N} {k} {i} h a = sym (a.answer ∙ ap (apart_from a.stack) (drop_end C i h))

-- the innermost bracket that has passed x is no and-box
pub new_fit : (C : List Word) (x v : ℕ) (Ps : List ℕ) (S : List Open) → Opens C Ps S → Kept x v Ps S → new x S ≡ fit C v Ps
unfolding new fit
new_fit C x v [] [] o k = refl
new_fit C x v [] (s ∷ S) o k = absurd o
new_fit C x v (p ∷ Ps) [] o k = absurd o
new_fit C x v (p ∷ Ps) (s ∷ S) o k = go (s.seen x) k (λ q. new_fit C x v Ps S o.1 q)
  where
    go : (b : Bool) → elim b as (λ z. Type 0) [ true ↦ p < v | false ↦ (v ≤ p) × Kept x v Ps S ] → (Kept x v Ps S → new x S ≡ fit C v Ps) → ◌≡◌ {A = Bool} (elim b as (λ z. Bool) [ true ↦ not s.strict | false ↦ new x S ]) (elim (ltb p v) as (λ z. Bool) [ true ↦ not (strict_word (get_or C p Bad)) | false ↦ fit C v Ps ])
    go true h f = ap not o.0.0 ∙ sym (ap (λ (b : Bool). elim b as (λ z. Bool) [ true ↦ not (strict_word (get_or C p Bad)) | false ↦ fit C v Ps ]) (lt-ltb p v h))
    go false h f = f h.1 ∙ sym (ap (λ (b : Bool). elim b as (λ z. Bool) [ true ↦ not (strict_word (get_or C p Bad)) | false ↦ fit C v Ps ]) (le-ltb p v h.0))

-- whether the innermost bracket holds locals
abbrev pub top_names : List Word → List ℕ → Bool
top_names C [] = false
top_names C (p ∷ Ps) = naming_word (get_or C p Bad)

pub names_top : (C : List Word) (Ps : List ℕ) (S : List Open) → Opens C Ps S → names S ≡ top_names C Ps
names_top C [] [] o = refl
names_top C [] (s ∷ S) o = absurd o
names_top C (p ∷ Ps) [] o = absurd o
names_top C (p ∷ Ps) (s ∷ S) o = o.0.1

pub no_names : (C : List Word) (P : List ℕ) (k : ℕ) → k ≡ 0 → false ≡ top_names C (tops P k)
unfolding tops
no_names C P zero z = refl
no_names C P (suc k) z = absurd (omega (arith, z))

pub names_at : (C : List Word) (P : List ℕ) (k : ℕ) → (k ≡ 0 → ⊥) → naming_word (get_or C (get_or P (k - 1) 0) Bad) ≡ top_names C (tops P k)
unfolding tops
names_at C P zero z = absurd (z refl)
names_at C P (suc k) z = let e : suc k - 1 ≡ k = omega arith in ap (λ (j : ℕ). naming_word (get_or C (get_or P j 0) Bad)) e

-- a word that changes nothing
pub idle : {C : List Word} {P N : List ℕ} {k i : ℕ} {w : Word} → i < length C → Read C i w → (h : Holding C P N k i) → word_apart h.stack w ≡ true → open_after h.stack w ≡ h.stack → Holding C P N k (i + 1)
idle {C} {P} {N} {k} {i} {w} l e h t s = record {
  stack = h.stack;
  answer = on C h.stack i w l e h.answer t ∙ ap (λ (S : List Open). apart_from S (drop (i + 1) C)) s;
  opens = h.opens;
  kept = h.kept;
  rising = rising_on (omega arith) h.rising;
  few = omega (arith, h.few);
  small = λ x. let a = h.small x in omega (arith, a);
}

-- a bracket opens
pub pushed : {C : List Word} {P Q N : List ℕ} {k i : ℕ} {w : Word} → i < length C → Read C i w → k < length P → Stored P k i Q → (h : Holding C P N k i) → word_apart h.stack w ≡ true → open_after h.stack w ≡ opened (strict_word w) (naming_word w) h.stack → Holding C Q N (k + 1) (i + 1)
unfolding tops
pushed {C} {P} {Q} {N} {k} {i} {w} l e m s h t o = record {
  stack = opened (strict_word w) (naming_word w) h.stack;
  answer = on C h.stack i w l e h.answer t ∙ ap (λ (S : List Open). apart_from S (drop (i + 1) C)) o;
  opens = subst (λ (Ps : List ℕ). Opens C Ps (opened (strict_word w) (naming_word w) h.stack)) (sym tip) ((ap strict_word e.is, ap naming_word e.is), h.opens);
  kept = λ x. subst (λ (Ps : List ℕ). Kept x (get_or N x 0) Ps (opened (strict_word w) (naming_word w) h.stack)) (sym tip) (h.small x, h.kept x);
  rising = rising_pushed m s h.rising;
  few = omega (arith, h.few);
  small = λ x. let a = h.small x in omega (arith, a);
}
  where
    tip : tops Q (k + 1) ≡ i ∷ tops P k
    tip = let q : k + 1 ≡ suc k = omega arith in ap (tops Q) q ∙ next
      where
        next : tops Q (suc k) ≡ i ∷ tops P k
        next = ap₂ (λ (p : ℕ) (r : List ℕ). p ∷ r) (stored_same 0 s m) (tops_same s k (omega arith))

-- a bracket ends: what it has passed, the one around it has
widen_opens : (C : List Word) (Ps : List ℕ) (S : List Open) (q : ℕ → Bool) → Opens C Ps S → Opens C Ps (widen q S)
widen_opens C [] [] q o = o
widen_opens C [] (s ∷ S) q o = absurd o
widen_opens C (p ∷ Ps) [] q o = absurd o
widen_opens C (p ∷ Ps) (s ∷ S) q o = o

kept_none : (x v : ℕ) (Ps : List ℕ) → Kept x v Ps []
kept_none x v [] = tt
kept_none x v (p ∷ Ps) = tt

-- the innermost of them starts before v
abbrev Starts : ℕ → List ℕ → Type 0
Starts v [] = Unit {0}
Starts v (p ∷ Ps) = p < v

kept_in : (x v : ℕ) (Ps : List ℕ) (S : List Open) (q : ℕ → Bool) → q x ≡ true → Starts v Ps → Kept x v Ps (widen q S)
kept_in x v [] S q e h = tt
kept_in x v (p ∷ Ps) [] q e h = tt
kept_in x v (p ∷ Ps) (s ∷ S) q e h = subst (λ (b : Bool). elim (b || s.seen x) as (λ z. Type 0) [ true ↦ p < v | false ↦ (v ≤ p) × Kept x v Ps S ]) (sym e) h

kept_out : (x v : ℕ) (Ps : List ℕ) (S : List Open) (q : ℕ → Bool) → q x ≡ false → Kept x v Ps S → Kept x v Ps (widen q S)
kept_out x v [] S q e h = tt
kept_out x v (p ∷ Ps) [] q e h = tt
kept_out x v (p ∷ Ps) (s ∷ S) q e h = subst (λ (b : Bool). elim (b || s.seen x) as (λ z. Type 0) [ true ↦ p < v | false ↦ (v ≤ p) × Kept x v Ps S ]) (sym e) h

starts : (P : List ℕ) (k i v : ℕ) → Rising P (suc k) i → get_or P k 0 < v → Starts v (tops P k)
unfolding tops
starts P zero i v r h = tt
starts P (suc k) i v r h = let a = r.up k (suc k) (omega arith) (omega arith) in omega (arith, a, h)

pop_opens : (C : List Word) (Ps : List ℕ) (p : ℕ) (S : List Open) → Opens C (p ∷ Ps) S → Opens C Ps (closed S)
pop_opens C Ps p [] o = absurd o
pop_opens C Ps p (s ∷ S) o = widen_opens C Ps S s.seen o.1

pop_kept : (x v : ℕ) (P : List ℕ) (k i : ℕ) (S : List Open) → Rising P (suc k) i → Kept x v (get_or P k 0 ∷ tops P k) S → Kept x v (tops P k) (closed S)
pop_kept x v P k i [] r h = kept_none x v (tops P k)
pop_kept x v P k i (s ∷ S) r h = go (s.seen x) refl h
  where
    go : (b : Bool) → s.seen x ≡ b → elim b as (λ z. Type 0) [ true ↦ get_or P k 0 < v | false ↦ (v ≤ get_or P k 0) × Kept x v (tops P k) S ] → Kept x v (tops P k) (widen s.seen S)
    go true e g = kept_in x v (tops P k) S s.seen e (starts P k i v r g)
    go false e g = kept_out x v (tops P k) S s.seen e g.1

pop_one : {C : List Word} {P N : List ℕ} {i : ℕ} (k : ℕ) → i < length C → Read C i End → Holding C P N (suc k) i → Holding C P N k (i + 1)
unfolding tops
pop_one {C} {P} {N} {i} k l e h = record {
  stack = closed h.stack;
  answer = on C h.stack i End l e h.answer refl;
  opens = pop_opens C (tops P k) (get_or P k 0) h.stack h.opens;
  kept = λ x. pop_kept x (get_or N x 0) P k i h.stack h.rising (h.kept x);
  rising = rising_on (omega arith) h.rising;
  few = omega (arith, h.few);
  small = λ x. let a = h.small x in omega (arith, a);
}

pub popped : {C : List Word} {P N : List ℕ} {k i : ℕ} → i < length C → Read C i End → (k ≡ 0 → ⊥) → Holding C P N k i → Holding C P N (k - 1) (i + 1)
popped {C} {P} {N} {k} {i} l e n h = let q : k ≡ suc (k - 1) = omega (arith, n) in pop_one (k - 1) l e (subst (λ (m : ℕ). Holding C P N m i) q h)

closed_none : (C : List Word) (P : List ℕ) (k : ℕ) (S : List Open) → Opens C (tops P k) S → k ≡ 0 → closed S ≡ S
unfolding tops
closed_none C P zero [] o z = refl
closed_none C P zero (s ∷ S) o z = absurd o
closed_none C P (suc k) S o z = absurd (omega (arith, z))

pub popped_none : {C : List Word} {P N : List ℕ} {k i : ℕ} → i < length C → Read C i End → k ≡ 0 → Holding C P N k i → Holding C P N 0 (i + 1)
popped_none {C} {P} {N} {k} {i} l e z h = subst (λ (m : ℕ). Holding C P N m (i + 1)) z (idle l e h refl (closed_none C P k h.stack h.opens z))

-- a variable that is no local
pub used : {C : List Word} {P N : List ℕ} {k i x : ℕ} → i < length C → Read C i (Free x) → (h : Holding C P N k i) → names h.stack ≡ false → Holding C P N k (i + 1)
used {C} {P} {N} {k} {i} {x} l e h n = idle l e h (ap (λ (b : Bool). local_apart b x h.stack) n) (ap (λ (b : Bool). local_after b x h.stack) n)

-- a local that interferes, and one that does not
pub clashes : {C : List Word} {P N : List ℕ} {k i x : ℕ} → i < length C → Read C i (Free x) → (h : Holding C P N k i) → names h.stack ≡ true → fit C (get_or N x 0) (tops P k) ≡ false → false ≡ apart_passed C
clashes {C} {P} {N} {k} {i} {x} l e h n f =
    let t : word_apart h.stack (Free x) ≡ false = ap (λ (b : Bool). local_apart b x h.stack) n ∙ new_fit C x (get_or N x 0) (tops P k) h.stack h.opens (h.kept x) ∙ f in
    stops (apart_from h.stack (drop i C)) (word_apart h.stack (Free x)) (apart_from (open_after h.stack (Free x)) (drop (i + 1) C)) (read h.stack C i (Free x) l e) t ∙ sym h.answer

low_starts : (P : List ℕ) (k i : ℕ) → Rising P k i → Starts (i + 1) (tops P k)
unfolding tops
low_starts P zero i r = tt
low_starts P (suc k) i r = let a = r.low k (omega arith) in omega (arith, a)

pub named : {C : List Word} {P N M : List ℕ} {k i x : ℕ} → i < length C → Read C i (Free x) → (h : Holding C P N k i) → names h.stack ≡ true → fit C (get_or N x 0) (tops P k) ≡ true → x < length N → Stored N x (i + 1) M → Holding C P M k (i + 1)
named {C} {P} {N} {M} {k} {i} {x} l e h n f m s = record {
  stack = saw x h.stack;
  answer = on C h.stack i (Free x) l e h.answer (ap (λ (b : Bool). local_apart b x h.stack) n ∙ new_fit C x (get_or N x 0) (tops P k) h.stack h.opens (h.kept x) ∙ f) ∙ ap (λ (b : Bool). apart_from (local_after b x h.stack) (drop (i + 1) C)) n;
  opens = widen_opens C (tops P k) h.stack (λ y. eqb y x) h.opens;
  kept = λ y. each y (ℕ_discrete y x);
  rising = rising_on (omega arith) h.rising;
  few = omega (arith, h.few);
  small = λ y. least y (ℕ_discrete y x);
}
  where
    each : (y : ℕ) → Dec (y ≡ x) → Kept y (get_or M y 0) (tops P k) (saw x h.stack)
    each y (yes q) =
        let g : i + 1 ≡ get_or M y 0 = sym (ap (λ (z : ℕ). get_or M z 0) q ∙ stored_same 0 s m) in
        subst (λ (v : ℕ). Kept y v (tops P k) (saw x h.stack)) g (kept_in y (i + 1) (tops P k) h.stack (λ z. eqb z x) (eq-eqb y x q) (low_starts P k i h.rising))
    each y (no q) =
        subst (λ (v : ℕ). Kept y v (tops P k) (saw x h.stack)) (sym (stored_other y 0 s q)) (kept_out y (get_or N y 0) (tops P k) h.stack (λ z. eqb z x) (ne_eqb y x q) (h.kept y))

    least : (y : ℕ) → Dec (y ≡ x) → get_or M y 0 ≤ i + 1
    least y (yes q) = let g : get_or M y 0 ≡ i + 1 = ap (λ (z : ℕ). get_or M z 0) q ∙ stored_same 0 s m in omega (arith, g)
    least y (no q) = let a = h.small y in omega (arith, stored_other y 0 s q, a)
