-- The test of scope, word by word, with its open brackets in tables. Assumes nothing.
use Rattle.std.specs.Prelude.{◌≡◌, refl, List, [], ◌∷◌, Bool, true, false, ◌&&◌, ◌||◌, ℕ, zero, suc, ◌+◌, ◌-◌, ◌/◌, ◌≤◌, ◌<◌, eqb, length, get_or, drop}
use Rattle.std.proofs.Common.{ap, ap₂, sym, ◌∙◌, subst, inl, arith, eq-eqb, ne_eqb}
use Rattle.std.proofs.Math.Decide.{ℕ_discrete}
use Rattle.constraint.specs.Solve.{elem}
use Rattle.mem_numbers.specs.Stored.{Stored, stored_same, stored_other}
use Rattle.mem_words.specs.declared.Word.{Word}
use Rattle.mem_words.specs.declared.Word.TheVariants.{End, Free, Level, Num, Place, Inner, Bad}
use Rattle.mem_words.specs.Words.{Read}
use Rattle.check_words.specs.Passes.{drop_word, drop_end, goes_on, stops}
use Rattle.check_words.specs.Scope.{Held, clear, plain, boxed, guarding, scoped, excused, in_names, popped, use_passes, word_scoped, held_after, scope_from, scope_passed}
use Rattle.check_vartables.specs.Stacks.{tops, tops_same}
use Rattle.check_roles.specs.declared.Role.{Role}
use Rattle.check_roles.specs.declared.Role.TheVariants.{Clear, Plain, Boxed, Guarding}
use Rattle.check_roles.specs.Held.{role_of, names_word, Is, target, Cover, live, dead, Rel, Stays, rel_dead, rel_live, rel_wide, rel_on}
use Rattle.check_roles.specs.Boxes.{target_low, target_none, excused_none, excused_free, excused_some}
use Rattle.check_roles.specs.Marks.{is_marked}

-- before the word at i: k brackets are open, at the positions of P
pub record Holding (C : List Word) (P T N : List ℕ) (k i : ℕ) : Type 0 where
  pub stack : List Held
  pub answer : scope_passed C ≡ scope_from stack (drop i C)
  pub rel : Rel (tops P k) stack C T N i i live
  pub marks : (x : ℕ) → is_marked (get_or N x 0) ≡ elem x (scoped stack)
  pub small : (x : ℕ) → get_or N x 0 / 2 ≤ i
  pub few : k ≤ i

pub begins : (C : List Word) (P T N : List ℕ) → ((x : ℕ) → get_or N x 0 ≡ 0) → Holding C P T N 0 0
unfolding scope_passed tops Rel scoped elem
begins C P T N z = record {
  stack = [];
  answer = refl;
  rel = tt;
  marks = λ x. ap is_marked (z x);
  small = λ x. let q = z x in omega (arith, q);
  few = omega arith;
}

read : (S : List Held) (C : List Word) (i : ℕ) (w : Word) → i < length C → Read C i w → scope_from S (drop i C) ≡ (word_scoped S w (drop (i + 1) C) && scope_from (held_after S w (drop (i + 1) C)) (drop (i + 1) C))
unfolding scope_from
read S C i w h e = ap (scope_from S) (drop_word C i w h e)

pub on : (C : List Word) (S : List Held) (i : ℕ) (w : Word) → i < length C → Read C i w → scope_passed C ≡ scope_from S (drop i C) → word_scoped S w (drop (i + 1) C) ≡ true → scope_passed C ≡ scope_from (held_after S w (drop (i + 1) C)) (drop (i + 1) C)
on C S i w h e a t = a ∙ goes_on (scope_from S (drop i C)) (word_scoped S w (drop (i + 1) C)) (scope_from (held_after S w (drop (i + 1) C)) (drop (i + 1) C)) (read S C i w h e) t

pub off : {C : List Word} {P T N : List ℕ} {k i : ℕ} {w : Word} → i < length C → Read C i w → (h : Holding C P T N k i) → word_scoped h.stack w (drop (i + 1) C) ≡ false → false ≡ scope_passed C
off {C} {P} {T} {N} {k} {i} {w} l e h t = stops (scope_from h.stack (drop i C)) (word_scoped h.stack w (drop (i + 1) C)) (scope_from (held_after h.stack w (drop (i + 1) C)) (drop (i + 1) C)) (read h.stack C i w l e) t ∙ sym h.answer

pub ends : {C : List Word} {P T N : List ℕ} {k i : ℕ} → length C ≤ i → Holding C P T N k i → true ≡ scope_passed C
unfolding scope_from
ends {C} {P} {T} {N} {k} {i} h a = sym (a.answer ∙ ap (scope_from a.stack) (drop_end C i h))

-- the guarded goal that is waited in, from the innermost bracket
abbrev pub aim_at : Role → ℕ → ℕ → ℕ
aim_at Clear p t = t
aim_at Plain p t = 0
aim_at Boxed p t = 0
aim_at Guarding p t = suc p

abbrev pub aimed : List Word → List ℕ → List ℕ → ℕ
aimed C T [] = 0
aimed C T (p ∷ Ps) = aim_at (role_of (get_or C p Bad)) p (get_or T p 0)

aimed_target : (Ps : List ℕ) (S : List Held) (C : List Word) (T N : List ℕ) (i b : ℕ) (c : Cover) → Rel Ps S C T N i b c → aimed C T Ps ≡ target Ps S
unfolding Rel target
aimed_target [] [] C T N i b c r = refl
aimed_target [] (h ∷ S) C T N i b c r = absurd r
aimed_target (p ∷ Ps) [] C T N i b c r = absurd r
aimed_target (p ∷ Ps) (clear n ∷ S) C T N i b c r = ap (λ (o : Role). aim_at o p (get_or T p 0)) r.1.0 ∙ r.2
aimed_target (p ∷ Ps) (plain ∷ S) C T N i b c r = ap (λ (o : Role). aim_at o p (get_or T p 0)) r.1
aimed_target (p ∷ Ps) (boxed vs ∷ S) C T N i b c r = ap (λ (o : Role). aim_at o p (get_or T p 0)) r.1.0
aimed_target (p ∷ Ps) (guarding bs ∷ S) C T N i b c r = ap (λ (o : Role). aim_at o p (get_or T p 0)) r.1

pub aim : {C : List Word} {P T N : List ℕ} {k i : ℕ} (h : Holding C P T N k i) (t : ℕ) → t ≡ aimed C T (tops P k) → target (tops P k) h.stack ≡ t
aim {C} {P} {T} {N} {k} {i} h t e = sym (e ∙ aimed_target (tops P k) h.stack C T N i i live h.rel)

pub aim_low : {C : List Word} {P T N : List ℕ} {k i : ℕ} (h : Holding C P T N k i) (t : ℕ) → t ≡ aimed C T (tops P k) → t ≤ i
aim_low {C} {P} {T} {N} {k} {i} h t e = go t (aim h t e)
  where
    go : (u : ℕ) → target (tops P k) h.stack ≡ u → u ≤ i
    go zero q = omega arith
    go (suc g) q = let a = target_low (tops P k) h.stack C T N i i live g h.rel q in omega (arith, a)

-- whether the position of v is that of the last and-box of the guard
abbrev pub excuses : List ℕ → ℕ → ℕ → Bool
excuses T zero v = false
excuses T (suc g) v = eqb (get_or T g 0) 0 || eqb (v / 2) (get_or T g 0)

excuses_is : {C : List Word} {P T N : List ℕ} {k i : ℕ} (h : Holding C P T N k i) (t x : ℕ) → target (tops P k) h.stack ≡ t → excuses T t (get_or N x 0) ≡ excused x h.stack
excuses_is {C} {P} {T} {N} {k} {i} h zero x e = sym (excused_none x h.stack (target_none (tops P k) h.stack C T N i i live h.rel e))
excuses_is {C} {P} {T} {N} {k} {i} h (suc g) x e = go (ℕ_discrete (get_or T g 0) 0)
  where
    go : Dec (get_or T g 0 ≡ 0) → (eqb (get_or T g 0) 0 || eqb (get_or N x 0 / 2) (get_or T g 0)) ≡ excused x h.stack
    go (yes z) = ap (λ (b : Bool). b || eqb (get_or N x 0 / 2) (get_or T g 0)) (eq-eqb (get_or T g 0) 0 z) ∙ sym (excused_free (tops P k) h.stack C T N i i live g x h.rel e z)
    go (no z) = ap (λ (b : Bool). b || eqb (get_or N x 0 / 2) (get_or T g 0)) (ne_eqb (get_or T g 0) 0 z) ∙ sym (excused_some (tops P k) h.stack C T N i i live g x h.rel e z)

-- whether x may be used
abbrev pub usable : List ℕ → ℕ → ℕ → Bool
usable T t v = is_marked v || excuses T t v

pub usable_is : {C : List Word} {P T N : List ℕ} {k i : ℕ} (h : Holding C P T N k i) (t x : ℕ) → t ≡ aimed C T (tops P k) → in_names h.stack ≡ false → usable T t (get_or N x 0) ≡ word_scoped h.stack (Free x) (drop (i + 1) C)
usable_is {C} {P} {T} {N} {k} {i} h t x e n = ap₂ (λ (a b : Bool). a || b) (h.marks x) (excuses_is h t x (aim h t e)) ∙ sym (ap (λ (b : Bool). use_passes b x h.stack) n)

-- whether the innermost bracket holds locals
abbrev pub top_naming : List Word → List ℕ → Bool
top_naming C [] = false
top_naming C (p ∷ Ps) = names_word (get_or C p Bad)

names_clear : (w : Word) → (role_of w ≡ Clear → ⊥) → names_word w ≡ false
names_clear End n = refl
names_clear (Free x) n = refl
names_clear (Level l) n = refl
names_clear (Num m) n = refl
names_clear (Place k) n = refl
names_clear (Inner s) n = absurd (n refl)
names_clear Bad n = refl

apart_1 : {r : Role} → r ≡ Plain → r ≡ Clear → ⊥
apart_1 {r} a b = let z : Plain ≡ Clear = sym a ∙ b in let y : ◌≡◌ {A = ℕ} 0 1 = ap which z in omega (arith, y)
  where
    which : Role → ℕ
    which Clear = 1
    which Plain = 0
    which Boxed = 0
    which Guarding = 0

apart_2 : {r : Role} → r ≡ Boxed → r ≡ Clear → ⊥
apart_2 {r} a b = let z : Boxed ≡ Clear = sym a ∙ b in let y : ◌≡◌ {A = ℕ} 0 1 = ap which z in omega (arith, y)
  where
    which : Role → ℕ
    which Clear = 1
    which Plain = 0
    which Boxed = 0
    which Guarding = 0

apart_3 : {r : Role} → r ≡ Guarding → r ≡ Clear → ⊥
apart_3 {r} a b = let z : Guarding ≡ Clear = sym a ∙ b in let y : ◌≡◌ {A = ℕ} 0 1 = ap which z in omega (arith, y)
  where
    which : Role → ℕ
    which Clear = 1
    which Plain = 0
    which Boxed = 0
    which Guarding = 0

naming_is : (Ps : List ℕ) (S : List Held) (C : List Word) (T N : List ℕ) (i b : ℕ) (c : Cover) → Rel Ps S C T N i b c → in_names S ≡ top_naming C Ps
unfolding Rel
naming_is [] [] C T N i b c r = refl
naming_is [] (h ∷ S) C T N i b c r = absurd r
naming_is (p ∷ Ps) [] C T N i b c r = absurd r
naming_is (p ∷ Ps) (clear n ∷ S) C T N i b c r = r.1.1
naming_is (p ∷ Ps) (plain ∷ S) C T N i b c r = sym (names_clear (get_or C p Bad) (apart_1 r.1))
naming_is (p ∷ Ps) (boxed vs ∷ S) C T N i b c r = sym (names_clear (get_or C p Bad) (apart_2 r.1.0))
naming_is (p ∷ Ps) (guarding bs ∷ S) C T N i b c r = sym (names_clear (get_or C p Bad) (apart_3 r.1))

pub names_are : {C : List Word} {P T N : List ℕ} {k i : ℕ} (h : Holding C P T N k i) → in_names h.stack ≡ top_naming C (tops P k)
names_are {C} {P} {T} {N} {k} {i} h = naming_is (tops P k) h.stack C T N i i live h.rel

-- later
same_stays : (N : List ℕ) (i : ℕ) (c : Cover) (S : List Held) (x : ℕ) → Stays N N i c S x
same_stays N i c S x = inl refl

later : (Ps : List ℕ) (S : List Held) (C : List Word) (T U N : List ℕ) (i b : ℕ) (c : Cover) → b ≤ i → ((p : ℕ) → p < b → get_or U p 0 ≡ get_or T p 0) → Rel Ps S C T N i b c → Rel Ps S C U N (i + 1) b c
later Ps S C T U N i b c h t r = rel_on Ps S C T U N N i (i + 1) b c (omega arith) t (same_stays N i c S) r

-- a word that changes nothing
pub idle : {C : List Word} {P T N : List ℕ} {k i : ℕ} {w : Word} → i < length C → Read C i w → (h : Holding C P T N k i) → word_scoped h.stack w (drop (i + 1) C) ≡ true → held_after h.stack w (drop (i + 1) C) ≡ h.stack → Holding C P T N k (i + 1)
idle {C} {P} {T} {N} {k} {i} {w} l e h t s = record {
  stack = h.stack;
  answer = on C h.stack i w l e h.answer t ∙ ap (λ (S : List Held). scope_from S (drop (i + 1) C)) s;
  rel = rel_wide (tops P k) h.stack C T N (i + 1) i (i + 1) live (omega arith) (later (tops P k) h.stack C T T N i i live (omega arith) (λ p q. refl) h.rel);
  marks = h.marks;
  small = λ x. let a = h.small x in omega (arith, a);
  few = omega (arith, h.few);
}

pub tip : {P Q : List ℕ} {k i : ℕ} → k < length P → Stored P k i Q → tops Q (k + 1) ≡ i ∷ tops P k
unfolding tops
tip {P} {Q} {k} {i} m s = let q : k + 1 ≡ suc k = omega arith in ap (tops Q) q ∙ ap₂ (λ (p : ℕ) (r : List ℕ). p ∷ r) (stored_same 0 s m) (tops_same s k (omega arith))

-- a bracket opens that is no and-box
abbrev pub Fits : Held → ℕ → Type 0
Fits (clear n) t = Unit {0}
Fits plain t = t ≡ 0
Fits (boxed vs) t = ⊥
Fits (guarding []) t = t ≡ 0
Fits (guarding (b ∷ bs)) t = ⊥

opened_rel : (o : Held) (Ps : List ℕ) (S : List Held) (C : List Word) (T U N : List ℕ) (i t : ℕ) → Is C i o → Fits o t → target Ps S ≡ t → i < length T → Stored T i t U → Rel Ps S C T N i i live → Rel (i ∷ Ps) (o ∷ S) C U N (i + 1) (i + 1) live
unfolding Rel
opened_rel (clear n) Ps S C T U N i t s f e l u r = (omega arith, s, stored_same 0 u l ∙ sym e, later Ps S C T U N i i live (omega arith) (λ p q. stored_other p 0 u (λ z. omega (arith, z, q))) r)
opened_rel plain Ps S C T U N i t s f e l u r = (omega arith, s, later Ps S C T U N i i dead (omega arith) (λ p q. stored_other p 0 u (λ z. omega (arith, z, q))) (rel_dead Ps S C T N i i r (target_none Ps S C T N i i live r (e ∙ f))))
opened_rel (boxed vs) Ps S C T U N i t s f e l u r = absurd f
opened_rel (guarding []) Ps S C T U N i t s f e l u r = (omega arith, s, stored_same 0 u l ∙ f, tt, later Ps S C T U N i i dead (omega arith) (λ p q. stored_other p 0 u (λ z. omega (arith, z, q))) (rel_dead Ps S C T N i i r (target_none Ps S C T N i i live r (e ∙ f))))
opened_rel (guarding (b ∷ bs)) Ps S C T U N i t s f e l u r = absurd f

opened_scope : (o : Held) (t : ℕ) (S : List Held) → Fits o t → scoped (o ∷ S) ≡ scoped S
unfolding scoped
opened_scope (clear n) t S f = refl
opened_scope plain t S f = refl
opened_scope (boxed vs) t S f = absurd f
opened_scope (guarding bs) t S f = refl

pub pushed : {C : List Word} {P Q T U N : List ℕ} {k i : ℕ} {w : Word} (t : ℕ) (o : Held) → i < length C → Read C i w → k < length P → i < length T → Stored P k i Q → Stored T i t U → (h : Holding C P T N k i) → t ≡ aimed C T (tops P k) → Is C i o → Fits o t → word_scoped h.stack w (drop (i + 1) C) ≡ true → held_after h.stack w (drop (i + 1) C) ≡ o ∷ h.stack → Holding C Q U N (k + 1) (i + 1)
pushed {C} {P} {Q} {T} {U} {N} {k} {i} {w} t o l e m n s u h a p f v q = record {
  stack = o ∷ h.stack;
  answer = on C h.stack i w l e h.answer v ∙ ap (λ (S : List Held). scope_from S (drop (i + 1) C)) q;
  rel = subst (λ (Ps : List ℕ). Rel Ps (o ∷ h.stack) C U N (i + 1) (i + 1) live) (sym (tip m s)) (opened_rel o (tops P k) h.stack C T U N i t p f (aim h t a) n u h.rel);
  marks = λ x. h.marks x ∙ ap (elem x) (sym (opened_scope o t h.stack f));
  small = λ x. let z = h.small x in omega (arith, z);
  few = omega (arith, h.few);
}

-- a bracket ends that is no and-box
boxed_not : {r : Role} → r ≡ Boxed → (r ≡ Boxed → ⊥) → ⊥
boxed_not e n = n e

pop_rel : (p : ℕ) (Ps : List ℕ) (S : List Held) (C : List Word) (T N : List ℕ) (i : ℕ) → (role_of (get_or C p Bad) ≡ Boxed → ⊥) → Rel (p ∷ Ps) S C T N i i live → Rel Ps (popped S) C T N i i live × (scoped (popped S) ≡ scoped S)
unfolding Rel scoped
pop_rel p Ps [] C T N i n r = absurd r
pop_rel p Ps (clear m ∷ S) C T N i n r = let q = r.0 in (rel_wide Ps S C T N i p i live (omega (arith, q)) r.3, refl)
pop_rel p Ps (plain ∷ S) C T N i n r = let q = r.0 in (rel_wide Ps S C T N i p i live (omega (arith, q)) (rel_live Ps S C T N i p dead r.2), refl)
pop_rel p Ps (boxed vs ∷ S) C T N i n r = absurd (n r.1.0)
pop_rel p Ps (guarding bs ∷ S) C T N i n r = let q = r.0 in (rel_wide Ps S C T N i p i live (omega (arith, q)) (rel_live Ps S C T N i p dead r.4), refl)

pop_one : {C : List Word} {P T N : List ℕ} {i : ℕ} (k : ℕ) → i < length C → Read C i End → (role_of (get_or C (get_or P k 0) Bad) ≡ Boxed → ⊥) → Holding C P T N (suc k) i → Holding C P T N k (i + 1)
unfolding tops
pop_one {C} {P} {T} {N} {i} k l e n h =
    let z = pop_rel (get_or P k 0) (tops P k) h.stack C T N i n h.rel in
    record {
      stack = popped h.stack;
      answer = on C h.stack i End l e h.answer refl;
      rel = rel_wide (tops P k) (popped h.stack) C T N (i + 1) i (i + 1) live (omega arith) (later (tops P k) (popped h.stack) C T T N i i live (omega arith) (λ p q. refl) z.0);
      marks = λ x. h.marks x ∙ ap (elem x) (sym z.1);
      small = λ x. let a = h.small x in omega (arith, a);
      few = omega (arith, h.few);
    }

pub closed : {C : List Word} {P T N : List ℕ} {k i : ℕ} → i < length C → Read C i End → (k ≡ 0 → ⊥) → (role_of (get_or C (get_or P (k - 1) 0) Bad) ≡ Boxed → ⊥) → Holding C P T N k i → Holding C P T N (k - 1) (i + 1)
closed {C} {P} {T} {N} {k} {i} l e n b h = let q : k ≡ suc (k - 1) = omega (arith, n) in pop_one (k - 1) l e b (subst (λ (m : ℕ). Holding C P T N m i) q h)

none_left : (P : List ℕ) (k : ℕ) (S : List Held) (C : List Word) (T N : List ℕ) (i : ℕ) → k ≡ 0 → Rel (tops P k) S C T N i i live → popped S ≡ S
unfolding tops Rel
none_left P zero [] C T N i z r = refl
none_left P zero (h ∷ S) C T N i z r = absurd r
none_left P (suc k) S C T N i z r = absurd (omega (arith, z))

pub closed_none : {C : List Word} {P T N : List ℕ} {k i : ℕ} → i < length C → Read C i End → k ≡ 0 → Holding C P T N k i → Holding C P T N 0 (i + 1)
closed_none {C} {P} {T} {N} {k} {i} l e z h = subst (λ (m : ℕ). Holding C P T N m (i + 1)) z (idle l e h refl (none_left P k h.stack C T N i z h.rel))
