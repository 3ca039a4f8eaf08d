-- The test of scope at an and-box: it opens, its locals being marked, and ends. Assumes nothing.
use Rattle.std.specs.Prelude.{◌≡◌, refl, List, [], ◌∷◌, ◌++◌, Bool, true, false, ◌&&◌, ◌||◌, not, ℕ, suc, ◌+◌, ◌-◌, ◌/◌, ◌%◌, ◌≤◌, ◌<◌, eqb, length, get_or, drop}
use Rattle.std.proofs.Common.{ap, sym, ◌∙◌, subst, inl, arith, eq-eqb, ne_eqb, drop-drop}
use Rattle.constraint.specs.Solve.{elem, distinct}
use Rattle.akl.specs.Base.{all, if}
use Rattle.mem_numbers.specs.Stored.{Stored, stored_same, stored_other}
use Rattle.mem_words.specs.declared.Word.{Word}
use Rattle.mem_words.specs.declared.Word.TheVariants.{End, Place, Bad}
use Rattle.mem_sorts.specs.declared.Kind.TheVariants.{And}
use Rattle.mem_words.specs.Words.{Read}
use Rattle.check_words.specs.Frees.{frees}
use Rattle.check_words.specs.Scope.{Held, clear, plain, boxed, guarding, scoped, give, popped, fresh, word_scoped, scope_from, scope_passed}
use Rattle.check_words.proofs.Tests.{all_ext, all_elem, both_true, elem_append, or_false}
use Rattle.check_words.proofs.Scope.{give_scope}
use Rattle.check_vartables.specs.Stacks.{tops}
use Rattle.check_roles.specs.declared.Role.{Role}
use Rattle.check_roles.specs.declared.Role.TheVariants.{Clear, Plain, Boxed, Guarding}
use Rattle.check_roles.specs.Held.{role_of, live, dead, under, Rel, rel_dead, rel_any, rel_live, rel_wide, rel_on}
use Rattle.check_roles.specs.Boxes.{newer, Marked, target_none, give_none, marked_stays, Linked, rel_given}
use Rattle.check_roles.specs.Marks.{is_marked, all_new, all_new_is, mark_all, marked_all, unmark_all, unmark_half, unmark_out, unmark_in}
use Rattle.check_roles.specs.Steps.{Holding, on, off, aimed, aim, tip}

-- the locals behind an and-box's opening at i
abbrev pub own : List Word → ℕ → List ℕ
own C i = frees (drop (i + 2) C)

own_is : (C : List Word) (i : ℕ) → frees (drop 1 (drop (i + 1) C)) ≡ own C i
own_is C i = let e : i + 1 + 1 ≡ i + 2 = omega arith in ap frees (drop-drop 1 (i + 1) C ∙ ap (λ (k : ℕ). drop k C) e)

-- none of them is in scope, and they are different
new_is : {C : List Word} {P T N : List ℕ} {k i : ℕ} (h : Holding C P T N k i) (l : ℕ) → all_new (own C i) l i (λ y. get_or N y 0) ≡ word_scoped h.stack (Place And) (drop (i + 1) C)
unfolding fresh
new_is {C} {P} {T} {N} {k} {i} h l =
    all_new_is (own C i) l i (λ y. get_or N y 0)
    ∙ ap (λ (t : Bool). distinct (own C i) && t) (all_ext (λ y. not (is_marked (get_or N y 0))) (λ y. not (elem y (scoped h.stack))) (own C i) (λ y. ap not (h.marks y)))
    ∙ ap (λ (vs : List ℕ). distinct vs && all (λ y. not (elem y (scoped h.stack))) vs) (sym (own_is C i))

pub refused : {C : List Word} {P T N : List ℕ} {k i : ℕ} (l : ℕ) → i < length C → Read C i (Place And) → (h : Holding C P T N k i) → all_new (own C i) l i (λ y. get_or N y 0) ≡ false → false ≡ scope_passed C
refused l m e h f = off m e h (sym (new_is h l) ∙ f)

not_true : (a : Bool) → not a ≡ true → a ≡ false
not_true true e = absurd (let z : ◌≡◌ {A = ℕ} 0 1 = cc in omega arith)
not_true false e = refl

-- what is known when all are new
record New (C : List Word) (S : List Held) (N : List ℕ) (l i : ℕ) : Type 0 where
  differ : distinct (own C i) ≡ true
  outside : (x : ℕ) → elem x (own C i) ≡ true → elem x (scoped S) ≡ false

news : {C : List Word} {P T N : List ℕ} {k i : ℕ} (l : ℕ) (h : Holding C P T N k i) → all_new (own C i) l i (λ y. get_or N y 0) ≡ true → New C h.stack N l i
news {C} {P} {T} {N} {k} {i} l h t =
    let q = both_true (distinct (own C i)) (all (λ y. not (is_marked (get_or N y 0))) (own C i)) (sym (all_new_is (own C i) l i (λ y. get_or N y 0)) ∙ t) in
    record { differ = q.0; outside = λ x e. sym (h.marks x) ∙ not_true (is_marked (get_or N x 0)) (all_elem (λ y. not (is_marked (get_or N y 0))) (own C i) x q.1 e) }

-- all but the stack's place in the tables
boxed_marks : {N M vs : List ℕ} {l i : ℕ} (S : List Held) → Marked N M vs l i → ((x : ℕ) → is_marked (get_or N x 0) ≡ elem x (scoped S)) → (x : ℕ) → is_marked (get_or M x 0) ≡ elem x (scoped (give vs S) ++ vs)
boxed_marks {N} {M} {vs} {l} {i} S m h x = go (elem x vs) refl ∙ sym (elem_append x (scoped (give vs S)) vs ∙ ap (λ (xs : List ℕ). elem x xs || elem x vs) (give_scope vs S))
  where
    top : (a : Bool) → (a || true) ≡ true
    top true = refl
    top false = refl

    go : (b : Bool) → elem x vs ≡ b → is_marked (get_or M x 0) ≡ (elem x (scoped S) || elem x vs)
    go true e = eq-eqb (get_or M x 0 % 2) 1 (m.bit x e) ∙ sym (ap (λ (b : Bool). elem x (scoped S) || b) e ∙ top (elem x (scoped S)))
    go false e = ap is_marked (m.out x e) ∙ h x ∙ sym (ap (λ (b : Bool). elem x (scoped S) || b) e ∙ or_false (elem x (scoped S)))

newer_low : (l i g : ℕ) → g ≤ i → newer l i g ≤ i + 1
newer_low l i g h = go (eqb l 0 || eqb g l)
  where
    go : (b : Bool) → if b (suc i) g ≤ i + 1
    go true = omega arith
    go false = omega arith

boxed_small : {N M vs : List ℕ} {l i : ℕ} → Marked N M vs l i → ((x : ℕ) → get_or N x 0 / 2 ≤ i) → (x : ℕ) → get_or M x 0 / 2 ≤ i + 1
boxed_small {N} {M} {vs} {l} {i} m h x = go (elem x vs) refl
  where
    go : (b : Bool) → elem x vs ≡ b → get_or M x 0 / 2 ≤ i + 1
    go true e = let q = m.half x e in let a = newer_low l i (get_or N x 0 / 2) (h x) in omega (arith, q, a)
    go false e = let q = m.out x e in let a = h x in omega (arith, q, a)

box_opened : {C : List Word} {P Q T U N M : List ℕ} {k i : ℕ} (l : ℕ) → i < length C → Read C i (Place And) → k < length P → Stored P k i Q → (h : Holding C P T N k i) → all_new (own C i) l i (λ y. get_or N y 0) ≡ true → Marked N M (own C i) l i → Rel (tops P k) (give (own C i) h.stack) C U M (i + 1) i (under (own C i)) → Holding C Q U M (k + 1) (i + 1)
unfolding Rel scoped
box_opened {C} {P} {Q} {T} {U} {N} {M} {k} {i} l m e n s h t mk r =
    let vs = own C i in
    let z = news l h t in
    record {
      stack = boxed vs ∷ give vs h.stack;
      answer = on C h.stack i (Place And) m e h.answer (sym (new_is h l) ∙ t) ∙ ap (λ (us : List ℕ). scope_from (boxed us ∷ give us h.stack) (drop (i + 1) C)) (own_is C i);
      rel = subst (λ (Ps : List ℕ). Rel Ps (boxed vs ∷ give vs h.stack) C U M (i + 1) (i + 1) live) (sym (tip n s)) (omega arith, (ap role_of (sym e.is), refl), (λ x q. ap (elem x) (give_scope vs h.stack) ∙ z.outside x q), r);
      marks = boxed_marks h.stack mk h.marks;
      small = boxed_small mk h.small;
      few = omega (arith, h.few);
    }

-- in no guard
pub box_alone : {C : List Word} {P Q T N M : List ℕ} {k i : ℕ} (t : ℕ) → i < length C → Read C i (Place And) → k < length P → Stored P k i Q → (h : Holding C P T N k i) → t ≡ aimed C T (tops P k) → t ≡ 0 → all_new (own C i) 0 i (λ y. get_or N y 0) ≡ true → ((y : ℕ) → get_or M y 0 ≡ mark_all (own C i) 0 i (λ z. get_or N z 0) y) → Holding C Q T M (k + 1) (i + 1)
box_alone {C} {P} {Q} {T} {N} {M} {k} {i} t m e n s h a z f y =
    let vs = own C i in
    let w = news 0 h f in
    let mk = marked_all N M vs 0 i w.differ y in
    let aw = target_none (tops P k) h.stack C T N i i live h.rel (aim h t a ∙ z) in
    let r = rel_any (tops P k) h.stack C T M (i + 1) i (under vs) (rel_on (tops P k) h.stack C T T N M i (i + 1) i dead (omega arith) (λ p q. refl) (marked_stays dead h.stack mk w.outside (λ x q. tt)) (rel_dead (tops P k) h.stack C T N i i h.rel aw)) in
    box_opened 0 m e n s h f mk (subst (λ (S : List Held). Rel (tops P k) S C T M (i + 1) i (under vs)) (sym (give_none vs h.stack aw)) r)

-- in a guard: it is the last of its and-boxes now
pub box_guarding : {C : List Word} {P Q T U N M : List ℕ} {k i : ℕ} (t : ℕ) → i < length C → Read C i (Place And) → k < length P → Stored P k i Q → (h : Holding C P T N k i) → t ≡ aimed C T (tops P k) → (t ≡ 0 → ⊥) → t - 1 < length T → Stored T (t - 1) (i + 1) U → all_new (own C i) (get_or T (t - 1) 0) i (λ y. get_or N y 0) ≡ true → ((y : ℕ) → get_or M y 0 ≡ mark_all (own C i) (get_or T (t - 1) 0) i (λ z. get_or N z 0) y) → Holding C Q U M (k + 1) (i + 1)
box_guarding {C} {P} {Q} {T} {U} {N} {M} {k} {i} t m e n s h a z g u f y =
    let vs = own C i in
    let l = get_or T (t - 1) 0 in
    let w = news l h f in
    let mk = marked_all N M vs l i w.differ y in
    let q : t ≡ suc (t - 1) = omega (arith, z) in
    let v : i + 1 ≡ suc i = omega arith in
    let k₁ : Linked T U (t - 1) i = record { here = stored_same 0 u g ∙ v; there = λ p b. stored_other p 0 u b } in
    let r : Rel (tops P k) (give vs h.stack) C U M (suc i) i (under vs) = rel_given (tops P k) h.stack C T U N M vs i i (t - 1) (aim h t a ∙ q) k₁ mk h.small w.outside h.rel in
    box_opened l m e n s h f mk (subst (λ (j : ℕ). Rel (tops P k) (give vs h.stack) C U M j i (under vs)) (sym v) r)

-- an and-box ends
which : Role → ℕ
which Clear = 0
which Plain = 0
which Boxed = 1
which Guarding = 0

differs : (r s : Role) → r ≡ s → r ≡ Boxed → which s ≡ 0 → ⊥
unfolding which
differs r s e f z = let y : ◌≡◌ {A = ℕ} 1 0 = ap which (sym f ∙ e) ∙ z in omega (arith, y)

record Unboxed (Ps : List ℕ) (S : List Held) (C : List Word) (T N vs : List ℕ) (i : ℕ) : Type 0 where
  rel : Rel Ps (popped S) C T N i i live
  scope : scoped S ≡ scoped (popped S) ++ vs
  apart : (x : ℕ) → elem x vs ≡ true → elem x (scoped (popped S)) ≡ false

unboxed : (p : ℕ) (Ps : List ℕ) (S : List Held) (C : List Word) (T N : List ℕ) (i : ℕ) → role_of (get_or C p Bad) ≡ Boxed → Rel (p ∷ Ps) S C T N i i live → Unboxed Ps S C T N (own C p) i
unfolding Rel scoped which
unboxed p Ps [] C T N i b r = absurd r
unboxed p Ps (clear n ∷ S) C T N i b r = absurd (differs (role_of (get_or C p Bad)) Clear r.1.0 b refl)
unboxed p Ps (plain ∷ S) C T N i b r = absurd (differs (role_of (get_or C p Bad)) Plain r.1 b refl)
unboxed p Ps (boxed vs ∷ S) C T N i b r =
    let q = r.0 in
    let e : vs ≡ own C p = r.1.1 in
    record {
      rel = rel_wide Ps S C T N i p i live (omega (arith, q)) (rel_live Ps S C T N i p (under vs) r.3);
      scope = ap (λ (us : List ℕ). scoped S ++ us) e;
      apart = λ x z. r.2 x (ap (elem x) e ∙ z);
    }
unboxed p Ps (guarding bs ∷ S) C T N i b r = absurd (differs (role_of (get_or C p Bad)) Guarding r.1 b refl)

end_one : {C : List Word} {P T N M : List ℕ} {i : ℕ} (k : ℕ) → i < length C → Read C i End → role_of (get_or C (get_or P k 0) Bad) ≡ Boxed → ((y : ℕ) → get_or M y 0 ≡ unmark_all (own C (get_or P k 0)) (λ z. get_or N z 0) y) → Holding C P T N (suc k) i → Holding C P T M k (i + 1)
unfolding tops
end_one {C} {P} {T} {N} {M} {i} k l e b y h =
    let z = unboxed (get_or P k 0) (tops P k) h.stack C T N i b h.rel in
    record {
      stack = popped h.stack;
      answer = on C h.stack i End l e h.answer refl;
      rel = rel_wide (tops P k) (popped h.stack) C T M (i + 1) i (i + 1) live (omega arith) (rel_on (tops P k) (popped h.stack) C T T N M i (i + 1) i live (omega arith) (λ p q. refl) (λ x. inl (half x)) z.rel);
      marks = λ x. mark x (elem x vs) refl;
      small = λ x. let a = h.small x in let q = half x in omega (arith, a, q);
      few = omega (arith, h.few);
    }
  where
    vs : List ℕ
    vs = own C (get_or P k 0)

    half : (x : ℕ) → get_or M x 0 / 2 ≡ get_or N x 0 / 2
    half x = ap (λ (v : ℕ). v / 2) (y x) ∙ unmark_half (own C (get_or P k 0)) (λ w. get_or N w 0) x

    z₁ : Unboxed (tops P k) h.stack C T N (own C (get_or P k 0)) i
    z₁ = unboxed (get_or P k 0) (tops P k) h.stack C T N i b h.rel

    mark : (x : ℕ) (t : Bool) → elem x (own C (get_or P k 0)) ≡ t → is_marked (get_or M x 0) ≡ elem x (scoped (popped h.stack))
    mark x true q =
        let v : get_or M x 0 % 2 ≡ 0 = ap (λ (v : ℕ). v % 2) (y x) ∙ unmark_in (own C (get_or P k 0)) (λ w. get_or N w 0) x q in
        ne_eqb (get_or M x 0 % 2) 1 (λ u. omega (arith, u, v)) ∙ sym (z₁.apart x q)
    mark x false q =
        ap is_marked (y x ∙ unmark_out (own C (get_or P k 0)) (λ w. get_or N w 0) x q)
        ∙ h.marks x
        ∙ ap (elem x) z₁.scope
        ∙ elem_append x (scoped (popped h.stack)) (own C (get_or P k 0))
        ∙ ap (λ (t : Bool). elem x (scoped (popped h.stack)) || t) q
        ∙ or_false (elem x (scoped (popped h.stack)))

pub box_ended : {C : List Word} {P T N M : List ℕ} {k i : ℕ} → i < length C → Read C i End → (k ≡ 0 → ⊥) → role_of (get_or C (get_or P (k - 1) 0) Bad) ≡ Boxed → ((y : ℕ) → get_or M y 0 ≡ unmark_all (own C (get_or P (k - 1) 0)) (λ z. get_or N z 0) y) → Holding C P T N k i → Holding C P T M (k - 1) (i + 1)
box_ended {C} {P} {T} {N} {M} {k} {i} l e n b y h = let q : k ≡ suc (k - 1) = omega (arith, n) in end_one (k - 1) l e b y (subst (λ (m : ℕ). Holding C P T N m i) q h)
