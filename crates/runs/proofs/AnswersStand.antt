-- The answers of a configuration are those that stand at its places, in their order.
use mathlib.Core.Path.{◌≡◌, refl, ap, sym, ◌∙◌, subst}
use mathlib.Core.Logic.{◌↔◌, ◌⊎◌, inl, inr}
use mathlib.Core.List.{List, [], ◌∷◌, ◌++◌}
use mathlib.Core.Bool.{Bool, true, false, ◌&&◌}
use mathlib.Core.Option.{Option, some, none, some-injective}
use Prim.Native.Nat.{ℕ, zero, suc}
use lib.Dec.{T}
use native.Mathlib.Omega.{arith}
use Rattle.constraint.specs.Constraint.{Store, Satisfiable}
use Rattle.constraint.specs.Solve.{satisfiable?}
use Rattle.constraint.proofs.Lists.{and_T}
use Rattle.constraint.proofs.Decision.{satisfiable_iff}
use Rattle.akl.specs.Base.{nth, if}
use Rattle.akl.specs.Configuration.{Kind, goal, member, Node, or, and, stmt, choice_box, guard, Nodes, nil, cons, ◌+n◌, one, Ctx, top, in_or, in_and, in_choice, in_guard, plug, Config}
use Rattle.akl.specs.Places.{Place, at, places, places_all, place, place_number}
use Rattle.akl.specs.Answers.{Answer, solved_box, answers, answers_all, failed, final, open_state, is_answer, all_answers, state}
use Rattle.accept.proofs.EffectSound.{whole}
use Rattle.accept.proofs.PlaceLaws.{place_whole, place_of}
use Rattle.runs.specs.Calls.{AnswerIn}
use Rattle.runs.specs.AnswerPlaces.{OrsAround, Solved, IsAnswer, Gathers, StandsAs, AnswerBox, EachAnswer}

-- ---------------------------------------------------------------------------------------------
-- Lists that are gathered.

gathers_append : (ps qs : List Place) (l m : List Answer) → Gathers ps l → Gathers qs m → Gathers (ps ++ qs) (l ++ m)
gathers_append [] qs l m e h = subst (λ z. Gathers qs (z ++ m)) (sym e) h
gathers_append (p ∷ ps) qs l m (inl w) h = inl (w.0, w.1 ++ m, w.2, ap (λ z. z ++ m) w.3, gathers_append ps qs w.1 m w.4 h)
gathers_append (p ∷ ps) qs l m (inr w) h = inr (w.0, gathers_append ps qs l m w.1 h)

same_answer : (p : Place) (a b : Answer) → IsAnswer p a → IsAnswer p b → a ≡ b
same_answer (at χ (or ns)) a b h k = absurd h
same_answer (at χ (and vs σ ms)) a b h k = h.3 ∙ sym k.3
same_answer (at χ (stmt s)) a b h k = absurd h
same_answer (at χ (choice_box op gs)) a b h k = absurd h
same_answer (at χ (guard g b')) a b h k = absurd h

-- The places determine the list.
pub gathered_once : (ps : List Place) (l m : List Answer) → Gathers ps l → Gathers ps m → l ≡ m
gathered_once [] l m h k = h ∙ sym k
gathered_once (p ∷ ps) l m (inl w) (inl v) = w.3 ∙ (λ i. same_answer p w.0 v.0 w.2 v.2 i ∷ gathered_once ps w.1 v.1 w.4 v.4 i) ∙ sym v.3
gathered_once (p ∷ ps) l m (inl w) (inr v) = absurd (v.0 w.0 w.2)
gathered_once (p ∷ ps) l m (inr w) (inl v) = absurd (w.0 v.0 v.2)
gathered_once (p ∷ ps) l m (inr w) (inr v) = gathered_once ps l m w.1 v.1

-- ---------------------------------------------------------------------------------------------
-- Where something else than or-boxes is around, no answer stands.

not_there : {k : Kind} (χ : Ctx k) (n : Node k) → ¬ OrsAround χ → (a : Answer) → ¬ IsAnswer (at χ n) a
not_there χ (or ns) f a h = h
not_there χ (and vs σ ms) f a h = f h.0
not_there χ (stmt s) f a h = h
not_there χ (choice_box op gs) f a h = h
not_there χ (guard g b) f a h = h

mutual
  unfolding places

  none_in : {k : Kind} (n : Node k) (χ : Ctx k) → ¬ OrsAround χ → Gathers (places n χ) []
  none_in (or ns) χ f = inr (not_there χ (or ns) f, none_in_all ns (in_or χ) (λ l r. f) nil)
  none_in (and vs σ ms) χ f = inr (not_there χ (and vs σ ms) f, none_in_all ms (in_and χ vs σ) (λ l r e. e) nil)
  none_in (stmt s) χ f = inr (not_there χ (stmt s) f, refl)
  none_in (choice_box op gs) χ f = inr (not_there χ (choice_box op gs) f, none_in_all gs (in_choice χ op) (λ l r e. e) nil)
  none_in (guard g b) χ f = inr (not_there χ (guard g b) f, none_in g (in_guard χ b) (λ e. e))

  none_in_all : {k : Kind} (ns : Nodes k) (around : Nodes k → Nodes k → Ctx k) → ((l r : Nodes k) → ¬ OrsAround (around l r)) → (l : Nodes k) →
      Gathers (places_all ns around l) []
  none_in_all nil around f l = refl
  none_in_all (cons n ns) around f l = gathers_append (places n (around l ns)) (places_all ns around (l +n one n)) [] [] (none_in n (around l ns) (f l ns)) (none_in_all ns around f (l +n one n))

-- ---------------------------------------------------------------------------------------------
-- Where nothing else is, they are those of the walk.

box_gathers : (χ : Ctx goal) (vs : List ℕ) (σ : Store) (ms : Nodes member) (ps : List Place) → OrsAround χ → Gathers ps [] →
    Gathers (at χ (and vs σ ms) ∷ ps) (solved_box vs σ ms)
box_gathers χ vs σ (cons m ms) ps f h = inr ((λ a k. k.1), h)
box_gathers χ vs σ nil ps f h = go (satisfiable? σ) refl
  where
    go : (b : Bool) → satisfiable? σ ≡ b → Gathers (at χ (and vs σ nil) ∷ ps) (if b ((vs, σ) ∷ []) [])
    go true e = inl ((vs, σ), [], (f, tt, (satisfiable_iff σ).0 (subst T (sym e) tt), refl), refl, h)
    go false e = inr ((λ a k. subst T e ((satisfiable_iff σ).1 k.2)), h)

mutual
  unfolding places answers

  stand_in : {k : Kind} (n : Node k) (χ : Ctx k) → OrsAround χ → Gathers (places n χ) (answers n)
  stand_in (or ns) χ f = inr ((λ a h. h), stand_in_all ns (in_or χ) (λ l r. f) nil)
  stand_in (and vs σ ms) χ f = box_gathers χ vs σ ms (places_all ms (in_and χ vs σ) nil) f (none_in_all ms (in_and χ vs σ) (λ l r e. e) nil)
  stand_in (stmt s) χ f = inr ((λ a h. h), refl)
  stand_in (choice_box op gs) χ f = inr ((λ a h. h), none_in_all gs (in_choice χ op) (λ l r e. e) nil)
  stand_in (guard g b) χ f = inr ((λ a h. h), none_in g (in_guard χ b) (λ e. e))

  stand_in_all : {k : Kind} (ns : Nodes k) (around : Nodes k → Nodes k → Ctx k) → ((l r : Nodes k) → OrsAround (around l r)) → (l : Nodes k) →
      Gathers (places_all ns around l) (answers_all ns)
  stand_in_all nil around f l = refl
  stand_in_all (cons n ns) around f l = gathers_append (places n (around l ns)) (places_all ns around (l +n one n)) (answers n) (answers_all ns) (stand_in n (around l ns) (f l ns)) (stand_in_all ns around f (l +n one n))

-- The answers of a configuration are those at its places, in order; by `gathered-once` no other list is.
pub answers_stand : (g : Node goal) → Gathers (places g top) (answers g)
answers_stand g = stand_in g top tt

-- ---------------------------------------------------------------------------------------------
-- One answer: a solved and-box in a context of or-boxes alone.

gathered_at : (ps : List Place) (l : List Answer) (a : Answer) → Gathers ps l → AnswerIn a l → (i : ℕ) × (p : Place) × (nth ps i ≡ some p) × IsAnswer p a
unfolding nth
gathered_at [] l a e i = absurd (subst (AnswerIn a) e i)
gathered_at (p ∷ ps) l a (inl w) i = elim (subst (AnswerIn a) w.3 i) [ inl e ↦ (0, p, refl, subst (IsAnswer p) (sym e) w.2) | inr j ↦ (let v = gathered_at ps w.1 a w.4 j in (suc v.0, v.1, v.2, v.3)) ]
gathered_at (p ∷ ps) l a (inr w) i = let v = gathered_at ps l a w.1 i in (suc v.0, v.1, v.2, v.3)

at_gathered : (ps : List Place) (l : List Answer) (a : Answer) (i : ℕ) (p : Place) → Gathers ps l → nth ps i ≡ some p → IsAnswer p a → AnswerIn a l
unfolding nth
at_gathered [] l a i p g e h = absurd (nope e)
  where
    nope : ◌≡◌ {A = Option Place} none (some p) → ⊥
    nope q = let z : ◌≡◌ {A = ℕ} 0 1 = cc in omega arith
at_gathered (x ∷ ps) l a zero p (inl w) e h = subst (AnswerIn a) (sym w.3) (inl (same_answer x a w.0 (subst (λ z. IsAnswer z a) (sym (some-injective x p e)) h) w.2))
at_gathered (x ∷ ps) l a zero p (inr w) e h = absurd (w.0 a (subst (λ z. IsAnswer z a) (sym (some-injective x p e)) h))
at_gathered (x ∷ ps) l a (suc i) p (inl w) e h = subst (AnswerIn a) (sym w.3) (inr (at_gathered ps w.1 a i p w.4 e h))
at_gathered (x ∷ ps) l a (suc i) p (inr w) e h = at_gathered ps l a i p w.1 e h

stands_at : (g : Node goal) (a : Answer) (p : Place) → whole p ≡ g → IsAnswer p a → StandsAs g a
stands_at g a (at χ (or ns)) e h = absurd h
stands_at g a (at χ (and vs σ nil)) e h = record { context = χ; ors = h.0; whole_of = ap (λ (z : Answer). plug χ (and z.0 z.1 nil)) h.3 ∙ e; satisfiable = subst (λ (z : Answer). Satisfiable z.1) (sym h.3) h.2 }
stands_at g a (at χ (and vs σ (cons m ms))) e h = absurd h.1
stands_at g a (at χ (stmt s)) e h = absurd h
stands_at g a (at χ (choice_box op gs)) e h = absurd h
stands_at g a (at χ (guard g' b)) e h = absurd h

-- "An answer is a solved and-box, satisfiable, in the top or-box or in or-boxes nested in it"
pub answer_iff : (c : Config) (a : Answer) → AnswerIn a (answers c.root) ↔ StandsAs c.root a
unfolding place
answer_iff c a = (to_it, from_it)
  where
    to_it : AnswerIn a (answers c.root) → StandsAs c.root a
    to_it i =
        let w = gathered_at (places c.root top) (answers c.root) a (answers_stand c.root) i in
        stands_at c.root a w.1 (place_whole c w.0 w.1 w.2) w.3

    from_it : StandsAs c.root a → AnswerIn a (answers c.root)
    from_it s = at_gathered (places c.root top) (answers c.root) a (place_number s.context) (at s.context (and a.0 a.1 nil)) (answers_stand c.root) (place_of s.context (and a.0 a.1 nil) c s.whole_of) (s.ors, tt, s.satisfiable, refl)

-- ---------------------------------------------------------------------------------------------
-- "The state is `failed` when the top or-box is empty, `final` when every member is an answer, else `open`."

box_iff : (n : Node goal) → T (is_answer n) ↔ AnswerBox n
box_iff (or ns) = (λ h. h, λ h. h)
box_iff (and vs σ nil) = (λ h. (tt, (satisfiable_iff σ).0 h), λ h. (satisfiable_iff σ).1 h.1)
box_iff (and vs σ (cons m ms)) = (λ h. absurd h, λ h. absurd h.0)

each_iff : (ns : Nodes goal) → T (all_answers ns) ↔ EachAnswer ns
unfolding all_answers
each_iff nil = (λ h. h, λ h. h)
each_iff (cons n ns) =
    let a = and_T (is_answer n) (all_answers ns) in
    (λ h. ((box_iff n).0 (a.0 h).0, (each_iff ns).0 (a.0 h).1), λ h. a.1 ((box_iff n).1 h.0, (each_iff ns).1 h.1))

pub state_failed : state (or nil) ≡ failed
unfolding state
state_failed = refl

pub state_final : (n : Node goal) (ns : Nodes goal) → EachAnswer (cons n ns) → state (or (cons n ns)) ≡ final
unfolding state
state_final n ns h = go (all_answers (cons n ns)) refl
  where
    go : (b : Bool) → all_answers (cons n ns) ≡ b → if b final open_state ≡ final
    go true e = refl
    go false e = absurd (subst T e ((each_iff (cons n ns)).1 h))

pub state_open : (n : Node goal) (ns : Nodes goal) → ¬ EachAnswer (cons n ns) → state (or (cons n ns)) ≡ open_state
unfolding state
state_open n ns h = go (all_answers (cons n ns)) refl
  where
    go : (b : Bool) → all_answers (cons n ns) ≡ b → if b final open_state ≡ open_state
    go true e = absurd (h ((each_iff (cons n ns)).0 (subst T (sym e) tt)))
    go false e = refl
