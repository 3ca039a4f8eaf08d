-- Answers and the configuration's solutions: what an answer allows is a solution; in a final configuration these are all;
-- a failed one has none.
use mathlib.Core.Path.{◌≡◌, refl, ap, sym, ◌∙◌, subst}
use mathlib.Core.Logic.{◌↔◌, ◌⊎◌, inl, inr}
use mathlib.Core.List.{List, [], ◌∷◌, ◌++◌}
use mathlib.Core.Bool.{Bool, true, false, ◌&&◌}
use Prim.Native.Nat.{ℕ, zero, suc}
use native.Mathlib.Omega.{arith}
use lib.Dec.{T}
use Rattle.constraint.specs.Constraint.{Store, Asg, Satisfiable}
use Rattle.constraint.specs.Solve.{satisfiable?}
use Rattle.constraint.proofs.Lists.{and_T}
use Rattle.constraint.proofs.Decision.{satisfiable_iff}
use Rattle.akl.specs.Base.{if}
use Rattle.akl.specs.Configuration.{Kind, goal, member, Node, or, and, stmt, choice_box, guard, Nodes, nil, cons}
use Rattle.akl.specs.Answers.{Answer, solved_box, answers, answers_all, State, failed, final, open_state, is_answer, all_answers, state}
use Rattle.theory.specs.Meaning.{Model, Holds, nothing, HoldsWith, All, Any}
use Rattle.runs.specs.Calls.{AnswerIn, AllowedBy, Ended, Allows}

-- lists of answers
pub in_answers : (a : Answer) (x y : List Answer) → AnswerIn a (x ++ y) → AnswerIn a x ⊎ AnswerIn a y
in_answers a [] y i = inr i
in_answers a (b ∷ x) y (inl e) = inl (inl e)
in_answers a (b ∷ x) y (inr i) = elim (in_answers a x y i) [ inl j ↦ inl (inr j) | inr j ↦ inr j ]

allowed_append : (q : ℕ) (x y : List Answer) (ρ : Asg) → AllowedBy q (x ++ y) ρ ↔ (AllowedBy q x ρ ⊎ AllowedBy q y ρ)
allowed_append q [] y ρ = (λ h. inr h, λ h. elim h [ inl e ↦ absurd e | inr i ↦ i ])
allowed_append q (a ∷ x) y ρ =
    let ih = allowed_append q x y ρ in
    (λ h. elim h [ inl e ↦ inl (inl e) | inr i ↦ elim (ih.0 i) [ inl j ↦ inl (inr j) | inr j ↦ inr j ] ], λ h. elim h [ inl i ↦ elim i [ inl e ↦ inl e | inr j ↦ inr (ih.1 (inl j)) ] | inr j ↦ inr (ih.1 (inr j)) ])

pub allowed_in : (q : ℕ) (a : Answer) (x : List Answer) (ρ : Asg) → AnswerIn a x → Allows q a ρ → AllowedBy q x ρ
allowed_in q a [] ρ i h = elim i [ ]
allowed_in q a (b ∷ x) ρ (inl e) h = inl (subst (λ z. Allows q z ρ) e h)
allowed_in q a (b ∷ x) ρ (inr i) h = inr (allowed_in q a x ρ i h)

module _ (Q : Model) (q : ℕ) (ρ : Asg) where
  -- one solved box
  box_sound : (vs : List ℕ) (σ : Store) (ms : Nodes member) → AllowedBy q (solved_box vs σ ms) ρ → HoldsWith (and vs σ ms) Q q ρ nothing
  box_sound vs σ (cons m ms) h = absurd h
  box_sound vs σ nil h = go (satisfiable? σ) h
    where
      go : (b : Bool) → AllowedBy q (if b ((vs, σ) ∷ []) []) ρ → HoldsWith (and vs σ nil) Q q ρ nothing
      go true (inl w) = (w.0, w.1, w.2, tt, tt)
      go true (inr e) = absurd e
      go false e = absurd e

  mutual
    unfolding answers

    -- what an answer in the node allows makes it hold
    pub answers_sound : {k : Kind} (n : Node k) → AllowedBy q (answers n) ρ → HoldsWith n Q q ρ nothing
    answers_sound (or ns) h = answers_sound_all ns h
    answers_sound (and vs σ ms) h = box_sound vs σ ms h
    answers_sound (stmt s) h = absurd h
    answers_sound (choice_box op gs) h = absurd h
    answers_sound (guard g b) h = absurd h

    answers_sound_all : {k : Kind} (ns : Nodes k) → AllowedBy q (answers_all ns) ρ → Any ns Q q ρ nothing
    answers_sound_all nil h = h
    answers_sound_all (cons n ns) h = elim ((allowed_append q (answers n) (answers_all ns) ρ).0 h) [ inl i ↦ inl (answers_sound n i) | inr i ↦ inr (answers_sound_all ns i) ]

  -- a box that is an answer
  one_complete : (n : Node goal) → T (is_answer n) → HoldsWith n Q q ρ nothing → AllowedBy q (answers n) ρ
  unfolding answers
  one_complete (or _) t h = elim t [ ]
  one_complete (and vs σ (cons _ _)) t h = elim t [ ]
  one_complete (and vs σ nil) t h = go (satisfiable? σ) t
    where
      go : (b : Bool) → T b → AllowedBy q (if b ((vs, σ) ∷ []) []) ρ
      go false u = elim u [ ]
      go true u = inl (h.0, h.1, h.2)

  all_complete : (ns : Nodes goal) → T (all_answers ns) → Any ns Q q ρ nothing → AllowedBy q (answers_all ns) ρ
  unfolding all_answers answers
  all_complete nil t h = h
  all_complete (cons n ns) t (inl h) = (allowed_append q (answers n) (answers_all ns) ρ).1 (inl (one_complete n ((and_T (is_answer n) (all_answers ns)).0 t).0 h))
  all_complete (cons n ns) t (inr h) = (allowed_append q (answers n) (answers_all ns) ρ).1 (inr (all_complete ns ((and_T (is_answer n) (all_answers ns)).0 t).1 h))

-- Failed or final: its answers allow exactly its solutions.
pub ended_complete : (Q : Model) (q : ℕ) (ρ : Asg) (n : Node goal) → Ended (state n) → HoldsWith n Q q ρ nothing → AllowedBy q (answers n) ρ
unfolding state answers
ended_complete Q q ρ (and vs σ ms) e h = absurd e
ended_complete Q q ρ (or nil) e h = h
ended_complete Q q ρ (or (cons n ns)) e h = go (all_answers (cons n ns)) refl e
  where
    go : (b : Bool) → all_answers (cons n ns) ≡ b → Ended (if b final open_state) → AllowedBy q (answers_all (cons n ns)) ρ
    go true p u = all_complete Q q ρ (cons n ns) (subst T (sym p) tt) h
    go false p u = absurd u

-- A solved box without a solution is no answer: every answer has one.
box_satisfiable : (vs : List ℕ) (σ : Store) (ms : Nodes member) (b : Answer) → AnswerIn b (solved_box vs σ ms) → Satisfiable b.1
box_satisfiable vs σ (cons m ms) b i = absurd i
box_satisfiable vs σ nil b i = go (satisfiable? σ) refl i
  where
    go : (t : Bool) → satisfiable? σ ≡ t → AnswerIn b (if t ((vs, σ) ∷ []) []) → Satisfiable b.1
    go true p (inl e) = subst (λ z. Satisfiable z.1) (sym e) ((satisfiable_iff σ).0 (subst T (sym p) tt))
    go true p (inr e) = absurd e
    go false p e = absurd e

mutual
  unfolding answers

  pub answer_satisfiable : {k : Kind} (n : Node k) (a : Answer) → AnswerIn a (answers n) → Satisfiable a.1
  answer_satisfiable (or ns) a i = answers_satisfiable ns a i
  answer_satisfiable (and vs σ ms) a i = box_satisfiable vs σ ms a i
  answer_satisfiable (stmt s) a i = absurd i
  answer_satisfiable (choice_box op gs) a i = absurd i
  answer_satisfiable (guard g b) a i = absurd i

  answers_satisfiable : {k : Kind} (ns : Nodes k) (a : Answer) → AnswerIn a (answers_all ns) → Satisfiable a.1
  answers_satisfiable nil a i = absurd i
  answers_satisfiable (cons n ns) a i = elim (in_answers a (answers n) (answers_all ns) i) [ inl j ↦ answer_satisfiable n a j | inr j ↦ answers_satisfiable ns a j ]
