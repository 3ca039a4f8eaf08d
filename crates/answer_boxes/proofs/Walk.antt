-- The walk over the top or-box and the or-boxes nested in it: which answers are left from a position on.
use mathlib.Core.Path.{◌≡◌, refl, ap, sym, ◌∙◌}
use mathlib.Core.Logic.{◌⊎◌, inl, inr}
use mathlib.Core.Bool.{Bool, true, false}
use mathlib.Core.List.{List, [], ◌++◌, append-nil, append_assoc}
use Prim.Native.Nat.{ℕ, ◌+◌, ◌<◌, ◌≤◌}
use native.Mathlib.Omega.{arith}
use lib.Dec.{T, eqb}
use lib.ListN.{length, get_or}
use Rattle.constraint.specs.Constraint.{Store}
use Rattle.akl.specs.Base.{if}
use Rattle.akl.specs.Configuration.{goal, member, Node, or, and, Nodes, nil, cons, ◌+n◌, one, Ctx, top, in_or, in_guard}
use Rattle.akl.specs.Places.{at}
use Rattle.akl.specs.Answers.{Answer, solved_box, answers, answers_all}
use Rattle.akl.specs.WellFormed.{is_or}
use Rattle.runs.specs.AnswerPlaces.{OrsAround}
use Rattle.mem_words.specs.declared.Word.{Word}
use Rattle.mem_words.specs.declared.Word.TheVariants.{End, Free, Level, Num, Place, Inner, Bad}
use Rattle.mem_sorts.specs.declared.Kind.TheVariants.{And}
use Rattle.store_words.specs.Contexts.{kind_of}
use Rattle.store_form.specs.State.{State}
use Rattle.store_form.specs.Form.{config_words}
use Rattle.rule_words.specs.Scans.{closes}
use Rattle.rule_effects.specs.Effects.{behind}
use Rattle.rule_effects.specs.Conditions.{ends_at, kind_in, kind_at}
use Rattle.step_meant.specs.Meant.{StandsAt}
use Rattle.answer_boxes.proofs.Between.{Between, inside_words, ends_here, stands_here, kind_here, goes_on, goes_in, goes_out, goes_last, goes_first}

-- the answers behind a goal, by its context
unfoldable pub outer : Ctx goal → List Answer
outer top = []
outer (in_or χ l r) = answers_all r ++ outer χ
outer (in_guard χ b) = []

-- from j on, in an or-box
pub record Inside (s : State) (j : ℕ) (A : List Answer) : Type 0 where
  pub context : Ctx goal
  pub before : Nodes goal
  pub behind : Nodes goal
  pub between : Between s context before behind j
  pub left : A ≡ answers_all behind ++ outer context

-- in one, or behind all words
abbrev pub Left : State → List Word → ℕ → List Answer → Type 0
Left s W j A = Inside s j A ⊎ ((length W ≤ j) × (A ≡ []))

-- the and-box at j: its answer, if it is one, and then the rest
pub record BoxAt (s : State) (W : List Word) (j : ℕ) (A : List Answer) : Type 0 where
  pub context : Ctx goal
  pub own : List ℕ
  pub store : Store
  pub members : Nodes member
  pub ors : OrsAround context
  pub stands : StandsAt s W (at context (and own store members)) j
  pub rest : List Answer
  pub left : A ≡ solved_box own store members ++ rest
  pub next : Left s W (behind W j) rest

pub clash : true ≡ false → ⊥
clash e = let z : ◌≡◌ {A = ℕ} 0 1 = ap (λ (b : Bool). if b 0 1) e in omega arith

-- where a bracket ends no place begins
end_no_place : (W : List Word) (j : ℕ) → ends_at W j ≡ true → kind_at W j And ≡ true → ⊥
unfolding ends_at kind_at
end_no_place W j e k = go (get_or W j Bad) e k
  where
    go : (v : Word) → closes v 0 ≡ true → eqb (kind_in v) 1 ≡ true → ⊥
    go End p q = clash (sym q)
    go (Free x) p q = clash (sym p)
    go (Level x) p q = clash (sym p)
    go (Num x) p q = clash (sym p)
    go (Place x) p q = clash (sym p)
    go (Inner x) p q = clash (sym p)
    go Bad p q = clash (sym p)

module _ (s : State) (W : List Word) (w : W ≡ config_words s) where
  -- no and-box stands there: into an or-box or out of one
  other_in : (χ : Ctx goal) (l r : Nodes goal) (j : ℕ) (A : List Answer) → Between s χ l r j → A ≡ answers_all r ++ outer χ → kind_at W j And ≡ false → Left s W (j + 1) A
  unfolding answers outer kind_at kind_of
  other_in top l nil j A b e k = let x = goes_last s W w l j b in inr (omega (arith, x), e)
  other_in (in_or χ a c) l nil j A b e k = inl (record { context = χ; before = a +n one (or (l +n nil)); behind = c; between = goes_out s W w χ a c l j b; left = e })
  other_in (in_guard χ x) l nil j A b e k = absurd b.ors
  other_in χ l (cons (or ns) r) j A b e k = inl (record { context = in_or χ l r; before = nil; behind = ns; between = goes_in s W w χ l r ns j b; left = e ∙ append_assoc (answers_all ns) (answers_all r) (outer χ) })
  other_in χ l (cons (and vs σ ms) r) j A b e k = absurd (clash (sym (ap (λ (x : ℕ). eqb x 1) (kind_here s W w χ l r (and vs σ ms) j b)) ∙ k))

  pub other : (j : ℕ) (A : List Answer) → kind_at W j And ≡ false → Left s W j A → Left s W (j + 1) A
  other j A k (inl i) = other_in i.context i.before i.behind j A i.between i.left k
  other j A k (inr e) = let x = e.0 in inr (omega (arith, x), e.1)

  -- an and-box stands there
  box_in : (χ : Ctx goal) (l r : Nodes goal) (j : ℕ) (A : List Answer) → Between s χ l r j → A ≡ answers_all r ++ outer χ → kind_at W j And ≡ true → BoxAt s W j A
  unfolding answers kind_at kind_of
  box_in χ l nil j A b e k = absurd (no_end (ends_here s W w χ l nil j b))
    where
      no_end : ends_at W j ≡ true → ⊥
      no_end q = end_no_place W j q k
  box_in χ l (cons (or ns) r) j A b e k = absurd (clash (sym k ∙ ap (λ (x : ℕ). eqb x 1) (kind_here s W w χ l r (or ns) j b)))
  box_in χ l (cons (and vs σ ms) r) j A b e k =
      record {
        context = in_or χ l r;
        own = vs;
        store = σ;
        members = ms;
        ors = b.ors;
        stands = stands_here s W w χ l r (and vs σ ms) j b;
        rest = answers_all r ++ outer χ;
        left = e ∙ append_assoc (solved_box vs σ ms) (answers_all r) (outer χ);
        next = inl (record { context = χ; before = l +n one (and vs σ ms); behind = r; between = goes_on s W w χ l r (and vs σ ms) j b; left = refl });
      }

  pub box : (j : ℕ) (A : List Answer) → j < length W → kind_at W j And ≡ true → Left s W j A → BoxAt s W j A
  box j A h k (inl i) = box_in i.context i.before i.behind j A i.between i.left k
  box j A h k (inr e) = let x = e.0 in absurd (omega (arith, x, h))

  -- behind all words none is left
  pub none_left : (j : ℕ) (A : List Answer) → length W ≤ j → Left s W j A → A ≡ []
  none_left j A h (inl i) = let x = inside_words s W w i.context i.before i.behind j i.between in absurd (omega (arith, x, h))
  none_left j A h (inr e) = e.1

  -- and behind the first word all are
  pub all_left : (g : Node goal) → T (is_or g) → s.config.root ≡ g → Left s W 1 (answers g)
  unfolding answers outer
  all_left (or ns) t e = inl (record { context = top; before = nil; behind = ns; between = goes_first s W w ns e; left = sym (append-nil (answers_all ns)) })
  all_left (and vs σ ms) t e = absurd t
