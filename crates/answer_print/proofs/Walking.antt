-- The traversal from its start to its end. Assumes nothing.
use mathlib.Core.Path.{◌≡◌, refl, ap, sym, ◌∙◌, subst}
use mathlib.Core.Bool.{Bool, true, false}
use mathlib.Core.List.{List, [], ◌++◌}
use Prim.Native.Nat.{ℕ, ◌+◌, ◌<◌}
use native.Mathlib.Decide.{dec_lt}
use native.Mathlib.Omega.{arith}
use lib.ListN.{length, length-append}
use Rattle.akl.specs.Answers.{unknowns, term_text}
use Rattle.std.specs.Prelude.{Option}
use Rattle.mem_variables.specs.declared.Variable.{Variable}
use Rattle.mem_words.specs.declared.Word.{Word}
use Rattle.answer_walk.specs.Walk.{rest_of, Going, Back}
use Rattle.answer_walk.specs.Numbered.{Numbered}
use Rattle.answer_walk.specs.Stack.{frames, stacked, Child}
use Rattle.answer_walk.proofs.Turns.{begin, done_text, done_seen}
use Rattle.answer_walk.proofs.Heights.{stack_none}
use Rattle.answer_emit.specs.Put.{Put}
use Rattle.answer_emit.proofs.Put.{put_nothing, put_then, put_as}
use Rattle.work_tables.specs.Tables.{cells_of, pos_of, log_of, Laid, Logged}
use Rattle.answer_stack.specs.Slots.{Answered, answered_at, answered_to}
use Rattle.answer_turn.specs.Turning.{term_in, Shown, Run, Ready, Turned, Next, left, goes, comes}
use Rattle.answer_print.specs.Printing.{CanPrint, Printed}

-- what is written and what is to come, for the list of those that were met at first
pub record Here (N : List ℕ) (W : List Word) (P T : List ℕ) (F A : List ℕ) (O : List ℕ) (at : ℕ) (w : Bool) (S K M O' : List ℕ) (going : Bool) (y h c a : ℕ) : Type 0 where
  pub seen : List ℕ
  pub done : List ℕ
  pub run : Run N W P T S K M going y h c seen F done A
  pub put : Put done w O at O' a

pub record Walking (N : List ℕ) (W : List Word) (P T M₀ : List ℕ) (x c₀ : ℕ) (O : List ℕ) (at : ℕ) (w : Bool) (S K M O' : List ℕ) (going : Bool) (y h c a : ℕ) : Type 0 where
  pub here : (s : List ℕ) → Numbered M₀ s c₀ 65535 → Here N W P T (unknowns (term_in N W P T x) s) (term_text (term_in N W P T x) (unknowns (term_in N W P T x) s)) O at w S K M O' going y h c a
  pub long : length O' ≡ length O

-- a text that did not fit did not when more was to come
over_all : {D O O' : List ℕ} {w : Bool} {at a : ℕ} (R A : List ℕ) → D ++ R ≡ A → length O < a → Put D w O at O' a → Put A w O at O' a
over_all {D} {O} {O'} {w} {at} {a} R A e l p = record {
  fits = λ g. absurd (omega (arith, n, (p.fits (omega (arith, n))).0));
  over = λ g. go (dec_lt (length O) (at + length D));
  kept = p.kept;
  long = p.long;
}
  where
    n : length A ≡ length D + length R
    n = ap length (sym e) ∙ length-append D R

    go : Dec (length O < at + length D) → a ≡ length O + 1
    go (yes h) = p.over h
    go (no h) = absurd (omega (arith, (p.fits (omega arith)).0))

module _ (N : List ℕ) (W : List Word) (P T : List ℕ) where
  child_none : (x : ℕ) (S : List ℕ) → Child W x (stacked S 0)
  unfolding stacked
  child_none x S = tt

  no_frames : (S K : List ℕ) → frames W S K 0 ≡ []
  unfolding frames
  no_frames S K = refl

  pub walk_start : (M S K : List ℕ) (x c : ℕ) (O : List ℕ) (at : ℕ) (w : Bool) → CanPrint M x c O at → Walking N W P T M x c O at w S K M O true x 0 c at
  walk_start M S K x c O at w p = record {
    here = λ s k. record {
      seen = s;
      done = [];
      run = record { stack = stack_none W P T S K; numbers = k; next = (subst (λ (fs : List (List ℕ)). Going (term_in N W P T) x fs s (unknowns (term_in N W P T x) s) [] (term_text (term_in N W P T x) (unknowns (term_in N W P T x) s))) (sym (no_frames S K)) (begin (term_in N W P T) x s), child_none x S, p.low) };
      put = put_nothing w O at p.room;
    };
    long = refl;
  }

  module _ {M₀ : List ℕ} {x c₀ : ℕ} {O : List ℕ} {at : ℕ} {w : Bool} {S K M O' : List ℕ} {y h c a : ℕ} where
    -- what the next turn starts with
    pub walk_ready : {going : Bool} (s : List ℕ) → Numbered M₀ s c₀ 65535 → Walking N W P T M₀ x c₀ O at w S K M O' going y h c a → Ready N W P T S K M going y h c
    walk_ready s k v = let u = v.here s k in record { seen = u.seen; final = unknowns (term_in N W P T x) s; done = u.done; all = term_text (term_in N W P T x) (unknowns (term_in N W P T x) s); run = u.run }

    -- one turn more
    pub walk_more : {S' K' M' O'' : List ℕ} {going going' : Bool} {y' h' c' a' : ℕ} → length O'' ≡ length O' → Walking N W P T M₀ x c₀ O at w S K M O' going y h c a → Turned N W P T S K M O' going y h c a w S' K' M' O'' going' y' h' c' a' → Walking N W P T M₀ x c₀ O at w S' K' M' O'' going' y' h' c' a'
    walk_more {S'} {K'} {M'} {O''} {going} {going'} {y'} {h'} {c'} {a'} l v t = record {
      here = λ s k.
          let u = v.here s k in
          let n = t.step u.seen _ u.done _ u.run in
          record { seen = n.seen; done = u.done ++ n.more; run = n.run; put = put_then u.put n.put };
      long = l ∙ v.long;
    }

    pub walk_less : {S' K' M' O'' : List ℕ} {going going' : Bool} {y' h' c' a' : ℕ} (s : List ℕ) → Numbered M₀ s c₀ 65535 → Walking N W P T M₀ x c₀ O at w S K M O' going y h c a → Turned N W P T S K M O' going y h c a w S' K' M' O'' going' y' h' c' a' → left (term_in N W P T) W S' K' going' y' h' < left (term_in N W P T) W S K going y h
    walk_less s k v t = let u = v.here s k in (t.step u.seen _ u.done _ u.run).less

    -- it stops where the text no longer fits
    pub walk_over : {going : Bool} → Walking N W P T M₀ x c₀ O at w S K M O' going y h c a → length O' < a → Printed N W P T M₀ x c₀ O at w M O' c a
    walk_over {going} v l = record {
      put = λ s k. let u = v.here s k in rest u.seen _ u.done _ going u.run.next (omega (arith, l, v.long)) u.put;
      numbers = λ g. absurd (omega (arith, l, g, v.long));
    }
      where
        rest : (s F D A : List ℕ) (g : Bool) → Next (term_in N W P T) W S K g y h s F D A → length O < a → Put D w O at O' a → Put A w O at O' a
        rest s F D A true n k p = over_all (term_text (term_in N W P T y) F ++ rest_of (term_in N W P T) (frames W S K h) F) A n.0.text k p
        rest s F D A false n k p = over_all (rest_of (term_in N W P T) (frames W S K h) F) A n.text k p

    -- or where all is written
    pub walk_done : Walking N W P T M₀ x c₀ O at w S K M O' false y h c a → h ≡ 0 → Printed N W P T M₀ x c₀ O at w M O' c a
    walk_done v z = record {
      put = λ s k. let u = v.here s k in put_as _ (done_text (term_in N W P T) (last u.run)) u.put;
      numbers = λ g s k. let u = v.here s k in subst (λ (l : List ℕ). Numbered M l c 65535) (done_seen (term_in N W P T) (last u.run)) u.run.numbers;
    }
      where
        last : {s F D A : List ℕ} → Run N W P T S K M false y h c s F D A → Back (term_in N W P T) [] s F D A
        last {s} {F} {D} {A} u = subst (λ (fs : List (List ℕ)). Back (term_in N W P T) fs s F D A) (ap (frames W S K) z ∙ no_frames S K) u.next

  -- where it is known whether a variable is to be written next
  pub less_as : (S K : List ℕ) (h : ℕ) {n : ℕ} {o o' : Option Variable} → o ≡ o' → n < left (term_in N W P T) W S K (goes o') (comes o') h → n < left (term_in N W P T) W S K (goes o) (comes o) h
  less_as S K h {n} e l = subst (λ (z : Option Variable). n < left (term_in N W P T) W S K (goes z) (comes z) h) (sym e) l

  module _ {M₀ : List ℕ} {x c₀ : ℕ} {O : List ℕ} {at : ℕ} {w : Bool} {S K M O' : List ℕ} {h c a : ℕ} {o o' : Option Variable} (e : o ≡ o') where
    pub walk_as : Walking N W P T M₀ x c₀ O at w S K M O' (goes o) (comes o) h c a → Walking N W P T M₀ x c₀ O at w S K M O' (goes o') (comes o') h c a
    walk_as v = subst (λ (z : Option Variable). Walking N W P T M₀ x c₀ O at w S K M O' (goes z) (comes z) h c a) e v

-- ---------------------------------------------------------------------------------------------
-- The solver's tables are as they were at first.

module _ {L X : List ℕ} (used : ℕ) (l : Logged used) (h₀ : Laid L) (p : Answered L X) where
  pub shown_to : {N : List ℕ} → Shown N (log_of used L) (pos_of L) (cells_of L) → Shown N (log_of used X) (pos_of X) (cells_of X)
  shown_to {N} q = answered_to used (λ (W : List Word) (P T : List ℕ). Shown N W P T) l h₀ p q

  pub ready_to : {N S K M : List ℕ} {going : Bool} {y h c : ℕ} → Ready N (log_of used L) (pos_of L) (cells_of L) S K M going y h c → Ready N (log_of used X) (pos_of X) (cells_of X) S K M going y h c
  ready_to {N} {S} {K} {M} {going} {y} {h} {c} q = answered_to used (λ (W : List Word) (P T : List ℕ). Ready N W P T S K M going y h c) l h₀ p q

  pub turned_at : {N S K M O S' K' M' O' : List ℕ} {w going going' : Bool} {y h c a y' h' c' a' : ℕ} → Turned N (log_of used X) (pos_of X) (cells_of X) S K M O going y h c a w S' K' M' O' going' y' h' c' a' → Turned N (log_of used L) (pos_of L) (cells_of L) S K M O going y h c a w S' K' M' O' going' y' h' c' a'
  turned_at {N} {S} {K} {M} {O} {S'} {K'} {M'} {O'} {w} {going} {going'} {y} {h} {c} {a} {y'} {h'} {c'} {a'} q = answered_at used (λ (W : List Word) (P T : List ℕ). Turned N W P T S K M O going y h c a w S' K' M' O' going' y' h' c' a') l h₀ p q
