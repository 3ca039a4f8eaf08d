-- One law for each way that a turn goes. Assumes nothing.
use mathlib.Core.Path.{◌≡◌, refl, ap, ap₂, sym, ◌∙◌, subst}
use mathlib.Core.Bool.{Bool, true, false}
use mathlib.Core.List.{List, [], ◌∷◌, ◌++◌}
use Prim.Native.Nat.{ℕ, suc, ◌+◌, ◌/◌, ◌%◌, ◌<◌}
use native.Mathlib.Omega.{arith}
use lib.ListN.{length, get_or}
use Rattle.constraint.specs.Tree.{Label}
use Rattle.akl.specs.Base.{bytes, bytes_from, decimal}
use Rattle.akl.specs.Answers.{Term, unbound, built, terms, term_of, unknowns, position}
use Rattle.mem_words.specs.declared.Word.{Word}
use Rattle.mem_words.specs.declared.Word.TheVariants.{Bad}
use Rattle.mem_numbers.specs.Stored.{Stored}
use Rattle.read_nodes.specs.Spell.{named}
use Rattle.solve_cells.specs.Cells.{rep}
use Rattle.solve_classes.specs.Means.{bound}
use Rattle.solve_classes.proofs.Tables.{bound_yes, bound_no}
use Rattle.solve_fields.specs.Read.{var_of, is_var, label_at, args_at, term_at, tab_of}
use Rattle.solve_explores.specs.Search.{cell_of}
use Rattle.answer_text.proofs.Depth.{whole_step}
use Rattle.answer_walk.specs.Walk.{Going, Back, nodes, turns}
use Rattle.answer_walk.specs.Numbered.{Numbered}
use Rattle.answer_walk.specs.Stack.{left_at, frames, stacked, On, Child, Stacked}
use Rattle.answer_walk.proofs.Turns.{turn_unbound, turn_label, turn_open, turn_comma, turn_close, fewer_unbound, fewer_label, fewer_open, fewer_comma, fewer_close}
use Rattle.answer_walk.proofs.Stacks.{left_all, left_next, left_none, push_frames, next_frames, top_frames}
use Rattle.answer_walk.proofs.Heights.{stack_push, child_push, stack_next, child_next, stack_pop}
use Rattle.answer_emit.specs.Put.{Put}
use Rattle.answer_emit.proofs.Put.{put_then, put_as}
use Rattle.answer_turn.specs.Turning.{term_in, Shown, Turned, AtBound}

-- the bytes that are put one at a time
pub open_byte : bytes "(" ≡ 40 ∷ []
unfolding bytes bytes_from
open_byte = refl

pub close_byte : bytes ")" ≡ 41 ∷ []
unfolding bytes bytes_from
close_byte = refl

pub comma_byte : bytes "," ≡ 44 ∷ []
unfolding bytes bytes_from
comma_byte = refl

pub mark_byte : bytes "_" ≡ 95 ∷ []
unfolding bytes bytes_from
mark_byte = refl

module _ (N : List ℕ) (W : List Word) (P T : List ℕ) (sh : Shown N W P T) where
  abbrev f : ℕ → Term
  f = term_in N W P T

  step_in : (x : ℕ) → term_in N W P T x ≡ term_of (term_in N W P T) (rep T x) (bound (tab_of (named N) W P) (cell_of T x))
  unfolding term_in
  step_in x = whole_step (named N) W P T sh.acyclic (length P) sh.apps x

  at_app : (p r : ℕ) → term_of (term_in N W P T) r (term_at (named N) W p) ≡ built (named N (label_at W p)) (terms (term_in N W P T) (args_at W p))
  unfolding term_at
  at_app p r = refl

  tab_app : (c : ℕ) → tab_of (named N) W P c ≡ term_at (named N) W (get_or P c 0)
  unfolding tab_of
  tab_app c = refl

  -- the term of an unbound class, and of a bound one
  pub term_free : (x : ℕ) → (cell_of T x % 4 ≡ 2 → ⊥) → term_in N W P T x ≡ unbound (rep T x)
  term_free x n = step_in x ∙ ap (term_of (term_in N W P T) (rep T x)) (bound_no (tab_of (named N) W P) (cell_of T x) n)

  pub term_bound : (x p : ℕ) → AtBound P T x p → term_in N W P T x ≡ built (named N (label_at W p)) (terms (term_in N W P T) (args_at W p))
  term_bound x p b = step_in x ∙ ap (term_of (term_in N W P T) (rep T x)) (bound_yes (tab_of (named N) W P) (cell_of T x) b.bound ∙ tab_app (cell_of T x / 256) ∙ ap (term_at (named N) W) (sym b.place)) ∙ at_app p (rep T x)

  pub on_app : (x p : ℕ) → AtBound P T x p → On W P T x p
  on_app x p b = record { bound = b.bound; args = ap (args_at W) b.place }

  -- ---------------------------------------------------------------------------------------------
  -- An unbound class.
  pub step_unbound : {S K M O S' K' M' O' : List ℕ} {x h c at c' at' : ℕ} {w : Bool} (r : ℕ) → term_in N W P T x ≡ unbound r → S' ≡ S → K' ≡ K → ((s : List ℕ) → Numbered M s c 65535 → Numbered M' (unknowns (unbound r) s) c' 65535) → ((s : List ℕ) → Numbered M s c 65535 → Put (bytes "_" ++ decimal (position r (unknowns (unbound r) s))) w O at O' at') → Turned N W P T S K M O true x h c at w S' K' M' O' false 0 h c' at'
  step_unbound {S} {K} {M} {O} {S'} {K'} {M'} {O'} {x} {h} {c} {at} {c'} {at'} {w} r e es ek n p = record {
    step = λ s F D A u. record {
      seen = unknowns (unbound r) s;
      more = bytes "_" ++ decimal (position r (unknowns (unbound r) s));
      run = record {
        stack = subst (λ (z : List ℕ). Stacked W P T z K' h) (sym es) (subst (λ (z : List ℕ). Stacked W P T S z h) (sym ek) u.stack);
        numbers = n s u.numbers;
        next = subst (λ (fs : List (List ℕ)). Back f fs (unknowns (unbound r) s) F (D ++ (bytes "_" ++ decimal (position r (unknowns (unbound r) s)))) A) (sym same) (turn_unbound f r e u.next.0);
      };
      put = p s u.numbers;
      less = subst (λ (fs : List (List ℕ)). turns f fs < nodes (f x) + turns f (frames W S K h)) (sym same) (fewer_unbound f (frames W S K h) r e);
    };
  }
    where
      same : frames W S' K' h ≡ frames W S K h
      same = ap₂ (λ (a b : List ℕ). frames W a b h) es ek

  -- An application without arguments.
  pub step_label : {S K M O O' : List ℕ} {x h c at at' : ℕ} {w : Bool} (p : ℕ) → AtBound P T x p → is_var (get_or W (p + 3) Bad) ≡ false → Put (named N (label_at W p)) w O at O' at' → Turned N W P T S K M O true x h c at w S K M O' false 0 h c at'
  step_label {S} {K} {M} {O} {O'} {x} {h} {c} {at} {at'} {w} p b v put = record {
    step = λ s F D A u. record {
      seen = s;
      more = named N (label_at W p);
      run = record { stack = u.stack; numbers = u.numbers; next = turn_label f (named N (label_at W p)) e u.next.0 };
      put = put;
      less = fewer_label f (frames W S K h) (named N (label_at W p)) e;
    };
  }
    where
      n : p + 3 + 0 ≡ p + 3
      n = omega arith

      e : f x ≡ built (named N (label_at W p)) (terms f [])
      e = term_bound x p b ∙ ap (λ (ys : List ℕ). built (named N (label_at W p)) (terms f ys)) (sym (left_all W p) ∙ left_none W p 0 (ap (λ (m : ℕ). is_var (get_or W m Bad)) n ∙ v))

  -- One with arguments.
  pub step_open : {S K M O S' K' M' O₁ O' : List ℕ} {x h c at a at' : ℕ} {w : Bool} (p : ℕ) → AtBound P T x p → is_var (get_or W (p + 3) Bad) ≡ true → Put (named N (label_at W p)) w O at O₁ a → Put (40 ∷ []) w O₁ a O' at' → Stored S h p S' → Stored K h 1 K' → M' ≡ M → h < length S → h < length K → Turned N W P T S K M O true x h c at w S' K' M' O' true (var_of (get_or W (p + 3) Bad)) (h + 1) c at'
  step_open {S} {K} {M} {O} {S'} {K'} {M'} {O₁} {O'} {x} {h} {c} {at} {a} {at'} {w} p b v p₁ p₂ ss sk em ls lk = record {
    step = λ s F D A u. record {
      seen = s;
      more = g ++ bytes "(";
      run = record {
        stack = stack_push W P T x p (on_app x p b) u.next.1 u.stack ss sk ls lk v;
        numbers = subst (λ (z : List ℕ). Numbered z s c 65535) (sym em) u.numbers;
        next = (subst (λ (fs : List (List ℕ)). Going f y fs s F (D ++ (g ++ bytes "(")) A) (sym same) (turn_open f g y (left_at W p 1) e u.next.0), child_push W P T p ss ls v, sh.vars.low (p + 3));
      };
      put = put_then p₁ (put_as (bytes "(") (sym open_byte) p₂);
      less = subst (λ (fs : List (List ℕ)). nodes (f y) + turns f fs < nodes (f x) + turns f (frames W S K h)) (sym same) (fewer_open f (frames W S K h) g y (left_at W p 1) e);
    };
  }
    where
      g : Label
      g = named N (label_at W p)

      y : ℕ
      y = var_of (get_or W (p + 3) Bad)

      n : p + 3 + 0 ≡ p + 3
      n = omega arith

      same : frames W S' K' (h + 1) ≡ left_at W p 1 ∷ frames W S K h
      same = push_frames W ss sk ls lk

      first : args_at W p ≡ y ∷ left_at W p 1
      first = sym (left_all W p) ∙ left_next W p 0 (ap (λ (m : ℕ). is_var (get_or W m Bad)) n ∙ v) ∙ ap (λ (m : ℕ). var_of (get_or W m Bad) ∷ left_at W p 1) n

      e : f x ≡ built g (terms f (y ∷ left_at W p 1))
      e = term_bound x p b ∙ ap (λ (ys : List ℕ). built g (terms f ys)) first

  -- ---------------------------------------------------------------------------------------------
  -- Behind a term: `,` and the next argument of the top, or `)`.
  pub step_comma : {S K M O S' K' M' O' : List ℕ} {c at at' : ℕ} {w : Bool} (h : ℕ) → is_var (get_or W (get_or S h 0 + 3 + get_or K h 0) Bad) ≡ true → Put (44 ∷ []) w O at O' at' → S' ≡ S → Stored K h (get_or K h 0 + 1) K' → M' ≡ M → h < length K → Turned N W P T S K M O false 0 (suc h) c at w S' K' M' O' true (var_of (get_or W (get_or S h 0 + 3 + get_or K h 0) Bad)) (suc h) c at'
  step_comma {S} {K} {M} {O} {S'} {K'} {M'} {O'} {c} {at} {at'} {w} h v put es sk em lk = record {
    step = λ s F D A u. record {
      seen = s;
      more = bytes ",";
      run = record {
        stack = subst (λ (z : List ℕ). Stacked W P T z K' (suc h)) (sym es) (stack_next W P T h u.stack sk lk v);
        numbers = subst (λ (z : List ℕ). Numbered z s c 65535) (sym em) u.numbers;
        next = (subst (λ (fs : List (List ℕ)). Going f y fs s F (D ++ bytes ",") A) (sym same) (turn_comma f (subst (λ (fs : List (List ℕ)). Back f fs s F D A) top u.next)), subst (λ (z : List ℕ). Child W y (stacked z (suc h))) (sym es) (child_next W P T h u.stack v), sh.vars.low (get_or S h 0 + 3 + get_or K h 0));
      };
      put = put_as (bytes ",") (sym comma_byte) put;
      less = subst (λ (fs : List (List ℕ)). nodes (f y) + turns f fs < turns f (frames W S K (suc h))) (sym same) (subst (λ (fs : List (List ℕ)). nodes (f y) + turns f (left_at W (get_or S h 0) (get_or K h 0 + 1) ∷ frames W S K h) < turns f fs) (sym top) (fewer_comma f y (left_at W (get_or S h 0) (get_or K h 0 + 1)) (frames W S K h)));
    };
  }
    where
      y : ℕ
      y = var_of (get_or W (get_or S h 0 + 3 + get_or K h 0) Bad)

      same : frames W S' K' (suc h) ≡ left_at W (get_or S h 0) (get_or K h 0 + 1) ∷ frames W S K h
      same = ap (λ (z : List ℕ). frames W z K' (suc h)) es ∙ next_frames W S sk lk

      top : frames W S K (suc h) ≡ (y ∷ left_at W (get_or S h 0) (get_or K h 0 + 1)) ∷ frames W S K h
      top = top_frames W S K h ∙ ap (λ (l : List ℕ). l ∷ frames W S K h) (left_next W (get_or S h 0) (get_or K h 0) v)

  pub step_close : {S K M O O' : List ℕ} {c at at' : ℕ} {w : Bool} (h : ℕ) → is_var (get_or W (get_or S h 0 + 3 + get_or K h 0) Bad) ≡ false → Put (41 ∷ []) w O at O' at' → Turned N W P T S K M O false 0 (suc h) c at w S K M O' false 0 h c at'
  step_close {S} {K} {M} {O} {O'} {c} {at} {at'} {w} h v put = record {
    step = λ s F D A u. record {
      seen = s;
      more = bytes ")";
      run = record {
        stack = stack_pop W P T h u.stack;
        numbers = u.numbers;
        next = turn_close f (subst (λ (fs : List (List ℕ)). Back f fs s F D A) top u.next);
      };
      put = put_as (bytes ")") (sym close_byte) put;
      less = subst (λ (fs : List (List ℕ)). turns f (frames W S K h) < turns f fs) (sym top) (fewer_close f (frames W S K h));
    };
  }
    where
      top : frames W S K (suc h) ≡ [] ∷ frames W S K h
      top = top_frames W S K h ∙ ap (λ (l : List ℕ). l ∷ frames W S K h) (left_none W (get_or S h 0) (get_or K h 0) v)
