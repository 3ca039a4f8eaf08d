-- Lengths by the words that the code reads. Assumes nothing.
use mathlib.Core.Path.{◌≡◌, refl, ap, sym, ◌∙◌, subst}
use mathlib.Core.Logic.{inl, inr}
use mathlib.Core.Bool.{Bool, true, false}
use mathlib.Core.List.{List, [], ◌∷◌}
use Prim.Native.Nat.{ℕ, suc, ◌+◌, ◌-◌, ◌/◌, ◌%◌, ◌≤◌, ◌<◌}
use native.Mathlib.Omega.{arith}
use lib.ListN.{length, get_or, drop}
use Rattle.constraint.specs.Tree.{Label}
use Rattle.constraint.specs.Constraint.{In}
use Rattle.constraint.specs.Solve.{elem}
use Rattle.constraint.proofs.Lists.{elem_In}
use lib.Dec.{T as True}
use Rattle.akl.specs.Base.{decimal, if}
use Rattle.akl.specs.Answers.{Term, unbound, built, terms, position}
use Rattle.runs.proofs.Shows.{Seen}
use Rattle.mem_words.specs.declared.Word.{Word}
use Rattle.mem_words.specs.declared.Word.TheVariants.{Bad}
use Rattle.read_nodes.specs.Spell.{named}
use Rattle.solve_cells.specs.Cells.{Found}
use Rattle.solve_classes.specs.Means.{Apps}
use Rattle.solve_fields.specs.Read.{var_of, num_of, is_var, args_of, label_at, args_at}
use Rattle.solve_tells.proofs.Meeting.{args_more, args_done, var_inside}
use Rattle.solve_explores.specs.Search.{cell_of}
use Rattle.work_tables.specs.Tables.{log_of, Laid, Logged, Peeked, length_log}
use Rattle.answer_emit.specs.Digits.{Wide, length_decimal}
use Rattle.answer_text.specs.Lengths.{term_length, rest_length, cap}
use Rattle.answer_text.proofs.Caps.{cap_more, cap_same, cap_left}
use Rattle.answer_text.proofs.Sums.{sum_next, sum_end}
use Rattle.answer_walk.specs.Numbered.{entry}
use Rattle.answer_turn.specs.Turning.{term_in, Shown}
use Rattle.answer_turn.proofs.Reading.{test_is}
use Rattle.answer_order.specs.Memo.{Done, Met}
use Rattle.answer_size.specs.Sizes.{CanMeasure, Sized, CanAdd, Added, AddedAll}
use Rattle.answer_size.proofs.Terms.{free_term}

-- ---------------------------------------------------------------------------------------------
-- A sum.

pub sum_over : (m a n : ℕ) → m < a + n → m + 1 ≡ cap m (a + n)
sum_over m a n l = let e : m + 1 ≡ suc m = omega arith in e ∙ sym (cap_more m (a + n) l)

pub sum_within : (m a n : ℕ) → a + n ≤ m → a + n ≡ cap m (a + n)
sum_within m a n l = sym (cap_same m (a + n) l)

-- ---------------------------------------------------------------------------------------------
-- A variable.

entry_in : (r : ℕ) (s : List ℕ) → In r s → entry r s ≡ suc (position r s)
unfolding entry
entry_in r s i = go (elem r s) ((elem_In r s).1 i)
  where
    go : (b : Bool) → True b → if b (suc (position r s)) 0 ≡ suc (position r s)
    go false t = elim t [ ]
    go true t = refl

pub cell_is : {T : List ℕ} {x r d : ℕ} → Found T x r → d ≡ get_or T r 0 → d ≡ cell_of T x
cell_is {T} {x} {r} {d} g e = e ∙ ap (λ (y : ℕ). get_or T y 0) g.is

pub free_at : {T : List ℕ} {x r d : ℕ} → Found T x r → d ≡ get_or T r 0 → (d % 4 ≡ 2 → ⊥) → cell_of T x % 4 ≡ 2 → ⊥
free_at g e n z = n (ap (λ (y : ℕ). y % 4) (cell_is g e) ∙ z)

pub bound_at : {T : List ℕ} {x r d : ℕ} → Found T x r → d ≡ get_or T r 0 → d % 4 ≡ 2 → cell_of T x % 4 ≡ 2
bound_at g e n = ap (λ (y : ℕ). y % 4) (sym (cell_is g e)) ∙ n

module _ {N : List ℕ} {W : List Word} {P T : List ℕ} (sh : Shown N W P T) where
  -- its application is in the table
  pub app_inside : {x r d : ℕ} → Found T x r → d ≡ get_or T r 0 → d % 4 ≡ 2 → d / 256 < length P
  unfolding Apps
  app_inside {x} {r} {d} g e n = subst (λ (y : ℕ). y / 256 < length P) (sym e) (sh.apps r (ap (λ (y : ℕ). y % 4) (sym e) ∙ n))

  pub class_low : {x r : ℕ} → Found T x r → x < 65535 → r < 65535
  class_low {x} {r} g l = subst (λ (y : ℕ). y < 65535) (sym g.is) (sh.classes x l)

  in_seen : (s : List ℕ) {x r : ℕ} → Found T x r → (cell_of T x % 4 ≡ 2 → ⊥) → Seen (term_in N W P T x) s → In r s
  in_seen s {x} {r} g n i = subst (λ (y : ℕ). In y s) (sym g.is) (subst (λ (t : Term). Seen t s) (free_term N W P T sh x n) i)

  -- an unbound class that was met has a number
  pub entry_there : {M G s : List ℕ} {c m x r e : ℕ} → Found T x r → (cell_of T x % 4 ≡ 2 → ⊥) → e ≡ get_or M r 0 → Met (term_in N W P T) T M G c m s → Done (term_in N W P T) T G s x → e ≡ suc (position r s)
  entry_there {M} {G} {s} {c} {m} {x} {r} {e} g n q k d = q ∙ k.numbers.is r ∙ entry_in r s (in_seen s g n d.seen)

  free_length : {M G s : List ℕ} {c m x r e w : ℕ} → Found T x r → (cell_of T x % 4 ≡ 2 → ⊥) → e ≡ get_or M r 0 → Wide (e - 1) w → Met (term_in N W P T) T M G c m s → Done (term_in N W P T) T G s x → term_length (term_in N W P T x) s ≡ 1 + w
  unfolding term_length
  free_length {M} {G} {s} {c} {m} {x} {r} {e} {w} g n q wd k d =
      let z : e - 1 ≡ position r s = omega (arith, entry_there g n q k d) in
      ap (λ (t : Term). term_length t s) (free_term N W P T sh x n ∙ ap unbound (sym g.is)) ∙ ap (λ (y : ℕ). 1 + length (decimal y)) (sym z) ∙ ap (λ (y : ℕ). 1 + y) (length_decimal wd)

-- the entry of a variable that may be measured
pub entry_some : {P T M G : List ℕ} {x m r d e : ℕ} → Found T x r → d ≡ get_or T r 0 → (d % 4 ≡ 2 → ⊥) → e ≡ get_or M r 0 → CanMeasure P T M G x m → 0 < e
entry_some g b n q k = omega (arith, entry_there k.shown g (free_at g b n) q k.met k.done)

pub known_some : {P T M G : List ℕ} {x m r d e : ℕ} → Found T x r → d ≡ get_or T r 0 → d % 4 ≡ 2 → e ≡ get_or G (d / 256) 0 → CanMeasure P T M G x m → 0 < e
known_some {P} {T} {M} {G} {x} {m} {r} {d} {e} g b n q k =
    let z : d ≡ cell_of T x = cell_is g b in
    let v : e ≡ get_or G (cell_of T x / 256) 0 = q ∙ ap (λ (y : ℕ). get_or G (y / 256) 0) z in
    let w = (k.met.memo.right x (bound_at g b n) (k.done.known (bound_at g b n))).is in
    omega (arith, v, w)

pub sized_free : {P T M G : List ℕ} {x m r d e w l : ℕ} → Found T x r → d ≡ get_or T r 0 → (d % 4 ≡ 2 → ⊥) → e ≡ get_or M r 0 → Wide (e - 1) w → l ≡ cap m (1 + w) → Sized P T M G x m l
sized_free {P} {T} {M} {G} {x} {m} {r} {d} {e} {w} {l} g b n q wd p = record { is = λ N W sh s c k dn. p ∙ ap (cap m) (sym (free_length sh g (free_at g b n) q wd k dn)) }

pub sized_bound : {P T M G : List ℕ} {x m r d e l : ℕ} → Found T x r → d ≡ get_or T r 0 → d % 4 ≡ 2 → e ≡ get_or G (d / 256) 0 → l ≡ e - 1 → Sized P T M G x m l
sized_bound {P} {T} {M} {G} {x} {m} {r} {d} {e} {l} g b n q p = record {
  is = λ N W sh s c k dn.
      let z : d ≡ cell_of T x = cell_is g b in
      let v : e ≡ get_or G (cell_of T x / 256) 0 = q ∙ ap (λ (y : ℕ). get_or G (y / 256) 0) z in
      let w = (k.memo.right x (bound_at g b n) (dn.known (bound_at g b n))).is in
      omega (arith, p, v, w);
}

-- ---------------------------------------------------------------------------------------------
-- The arguments from a word on.

pub record Adding (W : List Word) (P T M G l : List ℕ) (m a i acc : ℕ) : Type 0 where
  pub is : (N : List ℕ) → Shown N W P T → (s : List ℕ) (c : ℕ) → Met (term_in N W P T) T M G c m s → ((y : ℕ) → In y l → Done (term_in N W P T) T G s y) → cap m (acc + rest_length (terms (term_in N W P T) (args_of (drop i W))) s) ≡ cap m (a + rest_length (terms (term_in N W P T) l) s)
  pub inside : (y : ℕ) → In y (args_of (drop i W)) → In y l

pub add_none : (W : List Word) (P T M G : List ℕ) (m a i : ℕ) → Adding W P T M G (args_of (drop i W)) m a i a
add_none W P T M G m a i = record { is = λ N sh s c k d. refl; inside = λ y j. j }

pub word_inside : {L : List ℕ} {v : Word} (used i : ℕ) (t : Bool) → Laid L → Logged used → Peeked (log_of used L) i v → t ≡ is_var v → t ≡ true → i < used
word_inside {L} {v} used i t h l j q r = omega (arith, var_inside (log_of used L) i (test_is true t j q r), length_log used h l)

is_next : (W : List Word) (i : ℕ) {v : Word} {y : ℕ} (t : Bool) → Peeked W i v → t ≡ is_var v → t ≡ true → y ≡ var_of v → args_of (drop i W) ≡ y ∷ args_of (drop (i + 1) W)
is_next W i {v} {y} t j q r e = args_more W i (test_is true t j q r) ∙ ap (λ (z : ℕ). z ∷ args_of (drop (i + 1) W)) (sym (e ∙ ap var_of j.is))

module _ {W : List Word} {P T M G l : List ℕ} {m i acc : ℕ} (a : ℕ) where
  pub add_can : {v : Word} {y : ℕ} (t : Bool) → Peeked W i v → t ≡ is_var v → t ≡ true → y ≡ var_of v → CanAdd W P T M G l m → Adding W P T M G l m a i acc → CanMeasure P T M G y m
  add_can {v} {y} t j q r e k h = record {
    low = subst (λ (z : ℕ). z < 65535) (sym (e ∙ ap var_of j.is)) (k.shown.vars.low i);
    names = k.names;
    words = W;
    shown = k.shown;
    seen = k.seen;
    count = k.count;
    met = k.met;
    done = k.done y (h.inside y (subst (In y) (sym (is_next W i t j q r e)) (inl refl)));
  }

  pub add_next : {v : Word} {y len b acc' : ℕ} (t : Bool) → Peeked W i v → t ≡ is_var v → t ≡ true → y ≡ var_of v → Sized P T M G y m len → b ≡ cap m (acc + 1) → acc' ≡ cap m (b + len) → Adding W P T M G l m a i acc → Adding W P T M G l m a (i + 1) acc'
  add_next {v} {y} {len} {b} {acc'} t j q r e z eb ea h = record {
    is = λ N sh s c k d.
        let dy : Done (term_in N W P T) T G s y = d y (h.inside y (subst (In y) (sym n) (inl refl))) in
        let f : ℕ → Term = term_in N W P T in
        ap (λ (u : ℕ). cap m (u + rest_length (terms f (args_of (drop (i + 1) W))) s)) (ea ∙ ap (λ (u : ℕ). cap m (u + len)) eb ∙ cap_left m (acc + 1) len)
        ∙ sum_next f m s acc len y (args_of (drop (i + 1) W)) (z.is N W sh s c k dy)
        ∙ ap (λ (u : List ℕ). cap m (acc + rest_length (terms f u) s)) (sym n)
        ∙ h.is N sh s c k d;
    inside = λ u k. h.inside u (subst (In u) (sym n) (inr k));
  }
    where
      n : args_of (drop i W) ≡ y ∷ args_of (drop (i + 1) W)
      n = is_next W i t j q r e

  pub add_done : {v : Word} {x : ℕ} (t : Bool) → Peeked W i v → t ≡ is_var v → t ≡ false → x ≡ cap m (acc + 1) → Adding W P T M G l m a i acc → Added W P T M G l m a x
  add_done {v} {x} t j q r e h = record {
    is = λ N sh s c k d.
        let f : ℕ → Term = term_in N W P T in
        e ∙ sym (sum_end f m s acc) ∙ ap (λ (u : List ℕ). cap m (acc + rest_length (terms f u) s)) (sym (args_done W i (test_is false t j q r))) ∙ h.is N sh s c k d;
  }

-- ---------------------------------------------------------------------------------------------
-- The application.

label_is : (W : List Word) (p : ℕ) {g : ℕ} {u : Word} → Peeked W (p + 2) u → g ≡ num_of u → g ≡ label_at W p
unfolding label_at
label_is W p k e = e ∙ ap num_of k.is

args_is : (W : List Word) (p : ℕ) → args_at W p ≡ args_of (drop (p + 3) W)
unfolding args_at
args_is W p = refl

built_none : (g : Label) (f : ℕ → Term) (s : List ℕ) → term_length (built g (terms f [])) s ≡ length g
unfolding term_length terms
built_none g f s = omega arith

built_some : (g : Label) (f : ℕ → Term) (s : List ℕ) (y : ℕ) (ys : List ℕ) → term_length (built g (terms f (y ∷ ys))) s ≡ length g + rest_length (terms f (y ∷ ys)) s
unfolding term_length terms
built_some g f s y ys = refl

label_long : (N : List ℕ) (W : List Word) (m p : ℕ) {g n a : ℕ} {u : Word} → Peeked W (p + 2) u → g ≡ num_of u → n ≡ length (named N g) → a ≡ cap m (0 + n) → a ≡ cap m (length (named N (label_at W p)))
label_long N W m p {g} {n} {a} {u} k e en ea = let z : 0 + n ≡ n = omega arith in ea ∙ ap (cap m) (z ∙ en) ∙ ap (λ (j : ℕ). cap m (length (named N j))) (label_is W p k e)

module _ {N : List ℕ} {W : List Word} {P T M G : List ℕ} {m p g n a : ℕ} {u v : Word} where
  pub all_none : (t : Bool) → Peeked W (p + 2) u → g ≡ num_of u → n ≡ length (named N g) → a ≡ cap m (0 + n) → Peeked W (p + 3) v → t ≡ is_var v → t ≡ false → AddedAll N W P T M G p m a
  all_none t k e en ea j q r = record {
    is = λ s c mt d. label_long N W m p k e en ea ∙ ap (cap m) (sym (ap (λ (l : List ℕ). term_length (built (named N (label_at W p)) (terms (term_in N W P T) l)) s) (args_is W p ∙ args_done W (p + 3) (test_is false t j q r)) ∙ built_none (named N (label_at W p)) (term_in N W P T) s));
  }

  pub all_some : {x : ℕ} (t : Bool) → Shown N W P T → Peeked W (p + 2) u → g ≡ num_of u → n ≡ length (named N g) → a ≡ cap m (0 + n) → Peeked W (p + 3) v → t ≡ is_var v → t ≡ true → Added W P T M G (args_of (drop (p + 3) W)) m a x → AddedAll N W P T M G p m x
  all_some {x} t sh k e en ea j q r h = record {
    is = λ s c mt d.
        let f : ℕ → Term = term_in N W P T in
        let y : ℕ = var_of (get_or W (p + 3) Bad) in
        let ys : List ℕ = args_of (drop (p + 3 + 1) W) in
        let w : args_of (drop (p + 3) W) ≡ y ∷ ys = args_more W (p + 3) (test_is true t j q r) in
        h.is N sh s c mt (λ z i. d z (subst (In z) (sym (args_is W p)) i))
        ∙ ap (λ (z : ℕ). cap m (z + rest_length (terms f (args_of (drop (p + 3) W))) s)) (label_long N W m p k e en ea)
        ∙ cap_left m (length (named N (label_at W p))) (rest_length (terms f (args_of (drop (p + 3) W))) s)
        ∙ ap (cap m) (ap (λ (l : List ℕ). length (named N (label_at W p)) + rest_length (terms f l) s) w ∙ sym (built_some (named N (label_at W p)) f s y ys) ∙ sym (ap (λ (l : List ℕ). term_length (built (named N (label_at W p)) (terms f l)) s) (args_is W p ∙ w)));
  }
