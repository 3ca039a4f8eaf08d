-- One bracket after the other told on the way outwards. Assumes nothing.
use mathlib.Core.Path.{◌≡◌, refl, ap, sym, ◌∙◌, subst}
use mathlib.Core.Bool.{Bool, true, false}
use mathlib.Core.List.{List, [], ◌∷◌, ◌++◌, append_assoc, append-nil}
use Prim.Native.Nat.{ℕ, ◌+◌, ◌-◌, ◌≤◌, ◌<◌}
use native.Mathlib.Omega.{arith}
use lib.ListN.{length}
use Rattle.constraint.specs.Tree.{Label}
use Rattle.constraint.specs.Constraint.{Store, Satisfiable}
use Rattle.mem_words.specs.declared.Word.{Word}
use Rattle.mem_sorts.specs.declared.Kind.TheVariants.{And}
use Rattle.mem_parts.specs.Parts.{outside_then}
use Rattle.solve_tells.specs.Draws.{Drawn}
use Rattle.solve_tells.proofs.Rooms.{drawn_append}
use Rattle.mem_copies.specs.Runs.{run}
use Rattle.work_log.specs.Logs.{stop}
use Rattle.solve_tells.specs.declared.Told.{Told}
use Rattle.solve_tells.specs.declared.Told.TheVariants as told
use Rattle.work_tables.specs.Tables.{log_of}
use Rattle.work_marks.specs.Marks.{all_told, range_told, apps_told, after}
use Rattle.work_enter.specs.Enters.{At, CanEnter}
use Rattle.rule_effects.specs.Conditions.{kind_at}
use Rattle.rule_words.specs.Scans.{close, around}
use Rattle.rule_ranges.specs.Ranges.{Range, store_range, and_its, ranges_from, told_all, log_words, apps_all}
use Rattle.rule_ranges.specs.Asked.{Within, RangesDrawn}
use Rattle.rule_tells.specs.declared.Around.{Around}
use Rattle.rule_tells.specs.declared.Around.TheVariants.{All, Failed}
use Rattle.rule_tells.specs.Telling.{Counted, CanTellAll, AllOf, NoneOf, ToldAll, Partly}
use Rattle.rule_tells.proofs.Scanned.{its_and, its_other, next_around, closes_behind}
use Rattle.rule_tells.proofs.Adding.{told_none, told_then, none_then, none_more, can_middle}

-- one range
module _ (W : List Word) (L X : List ℕ) (used n a from len : ℕ) (r : Range) (ef : r.from ≡ from) (el : r.len ≡ len) where
  told_one : (lab : ℕ → Label) → told_all lab W (r ∷ []) ≡ range_told W from len lab
  unfolding told_all
  told_one lab = append-nil (range_told W r.from r.len lab) ∙ ap (λ (k : ℕ). range_told W k r.len lab) ef ∙ ap (λ (k : ℕ). range_told W from k lab) el

  words_one : log_words (r ∷ []) ≡ len + 3
  unfolding log_words
  words_one = omega (arith, el)

  apps_one : apps_all W (r ∷ []) ≡ apps_told W from len
  unfolding apps_all
  apps_one = let e : apps_told W r.from r.len ≡ apps_told W from len = ap (λ (k : ℕ). apps_told W k r.len) ef ∙ ap (λ (k : ℕ). apps_told W from k) el in omega arith

  within_one : Within W (r ∷ []) → from + len ≤ length W
  unfolding Within
  within_one h = omega (arith, h.0, ef, el)

  drawn_one : (vs : List ℕ) → RangesDrawn W (r ∷ []) vs → Drawn (run from len W ++ stop) vs
  unfolding RangesDrawn
  drawn_one vs d = subst (λ (k : ℕ). Drawn (run from k W ++ stop) vs) el (subst (λ (k : ℕ). Drawn (run k r.len W ++ stop) vs) ef d.0)

  pub one_enter : CanTellAll W L (r ∷ []) used n a → CanEnter W L used n a from len
  one_enter c = record { marks = c.marks; at = c.at; source = within_one c.within; room = omega (arith, c.log, words_one); vars = c.vars }

  pub one_all : (u m b : ℕ) → u ≡ used + len + 3 → CanTellAll W L (r ∷ []) used n a → Counted W L used n a from len X (told.All m b) → AllOf W L (r ∷ []) used n a X u m b
  one_all u m b eu c p = record {
    on = λ ms h. record {
      news = after ms W from len m b ∷ [];
      at = subst (λ (k : ℕ). At X k m b (after ms W from len m b ∷ ms)) (sym eu) (p.entered.answer.at ms h);
      told = λ lab. sym (told_one lab);
      solved = λ lab s. p.entered.answer.solved ms h lab s;
    };
    words = omega (arith, eu, words_one);
    few = omega (arith, p.few, apps_one);
    drawn = λ vs d w. subst (λ (k : ℕ). Drawn (log_of k X) vs) (sym eu) (subst (λ (l : List Word). Drawn l vs) (sym p.entered.log) (drawn_append (log_of used L) (run from len W ++ stop) vs d (drawn_one vs w)));
  }

  pub one_none : (m b : ℕ) → Counted W L used n a from len X (told.Failed m b) → NoneOf W L (r ∷ []) used n a X m
  one_none m b p = record { returns = p.entered.answer.returns; none = λ ms h lab d s. p.entered.answer.none ms h lab d (subst (λ (σ : Store). Satisfiable (all_told lab ms ++ σ)) (told_one lab) s) }

  pub one_room : (m b : ℕ) → CanTellAll W L (r ∷ []) used n a → Counted W L used n a from len X (told.NoRoom m b) → ⊥
  one_room m b c p = p.entered.answer.why (0 ∷ c.others) (drawn_append (log_of used L) (run from len W ++ stop) (0 ∷ c.others) c.logged (drawn_one (0 ∷ c.others) c.drawn)) (omega (arith, c.trail)) (omega (arith, c.apps, apps_one))

-- a bracket that is no and-box has no store to tell
pub box_other : (W : List Word) (L : List ℕ) (o used n a : ℕ) (k : Bool) → k ≡ kind_at W o And → k ≡ false → ToldAll W L (and_its W o []) used n a L (All used n a)
box_other W L o used n a k e f = record {
  answer = subst (λ (rs : List Range). AllOf W L rs used n a L used n a) (sym (its_other W o (sym e ∙ f))) (told_none W L used n a);
  rest = record { before = refl; after = refl; long = refl };
}

-- an and-box: its locals close at u, its store at e
module _ (W : List Word) (L : List ℕ) (o used n a u e : ℕ) (k : Bool) (ek : k ≡ kind_at W o And) (kt : k ≡ true) (eu : u ≡ close W (o + 1)) (ee : e ≡ close W (u + 1)) (c : CanTellAll W L (and_its W o []) used n a) where
  its : and_its W o [] ≡ store_range W o ∷ []
  its = its_and W o (sym ek ∙ kt)

  can : CanTellAll W L (store_range W o ∷ []) used n a
  can = subst (λ (rs : List Range). CanTellAll W L rs used n a) its c

  first : (store_range W o).from ≡ u + 2
  unfolding store_range
  first = omega (arith, eu)

  size : (store_range W o).len ≡ e - (u + 2)
  unfolding store_range
  size = let q : close W (u + 1) ≡ close W (close W (o + 1) + 1) = ap (λ (x : ℕ). close W (x + 1)) eu in omega (arith, eu, ee, q)

  pub box_can : CanEnter W L used n a (u + 2) (e - (u + 2))
  box_can = one_enter W L L used n a (u + 2) (e - (u + 2)) (store_range W o) first size can

  pub box_sub : u + 2 ≤ e
  box_sub = omega (arith, ee, closes_behind W u (omega (arith, box_can.source)))

  module _ (X : List ℕ) (m b : ℕ) (t : Told) where
    pub box_all : t ≡ told.All m b → Counted W L used n a (u + 2) (e - (u + 2)) X t → ToldAll W L (and_its W o []) used n a X (All (used + (e - (u + 2)) + 3) m b)
    box_all et p = record {
      answer = subst (λ (rs : List Range). AllOf W L rs used n a X (used + (e - (u + 2)) + 3) m b) (sym its) (one_all W L X used n a (u + 2) (e - (u + 2)) (store_range W o) first size (used + (e - (u + 2)) + 3) m b refl can (subst (Counted W L used n a (u + 2) (e - (u + 2)) X) et p));
      rest = p.entered.rest;
    }

    pub box_none : t ≡ told.Failed m b → Counted W L used n a (u + 2) (e - (u + 2)) X t → ToldAll W L (and_its W o []) used n a X (Failed m)
    box_none et p = record {
      answer = subst (λ (rs : List Range). NoneOf W L rs used n a X m) (sym its) (one_none W L X used n a (u + 2) (e - (u + 2)) (store_range W o) first size m b (subst (Counted W L used n a (u + 2) (e - (u + 2)) X) et p));
      rest = p.entered.rest;
    }

    -- there is room for it
    pub box_room : t ≡ told.NoRoom m b → Counted W L used n a (u + 2) (e - (u + 2)) X t → ToldAll W L (and_its W o []) used n a X (Failed m)
    box_room et p = absurd (one_room W L X used n a (u + 2) (e - (u + 2)) (store_range W o) first size m b can (subst (Counted W L used n a (u + 2) (e - (u + 2)) X) et p))

-- outwards from i: at the beginning
pub partly_start : (W : List Word) (L : List ℕ) (s i used n a : ℕ) → Partly W L s i used n a L i used n a
partly_start W L s i used n a = record { rs = []; split = refl; sofar = told_none W L used n a; rest = record { before = refl; after = refl; long = refl } }

module _ (W : List Word) (L X : List ℕ) (s i used n a j u m b : ℕ) (p : Partly W L s i used n a X j u m b) where
  -- at the end
  pub partly_end : ranges_from W s j ≡ [] → ToldAll W L (ranges_from W s i) used n a X (All u m b)
  partly_end e = record {
    answer = subst (λ (rs : List Range). AllOf W L rs used n a X u m b) (sym (p.split ∙ ap (λ (qs : List Range). p.rs ++ qs) e ∙ append-nil p.rs)) p.sofar;
    rest = p.rest;
  }

  -- one bracket further
  module _ (o : ℕ) (eo : o ≡ around W j) (lj : s < j) (lo : s ≤ o) (c : CanTellAll W L (ranges_from W s i) used n a) where
    all_of : ranges_from W s i ≡ p.rs ++ (and_its W o [] ++ ranges_from W s o)
    all_of = p.split ∙ ap (λ (qs : List Range). p.rs ++ qs) (next_around W s j o eo lj lo)

    parts : ranges_from W s i ≡ (p.rs ++ and_its W o []) ++ ranges_from W s o
    parts = all_of ∙ sym (append_assoc p.rs (and_its W o []) (ranges_from W s o))

    pub partly_can : CanTellAll W X (and_its W o []) u m b
    partly_can = can_middle W L X p.rs (and_its W o []) (ranges_from W s o) used n a u m b (subst (λ (rs : List Range). CanTellAll W L rs used n a) all_of c) p.sofar

    pub partly_next : (Y : List ℕ) (v k d : ℕ) (r : Around) → r ≡ All v k d → ToldAll W X (and_its W o []) u m b Y r → Partly W L s i used n a Y o v k d
    partly_next Y v k d r er t = record {
      rs = p.rs ++ and_its W o [];
      split = parts;
      sofar = told_then W L X p.rs (and_its W o []) used n a u m b p.sofar Y v k d (subst (ToldAll W X (and_its W o []) u m b Y) er t).answer;
      rest = outside_then p.rest t.rest;
    }

    pub partly_none : (Y : List ℕ) (k : ℕ) (r : Around) → r ≡ Failed k → ToldAll W X (and_its W o []) u m b Y r → ToldAll W L (ranges_from W s i) used n a Y (Failed k)
    partly_none Y k r er t = record {
      answer = subst (λ (rs : List Range). NoneOf W L rs used n a Y k) (sym parts) (none_more W L (p.rs ++ and_its W o []) (ranges_from W s o) used n a Y k (none_then W L X p.rs (and_its W o []) used n a u m b p.sofar Y k (subst (ToldAll W X (and_its W o []) u m b Y) er t).answer));
      rest = outside_then p.rest t.rest;
    }
