-- Ranges told one after the other: what is said of two lists of them is said of both together. Assumes nothing.
use mathlib.Core.Path.{◌≡◌, refl, ap, sym, ◌∙◌, subst}
use mathlib.Core.List.{List, [], ◌∷◌, ◌++◌, append_assoc}
use Prim.Native.Nat.{ℕ, ◌+◌}
use native.Mathlib.Omega.{arith}
use Rattle.constraint.specs.Tree.{Label}
use Rattle.constraint.specs.Constraint.{Store, Sats, Satisfiable}
use Rattle.constraint.proofs.Entail.{sats_append}
use Rattle.mem_words.specs.declared.Word.{Word}
use Rattle.work_marks.specs.Marks.{Mark, all_told, range_told}
use Rattle.work_marks.proofs.Standing.{all_since}
use Rattle.work_marks.proofs.Walking.{returns_below}
use Rattle.work_enter.specs.Enters.{At}
use Rattle.rule_ranges.specs.Ranges.{Range, told_all, log_words, apps_all}
use Rattle.rule_ranges.specs.Asked.{Within}
use Rattle.rule_ranges.proofs.Drawing.{drawn_left, drawn_right}
use Rattle.rule_tells.specs.Telling.{CanTellAll, AllOf, NoneOf}

pub told_more : (lab : ℕ → Label) (W : List Word) (rs qs : List Range) → told_all lab W (rs ++ qs) ≡ told_all lab W rs ++ told_all lab W qs
unfolding told_all
told_more lab W [] qs = refl
told_more lab W (r ∷ rs) qs = ap (λ (σ : Store). range_told W r.from r.len lab ++ σ) (told_more lab W rs qs) ∙ sym (append_assoc (range_told W r.from r.len lab) (told_all lab W rs) (told_all lab W qs))

pub words_more : (rs qs : List Range) → log_words (rs ++ qs) ≡ log_words rs + log_words qs
unfolding log_words
words_more [] qs = omega arith
words_more (r ∷ rs) qs = omega (arith, words_more rs qs)

pub apps_more : (W : List Word) (rs qs : List Range) → apps_all W (rs ++ qs) ≡ apps_all W rs + apps_all W qs
unfolding apps_all
apps_more W [] qs = omega arith
apps_more W (r ∷ rs) qs = omega (arith, apps_more W rs qs)

pub within_first : (W : List Word) (rs qs : List Range) → Within W (rs ++ qs) → Within W rs
unfolding Within
within_first W [] qs h = tt
within_first W (r ∷ rs) qs h = (h.0, within_first W rs qs h.1)

pub within_later : (W : List Word) (rs qs : List Range) → Within W (rs ++ qs) → Within W qs
unfolding Within
within_later W [] qs h = h
within_later W (r ∷ rs) qs h = within_later W rs qs h.1

-- no range was told
pub told_none : (W : List Word) (L : List ℕ) (used n a : ℕ) → AllOf W L [] used n a L used n a
unfolding told_all log_words apps_all
told_none W L used n a = record {
  on = λ ms h. record { news = []; at = h; told = λ lab. refl; solved = λ lab s. s };
  words = omega arith;
  few = omega arith;
  drawn = λ vs d w. d;
}

module _ (W : List Word) (L X : List ℕ) (rs qs : List Range) (used n a u m b : ℕ) (p : AllOf W L rs used n a X u m b) where
  -- more were told
  pub told_then : (Y : List ℕ) (v k c : ℕ) → AllOf W X qs u m b Y v k c → AllOf W L (rs ++ qs) used n a Y v k c
  told_then Y v k c q = record {
    on = λ ms h.
        let A = p.on ms h in
        let B = q.on (A.news ++ ms) A.at in
        let e : (B.news ++ A.news) ++ ms ≡ B.news ++ (A.news ++ ms) = append_assoc B.news A.news ms in
        record {
          news = B.news ++ A.news;
          at = subst (At Y v k c) (sym e) B.at;
          told = λ lab. all_since lab B.news A.news ∙ ap (λ (σ : Store). σ ++ all_told lab B.news) (A.told lab) ∙ ap (λ (σ : Store). told_all lab W rs ++ σ) (B.told lab) ∙ sym (told_more lab W rs qs);
          solved = λ lab s. subst (λ (l : List Mark). Satisfiable (all_told lab l)) (sym e) (B.solved lab (A.solved lab s));
        };
    words = omega (arith, p.words, q.words, words_more rs qs);
    few = omega (arith, p.few, q.few, apps_more W rs qs);
    drawn = λ vs d w. q.drawn vs (p.drawn vs d (drawn_left W rs qs vs w)) (drawn_right W rs qs vs w);
  }

  -- or failed
  pub none_then : (Y : List ℕ) (k : ℕ) → NoneOf W X qs u m b Y k → NoneOf W L (rs ++ qs) used n a Y k
  none_then Y k q = record {
    returns = λ ms h. let A = p.on ms h in returns_below A.news ms Y k (q.returns (A.news ++ ms) A.at);
    none = λ ms h lab d s.
        let A = p.on ms h in
        let e : all_told lab ms ++ told_all lab W (rs ++ qs) ≡ all_told lab (A.news ++ ms) ++ told_all lab W qs =
        ap (λ (σ : Store). all_told lab ms ++ σ) (told_more lab W rs qs ∙ ap (λ (σ : Store). σ ++ told_all lab W qs) (sym (A.told lab)))
        ∙ sym (append_assoc (all_told lab ms) (all_told lab A.news) (told_all lab W qs))
        ∙ ap (λ (σ : Store). σ ++ told_all lab W qs) (sym (all_since lab A.news ms)) in
        q.none (A.news ++ ms) A.at lab d (subst Satisfiable e s);
  }

-- where the first have no solution all have none
pub none_more : (W : List Word) (L : List ℕ) (rs qs : List Range) (used n a : ℕ) (X : List ℕ) (m : ℕ) → NoneOf W L rs used n a X m → NoneOf W L (rs ++ qs) used n a X m
none_more W L rs qs used n a X m p = record {
  returns = p.returns;
  none = λ ms h lab d s.
      let e : all_told lab ms ++ told_all lab W (rs ++ qs) ≡ (all_told lab ms ++ told_all lab W rs) ++ told_all lab W qs =
      ap (λ (σ : Store). all_told lab ms ++ σ) (told_more lab W rs qs) ∙ sym (append_assoc (all_told lab ms) (told_all lab W rs) (told_all lab W qs)) in
      p.none ms h lab d (s.0, ((sats_append s.0 (all_told lab ms ++ told_all lab W rs) (told_all lab W qs)).0 (subst (Sats s.0) e s.1)).0);
}

-- there is room for those in the middle
pub can_middle : (W : List Word) (L X : List ℕ) (rs qs ps : List Range) (used n a u m b : ℕ) → CanTellAll W L (rs ++ (qs ++ ps)) used n a → AllOf W L rs used n a X u m b → CanTellAll W X qs u m b
can_middle W L X rs qs ps used n a u m b c p =
    let A = p.on c.marks c.at in
    record {
      marks = A.news ++ c.marks;
      at = A.at;
      within = within_first W qs ps (within_later W rs (qs ++ ps) c.within);
      log = omega (arith, c.log, p.words, words_more rs (qs ++ ps), words_more qs ps);
      apps = omega (arith, c.apps, p.few, apps_more W rs (qs ++ ps), apps_more W qs ps);
      vars = c.vars;
      others = c.others;
      drawn = drawn_left W qs ps (0 ∷ c.others) (drawn_right W rs (qs ++ ps) (0 ∷ c.others) c.drawn);
      logged = p.drawn (0 ∷ c.others) c.logged (drawn_left W rs (qs ++ ps) (0 ∷ c.others) c.drawn);
      trail = c.trail;
    }
