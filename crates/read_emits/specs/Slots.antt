-- Three slots in a row, filled in any order and at any time while words are written behind them. Assumes nothing.
use Rattle.std.specs.Prelude.{◌≡◌, refl, List, [], ◌∷◌, ◌++◌, ℕ, ◌+◌, ◌<◌, ◌≤◌, length, get_or}
use Rattle.std.proofs.Common.{ap, ap₂, sym, ◌∙◌, append_assoc, arith}
use Rattle.mem_numbers.specs.Stored.{Stored, stored_same, stored_other}
use Rattle.mem_words.specs.declared.Word.{Word}
use Rattle.mem_words.specs.declared.Word.TheVariants.{Bad}
use Rattle.read_emits.specs.Out.{tight, seg, Wrote, tight_append, seg_none, seg_cons, seg_join, seg_same, wrote_none, wrote_then, wrote_same}

-- O' is O with a, b and c from k on, where `Bad` is a slot that is empty yet, and f behind them up to k'
pub record Three (O : List Word) (k : ℕ) (O' : List Word) (k' : ℕ) (a b c : Word) (f : List Word → List Word) : Type 0 where
  pub long : length O' ≡ length O
  pub older : (i : ℕ) → i < k → get_or O' i Bad ≡ get_or O i Bad
  pub first : get_or O' k Bad ≡ a
  pub second : get_or O' (k + 1) Bad ≡ b
  pub third : get_or O' (k + 2) Bad ≡ c
  pub behind : Wrote O' (k + 3) O' k' f

-- what was written, seen from the list that it is in
wrote_self : {O : List Word} {k : ℕ} {O' : List Word} {k' : ℕ} {f : List Word → List Word} → Wrote O k O' k' f → Wrote O' k O' k' f
wrote_self a = record { long = refl; more = a.more; inside = a.inside; older = λ i h. refl; words = a.words }

-- a word before it is changed
wrote_under : {O : List Word} {k : ℕ} {k' : ℕ} {f : List Word → List Word} {i : ℕ} {w : Word} {O' : List Word} → Wrote O k O k' f → i < k → Stored O i w O' → Wrote O' k O' k' f
wrote_under {O} {k} {k'} {f} {i} {w} {O'} a h s =
    record {
      long = refl;
      more = a.more;
      inside = omega (arith, a.inside, s.long);
      older = λ j g. refl;
      words = λ r. ap (λ (l : List Word). tight l ++ r) (seg_same O O' k k' a.more a.inside s.long (λ j g l. stored_other j Bad s (λ e. omega arith))) ∙ a.words r;
    }

-- the three slots
pub three_start : {O O₁ O₂ O₃ : List Word} {k : ℕ} {a b c : Word} → k + 2 < length O → Stored O k a O₁ → Stored O₁ (k + 1) b O₂ → Stored O₂ (k + 2) c O₃ → Three O k O₃ (k + 3) a b c (λ r. r)
three_start {O} {O₁} {O₂} {O₃} {k} h s t u =
    record {
      long = u.long ∙ t.long ∙ s.long;
      older = λ i g. stored_other i Bad u (λ e. omega arith) ∙ stored_other i Bad t (λ e. omega arith) ∙ stored_other i Bad s (λ e. omega arith);
      first = stored_other k Bad u (λ e. omega arith) ∙ stored_other k Bad t (λ e. omega arith) ∙ stored_same Bad s (omega arith);
      second = stored_other (k + 1) Bad u (λ e. omega arith) ∙ stored_same Bad t (omega (arith, s.long));
      third = stored_same Bad u (omega (arith, s.long, t.long));
      behind = wrote_none (omega (arith, s.long, t.long, u.long));
    }

module _ {O : List Word} {k : ℕ} {O' : List Word} {k' : ℕ} {a b c : Word} {f : List Word → List Word} (x : Three O k O' k' a b c f) where
  -- more words behind them
  pub three_then : {O'' : List Word} {k'' : ℕ} {g : List Word → List Word} → Wrote O' k' O'' k'' g → Three O k O'' k'' a b c (λ r. f (g r))
  three_then {O''} {k''} {g} y =
      record {
        long = y.long ∙ x.long;
        older = λ i h. y.older i (omega (arith, x.behind.more)) ∙ x.older i h;
        first = y.older k (omega (arith, x.behind.more)) ∙ x.first;
        second = y.older (k + 1) (omega (arith, x.behind.more)) ∙ x.second;
        third = y.older (k + 2) (omega (arith, x.behind.more)) ∙ x.third;
        behind = wrote_self (wrote_then x.behind y);
      }

  -- a slot is filled
  pub three_first : {O'' : List Word} {w : Word} → Stored O' k w O'' → Three O k O'' k' w b c f
  three_first {O''} {w} s =
      record {
        long = s.long ∙ x.long;
        older = λ i h. stored_other i Bad s (λ e. omega arith) ∙ x.older i h;
        first = stored_same Bad s (omega (arith, x.behind.more, x.behind.inside));
        second = stored_other (k + 1) Bad s (λ e. omega arith) ∙ x.second;
        third = stored_other (k + 2) Bad s (λ e. omega arith) ∙ x.third;
        behind = wrote_under x.behind (omega arith) s;
      }

  pub three_second : {O'' : List Word} {w : Word} → Stored O' (k + 1) w O'' → Three O k O'' k' a w c f
  three_second {O''} {w} s =
      record {
        long = s.long ∙ x.long;
        older = λ i h. stored_other i Bad s (λ e. omega arith) ∙ x.older i h;
        first = stored_other k Bad s (λ e. omega arith) ∙ x.first;
        second = stored_same Bad s (omega (arith, x.behind.more, x.behind.inside));
        third = stored_other (k + 2) Bad s (λ e. omega arith) ∙ x.third;
        behind = wrote_under x.behind (omega arith) s;
      }

  pub three_third : {O'' : List Word} {w : Word} → Stored O' (k + 2) w O'' → Three O k O'' k' a b w f
  three_third {O''} {w} s =
      record {
        long = s.long ∙ x.long;
        older = λ i h. stored_other i Bad s (λ e. omega arith) ∙ x.older i h;
        first = stored_other k Bad s (λ e. omega arith) ∙ x.first;
        second = stored_other (k + 1) Bad s (λ e. omega arith) ∙ x.second;
        third = stored_same Bad s (omega (arith, x.behind.more, x.behind.inside));
        behind = wrote_under x.behind (omega arith) s;
      }

  -- what was written in all; the slots that stayed empty drop out
  pub three_wrote : Wrote O k O' k' (λ r. tight (a ∷ b ∷ c ∷ []) ++ f r)
  three_wrote =
      record {
        long = x.long;
        more = omega (arith, x.behind.more);
        inside = x.behind.inside;
        older = x.older;
        words = λ r.
            ap (λ (l : List Word). tight l ++ r) (seg_join O' k (k + 3) k' (omega arith) x.behind.more ∙ ap (λ (l : List Word). l ++ seg O' (k + 3) k') slots)
            ∙ ap (λ (l : List Word). l ++ r) (tight_append (a ∷ b ∷ c ∷ []) (seg O' (k + 3) k'))
            ∙ append_assoc (tight (a ∷ b ∷ c ∷ [])) (tight (seg O' (k + 3) k')) r
            ∙ ap (λ (l : List Word). tight (a ∷ b ∷ c ∷ []) ++ l) (x.behind.words r);
      }
    where
      inside : k + 3 ≤ length O'
      inside = omega (arith, x.behind.more, x.behind.inside)

      slots : seg O' k (k + 3) ≡ a ∷ b ∷ c ∷ []
      slots =
          let z : k + 1 + 1 ≡ k + 2 = omega arith in
          let y : k + 2 + 1 ≡ k + 3 = omega arith in
          seg_cons O' k (k + 3) (omega arith) inside ∙ ap₂ (λ (v : Word) (t : List Word). v ∷ t) x.first
          (seg_cons O' (k + 1) (k + 3) (omega arith) inside ∙ ap₂ (λ (v : Word) (t : List Word). v ∷ t) x.second
          (ap (λ (n : ℕ). seg O' n (k + 3)) z ∙ seg_cons O' (k + 2) (k + 3) (omega arith) inside ∙ ap₂ (λ (v : Word) (t : List Word). v ∷ t) x.third
          (ap (λ (n : ℕ). seg O' n (k + 3)) y ∙ seg_none O' (k + 3))))
