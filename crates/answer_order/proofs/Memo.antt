-- What is known stays so when more classes are met, and when more is known. Assumes nothing.
use mathlib.Core.Path.{◌≡◌, refl, ap, sym, ◌∙◌, subst}
use mathlib.Core.Logic.{inl, inr}
use mathlib.Core.List.{List, [], ◌∷◌, ◌++◌}
use Prim.Native.Nat.{ℕ, suc, ◌/◌, ◌%◌, ◌<◌}
use native.Mathlib.Omega.{arith}
use native.Mathlib.Decide.{ℕ_discrete}
use lib.ListN.{length, get_or}
use Rattle.constraint.specs.Constraint.{In}
use Rattle.theory.specs.Scope.{Sub}
use Rattle.akl.specs.Answers.{Term, unbound, terms, unknowns}
use Rattle.runs.proofs.Shows.{Seen, SeenAll}
use Rattle.mem_numbers.specs.Stored.{Stored, stored_same, stored_other}
use Rattle.solve_explores.specs.Search.{cell_of}
use Rattle.answer_text.specs.Lengths.{term_length, cap}
use Rattle.answer_text.proofs.Lengths.{term_length_text}
use Rattle.answer_text.proofs.First.{seen_wider, all_seen, seen_same}
use Rattle.answer_walk.proofs.Prefix.{Grows, text_kept}
use Rattle.answer_order.specs.Order.{BoundTo}
use Rattle.answer_order.specs.Memo.{Measured, Memo, Done}

in_left : (y : ℕ) (a b : List ℕ) → In y a → In y (a ++ b)
in_left y [] b i = elim i [ ]
in_left y (x ∷ a) b (inl e) = inl e
in_left y (x ∷ a) b (inr i) = inr (in_left y a b i)

sub_grows : {s l : List ℕ} → Grows s l → Sub s l
sub_grows {s} {l} g y i = subst (In y) (sym g.is) (in_left y s g.more i)

pub seen_later : (t : Term) {s l : List ℕ} → Grows s l → Seen t s → Seen t l
seen_later t {s} {l} g i = seen_wider t s l (sub_grows g) i

length_later : (t : Term) {s l : List ℕ} → Grows s l → Seen t s → term_length t l ≡ term_length t s
length_later t {s} {l} g i = term_length_text t l ∙ ap length (text_kept t s l g i) ∙ sym (term_length_text t s)

-- a list of terms is seen where each is
pub seen_each : (f : ℕ → Term) (ys s : List ℕ) → ((y : ℕ) → In y ys → Seen (f y) s) → SeenAll (terms f ys) s
unfolding terms
seen_each f [] s h = tt
seen_each f (y ∷ ys) s h = (h y (inl refl), seen_each f ys s (λ z i. h z (inr i)))

module _ (f : ℕ → Term) (T : List ℕ) where
  -- more classes are met
  pub done_later : {G s l : List ℕ} → Grows s l → (x : ℕ) → Done f T G s x → Done f T G l x
  done_later g x d = record { seen = seen_later (f x) g d.seen; known = d.known }

  pub memo_later : {G s l : List ℕ} {m : ℕ} → Grows s l → Memo f T G s m → Memo f T G l m
  memo_later {G} {s} {l} {m} g h = record { right = λ x b n. let k = h.right x b n in record { seen = seen_later (f x) g k.seen; is = k.is ∙ ap (λ (z : ℕ). suc (cap m z)) (sym (length_later (f x) g k.seen)) } }

  -- an unbound class is done where it was met
  pub done_unbound : {G : List ℕ} (s : List ℕ) (x r : ℕ) → (cell_of T x % 4 ≡ 2 → ⊥) → f x ≡ unbound r → Done f T G (unknowns (f x) s) x
  done_unbound {G} s x r n e = record { seen = all_seen (f x) s; known = λ b. absurd (n b) }

  -- an application whose length is known is done, and adds nothing
  pub done_known : {G s : List ℕ} {m : ℕ} (x : ℕ) → Memo f T G s m → cell_of T x % 4 ≡ 2 → (get_or G (cell_of T x / 256) 0 ≡ 0 → ⊥) → Done f T G s x
  done_known x h b n = record { seen = (h.right x b n).seen; known = λ c. n }

  pub known_same : {G s : List ℕ} (x : ℕ) → Done f T G s x → unknowns (f x) s ≡ s
  known_same {G} {s} x d = seen_same (f x) s d.seen

  -- a length more is known: that of the application k, whose text has all its unknowns met
  module _ {G G' : List ℕ} {k v : ℕ} (st : Stored G k (suc v) G') (l : k < length G) where
    there : get_or G' k 0 ≡ suc v
    there = stored_same 0 st l

    nonzero : (j : ℕ) → (get_or G j 0 ≡ 0 → ⊥) → get_or G' j 0 ≡ 0 → ⊥
    nonzero j n z = go (ℕ_discrete j k)
      where
        go : Dec (j ≡ k) → ⊥
        go (yes e) = let w : get_or G' k 0 ≡ 0 = subst (λ (i : ℕ). get_or G' i 0 ≡ 0) e z in omega (arith, there)
        go (no d) = n (sym (stored_other j 0 st d) ∙ z)

    pub done_more : {s : List ℕ} (x : ℕ) → Done f T G s x → Done f T G' s x
    done_more {s} x d = record { seen = d.seen; known = λ b. nonzero (cell_of T x / 256) (d.known b) }

    pub memo_more : {s : List ℕ} {m : ℕ} → ((x : ℕ) → BoundTo T x k → Measured (f x) s m (suc v)) → Memo f T G s m → Memo f T G' s m
    memo_more {s} {m} q h = record { right = at }
      where
        at : (x : ℕ) → cell_of T x % 4 ≡ 2 → (get_or G' (cell_of T x / 256) 0 ≡ 0 → ⊥) → Measured (f x) s m (get_or G' (cell_of T x / 256) 0)
        at x b n = go (ℕ_discrete (cell_of T x / 256) k)
          where
            go : Dec (cell_of T x / 256 ≡ k) → Measured (f x) s m (get_or G' (cell_of T x / 256) 0)
            go (yes e) = subst (Measured (f x) s m) (sym (ap (λ (i : ℕ). get_or G' i 0) e ∙ there)) (q x (record { bound = b; app = e }))
            go (no d) =
                let z : get_or G' (cell_of T x / 256) 0 ≡ get_or G (cell_of T x / 256) 0 = stored_other (cell_of T x / 256) 0 st d in
                subst (Measured (f x) s m) (sym z) (h.right x b (λ e. n (z ∙ e)))

    -- and what is bound to it is done
    pub done_bound : {s : List ℕ} (x : ℕ) → BoundTo T x k → Seen (f x) s → Done f T G' s x
    done_bound {s} x b i = record { seen = i; known = λ c z. let w : get_or G' k 0 ≡ 0 = subst (λ (j : ℕ). get_or G' j 0 ≡ 0) b.app z in omega (arith, there) }

  -- at first nothing is known
  pub memo_none : {G s : List ℕ} {m : ℕ} → ((k : ℕ) → get_or G k 0 ≡ 0) → Memo f T G s m
  memo_none h = record { right = λ x b n. absurd (n (h (cell_of T x / 256))) }
