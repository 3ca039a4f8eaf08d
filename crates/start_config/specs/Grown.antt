-- Words written one after the other. Assumes nothing.
use Rattle.std.specs.Prelude.{◌≡◌, refl, List, [], ◌∷◌, ◌++◌, ℕ, zero, suc, ◌+◌, ◌≤◌, ◌<◌, length, take, drop}
use Rattle.std.proofs.Common.{sym, ap, ap₂, ◌∙◌, subst, append_assoc, append-nil, arith, add-one, length-take, length-append, take-suc-set, length-take-le}
use Rattle.akl.specs.Base.{range}
use Rattle.mem_numbers.specs.Stored.{Stored}
use Rattle.mem_words.specs.declared.Word.{Word}
use Rattle.mem_words.specs.declared.Word.TheVariants.{End, Free, Place, Inner}
use Rattle.mem_words.specs.Words.{Small}
use Rattle.mem_sorts.specs.declared.Kind.TheVariants.{Or, And, Member}
use Rattle.mem_sorts.specs.declared.Sort.TheVariants.{Locals, Store}
use Rattle.mem_copies.specs.Runs.{Copied, take_copied}
use Rattle.store_words.specs.Boxes.{local_words}

-- X was written from k on, up to m
pub record Grown (O : List Word) (k : ℕ) (X O' : List Word) (m : ℕ) : Type 0 where
  pub words : take m O' ≡ take k O ++ X
  pub end : m ≡ k + length X
  pub long : length O' ≡ length O

pub grown_none : (O : List Word) (k : ℕ) → Grown O k [] O k
grown_none O k = record { words = sym (append-nil (take k O)); end = omega arith; long = refl }

pub grown_word : (O : List Word) (k : ℕ) (w : Word) (O' : List Word) → k < length O → Stored O k w O' → Grown O k (w ∷ []) O' (k + 1)
grown_word O k w O' h s = record {
  words = ap (λ (m : ℕ). take m O') (add-one k) ∙ ap (take (suc k)) s.list ∙ take-suc-set O k w h;
  end = refl;
  long = s.long;
}

pub grown_copied : (O S : List Word) (k n : ℕ) (O' : List Word) → k + n ≤ length O → n ≤ length S → Copied O k S n O' → Grown O k (take n S) O' (k + n)
grown_copied O S k n O' h g c = record {
  words = ap (take (k + n)) c.list ∙ take_copied O k S n (omega arith) g;
  end = omega (arith, length-take-le n S g);
  long = c.long;
}

pub grown_then : {O : List Word} {k : ℕ} {X O' : List Word} {m : ℕ} {Y O'' : List Word} {l : ℕ} → Grown O k X O' m → Grown O' m Y O'' l → Grown O k (X ++ Y) O'' l
grown_then {O} {k} {X} {O'} {m} {Y} {O''} {l} a b = record {
  words = b.words ∙ ap (λ (x : List Word). x ++ Y) a.words ∙ append_assoc (take k O) X Y;
  end = omega (arith, b.end, a.end, length-append X Y);
  long = b.long ∙ a.long;
}

-- the words of a configuration of one and-box with v variables and the member whose words are W
unfoldable pub first_words : ℕ → List Word → List Word
first_words v W = Place Or ∷ Place And ∷ Inner Locals ∷ local_words (range 0 v) (End ∷ Inner Store ∷ End ∷ Place Member ∷ (W ++ (End ∷ End ∷ End ∷ [])))

-- the variables from 0 on up to i
abbrev pub frees : ℕ → List Word
frees i = local_words (range 0 i) []

locals_front : (from n : ℕ) (r : List Word) → local_words (range from n) r ≡ local_words (range from n) [] ++ r
unfolding local_words range
locals_front from zero r = refl
locals_front from (suc n) r = ap (λ (x : List Word). Free from ∷ x) (locals_front (suc from) n r)

locals_last : (from n : ℕ) → local_words (range from n) [] ++ (Free (from + n) ∷ []) ≡ local_words (range from (suc n)) []
unfolding local_words range
locals_last from zero = let e : from + 0 ≡ from = omega arith in ap (λ (x : ℕ). Free x ∷ []) e
locals_last from (suc n) = let e : from + suc n ≡ suc from + n = omega arith in ap (λ (x : List Word). Free from ∷ x) (ap (λ (x : ℕ). local_words (range (suc from) n) [] ++ (Free x ∷ [])) e ∙ locals_last (suc from) n)

pub frees_none : (O : List Word) (k : ℕ) → Grown O k (frees 0) O (k + 0)
unfolding local_words range
frees_none O k = let e : k ≡ k + 0 = omega arith in subst (Grown O k [] O) e (grown_none O k)

pub frees_more : {O : List Word} {k i : ℕ} {O' O'' : List Word} → k + i < length O' → Grown O k (frees i) O' (k + i) → Stored O' (k + i) (Free i) O'' → Grown O k (frees (i + 1)) O'' (k + (i + 1))
frees_more {O} {k} {i} {O'} {O''} h g s =
    let e : k + i + 1 ≡ k + (i + 1) = omega arith in
    subst (λ (m : ℕ). Grown O k (frees (i + 1)) O'' m) e
    (subst (λ (X : List Word). Grown O k X O'' (k + i + 1)) (ap (λ (x : ℕ). frees i ++ (Free x ∷ [])) (sym (z i)) ∙ locals_last 0 i ∙ ap frees (sym (add-one i))) (grown_then g (grown_word O' (k + i) (Free i) O'' h s)))
  where
    z : (n : ℕ) → 0 + n ≡ n
    z n = omega arith

-- the pieces in which the words are written
pub first_pieces : (v : ℕ) (W : List Word)
    → (Place Or ∷ Place And ∷ Inner Locals ∷ []) ++ (frees v ++ ((End ∷ Inner Store ∷ End ∷ []) ++ ((Place Member ∷ []) ++ (W ++ (End ∷ End ∷ End ∷ []))))) ≡ first_words v W
unfolding first_words
first_pieces v W = ap (λ (x : List Word). Place Or ∷ Place And ∷ Inner Locals ∷ x) (sym (locals_front 0 v (End ∷ Inner Store ∷ End ∷ Place Member ∷ (W ++ (End ∷ End ∷ End ∷ [])))))

pub grown_three : (O : List Word) (k : ℕ) (a b c : Word) (O1 O2 O3 : List Word) → k + 3 ≤ length O → Stored O k a O1 → Stored O1 (k + 1) b O2 → Stored O2 (k + 2) c O3 → Grown O k (a ∷ b ∷ c ∷ []) O3 (k + 3)
grown_three O k a b c O1 O2 O3 h s1 s2 s3 =
    let e : k + 1 + 1 ≡ k + 2 = omega arith in
    let f : k + 2 + 1 ≡ k + 3 = omega arith in
    let g1 = grown_word O k a O1 (omega arith) s1 in
    let g2 = subst (Grown O1 (k + 1) (b ∷ []) O2) e (grown_word O1 (k + 1) b O2 (omega (arith, s1.long)) s2) in
    let g3 = subst (Grown O2 (k + 2) (c ∷ []) O3) f (grown_word O2 (k + 2) c O3 (omega (arith, s1.long, s2.long)) s3) in
    grown_then g1 (grown_then g2 g3)

-- the pieces written in their order are the words
pub grown_first : (O : List Word) (v b : ℕ) (G : List Word) (O1 O2 O3 O4 O5 O6 : List Word) → 10 + v + b ≤ length O → b ≤ length G
    → Grown O 0 (Place Or ∷ Place And ∷ Inner Locals ∷ []) O1 (0 + 3)
    → Grown O1 3 (frees v) O2 (3 + v)
    → Grown O2 (3 + v) (End ∷ Inner Store ∷ End ∷ []) O3 (3 + v + 3)
    → Stored O3 (3 + v + 3) (Place Member) O4
    → Copied O4 (3 + v + 3 + 1) G b O5
    → Grown O5 (3 + v + 3 + 1 + b) (End ∷ End ∷ End ∷ []) O6 (3 + v + 3 + 1 + b + 3)
    → Grown O 0 (first_words v (take b G)) O6 (3 + v + 3 + 1 + b + 3)
grown_first O v b G O1 O2 O3 O4 O5 O6 h g a1 a2 a3 s c a6 =
    let l1 = a1.long in
    let l2 = a2.long in
    let l3 = a3.long in
    let a4 = grown_word O3 (3 + v + 3) (Place Member) O4 (omega arith) s in
    let l4 = s.long in
    let a5 = grown_copied O4 G (3 + v + 3 + 1) b O5 (omega arith) g c in
    subst (λ (X : List Word). Grown O 0 X O6 (3 + v + 3 + 1 + b + 3)) (first_pieces v (take b G)) (grown_then a1 (grown_then a2 (grown_then a3 (grown_then a4 (grown_then a5 a6)))))
