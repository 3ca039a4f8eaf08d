-- Words written one after another. A slot is left empty by writing `Bad`; it is filled later, or dropped. Assumes nothing.
use Rattle.std.specs.Prelude.{◌≡◌, refl, List, [], ◌∷◌, ◌++◌, ℕ, zero, suc, ◌+◌, ◌-◌, ◌<◌, ◌≤◌, length, get_or, take, drop}
use Rattle.std.proofs.Common.{ap, ap₂, sym, ◌∙◌, subst, append_assoc, append-nil, add-one, arith, length-drop, ext_get_or, length-take-le, get_or-take, get_or-drop, take-add, drop-drop, drop-cons}
use Rattle.mem_numbers.specs.Stored.{Stored, stored_same, stored_other}
use Rattle.mem_words.specs.declared.Word.{Word}
use Rattle.mem_words.specs.declared.Word.TheVariants.{End, Free, Level, Num, Place, Inner, Bad}

-- the words without the empty slots
unfoldable pub tight : List Word → List Word
tight [] = []
tight (End ∷ l) = End ∷ tight l
tight (Free x ∷ l) = Free x ∷ tight l
tight (Level x ∷ l) = Level x ∷ tight l
tight (Num x ∷ l) = Num x ∷ tight l
tight (Place x ∷ l) = Place x ∷ tight l
tight (Inner x ∷ l) = Inner x ∷ tight l
tight (Bad ∷ l) = tight l

-- the words from a up to b
unfoldable pub seg : List Word → ℕ → ℕ → List Word
seg O a b = take (b - a) (drop a O)

-- a word that is no empty slot
abbrev pub Solid : Word → Type 0
Solid End = Unit
Solid (Free x) = Unit
Solid (Level x) = Unit
Solid (Num x) = Unit
Solid (Place x) = Unit
Solid (Inner x) = Unit
Solid Bad = ⊥

-- O' is O with words written from k up to k'; put before what follows they are f of it
pub record Wrote (O : List Word) (k : ℕ) (O' : List Word) (k' : ℕ) (f : List Word → List Word) : Type 0 where
  pub long : length O' ≡ length O
  pub more : k ≤ k'
  pub inside : k' ≤ length O'
  pub older : (i : ℕ) → i < k → get_or O' i Bad ≡ get_or O i Bad
  pub words : (r : List Word) → tight (seg O' k k') ++ r ≡ f r

-- O' is O but for the n words from k on
pub record Outside (k n : ℕ) (O O' : List Word) : Type 0 where
  pub long : length O' ≡ length O
  pub before : (i : ℕ) → i < k → get_or O' i Bad ≡ get_or O i Bad
  pub after : (i : ℕ) → k + n ≤ i → get_or O' i Bad ≡ get_or O i Bad

-- ---------------------------------------------------------------------------------------------
-- Words without the empty slots.

pub tight_solid : (w : Word) (l : List Word) → Solid w → tight (w ∷ l) ≡ w ∷ tight l
unfolding tight
tight_solid End l h = refl
tight_solid (Free x) l h = refl
tight_solid (Level x) l h = refl
tight_solid (Num x) l h = refl
tight_solid (Place x) l h = refl
tight_solid (Inner x) l h = refl
tight_solid Bad l h = absurd h

pub tight_bad : (l : List Word) → tight (Bad ∷ l) ≡ tight l
unfolding tight
tight_bad l = refl

pub tight_none : tight [] ≡ []
unfolding tight
tight_none = refl

pub tight_append : (l m : List Word) → tight (l ++ m) ≡ tight l ++ tight m
unfolding tight
tight_append [] m = refl
tight_append (End ∷ l) m = ap (λ (t : List Word). End ∷ t) (tight_append l m)
tight_append (Free x ∷ l) m = ap (λ (t : List Word). Free x ∷ t) (tight_append l m)
tight_append (Level x ∷ l) m = ap (λ (t : List Word). Level x ∷ t) (tight_append l m)
tight_append (Num x ∷ l) m = ap (λ (t : List Word). Num x ∷ t) (tight_append l m)
tight_append (Place x ∷ l) m = ap (λ (t : List Word). Place x ∷ t) (tight_append l m)
tight_append (Inner x ∷ l) m = ap (λ (t : List Word). Inner x ∷ t) (tight_append l m)
tight_append (Bad ∷ l) m = tight_append l m

-- ---------------------------------------------------------------------------------------------
-- Segments.

pub seg_none : (O : List Word) (a : ℕ) → seg O a a ≡ []
unfolding seg
seg_none O a = let z : a - a ≡ 0 = omega arith in ap (λ (n : ℕ). take n (drop a O)) z

pub length_seg : (O : List Word) (a b : ℕ) → a ≤ b → b ≤ length O → length (seg O a b) ≡ b - a
unfolding seg
length_seg O a b h g = length-take-le (b - a) (drop a O) (omega (arith, length-drop a O))

pub get_or_seg : (O : List Word) (a b i : ℕ) → i < b - a → get_or (seg O a b) i Bad ≡ get_or O (a + i) Bad
unfolding seg
get_or_seg O a b i h = get_or-take (b - a) (drop a O) i Bad h ∙ get_or-drop a O i Bad

-- two lists that agree from a up to b
pub seg_same : (O X : List Word) (a b : ℕ) → a ≤ b → b ≤ length O → length X ≡ length O → ((i : ℕ) → a ≤ i → i < b → get_or X i Bad ≡ get_or O i Bad) → seg X a b ≡ seg O a b
seg_same O X a b h g e f =
    let p : length (seg X a b) ≡ b - a = length_seg X a b h (omega arith) in
    ext_get_or Bad (seg X a b) (seg O a b) (p ∙ sym (length_seg O a b h g))
    (λ i l. get_or_seg X a b i (omega arith) ∙ f (a + i) (omega arith) (omega arith) ∙ sym (get_or_seg O a b i (omega arith)))

pub seg_join : (O : List Word) (a b c : ℕ) → a ≤ b → b ≤ c → seg O a c ≡ seg O a b ++ seg O b c
unfolding seg
seg_join O a b c h g =
    let e : c - a ≡ (b - a) + (c - b) = omega arith in
    let z : a + (b - a) ≡ b = omega arith in
    ap (λ (n : ℕ). take n (drop a O)) e
    ∙ take-add (b - a) (c - b) (drop a O)
    ∙ ap (λ (l : List Word). take (b - a) (drop a O) ++ take (c - b) l) (drop-drop (b - a) a O ∙ ap (λ (n : ℕ). drop n O) z)

pub seg_cons : (O : List Word) (a b : ℕ) → a < b → b ≤ length O → seg O a b ≡ get_or O a Bad ∷ seg O (a + 1) b
unfolding seg
seg_cons O a b h g =
    let e : b - a ≡ suc (b - (a + 1)) = omega arith in
    ap₂ (λ (n : ℕ) (l : List Word). take n l) e (drop-cons O a Bad (omega arith))
    ∙ ap (λ (m : ℕ). get_or O a Bad ∷ take (b - (a + 1)) (drop m O)) (sym (add-one a))

-- ---------------------------------------------------------------------------------------------
-- What was written.

pub wrote_none : {O : List Word} {k : ℕ} → k ≤ length O → Wrote O k O k (λ r. r)
wrote_none {O} {k} h = record { long = refl; more = omega arith; inside = h; older = λ i l. refl; words = λ r. ap (λ (l : List Word). tight l ++ r) (seg_none O k) ∙ ap (λ (l : List Word). l ++ r) tight_none }

pub wrote_same : {O : List Word} {k : ℕ} {O' : List Word} {k' : ℕ} {f g : List Word → List Word} → ((r : List Word) → f r ≡ g r) → Wrote O k O' k' f → Wrote O k O' k' g
wrote_same e a = record { long = a.long; more = a.more; inside = a.inside; older = a.older; words = λ r. a.words r ∙ e r }

-- the end of what was written, and the list, by other names
pub wrote_to : {O : List Word} {k : ℕ} {O' : List Word} {k' m : ℕ} {f : List Word → List Word} → k' ≡ m → Wrote O k O' k' f → Wrote O k O' m f
wrote_to {O} {k} {O'} {k'} {m} {f} e a = subst (λ (n : ℕ). Wrote O k O' n f) e a

pub wrote_then : {O : List Word} {k : ℕ} {O' : List Word} {k' : ℕ} {O'' : List Word} {k'' : ℕ} {f g : List Word → List Word} → Wrote O k O' k' f → Wrote O' k' O'' k'' g → Wrote O k O'' k'' (λ r. f (g r))
wrote_then {O} {k} {O'} {k'} {O''} {k''} {f} {g} a b =
    record {
      long = b.long ∙ a.long;
      more = omega (arith, a.more, b.more);
      inside = b.inside;
      older = λ i l. b.older i (omega (arith, a.more)) ∙ a.older i l;
      words = λ r.
          ap (λ (l : List Word). tight l ++ r) (seg_join O'' k k' k'' a.more b.more ∙ ap (λ (l : List Word). l ++ seg O'' k' k'') (seg_same O' O'' k k' a.more a.inside b.long (λ i l h. b.older i h)))
          ∙ ap (λ (l : List Word). l ++ r) (tight_append (seg O' k k') (seg O'' k' k''))
          ∙ append_assoc (tight (seg O' k k')) (tight (seg O'' k' k'')) r
          ∙ ap (λ (l : List Word). tight (seg O' k k') ++ l) (b.words r)
          ∙ a.words (g r);
    }

-- n slots at k, and f behind them; whatever the slots are given then is written before f
pub wrote_slots : {O : List Word} (k n : ℕ) {O₁ O' O'' : List Word} {k' : ℕ} {f : List Word → List Word} → Outside k n O O₁ → Wrote O₁ (k + n) O' k' f → Outside k n O' O'' → Wrote O k O'' k' (λ r. tight (seg O'' k (k + n)) ++ f r)
wrote_slots {O} k n {O₁} {O'} {O''} {k'} {f} s a p =
    record {
      long = p.long ∙ a.long ∙ s.long;
      more = omega (arith, a.more);
      inside = omega (arith, a.inside, p.long);
      older = λ i l. p.before i l ∙ a.older i (omega arith) ∙ s.before i l;
      words = λ r.
          ap (λ (l : List Word). tight l ++ r) (seg_join O'' k (k + n) k' (omega arith) a.more ∙ ap (λ (l : List Word). seg O'' k (k + n) ++ l) (seg_same O' O'' (k + n) k' a.more a.inside p.long (λ i l h. p.after i l)))
          ∙ ap (λ (l : List Word). l ++ r) (tight_append (seg O'' k (k + n)) (seg O' (k + n) k'))
          ∙ append_assoc (tight (seg O'' k (k + n))) (tight (seg O' (k + n) k')) r
          ∙ ap (λ (l : List Word). tight (seg O'' k (k + n)) ++ l) (a.words r);
    }

pub outside_none : (k n : ℕ) (O : List Word) → Outside k n O O
outside_none k n O = record { long = refl; before = λ i h. refl; after = λ i h. refl }

pub outside_more : {k n : ℕ} {O O' O'' : List Word} {i : ℕ} {w : Word} → Outside k n O O' → k ≤ i → i < k + n → Stored O' i w O'' → Outside k n O O''
outside_more a h g s =
    record {
      long = s.long ∙ a.long;
      before = λ j l. stored_other j Bad s (λ e. omega arith) ∙ a.before j l;
      after = λ j l. stored_other j Bad s (λ e. omega arith) ∙ a.after j l;
    }

-- one word, and one slot
seg_one : (O : List Word) (k : ℕ) (w : Word) → k < length O → get_or O k Bad ≡ w → seg O k (k + 1) ≡ w ∷ []
seg_one O k w h e = seg_cons O k (k + 1) (omega arith) (omega arith) ∙ ap₂ (λ (x : Word) (l : List Word). x ∷ l) e (seg_none O (k + 1))

stored_one : {O : List Word} {k : ℕ} {w : Word} {O' : List Word} → k < length O → Stored O k w O' → Wrote O k O' (k + 1) (λ r. tight (w ∷ []) ++ r)
stored_one {O} {k} {w} {O'} h s =
    record {
      long = s.long;
      more = omega arith;
      inside = omega (arith, s.long);
      older = λ i l. stored_other i Bad s (λ e. omega arith);
      words = λ r. ap (λ (l : List Word). tight l ++ r) (seg_one O' k w (omega (arith, s.long)) (stored_same Bad s h));
    }

solid_one : (w : Word) (r : List Word) → Solid w → tight (w ∷ []) ++ r ≡ w ∷ r
solid_one w r h = ap (λ (l : List Word). l ++ r) (tight_solid w [] h ∙ ap (λ (l : List Word). w ∷ l) tight_none)

pub wrote_word : {O : List Word} {k : ℕ} {w : Word} {O' : List Word} → k < length O → Solid w → Stored O k w O' → Wrote O k O' (k + 1) (λ r. w ∷ r)
wrote_word {O} {k} {w} {O'} h d s = wrote_same (λ r. solid_one w r d) (stored_one h s)

pub wrote_slot : {O : List Word} {k : ℕ} {O' : List Word} → k < length O → Stored O k Bad O' → Wrote O k O' (k + 1) (λ r. r)
wrote_slot {O} {k} {O'} h s = wrote_same (λ r. ap (λ (l : List Word). l ++ r) (tight_bad [] ∙ tight_none)) (stored_one h s)

-- a slot that is filled after what stands behind it was written
pub wrote_patch : {O : List Word} {k : ℕ} {O₁ O' O'' : List Word} {k' : ℕ} {w : Word} {f : List Word → List Word} → k < length O → Stored O k Bad O₁ → Wrote O₁ (k + 1) O' k' f → Stored O' k w O'' → Solid w → Wrote O k O'' k' (λ r. w ∷ f r)
wrote_patch {O} {k} {O₁} {O'} {O''} {k'} {w} {f} h s a p d =
    let g : k < length O' = omega (arith, a.inside, a.more) in
    wrote_same (λ r. ap (λ (l : List Word). tight l ++ f r) (seg_one O'' k w (omega (arith, p.long)) (stored_same Bad p g)) ∙ solid_one w (f r) d)
    (wrote_slots k 1 (outside_more (outside_none k 1 O) (omega arith) (omega arith) s) a (outside_more (outside_none k 1 O') (omega arith) (omega arith) p))
