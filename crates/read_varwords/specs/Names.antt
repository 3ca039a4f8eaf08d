-- Lists of names: those not bound, each once, and the first position of one; and the words of lists of variables. Assumes
-- nothing.
use Rattle.std.specs.Prelude.{◌≡◌, refl, List, [], ◌∷◌, ◌++◌, map, Bool, true, false, ◌||◌, ℕ, zero, suc, ◌+◌, ◌<◌, ◌≤◌, length}
use Rattle.std.proofs.Common.{ap, ap₂, sym, ◌∙◌, append_assoc, arith}
use Rattle.std.proofs.Math.Option.{Option, some, none}
use Rattle.akl.specs.Base.{Name, same, any, flat, among, first, once, size, if, ◌>>=◌}
use Rattle.akl.specs.Syntax.{Var}
use Rattle.akl.specs.Reader.{not_bound}
use Rattle.mem_words.specs.declared.Word.{Word}
use Rattle.layout.specs.Layout.{var_word, vars_words}
use Rattle.read_phrases.specs.Codes.{number_at}
use Rattle.read_phrases.specs.Phrases.{names}
use Rattle.read_lookups.specs.Places.{ids, name_default}

pub once_append : (a : List Name) (seen b : List Name) → once seen (a ++ b) ≡ once (once seen a) b
unfolding once
once_append [] seen b = refl
once_append (x ∷ a) seen b = once_append a (if (among x seen) seen (seen ++ (x ∷ []))) b

pub flat_append : {A B : Type 0} (f : A → List B) (a b : List A) → flat f (a ++ b) ≡ flat f a ++ flat f b
unfolding flat
flat_append f [] b = refl
flat_append {A} {B} f (x ∷ a) b = ap (λ (l : List B). f x ++ l) (flat_append f a b) ∙ sym (append_assoc (f x) (flat f a) (flat f b))

pub any_append : {A : Type 0} (p : A → Bool) (a b : List A) → any p (a ++ b) ≡ any p a || any p b
unfolding any
any_append p [] b = refl
any_append p (x ∷ a) b = go (p x) (any_append p a b)
  where
    go : (c : Bool) → any p (a ++ b) ≡ any p a || any p b → c || any p (a ++ b) ≡ (c || any p a) || any p b
    go true e = refl
    go false e = e

pub vars_append : (a b : List Var) (r : List Word) → vars_words (a ++ b) r ≡ vars_words a (vars_words b r)
unfolding vars_words
vars_append [] b r = refl
vars_append (x ∷ a) b r = ap (λ (l : List Word). var_word x ∷ l) (vars_append a b r)

-- the names of a list of tokens, spelled
pub names_ids : (m : ℕ) (w : ℕ → Name) (L : List ℕ) (i : ℕ) → names w L m i ≡ map w (ids L m i)
unfolding names ids number_at
names_ids zero w L i = refl
names_ids (suc m) w L i = ap₂ (λ (x : Name) (l : List Name). x ∷ l) (ap w (name_default L i 255 (omega arith))) (names_ids m w L (i + 2))

-- ---------------------------------------------------------------------------------------------
-- Sizes.

pub size_snoc : (l : List Name) (x : Name) → size (l ++ (x ∷ [])) ≡ suc (size l)
unfolding size
size_snoc [] x = refl
size_snoc (y ∷ l) x = ap suc (size_snoc l x)

pub size_map : (w : ℕ → Name) (l : List ℕ) → size (map w l) ≡ length l
unfolding size
size_map w [] = refl
size_map w (x ∷ l) = ap suc (size_map w l)

-- a list only grows
pub size_once : (l : List Name) (seen : List Name) → size seen ≤ size (once seen l)
unfolding once
size_once [] seen = omega arith
size_once (x ∷ l) seen =
    let a = size_once l (if (among x seen) seen (seen ++ (x ∷ []))) in
    let b = grow (among x seen) in
    omega arith
  where
    grow : (c : Bool) → size seen ≤ size (if c seen (seen ++ (x ∷ [])))
    grow true = omega arith
    grow false = omega (arith, size_snoc seen x)

-- ---------------------------------------------------------------------------------------------
-- One name.

abbrev pub is_some : Option ℕ → Bool
is_some none = false
is_some (some i) = true

pub first_among : (x : Name) (l : List Name) → among x l ≡ is_some (first x l)
unfolding among any first
first_among x [] = refl
first_among x (y ∷ l) = go (same x y) (first x l) (first_among x l)
  where
    go : (b : Bool) (o : Option ℕ) → any (same x) l ≡ is_some o → b || any (same x) l ≡ is_some (if b (some 0) (o >>= λ i. some (suc i)))
    go true o e = refl
    go false none e = e
    go false (some i) e = e

pub first_append : (x : Name) (l m : List Name) (i : ℕ) → first x l ≡ some i → first x (l ++ m) ≡ some i
unfolding first
first_append x [] m i e = absurd (let z : ◌≡◌ {A = ℕ} 0 1 = cc in omega arith)
first_append x (y ∷ l) m i e = go (same x y) (first x l) refl (first_append x l m) i e
  where
    go : (b : Bool) (o : Option ℕ) → first x l ≡ o → ((j : ℕ) → first x l ≡ some j → first x (l ++ m) ≡ some j) → (i : ℕ) → if b (some 0) (o >>= λ j. some (suc j)) ≡ some i → if b (some 0) (first x (l ++ m) >>= λ j. some (suc j)) ≡ some i
    go true o q f i e = e
    go false none q f i e = absurd (let z : ◌≡◌ {A = ℕ} 0 1 = cc in omega arith)
    go false (some j) q f i e = ap (λ (t : Option ℕ). t >>= λ n. some (suc n)) (f j q) ∙ e

pub not_bound_yes : (bs : List Name) (x : Name) → among x bs ≡ true → not_bound bs (x ∷ []) ≡ []
unfolding flat
not_bound_yes bs x e = ap (λ (b : Bool). if {A = List Name} b [] (x ∷ []) ++ []) e

pub not_bound_no : (bs : List Name) (x : Name) → among x bs ≡ false → not_bound bs (x ∷ []) ≡ x ∷ []
unfolding flat
not_bound_no bs x e = ap (λ (b : Bool). if {A = List Name} b [] (x ∷ []) ++ []) e

pub once_none : (seen : List Name) → once seen [] ≡ seen
unfolding once
once_none seen = refl

pub once_old : (seen : List Name) (x : Name) → among x seen ≡ true → once seen (x ∷ []) ≡ seen
unfolding once
once_old seen x e = ap (λ (b : Bool). if {A = List Name} b seen (seen ++ (x ∷ []))) e

pub once_new : (seen : List Name) (x : Name) → among x seen ≡ false → once seen (x ∷ []) ≡ seen ++ (x ∷ [])
unfolding once
once_new seen x e = ap (λ (b : Bool). if {A = List Name} b seen (seen ++ (x ∷ []))) e
