-- The bytes of shown terms determine the terms.
use mathlib.Core.Path.{◌≡◌, refl, ap, sym, ◌∙◌, subst}
use mathlib.Core.Logic.{◌↔◌, ◌⊎◌, inl, inr}
use mathlib.Core.List.{List, [], ◌∷◌, ◌++◌, append_assoc, append-nil}
use mathlib.Core.Bool.{Bool, true, false, ◌&&◌, ◌||◌}
use Prim.Native.Nat.{ℕ, zero, suc, ◌+◌, ◌*◌, ◌-◌, ◌/◌, ◌%◌, ◌≤◌, ◌<◌}
use native.Mathlib.Omega.{arith}
use native.Mathlib.Decide.{dec_lt}
use lib.Dec.{T, eqb, leb, eqb→eq, eqb_refl}
use Rattle.constraint.specs.Tree.{Label}
use Rattle.constraint.proofs.Lists.{and_T, or_T}
use Rattle.akl.specs.Base.{Name, bytes, bytes_from, size, all, decimal, decimal_from}
use Rattle.akl.specs.StepsText.{digits_value}
use Rattle.akl.specs.Token.{Class, small, capital, digit, underscore, blank, mark, other, class_of, word_class, digit_class}
use Rattle.akl.specs.Answers.{Term, unbound, built, Terms, no_terms, more_terms}
use Rattle.akl.specs.Limits.{name_bytes}
use Rattle.akl.specs.WellFormed.{is_small, begins, spelled_name, spelled_digits}
use Rattle.runs.specs.Shown.{Spelled, SpelledTerm, SpelledTerms, AsMany, term_bytes, arguments_bytes, rest_bytes, bindings_bytes, line_bytes}

-- ---------------------------------------------------------------------------------------------
-- Runs of letters, digits and underscores.

abbrev Word : List ℕ → Type 0
Word w = T (all (λ x. word_class (class_of x)) w)

-- what follows a run: nothing, or a byte that is none of these
abbrev Behind : List ℕ → Type 0
Behind [] = Unit {0}
Behind (x ∷ r) = T (word_class (class_of x)) → ⊥

cons_nil : (x : ℕ) (l : List ℕ) → x ∷ l ≡ [] → ⊥
cons_nil x l e = let z : ◌≡◌ {A = ℕ} 0 1 = cc in omega arith

heads : (x y : ℕ) (a b : List ℕ) → x ∷ a ≡ y ∷ b → (x ≡ y) × (a ≡ b)
heads x y a b e = (cc e, cc e)

first_word : (x : ℕ) (w : List ℕ) → Word (x ∷ w) → T (word_class (class_of x)) × Word w
unfolding all
first_word x w h = (and_T (word_class (class_of x)) (all (λ y. word_class (class_of y)) w)).0 h

word_split : (f g r s : List ℕ) → Word f → Word g → Behind r → Behind s → f ++ r ≡ g ++ s → (f ≡ g) × (r ≡ s)
word_split [] [] r s a b c d e = (refl, e)
word_split [] (y ∷ g) r s a b c d e = absurd (subst Behind e c (first_word y g b).0)
word_split (x ∷ f) [] r s a b c d e = absurd (subst Behind (sym e) d (first_word x f a).0)
word_split (x ∷ f) (y ∷ g) r s a b c d e =
    let h = heads x y (f ++ r) (g ++ s) e in
    let k = word_split f g r s (first_word x f a).1 (first_word y g b).1 c d h.1 in
    ((λ i. h.0 i ∷ k.0 i), k.1)

cancel : (a b c : List ℕ) → a ++ b ≡ a ++ c → b ≡ c
cancel [] b c e = e
cancel (x ∷ a) b c e = cancel a b c (heads x x (a ++ b) (a ++ c) e).1

-- ---------------------------------------------------------------------------------------------
-- Decimal numbers.

digit_word : (d : ℕ) → d < 10 → T (word_class (class_of (48 + d)))
unfolding class_of
digit_word zero l = tt
digit_word (suc zero) l = tt
digit_word (suc (suc zero)) l = tt
digit_word (suc (suc (suc zero))) l = tt
digit_word (suc (suc (suc (suc zero)))) l = tt
digit_word (suc (suc (suc (suc (suc zero))))) l = tt
digit_word (suc (suc (suc (suc (suc (suc zero)))))) l = tt
digit_word (suc (suc (suc (suc (suc (suc (suc zero))))))) l = tt
digit_word (suc (suc (suc (suc (suc (suc (suc (suc zero)))))))) l = tt
digit_word (suc (suc (suc (suc (suc (suc (suc (suc (suc zero))))))))) l = tt
digit_word (suc (suc (suc (suc (suc (suc (suc (suc (suc (suc d)))))))))) l = absurd (omega arith)

decimal_word : (fuel n : ℕ) (tail : List ℕ) → Word tail → Word (decimal_from fuel n tail)
unfolding decimal_from all
decimal_word zero n tail h = h
decimal_word (suc fuel) n tail h = go (eqb (n / 10) 0) (λ w. decimal_word fuel (n / 10) ((48 + n % 10) ∷ tail) w)
  where
    new : Word ((48 + n % 10) ∷ tail)
    new = (and_T (word_class (class_of (48 + n % 10))) (all (λ y. word_class (class_of y)) tail)).1 (digit_word (n % 10) (omega arith), h)

    go : (b : Bool) → (Word ((48 + n % 10) ∷ tail) → Word (decimal_from fuel (n / 10) ((48 + n % 10) ∷ tail))) → Word (elim b as (λ z. List ℕ) [ true ↦ (48 + n % 10) ∷ tail | false ↦ decimal_from fuel (n / 10) ((48 + n % 10) ∷ tail) ])
    go true ih = new
    go false ih = ih new

decimal_value : (fuel n : ℕ) (tail : List ℕ) → n < fuel → digits_value 0 (decimal_from fuel n tail) ≡ digits_value n tail
unfolding decimal_from digits_value
decimal_value zero n tail l = absurd (omega arith)
decimal_value (suc fuel) n tail l = go (eqb (n / 10) 0) (λ t. eqb→eq (n / 10) 0 t) (λ e. subst (λ z. T (eqb z 0)) (sym e) (eqb_refl 0)) (λ m. decimal_value fuel (n / 10) ((48 + n % 10) ∷ tail) m)
  where
    low : n / 10 ≡ 0 → 0 * 10 + (48 + n % 10 - 48) ≡ n
    low e = omega arith

    high : n / 10 * 10 + (48 + n % 10 - 48) ≡ n
    high = omega arith

    falls : (n / 10 ≡ 0 → ⊥) → n / 10 < fuel
    falls m = by (dec_lt 0 (n / 10))
      where
        by : Dec (0 < n / 10) → n / 10 < fuel
        by (yes p) = omega arith
        by (no p) = absurd (m (omega arith))

    go : (b : Bool) → (T b → n / 10 ≡ 0) → (n / 10 ≡ 0 → T b) → (n / 10 < fuel → digits_value 0 (decimal_from fuel (n / 10) ((48 + n % 10) ∷ tail)) ≡ digits_value (n / 10) ((48 + n % 10) ∷ tail)) → digits_value 0 (elim b as (λ z. List ℕ) [ true ↦ (48 + n % 10) ∷ tail | false ↦ decimal_from fuel (n / 10) ((48 + n % 10) ∷ tail) ]) ≡ digits_value n tail
    go true f g ih = ap (λ k. digits_value k tail) (low (f tt))
    go false f g ih = ih (falls g) ∙ ap (λ k. digits_value k tail) high

decimal_inj : (i j : ℕ) → decimal i ≡ decimal j → i ≡ j
unfolding decimal digits_value
decimal_inj i j e = sym (decimal_value (suc i) i [] (omega arith)) ∙ ap (digits_value 0) e ∙ decimal_value (suc j) j [] (omega arith)

-- ---------------------------------------------------------------------------------------------
-- Labels.

all_words : (f : List ℕ) → T (all (λ x. digit_class (class_of x)) f) → Word f
unfolding all
all_words [] h = tt
all_words (x ∷ f) h =
    let k = (and_T (digit_class (class_of x)) (all (λ y. digit_class (class_of y)) f)).0 h in
    (and_T (word_class (class_of x)) (all (λ y. word_class (class_of y)) f)).1 (go (class_of x) k.0, all_words f k.1)
  where
    go : (c : Class) → T (digit_class c) → T (word_class c)
    go small t = elim t [ ]
    go capital t = elim t [ ]
    go underscore t = elim t [ ]
    go blank t = elim t [ ]
    go mark t = elim t [ ]
    go other t = elim t [ ]
    go digit t = tt

-- it begins with a small letter or a digit, and so not with an underscore
abbrev Begins : List ℕ → Type 0
Begins [] = ⊥
Begins (x ∷ f) = (x ≡ 95) → ⊥

label_word : (f : Label) → Spelled f → Word f × Begins f
unfolding spelled_name spelled_digits class_of
label_word f h = elim ((or_T (spelled_name f) (spelled_digits f)).0 h) [ inl a ↦ by_name a | inr a ↦ by_digits a ]
  where
    starts : (p : Class → Bool) → (T (p underscore) → ⊥) → (w : List ℕ) → T (begins p w) → Begins w
    starts p n [] t = elim t [ ]
    starts p n (x ∷ w) t = λ e. n (subst (λ z. T (p (class_of z))) e t)

    by_name : T (spelled_name f) → Word f × Begins f
    by_name a =
        let k2 = (and_T (begins is_small f && all (λ x. word_class (class_of x)) f) (leb (size f) name_bytes)).0 a in
        let k1 = (and_T (begins is_small f) (all (λ x. word_class (class_of x)) f)).0 k2.0 in
        (k1.1, starts is_small (λ t. t) f k1.0)

    by_digits : T (spelled_digits f) → Word f × Begins f
    by_digits a =
        let k2 = (and_T (begins digit_class f && all (λ x. digit_class (class_of x)) f) (leb (size f) name_bytes)).0 a in
        let k1 = (and_T (begins digit_class f) (all (λ x. digit_class (class_of x)) f)).0 k2.0 in
        (all_words f k1.1, starts digit_class (λ t. t) f k1.0)

-- ---------------------------------------------------------------------------------------------
-- Terms. What follows a term is nothing, a comma or a closing bracket.

abbrev Stop : List ℕ → Type 0
Stop [] = Unit {0}
Stop (x ∷ r) = (x ≡ 44) ⊎ (x ≡ 41)

stop_behind : (r : List ℕ) → Stop r → Behind r
unfolding class_of
stop_behind [] h = tt
stop_behind (x ∷ r) (inl e) = λ t. subst (λ z. T (word_class (class_of z))) e t
stop_behind (x ∷ r) (inr e) = λ t. subst (λ z. T (word_class (class_of z))) e t

-- arguments or none: a bracket, or what follows
arguments_behind : (ts : Terms) (r : List ℕ) → Stop r → Behind (arguments_bytes ts ++ r)
unfolding term_bytes bytes bytes_from class_of
arguments_behind no_terms r h = stop_behind r h
arguments_behind (more_terms t ts) r h = λ z. z

rest_stops : (ts : Terms) (r : List ℕ) → Stop (rest_bytes ts ++ r)
unfolding term_bytes bytes bytes_from
rest_stops no_terms r = inr refl
rest_stops (more_terms t ts) r = inl refl

not_both : (r : List ℕ) (s : List ℕ) → Stop r → r ≡ 40 ∷ s → ⊥
not_both r s h e = go (subst Stop e h)
  where
    go : ◌≡◌ {A = ℕ} 40 44 ⊎ ◌≡◌ {A = ℕ} 40 41 → ⊥
    go (inl q) = omega arith
    go (inr q) = omega arith

begins_not : (f r s : List ℕ) → Begins f → f ++ r ≡ 95 ∷ s → ⊥
begins_not [] r s b e = elim b [ ]
begins_not (x ∷ f) r s b e = b (heads x 95 (f ++ r) s e).0

-- a term and the rest of a list
pair_inj : (s : Term) (ss : Terms) (t : Term) (ts : Terms) (r r' : List ℕ) → ((u v : List ℕ) → Stop u → Stop v → term_bytes s ++ u ≡ term_bytes t ++ v → (s ≡ t) × (u ≡ v)) → ((u v : List ℕ) → rest_bytes ss ++ u ≡ rest_bytes ts ++ v → (ss ≡ ts) × (u ≡ v)) → (term_bytes s ++ rest_bytes ss) ++ r ≡ (term_bytes t ++ rest_bytes ts) ++ r' → (more_terms s ss ≡ more_terms t ts) × (r ≡ r')
pair_inj s ss t ts r r' one more e =
    let w = one (rest_bytes ss ++ r) (rest_bytes ts ++ r') (rest_stops ss r) (rest_stops ts r') (sym (append_assoc (term_bytes s) (rest_bytes ss) r) ∙ e ∙ append_assoc (term_bytes t) (rest_bytes ts) r') in
    let v = more r r' w.1 in
    ((λ i. more_terms (w.0 i) (v.0 i)), v.1)

mutual
  unfolding term_bytes bytes bytes_from decimal all

  term_inj : (s t : Term) → SpelledTerm s → SpelledTerm t → (r r' : List ℕ) → Stop r → Stop r' → term_bytes s ++ r ≡ term_bytes t ++ r' → (s ≡ t) × (r ≡ r')
  term_inj (unbound i) (unbound j) p q r r' a b e =
      let w = word_split (decimal i) (decimal j) r r' (decimal_word (suc i) i [] tt) (decimal_word (suc j) j [] tt) (stop_behind r a) (stop_behind r' b) (heads 95 95 (decimal i ++ r) (decimal j ++ r') e).1 in
      (ap unbound (decimal_inj i j w.0), w.1)
  term_inj (unbound i) (built g ts) p q r r' a b e = absurd (begins_not g (arguments_bytes ts ++ r') (decimal i ++ r) (label_word g q.0).1 (sym (append_assoc g (arguments_bytes ts) r') ∙ sym e))
  term_inj (built f ss) (unbound j) p q r r' a b e = absurd (begins_not f (arguments_bytes ss ++ r) (decimal j ++ r') (label_word f p.0).1 (sym (append_assoc f (arguments_bytes ss) r) ∙ e))
  term_inj (built f ss) (built g ts) p q r r' a b e =
      let w = word_split f g (arguments_bytes ss ++ r) (arguments_bytes ts ++ r') (label_word f p.0).0 (label_word g q.0).0 (arguments_behind ss r a) (arguments_behind ts r' b) (sym (append_assoc f (arguments_bytes ss) r) ∙ e ∙ append_assoc g (arguments_bytes ts) r') in
      let v = arguments_inj ss ts p.1 q.1 r r' a b w.1 in
      ((λ i. built (w.0 i) (v.0 i)), v.1)

  arguments_inj : (ss ts : Terms) → SpelledTerms ss → SpelledTerms ts → (r r' : List ℕ) → Stop r → Stop r' → arguments_bytes ss ++ r ≡ arguments_bytes ts ++ r' → (ss ≡ ts) × (r ≡ r')
  arguments_inj no_terms no_terms p q r r' a b e = (refl, e)
  arguments_inj no_terms (more_terms t ts) p q r r' a b e = absurd (not_both r ((term_bytes t ++ rest_bytes ts) ++ r') a e)
  arguments_inj (more_terms s ss) no_terms p q r r' a b e = absurd (not_both r' ((term_bytes s ++ rest_bytes ss) ++ r) b (sym e))
  arguments_inj (more_terms s ss) (more_terms t ts) p q r r' a b e = pair_inj s ss t ts r r' (λ u v c d f. term_inj s t p.0 q.0 u v c d f) (λ u v f. rest_inj ss ts p.1 q.1 u v f) (heads 40 40 ((term_bytes s ++ rest_bytes ss) ++ r) ((term_bytes t ++ rest_bytes ts) ++ r') e).1

  rest_inj : (ss ts : Terms) → SpelledTerms ss → SpelledTerms ts → (r r' : List ℕ) → rest_bytes ss ++ r ≡ rest_bytes ts ++ r' → (ss ≡ ts) × (r ≡ r')
  rest_inj no_terms no_terms p q r r' e = (refl, (heads 41 41 r r' e).1)
  rest_inj no_terms (more_terms t ts) p q r r' e = absurd (differ (heads 41 44 r ((term_bytes t ++ rest_bytes ts) ++ r') e).0)
    where
      differ : ◌≡◌ {A = ℕ} 41 44 → ⊥
      differ z = omega arith
  rest_inj (more_terms s ss) no_terms p q r r' e = absurd (differ (heads 44 41 ((term_bytes s ++ rest_bytes ss) ++ r) r' e).0)
    where
      differ : ◌≡◌ {A = ℕ} 44 41 → ⊥
      differ z = omega arith
  rest_inj (more_terms s ss) (more_terms t ts) p q r r' e = pair_inj s ss t ts r r' (λ u v c d f. term_inj s t p.0 q.0 u v c d f) (λ u v f. rest_inj ss ts p.1 q.1 u v f) (heads 44 44 ((term_bytes s ++ rest_bytes ss) ++ r) ((term_bytes t ++ rest_bytes ts) ++ r') e).1

-- ---------------------------------------------------------------------------------------------
-- Lines, for the same names.

bindings_inj : (xs : List Name) (ss ts : Terms) → AsMany xs ss → AsMany xs ts → SpelledTerms ss → SpelledTerms ts → bindings_bytes xs ss ≡ bindings_bytes xs ts → ss ≡ ts
unfolding bindings_bytes bytes bytes_from
bindings_inj [] no_terms (more_terms t ts) m n p q e = elim n [ ]
bindings_inj [] (more_terms s ss) ts m n p q e = elim m [ ]
bindings_inj (x ∷ []) no_terms ts m n p q e = elim m [ ]
bindings_inj (x ∷ []) (more_terms s no_terms) no_terms m n p q e = elim n [ ]
bindings_inj (x ∷ []) (more_terms s no_terms) (more_terms t (more_terms _ _)) m n p q e = elim n [ ]
bindings_inj (x ∷ []) (more_terms s (more_terms _ _)) ts m n p q e = elim m [ ]
bindings_inj (x ∷ (y ∷ xs)) no_terms ts m n p q e = elim m [ ]
bindings_inj (x ∷ (y ∷ xs)) (more_terms s ss) no_terms m n p q e = elim n [ ]
bindings_inj [] no_terms no_terms m n p q e = refl
bindings_inj (x ∷ []) (more_terms s no_terms) (more_terms t no_terms) m n p q e =
    let w = term_inj s t p.0 q.0 [] [] tt tt (append-nil (term_bytes s) ∙ cancel (x ++ (32 ∷ 61 ∷ 32 ∷ [])) (term_bytes s) (term_bytes t) e ∙ sym (append-nil (term_bytes t))) in
    ap (λ u. more_terms u no_terms) w.0
bindings_inj (x ∷ (y ∷ xs)) (more_terms s ss) (more_terms t ts) m n p q e =
    let d = x ++ (32 ∷ 61 ∷ 32 ∷ []) in
    let c : List ℕ = 44 ∷ 32 ∷ [] in
    let rs = bindings_bytes (y ∷ xs) ss in
    let rt = bindings_bytes (y ∷ xs) ts in
    let w = term_inj s t p.0 q.0 (c ++ rs) (c ++ rt) (inl refl) (inl refl) (cancel d (term_bytes s ++ (c ++ rs)) (term_bytes t ++ (c ++ rt)) (sym (group d (term_bytes s) c rs) ∙ e ∙ group d (term_bytes t) c rt)) in
    let v = bindings_inj (y ∷ xs) ss ts m n p.1 q.1 (cancel c rs rt w.1) in
    λ i. more_terms (w.0 i) (v i)
  where
    group : (a b c d : List ℕ) → ((a ++ b) ++ c) ++ d ≡ a ++ (b ++ (c ++ d))
    group a b c d = append_assoc (a ++ b) c d ∙ append_assoc a b (c ++ d)

-- The bytes of a line determine its terms.
pub line_inj : (xs : List Name) (ss ts : Terms) → AsMany xs ss → AsMany xs ts → SpelledTerms ss → SpelledTerms ts → line_bytes xs ss ≡ line_bytes xs ts → ss ≡ ts
line_inj [] no_terms (more_terms _ _) m n p q e = elim n [ ]
line_inj [] (more_terms _ _) ts m n p q e = elim m [ ]
line_inj [] no_terms no_terms m n p q e = refl
line_inj (x ∷ xs) ss ts m n p q e = bindings_inj (x ∷ xs) ss ts m n p q e
