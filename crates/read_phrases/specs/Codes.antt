-- Tokens as numbers: the kind in the low byte, the number of the name above it. What a number spells is a parameter.
use Rattle.std.specs.Prelude.{◌≡◌, refl, List, [], ◌∷◌, map, true, false, ℕ, zero, suc, ◌+◌, ◌/◌, ◌%◌, ◌≤◌, ◌<◌, eqb, length, get_or, drop}
use Rattle.std.proofs.Common.{ap, sym, ◌∙◌, subst, arith, add-one, drop_of_length-le, drop-cons, ne_eqb}
use Rattle.std.proofs.Math.Option.{some, none}
use Rattle.std.proofs.Math.Decide.{dec_lt}
use Rattle.std.proofs.Math.ListN.{get_or-eq_default}
use Rattle.akl.specs.Base.{Name, when, if}
use Rattle.akl.specs.Syntax.{Op, wait, cond, commit}
use Rattle.akl.specs.Token.{Token, name, digits, variable, sign, Mark, open_bracket, close_bracket, comma, full_stop, colon, defines, equals, semicolon, operator}
use Rattle.akl.specs.Parse.{mark_number, after, an_operator, a_variable, a_name, a_label}

-- the token of a kind, with its spelling; marks have the kinds from 3 on, in the order of their numbers
abbrev pub kinded : ℕ → Name → Token
kinded zero w = name w
kinded (suc zero) w = digits w
kinded (suc (suc zero)) w = variable w
kinded (suc (suc (suc zero))) w = sign open_bracket
kinded (suc (suc (suc (suc zero)))) w = sign close_bracket
kinded (suc (suc (suc (suc (suc zero))))) w = sign comma
kinded (suc (suc (suc (suc (suc (suc zero)))))) w = sign full_stop
kinded (suc (suc (suc (suc (suc (suc (suc zero))))))) w = sign colon
kinded (suc (suc (suc (suc (suc (suc (suc (suc zero)))))))) w = sign defines
kinded (suc (suc (suc (suc (suc (suc (suc (suc (suc zero))))))))) w = sign equals
kinded (suc (suc (suc (suc (suc (suc (suc (suc (suc (suc zero)))))))))) w = sign semicolon
kinded (suc (suc (suc (suc (suc (suc (suc (suc (suc (suc (suc zero))))))))))) w = sign (operator wait)
kinded (suc (suc (suc (suc (suc (suc (suc (suc (suc (suc (suc (suc zero)))))))))))) w = sign (operator cond)
kinded (suc (suc (suc (suc (suc (suc (suc (suc (suc (suc (suc (suc (suc zero))))))))))))) w = sign (operator commit)
kinded (suc (suc (suc (suc (suc (suc (suc (suc (suc (suc (suc (suc (suc (suc k)))))))))))))) w = digits w

-- the operator of a kind
abbrev pub op_of : ℕ → Op
op_of k = if (eqb k 11) wait (if (eqb k 12) cond commit)

-- the token of a code
unfoldable pub tok : (ℕ → Name) → ℕ → Token
tok w c = kinded (c % 256) (w (c / 256))

-- the tokens from i on
unfoldable pub toks : (ℕ → Name) → List ℕ → ℕ → List Token
toks w L i = map (tok w) (drop i L)

-- the kind and the name's number at i; past the end the kind is 255
unfoldable pub kind_at : List ℕ → ℕ → ℕ
kind_at L i = get_or L i 255 % 256

unfoldable pub number_at : List ℕ → ℕ → ℕ
number_at L i = get_or L i 255 / 256

-- every code is that of a token
pub record Known (L : List ℕ) : Type 0 where
  pub kinds : (i : ℕ) → i < length L → kind_at L i < 14

-- ---------------------------------------------------------------------------------------------
-- What the kind at i says of the tokens from i on.

toks_past : (w : ℕ → Name) (L : List ℕ) (i : ℕ) → length L ≤ i → toks w L i ≡ []
unfolding toks
toks_past w L i h = ap (map (tok w)) (drop_of_length-le L h)

toks_here : (w : ℕ → Name) (L : List ℕ) (i : ℕ) → i < length L → toks w L i ≡ kinded (kind_at L i) (w (number_at L i)) ∷ toks w L (i + 1)
unfolding toks tok kind_at number_at
toks_here w L i h = ap (map (tok w)) (drop-cons L i 255 h) ∙ ap (λ (n : ℕ). kinded (get_or L i 255 % 256) (w (get_or L i 255 / 256)) ∷ map (tok w) (drop n L)) (sym (add-one i))

pub kind_inside : (L : List ℕ) (i : ℕ) → kind_at L i < 255 → i < length L
unfolding kind_at
kind_inside L i h = go (dec_lt i (length L))
  where
    go : Dec (i < length L) → i < length L
    go (yes l) = l
    go (no n) =
        let e : get_or L i 255 ≡ 255 = get_or-eq_default L 255 (omega arith) in
        absurd (omega arith)

after_kind : (m : Mark) (w : Name) (ts : List Token) → after m (kinded (mark_number m + 3) w ∷ ts) ≡ some ts
after_kind open_bracket w ts = refl
after_kind close_bracket w ts = refl
after_kind comma w ts = refl
after_kind full_stop w ts = refl
after_kind colon w ts = refl
after_kind defines w ts = refl
after_kind equals w ts = refl
after_kind semicolon w ts = refl
after_kind (operator wait) w ts = refl
after_kind (operator cond) w ts = refl
after_kind (operator commit) w ts = refl

other_mark : (m k : Mark) (ts : List Token) → (mark_number k + 3 ≡ mark_number m + 3 → ⊥) → after m (sign k ∷ ts) ≡ none
other_mark m k ts h = ap (λ b. when b ts) (ne_eqb (mark_number m) (mark_number k) (λ e. h (ap (λ (n : ℕ). n + 3) (sym e))))

after_other : (m : Mark) (k : ℕ) (w : Name) (ts : List Token) → (k ≡ mark_number m + 3 → ⊥) → after m (kinded k w ∷ ts) ≡ none
after_other m zero w ts h = refl
after_other m (suc zero) w ts h = refl
after_other m (suc (suc zero)) w ts h = refl
after_other m (suc (suc (suc zero))) w ts h = other_mark m open_bracket ts h
after_other m (suc (suc (suc (suc zero)))) w ts h = other_mark m close_bracket ts h
after_other m (suc (suc (suc (suc (suc zero))))) w ts h = other_mark m comma ts h
after_other m (suc (suc (suc (suc (suc (suc zero)))))) w ts h = other_mark m full_stop ts h
after_other m (suc (suc (suc (suc (suc (suc (suc zero))))))) w ts h = other_mark m colon ts h
after_other m (suc (suc (suc (suc (suc (suc (suc (suc zero)))))))) w ts h = other_mark m defines ts h
after_other m (suc (suc (suc (suc (suc (suc (suc (suc (suc zero))))))))) w ts h = other_mark m equals ts h
after_other m (suc (suc (suc (suc (suc (suc (suc (suc (suc (suc zero)))))))))) w ts h = other_mark m semicolon ts h
after_other m (suc (suc (suc (suc (suc (suc (suc (suc (suc (suc (suc zero))))))))))) w ts h = other_mark m (operator wait) ts h
after_other m (suc (suc (suc (suc (suc (suc (suc (suc (suc (suc (suc (suc zero)))))))))))) w ts h = other_mark m (operator cond) ts h
after_other m (suc (suc (suc (suc (suc (suc (suc (suc (suc (suc (suc (suc (suc zero))))))))))))) w ts h = other_mark m (operator commit) ts h
after_other m (suc (suc (suc (suc (suc (suc (suc (suc (suc (suc (suc (suc (suc (suc k)))))))))))))) w ts h = refl

other_variable : (k : ℕ) (w : Name) (ts : List Token) → (k ≡ 2 → ⊥) → a_variable (kinded k w ∷ ts) ≡ none
other_variable zero w ts h = refl
other_variable (suc zero) w ts h = refl
other_variable (suc (suc zero)) w ts h = absurd (h refl)
other_variable (suc (suc (suc zero))) w ts h = refl
other_variable (suc (suc (suc (suc zero)))) w ts h = refl
other_variable (suc (suc (suc (suc (suc zero))))) w ts h = refl
other_variable (suc (suc (suc (suc (suc (suc zero)))))) w ts h = refl
other_variable (suc (suc (suc (suc (suc (suc (suc zero))))))) w ts h = refl
other_variable (suc (suc (suc (suc (suc (suc (suc (suc zero)))))))) w ts h = refl
other_variable (suc (suc (suc (suc (suc (suc (suc (suc (suc zero))))))))) w ts h = refl
other_variable (suc (suc (suc (suc (suc (suc (suc (suc (suc (suc zero)))))))))) w ts h = refl
other_variable (suc (suc (suc (suc (suc (suc (suc (suc (suc (suc (suc zero))))))))))) w ts h = refl
other_variable (suc (suc (suc (suc (suc (suc (suc (suc (suc (suc (suc (suc zero)))))))))))) w ts h = refl
other_variable (suc (suc (suc (suc (suc (suc (suc (suc (suc (suc (suc (suc (suc zero))))))))))))) w ts h = refl
other_variable (suc (suc (suc (suc (suc (suc (suc (suc (suc (suc (suc (suc (suc (suc k)))))))))))))) w ts h = refl

other_name : (k : ℕ) (w : Name) (ts : List Token) → (k ≡ 0 → ⊥) → a_name (kinded k w ∷ ts) ≡ none
other_name zero w ts h = absurd (h refl)
other_name (suc zero) w ts h = refl
other_name (suc (suc zero)) w ts h = refl
other_name (suc (suc (suc zero))) w ts h = refl
other_name (suc (suc (suc (suc zero)))) w ts h = refl
other_name (suc (suc (suc (suc (suc zero))))) w ts h = refl
other_name (suc (suc (suc (suc (suc (suc zero)))))) w ts h = refl
other_name (suc (suc (suc (suc (suc (suc (suc zero))))))) w ts h = refl
other_name (suc (suc (suc (suc (suc (suc (suc (suc zero)))))))) w ts h = refl
other_name (suc (suc (suc (suc (suc (suc (suc (suc (suc zero))))))))) w ts h = refl
other_name (suc (suc (suc (suc (suc (suc (suc (suc (suc (suc zero)))))))))) w ts h = refl
other_name (suc (suc (suc (suc (suc (suc (suc (suc (suc (suc (suc zero))))))))))) w ts h = refl
other_name (suc (suc (suc (suc (suc (suc (suc (suc (suc (suc (suc (suc zero)))))))))))) w ts h = refl
other_name (suc (suc (suc (suc (suc (suc (suc (suc (suc (suc (suc (suc (suc zero))))))))))))) w ts h = refl
other_name (suc (suc (suc (suc (suc (suc (suc (suc (suc (suc (suc (suc (suc (suc k)))))))))))))) w ts h = refl

label_kind : (k : ℕ) (w : Name) (ts : List Token) → k < 2 → a_label (kinded k w ∷ ts) ≡ some (w, ts)
label_kind zero w ts h = refl
label_kind (suc zero) w ts h = refl
label_kind (suc (suc k)) w ts h = absurd (omega arith)

other_label : (k : ℕ) (w : Name) (ts : List Token) → 2 ≤ k → k < 14 → a_label (kinded k w ∷ ts) ≡ none
other_label zero w ts a b = absurd (omega arith)
other_label (suc zero) w ts a b = absurd (omega arith)
other_label (suc (suc zero)) w ts a b = refl
other_label (suc (suc (suc zero))) w ts a b = refl
other_label (suc (suc (suc (suc zero)))) w ts a b = refl
other_label (suc (suc (suc (suc (suc zero))))) w ts a b = refl
other_label (suc (suc (suc (suc (suc (suc zero)))))) w ts a b = refl
other_label (suc (suc (suc (suc (suc (suc (suc zero))))))) w ts a b = refl
other_label (suc (suc (suc (suc (suc (suc (suc (suc zero)))))))) w ts a b = refl
other_label (suc (suc (suc (suc (suc (suc (suc (suc (suc zero))))))))) w ts a b = refl
other_label (suc (suc (suc (suc (suc (suc (suc (suc (suc (suc zero)))))))))) w ts a b = refl
other_label (suc (suc (suc (suc (suc (suc (suc (suc (suc (suc (suc zero))))))))))) w ts a b = refl
other_label (suc (suc (suc (suc (suc (suc (suc (suc (suc (suc (suc (suc zero)))))))))))) w ts a b = refl
other_label (suc (suc (suc (suc (suc (suc (suc (suc (suc (suc (suc (suc (suc zero))))))))))))) w ts a b = refl
other_label (suc (suc (suc (suc (suc (suc (suc (suc (suc (suc (suc (suc (suc (suc k)))))))))))))) w ts a b = absurd (omega arith)

operator_kind : (k : ℕ) (w : Name) (ts : List Token) → 11 ≤ k → k < 14 → (op : Op) × (an_operator (kinded k w ∷ ts) ≡ some (op, ts))
operator_kind zero w ts a b = absurd (omega arith)
operator_kind (suc zero) w ts a b = absurd (omega arith)
operator_kind (suc (suc zero)) w ts a b = absurd (omega arith)
operator_kind (suc (suc (suc zero))) w ts a b = absurd (omega arith)
operator_kind (suc (suc (suc (suc zero)))) w ts a b = absurd (omega arith)
operator_kind (suc (suc (suc (suc (suc zero))))) w ts a b = absurd (omega arith)
operator_kind (suc (suc (suc (suc (suc (suc zero)))))) w ts a b = absurd (omega arith)
operator_kind (suc (suc (suc (suc (suc (suc (suc zero))))))) w ts a b = absurd (omega arith)
operator_kind (suc (suc (suc (suc (suc (suc (suc (suc zero)))))))) w ts a b = absurd (omega arith)
operator_kind (suc (suc (suc (suc (suc (suc (suc (suc (suc zero))))))))) w ts a b = absurd (omega arith)
operator_kind (suc (suc (suc (suc (suc (suc (suc (suc (suc (suc zero)))))))))) w ts a b = absurd (omega arith)
operator_kind (suc (suc (suc (suc (suc (suc (suc (suc (suc (suc (suc zero))))))))))) w ts a b = (wait, refl)
operator_kind (suc (suc (suc (suc (suc (suc (suc (suc (suc (suc (suc (suc zero)))))))))))) w ts a b = (cond, refl)
operator_kind (suc (suc (suc (suc (suc (suc (suc (suc (suc (suc (suc (suc (suc zero))))))))))))) w ts a b = (commit, refl)
operator_kind (suc (suc (suc (suc (suc (suc (suc (suc (suc (suc (suc (suc (suc (suc k)))))))))))))) w ts a b = absurd (omega arith)

operator_of_kind : (k : ℕ) (w : Name) (ts : List Token) → 11 ≤ k → k < 14 → an_operator (kinded k w ∷ ts) ≡ some (op_of k, ts)
operator_of_kind zero w ts a b = absurd (omega arith)
operator_of_kind (suc zero) w ts a b = absurd (omega arith)
operator_of_kind (suc (suc zero)) w ts a b = absurd (omega arith)
operator_of_kind (suc (suc (suc zero))) w ts a b = absurd (omega arith)
operator_of_kind (suc (suc (suc (suc zero)))) w ts a b = absurd (omega arith)
operator_of_kind (suc (suc (suc (suc (suc zero))))) w ts a b = absurd (omega arith)
operator_of_kind (suc (suc (suc (suc (suc (suc zero)))))) w ts a b = absurd (omega arith)
operator_of_kind (suc (suc (suc (suc (suc (suc (suc zero))))))) w ts a b = absurd (omega arith)
operator_of_kind (suc (suc (suc (suc (suc (suc (suc (suc zero)))))))) w ts a b = absurd (omega arith)
operator_of_kind (suc (suc (suc (suc (suc (suc (suc (suc (suc zero))))))))) w ts a b = absurd (omega arith)
operator_of_kind (suc (suc (suc (suc (suc (suc (suc (suc (suc (suc zero)))))))))) w ts a b = absurd (omega arith)
operator_of_kind (suc (suc (suc (suc (suc (suc (suc (suc (suc (suc (suc zero))))))))))) w ts a b = refl
operator_of_kind (suc (suc (suc (suc (suc (suc (suc (suc (suc (suc (suc (suc zero)))))))))))) w ts a b = refl
operator_of_kind (suc (suc (suc (suc (suc (suc (suc (suc (suc (suc (suc (suc (suc zero))))))))))))) w ts a b = refl
operator_of_kind (suc (suc (suc (suc (suc (suc (suc (suc (suc (suc (suc (suc (suc (suc k)))))))))))))) w ts a b = absurd (omega arith)

other_operator : (k : ℕ) (w : Name) (ts : List Token) → (11 ≤ k → k < 14 → ⊥) → an_operator (kinded k w ∷ ts) ≡ none
other_operator zero w ts h = refl
other_operator (suc zero) w ts h = refl
other_operator (suc (suc zero)) w ts h = refl
other_operator (suc (suc (suc zero))) w ts h = refl
other_operator (suc (suc (suc (suc zero)))) w ts h = refl
other_operator (suc (suc (suc (suc (suc zero))))) w ts h = refl
other_operator (suc (suc (suc (suc (suc (suc zero)))))) w ts h = refl
other_operator (suc (suc (suc (suc (suc (suc (suc zero))))))) w ts h = refl
other_operator (suc (suc (suc (suc (suc (suc (suc (suc zero)))))))) w ts h = refl
other_operator (suc (suc (suc (suc (suc (suc (suc (suc (suc zero))))))))) w ts h = refl
other_operator (suc (suc (suc (suc (suc (suc (suc (suc (suc (suc zero)))))))))) w ts h = refl
other_operator (suc (suc (suc (suc (suc (suc (suc (suc (suc (suc (suc zero))))))))))) w ts h = absurd (h (omega arith) (omega arith))
other_operator (suc (suc (suc (suc (suc (suc (suc (suc (suc (suc (suc (suc zero)))))))))))) w ts h = absurd (h (omega arith) (omega arith))
other_operator (suc (suc (suc (suc (suc (suc (suc (suc (suc (suc (suc (suc (suc zero))))))))))))) w ts h = absurd (h (omega arith) (omega arith))
other_operator (suc (suc (suc (suc (suc (suc (suc (suc (suc (suc (suc (suc (suc (suc k)))))))))))))) w ts h = refl

small_mark : (m : Mark) → mark_number m + 3 < 255
small_mark open_bracket = omega arith
small_mark close_bracket = omega arith
small_mark comma = omega arith
small_mark full_stop = omega arith
small_mark colon = omega arith
small_mark defines = omega arith
small_mark equals = omega arith
small_mark semicolon = omega arith
small_mark (operator wait) = omega arith
small_mark (operator cond) = omega arith
small_mark (operator commit) = omega arith

module _ (w : ℕ → Name) (L : List ℕ) (i : ℕ) where
  -- a fact of any first token of a kind and of no tokens is one of the tokens from i on
  here : (P : List Token → Type 0) → ((v : Name) (ts : List Token) → P (kinded (kind_at L i) v ∷ ts)) → P [] → P (toks w L i)
  here P h z = go (dec_lt i (length L))
    where
      go : Dec (i < length L) → P (toks w L i)
      go (yes l) = subst P (sym (toks_here w L i l)) (h (w (number_at L i)) (toks w L (i + 1)))
      go (no n) = subst P (sym (toks_past w L i (omega arith))) z

  pub mark_here : (m : Mark) → kind_at L i ≡ mark_number m + 3 → after m (toks w L i) ≡ some (toks w L (i + 1))
  mark_here m e =
      let b = small_mark m in
      ap (after m) (toks_here w L i (kind_inside L i (omega arith))) ∙ ap (λ (k : ℕ). after m (kinded k (w (number_at L i)) ∷ toks w L (i + 1))) e ∙ after_kind m (w (number_at L i)) (toks w L (i + 1))

  pub mark_not : (m : Mark) → (kind_at L i ≡ mark_number m + 3 → ⊥) → after m (toks w L i) ≡ none
  mark_not m h = here (λ ts. after m ts ≡ none) (λ v ts. after_other m (kind_at L i) v ts h) refl

  pub variable_here : kind_at L i ≡ 2 → a_variable (toks w L i) ≡ some (w (number_at L i), toks w L (i + 1))
  variable_here e = ap a_variable (toks_here w L i (kind_inside L i (omega arith))) ∙ ap (λ (k : ℕ). a_variable (kinded k (w (number_at L i)) ∷ toks w L (i + 1))) e

  pub variable_not : (kind_at L i ≡ 2 → ⊥) → a_variable (toks w L i) ≡ none
  variable_not h = here (λ ts. a_variable ts ≡ none) (λ v ts. other_variable (kind_at L i) v ts h) refl

  pub name_here : kind_at L i ≡ 0 → a_name (toks w L i) ≡ some (w (number_at L i), toks w L (i + 1))
  name_here e = ap a_name (toks_here w L i (kind_inside L i (omega arith))) ∙ ap (λ (k : ℕ). a_name (kinded k (w (number_at L i)) ∷ toks w L (i + 1))) e

  pub name_not : (kind_at L i ≡ 0 → ⊥) → a_name (toks w L i) ≡ none
  name_not h = here (λ ts. a_name ts ≡ none) (λ v ts. other_name (kind_at L i) v ts h) refl

  pub label_here : kind_at L i < 2 → a_label (toks w L i) ≡ some (w (number_at L i), toks w L (i + 1))
  label_here e = ap a_label (toks_here w L i (kind_inside L i (omega arith))) ∙ label_kind (kind_at L i) (w (number_at L i)) (toks w L (i + 1)) e

  pub label_not : Known L → 2 ≤ kind_at L i → a_label (toks w L i) ≡ none
  label_not h g = go (dec_lt i (length L))
    where
      go : Dec (i < length L) → a_label (toks w L i) ≡ none
      go (yes l) = ap a_label (toks_here w L i l) ∙ other_label (kind_at L i) (w (number_at L i)) (toks w L (i + 1)) g (h.kinds i l)
      go (no n) = ap a_label (toks_past w L i (omega arith))

  pub operator_here : 11 ≤ kind_at L i → kind_at L i < 14 → (op : Op) × (an_operator (toks w L i) ≡ some (op, toks w L (i + 1)))
  operator_here a b =
      let q = operator_kind (kind_at L i) (w (number_at L i)) (toks w L (i + 1)) a b in
      (q.0, ap an_operator (toks_here w L i (kind_inside L i (omega arith))) ∙ q.1)

  -- which operator it is
  pub operator_is : 11 ≤ kind_at L i → kind_at L i < 14 → an_operator (toks w L i) ≡ some (op_of (kind_at L i), toks w L (i + 1))
  operator_is a b = ap an_operator (toks_here w L i (kind_inside L i (omega arith))) ∙ operator_of_kind (kind_at L i) (w (number_at L i)) (toks w L (i + 1)) a b

  pub operator_not : (11 ≤ kind_at L i → kind_at L i < 14 → ⊥) → an_operator (toks w L i) ≡ none
  operator_not h = here (λ ts. an_operator ts ≡ none) (λ v ts. other_operator (kind_at L i) v ts h) refl

  pub toks_none : length L ≤ i → toks w L i ≡ []
  toks_none h = toks_past w L i h

  pub toks_some : i < length L → (t : Token) × (toks w L i ≡ t ∷ toks w L (i + 1))
  toks_some h = (kinded (kind_at L i) (w (number_at L i)), toks_here w L i h)
