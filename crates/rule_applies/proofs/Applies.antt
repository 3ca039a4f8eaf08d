-- The rule of a number at a place of the kind that it takes: with the solver's answer, what the shape says is whether it applies.
use mathlib.Core.Path.{◌≡◌, refl, ap, sym, ◌∙◌, subst}
use mathlib.Core.Logic.{inl, inr}
use mathlib.Core.Bool.{Bool, true, false, ◌&&◌}
use mathlib.Core.List.{List}
use mathlib.Core.Option.{Option, some, none}
use Prim.Native.Nat.{ℕ}
use lib.Dec.{T}
use Rattle.constraint.specs.Constraint.{In}
use Rattle.akl.specs.Base.{Name, is_some, size, ◌>>=◌}
use Rattle.akl.specs.Syntax.{Stmt, atom, call, comp, hide, choice, Program, defined}
use Rattle.akl.specs.Configuration as akl
use Rattle.akl.specs.Configuration.{goal, Node, or, and, stmt, choice_box, guard, Ctx, top, in_or, in_and, in_choice, in_guard, Config}
use Rattle.akl.specs.Places.{at}
use Rattle.akl.specs.Table.{Row, rule_row, statement_kind, or_kind, kind_at}
use Rattle.akl.specs.Stability.{fits_row}
use Rattle.akl.specs.Rules.{effect}
use Rattle.accept.proofs.Effects.{rules_of, rule_of}
use Rattle.mem_words.specs.declared.Word.{Word}
use Rattle.rule_effects.specs.Standing.{Stands}
use Rattle.rule_applies.specs.declared.Asks.{Asks}
use Rattle.rule_applies.specs.Asking.{asks_in}
use Rattle.rule_applies.specs.Answers.{verdict, Answers, node_defined}
use Rattle.rule_applies.proofs.Rules.{rule_6_applies, rule_7_applies, rule_8_applies, rule_9_applies, rule_10_applies, rule_11_applies, rule_12_applies, rule_13_applies}

and_true : (b : Bool) → (b && true) ≡ b
and_true true = refl
and_true false = refl

some_then : {A : Type 0} (o : Option A) (f : A → Config) → is_some o ≡ is_some (o >>= λ a. some (f a))
some_then none f = refl
some_then (some a) f = refl

module _ (num : Name → ℕ) (P : Program) (next : ℕ) (Z W : List Word) (i : ℕ) (q : Bool) where
  -- what is to be shown of rule r
  record Applies {k : akl.Kind} (χ : Ctx k) (n : Node k) (r : ℕ) : Type 0 where
    shows : Answers num Z W (asks_in W i r) q → (verdict (asks_in W i r) q && node_defined P n) ≡ is_some (effect P next r (at χ n))

  for_rule : {k : akl.Kind} {χ : Ctx k} {n : Node k} (r j : ℕ) → r ≡ j → Applies χ n j → Applies χ n r
  for_rule {k} {χ} {n} r j e h = subst (Applies χ n) (sym e) h

  statement_applies : (χ : Ctx goal) (vs : _) (σ : _) (l r : _) (s : Stmt) (j : ℕ) → In j (rules_of (statement_kind s)) → Applies (in_and χ vs σ l r) (stmt s) j
  unfolding asks_in effect node_defined rules_of statement_kind
  statement_applies χ vs σ l r (atom c) j (inr i) = elim i [ ]
  statement_applies χ vs σ l r (call p xs) j (inr i) = elim i [ ]
  statement_applies χ vs σ l r (comp a b) j (inr i) = elim i [ ]
  statement_applies χ vs σ l r (hide n a) j (inr i) = elim i [ ]
  statement_applies χ vs σ l r (choice op cs) j (inr i) = elim i [ ]
  statement_applies χ vs σ l r (atom c) j (inl e) = for_rule j 1 e (record { shows = λ h. refl })
  statement_applies χ vs σ l r (call p xs) j (inl e) = for_rule j 2 e (record { shows = λ h. some_then (defined P p (size xs)) _ })
  statement_applies χ vs σ l r (comp a b) j (inl e) = for_rule j 3 e (record { shows = λ h. refl })
  statement_applies χ vs σ l r (hide n a) j (inl e) = for_rule j 4 e (record { shows = λ h. refl })
  statement_applies χ vs σ l r (choice op cs) j (inl e) = for_rule j 5 e (record { shows = λ h. refl })

  or_applies : (χ : Ctx goal) (ns : _) (j : ℕ) → In j (rules_of (or_kind χ)) → Applies χ (or ns) j
  unfolding asks_in effect node_defined rules_of or_kind
  or_applies top ns j m = absurd m
  or_applies (in_or χ l r) ns j (inr i) = elim i [ ]
  or_applies (in_or χ l r) ns j (inl e) = for_rule j 14 e (record { shows = λ h. refl })
  or_applies (in_guard χ b) ns j m = absurd m

  listed : {k : akl.Kind} (χ : Ctx k) (n : Node k) (j : ℕ) → Stands num χ n Z W i → In j (rules_of (kind_at (at χ n))) → Applies χ n j
  unfolding asks_in effect node_defined rules_of kind_at
  listed (in_and χ vs σ l r) (stmt x) j s m = statement_applies χ vs σ l r x j m
  listed (in_and χ vs σ l r) (choice_box op gs) j s (inl e) = for_rule j 6 e (record { shows = λ h. and_true _ ∙ rule_6_applies num next i q gs s h })
  listed (in_and χ vs σ l r) (choice_box op gs) j s (inr (inl e)) = for_rule j 10 e (record { shows = λ h. and_true _ ∙ rule_10_applies num next i q s })
  listed (in_and χ vs σ l r) (choice_box op gs) j s (inr (inr (inl e))) = for_rule j 12 e (record { shows = λ h. and_true _ ∙ rule_12_applies num next i q gs s })
  listed (in_choice χ op l r) (guard g b) j s (inl e) = for_rule j 7 e (record { shows = λ h. and_true _ ∙ rule_7_applies num next i q s h })
  listed (in_choice χ op l r) (guard g b) j s (inr (inl e)) = for_rule j 8 e (record { shows = λ h. and_true _ ∙ rule_8_applies num next i q s h })
  listed (in_choice χ op l r) (guard g b) j s (inr (inr (inl e))) = for_rule j 11 e (record { shows = λ h. and_true _ ∙ rule_11_applies num next i q s })
  listed (in_choice χ op l r) (guard g b) j s (inr (inr (inr (inl e)))) = for_rule j 13 e (record { shows = λ h. and_true _ ∙ rule_13_applies num next i q g s })
  listed χ (and vs σ ms) j s (inr i) = elim i [ ]
  listed (in_and χ vs σ l r) (choice_box op gs) j s (inr (inr (inr i))) = elim i [ ]
  listed (in_choice χ op l r) (guard g b) j s (inr (inr (inr (inr i)))) = elim i [ ]
  listed χ (and vs σ ms) j s (inl e) = for_rule j 9 e (record { shows = λ h. and_true _ ∙ rule_9_applies num next i q s h })
  listed χ (or ns) j s m = or_applies χ ns j m

  -- The rule r, of row w, at the place at i: it applies as the answer to what it asks says, a program atom if it is defined.
  pub applies_words : {k : akl.Kind} {χ : Ctx k} {n : Node k} (r : ℕ) (w : Row) → Stands num χ n Z W i → rule_row r ≡ some w → T (fits_row w (at χ n)) → Answers num Z W (asks_in W i r) q
      → (verdict (asks_in W i r) q && node_defined P n) ≡ is_some (effect P next r (at χ n))
  applies_words {k} {χ} {n} r w s e f = (listed χ n r s (rule_of (kind_at (at χ n)) r w e f)).shows

  -- The same by what was found to be asked, where the atom is defined: for `Quiet g` the answer itself is the verdict.
  pub applies_by : {k : akl.Kind} {χ : Ctx k} {n : Node k} (r : ℕ) (w : Row) (a : Asks) → Stands num χ n Z W i → rule_row r ≡ some w → T (fits_row w (at χ n)) → a ≡ asks_in W i r → Answers num Z W a q → node_defined P n ≡ true
      → verdict a q ≡ is_some (effect P next r (at χ n))
  applies_by {k} {χ} {n} r w a s e f g h d =
      ap (λ (x : Asks). verdict x q) g ∙ sym (and_true (verdict (asks_in W i r) q)) ∙ ap (λ (b : Bool). verdict (asks_in W i r) q && b) (sym d)
      ∙ applies_words r w s e f (subst (λ (x : Asks). Answers num Z W x q) g h)
