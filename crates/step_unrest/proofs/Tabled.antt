-- What moves at a place, by the table of the rules.
use mathlib.Core.Path.{◌≡◌, refl, ap, ap₂, sym, ◌∙◌, subst}
use mathlib.Core.Bool.{Bool, true, false, cond, ◌&&◌, ◌||◌}
use mathlib.Core.Logic.{◌⊎◌, inl, inr}
use mathlib.Core.List.{List, [], ◌∷◌}
use mathlib.Core.Option.{Option, some, none}
use Prim.Native.Nat.{ℕ, zero, suc, ◌+◌, ◌≤◌}
use native.Mathlib.Omega.{arith}
use lib.Dec.{eqb}
use borrow.Author.Tests.{eq-eqb, ne_eqb}
use Rattle.akl.specs.Base.{nth, any, range}
use Rattle.akl.specs.Table as akl_table
use Rattle.akl.specs.Table.{rule_row, takes_number}
use Rattle.akl.specs.Stability.{is_determinate}
use Rattle.mem_words.specs.declared.Word.{Word}
use Rattle.mem_sorts.specs.declared.Kind.TheVariants.{Wait, Cond, Commit}
use Rattle.rule_table.specs.declared.Takes.{Takes}
use Rattle.rule_table.specs.declared.Mode.{Mode}
use Rattle.rule_table.specs.declared.Mode.TheVariants.{Determinate, Nondeterminate}
use Rattle.rule_table.specs.declared.Rewrites.{Rewrites}
use Rattle.rule_table.specs.declared.Row.TheVariants.{Absent, Rule}
use Rattle.rule_table.specs.Rows.{takes_no, mode_in, row_in, takes_numbered}
use Rattle.rule_table.proofs.Table.{row_found, row_absent}
use Rattle.rule_words.specs.Scans.{around}
use Rattle.rule_effects.specs.Conditions as shapes
use Rattle.rule_effects.specs.Conditions.{ends_at, solved_at, failure_at, parts_at, right_at, left_at, one_at}
use Rattle.rule_kinds.specs.Kinds.{takes_in}
use Rattle.rule_applies.specs.declared.Asks.{Asks}
use Rattle.rule_applies.specs.declared.Asks.TheVariants.{Never, Always, Quiet}
use Rattle.rule_applies.specs.Asking.{only_if, asks_6, asks_7, asks_8, asks_10, asks_11, asks_13, asks_in}
use Rattle.step_unrest.specs.Disturbing.{ByShape, is_always, row_moves, moves_by}
use Rattle.step_unrest.proofs.Placing.{below_ten}
use Rattle.step_unrest.proofs.Rows.{determinate_is, nondeterminate_is}
use Rattle.step_unrest.proofs.Moving.{waiting, not_waiting, unsolved, or_true, shape_no_place, shape_and_box, shape_or_box, shape_at_once, shape_empty, shape_promoted, shape_unsolved, shape_asked, shape_failed, shape_parts}

-- ---------------------------------------------------------------------------------------------
-- One rule.

module _ (W : List Word) (j r : ℕ) where
  pub absent_rests : Absent ≡ row_in (rule_row r) → false ≡ moves_by W j r
  unfolding moves_by
  absent_rests e = sym (ap (row_moves (takes_in W j) (asks_in W j r)) (row_absent (rule_row r) e))

  module _ (t : Takes) (u : Mode) (v : Rewrites) (e : Rule t u v ≡ row_in (rule_row r)) where
    row_is : (a b c : Bool) → ((w : akl_table.Row) → u ≡ mode_in w.mode → is_determinate w.mode ≡ a) → eqb (takes_no t) (takes_in W j) ≡ b → is_always (asks_in W j r) ≡ c → (a && b && c) ≡ moves_by W j r
    unfolding moves_by
    row_is a b c h f g =
        let w = row_found (rule_row r) t u v e in
        sym (ap (row_moves (takes_in W j) (asks_in W j r)) w.is
        ∙ ap₂ ◌&&◌ (ap₂ ◌&&◌ (h w.found w.mode) (ap (λ (n : ℕ). eqb n (takes_in W j)) (sym (takes_numbered w.found.takes) ∙ ap takes_no (sym w.takes)) ∙ f)) g)

    pub nondeterminate_rests : u ≡ Nondeterminate → false ≡ moves_by W j r
    nondeterminate_rests h = row_is false _ _ (λ w m. nondeterminate_is w.mode (sym h ∙ m)) refl refl

    module _ (h : u ≡ Determinate) (k c : ℕ) (ek : k ≡ takes_in W j) (ec : c ≡ takes_no t) where
      -- another kind of place
      pub other_rests : (c ≡ k → ⊥) → false ≡ moves_by W j r
      other_rests n = row_is true false _ (λ w m. determinate_is w.mode (sym h ∙ m)) (ap₂ eqb (sym ec) (sym ek) ∙ ne_eqb c k n) refl

      -- what it asks decides
      pub asked_moves : (b : Bool) → c ≡ k → b ≡ is_always (asks_in W j r) → b ≡ moves_by W j r
      asked_moves b s x = row_is true true b (λ w m. determinate_is w.mode (sym h ∙ m)) (ap₂ eqb (sym ec) (sym ek) ∙ eq-eqb c k s) (sym x)

-- ---------------------------------------------------------------------------------------------
-- Whether a rule applies without a question to the solver.

quiet_asked : (a b c : Bool) (q : ℕ) → is_always (only_if a (only_if b (only_if c (Quiet q)))) ≡ false
unfolding only_if
quiet_asked true true true q = refl
quiet_asked true true false q = refl
quiet_asked true false c q = refl
quiet_asked false b c q = refl

module _ (W : List Word) (j : ℕ) where
  -- rule 6: with `?`, solved, and the only one
  pub six_waits : (a b c : Bool) → a ≡ shapes.kind_at W j Wait → a ≡ true → b ≡ solved_at W (j + 2) → b ≡ true → c ≡ one_at W j → c ≡ is_always (asks_6 W j)
  unfolding asks_6
  six_waits a b c ea za eb zb ec = go c ∙ ap (λ (x : Bool). is_always (cond x Always Never)) ec ∙ ap is_always (waiting (one_at W j) (solved_at W (j + 2)) (shapes.kind_at W j Wait) (j + 2) (sym eb ∙ zb) (sym ea ∙ za))
    where
      go : (x : Bool) → x ≡ is_always (cond x Always Never)
      go true = refl
      go false = refl

  pub six_unsolved : (b : Bool) → b ≡ solved_at W (j + 2) → b ≡ false → false ≡ is_always (asks_6 W j)
  unfolding asks_6
  six_unsolved b eb zb = ap is_always (unsolved (one_at W j) (solved_at W (j + 2)) (cond (shapes.kind_at W j Wait) Always (Quiet (j + 2))) (sym eb ∙ zb))

  pub six_asks : (a : Bool) → a ≡ shapes.kind_at W j Wait → a ≡ false → false ≡ is_always (asks_6 W j)
  unfolding asks_6
  six_asks a ea za = go (asks_6 W j) (not_waiting (one_at W j) (solved_at W (j + 2)) (shapes.kind_at W j Wait) (j + 2) (sym ea ∙ za))
    where
      go : (x : Asks) → (Never ≡ x) ⊎ (Quiet (j + 2) ≡ x) → false ≡ is_always x
      go x (inl e) = ap is_always e
      go x (inr e) = ap is_always e

  pub by_six : (r : ℕ) (b : Bool) → r ≡ 6 → b ≡ is_always (asks_6 W j) → b ≡ is_always (asks_in W j r)
  unfolding asks_in
  by_six r b e f = f ∙ ap (λ (n : ℕ). is_always (asks_in W j n)) (sym e)

  -- rules 7 and 8 ask
  pub by_seven : (r : ℕ) → r ≡ 7 → false ≡ is_always (asks_in W j r)
  unfolding asks_in asks_7
  by_seven r e = sym (quiet_asked (shapes.kind_at W (around W j) Cond) (solved_at W (j + 1)) (right_at W j) (j + 1)) ∙ ap (λ (n : ℕ). is_always (asks_in W j n)) (sym e)

  pub by_eight : (r : ℕ) → r ≡ 8 → false ≡ is_always (asks_in W j r)
  unfolding asks_in asks_8
  by_eight r e = sym (quiet_asked (shapes.kind_at W (around W j) Commit) (solved_at W (j + 1)) (left_at W j || right_at W j) (j + 1)) ∙ ap (λ (n : ℕ). is_always (asks_in W j n)) (sym e)

  pub by_asking : (r : ℕ) (a : Asks) → a ≡ asks_in W j r → is_always a ≡ is_always (asks_in W j r)
  by_asking r a e = ap is_always e

-- ---------------------------------------------------------------------------------------------
-- All of them, by the number K of the place's kind.

abbrev pub any_moves : List Word → ℕ → ℕ → Bool
any_moves W j K = any (λ r. row_moves K (asks_in W j r) (rule_row r)) (range 1 14)

module _ (W : List Word) (j K : ℕ) (e : K ≡ takes_in W j) where
  -- a choice-box: rules 6 and 10
  by_6_10 : K ≡ 5 → (a b c d : Bool) → a ≡ ends_at W (j + 1) → b ≡ shapes.kind_at W j Wait → c ≡ solved_at W (j + 2) → d ≡ one_at W j → ByShape W j (is_always (only_if d (only_if c (cond b Always (Quiet (j + 2))))) || (is_always (only_if a Always) || false))
  unfolding only_if
  by_6_10 h true b c d ea eb ec ed = subst (ByShape W j) (sym (or_true (is_always (only_if d (only_if c (cond b Always (Quiet (j + 2)))))))) (shape_empty W j K e h true ea refl)
  by_6_10 h false true true true ea eb ec ed = shape_promoted W j K e h false ea refl true true true eb refl ec refl ed
  by_6_10 h false true true false ea eb ec ed = shape_promoted W j K e h false ea refl true true false eb refl ec refl ed
  by_6_10 h false true false true ea eb ec ed = shape_unsolved W j K e h false ea refl false ec refl
  by_6_10 h false true false false ea eb ec ed = shape_unsolved W j K e h false ea refl false ec refl
  by_6_10 h false false true true ea eb ec ed = shape_asked W j K e h false ea refl false eb refl
  by_6_10 h false false true false ea eb ec ed = shape_asked W j K e h false ea refl false eb refl
  by_6_10 h false false false true ea eb ec ed = shape_asked W j K e h false ea refl false eb refl
  by_6_10 h false false false false ea eb ec ed = shape_asked W j K e h false ea refl false eb refl

  -- a guarded goal: rules 11 and 13; 7 and 8 ask the solver
  by_11_13 : K ≡ 6 → (a b : Bool) → a ≡ failure_at W (j + 1) → b ≡ parts_at W (j + 1) → ByShape W j (is_always (only_if a Always) || (is_always (only_if b Always) || false))
  unfolding only_if
  by_11_13 h true b ea eb = shape_failed W j K e h true ea refl
  by_11_13 h false true ea eb = shape_parts W j K e h false ea refl true eb
  by_11_13 h false false ea eb = shape_parts W j K e h false ea refl false eb

  guarded_moves : any_moves W j 6 ≡ (is_always (only_if (failure_at W (j + 1)) Always) || (is_always (only_if (parts_at W (j + 1)) Always) || false))
  unfolding any range rule_row nth akl_table.table asks_in asks_7 asks_8 asks_11 asks_13
  guarded_moves =
      ap₂ (λ (x y : Bool). x || (y || (is_always (only_if (failure_at W (j + 1)) Always) || (is_always (only_if (parts_at W (j + 1)) Always) || false))))
      (quiet_asked (shapes.kind_at W (around W j) Cond) (solved_at W (j + 1)) (right_at W j) (j + 1))
      (quiet_asked (shapes.kind_at W (around W j) Commit) (solved_at W (j + 1)) (left_at W j || right_at W j) (j + 1))

-- no rule takes a kind of a number from 10 on
past_kinds : (K : ℕ) (a : Asks) (o : Option akl_table.Row) → 10 ≤ K → row_moves K a o ≡ false
past_kinds K a none h = refl
past_kinds K a (some w) h = ap (λ (b : Bool). is_determinate w.mode && b && is_always a) (ne_eqb (takes_number w.takes) K (λ z. let l = below_ten w.takes in omega (arith, z, l, h))) ∙ go (is_determinate w.mode) (is_always a)
  where
    go : (b c : Bool) → (b && false && c) ≡ false
    go true c = refl
    go false c = refl

none_moves : (f : ℕ → Bool) (l : List ℕ) → ((r : ℕ) → f r ≡ false) → any f l ≡ false
unfolding any
none_moves f [] h = refl
none_moves f (r ∷ l) h = ap (λ (b : Bool). b || any f l) (h r) ∙ none_moves f l h

by_number : (W : List Word) (j K : ℕ) → K ≡ takes_in W j → ByShape W j (any_moves W j K)
unfolding any range rule_row nth akl_table.table asks_in asks_6 asks_10
by_number W j zero e = shape_at_once W j 0 e (λ z. omega (arith, z)) (λ z. omega (arith, z)) (λ z. omega (arith, z)) (λ z. omega (arith, z)) (λ z. omega (arith, z))
by_number W j (suc zero) e = shape_at_once W j 1 e (λ z. omega (arith, z)) (λ z. omega (arith, z)) (λ z. omega (arith, z)) (λ z. omega (arith, z)) (λ z. omega (arith, z))
by_number W j (suc (suc zero)) e = shape_at_once W j 2 e (λ z. omega (arith, z)) (λ z. omega (arith, z)) (λ z. omega (arith, z)) (λ z. omega (arith, z)) (λ z. omega (arith, z))
by_number W j (suc (suc (suc zero))) e = shape_at_once W j 3 e (λ z. omega (arith, z)) (λ z. omega (arith, z)) (λ z. omega (arith, z)) (λ z. omega (arith, z)) (λ z. omega (arith, z))
by_number W j (suc (suc (suc (suc zero)))) e = shape_at_once W j 4 e (λ z. omega (arith, z)) (λ z. omega (arith, z)) (λ z. omega (arith, z)) (λ z. omega (arith, z)) (λ z. omega (arith, z))
by_number W j (suc (suc (suc (suc (suc zero))))) e = by_6_10 W j 5 e refl (ends_at W (j + 1)) (shapes.kind_at W j Wait) (solved_at W (j + 2)) (one_at W j) refl refl refl refl
by_number W j (suc (suc (suc (suc (suc (suc zero)))))) e = subst (ByShape W j) (sym (guarded_moves W j 6 e)) (by_11_13 W j 6 e refl (failure_at W (j + 1)) (parts_at W (j + 1)) refl refl)
by_number W j (suc (suc (suc (suc (suc (suc (suc zero))))))) e = shape_and_box W j 7 e refl
by_number W j (suc (suc (suc (suc (suc (suc (suc (suc zero)))))))) e = shape_at_once W j 8 e (λ z. omega (arith, z)) (λ z. omega (arith, z)) (λ z. omega (arith, z)) (λ z. omega (arith, z)) (λ z. omega (arith, z))
by_number W j (suc (suc (suc (suc (suc (suc (suc (suc (suc zero))))))))) e = shape_or_box W j 9 e refl
by_number W j (suc (suc (suc (suc (suc (suc (suc (suc (suc (suc n)))))))))) e = subst (ByShape W j) (sym (none_moves _ (range 1 14) (λ r. past_kinds (suc (suc (suc (suc (suc (suc (suc (suc (suc (suc n)))))))))) (asks_in W j r) (rule_row r) (omega arith)))) (shape_no_place W j (suc (suc (suc (suc (suc (suc (suc (suc (suc (suc n)))))))))) e (omega arith))

-- what the rounds found
pub by_table : (W : List Word) (j : ℕ) (b : Bool) → any (moves_by W j) (range 1 14) ≡ b → ByShape W j b
unfolding moves_by
by_table W j b f = subst (ByShape W j) f (by_number W j (takes_in W j) refl)
