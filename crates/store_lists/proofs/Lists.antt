-- The numbers of hidden variables in a state that has bytes fit two bytes, so that no hidden list is longer than a text can have, and
-- refusal 9 says of the program, the names and the statements that texts read as them. Assumes nothing.
use mathlib.Core.Path.{◌≡◌, refl, sym, ap, ◌∙◌}
use mathlib.Core.Logic.{◌↔◌}
use mathlib.Core.List.{List, [], ◌∷◌, ◌++◌}
use mathlib.Core.Option.{Option, some, none}
use Prim.Native.Nat.{ℕ, ◌≤◌, ◌<◌}
use native.Mathlib.Omega.{arith}
use lib.Dec.{T}
use lib.ListN.{take}
use Rattle.constraint.specs.Constraint.{Con, ctrue, cfail, ceq, capp}
use Rattle.akl.specs.Base.{Name}
use Rattle.akl.specs.Syntax.{Var, Stmt, atom, call, comp, hide, choice, Clauses, no_more, clause, Program}
use Rattle.mem_words.specs.declared.Word.{Word}
use Rattle.mem_words.specs.declared.Word.TheVariants.{End}
use Rattle.mem_words.specs.Form.{AllSmall}
use Rattle.layout.specs.Layout.{vars_words, con_words, stmt_words, clauses_words, program_words}
use Rattle.texts.specs.Draft.{most_hidden, ListsFit, ClauseListsFit, ProgramListsFit}
use Rattle.texts.specs.StoreFormed.{StoreFormed}
use Rattle.texts.proofs.StoreTexts.{store_formed_iff}
use Rattle.store_form.specs.Sizes.{store_length}
use Rattle.store_form.specs.State.{State, table, number_in, program_of, names_of, config_of, well_formed_state}
use Rattle.store_form.specs.Form.{rules_words}
use Rattle.store_form.specs.Holding.{Fits, Holds}
use Rattle.store_form.proofs.Spelt.{small_all}
use Rattle.store_calls.specs.Outcomes.{held}
use Rattle.store_calls.proofs.Any.{held_iff}

vars_on : (xs : List Var) (r : List Word) → AllSmall (vars_words xs r) → AllSmall r
unfolding vars_words
vars_on [] r h = h
vars_on (x ∷ xs) r h = vars_on xs r h.1

con_on : (num : Name → ℕ) (c : Con Var) (r : List Word) → AllSmall (con_words num c r) → AllSmall r
unfolding con_words
con_on num ctrue r h = h.1.1
con_on num cfail r h = h.1.1
con_on num (ceq x y) r h = h.1.1.1.1
con_on num (capp x f ys) r h = (vars_on ys (End ∷ r) h.1.1.1).1

mutual
  unfolding stmt_words clauses_words

  stmt_lists : (s : Stmt) (num : Name → ℕ) (r : List Word) → AllSmall (stmt_words num s r) → ListsFit s × AllSmall r
  stmt_lists (atom c) num r h = (tt, con_on num c r h)
  stmt_lists (call p xs) num r h = (tt, (vars_on xs (End ∷ r) h.1.1).1)
  stmt_lists (comp a b) num r h =
      let x = stmt_lists a num (stmt_words num b (End ∷ r)) h.1 in
      let y = stmt_lists b num (End ∷ r) x.1 in
      ((x.0, y.0), y.1.1)
  stmt_lists (hide m a) num r h =
      let v = h.1.0.value in
      let x = stmt_lists a num (End ∷ r) h.1.1 in
      ((omega (arith, v), x.0), x.1.1)
  stmt_lists (choice op cs) num r h = let x = clauses_lists cs num (End ∷ r) h.1 in (x.0, x.1.1)

  clauses_lists : (cs : Clauses) (num : Name → ℕ) (r : List Word) → AllSmall (clauses_words num cs r) → ClauseListsFit cs × AllSmall r
  clauses_lists no_more num r h = (tt, h)
  clauses_lists (clause m g b cs) num r h =
      let v = h.1.0.value in
      let x = stmt_lists g num (stmt_words num b (End ∷ clauses_words num cs r)) h.1.1 in
      let y = stmt_lists b num (End ∷ clauses_words num cs r) x.1 in
      let z = clauses_lists cs num r y.1.1 in
      ((omega (arith, v), x.0, y.0, z.0), z.1)

program_lists : (num : Name → ℕ) (P : Program) → AllSmall (program_words num P) → ProgramListsFit P
unfolding program_words
program_lists num [] h = tt
program_lists num (d ∷ ds) h = let x = stmt_lists d.body num (program_words num ds) h.1.1 in (x.0, program_lists num ds x.1)

-- A state that has bytes is well formed exactly when it is formed as document 01 says it of texts.
formed_texts : (limit : ℕ) → limit ≤ 65536 → (s : State) → Fits limit s → T (well_formed_state limit s) ↔ StoreFormed limit (program_of s) (names_of s) (config_of s)
unfolding rules_words
formed_texts limit low s f =
    store_formed_iff limit (program_of s) (names_of s) (config_of s) (omega (arith, low)) (program_lists (number_in (table s)) s.program (small_all (rules_words s) f.rules_small))

-- What a slice holds: the state whose bytes the store's are, if it is formed as document 01 says it of texts.
pub held_iff_formed : (limit : ℕ) → limit ≤ 65536 → (b : List ℕ) (s : State) → (held limit b ≡ some s) ↔ (Holds limit (take (store_length limit) b) s × StoreFormed limit (program_of s) (names_of s) (config_of s))
held_iff_formed limit low b s =
    (λ e. let h = (held_iff limit low b s).0 e in (h.0, (formed_texts limit low s h.0.fits).0 h.1), λ h. (held_iff limit low b s).1 (h.0, (formed_texts limit low s h.0.fits).1 h.1))

-- What bytes hold is formed, as document 01 says it of texts.
pub held_formed : (limit : ℕ) → limit ≤ 65536 → (b : List ℕ) (s : State) → held limit b ≡ some s → StoreFormed limit (program_of s) (names_of s) (config_of s)
held_formed limit low b s e = ((held_iff_formed limit low b s).0 e).1

-- Refusal 9: the store's bytes are those of no state that is formed.
pub none_held_iff : (limit : ℕ) → limit ≤ 65536 → (b : List ℕ) → (held limit b ≡ none) ↔ ((s : State) → Holds limit (take (store_length limit) b) s → StoreFormed limit (program_of s) (names_of s) (config_of s) → ⊥)
none_held_iff limit low b = (λ e s h f. none_some (sym e ∙ (held_iff_formed limit low b s).1 (h, f)), λ no_state. go no_state (held limit b) refl)
  where
    none_some : {s : State} → ◌≡◌ {A = Option State} none (some s) → ⊥
    none_some e = let z : ◌≡◌ {A = ℕ} 0 1 = ap (λ (o : Option State). elim o as (λ v. ℕ) [ none ↦ 0 | some x ↦ 1 ]) e in omega arith

    go : ((s : State) → Holds limit (take (store_length limit) b) s → StoreFormed limit (program_of s) (names_of s) (config_of s) → ⊥) → (o : Option State) → held limit b ≡ o → o ≡ none
    go n none e = refl
    go n (some s) e = let h = (held_iff_formed limit low b s).0 e in absurd (n s h.0 h.1)
