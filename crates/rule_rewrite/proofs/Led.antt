-- The words of a rule's effect are those of what its transition gives, and it takes as many fresh numbers.
use mathlib.Core.Path.{◌≡◌, refl, ap, sym, ◌∙◌}
use mathlib.Core.List.{List}
use Prim.Native.Nat.{ℕ, ◌+◌}
use native.Mathlib.Omega.{arith}
use Rattle.constraint.specs.Constraint.{map_con}
use Rattle.akl.specs.Base.{Name}
use Rattle.akl.specs.Syntax.{number, atom, call, comp, hide, choice, Program}
use Rattle.akl.specs.Configuration.{Kind, Node, or, and, stmt, choice_box, guard, Ctx, plug}
use Rattle.akl.specs.Places.{Place, at}
use Rattle.akl.specs.Rules.{number_of}
use Rattle.theory.specs.Transition.{Transition}
use Rattle.theory.specs.Transition as Tr
use Rattle.layout.specs.Layout.{program_words}
use Rattle.layout.specs.Tables.{SpeltProgram}
use Rattle.mem_words.specs.declared.Word.{Word}
use Rattle.store_words.specs.Boxes.{node_words}
use Rattle.rule_effects.specs.Standing.{Stands}
use Rattle.rule_effects.proofs.Stores.{rule_1_words, rule_4_words, rule_6_words}
use Rattle.rule_effects.proofs.Calls.{rule_2_words}
use Rattle.rule_effects.proofs.Members.{rule_3_words, rule_9_words, rule_10_words, rule_14_words}
use Rattle.rule_effects.proofs.Choices.{rule_5_words, fresh_5_words}
use Rattle.rule_effects.proofs.Guarded.{rule_7_words, rule_8_words, rule_11_words, rule_13_words}
use Rattle.rule_effects.proofs.Splitting.{rule_12_words}
use Rattle.rule_effects.proofs.Conditions.{fresh_4_words}
use Rattle.rule_rewrite.specs.Rewriting.{effect_words, fresh_words}

module _ (num : Name → ℕ) (spell : ℕ → Name) where
  -- the place stands at i in the words W
  abbrev pub StandsAt : Place → List Word → List Word → ℕ → Type 0
  StandsAt (at χ n) Z W i = Stands num χ n Z W i

  -- an atom at the place has no bound variable left, or its name is that of its number
  abbrev pub Clean : Place → Type 0
  Clean (at χ (or ns)) = Unit {0}
  Clean (at χ (and vs σ ms)) = Unit {0}
  Clean (at χ (stmt (atom c))) = map_con number (map_con number_of c) ≡ c
  Clean (at χ (stmt (call p xs))) = spell (num p) ≡ p
  Clean (at χ (stmt (comp a b))) = Unit {0}
  Clean (at χ (stmt (hide n a))) = Unit {0}
  Clean (at χ (stmt (choice op cs))) = Unit {0}
  Clean (at χ (choice_box op gs)) = Unit {0}
  Clean (at χ (guard g b)) = Unit {0}

  module _ {P : Program} {N : ℕ} (Z W D : List Word) (i : ℕ) (known : SpeltProgram num spell P) (rules : D ≡ program_words num P) where
    pub led : {r : ℕ} {pl : Place} {k : Kind} {χ : Ctx k} {n n' : Node k} {N' : ℕ} → Transition P N r pl k χ n n' N' → StandsAt pl Z W i → Clean pl → (effect_words W D r i N ≡ node_words num (plug χ n') Z) × (N' ≡ N + fresh_words W r i)
    unfolding effect_words fresh_words
    led (Tr.constraint_atom χ vs σ l r c) s f = (rule_1_words num f s, omega arith)
    led (Tr.program_atom χ p xs b d) s f = (rule_2_words num spell P D s known f rules d, omega arith)
    led (Tr.composition χ vs σ l r a b) s f = (rule_3_words num s, omega arith)
    led (Tr.hiding χ vs σ l r n a) s f = (rule_4_words num N s, ap (λ (x : ℕ). N + x) (sym (fresh_4_words num s)))
    led (Tr.choosing χ op cs) s f = (rule_5_words num N s, ap (λ (x : ℕ). N + x) (sym (fresh_5_words num s)))
    led (Tr.promotion χ ws θ l r op vs σ b q) s f = (rule_6_words num s, omega arith)
    led (Tr.condition χ l r vs σ b q e) s f = (rule_7_words num s, omega arith)
    led (Tr.committing χ l r vs σ b q e) s f = (rule_8_words num s, omega arith)
    led (Tr.environment_failure χ vs σ ms q) s f = (rule_9_words num s, omega arith)
    led (Tr.goal_failure χ vs σ l r op) s f = (rule_10_words num s, omega arith)
    led (Tr.guard_failure χ op l r b) s f = (rule_11_words num s, omega arith)
    led (Tr.splitting χ vs σ l r us τ b t ts) s f = (rule_12_words num s, omega arith)
    led (Tr.distribution χ op l r g gs b) s f = (rule_13_words num s, omega arith)
    led (Tr.flattening χ l r ns) s f = (rule_14_words num s, omega arith)
