-- What stands at a position of a state's words is a part of its configuration: words are those of one configuration only. So it is
-- well formed there, and the solver has room.
use mathlib.Core.Path.{◌≡◌, refl, ap, sym, ◌∙◌, subst}
use mathlib.Core.Bool.{Bool, true, ◌&&◌, false}
use mathlib.Core.List.{List, [], ◌∷◌}
use Prim.Native.Nat.{ℕ, zero, suc, ◌<◌}
use native.Mathlib.Omega.{arith}
use lib.Dec.{T, leb}
use lib.ListN.{length, get_or}
use Rattle.constraint.proofs.Lists.{and_T}
use Rattle.akl.specs.Base.{Name, all, size, is_some}
use Rattle.akl.specs.Limits.{most_parts}
use Rattle.akl.specs.Syntax.{Stmt, atom, call, comp, hide, choice, Program, defined}
use Rattle.akl.specs.Configuration as akl
use Rattle.akl.specs.Configuration.{goal, Node, or, and, stmt, choice_box, guard, Ctx, plug}
use Rattle.akl.specs.WellFormed.{variable_fits, few, statement_fits, statement_passes, statements_pass, depth}
use Rattle.akl.specs.Limits.{most_depth}
use Rattle.theory.proofs.InContext.{pass_context}
use Rattle.mem_words.specs.declared.Word.{Word}
use Rattle.mem_words.specs.declared.Word.TheVariants.{End, Free, Level, Num, Place, Inner, Bad}
use Rattle.mem_words.specs.Form.{AllSmall}
use Rattle.read_nodes.specs.Spell.{named}
use Rattle.store_words.specs.Boxes.{node_words}
use Rattle.store_words.specs.Contexts.{before, kind_of}
use Rattle.store_words.proofs.Places.{node_opens}
use Rattle.store_words.proofs.Once.{node_once}
use Rattle.store_form.specs.State.{State, table, number_in, program_of}
use Rattle.store_form.specs.Form.{config_words}
use Rattle.store_form.proofs.Names.{number_back}
use Rattle.store_form.proofs.Spelt.{small_all, node_small}
use Rattle.store_room.proofs.Freshness.{formed_state}
use Rattle.rule_words.proofs.Balance.{seg_ends}
use Rattle.rule_effects.specs.Effects.{behind}
use Rattle.rule_effects.specs.Standing.{Stands}
use Rattle.rule_effects.proofs.Shapes.{node_tree}
use Rattle.rule_effects.proofs.Frames.{stands_seg}
use Rattle.rule_kinds.proofs.KindWords.{opens_kind}
use Rattle.rule_applies.specs.Answers.{statement_defined, node_defined}
use Rattle.step_meant.specs.Meant.{Meant}

-- ---------------------------------------------------------------------------------------------
-- Positions.

place_low : (W : List Word) (i : ℕ) (k : _) → get_or W i Bad ≡ Place k → i < length W
place_low [] i k e = absurd (let z : ◌≡◌ {A = ℕ} 0 1 = ap one_in e in omega (arith, z))
  where
    one_in : Word → ℕ
    one_in End = 0
    one_in (Free v) = 0
    one_in (Level v) = 0
    one_in (Num v) = 0
    one_in (Place k) = 1
    one_in (Inner s) = 0
    one_in Bad = 0
place_low (w ∷ W) zero k e = omega arith
place_low (w ∷ W) (suc i) k e = omega (arith, place_low W i k e)

module _ (num : Name → ℕ) {k : akl.Kind} {χ : Ctx k} {n : Node k} {Z W : List Word} {i : ℕ} where
  pub stands_low : Stands num χ n Z W i → i < length W
  stands_low s = place_low W i (kind_of n) (opens_kind num s)

  -- a node has words
  pub stands_behind : Stands num χ n Z W i → i < behind W i
  stands_behind s =
      let h = s.begins in
      let e = seg_ends (node_words num n) (node_tree num n) (before num χ [] ∷ []) _ W i (stands_seg num s) (omega (arith, h)) in
      let o = node_opens num n [] in
      let l = ap length o.1 in
      omega (arith, e, l)

-- ---------------------------------------------------------------------------------------------
-- The state's configuration.

module _ {W D : List Word} {s : State} (m : Meant W D s) {k : akl.Kind} {χ : Ctx k} {n : Node k} {i : ℕ} where
  -- the configuration is what stands there, in its context
  pub root_is : Stands (number_in (table s)) χ n [] W i → s.config.root ≡ plug χ n
  unfolding config_words
  root_is p =
      let num = number_in (table s) in
      let F = m.stands.fits in
      let e : node_words num s.config.root [] ≡ node_words num (plug χ n) [] = sym m.config ∙ p.whole in
      let back : (f : Name) → number_in (table s) f < _ → named (table s) (number_in (table s) f) ≡ f = λ f h. (number_back (table s) f h).0 in
      let a = small_all (config_words s) F.words_small in
      (node_once num (named (table s)) s.config.root (plug χ n) [] []
      (node_small num (named (table s)) back s.config.root [] a).0
      (node_small num (named (table s)) back (plug χ n) [] (subst AllSmall e a)).0 e).0

  -- every statement in it passes
  pub passes_there : Stands (number_in (table s)) χ n [] W i → T (statements_pass n (program_of s))
  passes_there p = (pass_context (program_of s) χ n n (subst (λ (g : Node goal). T (statements_pass g (program_of s))) (root_is p) (formed_state most_parts s m.stands).statements)).0

-- ---------------------------------------------------------------------------------------------
-- A program atom is defined.

is_true : (b : Bool) → T b → b ≡ true
is_true false t = elim t [ ]
is_true true t = refl

passes_defined : (P : Program) (s : Stmt) → T (statement_passes P (λ x. true) 0 s) → statement_defined P s ≡ true
unfolding statement_passes statement_fits
passes_defined P (atom c) t = refl
passes_defined P (call p xs) t =
    let a = (and_T (statement_fits (call p xs) P (λ x. true) 0) (leb (depth (call p xs)) most_depth)).0 t in
    is_true (is_some (defined P p (size xs))) ((and_T (all (variable_fits (λ x. true) 0) xs && few xs) (is_some (defined P p (size xs)))).0 a.0).1
passes_defined P (comp a b) t = refl
passes_defined P (hide n a) t = refl
passes_defined P (choice op cs) t = refl

pub all_defined : (P : Program) {k : akl.Kind} (n : Node k) → T (statements_pass n P) → node_defined P n ≡ true
unfolding node_defined statements_pass
all_defined P (or ns) t = refl
all_defined P (and vs σ ms) t = refl
all_defined P (stmt x) t = passes_defined P x t
all_defined P (choice_box op gs) t = refl
all_defined P (guard g b) t = refl
