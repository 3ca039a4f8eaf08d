-- Why the room is that of stores and not of all words: a body whose guard has no and-box left may have any variables, and so a
-- well-formed state may have more of them in its bodies than the trail has room for.
use mathlib.Core.Path.{◌≡◌, refl, ap, sym, ◌∙◌, subst}
use mathlib.Core.Logic.{inl, inr}
use mathlib.Core.List.{List, [], ◌∷◌, ◌++◌, map}
use Prim.Native.Nat.{ℕ, zero, suc, ◌+◌, ◌*◌, ◌<◌, ◌≤◌}
use native.Mathlib.Omega.{arith}
use lib.Dec.{T}
use lib.ListN.{length}
use Rattle.constraint.specs.Constraint.{ctrue, capp, In}
use Rattle.constraint.proofs.Lists.{In-append}
use Rattle.akl.specs.Base.{bytes, range}
use Rattle.akl.specs.Computed.{everything}
use Rattle.akl.specs.Syntax.{number, commit, Stmt, atom, comp}
use Rattle.akl.specs.Configuration.{or, and, choice_box, guard, nil, one}
use Rattle.theory.proofs.Locals.{In-range}
use Rattle.mem_words.specs.declared.Word.{Word}
use Rattle.layout.specs.Layout.{var_word, vars_words, ask, con_words, stmt_words, program_words}
use Rattle.read_nodes.specs.Spell.{spell, named}
use Rattle.store_words.specs.Boxes.{box_kind, local_words, store_words, node_words}
use Rattle.solve_classes.specs.Means.{OldIn}
use Rattle.solve_tells.specs.Reach.{vars_of}
use Rattle.solve_tells.specs.Draws.{Drawn}
use Rattle.solve_tells.proofs.Rooms.{old_drawn}
use Rattle.store_form.specs.Sizes.{most_nodes, most_program_words, most_together}
use Rattle.store_form.specs.State.{State, number_from, number_in, well_formed_state}
use Rattle.store_form.specs.Form.{rules_words, config_words}
use Rattle.store_form.specs.Holding.{lowered, small_word, fits}
use Rattle.store_form.proofs.Reading.{fits_says}
use Rattle.store_steps.specs.After.{Stands}

-- ---------------------------------------------------------------------------------------------
-- A list that has n numbers in it is as long.

without : (x : ℕ) (ys : List ℕ) → In x ys → List ℕ
without x [] i = []
without x (y ∷ ys) (inl e) = ys
without x (y ∷ ys) (inr i) = y ∷ without x ys i

without_long : (x : ℕ) (ys : List ℕ) (i : In x ys) → length ys ≡ suc (length (without x ys i))
unfolding without
without_long x [] i = absurd i
without_long x (y ∷ ys) (inl e) = refl
without_long x (y ∷ ys) (inr i) = ap suc (without_long x ys i)

without_other : (x : ℕ) (ys : List ℕ) (i : In x ys) (z : ℕ) → (z ≡ x → ⊥) → In z ys → In z (without x ys i)
unfolding without
without_other x [] i z n j = j
without_other x (y ∷ ys) (inl e) z n (inl f) = absurd (n (f ∙ sym e))
without_other x (y ∷ ys) (inl e) z n (inr j) = j
without_other x (y ∷ ys) (inr i) z n (inl f) = inl f
without_other x (y ∷ ys) (inr i) z n (inr j) = inr (without_other x ys i z n j)

long_enough : (n a : ℕ) (ys : List ℕ) → ((x : ℕ) → a ≤ x → x < a + n → In x ys) → n ≤ length ys
long_enough zero a ys h = omega arith
long_enough (suc n) a ys h =
    let i = h a (omega arith) (omega arith) in
    let r = long_enough n (suc a) (without a ys i) (λ x l m. without_other a ys i x (λ e. omega (arith, e, l)) (h x (omega (arith, l)) (omega (arith, m)))) in
    omega (arith, r, without_long a ys i)

in_drawn : (W : List Word) (vs : List ℕ) → Drawn W vs → (x : ℕ) → In x (vars_of W) → In x vs
unfolding OldIn
in_drawn W vs d x i = old_drawn W vs (x ∷ []) 0 1 d only 0 (omega arith) (omega arith)
  where
    only : OldIn (x ∷ []) 0 1 (vars_of W)
    only zero a b = i
    only (suc t) a b = absurd (omega (arith, b))

-- ---------------------------------------------------------------------------------------------
-- A choice-box whose one guarded goal has failed, with a body of m constraints that have nine variables each, from x on.

unfoldable pub wide : ℕ → ℕ → Stmt
wide zero x = atom ctrue
wide (suc m) x = comp (atom (capp (number x) (bytes "f") (map number (range (suc x) 8)))) (wide m (x + 9))

unfoldable pub wide_state : State
wide_state = record {
  cells = 102 ∷ [];
  program = [];
  variables = [];
  config = record { root = or (one (and [] [] (one (choice_box commit (one (guard (or nil) (wide 304 0))))))); next = 65535 };
}

wide_formed : T (well_formed_state 2048 wide_state)
unfolding everything wide wide_state named spell
wide_formed = tt

wide_fits : T (fits 2048 wide_state)
unfolding everything wide wide_state named spell fits lowered small_word most_nodes most_program_words most_together rules_words config_words number_in number_from program_words node_words local_words store_words stmt_words con_words vars_words var_word ask box_kind
wide_fits = tt

wide_vars : vars_of (config_words wide_state) ≡ range 0 2736 ++ (0 ∷ [])
unfolding everything wide wide_state named spell vars_of config_words number_in number_from node_words local_words store_words stmt_words con_words vars_words var_word box_kind
wide_vars = refl

pub wide_stands : Stands 2048 wide_state
wide_stands = record { fits = (fits_says 2048 wide_state).0 wide_fits; formed = wide_formed }

-- no list that the trail has room for has all its variables
pub too_many : (others : List ℕ) → Drawn (config_words wide_state) (0 ∷ others) → 3 * (length others + 1) + 2 ≤ 8192 → ⊥
too_many others d h =
    let n = long_enough 2736 0 (0 ∷ others) (λ x l m. in_drawn (config_words wide_state) (0 ∷ others) d x (subst (In x) (sym wide_vars) ((In-append x (range 0 2736) (0 ∷ [])).1 (inl (In-range x 0 2736 l m))))) in
    omega (arith, n, h)
