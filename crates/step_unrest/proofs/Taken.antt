-- What the fourteen rules of the table come to at a place, by its kind.
use mathlib.Core.Path.{◌≡◌, refl, ap}
use mathlib.Core.Bool.{Bool, true, false, ◌&&◌, ◌||◌}
use Prim.Native.Nat.{ℕ}
use lib.Dec.{eqb}
use Rattle.akl.specs.Base.{is_some, nth, any, range}
use Rattle.akl.specs.Configuration as akl
use Rattle.akl.specs.Configuration.{Node, Ctx}
use Rattle.akl.specs.Places as places
use Rattle.akl.specs.Places.{at, inside}
use Rattle.akl.specs.Table as akl_table
use Rattle.akl.specs.Table.{itself, holder, rule_row, takes_number, kind_at}
use Rattle.akl.specs.Stability.{rewritten, disturbs}
use Rattle.akl.specs.Rules.{effect}
use Rattle.store_form.specs.State.{State, program_of, config_of}

-- ---------------------------------------------------------------------------------------------
-- The table: K is the number of the place's kind, i and h say whether the place and the box that holds it are in the goal, E which
-- rules apply.

pub says : ℕ → Bool → Bool → (ℕ → Bool) → Bool
says K i h E =
    ((eqb K 0 && h) && E 1)
    || (((eqb K 1 && i) && E 2)
    || (((eqb K 2 && h) && E 3)
    || (((eqb K 3 && h) && E 4)
    || (((eqb K 4 && i) && E 5)
    || (((eqb K 5 && h) && E 6)
    || (((eqb K 6 && h) && E 7)
    || (((eqb K 6 && h) && E 8)
    || (((eqb K 7 && i) && E 9)
    || (((eqb K 5 && h) && E 10)
    || (((eqb K 6 && h) && E 11)
    || (((eqb K 6 && h) && E 13)
    || (((eqb K 8 && h) && E 14)
    || false))))))))))))

-- does rule r apply at the place?
abbrev pub applied : State → places.Place → ℕ → Bool
applied s pl r = is_some (effect (program_of s) (config_of s).next r pl)

pub all_rules : (s : State) {k : akl.Kind} (χ : Ctx k) (n : Node k) (pl : places.Place)
    → any (λ r. disturbs (program_of s) (config_of s) χ n r pl) (range 1 14) ≡ says (takes_number (kind_at pl)) (inside χ n (rewritten itself pl)) (inside χ n (rewritten holder pl)) (applied s pl)
unfolding says disturbs rule_row nth akl_table.table any range
all_rules s χ n pl = refl

or_false : (b : Bool) → b || false ≡ b
or_false true = refl
or_false false = refl

module _ (E : ℕ → Bool) where
  -- an and-box, an or-box that is in no or-box
  pub says_and_box : (h : Bool) → says 7 true h E ≡ E 9
  unfolding says
  says_and_box h = or_false (E 9)

  pub says_or_box : says 9 true true E ≡ false
  unfolding says
  says_or_box = refl

  -- a choice-box
  pub says_choice_box : says 5 true true E ≡ (E 10 || E 6)
  unfolding says
  says_choice_box = go (E 6) (E 10)
    where
      go : (a b : Bool) → (a || (b || false)) ≡ (b || a)
      go true true = refl
      go true false = refl
      go false true = refl
      go false false = refl

  -- a guarded goal
  pub says_guarded_goal : says 6 true true E ≡ (E 11 || (E 13 || (E 7 || E 8)))
  unfolding says
  says_guarded_goal = go (E 7) (E 8) (E 11) (E 13)
    where
      go : (a b c d : Bool) → (a || (b || (c || (d || false)))) ≡ (c || (d || (a || b)))
      go true true true d = refl
      go true true false true = refl
      go true true false false = refl
      go true false true d = refl
      go true false false true = refl
      go true false false false = refl
      go false true true d = refl
      go false true false true = refl
      go false true false false = refl
      go false false true d = refl
      go false false false true = refl
      go false false false false = refl

  -- what is taken by one rule, which applies wherever it takes something
  pub says_constraint : E 1 ≡ true → says 0 true true E ≡ true
  unfolding says
  says_constraint e = ap (λ (b : Bool). b || false) e

  pub says_call : E 2 ≡ true → says 1 true true E ≡ true
  unfolding says
  says_call e = ap (λ (b : Bool). b || false) e

  pub says_composition : E 3 ≡ true → says 2 true true E ≡ true
  unfolding says
  says_composition e = ap (λ (b : Bool). b || false) e

  pub says_hiding : E 4 ≡ true → says 3 true true E ≡ true
  unfolding says
  says_hiding e = ap (λ (b : Bool). b || false) e

  pub says_choice : E 5 ≡ true → says 4 true true E ≡ true
  unfolding says
  says_choice e = ap (λ (b : Bool). b || false) e

  pub says_inner : E 14 ≡ true → says 8 true true E ≡ true
  unfolding says
  says_inner e = ap (λ (b : Bool). b || false) e
