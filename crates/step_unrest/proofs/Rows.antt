-- Whether a rule disturbs a goal, by its row of the table, the kind of the place, what it rewrites, and whether it applies.
use mathlib.Core.Path.{◌≡◌, refl, ap, ap₂, sym, ◌∙◌, subst}
use mathlib.Core.Bool.{Bool, true, false, ◌&&◌}
use mathlib.Core.List.{List}
use mathlib.Core.Option.{some}
use Prim.Native.Nat.{ℕ, ◌≤◌}
use native.Mathlib.Omega.{arith}
use lib.Dec.{T, eqb}
use lib.ListN.{length}
use borrow.Author.Tests.{eq-eqb, ne_eqb}
use Rattle.akl.specs.Base.{is_some}
use Rattle.akl.specs.Configuration as akl
use Rattle.akl.specs.Configuration.{Node, Ctx}
use Rattle.akl.specs.Places.{Place, at, inside}
use Rattle.akl.specs.Table as akl_table
use Rattle.akl.specs.Table.{rule_row, determinate, nondeterminate}
use Rattle.akl.specs.Stability.{is_determinate, fits_row, rewritten, row_disturbs, disturbs}
use Rattle.akl.specs.Rules.{effect}
use Rattle.mem_words.specs.declared.Word.{Word}
use Rattle.store_form.specs.State.{State, table, number_in, program_of, config_of}
use Rattle.rule_table.specs.declared.Takes.{Takes}
use Rattle.rule_table.specs.declared.Mode.{Mode}
use Rattle.rule_table.specs.declared.Mode.TheVariants.{Determinate, Nondeterminate}
use Rattle.rule_table.specs.declared.Rewrites.{Rewrites}
use Rattle.rule_table.specs.declared.Row.TheVariants.{Absent, Rule}
use Rattle.rule_table.specs.Rows.{takes_no, mode_in, row_in, takes_numbered}
use Rattle.rule_table.proofs.Table.{Found, row_found, row_absent}
use Rattle.rule_kinds.specs.Kinds.{takes_in}
use Rattle.rule_holds.specs.Holding.{rewrites_in}
use Rattle.rule_holds.proofs.Inside.{rewrites_words}
use Rattle.step_meant.specs.Meant.{StandsAt}
use Rattle.step_meant.specs.Asked as asked
use Rattle.step_unrest.specs.Disturbing.{CanPlace, DisturbsAt}
use Rattle.step_unrest.proofs.Placing.{kind_is, inside_low}

-- ---------------------------------------------------------------------------------------------
-- A row of the code and that of the definitions.

mode_number : Mode → ℕ
mode_number Determinate = 0
mode_number Nondeterminate = 1

pub determinate_is : (m : akl_table.Mode) → Determinate ≡ mode_in m → is_determinate m ≡ true
unfolding mode_number
determinate_is determinate e = refl
determinate_is nondeterminate e = absurd (let z : ◌≡◌ {A = ℕ} 0 1 = ap mode_number e in omega (arith, z))

pub nondeterminate_is : (m : akl_table.Mode) → Nondeterminate ≡ mode_in m → is_determinate m ≡ false
unfolding mode_number
nondeterminate_is determinate e = absurd (let z : ◌≡◌ {A = ℕ} 1 0 = ap mode_number e in omega (arith, z))
nondeterminate_is nondeterminate e = refl

-- ---------------------------------------------------------------------------------------------

module _ (W D : List Word) (g j r : ℕ) where
  by_row : (s : State) {k : akl.Kind} (χ : Ctx k) (n : Node k) (pl : Place) (w : akl_table.Row) (a b c d : Bool) → rule_row r ≡ some w → is_determinate w.mode ≡ a → fits_row w pl ≡ b → inside χ n (rewritten w.rewrites pl) ≡ c
      → is_some (effect (program_of s) (config_of s).next r pl) ≡ d → disturbs (program_of s) (config_of s) χ n r pl ≡ (a && b && c && d)
  unfolding disturbs
  by_row s χ n pl w a b c d e ha hb hc hd = ap (row_disturbs (program_of s) (config_of s) χ n r pl) e ∙ ap₂ ◌&&◌ (ap₂ ◌&&◌ (ap₂ ◌&&◌ ha hb) hc) hd

  -- no row
  pub no_row : Absent ≡ row_in (rule_row r) → DisturbsAt W D g j r false
  unfolding disturbs
  no_row e = record { right = λ s χ n pl m p q. sym (ap (row_disturbs (program_of s) (config_of s) χ n r pl) (row_absent (rule_row r) e)) }

  module _ (t : Takes) (u : Mode) (v : Rewrites) (e : Rule t u v ≡ row_in (rule_row r)) where
    f : Found (rule_row r) t u v
    f = row_found (rule_row r) t u v e

    -- a rule that is not determinate
    pub not_determinate : u ≡ Nondeterminate → DisturbsAt W D g j r false
    unfolding f
    not_determinate h = record { right = λ s χ n pl m p q. sym (by_row s χ n pl f.found false _ _ _ f.is (nondeterminate_is f.found.mode (sym h ∙ f.mode)) refl refl refl) }

    fits_is : (k c : ℕ) (b : Bool) (s : State) (pl : Place) → StandsAt s W pl j → k ≡ takes_in W j → c ≡ takes_no t → eqb k c ≡ b → fits_row f.found pl ≡ b
    unfolding f
    fits_is k c b s pl p ek ec h =
        ap₂ eqb (sym (kind_is W j s pl p) ∙ sym ek) (sym (takes_numbered f.found.takes) ∙ ap takes_no (sym f.takes) ∙ sym ec) ∙ h

    -- a rule that takes another kind of place
    pub not_taken : (k c : ℕ) → u ≡ Determinate → k ≡ takes_in W j → c ≡ takes_no t → (c ≡ k → ⊥) → DisturbsAt W D g j r false
    unfolding f
    not_taken k c h ek ec no_fit = record {
      right = λ s χ n pl m p q.
          sym (by_row s χ n pl f.found true false _ _ f.is (determinate_is f.found.mode (sym h ∙ f.mode)) (fits_is k c false s pl q ek ec (ne_eqb k c (λ z. no_fit (sym z)))) refl refl);
    }

    -- what it rewrites is at or inside the goal
    holds_is : (b : Bool) (s : State) {k : akl.Kind} (χ : Ctx k) (n : Node k) (pl : Place) → StandsAt s W (at χ n) g → StandsAt s W pl j → b ≡ rewrites_in v W g j → inside χ n (rewritten f.found.rewrites pl) ≡ b
    unfolding f
    holds_is b s χ n (at χ' x) p q h = rewrites_words (number_in (table s)) f.found.rewrites p q ∙ ap (λ (z : Rewrites). rewrites_in z W g j) (sym f.rewrites) ∙ sym h

    module _ (k c : ℕ) (h : u ≡ Determinate) (ek : k ≡ takes_in W j) (ec : c ≡ takes_no t) (same : c ≡ k) where
      fits_there : (s : State) (pl : Place) → StandsAt s W pl j → fits_row f.found pl ≡ true
      fits_there s pl q = fits_is k c true s pl q ek ec (eq-eqb k c (sym same))

      -- a rule that rewrites something around the goal
      pub not_held : (b : Bool) → b ≡ rewrites_in v W g j → b ≡ false → DisturbsAt W D g j r false
      unfolding f
      not_held b eb z = record {
        right = λ s χ n pl m p q.
            sym (by_row s χ n pl f.found true true false _ f.is (determinate_is f.found.mode (sym h ∙ f.mode)) (fits_there s pl q) (holds_is b s χ n pl p q eb ∙ z) refl);
      }

      taken_there : (s : State) (pl : Place) → StandsAt s W pl j → asked.Takes s W r pl j
      unfolding f
      taken_there s pl q = record { stands = q; row = f.found; is_row = f.is; fits = subst T (sym (fits_there s pl q)) tt }

      pub can_apply : CanPlace W D g j → asked.CanApply W D r j
      can_apply x = record { state = x.state; place = x.place; meant = x.meant; takes = taken_there x.state x.place x.stands }

      -- a rule that would disturb it, if it applies
      pub held_there : (b d : Bool) → b ≡ rewrites_in v W g j → b ≡ true → asked.Applies W D r j d → DisturbsAt W D g j r d
      unfolding f
      held_there b d eb z x = record {
        right = λ s χ n pl m p q.
            sym (by_row s χ n pl f.found true true true d f.is (determinate_is f.found.mode (sym h ∙ f.mode)) (fits_there s pl q) (holds_is b s χ n pl p q eb ∙ z) (sym (x.right s pl m (taken_there s pl q))));
      }

pub place_low : (W D : List Word) (g j : ℕ) → CanPlace W D g j → j ≤ length W
place_low W D g j c = inside_low W g j c.to
