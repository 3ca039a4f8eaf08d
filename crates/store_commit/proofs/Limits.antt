-- The limits on a new configuration, and that one with too many words has too many parts. Assumes nothing.
use mathlib.Core.Path.{◌≡◌, ap, ap₂, ◌∙◌}
use mathlib.Core.Bool.{Bool, true, false}
use mathlib.Core.List.{List, []}
use mathlib.Core.Option.{some}
use Prim.Native.Nat.{ℕ, suc, ◌+◌, ◌*◌, ◌≤◌, ◌<◌}
use native.Mathlib.Omega.{arith}
use lib.Dec.{ltb}
use lib.ListN.{length}
use borrow.Author.Tests.{lt-ltb, le-ltb}
use Rattle.akl.specs.Base.{Name, if, Result, refused, ok}
use Rattle.akl.specs.Limits.{last_number, most_parts}
use Rattle.akl.specs.Syntax.{Program}
use Rattle.akl.specs.StepsText.{Step}
use Rattle.akl.specs.Configuration.{Config}
use Rattle.akl.specs.Places.{Place, place}
use Rattle.akl.specs.Parts.{parts}
use Rattle.akl.specs.Table.{Row, rule_row}
use Rattle.akl.specs.Rules.{effect}
use Rattle.akl.specs.Stability.{fits_row}
use Rattle.akl.specs.Step.{argument_fits, argument_stable, within_limits, after_condition, after_place, after_rule, step}
use Rattle.theory.specs.Formed.{Formed}
use Rattle.theory.proofs.Reflect.{formed_iff}
use Rattle.accept.proofs.Accepted.{accepts_iff}
use Rattle.accept.proofs.StepTheorem.{step_formed}
use Rattle.store_words.specs.Boxes.{node_words}
use Rattle.store_words.proofs.Sizes.{node_size}
use Rattle.store_words.proofs.Formed.{node_few}
use Rattle.store_form.specs.State.{State, table, number_in, program_of, names_of, config_of}
use Rattle.store_form.specs.Form.{config_words}
use Rattle.store_form.proofs.Keeping.{with_config}
use Rattle.store_steps.specs.After.{Stands}
use Rattle.store_commit.specs.Settled.{most_words}

abbrev limited : ℕ → Config → Bool → Bool → Result Config
limited limit d a b = if a (refused 14) (if b (refused 15) (ok d))

module _ (limit : ℕ) (d : Config) where
  pub limits_14 : suc last_number < d.next → within_limits limit d ≡ refused 14
  unfolding within_limits
  limits_14 h = ap (λ (a : Bool). limited limit d a (ltb limit (parts d.root))) (lt-ltb (suc last_number) d.next h)

  pub limits_15 : d.next ≤ suc last_number → limit < parts d.root → within_limits limit d ≡ refused 15
  unfolding within_limits
  limits_15 h p = ap₂ (limited limit d) (le-ltb (suc last_number) d.next h) (lt-ltb limit (parts d.root) p)

  pub limits_ok : d.next ≤ suc last_number → parts d.root ≤ limit → within_limits limit d ≡ ok d
  unfolding within_limits
  limits_ok h p = ap₂ (limited limit d) (le-ltb (suc last_number) d.next h) (le-ltb limit (parts d.root) p)

-- A step that passes 10 to 13 is its effect's configuration, within the limits.
pub step_limited : (P : Program) (c : Config) (k : Step) (w : Row) (p : Place) (d : Config)
    → rule_row k.rule ≡ some w → argument_fits c k.rule k.argument ≡ true → place c k.place ≡ some p → fits_row w p ≡ true
    → argument_stable P c k.rule p k.argument ≡ true → effect P c.next k.rule p ≡ some d
    → (l : ℕ) → step l P c k ≡ within_limits l d
unfolding step
step_limited P c k w p d ew ea ep ef es ed l =
    ap (after_rule l P c k.rule k.place k.argument) ew
    ∙ ap₂ (after_place l P c k.rule k.argument w) ea ep
    ∙ ap (λ (b : Bool). elim b as (λ x. Result Config) [ false ↦ refused 12 | true ↦ after_condition l (argument_stable P c k.rule p k.argument) (effect P c.next k.rule p) ]) ef
    ∙ ap₂ (after_condition l) es ed

-- What a step leads to from a well-formed configuration has at most 14 words for each part, also where it is over the limit: the step is
-- accepted for a higher one, and so keeps statements as they may be.
pub long_many : (limit : ℕ) (P : Program) (xs : List Name) (c d : Config) (k : Step) (num : Name → ℕ) → Formed limit P xs c → ((l : ℕ) → step l P c k ≡ within_limits l d)
    → d.next ≤ suc last_number → 14 * limit < length (node_words num d.root []) → limit < parts d.root
long_many limit P xs c d k num f h n m =
    let l : ℕ = limit + parts d.root in
    let e : step l P c k ≡ ok d = h l ∙ limits_ok l d n (omega arith) in
    let f' : Formed l P xs c = record { program = f.program; names = f.names; top_or = f.top_or; statements = f.statements; scopes = f.scopes; query = f.query; above = f.above; last = f.last; fit = omega (arith, f.fit) } in
    let g = step_formed l P xs c k d f' ((accepts_iff l P c k d).0 e) in
    omega (arith, node_size num d.root [] (node_few d.root P g.statements))

-- the same of a state
pub stands_many : (s : State) → Stands most_parts s → (k : Step) (d : Config) → ((l : ℕ) → step l (program_of s) (config_of s) k ≡ within_limits l d)
    → d.next ≤ suc last_number → most_words < length (config_words (with_config s d)) → most_parts < parts d.root
unfolding config_words
stands_many s w k d h n m =
    long_many most_parts (program_of s) (names_of s) (config_of s) d k (number_in (table s)) ((formed_iff most_parts (program_of s) (names_of s) (config_of s)).0 w.formed) h n (omega (arith, m))
