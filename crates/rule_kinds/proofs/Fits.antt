-- A place is of the kind that a row of the table takes where the numbers of the kinds are the same.
use mathlib.Core.Path.{◌≡◌, ap, ap₂, sym, ◌∙◌}
use mathlib.Core.Bool.{true, false}
use mathlib.Core.List.{List}
use Prim.Native.Nat.{ℕ}
use lib.Dec.{eqb}
use borrow.Author.Tests.{eq-eqb, ne_eqb}
use Rattle.akl.specs.Base.{Name}
use Rattle.akl.specs.Configuration.{Kind, Node, Ctx}
use Rattle.akl.specs.Places.{at}
use Rattle.akl.specs.Table.{Row}
use Rattle.akl.specs.Stability.{fits_row}
use Rattle.mem_words.specs.declared.Word.{Word}
use Rattle.rule_effects.specs.Standing.{Stands}
use Rattle.rule_table.specs.declared.Takes.{Takes}
use Rattle.rule_table.specs.Rows as rows
use Rattle.rule_table.specs.Rows.{takes_no, takes_numbered}
use Rattle.rule_kinds.specs.Kinds.{takes_in}
use Rattle.rule_kinds.proofs.KindWords.{kind_words}

module _ (num : Name → ℕ) {k : Kind} {χ : Ctx k} {n : Node k} {Z W : List Word} {i : ℕ} (w : Row) (t : Takes) where
  pub fits_words : Stands num χ n Z W i → t ≡ rows.takes_in w.takes → fits_row w (at χ n) ≡ eqb (takes_in W i) (takes_no t)
  fits_words s e = ap₂ (λ (a b : ℕ). eqb a b) (sym (kind_words num n s)) (sym (ap takes_no e ∙ takes_numbered w.takes))

  pub fits_same : Stands num χ n Z W i → t ≡ rows.takes_in w.takes → takes_in W i ≡ takes_no t → fits_row w (at χ n) ≡ true
  fits_same s e h = fits_words s e ∙ eq-eqb (takes_in W i) (takes_no t) h

  pub fits_not : Stands num χ n Z W i → t ≡ rows.takes_in w.takes → (takes_in W i ≡ takes_no t → ⊥) → fits_row w (at χ n) ≡ false
  fits_not s e h = fits_words s e ∙ ne_eqb (takes_in W i) (takes_no t) h
