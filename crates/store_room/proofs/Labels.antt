-- Labels for the names of a state: different numbers have different labels, and each name of the configuration is the label of its
-- number.
use mathlib.Core.Path.{◌≡◌, sym, ◌∙◌}
use mathlib.Core.List.{[]}
use Prim.Native.Nat.{ℕ, suc, ◌<◌}
use lib.ListN.{length}
use Rattle.constraint.specs.Tree.{Label}
use Rattle.akl.specs.Base.{Name}
use Rattle.mem_words.specs.Form.{AllSmall}
use Rattle.read_nodes.specs.Spell.{named}
use Rattle.solve_fields.specs.Read.{Distinct}
use Rattle.store_words.specs.Tables.{SpeltNode}
use Rattle.store_form.specs.Sizes.{two_bytes}
use Rattle.store_form.specs.State.{State, table, number_in}
use Rattle.store_form.specs.Form.{config_words}
use Rattle.store_form.specs.Holding.{Fits}
use Rattle.store_form.proofs.Names.{number_back, names_apart}
use Rattle.store_form.proofs.Spelt.{small_all, node_small}
use Rattle.work_labels.proofs.Labels.{labels_from, labels_agree, labels_distinct}

-- the names of the table below its count, and other labels from there on
pub lab_of : State → ℕ → Label
lab_of s = labels_from (named (table s)) (suc (length s.cells))

module _ (limit : ℕ) (s : State) (F : Fits limit s) where
  pub labels_differ : Distinct (lab_of s)
  unfolding lab_of
  labels_differ = labels_distinct (named (table s)) (suc (length s.cells)) (names_apart limit s F)

  -- a number of two bytes is that of its label
  label_back : (f : Name) → number_in (table s) f < two_bytes → lab_of s (number_in (table s) f) ≡ f
  unfolding lab_of
  label_back f h =
      let b = number_back (table s) f h in
      sym (labels_agree (named (table s)) (suc (length s.cells)) (number_in (table s) f) b.1) ∙ b.0

  pub config_small : AllSmall (config_words s)
  config_small = small_all (config_words s) F.words_small

  pub labels_spell : SpeltNode (number_in (table s)) (lab_of s) s.config.root
  unfolding config_words
  labels_spell = (node_small (number_in (table s)) (lab_of s) label_back s.config.root [] config_small).0
