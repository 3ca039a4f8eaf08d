-- A place that stands in the words of a state's configuration is a place of that configuration: its names are in the state's table,
-- so that the words are one-to-one.
use mathlib.Core.Path.{◌≡◌, sym, ◌∙◌, subst}
use mathlib.Core.List.{List, []}
use Prim.Native.Nat.{ℕ, ◌<◌}
use Rattle.akl.specs.Base.{Name}
use Rattle.akl.specs.Configuration.{goal, Node, plug}
use Rattle.akl.specs.Places.{Place, at}
use Rattle.accept.proofs.EffectSound.{whole}
use Rattle.mem_words.specs.declared.Word.{Word}
use Rattle.mem_words.specs.Form.{AllSmall}
use Rattle.read_nodes.specs.Spell.{named}
use Rattle.store_words.specs.Boxes.{node_words}
use Rattle.store_words.specs.Tables.{SpeltNode}
use Rattle.store_words.proofs.Once.{node_once}
use Rattle.store_form.specs.Sizes.{two_bytes}
use Rattle.store_form.specs.State.{State, table, number_in}
use Rattle.store_form.specs.Form.{config_words}
use Rattle.store_form.specs.Holding.{Fits}
use Rattle.store_form.proofs.Names.{number_back}
use Rattle.store_form.proofs.Spelt.{small_all, node_small}
use Rattle.step_meant.specs.Meant.{StandsAt}

module _ (limit : ℕ) (s : State) (F : Fits limit s) where
  spells : (f : Name) → number_in (table s) f < two_bytes → named (table s) (number_in (table s) f) ≡ f
  spells f h = (number_back (table s) f h).0

  spelt : (g : Node goal) → AllSmall (node_words (number_in (table s)) g []) → SpeltNode (number_in (table s)) (named (table s)) g
  spelt g h = (node_small (number_in (table s)) (named (table s)) spells g [] h).0

  pub root_is : (g : Node goal) → config_words s ≡ node_words (number_in (table s)) g [] → g ≡ s.config.root
  unfolding config_words
  root_is g e =
      let a = small_all (config_words s) F.words_small in
      (node_once (number_in (table s)) (named (table s)) g s.config.root [] [] (spelt g (subst AllSmall e a)) (spelt s.config.root a) (sym e)).0

  pub whole_is : (W : List Word) → W ≡ config_words s → (pl : Place) (i : ℕ) → StandsAt s W pl i → whole pl ≡ s.config.root
  whole_is W e (at χ n) i h = root_is (plug χ n) (sym e ∙ h.whole)
