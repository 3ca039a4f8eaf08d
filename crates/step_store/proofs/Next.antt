-- The next configuration of a step that is ready: its words are those of the rule's effect, and so is its next fresh number.
-- Assumes nothing.
use mathlib.Core.Path.{◌≡◌, ap, sym, ◌∙◌}
use mathlib.Core.List.{List, []}
use Prim.Native.Nat.{ℕ, ◌+◌}
use Rattle.akl.specs.Base.{Name}
use Rattle.akl.specs.StepsText.{Step}
use Rattle.akl.specs.Configuration.{goal, Node}
use Rattle.akl.specs.Places.{Place, at}
use Rattle.accept.proofs.EffectSound.{effect_sound}
use Rattle.mem_words.specs.declared.Word.{Word}
use Rattle.store_words.specs.Boxes.{node_words}
use Rattle.store_form.specs.State.{State, table, number_in, program_of}
use Rattle.store_form.specs.Form.{config_words}
use Rattle.store_form.proofs.Keeping.{with_config}
use Rattle.rule_rewrite.specs.Rewriting.{effect_words, fresh_words}
use Rattle.rule_rewrite.proofs.Led as led
use Rattle.step_meant.specs.Meant.{Meant, StandsAt}
use Rattle.step_meant.specs.Deciding.{Ready}
use Rattle.step_store.proofs.Whole.{spell_of, program_spelt, program_is, clean_there}

module _ (W D : List Word) (s : State) (m : Meant W D s) (k : Step) (i : ℕ) (R : Ready s W k i) where
  abbrev num : Name → ℕ
  num = number_in (table s)

  -- the two ways of saying where a place stands
  same_place : (pl : Place) → StandsAt s W pl i → led.StandsAt num (spell_of s) pl [] W i
  same_place (at χ n) t = t

  pub next_is : (effect_words W D k.rule i s.config.next ≡ config_words (with_config s R.after)) × (R.after.next ≡ s.config.next + fresh_words W k.rule i)
  unfolding config_words
  next_is =
      let t = R.takes in
      let f = effect_sound (program_of s) s.config.next k.rule R.at_place t.row R.after t.is_row t.fits R.leads in
      let l = led.led num (spell_of s) [] W D i (program_spelt W D s m) (program_is W D s m) f.transition (same_place R.at_place t.stands) (clean_there W D s m R.at_place i t.stands) in
      (l.0 ∙ ap (λ (g : Node goal). node_words num g []) (sym f.result), l.1)
