-- A rule that rewrites what stands at its place puts a piece there: it begins where the place stood, it closes, and the configuration
-- has at most its parts more than before. Assumes nothing.
use mathlib.Core.Path.{◌≡◌, ap, ◌∙◌, subst}
use mathlib.Core.Bool.{true}
use mathlib.Core.List.{List, [], ◌++◌}
use Prim.Native.Nat.{ℕ, ◌+◌, ◌≤◌, ◌<◌}
use native.Mathlib.Omega.{arith}
use lib.ListN.{length, length-append}
use Rattle.akl.specs.Base.{Name}
use Rattle.akl.specs.StepsText.{Step}
use Rattle.akl.specs.Configuration.{goal, Node}
use Rattle.akl.specs.Places.{Place}
use Rattle.akl.specs.Parts.{parts}
use Rattle.accept.proofs.EffectSound.{Found, effect_sound}
use Rattle.mem_words.specs.declared.Word.{Word}
use Rattle.store_words.specs.Boxes.{node_words}
use Rattle.store_words.specs.Contexts as contexts
use Rattle.store_form.specs.State.{State, table, number_in, program_of}
use Rattle.store_form.specs.Form.{config_words}
use Rattle.store_parts.specs.declared.Among.TheVariants.{Others}
use Rattle.store_parts.specs.Counting.{parts_in}
use Rattle.store_commit.proofs.Parts.{words_parts}
use Rattle.rule_words.specs.Scans.{close}
use Rattle.rule_words.specs.Pieces.{cut}
use Rattle.rule_words.proofs.Segments.{cut_mid}
use Rattle.rule_effects.proofs.Shapes.{node_tree}
use Rattle.rule_effects.proofs.Frames.{node_seg, plug_seg}
use Rattle.rule_rewrite.specs.Rewriting.{effect_words}
use Rattle.step_meant.specs.Meant.{Meant, StandsAt}
use Rattle.step_meant.specs.Deciding.{Ready}
use Rattle.step_fewer.specs.Adding.{itself}
use Rattle.step_fewer.proofs.Fewer.{rewrites_itself, piece_more}
use Rattle.step_parts.specs.Bounds.{piece_parts}
use Rattle.step_store.proofs.Whole.{place_is}
use Rattle.step_store.proofs.Next.{next_is}

module _ (W D : List Word) (s : State) (m : Meant W D s) (k : Step) (i : ℕ) (R : Ready s W k i) (a : itself k.rule ≡ true) where
  abbrev num : Name → ℕ
  num = number_in (table s)

  -- the words that are built
  abbrev X : List Word
  X = effect_words W D k.rule i s.config.next

  abbrev found : Found (program_of s) s.config.next k.rule R.at_place R.after
  found = effect_sound (program_of s) s.config.next k.rule R.at_place R.takes.row R.after R.takes.is_row R.takes.fits R.leads

  -- what is before the piece, the piece, and what is behind it
  abbrev A : List Word
  A = contexts.before num found.context []

  abbrev B : List Word
  B = node_words num found.after []

  abbrev C : List Word
  C = contexts.after num found.context []

  begins : i ≡ length A
  begins = (subst (λ (p : Place). StandsAt s W p i) (rewrites_itself found.transition a) R.takes.stands).begins

  stands : X ≡ A ++ node_words num found.after C
  unfolding config_words
  stands = (next_is W D s m k i R).0 ∙ ap (λ (g : Node goal). node_words num g []) found.result ∙ plug_seg num found.context found.after []

  ends : close X i + 1 ≡ i + length B
  ends = (node_tree num found.after).ends A C X i stands begins

  apart : X ≡ A ++ (B ++ C)
  apart = stands ∙ ap (λ (u : List Word). A ++ u) (node_seg num found.after C)

  pub closes_there : close X i < length X
  closes_there = omega (arith, ends, begins, ap length apart, length-append A (B ++ C), length-append B C)

  pub piece_most : parts R.after.root ≤ parts s.config.root + piece_parts X i
  unfolding piece_parts
  piece_most =
      let e : cut i (close X i + 1) X ≡ B = cut_mid A B C X i (close X i + 1) apart begins (omega (arith, ends, begins)) in
      let p : parts_in Others (cut i (close X i + 1) X) ≡ parts found.after = words_parts num found.after (cut i (close X i + 1) X) e in
      omega (arith, p, piece_more found.transition, ap parts found.result, ap parts (place_is W D s m R.at_place i R.takes.stands))
