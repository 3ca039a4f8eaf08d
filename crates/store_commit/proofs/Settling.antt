-- What is answered and left when a new configuration is settled is what the step's definition says. Assumes nothing.
use mathlib.Core.Path.{◌≡◌, refl, sym, ap, ◌∙◌, subst}
use mathlib.Core.List.{List}
use mathlib.Core.Option.{some}
use Prim.Native.Nat.{ℕ, suc, ◌≤◌, ◌<◌}
use native.Mathlib.Decide.{dec_lt}
use native.Mathlib.Omega.{arith}
use lib.ListN.{length, take, drop}
use Rattle.akl.specs.Base.{Result, refused, ok}
use Rattle.akl.specs.Limits.{last_number, most_parts}
use Rattle.akl.specs.StepsText.{Step}
use Rattle.akl.specs.Configuration.{Config}
use Rattle.akl.specs.Parts.{parts}
use Rattle.akl.specs.Step.{within_limits, step}
use Rattle.mem_words.specs.declared.Word.{Word}
use Rattle.mem_words.specs.Words.{words}
use Rattle.store_form.specs.Sizes.{store_length}
use Rattle.store_form.specs.State.{State, program_of, config_of}
use Rattle.store_form.specs.Form.{config_words}
use Rattle.store_form.proofs.Keeping.{with_config}
use Rattle.store_steps.specs.After.{with_result, state_after}
use Rattle.store_steps.proofs.Keeping.{after_stands}
use Rattle.store_calls.specs.Outcomes.{held, put_state}
use Rattle.store_calls.proofs.Any.{held_stands}
use Rattle.store_calls.proofs.OnBytes.{begin_held}
use Rattle.store_parts.specs.declared.Among.TheVariants.{Others}
use Rattle.store_parts.specs.Counting.{parts_in}
use Rattle.rule_build.specs.Built.{Built}
use Rattle.store_commit.specs.Settled.{most_words, Settled, number_over, words_over, parts_over, written}
use Rattle.store_commit.specs.Leaves.{Leaves}
use Rattle.store_commit.proofs.Words.{committed_held}
use Rattle.store_commit.proofs.Parts.{config_parts}
use Rattle.store_commit.proofs.Limits.{limits_14, limits_15, limits_ok, stands_many}

-- words that were built where there is room for most-words: they are too many where the count says so, and there where it does not
module _ (cap n : ℕ) (room : most_words ≤ cap) (W O : List Word) (b : Built cap W n O) where
  too_long : most_words < n → most_words < length W
  too_long h = go (dec_lt cap (length W))
    where
      go : Dec (cap < length W) → most_words < length W
      go (yes p) = omega arith
      go (no p) = omega (arith, (b.whole (omega arith)).0)

  there : n ≤ most_words → (n ≡ length W) × (take n O ≡ W)
  there h = go (dec_lt cap (length W))
    where
      go : Dec (cap < length W) → (n ≡ length W) × (take n O ≡ W)
      go (yes p) = absurd (omega (arith, b.over p))
      go (no p) = b.whole (omega arith)

-- The store of a state that is held, and a configuration d whose words were built in S, with room for all that may be.
module _ (s : State) (d : Config) (L S X : List ℕ) (cap n next : ℕ) (h : held most_parts L ≡ some s) (room : most_words ≤ cap) (b : Built cap (config_words (with_config s d)) n (words S)) (en : next ≡ d.next)
    (many : d.next ≤ suc last_number → most_words < length (config_words (with_config s d)) → most_parts < parts d.root) where
  leaves : (r : ℕ) (R : Result Config) → within_limits most_parts d ≡ R → Leaves L (with_result s R) X r → Leaves L (with_result s (within_limits most_parts d)) X r
  leaves r R e = subst (λ (Q : Result Config). Leaves L (with_result s Q) X r) (sym e)

  counted : take n (words S) ≡ config_words (with_config s d) → parts_in Others (take n (words S)) ≡ parts d.root
  counted e = ap (parts_in Others) e ∙ config_parts (with_config s d)

  pub settled_leaves : (r : ℕ) → Settled L S n next X r → Leaves L (with_result s (within_limits most_parts d)) X r
  settled_leaves r (number_over g e) = leaves 14 (refused 14) (limits_14 most_parts d (omega (arith, en))) (refl, e)
  settled_leaves r (words_over g m e) = leaves 15 (refused 15) (limits_15 most_parts d (omega (arith, en)) (many (omega (arith, en)) (too_long cap n room (config_words (with_config s d)) (words S) b m))) (refl, e)
  settled_leaves r (parts_over g m p e) =
      let t = there cap n room (config_words (with_config s d)) (words S) b m in
      leaves 15 (refused 15) (limits_15 most_parts d (omega (arith, en)) (omega (arith, p, counted t.1))) (refl, e)
  settled_leaves r (written g m p w) =
      let t = there cap n room (config_words (with_config s d)) (words S) b m in
      leaves 0 (ok d) (limits_ok most_parts d (omega (arith, en)) (omega (arith, p, counted t.1))) (refl, committed_held s d L S X n next h w t.1 t.0 en)

-- So a step that passes 10 to 13, whose effect's configuration was built and settled, answers and leaves what it must.
pub step_settled : (s : State) (k : Step) (d : Config) (L S X : List ℕ) (cap n next r : ℕ) → held most_parts L ≡ some s
    → ((l : ℕ) → step l (program_of s) (config_of s) k ≡ within_limits l d)
    → most_words ≤ cap → Built cap (config_words (with_config s d)) n (words S) → next ≡ d.next → Settled L S n next X r → Leaves L (state_after most_parts s k) X r
unfolding state_after
step_settled s k d L S X cap n next r h e room b en t =
    subst (λ (Q : Result Config). Leaves L (with_result s Q) X r) (sym (e most_parts))
    (settled_leaves s d L S X cap n next h room b en (stands_many s (held_stands most_parts (omega arith) L s h) k d e) r t)

-- What an accepted step leaves holds the state that it leads to, so that the next one may follow.
pub leaves_held : (s t : State) (k : Step) (L : List ℕ) → held most_parts L ≡ some s → state_after most_parts s k ≡ ok t → held most_parts (put_state most_parts L t) ≡ some t
unfolding put_state
leaves_held s t k L h e =
    begin_held most_parts (omega arith) 0 (drop (store_length most_parts) L) t (after_stands most_parts (omega arith) s (held_stands most_parts (omega arith) L s h) k t e)
