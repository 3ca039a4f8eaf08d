-- The finger, from a store to what a step left of it. Assumes nothing.
use mathlib.Core.Path.{◌≡◌, refl, sym, ◌∙◌, subst}
use mathlib.Core.List.{List}
use mathlib.Core.Option.{some, some-injective}
use Prim.Native.Nat.{ℕ, ◌+◌, ◌≤◌, ◌<◌}
use native.Mathlib.Omega.{arith}
use Rattle.akl.specs.Limits.{most_parts}
use Rattle.akl.specs.StepsText.{Step}
use Rattle.mem_words.specs.declared.Word.{Word}
use Rattle.mem_words.specs.Words.{words}
use Rattle.store_form.specs.State.{State}
use Rattle.store_form.specs.Form.{config_words}
use Rattle.store_commit.specs.Settled.{Settled}
use Rattle.rule_build.specs.Built.{Built}
use Rattle.rule_hidden.specs.Counting.{Capped}
use Rattle.rule_rewrite.specs.Rewriting.{effect_words, fresh_words}
use Rattle.rule_places.specs.declared.Finger.{Finger}
use Rattle.rule_places.specs.Fingers.{Points, points_first}
use Rattle.step_meant.specs.Deciding.{Goes, HoldsState}
use Rattle.step_finger.specs.Following.{Follows}
use Rattle.step_store.specs.Pointed.{Pointed}
use Rattle.step_store.proofs.Done.{Viewed, then, words_next, settled_held}

-- before the first step
pub pointed_first : (b : List ℕ) → Pointed b (record { at = 0; before = 0 })
pointed_first b = record { there = λ s e. points_first (config_words s) }

module _ (b : List ℕ) (W D : List Word) (next : ℕ) (v : Viewed b W D next) (k : Step) (i f : ℕ) (g : Goes W D k i) (c : Capped (fresh_words W k.rule i) f) (h : next + f ≤ 65535)
    (n : ℕ) (S : List ℕ) (t : Built 28672 (effect_words W D k.rule i next) n (words S)) (o : HoldsState b) where
  pub left_pointed : (B : List ℕ) (near : Finger) → Settled b S n (next + f) B 0 → Follows W k.rule i near → Pointed B near
  left_pointed B near y w = record {
    there = λ s e.
        let q = settled_held b W D next v k i f g c h n S t B 0 refl y o.state o.holds in
        let same : then b W D next v k i f g c h n S t o.state o.holds ≡ s = some-injective (then b W D next v k i f g c h n S t o.state o.holds) s (sym q.0 ∙ e) in
        subst (λ (d : State). Points (config_words d) near) same (subst (λ (Z : List Word). Points Z near) (words_next b W D next v k i f g c h n S t o.state o.holds) (w.points D next));
  }
