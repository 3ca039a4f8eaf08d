-- What a goal holds, by positions in a configuration's words W: a place is at or inside a goal where it stands between the goal's
-- first word and its End. Assumes nothing.
use Rattle.std.specs.Prelude.{◌≡◌, Bool, true, false, ◌&&◌, List, ℕ, ◌<◌, ◌≤◌, leb, ltb}
use Rattle.std.proofs.Common.{ap, sym, ◌∙◌, arith, lt-ltb, le-ltb, le-leb}
use Rattle.std.proofs.lemmas.Bool.{lt-leb}
use Rattle.mem_words.specs.declared.Word.{Word}
use Rattle.rule_words.specs.Scans.{close, around}
use Rattle.rule_effects.specs.Effects.{behind}
use Rattle.rule_table.specs.declared.Rewrites.{Rewrites}
use Rattle.rule_table.specs.declared.Rewrites.TheVariants.{Itself, Holder}

-- is the position j at or inside the goal at g?
unfoldable pub within_at : List Word → ℕ → ℕ → Bool
within_at W g j = leb g j && ltb j (behind W g)

-- is the box that holds what is at i at or inside it?
unfoldable pub holds_in : List Word → ℕ → ℕ → Bool
holds_in W g i = within_at W g (around W i)

-- is what a rule rewrites that is applied at i?
abbrev pub rewrites_in : Rewrites → List Word → ℕ → ℕ → Bool
rewrites_in Itself W g i = within_at W g i
rewrites_in Holder W g i = holds_in W g i

-- ---------------------------------------------------------------------------------------------
-- By what was found.

pub behind_it : (W : List Word) (g j e : ℕ) → g ≤ j → e ≡ close W g → e < j → false ≡ within_at W g j
unfolding within_at
behind_it W g j e h p q = sym (ap (λ (b : Bool). b && ltb j (behind W g)) (le-leb g j h) ∙ le-ltb j (behind W g) (omega (arith, p, q)))

pub inside_it : (W : List Word) (g j e : ℕ) → g ≤ j → e ≡ close W g → j ≤ e → true ≡ within_at W g j
unfolding within_at
inside_it W g j e h p q = sym (ap (λ (b : Bool). b && ltb j (behind W g)) (le-leb g j h) ∙ lt-ltb j (behind W g) (omega (arith, p, q)))

pub before_it : (W : List Word) (g j : ℕ) → j < g → false ≡ within_at W g j
unfolding within_at
before_it W g j h = sym (ap (λ (b : Bool). b && ltb j (behind W g)) (lt-leb g j h))

pub holds_is : (W : List Word) (g i o : ℕ) (b : Bool) → o ≡ around W i → b ≡ within_at W g o → b ≡ holds_in W g i
unfolding holds_in
holds_is W g i o b e f = f ∙ ap (within_at W g) e

pub rewrites_is : (w v : Rewrites) (W : List Word) (g i : ℕ) (b : Bool) → w ≡ v → b ≡ rewrites_in v W g i → b ≡ rewrites_in w W g i
rewrites_is w v W g i b e f = f ∙ ap (λ (x : Rewrites). rewrites_in x W g i) (sym e)
