-- The words that a rule leads to, by its number: the effects of rules 1 to 14. W are the words of the configuration, D those of the
-- program, i is where the place stands, next the next fresh number. Assumes nothing.
use Rattle.std.specs.Prelude.{cond, List, ℕ, eqb}
use Rattle.mem_words.specs.declared.Word.{Word}
use Rattle.rule_build.specs.Built.{Built}
use Rattle.rule_effects.specs.Effects.{effect_1, effect_2, effect_3, effect_4, effect_5, effect_6, effect_7, effect_8, effect_9, effect_10, effect_11, effect_12, effect_13, effect_14, fresh_4, fresh_5}

-- every other number is taken for 14
unfoldable pub effect_words : List Word → List Word → ℕ → ℕ → ℕ → List Word
effect_words W D r i next =
    cond (eqb r 1) (effect_1 W i)
    (cond (eqb r 2) (effect_2 W D i)
    (cond (eqb r 3) (effect_3 W i)
    (cond (eqb r 4) (effect_4 W i next)
    (cond (eqb r 5) (effect_5 W i next)
    (cond (eqb r 6) (effect_6 W i)
    (cond (eqb r 7) (effect_7 W i)
    (cond (eqb r 8) (effect_8 W i)
    (cond (eqb r 9) (effect_9 W i)
    (cond (eqb r 10) (effect_10 W i)
    (cond (eqb r 11) (effect_11 W i)
    (cond (eqb r 12) (effect_12 W i)
    (cond (eqb r 13) (effect_13 W i) (effect_14 W i)))))))))))))

-- how many fresh variables it takes
unfoldable pub fresh_words : List Word → ℕ → ℕ → ℕ
fresh_words W r i = cond (eqb r 4) (fresh_4 W i) (cond (eqb r 5) (fresh_5 W i) 0)

-- rules from 6 on need neither the program nor fresh numbers
abbrev pub AnyBuilt : ℕ → List Word → ℕ → ℕ → ℕ → List Word → Type 0
AnyBuilt cap W r i n O = (D : List Word) (next : ℕ) → Built cap (effect_words W D r i next) n O
