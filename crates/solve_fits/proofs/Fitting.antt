-- Variables below a limit, one word after another. Assumes nothing.
use mathlib.Core.Path.{◌≡◌, sym, subst}
use mathlib.Core.List.{List}
use Prim.Native.Nat.{ℕ, ◌+◌, ◌≤◌, ◌<◌}
use native.Mathlib.Omega.{arith}
use native.Mathlib.Decide.{ℕ_discrete, dec_lt}
use lib.ListN.{length, get_or, get_or-eq_default}
use Rattle.mem_words.specs.declared.Word.{Word}
use Rattle.mem_words.specs.declared.Word.TheVariants.{Bad}
use Rattle.solve_fields.specs.Read.{var_of, Vars}

pub low_more : (W : List Word) (limit i : ℕ) → ((k : ℕ) → k < i → var_of (get_or W k Bad) < limit) → var_of (get_or W i Bad) < limit → (k : ℕ) → k < i + 1 → var_of (get_or W k Bad) < limit
low_more W limit i h e k l = go (ℕ_discrete k i)
  where
    go : Dec (k ≡ i) → var_of (get_or W k Bad) < limit
    go (yes q) = subst (λ (j : ℕ). var_of (get_or W j Bad) < limit) (sym q) e
    go (no q) = h k (omega arith)

pub vars_all : (W : List Word) (limit i : ℕ) → ((k : ℕ) → k < i → var_of (get_or W k Bad) < limit) → length W ≤ i → 0 < limit → Vars W limit
vars_all W limit i h l z = record { low = λ k. go k (dec_lt k i) }
  where
    go : (k : ℕ) → Dec (k < i) → var_of (get_or W k Bad) < limit
    go k (yes b) = h k b
    go k (no b) = subst (λ (w : Word). var_of w < limit) (sym (get_or-eq_default W Bad (let q : length W ≤ k = omega arith in q))) z

pub vars_not : (W : List Word) (limit i : ℕ) → limit ≤ var_of (get_or W i Bad) → Vars W limit → ⊥
vars_not W limit i l v = omega (arith, v.low i)
