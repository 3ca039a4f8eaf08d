-- The words of a store begin no more applications than the store has constraints.
use mathlib.Core.Path.{◌≡◌, refl, ◌∙◌}
use mathlib.Core.Logic.{ite}
use mathlib.Core.List.{List, [], ◌∷◌, ◌++◌}
use Prim.Native.Nat.{ℕ, ◌+◌, ◌≤◌}
use native.Mathlib.Omega.{arith}
use native.Mathlib.Decide.{ℕ_discrete}
use lib.ListN.{length}
use Rattle.constraint.specs.Constraint.{Con, ctrue, cfail, ceq, capp, map_con, Store}
use Rattle.akl.specs.Base.{Name, size}
use Rattle.akl.specs.Syntax.{Var, number, level}
use Rattle.mem_words.specs.declared.Word.{Word}
use Rattle.mem_words.specs.declared.Word.TheVariants.{End, Free, Level, Num, Inner}
use Rattle.mem_sorts.specs.declared.Sort.TheVariants.{True, Fail, Eq, App}
use Rattle.layout.specs.Layout.{var_word, vars_words, con_words}
use Rattle.store_words.specs.Boxes.{store_words}
use Rattle.solve_begins.specs.Begins.{begins_of}
use Rattle.solve_tells.specs.Tells.{app_of, apps_of}
use Rattle.work_log.specs.Logs.{stop}

-- how many applications begin in words a, with z behind them
begun_in : List Word → List Word → ℕ
begun_in a z = apps_of (length a) (a ++ z)

app_most : (w : Word) → app_of w ≤ 1
unfolding app_of
app_most w = go (ℕ_discrete (begins_of w) 3)
  where
    go : (d : Dec (begins_of w ≡ 3)) → ite d 1 0 ≤ 1
    go (yes e) = omega arith
    go (no e) = omega arith

begun_more : (w : Word) (a z : List Word) → begun_in (w ∷ a) z ≡ app_of w + begun_in a z
unfolding begun_in apps_of
begun_more w a z = refl

begun_one : (w : Word) (a z : List Word) → begun_in (w ∷ a) z ≤ 1 + begun_in a z
begun_one w a z = omega (arith, begun_more w a z, app_most w)

-- a word that begins none
app_none : (w : Word) → begins_of w ≡ 0 → app_of w ≡ 0
unfolding app_of
app_none w h = go (ℕ_discrete (begins_of w) 3)
  where
    go : (d : Dec (begins_of w ≡ 3)) → ◌≡◌ {A = ℕ} (ite d 1 0) 0
    go (yes e) = absurd (omega (arith, h, e))
    go (no e) = refl

begun_skip : (w : Word) (a z : List Word) → begins_of w ≡ 0 → begun_in (w ∷ a) z ≡ begun_in a z
begun_skip w a z h = omega (arith, begun_more w a z, app_none w h)

begun_end : (a z : List Word) → begun_in (End ∷ a) z ≡ begun_in a z
begun_end a z = begun_skip End a z refl

begun_num : (n : ℕ) (a z : List Word) → begun_in (Num n ∷ a) z ≡ begun_in a z
begun_num n a z = begun_skip (Num n) a z refl

begun_var : (x : Var) (a z : List Word) → begun_in (var_word x ∷ a) z ≡ begun_in a z
unfolding var_word
begun_var (number x) a z = begun_skip (Free x) a z refl
begun_var (level l) a z = begun_skip (Level l) a z refl

begun_vars : (xs : List Var) (a z : List Word) → begun_in (vars_words xs a) z ≡ begun_in a z
unfolding vars_words
begun_vars [] a z = refl
begun_vars (x ∷ xs) a z = begun_var x (vars_words xs a) z ∙ begun_vars xs a z

begun_con : (num : Name → ℕ) (c : Con Var) (a z : List Word) → begun_in (con_words num c a) z ≤ 1 + begun_in a z
unfolding con_words
begun_con num ctrue a z = omega (arith, begun_one (Inner True) (End ∷ a) z, begun_end a z)
begun_con num cfail a z = omega (arith, begun_one (Inner Fail) (End ∷ a) z, begun_end a z)
begun_con num (ceq x y) a z = omega (arith, begun_one (Inner Eq) (var_word x ∷ var_word y ∷ End ∷ a) z, begun_var x (var_word y ∷ End ∷ a) z, begun_var y (End ∷ a) z, begun_end a z)
begun_con num (capp x f ys) a z =
    let b = vars_words ys (End ∷ a) in
    omega (arith, begun_one (Inner App) (var_word x ∷ Num (num f) ∷ b) z, begun_var x (Num (num f) ∷ b) z, begun_num (num f) b z, begun_vars ys (End ∷ a) z, begun_end a z)

begun_none : (z : List Word) → begun_in [] z ≡ 0
unfolding begun_in apps_of
begun_none z = refl

begun_store : (num : Name → ℕ) (σ : Store) (z : List Word) → begun_in (store_words num σ []) z ≤ size σ
unfolding store_words size
begun_store num [] z = omega (arith, begun_none z)
begun_store num (c ∷ σ) z = omega (arith, begun_con num (map_con number c) (store_words num σ []) z, begun_store num σ z)

pub apps_store : (num : Name → ℕ) (σ : Store) → apps_of (length (store_words num σ [])) (store_words num σ [] ++ stop) ≤ size σ
unfolding begun_in
apps_store num σ = begun_store num σ stop
