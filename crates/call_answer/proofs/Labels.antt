-- The words of a store: their numbers are those of names in the table, and the classes of their variables are variables of theirs.
use mathlib.Core.Path.{◌≡◌, refl, ap, sym, ◌∙◌, subst}
use mathlib.Core.Logic.{◌⊎◌, inl, inr}
use mathlib.Core.List.{List, [], ◌∷◌, ◌++◌, map}
use Prim.Native.Nat.{ℕ, zero, suc, ◌+◌, ◌<◌, ◌≤◌}
use native.Mathlib.Omega.{arith}
use lib.ListN.{length, get_or, take, drop}
use Rattle.constraint.specs.Constraint.{Con, ctrue, cfail, ceq, capp, map_con, Store, In}
use Rattle.akl.specs.Base.{Name}
use Rattle.akl.specs.Syntax.{number}
use Rattle.mem_words.specs.declared.Word.{Word}
use Rattle.mem_words.specs.declared.Word.TheVariants.{End, Free, Level, Num, Place, Inner, Bad}
use Rattle.mem_words.specs.Words.{value_of}
use Rattle.mem_words.specs.Form.{AllSmall}
use Rattle.mem_copies.specs.Runs.{run}
use Rattle.layout.specs.Layout.{var_word, vars_words, con_words}
use Rattle.store_words.specs.Boxes.{store_words}
use Rattle.work_log.specs.Logs.{stop}
use Rattle.solve_cells.specs.Cells.{rep}
use Rattle.solve_classes.specs.Means.{Within}
use Rattle.solve_classes.proofs.Linking.{rep_in}
use Rattle.solve_fields.specs.Read.{var_of, num_of}

-- every value has two bytes
abbrev pub SmallAt : List Word → Type 0
SmallAt W = (i : ℕ) → value_of (get_or W i Bad) < 65536

pub small_at : (W : List Word) → AllSmall W → SmallAt W
small_at [] a i = omega arith
small_at (w ∷ W) a zero = a.0.value
small_at (w ∷ W) a (suc i) = small_at W a.1 i

-- so has every value of a part
small_drop : (k : ℕ) (W : List Word) → AllSmall W → AllSmall (drop k W)
small_drop zero W a = a
small_drop (suc k) [] a = a
small_drop (suc k) (w ∷ W) a = small_drop k W a.1

small_take : (k : ℕ) (W : List Word) → AllSmall W → AllSmall (take k W)
small_take zero W a = tt
small_take (suc k) [] a = a
small_take (suc k) (w ∷ W) a = (a.0, small_take k W a.1)

pub small_run : (from n : ℕ) (W : List Word) → AllSmall W → AllSmall (run from n W)
unfolding run
small_run from n W a = small_take n (drop from W) (small_drop from W a)

-- every number is below n
pub record LowNums (n : ℕ) (W : List Word) : Type 0 where
  pub low : (i : ℕ) → num_of (get_or W i Bad) < n

module _ (n : ℕ) (z : 0 < n) where
  low_cons : (w : Word) (r : List Word) → num_of w < n → LowNums n r → LowNums n (w ∷ r)
  low_cons w r h l = record { low = go }
    where
      go : (i : ℕ) → num_of (get_or (w ∷ r) i Bad) < n
      go zero = h
      go (suc i) = l.low i

  low_vars : (ys : List ℕ) (r : List Word) → LowNums n r → LowNums n (vars_words (map number ys) r)
  unfolding vars_words var_word
  low_vars [] r l = l
  low_vars (y ∷ ys) r l = low_cons (Free y) (vars_words (map number ys) r) z (low_vars ys r l)

  past_vars : (ys : List ℕ) (r : List Word) → SmallAt (vars_words (map number ys) r) → SmallAt r
  unfolding vars_words
  past_vars [] r h = h
  past_vars (y ∷ ys) r h = past_vars ys r (λ i. h (suc i))

  pub low_stop : LowNums n stop
  unfolding stop
  low_stop = low_cons End _ z (low_cons End _ z (low_cons End [] z (record { low = λ i. z })))

  pub low_append : (A B : List Word) → LowNums n A → LowNums n B → LowNums n (A ++ B)
  low_append [] B a b = b
  low_append (w ∷ A) B a b = low_cons w (A ++ B) (a.low 0) (low_append A B (record { low = λ i. a.low (suc i) }) b)

  module _ (num : Name → ℕ) (known : (f : Name) → num f < 65536 → num f < n) where
    pub low_store : (σ : Store) (r : List Word) → SmallAt (store_words num σ r) → LowNums n r → LowNums n (store_words num σ r)
    unfolding store_words con_words var_word
    low_store [] r h l = l
    low_store (ctrue ∷ σ) r h l = low_cons _ _ z (low_cons End _ z (low_store σ r (λ i. h (suc (suc i))) l))
    low_store (cfail ∷ σ) r h l = low_cons _ _ z (low_cons End _ z (low_store σ r (λ i. h (suc (suc i))) l))
    low_store (ceq x y ∷ σ) r h l = low_cons _ _ z (low_cons _ _ z (low_cons _ _ z (low_cons End _ z (low_store σ r (λ i. h (suc (suc (suc (suc i))))) l))))
    low_store (capp x f ys ∷ σ) r h l =
        let g : SmallAt (End ∷ store_words num σ r) = past_vars ys (End ∷ store_words num σ r) (λ i. h (suc (suc (suc i)))) in
        low_cons _ _ z (low_cons _ _ z (low_cons _ _ (known f (h 2)) (low_vars ys (End ∷ store_words num σ r) (low_cons End _ z (low_store σ r (λ i. g (suc i)) l)))))

-- a class of variables below b is below b
pub rep_low : (vs T : List ℕ) (b : ℕ) → ((x : ℕ) → In x vs → x < b) → Within vs T → (x : ℕ) → x < b → rep T x < b
rep_low vs T b h w x l = low (rep_in (x ∷ vs) T more x (inl refl))
  where
    more : Within (x ∷ vs) T
    more = record { cells = λ y. elim (w.cells y) [ inl e ↦ inl e | inr i ↦ inr (inr i) ]; links = λ y e. inr (w.links y e) }

    low : {y : ℕ} → In y (x ∷ vs) → y < b
    low {y} (inl e) = subst (λ (z : ℕ). z < b) (sym e) l
    low {y} (inr i) = h y i
