-- The tables of kinds and arities in the working slice say what the names of a table and the definitions of a program are.
-- Assumes nothing.
use mathlib.Core.Path.{◌≡◌, refl, sym, ap, ap₂, ◌∙◌, fun_ext}
use mathlib.Core.List.{List}
use mathlib.Core.Bool.{Bool, true, false, ◌&&◌, ◌||◌}
use Prim.Native.Nat.{ℕ, ◌/◌, ◌%◌, ◌<◌}
use native.Mathlib.Omega.{arith}
use native.Mathlib.Decide.{dec_lt}
use borrow.Author.Tests.{lt-ltb, le-ltb}
use lib.Dec.{ltb, eqb}
use lib.ListN.{length, get_or}
use Rattle.akl.specs.Syntax.{Program}
use Rattle.akl.specs.WellFormed.{spelled_name, spelled_digits, spelled_predicate}
use Rattle.mem_words.specs.declared.Word.{Word}
use Rattle.read_nodes.specs.Spell.{named}
use Rattle.check_namekinds.specs.Kinds.{KindsTo, bit, kind_constructor, kind_predicate}
use Rattle.check_tables.specs.Tables.{con_of, pred_of, def_of}
use Rattle.check_shapes.specs.Passed.{heads, listed}
use Rattle.check_meaning.specs.Table.{con_in, pred_in, def_in}
use Rattle.check_meaning.specs.Meaning.{IsProgram}

one_bit : (b : Bool) → eqb (bit b) 1 ≡ b
one_bit true = refl
one_bit false = refl

module _ (N K : List ℕ) (m : ℕ) (e : m ≡ length N) (k : KindsTo N K (length N)) where
  -- what a number stands for, below the count of names; above it nothing
  below : (i : ℕ) (t u : Bool) → (i < m → t ≡ u) → (ltb i m && t) ≡ (ltb i (length N) && u)
  below i t u h = go (dec_lt i m)
    where
      go : Dec (i < m) → (ltb i m && t) ≡ (ltb i (length N) && u)
      go (yes l) = ap₂ (λ (x y : Bool). x && y) (lt-ltb i m l) (h l) ∙ ap (λ (x : Bool). x && u) (sym (lt-ltb i (length N) (omega (arith, e, l))))
      go (no l) = ap (λ (x : Bool). x && t) (le-ltb i m (omega arith)) ∙ ap (λ (x : Bool). x && u) (sym (le-ltb i (length N) (omega arith)))

  pub con_agrees : con_of m K ≡ con_in N
  unfolding con_of con_in
  con_agrees = fun_ext (λ i. below i (eqb (get_or K i 0 % 2) 1) (spelled_name (named N i) || spelled_digits (named N i)) (λ l. ap (λ (x : ℕ). eqb (x % 2) 1) (k i (omega (arith, e, l))) ∙ ap (λ (x : ℕ). eqb x 1) (kind_constructor (named N i)) ∙ one_bit (spelled_name (named N i) || spelled_digits (named N i))))

  pub pred_agrees : pred_of m K ≡ pred_in N
  unfolding pred_of pred_in
  pred_agrees = fun_ext (λ i. below i (eqb (get_or K i 0 / 2 % 2) 1) (spelled_predicate (named N i)) (λ l. ap (λ (x : ℕ). eqb (x / 2 % 2) 1) (k i (omega (arith, e, l))) ∙ ap (λ (x : ℕ). eqb x 1) (kind_predicate (named N i)) ∙ one_bit (spelled_predicate (named N i))))

-- the definitions, where the table of arities has the heads of a program's words
pub def_agrees : {N : List ℕ} {P : Program} {W : List Word} (m : ℕ) (A : List ℕ) → IsProgram N W P → ((p k : ℕ) → def_of m A p k ≡ listed (heads W) p k) → def_of m A ≡ def_in N P
def_agrees m A i h = fun_ext (λ p. fun_ext (λ k. h p k ∙ i.defines p k))
