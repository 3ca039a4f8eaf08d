-- All regions of a store written: the header H, the bytes N of the table of m nodes of names, R of the program, W of the query's variables
-- and C of the configuration, of at most 2,048 parts. Assumes nothing.
use Rattle.std.specs.Prelude.{◌≡◌, refl, List, [], ◌++◌, ℕ, ◌+◌, ◌-◌, ◌*◌, ◌≤◌, length, drop, replicate}
use Rattle.std.proofs.Common.{sym, ap, ap₂, ◌∙◌, arith}
use Rattle.akl.specs.Limits.{most_parts}
use Rattle.store_form.specs.Sizes.{most_together, header_length, program_length, variables_length, config_length, variables_start, config_start, store_length}
use Rattle.store_form.specs.Form.{region}
use Rattle.store_pieces.proofs.Numbers.{ByteList}
use Rattle.store_regions.specs.Regions.{Regioned}
use Rattle.store_regions.proofs.Written.{five_regions}

-- the regions' bytes, one after the other
unfoldable pub regions : ℕ → List ℕ → List ℕ → List ℕ → List ℕ → List ℕ → List ℕ
regions m H N R W C = H ++ (N ++ region (program_length m) R (region variables_length W (region (config_length most_parts) C [])))

pub record CanFill (L H N R W C : List ℕ) (m a v n : ℕ) : Type 0 where
  pub store : 245853 ≤ length L
  pub header : length H ≡ 18
  pub names : 3 * m ≤ length N
  pub rules : 3 * a ≤ length R
  pub together : m + a ≤ 53257
  pub variables : 3 * v ≤ length W
  pub few_variables : v ≤ 16
  pub words : 3 * n ≤ length C
  pub few_words : n ≤ 28672

pub record Filled (m : ℕ) (L H N R W C X : List ℕ) : Type 0 where
  pub list : X ≡ regions m H N R W C ++ drop (store_length most_parts) L

-- what is known of lent bytes
pub record Known (N R W C : List ℕ) : Type 0 where
  pub names : ByteList N
  pub rules : ByteList R
  pub variables : ByteList W
  pub words : ByteList C

-- a region that is full
full : (n : ℕ) (l r : List ℕ) → length l ≡ n → region n l r ≡ l ++ r
unfolding region
full n l r h = let z : n - length l ≡ 0 = omega arith in ap (λ (k : ℕ). l ++ (replicate k 0 ++ r)) z

-- the lengths as numbers
program_is : (m : ℕ) → program_length m ≡ 159789 - (18 + 3 * m)
unfolding program_length most_together
program_is m = omega arith

variables_is : variables_length ≡ 159837 - 159789
unfolding variables_length
variables_is = refl

config_is : config_length most_parts ≡ 245853 - 159837
unfolding config_length
config_is = refl

pub store_is : store_length most_parts ≡ 245853
unfolding store_length config_start variables_start header_length most_together variables_length config_length
store_is = refl

pub filled : (m : ℕ) (L H N R W C X1 X2 X3 X4 X5 : List ℕ) → 245853 ≤ length L → length H ≡ 18 → length N ≡ 3 * m → 3 * m + length R ≤ 159771 → length W ≤ 48 → length C ≤ 86016
    → Regioned L 0 18 H X1 → Regioned X1 18 (18 + 3 * m) N X2 → Regioned X2 (18 + 3 * m) 159789 R X3 → Regioned X3 159789 159837 W X4 → Regioned X4 159837 245853 C X5
    → Filled m L H N R W C X5
unfolding regions
filled m L H N R W C X1 X2 X3 X4 X5 l h n r w c w1 w2 w3 w4 w5 =
    record {
      list =
          five_regions L H N R W C X1 X2 X3 X4 X5 18 (18 + 3 * m) 159789 159837 245853 h (omega arith) (omega arith) w c (omega arith) (omega arith) (omega arith) (omega arith) l w1 w2 w3 w4 w5
          ∙ ap₂ (λ (x : List ℕ) (e : ℕ). x ++ drop e L) (ap (λ (x : List ℕ). H ++ x)
          (full (18 + 3 * m - 18) N _ (omega arith)
          ∙ ap (λ (y : List ℕ). N ++ y) (ap₂ (λ (x : ℕ) (y : List ℕ). region x R y) (sym (program_is m)) (ap₂ (λ (x : ℕ) (y : List ℕ). region x W y) (sym variables_is) (ap (λ (x : ℕ). region x C []) (sym config_is))))))
          (sym store_is);
    }
