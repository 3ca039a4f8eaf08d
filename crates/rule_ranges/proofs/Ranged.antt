-- Ranges of words that hold stores: what is told of them, and how much room they take.
use mathlib.Core.Path.{◌≡◌, refl, ap, ap₂, sym, ◌∙◌}
use mathlib.Core.List.{List, [], ◌∷◌, ◌++◌}
use Prim.Native.Nat.{ℕ, ◌+◌, ◌≤◌}
use lib.ListN.{length}
use Rattle.constraint.specs.Tree.{Label}
use Rattle.constraint.specs.Constraint as constraint
use Rattle.akl.specs.Base.{Name}
use Rattle.mem_words.specs.declared.Word.{Word}
use Rattle.mem_copies.specs.Runs.{run}
use Rattle.store_words.specs.Boxes.{store_words}
use Rattle.store_words.specs.Tables.{SpeltStore}
use Rattle.solve_fields.specs.Read.{told}
use Rattle.solve_tells.specs.Tells.{apps_of}
use Rattle.work_log.specs.Logs.{stop}
use Rattle.work_marks.specs.Marks.{range_told}
use Rattle.rule_effects.proofs.Shapes.{store_balanced}
use Rattle.rule_ranges.specs.Ranges.{Range, told_all, log_words, apps_all}
use Rattle.rule_ranges.specs.Asked.{Within}
use Rattle.rule_ranges.proofs.Told.{told_store}

-- the words of the range r are those of the store σ
pub record Held (num : Name → ℕ) (W : List Word) (r : Range) (σ : constraint.Store) : Type 0 where
  pub words : run r.from r.len W ≡ store_words num σ []
  pub long : r.len ≡ length (store_words num σ [])
  pub within : r.from + r.len ≤ length W

-- each range holds the store beside it
pub data Ranged (num : Name → ℕ) (W : List Word) : List Range → List constraint.Store → Type 0 where
  no_more : Ranged num W [] []
  then : {r : Range} {rs : List Range} {σ : constraint.Store} {σs : List constraint.Store} → Held num W r σ → Ranged num W rs σs → Ranged num W (r ∷ rs) (σ ∷ σs)

-- stores, one after the other
unfoldable pub together : List constraint.Store → constraint.Store
together [] = []
together (σ ∷ σs) = σ ++ together σs

abbrev pub SpeltStores : (Name → ℕ) → (ℕ → Label) → List constraint.Store → Type 0
SpeltStores num lab [] = Unit {0}
SpeltStores num lab (σ ∷ σs) = SpeltStore num lab σ × SpeltStores num lab σs

-- the words of the log that stores take, three behind each, and the applications that begin in them
unfoldable pub log_of : (Name → ℕ) → List constraint.Store → ℕ
log_of num [] = 0
log_of num (σ ∷ σs) = length (store_words num σ []) + 3 + log_of num σs

unfoldable pub apps_of_stores : (Name → ℕ) → List constraint.Store → ℕ
apps_of_stores num [] = 0
apps_of_stores num (σ ∷ σs) = apps_of (length (store_words num σ [])) (store_words num σ [] ++ stop) + apps_of_stores num σs

module _ {num : Name → ℕ} {W : List Word} where
  pub held_told : {r : Range} {σ : constraint.Store} (lab : ℕ → Label) → SpeltStore num lab σ → Held num W r σ → range_told W r.from r.len lab ≡ σ
  held_told {r} {σ} lab p h =
      ap₂ (λ (k : ℕ) (l : List Word). told lab k (l ++ stop)) h.long h.words
      ∙ ap (told lab (length (store_words num σ []))) (sym ((store_balanced num σ).front stop))
      ∙ told_store num lab σ stop p

  pub told_ranged : {rs : List Range} {σs : List constraint.Store} (lab : ℕ → Label) → SpeltStores num lab σs → Ranged num W rs σs → told_all lab W rs ≡ together σs
  unfolding told_all together
  told_ranged lab p no_more = refl
  told_ranged lab p (then h hs) = ap₂ (λ (a b : constraint.Store). a ++ b) (held_told lab p.0 h) (told_ranged lab p.1 hs)

  pub within_ranged : {rs : List Range} {σs : List constraint.Store} → Ranged num W rs σs → Within W rs
  unfolding Within
  within_ranged no_more = tt
  within_ranged (then h hs) = (h.within, within_ranged hs)

  pub log_ranged : {rs : List Range} {σs : List constraint.Store} → Ranged num W rs σs → log_words rs ≡ log_of num σs
  unfolding log_words log_of
  log_ranged no_more = refl
  log_ranged (then h hs) = ap₂ (λ (a b : ℕ). a + 3 + b) h.long (log_ranged hs)

  pub apps_ranged : {rs : List Range} {σs : List constraint.Store} → Ranged num W rs σs → apps_all W rs ≡ apps_of_stores num σs
  unfolding apps_all apps_of_stores
  apps_ranged no_more = refl
  apps_ranged (then h hs) = ap₂ (λ (a b : ℕ). a + b) (ap₂ (λ (k : ℕ) (l : List Word). apps_of k (l ++ stop)) h.long h.words) (apps_ranged hs)
