-- Whether the words W of a configuration pass, by the tables of the working slice: m names, q query variables, the next fresh number.
-- Assumes nothing.
use Rattle.std.specs.Prelude.{◌≡◌, refl, List, Bool, true, false, ◌&&◌, ℕ, ◌≤◌, ◌<◌, leb, length}
use Rattle.std.proofs.Common.{sym, ap, ◌∙◌, arith, le-leb}
use Rattle.std.proofs.lemmas.Bool.{lt-leb}
use Rattle.akl.specs.Limits.{most_parts}
use Rattle.mem_words.specs.declared.Word.{Word}
use Rattle.store_parts.specs.declared.Among.TheVariants.{Others}
use Rattle.store_parts.specs.Counting.{parts_in}
use Rattle.check_tables.specs.Tables.{kinds_of, arities_of, Tabled, con_of, pred_of, def_of}
use Rattle.check_shapes.specs.Passed.{config_passed}
use Rattle.check_scopes.specs.Scopes.{scopes_passed}

pub record CanGoals (L : List ℕ) (m q : ℕ) (W : List Word) : Type 0 where
  pub tables : Tabled L m
  pub words : length W ≤ 28672
  pub variables : q ≤ 16

unfoldable pub goals_passed : (con pred : ℕ → Bool) (def : ℕ → ℕ → Bool) → ℕ → ℕ → List Word → Bool
goals_passed con pred def q next W = config_passed con pred def W && leb (parts_in Others W) most_parts && scopes_passed q next W

pub record GoalsChecked (L : List ℕ) (m q next : ℕ) (W : List Word) (X : List ℕ) (r : Bool) : Type 0 where
  pub is : r ≡ goals_passed (con_of m (kinds_of L)) (pred_of m (kinds_of L)) (def_of m (arities_of L)) q next W
  pub long : length X ≡ length L

pub none_passed : (con pred : ℕ → Bool) (def : ℕ → ℕ → Bool) (q next : ℕ) (W : List Word) (t : Bool) → t ≡ config_passed con pred def W → t ≡ false → false ≡ goals_passed con pred def q next W
unfolding goals_passed
none_passed con pred def q next W t e f = ap (λ (x : Bool). x && leb (parts_in Others W) most_parts && scopes_passed q next W) (sym f ∙ e)

pub over_passed : (con pred : ℕ → Bool) (def : ℕ → ℕ → Bool) (q next : ℕ) (W : List Word) (p : ℕ) → p ≡ parts_in Others W → most_parts < p → false ≡ goals_passed con pred def q next W
unfolding goals_passed
over_passed con pred def q next W p e h = go (config_passed con pred def W)
  where
    go : (a : Bool) → false ≡ (a && leb (parts_in Others W) most_parts && scopes_passed q next W)
    go false = refl
    go true = ap (λ (x : Bool). x && scopes_passed q next W) (sym (lt-leb (parts_in Others W) most_parts (omega (arith, e, h))))

pub all_passed : (con pred : ℕ → Bool) (def : ℕ → ℕ → Bool) (q next : ℕ) (W : List Word) (t : Bool) (p : ℕ) (r : Bool) → t ≡ config_passed con pred def W → t ≡ true → p ≡ parts_in Others W → p ≤ most_parts → r ≡ scopes_passed q next W → r ≡ goals_passed con pred def q next W
unfolding goals_passed
all_passed con pred def q next W t p r e f g h k =
    k
    ∙ ap (λ (x : Bool). x && scopes_passed q next W) (sym (le-leb (parts_in Others W) most_parts (omega (arith, g, h))))
    ∙ ap (λ (x : Bool). x && leb (parts_in Others W) most_parts && scopes_passed q next W) (sym f ∙ e)
