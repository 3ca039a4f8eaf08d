-- The brackets that are open behind a word. Assumes nothing.
use mathlib.Core.Path.{◌≡◌, refl, ap, sym, ◌∙◌, subst}
use mathlib.Core.Bool.{Bool, true, false}
use mathlib.Core.List.{List, [], ◌∷◌}
use Prim.Native.Nat.{ℕ, ◌+◌, ◌-◌, ◌<◌, ◌≤◌}
use native.Mathlib.Omega.{arith}
use lib.ListN.{length, get_or}
use Rattle.mem_numbers.specs.Stored.{stored_same, stored_other}
use Rattle.mem_words.specs.declared.Word.{Word}
use Rattle.mem_words.specs.declared.Word.TheVariants.{Bad}
use Rattle.mem_parts.specs.Parts.{Outside}
use Rattle.work_tables.specs.Tables.{CanWrite}
use Rattle.rule_words.specs.Scans.{opens, closes, around}
use Rattle.rule_effects.specs.Conditions.{ends_at}
use Rattle.step_open.specs.Opened.{Opened, Chain}
use Rattle.step_open.proofs.Turns.{false_true, opening_closes, around_in}
use Rattle.step_open.proofs.Chains.{chain_few, opened_in, opened_out, opened_keep, opened_none}
use Rattle.step_path.specs.Paths.{path_of, Placed, Path, Before, CanPass, Passed, PutPlace}
use Rattle.step_path.proofs.Paths.{length_path}

-- entries above are of no matter
placed_kept : (P Q os : List ℕ) → ((i : ℕ) → i < length os → get_or Q i 0 ≡ get_or P i 0) → Placed P os → Placed Q os
unfolding Placed
placed_kept P Q [] h p = tt
placed_kept P Q (o ∷ os) h p = (h (length os) (omega arith) ∙ p.0, placed_kept P Q os (λ i l. h i (omega arith)) p.1)

-- as many as words stand before
pub path_few : {W : List Word} {g : ℕ} {X : List ℕ} {j h : ℕ} → Path W g X j h → g + h ≤ j
path_few {W} {g} {X} {j} {h} p = omega (arith, p.height, chain_few W g j p.brackets p.opened.chain)

pub path_first : (W : List Word) (g : ℕ) (X : List ℕ) → Opened W g g [] → Path W g X g 0
unfolding Placed
path_first W g X o = record { brackets = []; opened = o; placed = tt; height = refl }

-- the table is as it was
pub path_still : {W : List Word} {g : ℕ} {X Y : List ℕ} {j h : ℕ} → path_of Y ≡ path_of X → Path W g X j h → Path W g Y j h
path_still e p = record { brackets = p.brackets; opened = p.opened; placed = subst (λ (P : List ℕ). Placed P p.brackets) (sym e) p.placed; height = p.height }

pub place_can : {W : List Word} {X : List ℕ} {j h : ℕ} → CanPass W X j h → CanWrite X 28672 h 65536 j
place_can c = record { laid = c.laid; inside = omega (arith, path_few c.path, c.before.low, c.before.whole, c.few); small = omega (arith, c.before.low, c.before.whole, c.few) }

same_out : (L : List ℕ) → Outside 466944 524288 L L
same_out L = record { before = refl; after = refl; long = refl }

module _ (W : List Word) (L : List ℕ) (j h : ℕ) (c : CanPass W L j h) (x : Word) (ex : x ≡ get_or W j Bad) (b : Bool) (eb : b ≡ opens x 0) where
  opening : (v : Bool) → b ≡ v → opens (get_or W j Bad) 0 ≡ v
  opening v z = ap (λ (y : Word). opens y 0) (sym ex) ∙ sym eb ∙ z

  -- it opens a bracket
  pub pass_opens : b ≡ true → (X : List ℕ) → PutPlace L h j X → Passed W L j h X (h + 1)
  unfolding Placed
  pass_opens z X q = record {
    on = λ g f p. record {
      brackets = j ∷ p.brackets;
      opened = opened_in W g j (omega (arith, f.low, f.whole)) p.brackets (opening true z) p.opened;
      placed = (
        ap (λ (i : ℕ). get_or (path_of X) i 0) p.height ∙ stored_same 0 q.list (omega (arith, length_path c.laid, (place_can c).inside)),
        placed_kept (path_of L) (path_of X) p.brackets (λ i l. stored_other i 0 q.list (λ e. omega (arith, e, l, p.height))) p.placed,
      );
      height = omega (arith, p.height);
    };
    rest = q.rest;
  }

  module _ (z : b ≡ false) (e : Bool) (ee : e ≡ ends_at W j) where
    closing : (v : Bool) → e ≡ v → closes (get_or W j Bad) 0 ≡ v
    unfolding ends_at
    closing v y = sym ee ∙ y

    -- it closes one
    pub pass_closes : e ≡ true → Passed W L j h L (h - 1)
    unfolding Placed
    pass_closes y = record { on = λ g f p. go g f p.brackets p.opened p.placed p.height; rest = same_out L }
      where
        go : (g : ℕ) → Before W g j → (os : List ℕ) → Opened W g j os → Placed (path_of L) os → length os ≡ h → Path W g L (j + 1) (h - 1)
        go g f [] o p k = absurd (false_true (opening_closes (get_or W g Bad) 0 f.first ∙ ap (λ (i : ℕ). closes (get_or W i Bad) 0) (sym (opened_none W g j o)) ∙ closing true y))
        go g f (i ∷ os) o p k = record { brackets = os; opened = opened_out W g j (omega (arith, f.low, f.whole)) i os (closing true y) f.low o; placed = p.1; height = omega (arith, k) }

    pub some_open : e ≡ true → 1 ≤ h
    some_open y = go c.path.brackets c.path.opened c.path.height
      where
        go : (os : List ℕ) → Opened W c.goal j os → length os ≡ h → 1 ≤ h
        go [] o k = absurd (false_true (opening_closes (get_or W c.goal Bad) 0 c.before.first ∙ ap (λ (i : ℕ). closes (get_or W i Bad) 0) (sym (opened_none W c.goal j o)) ∙ closing true y))
        go (i ∷ os) o k = omega (arith, k)

    -- it does neither
    pub pass_else : e ≡ false → Passed W L j h L h
    pass_else y = record {
      on = λ g f p. record { brackets = p.brackets; opened = opened_keep W g f.first j (omega (arith, f.low, f.whole)) p.brackets (opening false z) (closing false y) p.opened; placed = p.placed; height = p.height };
      rest = same_out L;
    }

-- ---------------------------------------------------------------------------------------------
-- Behind the first word of a bracket at i, which is not the goal's first: what is around i.

module _ {W : List Word} {g : ℕ} {X : List ℕ} {j h : ℕ} (p : Path W g X j h) (i : ℕ) (e : i ≡ j - 1) (l : g + 2 ≤ j) (b : opens (get_or W i Bad) 0 ≡ true) where
  next_is : i + 1 ≡ j
  next_is = omega (arith, e, l)

  inner_is : around W j ≡ i
  inner_is = ap (around W) (sym next_is) ∙ around_in W i b

  pub path_around : (2 ≤ h) × (get_or (path_of X) (h - 2) 0 ≡ around W i)
  unfolding Chain Placed
  path_around = go p.brackets p.opened.chain p.placed p.height
    where
      go : (os : List ℕ) → Chain W g j os → Placed (path_of X) os → length os ≡ h → (2 ≤ h) × (get_or (path_of X) (h - 2) 0 ≡ around W i)
      go [] c q k = absurd (omega (arith, c, l))
      go (o ∷ []) c q k = absurd (omega (arith, c.0, c.3, inner_is, e, l))
      go (o ∷ a ∷ os) c q k =
          let z : length os ≡ h - 2 = omega (arith, k) in
          (omega (arith, k), ap (λ (n : ℕ). get_or (path_of X) n 0) (sym z) ∙ q.1.0 ∙ sym c.3.0 ∙ ap (around W) (sym c.0 ∙ inner_is))
