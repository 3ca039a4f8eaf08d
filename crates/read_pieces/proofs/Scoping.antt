-- A hidden list binds its names for what stands behind its colon.
use mathlib.Core.Path.{◌≡◌, refl, ap, ap₂, sym, ◌∙◌, subst}
use mathlib.Core.Logic.{◌⊎◌, inl, inr}
use mathlib.Core.List.{List, [], ◌∷◌, ◌++◌, map}
use mathlib.Core.Bool.{Bool, true, false}
use Prim.Native.Nat.{ℕ, zero, suc, ◌+◌, ◌*◌, ◌/◌, ◌≤◌, ◌<◌}
use native.Mathlib.Omega.{arith}
use lib.ListN.{length, get_or, length-append}
use Rattle.constraint.specs.Constraint.{In}
use Rattle.akl.specs.Base.{Name, repeats}
use Rattle.mem_words.specs.declared.Word.{Word}
use Rattle.read_phrases.specs.Codes.{number_at, toks}
use Rattle.read_phrases.specs.Phrases.{names, HiddenTo}
use Rattle.read_phrases.specs.declared.Phrase.TheVariants.{To}
use Rattle.read_lookups.specs.Places.{ids, repeated, length_ids, name_default}
use Rattle.read_scopes.specs.Scopes.{Bound, Bindings}
use Rattle.read_scopes.specs.TheirContracts.{CanBind, CanUnbind, Unbound, can_unbind, unbound_back}
use Rattle.read_scopes.specs.Spelled.{Own, repeated_names, in_ids}
use Rattle.read_pieces.specs.Reads.{Spelling, Scope, CanRead}

pub number_is : (L : List ℕ) (i : ℕ) → get_or L i 0 / 256 ≡ number_at L i
unfolding number_at
number_is L i = sym (name_default L i 255 (omega arith))

-- the names of a list are those of its numbers
pub names_ids : (w : ℕ → Name) (L : List ℕ) (m i : ℕ) → map w (ids L m i) ≡ names w L m i
unfolding ids names
names_ids w L zero i = refl
names_ids w L (suc m) i = ap₂ (λ (x : ℕ) (l : List Name). w x ∷ l) (number_is L i) (names_ids w L m (i + 2))

pub map_both : (w : ℕ → Name) (l m : List ℕ) → map w (l ++ m) ≡ map w l ++ map w m
map_both w [] m = refl
map_both w (x ∷ l) m = ap (λ (t : List Name). w x ∷ t) (map_both w l m)

in_either : (x : ℕ) (l m : List ℕ) → In x (l ++ m) → In x l ⊎ In x m
in_either x [] m h = inr h
in_either x (y ∷ l) m (inl e) = inl (inl e)
in_either x (y ∷ l) m (inr h) = elim (in_either x l m h) [ inl a ↦ inl (inr a) | inr a ↦ inr a ]

module _ (L B S Q D : List ℕ) (O : List Word) (at k q level : ℕ) (can : CanRead L B S Q D O at k q level) (rest count : ℕ) (hd : HiddenTo L at (To rest count)) where
  -- where the list ends
  pub hidden_place : (at + count ≤ rest) × (rest ≤ length L) × (level + count ≤ rest) × (at ≤ rest)
  hidden_place = elim hd.place [ inl u ↦ (omega (arith, u.0, u.1), omega (arith, u.1, can.inside), omega (arith, u.0, u.1, can.before), omega (arith, u.1)) | inr u ↦ (omega (arith, u.1), u.2, omega (arith, u.1, can.before), omega (arith, u.1)) ]

  -- each name of the list has a cell
  cell : (j : ℕ) → j < count → get_or L (at + 2 * j) 0 / 256 < length B
  cell j h = elim hd.place [ inl u ↦ absurd (omega (arith, u.0)) | inr u ↦ omega (arith, number_is L (at + 2 * j), can.ids (at + 2 * j) (omega (arith, u.1, u.2))) ]

  pub can_bind : CanBind L at count B level
  can_bind = record { inside = λ h. elim hd.place [ inl u ↦ absurd (omega (arith, u.0)) | inr u ↦ omega (arith, u.1, u.2) ]; names = cell; small = (let p = hidden_place in omega (arith, p.1, p.2, can.few)) }

  module _ (B₁ S₁ : List ℕ) (twice : Bool) (bind : Bindings L at count B S level level B₁ S₁ twice) where
    pub inner_scope : (E : List ℕ) → Scope B E level → Scope B₁ (E ++ ids L count at) (level + count)
    inner_scope E sc = record {
      bound = bind.binds E sc.bound sc.size;
      size = (let a = length-append E (ids L count at) in let b = length_ids L count at in let c = sc.size in omega arith);
      below = λ x h. elim (in_either x E (ids L count at) h) [ inl i ↦ omega (arith, sc.below x i, bind.size_b) | inr i ↦ (let y = in_ids x count L at i in omega (arith, cell y.0 y.1, y.2, bind.size_b)) ];
    }

    pub inner_names : (w : ℕ → Name) (E : List ℕ) → map w (E ++ ids L count at) ≡ map w E ++ names w L count at
    inner_names w E = map_both w E (ids L count at) ∙ ap (λ (l : List Name). map w E ++ l) (names_ids w L count at)

    pub inner_spelling : (w : ℕ → Name) (num : Name → ℕ) → Spelling w num (length B) → Spelling w num (length B₁)
    inner_spelling w num sp = subst (Spelling w num) (sym bind.size_b) sp

    -- whether a name is there twice
    pub inner_repeats : (w : ℕ → Name) (num : Name → ℕ) (E : List ℕ) → Spelling w num (length B) → Scope B E level → repeats (names w L count at) ≡ twice
    inner_repeats w num E sp sc =
        ap repeats (sym (names_ids w L count at))
        ∙ repeated_names w (ids L count at) (λ x h y i e. sym (sp.back x (low x h)) ∙ ap num e ∙ sp.back y (low y i))
        ∙ bind.again E sc.bound sc.size
      where
        low : (x : ℕ) → In x (ids L count at) → x < length B
        low x h = let y = in_ids x count L at h in omega (arith, cell y.0 y.1, y.2)

    -- what a statement behind the list needs
    pub inner_can : (O₁ : List Word) (k₁ : ℕ) → k₁ ≤ length O₁ → CanRead L B₁ S₁ Q D O₁ rest k₁ q (level + count)
    inner_can O₁ k₁ h =
        let p = hidden_place in
        let b = bind.size_b in
        record { known = can.known; heads = λ x i. omega (arith, can.heads x i); ids = λ i l. omega (arith, can.ids i l); cells = omega (arith, can.cells); few = can.few; before = p.2; inside = p.1; order = can.order; most = can.most; used = λ i l. omega (arith, can.used i l); out = h }

    -- the list taken back
    pub outer_can : (B₂ S₂ : List ℕ) → B₂ ≡ B₁ → length S₂ ≡ length S₁ → CanUnbind L at count B₂ S₂ level
    outer_can B₂ S₂ e l = can_unbind can_bind bind (ap length e ∙ bind.size_b) (l ∙ bind.size_s)

    pub outer_back : (B₂ S₂ B₃ : List ℕ) → B₂ ≡ B₁ → ((i : ℕ) → i < level + count → get_or S₂ i 0 ≡ get_or S₁ i 0) → Unbound L at count B₂ S₂ level B₃ → B₃ ≡ B
    outer_back B₂ S₂ B₃ e s u = unbound_back bind e (λ i a b. s i b) u
