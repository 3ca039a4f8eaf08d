-- The parameters of a definition, bound in its body. Assumes nothing.
use mathlib.Core.Path.{◌≡◌, refl, ap, sym, ◌∙◌, subst}
use mathlib.Core.Logic.{◌⊎◌, inl, inr}
use mathlib.Core.List.{List, [], ◌∷◌, ◌++◌, map}
use mathlib.Core.Bool.{Bool, true, false}
use Prim.Native.Nat.{ℕ, zero, suc, ◌+◌, ◌*◌, ◌/◌, ◌≤◌, ◌<◌}
use native.Mathlib.Omega.{arith}
use lib.ListN.{length, get_or}
use Rattle.constraint.specs.Constraint.{In}
use Rattle.akl.specs.Base.{Name, repeats}
use Rattle.mem_words.specs.declared.Word.{Word}
use Rattle.read_phrases.specs.Codes.{number_at}
use Rattle.read_phrases.specs.Phrases.{names}
use Rattle.read_lookups.specs.Places.{ids, length_ids, name_default}
use Rattle.read_scopes.specs.Scopes.{Bound, Bindings}
use Rattle.read_scopes.specs.TheirContracts.{CanBind, CanUnbind, Unbound, can_unbind, unbound_back}
use Rattle.read_scopes.specs.Spelled.{repeated_names, in_ids}
use Rattle.read_pieces.specs.Reads.{Spelling, Scope, CanRead}
use Rattle.read_pieces.proofs.Scoping.{number_is, names_ids}
use Rattle.read_definitions.specs.Definitions.{Opened}

module _ (L B S Q D : List ℕ) (O : List Word) (at k : ℕ) (can : CanRead L B S Q D O at k 0 0) (name count body : ℕ) (op : Opened L at name count body) where
  -- where the body begins
  pub body_place : (at + 2 ≤ body) × (count ≤ body) × (at + 2 + 2 * count ≤ body + 2)
  body_place = elim op.place [ inl u ↦ (omega (arith, u.1), omega (arith, u.0, u.1), omega (arith, u.0, u.1)) | inr u ↦ (omega (arith, u.1), omega (arith, u.1), omega (arith, u.1)) ]

  -- each parameter has a cell
  cell : (j : ℕ) → j < count → get_or L (at + 2 + 2 * j) 0 / 256 < length B
  cell j h = elim op.place [ inl u ↦ absurd (omega (arith, u.0)) | inr u ↦ omega (arith, number_is L (at + 2 + 2 * j), can.ids (at + 2 + 2 * j) (omega (arith, u.1, op.inside))) ]

  pub can_bind : CanBind L (at + 2) count B 0
  can_bind = record { inside = λ h. elim op.place [ inl u ↦ absurd (omega (arith, u.0)) | inr u ↦ omega (arith, u.1, op.inside) ]; names = cell; small = omega (arith, op.few) }

  module _ (B₁ S₁ : List ℕ) (twice : Bool) (bind : Bindings L (at + 2) count B S 0 0 B₁ S₁ twice) where
    pub inner_scope : Scope B [] 0 → Scope B₁ (ids L count (at + 2)) count
    inner_scope sc = record {
      bound = bind.binds [] sc.bound sc.size;
      size = length_ids L count (at + 2);
      below = λ x h. (let y = in_ids x count L (at + 2) h in omega (arith, cell y.0 y.1, y.2, bind.size_b));
    }

    pub inner_spelling : (w : ℕ → Name) (num : Name → ℕ) → Spelling w num (length B) → Spelling w num (length B₁)
    inner_spelling w num sp = subst (Spelling w num) (sym bind.size_b) sp

    -- whether a parameter is there twice
    pub inner_repeats : (w : ℕ → Name) (num : Name → ℕ) → Spelling w num (length B) → Scope B [] 0 → repeats (names w L count (at + 2)) ≡ twice
    inner_repeats w num sp sc =
        ap repeats (sym (names_ids w L count (at + 2)))
        ∙ repeated_names w (ids L count (at + 2)) (λ x h y i e. sym (sp.back x (low x h)) ∙ ap num e ∙ sp.back y (low y i))
        ∙ bind.again [] sc.bound sc.size
      where
        low : (x : ℕ) → In x (ids L count (at + 2)) → x < length B
        low x h = let y = in_ids x count L (at + 2) h in omega (arith, cell y.0 y.1, y.2)

    -- what the body needs
    pub inner_can : (O₁ : List Word) (k₁ : ℕ) → k₁ ≤ length O₁ → CanRead L B₁ S₁ Q D O₁ body k₁ 0 count
    inner_can O₁ k₁ h =
        let p = body_place in
        let b = bind.size_b in
        record { known = can.known; heads = λ x i. omega (arith, can.heads x i); ids = λ i l. omega (arith, can.ids i l); cells = omega (arith, can.cells); few = can.few; before = p.1; inside = op.inside; order = can.order; most = can.most; used = λ i l. omega (arith, can.used i l); out = h }

    -- the parameters taken back
    pub outer_can : (B₂ S₂ : List ℕ) → B₂ ≡ B₁ → length S₂ ≡ length S₁ → CanUnbind L (at + 2) count B₂ S₂ 0
    outer_can B₂ S₂ e l = can_unbind can_bind bind (ap length e ∙ bind.size_b) (l ∙ bind.size_s)

    pub outer_back : (B₂ S₂ B₃ : List ℕ) → B₂ ≡ B₁ → ((i : ℕ) → i < count → get_or S₂ i 0 ≡ get_or S₁ i 0) → Unbound L (at + 2) count B₂ S₂ 0 B₃ → B₃ ≡ B
    outer_back B₂ S₂ B₃ e s u = unbound_back bind e (λ i a b. s i (omega (arith, b))) u
