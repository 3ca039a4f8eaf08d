-- A node in its context, in the words of its configuration: where it stands. Assumes nothing.
use Rattle.std.specs.Prelude.{◌≡◌, List, [], ℕ, length}
use Rattle.std.proofs.Common.{ap, sym, ◌∙◌}
use Rattle.std.proofs.Math.Option.{Option, some}
use Rattle.akl.specs.Base.{Name}
use Rattle.akl.specs.Configuration.{Kind, Node, Ctx, plug, Config}
use Rattle.akl.specs.Places.{place, at}
use Rattle.mem_words.specs.declared.Word.{Word}
use Rattle.store_words.specs.Boxes.{node_words}
use Rattle.store_words.specs.Contexts.{before, place_at}
use Rattle.accept.proofs.PlaceLaws.{place_whole}
use Rattle.store_words.proofs.Places.{place_words}

-- W are the words of the node in its context, and then Z; the node stands at i
pub record Stands (num : Name → ℕ) {k : Kind} (χ : Ctx k) (n : Node k) (Z W : List Word) (i : ℕ) : Type 0 where
  pub whole : W ≡ node_words num (plug χ n) Z
  pub begins : i ≡ length (before num χ [])

-- The place of number p stands where `place_at` says.
pub place_stands : (num : Name → ℕ) {k : Kind} (c : Config) (p : ℕ) (χ : Ctx k) (n : Node k) (Z : List Word) → place c p ≡ some (at χ n) → Stands num χ n Z (node_words num c.root Z) (place_at (node_words num c.root Z) p)
place_stands num c p χ n Z e = record {
  whole = ap (λ g. node_words num g Z) (sym (place_whole c p (at χ n) e));
  begins = (place_words num c p χ n Z e).1;
}
