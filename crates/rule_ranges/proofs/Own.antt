-- The range of an and-box's store holds its store.
use mathlib.Core.Path.{◌≡◌, ap, ap₂, ◌∙◌}
use mathlib.Core.List.{List, [], ◌∷◌, ◌++◌}
use Prim.Native.Nat.{ℕ, ◌+◌, ◌≤◌}
use native.Mathlib.Omega.{arith}
use lib.ListN.{length, take}
use lib.Seq.{take-append_seam}
use Rattle.constraint.specs.Tree.{Label}
use Rattle.constraint.specs.Constraint as constraint
use Rattle.akl.specs.Base.{Name}
use Rattle.akl.specs.Configuration as akl
use Rattle.akl.specs.Configuration.{goal, member, Node, or, and, choice_box, guard, Nodes, nil, cons, ◌+n◌, Ctx, top, in_or, in_and, in_choice, in_guard, plug}
use Rattle.mem_words.specs.declared.Word.{Word}
use Rattle.mem_words.specs.declared.Word.TheVariants.{End}
use Rattle.mem_copies.specs.Runs.{run}
use Rattle.store_words.specs.Boxes.{local_words, store_words, node_words, nodes_words}
use Rattle.store_words.specs.Contexts.{before, after}
use Rattle.store_words.specs.Tables.{SpeltStore, SpeltNode, SpeltNodes}
use Rattle.work_marks.specs.Marks.{range_told}
use Rattle.rule_words.specs.Pieces.{cat}
use Rattle.rule_words.proofs.Segments.{size, size_cat, seg_drop}
use Rattle.rule_effects.specs.Effects.{locals_end, store_end}
use Rattle.rule_effects.specs.Standing.{Stands}
use Rattle.rule_effects.proofs.Frames.{E, AL, ES, stands_seg, head_seg}
use Rattle.rule_effects.proofs.Stores.{heads}
use Rattle.rule_ranges.specs.Ranges.{store_range}
use Rattle.rule_ranges.proofs.Ranged.{Held, held_told}

-- ---------------------------------------------------------------------------------------------
-- What is spelt of a whole is spelt of a node in it.

module _ (num : Name → ℕ) (lab : ℕ → Label) where
  spelt_middle : {k : akl.Kind} (l : Nodes k) (n : Node k) (r : Nodes k) → SpeltNodes num lab (l +n cons n r) → SpeltNode num lab n
  unfolding ◌+n◌
  spelt_middle nil n r p = p.0
  spelt_middle (cons m l) n r p = spelt_middle l n r p.1

  pub spelt_in : {k : akl.Kind} (χ : Ctx k) (n : Node k) → SpeltNode num lab (plug χ n) → SpeltNode num lab n
  unfolding plug
  spelt_in top n p = p
  spelt_in (in_or χ l r) n p = spelt_middle l n r (spelt_in χ (or (l +n cons n r)) p)
  spelt_in (in_and χ vs σ l r) n p = spelt_middle l n r (spelt_in χ (and vs σ (l +n cons n r)) p).1
  spelt_in (in_choice χ op l r) n p = spelt_middle l n r (spelt_in χ (choice_box op (l +n cons n r)) p)
  spelt_in (in_guard χ b) n p = (spelt_in χ (guard n b) p).0

-- ---------------------------------------------------------------------------------------------

-- a run of words among segments
seg_run : (X : List (List Word)) (B C W : List Word) (i n : ℕ) → W ≡ cat X (B ++ C) → i ≡ size X → n ≡ length B → run i n W ≡ B
unfolding run
seg_run X B C W i n w p q = ap₂ take q (seg_drop X (B ++ C) W i w p) ∙ take-append_seam B C

module _ (num : Name → ℕ) {χ : Ctx goal} {vs : List ℕ} {σ : constraint.Store} {ms : Nodes member} {Z W : List Word} {o : ℕ} where
  parts : Stands num χ (and vs σ ms) Z W o → W ≡ cat (before num χ [] ∷ AL ∷ local_words vs [] ∷ ES ∷ store_words num σ [] ∷ E ∷ []) (nodes_words num ms (End ∷ after num χ Z))
  unfolding node_words
  parts s = stands_seg num s ∙ ap (cat (before num χ [] ∷ AL ∷ [])) (head_seg num vs σ (nodes_words num ms (End ∷ after num χ Z)))

  -- where it begins, and how long it is
  ends : Stands num χ (and vs σ ms) Z W o
      → (locals_end W o ≡ size (before num χ [] ∷ AL ∷ local_words vs [] ∷ [])) × (store_end W o ≡ size (before num χ [] ∷ AL ∷ local_words vs [] ∷ ES ∷ store_words num σ [] ∷ []))
  ends s = heads num vs σ (before num χ []) (nodes_words num ms (End ∷ after num χ Z)) W o (parts s) s.begins

  pub store_held : Stands num χ (and vs σ ms) Z W o → Held num W (store_range W o) σ
  unfolding store_range
  store_held s =
      let P = before num χ [] in
      let U = local_words vs [] in
      let S = store_words num σ [] in
      let h = ends s in
      let e0 = h.0 in
      let e1 = h.1 in
      let w = ap length (parts s) ∙ size_cat (P ∷ AL ∷ U ∷ ES ∷ S ∷ E ∷ []) (nodes_words num ms (End ∷ after num χ Z)) in
      record {
        words = seg_run (P ∷ AL ∷ U ∷ ES ∷ []) S (End ∷ nodes_words num ms (End ∷ after num χ Z)) W (store_range W o).from (store_range W o).len (parts s) (omega (arith, e0)) (omega (arith, e0, e1));
        long = omega (arith, e0, e1);
        within = omega (arith, e0, e1, w);
      }

  pub store_told : (lab : ℕ → Label) → SpeltStore num lab σ → Stands num χ (and vs σ ms) Z W o → range_told W (store_range W o).from (store_range W o).len lab ≡ σ
  store_told lab p s = held_told lab p (store_held s)

  pub store_within : Stands num χ (and vs σ ms) Z W o → (store_range W o).from + (store_range W o).len ≤ length W
  store_within s = (store_held s).within
