-- A position between two goals of an or-box that has nothing but or-boxes around it, and where the walk goes from there.
use mathlib.Core.Path.{◌≡◌, refl, ap, ◌∙◌}
use mathlib.Core.List.{List, [], ◌∷◌, ◌++◌}
use Prim.Native.Nat.{ℕ, ◌+◌, ◌<◌}
use native.Mathlib.Omega.{arith}
use lib.ListN.{length, get_or, length-append}
use Rattle.akl.specs.Base.{Name}
use Rattle.akl.specs.Configuration.{goal, Node, or, Nodes, nil, cons, ◌+n◌, one, Ctx, top, in_or, plug}
use Rattle.akl.specs.Places.{at}
use Rattle.akl.specs.Rules.{empty}
use Rattle.runs.specs.AnswerPlaces.{OrsAround}
use Rattle.mem_words.specs.declared.Word.{Word}
use Rattle.mem_words.specs.declared.Word.TheVariants.{End, Place, Bad}
use Rattle.mem_sorts.specs.declared.Kind.TheVariants.{Or}
use Rattle.mem_sorts.specs.Shapes.{kind_no}
use Rattle.store_words.specs.Boxes.{node_words, nodes_words}
use Rattle.store_words.specs.Contexts.{before, after, kind_of}
use Rattle.store_form.specs.State.{State, table, number_in}
use Rattle.store_form.specs.Form.{config_words}
use Rattle.rule_words.proofs.Balance.{seg_ends}
use Rattle.rule_effects.specs.Effects.{behind}
use Rattle.rule_effects.specs.Conditions.{ends_at, kind_in}
use Rattle.rule_effects.proofs.Shapes.{node_tree}
use Rattle.rule_effects.proofs.Frames.{nodes_seg, before_seg, side, or_side}
use Rattle.rule_effects.proofs.Conditions.{ends_nodes, kind_node}
use Rattle.step_meant.specs.Meant.{StandsAt}

-- the goals l of the or-box stand before j, the goals r from j on
pub record Between (s : State) (χ : Ctx goal) (l r : Nodes goal) (j : ℕ) : Type 0 where
  pub ors : OrsAround χ
  pub whole : s.config.root ≡ plug χ (or (l +n r))
  pub begins : j ≡ length (before (number_in (table s)) (in_or χ l r) [])

mid : (l r : Nodes goal) (n : Node goal) → l +n cons n r ≡ (l +n one n) +n r
unfolding ◌+n◌
mid nil r n = refl
mid (cons m l) r n = ap (cons m) (mid l r n)

-- one goal more before the position
further : (num : Name → ℕ) (χ : Ctx goal) (l r r' : Nodes goal) (n : Node goal) → length (before num (in_or χ (l +n one n) r') []) ≡ length (before num (in_or χ l r) []) + length (node_words num n [])
unfolding before nodes_words
further num χ l r r' n =
    ap (λ (u : List Word). length (before num χ (Place Or ∷ u))) (side num l (one n) [])
    ∙ ap length (before_seg num (in_or χ l r) (node_words num n []))
    ∙ length-append (before num (in_or χ l r) []) (node_words num n [])

module _ (s : State) (W : List Word) (w : W ≡ config_words s) where
  abbrev num : Name → ℕ
  num = number_in (table s)

  -- the words there
  words_here : (χ : Ctx goal) (l r : Nodes goal) (j : ℕ) → Between s χ l r j → W ≡ before num (in_or χ l r) [] ++ nodes_words num r (End ∷ after num χ [])
  unfolding config_words
  words_here χ l r j b = w ∙ ap (λ (g : Node goal). node_words num g []) b.whole ∙ or_side num χ l r r []

  pub inside_words : (χ : Ctx goal) (l r : Nodes goal) (j : ℕ) → Between s χ l r j → j < length W
  inside_words χ l r j b =
      let P = before num (in_or χ l r) [] in
      let Q = End ∷ after num χ [] in
      let e = ap length (words_here χ l r j b) ∙ length-append P (nodes_words num r Q) in
      let f = ap length (nodes_seg num r Q) ∙ length-append (nodes_words num r []) Q in
      let h = b.begins in
      omega (arith, e, f, h)

  -- the box ends there, or a goal stands there
  pub ends_here : (χ : Ctx goal) (l r : Nodes goal) (j : ℕ) → Between s χ l r j → ends_at W j ≡ empty r
  ends_here χ l r j b = let h = b.begins in ends_nodes num r (before num (in_or χ l r) [] ∷ []) (after num χ []) W j (words_here χ l r j b) (omega (arith, h))

  module _ (χ : Ctx goal) (l r : Nodes goal) (n : Node goal) (j : ℕ) (b : Between s χ l (cons n r) j) where
    pub stands_here : StandsAt s W (at (in_or χ l r) n) j
    unfolding config_words plug before
    stands_here = record { whole = w ∙ ap (λ (g : Node goal). node_words num g []) b.whole; begins = b.begins }

    pub kind_here : kind_in (get_or W j Bad) ≡ kind_no (kind_of n)
    unfolding nodes_words
    kind_here = let h = b.begins in kind_node num n (before num (in_or χ l (cons n r)) [] ∷ []) _ W j (words_here χ l (cons n r) j b) (omega (arith, h))

    -- behind that goal
    pub goes_on : Between s χ (l +n one n) r (behind W j)
    unfolding nodes_words
    goes_on =
        let h = b.begins in
        let e = seg_ends (node_words num n) (node_tree num n) (before num (in_or χ l (cons n r)) [] ∷ []) _ W j (words_here χ l (cons n r) j b) (omega (arith, h)) in
        let f = further num χ l (cons n r) r n in
        record { ors = b.ors; whole = b.whole ∙ ap (λ (m : Nodes goal). plug χ (or m)) (mid l r n); begins = omega (arith, h, e, f) }

  -- into an or-box
  pub goes_in : (χ : Ctx goal) (l r ns : Nodes goal) (j : ℕ) → Between s χ l (cons (or ns) r) j → Between s (in_or χ l r) nil ns (j + 1)
  unfolding before plug nodes_words ◌+n◌
  goes_in χ l r ns j b =
      let h = b.begins in
      let e = ap length (before_seg num (in_or χ l r) (Place Or ∷ [])) ∙ length-append (before num (in_or χ l r) []) (Place Or ∷ []) in
      record { ors = b.ors; whole = b.whole; begins = omega (arith, h, e) }

  -- out of it
  pub goes_out : (χ : Ctx goal) (a b l : Nodes goal) (j : ℕ) → Between s (in_or χ a b) l nil j → Between s χ (a +n one (or (l +n nil))) b (j + 1)
  unfolding before plug nodes_words
  goes_out χ a b l j p =
      let m = or (l +n nil) in
      let h = p.begins in
      let P = before num (in_or χ a b) [] in
      let e = ap length (before_seg num (in_or χ a b) (Place Or ∷ nodes_words num l [])) ∙ length-append P (Place Or ∷ nodes_words num l []) in
      let f = further num χ a b b m in
      let g = ap length (side num l nil (End ∷ []) ∙ nodes_seg num l (End ∷ [])) ∙ length-append (nodes_words num l []) (End ∷ []) in
      record { ors = p.ors; whole = p.whole ∙ ap (λ (z : Nodes goal). plug χ (or z)) (mid a b m); begins = omega (arith, h, e, f, g) }

  -- the top or-box ends with the words
  pub goes_last : (l : Nodes goal) (j : ℕ) → Between s top l nil j → j + 1 ≡ length W
  unfolding after nodes_words
  goes_last l j b =
      let e = ap length (words_here top l nil j b) ∙ length-append (before num (in_or top l nil) []) (End ∷ []) in
      let h = b.begins in
      omega (arith, h, e)

  -- its first goal stands behind the first word
  pub goes_first : (ns : Nodes goal) → s.config.root ≡ or ns → Between s top nil ns 1
  unfolding before plug nodes_words ◌+n◌
  goes_first ns e = record { ors = tt; whole = e; begins = refl }
