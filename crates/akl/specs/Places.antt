-- Places. Document 01: "Places number boxes, guarded goals and and-box members from 0, parent before child, left to
-- right. Stored constraints and bodies have none."
use Rattle.std.specs.Prelude.{List, [], ◌∷◌, ◌++◌, Bool, ◌&&◌, ℕ, suc, ◌+◌, leb, ltb}
use Rattle.std.proofs.Math.Option.{Option}
use Rattle.akl.specs.Base.{nth}
use Rattle.akl.specs.Configuration.{Kind, Node, or, and, stmt, choice_box, guard, Nodes, nil, cons, ◌+n◌, one, Ctx, top, in_or, in_and, in_choice, in_guard, Config}

-- A node in its context.
pub data Place : Type 0 where
  at : {k : Kind} → Ctx k → Node k → Place

-- All places at or inside a node, in their order.
unfoldable mutual
  pub places : {k : Kind} → Node k → Ctx k → List Place
  places (or ns) χ = at χ (or ns) ∷ places_all ns (in_or χ) nil
  places (and vs σ ms) χ = at χ (and vs σ ms) ∷ places_all ms (in_and χ vs σ) nil
  places (stmt s) χ = at χ (stmt s) ∷ []
  places (choice_box op gs) χ = at χ (choice_box op gs) ∷ places_all gs (in_choice χ op) nil
  places (guard g b) χ = at χ (guard g b) ∷ places g (in_guard χ b)

  -- of nodes side by side: `around` takes what is to the left and to the right of one of them
  pub places_all : {k : Kind} → Nodes k → (Nodes k → Nodes k → Ctx k) → Nodes k → List Place
  places_all nil around l = []
  places_all (cons n ns) around l = places n (around l ns) ++ places_all ns around (l +n one n)

-- The place of a number in a configuration, if there is one.
unfoldable pub place : Config → ℕ → Option Place
place c p = nth (places c.root top) p

-- How many places there are at and inside a node.
unfoldable mutual
  pub count : {k : Kind} → Node k → ℕ
  count (or ns) = suc (counts ns)
  count (and vs σ ms) = suc (counts ms)
  count (stmt s) = 1
  count (choice_box op gs) = suc (counts gs)
  count (guard g b) = suc (count g)

  pub counts : {k : Kind} → Nodes k → ℕ
  counts nil = 0
  counts (cons n ns) = count n + counts ns

-- The number of the place that has this context.
unfoldable pub place_number : {k : Kind} → Ctx k → ℕ
place_number top = 0
place_number (in_or χ l r) = suc (place_number χ + counts l)
place_number (in_and χ vs σ l r) = suc (place_number χ + counts l)
place_number (in_choice χ op l r) = suc (place_number χ + counts l)
place_number (in_guard χ b) = suc (place_number χ)

-- the number of what holds the node: the box or guarded goal around it (the top or-box is held by nothing: 0)
unfoldable pub holder_number : {k : Kind} → Ctx k → ℕ
holder_number top = 0
holder_number (in_or χ l r) = place_number χ
holder_number (in_and χ vs σ l r) = place_number χ
holder_number (in_choice χ op l r) = place_number χ
holder_number (in_guard χ b) = place_number χ

-- Is the place of number p at or inside the node in this context?
unfoldable pub inside : {k : Kind} → Ctx k → Node k → ℕ → Bool
inside χ n p = leb (place_number χ) p && ltb p (place_number χ + count n)
