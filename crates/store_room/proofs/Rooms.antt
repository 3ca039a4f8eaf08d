-- The stores at and around a node take at most 12 words of a log for each part, and have at most one constraint for each part.
use mathlib.Core.List.{List, [], ◌∷◌, ◌++◌}
use Prim.Native.Nat.{ℕ, ◌+◌, ◌*◌, ◌≤◌}
use native.Mathlib.Omega.{arith}
use lib.ListN.{length, length-map}
use Rattle.constraint.specs.Constraint.{Con, ctrue, cfail, ceq, capp, map_con, Store}
use Rattle.akl.specs.Base.{Name, size}
use Rattle.akl.specs.Syntax.{number}
use Rattle.akl.specs.Configuration.{Kind, Node, or, and, stmt, choice_box, guard, Nodes, nil, cons, ◌+n◌, Ctx, top, in_or, in_and, in_choice, in_guard, plug}
use Rattle.akl.specs.Parts.{parts, parts_all}
use Rattle.store_words.specs.Boxes.{store_words}
use Rattle.store_words.specs.Tables.{FewCon, FewStore, FewNode, FewNodes}
use Rattle.store_words.proofs.Sizes.{con_size}
use Rattle.store_room.specs.Stores.{context_stores, own_stores, node_stores, words_needed, constraints_in}

-- no list of arguments in them is longer than m
abbrev pub FewStores : ℕ → List Store → Type 0
FewStores m [] = Unit {0}
FewStores m (σ ∷ σs) = FewStore m σ × FewStores m σs

few_numbers : (c : Con ℕ) → FewCon 8 c → FewCon 8 (map_con number c)
few_numbers ctrue h = tt
few_numbers cfail h = tt
few_numbers (ceq x y) h = tt
few_numbers (capp x f ys) h = omega (arith, h, length-map ys number)

store_most : (num : Name → ℕ) (σ : Store) → FewStore 8 σ → length (store_words num σ []) ≤ 12 * size σ
unfolding store_words size
store_most num [] h = omega arith
store_most num (c ∷ σ) h = omega (arith, con_size num (map_con number c) (store_words num σ []) (few_numbers c h.0), store_most num σ h.1)

parts_mid : {k : Kind} (l r : Nodes k) (n : Node k) → parts n ≤ parts_all (l +n cons n r)
unfolding parts ◌+n◌
parts_mid nil r n = omega arith
parts_mid (cons m l) r n = omega (arith, parts_mid l r n)

few_mid : {k : Kind} (l r : Nodes k) (n : Node k) → FewNodes 8 (l +n cons n r) → FewNode 8 n
unfolding ◌+n◌
few_mid nil r n h = h.0
few_mid (cons m l) r n h = few_mid l r n h.1

pub few_around : {k : Kind} (χ : Ctx k) (n : Node k) → FewNode 8 (plug χ n) → FewNode 8 n × FewStores 8 (context_stores χ)
unfolding plug context_stores
few_around top n h = (h, tt)
few_around (in_or χ l r) n h = let w = few_around χ (or (l +n cons n r)) h in (few_mid l r n w.0, w.1)
few_around (in_and χ vs σ l r) n h = let w = few_around χ (and vs σ (l +n cons n r)) h in (few_mid l r n w.0.1, (w.0.0, w.1))
few_around (in_choice χ op l r) n h = let w = few_around χ (choice_box op (l +n cons n r)) h in (few_mid l r n w.0, w.1)
few_around (in_guard χ b) n h = let w = few_around χ (guard n b) h in (w.0.0, w.1)

-- The stores around a node, beside its own parts.
pub words_around : (num : Name → ℕ) {k : Kind} (χ : Ctx k) (n : Node k) → FewStores 8 (context_stores χ) → words_needed num (context_stores χ) + 12 * parts n ≤ 12 * parts (plug χ n)
unfolding plug context_stores words_needed parts
words_around num top n h = omega arith
words_around num (in_or χ l r) n h = omega (arith, words_around num χ (or (l +n cons n r)) h, parts_mid l r n)
words_around num (in_and χ vs σ l r) n h = omega (arith, words_around num χ (and vs σ (l +n cons n r)) h.1, parts_mid l r n, store_most num σ h.0)
words_around num (in_choice χ op l r) n h = omega (arith, words_around num χ (choice_box op (l +n cons n r)) h, parts_mid l r n)
words_around num (in_guard χ b) n h = omega (arith, words_around num χ (guard n b) h)

pub sizes_around : {k : Kind} (χ : Ctx k) (n : Node k) → constraints_in (context_stores χ) + parts n ≤ parts (plug χ n)
unfolding plug context_stores constraints_in parts
sizes_around top n = omega arith
sizes_around (in_or χ l r) n = omega (arith, sizes_around χ (or (l +n cons n r)), parts_mid l r n)
sizes_around (in_and χ vs σ l r) n = omega (arith, sizes_around χ (and vs σ (l +n cons n r)), parts_mid l r n)
sizes_around (in_choice χ op l r) n = omega (arith, sizes_around χ (choice_box op (l +n cons n r)), parts_mid l r n)
sizes_around (in_guard χ b) n = omega (arith, sizes_around χ (guard n b))

-- With the node's own.
own_most : (num : Name → ℕ) {k : Kind} (n : Node k) (σs : List Store) → FewNode 8 n → words_needed num (own_stores n ++ σs) ≤ words_needed num σs + 12 * parts n
unfolding own_stores words_needed parts
own_most num (or ns) σs h = omega arith
own_most num (and vs σ ms) σs h = omega (arith, store_most num σ h.0)
own_most num (stmt s) σs h = omega arith
own_most num (choice_box op gs) σs h = omega arith
own_most num (guard g b) σs h = omega arith

own_sizes : {k : Kind} (n : Node k) (σs : List Store) → constraints_in (own_stores n ++ σs) ≤ constraints_in σs + parts n
unfolding own_stores constraints_in parts
own_sizes (or ns) σs = omega arith
own_sizes (and vs σ ms) σs = omega arith
own_sizes (stmt s) σs = omega arith
own_sizes (choice_box op gs) σs = omega arith
own_sizes (guard g b) σs = omega arith

pub words_at : (num : Name → ℕ) {k : Kind} (χ : Ctx k) (n : Node k) → FewNode 8 (plug χ n) → words_needed num (node_stores χ n) ≤ 12 * parts (plug χ n)
unfolding node_stores
words_at num χ n h = let w = few_around χ n h in omega (arith, own_most num n (context_stores χ) w.0, words_around num χ n w.1)

pub sizes_at : {k : Kind} (χ : Ctx k) (n : Node k) → constraints_in (node_stores χ n) ≤ parts (plug χ n)
unfolding node_stores
sizes_at χ n = omega (arith, own_sizes n (context_stores χ), sizes_around χ n)
