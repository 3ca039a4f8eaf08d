-- A configuration's words around a node: what is before it, its words, what is behind. Place p is the p-th `Place` word.
use mathlib.Core.Path.{◌≡◌, refl, ap, ap₂, sym, ◌∙◌}
use mathlib.Core.List.{List, [], ◌∷◌, ◌++◌}
use mathlib.Core.Option.{Option, some, none}
use Prim.Native.Nat.{ℕ, zero, suc, ◌+◌, ◌≤◌}
use native.Mathlib.Omega.{arith}
use lib.ListN.{length}
use Rattle.constraint.specs.Constraint.{Con, ctrue, cfail, ceq, capp, map_con}
use Rattle.constraint.specs.Constraint as constraint
use Rattle.akl.specs.Base.{Name, nth, size}
use Rattle.akl.specs.Syntax.{Var, number, level, Stmt, atom, call, comp, hide, choice, Clauses, no_more, clause}
use Rattle.akl.specs.Configuration as akl
use Rattle.akl.specs.Configuration.{Node, or, and, stmt, choice_box, guard, Nodes, nil, cons, ◌+n◌, Ctx, top, in_or, in_and, in_choice, in_guard, plug, Config}
use Rattle.akl.specs.Places.{at, place, places, count, counts, place_number}
use Rattle.accept.proofs.PlaceLaws.{place_numbered, place_whole, size_places}
use Rattle.mem_words.specs.declared.Word.{Word}
use Rattle.mem_words.specs.declared.Word.TheVariants.{End, Free, Level, Num, Place, Inner, Bad}
use Rattle.mem_sorts.specs.declared.Kind.{Kind}
use Rattle.mem_sorts.specs.declared.Kind.TheVariants.{Or, And, Guarded, Member}
use Rattle.mem_sorts.specs.declared.Sort.TheVariants.{Locals, Store, App, Call, Comp, Hide, Clause}
use Rattle.layout.specs.Layout.{ask, var_word, vars_words, con_words, stmt_words, clauses_words}
use Rattle.store_words.specs.Boxes.{box_kind, local_words, store_words, node_words, nodes_words}
use Rattle.store_words.specs.Contexts.{before, after, kind_of, places_in, place_at}

-- ---------------------------------------------------------------------------------------------
-- Around a node.

nodes_side : (num : Name → ℕ) {k : akl.Kind} (a b : Nodes k) (r : List Word) → nodes_words num (a +n b) r ≡ nodes_words num a (nodes_words num b r)
unfolding nodes_words ◌+n◌
nodes_side num nil b r = refl
nodes_side num (cons n a) b r = ap (node_words num n) (nodes_side num a b r)

-- The words of a node in its context.
pub plug_words : (num : Name → ℕ) {k : akl.Kind} (χ : Ctx k) (n : Node k) (r : List Word) → node_words num (plug χ n) r ≡ before num χ (node_words num n (after num χ r))
unfolding plug before after node_words
plug_words num top n r = refl
plug_words num (in_or χ a b) n r =
    plug_words num χ (or (a +n cons n b)) r
    ∙ ap (λ (u : List Word). before num χ (Place Or ∷ u)) (nodes_side num a (cons n b) (End ∷ after num χ r))
plug_words num (in_and χ vs σ a b) n r =
    plug_words num χ (and vs σ (a +n cons n b)) r
    ∙ ap (λ (u : List Word). before num χ (Place And ∷ Inner Locals ∷ local_words vs (End ∷ Inner Store ∷ store_words num σ (End ∷ u)))) (nodes_side num a (cons n b) (End ∷ after num χ r))
plug_words num (in_choice χ op a b) n r =
    plug_words num χ (choice_box op (a +n cons n b)) r
    ∙ ap (λ (u : List Word). before num χ (Place (box_kind op) ∷ u)) (nodes_side num a (cons n b) (End ∷ after num χ r))
plug_words num (in_guard χ s) n r = plug_words num χ (guard n s) r

-- A node's words begin with its place.
pub node_opens : (num : Name → ℕ) {k : akl.Kind} (n : Node k) (r : List Word) → (u : List Word) × (node_words num n r ≡ Place (kind_of n) ∷ u)
unfolding node_words kind_of
node_opens num (or ns) r = (_, refl)
node_opens num (and vs σ ms) r = (_, refl)
node_opens num (stmt s) r = (_, refl)
node_opens num (choice_box op gs) r = (_, refl)
node_opens num (guard g b) r = (_, refl)

-- ---------------------------------------------------------------------------------------------
-- What follows stands behind: each function of the rest is an append.

local_front : (xs : List ℕ) (l r : List Word) → local_words xs (l ++ r) ≡ local_words xs l ++ r
unfolding local_words
local_front [] l r = refl
local_front (x ∷ xs) l r = ap (λ (u : List Word). Free x ∷ u) (local_front xs l r)

vars_front : (xs : List Var) (l r : List Word) → vars_words xs (l ++ r) ≡ vars_words xs l ++ r
unfolding vars_words
vars_front [] l r = refl
vars_front (x ∷ xs) l r = ap (λ (u : List Word). var_word x ∷ u) (vars_front xs l r)

con_front : (num : Name → ℕ) (c : Con Var) (l r : List Word) → con_words num c (l ++ r) ≡ con_words num c l ++ r
unfolding con_words
con_front num ctrue l r = refl
con_front num cfail l r = refl
con_front num (ceq x y) l r = refl
con_front num (capp x f ys) l r = ap (λ (u : List Word). Inner App ∷ var_word x ∷ Num (num f) ∷ u) (vars_front ys (End ∷ l) r)

store_front : (num : Name → ℕ) (σ : constraint.Store) (l r : List Word) → store_words num σ (l ++ r) ≡ store_words num σ l ++ r
unfolding store_words
store_front num [] l r = refl
store_front num (c ∷ σ) l r = ap (con_words num (map_con number c)) (store_front num σ l r) ∙ con_front num (map_con number c) (store_words num σ l) r

mutual
  unfolding stmt_words

  pub stmt_front : (num : Name → ℕ) (s : Stmt) (l r : List Word) → stmt_words num s (l ++ r) ≡ stmt_words num s l ++ r
  stmt_front num (atom c) l r = con_front num c l r
  stmt_front num (call p xs) l r = ap (λ (u : List Word). Inner Call ∷ Num (num p) ∷ u) (vars_front xs (End ∷ l) r)
  stmt_front num (comp a b) l r = ap (λ (u : List Word). Inner Comp ∷ u) (ap (stmt_words num a) (stmt_front num b (End ∷ l) r) ∙ stmt_front num a (stmt_words num b (End ∷ l)) r)
  stmt_front num (hide n a) l r = ap (λ (u : List Word). Inner Hide ∷ Num n ∷ u) (stmt_front num a (End ∷ l) r)
  stmt_front num (choice op cs) l r = ap (λ (u : List Word). Inner (ask op) ∷ u) (clauses_front num cs (End ∷ l) r)

  clauses_front : (num : Name → ℕ) (cs : Clauses) (l r : List Word) → clauses_words num cs (l ++ r) ≡ clauses_words num cs l ++ r
  clauses_front num no_more l r = refl
  clauses_front num (clause n g b cs) l r =
      let w = End ∷ clauses_words num cs l in
      ap (λ (u : List Word). Inner Clause ∷ Num n ∷ u)
      (ap (λ (u : List Word). stmt_words num g (stmt_words num b (End ∷ u))) (clauses_front num cs l r) ∙ ap (stmt_words num g) (stmt_front num b w r) ∙ stmt_front num g (stmt_words num b w) r)

mutual
  unfolding node_words

  pub node_front : (num : Name → ℕ) {k : akl.Kind} (n : Node k) (l r : List Word) → node_words num n (l ++ r) ≡ node_words num n l ++ r
  node_front num (or ns) l r = ap (λ (u : List Word). Place Or ∷ u) (nodes_front num ns (End ∷ l) r)
  node_front num (and vs σ ms) l r =
      let w2 = End ∷ nodes_words num ms (End ∷ l) in
      let w1 = End ∷ Inner Store ∷ store_words num σ w2 in
      ap (λ (u : List Word). Place And ∷ Inner Locals ∷ u)
      (ap (λ (u : List Word). local_words vs (End ∷ Inner Store ∷ store_words num σ (End ∷ u))) (nodes_front num ms (End ∷ l) r)
      ∙ ap (λ (u : List Word). local_words vs (End ∷ Inner Store ∷ u)) (store_front num σ w2 r)
      ∙ local_front vs w1 r)
  node_front num (stmt s) l r = ap (λ (u : List Word). Place Member ∷ u) (stmt_front num s (End ∷ l) r)
  node_front num (choice_box op gs) l r = ap (λ (u : List Word). Place (box_kind op) ∷ u) (nodes_front num gs (End ∷ l) r)
  node_front num (guard g b) l r = ap (λ (u : List Word). Place Guarded ∷ u) (ap (node_words num g) (stmt_front num b (End ∷ l) r) ∙ node_front num g (stmt_words num b (End ∷ l)) r)

  pub nodes_front : (num : Name → ℕ) {k : akl.Kind} (ns : Nodes k) (l r : List Word) → nodes_words num ns (l ++ r) ≡ nodes_words num ns l ++ r
  nodes_front num nil l r = refl
  nodes_front num (cons n ns) l r = ap (node_words num n) (nodes_front num ns l r) ∙ node_front num n (nodes_words num ns l) r

pub before_front : (num : Name → ℕ) {k : akl.Kind} (χ : Ctx k) (l r : List Word) → before num χ (l ++ r) ≡ before num χ l ++ r
unfolding before
before_front num top l r = refl
before_front num (in_or χ a b) l r = ap (λ (u : List Word). before num χ (Place Or ∷ u)) (nodes_front num a l r) ∙ before_front num χ (Place Or ∷ nodes_words num a l) r
before_front num (in_and χ vs σ a b) l r =
    let w2 = End ∷ nodes_words num a l in
    let w1 = End ∷ Inner Store ∷ store_words num σ w2 in
    ap (λ (u : List Word). before num χ (Place And ∷ Inner Locals ∷ u))
    (ap (λ (u : List Word). local_words vs (End ∷ Inner Store ∷ store_words num σ (End ∷ u))) (nodes_front num a l r)
    ∙ ap (λ (u : List Word). local_words vs (End ∷ Inner Store ∷ u)) (store_front num σ w2 r)
    ∙ local_front vs w1 r)
    ∙ before_front num χ (Place And ∷ Inner Locals ∷ local_words vs w1) r
before_front num (in_choice χ op a b) l r = ap (λ (u : List Word). before num χ (Place (box_kind op) ∷ u)) (nodes_front num a l r) ∙ before_front num χ (Place (box_kind op) ∷ nodes_words num a l) r
before_front num (in_guard χ s) l r = before_front num χ (Place Guarded ∷ l) r

-- ---------------------------------------------------------------------------------------------
-- Places are counted: statements and constraints have none.

local_places : (xs : List ℕ) (r : List Word) → places_in (local_words xs r) ≡ places_in r
unfolding local_words places_in
local_places [] r = refl
local_places (x ∷ xs) r = local_places xs r

var_places : (x : Var) (r : List Word) → places_in (var_word x ∷ r) ≡ places_in r
unfolding var_word places_in
var_places (number x) r = refl
var_places (level l) r = refl

vars_places : (xs : List Var) (r : List Word) → places_in (vars_words xs r) ≡ places_in r
unfolding vars_words
vars_places [] r = refl
vars_places (x ∷ xs) r = var_places x (vars_words xs r) ∙ vars_places xs r

con_places : (num : Name → ℕ) (c : Con Var) (r : List Word) → places_in (con_words num c r) ≡ places_in r
unfolding con_words places_in
con_places num ctrue r = refl
con_places num cfail r = refl
con_places num (ceq x y) r = var_places x (var_word y ∷ End ∷ r) ∙ var_places y (End ∷ r)
con_places num (capp x f ys) r = var_places x (Num (num f) ∷ vars_words ys (End ∷ r)) ∙ vars_places ys (End ∷ r)

store_places : (num : Name → ℕ) (σ : constraint.Store) (r : List Word) → places_in (store_words num σ r) ≡ places_in r
unfolding store_words
store_places num [] r = refl
store_places num (c ∷ σ) r = con_places num (map_con number c) (store_words num σ r) ∙ store_places num σ r

mutual
  unfolding stmt_words places_in

  pub stmt_places : (num : Name → ℕ) (s : Stmt) (r : List Word) → places_in (stmt_words num s r) ≡ places_in r
  stmt_places num (atom c) r = con_places num c r
  stmt_places num (call p xs) r = vars_places xs (End ∷ r)
  stmt_places num (comp a b) r = stmt_places num a (stmt_words num b (End ∷ r)) ∙ stmt_places num b (End ∷ r)
  stmt_places num (hide n a) r = stmt_places num a (End ∷ r)
  stmt_places num (choice op cs) r = clauses_places num cs (End ∷ r)

  clauses_places : (num : Name → ℕ) (cs : Clauses) (r : List Word) → places_in (clauses_words num cs r) ≡ places_in r
  clauses_places num no_more r = refl
  clauses_places num (clause n g b cs) r =
      let w = End ∷ clauses_words num cs r in
      stmt_places num g (stmt_words num b w) ∙ stmt_places num b w ∙ clauses_places num cs r

mutual
  unfolding node_words places_in count

  pub node_places : (num : Name → ℕ) {k : akl.Kind} (n : Node k) (r : List Word) → places_in (node_words num n r) ≡ count n + places_in r
  node_places num (or ns) r = omega (arith, nodes_places num ns (End ∷ r))
  node_places num (and vs σ ms) r =
      let w2 = End ∷ nodes_words num ms (End ∷ r) in
      let w1 = End ∷ Inner Store ∷ store_words num σ w2 in
      omega (arith, local_places vs w1, store_places num σ w2, nodes_places num ms (End ∷ r))
  node_places num (stmt s) r = omega (arith, stmt_places num s (End ∷ r))
  node_places num (choice_box op gs) r = omega (arith, nodes_places num gs (End ∷ r))
  node_places num (guard g b) r = omega (arith, node_places num g (stmt_words num b (End ∷ r)), stmt_places num b (End ∷ r))

  pub nodes_places : (num : Name → ℕ) {k : akl.Kind} (ns : Nodes k) (r : List Word) → places_in (nodes_words num ns r) ≡ counts ns + places_in r
  nodes_places num nil r = omega arith
  nodes_places num (cons n ns) r = omega (arith, node_places num n (nodes_words num ns r), nodes_places num ns r)

-- As many places stand before a node as its number says.
pub before_places : (num : Name → ℕ) {k : akl.Kind} (χ : Ctx k) (l : List Word) → places_in (before num χ l) ≡ place_number χ + places_in l
unfolding before places_in place_number
before_places num top l = omega arith
before_places num (in_or χ a b) l = omega (arith, before_places num χ (Place Or ∷ nodes_words num a l), nodes_places num a l)
before_places num (in_and χ vs σ a b) l =
    let w2 = End ∷ nodes_words num a l in
    let w1 = End ∷ Inner Store ∷ store_words num σ w2 in
    omega (arith, before_places num χ (Place And ∷ Inner Locals ∷ local_words vs w1), local_places vs w1, store_places num σ w2, nodes_places num a l)
before_places num (in_choice χ op a b) l = omega (arith, before_places num χ (Place (box_kind op) ∷ nodes_words num a l), nodes_places num a l)
before_places num (in_guard χ s) l = omega (arith, before_places num χ (Place Guarded ∷ l))

-- ---------------------------------------------------------------------------------------------
-- The p-th place.

place_first : (a : List Word) (k : Kind) (r : List Word) → place_at (a ++ (Place k ∷ r)) (places_in a) ≡ length a
unfolding place_at places_in
place_first [] k r = refl
place_first (End ∷ a) k r = ap suc (place_first a k r)
place_first (Free x ∷ a) k r = ap suc (place_first a k r)
place_first (Level l ∷ a) k r = ap suc (place_first a k r)
place_first (Num n ∷ a) k r = ap suc (place_first a k r)
place_first (Place j ∷ a) k r = ap suc (place_first a k r)
place_first (Inner s ∷ a) k r = ap suc (place_first a k r)
place_first (Bad ∷ a) k r = ap suc (place_first a k r)

-- The words of a configuration at the place of number p: as many words as place_at says before it, then its own.
pub place_words : (num : Name → ℕ) {k : akl.Kind} (c : Config) (p : ℕ) (χ : Ctx k) (n : Node k) (r : List Word) → place c p ≡ some (at χ n)
    → (node_words num c.root r ≡ before num χ [] ++ node_words num n (after num χ r)) × (place_at (node_words num c.root r) p ≡ length (before num χ [])) × (places_in (before num χ []) ≡ p)
unfolding places_in
place_words num c p χ n r e =
    let w = node_opens num n (after num χ r) in
    let a : node_words num c.root r ≡ before num χ [] ++ node_words num n (after num χ r) = ap (λ (g : Node akl.goal). node_words num g r) (sym (place_whole c p (at χ n) e)) ∙ plug_words num χ n r ∙ before_front num χ [] (node_words num n (after num χ r)) in
    let b : places_in (before num χ []) ≡ p = omega (arith, before_places num χ [], place_numbered c p χ n e) in
    (a, ap₂ place_at (a ∙ ap (λ (u : List Word). before num χ [] ++ u) w.1) (sym b) ∙ place_first (before num χ []) (kind_of n) w.0, b)

-- Where there are not so many places, the search ends behind the words.
pub place_past : (ws : List Word) (p : ℕ) → places_in ws ≤ p → place_at ws p ≡ length ws
unfolding place_at places_in
place_past [] p h = refl
place_past (End ∷ r) p h = ap suc (place_past r p h)
place_past (Free x ∷ r) p h = ap suc (place_past r p h)
place_past (Level l ∷ r) p h = ap suc (place_past r p h)
place_past (Num n ∷ r) p h = ap suc (place_past r p h)
place_past (Place k ∷ r) zero h = absurd (omega arith)
place_past (Place k ∷ r) (suc p) h = ap suc (place_past r p (omega arith))
place_past (Inner s ∷ r) p h = ap suc (place_past r p h)
place_past (Bad ∷ r) p h = ap suc (place_past r p h)

nth_past : {A : Type 0} (l : List A) (p : ℕ) → nth l p ≡ none → size l ≤ p
unfolding nth size
nth_past [] p e = omega arith
nth_past (x ∷ l) zero e = absurd (let z : ◌≡◌ {A = ℕ} 1 0 = ap (λ (o : Option _). elim o as (λ v. ℕ) [ none ↦ 0 | some y ↦ 1 ]) e in omega arith)
nth_past (x ∷ l) (suc p) e = let h = nth_past l p e in omega (arith, h)

pub no_place : (num : Name → ℕ) (c : Config) (p : ℕ) → place c p ≡ none → place_at (node_words num c.root []) p ≡ length (node_words num c.root [])
unfolding place places_in
no_place num c p e =
    let h = nth_past (places c.root top) p e in
    place_past (node_words num c.root []) p (omega (arith, h, size_places c.root top, node_places num c.root []))
