-- The and-boxes at or inside a goal, by their places and by where they begin in the words: the same, in the same order.
use mathlib.Core.Path.{◌≡◌, refl, ap, sym, ◌∙◌, subst}
use mathlib.Core.Logic.{inl, inr}
use mathlib.Core.Bool.{Bool, true, false, cond}
use mathlib.Core.List.{List, [], ◌∷◌, ◌++◌, append_assoc}
use Prim.Native.Nat.{ℕ, zero, suc, ◌+◌, ◌≤◌, ◌<◌}
use native.Mathlib.Omega.{arith}
use lib.Dec.{eqb}
use lib.ListN.{length, get_or, length-append}
use Rattle.constraint.specs.Constraint.{Store, In}
use Rattle.akl.specs.Base.{Name}
use Rattle.akl.specs.Syntax.{Op, Stmt}
use Rattle.akl.specs.Configuration as akl
use Rattle.akl.specs.Configuration.{goal, member, guarded, Node, or, and, stmt, choice_box, guard, Nodes, nil, cons, ◌+n◌, one, Ctx, top, in_or, in_and, in_choice, in_guard, plug}
use Rattle.akl.specs.Places.{Place, at, places, places_all, place_number, counts}
use Rattle.accept.specs.AtPlaces.{stores_at}
use Rattle.mem_words.specs.declared.Word.{Word}
use Rattle.mem_words.specs.declared.Word.TheVariants as word
use Rattle.mem_words.specs.declared.Word.TheVariants.{End, Free, Level, Num, Inner, Bad}
use Rattle.mem_sorts.specs.declared.Kind.TheVariants.{Or, And, Guarded}
use Rattle.mem_sorts.specs.Shapes.{kind_no}
use Rattle.layout.specs.Layout.{stmt_words}
use Rattle.store_words.specs.Boxes.{box_kind, node_words, nodes_words}
use Rattle.store_words.specs.Contexts.{before, places_in}
use Rattle.store_words.proofs.Places.{stmt_front, stmt_places, before_places}
use Rattle.rule_effects.specs.Conditions.{kind_in}
use Rattle.rule_effects.proofs.Frames.{side, before_seg, before_head, node_seg, nodes_seg, head, head_is_balanced}
use Rattle.rule_ranges.proofs.Environment.{choice_kind}

-- where and-boxes begin in words, the first of which is at o
unfoldable pub ands : ℕ → List Word → List ℕ
ands o [] = []
ands o (w ∷ l) = cond (eqb (kind_in w) (kind_no And)) (o ∷ ands (suc o) l) (ands (suc o) l)

-- each is among the words
pub ands_low : (l : List Word) (o j : ℕ) → In j (ands o l) → (o ≤ j) × (j < o + length l)
unfolding ands
ands_low [] o j h = absurd h
ands_low (w ∷ l) o j h = go (eqb (kind_in w) (kind_no And)) h (ands_low l (suc o) j)
  where
    go : (b : Bool) → In j (cond b (o ∷ ands (suc o) l) (ands (suc o) l)) → (In j (ands (suc o) l) → (suc o ≤ j) × (j < suc o + length l)) → (o ≤ j) × (j < o + suc (length l))
    go true (inl e) f = (omega (arith, e), omega (arith, e))
    go true (inr i) f = let p = f i in let p0 = p.0 in let p1 = p.1 in (omega (arith, p0), omega (arith, p1))
    go false i f = let p = f i in let p0 = p.0 in let p1 = p.1 in (omega (arith, p0), omega (arith, p1))

-- every one is there
pub ands_all : (l : List Word) (o d : ℕ) → d < length l → eqb (kind_in (get_or l d Bad)) (kind_no And) ≡ true → In (o + d) (ands o l)
unfolding ands
ands_all [] o d h e = absurd (omega (arith, h))
ands_all (w ∷ l) o zero h e = let z : o + 0 ≡ o = omega arith in subst (λ (b : Bool). In (o + 0) (cond b (o ∷ ands (suc o) l) (ands (suc o) l))) (sym e) (inl z)
ands_all (w ∷ l) o (suc d) h e =
    let z : suc o + d ≡ o + suc d = omega arith in
    go (eqb (kind_in w) (kind_no And)) (subst (λ (x : ℕ). In x (ands (suc o) l)) z (ands_all l (suc o) d (omega (arith, h)) e))
  where
    go : (b : Bool) → In (o + suc d) (ands (suc o) l) → In (o + suc d) (cond b (o ∷ ands (suc o) l) (ands (suc o) l))
    go true i = inr i
    go false i = i

-- words in which no place begins
no_ands : (X : List Word) (o : ℕ) (r : List Word) → places_in X ≡ 0 → ands o (X ++ r) ≡ ands (o + length X) r
unfolding ands places_in
no_ands [] o r h = let z : o ≡ o + 0 = omega arith in ap (λ (k : ℕ). ands k r) z
no_ands (End ∷ X) o r h = let z : suc o + length X ≡ o + suc (length X) = omega arith in no_ands X (suc o) r h ∙ ap (λ (k : ℕ). ands k r) z
no_ands (Free v ∷ X) o r h = let z : suc o + length X ≡ o + suc (length X) = omega arith in no_ands X (suc o) r h ∙ ap (λ (k : ℕ). ands k r) z
no_ands (Level v ∷ X) o r h = let z : suc o + length X ≡ o + suc (length X) = omega arith in no_ands X (suc o) r h ∙ ap (λ (k : ℕ). ands k r) z
no_ands (Num v ∷ X) o r h = let z : suc o + length X ≡ o + suc (length X) = omega arith in no_ands X (suc o) r h ∙ ap (λ (k : ℕ). ands k r) z
no_ands (word.Place k ∷ X) o r h = absurd (omega (arith, h))
no_ands (Inner s ∷ X) o r h = let z : suc o + length X ≡ o + suc (length X) = omega arith in no_ands X (suc o) r h ∙ ap (λ (k : ℕ). ands k r) z
no_ands (Bad ∷ X) o r h = let z : suc o + length X ≡ o + suc (length X) = omega arith in no_ands X (suc o) r h ∙ ap (λ (k : ℕ). ands k r) z

add_one_on : {k : akl.Kind} (l : Nodes k) (n : Node k) (r : Nodes k) → (l +n one n) +n r ≡ l +n cons n r
unfolding ◌+n◌
add_one_on nil n r = refl
add_one_on (cons m l) n r = ap (cons m) (add_one_on l n r)

-- The and-boxes among the places begin at the positions, in order, and each with its context is the whole G. The other places have
-- no store.
pub data Listed (num : Name → ℕ) (G : Node goal) : List Place → List ℕ → Type 0 where
  none : Listed num G [] []
  box : {χ : Ctx goal} {vs : List ℕ} {σ : Store} {ms : Nodes member} {j : ℕ} {pls : List Place} {js : List ℕ} → plug χ (and vs σ ms) ≡ G → j ≡ length (before num χ []) → Listed num G pls js
      → Listed num G (at χ (and vs σ ms) ∷ pls) (j ∷ js)
  other : {pl : Place} {pls : List Place} {js : List ℕ} → stores_at pl ≡ [] → Listed num G pls js → Listed num G (pl ∷ pls) js

module _ (num : Name → ℕ) (G : Node goal) where
  -- the same positions, written otherwise
  at_positions : {pls : List Place} (js is : List ℕ) → js ≡ is → Listed num G pls is → Listed num G pls js
  at_positions {pls} js is e h = subst (λ (x : List ℕ). Listed num G pls x) (sym e) h

  length_node : {k : akl.Kind} (n : Node k) (x : List Word) → length (node_words num n x) ≡ length (node_words num n []) + length x
  length_node n x = ap length (node_seg num n x) ∙ length-append (node_words num n []) x

  length_nodes : {k : akl.Kind} (n : Nodes k) (x : List Word) → length (nodes_words num n x) ≡ length (nodes_words num n []) + length x
  length_nodes n x = ap length (nodes_seg num n x) ∙ length-append (nodes_words num n []) x

  from_number : {pls : List Place} (a b : ℕ) (r : List Word) → a ≡ b → Listed num G pls (ands b r) → Listed num G pls (ands a r)
  from_number a b r e h = at_positions (ands a r) (ands b r) (ap (λ (k : ℕ). ands k r) e) h

  -- what an and-box has before its members
  front : List ℕ → Store → List Word
  front vs σ = head num vs σ nil []

  front_on : (vs : List ℕ) (σ : Store) (u : List Word) → head num vs σ nil u ≡ front vs σ ++ u
  unfolding front
  front_on vs σ u = (head_is_balanced num vs σ nil).front u

  front_places : (vs : List ℕ) (σ : Store) → places_in (front vs σ) ≡ 0
  unfolding front before places_in place_number counts
  front_places vs σ = omega (arith, before_places num (in_and top vs σ nil nil) [])

  -- where what is held begins
  or_begins : (χ : Ctx goal) (l t : Nodes goal) (o : ℕ) → o ≡ length (before num χ []) → length (before num (in_or χ l t) []) ≡ suc o + length (nodes_words num l [])
  unfolding before
  or_begins χ l t o h = let e = ap length (before_seg num χ (word.Place Or ∷ nodes_words num l [])) ∙ length-append (before num χ []) (word.Place Or ∷ nodes_words num l []) in omega (arith, e, h)

  and_begins : (χ : Ctx goal) (vs : List ℕ) (σ : Store) (l t : Nodes member) (o : ℕ) → o ≡ length (before num χ []) → length (before num (in_and χ vs σ l t) []) ≡ suc o + length (front vs σ) + length (nodes_words num l [])
  unfolding nodes_words
  and_begins χ vs σ l t o h =
      let e = ap length (before_head num χ vs σ l t []) ∙ length-append (before num χ []) (word.Place And ∷ head num vs σ l []) in
      let f : length (head num vs σ l []) ≡ length (front vs σ) + length (nodes_words num l []) = ap length (front_on vs σ (nodes_words num l [])) ∙ length-append (front vs σ) (nodes_words num l []) in
      omega (arith, e, f, h)

  choice_begins : (χ : Ctx member) (op : Op) (l t : Nodes guarded) (o : ℕ) → o ≡ length (before num χ []) → length (before num (in_choice χ op l t) []) ≡ suc o + length (nodes_words num l [])
  unfolding before
  choice_begins χ op l t o h = let e = ap length (before_seg num χ (word.Place (box_kind op) ∷ nodes_words num l [])) ∙ length-append (before num χ []) (word.Place (box_kind op) ∷ nodes_words num l []) in omega (arith, e, h)

  guard_begins : (χ : Ctx guarded) (b : Stmt) (o : ℕ) → o ≡ length (before num χ []) → suc o ≡ length (before num (in_guard χ b) [])
  unfolding before
  guard_begins χ b o h = let e = ap length (before_seg num χ (word.Place Guarded ∷ [])) ∙ length-append (before num χ []) (word.Place Guarded ∷ []) in omega (arith, e, h)

  -- statements are passed over
  stmt_ands : (t : Stmt) (o : ℕ) (r : List Word) → ands o (stmt_words num t (End ∷ r)) ≡ ands (o + length (stmt_words num t (End ∷ []))) r
  unfolding places_in
  stmt_ands t o r = ap (ands o) (stmt_front num t (End ∷ []) r) ∙ no_ands (stmt_words num t (End ∷ [])) o r (stmt_places num t (End ∷ []))

  mutual
    unfolding places node_words plug ◌+n◌ ands

    pub node_listed : {k : akl.Kind} (m : Node k) (χ : Ctx k) (o : ℕ) (r : List Word) (pls : List Place) → plug χ m ≡ G → o ≡ length (before num χ []) → Listed num G pls (ands (o + length (node_words num m [])) r) → Listed num G (places m χ ++ pls) (ands o (node_words num m r))
    node_listed (or ns) χ o r pls w s h =
        let e = length_nodes ns (End ∷ []) in
        let z : suc o + 0 ≡ suc o = omega arith in
        other refl (nodes_listed ns (in_or χ) (λ x. plug χ (or x)) (suc o) nil (suc o) (End ∷ r) pls (λ l t m. refl) (λ l t. or_begins χ l t o s) w (sym z) (from_number (suc (suc o + length (nodes_words num ns []))) _ r (omega (arith, e)) h))
    node_listed (and vs σ ms) χ o r pls w s h =
        let b = suc o + length (front vs σ) in
        let e = length_nodes ms (End ∷ []) in
        let f : length (head num vs σ nil (nodes_words num ms (End ∷ []))) ≡ length (front vs σ) + length (nodes_words num ms (End ∷ [])) = ap length (front_on vs σ (nodes_words num ms (End ∷ []))) ∙ length-append (front vs σ) (nodes_words num ms (End ∷ [])) in
        let z : b ≡ b + 0 = omega arith in
        box w s (at_positions (ands (suc o) (head num vs σ nil (nodes_words num ms (End ∷ r)))) (ands b (nodes_words num ms (End ∷ r))) (ap (ands (suc o)) (front_on vs σ (nodes_words num ms (End ∷ r))) ∙ no_ands (front vs σ) (suc o) (nodes_words num ms (End ∷ r)) (front_places vs σ))
        (nodes_listed ms (in_and χ vs σ) (λ x. plug χ (and vs σ x)) b nil b (End ∷ r) pls (λ l t m. refl) (λ l t. and_begins χ vs σ l t o s) w z (from_number (suc (b + length (nodes_words num ms []))) _ r (omega (arith, e, f)) h)))
    node_listed (stmt t) χ o r pls w s h =
        let z : suc o + length (stmt_words num t (End ∷ [])) ≡ o + suc (length (stmt_words num t (End ∷ []))) = omega arith in
        other refl (at_positions (ands (suc o) (stmt_words num t (End ∷ r))) _ (stmt_ands t (suc o) r) (from_number _ _ r z h))
    node_listed (choice_box op gs) χ o r pls w s h =
        let e = length_nodes gs (End ∷ []) in
        let z : suc o + 0 ≡ suc o = omega arith in
        other refl (at_positions (ands o (node_words num (choice_box op gs) r)) (ands (suc o) (nodes_words num gs (End ∷ r))) (ap (λ (c : Bool). cond c (o ∷ ands (suc o) (nodes_words num gs (End ∷ r))) (ands (suc o) (nodes_words num gs (End ∷ r)))) (choice_kind op))
        (nodes_listed gs (in_choice χ op) (λ x. plug χ (choice_box op x)) (suc o) nil (suc o) (End ∷ r) pls (λ l t m. refl) (λ l t. choice_begins χ op l t o s) w (sym z) (from_number (suc (suc o + length (nodes_words num gs []))) _ r (omega (arith, e)) h)))
    node_listed (guard g b) χ o r pls w s h =
        let e = length_node g (stmt_words num b (End ∷ [])) in
        let z : suc o + length (node_words num g []) + length (stmt_words num b (End ∷ [])) ≡ o + suc (length (node_words num g (stmt_words num b (End ∷ [])))) = omega (arith, e) in
        other refl (node_listed g (in_guard χ b) (suc o) (stmt_words num b (End ∷ r)) pls w (guard_begins χ b o s)
        (at_positions (ands (suc o + length (node_words num g [])) (stmt_words num b (End ∷ r))) _ (stmt_ands b (suc o + length (node_words num g [])) r) (from_number _ _ r z h)))

    nodes_listed : {k : akl.Kind} (ns : Nodes k) (around : Nodes k → Nodes k → Ctx k) (U : Nodes k → Node goal) (b : ℕ) (l : Nodes k) (o : ℕ) (r : List Word) (pls : List Place)
        → ((l t : Nodes k) (m : Node k) → plug (around l t) m ≡ U (l +n cons m t)) → ((l t : Nodes k) → length (before num (around l t) []) ≡ b + length (nodes_words num l []))
        → U (l +n ns) ≡ G → o ≡ b + length (nodes_words num l []) → Listed num G pls (ands (o + length (nodes_words num ns [])) r) → Listed num G (places_all ns around l ++ pls) (ands o (nodes_words num ns r))
    nodes_listed nil around U b l o r pls p q w e h = from_number o (o + 0) r (omega arith) h
    nodes_listed (cons n ns) around U b l o r pls p q w e h =
        let N = length (node_words num n []) in
        let a : length (nodes_words num (l +n one n) []) ≡ length (nodes_words num l []) + N = ap length (side num l (one n) []) ∙ length_nodes l (node_words num n []) in
        let c = length_node n (nodes_words num ns []) in
        subst (λ (x : List Place). Listed num G x (ands o (node_words num n (nodes_words num ns r)))) (sym (append_assoc (places n (around l ns)) (places_all ns around (l +n one n)) pls))
        (node_listed n (around l ns) o (nodes_words num ns r) (places_all ns around (l +n one n) ++ pls) (p l ns n ∙ w) (e ∙ sym (q l ns))
        (nodes_listed ns around U b (l +n one n) (o + N) r pls p q (ap U (add_one_on l n ns) ∙ w) (omega (arith, a, e)) (from_number (o + N + length (nodes_words num ns [])) _ r (omega (arith, c)) h)))
