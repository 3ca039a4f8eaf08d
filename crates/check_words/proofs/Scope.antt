-- The words of a configuration pass the test of scope exactly when each free variable is in scope, provided that locals do not
-- interfere.
use mathlib.Core.Path.{◌≡◌, refl, ap, ap₂, sym, ◌∙◌, subst}
use mathlib.Core.List.{List, [], ◌∷◌, ◌++◌}
use mathlib.Core.Bool.{Bool, true, false, ◌&&◌, ◌||◌, not}
use Prim.Native.Nat.{ℕ, zero, suc}
use native.Mathlib.Omega.{arith}
use lib.ListN.{drop}
use Rattle.constraint.specs.Constraint as constraint
use Rattle.constraint.specs.Constraint.{vars_all}
use Rattle.constraint.specs.Solve.{elem, distinct}
use Rattle.akl.specs.Base.{Name, all}
use Rattle.akl.specs.Syntax.{Op, wait, cond, commit, Stmt}
use Rattle.akl.specs.Configuration.{Kind, goal, member, guarded, Node, or, and, stmt, choice_box, guard, Nodes, nil, cons}
use Rattle.akl.specs.Stability.{locals, locals_all}
use Rattle.akl.specs.WellFormed.{numbers, disjoint, no_interference, apart_or, apart_and, guard_boxes, guard_boxes_all, in_scope, in_scope_all}
use Rattle.mem_words.specs.declared.Word.{Word}
use Rattle.mem_words.specs.declared.Word.TheVariants.{End, Free, Place, Inner}
use Rattle.mem_sorts.specs.declared.Sort.TheVariants.{Locals, Store}
use Rattle.layout.specs.Layout.{stmt_words}
use Rattle.store_words.specs.Boxes.{box_kind, local_words, store_words, node_words, nodes_words}
use Rattle.check_words.specs.Frees.{frees, is_locals}
use Rattle.check_words.specs.Scope.{Held, clear, plain, boxed, guarding, scoped, awaits, excused, give, in_names, fresh, use_passes, scope_from, scope_passed}
use Rattle.check_words.proofs.Walks.{Walks, stmt_walk, store_walk, both, and_assoc, and_true, all_append, frees_locals}
use Rattle.check_words.proofs.Tests.{or_false, and_mix, all_ext, all_and, elem_append, not_or, disjoint_all, both_true}

-- brackets of a statement
abbrev clears : ℕ → List Held → List Held
clears zero S = S
clears (suc d) S = clear false ∷ clears d S

clears_named : (d : ℕ) (S : List Held) → in_names S ≡ false → in_names (clears d S) ≡ false
clears_named zero S h = h
clears_named (suc d) S h = refl

clears_scope : (d : ℕ) (S : List Held) → scoped (clears d S) ≡ scoped S
unfolding scoped
clears_scope zero S = refl
clears_scope (suc d) S = clears_scope d S

clears_excused : (d : ℕ) (S : List Held) (x : ℕ) → excused x (clears d S) ≡ excused x S
unfolding excused
clears_excused zero S x = refl
clears_excused (suc d) S x = clears_excused d S x

run : List Held → ℕ → List Word → Bool
run S d W = scope_from (clears d S) W

asked : List Held → ℕ → Bool
asked S x = elem x (scoped S) || excused x S

walks : (S : List Held) → in_names S ≡ false → Walks (run S) (asked S)
unfolding run scope_from asked
walks S h = record {
  free = λ x d W. ap (λ (t : Bool). t && scope_from (clears d S) W) (ap (λ (b : Bool). use_passes b x (clears d S)) (clears_named d S h) ∙ ap₂ (λ (l : List ℕ) (t : Bool). elem x l || t) (clears_scope d S) (clears_excused d S x));
  level = λ l d W. refl;
  num = λ n d W. refl;
  opens = λ s e d W. ap (λ (b : Bool). scope_from (clear b ∷ clears d S) W) e;
  ends = λ d W. refl;
}

stmt_scope : (S : List Held) → in_names S ≡ false → (num : Name → ℕ) (s : Stmt) (r : List Word) → scope_from S (stmt_words num s r) ≡ (all (λ x. elem x (scoped S) || excused x S) (numbers s) && scope_from S r)
unfolding run asked
stmt_scope S h num s r = stmt_walk (run S) (asked S) (walks S h) num s 0 r

store_scope : (S : List Held) → in_names S ≡ false → (num : Name → ℕ) (σ : constraint.Store) (r : List Word) → scope_from S (Inner Store ∷ store_words num σ (End ∷ r)) ≡ (all (λ x. elem x (scoped S) || excused x S) (vars_all σ) && scope_from S r)
unfolding run asked scope_from
store_scope S h num σ r = store_walk (run S) (asked S) (walks S h) num σ 1 (End ∷ r)

-- the locals of an and-box are passed
locals_scope : (vs : List ℕ) (S : List Held) (r : List Word) → scope_from (clear true ∷ S) (local_words vs (End ∷ r)) ≡ scope_from S r
unfolding scope_from local_words
locals_scope [] S r = refl
locals_scope (x ∷ vs) S r = locals_scope vs S r

-- and-boxes that stand one after another
unfoldable give_all : List (List ℕ) → List Held → List Held
give_all [] S = S
give_all (vs ∷ l) S = give_all l (give vs S)

give_append : (a b : List (List ℕ)) (S : List Held) → give_all (a ++ b) S ≡ give_all b (give_all a S)
unfolding give_all
give_append [] b S = refl
give_append (v ∷ a) b S = give_append a b (give v S)

pub give_scope : (vs : List ℕ) (S : List Held) → scoped (give vs S) ≡ scoped S
unfolding scoped give
give_scope vs [] = refl
give_scope vs (clear b ∷ S) = give_scope vs S
give_scope vs (plain ∷ S) = refl
give_scope vs (boxed us ∷ S) = refl
give_scope vs (guarding bs ∷ S) = refl

all_scope : (l : List (List ℕ)) (S : List Held) → scoped (give_all l S) ≡ scoped S
unfolding give_all
all_scope [] S = refl
all_scope (v ∷ l) S = all_scope l (give v S) ∙ give_scope v S

give_awaits : (vs : List ℕ) (S : List Held) → awaits (give vs S) ≡ awaits S
unfolding awaits give
give_awaits vs [] = refl
give_awaits vs (clear b ∷ S) = give_awaits vs S
give_awaits vs (plain ∷ S) = refl
give_awaits vs (boxed us ∷ S) = refl
give_awaits vs (guarding bs ∷ S) = refl

all_awaits : (l : List (List ℕ)) (S : List Held) → awaits (give_all l S) ≡ awaits S
unfolding give_all
all_awaits [] S = refl
all_awaits (v ∷ l) S = all_awaits l (give v S) ∙ give_awaits v S

give_clear : (l : List (List ℕ)) (S : List Held) → give_all l (clear false ∷ S) ≡ clear false ∷ give_all l S
unfolding give_all give
give_clear [] S = refl
give_clear (v ∷ l) S = give_clear l (give v S)

give_plain : (l : List (List ℕ)) (S : List Held) → give_all l (plain ∷ S) ≡ plain ∷ S
unfolding give_all give
give_plain [] S = refl
give_plain (v ∷ l) S = give_plain l S

give_boxed : (vs : List ℕ) (l : List (List ℕ)) (S : List Held) → give_all l (boxed vs ∷ S) ≡ boxed vs ∷ S
unfolding give_all give
give_boxed vs [] S = refl
give_boxed vs (v ∷ l) S = give_boxed vs l S

unfoldable onto : List (List ℕ) → List (List ℕ) → List (List ℕ)
onto [] bs = bs
onto (v ∷ l) bs = onto l (v ∷ bs)

give_guarding : (l bs : List (List ℕ)) (S : List Held) → give_all l (guarding bs ∷ S) ≡ guarding (onto l bs) ∷ S
unfolding give_all give onto
give_guarding [] bs S = refl
give_guarding (v ∷ l) bs S = give_guarding l (v ∷ bs) S

all_onto : (p : List ℕ → Bool) (l bs : List (List ℕ)) → all p (onto l bs) ≡ (all p l && all p bs)
unfolding all onto
all_onto p [] bs = refl
all_onto p (v ∷ l) bs = all_onto p l (v ∷ bs) ∙ swap (all p l) (p v) (all p bs)
  where
    swap : (a b c : Bool) → (a && (b && c)) ≡ ((b && a) && c)
    swap true true c = refl
    swap true false c = refl
    swap false true c = refl
    swap false false c = refl

-- locals that are not in scope where they become locals
unfoldable mutual
  pub fresh_in : {k : Kind} → Node k → List ℕ → Bool
  fresh_in (or ns) xs = fresh_in_all ns xs
  fresh_in (and vs σ ms) xs = fresh xs vs && fresh_in_all ms (xs ++ vs)
  fresh_in (stmt s) xs = true
  fresh_in (choice_box op gs) xs = fresh_in_all gs xs
  fresh_in (guard g b) xs = fresh_in g xs

  pub fresh_in_all : {k : Kind} → Nodes k → List ℕ → Bool
  fresh_in_all nil xs = true
  fresh_in_all (cons n ns) xs = fresh_in n xs && fresh_in_all ns xs

-- members and guarded goals stand in no guard or body directly
abbrev Fits : Kind → List Held → Type 0
Fits goal S = Unit {0}
Fits member S = awaits S ≡ false
Fits guarded S = awaits S ≡ false

fits_after : (k : Kind) (l : List (List ℕ)) (S : List Held) → Fits k S → Fits k (give_all l S)
fits_after goal l S f = tt
fits_after member l S f = all_awaits l S ∙ f
fits_after guarded l S f = all_awaits l S ∙ f

box_opens : (op : Op) (S : List Held) (W : List Word) → awaits S ≡ false → scope_from S (Place (box_kind op) ∷ W) ≡ scope_from (plain ∷ S) W
unfolding scope_from box_kind
box_opens wait S W f = ap (λ (b : Bool). not b && scope_from (plain ∷ S) W) f
box_opens cond S W f = ap (λ (b : Bool). not b && scope_from (plain ∷ S) W) f
box_opens commit S W f = ap (λ (b : Bool). not b && scope_from (plain ∷ S) W) f

-- the same tests in another order
and_box_mix : (f a i h r : Bool) → (f && (a && ((i && h) && r))) ≡ (((a && i) && (f && h)) && r)
and_box_mix true true i h r = refl
and_box_mix true false i h r = refl
and_box_mix false true true h r = refl
and_box_mix false true false h r = refl
and_box_mix false false i h r = refl

guard_mix : (i f b r : Bool) → ((i && f) && (b && r)) ≡ (((i && b) && f) && r)
guard_mix true true true r = refl
guard_mix true true false r = refl
guard_mix true false true r = refl
guard_mix true false false r = refl
guard_mix false f b r = refl

only : (x : ℕ) (G : List (List ℕ)) → all (elem x) (onto G []) ≡ all (elem x) G
unfolding all
only x G = all_onto (elem x) G [] ∙ and_true (all (elem x) G)

mutual
  unfolding node_words guard_boxes in_scope fresh_in scope_from scoped awaits excused give_all

  node_scope : (num : Name → ℕ) {k : Kind} (n : Node k) (S : List Held) → Fits k S → (r : List Word) → scope_from S (node_words num n r) ≡ ((in_scope n (scoped S) && fresh_in n (scoped S)) && scope_from (give_all (guard_boxes n) S) r)
  node_scope num (or ns) S f r =
      nodes_scope num ns (clear false ∷ S) f (End ∷ r)
      ∙ ap (λ (Q : List Held). (in_scope_all ns (scoped S) && fresh_in_all ns (scoped S)) && scope_from Q (End ∷ r)) (give_clear (guard_boxes_all ns) S)
  node_scope num (and vs σ ms) S f r =
      let xs = scoped S in
      let S₁ = give vs S in
      let M = nodes_words num ms (End ∷ r) in
      let W = Inner Store ∷ store_words num σ (End ∷ M) in
      let A = all (λ x. elem x (xs ++ vs)) (vars_all σ) in
      ap (λ (l : List ℕ). fresh xs l && scope_from (boxed l ∷ give l S) (Inner Locals ∷ local_words vs (End ∷ W))) (frees_locals vs W)
      ∙ ap (λ (t : Bool). fresh xs vs && t)
      (locals_scope vs (boxed vs ∷ S₁) W
      ∙ store_scope (boxed vs ∷ S₁) refl num σ M
      ∙ ap₂ (λ (s t : Bool). s && t)
      (all_ext (λ x. elem x (scoped S₁ ++ vs) || false) (λ x. elem x (xs ++ vs)) (vars_all σ) (λ x. or_false (elem x (scoped S₁ ++ vs)) ∙ ap (λ (l : List ℕ). elem x (l ++ vs)) (give_scope vs S)))
      (nodes_scope num ms (boxed vs ∷ S₁) refl (End ∷ r)
      ∙ ap₂ (λ (l : List ℕ) (Q : List Held). (in_scope_all ms (l ++ vs) && fresh_in_all ms (l ++ vs)) && scope_from Q (End ∷ r)) (give_scope vs S) (give_boxed vs (guard_boxes_all ms) S₁)))
      ∙ and_box_mix (fresh xs vs) A (in_scope_all ms (xs ++ vs)) (fresh_in_all ms (xs ++ vs)) (scope_from S₁ r)
  node_scope num (stmt s) S f r =
      ap (λ (b : Bool). not b && scope_from (plain ∷ S) (stmt_words num s (End ∷ r))) f
      ∙ stmt_scope (plain ∷ S) refl num s (End ∷ r)
      ∙ ap (λ (t : Bool). t && scope_from S r) (all_ext (λ x. elem x (scoped S) || false) (λ x. elem x (scoped S)) (numbers s) (λ x. or_false (elem x (scoped S))) ∙ sym (and_true (all (λ x. elem x (scoped S)) (numbers s))))
  node_scope num (choice_box op gs) S f r =
      box_opens op S (nodes_words num gs (End ∷ r)) f
      ∙ nodes_scope num gs (plain ∷ S) refl (End ∷ r)
      ∙ ap (λ (Q : List Held). (in_scope_all gs (scoped S) && fresh_in_all gs (scoped S)) && scope_from Q (End ∷ r)) (give_plain (guard_boxes_all gs) S)
  node_scope num (guard g b) S f r =
      let G = guard_boxes g in
      let xs = scoped S in
      let B = all (λ x. elem x xs || all (elem x) G) (numbers b) in
      ap (λ (b₁ : Bool). not b₁ && scope_from (guarding [] ∷ S) (node_words num g (stmt_words num b (End ∷ r)))) f
      ∙ node_scope num g (guarding [] ∷ S) tt (stmt_words num b (End ∷ r))
      ∙ ap (λ (t : Bool). (in_scope g xs && fresh_in g xs) && t)
      (ap (λ (Q : List Held). scope_from Q (stmt_words num b (End ∷ r))) (give_guarding G [] S)
      ∙ stmt_scope (guarding (onto G []) ∷ S) refl num b (End ∷ r)
      ∙ ap (λ (t : Bool). t && scope_from S r) (all_ext (λ x. elem x xs || all (elem x) (onto G [])) (λ x. elem x xs || all (elem x) G) (numbers b) (λ x. ap (λ (t : Bool). elem x xs || t) (only x G))))
      ∙ guard_mix (in_scope g xs) (fresh_in g xs) B (scope_from S r)

  nodes_scope : (num : Name → ℕ) {k : Kind} (ns : Nodes k) (S : List Held) → Fits k S → (r : List Word) → scope_from S (nodes_words num ns r) ≡ ((in_scope_all ns (scoped S) && fresh_in_all ns (scoped S)) && scope_from (give_all (guard_boxes_all ns) S) r)
  nodes_scope num nil S f r = refl
  nodes_scope num {k} (cons n ns) S f r =
      let xs = scoped S in
      let S₁ = give_all (guard_boxes n) S in
      let R = scope_from (give_all (guard_boxes n ++ guard_boxes_all ns) S) r in
      node_scope num n S f (nodes_words num ns r)
      ∙ ap (λ (t : Bool). (in_scope n xs && fresh_in n xs) && t)
      (nodes_scope num ns S₁ (fits_after k (guard_boxes n) S f) r
      ∙ ap₂ (λ (l : List ℕ) (Q : List Held). (in_scope_all ns l && fresh_in_all ns l) && scope_from Q r) (all_scope (guard_boxes n) S) (sym (give_append (guard_boxes n) (guard_boxes_all ns) S)))
      ∙ sym (and_assoc (in_scope n xs && fresh_in n xs) (in_scope_all ns xs && fresh_in_all ns xs) R)
      ∙ ap (λ (t : Bool). t && R) (and_mix (in_scope n xs) (fresh_in n xs) (in_scope_all ns xs) (fresh_in_all ns xs))

-- locals that do not interfere, and are apart from those around, are fresh
not_in : (xs vs : List ℕ) (l : List ℕ) → all (λ y. not (elem y xs)) l ≡ true → disjoint vs l ≡ true → all (λ y. not (elem y (xs ++ vs))) l ≡ true
not_in xs vs l a d =
    all_ext (λ y. not (elem y (xs ++ vs))) (λ y. not (elem y xs) && not (elem y vs)) l (λ y. ap not (elem_append y xs vs) ∙ not_or (elem y xs) (elem y vs))
    ∙ all_and (λ y. not (elem y xs)) (λ y. not (elem y vs)) l
    ∙ ap₂ (λ (s t : Bool). s && t) a (sym (disjoint_all vs l) ∙ d)

halves : (xs a b : List ℕ) → all (λ y. not (elem y xs)) (a ++ b) ≡ true → (all (λ y. not (elem y xs)) a ≡ true) × (all (λ y. not (elem y xs)) b ≡ true)
halves xs a b h = both_true (all (λ y. not (elem y xs)) a) (all (λ y. not (elem y xs)) b) (sym (all_append (λ y. not (elem y xs)) a b) ∙ h)

mutual
  unfolding locals no_interference fresh_in fresh

  node_fresh : {k : Kind} (n : Node k) (xs : List ℕ) → no_interference n ≡ true → all (λ y. not (elem y xs)) (locals n) ≡ true → fresh_in n xs ≡ true
  node_fresh (or ns) xs i a = or_fresh ns xs i a
  node_fresh (and vs σ ms) xs i a =
      let L = locals_all ms in
      let p = both_true (distinct vs && disjoint vs L) (apart_and ms) i in
      let q = both_true (distinct vs) (disjoint vs L) p.0 in
      let h = halves xs vs L a in
      ap₂ (λ (s t : Bool). s && t) (ap₂ (λ (s t : Bool). s && t) q.0 h.0) (and_fresh ms (xs ++ vs) p.1 (not_in xs vs L h.1 q.1))
  node_fresh (stmt s) xs i a = refl
  node_fresh (choice_box op gs) xs i a = or_fresh gs xs i a
  node_fresh (guard g b) xs i a = node_fresh g xs i a

  or_fresh : {k : Kind} (ns : Nodes k) (xs : List ℕ) → apart_or ns ≡ true → all (λ y. not (elem y xs)) (locals_all ns) ≡ true → fresh_in_all ns xs ≡ true
  or_fresh nil xs i a = refl
  or_fresh (cons n ns) xs i a =
      let p = both_true (no_interference n) (apart_or ns) i in
      let h = halves xs (locals n) (locals_all ns) a in
      ap₂ (λ (s t : Bool). s && t) (node_fresh n xs p.0 h.0) (or_fresh ns xs p.1 h.1)

  and_fresh : {k : Kind} (ns : Nodes k) (xs : List ℕ) → apart_and ns ≡ true → all (λ y. not (elem y xs)) (locals_all ns) ≡ true → fresh_in_all ns xs ≡ true
  and_fresh nil xs i a = refl
  and_fresh (cons n ns) xs i a =
      let p = both_true (no_interference n && disjoint (locals n) (locals_all ns)) (apart_and ns) i in
      let q = both_true (no_interference n) (disjoint (locals n) (locals_all ns)) p.0 in
      let h = halves xs (locals n) (locals_all ns) a in
      ap₂ (λ (s t : Bool). s && t) (node_fresh n xs q.0 h.0) (and_fresh ns xs p.1 h.1)

all_none : (l : List ℕ) → all (λ y. not (elem y [])) l ≡ true
unfolding all elem
all_none [] = refl
all_none (x ∷ l) = all_none l

pub scope_law : (num : Name → ℕ) (n : Node goal) (C : List Word) → C ≡ node_words num n [] → (no_interference n && scope_passed C) ≡ (no_interference n && in_scope n [])
unfolding scope_passed scope_from scoped
scope_law num n C e = ap (λ (t : Bool). no_interference n && t) (ap (scope_from []) e ∙ node_scope num n [] tt [] ∙ and_true (in_scope n [] && fresh_in n [])) ∙ go (no_interference n) refl
  where
    go : (b : Bool) → no_interference n ≡ b → (b && (in_scope n [] && fresh_in n [])) ≡ (b && in_scope n [])
    go true i = ap (λ (t : Bool). in_scope n [] && t) (node_fresh n [] i (all_none (locals n))) ∙ and_true (in_scope n [])
    go false i = refl
