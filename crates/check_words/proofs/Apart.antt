-- The words of a configuration pass the test of locals exactly when its locals do not interfere.
use mathlib.Core.Path.{◌≡◌, refl, ap, ap₂, sym, ◌∙◌, fun_ext}
use mathlib.Core.List.{List, [], ◌∷◌, ◌++◌}
use mathlib.Core.Bool.{Bool, true, false, ◌&&◌, ◌||◌, not}
use Prim.Native.Nat.{ℕ, zero, suc}
use lib.Dec.{eqb}
use Rattle.constraint.specs.Constraint as constraint
use Rattle.constraint.specs.Constraint.{vars_all}
use Rattle.constraint.specs.Solve.{elem, distinct}
use Rattle.akl.specs.Base.{Name, all}
use Rattle.akl.specs.Syntax.{Op, wait, cond, commit, Stmt}
use Rattle.akl.specs.Configuration.{Kind, goal, Node, or, and, stmt, choice_box, guard, Nodes, nil, cons}
use Rattle.akl.specs.Stability.{locals, locals_all}
use Rattle.akl.specs.WellFormed.{numbers, disjoint, no_interference, apart_or, apart_and}
use Rattle.mem_words.specs.declared.Word.{Word}
use Rattle.mem_words.specs.declared.Word.TheVariants.{End, Free, Place, Inner}
use Rattle.mem_sorts.specs.declared.Sort.TheVariants.{Locals, Store}
use Rattle.layout.specs.Layout.{stmt_words}
use Rattle.store_words.specs.Boxes.{box_kind, local_words, store_words, node_words, nodes_words}
use Rattle.check_words.specs.Frees.{is_and, is_locals}
use Rattle.check_words.specs.Apart.{Open, new, widen, closed, names, opened, local_apart, local_after, apart_from, apart_passed}
use Rattle.check_words.proofs.Walks.{Walks, stmt_walk, store_walk, both, and_assoc, and_true, all_append, all_true}
use Rattle.check_words.proofs.Tests.{or_false, or_assoc, and_mix, elem_append, all_ext, all_and, disjoint_all, none_equal, passed_before, strict_mix, local_mix, box_mix, not_or}

-- a bracket that holds no names
abbrev F : Bool → (ℕ → Bool) → Open
F st s = record { strict = st; naming = false; seen = s }

abbrev N : (ℕ → Bool) → Open
N s = record { strict = true; naming = true; seen = s }

abbrev none : ℕ → Bool
none y = false

-- brackets of a statement
abbrev plains : ℕ → List Open → List Open
plains zero S = S
plains (suc d) S = F false none ∷ plains d S

widen_none : (S : List Open) → widen none S ≡ S
widen_none [] = refl
widen_none (o ∷ S) = refl

unnamed : (d : ℕ) (S : List Open) → names S ≡ false → names (plains d S) ≡ false
unnamed zero S h = h
unnamed (suc d) S h = refl

any_number : ℕ → Bool
any_number x = true

run : List Open → ℕ → List Word → Bool
run S d W = apart_from (plains d S) W

walks : (S : List Open) → names S ≡ false → Walks (run S) any_number
unfolding run apart_from any_number
walks S h = record {
  free = λ x d W. ap (λ (b : Bool). local_apart b x (plains d S) && apart_from (local_after b x (plains d S)) W) (unnamed d S h);
  level = λ l d W. refl;
  num = λ n d W. refl;
  opens = λ s e d W. ap (λ (b : Bool). apart_from (opened b b (plains d S)) W) e;
  ends = λ d W. ap (λ (T : List Open). apart_from T W) (widen_none (plains d S));
}

skip_stmt : (S : List Open) → names S ≡ false → (num : Name → ℕ) (s : Stmt) (r : List Word) → apart_from S (stmt_words num s r) ≡ apart_from S r
unfolding run any_number
skip_stmt S h num s r = stmt_walk (run S) any_number (walks S h) num s 0 r ∙ ap (λ (t : Bool). t && apart_from S r) (all_true (numbers s))

skip_store : (S : List Open) → names S ≡ false → (num : Name → ℕ) (σ : constraint.Store) (r : List Word) → apart_from S (Inner Store ∷ store_words num σ (End ∷ r)) ≡ apart_from S r
unfolding run any_number apart_from
skip_store S h num σ r =
    store_walk (run S) any_number (walks S h) num σ 1 (End ∷ r)
    ∙ ap (λ (t : Bool). t && apart_from (plains 1 S) (End ∷ r)) (all_true (vars_all σ))
    ∙ ap (λ (T : List Open). apart_from T r) (widen_none S)

-- stacks whose brackets have passed the same
same_top : (st : Bool) (s t : ℕ → Bool) (S : List Open) (W : List Word) → ((y : ℕ) → s y ≡ t y) → apart_from (F st s ∷ S) W ≡ apart_from (F st t ∷ S) W
same_top st s t S W h = ap (λ (f : ℕ → Bool). apart_from (F st f ∷ S) W) (fun_ext h)

same_widened : (s t : ℕ → Bool) (S : List Open) (W : List Word) → ((y : ℕ) → s y ≡ t y) → apart_from (widen s S) W ≡ apart_from (widen t S) W
same_widened s t S W h = ap (λ (f : ℕ → Bool). apart_from (widen f S) W) (fun_ext h)

-- a bracket that has passed those of a, and those of s before
strict_new : (a : List ℕ) (s : ℕ → Bool) (S : List Open) (x : ℕ) → new x (F true (λ y. elem y a || s y) ∷ S) ≡ (not (elem x a) && new x (F true s ∷ S))
unfolding new
strict_new a s S x = go (elem x a)
  where
    go : (b : Bool) → elim (b || s x) as (λ z. Bool) [ true ↦ false | false ↦ new x S ] ≡ (not b && elim (s x) as (λ z. Bool) [ true ↦ false | false ↦ new x S ])
    go true = refl
    go false = refl

loose_new : (a : List ℕ) (s : ℕ → Bool) (S : List Open) (x : ℕ) → new x (F false (λ y. elem y a || s y) ∷ S) ≡ (elem x a || new x (F false s ∷ S))
unfolding new
loose_new a s S x = go (elem x a)
  where
    go : (b : Bool) → elim (b || s x) as (λ z. Bool) [ true ↦ true | false ↦ new x S ] ≡ (b || elim (s x) as (λ z. Bool) [ true ↦ true | false ↦ new x S ])
    go true = refl
    go false = refl

all_strict : (a b : List ℕ) (s : ℕ → Bool) (S : List Open) → all (λ x. new x (F true (λ y. elem y a || s y) ∷ S)) b ≡ (disjoint a b && all (λ x. new x (F true s ∷ S)) b)
all_strict a b s S =
    all_ext (λ x. new x (F true (λ y. elem y a || s y) ∷ S)) (λ x. not (elem x a) && new x (F true s ∷ S)) b (strict_new a s S)
    ∙ all_and (λ x. not (elem x a)) (λ x. new x (F true s ∷ S)) b
    ∙ ap (λ (t : Bool). t && all (λ x. new x (F true s ∷ S)) b) (sym (disjoint_all a b))

all_loose : (a b : List ℕ) (s : ℕ → Bool) (S : List Open) → all (λ x. new x (F false (λ y. elem y a || s y) ∷ S)) b ≡ all (λ x. elem x a || new x (F false s ∷ S)) b
all_loose a b s S = all_ext (λ x. new x (F false (λ y. elem y a || s y) ∷ S)) (λ x. elem x a || new x (F false s ∷ S)) b (loose_new a s S)

-- what was passed in two members
seen_both : (a b : List ℕ) (s : ℕ → Bool) (y : ℕ) → (elem y b || (elem y a || s y)) ≡ (elem y (a ++ b) || s y)
seen_both a b s y = go (elem y a) (elem y b) (s y) ∙ ap (λ (t : Bool). t || s y) (sym (elem_append y a b))
  where
    go : (a b s : Bool) → (b || (a || s)) ≡ ((a || b) || s)
    go true true s = refl
    go true false s = refl
    go false true s = refl
    go false false s = refl

-- the locals of an and-box, those of s being passed
naming_new : (s : ℕ → Bool) (S : List Open) (x : ℕ) → new x (N s ∷ F true none ∷ S) ≡ (not (s x) && new x S)
unfolding new
naming_new s S x = go (s x)
  where
    go : (b : Bool) → elim b as (λ z. Bool) [ true ↦ false | false ↦ new x S ] ≡ (not b && new x S)
    go true = refl
    go false = refl

not_seen : (s : ℕ → Bool) (x : ℕ) (vs : List ℕ) → all (λ z. not (eqb z x || s z)) vs ≡ (not (elem x vs) && all (λ z. not (s z)) vs)
not_seen s x vs =
    all_ext (λ z. not (eqb z x || s z)) (λ z. not (eqb z x) && not (s z)) vs (λ z. not_or (eqb z x) (s z))
    ∙ all_and (λ z. not (eqb z x)) (λ z. not (s z)) vs
    ∙ ap (λ (t : Bool). t && all (λ z. not (s z)) vs) (none_equal x vs)

seen_one : (x : ℕ) (vs : List ℕ) (s : ℕ → Bool) (y : ℕ) → ((elem y vs || (eqb y x || s y)) || false) ≡ ((elem y (x ∷ vs) || s y) || false)
unfolding elem
seen_one x vs s y = go (elem y vs) (eqb y x) (s y)
  where
    go : (a b s : Bool) → ((a || (b || s)) || false) ≡ (((b || a) || s) || false)
    go true true s = refl
    go true false s = refl
    go false true s = refl
    go false false s = refl

named : (vs : List ℕ) (s : ℕ → Bool) (S : List Open) (r : List Word) → apart_from (N s ∷ F true none ∷ S) (local_words vs (End ∷ r)) ≡ (((distinct vs && all (λ x. not (s x)) vs) && all (λ x. new x S) vs) && apart_from (F true (λ y. (elem y vs || s y) || false) ∷ S) r)
unfolding apart_from local_words distinct all elem
named [] s S r = refl
named (x ∷ vs) s S r =
    let s₁ : ℕ → Bool = λ y. eqb y x || s y in
    let R = apart_from (F true (λ y. (elem y (x ∷ vs) || s y) || false) ∷ S) r in
    ap₂ (λ (a b : Bool). a && b) (naming_new s S x)
    (named vs s₁ S r
    ∙ ap₂ (λ (t u : Bool). ((distinct vs && t) && all (λ z. new z S) vs) && u) (not_seen s x vs) (same_top true (λ y. (elem y vs || s₁ y) || false) (λ y. (elem y (x ∷ vs) || s y) || false) S r (seen_one x vs s)))
    ∙ local_mix (not (s x)) (new x S) (distinct vs) (not (elem x vs)) (all (λ z. not (s z)) vs) (all (λ z. new z S) vs) R

box_loose : (op : Op) → is_and (box_kind op) ≡ false
unfolding box_kind
box_loose wait = refl
box_loose cond = refl
box_loose commit = refl

abbrev inside : Bool → {k : Kind} → Nodes k → Bool
inside true ns = apart_and ns
inside false ns = apart_or ns

none_inside : (k : Kind) (st : Bool) (s : ℕ → Bool) (S : List Open) (r : List Word) → apart_from (F st s ∷ S) r ≡ ((inside st (nil {k = k}) && true) && apart_from (F st (λ y. elem y [] || s y) ∷ S) r)
unfolding apart_or elem
none_inside k true s S r = refl
none_inside k false s S r = refl

-- a member with the locals a, and the others with b
abbrev joint : Bool → Bool → List ℕ → List ℕ → Bool → Bool
joint true n a b m = (n && disjoint a b) && m
joint false n a b m = n && m

joined : (st : Bool) (s : ℕ → Bool) (S : List Open) (r : List Word) (n m : Bool) (a b : List ℕ) → ((n && all (λ x. new x (F st s ∷ S)) a) && ((m && all (λ x. new x (F st (λ y. elem y a || s y) ∷ S)) b) && apart_from (F st (λ y. elem y b || (elem y a || s y)) ∷ S) r)) ≡ ((joint st n a b m && all (λ x. new x (F st s ∷ S)) (a ++ b)) && apart_from (F st (λ y. elem y (a ++ b) || s y) ∷ S) r)
joined true s S r n m a b =
    let g : ℕ → Bool = λ x. new x (F true s ∷ S) in
    let R = apart_from (F true (λ y. elem y (a ++ b) || s y) ∷ S) r in
    ap₂ (λ (t u : Bool). (n && all g a) && ((m && t) && u)) (all_strict a b s S) (same_top true (λ y. elem y b || (elem y a || s y)) (λ y. elem y (a ++ b) || s y) S r (seen_both a b s))
    ∙ box_mix n (all g a) m (disjoint a b) (all g b) R
    ∙ ap (λ (t : Bool). (((n && disjoint a b) && m) && t) && R) (sym (all_append g a b))
joined false s S r n m a b =
    let g : ℕ → Bool = λ x. new x (F false s ∷ S) in
    let R = apart_from (F false (λ y. elem y (a ++ b) || s y) ∷ S) r in
    ap₂ (λ (t u : Bool). (n && all g a) && ((m && t) && u)) (all_loose a b s S) (same_top false (λ y. elem y b || (elem y a || s y)) (λ y. elem y (a ++ b) || s y) S r (seen_both a b s))
    ∙ sym (and_assoc (n && all g a) (m && all (λ x. elem x a || g x) b) R)
    ∙ ap (λ (t : Bool). t && R) (and_mix n (all g a) m (all (λ x. elem x a || g x) b))
    ∙ ap (λ (t : Bool). ((n && m) && t) && R) (passed_before g a b ∙ sym (all_append g a b))

-- the members of a bracket, one and the others
inside_cons : {k : Kind} (st : Bool) (n : Node k) (ns : Nodes k) → joint st (no_interference n) (locals n) (locals_all ns) (inside st ns) ≡ inside st (cons n ns)
unfolding no_interference
inside_cons true n ns = refl
inside_cons false n ns = refl

mutual
  unfolding node_words locals no_interference all apart_from new elem

  node_apart : (num : Name → ℕ) {k : Kind} (n : Node k) (S : List Open) (r : List Word) → apart_from S (node_words num n r) ≡ ((no_interference n && all (λ x. new x S) (locals n)) && apart_from (widen (λ y. elem y (locals n)) S) r)
  node_apart num (or ns) S r =
      nodes_apart num ns false none S (End ∷ r)
      ∙ ap (λ (t : Bool). (apart_or ns && all (λ x. new x S) (locals_all ns)) && t) (same_widened (λ y. elem y (locals_all ns) || false) (λ y. elem y (locals_all ns)) S r (λ y. or_false (elem y (locals_all ns))))
  node_apart num (and vs σ ms) S r =
      let s : ℕ → Bool = λ y. (elem y vs || false) || false in
      let L = locals_all ms in
      let M = nodes_words num ms (End ∷ r) in
      let X = apart_from (widen (λ y. elem y (vs ++ L)) S) r in
      named vs none S (Inner Store ∷ store_words num σ (End ∷ M))
      ∙ ap₂ (λ (t u : Bool). ((distinct vs && t) && all (λ x. new x S) vs) && u) (all_true vs)
      (skip_store (F true s ∷ S) refl num σ M
      ∙ nodes_apart num ms true s S (End ∷ r)
      ∙ ap₂ (λ (t u : Bool). (apart_and ms && t) && u)
      (all_ext (λ x. new x (F true s ∷ S)) (λ x. new x (F true (λ y. elem y vs || false) ∷ S)) L (λ x. ap (λ (f : ℕ → Bool). new x (F true f ∷ S)) (fun_ext (λ y. or_false (elem y vs || false)))) ∙ all_strict vs L none S)
      (same_widened (λ y. elem y L || s y) (λ y. elem y (vs ++ L)) S r (λ y. ap (λ (t : Bool). elem y L || t) (or_false (elem y vs || false)) ∙ seen_both vs L none y ∙ or_false (elem y (vs ++ L)))))
      ∙ ap (λ (t : Bool). (t && all (λ x. new x S) vs) && ((apart_and ms && (disjoint vs L && all (λ x. new x S) L)) && X)) (and_true (distinct vs))
      ∙ box_mix (distinct vs) (all (λ x. new x S) vs) (apart_and ms) (disjoint vs L) (all (λ x. new x S) L) X
      ∙ ap (λ (t : Bool). (((distinct vs && disjoint vs L) && apart_and ms) && t) && X) (sym (all_append (λ x. new x S) vs L))
  node_apart num (stmt s) S r = skip_stmt (F false none ∷ S) refl num s (End ∷ r)
  node_apart num (choice_box op gs) S r =
      ap (λ (b : Bool). apart_from (F b none ∷ S) (nodes_words num gs (End ∷ r))) (box_loose op)
      ∙ nodes_apart num gs false none S (End ∷ r)
      ∙ ap (λ (t : Bool). (apart_or gs && all (λ x. new x S) (locals_all gs)) && t) (same_widened (λ y. elem y (locals_all gs) || false) (λ y. elem y (locals_all gs)) S r (λ y. or_false (elem y (locals_all gs))))
  node_apart num (guard g b) S r =
      node_apart num g (F false none ∷ S) (stmt_words num b (End ∷ r))
      ∙ ap (λ (t : Bool). (no_interference g && all (λ x. new x S) (locals g)) && t)
      (skip_stmt (F false (λ y. elem y (locals g) || false) ∷ S) refl num b (End ∷ r) ∙ same_widened (λ y. elem y (locals g) || false) (λ y. elem y (locals g)) S r (λ y. or_false (elem y (locals g))))

  nodes_apart : (num : Name → ℕ) {k : Kind} (ns : Nodes k) (st : Bool) (s : ℕ → Bool) (S : List Open) (r : List Word) → apart_from (F st s ∷ S) (nodes_words num ns r) ≡ ((inside st ns && all (λ x. new x (F st s ∷ S)) (locals_all ns)) && apart_from (F st (λ y. elem y (locals_all ns) || s y) ∷ S) r)
  nodes_apart num {k} nil st s S r = none_inside k st s S r
  nodes_apart num (cons n ns) st s S r =
      node_apart num n (F st s ∷ S) (nodes_words num ns r)
      ∙ ap (λ (t : Bool). (no_interference n && all (λ x. new x (F st s ∷ S)) (locals n)) && t) (nodes_apart num ns st (λ y. elem y (locals n) || s y) S r)
      ∙ joined st s S r (no_interference n) (inside st ns) (locals n) (locals_all ns)
      ∙ ap (λ (t : Bool). (t && all (λ x. new x (F st s ∷ S)) (locals n ++ locals_all ns)) && apart_from (F st (λ y. elem y (locals n ++ locals_all ns) || s y) ∷ S) r) (inside_cons st n ns)

pub apart_law : (num : Name → ℕ) (n : Node goal) (C : List Word) → C ≡ node_words num n [] → apart_passed C ≡ no_interference n
unfolding apart_passed apart_from new
apart_law num n C e = ap (apart_from []) e ∙ node_apart num n [] [] ∙ and_true (no_interference n && all (λ x. true) (locals n)) ∙ ap (λ (t : Bool). no_interference n && t) (all_true (locals n)) ∙ and_true (no_interference n)
