-- The words of a configuration pass the test of query variables exactly when these are local to exactly the and-boxes of the top
-- or-box and of or-boxes nested in it.
use mathlib.Core.Path.{◌≡◌, refl, ap, ap₂, sym, ◌∙◌}
use mathlib.Core.List.{List, [], ◌∷◌, ◌++◌}
use mathlib.Core.Bool.{Bool, true, false, ◌&&◌}
use Prim.Native.Nat.{ℕ, zero, suc}
use native.Mathlib.Omega.{arith}
use borrow.Author.Tests.{lt-ltb}
use lib.Dec.{leb, ltb}
use lib.ListN.{drop}
use Rattle.constraint.specs.Constraint.{vars_all}
use Rattle.constraint.specs.Solve.{elem}
use Rattle.akl.specs.Base.{Name, all, range}
use Rattle.akl.specs.Configuration.{Kind, goal, member, guarded, Node, or, and, stmt, choice_box, guard, Nodes, nil, cons}
use Rattle.akl.specs.Syntax.{Op, wait, cond, commit}
use Rattle.akl.specs.Stability.{locals, locals_all}
use Rattle.akl.specs.WellFormed.{numbers, query_locals, query_locals_all}
use Rattle.mem_words.specs.declared.Word.{Word}
use Rattle.mem_words.specs.declared.Word.TheVariants.{End, Free, Place, Inner}
use Rattle.mem_sorts.specs.declared.Sort.TheVariants.{Locals, Store}
use Rattle.layout.specs.Layout.{stmt_words}
use Rattle.store_words.specs.Boxes.{box_kind, local_words, store_words, node_words, nodes_words}
use Rattle.check_words.specs.Frees.{frees, is_and, is_locals}
use Rattle.check_words.specs.Query.{up, box_passes, query_from, query_passed}
use Rattle.check_words.proofs.Walks.{Walks, stmt_walk, store_walk, locals_walk, both, and_assoc, and_true, all_append, all_true, frees_locals}

-- the pass inside an outermost and-box, where it asks nothing of a variable of a statement
run : ℕ → ℕ → List Word → Bool
run q d W = query_from q false (suc d) W

any_number : ℕ → Bool
any_number x = true

walks : (q : ℕ) → Walks (run q) any_number
unfolding run query_from any_number
walks q = record {
  free = λ x d W. refl;
  level = λ l d W. refl;
  num = λ n d W. refl;
  opens = λ s e d W. ap (λ (b : Bool). query_from q (b && ltb 1 (suc d)) (suc (suc d)) W) e;
  ends = λ d W. refl;
}

none_asked : (l : List ℕ) → all any_number l ≡ true
unfolding any_number
none_asked l = all_true l

-- what asks nothing is passed
passed : (a b c : Bool) → a ≡ (b && c) → b ≡ true → a ≡ c
passed a b c e h = e ∙ ap (λ (t : Bool). t && c) h

-- the locals of an inner and-box
inner_locals : (q d : ℕ) (vs : List ℕ) (r : List Word) → query_from q true (suc d) (local_words vs (End ∷ r)) ≡ (all (leb q) vs && query_from q false d r)
unfolding query_from local_words all
inner_locals q d [] r = refl
inner_locals q d (x ∷ vs) r = both (leb q x) (query_from q true (suc d) (local_words vs (End ∷ r))) (all (leb q) vs) (query_from q false d r) (inner_locals q d vs r)

box_opens : (op : Op) (q d : ℕ) (W : List Word) → run q d (Place (box_kind op) ∷ W) ≡ run q (suc d) W
unfolding run query_from box_kind
box_opens wait q d W = refl
box_opens cond q d W = refl
box_opens commit q d W = refl

-- an and-box's members and what stands before them, from its store on
stored : (q d : ℕ) (num : Name → ℕ) (σ : _) (M : List Word) → run q d (Inner Store ∷ store_words num σ (End ∷ M)) ≡ run q d M
unfolding run query_from
stored q d num σ M =
    passed (run q (suc d) (store_words num σ (End ∷ M))) (all any_number (vars_all σ)) (run q (suc d) (End ∷ M)) (store_walk (run q) any_number (walks q) num σ (suc d) (End ∷ M)) (none_asked (vars_all σ))

mutual
  unfolding node_words locals all run query_from

  inner_node : (q : ℕ) (num : Name → ℕ) {k : Kind} (n : Node k) (d : ℕ) (r : List Word) → run q d (node_words num n r) ≡ (all (leb q) (locals n) && run q d r)
  inner_node q num (or ns) d r = inner_nodes q num ns (suc d) (End ∷ r)
  inner_node q num (and vs σ ms) d r =
      let p : ℕ → Bool = leb q in
      let M = nodes_words num ms (End ∷ r) in
      let S = Inner Store ∷ store_words num σ (End ∷ M) in
      let e : ltb 1 (suc (suc d)) ≡ true = lt-ltb 1 (suc (suc d)) (omega arith) in
      ap (λ (b : Bool). query_from q b (suc (suc (suc d))) (local_words vs (End ∷ S))) e
      ∙ inner_locals q (suc (suc d)) vs S
      ∙ ap (λ (t : Bool). all p vs && t) (stored q (suc d) num σ M)
      ∙ both (all p vs) (run q (suc d) M) (all p (locals_all ms)) (run q d r) (inner_nodes q num ms (suc d) (End ∷ r))
      ∙ ap (λ (t : Bool). t && run q d r) (sym (all_append p vs (locals_all ms)))
  inner_node q num (stmt s) d r = passed (run q (suc d) (stmt_words num s (End ∷ r))) (all any_number (numbers s)) (run q d r) (stmt_walk (run q) any_number (walks q) num s (suc d) (End ∷ r)) (none_asked (numbers s))
  inner_node q num (choice_box op gs) d r = box_opens op q d (nodes_words num gs (End ∷ r)) ∙ inner_nodes q num gs (suc d) (End ∷ r)
  inner_node q num (guard g b) d r =
      inner_node q num g (suc d) (stmt_words num b (End ∷ r))
      ∙ ap (λ (t : Bool). all (leb q) (locals g) && t)
      (passed (run q (suc d) (stmt_words num b (End ∷ r))) (all any_number (numbers b)) (run q d r) (stmt_walk (run q) any_number (walks q) num b (suc d) (End ∷ r)) (none_asked (numbers b)))

  inner_nodes : (q : ℕ) (num : Name → ℕ) {k : Kind} (ns : Nodes k) (d : ℕ) (r : List Word) → run q d (nodes_words num ns r) ≡ (all (leb q) (locals_all ns) && run q d r)
  inner_nodes q num nil d r = refl
  inner_nodes q num (cons n ns) d r =
      let p : ℕ → Bool = leb q in
      inner_node q num n d (nodes_words num ns r)
      ∙ both (all p (locals n)) (run q d (nodes_words num ns r)) (all p (locals_all ns)) (run q d r) (inner_nodes q num ns d r)
      ∙ ap (λ (t : Bool). t && run q d r) (sym (all_append p (locals n) (locals_all ns)))

abbrev IsGoal : Kind → Type 0
IsGoal goal = Unit {0}
IsGoal member = ⊥
IsGoal guarded = ⊥

-- the locals of the outermost and-box itself
own_locals : (q : ℕ) (vs : List ℕ) (r : List Word) → query_from q false 2 (local_words vs (End ∷ r)) ≡ query_from q false 1 r
unfolding query_from local_words
own_locals q [] r = refl
own_locals q (x ∷ vs) r = own_locals q vs r

-- every query variable is among them
own : (q : ℕ) (vs : List ℕ) (S : List Word) → box_passes q (Inner Locals ∷ local_words vs (End ∷ S)) ≡ all (λ x. elem x vs) (range 0 q)
unfolding box_passes
own q vs S = ap (λ (l : List ℕ). all (λ x. elem x l) (range 0 q)) (frees_locals vs S)

mutual
  unfolding node_words query_locals run query_from

  top_node : (q : ℕ) (num : Name → ℕ) {k : Kind} (n : Node k) → IsGoal k → (r : List Word) → query_from q false 0 (node_words num n r) ≡ (query_locals n q && query_from q false 0 r)
  top_node q num (or ns) g r = top_nodes q num ns g (End ∷ r)
  top_node q num (and vs σ ms) g r =
      let M = nodes_words num ms (End ∷ r) in
      let S = Inner Store ∷ store_words num σ (End ∷ M) in
      let h : Bool = all (λ x. elem x vs) (range 0 q) in
      ap₂ (λ (a b : Bool). a && b) (own q vs S) (own_locals q vs S ∙ stored q 0 num σ M ∙ inner_nodes q num ms 0 (End ∷ r))
      ∙ sym (and_assoc h (all (leb q) (locals_all ms)) (query_from q false 0 r))
  top_node q num (stmt s) g r = absurd g
  top_node q num (choice_box op gs) g r = absurd g
  top_node q num (guard h b) g r = absurd g

  top_nodes : (q : ℕ) (num : Name → ℕ) {k : Kind} (ns : Nodes k) → IsGoal k → (r : List Word) → query_from q false 0 (nodes_words num ns r) ≡ (query_locals_all ns q && query_from q false 0 r)
  top_nodes q num nil g r = refl
  top_nodes q num (cons n ns) g r =
      top_node q num n g (nodes_words num ns r)
      ∙ both (query_locals n q) (query_from q false 0 (nodes_words num ns r)) (query_locals_all ns q) (query_from q false 0 r) (top_nodes q num ns g r)

pub query_law : (q : ℕ) (num : Name → ℕ) (n : Node goal) (C : List Word) → C ≡ node_words num n [] → query_passed q C ≡ query_locals n q
unfolding query_passed query_from
query_law q num n C e = ap (query_from q false 0) e ∙ top_node q num n tt [] ∙ and_true (query_locals n q)
