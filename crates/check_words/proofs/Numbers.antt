-- The words of a configuration pass the test of numbers exactly when no variable has the next fresh number or a higher one.
use mathlib.Core.Path.{◌≡◌, refl, ap, ap₂, sym, ◌∙◌}
use mathlib.Core.List.{List, [], ◌∷◌, ◌++◌}
use mathlib.Core.Bool.{Bool, true, false, ◌&&◌}
use Prim.Native.Nat.{ℕ, zero, suc, ◌+◌, ◌≤◌, ◌<◌}
use native.Mathlib.Omega.{arith}
use native.Mathlib.Decide.{dec_lt}
use borrow.Author.Tests.{lt-ltb, le-ltb, le-leb, lt-leb}
use lib.Dec.{leb, ltb}
use Rattle.constraint.specs.Constraint.{vars_all}
use Rattle.akl.specs.Base.{Name, all, range}
use Rattle.akl.specs.Configuration.{Kind, goal, Node, or, and, stmt, choice_box, guard, Nodes, nil, cons}
use Rattle.akl.specs.Syntax.{Op}
use Rattle.akl.specs.WellFormed.{numbers, all_numbers, all_numbers_in}
use Rattle.mem_words.specs.declared.Word.{Word}
use Rattle.mem_words.specs.declared.Word.TheVariants.{End, Place, Inner}
use Rattle.mem_sorts.specs.declared.Sort.TheVariants.{Locals, Store}
use Rattle.layout.specs.Layout.{stmt_words}
use Rattle.store_words.specs.Boxes.{box_kind, local_words, store_words, node_words, nodes_words}
use Rattle.check_words.specs.Frees.{word_below, numbers_passed}
use Rattle.check_words.proofs.Walks.{Walks, stmt_walk, store_walk, locals_walk, both, and_true, all_append}

-- the pass, at any depth
run : ℕ → ℕ → List Word → Bool
run next d W = all (word_below next) W

walks : (next : ℕ) → Walks (run next) (λ x. ltb x next)
unfolding run all
walks next = record {
  free = λ x d W. refl;
  level = λ l d W. refl;
  num = λ n d W. refl;
  opens = λ s e d W. refl;
  ends = λ d W. refl;
}

mutual
  unfolding node_words all_numbers all run

  below_node : (next : ℕ) (num : Name → ℕ) {k : Kind} (n : Node k) (r : List Word) → run next 0 (node_words num n r) ≡ (all (λ x. ltb x next) (all_numbers n) && run next 0 r)
  below_node next num (or ns) r = below_nodes next num ns (End ∷ r)
  below_node next num (and vs σ ms) r =
      let p : ℕ → Bool = λ x. ltb x next in
      let M = nodes_words num ms (End ∷ r) in
      let S = store_words num σ (End ∷ M) in
      locals_walk (run next) p (walks next) vs 0 (End ∷ Inner Store ∷ S)
      ∙ both (all p vs) (run next 0 S) (all p (vars_all σ)) (run next 0 M) (store_walk (run next) p (walks next) num σ 0 (End ∷ M))
      ∙ both (all p vs && all p (vars_all σ)) (run next 0 M) (all p (all_numbers_in ms)) (run next 0 r) (below_nodes next num ms (End ∷ r))
      ∙ ap (λ (t : Bool). (t && all p (all_numbers_in ms)) && run next 0 r) (sym (all_append p vs (vars_all σ)))
      ∙ ap (λ (t : Bool). t && run next 0 r) (sym (all_append p (vs ++ vars_all σ) (all_numbers_in ms)))
  below_node next num (stmt s) r = stmt_walk (run next) (λ x. ltb x next) (walks next) num s 0 (End ∷ r)
  below_node next num (choice_box op gs) r = below_nodes next num gs (End ∷ r)
  below_node next num (guard g b) r =
      let p : ℕ → Bool = λ x. ltb x next in
      below_node next num g (stmt_words num b (End ∷ r))
      ∙ both (all p (all_numbers g)) (run next 0 (stmt_words num b (End ∷ r))) (all p (numbers b)) (run next 0 r) (stmt_walk (run next) p (walks next) num b 0 (End ∷ r))
      ∙ ap (λ (t : Bool). t && run next 0 r) (sym (all_append p (all_numbers g) (numbers b)))

  below_nodes : (next : ℕ) (num : Name → ℕ) {k : Kind} (ns : Nodes k) (r : List Word) → run next 0 (nodes_words num ns r) ≡ (all (λ x. ltb x next) (all_numbers_in ns) && run next 0 r)
  below_nodes next num nil r = refl
  below_nodes next num (cons n ns) r =
      let p : ℕ → Bool = λ x. ltb x next in
      below_node next num n (nodes_words num ns r)
      ∙ both (all p (all_numbers n)) (run next 0 (nodes_words num ns r)) (all p (all_numbers_in ns)) (run next 0 r) (below_nodes next num ns r)
      ∙ ap (λ (t : Bool). t && run next 0 r) (sym (all_append p (all_numbers n) (all_numbers_in ns)))

range_below : (next from n : ℕ) → all (λ x. ltb x next) (range from (suc n)) ≡ leb (from + suc n) next
unfolding all range
range_below next from zero = and_true (ltb from next) ∙ go (dec_lt from next)
  where
    go : Dec (from < next) → ltb from next ≡ leb (from + 1) next
    go (yes h) = lt-ltb from next h ∙ sym (le-leb (from + 1) next (omega arith))
    go (no h) = le-ltb from next (omega arith) ∙ sym (lt-leb (from + 1) next (omega arith))
range_below next from (suc n) =
    let e : suc from + suc n ≡ from + suc (suc n) = omega arith in
    ap (λ (t : Bool). ltb from next && t) (range_below next (suc from) n ∙ ap (λ (k : ℕ). leb k next) e) ∙ go (dec_lt from next)
  where
    go : Dec (from < next) → (ltb from next && leb (from + suc (suc n)) next) ≡ leb (from + suc (suc n)) next
    go (yes h) = ap (λ (t : Bool). t && leb (from + suc (suc n)) next) (lt-ltb from next h)
    go (no h) = ap (λ (t : Bool). t && leb (from + suc (suc n)) next) (le-ltb from next (omega arith)) ∙ sym (lt-leb (from + suc (suc n)) next (omega arith))

query_below : (next q : ℕ) → all (λ x. ltb x next) (range 0 q) ≡ leb q next
unfolding all range
query_below next zero = sym (le-leb 0 next (omega arith))
query_below next (suc n) = let e : 0 + suc n ≡ suc n = omega arith in range_below next 0 n ∙ ap (λ (k : ℕ). leb k next) e

pub numbers_law : (q next : ℕ) (num : Name → ℕ) (n : Node goal) (C : List Word) → C ≡ node_words num n [] → numbers_passed q next C ≡ all (λ x. ltb x next) (range 0 q ++ all_numbers n)
unfolding numbers_passed all run
numbers_law q next num n C e =
    let p : ℕ → Bool = λ x. ltb x next in
    ap (λ (W : List Word). leb q next && all (word_below next) W) e
    ∙ ap₂ (λ (a b : Bool). a && b) (sym (query_below next q)) (below_node next num n [] ∙ and_true (all p (all_numbers n)))
    ∙ sym (all_append p (range 0 q) (all_numbers n))
