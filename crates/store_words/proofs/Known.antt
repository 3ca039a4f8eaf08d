-- The words of a configuration whose names are spelt are numbered: so what Only.antt asks of words holds of all words of nodes.
use mathlib.Core.List.{List, [], ◌∷◌}
use Prim.Native.Nat.{ℕ}
use Rattle.constraint.specs.Constraint.{map_con}
use Rattle.constraint.specs.Constraint as constraint
use Rattle.akl.specs.Base.{Name}
use Rattle.akl.specs.Syntax.{number, atom}
use Rattle.akl.specs.Configuration as akl
use Rattle.akl.specs.Configuration.{Node, or, and, stmt, choice_box, guard, Nodes, nil, cons}
use Rattle.mem_words.specs.declared.Word.{Word}
use Rattle.mem_words.specs.declared.Word.TheVariants.{End, Inner}
use Rattle.mem_sorts.specs.declared.Sort.TheVariants.{Store}
use Rattle.layout.specs.Layout.{stmt_words}
use Rattle.layout.specs.Tables.{Numbered}
use Rattle.layout.proofs.Known.{stmt_known}
use Rattle.store_words.specs.Boxes.{local_words, store_words, node_words, nodes_words}
use Rattle.store_words.specs.Tables.{SpeltStore, SpeltNode, SpeltNodes}

pub local_known : (num : Name → ℕ) (spell : ℕ → Name) (xs : List ℕ) (r : List Word) → Numbered num spell r → Numbered num spell (local_words xs r)
unfolding local_words
local_known num spell [] r h = h
local_known num spell (x ∷ xs) r h = (tt, local_known num spell xs r h)

pub store_known : (num : Name → ℕ) (spell : ℕ → Name) (σ : constraint.Store) (r : List Word) → SpeltStore num spell σ → Numbered num spell r → Numbered num spell (store_words num σ r)
unfolding store_words stmt_words
store_known num spell [] r h k = k
store_known num spell (c ∷ σ) r h k = stmt_known num spell (atom (map_con number c)) (store_words num σ r) h.0 (store_known num spell σ r h.1 k)

mutual
  unfolding node_words

  pub node_known : (num : Name → ℕ) (spell : ℕ → Name) {k : akl.Kind} (n : Node k) (r : List Word) → SpeltNode num spell n → Numbered num spell r → Numbered num spell (node_words num n r)
  node_known num spell (or ns) r h k = (tt, nodes_known num spell ns (End ∷ r) h (tt, k))
  node_known num spell (and vs σ ms) r h k =
      let w2 = End ∷ nodes_words num ms (End ∷ r) in
      (tt, (tt, local_known num spell vs (End ∷ Inner Store ∷ store_words num σ w2) (tt, (tt, store_known num spell σ w2 h.0 (tt, nodes_known num spell ms (End ∷ r) h.1 (tt, k))))))
  node_known num spell (stmt s) r h k = (tt, stmt_known num spell s (End ∷ r) h (tt, k))
  node_known num spell (choice_box op gs) r h k = (tt, nodes_known num spell gs (End ∷ r) h (tt, k))
  node_known num spell (guard g b) r h k = (tt, node_known num spell g (stmt_words num b (End ∷ r)) h.0 (stmt_known num spell b (End ∷ r) h.1 (tt, k)))

  pub nodes_known : (num : Name → ℕ) (spell : ℕ → Name) {k : akl.Kind} (ns : Nodes k) (r : List Word) → SpeltNodes num spell ns → Numbered num spell r → Numbered num spell (nodes_words num ns r)
  nodes_known num spell nil r h k = k
  nodes_known num spell (cons n ns) r h k = node_known num spell n (nodes_words num ns r) h.0 (nodes_known num spell ns r h.1 k)
