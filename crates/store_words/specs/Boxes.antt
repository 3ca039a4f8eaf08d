-- Configurations laid out as words. Names stand as numbers: num gives the number of a name. Assumes nothing.
--
--   or-box           Place Or, words of each goal, End
--   and-box          Place And, Inner Locals, Free x for each local x, End, Inner Store, words of each constraint, End,
--                    words of each member, End
--   choice-box       Place Wait, Cond or Commit, words of each guarded goal, End
--   guarded goal     Place Guarded, words of the guard, words of the body, End
--   statement        Place Member, words of the statement, End
--   constraint       as the statement that it was
--
-- Each function takes the words that follow as its last argument.
use Rattle.std.specs.Prelude.{List, [], ◌∷◌, ℕ}
use Rattle.constraint.specs.Constraint as constraint
use Rattle.constraint.specs.Constraint.{map_con}
use Rattle.akl.specs.Base.{Name}
use Rattle.akl.specs.Syntax.{number, Op, wait, cond, commit}
use Rattle.akl.specs.Configuration as akl
use Rattle.akl.specs.Configuration.{Node, or, and, stmt, choice_box, guard, Nodes, nil, cons}
use Rattle.mem_words.specs.declared.Word.{Word}
use Rattle.mem_words.specs.declared.Word.TheVariants.{End, Free, Place, Inner}
use Rattle.mem_sorts.specs.declared.Kind.{Kind}
use Rattle.mem_sorts.specs.declared.Kind.TheVariants.{Or, And, Guarded, Member, Wait, Cond, Commit}
use Rattle.mem_sorts.specs.declared.Sort.TheVariants.{Locals, Store}
use Rattle.layout.specs.Layout.{con_words, stmt_words}

-- what opens a choice-box
unfoldable pub box_kind : Op → Kind
box_kind wait = Wait
box_kind cond = Cond
box_kind commit = Commit

unfoldable pub local_words : List ℕ → List Word → List Word
local_words [] r = r
local_words (x ∷ xs) r = Free x ∷ local_words xs r

unfoldable pub store_words : (Name → ℕ) → constraint.Store → List Word → List Word
store_words num [] r = r
store_words num (c ∷ σ) r = con_words num (map_con number c) (store_words num σ r)

unfoldable mutual
  pub node_words : (Name → ℕ) → {k : akl.Kind} → Node k → List Word → List Word
  node_words num (or ns) r = Place Or ∷ nodes_words num ns (End ∷ r)
  node_words num (and vs σ ms) r = Place And ∷ Inner Locals ∷ local_words vs (End ∷ Inner Store ∷ store_words num σ (End ∷ nodes_words num ms (End ∷ r)))
  node_words num (stmt s) r = Place Member ∷ stmt_words num s (End ∷ r)
  node_words num (choice_box op gs) r = Place (box_kind op) ∷ nodes_words num gs (End ∷ r)
  node_words num (guard g b) r = Place Guarded ∷ node_words num g (stmt_words num b (End ∷ r))

  pub nodes_words : (Name → ℕ) → {k : akl.Kind} → Nodes k → List Word → List Word
  nodes_words num nil r = r
  nodes_words num (cons n ns) r = node_words num n (nodes_words num ns r)
