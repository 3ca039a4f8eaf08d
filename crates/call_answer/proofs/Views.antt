-- The table of names and the query's variables of a store that holds a state, as they are lent.
use mathlib.Core.Path.{◌≡◌, ap, ap₂, sym, ◌∙◌, subst}
use mathlib.Core.List.{List, [], ◌∷◌, ◌++◌}
use Prim.Native.Nat.{ℕ, zero, suc, ◌+◌, ◌-◌, ◌*◌, ◌≤◌, ◌<◌}
use native.Mathlib.Omega.{arith}
use lib.Dec.{T, ltb, ltb→lt}
use lib.ListN.{length, get_or, take, drop, length-drop}
use lib.Seq.{take-append-le, drop-append-le}
use Rattle.constraint.proofs.Lists.{and_T}
use Rattle.akl.specs.Base.{all}
use Rattle.akl.specs.Limits.{most_parts, most_query_variables}
use Rattle.mem_numbers.specs.Numbers.{triples}
use Rattle.mem_parts.specs.Parts.{cut}
use Rattle.store_form.specs.Sizes.{most_nodes, store_length}
use Rattle.store_form.specs.State.{State, table}
use Rattle.store_form.specs.Form.{header, store_bytes}
use Rattle.store_form.specs.Holding.{Fits, piece, below}
use Rattle.store_form.proofs.Lengths.{starts, lengths}
use Rattle.store_form.proofs.Reading as reading
use Rattle.store_views.proofs.Views.{numbers_are, held_begins}
use Rattle.check_held.specs.Checks.{nodes_in, variables_in}
use Rattle.step_meant.specs.Deciding.{HoldsState}
use Rattle.answer_line.specs.Lined.{CanLine}

-- a piece, as it is lent
cut_piece : (o k : ℕ) (l : List ℕ) → cut o (o + 3 * k) l ≡ piece o k l
unfolding cut piece
cut_piece o k l = let e : o + 3 * k - o ≡ 3 * k = omega arith in ap (λ (n : ℕ). take n (drop o l)) e

-- a piece of the first bytes
piece_front : (o k : ℕ) (x r : List ℕ) → o + 3 * k ≤ length x → piece o k (x ++ r) ≡ piece o k x
unfolding piece
piece_front o k x r h = ap (take (3 * k)) (drop-append-le o x r (omega arith)) ∙ take-append-le (3 * k) (drop o x) r (omega (arith, length-drop o x))

few_nodes : most_nodes ≤ 20489
unfolding most_nodes
few_nodes = omega arith

known_at : (n : ℕ) (l : List ℕ) → T (all (below n) l) → (i : ℕ) → i < length l → get_or l i 0 < n
unfolding all
known_at n [] t i h = absurd (omega arith)
known_at n (x ∷ l) t zero h = ltb→lt x n ((and_T (ltb x n) (all (below n) l)).0 t).0
known_at n (x ∷ l) t (suc i) h = known_at n l ((and_T (ltb x n) (all (below n) l)).0 t).1 i (omega arith)

module _ (b : List ℕ) (h : HoldsState b) where
  abbrev s : State
  s = h.state

  abbrev x : List ℕ
  x = store_bytes most_parts h.state

  begins : (b ≡ store_bytes most_parts s ++ drop (store_length most_parts) b) × Fits most_parts s
  begins = held_begins most_parts (omega arith) b s h.holds

  long : length x ≡ 245853
  long = reading.bytes_length most_parts (omega arith) s begins.1 ∙ lengths.0

  there : (o k : ℕ) → o + 3 * k ≤ 245853 → cut o (o + 3 * k) b ≡ piece o k x
  there o k l = cut_piece o k b ∙ ap (piece o k) begins.0 ∙ piece_front o k x (drop (store_length most_parts) b) (omega (arith, long))

  nodes_counted : nodes_in b ≡ suc (length s.cells)
  unfolding header
  nodes_counted = ap (λ (l : List ℕ). get_or l 1 0) (numbers_are most_parts (omega arith) s begins.1 _ b begins.0)

  variables_counted : variables_in b ≡ length s.variables
  unfolding header
  variables_counted = ap (λ (l : List ℕ). get_or l 3 0) (numbers_are most_parts (omega arith) s begins.1 _ b begins.0)

  module _ (k : ℕ) (ek : k ≡ nodes_in b) where
    pub names_within : 18 + 3 * k ≤ 159789
    names_within = omega (arith, ek, nodes_counted, begins.1.nodes, few_nodes)

    pub names_there : triples (cut 18 (18 + 3 * k) b) ≡ table s
    names_there =
        ap triples (there 18 k (omega (arith, names_within)))
        ∙ ap₂ (λ (o n : ℕ). triples (piece o n x)) (sym starts.0) (ek ∙ nodes_counted)
        ∙ reading.names_read most_parts (omega arith) s begins.1

  module _ (v : ℕ) (ev : v ≡ variables_in b) where
    pub variables_within : 159789 + 3 * v ≤ 159837
    variables_within = omega (arith, ev, variables_counted, begins.1.variables)

    pub variables_there : triples (cut 159789 (159789 + 3 * v) b) ≡ s.variables
    variables_there =
        ap triples (there 159789 v (omega (arith, variables_within)))
        ∙ ap₂ (λ (o n : ℕ). triples (piece o n x)) (sym starts.1) (ev ∙ variables_counted)
        ∙ reading.variables_read most_parts (omega arith) s begins.1

  pub can_line : CanLine (table s) s.variables
  can_line = record { few = omega (arith, begins.1.variables); low = known_at (suc (length s.cells)) s.variables begins.1.known }
