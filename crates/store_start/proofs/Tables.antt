-- The table of names that the reader leaves, cut to its nodes and with nothing at its root: the same names.
use mathlib.Core.Path.{◌≡◌, refl, ap, sym, ◌∙◌}
use mathlib.Core.List.{List, [], ◌∷◌, ◌++◌}
use Prim.Native.Nat.{ℕ, zero, suc, ◌+◌, ◌/◌, ◌%◌, ◌<◌, ◌≤◌}
use native.Mathlib.Omega.{arith}
use lib.Dec.{T}
use lib.ListN.{length, get_or, take, drop, length-drop}
use lib.Seq.{get_or-drop, get_or-take, length-take-le}
use Rattle.constraint.specs.Solve.{distinct}
use Rattle.read_nodes.specs.Spell.{spell, named, Lower, named_step}
use Rattle.store_form.specs.Holding.{lowered}
use Rattle.store_form.proofs.Names.{at_lowered, at_distinct}

-- cells that agree above the root spell the same names
spell_agree : (k i : ℕ) (N N' t : List ℕ) (n : ℕ) → Lower N n → ((j : ℕ) → 0 < j → j < n → get_or N' j 0 ≡ get_or N j 0) → i < n → spell k N' i t ≡ spell k N i t
unfolding spell
spell_agree zero i N N' t n L G h = refl
spell_agree (suc k) zero N N' t n L G h = refl
spell_agree (suc k) (suc i) N N' t n L G h =
    let l = L (suc i) (omega arith) h in
    ap (λ (c : ℕ). spell k N' (c / 256) (c % 256 ∷ t)) (G (suc i) (omega arith) h)
    ∙ spell_agree k (get_or N (suc i) 0 / 256) N N' (get_or N (suc i) 0 % 256 ∷ t) n L G (omega arith)

module _ (N : List ℕ) (m : ℕ) (root : 1 ≤ m) (inside : m ≤ length N) (L : Lower N m) (A : (i j : ℕ) → i < m → j < m → named N i ≡ named N j → i ≡ j) where
  abbrev cells : List ℕ
  cells = drop 1 (take m N)

  pub cells_count : suc (length cells) ≡ m
  cells_count = omega (arith, length-drop 1 (take m N), length-take-le m N inside)

  cell_at : (j : ℕ) → suc j < m → get_or cells j 0 ≡ get_or N (suc j) 0
  cell_at j h =
      let e : 1 + j ≡ suc j = omega arith in
      get_or-drop 1 (take m N) j 0 ∙ ap (λ (k : ℕ). get_or (take m N) k 0) e ∙ get_or-take m N (suc j) 0 h

  agree : (j : ℕ) → 0 < j → j < m → get_or (0 ∷ cells) j 0 ≡ get_or N j 0
  agree zero a h = absurd (omega arith)
  agree (suc j) a h = cell_at j h

  pub names_same : (i : ℕ) → i < m → named (0 ∷ cells) i ≡ named N i
  unfolding named
  names_same i h = spell_agree i i N (0 ∷ cells) [] m L agree h

  pub cells_lower : T (lowered 1 cells)
  cells_lower = at_lowered cells 1 (λ j h. let l = L (suc j) (omega arith) (omega (arith, cells_count)) in let e = cell_at j (omega (arith, cells_count)) in omega (arith, l, e))

  pub cells_apart : T (distinct cells)
  cells_apart = at_distinct cells (λ i j a b e.
      let p : suc i < m = omega (arith, cells_count) in
      let q : suc j < m = omega (arith, cells_count) in
      let c : get_or N (suc i) 0 ≡ get_or N (suc j) 0 = sym (cell_at i p) ∙ e ∙ cell_at j q in
      let n : named N (suc i) ≡ named N (suc j) = named_step N m L (suc i) (omega arith) p ∙ ap (λ (x : ℕ). named N (x / 256) ++ (x % 256 ∷ [])) c ∙ sym (named_step N m L (suc j) (omega arith) q) in
      let z = A (suc i) (suc j) p q n in
      omega (arith, z))

  pub names_apart : (i j : ℕ) → i < length (0 ∷ cells) → j < length (0 ∷ cells) → named (0 ∷ cells) i ≡ named (0 ∷ cells) j → i ≡ j
  names_apart i j a b e =
      let p : i < m = omega (arith, cells_count) in
      let q : j < m = omega (arith, cells_count) in
      A i j p q (sym (names_same i p) ∙ e ∙ names_same j q)
