-- A trie grows by one node, at the front of its parent's chain. Assumes nothing.
use Rattle.std.specs.Prelude.{◌≡◌, List, ℕ, ◌+◌, ◌/◌, ◌<◌, get_or}
use Rattle.std.proofs.Common.{ap, sym, ◌∙◌, subst, arith}
use Rattle.std.proofs.Math.Decide.{ℕ_discrete}
use Rattle.mem_numbers.specs.Stored.{Stored, stored_same, stored_other}
use Rattle.read_nodes.specs.Trie.{Chained, here, later, Roomy, Trie, Grown}

-- No node has the cell c.
abbrev pub Fresh : List ℕ → ℕ → ℕ → Type 0
Fresh N n c = (i : ℕ) → 0 < i → i < n → get_or N i 0 ≡ c → ⊥

-- All nodes with the cell c are in the chain from q on.
abbrev pub Ahead : List ℕ → List ℕ → ℕ → ℕ → ℕ → Type 0
Ahead N S n c q = (i : ℕ) → 0 < i → i < n → get_or N i 0 ≡ c → Chained S i q

pub ahead_start : {N H S : List ℕ} {n : ℕ} → Trie N H S n → (p c q : ℕ) → c / 256 ≡ p → q ≡ get_or H p 0 → Ahead N S n c q
ahead_start {N} {H} {S} {n} T p c q e r i g h k =
    subst (Chained S i) (ap (λ (d : ℕ). get_or H (d / 256) 0) k ∙ ap (λ (d : ℕ). get_or H d 0) e ∙ sym r) (T.chained i g h)

pub ahead_next : (N S : List ℕ) (n c q : ℕ) → Ahead N S n c q → (get_or N q 0 ≡ c → ⊥) → (r : ℕ) → r ≡ get_or S q 0 → Ahead N S n c r
ahead_next N S n c q A x r s i g h k = subst (Chained S i) (sym s) (go q x (A i g h k))
  where
    go : (q : ℕ) → (get_or N q 0 ≡ c → ⊥) → Chained S i q → Chained S i (get_or S q 0)
    go q x (here r e) = absurd (x (ap (λ (d : ℕ). get_or N d 0) e ∙ k))
    go q x (later r l C) = C

pub ahead_end : (N S : List ℕ) (n c q : ℕ) → Ahead N S n c q → q ≡ 0 → Fresh N n c
ahead_end N S n c q A z i g h k = go q z (A i g h k)
  where
    go : (q : ℕ) → q ≡ 0 → Chained S i q → ⊥
    go q z (here r e) = omega arith
    go q z (later r l C) = omega arith

-- a chain of nodes below n does not change where tables change from n on
chain_kept : (S S' : List ℕ) (n i : ℕ) → ((j : ℕ) → 0 < j → j < n → get_or S j 0 < j) → ((j : ℕ) → j < n → get_or S' j 0 ≡ get_or S j 0) → (q : ℕ) → Chained S i q → q < n → Chained S' i q
chain_kept S S' n i L K q (here r e) h = here q e
chain_kept S S' n i L K q (later r l C) h =
    let s = L q l h in
    later q l (subst (Chained S' i) (sym (K q h)) (chain_kept S S' n i L K (get_or S q 0) C (omega arith)))

module _ {N H S N' H₁ H' S' : List ℕ} {n p c : ℕ} (T : Trie N H S n) (inp : p < n) (par : c / 256 ≡ p) (F : Fresh N n c) (R : Roomy N H S (n + 1)) (sN : Stored N n c N') (sS : Stored S n (get_or H p 0) S') (sH₁ : Stored H n 0 H₁) (sH : Stored H₁ p n H') where
  at_N : get_or N' n 0 ≡ c
  at_N = stored_same 0 sN (omega (arith, R.cells))

  old_N : (i : ℕ) → i < n → get_or N' i 0 ≡ get_or N i 0
  old_N i h = stored_other i 0 sN (λ e. omega arith)

  at_S : get_or S' n 0 ≡ get_or H p 0
  at_S = stored_same 0 sS (omega (arith, R.nexts))

  old_S : (i : ℕ) → i < n → get_or S' i 0 ≡ get_or S i 0
  old_S i h = stored_other i 0 sS (λ e. omega arith)

  at_H : get_or H' p 0 ≡ n
  at_H = stored_same 0 sH (omega (arith, R.heads, sH₁.long))

  new_H : get_or H' n 0 ≡ 0
  new_H = stored_other n 0 sH (λ e. omega arith) ∙ stored_same 0 sH₁ (omega (arith, R.heads))

  old_H : (i : ℕ) → i < n → (i ≡ p → ⊥) → get_or H' i 0 ≡ get_or H i 0
  old_H i h x = stored_other i 0 sH x ∙ stored_other i 0 sH₁ (λ e. omega arith)

  parents' : (i : ℕ) → 0 < i → i < n + 1 → get_or N' i 0 / 256 < i
  parents' i g h = go (ℕ_discrete i n)
    where
      go : Dec (i ≡ n) → get_or N' i 0 / 256 < i
      go (yes e) = let z : get_or N' i 0 ≡ c = ap (λ (j : ℕ). get_or N' j 0) e ∙ at_N in omega arith
      go (no x) = let z = old_N i (omega arith) in let l = T.parents i g (omega arith) in omega arith

  apart' : (i j : ℕ) → 0 < i → i < n + 1 → 0 < j → j < n + 1 → get_or N' i 0 ≡ get_or N' j 0 → i ≡ j
  apart' i j a b d f e = go (ℕ_discrete i n) (ℕ_discrete j n)
    where
      go : Dec (i ≡ n) → Dec (j ≡ n) → i ≡ j
      go (yes x) (yes y) = omega arith
      go (yes x) (no y) =
          let z : get_or N' i 0 ≡ c = ap (λ (j : ℕ). get_or N' j 0) x ∙ at_N in
          absurd (F j d (omega arith) (sym (old_N j (omega arith)) ∙ sym e ∙ z))
      go (no x) (yes y) =
          let z : get_or N' j 0 ≡ c = ap (λ (j : ℕ). get_or N' j 0) y ∙ at_N in
          absurd (F i a (omega arith) (sym (old_N i (omega arith)) ∙ e ∙ z))
      go (no x) (no y) = T.apart i j a (omega arith) d (omega arith) (sym (old_N i (omega arith)) ∙ e ∙ old_N j (omega arith))

  lower' : (i : ℕ) → 0 < i → i < n + 1 → get_or S' i 0 < i
  lower' i g h = go (ℕ_discrete i n)
    where
      go : Dec (i ≡ n) → get_or S' i 0 < i
      go (yes e) = let z : get_or S' i 0 ≡ get_or H p 0 = ap (λ (j : ℕ). get_or S' j 0) e ∙ at_S in omega (arith, T.inside p inp)
      go (no x) = omega (arith, old_S i (omega arith), T.lower i g (omega arith))

  inside' : (i : ℕ) → i < n + 1 → get_or H' i 0 < n + 1
  inside' i h = go (ℕ_discrete i p) (ℕ_discrete i n)
    where
      go : Dec (i ≡ p) → Dec (i ≡ n) → get_or H' i 0 < n + 1
      go (yes e) d = let z : get_or H' i 0 ≡ n = ap (λ (j : ℕ). get_or H' j 0) e ∙ at_H in omega arith
      go (no x) (yes e) = let z : get_or H' i 0 ≡ 0 = ap (λ (j : ℕ). get_or H' j 0) e ∙ new_H in omega arith
      go (no x) (no y) = omega (arith, old_H i (omega arith) x, T.inside i (omega arith))

  -- the chain of a node r below n
  chain' : (i r : ℕ) → r < n → Chained S i (get_or H r 0) → Chained S' i (get_or H' r 0)
  chain' i r h C = go (ℕ_discrete r p) (chain_kept S S' n i T.lower old_S (get_or H r 0) C (T.inside r h))
    where
      go : Dec (r ≡ p) → Chained S' i (get_or H r 0) → Chained S' i (get_or H' r 0)
      go (yes e) D =
          let z : get_or H' r 0 ≡ n = ap (λ (j : ℕ). get_or H' j 0) e ∙ at_H in
          let y : get_or S' n 0 ≡ get_or H r 0 = at_S ∙ ap (λ (j : ℕ). get_or H j 0) (sym e) in
          subst (Chained S' i) (sym z) (later n (omega (arith, T.root)) (subst (Chained S' i) (sym y) D))
      go (no x) D = subst (Chained S' i) (sym (old_H r h x)) D

  chained' : (i : ℕ) → 0 < i → i < n + 1 → Chained S' i (get_or H' (get_or N' i 0 / 256) 0)
  chained' i g h = go (ℕ_discrete i n)
    where
      go : Dec (i ≡ n) → Chained S' i (get_or H' (get_or N' i 0 / 256) 0)
      go (yes e) =
          let z : get_or N' i 0 / 256 ≡ p = ap (λ (j : ℕ). get_or N' j 0 / 256) e ∙ ap (λ (d : ℕ). d / 256) at_N ∙ par in
          here (get_or H' (get_or N' i 0 / 256) 0) (ap (λ (j : ℕ). get_or H' j 0) z ∙ at_H ∙ sym e)
      go (no x) =
          let z = old_N i (omega arith) in
          let l = T.parents i g (omega arith) in
          subst (λ (d : ℕ). Chained S' i (get_or H' (d / 256) 0)) (sym z) (chain' i (get_or N i 0 / 256) (omega arith) (T.chained i g (omega arith)))

  pub trie_more : Trie N' H' S' (n + 1)
  trie_more =
      record {
        root = omega arith;
        room = record { cells = omega (arith, R.cells, sN.long); heads = omega (arith, R.heads, sH₁.long, sH.long); nexts = omega (arith, R.nexts, sS.long); count = R.count };
        parents = parents';
        apart = apart';
        lower = lower';
        inside = inside';
        chained = chained';
      }

  pub grown_more : Grown N n N' (n + 1)
  grown_more = record { more = omega arith; long = sN.long; same = old_N }

  pub cell_more : get_or N' n 0 ≡ c
  cell_more = at_N
