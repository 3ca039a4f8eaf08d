-- What the functions promise. Assumes nothing.
use Rattle.std.specs.Prelude.{◌≡◌, refl, List, ℕ, ◌+◌, ◌/◌, ◌<◌, ◌≤◌, get_or}
use Rattle.std.proofs.Common.{◌∙◌, subst, arith}
use Rattle.mem_numbers.specs.Stored.{Stored}
use Rattle.std.specs.Prelude as std
use Rattle.read_nodes.specs.Trie.{Roomy, Trie, Grown, Kept}
use Rattle.read_trie.specs.Names.{grown_none}
use Rattle.read_trie.specs.Grows.{Fresh, Ahead, ahead_end, trie_more, grown_more, cell_more}

-- what a child may be asked for
pub record CanChild (N H S : List ℕ) (n p : ℕ) : Type 0 where
  pub trie : Trie N H S n
  pub inside : p < n

-- what a node may be made of: the parent p is a node, and no node has the cell c
pub record CanMake (N H S : List ℕ) (n p c : ℕ) : Type 0 where
  pub trie : Trie N H S n
  pub inside : p < n
  pub parent : c / 256 ≡ p
  pub small : c < 16777216
  pub fresh : Fresh N n c

-- the node q has the cell c, in a trie of m nodes that grew by one node at most
pub record Placed (N : List ℕ) (n c : ℕ) (N' H' S' : List ℕ) (q m : ℕ) : Type 0 where
  pub trie : Trie N' H' S' m
  pub grown : Grown N n N' m
  pub above : 0 < q
  pub inside : q < m
  pub cell : get_or N' q 0 ≡ c
  pub few : m ≤ n + 1
  -- where no node had the cell, q is a new one, behind the others
  pub new : Fresh N n c → (q ≡ n) × (m ≡ n + 1)

abbrev pub Put : List ℕ → List ℕ → List ℕ → ℕ → ℕ → List ℕ → List ℕ → List ℕ → std.Option (ℕ × ℕ) → Type 0
Put N H S n c N' H' S' (std.Some (q, m)) = Placed N n c N' H' S' q m
Put N H S n c N' H' S' std.None = Roomy N H S (n + 1) → ⊥

-- What `child_of` promises of its answer r.
pub record Childed (N H S : List ℕ) (n c : ℕ) (N' H' S' : List ℕ) (r : std.Option (ℕ × ℕ)) : Type 0 where
  pub kept : Kept N H S N' H' S'
  pub put : Put N H S n c N' H' S' r

pub kept_none : (N H S : List ℕ) → Kept N H S N H S
kept_none N H S = record { cells = refl; heads = refl; nexts = refl }

pub kept_twice : {N H S N' H' S' N'' H'' S'' : List ℕ} → Kept N H S N' H' S' → Kept N' H' S' N'' H'' S'' → Kept N H S N'' H'' S''
kept_twice K L = record { cells = L.cells ∙ K.cells; heads = L.heads ∙ K.heads; nexts = L.nexts ∙ K.nexts }

-- the node n is made
pub made : {N H S N' H₁ H' S' : List ℕ} {n p c f : ℕ} → CanMake N H S n p c → Roomy N H S (n + 1) → f ≡ get_or H p 0 → Stored N n c N' → Stored S n f S' → Stored H n 0 H₁ → Stored H₁ p n H' → Childed N H S n c N' H' S' (std.Some (n, n + 1))
made {N} {H} {S} {N'} {H₁} {H'} {S'} {n} {p} {c} {f} C R e sN sS sH₁ sH =
    let s = subst (λ (x : ℕ). Stored S n x S') e sS in
    let t = C.trie in
    record {
      kept = record { cells = sN.long; heads = sH.long ∙ sH₁.long; nexts = sS.long };
      put =
          record {
            trie = trie_more t C.inside C.parent C.fresh R sN s sH₁ sH;
            grown = grown_more t C.inside C.parent C.fresh R sN s sH₁ sH;
            above = omega (arith, t.root);
            inside = omega arith;
            cell = cell_more t C.inside C.parent C.fresh R sN s sH₁ sH;
            few = omega arith;
            new = λ z. (refl, refl);
          };
    }

-- the node q is found
pub found : {N H S : List ℕ} {n p q c : ℕ} → CanChild N H S n p → 0 < q → q < n → get_or N q 0 ≡ c → Childed N H S n c N H S (std.Some (q, n))
found {N} {H} {S} {n} {p} {q} {c} C g h e =
    record { kept = kept_none N H S; put = record { trie = C.trie; grown = grown_none N n; above = g; inside = h; cell = e; few = omega arith; new = λ F. absurd (F q g h e) } }

-- a chain without the cell c ends: the child may be made
pub can_make : {N H S : List ℕ} {n p c q : ℕ} → CanChild N H S n p → Ahead N S n c q → q ≡ 0 → c / 256 ≡ p → c < 16777216 → CanMake N H S n p c
can_make {N} {H} {S} {n} {p} {c} {q} C A z e s = record { trie = C.trie; inside = C.inside; parent = e; small = s; fresh = ahead_end N S n c q A z }
