-- What numbering a name promises. Assumes nothing.
use Rattle.std.specs.Prelude.{◌≡◌, List, [], ◌∷◌, ◌++◌, ℕ, ◌+◌, ◌*◌, ◌<◌, ◌≤◌, length, get_or, take, drop}
use Rattle.std.proofs.Common.{ap, sym, ◌∙◌, subst, add-one, arith, length-drop, take-suc, get_or-drop}
use Rattle.std.proofs.Math.Decide.{dec_lt}
use Rattle.std.specs.Prelude as std
use Rattle.read_nodes.specs.Spell.{named, named_root}
use Rattle.read_nodes.specs.Trie.{Roomy, Trie, Grown, Kept}
use Rattle.read_trie.specs.Names.{one_number, named_kept, grown_none, grown_twice, named_child}
use Rattle.read_trie.specs.Grows.{Fresh}
use Rattle.read_trie.specs.Outcome.{Childed, Placed, kept_twice}

-- what may be numbered
pub record CanIntern (text : List ℕ) (at len : ℕ) (N H S : List ℕ) (n : ℕ) : Type 0 where
  pub trie : Trie N H S n
  pub inside : at + len ≤ length text

-- i is the number of the name of len bytes from `at` on
pub record Named (text : List ℕ) (at len : ℕ) (N : List ℕ) (n : ℕ) (N' H' S' : List ℕ) (i m : ℕ) : Type 0 where
  pub trie : Trie N' H' S' m
  pub grown : Grown N n N' m
  pub inside : i < m
  pub above : 0 < len → 0 < i
  pub name : named N' i ≡ take len (drop at text)
  pub few : m ≤ n + len
  -- where no name began with the first byte, every byte makes a node, behind the others
  pub new : 0 < len → Fresh N n (get_or text at 0) → (i + 1 ≡ n + len) × (m ≡ n + len)

abbrev pub Numbered : List ℕ → ℕ → ℕ → List ℕ → List ℕ → List ℕ → ℕ → List ℕ → List ℕ → List ℕ → std.Option (ℕ × ℕ) → Type 0
Numbered text at len N H S n N' H' S' (std.Some (i, m)) = Named text at len N n N' H' S' i m
Numbered text at len N H S n N' H' S' std.None = Roomy N H S (n + len) → ⊥

-- What `intern` promises of its answer r.
pub record Interned (text : List ℕ) (at len : ℕ) (N H S : List ℕ) (n : ℕ) (N' H' S' : List ℕ) (r : std.Option (ℕ × ℕ)) : Type 0 where
  pub kept : Kept N H S N' H' S'
  pub number : Numbered text at len N H S n N' H' S' r

pub named_none : {text N H S : List ℕ} {n : ℕ} (at : ℕ) → Trie N H S n → Named text at 0 N n N H S 0 n
named_none {text} {N} {H} {S} {n} at T =
    record { trie = T; grown = grown_none N n; inside = omega (arith, T.root); above = λ z. absurd (omega arith); name = named_root N; few = omega arith; new = λ z F. absurd (omega arith) }

-- one byte more
pub named_more : {text N N₁ H₁ S₁ N' H' S' : List ℕ} {n at len p k q m : ℕ} → Named text at len N n N₁ H₁ S₁ p k → Placed N₁ k (p * 256 + get_or text (at + len) 0) N' H' S' q m → get_or text (at + len) 0 < 256 → at + len < length text → Named text at (len + 1) N n N' H' S' q m
named_more {text} {N} {N₁} {H₁} {S₁} {N'} {H'} {S'} {n} {at} {len} {p} {k} {q} {m} A P s h =
    record {
      trie = P.trie;
      grown = grown_twice A.grown P.grown;
      inside = P.inside;
      above = λ z. P.above;
      name =
          named_child P.trie q p b P.above P.inside P.cell s
          ∙ ap (λ (w : List ℕ). w ++ (b ∷ [])) (named_kept A.trie P.grown p A.inside ∙ A.name)
          ∙ ap (λ (x : ℕ). take len (drop at text) ++ (x ∷ [])) (sym (get_or-drop at text len 0))
          ∙ sym (take-suc (drop at text) len 0 (omega (arith, length-drop at text)))
          ∙ ap (λ (j : ℕ). take j (drop at text)) (sym (add-one len));
      few = omega (arith, A.few, P.few);
      new = λ z F. next (P.new (fresh F (dec_lt 0 len))) (count F (dec_lt 0 len));
    }
  where
    b : ℕ
    b = get_or text (at + len) 0

    count : Fresh N n (get_or text at 0) → Dec (0 < len) → k ≡ n + len
    count F (yes l) = (A.new l F).1
    count F (no l) = omega (arith, A.few, A.grown.more)

    next : (q ≡ k) × (m ≡ k + 1) → k ≡ n + len → (q + 1 ≡ n + (len + 1)) × (m ≡ n + (len + 1))
    next e f = (omega (arith, e.0), omega (arith, e.1))

    fresh : Fresh N n (get_or text at 0) → Dec (0 < len) → Fresh N₁ k (p * 256 + b)
    fresh F (yes l) i g j e = omega (arith, (A.new l F).0, (A.new l F).1, A.trie.parents i g j)
    fresh F (no l) i g j e =
        let o : len ≡ 0 = omega arith in
        let r : p ≡ 0 = one_number A.trie p 0 A.inside (omega (arith, A.trie.root)) (A.name ∙ ap (λ (x : ℕ). take x (drop at text)) o ∙ sym (named_root N₁)) in
        let y : b ≡ get_or text at 0 = let x : at + len ≡ at = omega arith in ap (λ (x : ℕ). get_or text x 0) x in
        let v : i < n = omega (arith, A.few) in
        F i g v (sym (A.grown.same i v) ∙ e ∙ (omega (arith, r, y)))

-- no room for one byte more: no room for the name
pub intern_full : {text N H S N₁ H₁ S₁ N' H' S' : List ℕ} {n at i len p k c : ℕ} → Named text at i N n N₁ H₁ S₁ p k → Kept N H S N₁ H₁ S₁ → i < len → Childed N₁ H₁ S₁ k c N' H' S' std.None → Interned text at len N H S n N' H' S' std.None
intern_full A K h C =
    record {
      kept = kept_twice K C.kept;
      number = λ R. C.put (record { cells = omega (arith, R.cells, K.cells, A.few); heads = omega (arith, R.heads, K.heads, A.few); nexts = omega (arith, R.nexts, K.nexts, A.few); count = omega (arith, R.count, A.few) });
    }

-- all bytes are read
pub intern_at : {text N H S N' H' S' : List ℕ} {n at i len p m : ℕ} → Named text at i N n N' H' S' p m → Kept N H S N' H' S' → i ≡ len → Interned text at len N H S n N' H' S' (std.Some (p, m))
intern_at {text} {N} {H} {S} {N'} {H'} {S'} {n} {at} {i} {len} {p} {m} A K e = record { kept = K; number = subst (λ (l : ℕ). Named text at l N n N' H' S' p m) e A }
