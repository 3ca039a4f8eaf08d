-- The trie of names begins with `true` and `fail`, so that they always have the numbers 4 and 8. Assumes nothing.
use Rattle.std.specs.Prelude.{◌≡◌, refl, Bool, true, false, List, [], ◌∷◌, ℕ, ◌+◌, ◌/◌, ◌%◌, ◌<◌, ◌≤◌, get_or, take, drop}
use Rattle.std.proofs.Common.{ap, sym, ◌∙◌, subst, arith}
use Rattle.std.proofs.Math.Decide.{ℕ_discrete}
use Rattle.akl.specs.Base.{bytes, bytes_from}
use Rattle.std.specs.Prelude as std
use Rattle.read_nodes.specs.Spell.{named, named_last}
use Rattle.read_nodes.specs.Trie.{Roomy, Trie, Grown, Kept}
use Rattle.read_trie.specs.Names.{named_kept}
use Rattle.read_trie.specs.Grows.{Fresh}
use Rattle.read_nodes.specs.Starting.{Started}
use Rattle.read_names.specs.Interning.{Named, Interned}
use Rattle.read_trie.specs.Outcome.{kept_twice}

-- A trie of n nodes that has the two names at their numbers.
pub record Lexicon (N H S : List ℕ) (n : ℕ) : Type 0 where
  pub trie : Trie N H S n
  pub nodes : 9 ≤ n
  pub true : named N 4 ≡ bytes "true"
  pub fail : named N 8 ≡ bytes "fail"

abbrev pub Begins : List ℕ → List ℕ → List ℕ → List ℕ → List ℕ → List ℕ → Bool → Type 0
Begins N H S N' H' S' true = Lexicon N' H' S' 9
Begins N H S N' H' S' false = Roomy N H S 9 → ⊥

-- What `reserve` promises: the two names and no others, or no room for them.
pub record Begun (N H S N' H' S' : List ℕ) (r : Bool) : Type 0 where
  pub kept : Kept N H S N' H' S'
  pub begins : Begins N H S N' H' S' r

-- what grows keeps the two names
pub lexicon_kept : {N H S N' H' S' : List ℕ} {n m : ℕ} → Lexicon N H S n → Trie N' H' S' m → Grown N n N' m → Lexicon N' H' S' m
lexicon_kept X T G =
    let h = X.nodes in
    let g = G.more in
    record { trie = T; nodes = omega arith; true = named_kept X.trie G 4 (omega arith) ∙ X.true; fail = named_kept X.trie G 8 (omega arith) ∙ X.fail }

-- the nodes of `true` are 1 to 4, and none of them ends in an f
fresh_fail : {N H S : List ℕ} → Trie N H S 5 → named N 4 ≡ bytes "true" → Fresh N 5 102
unfolding bytes bytes_from
fresh_fail {N} {H} {S} T e i g h c =
    let a = named_last N 5 T.parents 4 (omega arith) (116 ∷ 114 ∷ 117 ∷ []) 101 e in
    let p = get_or N 4 0 / 256 in
    let a' = T.parents 4 (omega arith) (omega arith) in
    let b = named_last N 5 T.parents p (omega arith) (116 ∷ 114 ∷ []) 117 a.1 in
    let q = get_or N p 0 / 256 in
    let b' = T.parents p b.0 (omega arith) in
    let d = named_last N 5 T.parents q (omega arith) (116 ∷ []) 114 b.1 in
    let r = get_or N q 0 / 256 in
    let d' = T.parents q d.0 (omega arith) in
    let f = named_last N 5 T.parents r (omega arith) [] 116 d.1 in
    let l = f.0 in
    let p3 : p ≡ 3 = omega arith in
    let q2 : q ≡ 2 = omega arith in
    let r1 : r ≡ 1 = omega arith in
    go a.2 (ap (λ (j : ℕ). get_or N j 0 % 256) (sym p3) ∙ b.2) (ap (λ (j : ℕ). get_or N j 0 % 256) (sym q2) ∙ d.2) (ap (λ (j : ℕ). get_or N j 0 % 256) (sym r1) ∙ f.2) (ℕ_discrete i 4) (ℕ_discrete i 3) (ℕ_discrete i 2)
  where
    at : (j b : ℕ) → get_or N j 0 % 256 ≡ b → i ≡ j → b ≡ 102
    at j b x y = let z : get_or N i 0 ≡ get_or N j 0 = ap (λ (j : ℕ). get_or N j 0) y in omega arith

    go : get_or N 4 0 % 256 ≡ 101 → get_or N 3 0 % 256 ≡ 117 → get_or N 2 0 % 256 ≡ 114 → get_or N 1 0 % 256 ≡ 116 → Dec (i ≡ 4) → Dec (i ≡ 3) → Dec (i ≡ 2) → ⊥
    go a b d f (yes x) y z = let w = at 4 101 a x in omega arith
    go a b d f (no x) (yes y) z = let w = at 3 117 b y in omega arith
    go a b d f (no x) (no y) (yes z) = let w = at 2 114 d z in omega arith
    go a b d f (no x) (no y) (no z) = let w = at 1 116 f (omega arith) in omega arith

pub true_bytes : 116 ∷ 114 ∷ 117 ∷ 101 ∷ [] ≡ bytes "true"
unfolding bytes bytes_from
true_bytes = refl

pub fail_bytes : 102 ∷ 97 ∷ 105 ∷ 108 ∷ [] ≡ bytes "fail"
unfolding bytes bytes_from
fail_bytes = refl

-- the answers, by their equations
pub started : {N H S H₁ : List ℕ} → Kept N H S N H₁ S → (r : Bool) → r ≡ true → Started N H₁ S r → Trie N H₁ S 1
started {N} {H} {S} {H₁} K r e s = subst (Started N H₁ S) e s

pub interned_at : {text N H S N' H' S' : List ℕ} {at len n i m : ℕ} {r : std.Option (ℕ × ℕ)} → r ≡ std.Some (i, m) → Interned text at len N H S n N' H' S' r → Interned text at len N H S n N' H' S' (std.Some (i, m))
interned_at {text} {N} {H} {S} {N'} {H'} {S'} {at} {len} {n} e I = subst (Interned text at len N H S n N' H' S') e I

pub interned_full : {text N H S N' H' S' : List ℕ} {at len n : ℕ} {r : std.Option (ℕ × ℕ)} → r ≡ std.None → Interned text at len N H S n N' H' S' r → Interned text at len N H S n N' H' S' std.None
interned_full {text} {N} {H} {S} {N'} {H'} {S'} {at} {len} {n} e I = subst (Interned text at len N H S n N' H' S') e I

-- the first name of a trie of one node
pub first_name : {text N N' H' S' : List ℕ} {i m : ℕ} → Named text 0 4 N 1 N' H' S' i m → (i ≡ 4) × (m ≡ 5)
first_name A = let e = A.new (omega arith) (λ i g h x. omega arith) in (omega (arith, e.0), omega (arith, e.1))

-- both names
pub both : {t f N H S H₁ N₂ H₂ S₂ N₃ H₃ S₃ : List ℕ} {i j m q : ℕ} → Kept N H S N H₁ S → t ≡ bytes "true" → f ≡ bytes "fail" → Interned t 0 4 N H₁ S 1 N₂ H₂ S₂ (std.Some (i, m)) → Interned f 0 4 N₂ H₂ S₂ m N₃ H₃ S₃ (std.Some (j, q)) → Begun N H S N₃ H₃ S₃ true
unfolding bytes bytes_from
both {t} {f} {N} {H} {S} {H₁} {N₂} {H₂} {S₂} {N₃} {H₃} {S₃} {i} {j} {m} {q} K t_is f_is I J =
    let A = I.number in
    let B = J.number in
    let e = first_name A in
    let n4 : named N₂ 4 ≡ bytes "true" = ap (named N₂) (sym e.0) ∙ A.name ∙ ap (λ (w : List ℕ). take 4 (drop 0 w)) t_is in
    let F : Fresh N₂ m 102 = subst (λ (n : ℕ). Fresh N₂ n 102) (sym e.1) (fresh_fail (subst (Trie N₂ H₂ S₂) e.1 A.trie) n4) in
    let b : 102 ≡ get_or f 0 0 = ap (λ (w : List ℕ). get_or w 0 0) (sym f_is) in
    let d = B.new (omega arith) (subst (Fresh N₂ m) b F) in
    let j8 : j ≡ 8 = omega (arith, d.0, e.1) in
    let q9 : q ≡ 9 = omega (arith, d.1, e.1) in
    record {
      kept = kept_twice K (kept_twice I.kept J.kept);
      begins =
          record {
            trie = subst (Trie N₃ H₃ S₃) q9 B.trie;
            nodes = omega arith;
            true = named_kept A.trie B.grown 4 (omega (arith, e.1)) ∙ n4;
            fail = ap (named N₃) (sym j8) ∙ B.name ∙ ap (λ (w : List ℕ). take 4 (drop 0 w)) f_is;
          };
    }

-- no room for the root, for `true` or for `fail`
pub no_root : {N H S H₁ : List ℕ} → Kept N H S N H₁ S → (r : Bool) → r ≡ false → Started N H₁ S r → Begun N H S N H₁ S false
no_root {N} {H} {S} {H₁} K r e s = record { kept = K; begins = λ R. subst (Started N H₁ S) e s (record { cells = omega (arith, R.cells); heads = omega (arith, R.heads, K.heads); nexts = omega (arith, R.nexts); count = omega arith }) }

pub no_true : {t N H S H₁ N₂ H₂ S₂ : List ℕ} → Kept N H S N H₁ S → Interned t 0 4 N H₁ S 1 N₂ H₂ S₂ std.None → Begun N H S N₂ H₂ S₂ false
no_true K I =
    record {
      kept = kept_twice K I.kept;
      begins = λ R. I.number (record { cells = omega (arith, R.cells); heads = omega (arith, R.heads, K.heads); nexts = omega (arith, R.nexts); count = omega arith });
    }

pub no_fail : {t f N H S H₁ N₂ H₂ S₂ N₃ H₃ S₃ : List ℕ} {i m : ℕ} → Kept N H S N H₁ S → Interned t 0 4 N H₁ S 1 N₂ H₂ S₂ (std.Some (i, m)) → Interned f 0 4 N₂ H₂ S₂ m N₃ H₃ S₃ std.None → Begun N H S N₃ H₃ S₃ false
no_fail K I J =
    let L = kept_twice K I.kept in
    let e = first_name I.number in
    record {
      kept = kept_twice L J.kept;
      begins =
          λ R. J.number (record { cells = omega (arith, R.cells, L.cells, e.1); heads = omega (arith, R.heads, L.heads, e.1); nexts = omega (arith, R.nexts, L.nexts, e.1); count = omega (arith, e.1) });
    }
