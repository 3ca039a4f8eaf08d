-- A name counted and written on the way from its node up to the root. Assumes nothing.
use mathlib.Core.Path.{◌≡◌, refl, ap, sym, ◌∙◌}
use mathlib.Core.List.{List, [], ◌∷◌, ◌++◌}
use Prim.Native.Nat.{ℕ, suc, ◌+◌, ◌/◌, ◌%◌, ◌<◌, ◌≤◌}
use native.Mathlib.Omega.{arith}
use lib.ListN.{length, get_or, set, length-append}
use Rattle.read_nodes.specs.Spell.{named, Lower, named_root, named_step}
use Rattle.answer_emit.specs.Put.{Filled}
use Rattle.answer_emit.proofs.Backwards.{Backwards, backwards_all, backwards_more, backwards_end, backwards_room}

-- a name has one byte more than its parent's
longer : (N : List ℕ) (k p : ℕ) → Lower N (length N) → 0 < k → k < length N → p ≡ get_or N k 0 / 256 → length (named N k) ≡ length (named N p) + 1
longer N k p L g h e =
    ap length (named_step N (length N) L k g h ∙ ap (λ (a : ℕ). named N a ++ (get_or N k 0 % 256 ∷ [])) (sym e))
    ∙ length-append (named N p) (get_or N k 0 % 256 ∷ [])

-- The loop that counts: c bytes of the name of node i stand behind the name of node k.
pub record Counting (N : List ℕ) (i k c : ℕ) : Type 0 where
  pub node : k < length N
  pub is : length (named N i) ≡ length (named N k) + c
  pub small : k + c ≤ i

pub counting_all : {N : List ℕ} {i : ℕ} → i < length N → Counting N i i 0
counting_all h = record { node = h; is = omega arith; small = omega arith }

pub counting_more : {N : List ℕ} {i k c p : ℕ} → Lower N (length N) → 0 < k → Counting N i k c → p ≡ get_or N k 0 / 256 → Counting N i p (c + 1)
counting_more {N} {i} {k} {c} {p} L g C e =
    let h = C.node in
    let l = L k g h in
    record { node = omega arith; is = omega (arith, C.is, longer N k p L g h e); small = omega (arith, C.small) }

pub counting_end : {N : List ℕ} {i k c : ℕ} → Counting N i k c → k ≡ 0 → c ≡ length (named N i)
counting_end {N} {i} {k} {c} C e = let z : length (named N k) ≡ 0 = ap (λ (a : ℕ). length (named N a)) e ∙ ap length (named_root N) in omega (arith, C.is)

-- The loop that writes: of the name of node i that of node k is left, which has j bytes.
pub record Spelling (N : List ℕ) (i : ℕ) (O : List ℕ) (at k j : ℕ) (X : List ℕ) : Type 0 where
  pub node : k < length N
  pub left : j ≡ length (named N k)
  pub text : Backwards (named N i) O at (named N k) (at + j) X

pub spelling_all : {N O : List ℕ} {i at j : ℕ} → i < length N → j ≡ length (named N i) → at + j ≤ length O → Spelling N i O at i j O
spelling_all {N} {O} {i} {at} {j} h e r = record { node = h; left = e; text = backwards_all (named N i) O at (at + j) (omega arith) (omega arith) }

-- there is a byte left, and room for it
pub spelling_some : {N O X : List ℕ} {i at k j : ℕ} → Lower N (length N) → 0 < k → Spelling N i O at k j X → (0 < j) × (at + j ≤ length X)
spelling_some {N} {O} {X} {i} {at} {k} {j} L g S =
    (omega (arith, S.left, longer N k (get_or N k 0 / 256) L g S.node refl), backwards_room S.text)

pub spelling_more : {N O X : List ℕ} {i at k j b p : ℕ} (m : ℕ) → Lower N (length N) → 0 < k → Spelling N i O at k j X → j ≡ suc m → b ≡ get_or N k 0 % 256 → p ≡ get_or N k 0 / 256 → Spelling N i O at p m (set X (at + m) b)
spelling_more {N} {O} {X} {i} {at} {k} {j} {b} {p} m L g S z e q =
    let h = S.node in
    let l = L k g h in
    let s : named N k ≡ named N p ++ (b ∷ []) =
    named_step N (length N) L k g h ∙ ap (λ (a : ℕ). named N a ++ (get_or N k 0 % 256 ∷ [])) (sym q) ∙ ap (λ (c : ℕ). named N p ++ (c ∷ [])) (sym e) in
    record { node = omega arith; left = omega (arith, S.left, longer N k p L g h q); text = backwards_more (named N p) b (at + m) S.text s (omega arith) }

pub spelling_end : {N O X : List ℕ} {i at k j : ℕ} → Spelling N i O at k j X → k ≡ 0 → Filled (named N i) O at X
spelling_end {N} {O} {X} {i} {at} {k} {j} S e = backwards_end S.text (ap (named N) e ∙ named_root N)
