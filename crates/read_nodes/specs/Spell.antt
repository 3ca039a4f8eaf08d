-- Names spelled by a table of cells: the cell of a node above 0 is its parent's number * 256 + the name's last byte.
-- Assumes nothing.
use Rattle.std.specs.Prelude.{◌≡◌, refl, List, [], ◌∷◌, ◌++◌, ℕ, zero, suc, ◌/◌, ◌%◌, ◌<◌, ◌≤◌, length, get_or}
use Rattle.std.proofs.Common.{ap, sym, ◌∙◌, arith, length-append}
use Rattle.std.proofs.Math.Seq.{append_snoc}

-- the bytes on the way from node i up to the root, before the tail t; k turns at most
unfoldable pub spell : ℕ → List ℕ → ℕ → List ℕ → List ℕ
spell zero N i t = t
spell (suc k) N zero t = t
spell (suc k) N (suc i) t = spell k N (get_or N (suc i) 0 / 256) (get_or N (suc i) 0 % 256 ∷ t)

-- the name of node i: a parent has a lower number, so i turns are enough
unfoldable pub named : List ℕ → ℕ → List ℕ
named N i = spell i N i []

-- parents have lower numbers
abbrev pub Lower : List ℕ → ℕ → Type 0
Lower N n = (i : ℕ) → 0 < i → i < n → get_or N i 0 / 256 < i

spell_root : (k : ℕ) (N t : List ℕ) → spell k N zero t ≡ t
unfolding spell
spell_root zero N t = refl
spell_root (suc k) N t = refl

spell_tail : (k : ℕ) (N : List ℕ) (i : ℕ) (t : List ℕ) → spell k N i t ≡ spell k N i [] ++ t
unfolding spell
spell_tail zero N i t = refl
spell_tail (suc k) N zero t = refl
spell_tail (suc k) N (suc i) t =
    let p = get_or N (suc i) 0 / 256 in
    let b = get_or N (suc i) 0 % 256 in
    spell_tail k N p (b ∷ t)
    ∙ sym (append_snoc (spell k N p []) b t)
    ∙ ap (λ (w : List ℕ). w ++ t) (sym (spell_tail k N p (b ∷ [])))

-- turns beyond the node's number change nothing
spell_enough : (k m : ℕ) (i : ℕ) (N t : List ℕ) (n : ℕ) → Lower N n → i < n → i ≤ k → i ≤ m → spell k N i t ≡ spell m N i t
unfolding spell
spell_enough zero m zero N t n L h a b = sym (spell_root m N t)
spell_enough zero m (suc i) N t n L h a b = absurd (omega arith)
spell_enough (suc k) m zero N t n L h a b = sym (spell_root m N t)
spell_enough (suc k) zero (suc i) N t n L h a b = absurd (omega arith)
spell_enough (suc k) (suc m) (suc i) N t n L h a b =
    let l = L (suc i) (omega arith) h in
    spell_enough k m (get_or N (suc i) 0 / 256) N (get_or N (suc i) 0 % 256 ∷ t) n L (omega arith) (omega arith) (omega arith)

spell_kept : (k i : ℕ) (N N' t : List ℕ) (n : ℕ) → Lower N n → ((j : ℕ) → j < n → get_or N' j 0 ≡ get_or N j 0) → i < n → spell k N' i t ≡ spell k N i t
unfolding spell
spell_kept zero i N N' t n L G h = refl
spell_kept (suc k) zero N N' t n L G h = refl
spell_kept (suc k) (suc i) N N' t n L G h =
    let l = L (suc i) (omega arith) h in
    ap (λ (c : ℕ). spell k N' (c / 256) (c % 256 ∷ t)) (G (suc i) h)
    ∙ spell_kept k (get_or N (suc i) 0 / 256) N N' (get_or N (suc i) 0 % 256 ∷ t) n L G (omega arith)

pub named_root : (N : List ℕ) → named N 0 ≡ []
unfolding named spell
named_root N = refl

-- a name is its parent's name and one byte more
pub named_step : (N : List ℕ) (n : ℕ) → Lower N n → (i : ℕ) → 0 < i → i < n → named N i ≡ named N (get_or N i 0 / 256) ++ (get_or N i 0 % 256 ∷ [])
unfolding named spell
named_step N n L zero g h = absurd (omega arith)
named_step N n L (suc i) g h =
    let p = get_or N (suc i) 0 / 256 in
    let l = L (suc i) (omega arith) h in
    spell_tail i N p (get_or N (suc i) 0 % 256 ∷ [])
    ∙ ap (λ (w : List ℕ). w ++ (get_or N (suc i) 0 % 256 ∷ [])) (spell_enough i p p N [] n L (omega arith) (omega arith) (omega arith))

-- cells that stay the same spell the same names
pub named_same : (N N' : List ℕ) (n : ℕ) → Lower N n → ((j : ℕ) → j < n → get_or N' j 0 ≡ get_or N j 0) → (i : ℕ) → i < n → named N' i ≡ named N i
unfolding named
named_same N N' n L G i h = spell_kept i i N N' [] n L G h

-- the last bytes of equal lists, and what stands before them, are equal
snoc_some : (l : List ℕ) (x : ℕ) → [] ≡ l ++ (x ∷ []) → ⊥
snoc_some l x e = let z : 0 ≡ length (l ++ (x ∷ [])) = ap length e in omega (arith, length-append l (x ∷ []))

snoc_same : (l m : List ℕ) (x y : ℕ) → (l ++ (x ∷ [])) ≡ (m ++ (y ∷ [])) → (l ≡ m) × (x ≡ y)
snoc_same [] [] x y e = (refl, cc)
snoc_same [] (b ∷ m) x y e = let z : [] ≡ m ++ (y ∷ []) = cc in absurd (snoc_some m y z)
snoc_same (a ∷ l) [] x y e = let z : [] ≡ l ++ (x ∷ []) = cc in absurd (snoc_some l x z)
snoc_same (a ∷ l) (b ∷ m) x y e =
    let q : (l ++ (x ∷ [])) ≡ (m ++ (y ∷ [])) = cc in
    let z : a ≡ b = cc in
    let r = snoc_same l m x y q in
    (ap (λ (c : ℕ). c ∷ l) z ∙ ap (λ (w : List ℕ). b ∷ w) r.0, r.1)

-- a name's last byte, and its parent's name
pub named_last : (N : List ℕ) (n : ℕ) → Lower N n → (i : ℕ) → i < n → (w : List ℕ) (b : ℕ) → named N i ≡ w ++ (b ∷ []) → (0 < i) × (named N (get_or N i 0 / 256) ≡ w) × (get_or N i 0 % 256 ≡ b)
named_last N n L zero h w b e = absurd (snoc_some w b (sym (named_root N) ∙ e))
named_last N n L (suc i) h w b e =
    let r = snoc_same (named N (get_or N (suc i) 0 / 256)) w (get_or N (suc i) 0 % 256) b (sym (named_step N n L (suc i) (omega arith) h) ∙ e) in
    (omega arith, r.0, r.1)

root_once : (N : List ℕ) (n : ℕ) → Lower N n → (i : ℕ) → suc i < n → named N 0 ≡ named N (suc i) → ⊥
root_once N n L i h e = snoc_some (named N (get_or N (suc i) 0 / 256)) (get_or N (suc i) 0 % 256) (sym (named_root N) ∙ e ∙ named_step N n L (suc i) (omega arith) h)

-- where cells of different nodes differ, different nodes have different names
pub named_once : (k i j : ℕ) (N : List ℕ) (n : ℕ) → Lower N n → ((i j : ℕ) → 0 < i → i < n → 0 < j → j < n → get_or N i 0 ≡ get_or N j 0 → i ≡ j) → i ≤ k → i < n → j < n → named N i ≡ named N j → i ≡ j
named_once zero zero zero N n L A a h g e = refl
named_once zero zero (suc j) N n L A a h g e = absurd (root_once N n L j g e)
named_once zero (suc i) j N n L A a h g e = absurd (omega arith)
named_once (suc k) zero zero N n L A a h g e = refl
named_once (suc k) zero (suc j) N n L A a h g e = absurd (root_once N n L j g e)
named_once (suc k) (suc i) zero N n L A a h g e = absurd (root_once N n L i h (sym e))
named_once (suc k) (suc i) (suc j) N n L A a h g e =
    let p = get_or N (suc i) 0 / 256 in
    let q = get_or N (suc j) 0 / 256 in
    let r = snoc_same (named N p) (named N q) (get_or N (suc i) 0 % 256) (get_or N (suc j) 0 % 256) (sym (named_step N n L (suc i) (omega arith) h) ∙ e ∙ named_step N n L (suc j) (omega arith) g) in
    let l = L (suc i) (omega arith) h in
    let m = L (suc j) (omega arith) g in
    let z : p ≡ q = named_once k p q N n L A (omega arith) (omega arith) (omega arith) r.0 in
    let y = r.1 in
    A (suc i) (suc j) (omega arith) h (omega arith) g (omega arith)
