-- Constraints laid out as words, and read back. Assumes nothing.
use Rattle.std.specs.Prelude.{◌≡◌, refl, List, [], ◌∷◌, ◌++◌, map, ℕ, zero, suc, ◌+◌, ◌<◌, length, get_or, drop}
use Rattle.std.proofs.Common.{ap, sym, ◌∙◌, arith}
use Rattle.constraint.specs.Tree.{Label}
use Rattle.constraint.specs.Constraint.{Con, ctrue, cfail, ceq, capp, Store}
use Rattle.mem_words.specs.declared.Word.{Word}
use Rattle.mem_words.specs.declared.Word.TheVariants.{End, Free, Level, Num, Place, Inner, Bad}
use Rattle.mem_sorts.specs.declared.Sort.{Sort}
use Rattle.mem_sorts.specs.declared.Sort.TheVariants.{True, Fail, Eq, App}
use Rattle.solve_fields.specs.Read.{var_of, num_of, args_of, told, starts, begun}

-- a constraint whose label is a number
pub data Coded : Type 0 where
  yes no : Coded
  same : ℕ → ℕ → Coded
  term : ℕ → ℕ → List ℕ → Coded

-- the constraint that it stands for
abbrev pub plain : (ℕ → Label) → Coded → Con ℕ
plain lab yes = ctrue
plain lab no = cfail
plain lab (same x y) = ceq x y
plain lab (term x f ys) = capp x (lab f) ys

-- its words before the words r
unfoldable pub frees : List ℕ → List Word → List Word
frees [] r = r
frees (y ∷ ys) r = Free y ∷ frees ys r

unfoldable pub code : Coded → List Word → List Word
code yes r = Inner True ∷ (End ∷ r)
code no r = Inner Fail ∷ (End ∷ r)
code (same x y) r = Inner Eq ∷ (Free x ∷ (Free y ∷ (End ∷ r)))
code (term x f ys) r = Inner App ∷ (Free x ∷ (Num f ∷ frees ys (End ∷ r)))

-- how many words it has
unfoldable pub size : Coded → ℕ
size yes = 2
size no = 2
size (same x y) = 4
size (term x f ys) = 4 + length ys

-- a store
unfoldable pub codes : List Coded → List Word → List Word
codes [] r = r
codes (c ∷ cs) r = code c (codes cs r)

unfoldable pub sizes : List Coded → ℕ
sizes [] = 0
sizes (c ∷ cs) = size c + sizes cs

args_frees : (ys : List ℕ) (r : List Word) → args_of (frees ys (End ∷ r)) ≡ ys
unfolding args_of frees
args_frees [] r = refl
args_frees (y ∷ ys) r = ap (λ (l : List ℕ). y ∷ l) (args_frees ys r)

told_frees : (lab : ℕ → Label) (n : ℕ) (ys : List ℕ) (r : List Word) → told lab (length ys + suc n) (frees ys (End ∷ r)) ≡ told lab n r
unfolding told frees
told_frees lab n [] r = let e : 0 + suc n ≡ suc n = omega arith in ap (λ (k : ℕ). told lab k (End ∷ r)) e
told_frees lab n (y ∷ ys) r = let e : suc (length ys) + suc n ≡ suc (length ys + suc n) = omega arith in ap (λ (k : ℕ). told lab k (Free y ∷ frees ys (End ∷ r))) e ∙ told_frees lab n ys r

told_code : (lab : ℕ → Label) (c : Coded) (n : ℕ) (r : List Word) → told lab (size c + n) (code c r) ≡ plain lab c ∷ told lab n r
unfolding told code size
told_code lab yes n r = let e : 2 + n ≡ suc (suc n) = omega arith in ap (λ (k : ℕ). told lab k (Inner True ∷ (End ∷ r))) e
told_code lab no n r = let e : 2 + n ≡ suc (suc n) = omega arith in ap (λ (k : ℕ). told lab k (Inner Fail ∷ (End ∷ r))) e
told_code lab (same x y) n r = let e : 4 + n ≡ suc (suc (suc (suc n))) = omega arith in ap (λ (k : ℕ). told lab k (Inner Eq ∷ (Free x ∷ (Free y ∷ (End ∷ r))))) e
told_code lab (term x f ys) n r =
    let e : 4 + length ys + n ≡ suc (suc (suc (length ys + suc n))) = omega arith in
    ap (λ (k : ℕ). told lab k (Inner App ∷ (Free x ∷ (Num f ∷ frees ys (End ∷ r))))) e
    ∙ ap (λ (l : List ℕ). capp x (lab f) l ∷ told lab (length ys + suc n) (frees ys (End ∷ r))) (args_frees ys r)
    ∙ ap (λ (s : Store). capp x (lab f) ys ∷ s) (told_frees lab n ys r)

-- a store's words, whatever stands after them, are read as the store
pub told_codes : (lab : ℕ → Label) (cs : List Coded) (r : List Word) → told lab (sizes cs) (codes cs r) ≡ map (plain lab) cs
unfolding told codes sizes
told_codes lab [] r = refl
told_codes lab (c ∷ cs) r = told_code lab c (sizes cs) (codes cs r) ∙ ap (λ (s : Store). plain lab c ∷ s) (told_codes lab cs r)
