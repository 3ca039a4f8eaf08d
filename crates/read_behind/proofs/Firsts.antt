-- The first numbers and words of a list of bytes are told by its first bytes. Assumes nothing.
use mathlib.Core.Path.{◌≡◌, refl, ap, ap₂, sym, ◌∙◌}
use mathlib.Core.List.{List}
use Prim.Native.Nat.{ℕ, zero, suc, ◌+◌, ◌*◌, ◌<◌, ◌≤◌}
use native.Mathlib.Omega.{arith}
use lib.ListN.{length, get_or, take}
use lib.Seq.{ext_get_or, get_or-take, length-take-le}
use Rattle.mem_numbers.specs.Numbers.{value_at, shorts, triples, length_shorts, length_triples, get_or_shorts, get_or_triples}
use Rattle.mem_words.specs.declared.Word.TheVariants.{Bad}
use Rattle.mem_words.specs.Words.{words, word, length_words, get_d_words}

-- an element of the first n
pub first_same : {A : Type 0} (n : ℕ) (l l' : List A) (z : A) → take n l' ≡ take n l → (j : ℕ) → j < n → get_or l' j z ≡ get_or l j z
first_same {A} n l l' z e j h = sym (get_or-take n l' j z h) ∙ ap (λ (x : List A). get_or x j z) e ∙ get_or-take n l j z h

value_same : (w n : ℕ) (l l' : List ℕ) → take n l' ≡ take n l → (j : ℕ) → j + w ≤ n → value_at w l' j ≡ value_at w l j
value_same zero n l l' e j h = refl
value_same (suc w) n l l' e j h = ap₂ (λ (x y : ℕ). x + y * 256) (first_same n l l' 0 e j (omega arith)) (value_same w n l l' e (j + 1) (omega arith))

-- lists with the same first k elements
firsts : {A : Type 0} (z : A) (k : ℕ) (L L' : List A) → k ≤ length L → k ≤ length L' → ((i : ℕ) → i < k → get_or L' i z ≡ get_or L i z) → take k L' ≡ take k L
firsts z k L L' h h' f =
    let a : length (take k L') ≡ k = length-take-le k L' h' in
    let b : length (take k L) ≡ k = length-take-le k L h in
    ext_get_or z (take k L') (take k L) (a ∙ sym b) (λ i g. let q : i < k = omega (arith, a, g) in get_or-take k L' i z q ∙ f i q ∙ sym (get_or-take k L i z q))

module _ (b b' : List ℕ) (k : ℕ) (long : length b' ≡ length b) where
  pub triples_first : 3 * k ≤ length b → take (3 * k) b' ≡ take (3 * k) b → take k (triples b') ≡ take k (triples b)
  triples_first h e =
      let l = length_triples b in
      let l' = length_triples b' in
      firsts 0 k (triples b) (triples b') (omega arith) (omega arith)
      (λ i g. get_or_triples b' i (omega arith) ∙ value_same 3 (3 * k) b b' e (3 * i) (omega arith) ∙ sym (get_or_triples b i (omega arith)))

  pub shorts_first : 2 * k ≤ length b → take (2 * k) b' ≡ take (2 * k) b → take k (shorts b') ≡ take k (shorts b)
  shorts_first h e =
      let l = length_shorts b in
      let l' = length_shorts b' in
      firsts 0 k (shorts b) (shorts b') (omega arith) (omega arith)
      (λ i g. get_or_shorts b' i (omega arith) ∙ value_same 2 (2 * k) b b' e (2 * i) (omega arith) ∙ sym (get_or_shorts b i (omega arith)))

  pub words_first : 3 * k ≤ length b → take (3 * k) b' ≡ take (3 * k) b → take k (words b') ≡ take k (words b)
  words_first h e =
      let l = length_words b in
      let l' = length_words b' in
      firsts Bad k (words b) (words b') (omega arith) (omega arith)
      (λ i g. get_d_words b' i (omega arith) ∙ ap₂ word (first_same (3 * k) b b' 0 e (3 * i) (omega arith)) (value_same 2 (3 * k) b b' e (3 * i + 1) (omega arith)) ∙ sym (get_d_words b i (omega arith)))
