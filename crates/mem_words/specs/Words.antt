-- A list of bytes as words of three bytes: a class, and a value with the low byte first. Assumes nothing.
use Rattle.std.specs.Prelude.{◌≡◌, refl, List, [], ◌∷◌, map, ℕ, zero, suc, ◌+◌, ◌*◌, ◌/◌, ◌<◌, ◌≤◌, length, get_or, take, drop, replicate}
use Rattle.std.proofs.Common.{ap, ap₂, sym, ◌∙◌, add-one, arith, drop-cons}
use Rattle.std.proofs.Math.Decide.{dec_lt}
use Rattle.mem_numbers.specs.Chunks.{chunks}
use Rattle.mem_numbers.specs.Stored.{Stored}
use Rattle.mem_numbers.specs.Numbers.{value, value_at, stores, length_read, get_d_read, stored_read, length_stores, zero_byte}
use Rattle.mem_words.specs.declared.Word.{Word}
use Rattle.mem_words.specs.declared.Word.TheVariants.{End, Free, Level, Num, Place, Inner, Bad}
use Rattle.mem_sorts.specs.declared.Kind.TheVariants.{Or, And, Guarded, Member, Wait, Cond, Commit}
use Rattle.mem_sorts.specs.declared.Sort.TheVariants.{Locals, Store, True, Fail, Eq, App, Call, Comp, Hide, Clause, AskWait, AskCond, AskCommit}
use Rattle.mem_sorts.specs.Shapes.{pick, pick_past, kind_no, sort_no}

-- the word that closes a bracket has no value
abbrev pub end_word : ℕ → Word
end_word zero = End
end_word (suc v) = Bad

-- the word that opens a place, by the number of its kind
abbrev pub place_word : ℕ → Word
place_word v = pick (Place Or ∷ Place And ∷ Place Guarded ∷ Place Member ∷ Place Wait ∷ Place Cond ∷ Place Commit ∷ []) Bad v

-- the word that opens another bracket, by the number of its sort
abbrev pub inner_word : ℕ → Word
inner_word v = pick (Inner Locals ∷ Inner Store ∷ Inner True ∷ Inner Fail ∷ Inner Eq ∷ Inner App ∷ Inner Call ∷ Inner Comp ∷ Inner Hide ∷ Inner Clause ∷ Inner AskWait ∷ Inner AskCond ∷ Inner AskCommit ∷ []) Bad v

-- the word of a class and a value
abbrev pub word : ℕ → ℕ → Word
word k v = pick (end_word v ∷ Free v ∷ Level v ∷ Num v ∷ place_word v ∷ inner_word v ∷ []) Bad k

-- the class of a word
abbrev pub class_of : Word → ℕ
class_of End = 0
class_of (Free v) = 1
class_of (Level v) = 2
class_of (Num v) = 3
class_of (Place k) = 4
class_of (Inner s) = 5
class_of Bad = 6

-- the value of a word
abbrev pub value_of : Word → ℕ
value_of End = 0
value_of (Free v) = v
value_of (Level v) = v
value_of (Num v) = v
value_of (Place k) = kind_no k
value_of (Inner s) = sort_no s
value_of Bad = 0

-- the word of a piece of three bytes; there is none in an empty piece
abbrev pub read_word : List ℕ → Word
read_word [] = Bad
read_word (k ∷ bs) = word k (value bs)

-- the whole words of a list of bytes
unfoldable pub words : List ℕ → List Word
words l = map read_word (chunks (length l / 3) 3 l)

-- a word whose value fits two bytes: every word that was read does
pub record Small (w : Word) : Type 0 where
  pub value : value_of w < 65536

-- a word that was read
pub record Read (W : List Word) (i : ℕ) (r : Word) : Type 0 where
  pub is : r ≡ get_or W i Bad
  pub small : Small r

-- what a word may be written to
pub record CanWrite (W : List Word) (i : ℕ) (w : Word) : Type 0 where
  pub inside : i < length W
  pub small : Small w

-- class and value tell the word
pub word_of : (w : Word) → word (class_of w) (value_of w) ≡ w
word_of End = refl
word_of (Free v) = refl
word_of (Level v) = refl
word_of (Num v) = refl
word_of (Place Or) = refl
word_of (Place And) = refl
word_of (Place Guarded) = refl
word_of (Place Member) = refl
word_of (Place Wait) = refl
word_of (Place Cond) = refl
word_of (Place Commit) = refl
word_of (Inner Locals) = refl
word_of (Inner Store) = refl
word_of (Inner True) = refl
word_of (Inner Fail) = refl
word_of (Inner Eq) = refl
word_of (Inner App) = refl
word_of (Inner Call) = refl
word_of (Inner Comp) = refl
word_of (Inner Hide) = refl
word_of (Inner Clause) = refl
word_of (Inner AskWait) = refl
word_of (Inner AskCond) = refl
word_of (Inner AskCommit) = refl
word_of Bad = refl

end_small : (v : ℕ) → value_of (end_word v) < 65536
end_small zero = omega arith
end_small (suc v) = omega arith

place_small : (v : ℕ) → value_of (place_word v) < 65536
place_small zero = omega arith
place_small (suc zero) = omega arith
place_small (suc (suc zero)) = omega arith
place_small (suc (suc (suc zero))) = omega arith
place_small (suc (suc (suc (suc zero)))) = omega arith
place_small (suc (suc (suc (suc (suc zero))))) = omega arith
place_small (suc (suc (suc (suc (suc (suc zero)))))) = omega arith
place_small (suc (suc (suc (suc (suc (suc (suc v))))))) = omega arith

inner_small : (v : ℕ) → value_of (inner_word v) < 65536
inner_small zero = omega arith
inner_small (suc zero) = omega arith
inner_small (suc (suc zero)) = omega arith
inner_small (suc (suc (suc zero))) = omega arith
inner_small (suc (suc (suc (suc zero)))) = omega arith
inner_small (suc (suc (suc (suc (suc zero))))) = omega arith
inner_small (suc (suc (suc (suc (suc (suc zero)))))) = omega arith
inner_small (suc (suc (suc (suc (suc (suc (suc zero))))))) = omega arith
inner_small (suc (suc (suc (suc (suc (suc (suc (suc zero)))))))) = omega arith
inner_small (suc (suc (suc (suc (suc (suc (suc (suc (suc zero))))))))) = omega arith
inner_small (suc (suc (suc (suc (suc (suc (suc (suc (suc (suc zero)))))))))) = omega arith
inner_small (suc (suc (suc (suc (suc (suc (suc (suc (suc (suc (suc zero))))))))))) = omega arith
inner_small (suc (suc (suc (suc (suc (suc (suc (suc (suc (suc (suc (suc zero)))))))))))) = omega arith
inner_small (suc (suc (suc (suc (suc (suc (suc (suc (suc (suc (suc (suc (suc v))))))))))))) = omega arith

pub word_small : (k v : ℕ) → v < 65536 → Small (word k v)
word_small k v h = record { value = go k }
  where
    go : (k : ℕ) → value_of (word k v) < 65536
    go zero = end_small v
    go (suc zero) = h
    go (suc (suc zero)) = h
    go (suc (suc (suc zero))) = h
    go (suc (suc (suc (suc zero)))) = place_small v
    go (suc (suc (suc (suc (suc zero))))) = inner_small v
    go (suc (suc (suc (suc (suc (suc k)))))) = omega arith

pub length_words : (l : List ℕ) → length (words l) ≡ length l / 3
unfolding words
length_words l = length_read read_word (length l / 3) 3 l

read_at : (l : List ℕ) (j : ℕ) → j + 3 ≤ length l → read_word (take 3 (drop j l)) ≡ word (get_or l j 0) (value_at 2 l (j + 1))
read_at l j h =
    let e : drop j l ≡ get_or l j 0 ∷ (get_or l (j + 1) 0 ∷ (get_or l (j + 1 + 1) 0 ∷ drop (suc (j + 1 + 1)) l)) =
    drop-cons l j 0 (omega arith) ∙ ap (λ (x : List ℕ). get_or l j 0 ∷ x)
    (ap (λ (k : ℕ). drop k l) (sym (add-one j)) ∙ drop-cons l (j + 1) 0 (omega arith) ∙ ap (λ (x : List ℕ). get_or l (j + 1) 0 ∷ x)
    (ap (λ (k : ℕ). drop k l) (sym (add-one (j + 1))) ∙ drop-cons l (j + 1 + 1) 0 (omega arith))) in
    ap (λ (x : List ℕ). read_word (take 3 x)) e

-- reading: what code finds in the three bytes of a word
pub get_d_words : (l : List ℕ) (i : ℕ) → i < length (words l) → get_or (words l) i Bad ≡ word (get_or l (3 * i) 0) (value_at 2 l (3 * i + 1))
unfolding words
get_d_words l i h = let k : i < length l / 3 = omega (arith, length_words l) in get_d_read read_word (length l / 3) 3 l i k ∙ read_at l (3 * i) (omega arith)

-- writing: three stores of the class and the value's bytes
pub stored_words : (l bs : List ℕ) (i k : ℕ) (w : Word) → i < length (words l) → length bs ≡ 2 → k ≡ class_of w → value bs ≡ value_of w → Stored (words l) i w (words (stores l (3 * i) (k ∷ bs)))
unfolding words
stored_words l bs i k w h e c v =
    let q : i < length l / 3 = omega (arith, length_words l) in
    rw (length_stores l (3 * i) (k ∷ bs)) (stored_read read_word (length l / 3) 3 l i (k ∷ bs) w q (ap suc e) (omega arith) (ap₂ word c v ∙ word_of w))

-- bytes that are all zero are words that are all `End`
pub zero_words : (n i : ℕ) → i < length (words (replicate n 0)) → get_or (words (replicate n 0)) i Bad ≡ End
zero_words n i h =
    get_d_words (replicate n 0) i h
    ∙ ap₂ word (zero_byte n (3 * i)) (ap₂ (λ (x y : ℕ). x + (y + 0 * 256) * 256) (zero_byte n (3 * i + 1)) (zero_byte n (3 * i + 1 + 1)))

-- a class past the last is bad
pub word_past : (k v : ℕ) → 6 ≤ k → Bad ≡ word k v
word_past k v h = pick_past (end_word v ∷ Free v ∷ Level v ∷ Num v ∷ place_word v ∷ inner_word v ∷ []) Bad k h

-- what a function of a number gives at a number that is known
pub number_at : (f : ℕ → Word) (v j : ℕ) (x : Word) → v ≡ j → x ≡ f j → x ≡ f v
number_at f v j x e p = p ∙ ap f (sym e)

pub word_at : (k j v : ℕ) (x : Word) → k ≡ j → x ≡ word j v → x ≡ word k v
word_at k j v x e p = p ∙ ap (λ (i : ℕ). word i v) (sym e)

-- a number that is none of the others
pub end_rest : (v : ℕ) → (v ≡ 0 → ⊥) → Bad ≡ end_word v
end_rest zero n0 = absurd (n0 refl)
end_rest (suc v) n0 = refl

-- a number that is none of the others
pub place_rest : (v : ℕ) → (v ≡ 0 → ⊥) → (v ≡ 1 → ⊥) → (v ≡ 2 → ⊥) → (v ≡ 3 → ⊥) → (v ≡ 4 → ⊥) → (v ≡ 5 → ⊥) → (v ≡ 6 → ⊥) → Bad ≡ place_word v
place_rest zero n0 n1 n2 n3 n4 n5 n6 = absurd (n0 refl)
place_rest (suc zero) n0 n1 n2 n3 n4 n5 n6 = absurd (n1 refl)
place_rest (suc (suc zero)) n0 n1 n2 n3 n4 n5 n6 = absurd (n2 refl)
place_rest (suc (suc (suc zero))) n0 n1 n2 n3 n4 n5 n6 = absurd (n3 refl)
place_rest (suc (suc (suc (suc zero)))) n0 n1 n2 n3 n4 n5 n6 = absurd (n4 refl)
place_rest (suc (suc (suc (suc (suc zero))))) n0 n1 n2 n3 n4 n5 n6 = absurd (n5 refl)
place_rest (suc (suc (suc (suc (suc (suc zero)))))) n0 n1 n2 n3 n4 n5 n6 = absurd (n6 refl)
place_rest (suc (suc (suc (suc (suc (suc (suc v))))))) n0 n1 n2 n3 n4 n5 n6 = refl

-- a number that is none of the others
pub inner_rest : (v : ℕ) → (v ≡ 0 → ⊥) → (v ≡ 1 → ⊥) → (v ≡ 2 → ⊥) → (v ≡ 3 → ⊥) → (v ≡ 4 → ⊥) → (v ≡ 5 → ⊥) → (v ≡ 6 → ⊥) → (v ≡ 7 → ⊥) → (v ≡ 8 → ⊥) → (v ≡ 9 → ⊥) → (v ≡ 10 → ⊥) → (v ≡ 11 → ⊥) → (v ≡ 12 → ⊥) → Bad ≡ inner_word v
inner_rest zero n0 n1 n2 n3 n4 n5 n6 n7 n8 n9 n10 n11 n12 = absurd (n0 refl)
inner_rest (suc zero) n0 n1 n2 n3 n4 n5 n6 n7 n8 n9 n10 n11 n12 = absurd (n1 refl)
inner_rest (suc (suc zero)) n0 n1 n2 n3 n4 n5 n6 n7 n8 n9 n10 n11 n12 = absurd (n2 refl)
inner_rest (suc (suc (suc zero))) n0 n1 n2 n3 n4 n5 n6 n7 n8 n9 n10 n11 n12 = absurd (n3 refl)
inner_rest (suc (suc (suc (suc zero)))) n0 n1 n2 n3 n4 n5 n6 n7 n8 n9 n10 n11 n12 = absurd (n4 refl)
inner_rest (suc (suc (suc (suc (suc zero))))) n0 n1 n2 n3 n4 n5 n6 n7 n8 n9 n10 n11 n12 = absurd (n5 refl)
inner_rest (suc (suc (suc (suc (suc (suc zero)))))) n0 n1 n2 n3 n4 n5 n6 n7 n8 n9 n10 n11 n12 = absurd (n6 refl)
inner_rest (suc (suc (suc (suc (suc (suc (suc zero))))))) n0 n1 n2 n3 n4 n5 n6 n7 n8 n9 n10 n11 n12 = absurd (n7 refl)
inner_rest (suc (suc (suc (suc (suc (suc (suc (suc zero)))))))) n0 n1 n2 n3 n4 n5 n6 n7 n8 n9 n10 n11 n12 = absurd (n8 refl)
inner_rest (suc (suc (suc (suc (suc (suc (suc (suc (suc zero))))))))) n0 n1 n2 n3 n4 n5 n6 n7 n8 n9 n10 n11 n12 = absurd (n9 refl)
inner_rest (suc (suc (suc (suc (suc (suc (suc (suc (suc (suc zero)))))))))) n0 n1 n2 n3 n4 n5 n6 n7 n8 n9 n10 n11 n12 = absurd (n10 refl)
inner_rest (suc (suc (suc (suc (suc (suc (suc (suc (suc (suc (suc zero))))))))))) n0 n1 n2 n3 n4 n5 n6 n7 n8 n9 n10 n11 n12 = absurd (n11 refl)
inner_rest (suc (suc (suc (suc (suc (suc (suc (suc (suc (suc (suc (suc zero)))))))))))) n0 n1 n2 n3 n4 n5 n6 n7 n8 n9 n10 n11 n12 = absurd (n12 refl)
inner_rest (suc (suc (suc (suc (suc (suc (suc (suc (suc (suc (suc (suc (suc v))))))))))))) n0 n1 n2 n3 n4 n5 n6 n7 n8 n9 n10 n11 n12 = refl
