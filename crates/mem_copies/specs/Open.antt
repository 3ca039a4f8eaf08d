-- Opening a word: the levels below the number of given words become those words, the others fall by that number.
-- Assumes nothing.
use Rattle.std.specs.Prelude.{◌≡◌, refl, Bool, true, false, cond, List, ℕ, ◌+◌, ◌-◌, ◌<◌, ◌≤◌, ltb, length, get_or, set, drop}
use Rattle.std.proofs.Common.{ap, sym, ◌∙◌, subst, arith, length-set, length-drop, get_or-drop, lt-ltb, le-ltb}
use Rattle.mem_numbers.specs.Stored.{Stored}
use Rattle.mem_words.specs.declared.Word.{Word}
use Rattle.mem_words.specs.declared.Word.TheVariants.{End, Free, Level, Num, Place, Inner, Bad}
use Rattle.mem_words.specs.Words.{Small, Read, value_of, class_of, word, word_of}
use Rattle.mem_copies.specs.Runs.{run, get_or_run, length_run, copied, Copied, copied_none, copied_more}

-- level l becomes the l-th of the words vs, or level l - length vs
abbrev pub open_level_word : List Word → ℕ → Word
open_level_word vs l = cond (ltb l (length vs)) (get_or vs l Bad) (Level (l - length vs))

-- every other word stays
unfoldable pub open_word : List Word → Word → Word
open_word vs End = End
open_word vs (Free v) = Free v
open_word vs (Level l) = open_level_word vs l
open_word vs (Num v) = Num v
open_word vs (Place k) = Place k
open_word vs (Inner s) = Inner s
open_word vs Bad = Bad

-- what opening a word hands back
pub record Opened (vs : List Word) (w r : Word) : Type 0 where
  pub is : r ≡ open_word vs w
  pub small : Small r

-- what may be opened: the n words from `at` on are there, and the word fits its bytes
pub record CanOpen (W : List Word) (at n : ℕ) (w : Word) : Type 0 where
  pub inside : at + n ≤ length W
  pub small : Small w

pub open_low : (W : List Word) (at n l : ℕ) (w r : Word) → w ≡ Level l → l < n → at + n ≤ length W → Read W (at + l) r → Opened (run at n W) w r
unfolding open_word
open_low W at n l w r e h b g = record {
  is = g.is ∙ sym (get_or_run at n W l Bad h) ∙ ap (λ (t : Bool). cond t (get_or (run at n W) l Bad) (Level (l - length (run at n W)))) (sym (lt-ltb l (length (run at n W)) (rw (length_run at n W b) h)))
      ∙ ap (open_word (run at n W)) (sym e);
  small = g.small;
}

pub open_high : (W : List Word) (at n l : ℕ) (w : Word) → w ≡ Level l → n ≤ l → at + n ≤ length W → Small w → Opened (run at n W) w (Level (l - n))
unfolding open_word
open_high W at n l w e h b s = record {
  is = ap (λ (m : ℕ). Level (l - m)) (sym (length_run at n W b)) ∙ ap (λ (t : Bool). cond t (get_or (run at n W) l Bad) (Level (l - length (run at n W)))) (sym (le-ltb l (length (run at n W)) (rw (length_run at n W b) h)))
      ∙ ap (open_word (run at n W)) (sym e);
  small = record { value = omega (arith, s.value, ap value_of e) };
}

-- the words that opening keeps
abbrev pub Kept : Word → Type 0
Kept End = Unit {0}
Kept (Free v) = Unit {0}
Kept (Level v) = ⊥
Kept (Num v) = Unit {0}
Kept (Place k) = Unit {0}
Kept (Inner k) = Unit {0}
Kept Bad = Unit {0}

kept : (vs : List Word) (v : Word) → Kept v → v ≡ open_word vs v
unfolding open_word
kept vs End h = refl
kept vs (Free v) h = refl
kept vs (Level v) h = absurd h
kept vs (Num v) h = refl
kept vs (Place v) h = refl
kept vs (Inner v) h = refl
kept vs Bad h = refl

pub open_keep : (vs : List Word) (w v : Word) → w ≡ v → Kept v → Small w → Opened vs w v
open_keep vs w v e h s = record { is = kept vs v h ∙ ap (open_word vs) (sym e); small = subst Small e s }

-- words are the same when class and value are
pub same_word : (a b : Word) → class_of a ≡ class_of b → value_of a ≡ value_of b → a ≡ b
same_word a b p q = sym (word_of a) ∙ ap (λ (k : ℕ). word k (value_of a)) p ∙ ap (word (class_of b)) q ∙ word_of b

-- whether a word is a level
abbrev pub is_level : Word → Bool
is_level End = false
is_level (Free v) = false
is_level (Level v) = true
is_level (Num v) = false
is_level (Place k) = false
is_level (Inner s) = false
is_level Bad = false

-- opening keeps every other word
pub open_plain : (vs : List Word) (w : Word) → is_level w ≡ false → w ≡ open_word vs w
open_plain vs End h = kept vs End tt
open_plain vs (Free v) h = kept vs (Free v) tt
open_plain vs (Level v) h = absurd (true_false h)
  where
    true_false : true ≡ false → ⊥
    true_false e = let z : ◌≡◌ {A = ℕ} 0 1 = cc in omega arith
open_plain vs (Num v) h = kept vs (Num v) tt
open_plain vs (Place k) h = kept vs (Place k) tt
open_plain vs (Inner s) h = kept vs (Inner s) tt
open_plain vs Bad h = kept vs Bad tt

-- what may be written opened: the element k of S to j in D, with the m elements of N from v on at hand
pub record CanPutOpened (S : List Word) (k : ℕ) (N : List Word) (v m : ℕ) (D : List Word) (j : ℕ) : Type 0 where
  pub source : k < length S
  pub room : j < length D
  pub words : v + m ≤ length N

-- a copy of one word is a store
pub one_stored : (D S X : List Word) (j k : ℕ) (v : Word) → v ≡ get_or S k Bad → k < length S → j < length D → Copied D j (drop k S) 1 X → Stored D j v X
one_stored D S X j k v e hs hd c =
    let z : j + 0 ≡ j = omega arith in
    let q : k + 0 ≡ k = omega arith in
    let t : v ≡ get_or (drop k S) 0 Bad = e ∙ ap (λ (x : ℕ). get_or S x Bad) (sym q) ∙ sym (get_or-drop k S 0 Bad) in
    let p : Stored D (j + 0) v (set D j v) = record { list = ap (λ (x : ℕ). set D x v) (sym z); long = length-set D j v } in
    let m : set D j v ≡ copied D j (drop k S) (0 + 1) = copied_more D j (drop k S) D (set D j v) 0 v Bad (copied_none D j (drop k S)) t (omega arith) (omega (arith, length-drop k S)) p in
    let o : 0 + 1 ≡ 1 = omega arith in
    record { list = c.list ∙ ap (copied D j (drop k S)) (sym o) ∙ sym m; long = c.long }
