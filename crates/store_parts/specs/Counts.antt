-- What a pass over words knows when it has counted some of them. Assumes nothing.
use Rattle.std.specs.Prelude.{◌≡◌, List, [], ◌∷◌, ℕ, suc, ◌+◌, ◌*◌, ◌≤◌, ◌<◌, length, drop}
use Rattle.std.proofs.Common.{sym, ap, ◌∙◌, subst, arith, add-one, zero-add, drop_of_length-le, drop-cons}
use Rattle.mem_words.specs.declared.Word.{Word}
use Rattle.mem_words.specs.declared.Word.TheVariants.{End, Free, Level, Num, Place, Inner, Bad}
use Rattle.mem_words.specs.Words.{Small, Read}
use Rattle.mem_sorts.specs.declared.Kind.{Kind}
use Rattle.mem_sorts.specs.declared.Kind.TheVariants.{Or, And, Guarded, Member, Wait, Cond, Commit}
use Rattle.mem_sorts.specs.declared.Sort.{Sort}
use Rattle.mem_sorts.specs.declared.Sort.TheVariants.{Locals, Store, True, Fail, Eq, App, Call, Comp, Hide, Clause, AskWait, AskCond, AskCommit}
use Rattle.store_parts.specs.declared.Among.{Among}
use Rattle.store_parts.specs.declared.Count.{Count}
use Rattle.store_parts.specs.declared.Among.TheVariants.{Others, Variables, Hidden}
use Rattle.store_parts.specs.Counting.{kind_parts, sort_parts, free_parts, number_parts, word_parts, behind_word, parts_in}

-- from word i on, among m₀, up to word e: r parts, and the word at e stands among m
pub record Counted (W : List Word) (m₀ : Among) (i : ℕ) (m : Among) (r e : ℕ) : Type 0 where
  pub from : i ≤ e
  pub within : e ≤ length W
  -- a word counts less than its value can be
  pub small : r + 65536 * i ≤ 65536 * e
  pub left : r + parts_in m (drop e W) ≡ parts_in m₀ (drop i W)

pub record CanRun (W : List Word) (i e : ℕ) : Type 0 where
  pub from : i ≤ e
  pub within : e ≤ length W
  pub few : length W ≤ 1048576

pub record Ran (W : List Word) (m : Among) (i e : ℕ) (c : Count) : Type 0 where
  pub counted : Counted W m i c.among c.parts e

kind_few : (k : Kind) → kind_parts k < 65536
kind_few Or = omega arith
kind_few And = omega arith
kind_few Guarded = omega arith
kind_few Member = omega arith
kind_few Wait = omega arith
kind_few Cond = omega arith
kind_few Commit = omega arith

sort_few : (s : Sort) → sort_parts s < 65536
sort_few Locals = omega arith
sort_few Store = omega arith
sort_few True = omega arith
sort_few Fail = omega arith
sort_few Eq = omega arith
sort_few App = omega arith
sort_few Call = omega arith
sort_few Comp = omega arith
sort_few Hide = omega arith
sort_few Clause = omega arith
sort_few AskWait = omega arith
sort_few AskCond = omega arith
sort_few AskCommit = omega arith

free_few : (m : Among) → free_parts m < 65536
free_few Others = omega arith
free_few Variables = omega arith
free_few Hidden = omega arith

number_few : (m : Among) (n : ℕ) → n < 65536 → number_parts m n < 65536
number_few Others n h = omega arith
number_few Variables n h = omega arith
number_few Hidden n h = h

-- a word's parts, of two bytes
pub word_few : (m : Among) (w : Word) → Small w → word_parts m w < 65536
word_few m End s = omega arith
word_few m (Free x) s = free_few m
word_few m (Level l) s = omega arith
word_few m (Num n) s = number_few m n s.value
word_few m (Place k) s = kind_few k
word_few m (Inner k) s = sort_few k
word_few m Bad s = omega arith

pub counted_none : (W : List Word) (m : Among) (i : ℕ) → i ≤ length W → Counted W m i m 0 i
counted_none W m i h = record { from = omega arith; within = h; small = omega arith; left = zero-add (parts_in m (drop i W)) }

pub counted_next : (W : List Word) (m₀ m n : Among) (i r p e : ℕ) (w : Word) → e < length W → Counted W m₀ i m r e → Read W e w → p ≡ word_parts m w → n ≡ behind_word m w → Counted W m₀ i n (r + p) (e + 1)
unfolding parts_in
counted_next W m₀ m n i r p e w h c g ep en =
    let b : p < 65536 = subst (λ (x : ℕ). x < 65536) (sym ep) (word_few m w g.small) in
    let d : drop e W ≡ w ∷ drop (e + 1) W = drop-cons W e Bad h ∙ ap (λ (x : Word). x ∷ drop (suc e) W) (sym g.is) ∙ ap (λ (j : ℕ). w ∷ drop j W) (sym (add-one e)) in
    let f : parts_in m (drop e W) ≡ p + parts_in n (drop (e + 1) W) = ap (parts_in m) d ∙ ap (λ (x : ℕ). x + parts_in (behind_word m w) (drop (e + 1) W)) (sym ep) ∙ ap (λ (x : Among). p + parts_in x (drop (e + 1) W)) (sym en) in
    record { from = omega (arith, c.from); within = omega arith; small = omega (arith, c.small); left = omega (arith, c.left, f) }

-- one run behind another
pub counted_on : {W : List Word} {m₀ m n : Among} {i r p e k : ℕ} → Counted W m₀ i m r e → Counted W m e n p k → Counted W m₀ i n (r + p) k
counted_on c d = record { from = omega (arith, c.from, d.from); within = d.within; small = omega (arith, c.small, d.small); left = omega (arith, c.left, d.left) }

pub counted_all : (W : List Word) (m : Among) (r e : ℕ) → length W ≤ e → Counted W Others 0 m r e → r ≡ parts_in Others W
unfolding parts_in
counted_all W m r e h c = let f : parts_in m (drop e W) ≡ 0 = ap (parts_in m) (drop_of_length-le W h) in omega (arith, c.left, f)
