-- Parts counted sixteen words at a time, where each word counts by itself. Assumes nothing.
use Rattle.std.specs.Prelude.{◌≡◌, refl, Option, Some, None, List, [], ◌∷◌, ℕ, zero, suc, ◌+◌, ◌*◌, ◌<◌, ◌≤◌, length, take, drop}
use Rattle.std.proofs.Common.{ap, ap₂, sym, ◌∙◌, zero-add, arith, length-drop, drop-drop}
use Rattle.std.proofs.Math.Decide.{ℕ_discrete}
use Rattle.mem_words.specs.declared.Word.{Word}
use Rattle.mem_words.specs.declared.Word.TheVariants.{End, Free, Level, Num, Place, Inner, Bad}
use Rattle.mem_words.specs.Words.{words, word, place_word, inner_word}
use Rattle.mem_sorts.specs.declared.Kind.{Kind}
use Rattle.mem_sorts.specs.declared.Kind.TheVariants.{Or, And, Guarded, Member, Wait, Cond, Commit}
use Rattle.mem_sorts.specs.declared.Sort.{Sort}
use Rattle.mem_sorts.specs.declared.Sort.TheVariants.{Locals, Store, True, Fail, Eq, App, Call, Comp, Hide, Clause, AskWait, AskCond, AskCommit}
use Rattle.mem_tallies.specs.Tallies.{total, firsts, Tallied, sixteen, tallied_few}
use Rattle.store_parts.specs.declared.Among.{Among}
use Rattle.store_parts.specs.declared.Among.TheVariants.{Others, Variables, Hidden}
use Rattle.store_parts.specs.Counting.{kind_parts, sort_parts, word_parts, behind_word, parts_in}
use Rattle.store_parts.specs.Counts.{Counted}

abbrev pub other_no : Among → ℕ
other_no Others = 0
other_no Variables = 1
other_no Hidden = 1

-- 1 for a word behind which a word does not stand among others
abbrev pub odd_one : Word → ℕ
odd_one w = other_no (behind_word Others w)

-- sixteen words and one more are there from word i on, and m marks the bytes with which words begin
pub record InPiece (b : List ℕ) (i : ℕ) (m : List ℕ) : Type 0 where
  pub inside : i + 17 ≤ length (words b)
  pub marks : m ≡ firsts 16

-- sixteen words, each among others, have r parts
pub record Plain (b : List ℕ) (i r : ℕ) : Type 0 where
  pub parts : Tallied (word_parts Others) b i 48 r
  pub even : Tallied odd_one b i 48 0

-- where it is said how many
abbrev pub PlainTo : List ℕ → ℕ → Option ℕ → Type 0
PlainTo b i None = Unit {0}
PlainTo b i (Some r) = Plain b i r

-- ---- the bytes of a word

pub place_member : (v : ℕ) → v ≡ 3 → 0 ≡ word_parts Others (place_word v)
place_member v e = ap (λ (k : ℕ). word_parts Others (place_word k)) (sym e)

pub place_part : (v : ℕ) → (v ≡ 3 → ⊥) → v < 7 → 1 ≡ word_parts Others (place_word v)
place_part zero n h = refl
place_part (suc zero) n h = refl
place_part (suc (suc zero)) n h = refl
place_part (suc (suc (suc zero))) n h = absurd (n refl)
place_part (suc (suc (suc (suc zero)))) n h = refl
place_part (suc (suc (suc (suc (suc zero))))) n h = refl
place_part (suc (suc (suc (suc (suc (suc zero)))))) n h = refl
place_part (suc (suc (suc (suc (suc (suc (suc v))))))) n h = absurd (omega arith)

pub place_past : (v : ℕ) → 7 ≤ v → 0 ≡ word_parts Others (place_word v)
place_past zero h = absurd (omega arith)
place_past (suc zero) h = absurd (omega arith)
place_past (suc (suc zero)) h = absurd (omega arith)
place_past (suc (suc (suc zero))) h = absurd (omega arith)
place_past (suc (suc (suc (suc zero)))) h = absurd (omega arith)
place_past (suc (suc (suc (suc (suc zero))))) h = absurd (omega arith)
place_past (suc (suc (suc (suc (suc (suc zero)))))) h = absurd (omega arith)
place_past (suc (suc (suc (suc (suc (suc (suc v))))))) h = refl

pub inner_none : (v : ℕ) → v < 2 → 0 ≡ word_parts Others (inner_word v)
inner_none zero h = refl
inner_none (suc zero) h = refl
inner_none (suc (suc zero)) h = absurd (omega arith)
inner_none (suc (suc (suc zero))) h = absurd (omega arith)
inner_none (suc (suc (suc (suc zero)))) h = absurd (omega arith)
inner_none (suc (suc (suc (suc (suc zero))))) h = absurd (omega arith)
inner_none (suc (suc (suc (suc (suc (suc zero)))))) h = absurd (omega arith)
inner_none (suc (suc (suc (suc (suc (suc (suc zero))))))) h = absurd (omega arith)
inner_none (suc (suc (suc (suc (suc (suc (suc (suc zero)))))))) h = absurd (omega arith)
inner_none (suc (suc (suc (suc (suc (suc (suc (suc (suc zero))))))))) h = absurd (omega arith)
inner_none (suc (suc (suc (suc (suc (suc (suc (suc (suc (suc zero)))))))))) h = absurd (omega arith)
inner_none (suc (suc (suc (suc (suc (suc (suc (suc (suc (suc (suc zero))))))))))) h = absurd (omega arith)
inner_none (suc (suc (suc (suc (suc (suc (suc (suc (suc (suc (suc (suc zero)))))))))))) h = absurd (omega arith)
inner_none (suc (suc (suc (suc (suc (suc (suc (suc (suc (suc (suc (suc (suc v))))))))))))) h = refl

pub inner_part : (v : ℕ) → 2 ≤ v → v < 13 → 1 ≡ word_parts Others (inner_word v)
inner_part zero g h = absurd (omega arith)
inner_part (suc zero) g h = absurd (omega arith)
inner_part (suc (suc zero)) g h = refl
inner_part (suc (suc (suc zero))) g h = refl
inner_part (suc (suc (suc (suc zero)))) g h = refl
inner_part (suc (suc (suc (suc (suc zero))))) g h = refl
inner_part (suc (suc (suc (suc (suc (suc zero)))))) g h = refl
inner_part (suc (suc (suc (suc (suc (suc (suc zero))))))) g h = refl
inner_part (suc (suc (suc (suc (suc (suc (suc (suc zero)))))))) g h = refl
inner_part (suc (suc (suc (suc (suc (suc (suc (suc (suc zero))))))))) g h = refl
inner_part (suc (suc (suc (suc (suc (suc (suc (suc (suc (suc zero)))))))))) g h = refl
inner_part (suc (suc (suc (suc (suc (suc (suc (suc (suc (suc (suc zero))))))))))) g h = refl
inner_part (suc (suc (suc (suc (suc (suc (suc (suc (suc (suc (suc (suc zero)))))))))))) g h = refl
inner_part (suc (suc (suc (suc (suc (suc (suc (suc (suc (suc (suc (suc (suc v))))))))))))) g h = absurd (omega arith)

pub inner_past : (v : ℕ) → 13 ≤ v → 0 ≡ word_parts Others (inner_word v)
inner_past zero h = absurd (omega arith)
inner_past (suc zero) h = absurd (omega arith)
inner_past (suc (suc zero)) h = absurd (omega arith)
inner_past (suc (suc (suc zero))) h = absurd (omega arith)
inner_past (suc (suc (suc (suc zero)))) h = absurd (omega arith)
inner_past (suc (suc (suc (suc (suc zero))))) h = absurd (omega arith)
inner_past (suc (suc (suc (suc (suc (suc zero)))))) h = absurd (omega arith)
inner_past (suc (suc (suc (suc (suc (suc (suc zero))))))) h = absurd (omega arith)
inner_past (suc (suc (suc (suc (suc (suc (suc (suc zero)))))))) h = absurd (omega arith)
inner_past (suc (suc (suc (suc (suc (suc (suc (suc (suc zero))))))))) h = absurd (omega arith)
inner_past (suc (suc (suc (suc (suc (suc (suc (suc (suc (suc zero)))))))))) h = absurd (omega arith)
inner_past (suc (suc (suc (suc (suc (suc (suc (suc (suc (suc (suc zero))))))))))) h = absurd (omega arith)
inner_past (suc (suc (suc (suc (suc (suc (suc (suc (suc (suc (suc (suc zero)))))))))))) h = absurd (omega arith)
inner_past (suc (suc (suc (suc (suc (suc (suc (suc (suc (suc (suc (suc (suc v))))))))))))) h = refl

pub odd_yes : (v j : ℕ) → v ≡ j → 1 ≡ odd_one (inner_word j) → 1 ≡ odd_one (inner_word v)
odd_yes v j e h = h ∙ ap (λ (k : ℕ). odd_one (inner_word k)) (sym e)

pub odd_hides : (v : ℕ) → 8 ≤ v → v < 10 → 1 ≡ odd_one (inner_word v)
odd_hides v g h = go (ℕ_discrete v 8)
  where
    go : Dec (v ≡ 8) → 1 ≡ odd_one (inner_word v)
    go (yes e) = odd_yes v 8 e refl
    go (no n) = odd_yes v 9 (omega arith) refl

pub odd_no : (v : ℕ) → (v ≡ 0 → ⊥) → (v ≡ 8 → ⊥) → (v ≡ 9 → ⊥) → 0 ≡ odd_one (inner_word v)
odd_no zero a b c = absurd (a refl)
odd_no (suc zero) a b c = refl
odd_no (suc (suc zero)) a b c = refl
odd_no (suc (suc (suc zero))) a b c = refl
odd_no (suc (suc (suc (suc zero)))) a b c = refl
odd_no (suc (suc (suc (suc (suc zero))))) a b c = refl
odd_no (suc (suc (suc (suc (suc (suc zero)))))) a b c = refl
odd_no (suc (suc (suc (suc (suc (suc (suc zero))))))) a b c = refl
odd_no (suc (suc (suc (suc (suc (suc (suc (suc zero)))))))) a b c = absurd (b refl)
odd_no (suc (suc (suc (suc (suc (suc (suc (suc (suc zero))))))))) a b c = absurd (c refl)
odd_no (suc (suc (suc (suc (suc (suc (suc (suc (suc (suc zero)))))))))) a b c = refl
odd_no (suc (suc (suc (suc (suc (suc (suc (suc (suc (suc (suc zero))))))))))) a b c = refl
odd_no (suc (suc (suc (suc (suc (suc (suc (suc (suc (suc (suc (suc zero)))))))))))) a b c = refl
odd_no (suc (suc (suc (suc (suc (suc (suc (suc (suc (suc (suc (suc (suc v))))))))))))) a b c = refl

-- a word that opens nothing
pub one_other : (c v : ℕ) → (c ≡ 4 → ⊥) → (c ≡ 5 → ⊥) → 0 ≡ word_parts Others (word c v)
one_other zero zero a b = refl
one_other zero (suc v) a b = refl
one_other (suc zero) v a b = refl
one_other (suc (suc zero)) v a b = refl
one_other (suc (suc (suc zero))) v a b = refl
one_other (suc (suc (suc (suc zero)))) v a b = absurd (a refl)
one_other (suc (suc (suc (suc (suc zero))))) v a b = absurd (b refl)
one_other (suc (suc (suc (suc (suc (suc c)))))) v a b = refl

pub one_place : (c v r : ℕ) → c ≡ 4 → r ≡ word_parts Others (place_word v) → r ≡ word_parts Others (word c v)
one_place c v r e h = h ∙ ap (λ (k : ℕ). word_parts Others (word k v)) (sym e)

pub one_inner : (c v r : ℕ) → c ≡ 5 → r ≡ word_parts Others (inner_word v) → r ≡ word_parts Others (word c v)
one_inner c v r e h = h ∙ ap (λ (k : ℕ). word_parts Others (word k v)) (sym e)

pub one_wide : (c v : ℕ) → 13 ≤ v → 0 ≡ word_parts Others (word c v)
one_wide zero zero h = refl
one_wide zero (suc v) h = refl
one_wide (suc zero) v h = refl
one_wide (suc (suc zero)) v h = refl
one_wide (suc (suc (suc zero))) v h = refl
one_wide (suc (suc (suc (suc zero)))) v h = place_past v (omega arith)
one_wide (suc (suc (suc (suc (suc zero))))) v h = inner_past v h
one_wide (suc (suc (suc (suc (suc (suc c)))))) v h = refl

pub odd_other : (c v : ℕ) → (c ≡ 5 → ⊥) → 0 ≡ odd_one (word c v)
odd_other zero zero b = refl
odd_other zero (suc v) b = refl
odd_other (suc zero) v b = refl
odd_other (suc (suc zero)) v b = refl
odd_other (suc (suc (suc zero))) v b = refl
odd_other (suc (suc (suc (suc zero)))) v b = odd_place v
  where
    odd_place : (v : ℕ) → 0 ≡ odd_one (place_word v)
    odd_place zero = refl
    odd_place (suc zero) = refl
    odd_place (suc (suc zero)) = refl
    odd_place (suc (suc (suc zero))) = refl
    odd_place (suc (suc (suc (suc zero)))) = refl
    odd_place (suc (suc (suc (suc (suc zero))))) = refl
    odd_place (suc (suc (suc (suc (suc (suc zero)))))) = refl
    odd_place (suc (suc (suc (suc (suc (suc (suc v))))))) = refl
odd_other (suc (suc (suc (suc (suc zero))))) v b = absurd (b refl)
odd_other (suc (suc (suc (suc (suc (suc c)))))) v b = refl

pub odd_inner : (c v r : ℕ) → c ≡ 5 → r ≡ odd_one (inner_word v) → r ≡ odd_one (word c v)
odd_inner c v r e h = h ∙ ap (λ (k : ℕ). odd_one (word k v)) (sym e)

pub odd_wide : (c v : ℕ) → 13 ≤ v → 0 ≡ odd_one (word c v)
odd_wide c v h = go (ℕ_discrete c 5)
  where
    go : Dec (c ≡ 5) → 0 ≡ odd_one (word c v)
    go (yes e) = odd_inner c v 0 e (odd_no v (λ z. omega (arith, h, z)) (λ z. omega (arith, h, z)) (λ z. omega (arith, h, z)))
    go (no n) = odd_other c v n

-- ---- sixteen words

one_le : (w : Word) → word_parts Others w ≤ 1
one_le End = omega arith
one_le (Free x) = omega arith
one_le (Level l) = omega arith
one_le (Num n) = omega arith
one_le (Place k) = kind k
  where
    kind : (k : Kind) → kind_parts k ≤ 1
    kind Or = omega arith
    kind And = omega arith
    kind Guarded = omega arith
    kind Member = omega arith
    kind Wait = omega arith
    kind Cond = omega arith
    kind Commit = omega arith
one_le (Inner s) = sort s
  where
    sort : (s : Sort) → sort_parts s ≤ 1
    sort Locals = omega arith
    sort Store = omega arith
    sort True = omega arith
    sort Fail = omega arith
    sort Eq = omega arith
    sort App = omega arith
    sort Call = omega arith
    sort Comp = omega arith
    sort Hide = omega arith
    sort Clause = omega arith
    sort AskWait = omega arith
    sort AskCond = omega arith
    sort AskCommit = omega arith
one_le Bad = omega arith

odd_le : (w : Word) → odd_one w ≤ 1
odd_le w = go (behind_word Others w)
  where
    go : (m : Among) → other_no m ≤ 1
    go Others = omega arith
    go Variables = omega arith
    go Hidden = omega arith

pub parts_few : {b : List ℕ} {i k s : ℕ} → k ≤ 48 → Tallied (word_parts Others) b i k s → s ≤ 16
parts_few h T = tallied_few 1 one_le h T

pub odds_few : {b : List ℕ} {i k s : ℕ} → k ≤ 48 → Tallied odd_one b i k s → s ≤ 16
odds_few h T = tallied_few 1 odd_le h T

even_others : (m : Among) → other_no m ≡ 0 → m ≡ Others
even_others Others e = refl
even_others Variables e = absurd (omega arith)
even_others Hidden e = absurd (omega arith)

over : (n : ℕ) (l : List Word) → n ≤ length l → total odd_one (take n l) ≡ 0 → total (word_parts Others) (take n l) + parts_in Others (drop n l) ≡ parts_in Others l
unfolding total parts_in
over zero l h e = zero-add (parts_in Others l)
over (suc n) [] h e = absurd (omega arith)
over (suc n) (w ∷ l) h e =
    let o : behind_word Others w ≡ Others = even_others (behind_word Others w) (omega arith) in
    let f : parts_in (behind_word Others w) l ≡ parts_in Others l = ap (λ (m : Among). parts_in m l) o in
    omega (arith, f, over n l (omega arith) (omega arith))

pub plain_counted : {b : List ℕ} {i r : ℕ} → i + 17 ≤ length (words b) → Plain b i r → Counted (words b) Others i Others r (i + 16)
plain_counted {b} {i} {r} h P =
    let W = words b in
    let t : r ≡ total (word_parts Others) (take 16 (drop i W)) = sixteen P.parts in
    let u : total odd_one (take 16 (drop i W)) ≡ 0 = sym (sixteen P.even) in
    let d : parts_in Others (drop 16 (drop i W)) ≡ parts_in Others (drop (i + 16) W) = ap (parts_in Others) (drop-drop 16 i W) in
    record {
      from = omega arith;
      within = omega arith;
      small = omega (arith, parts_few (omega arith) P.parts);
      left = omega (arith, t, d, over 16 (drop i W) (omega (arith, length-drop i W)) u);
    }
