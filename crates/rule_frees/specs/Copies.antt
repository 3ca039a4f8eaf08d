-- Words appended by a copy: fresh variables, and runs of words that are mapped. Assumes nothing.
use Rattle.std.specs.Prelude.{◌≡◌, refl, Bool, true, false, cond, List, [], ◌∷◌, ◌++◌, map, ℕ, zero, suc, ◌+◌, ◌-◌, ◌<◌, ◌≤◌, ltb, length, get_or, take, drop}
use Rattle.std.proofs.Common.{ap, ap₂, sym, ◌∙◌, not-suc-le-zero, le_of_suc-le-suc, arith, length-drop, take_all, lt-ltb, le-ltb}
use Rattle.std.proofs.lemmas.List.{length-map}
use Rattle.mem_words.specs.declared.Word.{Word}
use Rattle.mem_words.specs.declared.Word.TheVariants.{Free, Level, Bad}
use Rattle.mem_words.specs.Words.{Small, value_of}
use Rattle.mem_copies.specs.Runs.{run, copied, Copied, take_copied, length_run}
use Rattle.mem_copies.specs.Open.{open_word, Opened}
use Rattle.rule_build.specs.Built.{Appended}
use Rattle.rule_effects.specs.Effects.{frees}

pub length_frees : (next n : ℕ) → length (frees next n) ≡ n
unfolding frees
length_frees next zero = refl
length_frees next (suc n) = ap suc (length_frees (suc next) n)

pub get_or_frees : (next n j : ℕ) → j < n → Free (next + j) ≡ get_or (frees next n) j Bad
unfolding frees
get_or_frees next zero j h = absurd (not-suc-le-zero h)
get_or_frees next (suc n) zero h = let e : next + 0 ≡ next = omega arith in ap Free e
get_or_frees next (suc n) (suc j) h = let e : next + suc j ≡ suc next + j = omega arith in ap Free e ∙ get_or_frees (suc next) n j (le_of_suc-le-suc h)

-- a level opened with fresh variables
pub fresh_low : (next n l : ℕ) (w : Word) → w ≡ Level l → l < n → next + n ≤ 65536 → Opened (frees next n) w (Free (next + l))
unfolding open_word
fresh_low next n l w e h b = record {
  is = get_or_frees next n l h ∙ ap (λ (t : Bool). cond t (get_or (frees next n) l Bad) (Level (l - length (frees next n)))) (sym (lt-ltb l (length (frees next n)) (rw (length_frees next n) h))) ∙ ap (open_word (frees next n)) (sym e);
  small = record { value = omega arith };
}

pub fresh_high : (next n l : ℕ) (w : Word) → w ≡ Level l → n ≤ l → Small w → Opened (frees next n) w (Level (l - n))
unfolding open_word
fresh_high next n l w e h s = record {
  is = ap (λ (m : ℕ). Level (l - m)) (sym (length_frees next n)) ∙ ap (λ (t : Bool). cond t (get_or (frees next n) l Bad) (Level (l - length (frees next n)))) (sym (le-ltb l (length (frees next n)) (rw (length_frees next n) h))) ∙ ap (open_word (frees next n)) (sym e);
  small = record { value = omega (arith, s.value, ap value_of e) };
}

-- a whole list copied is appended
pub copied_appended : (O S X : List Word) (at m : ℕ) → m ≡ length S → at + m ≤ length O → Copied O at S m X → Appended O at S (at + m) X
copied_appended O S X at m e h c = record {
  whole = λ g. (omega arith, ap (take (at + m)) c.list ∙ take_copied O at S m (omega arith) (omega arith) ∙ ap (λ (l : List Word). take at O ++ l) (take_all m S (omega arith)));
  over = λ g. absurd (omega arith);
  long = c.long;
}

take_map : (f : Word → Word) (m : ℕ) (l : List Word) → take m (map f l) ≡ map f (take m l)
take_map f zero l = refl
take_map f (suc m) [] = refl
take_map f (suc m) (x ∷ l) = ap (λ (u : List Word). f x ∷ u) (take_map f m l)

-- a run copied with each word mapped
pub mapped_appended : (f : Word → Word) (O W X : List Word) (at s m : ℕ) → s + m ≤ length W → at + m ≤ length O → Copied O at (map f (drop s W)) m X → Appended O at (map f (run s m W)) (at + m) X
unfolding run
mapped_appended f O W X at s m hw ho c =
    let n : length (map f (take m (drop s W))) ≡ m = length-map (take m (drop s W)) f ∙ length_run s m W hw in
    record {
      whole = λ g. (omega (arith, n), ap (take (at + m)) c.list ∙ take_copied O at (map f (drop s W)) m (omega arith) (omega (arith, length-drop s W, length-map (drop s W) f)) ∙ ap (λ (l : List Word). take at O ++ l) (take_map f m (drop s W)));
      over = λ g. absurd (omega (arith, n));
      long = c.long;
    }
