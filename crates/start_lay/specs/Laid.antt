-- The store of a query's start, from what the reader of texts leaves: bytes N of the table of names with m nodes, bytes R of the
-- program's words, a of them, numbers Q of the names of the query's variables, v of them, words G of its statement, b of them.
-- Assumes nothing.
use Rattle.std.specs.Prelude.{◌≡◌, refl, List, [], ◌∷◌, ◌++◌, ℕ, zero, suc, ◌+◌, ◌*◌, ◌≤◌, ◌<◌, length, take, drop}
use Rattle.std.proofs.Common.{sym, ap, ap₂, ◌∙◌, subst, arith, length-append, zero-add, take_all, length-take-le}
use Rattle.akl.specs.Base.{range}
use Rattle.akl.specs.Limits.{most_parts}
use Rattle.mem_numbers.specs.Numbers.{triples}
use Rattle.mem_words.specs.declared.Word.{Word}
use Rattle.mem_words.specs.declared.Word.TheVariants.{End, Place, Inner}
use Rattle.mem_words.specs.Words.{words}
use Rattle.mem_sorts.specs.declared.Kind.TheVariants.{Member}
use Rattle.mem_sorts.specs.declared.Sort.TheVariants.{Store}
use Rattle.mem_words.specs.Form.{bytes_of, NoBad}
use Rattle.store_words.specs.Boxes.{local_words}
use Rattle.store_form.specs.Sizes.{form_number, store_length}
use Rattle.store_form.specs.Form.{numbers_bytes}
use Rattle.store_form.proofs.Bytes.{length_numbers_bytes}
use Rattle.store_pieces.proofs.Numbers.{first_numbers}
use Rattle.store_pieces.proofs.Words as pieces
use Rattle.store_pieces.proofs.Laid.{around_good}
use Rattle.start_config.specs.Grown.{Grown, first_words}
use Rattle.start_variables.specs.Widened.{Widened}
use Rattle.start_fill.specs.Filled.{regions, Filled, Known}

pub record CanLay (L N R Q : List ℕ) (G : List Word) (m a v b : ℕ) : Type 0 where
  pub store : 245853 ≤ length L
  pub names : 3 * m ≤ length N
  pub rules : 3 * a ≤ length R
  pub together : m + a ≤ 53257
  pub variables : v ≤ length Q
  pub few_variables : v ≤ 16
  pub goal : b ≤ length G
  pub few_words : 10 + v + b ≤ 28672
  -- the statement's words are words
  pub good : NoBad (take b G)

-- the header: the form, the counts, the next fresh number
abbrev pub first_header : ℕ → ℕ → ℕ → List Word → List ℕ
first_header m a v W = form_number ∷ m ∷ a ∷ v ∷ length (first_words v W) ∷ v ∷ []

-- the bytes
unfoldable pub first_bytes : List ℕ → List ℕ → List ℕ → List Word → ℕ → ℕ → ℕ → List ℕ
first_bytes N R Q W m a v = regions m (numbers_bytes (first_header m a v W)) (take (3 * m) N) (take (3 * a) R) (numbers_bytes (take v Q)) (bytes_of (first_words v W))

pub record LaidOut (L N R Q : List ℕ) (W : List Word) (m a v : ℕ) (X : List ℕ) : Type 0 where
  pub list : X ≡ first_bytes N R Q W m a v ++ drop (store_length most_parts) L

first_good : (v : ℕ) (W : List Word) → NoBad W → NoBad (first_words v W)
unfolding first_words
first_good v W g = around_good (range 0 v) W g

-- the pieces written are the bytes
pub laid_out : (L H N R Q U C X : List ℕ) (G : List Word) (m a v b n : ℕ) (O : List Word) → CanLay L N R Q G m a v b
    → Widened Q v (triples U) → 3 * v ≤ length U
    → Grown O 0 (first_words v (take b G)) (words C) n → 3 * n ≤ length C
    → H ≡ numbers_bytes (form_number ∷ m ∷ a ∷ v ∷ n ∷ v ∷ [])
    → Filled m L (take 18 H) (take (3 * m) N) (take (3 * a) R) (take (3 * v) U) (take (3 * n) C) X
    → Known N R U C
    → LaidOut L N R Q (take b G) m a v X
unfolding first_bytes
laid_out L H N R Q U C X G m a v b n O can w lv g lc eh f k =
    let F = first_words v (take b G) in
    let e : n ≡ length F = g.end ∙ zero-add (length F) in
    let full : take n (words C) ≡ F = g.words in
    let hs : length H ≡ 18 = ap length eh ∙ length_numbers_bytes (form_number ∷ m ∷ a ∷ v ∷ n ∷ v ∷ []) in
    let hh : take 18 H ≡ numbers_bytes (first_header m a v (take b G)) = take_all 18 H (omega (arith, hs)) ∙ eh ∙ ap (λ (j : ℕ). numbers_bytes (form_number ∷ m ∷ a ∷ v ∷ j ∷ v ∷ [])) e in
    let hv : take (3 * v) U ≡ numbers_bytes (take v Q) = sym (first_numbers v U lv k.variables) ∙ ap numbers_bytes w.numbers in
    let hc : take (3 * n) C ≡ bytes_of F = sym (pieces.first_words n C lc k.words (subst NoBad (sym full) (first_good v (take b G) can.good))) ∙ ap bytes_of full in
    record {
      list =
          f.list
          ∙ ap (λ (x : List ℕ). x ++ drop (store_length most_parts) L)
          (ap₂ (λ (x y : List ℕ). regions m x (take (3 * m) N) (take (3 * a) R) y (take (3 * n) C)) hh hv ∙ ap (regions m (numbers_bytes (first_header m a v (take b G))) (take (3 * m) N) (take (3 * a) R) (numbers_bytes (take v Q))) hc);
    }

-- how many words the configuration has
length_locals : (from n : ℕ) (r : List Word) → length (local_words (range from n) r) ≡ n + length r
unfolding local_words range
length_locals from zero r = omega arith
length_locals from (suc n) r = let h = length_locals (suc from) n r in omega (arith, h)

pub length_first : (G : List Word) (b v : ℕ) → b ≤ length G → length (first_words v (take b G)) ≡ 10 + v + b
unfolding first_words
length_first G b v h =
    let W = take b G ++ (End ∷ End ∷ End ∷ []) in
    let e = length_locals 0 v (End ∷ Inner Store ∷ End ∷ Place Member ∷ W) in
    let f = length-append (take b G) (End ∷ End ∷ End ∷ []) in
    let k = length-take-le b G h in
    omega (arith, e, f, k)

pub few_grown : {O O' : List Word} {n : ℕ} (G : List Word) (b v : ℕ) → b ≤ length G → Grown O 0 (first_words v (take b G)) O' n → n ≡ 10 + v + b
few_grown G b v h g = omega (arith, g.end, length_first G b v h)
