-- What stands in the bytes of a state, with others behind: the header's counts are those of the state, and where they say stand the
-- words of its program and of its configuration. Assumes nothing.
use mathlib.Core.Path.{◌≡◌, ap, ap₂, sym, ◌∙◌}
use mathlib.Core.List.{List, ◌++◌}
use mathlib.Core.Option.{some}
use Prim.Native.Nat.{ℕ, ◌+◌, ◌-◌, ◌*◌, ◌≤◌}
use native.Mathlib.Omega.{arith}
use lib.ListN.{length, get_or, take, drop, length-append, length-drop, take-append-drop}
use lib.Seq.{take-append-le, drop-append-le}
use Rattle.mem_numbers.specs.Numbers.{triples}
use Rattle.mem_words.specs.Words.{words}
use Rattle.mem_parts.specs.Parts.{cut}
use Rattle.store_form.specs.Sizes.{most_together, header_length, config_length, program_start, store_length}
use Rattle.store_form.specs.State.{State, node_count}
use Rattle.store_form.specs.Form.{rules_words, config_words, header, store_bytes}
use Rattle.store_form.specs.Holding.{Fits, piece}
use Rattle.store_form.proofs.Lengths.{starts}
use Rattle.store_form.proofs.Reading as reading
use Rattle.store_calls.specs.Outcomes.{held}
use Rattle.store_calls.proofs.Any.{held_iff}
use Rattle.check_held.specs.Checks.{numbers_in, nodes_in, rules_in, words_in, next_in}

-- a piece, as it is lent
cut_piece : (o k : ℕ) (l : List ℕ) → cut o (o + 3 * k) l ≡ piece o k l
unfolding cut piece
cut_piece o k l = let e : o + 3 * k - o ≡ 3 * k = omega arith in ap (λ (n : ℕ). take n (drop o l)) e

-- a piece of the first bytes
piece_front : (o k : ℕ) (x r : List ℕ) → o + 3 * k ≤ length x → piece o k (x ++ r) ≡ piece o k x
unfolding piece
piece_front o k x r h = ap (take (3 * k)) (drop-append-le o x r (omega arith)) ∙ take-append-le (3 * k) (drop o x) r (omega (arith, length-drop o x))

few_rules : most_together ≤ 53257
unfolding most_together
few_rules = omega arith

-- where the configuration's region ends
pub config_end : (limit : ℕ) → store_length limit ≡ 159837 + 42 * limit
unfolding store_length config_length
config_end limit = omega (arith, starts.2)

module _ (limit : ℕ) (low : limit ≤ 65536) (s : State) (F : Fits limit s) (rest b : List ℕ) (is : b ≡ store_bytes limit s ++ rest) where
  abbrev x : List ℕ
  x = store_bytes limit s

  long : length x ≡ 159837 + 42 * limit
  long = reading.bytes_length limit low s F ∙ config_end limit

  pub numbers_are : numbers_in b ≡ header s
  unfolding numbers_in
  numbers_are =
      ap (λ (l : List ℕ). triples (take header_length l)) is
      ∙ ap triples (take-append-le header_length x rest (omega (arith, long, starts.0)))
      ∙ reading.header_read limit low s F

  -- the counts
  pub nodes_counted : nodes_in b ≡ node_count s
  unfolding header
  nodes_counted = ap (λ (h : List ℕ). get_or h 1 0) numbers_are

  pub program_counted : rules_in b ≡ length (rules_words s)
  unfolding header
  program_counted = ap (λ (h : List ℕ). get_or h 2 0) numbers_are

  pub config_counted : words_in b ≡ length (config_words s)
  unfolding header
  config_counted = ap (λ (h : List ℕ). get_or h 4 0) numbers_are

  pub next_told : next_in b ≡ s.config.next
  unfolding header
  next_told = ap (λ (h : List ℕ). get_or h 5 0) numbers_are

  -- what they count lies in its region
  pub program_within : 18 + 3 * nodes_in b + 3 * rules_in b ≤ 159789
  program_within = omega (arith, nodes_counted, program_counted, F.together, few_rules)

  pub config_within : 159837 + 3 * words_in b ≤ store_length limit
  config_within = omega (arith, config_counted, F.words, config_end limit)

  pub store_within : store_length limit ≤ length b
  store_within = omega (arith, ap length is, length-append x rest, long, config_end limit)

  -- the words
  there : (o k : ℕ) → o + 3 * k ≤ length x → cut o (o + 3 * k) b ≡ piece o k x
  there o k h = cut_piece o k b ∙ ap (piece o k) is ∙ piece_front o k x rest h

  begins : 18 + 3 * nodes_in b ≡ program_start (node_count s)
  unfolding program_start
  begins = omega (arith, nodes_counted, starts.0)

  pub program_there : words (cut (18 + 3 * nodes_in b) (18 + 3 * nodes_in b + 3 * rules_in b) b) ≡ rules_words s
  program_there =
      ap words (there (18 + 3 * nodes_in b) (rules_in b) (omega (arith, program_within, long)))
      ∙ ap₂ (λ (o k : ℕ). words (piece o k x)) begins program_counted
      ∙ reading.rules_read limit low s F

  pub config_there : words (cut 159837 (159837 + 3 * words_in b) b) ≡ config_words s
  config_there =
      ap words (there 159837 (words_in b) (omega (arith, config_within, long, config_end limit)))
      ∙ ap₂ (λ (o k : ℕ). words (piece o k x)) (sym starts.2) config_counted
      ∙ reading.config_read limit low s F

-- bytes that hold a state begin with its bytes
pub held_begins : (limit : ℕ) → limit ≤ 65536 → (b : List ℕ) (s : State) → held limit b ≡ some s → (b ≡ store_bytes limit s ++ drop (store_length limit) b) × Fits limit s
held_begins limit low b s e =
    let h = ((held_iff limit low b s).0 e).0 in
    (sym (take-append-drop (store_length limit) b) ∙ ap (λ (l : List ℕ). l ++ drop (store_length limit) b) h.is, h.fits)
