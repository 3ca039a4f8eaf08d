-- Bytes that pass the checks hold the state of these checks.
use mathlib.Core.Path.{◌≡◌, refl, ap, ap₂, sym, ◌∙◌, subst}
use mathlib.Core.List.{List, [], ◌∷◌, ◌++◌, append_assoc, map}
use mathlib.Core.Option.{some}
use Prim.Native.Nat.{ℕ, suc, ◌+◌, ◌-◌, ◌*◌, ◌≤◌}
use native.Mathlib.Omega.{arith}
use lib.Dec.{T}
use lib.ListN.{length, get_or, take, drop, length-drop, take-append-drop}
use lib.Seq.{length-take-le, take_at, drop-drop}
use Rattle.akl.specs.Base.{all}
use Rattle.akl.specs.Syntax.{Program}
use Rattle.akl.specs.Configuration.{goal, Node}
use Rattle.akl.specs.WellFormed.{well_formed}
use Rattle.layout.specs.Layout.{program_words}
use Rattle.mem_numbers.specs.Numbers.{length_triples}
use Rattle.mem_words.specs.Words.{words, length_words}
use Rattle.mem_words.specs.Form.{Bytes, NoBad, AllSmall, bytes_of, words_bytes}
use Rattle.read_nodes.specs.Spell.{named}
use Rattle.store_words.specs.Boxes.{node_words}
use Rattle.store_form.specs.Sizes.{most_together, header_length, program_length, variables_length, config_length, program_start, variables_start, config_start, store_length}
use Rattle.store_form.specs.State.{State, table, node_count, number_in, well_formed_state}
use Rattle.store_form.specs.Form.{numbers_bytes, region, rules_words, config_words, header, store_bytes}
use Rattle.store_form.specs.Holding.{Fits, below, piece}
use Rattle.store_form.proofs.Spelt.{all_small}
use Rattle.store_form.proofs.Reading.{bytes_length}
use Rattle.check_zeros.specs.Zeros.{Zeros}
use Rattle.store_calls.specs.Outcomes.{held}
use Rattle.store_calls.proofs.Any.{held_iff}
use Rattle.check_held.specs.Checks.{numbers_in, nodes_in, rules_in, variables_in, words_in, next_in, names_at, rules_at, variables_at, words_at, state_with, Counts, Checks}
use Rattle.check_held.proofs.Good.{program_good, node_good}
use Rattle.check_held.proofs.Cut.{bytes_take, bytes_piece, triples_bytes, length_piece, region_at, region_append, region_end, words_small}

-- ---------------------------------------------------------------------------------------------
-- Where the regions lie.

pub record Places (limit : ℕ) : Type 0 where
  pub header : header_length ≡ 18
  pub program : (n : ℕ) → program_length n ≡ 3 * (most_together - n)
  pub variables : variables_length ≡ 48
  pub config : config_length limit ≡ 3 * (14 * limit)
  pub at_program : (n : ℕ) → program_start n ≡ header_length + 3 * n
  pub at_variables : variables_start ≡ header_length + 3 * most_together
  pub at_config : config_start ≡ variables_start + variables_length
  pub at_end : store_length limit ≡ config_start + config_length limit

pub places : (limit : ℕ) → Places limit
unfolding header_length program_length variables_length config_length program_start variables_start config_start store_length
places limit = record { header = refl; program = λ n. refl; variables = refl; config = refl; at_program = λ n. refl; at_variables = refl; at_config = refl; at_end = refl }

-- how much each piece holds
module _ (limit : ℕ) (b : List ℕ) (long : store_length limit ≤ length b) (C : Counts limit (numbers_in b)) where
  pub names_long : header_length + 3 * nodes_in b ≤ length b
  names_long = let p = places limit in omega (arith, p.at_variables, p.at_config, p.at_end, long, C.together)

  pub rules_long : program_start (nodes_in b) + 3 * rules_in b ≤ length b
  rules_long = let p = places limit in omega (arith, p.at_program (nodes_in b), p.at_variables, p.at_config, p.at_end, long, C.together)

  pub variables_long : variables_start + 3 * variables_in b ≤ length b
  variables_long = let p = places limit in omega (arith, p.variables, p.at_config, p.at_end, long, C.variables)

  pub words_long : config_start + 3 * words_in b ≤ length b
  words_long = let p = places limit in omega (arith, p.config, p.at_end, long, C.words)

  pub names_count : length (names_at b) ≡ nodes_in b
  unfolding names_at
  names_count = let l = length_piece header_length (nodes_in b) b names_long in let t = length_triples (piece header_length (nodes_in b) b) in omega arith

  pub variables_count : length (variables_at b) ≡ variables_in b
  unfolding variables_at
  variables_count = let l = length_piece variables_start (variables_in b) b variables_long in let t = length_triples (piece variables_start (variables_in b) b) in omega arith

  pub rules_count : length (rules_at b) ≡ rules_in b
  unfolding rules_at
  rules_count = let l = length_piece (program_start (nodes_in b)) (rules_in b) b rules_long in let t = length_words (piece (program_start (nodes_in b)) (rules_in b) b) in omega arith

  pub words_count : length (words_at b) ≡ words_in b
  unfolding words_at
  words_count = let l = length_piece config_start (words_in b) b words_long in let t = length_words (piece config_start (words_in b) b) in omega arith

  -- words that were read have values of two bytes, so that every name in them stands in the table
  pub rules_two_bytes : Bytes b → AllSmall (rules_at b)
  unfolding rules_at
  rules_two_bytes small = words_small (rules_in b) (piece (program_start (nodes_in b)) (rules_in b) b) (length_piece (program_start (nodes_in b)) (rules_in b) b rules_long) (bytes_piece (program_start (nodes_in b)) (rules_in b) b small)

  pub words_two_bytes : Bytes b → AllSmall (words_at b)
  unfolding words_at
  words_two_bytes small = words_small (words_in b) (piece config_start (words_in b) b) (length_piece config_start (words_in b) b words_long) (bytes_piece config_start (words_in b) b small)

-- a table that begins with the root
rooted : (N : List ℕ) → 1 ≤ length N → get_or N 0 0 ≡ 0 → 0 ∷ drop 1 N ≡ N
rooted [] h e = absurd (omega arith)
rooted (x ∷ N) h e = ap (λ (y : ℕ). y ∷ N) (sym e)

six : (h : List ℕ) → length h ≡ 6 → get_or h 0 0 ∷ get_or h 1 0 ∷ get_or h 2 0 ∷ get_or h 3 0 ∷ get_or h 4 0 ∷ get_or h 5 0 ∷ [] ≡ h
six [] e = absurd (omega (arith, e))
six (a ∷ []) e = absurd (omega (arith, e))
six (a ∷ (b ∷ [])) e = absurd (omega (arith, e))
six (a ∷ (b ∷ (c ∷ []))) e = absurd (omega (arith, e))
six (a ∷ (b ∷ (c ∷ (d ∷ [])))) e = absurd (omega (arith, e))
six (a ∷ (b ∷ (c ∷ (d ∷ (f ∷ []))))) e = absurd (omega (arith, e))
six (a ∷ (b ∷ (c ∷ (d ∷ (f ∷ (g ∷ [])))))) e = refl
six (a ∷ (b ∷ (c ∷ (d ∷ (f ∷ (g ∷ (x ∷ h))))))) e = absurd (omega (arith, e))

six_same : (a b c d e a' b' c' d' e' f : ℕ) → a ≡ a' → b ≡ b' → c ≡ c' → d ≡ d' → e ≡ e' → ◌≡◌ {A = List ℕ} (a ∷ b ∷ c ∷ d ∷ e ∷ f ∷ []) (a' ∷ b' ∷ c' ∷ d' ∷ e' ∷ f ∷ [])
six_same a b c d e a' b' c' d' e' f p q r s t =
    ap₂ (λ (x : ℕ) (l : List ℕ). x ∷ l) p
    (ap₂ (λ (x : ℕ) (l : List ℕ). x ∷ l) q
    (ap₂ (λ (x : ℕ) (l : List ℕ). x ∷ l) r
    (ap₂ (λ (x y : ℕ). x ∷ y ∷ f ∷ []) s t)))

-- ---------------------------------------------------------------------------------------------
-- The state's bytes are the first bytes.

module _ (limit : ℕ) (low : limit ≤ 65536) (b : List ℕ) (small : Bytes b) (P : Program) (n : Node goal) (K : Checks limit b P n) where
  abbrev s : State
  s = state_with b P n

  table_is : table s ≡ names_at b
  table_is = rooted (names_at b) (omega (arith, names_count limit b K.long K.counts, K.counts.root)) K.table.root

  rules_is : rules_words s ≡ rules_at b
  unfolding rules_words
  rules_is = ap (λ (N : List ℕ). program_words (number_in N) P) table_is ∙ sym K.rules

  config_is : config_words s ≡ words_at b
  unfolding config_words
  config_is = ap (λ (N : List ℕ). node_words (number_in N) n []) table_is ∙ sym K.words

  -- the bytes of each piece
  names_bytes : numbers_bytes (table s) ≡ piece header_length (nodes_in b) b
  unfolding names_at
  names_bytes = ap numbers_bytes table_is ∙ triples_bytes (nodes_in b) (piece header_length (nodes_in b) b) (length_piece header_length (nodes_in b) b (names_long limit b K.long K.counts)) (bytes_piece header_length (nodes_in b) b small)

  variables_bytes : numbers_bytes (variables_at b) ≡ piece variables_start (variables_in b) b
  unfolding variables_at
  variables_bytes = triples_bytes (variables_in b) (piece variables_start (variables_in b) b) (length_piece variables_start (variables_in b) b (variables_long limit b K.long K.counts)) (bytes_piece variables_start (variables_in b) b small)

  rules_bytes : bytes_of (rules_words s) ≡ piece (program_start (nodes_in b)) (rules_in b) b
  unfolding rules_at
  rules_bytes = ap bytes_of rules_is ∙ words_bytes (rules_in b) (piece (program_start (nodes_in b)) (rules_in b) b) (length_piece (program_start (nodes_in b)) (rules_in b) b (rules_long limit b K.long K.counts)) (bytes_piece (program_start (nodes_in b)) (rules_in b) b small) (subst NoBad (sym K.rules) (program_good (number_in (names_at b)) P))

  config_bytes : bytes_of (config_words s) ≡ piece config_start (words_in b) b
  unfolding words_at
  config_bytes = ap bytes_of config_is ∙ words_bytes (words_in b) (piece config_start (words_in b) b) (length_piece config_start (words_in b) b (words_long limit b K.long K.counts)) (bytes_piece config_start (words_in b) b small) (subst NoBad (sym K.words) (node_good (number_in (names_at b)) n [] tt))

  header_count : length (take header_length b) ≡ 3 * 6
  header_count = let p = places limit in length-take-le header_length b (omega (arith, names_long limit b K.long K.counts)) ∙ (omega (arith, p.header))

  numbers_count : length (numbers_in b) ≡ 6
  unfolding numbers_in
  numbers_count = let t = length_triples (take header_length b) in let l = header_count in omega arith

  nodes_are : node_count s ≡ nodes_in b
  nodes_are = omega (arith, length-drop 1 (names_at b), names_count limit b K.long K.counts, K.counts.root)

  header_is : header s ≡ numbers_in b
  unfolding header
  header_is =
      let m : suc (length (drop 1 (names_at b))) ≡ nodes_in b = nodes_are in
      six_same 2 (suc (length (drop 1 (names_at b)))) (length (rules_words s)) (length (variables_at b)) (length (config_words s)) (get_or (numbers_in b) 0 0) (nodes_in b) (rules_in b) (variables_in b) (words_in b) (next_in b)
      (sym K.counts.form) m (ap length rules_is ∙ rules_count limit b K.long K.counts) (variables_count limit b K.long K.counts) (ap length config_is ∙ words_count limit b K.long K.counts)
      ∙ six (numbers_in b) numbers_count

  header_bytes : numbers_bytes (header s) ≡ take header_length b
  unfolding numbers_in
  header_bytes = ap numbers_bytes header_is ∙ triples_bytes 6 (take header_length b) header_count (bytes_take header_length b small)

  -- region by region, from the last on
  abbrev rest : List ℕ
  rest = drop (store_length limit) b

  abbrev r4 : List ℕ
  r4 = region (config_length limit) (bytes_of (config_words s)) []

  abbrev r3 : List ℕ
  r3 = region variables_length (numbers_bytes (variables_at b)) r4

  abbrev r2 : List ℕ
  r2 = region (program_length (node_count s)) (bytes_of (rules_words s)) r3

  abbrev r1 : List ℕ
  r1 = numbers_bytes (table s) ++ r2

  at_config : drop config_start b ≡ r4 ++ rest
  unfolding store_length
  at_config =
      let p = places limit in
      region_at config_start (words_in b) (config_length limit) b (omega (arith, p.config, K.counts.words)) K.long K.unused.words
      ∙ ap (λ (l : List ℕ). region (config_length limit) l rest) (sym config_bytes)
      ∙ region_end (config_length limit) (bytes_of (config_words s)) rest

  at_variables : drop variables_start b ≡ r3 ++ rest
  unfolding config_start
  at_variables =
      let p = places limit in
      region_at variables_start (variables_in b) variables_length b (omega (arith, p.variables, K.counts.variables)) (omega (arith, p.at_end, K.long)) K.unused.variables
      ∙ ap₂ (λ (l r : List ℕ). region variables_length l r) (sym variables_bytes) at_config
      ∙ region_append variables_length (numbers_bytes (variables_at b)) r4 rest

  -- where the region of names and program ends
  shared : program_start (nodes_in b) + program_length (nodes_in b) ≡ variables_start
  shared = let p = places limit in omega (arith, p.program (nodes_in b), p.at_program (nodes_in b), p.at_variables, K.counts.together)

  at_program : drop (program_start (nodes_in b)) b ≡ r2 ++ rest
  at_program =
      let p = places limit in
      let o = program_start (nodes_in b) in
      let n = program_length (nodes_in b) in
      region_at o (rules_in b) n b (omega (arith, p.program (nodes_in b), K.counts.together)) (omega (arith, shared, p.at_config, p.at_end, K.long)) (subst (Zeros b (o + 3 * rules_in b)) (sym shared) K.unused.rules)
      ∙ ap₂ (λ (l r : List ℕ). region n l r) (sym rules_bytes) (ap (λ (j : ℕ). drop j b) shared ∙ at_variables)
      ∙ ap (λ (k : ℕ). region (program_length k) (bytes_of (rules_words s)) (r3 ++ rest)) (sym nodes_are)
      ∙ region_append (program_length (node_count s)) (bytes_of (rules_words s)) r3 rest

  at_names : drop header_length b ≡ r1 ++ rest
  unfolding piece program_start
  at_names =
      sym (take-append-drop (3 * nodes_in b) (drop header_length b))
      ∙ ap₂ (λ (l r : List ℕ). l ++ r) (sym names_bytes) (drop-drop (3 * nodes_in b) header_length b ∙ at_program)
      ∙ sym (append_assoc (numbers_bytes (table s)) r2 rest)

  whole : b ≡ store_bytes limit s ++ rest
  unfolding store_bytes
  whole =
      sym (take-append-drop header_length b)
      ∙ ap₂ (λ (l r : List ℕ). l ++ r) (sym header_bytes) at_names
      ∙ sym (append_assoc (numbers_bytes (header s)) r1 rest)

  fits : Fits limit s
  unfolding rules_at words_at
  fits = record {
    nodes = omega (arith, nodes_are, K.counts.nodes);
    lower = K.table.lower;
    apart = K.table.apart;
    rules = omega (arith, ap length rules_is, rules_count limit b K.long K.counts, K.counts.rules);
    together = omega (arith, nodes_are, ap length rules_is, rules_count limit b K.long K.counts, K.counts.together);
    rules_small = all_small (rules_words s) (subst AllSmall (sym rules_is) (rules_two_bytes limit b K.long K.counts small));
    variables = omega (arith, variables_count limit b K.long K.counts, K.counts.variables);
    known = subst (λ (m : ℕ). T (all (below m) (variables_at b))) (sym nodes_are) K.table.known;
    words = omega (arith, ap length config_is, words_count limit b K.long K.counts, K.counts.words);
    words_small = all_small (config_words s) (subst AllSmall (sym config_is) (words_two_bytes limit b K.long K.counts small));
    next = K.counts.next;
  }

  first : take (store_length limit) b ≡ store_bytes limit s
  first = ap (take (store_length limit)) whole ∙ take_at (store_bytes limit s) rest (store_length limit) (bytes_length limit low s fits)

  formed : T (well_formed_state limit s)
  formed = subst (λ (N : List ℕ). T (well_formed limit P (map (named N) (variables_at b)) s.config)) (sym table_is) K.formed

  -- Bytes that pass the checks hold the state.
  pub checks_held : held limit b ≡ some s
  checks_held = (held_iff limit low b s).1 (record { is = first; fits = fits }, formed)
