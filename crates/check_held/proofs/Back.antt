-- Bytes that hold a well-formed state pass the checks.
use mathlib.Core.Path.{◌≡◌, ap, ap₂, sym, ◌∙◌, subst}
use mathlib.Core.List.{List, [], ◌∷◌, map}
use mathlib.Core.Option.{some}
use Prim.Native.Nat.{ℕ, zero, suc, ◌+◌, ◌-◌, ◌*◌, ◌≤◌}
use native.Mathlib.Omega.{arith}
use lib.Dec.{T}
use lib.ListN.{length, get_or, take, drop}
use lib.Seq.{take-take, get_or-take, get_or-drop, take-nil}
use Rattle.constraint.specs.Solve.{distinct}
use Rattle.akl.specs.Base.{all}
use Rattle.akl.specs.WellFormed.{well_formed}
use Rattle.layout.specs.Layout.{program_words}
use Rattle.mem_numbers.specs.Numbers.{triples}
use Rattle.mem_words.specs.Words.{words}
use Rattle.mem_words.specs.Form.{bytes_of, length_bytes_of}
use Rattle.read_nodes.specs.Spell.{named}
use Rattle.store_words.specs.Boxes.{node_words}
use Rattle.store_form.specs.Sizes.{form_number, header_length, program_length, variables_length, config_length, program_start, variables_start, config_start, store_length}
use Rattle.store_form.specs.State.{State, table, node_count, number_in, well_formed_state}
use Rattle.store_form.specs.Form.{numbers_bytes, region, rules_words, config_words, header, store_bytes}
use Rattle.store_form.specs.Holding.{lowered, below, Fits, Holds, piece}
use Rattle.store_form.proofs.Bytes.{length_numbers_bytes}
use Rattle.store_form.proofs.Reading as reading
use Rattle.store_calls.specs.Outcomes.{held}
use Rattle.store_calls.proofs.Any.{held_iff}
use Rattle.check_zeros.specs.Zeros.{Zeros}
use Rattle.check_held.specs.Checks.{numbers_in, nodes_in, rules_in, variables_in, words_in, next_in, names_at, rules_at, variables_at, words_at, config_with, state_with, Checks}
use Rattle.check_held.proofs.Cut.{region_zero}
use Rattle.check_held.proofs.Held.{places}

-- a piece of the first bytes is a piece of all
drop_take : (m k : ℕ) (l : List ℕ) → drop m (take (m + k) l) ≡ take k (drop m l)
drop_take zero k l = let z : 0 + k ≡ k = omega arith in ap (λ (q : ℕ). take q l) z
drop_take (suc m) k [] = let z : suc m + k ≡ suc (m + k) = omega arith in ap (λ (q : ℕ). drop (suc m) (take q [])) z ∙ sym (take-nil k)
drop_take (suc m) k (x ∷ l) = let z : suc m + k ≡ suc (m + k) = omega arith in ap (λ (q : ℕ). drop (suc m) (take q (x ∷ l))) z ∙ drop_take m k l

piece_take : (S o k : ℕ) (b : List ℕ) → o + 3 * k ≤ S → piece o k (take S b) ≡ piece o k b
unfolding piece
piece_take S o k b h =
    let e : S ≡ o + (S - o) = omega arith in
    ap (λ (m : ℕ). take (3 * k) (drop o (take m b))) e
    ∙ ap (take (3 * k)) (drop_take o (S - o) b)
    ∙ take-take (3 * k) (S - o) (drop o b) (omega arith)

take_short : (n : ℕ) (l : List ℕ) → length (take n l) ≤ length l
take_short zero l = omega arith
take_short (suc n) [] = omega arith
take_short (suc n) (x ∷ l) = omega (arith, take_short n l)

module _ (limit : ℕ) (low : limit ≤ 65536) (b : List ℕ) (s : State) (H : Holds limit (take (store_length limit) b) s) where
  abbrev F : Fits limit s
  F = H.fits

  abbrev x : List ℕ
  x = store_bytes limit s

  whole : store_length limit ≤ length b
  whole = let a = take_short (store_length limit) b in let e = ap length H.is in let l = reading.bytes_length limit low s F in omega arith

  numbers_is : numbers_in b ≡ header s
  unfolding numbers_in
  numbers_is =
      let p = places limit in
      ap triples (sym (take-take header_length (store_length limit) b (omega (arith, p.at_variables, p.at_config, p.at_end))))
      ∙ ap (λ (l : List ℕ). triples (take header_length l)) H.is
      ∙ reading.header_read limit low s F

  form_is : get_or (numbers_in b) 0 0 ≡ form_number
  unfolding header
  form_is = ap (λ (h : List ℕ). get_or h 0 0) numbers_is

  nodes_is : nodes_in b ≡ node_count s
  unfolding header
  nodes_is = ap (λ (h : List ℕ). get_or h 1 0) numbers_is

  rules_in_is : rules_in b ≡ length (rules_words s)
  unfolding header
  rules_in_is = ap (λ (h : List ℕ). get_or h 2 0) numbers_is

  variables_in_is : variables_in b ≡ length s.variables
  unfolding header
  variables_in_is = ap (λ (h : List ℕ). get_or h 3 0) numbers_is

  words_in_is : words_in b ≡ length (config_words s)
  unfolding header
  words_in_is = ap (λ (h : List ℕ). get_or h 4 0) numbers_is

  next_is : next_in b ≡ s.config.next
  unfolding header
  next_is = ap (λ (h : List ℕ). get_or h 5 0) numbers_is

  piece_is : (o k : ℕ) → o + 3 * k ≤ store_length limit → piece o k b ≡ piece o k x
  piece_is o k h = sym (piece_take (store_length limit) o k b h) ∙ ap (piece o k) H.is

  names_is : names_at b ≡ table s
  unfolding names_at
  names_is =
      let p = places limit in
      ap (λ (m : ℕ). triples (piece header_length m b)) nodes_is
      ∙ ap triples (piece_is header_length (node_count s) (omega (arith, F.together, p.at_variables, p.at_config, p.at_end)))
      ∙ reading.names_read limit low s F

  rules_is : rules_at b ≡ rules_words s
  unfolding rules_at
  rules_is =
      let p = places limit in
      ap₂ (λ (k m : ℕ). words (piece (program_start k) m b)) nodes_is rules_in_is
      ∙ ap words (piece_is (program_start (node_count s)) (length (rules_words s)) (omega (arith, F.together, p.at_program (node_count s), p.at_variables, p.at_config, p.at_end)))
      ∙ reading.rules_read limit low s F

  variables_is : variables_at b ≡ s.variables
  unfolding variables_at
  variables_is =
      let p = places limit in
      ap (λ (m : ℕ). triples (piece variables_start m b)) variables_in_is
      ∙ ap triples (piece_is variables_start (length s.variables) (omega (arith, F.variables, p.variables, p.at_config, p.at_end)))
      ∙ reading.variables_read limit low s F

  words_is : words_at b ≡ config_words s
  unfolding words_at
  words_is =
      let p = places limit in
      ap (λ (m : ℕ). words (piece config_start m b)) words_in_is
      ∙ ap words (piece_is config_start (length (config_words s)) (omega (arith, F.words, p.config, p.at_end)))
      ∙ reading.config_read limit low s F

  -- behind what is used of a region there are zeros
  unused : (o n k : ℕ) (l r : List ℕ) → drop o x ≡ region n l r → o + n ≤ store_length limit → length l ≡ 3 * k → Zeros b (o + 3 * k) (o + n)
  unused o n k l r e g f i h j =
      let q : i ≡ o + (i - o) = omega arith in
      sym (get_or-take (store_length limit) b i 0 (omega arith))
      ∙ ap (λ (y : List ℕ). get_or y i 0) H.is
      ∙ ap (λ (m : ℕ). get_or x m 0) q
      ∙ sym (get_or-drop o x (i - o) 0)
      ∙ ap (λ (y : List ℕ). get_or y (i - o) 0) e
      ∙ region_zero n l r (i - o) (omega arith) (omega arith)

  unused_rules : Zeros b (program_start (nodes_in b) + 3 * rules_in b) variables_start
  unused_rules =
      let p = places limit in
      let o = program_start (node_count s) in
      let n = program_length (node_count s) in
      let e = reading.shared limit low s F in
      subst (λ (k : ℕ). Zeros b (program_start k + 3 * rules_in b) variables_start) (sym nodes_is)
      (subst (Zeros b (o + 3 * rules_in b)) e
      (unused o n (rules_in b) (bytes_of (rules_words s)) (reading.r3 limit low s F) (reading.at_program limit low s F) (omega (arith, e, p.at_config, p.at_end)) (omega (arith, length_bytes_of (rules_words s), rules_in_is))))

  unused_variables : Zeros b (variables_start + 3 * variables_in b) config_start
  unfolding config_start
  unused_variables =
      let p = places limit in
      unused variables_start variables_length (variables_in b) (numbers_bytes s.variables) (reading.r4 limit low s F) (reading.at_variables limit low s F) (omega (arith, p.at_end)) (omega (arith, length_numbers_bytes s.variables, variables_in_is))

  unused_words : Zeros b (config_start + 3 * words_in b) (store_length limit)
  unfolding store_length
  unused_words = unused config_start (config_length limit) (words_in b) (bytes_of (config_words s)) [] (reading.at_config limit low s F) (omega arith) (omega (arith, length_bytes_of (config_words s), words_in_is))

  -- the state is the one of the checks
  pub state_is : s ≡ state_with b s.program s.config.root
  state_is = λ i. record { cells = drop 1 (sym names_is i); program = s.program; variables = sym variables_is i; config = record { root = s.config.root; next = sym next_is i } }

  passes : T (well_formed_state limit s) → Checks limit b s.program s.config.root
  unfolding rules_words config_words
  passes t = record {
    long = whole;
    counts = record {
      form = form_is;
      root = omega (arith, nodes_is);
      nodes = omega (arith, nodes_is, F.nodes);
      rules = omega (arith, rules_in_is, F.rules);
      together = omega (arith, nodes_is, rules_in_is, F.together);
      variables = omega (arith, variables_in_is, F.variables);
      words = omega (arith, words_in_is, F.words);
      next = omega (arith, next_is, F.next);
    };
    unused = record { rules = unused_rules; variables = unused_variables; words = unused_words };
    table = record {
      root = ap (λ (N : List ℕ). get_or N 0 0) names_is;
      lower = subst (λ (N : List ℕ). T (lowered 1 (drop 1 N))) (sym names_is) F.lower;
      apart = subst (λ (N : List ℕ). T (distinct (drop 1 N))) (sym names_is) F.apart;
      known = subst (λ (v : List ℕ). T (all (below (nodes_in b)) v)) (sym variables_is) (subst (λ (m : ℕ). T (all (below m) s.variables)) (sym nodes_is) F.known);
    };
    rules = rules_is ∙ ap (λ (N : List ℕ). program_words (number_in N) s.program) (sym names_is);
    words = words_is ∙ ap (λ (N : List ℕ). node_words (number_in N) s.config.root []) (sym names_is);
    formed =
        subst (λ (N : List ℕ). T (well_formed limit s.program (map (named N) (variables_at b)) (config_with b s.config.root))) (sym names_is)
        (subst (λ (v : List ℕ). T (well_formed limit s.program (map (named (table s)) v) (config_with b s.config.root))) (sym variables_is)
        (subst (λ (k : ℕ). T (well_formed limit s.program (map (named (table s)) s.variables) (record { root = s.config.root; next = k }))) (sym next_is) t));
  }

-- Bytes that hold a well-formed state pass the checks, for its program and its configuration; and they hold no other.
pub held_checks : (limit : ℕ) → limit ≤ 65536 → (b : List ℕ) (s : State) → held limit b ≡ some s → Checks limit b s.program s.config.root × (s ≡ state_with b s.program s.config.root)
held_checks limit low b s e =
    let h = (held_iff limit low b s).0 e in
    (passes limit low b s h.0 h.1, state_is limit low b s h.0)
