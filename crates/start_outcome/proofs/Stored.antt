-- What the reader of texts leaves of two texts that it does not refuse, as bytes c of the table of names, with a root of 0, r of the
-- program's words and g of the statement's, makes up the bytes of the state at the start. Assumes nothing.
use mathlib.Core.Path.{◌≡◌, refl, sym, ap, ap₂, ◌∙◌, subst}
use mathlib.Core.List.{List, [], ◌∷◌, ◌++◌}
use Prim.Native.Nat.{ℕ, zero, suc, ◌+◌, ◌*◌, ◌/◌, ◌≤◌, ◌<◌}
use native.Mathlib.Omega.{arith}
use native.Mathlib.Nat.{zero-add}
use lib.Dec.{T}
use lib.ListN.{length, take, drop, get_or, set, length-map}
use lib.Seq.{length-take-le}
use Rattle.akl.specs.Base.{Name, size, range, ok}
use Rattle.akl.specs.Limits.{most_parts, program_bytes, last_number}
use Rattle.akl.specs.Syntax.{Program}
use Rattle.akl.specs.Reader.{Query}
use Rattle.akl.specs.Configuration.{Config, start_config, or, and, one, stmt}
use Rattle.akl.specs.Parts.{parts, parts_all, statement_parts}
use Rattle.akl.specs.Record.{start}
use Rattle.accept.proofs.Accepted.{limits_iff}
use Rattle.texts.proofs.Reading.{read_query_fits}
use Rattle.mem_numbers.specs.Numbers.{triples, length_triples}
use Rattle.mem_numbers.specs.Stored.{Stored}
use Rattle.mem_words.specs.declared.Word.{Word}
use Rattle.mem_words.specs.declared.Word.TheVariants.{End, Place, Inner}
use Rattle.mem_sorts.specs.declared.Kind.TheVariants.{Or, And, Member}
use Rattle.mem_sorts.specs.declared.Sort.TheVariants.{Locals, Store}
use Rattle.mem_words.specs.Words.{words, length_words}
use Rattle.mem_words.specs.Form.{bytes_of, NoBad}
use Rattle.layout.specs.Layout.{stmt_words}
use Rattle.read_inputs.specs.Inputs.{Loaded}
use Rattle.read_nodes.specs.Spell.{named}
use Rattle.store_words.specs.Boxes.{local_words}
use Rattle.store_words.proofs.Sizes.{size_length}
use Rattle.store_form.specs.Sizes.{form_number, most_nodes, most_together, program_length, variables_length, config_length, store_length}
use Rattle.store_form.specs.State.{State, table, node_count, number_in}
use Rattle.store_form.specs.Form.{numbers_bytes, region, rules_words, config_words, header, store_bytes}
use Rattle.store_form.specs.Holding.{Fits}
use Rattle.store_start.specs.Start.{Left, start_state, start_words}
use Rattle.store_start.proofs.Tables.{cells_count}
use Rattle.store_start.proofs.Starting.{few_names, finds, start_rules, start_goals, start_fits, rules_together}
use Rattle.store_loaded.proofs.Loaded.{loaded_left}
use Rattle.store_parts.specs.declared.Among.TheVariants.{Others}
use Rattle.store_parts.specs.Counting.{parts_in}
use Rattle.store_parts.proofs.Trees.{stmt_parts}
use Rattle.store_pieces.proofs.Numbers.{ByteList, all_bytes, first_numbers}
use Rattle.store_pieces.proofs.Words as pieces
use Rattle.store_pieces.proofs.Laid.{stmt_good, program_good}
use Rattle.store_calls.specs.Outcomes.{put_state}
use Rattle.start_config.specs.Grown.{first_words}
use Rattle.start_fill.specs.Filled.{regions}
use Rattle.start_lay.specs.Laid.{first_header, first_bytes, LaidOut, length_first}
use Rattle.start_settle.specs.Settled.{first_parts, CanSettle}

-- the table with its root made 0
rooted : (N C : List ℕ) (m : ℕ) → 1 ≤ m → m ≤ length N → Stored N 0 0 C → take m C ≡ 0 ∷ drop 1 (take m N)
rooted N C zero h g s = absurd (omega arith)
rooted [] C (suc m) h g s = absurd (omega arith)
rooted (x ∷ N) C (suc m) h g s = ap (take (suc m)) s.list

size_range : (from n : ℕ) → size (range from n) ≡ n
unfolding size range
size_range from zero = refl
size_range from (suc n) = ap suc (size_range (suc from) n)

module _ (text query N D c r Q g : List ℕ) (d a v b m : ℕ) (read : Loaded text query N D (words r) Q (words g) d a v b m) (names : length N ≤ most_nodes) (root : Stored N 0 0 (triples c)) (cs : ByteList c) (rs : ByteList r) (gs : ByteList g) where
  abbrev P : Program
  P = read.program

  abbrev q : Query
  q = read.goal

  abbrev W : List Word
  W = take b (words g)

  -- the state
  abbrev pub started : State
  started = start_state N m P Q v q

  abbrev num : Name → ℕ
  num = number_in (table started)

  pub left : Left text query N (words r) Q (words g) a v b m P q
  left = loaded_left text query N D r Q g d a v b m read names (all_bytes r rs) (all_bytes g gs)

  count : suc (length (drop 1 (take m N))) ≡ m
  count = cells_count N m left.root left.nodes left.parents left.apart

  pub variables_many : size q.variables ≡ v
  variables_many =
      let h = read.room.2 in
      size_length q.variables ∙ ap length (sym left.variables) ∙ length-map (take v Q) (named N) ∙ length-take-le v Q h

  pub goal_is : W ≡ stmt_words num q.statement []
  goal_is = left.goal_words num (finds text query N (words r) Q (words g) a v b m P q left)

  rules_is : rules_words started ≡ take a (words r)
  rules_is = start_rules text query N (words r) Q (words g) a v b m P q left

  words_is : config_words started ≡ first_words v W
  unfolding first_words start_words
  words_is =
      start_goals text query N (words r) Q (words g) a v b m P q left
      ∙ ap (λ (n : ℕ). Place Or ∷ Place And ∷ Inner Locals ∷ local_words (range 0 n) (End ∷ Inner Store ∷ End ∷ Place Member ∷ (W ++ (End ∷ End ∷ End ∷ [])))) variables_many

  long_names : 3 * m ≤ length c
  long_names = let h = read.room.4 in omega (arith, h, root.long, length_triples c)

  long_rules : 3 * a ≤ length r
  long_rules = let h = read.room.1 in omega (arith, h, length_words r)

  names_bytes : take (3 * m) c ≡ numbers_bytes (table started)
  names_bytes = sym (first_numbers m c long_names cs) ∙ ap numbers_bytes (rooted N (triples c) m read.root read.room.4 root)

  rules_good : NoBad (rules_words started)
  unfolding rules_words
  rules_good = program_good num P

  rules_bytes : take (3 * a) r ≡ bytes_of (rules_words started)
  rules_bytes = sym (pieces.first_words a r long_rules rs (subst NoBad rules_is rules_good)) ∙ ap bytes_of (sym rules_is)

  pub goal_good : NoBad W
  goal_good = subst NoBad (sym goal_is) (stmt_good q.statement num [] tt)

  header_is : numbers_bytes (first_header m a v W) ≡ numbers_bytes (header started)
  unfolding header start_config
  header_is =
      let h = read.room.1 in
      let k = read.room.2 in
      let ea : a ≡ length (rules_words started) = sym (ap length rules_is ∙ length-take-le a (words r) h) in
      let ev : v ≡ length (take v Q) = sym (length-take-le v Q k) in
      let ew : length (first_words v W) ≡ length (config_words started) = ap length (sym words_is) in
      ap numbers_bytes
      (ap₂ (λ (x y : ℕ). form_number ∷ x ∷ y ∷ v ∷ length (first_words v W) ∷ v ∷ []) (sym count) ea
      ∙ ap₂ (λ (x y : ℕ). form_number ∷ suc (length (drop 1 (take m N))) ∷ length (rules_words started) ∷ x ∷ y ∷ v ∷ []) ev ew
      ∙ ap (λ (x : ℕ). form_number ∷ suc (length (drop 1 (take m N))) ∷ length (rules_words started) ∷ length (take v Q) ∷ length (config_words started) ∷ x ∷ []) (sym variables_many))

  -- The bytes written are those of the state.
  pub bytes_are : first_bytes c r Q W m a v ≡ store_bytes most_parts started
  unfolding first_bytes regions store_bytes
  bytes_are =
      ap₂ (λ (x y : List ℕ). x ++ y) header_is
      (ap₂ (λ (x y : List ℕ). x ++ y) names_bytes
      (ap (λ (k : ℕ). region (program_length k) (take (3 * a) r) (region variables_length (numbers_bytes (take v Q)) (region (config_length most_parts) (bytes_of (first_words v W)) []))) (sym count)
      ∙ ap₂ (λ (x y : List ℕ). region (program_length (node_count started)) x y) rules_bytes
      (ap (λ (x : List Word). region variables_length (numbers_bytes (take v Q)) (region (config_length most_parts) (bytes_of x) [])) (sym words_is))))

  pub store_put : (L X : List ℕ) → LaidOut L c r Q W m a v X → X ≡ put_state most_parts L started
  unfolding put_state
  store_put L X l = l.list ∙ ap (λ (x : List ℕ). x ++ drop (store_length most_parts) L) bytes_are

  -- -------------------------------------------------------------------------------------------
  -- Parts.

  pub few_variables : v ≤ 16
  few_variables = omega (arith, few_names q.variables (read_query_fits P query q read.reads_query).names, variables_many)

  pub parts_are : parts (start_config q).root ≡ first_parts v W
  unfolding first_parts start_config parts parts_all parts_in size
  parts_are =
      let e = stmt_parts q.statement num [] in
      let f : parts_in Others W ≡ parts_in Others (stmt_words num q.statement []) = ap (parts_in Others) goal_is in
      omega (arith, e, f, size_range 0 (size q.variables), variables_many, none)
    where
      none : parts_in Others [] ≡ 0
      none = refl

  pub start_fitting : first_parts v W ≤ most_parts → start most_parts q ≡ ok (start_config q)
  unfolding start start_config
  start_fitting h = (limits_iff most_parts (start_config q) (start_config q)).1 (refl, omega (arith, few_variables, variables_many), omega (arith, parts_are, h))

  fits_words : first_parts v W ≤ most_parts → 10 + v + b ≤ 28672
  fits_words h =
      let f = start_fits text query N (words r) Q (words g) a v b m P q left most_parts (start_config q) (start_fitting h) in
      let k = read.room.3 in
      omega (arith, f.words, ap length words_is, length_first (words g) b v k)

  -- What is left to do may be done.
  pub can_settle : length (words g) ≤ 65536 → CanSettle c r Q (words g) m a v b
  unfolding most_together
  can_settle short =
      let F = rules_together text query N (words r) Q (words g) a v b m P q left in
      let h = read.room.1 in
      let e : length (rules_words started) ≡ a = ap length rules_is ∙ length-take-le a (words r) h in
      record {
        names = long_names;
        rules = long_rules;
        together = omega (arith, F, count, e);
        variables = read.room.2;
        few_variables = few_variables;
        goal = read.room.3;
        short = short;
        good = goal_good;
        fits = fits_words;
      }
