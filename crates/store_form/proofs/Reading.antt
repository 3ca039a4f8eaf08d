-- Bytes hold a state exactly when that state is read from them; and a state's bytes are of the documented length.
use mathlib.Core.Path.{◌≡◌, refl, ap, sym, ◌∙◌, subst}
use mathlib.Core.Logic.{◌↔◌}
use mathlib.Core.List.{List, [], ◌∷◌, ◌++◌}
use mathlib.Core.Bool.{Bool, true, false, ◌&&◌}
use mathlib.Core.Option.{Option, some, none, some-injective}
use Prim.Native.Nat.{ℕ, suc, ◌+◌, ◌*◌, ◌<◌, ◌≤◌}
use native.Mathlib.Omega.{arith}
use lib.Dec.{T, leb, ltb, leb→le, le→leb, ltb→lt, lt→ltb}
use lib.ListN.{length, get_or, take, drop, length-append}
use lib.Seq.{take_at, drop_at, drop-drop}
use Rattle.constraint.specs.Solve.{distinct}
use Rattle.constraint.proofs.Lists.{and_T}
use Rattle.akl.specs.Base.{Name, all, same, when, ◌>>=◌}
use Rattle.akl.specs.Limits.{most_query_variables}
use Rattle.akl.proofs.Names.{same_eq_T, same_refl_T}
use Rattle.akl.specs.Configuration.{goal}
use Rattle.layout.specs.Reading.{read_program}
use Rattle.layout.proofs.Back.{program_back}
use Rattle.mem_numbers.specs.Numbers.{triples}
use Rattle.mem_words.specs.declared.Word.{Word}
use Rattle.mem_words.specs.Words.{words}
use Rattle.mem_words.specs.Form.{bytes_of, length_bytes_of, bytes_words}
use Rattle.read_nodes.specs.Spell.{named}
use Rattle.store_words.specs.Reading.{read_node}
use Rattle.store_words.proofs.Back.{node_back}
use Rattle.store_form.specs.Sizes.{most_nodes, most_program_words, most_together, part_words, two_bytes, header_length, program_length, variables_length, config_length, program_start, variables_start, config_start, store_length}
use Rattle.store_form.specs.State.{State, table, node_count, number_in}
use Rattle.store_form.specs.Form.{numbers_bytes, region, rules_words, config_words, header, store_bytes}
use Rattle.store_form.specs.Holding.{lowered, small_word, below, Fits, Holds, fits, built, piece, parsed, read_store}
use Rattle.store_form.proofs.Names.{lowered_at, number_back}
use Rattle.store_form.proofs.Spelt.{small_all, program_small, node_small}
use Rattle.store_form.proofs.Bytes.{Triples, length_numbers_bytes, numbers_back, length_region, piece_region, next_region}

-- ---------------------------------------------------------------------------------------------
-- The test says what the record says.

eleven : (a b c d e f g h i j k : Bool) → T (a && b && c && d && e && f && g && h && i && j && k) ↔ (T a × T b × T c × T d × T e × T f × T g × T h × T i × T j × T k)
eleven a b c d e f g h i j k = (there, back)
  where
    there : T (a && b && c && d && e && f && g && h && i && j && k) → T a × T b × T c × T d × T e × T f × T g × T h × T i × T j × T k
    there t =
        let tk = (and_T (a && b && c && d && e && f && g && h && i && j) k).0 t in
        let tj = (and_T (a && b && c && d && e && f && g && h && i) j).0 tk.0 in
        let ti = (and_T (a && b && c && d && e && f && g && h) i).0 tj.0 in
        let th = (and_T (a && b && c && d && e && f && g) h).0 ti.0 in
        let tg = (and_T (a && b && c && d && e && f) g).0 th.0 in
        let tf = (and_T (a && b && c && d && e) f).0 tg.0 in
        let te = (and_T (a && b && c && d) e).0 tf.0 in
        let td = (and_T (a && b && c) d).0 te.0 in
        let tc = (and_T (a && b) c).0 td.0 in
        let tb = (and_T a b).0 tc.0 in
        (tb.0, tb.1, tc.1, td.1, te.1, tf.1, tg.1, th.1, ti.1, tj.1, tk.1)

    back : T a × T b × T c × T d × T e × T f × T g × T h × T i × T j × T k → T (a && b && c && d && e && f && g && h && i && j && k)
    back t =
        let tb = (and_T a b).1 (t.0, t.1) in
        let tc = (and_T (a && b) c).1 (tb, t.2) in
        let td = (and_T (a && b && c) d).1 (tc, t.3) in
        let te = (and_T (a && b && c && d) e).1 (td, t.4) in
        let tf = (and_T (a && b && c && d && e) f).1 (te, t.5) in
        let tg = (and_T (a && b && c && d && e && f) g).1 (tf, t.6) in
        let th = (and_T (a && b && c && d && e && f && g) h).1 (tg, t.7) in
        let ti = (and_T (a && b && c && d && e && f && g && h) i).1 (th, t.8) in
        let tj = (and_T (a && b && c && d && e && f && g && h && i) j).1 (ti, t.9) in
        (and_T (a && b && c && d && e && f && g && h && i && j) k).1 (tj, t.10)

-- each test by itself
abbrev Tests : ℕ → State → Type 0
Tests limit s =
    T (leb (node_count s) most_nodes)
    × T (lowered 1 s.cells)
    × T (distinct s.cells)
    × T (leb (length (rules_words s)) most_program_words)
    × T (leb (node_count s + length (rules_words s)) most_together)
    × T (all small_word (rules_words s))
    × T (leb (length s.variables) most_query_variables)
    × T (all (below (node_count s)) s.variables)
    × T (leb (length (config_words s)) (part_words * limit))
    × T (all small_word (config_words s))
    × T (ltb s.config.next two_bytes)

pub fits_says : (limit : ℕ) (s : State) → T (fits limit s) ↔ Fits limit s
unfolding fits
fits_says limit s = (λ t. there (tests.0 t), λ F. tests.1 (back F))
  where
    tests : T (fits limit s) ↔ Tests limit s
    tests = eleven (leb (node_count s) most_nodes) (lowered 1 s.cells) (distinct s.cells) (leb (length (rules_words s)) most_program_words) (leb (node_count s + length (rules_words s)) most_together) (all small_word (rules_words s)) (leb (length s.variables) most_query_variables) (all (below (node_count s)) s.variables) (leb (length (config_words s)) (part_words * limit)) (all small_word (config_words s)) (ltb s.config.next two_bytes)

    there : Tests limit s → Fits limit s
    there t =
        record {
          nodes = leb→le (node_count s) most_nodes t.0;
          lower = t.1;
          apart = t.2;
          rules = leb→le (length (rules_words s)) most_program_words t.3;
          together = leb→le (node_count s + length (rules_words s)) most_together t.4;
          rules_small = t.5;
          variables = leb→le (length s.variables) most_query_variables t.6;
          known = t.7;
          words = leb→le (length (config_words s)) (part_words * limit) t.8;
          words_small = t.9;
          next = ltb→lt s.config.next two_bytes t.10;
        }

    back : Fits limit s → Tests limit s
    back F = (
      le→leb (node_count s) most_nodes F.nodes,
      F.lower,
      F.apart,
      le→leb (length (rules_words s)) most_program_words F.rules,
      le→leb (node_count s + length (rules_words s)) most_together F.together,
      F.rules_small,
      le→leb (length s.variables) most_query_variables F.variables,
      F.known,
      le→leb (length (config_words s)) (part_words * limit) F.words,
      F.words_small,
      lt→ltb s.config.next two_bytes F.next,
    )

-- ---------------------------------------------------------------------------------------------
-- Every number has three bytes.

at_triples : (l : List ℕ) → ((j : ℕ) → j < length l → get_or l j 0 < 16777216) → Triples l
at_triples [] g = tt
at_triples (v ∷ l) g = (g 0 (omega arith), at_triples l (λ j h. g (suc j) (omega arith)))

below_triples : (n : ℕ) (l : List ℕ) → T (all (below n) l) → n ≤ 16777216 → Triples l
unfolding all
below_triples n [] t h = tt
below_triples n (x ∷ l) t h =
    let a = (and_T (below n x) (all (below n) l)).0 t in
    (omega (arith, ltb→lt x n a.0), below_triples n l a.1 h)

few_nodes : most_nodes ≤ 20489
unfolding most_nodes
few_nodes = omega arith

few_words : most_program_words ≤ 40960
unfolding most_program_words
few_words = omega arith

module _ (limit : ℕ) (low : limit ≤ 65536) (s : State) (F : Fits limit s) where
  table_triples : Triples (table s)
  table_triples = (omega arith, at_triples s.cells (λ j h. omega (arith, lowered_at s.cells 1 F.lower j h, F.nodes, few_nodes)))

  header_triples : Triples (header s)
  unfolding header
  header_triples = (omega arith, (omega (arith, F.nodes, few_nodes), (omega (arith, F.rules, few_words), (omega (arith, F.variables), (omega (arith, F.words), (omega (arith, F.next), tt))))))

  -- -------------------------------------------------------------------------------------------
  -- The regions.

  abbrev pub b : List ℕ
  b = store_bytes limit s

  abbrev pub r4 : List ℕ
  r4 = region (config_length limit) (bytes_of (config_words s)) []

  abbrev pub r3 : List ℕ
  r3 = region variables_length (numbers_bytes s.variables) r4

  abbrev pub r2 : List ℕ
  r2 = region (program_length (node_count s)) (bytes_of (rules_words s)) r3

  abbrev pub r1 : List ℕ
  r1 = numbers_bytes (table s) ++ r2

  header_long : length (numbers_bytes (header s)) ≡ header_length
  unfolding header header_length
  header_long = length_numbers_bytes (header s)

  pub names_long : length (numbers_bytes (table s)) ≡ 3 * node_count s
  names_long = length_numbers_bytes (table s)

  pub rules_long : length (bytes_of (rules_words s)) ≤ program_length (node_count s)
  unfolding program_length
  rules_long = omega (arith, length_bytes_of (rules_words s), F.together)

  -- names and program fill their region
  pub shared : program_start (node_count s) + program_length (node_count s) ≡ variables_start
  unfolding program_start program_length variables_start
  shared = omega (arith, F.together)

  pub variables_long : length (numbers_bytes s.variables) ≤ variables_length
  unfolding variables_length
  variables_long = omega (arith, length_numbers_bytes s.variables, F.variables)

  pub config_long : length (bytes_of (config_words s)) ≤ config_length limit
  unfolding config_length
  config_long = omega (arith, length_bytes_of (config_words s), F.words)

  -- The documented length.
  pub bytes_length : length (store_bytes limit s) ≡ store_length limit
  unfolding store_bytes store_length config_start program_start
  bytes_length =
      omega (
        arith,
        length-append (numbers_bytes (header s)) r1,
        header_long,
        length-append (numbers_bytes (table s)) r2,
        names_long,
        length_region (program_length (node_count s)) (bytes_of (rules_words s)) r3 rules_long,
        shared,
        length_region variables_length (numbers_bytes s.variables) r4 variables_long,
        length_region (config_length limit) (bytes_of (config_words s)) [] config_long,
      )

  pub header_read : triples (take header_length b) ≡ header s
  unfolding store_bytes
  header_read = ap triples (take_at (numbers_bytes (header s)) r1 header_length header_long) ∙ numbers_back (header s) header_triples

  pub at_names : drop header_length b ≡ r1
  unfolding store_bytes
  at_names = drop_at (numbers_bytes (header s)) r1 header_length header_long

  pub at_program : drop (program_start (node_count s)) b ≡ r2
  unfolding program_start
  at_program = sym (drop-drop (3 * node_count s) header_length b) ∙ ap (drop (3 * node_count s)) at_names ∙ drop_at (numbers_bytes (table s)) r2 (3 * node_count s) names_long

  pub at_variables : drop variables_start b ≡ r3
  at_variables = ap (λ (j : ℕ). drop j b) (sym shared) ∙ next_region (program_start (node_count s)) (program_length (node_count s)) b (bytes_of (rules_words s)) r3 at_program rules_long

  pub at_config : drop config_start b ≡ r4
  unfolding config_start
  at_config = next_region variables_start variables_length b (numbers_bytes s.variables) r4 at_variables variables_long

  pub names_read : triples (piece header_length (node_count s) b) ≡ table s
  unfolding piece
  names_read = ap triples (ap (take (3 * node_count s)) at_names ∙ take_at (numbers_bytes (table s)) r2 (3 * node_count s) names_long) ∙ numbers_back (table s) table_triples

  pub rules_read : words (piece (program_start (node_count s)) (length (rules_words s)) b) ≡ rules_words s
  rules_read = ap words (piece_region (program_start (node_count s)) (length (rules_words s)) (program_length (node_count s)) b (bytes_of (rules_words s)) r3 at_program (length_bytes_of (rules_words s))) ∙ bytes_words (rules_words s) (small_all (rules_words s) F.rules_small)

  pub variables_read : triples (piece variables_start (length s.variables) b) ≡ s.variables
  variables_read =
      ap triples (piece_region variables_start (length s.variables) variables_length b (numbers_bytes s.variables) r4 at_variables (length_numbers_bytes s.variables))
      ∙ numbers_back s.variables (below_triples (node_count s) s.variables F.known (omega (arith, F.nodes, few_nodes)))

  pub config_read : words (piece config_start (length (config_words s)) b) ≡ config_words s
  config_read = ap words (piece_region config_start (length (config_words s)) (config_length limit) b (bytes_of (config_words s)) [] at_config (length_bytes_of (config_words s))) ∙ bytes_words (config_words s) (small_all (config_words s) F.words_small)

  -- -------------------------------------------------------------------------------------------
  -- The state.

  spells : (f : Name) → number_in (table s) f < two_bytes → named (table s) (number_in (table s) f) ≡ f
  spells f h = (number_back (table s) f h).0

  read_on : {A B : Type 0} (o : Option A) (a : A) (f : A → Option B) → o ≡ some a → (o >>= f) ≡ f a
  read_on o a f e = ap (λ (x : Option _). x >>= f) e

  rules_back : read_program (named (table s)) (rules_words s) ≡ some s.program
  unfolding rules_words
  rules_back = program_back (number_in (table s)) (named (table s)) s.program (program_small (number_in (table s)) (named (table s)) spells s.program (small_all (rules_words s) F.rules_small))

  config_back : read_node (named (table s)) goal (config_words s) ≡ some (s.config.root, [])
  unfolding config_words
  config_back = node_back (number_in (table s)) (named (table s)) s.config.root [] (node_small (number_in (table s)) (named (table s)) spells s.config.root [] (small_all (config_words s) F.words_small)).0

  built_back : built (table s) (rules_words s) s.variables (config_words s) s.config.next ≡ some s
  unfolding built
  built_back =
      read_on (read_program (named (table s)) (rules_words s)) s.program _ rules_back
      ∙ read_on (read_node (named (table s)) goal (config_words s)) (s.config.root, []) _ config_back

  pub parsed_back : parsed (triples (take header_length b)) b ≡ some s
  unfolding parsed header
  parsed_back =
      ap (λ (h : List ℕ). parsed h b) header_read
      ∙ ap (λ (N : List ℕ). built N (words (piece (program_start (node_count s)) (length (rules_words s)) b)) (triples (piece variables_start (length s.variables) b)) (words (piece config_start (length (config_words s)) b)) s.config.next) names_read
      ∙ ap (λ (W : List Word). built (table s) W (triples (piece variables_start (length s.variables) b)) (words (piece config_start (length (config_words s)) b)) s.config.next) rules_read
      ∙ ap (λ (v : List ℕ). built (table s) (rules_words s) v (words (piece config_start (length (config_words s)) b)) s.config.next) variables_read
      ∙ ap (λ (C : List Word). built (table s) (rules_words s) s.variables C s.config.next) config_read
      ∙ built_back

  -- a state is read from its bytes
  pub store_back : read_store limit (store_bytes limit s) ≡ some s
  unfolding read_store
  store_back =
      let t : T (fits limit s && same b (store_bytes limit s)) = (and_T (fits limit s) (same b (store_bytes limit s))).1 ((fits_says limit s).1 F, same_refl_T b) in
      read_on (parsed (triples (take header_length b)) b) s _ parsed_back ∙ go (fits limit s && same b (store_bytes limit s)) t
    where
      go : (u : Bool) → T u → when u s ≡ some s
      go true t = refl
      go false t = absurd t

-- Bytes hold a state exactly when it is read from them.
pub holds_read : (limit : ℕ) → limit ≤ 65536 → (b : List ℕ) (s : State) → (read_store limit b ≡ some s) ↔ Holds limit b s
unfolding read_store
holds_read limit low b s = (λ e. there (parsed (triples (take header_length b)) b) e, λ h. ap (read_store limit) h.is ∙ store_back limit low s h.fits)
  where
    tested : (t : State) (u : Bool) → fits limit t && same b (store_bytes limit t) ≡ u → when u t ≡ some s → Holds limit b s
    tested t true e w =
        let h = (and_T (fits limit t) (same b (store_bytes limit t))).0 (subst T (sym e) tt) in
        let q : t ≡ s = some-injective t s w in
        subst (Holds limit b) q (record { is = same_eq_T b (store_bytes limit t) h.1; fits = (fits_says limit t).0 h.0 })
    tested t false e w = absurd (let z : ◌≡◌ {A = ℕ} 0 1 = ap (λ (o : Option State). elim o as (λ v. ℕ) [ none ↦ 0 | some x ↦ 1 ]) w in omega arith)

    there : (o : Option State) → (o >>= λ t. when (fits limit t && same b (store_bytes limit t)) t) ≡ some s → Holds limit b s
    there none w = absurd (let z : ◌≡◌ {A = ℕ} 0 1 = ap (λ (o : Option State). elim o as (λ v. ℕ) [ none ↦ 0 | some x ↦ 1 ]) w in omega arith)
    there (some t) w = tested t (fits limit t && same b (store_bytes limit t)) refl w

-- Bytes hold at most one state.
pub holds_once : (limit : ℕ) → limit ≤ 65536 → (b : List ℕ) (s t : State) → Holds limit b s → Holds limit b t → s ≡ t
holds_once limit low b s t h k = some-injective s t (sym ((holds_read limit low b s).1 h) ∙ (holds_read limit low b t).1 k)

-- Different states have different bytes.
pub bytes_once : (limit : ℕ) → limit ≤ 65536 → (s t : State) → Fits limit s → Fits limit t → store_bytes limit s ≡ store_bytes limit t → s ≡ t
bytes_once limit low s t F G e = holds_once limit low (store_bytes limit s) s t (record { is = refl; fits = F }) (record { is = e; fits = G })

-- States with one table of names, one program, one list of variables and one configuration have one form.
pub same_bytes : (limit : ℕ) (s t : State) → s.cells ≡ t.cells → s.program ≡ t.program → s.variables ≡ t.variables → s.config ≡ t.config → store_bytes limit s ≡ store_bytes limit t
same_bytes limit s t a p v c = ap (store_bytes limit) (λ i. record { cells = a i; program = p i; variables = v i; config = c i })
