-- What code decides is refusal 9.
use mathlib.Core.Path.{◌≡◌, refl, ap, sym, ◌∙◌, subst}
use mathlib.Core.Logic.{◌↔◌}
use mathlib.Core.List.{List, [], ◌∷◌, ◌++◌, map}
use mathlib.Core.Bool.{Bool, ◌&&◌}
use mathlib.Core.Option.{Option, some, none}
use Prim.Native.Nat.{ℕ, zero, suc, ◌+◌, ◌/◌, ◌<◌, ◌≤◌}
use native.Mathlib.Omega.{arith}
use lib.Dec.{T, leb, ltb, leb→le, le→leb}
use lib.ListN.{length, get_or, drop, length-drop}
use lib.Seq.{get_or-drop}
use Rattle.constraint.specs.Solve.{distinct}
use Rattle.constraint.proofs.Lists.{and_T}
use Rattle.akl.specs.Base.{Name, all, size, range}
use Rattle.akl.specs.Limits.{last_number}
use Rattle.akl.specs.Syntax.{Program}
use Rattle.akl.specs.Configuration.{goal, Node, Config}
use Rattle.akl.specs.Parts.{parts}
use Rattle.akl.specs.WellFormed.{program_passes, names_pass, is_or, statements_pass, no_interference, in_scope, query_locals, all_numbers, well_formed}
use Rattle.mem_words.specs.Form.{Bytes}
use Rattle.read_nodes.specs.Spell.{named, Lower, named_once}
use Rattle.store_form.specs.Holding.{lowered, below}
use Rattle.store_form.specs.State.{State, number_in}
use Rattle.store_form.proofs.Names.{lowered_at, at_lowered, distinct_at, at_distinct, number_named}
use Rattle.store_calls.specs.Outcomes.{held}
use Rattle.check_distinct.specs.Apart.{Apart}
use Rattle.check_names.specs.Names.{NamesStand}
use Rattle.check_held.specs.Checks.{next_in, names_at, variables_at, config_with, state_with, Checks}
use Rattle.check_held.proofs.Held.{names_count, variables_count, checks_held}
use Rattle.check_held.proofs.Back.{held_checks}
use Rattle.check_decided.specs.Decided.{scoped, Decided}

-- ---------------------------------------------------------------------------------------------
-- The table of names, by positions and by its tests.

lower_test : (N : List ℕ) → Lower N (length N) ↔ T (lowered 1 (drop 1 N))
lower_test N = (λ L. at_lowered (drop 1 N) 1 (λ j h. to L j h), λ t i a b. from t i a b)
  where
    to : Lower N (length N) → (j : ℕ) → j < length (drop 1 N) → get_or (drop 1 N) j 0 / 256 < 1 + j
    to L j h = let l = L (1 + j) (omega arith) (omega (arith, length-drop 1 N)) in let e = get_or-drop 1 N j 0 in omega arith

    from : T (lowered 1 (drop 1 N)) → (i : ℕ) → 0 < i → i < length N → get_or N i 0 / 256 < i
    from t zero a b = absurd (omega arith)
    from t (suc i) a b =
        let l = lowered_at (drop 1 N) 1 t i (omega (arith, length-drop 1 N)) in
        let z : 1 + i ≡ suc i = omega arith in
        let e : get_or (drop 1 N) i 0 ≡ get_or N (suc i) 0 = get_or-drop 1 N i 0 ∙ ap (λ (k : ℕ). get_or N k 0) z in
        omega arith

apart_test : (N : List ℕ) → Apart N ↔ T (distinct (drop 1 N))
apart_test N = (λ A. at_distinct (drop 1 N) (λ i j a b e. to A i j a b e), λ t i j a b c d e. from t i j a b c d e)
  where
    up : (i : ℕ) → get_or (drop 1 N) i 0 ≡ get_or N (suc i) 0
    up i = let z : 1 + i ≡ suc i = omega arith in get_or-drop 1 N i 0 ∙ ap (λ (k : ℕ). get_or N k 0) z

    to : Apart N → (i j : ℕ) → i < length (drop 1 N) → j < length (drop 1 N) → get_or (drop 1 N) i 0 ≡ get_or (drop 1 N) j 0 → i ≡ j
    to A i j a b e =
        let l = length-drop 1 N in
        let z = A (suc i) (suc j) (omega arith) (omega arith) (omega arith) (omega arith) (sym (up i) ∙ e ∙ up j) in
        omega (arith, z)

    from : T (distinct (drop 1 N)) → (i j : ℕ) → 0 < i → i < length N → 0 < j → j < length N → get_or N i 0 ≡ get_or N j 0 → i ≡ j
    from t zero j a b c d e = absurd (omega arith)
    from t (suc i) zero a b c d e = absurd (omega arith)
    from t (suc i) (suc j) a b c d e =
        let l = length-drop 1 N in
        ap suc (distinct_at (drop 1 N) t i j (omega arith) (omega arith) (up i ∙ e ∙ sym (up j)))

-- In a table of names that stands each node's name has its number.
pub node_number : {N v : List ℕ} → NamesStand N v → (i : ℕ) → i < length N → number_in N (named N i) ≡ i
node_number {N} {v} S i h = number_named N (λ a b p q e. named_once a a b N (length N) S.rooted.lower S.apart (omega arith) p q e) i h

-- ---------------------------------------------------------------------------------------------
-- Well-formed, test by test.

size_names : (f : ℕ → Name) (v : List ℕ) → size (map f v) ≡ length v
unfolding size
size_names f [] = refl
size_names f (x ∷ v) = ap suc (size_names f v)

pub record Formed (limit : ℕ) (P : Program) (xs : List Name) (c : Config) : Type 0 where
  pub program : T (program_passes P)
  pub names : T (names_pass xs)
  pub top : T (is_or c.root)
  pub statements : T (statements_pass c.root P)
  pub scopes : T (scoped c.root (size xs) c.next)
  pub last : c.next ≤ suc last_number
  pub fit : parts c.root ≤ limit

ten : (a b c d e f g h i j : Bool) → T (a && b && c && d && e && f && g && h && i && j) ↔ (T a × T b × T c × T d × T (e && f && g && h) × T i × T j)
ten a b c d e f g h i j = (there, back)
  where
    there : T (a && b && c && d && e && f && g && h && i && j) → T a × T b × T c × T d × T (e && f && g && h) × T i × T j
    there t =
        let tj = (and_T (a && b && c && d && e && f && g && h && i) j).0 t in
        let ti = (and_T (a && b && c && d && e && f && g && h) i).0 tj.0 in
        let th = (and_T (a && b && c && d && e && f && g) h).0 ti.0 in
        let tg = (and_T (a && b && c && d && e && f) g).0 th.0 in
        let tf = (and_T (a && b && c && d && e) f).0 tg.0 in
        let te = (and_T (a && b && c && d) e).0 tf.0 in
        let td = (and_T (a && b && c) d).0 te.0 in
        let tc = (and_T (a && b) c).0 td.0 in
        let tb = (and_T a b).0 tc.0 in
        (tb.0, tb.1, tc.1, td.1, (and_T (e && f && g) h).1 ((and_T (e && f) g).1 ((and_T e f).1 (te.1, tf.1), tg.1), th.1), ti.1, tj.1)

    back : T a × T b × T c × T d × T (e && f && g && h) × T i × T j → T (a && b && c && d && e && f && g && h && i && j)
    back t =
        let uh = (and_T (e && f && g) h).0 t.4 in
        let ug = (and_T (e && f) g).0 uh.0 in
        let uf = (and_T e f).0 ug.0 in
        let td = (and_T (a && b && c) d).1 ((and_T (a && b) c).1 ((and_T a b).1 (t.0, t.1), t.2), t.3) in
        let tf = (and_T (a && b && c && d && e) f).1 ((and_T (a && b && c && d) e).1 (td, uf.0), uf.1) in
        let th = (and_T (a && b && c && d && e && f && g) h).1 ((and_T (a && b && c && d && e && f) g).1 (tf, ug.1), uh.1) in
        (and_T (a && b && c && d && e && f && g && h && i) j).1 ((and_T (a && b && c && d && e && f && g && h) i).1 (th, t.5), t.6)

abbrev Tests : ℕ → Program → List Name → Config → Type 0
Tests limit P xs c =
    T (program_passes P)
    × T (names_pass xs)
    × T (is_or c.root)
    × T (statements_pass c.root P)
    × T (no_interference c.root && in_scope c.root [] && query_locals c.root (size xs) && all (λ x. ltb x c.next) (range 0 (size xs) ++ all_numbers c.root))
    × T (leb c.next (suc last_number))
    × T (leb (parts c.root) limit)

formed_tests : (limit : ℕ) (P : Program) (xs : List Name) (c : Config) → T (well_formed limit P xs c) ↔ Formed limit P xs c
unfolding well_formed scoped
formed_tests limit P xs c = (λ t. there (tests.0 t), λ F. tests.1 (F.program, F.names, F.top, F.statements, F.scopes, le→leb c.next (suc last_number) F.last, le→leb (parts c.root) limit F.fit))
  where
    tests : T (well_formed limit P xs c) ↔ Tests limit P xs c
    tests = ten (program_passes P) (names_pass xs) (is_or c.root) (statements_pass c.root P) (no_interference c.root) (in_scope c.root []) (query_locals c.root (size xs)) (all (λ x. ltb x c.next) (range 0 (size xs) ++ all_numbers c.root)) (leb c.next (suc last_number)) (leb (parts c.root) limit)

    there : Tests limit P xs c → Formed limit P xs c
    there t = record { program = t.0; names = t.1; top = t.2; statements = t.3; scopes = t.4; last = leb→le c.next (suc last_number) t.5; fit = leb→le (parts c.root) limit t.6 }

-- ---------------------------------------------------------------------------------------------
-- The checks, and what code decides.

module _ (limit : ℕ) (b : List ℕ) (P : Program) (n : Node goal) where
  abbrev names : List Name
  names = map (named (names_at b)) (variables_at b)

  pub decided_checks : Decided limit b P n → Checks limit b P n
  decided_checks D = record {
    long = D.long;
    counts = D.counts;
    unused = D.unused;
    table = record {
      root = D.names.rooted.root;
      lower = (lower_test (names_at b)).0 D.names.rooted.lower;
      apart = (apart_test (names_at b)).0 D.names.apart;
      known = subst (λ (m : ℕ). T (all (below m) (variables_at b))) (names_count limit b D.long D.counts) D.names.pass.known;
    };
    rules = D.rules;
    words = D.words;
    formed = (formed_tests limit P names (config_with b n)).1 (record {
      program = D.program;
      names = D.names.pass.pass;
      top = D.top;
      statements = D.statements;
      scopes = subst (λ (q : ℕ). T (scoped n q (next_in b))) (sym (size_names (named (names_at b)) (variables_at b) ∙ variables_count limit b D.long D.counts)) D.scopes;
      last = omega (arith, D.counts.next);
      fit = D.fit;
    });
  }

  pub checks_decided : Checks limit b P n → Decided limit b P n
  checks_decided K =
      let f = (formed_tests limit P names (config_with b n)).0 K.formed in
      record {
        long = K.long;
        counts = K.counts;
        unused = K.unused;
        names = record {
          rooted = record { root = K.table.root; lower = (lower_test (names_at b)).1 K.table.lower };
          apart = (apart_test (names_at b)).1 K.table.apart;
          pass = record { known = subst (λ (m : ℕ). T (all (below m) (variables_at b))) (sym (names_count limit b K.long K.counts)) K.table.known; pass = f.names };
        };
        rules = K.rules;
        program = f.program;
        words = K.words;
        top = f.top;
        statements = f.statements;
        scopes = subst (λ (q : ℕ). T (scoped n q (next_in b))) (size_names (named (names_at b)) (variables_at b) ∙ variables_count limit b K.long K.counts) f.scopes;
        fit = f.fit;
      }

-- ---------------------------------------------------------------------------------------------
-- Refusal 9.

-- Bytes of which all is decided hold the state.
pub decided_held : (limit : ℕ) → limit ≤ 65536 → (b : List ℕ) → Bytes b → (P : Program) (n : Node goal) → Decided limit b P n → held limit b ≡ some (state_with b P n)
decided_held limit low b small P n D = checks_held limit low b small P n (decided_checks limit b P n D)

-- Of bytes that hold a state all is decided, for its program and its configuration.
pub held_decided : (limit : ℕ) → limit ≤ 65536 → (b : List ℕ) (s : State) → held limit b ≡ some s → Decided limit b s.program s.config.root
held_decided limit low b s e = checks_decided limit b s.program s.config.root (held_checks limit low b s e).0

-- Where it is decided for no program and no configuration, 9 is due.
pub none_held : (limit : ℕ) → limit ≤ 65536 → (b : List ℕ) → ((P : Program) (n : Node goal) → Decided limit b P n → ⊥) → held limit b ≡ none
none_held limit low b h = go (held limit b) refl
  where
    go : (o : Option State) → held limit b ≡ o → o ≡ none
    go none e = refl
    go (some s) e = absurd (h s.program s.config.root (held_decided limit low b s e))
