-- The outcome of a start, from what reading the texts and settling the rest come to. Assumes nothing.
use mathlib.Core.Path.{◌≡◌, refl, sym, ap, ap₂, ◌∙◌, subst}
use mathlib.Core.List.{List}
use mathlib.Core.Bool.{Bool, true, false, ◌||◌}
use Prim.Native.Nat.{ℕ, zero, suc, ◌≤◌, ◌<◌}
use native.Mathlib.Omega.{arith}
use borrow.Author.Tests.{lt-ltb, le-ltb}
use lib.Dec.{ltb}
use lib.ListN.{length, take}
use Rattle.akl.specs.Base.{Result, refused, ok, if}
use Rattle.akl.specs.Limits.{most_parts, last_number}
use Rattle.akl.specs.Syntax.{Program}
use Rattle.akl.specs.Reader.{Query, read_program, read_query}
use Rattle.akl.specs.Configuration.{Config, start_config}
use Rattle.akl.specs.Parts.{parts}
use Rattle.akl.specs.Record.{start}
use Rattle.akl.specs.Step.{within_limits}
use Rattle.mem_numbers.specs.Numbers.{triples}
use Rattle.mem_numbers.specs.Stored.{Stored}
use Rattle.mem_words.specs.Words.{words}
use Rattle.read_inputs.specs.Inputs.{Loaded}
use Rattle.store_form.specs.Sizes.{most_nodes, store_length}
use Rattle.store_start.proofs.Starting.{start_names, start_fits}
use Rattle.store_calls.specs.Outcomes.{slices_short}
use Rattle.store_pieces.proofs.Numbers.{ByteList}
use Rattle.start_fill.specs.Filled.{store_is}
use Rattle.store_lent.specs.Lent.{store_bytes_lent, working_bytes}
use Rattle.start_settle.specs.Settled.{first_parts, Settled, store_short, working_short, too_many, written}
use Rattle.start_outcome.specs.Outcome.{limits_refusal, slices_refusal, query_refusal, program_refusal, start_refusal, Started, StoreAfter, StartTo}
use Rattle.start_outcome.proofs.Stored.{started, left, variables_many, few_variables, parts_are, start_fitting, store_put}

-- whether the slices are too short
short_store : (b : List ℕ) (w : ℕ) → length b < store_bytes_lent → slices_short most_parts working_bytes b w ≡ true
unfolding slices_short
short_store b w h = ap (λ (x : Bool). x || ltb w working_bytes) (lt-ltb (length b) (store_length most_parts) (subst (λ (n : ℕ). length b < n) (sym store_is) h))

short_working : (b : List ℕ) (w : ℕ) → store_bytes_lent ≤ length b → w < working_bytes → slices_short most_parts working_bytes b w ≡ true
unfolding slices_short
short_working b w h g = ap₂ (λ (x y : Bool). x || y) (le-ltb (length b) (store_length most_parts) (subst (λ (n : ℕ). n ≤ length b) (sym store_is) h)) (lt-ltb w working_bytes g)

long_enough : (b : List ℕ) (w : ℕ) → store_bytes_lent ≤ length b → working_bytes ≤ w → slices_short most_parts working_bytes b w ≡ false
unfolding slices_short
long_enough b w h g = ap₂ (λ (x y : Bool). x || y) (le-ltb (length b) (store_length most_parts) (subst (λ (n : ℕ). n ≤ length b) (sym store_is) h)) (le-ltb w working_bytes g)

-- a refusal of the program; one of the query
pub program_refused : (text query b : List ℕ) (w n : ℕ) → read_program text ≡ refused n → n ≡ start_refusal most_parts working_bytes text query b w
unfolding start_refusal
program_refused text query b w n e = ap (program_refusal most_parts (slices_short most_parts working_bytes b w) query) (sym e)

pub query_refused : (text query b : List ℕ) (w n : ℕ) (P : Program) → read_program text ≡ ok P → read_query P query ≡ refused n → n ≡ start_refusal most_parts working_bytes text query b w
unfolding start_refusal
query_refused text query b w n P e f = ap (query_refusal most_parts (slices_short most_parts working_bytes b w)) (sym f) ∙ ap (program_refusal most_parts (slices_short most_parts working_bytes b w) query) (sym e)

-- both are read
both_read : (text query b : List ℕ) (w : ℕ) (P : Program) (q : Query) (short : Bool) → read_program text ≡ ok P → read_query P query ≡ ok q → slices_short most_parts working_bytes b w ≡ short
    → slices_refusal short (start most_parts q) ≡ start_refusal most_parts working_bytes text query b w
unfolding start_refusal
both_read text query b w P q short e f g =
    ap (λ (x : Bool). slices_refusal x (start most_parts q)) (sym g)
    ∙ ap (query_refusal most_parts (slices_short most_parts working_bytes b w)) (sym f)
    ∙ ap (program_refusal most_parts (slices_short most_parts working_bytes b w) query) (sym e)

-- too many parts at the start
over : (q : Query) → (start_config q).next ≤ 16 → most_parts < parts (start_config q).root → start most_parts q ≡ refused 15
unfolding start within_limits
over q h g =
    let k : (start_config q).next ≤ suc last_number = omega (arith, h) in
    ap₂ (λ (x y : Bool). if x (refused 14) (if y (refused 15) (ok (start_config q)))) (le-ltb (suc last_number) (start_config q).next k) (lt-ltb most_parts (parts (start_config q).root) g)

module _ (text query N D c r Q g : List ℕ) (d a v b m : ℕ) (read : Loaded text query N D (words r) Q (words g) d a v b m) (names : length N ≤ most_nodes) (root : Stored N 0 0 (triples c)) (cs : ByteList c) (rs : ByteList r) (gs : ByteList g) where
  abbrev P : Program
  P = read.program

  abbrev q : Query
  q = read.goal

  few_next : (start_config q).next ≤ 16
  unfolding start_config
  few_next = omega (arith, few_variables text query N D c r Q g d a v b m read names root cs rs gs, variables_many text query N D c r Q g d a v b m read names root cs rs gs)

  -- What settling answers is the start's answer.
  pub settled : (L X : List ℕ) (w n : ℕ) → Settled L c r Q (take b (words g)) m a v w X n → StartTo text query L w X n
  settled L X w n (store_short h e) = record { refusal = both_read text query L w P q true read.reads_program read.reads_query (short_store L w h); store = e }
  settled L X w n (working_short h k e) = record { refusal = both_read text query L w P q true read.reads_program read.reads_query (short_working L w h k); store = e }
  settled L X w n (too_many h k f e) =
      let p = parts_are text query N D c r Q g d a v b m read names root cs rs gs in
      let o = over q few_next (omega (arith, p, f)) in
      record { refusal = ap limits_refusal (sym o) ∙ both_read text query L w P q false read.reads_program read.reads_query (long_enough L w h k); store = e }
  settled L X w n (written h k f l) =
      let o = start_fitting text query N D c r Q g d a v b m read names root cs rs gs f in
      let F = left text query N D c r Q g d a v b m read names root cs rs gs in
      record {
        refusal = ap limits_refusal (sym o) ∙ both_read text query L w P q false read.reads_program read.reads_query (long_enough L w h k);
        store =
            record {
              program = P;
              goal = q;
              config = start_config q;
              state = started text query N D c r Q g d a v b m read names root cs rs gs;
              reads_program = read.reads_program;
              reads_query = read.reads_query;
              starts = o;
              begins =
                  record {
                    program = refl;
                    names = start_names text query N (words r) Q (words g) a v b m P q F;
                    config = refl;
                    fits = start_fits text query N (words r) Q (words g) a v b m P q F most_parts (start_config q) o;
                  };
              store = store_put text query N D c r Q g d a v b m read names root cs rs gs L X l;
            };
      }
