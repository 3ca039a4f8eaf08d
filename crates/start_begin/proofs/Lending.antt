-- The tables are long enough. Assumes nothing.
use mathlib.Core.Path.{◌≡◌, refl, sym, ap, ◌∙◌}
use mathlib.Core.List.{List}
use Prim.Native.Nat.{ℕ, ◌+◌, ◌*◌, ◌/◌, ◌≤◌}
use native.Mathlib.Omega.{arith}
use lib.ListN.{length, take}
use lib.Seq.{length-take-le}
use Rattle.mem_numbers.specs.Numbers.{shorts, triples, length_shorts, length_triples}
use Rattle.mem_words.specs.Words.{words, length_words}
use Rattle.start_texts.specs.Tables.{Lent}
use Rattle.start_begin.specs.Short.{Within}

pub lending : (text query c h r o g k f n s b z : List ℕ) → Within text query → length c ≡ 3 * (9 + length text + length query)
    → 384 ≡ length h → 196632 ≡ length r → 32 ≡ length o → 49188 ≡ length g → 49152 ≡ length k → 40980 ≡ length f → 40980 ≡ length n → 16384 ≡ length s → 40980 ≡ length b → 32768 ≡ length z
    → Lent text query (triples c) (triples h) (words r) (shorts o) (words g) (triples k) (shorts f) (shorts n) s (shorts b) (shorts z)
lending text query c h r o g k f n s b z W ec eh er eo eg ek ef en es eb ez =
    let t = W.program in
    let q = W.query_most in
    let lc : length (triples c) ≡ 9 + length text + length query = omega (arith, length_triples c, ec) in
    record {
      ample =
          record {
            names = record { cells = omega (arith, lc); heads = omega (arith, length_shorts f, ef, t, q); nexts = omega (arith, length_shorts n, en, t, q); count = omega (arith, t, q) };
            heads = omega (arith, length_triples h, eh);
            rules = omega (arith, length_words r, er, t);
            order = omega (arith, length_shorts o, eo);
            goal = omega (arith, length_words g, eg, q);
            codes = (omega (arith, length_triples k, ek, t), omega (arith, length_triples k, ek, q));
            stack = (omega (arith, es, t), omega (arith, es, q));
            binds = omega (arith, length_shorts b, eb, t, q);
            saves = (omega (arith, length_shorts z, ez, t), omega (arith, length_shorts z, ez, q));
          };
      cells = lc;
      short = t;
      goal = omega (arith, length_words g, eg);
    }
