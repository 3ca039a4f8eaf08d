-- `read_texts::query_text` meets its contract: the tokens, and then the grammar on the codes of the tokens. Assumes nothing.
use mathlib.Core.Path.{ap, sym, ◌∙◌, subst}
use Prim.Native.Nat.{◌*◌}
use native.Mathlib.Omega.{arith}
use lib.ListN.{take}
use lib.Seq.{length-take-le}
use Rattle.akl.specs.Limits.{query_bytes}
use Rattle.akl.specs.Parse.{parse_query}
use Rattle.mem_numbers.specs.Numbers.{triples, length_triples}
use Rattle.std.specs.Prelude as std
use Rattle.read_lexed.specs.declared.NotLexed.{NotLexed}
use Rattle.read_statements.specs.declared.Unparsed.{Unparsed}
use Rattle.read_statements.specs.declared.Unparsed.TheVariants.{Odd, Short}
use Rattle.read_grammar.specs.Grammar.{QueryIs}
use Rattle.read_texts.specs.Entries.{entries}
use Rattle.read_texts.specs.Texts.{text_long, text_bad, text_full, text_of, text_not, text_narrow, lent_known, lent, told_all, told_bad, told_full}
use Rattle.read_texts.proofs.query_text.Goals as goal

pub returns-then-text-gt4096 : goal.returns-then-text-gt4096
returns-then-text-gt4096 c = text_long query_bytes parse_query _ (omega arith)

pub tokenise-l-requires : goal.tokenise-l-requires
tokenise-l-requires c = c.requires.trie

pub overflow_mul-e : goal.overflow_mul-e
overflow_mul-e c = omega (arith, (told_all c.tokenise-l.ensures c.in-Ok.is).answer.short)

pub slice_bounds-query_is-end : goal.slice_bounds-query_is-end
slice_bounds-query_is-end c = omega (arith, (told_all c.tokenise-l.ensures c.in-Ok.is).answer.inside, length_triples c.tokenise-l.new.codes)

pub slice_bounds-query_is-end-in-Ok : goal.slice_bounds-query_is-end-in-Ok
slice_bounds-query_is-end-in-Ok c = sym (length-take-le (3 * c.in-Ok.k) c.tokenise-l.new.codes (omega (arith, (told_all c.tokenise-l.ensures c.in-Ok.is).answer.inside, length_triples c.tokenise-l.new.codes)))

pub query_is-v-requires : goal.query_is-v-requires
query_is-v-requires c = lent_known c.tokenise-l.new.codes (entries c.requires (told_all c.tokenise-l.ensures c.in-Ok.is).answer)

pub returns-in-Ok-v : goal.returns-in-Ok-v
returns-in-Ok-v c = text_of query_bytes parse_query (omega arith) c.requires (told_all c.tokenise-l.ensures c.in-Ok.is) (lent parse_query c.tokenise-l.new.codes c.args.stack.now c.in-Ok.k (std.Ok tt) (omega (arith, (told_all c.tokenise-l.ensures c.in-Ok.is).answer.inside, length_triples c.tokenise-l.new.codes)) (subst (QueryIs (triples (take (3 * c.in-Ok.k) c.tokenise-l.new.codes)) c.args.stack.now) c.in-Ok-v.is c.query_is-v.ensures))

pub returns-in-Err-Odd : goal.returns-in-Err-Odd
returns-in-Err-Odd c = text_not query_bytes parse_query (omega arith) c.requires (told_all c.tokenise-l.ensures c.in-Ok.is) (lent parse_query c.tokenise-l.new.codes c.args.stack.now c.in-Ok.k (std.Err Odd) (omega (arith, (told_all c.tokenise-l.ensures c.in-Ok.is).answer.inside, length_triples c.tokenise-l.new.codes)) (subst (QueryIs (triples (take (3 * c.in-Ok.k) c.tokenise-l.new.codes)) c.args.stack.now) (c.in-Err-Odd.is ∙ ap (λ (e : Unparsed). std.Err e) (rw c.in-Err-Odd.is at c.in-Err-Odd.field-0-is)) c.query_is-v.ensures))

pub returns-in-Err-Short : goal.returns-in-Err-Short
returns-in-Err-Short c = text_narrow query_bytes parse_query (omega arith) c.requires (told_all c.tokenise-l.ensures c.in-Ok.is) (lent parse_query c.tokenise-l.new.codes c.args.stack.now c.in-Ok.k (std.Err Short) (omega (arith, (told_all c.tokenise-l.ensures c.in-Ok.is).answer.inside, length_triples c.tokenise-l.new.codes)) (subst (QueryIs (triples (take (3 * c.in-Ok.k) c.tokenise-l.new.codes)) c.args.stack.now) (c.in-Err-Short.is ∙ ap (λ (e : Unparsed). std.Err e) (rw c.in-Err-Short.is at c.in-Err-Short.field-0-is)) c.query_is-v.ensures))

pub returns-in-Err-Bad : goal.returns-in-Err-Bad
returns-in-Err-Bad c = text_bad query_bytes parse_query (omega arith) (told_bad c.tokenise-l.ensures (c.in-Err-Bad.is ∙ ap (λ (e : NotLexed). std.Err e) (rw c.in-Err-Bad.is at c.in-Err-Bad.field-0-is)))

pub returns-in-Err-Full : goal.returns-in-Err-Full
returns-in-Err-Full c = text_full query_bytes parse_query (omega arith) (told_full c.tokenise-l.ensures (c.in-Err-Full.is ∙ ap (λ (e : NotLexed). std.Err e) (rw c.in-Err-Full.is at c.in-Err-Full.field-0-is)))
