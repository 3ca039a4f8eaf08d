-- By the three bytes. Assumes nothing.
use mathlib.Core.Path.{◌≡◌, ap, ◌∙◌}
use Prim.Native.Nat.{ℕ, ◌+◌, ◌*◌}
use native.Mathlib.Omega.{arith}
use Rattle.mem_words.specs.Words.{word, place_word, inner_word}
use Rattle.mem_tallies.specs.Tallies.{first_no, first_yes}
use Rattle.store_parts.specs.declared.Among.TheVariants.{Others}
use Rattle.store_parts.specs.Counting.{word_parts}
use Rattle.store_parts.specs.Pieces.{one_other, one_place, one_inner, one_wide}
use Rattle.store_parts.proofs.one.Goals as goal

pub returns-then-m-eq0 : goal.returns-then-m-eq0
returns-then-m-eq0 c = (first_no c.args.m _ (omega arith), omega arith)

pub returns-then-hi-ne0 : goal.returns-then-hi-ne0
returns-then-hi-ne0 c =
    let v = c.args.lo + c.args.hi * 256 in
    (first_yes c.args.m (word_parts Others (word c.args.c v)) 0 (λ e. omega arith) (one_wide c.args.c v (omega arith)), omega arith)

pub returns-then-c-lt4 : goal.returns-then-c-lt4
returns-then-c-lt4 c =
    let v = c.args.lo + c.args.hi * 256 in
    (first_yes c.args.m (word_parts Others (word c.args.c v)) 0 (λ e. omega arith) (one_other c.args.c v (λ e. omega arith) (λ e. omega arith)), omega arith)

pub returns-then-c-gt5 : goal.returns-then-c-gt5
returns-then-c-gt5 c =
    let v = c.args.lo + c.args.hi * 256 in
    (first_yes c.args.m (word_parts Others (word c.args.c v)) 0 (λ e. omega arith) (one_other c.args.c v (λ e. omega arith) (λ e. omega arith)), omega arith)

pub returns-then-c-lt5 : goal.returns-then-c-lt5
returns-then-c-lt5 c =
    let v = c.args.lo + c.args.hi * 256 in
    let e : c.args.lo ≡ v = omega arith in
    (first_yes c.args.m (word_parts Others (word c.args.c v)) c.place_part.result (λ e. omega arith) (one_place c.args.c v c.place_part.result (omega arith) (c.place_part.ensures.0 ∙ ap (λ (k : ℕ). word_parts Others (place_word k)) e)), c.place_part.ensures.1)

pub returns : goal.returns
returns c =
    let v = c.args.lo + c.args.hi * 256 in
    let e : c.args.lo ≡ v = omega arith in
    (first_yes c.args.m (word_parts Others (word c.args.c v)) c.inner_part.result (λ e. omega arith) (one_inner c.args.c v c.inner_part.result (omega arith) (c.inner_part.ensures.0 ∙ ap (λ (k : ℕ). word_parts Others (inner_word k)) e)), c.inner_part.ensures.1)
