use mathlib.Core.Path.{◌≡◌, sym, ◌∙◌}
use borrow.Author.Rules.{rules}
use native.Mathlib.Omega.{arith}
use Rattle.mem_words.specs.declared.Word.TheVariants.{Bad}
use Rattle.mem_words.specs.Words.{words, length_words}
use Rattle.mem_copies.specs.Runs.{run_more, run_differ}
use Rattle.mem_copies.specs.Alike.{alike_words}
use Rattle.mem_equals.proofs.same.Goals as goal

pub overflow_mul-i : goal.overflow_mul-i
overflow_mul-i c = omega (arith, c.requires.left, length_words c.args.a.now)

pub overflow_mul-j : goal.overflow_mul-j
overflow_mul-j c = omega (arith, c.requires.right, length_words c.args.b.now)

pub overflow_mul-n : goal.overflow_mul-n
overflow_mul-n c = omega (arith, c.requires.left, length_words c.args.a.now)

pub front-k-requires : goal.front-k-requires
front-k-requires c = record { left = omega (arith, c.requires.left, length_words c.args.a.now); right = omega (arith, c.requires.right, length_words c.args.b.now) }

pub loop-k-init : goal.loop-k-init
loop-k-init c = let f = c.front-k.ensures.few in (omega arith, alike_words c.args.a.now c.args.b.now c.args.i c.args.j c.args.n c.front-k.result c.requires.left c.requires.right c.front-k.ensures)

pub overflow_add-i : goal.overflow_add-i
overflow_add-i c = omega (arith, c.requires.left, length_words c.args.a.now)

pub get-x-requires : goal.get-x-requires
get-x-requires c = omega (arith, c.requires.left)

pub overflow_add-j : goal.overflow_add-j
overflow_add-j c = omega (arith, c.requires.right, length_words c.args.b.now)

pub get-y-requires : goal.get-y-requires
get-y-requires c = omega (arith, c.requires.right)

pub returns-then-ne : goal.returns-then-ne
returns-then-ne c =
    let d : c.get-x.result ≡ c.get-y.result → ⊥ = search rules in
    run_differ c.args.i c.args.j c.loop-k.k c.args.n (words c.args.a.now) (words c.args.b.now) Bad (omega arith) (λ e. d (c.get-x.ensures.is ∙ e ∙ sym c.get-y.ensures.is))

pub loop-k-preserved : goal.loop-k-preserved
loop-k-preserved c = (omega arith, run_more c.args.i c.args.j c.loop-k.k (words c.args.a.now) (words c.args.b.now) Bad (omega (arith, c.requires.left)) (omega (arith, c.requires.right)) c.loop-k.invariant.1 (sym c.get-x.ensures.is ∙ search rules ∙ c.get-y.ensures.is))

pub returns : goal.returns
returns c = let e : c.loop-k.k ≡ c.args.n = omega arith in rw e at c.loop-k.invariant.1
