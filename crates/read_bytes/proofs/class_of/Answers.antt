-- `read_tokens::class_of` meets its contract: each return is a range of bytes of one class. Assumes nothing.
use native.Mathlib.Omega.{arith}
use Rattle.akl.specs.Token.{small, capital, digit, underscore, blank, mark, other, class_of}
use Rattle.read_bytes.specs.Classes.{number, all_of, in_range}
use Rattle.read_bytes.proofs.class_of.Goals as goal

pub returns-in-95 : goal.returns-in-95
unfolding all_of number class_of
returns-in-95 c = in_range 1 underscore 256 95 tt c.args.b (omega arith) (omega arith) (λ e. omega arith)

pub returns-in-48-to-57 : goal.returns-in-48-to-57
unfolding all_of number class_of
returns-in-48-to-57 c = in_range 10 digit 256 48 tt c.args.b (omega arith) (omega arith) (λ e. omega arith)

pub returns-in-65-to-90 : goal.returns-in-65-to-90
unfolding all_of number class_of
returns-in-65-to-90 c = in_range 26 capital 256 65 tt c.args.b (omega arith) (omega arith) (λ e. omega arith)

pub returns-in-97-to-122 : goal.returns-in-97-to-122
unfolding all_of number class_of
returns-in-97-to-122 c = in_range 26 small 256 97 tt c.args.b (omega arith) (omega arith) (λ e. omega arith)

pub returns-in_default : goal.returns-in_default
unfolding all_of number class_of
returns-in_default c = in_range 9 other 256 0 tt c.args.b (omega arith) (omega arith) (λ e. omega arith)

pub returns-in_default-2 : goal.returns-in_default-2
unfolding all_of number class_of
returns-in_default-2 c = in_range 29 other 32 11 tt c.args.b (omega arith) (omega arith) (λ e. omega arith)

pub returns-in_default-3 : goal.returns-in_default-3
unfolding all_of number class_of
returns-in_default-3 c = in_range 2 other 256 42 tt c.args.b (omega arith) (omega arith) (λ e. omega arith)

pub returns-in_default-4 : goal.returns-in_default-4
unfolding all_of number class_of
returns-in_default-4 c = in_range 1 other 256 47 tt c.args.b (omega arith) (omega arith) (λ e. omega arith)

pub returns-in_default-5 : goal.returns-in_default-5
unfolding all_of number class_of
returns-in_default-5 c = in_range 1 other 256 60 tt c.args.b (omega arith) (omega arith) (λ e. omega arith)

pub returns-in_default-6 : goal.returns-in_default-6
unfolding all_of number class_of
returns-in_default-6 c = in_range 1 other 256 64 tt c.args.b (omega arith) (omega arith) (λ e. omega arith)

pub returns-in_default-7 : goal.returns-in_default-7
unfolding all_of number class_of
returns-in_default-7 c = in_range 6 other 95 91 tt c.args.b (omega arith) (omega arith) (λ e. omega arith)

pub returns-in_default-8 : goal.returns-in_default-8
unfolding all_of number class_of
returns-in_default-8 c = in_range 133 other 124 123 tt c.args.b (omega arith) (omega arith) (λ e. omega arith)

pub returns-in-40-to-41 : goal.returns-in-40-to-41
unfolding all_of number class_of
returns-in-40-to-41 c = in_range 1 mark 256 124 tt c.args.b (omega arith) (omega arith) (λ e. omega arith)

pub returns-in-40-to-41-2 : goal.returns-in-40-to-41-2
unfolding all_of number class_of
returns-in-40-to-41-2 c = in_range 2 mark 256 40 tt c.args.b (omega arith) (omega arith) (λ e. omega arith)

pub returns-in-40-to-41-3 : goal.returns-in-40-to-41-3
unfolding all_of number class_of
returns-in-40-to-41-3 c = in_range 3 mark 256 44 tt c.args.b (omega arith) (omega arith) (λ e. omega arith)

pub returns-in-40-to-41-4 : goal.returns-in-40-to-41-4
unfolding all_of number class_of
returns-in-40-to-41-4 c = in_range 2 mark 256 58 tt c.args.b (omega arith) (omega arith) (λ e. omega arith)

pub returns-in-40-to-41-5 : goal.returns-in-40-to-41-5
unfolding all_of number class_of
returns-in-40-to-41-5 c = in_range 3 mark 256 61 tt c.args.b (omega arith) (omega arith) (λ e. omega arith)

pub returns-in-32 : goal.returns-in-32
unfolding all_of number class_of
returns-in-32 c = in_range 1 blank 256 32 tt c.args.b (omega arith) (omega arith) (λ e. omega arith)

pub returns-in-32-2 : goal.returns-in-32-2
unfolding all_of number class_of
returns-in-32-2 c = in_range 2 blank 256 9 tt c.args.b (omega arith) (omega arith) (λ e. omega arith)
