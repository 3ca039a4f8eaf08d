-- By the way it is spelled so far. Assumes nothing.
use mathlib.Core.Path.{sym, ◌∙◌}
use Rattle.akl.specs.Token.{class_of, word_class, digit_class}
use Rattle.check_namemarks.proofs.Marking.{goes_digit, goes_no_digit, goes_word, goes_no_word}
use Rattle.check_namemarks.proofs.further.Goals as goal

pub returns-then-is_digit : goal.returns-then-is_digit
returns-then-is_digit c = goes_digit c.args.f (word_class (class_of c.args.x)) (digit_class (class_of c.args.x)) c.if-f-eq2.true (sym c.is_digit.ensures ∙ c.if-is_digit.true)

pub returns-then-f-eq2 : goal.returns-then-f-eq2
returns-then-f-eq2 c = goes_no_digit c.args.f (word_class (class_of c.args.x)) (digit_class (class_of c.args.x)) c.if-f-eq2.true (sym c.is_digit.ensures ∙ c.if-is_digit.false)

pub returns-then-is_word : goal.returns-then-is_word
returns-then-is_word c = goes_word c.args.f (word_class (class_of c.args.x)) (digit_class (class_of c.args.x)) c.if-f-eq2.false (sym c.is_word.ensures ∙ c.if-is_word.true)

pub returns : goal.returns
returns c = goes_no_word c.args.f (word_class (class_of c.args.x)) (digit_class (class_of c.args.x)) c.if-f-eq2.false (sym c.is_word.ensures ∙ c.if-is_word.false)
