-- `read_tokens::Cursor::next` meets its contract: blanks are passed, and then the class of the byte says what is read. Assumes nothing.
use mathlib.Core.Path.{refl}
use mathlib.Core.Logic.{inl, inr}
use native.Mathlib.Omega.{arith}
use Rattle.akl.specs.Token.{small, capital, digit, underscore, other, word_class, digit_class}
use Rattle.read_tokens.specs.declared.Kind.TheVariants.{Name, Digits, Variable}
use Rattle.read_tokens.specs.Next.{passed_none, passed_more, reads_end, reads_word, reads_mark, reads_bad}
use Rattle.read_tokens.proofs.Cursor.next.Goals as goal

pub loop-at-init : goal.loop-at-init
loop-at-init c = passed_none _ _

pub returns-then-s-at : goal.returns-then-s-at
returns-then-s-at c = reads_end _ _ _ c.loop-at.invariant (omega arith)

pub loop-at-preserved : goal.loop-at-preserved
loop-at-preserved c = passed_more _ _ _ c.loop-at.invariant (omega arith) (rw c.in-Blank.is at c.class_of-c.ensures)

pub spelled-requires : goal.spelled-requires
spelled-requires c = c.word_end-end.ensures.from

pub returns-in-Small : goal.returns-in-Small
returns-in-Small c = reads_word _ _ _ c.loop-at.invariant Name word_class small (λ x l. refl) refl (omega arith) (rw c.in-Small.is at c.class_of-c.ensures) _ c.word_end-end.ensures _ c.spelled.ensures

pub spelled-requires-in-Capital : goal.spelled-requires-in-Capital
spelled-requires-in-Capital c = c.word_end-end-in-Capital.ensures.from

pub returns-in-Capital : goal.returns-in-Capital
returns-in-Capital c = reads_word _ _ _ c.loop-at.invariant Variable word_class capital (λ x l. refl) refl (omega arith) (rw c.in-Capital.is at c.class_of-c.ensures) _ c.word_end-end-in-Capital.ensures _ c.spelled-in-Capital.ensures

pub spelled-requires-in-Digit : goal.spelled-requires-in-Digit
spelled-requires-in-Digit c = c.digits_end-end.ensures.from

pub returns-in-Digit : goal.returns-in-Digit
returns-in-Digit c = reads_word _ _ _ c.loop-at.invariant Digits digit_class digit (λ x l. refl) refl (omega arith) (rw c.in-Digit.is at c.class_of-c.ensures) _ c.digits_end-end.ensures _ c.spelled-in-Digit.ensures

pub returns-in-Mark : goal.returns-in-Mark
returns-in-Mark c = reads_mark _ _ _ c.loop-at.invariant (omega arith) (rw c.in-Mark.is at c.class_of-c.ensures) _ c.mark_at.ensures

pub returns-in-Underscore : goal.returns-in-Underscore
returns-in-Underscore c =
    elim c.in-Underscore.is [
      | inl e ↦ reads_bad _ _ _ c.loop-at.invariant underscore (λ x l. refl) (omega arith) (rw e at c.class_of-c.ensures)
      | inr e ↦ reads_bad _ _ _ c.loop-at.invariant other (λ x l. refl) (omega arith) (rw e at c.class_of-c.ensures)
    ]
