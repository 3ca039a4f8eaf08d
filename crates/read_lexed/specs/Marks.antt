-- How many tokens are marks. Assumes nothing.
use Rattle.std.specs.Prelude.{◌≡◌, refl, List, [], ◌∷◌, ◌++◌, ℕ, ◌+◌, ◌<◌, ◌≤◌}
use Rattle.std.proofs.Common.{arith}
use Rattle.akl.specs.Token.{Token, name, digits, variable, sign}
use Rattle.read_tokens.specs.declared.Kind.{Kind}
use Rattle.read_tokens.specs.declared.Kind.TheVariants.{Name, Digits, Variable, OpenBracket, CloseBracket, Comma, FullStop, Colon, Defines, Equals, Semicolon, Wait, Cond, Commit}
use Rattle.read_tokens.specs.Kinds.{token_of}
use Rattle.read_lexed.specs.Codes.{kind_no}

unfoldable pub mark_in : Token → ℕ
mark_in (name w) = 0
mark_in (digits w) = 0
mark_in (variable w) = 0
mark_in (sign m) = 1

unfoldable pub marks : List Token → ℕ
marks [] = 0
marks (t ∷ ts) = mark_in t + marks ts

pub marks_last : (l : List Token) (t : Token) → marks (l ++ (t ∷ [])) ≡ marks l + mark_in t
unfolding marks
marks_last [] t = omega arith
marks_last (s ∷ l) t = omega (arith, marks_last l t)

pub mark_most : (t : Token) → mark_in t ≤ 1
unfolding mark_in
mark_most (name w) = omega arith
mark_most (digits w) = omega arith
mark_most (variable w) = omega arith
mark_most (sign m) = omega arith

-- what has a name is no mark
pub mark_none : (k : Kind) (w : List ℕ) → kind_no k < 3 → mark_in (token_of k w) ≡ 0
unfolding mark_in
mark_none Name w h = refl
mark_none Digits w h = refl
mark_none Variable w h = refl
mark_none OpenBracket w h = absurd (omega arith)
mark_none CloseBracket w h = absurd (omega arith)
mark_none Comma w h = absurd (omega arith)
mark_none FullStop w h = absurd (omega arith)
mark_none Colon w h = absurd (omega arith)
mark_none Defines w h = absurd (omega arith)
mark_none Equals w h = absurd (omega arith)
mark_none Semicolon w h = absurd (omega arith)
mark_none Wait w h = absurd (omega arith)
mark_none Cond w h = absurd (omega arith)
mark_none Commit w h = absurd (omega arith)
