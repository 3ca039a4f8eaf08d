-- What the enums stand for. Assumes nothing.
use Rattle.std.specs.Prelude.{List, ℕ, ◌+◌, ◌-◌, eqb, leb}
use Rattle.akl.specs.Base.{if}
use Rattle.akl.specs.Limits.{name_bytes}
use Rattle.akl.specs.Syntax.{wait, cond, commit}
use Rattle.akl.specs.Token as akl
use Rattle.read_tokens.specs.declared.Kind.{Kind}
use Rattle.read_tokens.specs.declared.Kind.TheVariants.{Name, Digits, Variable, OpenBracket, CloseBracket, Comma, FullStop, Colon, Defines, Equals, Semicolon, Wait, Cond, Commit}
use Rattle.read_tokens.specs.declared.Sign.{Sign}
use Rattle.std.specs.Prelude as std
use Rattle.read_tokens.specs.declared.Sign.TheVariants.{One, Two}
use Rattle.read_tokens.specs.declared.Cursor.{Cursor}
use Rattle.read_tokens.specs.declared.Next.{Next}
use Rattle.read_tokens.specs.declared.Next.TheVariants.{Token, Bad}

-- the token of a kind whose bytes are w
abbrev pub token_of : Kind → List ℕ → akl.Token
token_of Name w = akl.name w
token_of Digits w = akl.digits w
token_of Variable w = akl.variable w
token_of OpenBracket w = akl.sign akl.open_bracket
token_of CloseBracket w = akl.sign akl.close_bracket
token_of Comma w = akl.sign akl.comma
token_of FullStop w = akl.sign akl.full_stop
token_of Colon w = akl.sign akl.colon
token_of Defines w = akl.sign akl.defines
token_of Equals w = akl.sign akl.equals
token_of Semicolon w = akl.sign akl.semicolon
token_of Wait w = akl.sign (akl.operator wait)
token_of Cond w = akl.sign (akl.operator cond)
token_of Commit w = akl.sign (akl.operator commit)

-- the mark that the byte b begins, y behind it
abbrev pub sign_of : ℕ → ℕ → std.Option Sign
sign_of b y =
    if (eqb b 40) (std.Some (One OpenBracket))
    (if (eqb b 41) (std.Some (One CloseBracket))
    (if (eqb b 44) (std.Some (One Comma))
    (if (eqb b 45) (if (eqb 62 y) (std.Some (Two Cond)) std.None)
    (if (eqb b 46) (std.Some (One FullStop))
    (if (eqb b 58) (if (eqb 61 y) (std.Some (Two Defines)) (std.Some (One Colon)))
    (if (eqb b 59) (std.Some (One Semicolon))
    (if (eqb b 61) (std.Some (One Equals))
    (if (eqb b 63) (std.Some (One Wait))
    (if (eqb b 124) (std.Some (One Commit)) std.None)))))))))

-- the cursor at a position
abbrev pub cursor : ℕ → Cursor
cursor n = record { 0 = n }

-- what is read where the mark stands at `at`
abbrev pub placed : ℕ → std.Option Sign → Next
placed at (std.Some (One k)) = Token k at 1 (cursor (at + 1))
placed at (std.Some (Two k)) = Token k at 2 (cursor (at + 1 + 1))
placed at std.None = Bad

-- what is read where the bytes of a name, a variable or digits stand from `at` to `end`
abbrev pub spelled_of : Kind → ℕ → ℕ → Next
spelled_of k at end = if (leb (end - at) name_bytes) (Token k at (end - at) (cursor end)) Bad
