-- Steps texts. Document 01: "A steps text has one step a line, each line ended by a newline: rule, place, argument, as
-- three decimal numbers below 2^32 with one space between; leading zeros are allowed."
use Rattle.std.specs.Prelude.{List, [], ◌∷◌, ◌&&◌, ℕ, zero, suc, ◌+◌, ◌*◌, ◌-◌, eqb, leb, ltb}
use Rattle.std.proofs.Math.Option.{Option, some, none}
use Rattle.akl.specs.Base.{size, when, if, ◌>>=◌, Result, refused, ok}
use Rattle.akl.specs.Limits.{steps_bytes, step_number}
use Rattle.akl.specs.Token.{digit_class, span}

pub record Step : Type 0 where
  pub rule : ℕ
  pub place : ℕ
  pub argument : ℕ

unfoldable pub digits_value : ℕ → List ℕ → ℕ
digits_value n [] = n
digits_value n (d ∷ ds) = digits_value (n * 10 + (d - 48)) ds

-- One digit or more, and then the byte that must follow.
unfoldable pub decimal_number : ℕ → List ℕ → Option (ℕ × List ℕ)
decimal_number follows text =
    let s = span digit_class text in
    when (leb 1 (size s.0) && ltb (digits_value 0 s.0) step_number) s >>= λ t.
    elim t.1 [ [] ↦ none | x ∷ l ↦ when (eqb x follows) (digits_value 0 t.0, l) ]

abbrev space : ℕ
space = 32

abbrev newline : ℕ
newline = 10

unfoldable pub line : List ℕ → Option (Step × List ℕ)
line text =
    decimal_number space text >>= λ r.
    decimal_number space r.1 >>= λ p.
    decimal_number newline p.1 >>= λ a.
    some (record { rule = r.0; place = p.0; argument = a.0 }, a.1)

unfoldable pub lines : ℕ → List ℕ → Option (List Step)
lines zero text = none
lines (suc n) [] = some []
lines (suc n) (x ∷ text) = line (x ∷ text) >>= λ l. lines n l.1 >>= λ ls. some (l.0 ∷ ls)

-- "1 and 18 of the whole steps text before any step is tried"
unfoldable pub read_steps : List ℕ → Result (List Step)
read_steps text =
    if (ltb steps_bytes (size text)) (refused 1)
    (elim (lines (suc (size text)) text) [ none ↦ refused 18 | some ls ↦ ok ls ])
