-- Layouts are one-to-one: equal words are words of equal statements, with equal words behind them.
use mathlib.Core.Path.{◌≡◌, ap, sym, ◌∙◌}
use mathlib.Core.List.{List}
use mathlib.Core.Option.{some-injective}
use Prim.Native.Nat.{ℕ, ◌+◌, ◌≤◌}
use native.Mathlib.Omega.{arith}
use Rattle.akl.specs.Base.{Name}
use Rattle.akl.specs.Syntax.{Stmt, Program}
use Rattle.mem_words.specs.declared.Word.{Word}
use Rattle.layout.specs.Layout.{stmt_words, program_words}
use Rattle.layout.specs.Reading.{stmt_from, program_from}
use Rattle.layout.specs.Tables.{Spelt, SpeltProgram, calls, program_calls}
use Rattle.layout.proofs.Back.{stmt_read, program_read}

pub stmt_once : (num : Name → ℕ) (spell : ℕ → Name) (s t : Stmt) (r u : List Word) → Spelt num spell s → Spelt num spell t → stmt_words num s r ≡ stmt_words num t u → (s ≡ t) × (r ≡ u)
stmt_once num spell s t r u h k e = (ap (λ (x : Stmt × List Word). x.0) pair, ap (λ (x : Stmt × List Word). x.1) pair)
  where
    n : ℕ
    n = calls s + calls t

    pair : ◌≡◌ {A = Stmt × List Word} (s, r) (t, u)
    pair = some-injective (s, r) (t, u) (sym (stmt_read num spell s n r (omega arith) h) ∙ ap (λ (ws : List Word). stmt_from spell n ws) e ∙ stmt_read num spell t n u (omega arith) k)

pub program_once : (num : Name → ℕ) (spell : ℕ → Name) (P Q : Program) → SpeltProgram num spell P → SpeltProgram num spell Q → program_words num P ≡ program_words num Q → P ≡ Q
program_once num spell P Q h k e =
    let a : program_calls P ≤ program_calls P + program_calls Q = omega arith in
    let b : program_calls Q ≤ program_calls P + program_calls Q = omega arith in
    some-injective P Q (sym (program_read num spell P (program_calls P + program_calls Q) a h) ∙ ap (λ (ws : List Word). program_from spell (program_calls P + program_calls Q) ws) e ∙ program_read num spell Q (program_calls P + program_calls Q) b k)
