-- The refusals of a program and of a query are 1 to 7, those of a start 14 and 15, those of steps at most 15. Assumes nothing.
use mathlib.Core.Path.{◌≡◌, refl, subst}
use mathlib.Core.Logic.{◌⊎◌, inl, inr}
use mathlib.Core.List.{List, [], ◌∷◌, map}
use mathlib.Core.Bool.{Bool, true, false}
use mathlib.Core.Option.{Option, some, none}
use Prim.Native.Nat.{ℕ, suc, ◌≤◌, ◌<◌}
use native.Mathlib.Omega.{arith}
use lib.Dec.{leb, ltb}
use Rattle.akl.specs.Base.{Result, refused, ok, if, size, least, ◌>>=◌}
use Rattle.akl.specs.Limits.{program_bytes, query_bytes, last_number}
use Rattle.akl.specs.Syntax.{Program}
use Rattle.akl.specs.Token.{tokens}
use Rattle.akl.specs.Grammar.{Statement, Definition}
use Rattle.akl.specs.Parse.{parse_program, parse_query}
use Rattle.akl.specs.Reader.{Query, checked, program_faults, query_faults, query_variables, statement_of, definition_of, read_program, read_query}
use Rattle.akl.specs.StepsText.{Step}
use Rattle.akl.specs.Parts.{parts}
use Rattle.akl.specs.Configuration.{Config, start_config}
use Rattle.akl.specs.Step.{within_limits}
use Rattle.akl.specs.Record.{start}
use Rattle.refusals.specs.Refusals.{Textual}
use Rattle.refusals.proofs.Faults.{AllTextual, program_textual, query_textual}
use Rattle.store_form.specs.State.{State}
use Rattle.store_steps.specs.After.{state_after, Stepped, stepped, states_after}
use Rattle.call_run.proofs.Refusals.{refusal_small}

-- a refusal between two numbers, if it is one
abbrev pub Between : {A : Type 0} → ℕ → ℕ → Result A → Type 0
Between l h (refused n) = (l ≤ n) × (n ≤ h)
Between l h (ok a) = Unit {0}

abbrev LeastTextual : Option ℕ → Type 0
LeastTextual none = Unit {0}
LeastTextual (some n) = Textual n

least_textual : (fs : List ℕ) → AllTextual fs → LeastTextual (least fs)
unfolding least
least_textual [] a = tt
least_textual (x ∷ fs) a = go (least fs) (least_textual fs (λ z i. a z (inr i)))
  where
    by : (y : ℕ) (c : Bool) → Textual y → Textual (if c x y)
    by y true h = a x (inl refl)
    by y false h = h

    go : (o : Option ℕ) → LeastTextual o → LeastTextual (elim o as (λ z. Option ℕ) [ none ↦ some x | some y ↦ some (if (leb x y) x y) ])
    go none h = a x (inl refl)
    go (some y) h = by y (leb x y) h

checked_between : {A : Type 0} (fs : List ℕ) (a : A) → AllTextual fs → Between 1 7 (checked fs a)
checked_between {A} fs a t = go (least fs) (least_textual fs t)
  where
    go : (o : Option ℕ) → LeastTextual o → Between {A = A} 1 7 (elim o as (λ z. Result A) [ none ↦ ok a | some n ↦ refused n ])
    go none h = tt
    go (some n) h = (omega (arith, h.low), omega (arith, h.high))

pub program_between : (t : List ℕ) → Between 1 7 (read_program t)
unfolding read_program
program_between t = go (ltb program_bytes (size t)) (tokens t >>= parse_program)
  where
    go : (c : Bool) (o : Option (List Definition)) → Between {A = Program} 1 7 (if c (refused 1) (elim o as (λ z. Result Program) [ none ↦ refused 2 | some ds ↦ checked (program_faults ds) (map definition_of ds) ]))
    go true o = (omega arith, omega arith)
    go false none = (omega arith, omega arith)
    go false (some ds) = checked_between (program_faults ds) (map definition_of ds) (program_textual ds)

abbrev query_of : Statement → Query
query_of s = record { variables = query_variables s; statement = statement_of s (query_variables s) [] }

pub query_between : (P : Program) (q : List ℕ) → Between 1 7 (read_query P q)
unfolding read_query
query_between P q = go (ltb query_bytes (size q)) (tokens q >>= parse_query)
  where
    go : (c : Bool) (o : Option Statement) → Between {A = Query} 1 7 (if c (refused 1) (elim o as (λ z. Result Query) [ none ↦ refused 2 | some s ↦ checked (query_faults P s) (query_of s) ]))
    go true o = (omega arith, omega arith)
    go false none = (omega arith, omega arith)
    go false (some s) = checked_between (query_faults P s) (query_of s) (query_textual P s)

pub start_between : (limit : ℕ) (g : Query) → Between 14 15 (start limit g)
unfolding start within_limits
start_between limit g = go (start_config g) (ltb (suc last_number) (start_config g).next) (ltb limit (parts (start_config g).root))
  where
    go : (c : Config) (x y : Bool) → Between {A = Config} 14 15 (if x (refused 14) (if y (refused 15) (ok c)))
    go c true y = (omega arith, omega arith)
    go c false true = (omega arith, omega arith)
    go c false false = tt

-- the refusal of the next step stands beside the count in one number
pub steps_small : (limit : ℕ) (ks : List Step) (s : State) (n : ℕ) → (states_after limit s n ks).refusal ≤ 15
unfolding states_after
steps_small limit [] s n = omega arith
steps_small limit (k ∷ ks) s n = go (state_after limit s k) refl (λ t. steps_small limit ks t (suc n))
  where
    go : (r : Result State) → state_after limit s k ≡ r → ((t : State) → (states_after limit t (suc n) ks).refusal ≤ 15) →
        (elim r as (λ v. Stepped) [ refused m ↦ stepped n m s | ok t ↦ states_after limit t (suc n) ks ]).refusal ≤ 15
    go (refused m) e h = refusal_small limit s k m e
    go (ok t) e h = h t
