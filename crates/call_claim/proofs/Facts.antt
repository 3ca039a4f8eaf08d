-- What the claim says, for the program, the goal and the start that the texts of a start give; and lists of calls in two parts.
use mathlib.Core.Path.{◌≡◌, refl, ap, sym, ◌∙◌, subst}
use mathlib.Core.List.{List, [], ◌∷◌, ◌++◌}
use Prim.Native.Nat.{ℕ}
use Rattle.akl.specs.Base.{Result, refused, ok}
use Rattle.akl.specs.Limits.{most_parts}
use Rattle.akl.specs.Syntax.{Program}
use Rattle.akl.specs.Reader.{Query, read_program, read_query}
use Rattle.akl.specs.Configuration.{Config}
use Rattle.akl.specs.Record.{start}
use Rattle.runs.specs.Calls.{after_calls, calls_moves, NoPruning}
use Rattle.runs.specs.RunHolds.{RunHolds}
use Rattle.start_call.specs.Called.{StartCalled}
use Rattle.call_claim.specs.Host.{HostCall, History}
use Rattle.call_claim.specs.Seen.{accepted_steps, NoneLoses}
use Rattle.call_claim.specs.HostRun.{calls, CallGets, HostRun}
use Rattle.call_claim.proofs.Accepting.{steps_taken, loses_prunes}
use Rattle.call_claim.proofs.Demand3.{demand_3_on_calls}

pub record Facts (P : Program) (goal : Query) (config : Config) (ks : List HostCall) : Type 0 where
  pub run : RunHolds most_parts P goal config (calls ks)
  pub each_call : (js : List HostCall) (k : HostCall) (ls : List HostCall) → ks ≡ js ++ (k ∷ ls) → CallGets P goal.variables (after_calls most_parts P config (calls js)) k
  pub accepted : steps_taken (calls_moves most_parts P config (calls ks)) ≡ accepted_steps ks

-- what a text is read as it is read as once
ok_once : {A : Type 0} {a b : A} → ok a ≡ ok b → a ≡ b
ok_once {A} {a} {b} e = ap (λ (r : Result A). elim r as (λ v. A) [ refused n ↦ a | ok x ↦ x ]) e

pub facts : (text query b₀ u b u' : List ℕ) → StartCalled text query b₀ u b u' 0 →
    (P : Program) (goal : Query) (config : Config) → read_program text ≡ ok P → read_query P query ≡ ok goal → start most_parts goal ≡ ok config →
    (ks : List HostCall) (c : List ℕ) → History b ks c → Facts P goal config ks
facts text query b₀ u b u' S P goal config rp rq rs ks c h = by_program P (ok_once (sym R.reads_program ∙ rp)) goal rq config rs
  where
    R : HostRun text query b ks c
    R = demand_3_on_calls text query b₀ u b u' S ks c h

    by_start : (d : Config) → start most_parts R.goal ≡ ok d → Facts R.program R.goal d ks
    by_start d e = subst (λ (z : Config). Facts R.program R.goal z ks) (ok_once (sym R.starts ∙ e)) (record { run = R.run; each_call = R.each_call; accepted = R.accepted })

    by_query : (g : Query) → read_query R.program query ≡ ok g → (d : Config) → start most_parts g ≡ ok d → Facts R.program g d ks
    by_query g e = subst (λ (z : Query). (d : Config) → start most_parts z ≡ ok d → Facts R.program z d ks) (ok_once (sym R.reads_query ∙ e)) by_start

    by_program : (Q : Program) → R.program ≡ Q → (g : Query) → read_query Q query ≡ ok g → (d : Config) → start most_parts g ≡ ok d → Facts Q g d ks
    by_program Q e = subst (λ (z : Program). (g : Query) → read_query z query ≡ ok g → (d : Config) → start most_parts g ≡ ok d → Facts z g d ks) e by_query

-- no accepted step is one of 7 and 8: what the host sees of it
pub none_prunes : (P : Program) (goal : Query) (config : Config) (ks : List HostCall) → Facts P goal config ks → NoneLoses (accepted_steps ks) → NoPruning (calls_moves most_parts P config (calls ks))
none_prunes P goal config ks F h = loses_prunes (calls_moves most_parts P config (calls ks)) (subst NoneLoses (sym F.accepted) h)

-- the calls up to some point
pub first_part : (js ks : List HostCall) (b c : List ℕ) → History b (js ++ ks) c → (d : List ℕ) × History b js d × History d ks c
first_part [] ks b c h = (b, refl, h)
first_part (j ∷ js) ks b c h = let r = first_part js ks h.0 c h.2 in (r.0, (h.0, h.1, r.1), r.2)
