-- What a call on any bytes hands back, and the bytes that it leaves.
--
-- b is the store's slice as it was lent, w the length of the working slice; limit is the most parts of a configuration, work the
-- documented length of the working slice. The store is the slice's first bytes, as many as documented: 8 is for shorter slices, so
-- a longer one is allowed, and what stands behind is neither read nor changed. Assumes nothing.
use Rattle.std.specs.Prelude.{List, ◌++◌, Bool, true, false, ◌||◌, ℕ, ltb, length, take, drop}
use Rattle.std.proofs.Math.Option.{Option, some, none}
use Rattle.akl.specs.Base.{Result, refused, ok, when, ◌>>=◌}
use Rattle.akl.specs.StepsText.{Step, read_steps}
use Rattle.akl.specs.Answers.{answer, state}
use Rattle.runs.specs.Outcomes.{Outcome, refusal, accepted, shown, stands}
use Rattle.store_form.specs.Sizes.{store_length}
use Rattle.store_form.specs.State.{State, names_of, well_formed_state}
use Rattle.store_form.specs.Form.{store_bytes}
use Rattle.store_form.specs.Holding.{read_store}
use Rattle.store_steps.specs.After.{state_after, Stepped, states_after}

-- What is handed back, and the store's slice afterwards.
pub record Called : Type 0 where
  pub told : Outcome
  pub store : List ℕ

abbrev pub called : Outcome → List ℕ → Called
called o b = record { told = o; store = b }

-- 8: "store or working slice shorter than the documented length"
unfoldable pub slices_short : ℕ → ℕ → List ℕ → ℕ → Bool
slices_short limit work b w = ltb (length b) (store_length limit) || ltb w work

-- 9: "store holds no well-formed program and configuration"; the state that it holds otherwise
unfoldable pub held : ℕ → List ℕ → Option State
held limit b = read_store limit (take (store_length limit) b) >>= λ s. when (well_formed_state limit s) s

-- the slice with a state's bytes as its store
unfoldable pub put_state : ℕ → List ℕ → State → List ℕ
put_state limit b s = store_bytes limit s ++ drop (store_length limit) b

-- "Lowest number first": 8, then 9, then what is done with the state
abbrev pub on_held : List ℕ → (State → Called) → Bool → Option State → Called
on_held b f true h = called (refusal 8) b
on_held b f false none = called (refusal 9) b
on_held b f false (some s) = f s

unfoldable pub on_state : ℕ → ℕ → List ℕ → ℕ → (State → Called) → Called
on_state limit work b w f = on_held b f (slices_short limit work b w) (held limit b)

-- A step. "A refused step or call of one piece changes no store".
abbrev pub step_done : ℕ → List ℕ → Result State → Called
step_done limit b (refused n) = called (refusal n) b
step_done limit b (ok s) = called (accepted 1 0) (put_state limit b s)

unfoldable pub step_outcome : ℕ → ℕ → List ℕ → ℕ → Step → Called
step_outcome limit work b w k = on_state limit work b w (λ s. step_done limit b (state_after limit s k))

-- A steps text: "1 and 18 of the whole steps text before any step is tried, then the others"; "the accepted ones before the refused
-- one stand, and their number is returned".
abbrev pub run_done : ℕ → List ℕ → Stepped → Called
run_done limit b r = called (accepted r.accepted r.refusal) (put_state limit b r.state)

abbrev pub run_read : ℕ → ℕ → List ℕ → ℕ → Result (List Step) → Called
run_read limit work b w (refused n) = called (refusal n) b
run_read limit work b w (ok ks) = on_state limit work b w (λ s. run_done limit b (states_after limit s 0 ks))

unfoldable pub run_outcome : ℕ → ℕ → List ℕ → ℕ → List ℕ → Called
run_outcome limit work b w t = run_read limit work b w (read_steps t)

-- A question for the answer of number n, m being the length of the lent slice.
abbrev pub answer_done : List ℕ → Result (List ℕ) → Called
answer_done b (refused n) = called (refusal n) b
answer_done b (ok t) = called (shown t) b

unfoldable pub answer_outcome : ℕ → ℕ → List ℕ → ℕ → ℕ → ℕ → Called
answer_outcome limit work b w n m = on_state limit work b w (λ s. answer_done b (answer (names_of s) s.config.root n m))

-- A question for the state.
unfoldable pub state_outcome : ℕ → ℕ → List ℕ → ℕ → Called
state_outcome limit work b w = on_state limit work b w (λ s. called (stands (state s.config.root)) b)
