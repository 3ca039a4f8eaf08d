-- The claim is not about nothing: whatever is asked for, in any order and with any working and output slices, there are calls that do
-- what their contracts say, one after the other on one store's slice, of any length and any bytes. Starts are those that are refused.
use mathlib.Core.Path.{◌≡◌, refl}
use mathlib.Core.List.{List, [], ◌∷◌}
use mathlib.Core.Bool.{Bool, ◌||◌}
use Prim.Native.Nat.{ℕ, zero, suc}
use lib.Dec.{ltb}
use lib.ListN.{length, replicate}
use Rattle.akl.specs.Limits.{most_parts}
use Rattle.akl.specs.Reader.{read_program}
use Rattle.store_form.specs.Sizes.{store_length}
use Rattle.store_calls.specs.Outcomes.{step_outcome, run_outcome, answer_outcome, state_outcome, slices_short, held}
use Rattle.store_calls.specs.Handed.{returned, written}
use Rattle.store_lent.specs.Lent.{working_bytes}
use Rattle.start_outcome.specs.Outcome.{program_refusal, start_refusal, StoreAfter}
use Rattle.call_run.specs.Called.{run_number}
use Rattle.call_answer.specs.Called.{answer_told}
use Rattle.call_state.specs.Called.{state_told}
use Rattle.call_count.specs.Called.{count_told}
use Rattle.call_claim.specs.Host.{Request, for_step, for_run, for_answer, for_state, for_count, for_start, HostCall, Did, History}

-- the request with another output slice after the call
abbrev pub with_out : Request → List ℕ → Request
with_out (for_step k) z = for_step k
with_out (for_run t) z = for_run t
with_out (for_answer n o o') z = for_answer n o z
with_out for_state z = for_state
with_out for_count z = for_count
with_out (for_start t q) z = for_start t q

-- A start with these texts and the working slice u is refused, be the store's slice too short (e) or not.
abbrev pub StartRefused : Request → List ℕ → Type 0
StartRefused (for_step k) u = Unit {0}
StartRefused (for_run t) u = Unit {0}
StartRefused (for_answer n o o') u = Unit {0}
StartRefused for_state u = Unit {0}
StartRefused for_count u = Unit {0}
StartRefused (for_start t q) u = (e : Bool) → program_refusal most_parts (e || ltb (length u) working_bytes) q (read_program t) ≡ 0 → ⊥

-- A call for the request, lent u as the working slice, on the bytes b.
pub record Made (b : List ℕ) (r : Request) (u : List ℕ) : Type 0 where
  pub call : HostCall
  pub out : List ℕ
  pub asks : call.request ≡ with_out r out
  pub lent : call.work ≡ u
  pub left : List ℕ
  pub did : Did call b left

abbrev lend : Request → List ℕ → ℕ → HostCall
lend r u x = record { request = r; work = u; work' = replicate (length u) 0; returned = x }

leaves : (t q b : List ℕ) (x : ℕ) → (x ≡ 0 → ⊥) → StoreAfter most_parts t q b b x
leaves t q b zero h = absurd (h refl)
leaves t q b (suc x) h = refl

pub made : (r : Request) (b u : List ℕ) → StartRefused r u → Made b r u
unfolding start_refusal slices_short
made (for_step k) b u h =
    let o = step_outcome most_parts working_bytes b (length u) k in
    record { call = lend (for_step k) u (returned o.told); out = []; asks = refl; lent = refl; left = o.store; did = record { step = record { refusal = refl; store = refl }; working = refl } }
made (for_run t) b u h =
    let o = run_outcome most_parts working_bytes b (length u) t in
    record { call = lend (for_run t) u (run_number o.told); out = []; asks = refl; lent = refl; left = o.store; did = record { run = record { number = refl; store = refl }; working = refl } }
made (for_answer n o o') b u h =
    let a = answer_outcome most_parts working_bytes b (length u) n (length o) in
    record {
      call = lend (for_answer n o (written o a.told)) u (answer_told a.told);
      out = written o a.told;
      asks = refl;
      lent = refl;
      left = b;
      did = (record { answer = record { number = refl; out = refl }; working = refl }, refl);
    }
made for_state b u h =
    record {
      call = lend for_state u (state_told (state_outcome most_parts working_bytes b (length u)).told);
      out = [];
      asks = refl;
      lent = refl;
      left = b;
      did = (record { state = record { number = refl }; working = refl }, refl);
    }
made for_count b u h =
    record {
      call = lend for_count u (count_told (slices_short most_parts working_bytes b (length u)) (held most_parts b));
      out = [];
      asks = refl;
      lent = refl;
      left = b;
      did = (record { count = record { number = refl }; working = refl }, refl);
    }
made (for_start t q) b u h =
    let x = start_refusal most_parts working_bytes t q b (length u) in
    let z : x ≡ 0 → ⊥ = h (ltb (length b) (store_length most_parts)) in
    record {
      call = lend (for_start t q) u x;
      out = [];
      asks = refl;
      lent = refl;
      left = b;
      did = (record { start = record { refusal = refl; store = leaves t q b x z }; working = refl }, z);
    }

-- the calls ask for these, each lent the slice beside it
abbrev pub Ask : List HostCall → List (Request × List ℕ) → Type 0
Ask [] [] = Unit {0}
Ask [] (r ∷ rs) = ⊥
Ask (k ∷ ks) [] = ⊥
Ask (k ∷ ks) (r ∷ rs) = ((z : List ℕ) × (k.request ≡ with_out r.0 z)) × ((k.work ≡ r.1) × Ask ks rs)

-- each start among the requests is refused with the slice beside it
abbrev pub StartsRefused : List (Request × List ℕ) → Type 0
StartsRefused [] = Unit {0}
StartsRefused (r ∷ rs) = StartRefused r.0 r.1 × StartsRefused rs

pub all_made : (rs : List (Request × List ℕ)) (b : List ℕ) → StartsRefused rs → (ks : List HostCall) × (c : List ℕ) × Ask ks rs × History b ks c
all_made [] b h = ([], b, tt, refl)
all_made (r ∷ rs) b h =
    let m = made r.0 b r.1 h.0 in
    let w = all_made rs m.left h.1 in
    (m.call ∷ w.0, w.1, ((m.out, m.asks), (m.lent, w.2)), (m.left, m.did, w.3))
