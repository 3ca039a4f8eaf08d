-- What a walk knows where it stands: the and-box that was entered last has a solution; and tables in which the walk's are not changed.
-- Assumes nothing.
use mathlib.Core.Path.{◌≡◌, sym, subst}
use mathlib.Core.Bool.{Bool, true, false}
use mathlib.Core.List.{List, ◌∷◌}
use Prim.Native.Nat.{ℕ, ◌+◌}
use Rattle.constraint.specs.Constraint.{Store, Quiet}
use Rattle.mem_numbers.specs.Decides.{Decides}
use Rattle.mem_words.specs.declared.Word.{Word}
use Rattle.solve_tells.specs.Draws.{Drawn}
use Rattle.work_tables.specs.Tables.{log_of}
use Rattle.work_marks.specs.Marks.{Mark}
use Rattle.work_enter.specs.Enters.{At}
use Rattle.rule_ranges.specs.Asked.{SatIn}
use Rattle.rule_ranges.proofs.Alike.{Alike}
use Rattle.step_frames.specs.Frames.{frames_of}
use Rattle.step_turn.specs.Boxes.{Framed}
use Rattle.step_turn.specs.Stood.{Stood}
use Rattle.step_turn.proofs.Stores.{around_alike}

-- all that was told has a solution, and so have the stores around the position
pub stood_sat : {W : List Word} {g from j d k used n a : ℕ} {X : List ℕ} → Stood W g from X (j + 1) d k used n a → SatIn W j true
stood_sat {W} {g} {from} {j} s = record { right = λ lab h. let q = s.solved lab in (q.0, ((around_alike W g s.env from s.outer lab (j + 1) s.brackets s.opened.chain s.told).sats q.0).1 q.1) }

-- an answer on stores is that on stores that are like them
pub quiet_alike : (r : Bool) (vs : List ℕ) {e e' θ θ' : Store} → Alike e e' → Alike θ θ' → Decides (Quiet vs e' θ') r → Decides (Quiet vs e θ) r
quiet_alike true vs a b q = λ ρ x. let w = q ρ ((a.sats ρ).0 x) in (w.0, w.1, (b.sats w.0).1 w.2)
quiet_alike false vs a b q = λ p. q (λ ρ x. let w = p ρ ((a.sats ρ).1 x) in (w.0, w.1, (b.sats w.0).0 w.2))

-- the stack, the log and the walk are as they were
pub stood_still : {W : List Word} {g from j d k used n a : ℕ} {X Y : List ℕ} → ((ms : List Mark) → At X used n a ms → At Y used n a ms) → frames_of Y ≡ frames_of X → log_of used Y ≡ log_of used X → Stood W g from X j d k used n a → Stood W g from Y j d k used n a
stood_still h ef el s = record {
  env = s.env;
  brackets = s.brackets;
  outer = s.outer;
  opened = s.opened;
  told = s.told;
  framed = subst (λ (F : List ℕ). Framed F s.env s.brackets) (sym ef) s.framed;
  depth = s.depth;
  height = s.height;
  at = h _ s.at;
  solved = s.solved;
  logged = λ us q. subst (λ (l : List Word). Drawn l (0 ∷ us)) (sym el) (s.logged us q);
}
