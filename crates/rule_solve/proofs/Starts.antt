-- Stores told from the start, where nothing was told before. Assumes nothing.
use mathlib.Core.Path.{◌≡◌, refl, ap, ◌∙◌, subst}
use mathlib.Core.Logic.{inl}
use mathlib.Core.List.{List, [], ◌∷◌, ◌++◌}
use Prim.Native.Nat.{ℕ, ◌-◌}
use native.Mathlib.Omega.{arith}
use lib.ListN.{get_or}
use Rattle.constraint.specs.Tree.{Label, node, fnil}
use Rattle.constraint.specs.Constraint.{Satisfiable}
use Rattle.mem_numbers.specs.Numbers.{triples, zero_triples}
use Rattle.mem_words.specs.declared.Word.{Word}
use Rattle.mem_parts.specs.Parts.{Zeroed}
use Rattle.solve_tells.proofs.Rooms.{drawn_none}
use Rattle.work_tables.specs.Tables.{cells_of, log_of, Laid, laid_after, length_log}
use Rattle.work_marks.specs.Marks.{Mark, all_told, Walk}
use Rattle.work_marks.proofs.Standing.{all_since}
use Rattle.work_marks.proofs.Walking.{walk_none}
use Rattle.work_enter.specs.Enters.{At}
use Rattle.rule_ranges.specs.Ranges.{Range, told_all}
use Rattle.rule_ranges.specs.Asked.{Roomy, RoomFor, RangesDrawn}
use Rattle.rule_tells.specs.Telling.{CanTellAll, Onward}

-- a walk that begins
pub idle_at : {L : List ℕ} → Walk L [] → At L 0 0 0 []
idle_at w = record { walk = w; is_used = refl; is_trail = refl; is_apps = refl }

-- on cells that are zero
pub start_at : {L A : List ℕ} → Laid L → Zeroed 16384 212992 L A → At A 0 0 0 []
unfolding cells_of
start_at {L} {A} h z = record {
  walk = walk_none A (laid_after h z.rest) (λ x. ap (λ (l : List ℕ). get_or (triples l) x 0) z.part ∙ zero_triples (212992 - 16384) x);
  is_used = refl;
  is_trail = refl;
  is_apps = refl;
}

-- there is room for all ranges
pub idle_can : {W : List Word} {A : List ℕ} {rs : List Range} → Walk A [] → (q : Roomy W) → RoomFor W rs → RangesDrawn W rs (0 ∷ q.others) → CanTellAll W A rs 0 0 0
idle_can {W} {A} {rs} w q r d = record {
  marks = [];
  at = idle_at w;
  within = r.within;
  log = omega (arith, r.log);
  apps = omega (arith, r.apps);
  vars = q.vars;
  others = q.others;
  drawn = d;
  logged = drawn_none (log_of 0 A) (0 ∷ q.others) (inl refl) (length_log 0 w.laid (record { most = omega arith }));
  trail = q.trail;
}

pub start_can : {W : List Word} {L A : List ℕ} {rs : List Range} → Laid L → Zeroed 16384 212992 L A → (q : Roomy W) → RoomFor W rs → RangesDrawn W rs (0 ∷ q.others) → CanTellAll W A rs 0 0 0
start_can h z q r d = idle_can (start_at h z).walk q r d

-- all that is told on the empty walk
pub env_told : (lab : ℕ → Label) (W : List Word) (rs : List Range) (news : List Mark) → all_told lab news ≡ told_all lab W rs → all_told lab (news ++ []) ≡ told_all lab W rs
env_told lab W rs news e = all_since lab news [] ∙ e

-- nothing is satisfied by every assignment
pub none_satisfied : (lab : ℕ → Label) → Satisfiable []
none_satisfied lab = ((λ x. node (lab 0) fnil), tt)

pub env_satisfied : (lab : ℕ → Label) (W : List Word) (rs : List Range) (X : List ℕ) (u n a : ℕ) (o : Onward W rs X u n a []) → Satisfiable (told_all lab W rs)
env_satisfied lab W rs X u n a o = subst Satisfiable (env_told lab W rs o.news (o.told lab)) (o.solved lab (none_satisfied lab))
