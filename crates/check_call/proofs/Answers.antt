-- The answers of a check. Assumes nothing.
use mathlib.Core.Path.{◌≡◌, refl, sym, ap, ◌∙◌}
use mathlib.Core.List.{List}
use mathlib.Core.Bool.{Bool, true, false}
use mathlib.Core.Option.{Option, some, none}
use Prim.Native.Nat.{ℕ}
use Rattle.std.specs.Prelude.{Result, Ok, Err, ⊤}
use Rattle.akl.specs.Base.{is_some}
use Rattle.akl.specs.Limits.{most_parts}
use Rattle.refusals.specs.declared.Refusal.{Refusal}
use Rattle.refusals.specs.Refusals.{refused_with}
use Rattle.store_form.specs.State.{State}
use Rattle.store_calls.specs.Outcomes.{slices_short, held}
use Rattle.store_lent.specs.Lent.{working_bytes}
use Rattle.call_slices.specs.Admitted.{admitted, Admits}
use Rattle.check_call.specs.Refused.{check_of, check_refusal}

same : (t : Bool) (h : Option State) → refused_with (admitted t h) ≡ check_of t (is_some h)
same true h = refl
same false none = refl
same false (some s) = refl

pub told : (b : List ℕ) (w : ℕ) (r : Result ⊤ Refusal) → Admits b w r → refused_with r ≡ check_refusal b w
unfolding check_refusal
told b w r a = ap refused_with a.is ∙ same (slices_short most_parts working_bytes b w) (held most_parts b)
