-- What holds a node stands where the bracket around the node opens. The whole configuration is held by nothing: both are 0.
use mathlib.Core.Path.{◌≡◌, refl, ap}
use mathlib.Core.List.{List}
use Prim.Native.Nat.{ℕ}
use Rattle.akl.specs.Base.{Name}
use Rattle.akl.specs.Configuration as akl
use Rattle.akl.specs.Configuration.{Node, or, and, choice_box, guard, cons, ◌+n◌, Ctx, top, in_or, in_and, in_choice, in_guard, plug}
use Rattle.akl.specs.Places.{place_number, holder_number}
use Rattle.mem_words.specs.declared.Word.{Word}
use Rattle.store_words.specs.Contexts.{before}
use Rattle.rule_words.specs.Scans.{up, around}
use Rattle.rule_effects.specs.Standing.{Stands}
use Rattle.rule_effects.proofs.Members.{and_around}
use Rattle.rule_effects.proofs.Guarded.{choice_around}
use Rattle.rule_kinds.proofs.Around.{or_around, guard_around}

pub record Holder (num : Name → ℕ) {k : akl.Kind} (χ : Ctx k) (Z W : List Word) (i : ℕ) : Type 0 where
  pub kind : akl.Kind
  pub ctx : Ctx kind
  pub node : Node kind
  pub stands : Stands num ctx node Z W (around W i)
  pub number : place_number ctx ≡ holder_number χ

pub holder_stands : (num : Name → ℕ) {k : akl.Kind} (χ : Ctx k) {n : Node k} {Z W : List Word} {i : ℕ} → Stands num χ n Z W i → Holder num χ Z W i
unfolding plug place_number holder_number before around up
holder_stands num top {n} {Z} {W} {i} s = record { kind = akl.goal; ctx = top; node = n; stands = record { whole = s.whole; begins = ap (around W) s.begins }; number = refl }
holder_stands num (in_or χ l r) {n} s = record { kind = akl.goal; ctx = χ; node = or (l +n cons n r); stands = record { whole = s.whole; begins = or_around num s }; number = refl }
holder_stands num (in_and χ vs σ l r) {n} s = record { kind = akl.goal; ctx = χ; node = and vs σ (l +n cons n r); stands = record { whole = s.whole; begins = and_around num s }; number = refl }
holder_stands num (in_choice χ op l r) {n} s = record { kind = akl.member; ctx = χ; node = choice_box op (l +n cons n r); stands = record { whole = s.whole; begins = choice_around num s }; number = refl }
holder_stands num (in_guard χ b) {n} s = record { kind = akl.guarded; ctx = χ; node = guard n b; stands = record { whole = s.whole; begins = guard_around num s }; number = refl }
