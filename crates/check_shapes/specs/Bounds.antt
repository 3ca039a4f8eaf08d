-- Frames whose numbers stay below bounds, so that those which are left behind an opened bracket fit four bytes. Assumes nothing.
use Rattle.std.specs.Prelude.{◌≡◌, refl, ℕ, zero, suc, ◌+◌, ◌*◌, ◌/◌, ◌%◌, ◌<◌}
use Rattle.std.proofs.Common.{ap, ap₂, ◌∙◌, arith}
use Rattle.akl.specs.Limits.{most_depth}
use Rattle.check_shapes.specs.declared.Frame.{Frame}
use Rattle.check_shapes.specs.declared.Frame.TheVariants.{Close, Var2, Var1, AppVar, AppNum, Args, CallNum, CallArgs, One, Comp2, Clause2, HideNum, ClauseNum, Clauses1, Clauses, Head, Arity, Body, Root, Done, Goals, AndLocals, AndStore, Members, Locals, Constraints, Guards, Guard}

-- variables bound around, and depth left
pub record Low (n d : ℕ) : Type 0 where
  pub levels : n < 4194304
  pub depth : d < 64

abbrev pub Bounded : Frame → Type 0
Bounded Close = Unit {0}
Bounded (Var2 n) = Unit {0}
Bounded (Var1 n) = Unit {0}
Bounded (AppVar n) = Unit {0}
Bounded (AppNum n) = Unit {0}
Bounded (Args n d) = Unit {0}
Bounded (CallNum n) = Unit {0}
Bounded (CallArgs n p k) = Unit {0}
Bounded (One n d) = Low n d
Bounded (Comp2 n d) = Low n d
Bounded (Clause2 n d) = Low n d
Bounded (HideNum n d) = Low n d
Bounded (ClauseNum n d) = Low n d
Bounded (Clauses1 n d) = Low n d
Bounded (Clauses n d) = Low n d
Bounded Head = Unit {0}
Bounded Arity = Unit {0}
Bounded (Body n) = Low n most_depth
Bounded Root = Unit {0}
Bounded Done = Unit {0}
Bounded Goals = Unit {0}
Bounded AndLocals = Unit {0}
Bounded AndStore = Unit {0}
Bounded Members = Unit {0}
Bounded Locals = Unit {0}
Bounded Constraints = Unit {0}
Bounded Guards = Unit {0}
Bounded Guard = Unit {0}

-- a frame that may be left behind
abbrev pub Left : Frame → Type 0
Left Close = Unit {0}
Left (Var2 n) = ⊥
Left (Var1 n) = ⊥
Left (AppVar n) = ⊥
Left (AppNum n) = ⊥
Left (Args n d) = ⊥
Left (CallNum n) = ⊥
Left (CallArgs n p k) = ⊥
Left (One n d) = Low n d
Left (Comp2 n d) = ⊥
Left (Clause2 n d) = ⊥
Left (HideNum n d) = ⊥
Left (ClauseNum n d) = ⊥
Left (Clauses1 n d) = ⊥
Left (Clauses n d) = Low n d
Left Head = Unit {0}
Left Arity = ⊥
Left (Body n) = ⊥
Left Root = ⊥
Left Done = Unit {0}
Left Goals = Unit {0}
Left AndLocals = ⊥
Left AndStore = Unit {0}
Left Members = Unit {0}
Left Locals = ⊥
Left Constraints = Unit {0}
Left Guards = Unit {0}
Left Guard = ⊥

-- its number
unfoldable pub frame_number : Frame → ℕ
frame_number Close = 0
frame_number (Var2 n) = 0
frame_number (Var1 n) = 0
frame_number (AppVar n) = 0
frame_number (AppNum n) = 0
frame_number (Args n d) = 0
frame_number (CallNum n) = 0
frame_number (CallArgs n p k) = 0
frame_number (One n d) = 1 + 16 * d + 1024 * n
frame_number (Comp2 n d) = 0
frame_number (Clause2 n d) = 0
frame_number (HideNum n d) = 0
frame_number (ClauseNum n d) = 0
frame_number (Clauses1 n d) = 0
frame_number (Clauses n d) = 2 + 16 * d + 1024 * n
frame_number Head = 3
frame_number Arity = 0
frame_number (Body n) = 0
frame_number Root = 0
frame_number Done = 4
frame_number Goals = 5
frame_number AndLocals = 0
frame_number AndStore = 6
frame_number Members = 7
frame_number Locals = 0
frame_number Constraints = 8
frame_number Guards = 9
frame_number Guard = 0

-- the frame of a kind, a depth and a number of levels
unfoldable pub frame_of : ℕ → ℕ → ℕ → Frame
frame_of zero d n = Close
frame_of (suc zero) d n = One n d
frame_of (suc (suc zero)) d n = Clauses n d
frame_of (suc (suc (suc zero))) d n = Head
frame_of (suc (suc (suc (suc zero)))) d n = Done
frame_of (suc (suc (suc (suc (suc zero))))) d n = Goals
frame_of (suc (suc (suc (suc (suc (suc zero)))))) d n = AndStore
frame_of (suc (suc (suc (suc (suc (suc (suc zero))))))) d n = Members
frame_of (suc (suc (suc (suc (suc (suc (suc (suc zero)))))))) d n = Constraints
frame_of (suc (suc (suc (suc (suc (suc (suc (suc (suc k))))))))) d n = Guards

unfoldable pub number_frame : ℕ → Frame
number_frame v = frame_of (v % 16) (v / 16 % 64) (v / 1024)

low_number : (b n d : ℕ) → b < 16 → Low n d → ((b + 16 * d + 1024 * n) % 16 ≡ b) × ((b + 16 * d + 1024 * n) / 16 % 64 ≡ d) × ((b + 16 * d + 1024 * n) / 1024 ≡ n) × (b + 16 * d + 1024 * n < 4294967296)
low_number b n d h l = let i = l.levels in let j = l.depth in (omega arith, omega arith, omega arith, omega arith)

pub frame_back : (x : Frame) → Left x → number_frame (frame_number x) ≡ x
unfolding number_frame frame_number frame_of
frame_back Close h = refl
frame_back (Var2 n) h = absurd h
frame_back (Var1 n) h = absurd h
frame_back (AppVar n) h = absurd h
frame_back (AppNum n) h = absurd h
frame_back (Args n d) h = absurd h
frame_back (CallNum n) h = absurd h
frame_back (CallArgs n p k) h = absurd h
frame_back (One n d) h = let e = low_number 1 n d (omega arith) h in ap (λ (k : ℕ). frame_of k ((1 + 16 * d + 1024 * n) / 16 % 64) ((1 + 16 * d + 1024 * n) / 1024)) e.0 ∙ ap₂ One e.2 e.1
frame_back (Comp2 n d) h = absurd h
frame_back (Clause2 n d) h = absurd h
frame_back (HideNum n d) h = absurd h
frame_back (ClauseNum n d) h = absurd h
frame_back (Clauses1 n d) h = absurd h
frame_back (Clauses n d) h = let e = low_number 2 n d (omega arith) h in ap (λ (k : ℕ). frame_of k ((2 + 16 * d + 1024 * n) / 16 % 64) ((2 + 16 * d + 1024 * n) / 1024)) e.0 ∙ ap₂ Clauses e.2 e.1
frame_back Head h = refl
frame_back Arity h = absurd h
frame_back (Body n) h = absurd h
frame_back Root h = absurd h
frame_back Done h = refl
frame_back Goals h = refl
frame_back AndLocals h = absurd h
frame_back AndStore h = refl
frame_back Members h = refl
frame_back Locals h = absurd h
frame_back Constraints h = refl
frame_back Guards h = refl
frame_back Guard h = absurd h

pub frame_small : (x : Frame) → Left x → frame_number x < 4294967296
unfolding frame_number
frame_small Close h = omega arith
frame_small (Var2 n) h = absurd h
frame_small (Var1 n) h = absurd h
frame_small (AppVar n) h = absurd h
frame_small (AppNum n) h = absurd h
frame_small (Args n d) h = absurd h
frame_small (CallNum n) h = absurd h
frame_small (CallArgs n p k) h = absurd h
frame_small (One n d) h = (low_number 1 n d (omega arith) h).3
frame_small (Comp2 n d) h = absurd h
frame_small (Clause2 n d) h = absurd h
frame_small (HideNum n d) h = absurd h
frame_small (ClauseNum n d) h = absurd h
frame_small (Clauses1 n d) h = absurd h
frame_small (Clauses n d) h = (low_number 2 n d (omega arith) h).3
frame_small Head h = omega arith
frame_small Arity h = absurd h
frame_small (Body n) h = absurd h
frame_small Root h = absurd h
frame_small Done h = omega arith
frame_small Goals h = omega arith
frame_small AndLocals h = absurd h
frame_small AndStore h = omega arith
frame_small Members h = omega arith
frame_small Locals h = absurd h
frame_small Constraints h = omega arith
frame_small Guards h = omega arith
frame_small Guard h = absurd h

pub frame_bounded : (v : ℕ) → v < 4294967296 → Bounded (number_frame v)
unfolding number_frame frame_of
frame_bounded v h = go (v % 16) (v / 16 % 64) (v / 1024) (omega arith) (omega arith)
  where
    go : (k d n : ℕ) → d < 64 → n < 4194304 → Bounded (frame_of k d n)
    go zero d n a b = tt
    go (suc zero) d n a b = record { levels = b; depth = a }
    go (suc (suc zero)) d n a b = record { levels = b; depth = a }
    go (suc (suc (suc zero))) d n a b = tt
    go (suc (suc (suc (suc zero)))) d n a b = tt
    go (suc (suc (suc (suc (suc zero))))) d n a b = tt
    go (suc (suc (suc (suc (suc (suc zero)))))) d n a b = tt
    go (suc (suc (suc (suc (suc (suc (suc zero))))))) d n a b = tt
    go (suc (suc (suc (suc (suc (suc (suc (suc zero)))))))) d n a b = tt
    go (suc (suc (suc (suc (suc (suc (suc (suc (suc k))))))))) d n a b = tt
