-- 8 and 9 as code finds them: the lengths of the slices, and whether the store holds a state. Assumes nothing.
use mathlib.Core.Path.{◌≡◌, refl, sym, ap, ap₂, ◌∙◌}
use mathlib.Core.List.{List}
use mathlib.Core.Bool.{Bool, true, false, ◌||◌}
use mathlib.Core.Option.{Option, some, none}
use Prim.Native.Nat.{ℕ, ◌≤◌, ◌<◌}
use native.Mathlib.Omega.{arith}
use borrow.Author.Tests.{lt-ltb, le-ltb, ltb-false}
use lib.Dec.{ltb}
use lib.ListN.{length}
use Rattle.akl.specs.Base.{is_some}
use Rattle.akl.specs.Limits.{most_parts}
use Rattle.store_form.specs.Sizes.{store_length}
use Rattle.store_form.specs.State.{State}
use Rattle.store_form.proofs.Lengths.{lengths}
use Rattle.runs.specs.Outcomes.{refusal}
use Rattle.store_calls.specs.Outcomes.{Called, called, slices_short, held, on_held, on_state}
use Rattle.store_lent.specs.Lent.{working_bytes}
use Rattle.check_store.specs.Store.{Formed}
use Rattle.step_meant.specs.Deciding.{HoldsState}
use Rattle.refusals.specs.declared.Refusal.{Refusal}
use Rattle.refusals.specs.declared.Refusal.TheVariants.{TooShort, NotWellFormed}
use Rattle.refusals.specs.Refusals.{number_of}
use Rattle.std.specs.Prelude.{Result, Ok, Err, ⊤}
use Rattle.call_slices.specs.Admitted.{admitted, Admits}

pub store_short : (b : List ℕ) (w : ℕ) → length b < 245853 → slices_short most_parts working_bytes b w ≡ true
unfolding slices_short
store_short b w h = ap (λ (x : Bool). x || ltb w working_bytes) (lt-ltb (length b) (store_length most_parts) (omega (arith, lengths.0, h)))

pub working_short : (b : List ℕ) (w : ℕ) → 245853 ≤ length b → w < 524288 → slices_short most_parts working_bytes b w ≡ true
unfolding slices_short
working_short b w h g = ap₂ (λ (x y : Bool). x || y) (le-ltb (length b) (store_length most_parts) (omega (arith, lengths.0, h))) (lt-ltb w working_bytes g)

pub long_enough : (b : List ℕ) (w : ℕ) → 245853 ≤ length b → 524288 ≤ w → slices_short most_parts working_bytes b w ≡ false
unfolding slices_short
long_enough b w h g = ap₂ (λ (x y : Bool). x || y) (le-ltb (length b) (store_length most_parts) (omega (arith, lengths.0, h))) (le-ltb w working_bytes g)

abbrev as_number : Bool → ℕ
as_number true = 1
as_number false = 0

-- 9
pub none_formed : (b : List ℕ) (t : Bool) → t ≡ false → Formed b t → held most_parts b ≡ none
none_formed b t e f = go (held most_parts b) (sym e ∙ f.is)
  where
    go : (o : Option State) → false ≡ is_some o → o ≡ none
    go none q = refl
    go (some s) q = absurd (let z : ◌≡◌ {A = ℕ} 0 1 = ap as_number q in omega arith)

pub some_formed : (b : List ℕ) (t : Bool) → t ≡ true → Formed b t → HoldsState b
some_formed b t e f = go (held most_parts b) refl (sym e ∙ f.is)
  where
    go : (o : Option State) → held most_parts b ≡ o → true ≡ is_some o → HoldsState b
    go none h q = absurd (let z : ◌≡◌ {A = ℕ} 1 0 = ap as_number q in omega arith)
    go (some s) h q = record { state = s; holds = h }

-- What a call that goes on knows.
pub record GoesOn (b : List ℕ) (w : ℕ) : Type 0 where
  pub store : 245853 ≤ length b
  pub working : 524288 ≤ w
  pub long : slices_short most_parts working_bytes b w ≡ false
  pub state : HoldsState b

long_slices : (b : List ℕ) (w : ℕ) → slices_short most_parts working_bytes b w ≡ false → (245853 ≤ length b) × (524288 ≤ w)
unfolding slices_short
long_slices b w = go (ltb (length b) (store_length most_parts)) (ltb w working_bytes) refl refl
  where
    go : (x y : Bool) → ltb (length b) (store_length most_parts) ≡ x → ltb w working_bytes ≡ y → (x || y) ≡ false → (245853 ≤ length b) × (524288 ≤ w)
    go false false p q e = (omega (arith, lengths.0, ltb-false (length b) (store_length most_parts) p), ltb-false w working_bytes q)
    go false true p q e = absurd (let z : ◌≡◌ {A = ℕ} 1 0 = ap as_number e in omega arith)
    go true y p q e = absurd (let z : ◌≡◌ {A = ℕ} 1 0 = ap as_number e in omega arith)

abbrev is_ok_number : Result ⊤ Refusal → ℕ
is_ok_number (Ok u) = 1
is_ok_number (Err e) = 0

pub goes_on : (b : List ℕ) (w : ℕ) (u : ⊤) → Admits b w (Ok u) → GoesOn b w
goes_on b w u a = go (slices_short most_parts working_bytes b w) (held most_parts b) refl refl (ap is_ok_number a.is)
  where
    go : (t : Bool) (h : Option State) → slices_short most_parts working_bytes b w ≡ t → held most_parts b ≡ h → 1 ≡ is_ok_number (admitted t h) → GoesOn b w
    go true h p q z = absurd (omega arith)
    go false none p q z = absurd (omega arith)
    go false (some s) p q z = record { store = (long_slices b w p).0; working = (long_slices b w p).1; long = p; state = record { state = s; holds = q } }

abbrev as_refused : Result ⊤ Refusal → ℕ
as_refused (Ok u) = 0
as_refused (Err e) = number_of e

not_admitted : (e : Refusal) (s : State) → ◌≡◌ {A = Result ⊤ Refusal} (Err e) (admitted false (some s)) → ⊥
not_admitted e s z = let y : ◌≡◌ {A = ℕ} 0 1 = ap is_ok_number z in omega arith

-- A refused call: whatever function of the two gives 8 and 9 gives the refusal's number.
pub refused_first : (g : Bool → Option State → ℕ) → ((h : Option State) → g true h ≡ 8) → g false none ≡ 9 → (b : List ℕ) (w : ℕ) (e : Refusal) → Admits b w (Err e) → number_of e ≡ g (slices_short most_parts working_bytes b w) (held most_parts b)
refused_first g g8 g9 b w e a = go (slices_short most_parts working_bytes b w) (held most_parts b) a.is
  where
    go : (t : Bool) (h : Option State) → Err e ≡ admitted t h → number_of e ≡ g t h
    go true h z = ap as_refused z ∙ sym (g8 h)
    go false none z = ap as_refused z ∙ sym g9
    go false (some s) z = absurd (not_admitted e s z)

-- It is refused with that number, whatever would be done with the state, and leaves the store.
pub refused_call : (b : List ℕ) (w : ℕ) (e : Refusal) → Admits b w (Err e) → (f : State → Called) → on_state most_parts working_bytes b w f ≡ called (refusal (number_of e)) b
unfolding on_state
refused_call b w e a f = go (slices_short most_parts working_bytes b w) (held most_parts b) a.is
  where
    go : (t : Bool) (h : Option State) → Err e ≡ admitted t h → on_held b f t h ≡ called (refusal (number_of e)) b
    go true h z = ap (λ (n : ℕ). called (refusal n) b) (sym (ap as_refused z))
    go false none z = ap (λ (n : ℕ). called (refusal n) b) (sym (ap as_refused z))
    go false (some s) z = absurd (not_admitted e s z)

-- the answers of `formed_or_refused`
pub to_8 : (b : List ℕ) (w : ℕ) → slices_short most_parts working_bytes b w ≡ true → Admits b w (Err TooShort)
to_8 b w e = record { is = ap (λ (x : Bool). admitted x (held most_parts b)) (sym e) }

pub to_9 : (b : List ℕ) (w : ℕ) → slices_short most_parts working_bytes b w ≡ false → held most_parts b ≡ none → Admits b w (Err NotWellFormed)
to_9 b w e h = record { is = ap₂ admitted (sym e) (sym h) }

pub to_ok : (b : List ℕ) (w : ℕ) → slices_short most_parts working_bytes b w ≡ false → HoldsState b → Admits b w (Ok tt)
to_ok b w e h = record { is = ap₂ admitted (sym e) (sym h.holds) }
