-- Calls on any bytes: what is held, in which order refusals come, and lists of calls cut in two.
use mathlib.Core.Path.{◌≡◌, refl, ap, sym, ◌∙◌, subst}
use mathlib.Core.Logic.{◌↔◌}
use mathlib.Core.List.{List, [], ◌∷◌, ◌++◌}
use mathlib.Core.Bool.{Bool, true, false}
use mathlib.Core.Option.{Option, some, none, some-injective}
use Prim.Native.Nat.{ℕ, ◌≤◌}
use native.Mathlib.Omega.{arith}
use lib.Dec.{T}
use lib.ListN.{take}
use Rattle.akl.specs.Base.{size, nth, refused, when, ◌>>=◌}
use Rattle.akl.specs.StepsText.{read_steps}
use Rattle.runs.specs.Outcomes.{refusal}
use Rattle.store_form.specs.Sizes.{store_length}
use Rattle.store_form.specs.State.{State, well_formed_state}
use Rattle.store_form.specs.Holding.{Holds, read_store}
use Rattle.store_form.proofs.Reading.{holds_read}
use Rattle.store_steps.specs.After.{Stands}
use Rattle.store_calls.specs.Outcomes.{Called, called, slices_short, held, on_held, on_state, run_read, run_outcome}
use Rattle.store_calls.specs.Calls.{ByteCall, call_outcome, bytes_after, outcomes_on}

none_is_not : {A : Type 0} (a : A) → ◌≡◌ {A = Option A} none (some a) → ⊥
none_is_not {A} a e = let z : ◌≡◌ {A = ℕ} 0 1 = ap (λ (o : Option A). elim o as (λ v. ℕ) [ none ↦ 0 | some x ↦ 1 ]) e in omega arith

-- The state that a slice holds: its first bytes are that state's, and it is well formed; and none otherwise.
pub held_iff : (limit : ℕ) → limit ≤ 65536 → (b : List ℕ) (s : State) → (held limit b ≡ some s) ↔ (Holds limit (take (store_length limit) b) s × T (well_formed_state limit s))
unfolding held
held_iff limit low b s = (λ e. there (read_store limit (take (store_length limit) b)) refl e, λ h. back h.0 h.1)
  where
    tested : (t : State) (u : Bool) → well_formed_state limit t ≡ u → when u t ≡ some s → read_store limit (take (store_length limit) b) ≡ some t → Holds limit (take (store_length limit) b) s × T (well_formed_state limit s)
    tested t true e w r =
        let q : t ≡ s = some-injective t s w in
        ((holds_read limit low (take (store_length limit) b) s).0 (r ∙ ap (λ (x : State). some x) q), subst (λ (x : State). T (well_formed_state limit x)) q (subst T (sym e) tt))
    tested t false e w r = absurd (none_is_not s w)

    there : (o : Option State) → read_store limit (take (store_length limit) b) ≡ o → (o >>= λ t. when (well_formed_state limit t) t) ≡ some s → Holds limit (take (store_length limit) b) s × T (well_formed_state limit s)
    there none r w = absurd (none_is_not s w)
    there (some t) r w = tested t (well_formed_state limit t) refl w r

    pass : (u : Bool) → T u → when u s ≡ some s
    pass true t = refl
    pass false t = absurd t

    back : Holds limit (take (store_length limit) b) s → T (well_formed_state limit s) → (read_store limit (take (store_length limit) b) >>= λ t. when (well_formed_state limit t) t) ≡ some s
    back h t = ap (λ (o : Option State). o >>= λ x. when (well_formed_state limit x) x) ((holds_read limit low (take (store_length limit) b) s).1 h) ∙ pass (well_formed_state limit s) t

-- A state that is held has bytes and is well formed.
pub held_stands : (limit : ℕ) → limit ≤ 65536 → (b : List ℕ) (s : State) → held limit b ≡ some s → Stands limit s
held_stands limit low b s e = let h = (held_iff limit low b s).0 e in record { fits = h.0.fits; formed = h.1 }

-- ---------------------------------------------------------------------------------------------
-- The order of refusals: 8, then 9, then what is done with the state that is held.

module _ (limit work : ℕ) (b : List ℕ) (w : ℕ) (f : State → Called) where
  pub short_first : slices_short limit work b w ≡ true → on_state limit work b w f ≡ called (refusal 8) b
  unfolding on_state
  short_first e = ap (λ (u : Bool). on_held b f u (held limit b)) e

  pub none_held : slices_short limit work b w ≡ false → held limit b ≡ none → on_state limit work b w f ≡ called (refusal 9) b
  unfolding on_state
  none_held e h = ap (λ (u : Bool). on_held b f u (held limit b)) e ∙ ap (on_held b f false) h

  pub some_held : slices_short limit work b w ≡ false → (s : State) → held limit b ≡ some s → on_state limit work b w f ≡ f s
  unfolding on_state
  some_held e s h = ap (λ (u : Bool). on_held b f u (held limit b)) e ∙ ap (on_held b f false) h

-- A steps text that is refused for itself is refused before its slices and its store are looked at.
pub text_first : (limit work : ℕ) (b : List ℕ) (w : ℕ) (t : List ℕ) (n : ℕ) → read_steps t ≡ refused n → run_outcome limit work b w t ≡ called (refusal n) b
unfolding run_outcome
text_first limit work b w t n e = ap (run_read limit _ b w) e

-- ---------------------------------------------------------------------------------------------
-- A list of calls, cut at one of them: it is made on the bytes that those before it left.

module _ (limit work : ℕ) where
  pub bytes_cut : (js : List ByteCall) (k : ByteCall) (ls : List ByteCall) (b : List ℕ) → bytes_after limit work b (js ++ (k ∷ ls)) ≡ bytes_after limit work (call_outcome limit work (bytes_after limit work b js) k).store ls
  unfolding bytes_after
  bytes_cut [] k ls b = refl
  bytes_cut (j ∷ js) k ls b = bytes_cut js k ls (call_outcome limit work b j).store

  pub told_cut : (js : List ByteCall) (k : ByteCall) (ls : List ByteCall) (b : List ℕ) → nth (outcomes_on limit work b (js ++ (k ∷ ls))) (size js) ≡ some (call_outcome limit work (bytes_after limit work b js) k).told
  unfolding bytes_after outcomes_on nth size
  told_cut [] k ls b = refl
  told_cut (j ∷ js) k ls b = told_cut js k ls (call_outcome limit work b j).store
