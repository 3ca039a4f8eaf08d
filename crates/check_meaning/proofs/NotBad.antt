-- No word that the machine takes is `Bad`.
use mathlib.Core.Path.{subst}
use mathlib.Core.List.{List, [], ◌∷◌}
use mathlib.Core.Bool.{Bool}
use Prim.Native.Nat.{ℕ}
use lib.Dec.{T}
use Rattle.mem_words.specs.declared.Word.{Word}
use Rattle.mem_words.specs.declared.Word.TheVariants.{Bad}
use Rattle.mem_words.specs.Form.{NoBad}
use Rattle.check_shapes.specs.declared.Frame.{Frame}
use Rattle.check_shapes.specs.declared.Frame.TheVariants.{Close, Var2, Var1, AppVar, AppNum, Args, CallNum, CallArgs, One, Comp2, Clause2, HideNum, ClauseNum, Clauses1, Clauses, Head, Arity, Body, Root, Done, Goals, AndLocals, AndStore, Members, Locals, Constraints, Guards, Guard}
use Rattle.check_shapes.specs.declared.Move.{Move}
use Rattle.check_shapes.specs.declared.Move.TheVariants.{Stop, Stay, Push, Pop}
use Rattle.check_shapes.specs.Machine.{step, act, run}

module _ (con pred : ℕ → Bool) (def : ℕ → ℕ → Bool) (free : Bool) where
  stops : (x : Frame) (k : Frame → List Frame → Bool) (st : List Frame) → T (act (step con pred def free x Bad) k st) → ⊥
  stops Close k st t = t
  stops (Var2 n) k st t = t
  stops (Var1 n) k st t = t
  stops (AppVar n) k st t = t
  stops (AppNum n) k st t = t
  stops (Args n j) k st t = t
  stops (CallNum n) k st t = t
  stops (CallArgs n p j) k st t = t
  stops (One n d) k st t = t
  stops (Comp2 n d) k st t = t
  stops (Clause2 n d) k st t = t
  stops (HideNum n d) k st t = t
  stops (ClauseNum n d) k st t = t
  stops (Clauses1 n d) k st t = t
  stops (Clauses n d) k st t = t
  stops Head k st t = t
  stops Arity k st t = t
  stops (Body n) k st t = t
  stops Root k st t = t
  stops Done k st t = t
  stops Goals k st t = t
  stops AndLocals k st t = t
  stops AndStore k st t = t
  stops Members k st t = t
  stops Locals k st t = t
  stops Constraints k st t = t
  stops Guards k st t = t
  stops Guard k st t = t

  -- whatever a word does, the rest is taken in some frame
  goes_on : (m : Move) (l : List Word) (st : List Frame) → ((y : Frame) (u : List Frame) → T (run con pred def free l y u) → NoBad l) → T (act m (run con pred def free l) st) → NoBad l
  goes_on Stop l st h t = absurd t
  goes_on (Stay y) l st h t = h y st t
  goes_on (Push y z) l st h t = h y (z ∷ st) t
  goes_on Pop l [] h t = absurd t
  goes_on Pop l (y ∷ st) h t = h y st t

  pub no_bad : (ws : List Word) (x : Frame) (st : List Frame) → T (run con pred def free ws x st) → NoBad ws
  unfolding run
  no_bad [] x st t = tt
  no_bad (w ∷ l) x st t = (
    λ e. stops x (run con pred def free l) st (subst (λ (v : Word). T (act (step con pred def free x v) (run con pred def free l) st)) e t),
    goes_on (step con pred def free x w) l st (λ y u h. no_bad l y u h) t,
  )
