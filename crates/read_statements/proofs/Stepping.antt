-- Simple statements one after another, with the open brackets on the stack.
use mathlib.Core.Path.{◌≡◌, refl, ap, sym, ◌∙◌, subst}
use mathlib.Core.Logic.{inl, inr}
use mathlib.Core.List.{List, ◌∷◌}
use mathlib.Core.Option.{some}
use Prim.Native.Nat.{ℕ, ◌+◌, ◌-◌, ◌≤◌, ◌<◌}
use native.Mathlib.Omega.{arith}
use lib.ListN.{length, set, length-set}
use Rattle.akl.specs.Base.{Name}
use Rattle.akl.specs.Grammar.{Simple}
use Rattle.akl.specs.Parse.{Read}
use Rattle.descent.specs.Descent.{the_statement, the_simple}
use Rattle.descent.specs.Frames.{Opens}
use Rattle.descent.proofs.Frames.{opens_start, opens_bracket, bracket_odd, simple_odd}
use Rattle.read_phrases.specs.Codes.{toks}
use Rattle.read_phrases.specs.Phrases.{Reserved, HiddenTo, SimpleAt}
use Rattle.read_phrases.specs.Phrases as p
use Rattle.read_phrases.specs.declared.Phrase.TheVariants.{To, Odd as NoPhrase}
use Rattle.read_phrases.specs.declared.Constraint.{Constraint}
use Rattle.read_phrases.specs.declared.Simple.TheVariants.{Atom, Program, Bracket, Odd as NoSimple}
use Rattle.read_statements.specs.Statements.{frames, Followed, Stepped, StatementTo}
use Rattle.read_statements.specs.declared.Onward.{Onward}
use Rattle.read_statements.specs.declared.Onward.TheVariants.{Next, Done}
use Rattle.read_statements.specs.declared.Unparsed.{Unparsed}
use Rattle.read_statements.specs.declared.Unparsed.TheVariants.{Odd, Short}
use Rattle.std.specs.Prelude as std
use Rattle.read_statements.proofs.Following.{frames_new}

-- ---------------------------------------------------------------------------------------------
-- One simple statement.

-- a simple statement that was read, and what follows it
step_on : (L S S' : List ℕ) (at rest h : ℕ) (r : std.Result Onward Unparsed) → p.Read L at rest → ((w : ℕ → Name) → Reserved w L → (s : Simple) × (the_simple (toks w L at) ≡ some (s, toks w L rest))) → Followed L S rest h S' r → Stepped L S at h S' r
step_on L S S' at rest h (std.Ok (Next i height)) q e f =
    let a = q.behind in
    let u = f.forward in
    record { long = f.long; forward = (omega (arith, u.0), u.1, omega (arith, u.2), u.3); says = λ w G k o. f.says w G (record { from = toks w L at; read = (e w k).0; opens = o; reads = (e w k).1 }) }
step_on L S S' at rest h (std.Ok (Done j)) q e f =
    let a = q.behind in
    let u = f.forward in
    record { long = f.long; forward = (omega (arith, u.0), u.1); says = λ w G k o. f.says w G (record { from = toks w L at; read = (e w k).0; opens = o; reads = (e w k).1 }) }
step_on L S S' at rest h (std.Err Odd) q e f = record { long = f.long; forward = tt; says = λ w G k o. f.says w G (record { from = toks w L at; read = (e w k).0; opens = o; reads = (e w k).1 }) }
step_on L S S' at rest h (std.Err Short) q e f =
    let a = q.behind in
    record { long = f.long; forward = (f.forward.0, omega (arith, f.forward.1)); says = λ w G k o. tt }

module _ (L S : List ℕ) (at h : ℕ) where
  pub step_atom : (S' : List ℕ) (rest : ℕ) (c : Constraint) (r : std.Result Onward Unparsed) → SimpleAt L at (Atom c rest) → Followed L S rest h S' r → Stepped L S at h S' r
  step_atom S' rest c r a f = step_on L S S' at rest h r a.0 (λ w k. (_, a.1 w k)) f

  pub step_program : (S' : List ℕ) (name first count rest : ℕ) (r : std.Result Onward Unparsed) → SimpleAt L at (Program name first count rest) → Followed L S rest h S' r → Stepped L S at h S' r
  step_program S' name first count rest r a f = step_on L S S' at rest h r a.0 (λ w k. (_, a.1 w k)) f

  pub step_odd : SimpleAt L at NoSimple → Stepped L S at h S (std.Err Odd)
  step_odd a = record { long = refl; forward = tt; says = λ w G k o. simple_odd (frames S h) (toks w L at) G o (a w k) }

  pub step_full : (inside : ℕ) → SimpleAt L at (Bracket inside) → length S ≤ h → Stepped L S at h S (std.Err Short)
  step_full inside a l = record { long = refl; forward = (l, a.0); says = λ w G k o. tt }

  pub step_bracket_odd : (inside : ℕ) → SimpleAt L at (Bracket inside) → HiddenTo L inside NoPhrase → Stepped L S at h (set S h 0) (std.Err Odd)
  step_bracket_odd inside a hd = record { long = length-set S h 0; forward = tt; says = λ w G k o. bracket_odd (frames S h) (toks w L at) (toks w L inside) G o (a.2 w) (hd w) }

  pub step_bracket : (inside rest count : ℕ) → SimpleAt L at (Bracket inside) → h < length S → HiddenTo L inside (To rest count) → Stepped L S at h (set S h 0) (std.Ok (Next rest (h + 1)))
  step_bracket inside rest count a l hd =
      let i = a.0 in
      let e = a.1 in
      let z : h + 1 - 1 ≡ h = omega arith in
      let q : (inside ≤ rest) × (rest ≤ length L) = elim hd.place [ inl u ↦ (omega (arith, u.1), omega (arith, u.1)) | inr u ↦ (omega (arith, u.1), u.2) ] in
      let f : frames (set S h 0) (h + 1) ≡ 0 ∷ frames S h = ap (λ (n : ℕ). frames (set S n 0) (h + 1)) (sym z) ∙ frames_new S (h + 1) 0 (omega arith) (omega arith) ∙ ap (λ (n : ℕ). 0 ∷ frames S n) z in
      record {
        long = length-set S h 0;
        forward = (omega (arith, q.0), q.1, omega (arith, q.0), omega arith);
        says = λ w G k o.
            subst (λ (F : List ℕ). Opens F (toks w L rest) G) (sym f) (opens_bracket (frames S h) (toks w L at) (toks w L inside) (toks w L rest) _ G o (a.2 w) (hd.reads w));
      }

-- ---------------------------------------------------------------------------------------------
-- A whole statement.

pub record Sofar (L : List ℕ) (long at : ℕ) (S : List ℕ) (i h : ℕ) : Type 0 where
  pub size : length S ≡ long
  pub height : h ≤ length S
  pub few : h + at ≤ i
  pub opens : (w : ℕ → Name) → Reserved w L → Opens (frames S h) (toks w L i) (the_statement (toks w L at))

pub sofar_start : (L S : List ℕ) (at : ℕ) → Sofar L (length S) at S at 0
unfolding frames
sofar_start L S at = record { size = refl; height = omega arith; few = omega arith; opens = λ w r. opens_start (toks w L at) }

module _ (L S₀ S S' : List ℕ) (at i h : ℕ) (so_far : Sofar L (length S₀) at S i h) where
  pub sofar_next : (j height : ℕ) → Stepped L S i h S' (std.Ok (Next j height)) → Sofar L (length S₀) at S' j height
  sofar_next j height s =
      let a = so_far.few in
      let u = s.forward in
      let z = s.long in
      record { size = s.long ∙ so_far.size; height = omega (arith, u.3); few = omega (arith, u.2); opens = λ w r. s.says w (the_statement (toks w L at)) r (so_far.opens w r) }

  pub sofar_less : (j height : ℕ) → Stepped L S i h S' (std.Ok (Next j height)) → length L - j < length L - i
  sofar_less j height s = omega (arith, s.forward.0, s.forward.1)

  pub sofar_done : (rest : ℕ) → Stepped L S i h S' (std.Ok (Done rest)) → StatementTo L S₀ at (std.Ok rest)
  sofar_done rest s =
      let a = so_far.few in
      (omega (arith, s.forward.0), s.forward.1, λ w r. s.says w (the_statement (toks w L at)) r (so_far.opens w r))

  pub sofar_odd : Stepped L S i h S' (std.Err Odd) → StatementTo L S₀ at (std.Err Odd)
  sofar_odd s w r = s.says w (the_statement (toks w L at)) r (so_far.opens w r)

  pub sofar_full : Stepped L S i h S' (std.Err Short) → StatementTo L S₀ at (std.Err Short)
  sofar_full s =
      let a = so_far.few in
      let b = so_far.size in
      omega (arith, s.forward.0, s.forward.1)

  pub sofar_err : (e : Unparsed) → Stepped L S i h S' (std.Err e) → StatementTo L S₀ at (std.Err e)
  sofar_err Odd s = sofar_odd s
  sofar_err Short s = sofar_full s
