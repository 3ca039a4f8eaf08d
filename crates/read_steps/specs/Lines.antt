-- Lines of a steps text, and a whole text. Assumes nothing.
use Rattle.std.specs.Prelude.{◌≡◌, refl, List, ◌∷◌, Bool, ℕ, zero, suc, ◌+◌, ◌-◌, ◌≤◌, ◌<◌, length, drop}
use Rattle.std.proofs.Math.Path.{ap}
use Rattle.std.proofs.Common.{sym, ◌∙◌, arith, drop_of_length-le, drop-cons, lt-ltb, le-ltb}
use Rattle.std.proofs.Math.Option.{Option, some, none}
use Rattle.akl.specs.Base.{size, if, ◌>>=◌, Result, refused, ok}
use Rattle.akl.specs.Limits.{steps_bytes}
use Rattle.akl.specs.StepsText as akl
use Rattle.refusals.specs.declared.Refusal.{Refusal}
use Rattle.refusals.specs.declared.Refusal.TheVariants.{TooLong, NotALine}
use Rattle.refusals.specs.Refusals.{number_of}
use Rattle.read_tokens.specs.declared.Cursor.{Cursor}
use Rattle.read_tokens.specs.Runs.{size_length}
use Rattle.read_steps.specs.declared.Step.{Step}
use Rattle.std.specs.Prelude as std
use Rattle.read_steps.specs.Numbers.{Moved, Numbered}

-- The step of the definitions.
abbrev pub step : Step → akl.Step
step t = record { rule = t.rule; place = t.place.0; argument = t.argument }

-- What a line's answer says of the text s: the step and what is left, or a refusal.
abbrev pub meant : List ℕ → std.Result (Step × Cursor) Refusal → Result (akl.Step × List ℕ)
meant s (std.Ok (t, c)) = ok (step t, drop c.0 s)
meant s (std.Err f) = refused (number_of f)

-- "18": where there is no reading
abbrev pub outcome : {A : Type 0} → Option A → Result A
outcome none = refused 18
outcome (some a) = ok a

abbrev pub Forward : List ℕ → ℕ → std.Result (Step × Cursor) Refusal → Type 0
Forward s from (std.Ok (t, c)) = Moved s from c.0
Forward s from (std.Err f) = Unit

-- What `read_line` promises of its answer r at the position `from` of s.
pub record LineRead (s : List ℕ) (from : ℕ) (r : std.Result (Step × Cursor) Refusal) : Type 0 where
  pub says : meant s r ≡ outcome (akl.line (drop from s))
  pub forward : Forward s from r

-- What a text's answer says.
abbrev pub checked : std.Result ℕ Refusal → Result ℕ
checked (std.Ok n) = ok n
checked (std.Err f) = refused (number_of f)

-- the number of steps of a text that is read
abbrev pub counted : Result (List akl.Step) → Result ℕ
counted (refused n) = refused n
counted (ok ls) = ok (size ls)

-- The definition's three numbers, one after the other.
third : ℕ → ℕ → Option (ℕ × List ℕ) → Option (akl.Step × List ℕ)
third r p o = o >>= λ a. some (record { rule = r; place = p; argument = a.0 }, a.1)

second : ℕ → Option (ℕ × List ℕ) → Option (akl.Step × List ℕ)
second r o = o >>= λ p. third r p.0 (akl.decimal_number 10 p.1)

first : Option (ℕ × List ℕ) → Option (akl.Step × List ℕ)
first o = o >>= λ r. second r.0 (akl.decimal_number 32 r.1)

line_parts : (text : List ℕ) → akl.line text ≡ first (akl.decimal_number 32 text)
unfolding akl.line first second third
line_parts text = refl

module _ (s : List ℕ) (from : ℕ) where
  no_rule : Numbered s from 32 std.None → akl.line (drop from s) ≡ none
  unfolding first
  no_rule R = line_parts (drop from s) ∙ ap first (sym R.says)

  pub refused_rule : Numbered s from 32 std.None → LineRead s from (std.Err NotALine)
  refused_rule R = record { says = ap outcome (sym (no_rule R)); forward = tt }

  module _ (r : ℕ) (c : Cursor) (R : Numbered s from 32 (std.Some (r, c))) where
    at_rule : akl.line (drop from s) ≡ second r (akl.decimal_number 32 (drop c.0 s))
    unfolding first
    at_rule = line_parts (drop from s) ∙ ap first (sym R.says)

    no_place : Numbered s c.0 32 std.None → akl.line (drop from s) ≡ none
    unfolding second
    no_place P = at_rule ∙ ap (second r) (sym P.says)

    pub refused_place : Numbered s c.0 32 std.None → LineRead s from (std.Err NotALine)
    refused_place P = record { says = ap outcome (sym (no_place P)); forward = tt }

    module _ (p : ℕ) (d : Cursor) (P : Numbered s c.0 32 (std.Some (p, d))) where
      at_place : akl.line (drop from s) ≡ third r p (akl.decimal_number 10 (drop d.0 s))
      unfolding second
      at_place = at_rule ∙ ap (second r) (sym P.says)

      no_argument : Numbered s d.0 10 std.None → akl.line (drop from s) ≡ none
      unfolding third
      no_argument A = at_place ∙ ap (third r p) (sym A.says)

      pub refused_argument : Numbered s d.0 10 std.None → LineRead s from (std.Err NotALine)
      refused_argument A = record { says = ap outcome (sym (no_argument A)); forward = tt }

      at_argument : (a : ℕ) (e : Cursor) → Numbered s d.0 10 (std.Some (a, e)) → akl.line (drop from s) ≡ some (record { rule = r; place = p; argument = a }, drop e.0 s)
      unfolding third
      at_argument a e A = at_place ∙ ap (third r p) (sym A.says)

      pub line_at : (a : ℕ) (e : Cursor) → Numbered s d.0 10 (std.Some (a, e)) → LineRead s from (std.Ok (record { rule = r; place = record { 0 = p }; argument = a }, e))
      line_at a e A =
          let x = R.forward in
          let y = P.forward in
          let z = A.forward in
          record { says = ap outcome (sym (at_argument a e A)); forward = record { ahead = omega arith; inside = z.inside } }

-- n steps and those of a reading, or a refusal
abbrev pub total : ℕ → Option (List akl.Step) → Result ℕ
total n none = refused 18
total n (some ls) = ok (n + size ls)

pub all_lines : List ℕ → Result ℕ
all_lines s = total 0 (akl.lines (suc (size s)) s)

pub too_long : (s : List ℕ) → steps_bytes < length s → checked (std.Err TooLong) ≡ counted (akl.read_steps s)
unfolding akl.read_steps
too_long s h =
    ap (λ (b : Bool). counted (if b (refused 1) (elim (akl.lines (suc (size s)) s) [ none ↦ refused 18 | some ls ↦ ok ls ])))
    (sym (lt-ltb steps_bytes (size s) (omega (arith, size_length s))))

within : (s : List ℕ) → length s ≤ steps_bytes → all_lines s ≡ counted (akl.read_steps s)
unfolding akl.read_steps all_lines
within s h =
    go (akl.lines (suc (size s)) s)
    ∙ ap (λ (b : Bool). counted (if b (refused 1) (elim (akl.lines (suc (size s)) s) [ none ↦ refused 18 | some ls ↦ ok ls ])))
    (sym (le-ltb steps_bytes (size s) (omega (arith, size_length s))))
  where
    go : (o : Option (List akl.Step)) → total 0 o ≡ counted (elim o [ none ↦ refused 18 | some ls ↦ ok ls ])
    go none = refl
    go (some ls) = let e : 0 + size ls ≡ size ls = omega arith in ap ok e

-- n lines up to `at` have been read; enough turns of the definition are left.
pub record Sofar (s : List ℕ) (at n : ℕ) : Type 0 where
  pub turns : ℕ
  pub enough : length s - at < turns
  pub few : n ≤ at
  pub inside : at ≤ length s
  pub same : all_lines s ≡ total n (akl.lines turns (drop at s))

pub sofar_none : (s : List ℕ) → Sofar s 0 0
unfolding all_lines
sofar_none s = record { turns = suc (size s); enough = omega (arith, size_length s); few = omega arith; inside = omega arith; same = refl }

-- no byte is left
pub sofar_end : (s : List ℕ) (at n : ℕ) → length s ≤ steps_bytes → Sofar s at n → length s ≤ at → checked (std.Ok n) ≡ counted (akl.read_steps s)
unfolding akl.lines size
sofar_end s at n h S g = sym (go S.turns S.enough S.same) ∙ within s h
  where
    go : (k : ℕ) → length s - at < k → all_lines s ≡ total n (akl.lines k (drop at s)) → all_lines s ≡ ok n
    go zero l e = absurd (omega arith)
    go (suc k) l e =
        let z : n + 0 ≡ n = omega arith in
        e ∙ ap (λ (t : List ℕ). total n (akl.lines (suc k) t)) (drop_of_length-le s g) ∙ ap ok z

-- the definition's turn at a line
turn : (s : List ℕ) (at k : ℕ) → at < length s → akl.lines (suc k) (drop at s) ≡ (akl.line (drop at s) >>= λ l. akl.lines k l.1 >>= λ ls. some (l.0 ∷ ls))
unfolding akl.lines
turn s at k g =
    ap (akl.lines (suc k)) (drop-cons s at 0 g)
    ∙ ap (λ (t : List ℕ). akl.line t >>= λ l. akl.lines k l.1 >>= λ ls. some (l.0 ∷ ls)) (sym (drop-cons s at 0 g))

outcome_none : {A : Type 0} (o : Option A) (n : ℕ) → refused n ≡ outcome o → o ≡ none
outcome_none none n e = refl
outcome_none (some a) n e = absurd (let z : ◌≡◌ {A = ℕ} 0 1 = cc in omega arith)

outcome_some : {A : Type 0} (o : Option A) (a : A) → ok a ≡ outcome o → o ≡ some a
outcome_some none a e = absurd (let z : ◌≡◌ {A = ℕ} 0 1 = cc in omega arith)
outcome_some (some b) a e = cc

outcome_number : {A : Type 0} (o : Option A) (n : ℕ) → refused n ≡ outcome o → n ≡ 18
outcome_number none n e = cc
outcome_number (some a) n e = absurd (let z : ◌≡◌ {A = ℕ} 0 1 = cc in omega arith)

-- a line that is not as described
pub sofar_refused : (s : List ℕ) (at n : ℕ) → length s ≤ steps_bytes → Sofar s at n → at < length s → (f : Refusal) → LineRead s at (std.Err f) → checked (std.Err f) ≡ counted (akl.read_steps s)
sofar_refused s at n h S g f L = ap (λ (k : ℕ). refused k) (outcome_number (akl.line (drop at s)) (number_of f) L.says) ∙ sym (go S.turns S.enough S.same) ∙ within s h
  where
    go : (k : ℕ) → length s - at < k → all_lines s ≡ total n (akl.lines k (drop at s)) → all_lines s ≡ refused 18
    go zero l e = absurd (omega arith)
    go (suc k) l e =
        e ∙ ap (total n) (turn s at k g ∙ ap (λ (o : Option (akl.Step × List ℕ)). o >>= λ l. akl.lines k l.1 >>= λ ls. some (l.0 ∷ ls)) (outcome_none (akl.line (drop at s)) (number_of f) L.says))

-- one line more
pub sofar_more : (s : List ℕ) (at n : ℕ) → Sofar s at n → at < length s → (t : Step) (c : Cursor) → LineRead s at (std.Ok (t, c)) → Sofar s c.0 (n + 1)
unfolding size
sofar_more s at n S g t c L = go S.turns S.enough S.same
  where
    longer : (o : Option (List akl.Step)) → total n (o >>= λ ls. some (step t ∷ ls)) ≡ total (n + 1) o
    longer none = refl
    longer (some ls) = let e : n + suc (size ls) ≡ n + 1 + size ls = omega arith in ap ok e

    go : (k : ℕ) → length s - at < k → all_lines s ≡ total n (akl.lines k (drop at s)) → Sofar s c.0 (n + 1)
    go zero l e = absurd (omega arith)
    go (suc k) l e =
        let m = L.forward in
        let f = S.few in
        record {
          turns = k;
          enough = omega arith;
          few = omega arith;
          inside = m.inside;
          same =
              e
              ∙ ap (total n) (turn s at k g ∙ ap (λ (o : Option (akl.Step × List ℕ)). o >>= λ l. akl.lines k l.1 >>= λ ls. some (l.0 ∷ ls)) (outcome_some (akl.line (drop at s)) (step t, drop c.0 s) L.says))
              ∙ longer (akl.lines k (drop c.0 s));
        }
