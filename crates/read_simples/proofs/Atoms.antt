-- What simple statements are, branch by branch.
use mathlib.Core.Path.{◌≡◌, refl, ap, sym, ◌∙◌, subst}
use mathlib.Core.Logic.{◌⊎◌, inl, inr}
use mathlib.Core.List.{List, [], ◌∷◌, ◌++◌, append-nil}
use mathlib.Core.Bool.{Bool, true, false}
use mathlib.Core.Option.{Option, some, none}
use Prim.Native.Nat.{ℕ, zero, suc, ◌+◌, ◌*◌, ◌/◌, ◌%◌, ◌≤◌, ◌<◌}
use native.Mathlib.Omega.{arith}
use native.Mathlib.Nat.{not-suc-le-zero, le_of_suc-le-suc}
use lib.Dec.{eqb}
use lib.ListN.{length, get_or, get_or-eq_default}
use borrow.Author.Tests.{eq-eqb, ne_eqb}
use Rattle.constraint.specs.Constraint.{ctrue, cfail, ceq, capp}
use Rattle.akl.specs.Base.{Name, bytes, size, same, when, if, ◌>>=◌}
use Rattle.akl.specs.Token.{Token, open_bracket, close_bracket, comma, colon, equals}
use Rattle.akl.specs.Grammar.{Simple, constraint, program}
use Rattle.akl.specs.Parse.{Read, after, a_variable, a_name, a_label}
use Rattle.descent.specs.Descent.{the_variables, the_arguments, the_hidden, the_equation, the_named, the_simple, the_atom}
use Rattle.descent.proofs.Steps.{no_more_read, read_on, variables_none, variables_last, variables_more, arguments_left_out, arguments_in, hidden_left_out, hidden_equation, hidden_list, equation_variable, equation_other, named_step, simple_atom}
use Rattle.read_phrases.proofs.Reading.{names_size}
use Rattle.read_phrases.specs.Codes.{Known, kind_at, number_at, toks, kind_inside, mark_here, mark_not, variable_here, variable_not, name_here, name_not, label_here, label_not}
use Rattle.read_phrases.specs.Phrases.{names, VariablesRead, VariablesTo, ArgumentsRead, ArgumentsTo, HiddenRead, HiddenTo, Reserved, con_of, SimpleAt, CanEquate, CanName}
use Rattle.read_phrases.specs.Phrases as p
use Rattle.read_phrases.specs.declared.Phrase.TheVariants.{To, Odd}
use Rattle.read_phrases.specs.declared.Constraint.TheVariants.{True, Fail, Same, Made}
use Rattle.read_phrases.specs.declared.Simple.TheVariants.{Atom, Program, Bracket, Odd as Nothing}

atom_variable : (ts u : List Token) (x : Name) → a_variable ts ≡ some (x, u) → the_atom ts ≡ (after equals u >>= λ r. the_equation x r)
unfolding the_atom
atom_variable ts u x e = ap (λ (o : Read Name). elim o as (λ z. Read Simple) [ some x ↦ after equals x.1 >>= (λ r. the_equation x.0 r) | none ↦ a_name ts >>= λ p. the_named p.0 p.1 ]) e

atom_other : (ts : List Token) → a_variable ts ≡ none → the_atom ts ≡ (a_name ts >>= λ p. the_named p.0 p.1)
unfolding the_atom
atom_other ts e = ap (λ (o : Read Name). elim o as (λ z. Read Simple) [ some x ↦ after equals x.1 >>= (λ r. the_equation x.0 r) | none ↦ a_name ts >>= λ p. the_named p.0 p.1 ]) e

-- the tokens of a name and what follows: `true` and `fail` take no arguments
reserved_is : (p : Name) (xs : List Name) (u : List Token) (t f : Bool) → same p (bytes "true") ≡ t → same p (bytes "fail") ≡ f → ◌≡◌ {A = Read Simple} (if (same p (bytes "true")) (when (eqb (size xs) 0) (constraint ctrue, u)) (if (same p (bytes "fail")) (when (eqb (size xs) 0) (constraint cfail, u)) (some (program p xs, u)))) (if t (when (eqb (size xs) 0) (constraint ctrue, u)) (if f (when (eqb (size xs) 0) (constraint cfail, u)) (some (program p xs, u))))
reserved_is p xs u t f a b =
    ap (λ (c : Bool). if c (when (eqb (size xs) 0) (constraint ctrue, u)) (if (same p (bytes "fail")) (when (eqb (size xs) 0) (constraint cfail, u)) (some (program p xs, u)))) a
    ∙ ap (λ (c : Bool). if t (when (eqb (size xs) 0) (constraint ctrue, u)) (if c (when (eqb (size xs) 0) (constraint cfail, u)) (some (program p xs, u)))) b

module _ (L : List ℕ) (at : ℕ) where
  -- ---------------------------------------------------------------------------------------------
  -- A variable first.

  from_variable : (w : ℕ → Name) → kind_at L at ≡ 2 → the_simple (toks w L at) ≡ (after equals (toks w L (at + 1)) >>= λ r. the_equation (w (number_at L at)) r)
  from_variable w v = simple_atom (toks w L at) (mark_not w L at open_bracket (λ e. omega arith)) ∙ atom_variable (toks w L at) (toks w L (at + 1)) (w (number_at L at)) (variable_here w L at v)

  pub no_equation : kind_at L at ≡ 2 → (kind_at L (at + 1) ≡ 9 → ⊥) → SimpleAt L at Nothing
  no_equation v h w r = from_variable w v ∙ no_more_read (after equals (toks w L (at + 1))) _ (mark_not w L (at + 1) equals h)

  from_equation : (w : ℕ → Name) → CanEquate L at → the_simple (toks w L at) ≡ the_equation (w (number_at L at)) (toks w L (at + 2))
  from_equation w c =
      let e : at + 1 + 1 ≡ at + 2 = omega arith in
      from_variable w c.var ∙ read_on (after equals (toks w L (at + 1))) _ _ (mark_here w L (at + 1) equals c.sign) ∙ ap (λ (i : ℕ). the_equation (w (number_at L at)) (toks w L i)) e

  pub equation_same : CanEquate L at → kind_at L (at + 2) ≡ 2 → (x y rest : ℕ) → x ≡ number_at L at → y ≡ number_at L (at + 2) → rest ≡ at + 2 + 1 → SimpleAt L at (Atom (Same x y) rest)
  equation_same c v x y rest ex ey er =
      let i = kind_inside L (at + 2) (omega arith) in (
        record { behind = omega arith; inside = omega arith },
        λ w r.
            from_equation w c ∙ equation_variable (w (number_at L at)) (w (number_at L (at + 2))) (toks w L (at + 2)) (toks w L (at + 2 + 1)) (variable_here w L (at + 2) v)
            ∙ ap (λ (n : ℕ). some (constraint (ceq (w n) (w (number_at L (at + 2)))), toks w L (at + 2 + 1))) (sym ex) ∙ ap (λ (n : ℕ). some (constraint (ceq (w x) (w n)), toks w L (at + 2 + 1))) (sym ey) ∙ ap (λ (n : ℕ). some (constraint (ceq (w x) (w y)), toks w L n)) (sym er),
        record { left = ex; right = ey; end = omega arith },
      )

  label_of : (w : ℕ → Name) → CanEquate L at → kind_at L (at + 2) < 2 → the_simple (toks w L at) ≡ (the_arguments (toks w L (at + 2 + 1)) >>= λ ys. some (constraint (capp (w (number_at L at)) (w (number_at L (at + 2))) ys.0), ys.1))
  label_of w c l =
      from_equation w c ∙ equation_other (w (number_at L at)) (toks w L (at + 2)) (variable_not w L (at + 2) (λ e. omega arith))
      ∙ read_on (a_label (toks w L (at + 2))) _ _ (label_here w L (at + 2) l)

  pub equation_no_label : CanEquate L at → 2 < kind_at L (at + 2) → SimpleAt L at Nothing
  equation_no_label c l w r =
      from_equation w c ∙ equation_other (w (number_at L at)) (toks w L (at + 2)) (variable_not w L (at + 2) (λ e. omega arith))
      ∙ no_more_read (a_label (toks w L (at + 2))) _ (label_not w L (at + 2) c.known (omega arith))

  pub equation_odd : CanEquate L at → kind_at L (at + 2) < 2 → ArgumentsTo L (at + 2 + 1) Odd → SimpleAt L at Nothing
  equation_odd c l h w r = label_of w c l ∙ no_more_read (the_arguments (toks w L (at + 2 + 1))) _ (h w)

  arguments_place : (from rest count : ℕ) → from ≤ length L → ArgumentsTo L from (To rest count) → (from ≤ rest) × (rest ≤ length L)
  arguments_place from rest count i h = go h.place
    where
      go : ((count ≡ 0) × (rest ≡ from)) ⊎ ((1 ≤ count) × (rest ≡ from + 2 * count + 1) × (rest ≤ length L)) → (from ≤ rest) × (rest ≤ length L)
      go (inl q) = (let e = q.1 in omega arith, let e = q.1 in omega arith)
      go (inr q) = (let e = q.1 in omega arith, q.2)

  arguments_end : (from rest count : ℕ) → ArgumentsTo L from (To rest count) → 1 ≤ count → rest ≡ from + 2 * count + 1
  arguments_end from rest count h o = go h.place
    where
      go : ((count ≡ 0) × (rest ≡ from)) ⊎ ((1 ≤ count) × (rest ≡ from + 2 * count + 1) × (rest ≤ length L)) → rest ≡ from + 2 * count + 1
      go (inl q) = absurd (let e = q.0 in omega arith)
      go (inr q) = q.1

  pub equation_made : CanEquate L at → kind_at L (at + 2) < 2 → (rest count x f first : ℕ) → ArgumentsTo L (at + 2 + 1) (To rest count) → x ≡ number_at L at → f ≡ number_at L (at + 2) → first ≡ at + 2 + 2 → SimpleAt L at (Atom (Made x f first count) rest)
  equation_made c l rest count x f first h ex ef ei =
      let i = kind_inside L (at + 2) (omega arith) in
      let q = arguments_place (at + 2 + 1) rest count (omega arith) h in
      let e : at + 2 + 1 + 1 ≡ at + 2 + 2 = omega arith in
      let a = q.0 in (
        record { behind = omega arith; inside = q.1 },
        λ w r.
            label_of w c l ∙ read_on (the_arguments (toks w L (at + 2 + 1))) _ _ (h.reads w)
            ∙ ap (λ (n : ℕ). some (constraint (capp (w n) (w (number_at L (at + 2))) (names w L count (at + 2 + 1 + 1))), toks w L rest)) (sym ex)
            ∙ ap (λ (n : ℕ). some (constraint (capp (w x) (w n) (names w L count (at + 2 + 1 + 1))), toks w L rest)) (sym ef)
            ∙ ap (λ (n : ℕ). some (constraint (capp (w x) (w f) (names w L count n)), toks w L rest)) (e ∙ sym ei),
        record { var = ex; label = ef; first = omega arith; start = omega arith; end = λ o. omega (arith, arguments_end (at + 2 + 1) rest count h o) },
      )

  -- ---------------------------------------------------------------------------------------------
  -- A name first.

  from_name : (w : ℕ → Name) → kind_at L at ≡ 0 → the_simple (toks w L at) ≡ the_named (w (number_at L at)) (toks w L (at + 1))
  from_name w h =
      simple_atom (toks w L at) (mark_not w L at open_bracket (λ e. omega arith)) ∙ atom_other (toks w L at) (variable_not w L at (λ e. omega arith))
      ∙ read_on (a_name (toks w L at)) _ _ (name_here w L at h)

  pub named_odd : kind_at L at ≡ 0 → ArgumentsTo L (at + 1) Odd → SimpleAt L at Nothing
  named_odd h a w r = from_name w h ∙ named_step (w (number_at L at)) (toks w L (at + 1)) ∙ no_more_read (the_arguments (toks w L (at + 1))) _ (a w)

  -- a name with its arguments, by whether it is `true` or `fail`
  named_by : (w : ℕ → Name) → Reserved w L → kind_at L at ≡ 0 → (rest count : ℕ) → ArgumentsTo L (at + 1) (To rest count) → (t f z : Bool) → eqb (number_at L at) 4 ≡ t → eqb (number_at L at) 8 ≡ f → eqb count 0 ≡ z
      → the_simple (toks w L at) ≡ (if t (when z (constraint ctrue, toks w L rest)) (if f (when z (constraint cfail, toks w L rest)) (some (program (w (number_at L at)) (names w L count (at + 1 + 1)), toks w L rest))))
  named_by w r h rest count a t f z et ef ez =
      from_name w h ∙ named_step (w (number_at L at)) (toks w L (at + 1)) ∙ read_on (the_arguments (toks w L (at + 1))) _ _ (a.reads w)
      ∙ reserved_is (w (number_at L at)) (names w L count (at + 1 + 1)) (toks w L rest) t f (r.true at h ∙ et) (r.fail at h ∙ ef)
      ∙ ap (λ (n : ℕ). if t (when (eqb n 0) (constraint ctrue, toks w L rest)) (if f (when (eqb n 0) (constraint cfail, toks w L rest)) (some (program (w (number_at L at)) (names w L count (at + 1 + 1)), toks w L rest)))) (names_size w L count (at + 1 + 1))
      ∙ ap (λ (b : Bool). if t (when b (constraint ctrue, toks w L rest)) (if f (when b (constraint cfail, toks w L rest)) (some (program (w (number_at L at)) (names w L count (at + 1 + 1)), toks w L rest)))) ez

  named_place : kind_at L at ≡ 0 → (rest count : ℕ) → ArgumentsTo L (at + 1) (To rest count) → p.Read L at rest
  named_place h rest count a =
      let i = kind_inside L at (omega arith) in
      let q = arguments_place (at + 1) rest count (omega arith) a in
      let b = q.0 in
      record { behind = omega arith; inside = q.1 }

  module _ (h : kind_at L at ≡ 0) (rest count n : ℕ) (a : ArgumentsTo L (at + 1) (To rest count)) (is : n ≡ number_at L at) where
    pub true_odd : n ≡ 4 → (count ≡ 0 → ⊥) → SimpleAt L at Nothing
    true_odd t z w r = named_by w r h rest count a true (eqb (number_at L at) 8) false (eq-eqb (number_at L at) 4 (omega arith)) refl (ne_eqb count 0 z)

    pub true_read : n ≡ 4 → count ≡ 0 → SimpleAt L at (Atom True rest)
    true_read t z = (named_place h rest count a, λ w r. named_by w r h rest count a true (eqb (number_at L at) 8) true (eq-eqb (number_at L at) 4 (omega arith)) refl (eq-eqb count 0 z), tt)

    pub fail_odd : (n ≡ 4 → ⊥) → n ≡ 8 → (count ≡ 0 → ⊥) → SimpleAt L at Nothing
    fail_odd g t z w r = named_by w r h rest count a false true false (ne_eqb (number_at L at) 4 (λ e. omega arith)) (eq-eqb (number_at L at) 8 (omega arith)) (ne_eqb count 0 z)

    pub fail_read : (n ≡ 4 → ⊥) → n ≡ 8 → count ≡ 0 → SimpleAt L at (Atom Fail rest)
    fail_read g t z = (named_place h rest count a, λ w r. named_by w r h rest count a false true true (ne_eqb (number_at L at) 4 (λ e. omega arith)) (eq-eqb (number_at L at) 8 (omega arith)) (eq-eqb count 0 z), tt)

    pub program_read : (n ≡ 4 → ⊥) → (n ≡ 8 → ⊥) → (first : ℕ) → first ≡ at + 2 → SimpleAt L at (Program n first count rest)
    program_read g t first e =
        let s : at + 1 + 1 ≡ first = omega arith in (
          named_place h rest count a,
          λ w r.
              named_by w r h rest count a false false (eqb count 0) (ne_eqb (number_at L at) 4 (λ e. g (is ∙ e))) (ne_eqb (number_at L at) 8 (λ e. t (is ∙ e))) refl
              ∙ ap (λ (k : ℕ). some (program (w k) (names w L count (at + 1 + 1)), toks w L rest)) (sym is)
              ∙ ap (λ (k : ℕ). some (program (w n) (names w L count k), toks w L rest)) s,
          record { name = is; first = e; end = λ o. omega (arith, arguments_end (at + 1) rest count a o) },
        )

  -- ---------------------------------------------------------------------------------------------
  -- Neither.

  pub bracket_read : kind_at L at ≡ 3 → (inside : ℕ) → inside ≡ at + 1 → SimpleAt L at (Bracket inside)
  bracket_read h inside e = (kind_inside L at (omega arith), e, λ w. mark_here w L at open_bracket h ∙ ap (λ (n : ℕ). some (toks w L n)) (sym e))

  pub nothing_read : (kind_at L at ≡ 3 → ⊥) → (kind_at L at ≡ 2 → ⊥) → (kind_at L at ≡ 0 → ⊥) → SimpleAt L at Nothing
  nothing_read a b c w r =
      simple_atom (toks w L at) (mark_not w L at open_bracket a) ∙ atom_other (toks w L at) (variable_not w L at b) ∙ no_more_read (a_name (toks w L at)) _ (name_not w L at c)
