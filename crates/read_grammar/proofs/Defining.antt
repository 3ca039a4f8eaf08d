-- Definitions one after another.
use mathlib.Core.Path.{◌≡◌, refl, ap, sym, ◌∙◌, subst}
use mathlib.Core.Logic.{◌⊎◌, inl, inr}
use mathlib.Core.List.{List, [], ◌∷◌}
use mathlib.Core.Bool.{Bool, true, false, ◌||◌, not}
use mathlib.Core.Option.{Option, some, none}
use Prim.Native.Nat.{ℕ, zero, suc, ◌+◌, ◌-◌, ◌*◌, ◌≤◌, ◌<◌}
use native.Mathlib.Omega.{arith}
use native.Mathlib.Numerals.{add-one}
use lib.Dec.{eqb}
use lib.ListN.{length, get_or, set, length-set}
use lib.Seq.{get_or-set_same}
use borrow.Author.Tests.{eq-eqb, ne_eqb}
use Rattle.akl.specs.Base.{Name, bytes, same, when, ◌>>=◌}
use Rattle.akl.specs.Token.{Token, open_bracket, full_stop, defines}
use Rattle.akl.specs.Grammar.{Statement, Simple, Definition}
use Rattle.akl.specs.Parse.{Read, after, nothing_left, parse_query, parse_program}
use Rattle.descent.specs.Descent.{the_statement, the_simple, the_hidden, the_arguments, the_definition}
use Rattle.descent.specs.Frames.{Opens, Reached}
use Rattle.descent.proofs.Steps.{no_more_read, read_on}
use Rattle.descent.proofs.Frames.{opens_start, opens_bracket, bracket_odd, simple_odd}
use Rattle.descent.proofs.Whole.{query_step, allowed, program_empty, program_more, program_none, definition_no_name, definition_named}
use Rattle.read_phrases.specs.Codes.{Known, kind_at, number_at, toks, kind_inside, mark_here, mark_not, name_here, name_not, toks_none, toks_some}
use Rattle.read_phrases.specs.Phrases.{Reserved, HiddenTo, ArgumentsTo, SimpleAt}
use Rattle.read_phrases.specs.Phrases as p
use Rattle.read_phrases.specs.declared.Phrase.TheVariants.{To, Odd as NoPhrase}
use Rattle.read_phrases.specs.declared.Constraint.{Constraint}
use Rattle.read_phrases.specs.declared.Simple.TheVariants.{Atom, Program, Bracket, Odd as NoSimple}
use Rattle.read_statements.specs.Statements.{frames, Says, Forward, Followed, Stepped, StatementTo}
use Rattle.read_grammar.specs.Grammar.{DefinitionTo, QueryIs, ProgramIs}
use Rattle.std.specs.Prelude as std
use Rattle.read_statements.specs.declared.Unparsed.{Unparsed}
use Rattle.read_statements.specs.declared.Unparsed.TheVariants.{Odd, Short}

-- whether a name is allowed, by its number
allowed_is : (w : ℕ → Name) (L : List ℕ) (at : ℕ) (u : List Token) → Reserved w L → kind_at L at ≡ 0 → (t f : Bool) → eqb (number_at L at) 4 ≡ t → eqb (number_at L at) 8 ≡ f → allowed (w (number_at L at), u) ≡ when (not (t || f)) (w (number_at L at), u)
allowed_is w L at u r h t f et ef =
    ap (λ (b : Bool). when (not (b || same (w (number_at L at)) (bytes "fail"))) (w (number_at L at), u)) (r.true at h ∙ et)
    ∙ ap (λ (b : Bool). when (not (t || b)) (w (number_at L at), u)) (r.fail at h ∙ ef)

no_true : (f : Bool) {A : Type 0} (a : A) → when (not (true || f)) a ≡ none
no_true f a = refl

no_fail : (t : Bool) {A : Type 0} (a : A) → when (not (t || true)) a ≡ none
no_fail true a = refl
no_fail false a = refl

module _ (L S : List ℕ) (at : ℕ) where
  pub definition_odd : (kind_at L at ≡ 0 → ⊥) → DefinitionTo L S at (std.Err Odd)
  definition_odd h w r = definition_no_name (toks w L at) (name_not w L at h)

  -- what follows the name
  abbrev Behind : (ℕ → Name) → Read Definition
  Behind w = the_arguments (toks w L (at + 1)) >>= λ xs. after defines xs.1 >>= λ r. the_statement r >>= λ s. after full_stop s.1 >>= λ v. some (record { head = w (number_at L at); parameters = xs.0; statement = s.0 }, v)

  from_name : (w : ℕ → Name) → kind_at L at ≡ 0 → the_definition (toks w L at) ≡ (allowed (w (number_at L at), toks w L (at + 1)) >>= λ q. Behind w)
  from_name w h = definition_named (toks w L at) (toks w L (at + 1)) (w (number_at L at)) (name_here w L at h)

  pub definition_true : (n : ℕ) → kind_at L at ≡ 0 → n ≡ number_at L at → n ≡ 4 → DefinitionTo L S at (std.Err Odd)
  definition_true n h e z w r = from_name w h ∙ no_more_read (allowed (w (number_at L at), toks w L (at + 1))) _ (allowed_is w L at (toks w L (at + 1)) r h true (eqb (number_at L at) 8) (eq-eqb (number_at L at) 4 (sym e ∙ z)) refl)

  pub definition_fail : (n : ℕ) → kind_at L at ≡ 0 → n ≡ number_at L at → n ≡ 8 → DefinitionTo L S at (std.Err Odd)
  definition_fail n h e z w r = from_name w h ∙ no_more_read (allowed (w (number_at L at), toks w L (at + 1))) _ (allowed_is w L at (toks w L (at + 1)) r h (eqb (number_at L at) 4) true refl (eq-eqb (number_at L at) 8 (sym e ∙ z)) ∙ no_fail (eqb (number_at L at) 4) (w (number_at L at), toks w L (at + 1)))

  module _ (n : ℕ) (h : kind_at L at ≡ 0) (is : n ≡ number_at L at) (n4 : n ≡ 4 → ⊥) (n8 : n ≡ 8 → ⊥) where
    from_allowed : (w : ℕ → Name) → Reserved w L → the_definition (toks w L at) ≡ Behind w
    from_allowed w r = from_name w h ∙ read_on (allowed (w (number_at L at), toks w L (at + 1))) (w (number_at L at), toks w L (at + 1)) _ (allowed_is w L at (toks w L (at + 1)) r h false false (ne_eqb (number_at L at) 4 (λ z. n4 (is ∙ z))) (ne_eqb (number_at L at) 8 (λ z. n8 (is ∙ z))))

    pub definition_arguments_odd : ArgumentsTo L (at + 1) NoPhrase → DefinitionTo L S at (std.Err Odd)
    definition_arguments_odd a w r = from_allowed w r ∙ no_more_read (the_arguments (toks w L (at + 1))) _ (a w)

    module _ (rest count : ℕ) (a : ArgumentsTo L (at + 1) (To rest count)) where
      pub from_arguments : (w : ℕ → Name) → Reserved w L → the_definition (toks w L at) ≡ (after defines (toks w L rest) >>= λ r. the_statement r >>= λ s. after full_stop s.1 >>= λ v. some (record { head = w (number_at L at); parameters = p.names w L count (at + 1 + 1); statement = s.0 }, v))
      from_arguments w r = from_allowed w r ∙ read_on (the_arguments (toks w L (at + 1))) _ _ (a.reads w)

      pub definition_undefined : (kind_at L rest ≡ 8 → ⊥) → DefinitionTo L S at (std.Err Odd)
      definition_undefined d w r = from_arguments w r ∙ no_more_read (after defines (toks w L rest)) _ (mark_not w L rest defines d)

      module _ (d : kind_at L rest ≡ 8) where
        pub from_defines : (w : ℕ → Name) → Reserved w L → the_definition (toks w L at) ≡ (the_statement (toks w L (rest + 1)) >>= λ s. after full_stop s.1 >>= λ v. some (record { head = w (number_at L at); parameters = p.names w L count (at + 1 + 1); statement = s.0 }, v))
        from_defines w r = from_arguments w r ∙ read_on (after defines (toks w L rest)) _ _ (mark_here w L rest defines d)

        pub definition_statement_odd : StatementTo L S (rest + 1) (std.Err Odd) → DefinitionTo L S at (std.Err Odd)
        definition_statement_odd s w r = from_defines w r ∙ no_more_read (the_statement (toks w L (rest + 1))) _ (s w r)

        pub definition_err : (e : Unparsed) → StatementTo L S (rest + 1) (std.Err e) → DefinitionTo L S at (std.Err e)
        definition_err Odd s = definition_statement_odd s
        definition_err Short s = s

        pub definition_unstopped : (end : ℕ) → StatementTo L S (rest + 1) (std.Ok end) → (kind_at L end ≡ 6 → ⊥) → DefinitionTo L S at (std.Err Odd)
        definition_unstopped end s k w r = from_defines w r ∙ read_on (the_statement (toks w L (rest + 1))) _ _ (s.2 w r).1 ∙ no_more_read (after full_stop (toks w L end)) _ (mark_not w L end full_stop k)

        pub definition_whole : (end : ℕ) → StatementTo L S (rest + 1) (std.Ok end) → kind_at L end ≡ 6 → DefinitionTo L S at (std.Ok (end + 1))
        definition_whole end s k =
            let i = kind_inside L end (omega arith) in
            let b = s.0 in
            let q : at + 1 ≤ rest = elim a.place [ inl u ↦ omega (arith, u.1) | inr u ↦ omega (arith, u.1) ] in
            (omega arith, omega arith, λ w r. (_, from_defines w r ∙ read_on (the_statement (toks w L (rest + 1))) _ _ (s.2 w r).1 ∙ read_on (after full_stop (toks w L end)) _ _ (mark_here w L end full_stop k)))

-- ---------------------------------------------------------------------------------------------
-- A whole program.

-- the definitions before i were read
pub record Defined (L : List ℕ) (long : ℕ) (S : List ℕ) (i : ℕ) : Type 0 where
  pub size : length S ≡ long
  pub inside : i ≤ length L
  pub reads : (w : ℕ → Name) → Reserved w L → (f : List Definition → List Definition) × (parse_program (toks w L 0) ≡ (parse_program (toks w L i) >>= λ ds. some (f ds)))

handed : (o : Option (List Definition)) → o ≡ (o >>= λ ds. some ds)
handed none = refl
handed (some ds) = refl

pub defined_start : (L S : List ℕ) → Defined L (length S) S 0
defined_start L S = record { size = refl; inside = omega arith; reads = λ w r. ((λ ds. ds), handed (parse_program (toks w L 0))) }

assoc : (o : Option (List Definition)) (f g : List Definition → List Definition) → ((o >>= λ ds. some (f ds)) >>= λ ds. some (g ds)) ≡ (o >>= λ ds. some (g (f ds)))
assoc none f g = refl
assoc (some ds) f g = refl

abbrev NotEmpty : List Token → Type 0
NotEmpty [] = ⊥
NotEmpty (t ∷ ts) = Unit {0}

module _ (L S₀ S S' : List ℕ) (i : ℕ) (so_far : Defined L (length S₀) S i) where
  pub defined_next : (rest : ℕ) → length S' ≡ length S → DefinitionTo L S i (std.Ok rest) → Defined L (length S₀) S' rest
  defined_next rest l d = record {
    size = l ∙ so_far.size;
    inside = d.1;
    reads = λ w r.
        (let q = so_far.reads w r in
        let e = d.2 w r in
        ((λ ds. q.0 (e.0 ∷ ds)), q.1 ∙ ap (λ (o : Option (List Definition)). o >>= λ ds. some (q.0 ds)) (program_more (toks w L i) (toks w L rest) e.0 e.1) ∙ assoc (parse_program (toks w L rest)) (λ ds. e.0 ∷ ds) q.0));
  }

  pub defined_less : (rest : ℕ) → DefinitionTo L S i (std.Ok rest) → length L - rest < length L - i
  defined_less rest d = omega (arith, d.0, d.1)

  pub defined_odd : i < length L → DefinitionTo L S i (std.Err Odd) → ProgramIs L S₀ (std.Err Odd)
  defined_odd h d w r =
      let q = so_far.reads w r in
      let t = toks_some w L i h in
      q.1 ∙ no_more_read (parse_program (toks w L i)) _ (program_none (toks w L i) (subst NotEmpty (sym t.1) tt) (d w r))

  pub defined_short : DefinitionTo L S i (std.Err Short) → ProgramIs L S₀ (std.Err Short)
  defined_short d = omega (arith, so_far.size, d)

  pub defined_err : i < length L → (e : Unparsed) → DefinitionTo L S i (std.Err e) → ProgramIs L S₀ (std.Err e)
  defined_err h Odd d = defined_odd h d
  defined_err h Short d = defined_short d

  pub defined_whole : length L ≤ i → ProgramIs L S₀ (std.Ok tt)
  defined_whole h w r =
      let q = so_far.reads w r in
      (q.0 [], q.1 ∙ ap (λ (ts : List Token). parse_program ts >>= λ ds. some (q.0 ds)) (toks_none w L i h) ∙ ap (λ (o : Option (List Definition)). o >>= λ ds. some (q.0 ds)) program_empty)
