-- What stands before a definition's body. Assumes nothing.
use mathlib.Core.Path.{◌≡◌, refl, ap, sym, ◌∙◌, subst}
use mathlib.Core.Logic.{◌⊎◌, inl, inr}
use mathlib.Core.List.{List, []}
use mathlib.Core.Option.{some, none}
use Prim.Native.Nat.{ℕ, ◌+◌, ◌*◌, ◌≤◌, ◌<◌}
use native.Mathlib.Omega.{arith}
use lib.ListN.{length}
use Rattle.akl.specs.Base.{Name, size, ◌>>=◌}
use Rattle.akl.specs.Token.{Token, full_stop}
use Rattle.akl.specs.Grammar.{Statement, Definition}
use Rattle.akl.specs.Parse.{Read, after}
use Rattle.descent.specs.Descent.{the_statement, the_definition}
use Rattle.read_phrases.specs.Codes.{kind_at, number_at, toks, kind_inside}
use Rattle.read_phrases.specs.Phrases.{names, Reserved, ArgumentsTo}
use Rattle.read_phrases.specs.declared.Phrase.TheVariants.{To, Odd as NoPhrase}
use Rattle.read_grammar.proofs.Defining.{from_defines, definition_odd, definition_true, definition_fail, definition_arguments_odd, definition_undefined}
use Rattle.read_heads.proofs.Heading.{head_is}
use Rattle.read_definitions.specs.Definitions.{Opened, OpeningTo}
use Rattle.read_definitions.specs.declared.Opening.TheVariants as opening

module _ (L : List ℕ) (at : ℕ) where
  made : (ℕ → Name) → List Name → Statement → Definition
  made w xs s = record { head = w (number_at L at); parameters = xs; statement = s }

  pub opening_odd : (kind_at L at ≡ 0 → ⊥) → OpeningTo L at opening.Odd
  opening_odd h = definition_odd L [] at h

  module _ (n : ℕ) (h : kind_at L at ≡ 0) (is : n ≡ number_at L at) where
    pub opening_true : n ≡ 4 → OpeningTo L at opening.Odd
    opening_true e = definition_true L [] at n h is e

    pub opening_fail : n ≡ 8 → OpeningTo L at opening.Odd
    opening_fail e = definition_fail L [] at n h is e

    module _ (n4 : n ≡ 4 → ⊥) (n8 : n ≡ 8 → ⊥) where
      pub opening_arguments : ArgumentsTo L (at + 1) NoPhrase → OpeningTo L at opening.Odd
      opening_arguments a = definition_arguments_odd L [] at n h is n4 n8 a

      module _ (rest count : ℕ) (a : ArgumentsTo L (at + 1) (To rest count)) where
        pub opening_many : 8 < count → OpeningTo L at opening.Many
        opening_many m w r d us e = omega (arith, (head_is L at w r d us e rest count a).1)

        pub opening_undefined : (kind_at L rest ≡ 8 → ⊥) → OpeningTo L at opening.Odd
        opening_undefined d = definition_undefined L [] at n h is n4 n8 rest count a d

        pub opening_to : count ≤ 8 → kind_at L rest ≡ 8 → OpeningTo L at (opening.To n count (rest + 1))
        unfolding made
        opening_to f d =
            let i = kind_inside L rest (omega arith) in
            let z : at + 1 + 1 ≡ at + 2 = omega arith in
            record {
              is = is;
              few = f;
              place = elim a.place [ inl u ↦ inl (u.0, omega (arith, u.1)) | inr u ↦ inr (u.0, omega (arith, u.1)) ];
              inside = omega arith;
              reads = λ w r.
                  from_defines L [] at n h is n4 n8 rest count a d w r
                  ∙ ap (λ (p : ℕ). the_statement (toks w L (rest + 1)) >>= λ s. after full_stop s.1 >>= λ v. some (made w (names w L count p) s.0, v)) z;
            }
