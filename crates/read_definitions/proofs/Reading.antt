-- What each way out of a definition says. Assumes nothing.
use mathlib.Core.Path.{◌≡◌, refl, ap, ap₂, sym, ◌∙◌, subst}
use mathlib.Core.Logic.{◌⊎◌, inl, inr}
use mathlib.Core.List.{List, [], ◌∷◌, ◌++◌, map}
use mathlib.Core.Bool.{Bool, true, false}
use mathlib.Core.Option.{Option, some, none, some-injective}
use Prim.Native.Nat.{ℕ, suc, ◌+◌, ◌*◌, ◌≤◌, ◌<◌}
use native.Mathlib.Omega.{arith}
use lib.Dec.{ltb}
use lib.ListN.{length, get_or}
use borrow.Author.Tests.{le-ltb}
use Rattle.constraint.specs.Constraint.{In}
use Rattle.akl.specs.Base.{Name, size, repeats, ◌>>=◌}
use Rattle.akl.specs.Limits.{most_arguments}
use Rattle.akl.specs.Token.{Token, full_stop}
use Rattle.akl.specs.Grammar.{Statement, Definition}
use Rattle.akl.specs.Parse as parse
use Rattle.akl.specs.Parse.{after}
use Rattle.akl.specs.Reader.{Around, fault, statement_faults, statement_of, definition_faults}
use Rattle.mem_words.specs.declared.Word.{Word}
use Rattle.mem_words.specs.declared.Word.TheVariants.{Num}
use Rattle.descent.specs.Descent.{the_statement, the_definition}
use Rattle.descent.proofs.Steps.{no_more_read, read_on}
use Rattle.read_phrases.specs.Codes.{kind_at, number_at, toks, kind_inside, mark_here, mark_not}
use Rattle.read_phrases.specs.Phrases.{names, Reserved}
use Rattle.read_phrases.proofs.Reading.{names_size}
use Rattle.layout.specs.Layout.{stmt_words}
use Rattle.read_lookups.specs.Places.{ids}
use Rattle.read_scopes.specs.TheirContracts.{Unbound}
use Rattle.read_emits.specs.Out.{Wrote, wrote_then, wrote_to, wrote_word, wrote_same}
use Rattle.read_emits.specs.TheirContracts.{Emits, NoRoom}
use Rattle.read_pieces.specs.Worst.{Lower, Lowest, in_left, in_right, lowest_both}
use Rattle.read_pieces.specs.Reads.{a_statement, heads, around, Spelling, Scope, CanRead, ReadTo}
use Rattle.read_pieces.specs.Reads as reads
use Rattle.read_pieces.specs.declared.Read.TheVariants.{Done, Three, Odd, Full}
use Rattle.read_pieces.proofs.Simples.{read_first}
use Rattle.read_pieces.proofs.Scoping.{names_ids}
use Rattle.read_operators.specs.Binding.{Entered}
use Rattle.read_heads.proofs.Heading.{parameters_due}
use Rattle.read_definitions.specs.Definitions.{Opened, OpeningTo, definition_words, Says, Finished, Answer, Defines}
use Rattle.read_definitions.specs.declared.Opening.TheVariants as opening
use Rattle.read_definitions.proofs.Parameters.{body_place, inner_scope, inner_spelling, inner_repeats, outer_back}

module _ (L B S Q D : List ℕ) (O : List Word) (at k : ℕ) (can : CanRead L B S Q D O at k 0 0) where
  pub reading_many : (B' S' Q' : List ℕ) (O' : List Word) → OpeningTo L at opening.Many → Defines L B S Q D O at k B' S' Q' O' Three
  reading_many B' S' Q' O' m = record { to = λ w num r sp sc d us e. parameters_due (heads w D) d (m w r d us e) }

  pub reading_odd : (B' S' Q' : List ℕ) (O' : List Word) → OpeningTo L at opening.Odd → Defines L B S Q D O at k B' S' Q' O' Odd
  reading_odd B' S' Q' O' m = record { to = λ w num r sp sc. m w r }

  module _ (name count body : ℕ) (op : Opened L at name count body) where
    pub reading_name_full : (B' S' Q' : List ℕ) {O₁ O' : List Word} → NoRoom O k O₁ → Defines L B S Q D O at k B' S' Q' O' Full
    reading_name_full B' S' Q' n = record { to = inl (omega (arith, n.full, can.inside)) }

    module _ (O₁ : List Word) (e₁ : Emits O k (Num name) O₁) where
      pub reading_count_full : (B' S' Q' : List ℕ) {O₂ O' : List Word} → NoRoom O₁ (k + 1) O₂ → Defines L B S Q D O at k B' S' Q' O' Full
      reading_count_full B' S' Q' n = record { to = inl (omega (arith, n.full, e₁.stored.long, can.inside)) }

      module _ (O₂ : List Word) (e₂ : Emits O₁ (k + 1) (Num count) O₂) where
        pub room : k + 2 ≤ length O₂
        room = omega (arith, e₂.room, e₂.stored.long)

        pub reading_bind_full : (B' S' Q' : List ℕ) {O' : List Word} → length S < 0 + count → Defines L B S Q D O at k B' S' Q' O' Full
        reading_bind_full B' S' Q' n = record { to = inr (omega (arith, (body_place L B S Q D O at k can name count body op).1, op.inside)) }

        module _ (B₁ S₁ : List ℕ) (g : ℕ) (en : Entered L (at + 2) count B S 0 B₁ S₁ g) where
          pub reading_full : (B' S' Q' : List ℕ) (O' : List Word) (B₂ S₂ Q₂ : List ℕ) (O₃ : List Word) → ReadTo a_statement false L B₁ S₁ Q D O₂ body (k + 2) 0 count 0 B₂ S₂ Q₂ O₃ Full → Defines L B S Q D O at k B' S' Q' O' Full
          reading_full B' S' Q' O' B₂ S₂ Q₂ O₃ f =
              record {
                to = elim f [ inl x ↦ inl (omega (arith, x, e₁.stored.long, e₂.stored.long, (body_place L B S Q D O at k can name count body op).0)) | inr x ↦ inr (omega (arith, x, en.binds.size_s)) ];
              }

          scope : Scope B [] 0 → Scope B₁ (ids L count (at + 2)) count
          scope = inner_scope L B S Q D O at k can name count body op B₁ S₁ en.twice en.binds

          spelling : (w : ℕ → Name) (num : Name → ℕ) → Spelling w num (length B) → Spelling w num (length B₁)
          spelling = inner_spelling L B S Q D O at k can name count body op B₁ S₁ en.twice en.binds

          made : (ℕ → Name) → Statement → Definition
          made w s = record { head = w (number_at L at); parameters = names w L count (at + 2); statement = s }

          pub reading_body_odd : (B' S' Q' : List ℕ) (O' : List Word) (B₂ S₂ Q₂ : List ℕ) (O₃ : List Word) → ReadTo a_statement false L B₁ S₁ Q D O₂ body (k + 2) 0 count 0 B₂ S₂ Q₂ O₃ Odd → Defines L B S Q D O at k B' S' Q' O' Odd
          unfolding scope spelling
          reading_body_odd B' S' Q' O' B₂ S₂ Q₂ O₃ f = record { to = λ w num r sp sc. op.reads w r ∙ no_more_read (the_statement (toks w L body)) _ (f w num (ids L count (at + 2)) r (spelling w num sp) (scope sc)) }

          -- the names that the body is read with are the parameters
          bound_names : (w : ℕ → Name) (t : Statement) → statement_faults t (around false (heads w D) (map w (ids L count (at + 2))) 0) ≡ statement_faults t (record { definitions = heads w D; bound = some (names w L count (at + 2)); depth = 0 })
          bound_names w t = ap (λ (xs : List Name). statement_faults t (record { definitions = heads w D; bound = some xs; depth = 0 })) (names_ids w L count (at + 2))

          pub reading_three : (B' S' Q' : List ℕ) (O' : List Word) (B₂ S₂ Q₂ : List ℕ) (O₃ : List Word) → ReadTo a_statement false L B₁ S₁ Q D O₂ body (k + 2) 0 count 0 B₂ S₂ Q₂ O₃ Three → Defines L B S Q D O at k B' S' Q' O' Three
          unfolding scope spelling made
          reading_three B' S' Q' O' B₂ S₂ Q₂ O₃ f =
              record {
                to = λ w num r sp sc d us e.
                    (let x = read_first (the_statement (toks w L body)) (λ s. after full_stop s.1 >>= λ v. some (made w s.0, v)) (d, us) (sym (op.reads w r) ∙ e) in
                    let y = read_first (after full_stop x.0.1) (λ v. some (made w x.0.0, v)) (d, us) x.2 in
                    let q : made w x.0.0 ≡ d = ap (λ (p : Definition × List Token). p.0) (some-injective (made w x.0.0, y.0) (d, us) y.2) in
                    subst (λ (c : Definition). In 3 (definition_faults (heads w D) c)) q
                    (elim (f w num (ids L count (at + 2)) r (spelling w num sp) (scope sc) x.0.0 x.0.1 x.1) [ inl i ↦ inner w x.0.0 (subst (In 3) (bound_names w x.0.0) i) | inr z ↦ absurd (let v : ◌≡◌ {A = ℕ} 0 1 = ap (λ (b : Bool). elim b as (λ z. ℕ) [ false ↦ 0 | true ↦ 1 ]) z.0 in omega arith) ]));
              }
            where
              inner : (w : ℕ → Name) (t : Statement) → In 3 (statement_faults t (record { definitions = heads w D; bound = some (names w L count (at + 2)); depth = 0 })) → In 3 (definition_faults (heads w D) (made w t))
              inner w t i = in_right 3 (fault 3 (ltb most_arguments (size (names w L count (at + 2)))) ++ fault 4 (repeats (names w L count (at + 2)))) _ i

          -- the lowest refusal due in it
          due : (w : ℕ → Name) (num : Name → ℕ) → Spelling w num (length B) → Scope B [] 0 → (t : Statement) (f m : ℕ) → Lowest f (statement_faults t (around false (heads w D) (map w (ids L count (at + 2))) 0)) → Lower g f m → Lowest m (definition_faults (heads w D) (made w t))
          unfolding made
          due w num sp sc t f m h l =
              lowest_both g f m (fault 3 (ltb most_arguments (size (names w L count (at + 2)))) ++ fault 4 (repeats (names w L count (at + 2)))) _
              (subst (λ (c : Bool). Lowest g (fault 3 (ltb most_arguments (size (names w L count (at + 2)))) ++ fault 4 c)) (sym (inner_repeats L B S Q D O at k can name count body op B₁ S₁ en.twice en.binds w num sp sc))
              (subst (λ (b : Bool). Lowest g (fault 3 b ++ fault 4 en.twice)) (sym (le-ltb most_arguments (size (names w L count (at + 2))) (omega (arith, names_size w L count (at + 2), op.few)))) en.fault))
              (subst (Lowest f) (bound_names w t) h) l

          -- its words
          its_words : (w : ℕ → Name) (num : Name → ℕ) → Spelling w num (length B) → (t : Statement) (z : List Word) → Num name ∷ Num count ∷ stmt_words num (statement_of t [] (map w (ids L count (at + 2)))) z ≡ definition_words num (made w t) z
          unfolding made definition_words
          its_words w num sp t z =
              let p = body_place L B S Q D O at k can name count body op in
              ap (λ (x : ℕ). Num x ∷ Num count ∷ stmt_words num (statement_of t [] (map w (ids L count (at + 2)))) z) (op.is ∙ sym (sp.back (number_at L at) (can.ids at (omega (arith, p.0, op.inside)))))
              ∙ ap (λ (c : ℕ). Num (num (w (number_at L at))) ∷ Num c ∷ stmt_words num (statement_of t [] (map w (ids L count (at + 2)))) z) (sym (names_size w L count (at + 2)))
              ∙ ap (λ (xs : List Name). Num (num (w (number_at L at))) ∷ Num (size (names w L count (at + 2))) ∷ stmt_words num (statement_of t [] xs) z) (names_ids w L count (at + 2))

          module _ (B₂ S₂ Q₂ : List ℕ) (O₃ : List Word) (a o q f : ℕ) (fin : ReadTo a_statement false L B₁ S₁ Q D O₂ body (k + 2) 0 count 0 B₂ S₂ Q₂ O₃ (Done a o q f)) where
            pub reading_unstopped : (B' S' Q' : List ℕ) {O' : List Word} → (kind_at L a ≡ 6 → ⊥) → Defines L B S Q D O at k B' S' Q' O' Odd
            unfolding scope spelling
            reading_unstopped B' S' Q' n =
                record {
                  to = λ w num r sp sc.
                      (let y = fin.says w num (ids L count (at + 2)) r (spelling w num sp) (scope sc) in
                      op.reads w r ∙ read_on (the_statement (toks w L body)) _ _ y.1 ∙ no_more_read (after full_stop (toks w L a)) _ (mark_not w L a full_stop n));
                }

            pub reading_done : (B₃ : List ℕ) (m : ℕ) → kind_at L a ≡ 6 → Unbound L (at + 2) count B₂ S₂ 0 B₃ → Lower g f m → Defines L B S Q D O at k B₃ S₂ Q₂ O₃ (Done (a + 1) o 0 m)
            unfolding scope spelling made definition_words
            reading_done B₃ m s u l =
                let p = body_place L B S Q D O at k can name count body op in
                let i = kind_inside L a (omega arith) in
                let next : k + 1 + 1 ≡ k + 2 = omega arith in
                record {
                  to =
                      record {
                        forward = omega (arith, fin.forward, p.0);
                        inside = omega arith;
                        few = omega (arith, fin.few, p.0);
                        out = fin.out;
                        long_o = fin.long_o ∙ e₂.stored.long ∙ e₁.stored.long;
                        cells = outer_back L B S Q D O at k can name count body op B₁ S₁ en.twice en.binds B₂ S₂ B₃ fin.cells fin.saves u;
                        long_s = fin.long_s ∙ en.binds.size_s;
                        long_q = fin.long_q;
                        says = λ w num r sp sc.
                            (let y = fin.says w num (ids L count (at + 2)) r (spelling w num sp) (scope sc) in (
                              made w y.0,
                              op.reads w r ∙ read_on (the_statement (toks w L body)) _ _ y.1 ∙ read_on (after full_stop (toks w L a)) _ _ (mark_here w L a full_stop s),
                              due w num sp sc y.0 f m y.2.fault l,
                              wrote_same (its_words w num sp y.0) (wrote_then (wrote_word e₁.room tt e₁.stored) (wrote_then (wrote_to next (wrote_word e₂.room tt e₂.stored)) (y.2.words [] refl))),
                            ));
                      };
                }
