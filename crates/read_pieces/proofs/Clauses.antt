-- A guard, an operator and a body, inside the scope of a hidden list.
use mathlib.Core.Path.{◌≡◌, refl, ap, ap₂, sym, ◌∙◌, subst}
use mathlib.Core.Logic.{◌⊎◌, inl, inr}
use mathlib.Core.List.{List, [], ◌∷◌, ◌++◌, map, append_assoc, append-nil}
use mathlib.Core.Bool.{Bool, true, false, not}
use mathlib.Core.Option.{Option, some, none, some-injective}
use Prim.Native.Nat.{ℕ, suc, ◌+◌, ◌*◌, ◌≤◌, ◌<◌}
use native.Mathlib.Omega.{arith}
use native.Mathlib.Decide.{ℕ_discrete}
use lib.Dec.{eqb}
use lib.ListN.{length, get_or, take}
use Rattle.constraint.specs.Constraint.{In}
use Rattle.mem_numbers.specs.Stored.{Stored}
use Rattle.akl.specs.Base.{Name, size, once, repeats, if, ◌>>=◌}
use Rattle.akl.specs.Syntax.{Op, wait, cond, commit, no_more}
use Rattle.akl.specs.Token.{Token}
use Rattle.akl.specs.Grammar.{Statement, Clause, written}
use Rattle.akl.specs.Parse as parse
use Rattle.akl.specs.Parse.{an_operator}
use Rattle.akl.specs.Reader.{Around, fault, hiding_also, same_operator, operator_of, statement_faults, clause_faults, statement_free, clause_free, statement_of, clause_of}
use Rattle.mem_words.specs.declared.Word.{Word}
use Rattle.mem_words.specs.declared.Word.TheVariants.{End, Num, Inner}
use Rattle.mem_sorts.specs.declared.Sort.TheVariants.{Clause as ClauseSort}
use Rattle.descent.specs.Descent.{the_statement, the_clause, the_hidden, guard_of}
use Rattle.descent.proofs.Steps.{no_more_read, read_on, clause_none, clause_hidden}
use Rattle.read_phrases.specs.Codes.{kind_at, toks, kind_inside, operator_is, operator_not, op_of}
use Rattle.read_phrases.specs.Phrases.{names, HiddenTo}
use Rattle.read_phrases.specs.declared.Phrase.TheVariants.{To, Odd as NoPhrase}
use Rattle.read_phrases.proofs.Reading.{names_size}
use Rattle.layout.specs.Layout.{stmt_words, clauses_words}
use Rattle.read_lookups.specs.Places.{ids}
use Rattle.read_scopes.specs.Scopes.{Bindings}
use Rattle.read_scopes.specs.TheirContracts.{Unbound}
use Rattle.read_emits.specs.Out.{Wrote, wrote_word, wrote_then}
use Rattle.read_emits.specs.TheirContracts.{Emits, NoRoom}
use Rattle.read_pieces.specs.Worst.{Lower, Lowest, in_left, in_right, lowest_both, lowest_alike, alike_turn, alike_same, alike_then}
use Rattle.read_pieces.specs.Effect.{Effect, Numbered, effect_then, effect_same, effect_around, effect_behind, once_append}
use Rattle.read_pieces.specs.Reads.{a_statement, a_clause, Says, Scope, Spelling, CanRead, Finished, ReadTo, TooMuch, around, heads}
use Rattle.read_pieces.specs.declared.Read.TheVariants.{Done, Three, Odd, Full}
use Rattle.read_pieces.proofs.Simples.{read_first}
use Rattle.read_pieces.proofs.Scoping.{hidden_place, inner_scope, inner_names, inner_spelling, inner_repeats, inner_can, outer_back}

-- the names of a hidden list are bound inside
pub hidden_around : (query : Bool) (hs : List (Name × ℕ)) (bs xs : List Name) (d : ℕ) → around query hs (bs ++ xs) d ≡ hiding_also xs (around query hs bs d)
hidden_around true hs bs xs d = refl
hidden_around false hs bs xs d = refl

module _ (query : Bool) (L B S Q D : List ℕ) (O : List Word) (at k q level depth : ℕ) (can : CanRead L B S Q D O at k q level) (rest count : ℕ) (hd : HiddenTo L at (To rest count)) (B₁ S₁ : List ℕ) (twice : Bool) (bind : Bindings L at count B S level level B₁ S₁ twice) where
  abbrev Inner' : (ℕ → Name) → List ℕ → List Name
  Inner' w E = map w E ++ names w L count at

  abbrev Around' : (ℕ → Name) → List ℕ → Around
  Around' w E = around query (heads w D) (map w E ++ names w L count at) depth

  -- the guard, said of the outer scope
  pub guard_says : (O₁ : List Word) (k₁ : ℕ) (B₂ S₂ Q₂ : List ℕ) (O₂ : List Word) (a k₂ q₂ f₂ : ℕ) → Finished a_statement query L B₁ S₁ Q D O₁ rest k₁ q (level + count) depth B₂ S₂ Q₂ O₂ a k₂ q₂ f₂
      → Says a_statement query L B S Q D O at k q level depth (λ w num E. (t : Statement) × (the_statement (toks w L rest) ≡ some (t, toks w L a)) × Effect query (map w (take q Q)) O₁ k₁ (map w (take q₂ Q₂)) O₂ k₂ f₂ (statement_faults t (Around' w E)) (statement_free t (Inner' w E)) (λ qs z. stmt_words num (statement_of t qs (Inner' w E)) z))
  guard_says O₁ k₁ B₂ S₂ Q₂ O₂ a k₂ q₂ f₂ F w num E v sp sc =
      let x = F.says w num (E ++ ids L count at) v (inner_spelling L B S Q D O at k q level can rest count hd B₁ S₁ twice bind w num sp) (inner_scope L B S Q D O at k q level can rest count hd B₁ S₁ twice bind E sc) in
      let e = inner_names L B S Q D O at k q level can rest count hd B₁ S₁ twice bind w E in
      (x.0, x.1, subst (λ (bs : List Name). Effect query (map w (take q Q)) O₁ k₁ (map w (take q₂ Q₂)) O₂ k₂ f₂ (statement_faults x.0 (around query (heads w D) bs depth)) (statement_free x.0 bs) (λ qs z. stmt_words num (statement_of x.0 qs bs) z)) e x.2)

  -- and the body, behind it
  module _ (O₁ : List Word) (k₁ : ℕ) (B₂ S₂ Q₂ : List ℕ) (O₂ : List Word) (a k₂ q₂ f₂ : ℕ) (F : Finished a_statement query L B₁ S₁ Q D O₁ rest k₁ q (level + count) depth B₂ S₂ Q₂ O₂ a k₂ q₂ f₂) where
    pub body_can : 11 ≤ kind_at L a → kind_at L a < 14 → CanRead L B₂ S₂ Q₂ D O₂ (a + 1) k₂ q₂ (level + count)
    body_can x y =
        let i = kind_inside L a (omega arith) in
        let b = ap length F.cells in
        let c = bind.size_b in
        let p = hidden_place L B S Q D O at k q level can rest count hd in
        record { known = can.known; heads = λ x i. omega (arith, can.heads x i); ids = λ j l. omega (arith, can.ids j l); cells = omega (arith, can.cells); few = can.few; before = omega (arith, p.2, F.forward); inside = omega arith; order = omega (arith, can.order, F.long_q); most = F.most; used = λ j l. omega (arith, F.used j l); out = F.out }

    pub body_says : (B₃ S₃ Q₃ : List ℕ) (O₃ : List Word) (a₃ k₃ q₃ f₃ : ℕ) → Finished a_statement query L B₂ S₂ Q₂ D O₂ (a + 1) k₂ q₂ (level + count) depth B₃ S₃ Q₃ O₃ a₃ k₃ q₃ f₃
        → Says a_statement query L B S Q D O at k q level depth (λ w num E. (t : Statement) × (the_statement (toks w L (a + 1)) ≡ some (t, toks w L a₃)) × Effect query (map w (take q₂ Q₂)) O₂ k₂ (map w (take q₃ Q₃)) O₃ k₃ f₃ (statement_faults t (Around' w E)) (statement_free t (Inner' w E)) (λ qs z. stmt_words num (statement_of t qs (Inner' w E)) z))
    body_says B₃ S₃ Q₃ O₃ a₃ k₃ q₃ f₃ G w num E v sp sc =
        let x = G.says w num (E ++ ids L count at) v (subst (λ (T : List ℕ). Spelling w num (length T)) (sym F.cells) (inner_spelling L B S Q D O at k q level can rest count hd B₁ S₁ twice bind w num sp)) (subst (λ (T : List ℕ). Scope T (E ++ ids L count at) (level + count)) (sym F.cells) (inner_scope L B S Q D O at k q level can rest count hd B₁ S₁ twice bind E sc)) in
        let e = inner_names L B S Q D O at k q level can rest count hd B₁ S₁ twice bind w E in
        (x.0, x.1, subst (λ (bs : List Name). Effect query (map w (take q₂ Q₂)) O₂ k₂ (map w (take q₃ Q₃)) O₃ k₃ f₃ (statement_faults x.0 (around query (heads w D) bs depth)) (statement_free x.0 bs) (λ qs z. stmt_words num (statement_of x.0 qs bs) z)) e x.2)

    -- guard, body and the clause's End
    module _ (B₃ S₃ Q₃ : List ℕ) (O₃ : List Word) (a₃ k₃ q₃ f₃ : ℕ) (G : Finished a_statement query L B₂ S₂ Q₂ D O₂ (a + 1) k₂ q₂ (level + count) depth B₃ S₃ Q₃ O₃ a₃ k₃ q₃ f₃) (O₄ : List Word) (end : Emits O₃ k₃ End O₄) (x : ℕ) (low : Lower f₂ f₃ x) where
      pub both_says : Says a_statement query L B S Q D O at k q level depth (λ w num E. (g : Statement) × (b : Statement) × (the_statement (toks w L rest) ≡ some (g, toks w L a)) × (the_statement (toks w L (a + 1)) ≡ some (b, toks w L a₃)) × Effect query (map w (take q Q)) O₁ k₁ (map w (take q₃ Q₃)) O₄ (k₃ + 1) x (statement_faults g (Around' w E) ++ statement_faults b (Around' w E)) (statement_free g (Inner' w E) ++ statement_free b (Inner' w E)) (λ qs z. stmt_words num (statement_of g qs (Inner' w E)) (stmt_words num (statement_of b qs (Inner' w E)) (End ∷ z))))
      both_says w num E v sp sc =
          let g = guard_says O₁ k₁ B₂ S₂ Q₂ O₂ a k₂ q₂ f₂ F w num E v sp sc in
          let b = body_says B₃ S₃ Q₃ O₃ a₃ k₃ q₃ f₃ G w num E v sp sc in
          (g.0, b.0, g.1, b.1, effect_behind (effect_then x g.2 b.2 low) (wrote_word end.room tt end.stored))

      -- the tables behind it
      pub both_cells : (B₄ : List ℕ) → Unbound L at count B₃ S₃ level B₄ → B₄ ≡ B
      both_cells B₄ u = outer_back L B S Q D O at k q level can rest count hd B₁ S₁ twice bind B₃ S₃ B₄ (G.cells ∙ F.cells) (λ i l. G.saves i l ∙ F.saves i l) u

      pub both_saves : (i : ℕ) → i < level → get_or S₃ i 0 ≡ get_or S i 0
      both_saves i l = G.saves i (omega arith) ∙ F.saves i (omega arith) ∙ bind.older i l

-- ---------------------------------------------------------------------------------------------
-- A later clause.

-- a number from 11 to 13
pub three_kinds : (n : ℕ) → 11 ≤ n → n < 14 → (n ≡ 11) ⊎ ((n ≡ 12) ⊎ (n ≡ 13))
three_kinds n x y = go (ℕ_discrete n 11) (ℕ_discrete n 12)
  where
    go : Dec (n ≡ 11) → Dec (n ≡ 12) → (n ≡ 11) ⊎ ((n ≡ 12) ⊎ (n ≡ 13))
    go (yes e) d = inl e
    go (no m) (yes e) = inr (inl e)
    go (no m) (no l) = inr (inr (omega arith))

abbrev SameKinds : ℕ → ℕ → Type 0
SameKinds a b = same_operator (op_of a) (op_of b) ≡ eqb a b

-- two operators are the same when their kinds are
pub same_kinds : (a b : ℕ) → 11 ≤ a → a < 14 → 11 ≤ b → b < 14 → SameKinds a b
same_kinds a b h i j l = elim (three_kinds a h i) [ inl x ↦ subst (λ (n : ℕ). SameKinds n b) (sym x) (second 11 refl refl refl) | inr z ↦ elim z [ inl x ↦ subst (λ (n : ℕ). SameKinds n b) (sym x) (second 12 refl refl refl) | inr x ↦ subst (λ (n : ℕ). SameKinds n b) (sym x) (second 13 refl refl refl) ] ]
  where
    second : (n : ℕ) → SameKinds n 11 → SameKinds n 12 → SameKinds n 13 → SameKinds n b
    second n p q r = elim (three_kinds b j l) [ inl x ↦ subst (SameKinds n) (sym x) p | inr z ↦ elim z [ inl x ↦ subst (SameKinds n) (sym x) q | inr x ↦ subst (SameKinds n) (sym x) r ] ]

module _ (query : Bool) (L B S Q D : List ℕ) (O : List Word) (at k q level depth kind : ℕ) (can : CanRead L B S Q D O at k q level) where
  pub clause_no_list : (B' S' Q' : List ℕ) (O' : List Word) → HiddenTo L at NoPhrase → ReadTo (a_clause (op_of kind)) query L B S Q D O at k q level depth B' S' Q' O' Odd
  clause_no_list B' S' Q' O' h w num E v sp sc = clause_none (toks w L at) (h w)

  module _ (rest count : ℕ) (hd : HiddenTo L at (To rest count)) where
    from_hidden : (w : ℕ → Name) → the_clause (toks w L at) ≡ (the_statement (toks w L rest) >>= guard_of (names w L count at))
    from_hidden w = clause_hidden (toks w L at) (toks w L rest) (names w L count at) (hd.reads w)

    pub clause_no_room : (B' S' Q' : List ℕ) (O' : List Word) → length O < k + 2 → ReadTo (a_clause (op_of kind)) query L B S Q D O at k q level depth B' S' Q' O' Full
    clause_no_room B' S' Q' O' h = inl (omega (arith, can.inside))

    pub clause_no_saves : (B' S' Q' : List ℕ) (O' : List Word) → length S < level + count → ReadTo (a_clause (op_of kind)) query L B S Q D O at k q level depth B' S' Q' O' Full
    clause_no_saves B' S' Q' O' h = (let p = hidden_place L B S Q D O at k q level can rest count hd in inr (omega (arith, p.1, p.2)))

    module _ (O₁ : List Word) (opens : Wrote O k O₁ (k + 2) (λ r. Inner ClauseSort ∷ Num count ∷ r)) (B₁ S₁ : List ℕ) (twice : Bool) (bind : Bindings L at count B S level level B₁ S₁ twice) where
      -- the guard
      pub clause_guard_odd : (B₂ S₂ Q₂ : List ℕ) (O₂ : List Word) → ReadTo a_statement query L B₁ S₁ Q D O₁ rest (k + 2) q (level + count) depth B₂ S₂ Q₂ O₂ Odd → ReadTo (a_clause (op_of kind)) query L B S Q D O at k q level depth B₂ S₂ Q₂ O₂ Odd
      clause_guard_odd B₂ S₂ Q₂ O₂ h w num E v sp sc = from_hidden w ∙ no_more_read (the_statement (toks w L rest)) _ (h w num (E ++ ids L count at) v (inner_spelling L B S Q D O at k q level can rest count hd B₁ S₁ twice bind w num sp) (inner_scope L B S Q D O at k q level can rest count hd B₁ S₁ twice bind E sc))

      pub clause_guard_full : (B₂ S₂ Q₂ : List ℕ) (O₂ : List Word) → ReadTo a_statement query L B₁ S₁ Q D O₁ rest (k + 2) q (level + count) depth B₂ S₂ Q₂ O₂ Full → ReadTo (a_clause (op_of kind)) query L B S Q D O at k q level depth B₂ S₂ Q₂ O₂ Full
      clause_guard_full B₂ S₂ Q₂ O₂ (inl h) = (let p = hidden_place L B S Q D O at k q level can rest count hd in inl (omega (arith, h, opens.long, p.3)))
      clause_guard_full B₂ S₂ Q₂ O₂ (inr h) = inr (omega (arith, h, bind.size_s))

      module _ (B₂ S₂ Q₂ : List ℕ) (O₂ : List Word) (a k₂ q₂ f₂ : ℕ) (F : Finished a_statement query L B₁ S₁ Q D O₁ rest (k + 2) q (level + count) depth B₂ S₂ Q₂ O₂ a k₂ q₂ f₂) where
        read_guard : (w : ℕ → Name) (t : Statement) → the_statement (toks w L rest) ≡ some (t, toks w L a) → the_clause (toks w L at) ≡ (an_operator (toks w L a) >>= λ o. the_statement o.1 >>= λ b. some (written (names w L count at) t o.0 b.0, b.1))
        unfolding guard_of
        read_guard w t e = from_hidden w ∙ read_on (the_statement (toks w L rest)) _ _ e

        pub clause_no_operator : (11 ≤ kind_at L a → kind_at L a < 14 → ⊥) → ReadTo (a_clause (op_of kind)) query L B S Q D O at k q level depth B₂ S₂ Q₂ O₂ Odd
        clause_no_operator h w num E v sp sc =
            let g = guard_says query L B S Q D O at k q level depth can rest count hd B₁ S₁ twice bind O₁ (k + 2) B₂ S₂ Q₂ O₂ a k₂ q₂ f₂ F w num E v sp sc in
            read_guard w g.0 g.1 ∙ no_more_read (an_operator (toks w L a)) _ (operator_not w L a h)

        module _ (x : 11 ≤ kind_at L a) (y : kind_at L a < 14) where
          read_operator : (w : ℕ → Name) (t : Statement) → the_statement (toks w L rest) ≡ some (t, toks w L a) → the_clause (toks w L at) ≡ (the_statement (toks w L (a + 1)) >>= λ b. some (written (names w L count at) t (op_of (kind_at L a)) b.0, b.1))
          read_operator w t e = read_guard w t e ∙ read_on (an_operator (toks w L a)) _ _ (operator_is w L a x y)

          pub clause_body_odd : (B₃ S₃ Q₃ : List ℕ) (O₃ : List Word) → ReadTo a_statement query L B₂ S₂ Q₂ D O₂ (a + 1) k₂ q₂ (level + count) depth B₃ S₃ Q₃ O₃ Odd → ReadTo (a_clause (op_of kind)) query L B S Q D O at k q level depth B₃ S₃ Q₃ O₃ Odd
          clause_body_odd B₃ S₃ Q₃ O₃ h w num E v sp sc =
              let g = guard_says query L B S Q D O at k q level depth can rest count hd B₁ S₁ twice bind O₁ (k + 2) B₂ S₂ Q₂ O₂ a k₂ q₂ f₂ F w num E v sp sc in
              read_operator w g.0 g.1 ∙ no_more_read (the_statement (toks w L (a + 1))) _ (h w num (E ++ ids L count at) v (subst (λ (T : List ℕ). Spelling w num (length T)) (sym F.cells) (inner_spelling L B S Q D O at k q level can rest count hd B₁ S₁ twice bind w num sp)) (subst (λ (T : List ℕ). Scope T (E ++ ids L count at) (level + count)) (sym F.cells) (inner_scope L B S Q D O at k q level can rest count hd B₁ S₁ twice bind E sc)))

          pub clause_body_full : (B₃ S₃ Q₃ : List ℕ) (O₃ : List Word) → ReadTo a_statement query L B₂ S₂ Q₂ D O₂ (a + 1) k₂ q₂ (level + count) depth B₃ S₃ Q₃ O₃ Full → ReadTo (a_clause (op_of kind)) query L B S Q D O at k q level depth B₃ S₃ Q₃ O₃ Full
          clause_body_full B₃ S₃ Q₃ O₃ (inl h) = (let p = hidden_place L B S Q D O at k q level can rest count hd in inl (omega (arith, h, F.long_o, opens.long, F.few, p.3)))
          clause_body_full B₃ S₃ Q₃ O₃ (inr h) = inr (omega (arith, h, F.long_s, bind.size_s))

          module _ (B₃ S₃ Q₃ : List ℕ) (O₃ : List Word) (a₃ k₃ q₃ f₃ : ℕ) (G : Finished a_statement query L B₂ S₂ Q₂ D O₂ (a + 1) k₂ q₂ (level + count) depth B₃ S₃ Q₃ O₃ a₃ k₃ q₃ f₃) where
            pub clause_no_end : (O₄ : List Word) → NoRoom O₃ k₃ O₄ → ReadTo (a_clause (op_of kind)) query L B S Q D O at k q level depth B₃ S₃ Q₃ O₄ Full
            clause_no_end O₄ n = (let p = hidden_place L B S Q D O at k q level can rest count hd in inl (omega (arith, n.full, G.long_o, F.long_o, opens.long, F.few, G.few, G.inside, p.3)))

            pub clause_done : (O₄ : List Word) (B₄ : List ℕ) (g4 g7 u s r : ℕ) → Emits O₃ k₃ End O₄ → Unbound L at count B₃ S₃ level B₄ → Lower f₂ f₃ u → Lowest g4 (fault 4 twice) → Lower g4 u s → Lowest g7 (fault 7 (not (eqb kind (kind_at L a)))) → Lower s g7 r → 11 ≤ kind → kind < 14 → Finished (a_clause (op_of kind)) query L B S Q D O at k q level depth B₄ S₃ Q₃ O₄ a₃ (k₃ + 1) q₃ r
            unfolding statement_faults statement_free statement_of stmt_words
            clause_done O₄ B₄ g4 g7 u s r end un low l4 low4 l7 low7 kx ky =
                let p = hidden_place L B S Q D O at k q level can rest count hd in
                let b1 = bind.size_b in
                let b2 = ap length F.cells in
                record {
                  forward = omega (arith, p.3, F.forward, G.forward);
                  inside = G.inside;
                  more = omega (arith, F.more, G.more);
                  most = G.most;
                  used = λ i l. omega (arith, G.used i l);
                  few = omega (arith, F.few, G.few, p.3);
                  out = omega (arith, end.room, end.stored.long);
                  long_o = end.stored.long ∙ G.long_o ∙ F.long_o ∙ opens.long;
                  cells = both_cells query L B S Q D O at k q level depth can rest count hd B₁ S₁ twice bind O₁ (k + 2) B₂ S₂ Q₂ O₂ a k₂ q₂ f₂ F B₃ S₃ Q₃ O₃ a₃ k₃ q₃ f₃ G O₄ end u low B₄ un;
                  saves = both_saves query L B S Q D O at k q level depth can rest count hd B₁ S₁ twice bind O₁ (k + 2) B₂ S₂ Q₂ O₂ a k₂ q₂ f₂ F B₃ S₃ Q₃ O₃ a₃ k₃ q₃ f₃ G O₄ end u low;
                  long_s = G.long_s ∙ F.long_s ∙ bind.size_s;
                  long_q = G.long_q ∙ F.long_q;
                  says = λ w num E v sp sc.
                      (let z = both_says query L B S Q D O at k q level depth can rest count hd B₁ S₁ twice bind O₁ (k + 2) B₂ S₂ Q₂ O₂ a k₂ q₂ f₂ F B₃ S₃ Q₃ O₃ a₃ k₃ q₃ f₃ G O₄ end u low w num E v sp sc in
                      let xs = names w L count at in
                      let rep = inner_repeats L B S Q D O at k q level can rest count hd B₁ S₁ twice bind w num E sp sc in
                      let ar = hidden_around query (heads w D) (map w E) xs depth in
                      let fg : statement_faults z.0 (around query (heads w D) (map w E ++ xs) depth) ++ statement_faults z.1 (around query (heads w D) (map w E ++ xs) depth) ≡ statement_faults z.0 (hiding_also xs (around query (heads w D) (map w E) depth)) ++ statement_faults z.1 (hiding_also xs (around query (heads w D) (map w E) depth)) = ap (λ (c : Around). statement_faults z.0 c ++ statement_faults z.1 c) ar in
                      let l4' : Lowest g4 (fault 4 (repeats xs)) = subst (λ (b : Bool). Lowest g4 (fault 4 b)) (sym rep) l4 in
                      let l7' : Lowest g7 (fault 7 (not (same_operator (op_of kind) (op_of (kind_at L a))))) = subst (λ (b : Bool). Lowest g7 (fault 7 (not b))) (sym (same_kinds kind (kind_at L a) kx ky x y)) l7 in
                      let inner : Lowest s (fault 4 (repeats xs) ++ (statement_faults z.0 (hiding_also xs (around query (heads w D) (map w E) depth)) ++ statement_faults z.1 (hiding_also xs (around query (heads w D) (map w E) depth)))) = lowest_both g4 u s (fault 4 (repeats xs)) _ l4' (subst (Lowest u) fg z.4.fault) low4 in
                      let all = lowest_both s g7 r _ (fault 7 (not (same_operator (op_of kind) (op_of (kind_at L a))))) inner l7' low7 in (
                        written xs z.0 (op_of (kind_at L a)) z.1,
                        read_operator w z.0 z.2 ∙ read_on (the_statement (toks w L (a + 1))) _ _ z.3,
                        record {
                          fault = subst (λ (l : List ℕ). Lowest r (fault 7 (not (same_operator (op_of kind) (op_of (kind_at L a)))) ++ l)) (sym (append_assoc (fault 4 (repeats xs)) (statement_faults z.0 (hiding_also xs (around query (heads w D) (map w E) depth))) (statement_faults z.1 (hiding_also xs (around query (heads w D) (map w E) depth))))) (lowest_alike r ((fault 4 (repeats xs) ++ (statement_faults z.0 (hiding_also xs (around query (heads w D) (map w E) depth)) ++ statement_faults z.1 (hiding_also xs (around query (heads w D) (map w E) depth)))) ++ fault 7 (not (same_operator (op_of kind) (op_of (kind_at L a))))) (fault 7 (not (same_operator (op_of kind) (op_of (kind_at L a)))) ++ (fault 4 (repeats xs) ++ (statement_faults z.0 (hiding_also xs (around query (heads w D) (map w E) depth)) ++ statement_faults z.1 (hiding_also xs (around query (heads w D) (map w E) depth))))) (alike_turn (fault 4 (repeats xs) ++ (statement_faults z.0 (hiding_also xs (around query (heads w D) (map w E) depth)) ++ statement_faults z.1 (hiding_also xs (around query (heads w D) (map w E) depth)))) (fault 7 (not (same_operator (op_of kind) (op_of (kind_at L a)))))) all);
                          names = z.4.names;
                          words = λ qs l. subst (λ (n : ℕ). Wrote O k O₄ (k₃ + 1) (λ y. Inner ClauseSort ∷ Num n ∷ stmt_words num (statement_of z.0 qs (map w E ++ xs)) (stmt_words num (statement_of z.1 qs (map w E ++ xs)) (End ∷ y)))) (sym (names_size w L count at)) (wrote_then opens (z.4.words qs l));
                        },
                      ));
                }
