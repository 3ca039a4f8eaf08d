-- A bracket that is a choice.
use mathlib.Core.Path.{◌≡◌, refl, ap, ap₂, sym, ◌∙◌, subst}
use mathlib.Core.Logic.{◌⊎◌, inl, inr}
use mathlib.Core.List.{List, [], ◌∷◌, ◌++◌, map, append_assoc, append-nil}
use mathlib.Core.Bool.{Bool, true, false, not}
use mathlib.Core.Option.{Option, some, none, some-injective}
use Prim.Native.Nat.{ℕ, zero, suc, ◌+◌, ◌*◌, ◌≤◌, ◌<◌}
use native.Mathlib.Omega.{arith}
use lib.ListN.{length, get_or, take}
use Rattle.constraint.specs.Constraint.{In}
use Rattle.mem_numbers.specs.Stored.{Stored}
use Rattle.akl.specs.Base.{Name, size, once, repeats, if, ◌>>=◌}
use Rattle.akl.specs.Syntax.{Op, wait, cond, commit}
use Rattle.akl.specs.Token.{Token}
use Rattle.akl.specs.Grammar.{Statement, Bracket, plain, hiding, choosing, Clause, written, Others}
use Rattle.akl.specs.Parse as parse
use Rattle.akl.specs.Parse.{an_operator, unclaused}
use Rattle.akl.specs.Reader.{Around, fault, mixed, hiding_also, statement_faults, bracket_faults, clause_faults, others_faults, statement_free, bracket_free, clause_free, others_free, statement_of, bracket_of, clause_of, others_of}
use Rattle.mem_words.specs.declared.Word.{Word}
use Rattle.mem_words.specs.declared.Word.TheVariants.{End, Num, Inner, Bad}
use Rattle.mem_sorts.specs.declared.Sort.{Sort}
use Rattle.mem_sorts.specs.declared.Sort.TheVariants.{Hide, Clause as ClauseSort}
use Rattle.descent.specs.Descent.{the_statement, the_bracket, the_others, the_hidden, first_clause}
use Rattle.descent.proofs.Steps.{no_more_read, read_on, bracket_none, bracket_hidden, first_no_operator, first_operator}
use Rattle.read_phrases.specs.Codes.{kind_at, toks, kind_inside, operator_is, operator_not, op_of}
use Rattle.read_phrases.specs.Phrases.{names, HiddenTo}
use Rattle.read_phrases.specs.declared.Phrase.TheVariants.{To, Odd as NoPhrase}
use Rattle.read_phrases.proofs.Reading.{names_size}
use Rattle.layout.specs.Layout.{ask, stmt_words, clauses_words}
use Rattle.read_lookups.specs.Places.{ids}
use Rattle.read_scopes.specs.Scopes.{Bindings}
use Rattle.read_scopes.specs.TheirContracts.{Unbound}
use Rattle.read_emits.specs.Out.{tight, Outside, outside_none, Wrote, wrote_none, wrote_same, wrote_word, wrote_then}
use Rattle.read_emits.specs.TheirContracts.{Emits, NoRoom}
use Rattle.read_pieces.specs.Slots.{wrote_three, Slots, HideFilled, ChoiceFilled, ask_of, ask_wait, ask_cond, ask_commit}
use Rattle.read_pieces.specs.Worst.{Lower, Lowest, in_left, in_right, lowest_both, lowest_alike, alike_swap}
use Rattle.read_pieces.specs.Effect.{Effect, Numbered, numbered_both, final_back, effect_then, effect_same, effect_around, effect_behind, once_append}
use Rattle.read_pieces.specs.Reads.{a_statement, a_bracket, some_others, Says, Scope, Spelling, CanRead, Finished, ReadTo, TooMuch, around, heads}
use Rattle.read_pieces.specs.declared.Read.TheVariants.{Done, Three, Odd, Full}
use Rattle.read_pieces.proofs.Simples.{read_first}
use Rattle.read_pieces.proofs.Closed.{ask_is}
use Rattle.read_pieces.proofs.Scoping.{hidden_place, inner_scope, inner_names, inner_spelling, inner_repeats, outer_back}
use Rattle.read_pieces.proofs.Clauses.{hidden_around, guard_says, body_says, both_says, both_cells, both_saves, three_kinds}

-- the words of the slots stay while more is written behind them
pub choice_words : (num : Name → ℕ) (xs : List Name) (g b : Statement) (op : Op) (cs : Others) (qs bs : List Name) (r : List Word) → stmt_words num (bracket_of (choosing (written xs g op b) cs) qs bs) r ≡ Inner (ask op) ∷ Inner ClauseSort ∷ Num (size xs) ∷ stmt_words num (statement_of g qs (bs ++ xs)) (stmt_words num (statement_of b qs (bs ++ xs)) (End ∷ clauses_words num (others_of cs qs bs) (End ∷ r)))
unfolding statement_of stmt_words
choice_words num xs g b op cs qs bs r = refl

module _ (query : Bool) (L B S Q D : List ℕ) (O : List Word) (at k q level depth : ℕ) (can : CanRead L B S Q D O at k q level) (rest count : ℕ) (hd : HiddenTo L at (To rest count)) (O₁ : List Word) (slots : Slots O k O₁) (B₁ S₁ : List ℕ) (twice : Bool) (bind : Bindings L at count B S level level B₁ S₁ twice) (B₂ S₂ Q₂ : List ℕ) (O₂ : List Word) (a k₂ q₂ f₂ : ℕ) (F : Finished a_statement query L B₁ S₁ Q D O₁ rest (k + 3) q (level + count) depth B₂ S₂ Q₂ O₂ a k₂ q₂ f₂) (lo : 11 ≤ kind_at L a) (hi : kind_at L a < 14) where
  read_operator : (w : ℕ → Name) (t : Statement) → the_statement (toks w L rest) ≡ some (t, toks w L a) → the_bracket (toks w L at) ≡ (the_statement (toks w L (a + 1)) >>= λ b. the_others b.1 >>= λ cs. some (choosing (written (names w L count at) t (op_of (kind_at L a)) b.0) cs.0, cs.1))
  read_operator w t e = bracket_hidden (toks w L at) (toks w L rest) (names w L count at) (hd.reads w) ∙ read_on (the_statement (toks w L rest)) _ _ e ∙ first_operator (names w L count at) t (toks w L a) (toks w L (a + 1)) (op_of (kind_at L a)) (operator_is w L a lo hi)

  first_says : Says a_statement query L B S Q D O at k q level depth (λ w num E. (t : Statement) × (the_statement (toks w L rest) ≡ some (t, toks w L a)) × Effect query (map w (take q Q)) O₁ (k + 3) (map w (take q₂ Q₂)) O₂ k₂ f₂ (statement_faults t (around query (heads w D) (map w E ++ names w L count at) depth)) (statement_free t (map w E ++ names w L count at)) (λ qs z. stmt_words num (statement_of t qs (map w E ++ names w L count at)) z))
  first_says = guard_says query L B S Q D O at k q level depth can rest count hd B₁ S₁ twice bind O₁ (k + 3) B₂ S₂ Q₂ O₂ a k₂ q₂ f₂ F

  pub choice_body_odd : (B₃ S₃ Q₃ : List ℕ) (O₃ : List Word) → ReadTo a_statement query L B₂ S₂ Q₂ D O₂ (a + 1) k₂ q₂ (level + count) depth B₃ S₃ Q₃ O₃ Odd → ReadTo a_bracket query L B S Q D O at k q level depth B₃ S₃ Q₃ O₃ Odd
  choice_body_odd B₃ S₃ Q₃ O₃ h w num E v sp sc =
      let g = first_says w num E v sp sc in
      read_operator w g.0 g.1 ∙ no_more_read (the_statement (toks w L (a + 1))) _ (h w num (E ++ ids L count at) v (subst (λ (T : List ℕ). Spelling w num (length T)) (sym F.cells) (inner_spelling L B S Q D O at k q level can rest count hd B₁ S₁ twice bind w num sp)) (subst (λ (T : List ℕ). Scope T (E ++ ids L count at) (level + count)) (sym F.cells) (inner_scope L B S Q D O at k q level can rest count hd B₁ S₁ twice bind E sc)))

  pub choice_body_full : (B₃ S₃ Q₃ : List ℕ) (O₃ : List Word) → ReadTo a_statement query L B₂ S₂ Q₂ D O₂ (a + 1) k₂ q₂ (level + count) depth B₃ S₃ Q₃ O₃ Full → ReadTo a_bracket query L B S Q D O at k q level depth B₃ S₃ Q₃ O₃ Full
  choice_body_full B₃ S₃ Q₃ O₃ (inl h) = (let p = hidden_place L B S Q D O at k q level can rest count hd in inl (omega (arith, h, F.long_o, slots.outside.long, F.few, p.3)))
  choice_body_full B₃ S₃ Q₃ O₃ (inr h) = inr (omega (arith, h, F.long_s, bind.size_s))

  module _ (B₃ S₃ Q₃ : List ℕ) (O₃ : List Word) (a₃ k₃ q₃ f₃ : ℕ) (G : Finished a_statement query L B₂ S₂ Q₂ D O₂ (a + 1) k₂ q₂ (level + count) depth B₃ S₃ Q₃ O₃ a₃ k₃ q₃ f₃) where
    pub choice_no_end : (O₄ : List Word) → NoRoom O₃ k₃ O₄ → ReadTo a_bracket query L B S Q D O at k q level depth B₃ S₃ Q₃ O₄ Full
    choice_no_end O₄ n = (let p = hidden_place L B S Q D O at k q level can rest count hd in inl (omega (arith, n.full, G.long_o, F.long_o, slots.outside.long, F.few, G.few, G.inside, p.3)))

    module _ (O₄ O₅ : List Word) (end : Emits O₃ k₃ End O₄) (fill : ChoiceFilled O₄ k (kind_at L a) count O₅) (B₄ : List ℕ) (un : Unbound L at count B₃ S₃ level B₄) (x : ℕ) (low : Lower f₂ f₃ x) where
      outer : B₄ ≡ B
      outer = both_cells query L B S Q D O at k q level depth can rest count hd B₁ S₁ twice bind O₁ (k + 3) B₂ S₂ Q₂ O₂ a k₂ q₂ f₂ F B₃ S₃ Q₃ O₃ a₃ k₃ q₃ f₃ G O₄ end x low B₄ un

      long_out : length O₅ ≡ length O
      long_out = fill.outside.long ∙ end.stored.long ∙ G.long_o ∙ F.long_o ∙ slots.outside.long

      pub others_can : CanRead L B₄ S₃ Q₃ D O₅ a₃ (k₃ + 1) q₃ level
      others_can =
          let b = ap length outer in
          let c = bind.size_b in
          let d = ap length F.cells in
          let p = hidden_place L B S Q D O at k q level can rest count hd in
          record { known = can.known; heads = λ x i. omega (arith, can.heads x i); ids = λ j l. omega (arith, can.ids j l); cells = omega (arith, can.cells); few = can.few; before = omega (arith, p.2, F.forward, G.forward); inside = G.inside; order = omega (arith, can.order, F.long_q, G.long_q); most = G.most; used = λ j l. omega (arith, G.used j l); out = omega (arith, end.room, end.stored.long, fill.outside.long) }

      both : Says a_statement query L B S Q D O at k q level depth (λ w num E. (g : Statement) × (b : Statement) × (the_statement (toks w L rest) ≡ some (g, toks w L a)) × (the_statement (toks w L (a + 1)) ≡ some (b, toks w L a₃)) × Effect query (map w (take q Q)) O₁ (k + 3) (map w (take q₃ Q₃)) O₄ (k₃ + 1) x (statement_faults g (around query (heads w D) (map w E ++ names w L count at) depth) ++ statement_faults b (around query (heads w D) (map w E ++ names w L count at) depth)) (statement_free g (map w E ++ names w L count at) ++ statement_free b (map w E ++ names w L count at)) (λ qs z. stmt_words num (statement_of g qs (map w E ++ names w L count at)) (stmt_words num (statement_of b qs (map w E ++ names w L count at)) (End ∷ z))))
      both = both_says query L B S Q D O at k q level depth can rest count hd B₁ S₁ twice bind O₁ (k + 3) B₂ S₂ Q₂ O₂ a k₂ q₂ f₂ F B₃ S₃ Q₃ O₃ a₃ k₃ q₃ f₃ G O₄ end x low

      read_body : (w : ℕ → Name) (g b : Statement) → the_statement (toks w L rest) ≡ some (g, toks w L a) → the_statement (toks w L (a + 1)) ≡ some (b, toks w L a₃) → the_bracket (toks w L at) ≡ (the_others (toks w L a₃) >>= λ cs. some (choosing (written (names w L count at) g (op_of (kind_at L a)) b) cs.0, cs.1))
      read_body w g b e f = read_operator w g e ∙ read_on (the_statement (toks w L (a + 1))) _ _ f

      outer_spelling : (w : ℕ → Name) (num : Name → ℕ) → Spelling w num (length B) → Spelling w num (length B₄)
      outer_spelling w num sp = subst (λ (T : List ℕ). Spelling w num (length T)) (sym outer) sp

      outer_scope : (E : List ℕ) → Scope B E level → Scope B₄ E level
      outer_scope E sc = subst (λ (T : List ℕ). Scope T E level) (sym outer) sc

      pub choice_others_odd : (B₅ S₅ Q₅ : List ℕ) (O₆ : List Word) → ReadTo (some_others (op_of (kind_at L a))) query L B₄ S₃ Q₃ D O₅ a₃ (k₃ + 1) q₃ level depth B₅ S₅ Q₅ O₆ Odd → ReadTo a_bracket query L B S Q D O at k q level depth B₅ S₅ Q₅ O₆ Odd
      choice_others_odd B₅ S₅ Q₅ O₆ h w num E v sp sc =
          let z = both w num E v sp sc in
          read_body w z.0 z.1 z.2 z.3 ∙ no_more_read (the_others (toks w L a₃)) _ (h w num E v (outer_spelling w num sp) (outer_scope E sc))

      pub choice_others_full : (B₅ S₅ Q₅ : List ℕ) (O₆ : List Word) → ReadTo (some_others (op_of (kind_at L a))) query L B₄ S₃ Q₃ D O₅ a₃ (k₃ + 1) q₃ level depth B₅ S₅ Q₅ O₆ Full → ReadTo a_bracket query L B S Q D O at k q level depth B₅ S₅ Q₅ O₆ Full
      choice_others_full B₅ S₅ Q₅ O₆ (inl h) = (let p = hidden_place L B S Q D O at k q level can rest count hd in inl (omega (arith, h, long_out, F.few, G.few, p.3)))
      choice_others_full B₅ S₅ Q₅ O₆ (inr h) = inr (omega (arith, h, G.long_s, F.long_s, bind.size_s))

      module _ (B₅ S₅ Q₅ : List ℕ) (O₆ : List Word) (a₆ k₆ q₆ f₆ : ℕ) (H : Finished (some_others (op_of (kind_at L a))) query L B₄ S₃ Q₃ D O₅ a₃ (k₃ + 1) q₃ level depth B₅ S₅ Q₅ O₆ a₆ k₆ q₆ f₆) where
        pub choice_no_last_end : (O₇ : List Word) → NoRoom O₆ k₆ O₇ → ReadTo a_bracket query L B S Q D O at k q level depth B₅ S₅ Q₅ O₇ Full
        choice_no_last_end O₇ n = (let p = hidden_place L B S Q D O at k q level can rest count hd in inl (omega (arith, n.full, H.long_o, long_out, F.few, G.few, H.few, H.inside, p.3)))

        pub choice_done : (O₇ : List Word) (g4 s r : ℕ) → Emits O₆ k₆ End O₇ → Lowest g4 (fault 4 twice) → Lower g4 x s → Lower s f₆ r → Finished a_bracket query L B S Q D O at k q level depth B₅ S₅ Q₅ O₇ a₆ (k₆ + 1) q₆ r
        unfolding statement_faults statement_free tight
        choice_done O₇ g4 s r last l4 low4 low6 =
            let p = hidden_place L B S Q D O at k q level can rest count hd in
            let b1 = bind.size_b in
            let b2 = ap length outer in
            record {
              forward = omega (arith, p.3, F.forward, G.forward, H.forward);
              inside = H.inside;
              more = omega (arith, F.more, G.more, H.more);
              most = H.most;
              used = λ i l. omega (arith, H.used i l);
              few = omega (arith, F.few, G.few, H.few, p.3);
              out = omega (arith, last.room, last.stored.long);
              long_o = last.stored.long ∙ H.long_o ∙ long_out;
              cells = H.cells ∙ outer;
              saves = λ i l. H.saves i l ∙ both_saves query L B S Q D O at k q level depth can rest count hd B₁ S₁ twice bind O₁ (k + 3) B₂ S₂ Q₂ O₂ a k₂ q₂ f₂ F B₃ S₃ Q₃ O₃ a₃ k₃ q₃ f₃ G O₄ end x low i l;
              long_s = H.long_s ∙ G.long_s ∙ F.long_s ∙ bind.size_s;
              long_q = H.long_q ∙ G.long_q ∙ F.long_q;
              says = λ w num E v sp sc.
                  (let z = both w num E v sp sc in
                  let o = H.says w num E v (outer_spelling w num sp) (outer_scope E sc) in
                  let xs = names w L count at in
                  let op = op_of (kind_at L a) in
                  let bs = map w E in
                  let ar₀ = around query (heads w D) (map w E) depth in
                  let ar = hidden_around query (heads w D) (map w E) xs depth in
                  let rep = inner_repeats L B S Q D O at k q level can rest count hd B₁ S₁ twice bind w num E sp sc in
                  let cs = o.0 in
                  let f4 = fault 4 (repeats xs) in
                  let sg = statement_faults z.0 (hiding_also xs ar₀) in
                  let sb = statement_faults z.1 (hiding_also xs ar₀) in
                  let m7 = fault 7 (mixed op cs) in
                  let of = others_faults cs ar₀ in
                  let l4' : Lowest g4 f4 = subst (λ (b : Bool). Lowest g4 (fault 4 b)) (sym rep) l4 in
                  let inner : Lowest s (f4 ++ (sg ++ sb)) = lowest_both g4 x s f4 (sg ++ sb) l4' (subst (λ (c : Around). Lowest x (statement_faults z.0 c ++ statement_faults z.1 c)) ar z.4.fault) low4 in
                  let clause_low : Lowest s ((f4 ++ sg) ++ sb) = subst (Lowest s) (sym (append_assoc f4 sg sb)) inner in
                  let all : Lowest r (((f4 ++ sg) ++ sb) ++ (m7 ++ of)) = lowest_both s f₆ r ((f4 ++ sg) ++ sb) (m7 ++ of) clause_low o.2.fault low6 in
                  let e : Effect query (map w (take q Q)) O k (map w (take q₃ Q₃)) O₅ (k₃ + 1) x (statement_faults z.0 (around query (heads w D) (map w E ++ xs) depth) ++ statement_faults z.1 (around query (heads w D) (map w E ++ xs) depth)) (statement_free z.0 (map w E ++ xs) ++ statement_free z.1 (map w E ++ xs)) (λ qs y. Inner (ask_of (kind_at L a)) ∷ Inner ClauseSort ∷ Num count ∷ stmt_words num (statement_of z.0 qs (bs ++ xs)) (stmt_words num (statement_of z.1 qs (bs ++ xs)) (End ∷ y))) =
                  effect_around O O₅ k (k₃ + 1) (λ y. Inner (ask_of (kind_at L a)) ∷ Inner ClauseSort ∷ Num count ∷ y) (λ y wr. wrote_three slots.outside wr fill.outside fill.one fill.two fill.three) z.4 in (
                    choosing (written xs z.0 op z.1) cs,
                    read_body w z.0 z.1 z.2 z.3 ∙ read_on (the_others (toks w L a₃)) _ _ o.1,
                    record {
                      fault = subst (Lowest r) (sym (append_assoc m7 ((f4 ++ sg) ++ sb) of)) (lowest_alike r (((f4 ++ sg) ++ sb) ++ (m7 ++ of)) (m7 ++ (((f4 ++ sg) ++ sb) ++ of)) (alike_swap ((f4 ++ sg) ++ sb) m7 of) all);
                      names = numbered_both query (map w (take q Q)) (statement_free z.0 (bs ++ xs) ++ statement_free z.1 (bs ++ xs)) (map w (take q₃ Q₃)) (others_free cs bs) (map w (take q₆ Q₅)) z.4.names o.2.names;
                      words = λ qs l. wrote_same (λ y. ap₂ (λ (so : Sort) (n : ℕ). Inner so ∷ Inner ClauseSort ∷ Num n ∷ stmt_words num (statement_of z.0 qs (bs ++ xs)) (stmt_words num (statement_of z.1 qs (bs ++ xs)) (End ∷ clauses_words num (others_of cs qs bs) (End ∷ y)))) (ask_is (kind_at L a) lo hi) (sym (names_size w L count at)) ∙ sym (choice_words num xs z.0 z.1 op cs qs bs y)) (wrote_then (wrote_then (e.words qs (final_back query (map w (take q₃ Q₃)) (others_free cs bs) (map w (take q₆ Q₅)) qs o.2.names l)) (o.2.words qs l)) (wrote_word last.room tt last.stored));
                    },
                  ));
            }
