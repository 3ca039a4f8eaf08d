-- A bracket: plain, a hiding, or a choice.
use mathlib.Core.Path.{◌≡◌, refl, ap, ap₂, sym, ◌∙◌, subst}
use mathlib.Core.Logic.{◌⊎◌, inl, inr}
use mathlib.Core.List.{List, [], ◌∷◌, ◌++◌, map, append_assoc, append-nil}
use mathlib.Core.Bool.{Bool, true, false, not}
use mathlib.Core.Option.{Option, some, none, some-injective}
use Prim.Native.Nat.{ℕ, zero, suc, ◌+◌, ◌*◌, ◌≤◌, ◌<◌}
use native.Mathlib.Omega.{arith}
use lib.ListN.{length, get_or, take}
use Rattle.constraint.specs.Constraint.{In}
use Rattle.mem_numbers.specs.Stored.{Stored}
use Rattle.akl.specs.Base.{Name, size, once, repeats, if, ◌>>=◌}
use Rattle.akl.specs.Syntax.{Op, wait, cond, commit}
use Rattle.akl.specs.Token.{Token}
use Rattle.akl.specs.Grammar.{Statement, Bracket, plain, hiding, choosing, Clause, written, Others}
use Rattle.akl.specs.Parse as parse
use Rattle.akl.specs.Parse.{an_operator, unclaused}
use Rattle.akl.specs.Reader.{Around, fault, mixed, hiding_also, statement_faults, bracket_faults, clause_faults, others_faults, statement_free, bracket_free, clause_free, others_free, statement_of, bracket_of, clause_of, others_of}
use Rattle.mem_words.specs.declared.Word.{Word}
use Rattle.mem_words.specs.declared.Word.TheVariants.{End, Num, Inner, Bad}
use Rattle.mem_sorts.specs.declared.Sort.TheVariants.{Hide, Clause as ClauseSort}
use Rattle.descent.specs.Descent.{the_statement, the_bracket, the_others, the_hidden, first_clause}
use Rattle.descent.proofs.Steps.{no_more_read, read_on, bracket_none, bracket_hidden, first_no_operator, first_operator}
use Rattle.read_phrases.specs.Codes.{kind_at, toks, kind_inside, operator_is, operator_not, op_of}
use Rattle.read_phrases.specs.Phrases.{names, HiddenTo}
use Rattle.read_phrases.specs.declared.Phrase.TheVariants.{To, Odd as NoPhrase}
use Rattle.read_phrases.proofs.Reading.{names_size}
use Rattle.layout.specs.Layout.{ask, stmt_words, clauses_words}
use Rattle.read_lookups.specs.Places.{ids}
use Rattle.read_scopes.specs.Scopes.{Bindings}
use Rattle.read_scopes.specs.TheirContracts.{Unbound}
use Rattle.read_emits.specs.Out.{tight, Outside, outside_none, Wrote, wrote_none, wrote_same, wrote_word, wrote_then}
use Rattle.read_emits.specs.TheirContracts.{Emits, NoRoom}
use Rattle.read_pieces.specs.Slots.{wrote_three, Slots, HideFilled, ChoiceFilled, ask_of, ask_wait, ask_cond, ask_commit}
use Rattle.read_pieces.specs.Worst.{Lower, Lowest, in_left, in_right, lowest_both, lowest_alike, alike_swap}
use Rattle.read_pieces.specs.Effect.{Effect, Numbered, effect_then, effect_same, effect_around, effect_behind, once_append}
use Rattle.read_pieces.specs.Reads.{a_statement, a_bracket, some_others, Says, Scope, Spelling, CanRead, Finished, ReadTo, TooMuch, around, heads}
use Rattle.read_pieces.specs.declared.Read.TheVariants.{Done, Three, Odd, Full}
use Rattle.read_pieces.proofs.Simples.{read_first}
use Rattle.read_pieces.proofs.Scoping.{hidden_place, inner_scope, inner_names, inner_spelling, inner_repeats, outer_back}
use Rattle.read_pieces.proofs.Clauses.{hidden_around, guard_says, body_says, both_says, both_cells, both_saves, three_kinds}

-- a bracket without an operator: what it is with a hidden list, and without
pub hiding_faults : (xs : List Name) (t : Statement) (a : Around) → 1 ≤ size xs → bracket_faults (unclaused xs t) a ≡ fault 4 (repeats xs) ++ statement_faults t (hiding_also xs a)
unfolding statement_faults size
hiding_faults [] t a h = absurd (omega arith)
hiding_faults (x ∷ xs) t a h = refl

pub hiding_free : (xs : List Name) (t : Statement) (bs : List Name) → 1 ≤ size xs → bracket_free (unclaused xs t) bs ≡ statement_free t (bs ++ xs)
unfolding statement_free size
hiding_free [] t bs h = absurd (omega arith)
hiding_free (x ∷ xs) t bs h = refl

pub hiding_words : (num : Name → ℕ) (xs : List Name) (t : Statement) (qs bs : List Name) (r : List Word) → 1 ≤ size xs → stmt_words num (bracket_of (unclaused xs t) qs bs) r ≡ Inner Hide ∷ Num (size xs) ∷ stmt_words num (statement_of t qs (bs ++ xs)) (End ∷ r)
unfolding statement_of stmt_words size
hiding_words num [] t qs bs r h = absurd (omega arith)
hiding_words num (x ∷ xs) t qs bs r h = refl

pub none_named : (xs : List Name) → size xs ≡ 0 → xs ≡ []
unfolding size
none_named [] e = refl
none_named (x ∷ xs) e = absurd (omega arith)

-- what opens a choice is that of its operator
pub ask_is : (k : ℕ) → 11 ≤ k → k < 14 → ask_of k ≡ ask (op_of k)
unfolding ask
ask_is k a b = elim (three_kinds k a b) [ inl e ↦ sym (ask_wait k e) ∙ sym (ap (λ (n : ℕ). ask (op_of n)) e) | inr z ↦ elim z [ inl e ↦ sym (ask_cond k (λ y. omega (arith, y, e)) e) ∙ sym (ap (λ (n : ℕ). ask (op_of n)) e) | inr e ↦ sym (ask_commit k (λ y. omega (arith, y, e)) (λ y. omega (arith, y, e))) ∙ sym (ap (λ (n : ℕ). ask (op_of n)) e) ] ]

-- the slots hold what was put there while words were written behind them
kept_slot : {O₁ O₂ : List Word} {k₁ k₂ : ℕ} {f : List Word → List Word} → Wrote O₁ k₁ O₂ k₂ f → (i : ℕ) → i < k₁ → get_or O₁ i Bad ≡ Bad → get_or O₂ i Bad ≡ Bad
kept_slot w i h e = w.older i h ∙ e

module _ (query : Bool) (L B S Q D : List ℕ) (O : List Word) (at k q level depth : ℕ) (can : CanRead L B S Q D O at k q level) where
  pub bracket_no_list : (B' S' Q' : List ℕ) (O' : List Word) → HiddenTo L at NoPhrase → ReadTo a_bracket query L B S Q D O at k q level depth B' S' Q' O' Odd
  bracket_no_list B' S' Q' O' h w num E v sp sc = bracket_none (toks w L at) (h w)

  module _ (rest count : ℕ) (hd : HiddenTo L at (To rest count)) where
    from_hidden : (w : ℕ → Name) → the_bracket (toks w L at) ≡ (the_statement (toks w L rest) >>= first_clause (names w L count at))
    from_hidden w = bracket_hidden (toks w L at) (toks w L rest) (names w L count at) (hd.reads w)

    pub bracket_no_room : (B' S' Q' : List ℕ) (O' : List Word) → length O < k + 3 → ReadTo a_bracket query L B S Q D O at k q level depth B' S' Q' O' Full
    bracket_no_room B' S' Q' O' h = inl (omega (arith, can.inside))

    pub bracket_no_saves : (B' S' Q' : List ℕ) (O' : List Word) → length S < level + count → ReadTo a_bracket query L B S Q D O at k q level depth B' S' Q' O' Full
    bracket_no_saves B' S' Q' O' h = (let p = hidden_place L B S Q D O at k q level can rest count hd in inr (omega (arith, p.1, p.2)))

    module _ (O₁ : List Word) (slots : Slots O k O₁) (B₁ S₁ : List ℕ) (twice : Bool) (bind : Bindings L at count B S level level B₁ S₁ twice) where
      pub bracket_first_odd : (B₂ S₂ Q₂ : List ℕ) (O₂ : List Word) → ReadTo a_statement query L B₁ S₁ Q D O₁ rest (k + 3) q (level + count) depth B₂ S₂ Q₂ O₂ Odd → ReadTo a_bracket query L B S Q D O at k q level depth B₂ S₂ Q₂ O₂ Odd
      bracket_first_odd B₂ S₂ Q₂ O₂ h w num E v sp sc = from_hidden w ∙ no_more_read (the_statement (toks w L rest)) _ (h w num (E ++ ids L count at) v (inner_spelling L B S Q D O at k q level can rest count hd B₁ S₁ twice bind w num sp) (inner_scope L B S Q D O at k q level can rest count hd B₁ S₁ twice bind E sc))

      pub bracket_first_full : (B₂ S₂ Q₂ : List ℕ) (O₂ : List Word) → ReadTo a_statement query L B₁ S₁ Q D O₁ rest (k + 3) q (level + count) depth B₂ S₂ Q₂ O₂ Full → ReadTo a_bracket query L B S Q D O at k q level depth B₂ S₂ Q₂ O₂ Full
      bracket_first_full B₂ S₂ Q₂ O₂ (inl h) = (let p = hidden_place L B S Q D O at k q level can rest count hd in inl (omega (arith, h, slots.outside.long, p.3)))
      bracket_first_full B₂ S₂ Q₂ O₂ (inr h) = inr (omega (arith, h, bind.size_s))

      module _ (B₂ S₂ Q₂ : List ℕ) (O₂ : List Word) (a k₂ q₂ f₂ : ℕ) (F : Finished a_statement query L B₁ S₁ Q D O₁ rest (k + 3) q (level + count) depth B₂ S₂ Q₂ O₂ a k₂ q₂ f₂) where
        read_first_statement : (w : ℕ → Name) (t : Statement) → the_statement (toks w L rest) ≡ some (t, toks w L a) → the_bracket (toks w L at) ≡ first_clause (names w L count at) (t, toks w L a)
        read_first_statement w t e = from_hidden w ∙ read_on (the_statement (toks w L rest)) _ _ e

        back : (B₄ : List ℕ) → Unbound L at count B₂ S₂ level B₄ → B₄ ≡ B
        back B₄ u = outer_back L B S Q D O at k q level can rest count hd B₁ S₁ twice bind B₂ S₂ B₄ F.cells (λ i l. F.saves i l) u

        -- without an operator and without a list: the statement itself
        pub bracket_plain : (B₄ : List ℕ) → (11 ≤ kind_at L a → kind_at L a < 14 → ⊥) → count ≡ 0 → Unbound L at count B₂ S₂ level B₄ → Finished a_bracket query L B S Q D O at k q level depth B₄ S₂ Q₂ O₂ a k₂ q₂ f₂
        unfolding statement_faults statement_free statement_of tight
        bracket_plain B₄ noop z un =
            let p = hidden_place L B S Q D O at k q level can rest count hd in
            let b = bind.size_b in
            record {
              forward = omega (arith, p.3, F.forward);
              inside = F.inside;
              more = F.more;
              most = F.most;
              used = λ i l. omega (arith, F.used i l);
              few = omega (arith, F.few, p.3);
              out = F.out;
              long_o = F.long_o ∙ slots.outside.long;
              cells = back B₄ un;
              saves = λ i l. F.saves i (omega arith) ∙ bind.older i l;
              long_s = F.long_s ∙ bind.size_s;
              long_q = F.long_q;
              says = λ w num E v sp sc.
                  (let g = guard_says query L B S Q D O at k q level depth can rest count hd B₁ S₁ twice bind O₁ (k + 3) B₂ S₂ Q₂ O₂ a k₂ q₂ f₂ F w num E v sp sc in
                  let xs = names w L count at in
                  let e : xs ≡ [] = none_named xs (names_size w L count at ∙ z) in
                  let n : map w E ++ xs ≡ map w E = ap (λ (l : List Name). map w E ++ l) e ∙ append-nil (map w E) in (
                    plain g.0,
                    read_first_statement w g.0 g.1 ∙ first_no_operator xs g.0 (toks w L a) (operator_not w L a noop) ∙ ap (λ (l : List Name). some (unclaused l g.0, toks w L a)) e,
                    effect_around O O₂ k k₂ (λ y. y) (λ y wr. wrote_three slots.outside wr (outside_none k 3 O₂) (kept_slot wr k (omega arith) slots.one) (kept_slot wr (k + 1) (omega arith) slots.two) (kept_slot wr (k + 2) (omega arith) slots.three))
                        (subst (λ (bs : List Name). Effect query (map w (take q Q)) O₁ (k + 3) (map w (take q₂ Q₂)) O₂ k₂ f₂ (statement_faults g.0 (around query (heads w D) bs depth)) (statement_free g.0 bs) (λ qs y. stmt_words num (statement_of g.0 qs bs) y)) n g.2),
                  ));
            }

        -- without an operator, with a list: a hiding
        pub bracket_hiding : (O₃ O₄ : List Word) (B₄ : List ℕ) (g4 r : ℕ) → (11 ≤ kind_at L a → kind_at L a < 14 → ⊥) → 1 ≤ count → HideFilled O₂ k count O₃ → Emits O₃ k₂ End O₄ → Unbound L at count B₂ S₂ level B₄ → Lowest g4 (fault 4 twice) → Lower g4 f₂ r → Finished a_bracket query L B S Q D O at k q level depth B₄ S₂ Q₂ O₄ a (k₂ + 1) q₂ r
        unfolding tight
        bracket_hiding O₃ O₄ B₄ g4 r noop some_names fill end un l4 low =
            let p = hidden_place L B S Q D O at k q level can rest count hd in
            let b = bind.size_b in
            record {
              forward = omega (arith, p.3, F.forward);
              inside = F.inside;
              more = F.more;
              most = F.most;
              used = λ i l. omega (arith, F.used i l);
              few = omega (arith, F.few, p.3);
              out = omega (arith, end.room, end.stored.long);
              long_o = end.stored.long ∙ fill.outside.long ∙ F.long_o ∙ slots.outside.long;
              cells = back B₄ un;
              saves = λ i l. F.saves i (omega arith) ∙ bind.older i l;
              long_s = F.long_s ∙ bind.size_s;
              long_q = F.long_q;
              says = λ w num E v sp sc.
                  (let g = guard_says query L B S Q D O at k q level depth can rest count hd B₁ S₁ twice bind O₁ (k + 3) B₂ S₂ Q₂ O₂ a k₂ q₂ f₂ F w num E v sp sc in
                  let xs = names w L count at in
                  let sz : size xs ≡ count = names_size w L count at in
                  let m : 1 ≤ size xs = omega arith in
                  let ar = hidden_around query (heads w D) (map w E) xs depth in
                  let rep = inner_repeats L B S Q D O at k q level can rest count hd B₁ S₁ twice bind w num E sp sc in
                  let e : Effect query (map w (take q Q)) O k (map w (take q₂ Q₂)) O₄ (k₂ + 1) f₂ (statement_faults g.0 (around query (heads w D) (map w E ++ xs) depth)) (statement_free g.0 (map w E ++ xs)) (λ qs y. Inner Hide ∷ Num count ∷ stmt_words num (statement_of g.0 qs (map w E ++ xs)) (End ∷ y)) =
                  effect_behind (effect_around O O₃ k k₂ (λ y. Inner Hide ∷ Num count ∷ y) (λ y wr. wrote_three slots.outside wr fill.outside fill.one fill.two (fill.three ∙ kept_slot wr (k + 2) (omega arith) slots.three)) g.2) (wrote_word end.room tt end.stored) in (
                    unclaused xs g.0,
                    read_first_statement w g.0 g.1 ∙ first_no_operator xs g.0 (toks w L a) (operator_not w L a noop),
                    record {
                      fault = subst (Lowest r) (sym (hiding_faults xs g.0 (around query (heads w D) (map w E) depth) m)) (lowest_both g4 f₂ r (fault 4 (repeats xs)) _ (subst (λ (c : Bool). Lowest g4 (fault 4 c)) (sym rep) l4) (subst (λ (c : Around). Lowest f₂ (statement_faults g.0 c)) ar e.fault) low);
                      names = subst (λ (l : List Name). Numbered query (map w (take q Q)) l (map w (take q₂ Q₂))) (sym (hiding_free xs g.0 (map w E) m)) e.names;
                      words = λ qs l. wrote_same (λ y. ap (λ (n : ℕ). Inner Hide ∷ Num n ∷ stmt_words num (statement_of g.0 qs (map w E ++ xs)) (End ∷ y)) (sym sz) ∙ sym (hiding_words num xs g.0 qs (map w E) y m)) (e.words qs l);
                    },
                  ));
            }

        pub bracket_no_end : (O₃ O₄ : List Word) → HideFilled O₂ k count O₃ → NoRoom O₃ k₂ O₄ → ReadTo a_bracket query L B S Q D O at k q level depth B₂ S₂ Q₂ O₄ Full
        bracket_no_end O₃ O₄ fill n = (let p = hidden_place L B S Q D O at k q level can rest count hd in inl (omega (arith, n.full, fill.outside.long, F.long_o, slots.outside.long, F.few, F.inside, p.3)))
