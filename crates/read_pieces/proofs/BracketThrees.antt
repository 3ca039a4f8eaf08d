-- Refusal 3 inside a bracket.
use mathlib.Core.Path.{◌≡◌, refl, ap, ap₂, sym, ◌∙◌, subst}
use mathlib.Core.Logic.{◌⊎◌, inl, inr}
use mathlib.Core.List.{List, [], ◌∷◌, ◌++◌, map, append_assoc, append-nil}
use mathlib.Core.Bool.{Bool, true, false, not}
use mathlib.Core.Option.{Option, some, none, some-injective}
use Prim.Native.Nat.{ℕ, zero, suc, ◌+◌, ◌*◌, ◌≤◌, ◌<◌}
use native.Mathlib.Omega.{arith}
use lib.ListN.{length, get_or, take}
use Rattle.constraint.specs.Constraint.{In}
use Rattle.mem_numbers.specs.Stored.{Stored}
use Rattle.akl.specs.Base.{Name, size, once, repeats, if, ◌>>=◌}
use Rattle.akl.specs.Syntax.{Op, wait, cond, commit}
use Rattle.akl.specs.Token.{Token}
use Rattle.akl.specs.Grammar.{Statement, Bracket, plain, hiding, choosing, Clause, written, Others}
use Rattle.akl.specs.Parse as parse
use Rattle.akl.specs.Parse.{an_operator, unclaused}
use Rattle.akl.specs.Reader.{Around, fault, mixed, operator_of, hiding_also, statement_faults, bracket_faults, clause_faults, others_faults, statement_free, bracket_free, clause_free, others_free, statement_of, bracket_of, clause_of, others_of}
use Rattle.mem_words.specs.declared.Word.{Word}
use Rattle.mem_words.specs.declared.Word.TheVariants.{End, Num, Inner, Bad}
use Rattle.mem_sorts.specs.declared.Sort.{Sort}
use Rattle.mem_sorts.specs.declared.Sort.TheVariants.{Hide, Clause as ClauseSort}
use Rattle.descent.specs.Descent.{the_statement, the_bracket, the_others, the_hidden, first_clause}
use Rattle.descent.proofs.Steps.{no_more_read, read_on, bracket_none, bracket_hidden, first_no_operator, first_operator}
use Rattle.read_phrases.specs.Codes.{kind_at, toks, kind_inside, operator_is, operator_not, op_of}
use Rattle.read_phrases.specs.Phrases.{names, HiddenTo}
use Rattle.read_phrases.specs.declared.Phrase.TheVariants.{To, Odd as NoPhrase}
use Rattle.read_phrases.proofs.Reading.{names_size}
use Rattle.layout.specs.Layout.{ask, stmt_words, clauses_words}
use Rattle.read_lookups.specs.Places.{ids}
use Rattle.read_scopes.specs.Scopes.{Bindings}
use Rattle.read_scopes.specs.TheirContracts.{Unbound}
use Rattle.read_emits.specs.Out.{tight, Outside, outside_none, Wrote, wrote_none, wrote_same, wrote_word, wrote_then}
use Rattle.read_emits.specs.TheirContracts.{Emits, NoRoom}
use Rattle.read_pieces.specs.Slots.{wrote_three, Slots, HideFilled, ChoiceFilled, ask_of, ask_wait, ask_cond, ask_commit}
use Rattle.read_pieces.specs.Worst.{Lower, Lowest, in_left, in_right, in_both, lowest_both, lowest_alike, alike_swap}
use Rattle.read_pieces.specs.Effect.{Effect, Numbered, numbered_both, final_back, effect_then, effect_same, effect_around, effect_behind, once_append}
use Rattle.read_pieces.specs.Reads.{a_statement, a_bracket, some_others, Says, Scope, Spelling, CanRead, Finished, ReadTo, TooMuch, around, heads}
use Rattle.read_pieces.specs.declared.Read.TheVariants.{Done, Three, Odd, Full}
use Rattle.read_pieces.proofs.Simples.{read_first}
use Rattle.read_pieces.proofs.Closed.{ask_is}
use Rattle.read_pieces.proofs.Statements.{once_longer, numbered}
use Rattle.read_pieces.proofs.Threes.{same_read, guard_much, body_much, guard_in_clause, body_in_clause}
use Rattle.read_pieces.proofs.Scoping.{hidden_place, inner_scope, inner_names, inner_spelling, inner_repeats, outer_back}
use Rattle.read_pieces.proofs.Clauses.{hidden_around, guard_says, body_says, both_says, both_cells, both_saves, three_kinds}

-- the parts of a bracket that was read: no operator, or a choice
pub bracket_parts : (xs : List Name) (ts us : List Token) (t : Bracket) → (the_statement ts >>= first_clause xs) ≡ some (t, us) → (g : Statement) × (vs : List Token) × (the_statement ts ≡ some (g, vs)) × ((unclaused xs g ≡ t) ⊎ ((op : Op) × (rs : List Token) × (an_operator vs ≡ some (op, rs)) × (b : Statement) × (zs : List Token) × (the_statement rs ≡ some (b, zs)) × (cs : Others) × (ys : List Token) × (the_others zs ≡ some (cs, ys)) × (choosing (written xs g op b) cs ≡ t)))
bracket_parts xs ts us t e = (x.0.0, x.0.1, x.1, go (an_operator x.0.1) refl)
  where
    x : (y : Statement × List Token) × (the_statement ts ≡ some y) × (first_clause xs y ≡ some (t, us))
    x = read_first (the_statement ts) (first_clause xs) (t, us) e

    go : (o : parse.Read Op) → an_operator x.0.1 ≡ o → (unclaused xs x.0.0 ≡ t) ⊎ ((op : Op) × (rs : List Token) × (an_operator x.0.1 ≡ some (op, rs)) × (b : Statement) × (zs : List Token) × (the_statement rs ≡ some (b, zs)) × (cs : Others) × (ys : List Token) × (the_others zs ≡ some (cs, ys)) × (choosing (written xs x.0.0 op b) cs ≡ t))
    go none h = inl (ap (λ (p : Bracket × List Token). p.0) (some-injective (unclaused xs x.0.0, x.0.1) (t, us) (sym (first_no_operator xs x.0.0 x.0.1 h) ∙ x.2)))
    go (some o) h =
        let y = read_first (the_statement o.1) (λ b. the_others b.1 >>= λ cs. some (choosing (written xs x.0.0 o.0 b.0) cs.0, cs.1)) (t, us) (sym (first_operator xs x.0.0 x.0.1 o.1 o.0 h) ∙ x.2) in
        let z = read_first (the_others y.0.1) (λ cs. some (choosing (written xs x.0.0 o.0 y.0.0) cs.0, cs.1)) (t, us) y.2 in
        inr (o.0, o.1, h, y.0.0, y.0.1, y.1, z.0.0, z.0.1, z.1, ap (λ (p : Bracket × List Token). p.0) (some-injective (choosing (written xs x.0.0 o.0 y.0.0) z.0.0, z.0.1) (t, us) z.2))

-- nothing hidden changes nothing
hiding_none : (query : Bool) (hs : List (Name × ℕ)) (bs : List Name) (d : ℕ) → hiding_also [] (around query hs bs d) ≡ around query hs bs d
hiding_none query hs bs d = sym (hidden_around query hs bs [] d) ∙ ap (λ (l : List Name). around query hs l d) (append-nil bs)

unclaused_faults : (query : Bool) (hs : List (Name × ℕ)) (bs : List Name) (d : ℕ) (xs : List Name) (g : Statement) → In 3 (statement_faults g (hiding_also xs (around query hs bs d))) → In 3 (bracket_faults (unclaused xs g) (around query hs bs d))
unfolding statement_faults
unclaused_faults query hs bs d [] g i = subst (λ (a : Around). In 3 (statement_faults g a)) (hiding_none query hs bs d) i
unclaused_faults query hs bs d (x ∷ xs) g i = in_right 3 (fault 4 (repeats (x ∷ xs))) _ i

unclaused_free : (xs bs : List Name) (g : Statement) → bracket_free (unclaused xs g) bs ≡ statement_free g (bs ++ xs)
unfolding statement_free
unclaused_free [] bs g = ap (statement_free g) (sym (append-nil bs))
unclaused_free (x ∷ xs) bs g = refl

module _ (query : Bool) (L B S Q D : List ℕ) (O : List Word) (at k q level depth : ℕ) (can : CanRead L B S Q D O at k q level) (rest count : ℕ) (hd : HiddenTo L at (To rest count)) (O₁ : List Word) (B₁ S₁ : List ℕ) (twice : Bool) (bind : Bindings L at count B S level level B₁ S₁ twice) where
  -- a clause's, in the choice
  in_choice : (w : ℕ → Name) (E : List ℕ) (c : Clause) (cs : Others) → In 3 (clause_faults c (around query (heads w D) (map w E) depth)) ⊎ ((query ≡ true) × (16 < size (once (map w (take q Q)) (clause_free c (map w E))))) → TooMuch a_bracket query L B S Q D O at k q level depth w E (choosing c cs)
  unfolding statement_faults statement_free
  in_choice w E c cs (inl i) = inl (in_left 3 (fault 7 (mixed (operator_of c) cs) ++ clause_faults c (around query (heads w D) (map w E) depth)) (others_faults cs (around query (heads w D) (map w E) depth)) (in_right 3 (fault 7 (mixed (operator_of c) cs)) (clause_faults c (around query (heads w D) (map w E) depth)) i))
  in_choice w E c cs (inr z) = inr (z.0, (let l = once_longer (map w (take q Q)) (clause_free c (map w E)) (others_free cs (map w E)) in omega (arith, z.1)))

  parts : (w : ℕ → Name) (t : Bracket) (us : List Token) → the_bracket (toks w L at) ≡ some (t, us) → (the_statement (toks w L rest) >>= first_clause (names w L count at)) ≡ some (t, us)
  parts w t us e = sym (bracket_hidden (toks w L at) (toks w L rest) (names w L count at) (hd.reads w)) ∙ e

  pub bracket_first_three : (B₂ S₂ Q₂ : List ℕ) (O₂ : List Word) → ReadTo a_statement query L B₁ S₁ Q D O₁ rest (k + 3) q (level + count) depth B₂ S₂ Q₂ O₂ Three → ReadTo a_bracket query L B S Q D O at k q level depth B₂ S₂ Q₂ O₂ Three
  bracket_first_three B₂ S₂ Q₂ O₂ three w num E v sp sc t us e =
      let x = bracket_parts (names w L count at) (toks w L rest) us t (parts w t us e) in
      let m = guard_much query L B S Q D O at k q level depth can rest count hd B₁ S₁ twice bind O₁ (k + 3) B₂ S₂ Q₂ O₂ three w num E v sp sc x.0 x.1 x.2 in
      elim x.3 [ inl z ↦ subst (TooMuch a_bracket query L B S Q D O at k q level depth w E) z (elim m [ inl i ↦ inl (unclaused_faults query (heads w D) (map w E) depth (names w L count at) x.0 i) | inr n ↦ inr (n.0, subst (λ (l : List Name). 16 < size (once (map w (take q Q)) l)) (sym (unclaused_free (names w L count at) (map w E) x.0)) n.1) ]) | inr z ↦ subst (TooMuch a_bracket query L B S Q D O at k q level depth w E) z.9 (in_choice w E _ z.6 (guard_in_clause query L B S Q D O at k q level depth can rest count hd B₁ S₁ twice bind w E x.0 z.3 z.0 m)) ]

  module _ (B₂ S₂ Q₂ : List ℕ) (O₂ : List Word) (a k₂ q₂ f₂ : ℕ) (F : Finished a_statement query L B₁ S₁ Q D O₁ rest (k + 3) q (level + count) depth B₂ S₂ Q₂ O₂ a k₂ q₂ f₂) (lo : 11 ≤ kind_at L a) (hi : kind_at L a < 14) where
    -- the parts, with what is known of the first statement and the operator
    abbrev Chosen : (ℕ → Name) → Bracket → Type 0
    Chosen w t = (g : Statement) × (b : Statement) × (zs : List Token) × (cs : Others) × (ys : List Token) × (the_statement (toks w L rest) ≡ some (g, toks w L a)) × (the_statement (toks w L (a + 1)) ≡ some (b, zs)) × (the_others zs ≡ some (cs, ys)) × (choosing (written (names w L count at) g (op_of (kind_at L a)) b) cs ≡ t)

    chosen : Says a_statement query L B S Q D O at k q level depth (λ w num E. (t : Bracket) (us : List Token) → the_bracket (toks w L at) ≡ some (t, us) → Chosen w t)
    chosen w num E v sp sc t us e =
        let g = guard_says query L B S Q D O at k q level depth can rest count hd B₁ S₁ twice bind O₁ (k + 3) B₂ S₂ Q₂ O₂ a k₂ q₂ f₂ F w num E v sp sc in
        let f = sym (read_on (the_statement (toks w L rest)) (g.0, toks w L a) (first_clause (names w L count at)) g.1) ∙ parts w t us e in
        let y = read_first (the_statement (toks w L (a + 1))) (λ b. the_others b.1 >>= λ cs. some (choosing (written (names w L count at) g.0 (op_of (kind_at L a)) b.0) cs.0, cs.1)) (t, us) (sym (first_operator (names w L count at) g.0 (toks w L a) (toks w L (a + 1)) (op_of (kind_at L a)) (operator_is w L a lo hi)) ∙ f) in
        let z = read_first (the_others y.0.1) (λ cs. some (choosing (written (names w L count at) g.0 (op_of (kind_at L a)) y.0.0) cs.0, cs.1)) (t, us) y.2 in
        (g.0, y.0.0, y.0.1, z.0.0, z.0.1, g.1, y.1, z.1, ap (λ (p : Bracket × List Token). p.0) (some-injective (choosing (written (names w L count at) g.0 (op_of (kind_at L a)) y.0.0) z.0.0, z.0.1) (t, us) z.2))

    pub bracket_body_three : (B₃ S₃ Q₃ : List ℕ) (O₃ : List Word) → ReadTo a_statement query L B₂ S₂ Q₂ D O₂ (a + 1) k₂ q₂ (level + count) depth B₃ S₃ Q₃ O₃ Three → ReadTo a_bracket query L B S Q D O at k q level depth B₃ S₃ Q₃ O₃ Three
    bracket_body_three B₃ S₃ Q₃ O₃ three w num E v sp sc t us e =
        let c = chosen w num E v sp sc t us e in
        let g = guard_says query L B S Q D O at k q level depth can rest count hd B₁ S₁ twice bind O₁ (k + 3) B₂ S₂ Q₂ O₂ a k₂ q₂ f₂ F w num E v sp sc in
        let s = same_read (the_statement (toks w L rest)) g.0 c.0 (toks w L a) (toks w L a) g.1 c.5 in
        let m = body_much query L B S Q D O at k q level depth can rest count hd B₁ S₁ twice bind O₁ (k + 3) B₂ S₂ Q₂ O₂ a k₂ q₂ f₂ F B₃ S₃ Q₃ O₃ three w num E v sp sc c.1 c.2 c.6 in
        subst (TooMuch a_bracket query L B S Q D O at k q level depth w E) c.8
        (in_choice w E _ c.3 (body_in_clause query L B S Q D O at k q level depth can rest count hd B₁ S₁ twice bind w E c.0 c.1 (op_of (kind_at L a)) (map w (take q₂ Q₂)) (subst (λ (t : Statement). Numbered query (map w (take q Q)) (statement_free t (map w E ++ names w L count at)) (map w (take q₂ Q₂))) s.0 g.2.names) m))

    pub bracket_others_three : (B₃ S₃ Q₃ : List ℕ) (O₃ : List Word) (a₃ k₃ q₃ f₃ : ℕ) → Finished a_statement query L B₂ S₂ Q₂ D O₂ (a + 1) k₂ q₂ (level + count) depth B₃ S₃ Q₃ O₃ a₃ k₃ q₃ f₃ → (B₄ : List ℕ) → B₄ ≡ B → (O₅ : List Word) (B₅ S₅ Q₅ : List ℕ) (O₆ : List Word) → ReadTo (some_others (op_of (kind_at L a))) query L B₄ S₃ Q₃ D O₅ a₃ (k₃ + 1) q₃ level depth B₅ S₅ Q₅ O₆ Three → ReadTo a_bracket query L B S Q D O at k q level depth B₅ S₅ Q₅ O₆ Three
    unfolding statement_faults statement_free
    bracket_others_three B₃ S₃ Q₃ O₃ a₃ k₃ q₃ f₃ G B₄ same O₅ B₅ S₅ Q₅ O₆ three w num E v sp sc t us e =
        let c = chosen w num E v sp sc t us e in
        let g = guard_says query L B S Q D O at k q level depth can rest count hd B₁ S₁ twice bind O₁ (k + 3) B₂ S₂ Q₂ O₂ a k₂ q₂ f₂ F w num E v sp sc in
        let b = body_says query L B S Q D O at k q level depth can rest count hd B₁ S₁ twice bind O₁ (k + 3) B₂ S₂ Q₂ O₂ a k₂ q₂ f₂ F B₃ S₃ Q₃ O₃ a₃ k₃ q₃ f₃ G w num E v sp sc in
        let sg = same_read (the_statement (toks w L rest)) g.0 c.0 (toks w L a) (toks w L a) g.1 c.5 in
        let sb = same_read (the_statement (toks w L (a + 1))) b.0 c.1 (toks w L a₃) c.2 b.1 c.6 in
        let bs = map w E ++ names w L count at in
        let ng : Numbered query (map w (take q Q)) (statement_free c.0 bs) (map w (take q₂ Q₂)) = subst (λ (t : Statement). Numbered query (map w (take q Q)) (statement_free t bs) (map w (take q₂ Q₂))) sg.0 g.2.names in
        let nb : Numbered query (map w (take q₂ Q₂)) (statement_free c.1 bs) (map w (take q₃ Q₃)) = subst (λ (t : Statement). Numbered query (map w (take q₂ Q₂)) (statement_free t bs) (map w (take q₃ Q₃))) sb.0 b.2.names in
        let m = three w num E v (subst (λ (T : List ℕ). Spelling w num (length T)) (sym same) sp) (subst (λ (T : List ℕ). Scope T E level) (sym same) sc) c.3 c.4 (ap the_others sb.1 ∙ c.7) in
        subst (TooMuch a_bracket query L B S Q D O at k q level depth w E) c.8
        (elim m [
          | inl i ↦ inl (elim (in_both 3 (fault 7 (mixed (op_of (kind_at L a)) c.3)) (others_faults c.3 (around query (heads w D) (map w E) depth)) i) [ inl j ↦ in_left 3 (fault 7 (mixed (op_of (kind_at L a)) c.3) ++ clause_faults (written (names w L count at) c.0 (op_of (kind_at L a)) c.1) (around query (heads w D) (map w E) depth)) (others_faults c.3 (around query (heads w D) (map w E) depth)) (in_left 3 (fault 7 (mixed (op_of (kind_at L a)) c.3)) (clause_faults (written (names w L count at) c.0 (op_of (kind_at L a)) c.1) (around query (heads w D) (map w E) depth)) j) | inr j ↦ in_right 3 (fault 7 (mixed (op_of (kind_at L a)) c.3) ++ clause_faults (written (names w L count at) c.0 (op_of (kind_at L a)) c.1) (around query (heads w D) (map w E) depth)) _ j ])
          | inr z ↦
              (let n = numbered query L B S Q D O at k q level depth query (map w (take q Q)) (statement_free c.0 bs ++ statement_free c.1 bs) (map w (take q₃ Q₃)) z.0 (numbered_both query (map w (take q Q)) (statement_free c.0 bs) (map w (take q₂ Q₂)) (statement_free c.1 bs) (map w (take q₃ Q₃)) ng nb) in
              let f = once_append (map w (take q Q)) (statement_free c.0 bs ++ statement_free c.1 bs) (others_free c.3 (map w E)) ∙ ap (λ (l : List Name). once l (others_free c.3 (map w E))) (sym n) in
              inr (z.0, subst (λ (l : List Name). 16 < size l) (sym f) z.1))
        ])
