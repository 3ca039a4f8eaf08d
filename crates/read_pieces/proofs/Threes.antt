-- Refusal 3 inside a clause.
use mathlib.Core.Path.{◌≡◌, refl, ap, ap₂, sym, ◌∙◌, subst}
use mathlib.Core.Logic.{◌⊎◌, inl, inr}
use mathlib.Core.List.{List, [], ◌∷◌, ◌++◌, map, append_assoc, append-nil}
use mathlib.Core.Bool.{Bool, true, false, not}
use mathlib.Core.Option.{Option, some, none, some-injective}
use Prim.Native.Nat.{ℕ, suc, ◌+◌, ◌*◌, ◌≤◌, ◌<◌}
use native.Mathlib.Omega.{arith}
use native.Mathlib.Decide.{ℕ_discrete}
use lib.Dec.{eqb}
use lib.ListN.{length, get_or, take}
use Rattle.constraint.specs.Constraint.{In}
use Rattle.mem_numbers.specs.Stored.{Stored}
use Rattle.akl.specs.Base.{Name, size, once, repeats, if, ◌>>=◌}
use Rattle.akl.specs.Syntax.{Op, wait, cond, commit, no_more}
use Rattle.akl.specs.Token.{Token}
use Rattle.akl.specs.Grammar.{Statement, Clause, written}
use Rattle.akl.specs.Parse as parse
use Rattle.akl.specs.Parse.{an_operator}
use Rattle.akl.specs.Reader.{Around, fault, hiding_also, same_operator, operator_of, statement_faults, clause_faults, statement_free, clause_free, statement_of, clause_of}
use Rattle.mem_words.specs.declared.Word.{Word}
use Rattle.mem_words.specs.declared.Word.TheVariants.{End, Num, Inner}
use Rattle.mem_sorts.specs.declared.Sort.TheVariants.{Clause as ClauseSort}
use Rattle.descent.specs.Descent.{the_statement, the_clause, the_hidden, guard_of}
use Rattle.descent.proofs.Steps.{no_more_read, read_on, clause_none, clause_hidden}
use Rattle.read_phrases.specs.Codes.{kind_at, toks, kind_inside, operator_is, operator_not, op_of}
use Rattle.read_phrases.specs.Phrases.{names, HiddenTo}
use Rattle.read_phrases.specs.declared.Phrase.TheVariants.{To, Odd as NoPhrase}
use Rattle.read_phrases.proofs.Reading.{names_size}
use Rattle.layout.specs.Layout.{stmt_words, clauses_words}
use Rattle.read_lookups.specs.Places.{ids}
use Rattle.read_scopes.specs.Scopes.{Bindings}
use Rattle.read_scopes.specs.TheirContracts.{Unbound}
use Rattle.read_emits.specs.Out.{Wrote, wrote_word, wrote_then}
use Rattle.read_emits.specs.TheirContracts.{Emits, NoRoom}
use Rattle.read_pieces.specs.Worst.{Lower, Lowest, in_left, in_right, lowest_both, lowest_alike, alike_turn, alike_same, alike_then}
use Rattle.read_pieces.specs.Effect.{Effect, Numbered, effect_then, effect_same, effect_around, effect_behind, once_append}
use Rattle.read_pieces.specs.Reads.{a_statement, a_clause, Says, Scope, Spelling, CanRead, Finished, ReadTo, TooMuch, around, heads}
use Rattle.read_pieces.specs.declared.Read.TheVariants.{Done, Three, Odd, Full}
use Rattle.read_pieces.proofs.Simples.{read_first}
use Rattle.read_pieces.proofs.Statements.{once_longer, numbered}
use Rattle.read_pieces.proofs.Clauses.{hidden_around, guard_says}
use Rattle.read_pieces.proofs.Scoping.{hidden_place, inner_scope, inner_names, inner_spelling, inner_repeats, inner_can, outer_back}

-- the parts of a clause that was read
pub clause_parts : (xs : List Name) (ts us : List Token) (c : Clause) → (the_statement ts >>= guard_of xs) ≡ some (c, us) → (g : Statement) × (vs : List Token) × (the_statement ts ≡ some (g, vs)) × (op : Op) × (rs : List Token) × (an_operator vs ≡ some (op, rs)) × (b : Statement) × (zs : List Token) × (the_statement rs ≡ some (b, zs)) × (written xs g op b ≡ c)
unfolding guard_of
clause_parts xs ts us c e =
    let x = read_first (the_statement ts) (guard_of xs) (c, us) e in
    let y = read_first (an_operator x.0.1) (λ o. the_statement o.1 >>= λ b. some (written xs x.0.0 o.0 b.0, b.1)) (c, us) x.2 in
    let z = read_first (the_statement y.0.1) (λ b. some (written xs x.0.0 y.0.0 b.0, b.1)) (c, us) y.2 in
    (x.0.0, x.0.1, x.1, y.0.0, y.0.1, y.1, z.0.0, z.0.1, z.1, ap (λ (p : Clause × List Token). p.0) (some-injective (written xs x.0.0 y.0.0 z.0.0, z.0.1) (c, us) z.2))

-- what two readings of the same tokens found
pub same_read : {A : Type 0} (o : parse.Read A) (a b : A) (us vs : List Token) → o ≡ some (a, us) → o ≡ some (b, vs) → (a ≡ b) × (us ≡ vs)
same_read o a b us vs e f = (ap (λ (p : _ × List Token). p.0) (some-injective (a, us) (b, vs) (sym e ∙ f)), ap (λ (p : _ × List Token). p.1) (some-injective (a, us) (b, vs) (sym e ∙ f)))

module _ (query : Bool) (L B S Q D : List ℕ) (O : List Word) (at k q level depth : ℕ) (can : CanRead L B S Q D O at k q level) (rest count : ℕ) (hd : HiddenTo L at (To rest count)) (B₁ S₁ : List ℕ) (twice : Bool) (bind : Bindings L at count B S level level B₁ S₁ twice) where
  -- too much in the guard, and in the body, said of the outer scope
  abbrev Much : (ℕ → Name) → List ℕ → List Name → Statement → Type 0
  Much w E ps t = In 3 (statement_faults t (hiding_also (names w L count at) (around query (heads w D) (map w E) depth))) ⊎ ((query ≡ true) × (16 < size (once ps (statement_free t (map w E ++ names w L count at)))))

  pub guard_much : (O₁ : List Word) (k₁ : ℕ) (B₂ S₂ Q₂ : List ℕ) (O₂ : List Word) → ReadTo a_statement query L B₁ S₁ Q D O₁ rest k₁ q (level + count) depth B₂ S₂ Q₂ O₂ Three → Says a_statement query L B S Q D O at k q level depth (λ w num E. (t : Statement) (us : List Token) → the_statement (toks w L rest) ≡ some (t, us) → Much w E (map w (take q Q)) t)
  guard_much O₁ k₁ B₂ S₂ Q₂ O₂ three w num E v sp sc t us e =
      let m = three w num (E ++ ids L count at) v (inner_spelling L B S Q D O at k q level can rest count hd B₁ S₁ twice bind w num sp) (inner_scope L B S Q D O at k q level can rest count hd B₁ S₁ twice bind E sc) t us e in
      let n = inner_names L B S Q D O at k q level can rest count hd B₁ S₁ twice bind w E in
      elim m [ inl i ↦ inl (subst (λ (c : Around). In 3 (statement_faults t c)) (ap (λ (bs : List Name). around query (heads w D) bs depth) n ∙ hidden_around query (heads w D) (map w E) (names w L count at) depth) i) | inr z ↦ inr (z.0, subst (λ (bs : List Name). 16 < size (once (map w (take q Q)) (statement_free t bs))) n z.1) ]

  pub body_much : (O₁ : List Word) (k₁ : ℕ) (B₂ S₂ Q₂ : List ℕ) (O₂ : List Word) (a k₂ q₂ f₂ : ℕ) → Finished a_statement query L B₁ S₁ Q D O₁ rest k₁ q (level + count) depth B₂ S₂ Q₂ O₂ a k₂ q₂ f₂ → (B₃ S₃ Q₃ : List ℕ) (O₃ : List Word) → ReadTo a_statement query L B₂ S₂ Q₂ D O₂ (a + 1) k₂ q₂ (level + count) depth B₃ S₃ Q₃ O₃ Three → Says a_statement query L B S Q D O at k q level depth (λ w num E. (t : Statement) (us : List Token) → the_statement (toks w L (a + 1)) ≡ some (t, us) → Much w E (map w (take q₂ Q₂)) t)
  body_much O₁ k₁ B₂ S₂ Q₂ O₂ a k₂ q₂ f₂ F B₃ S₃ Q₃ O₃ three w num E v sp sc t us e =
      let m = three w num (E ++ ids L count at) v (subst (λ (T : List ℕ). Spelling w num (length T)) (sym F.cells) (inner_spelling L B S Q D O at k q level can rest count hd B₁ S₁ twice bind w num sp)) (subst (λ (T : List ℕ). Scope T (E ++ ids L count at) (level + count)) (sym F.cells) (inner_scope L B S Q D O at k q level can rest count hd B₁ S₁ twice bind E sc)) t us e in
      let n = inner_names L B S Q D O at k q level can rest count hd B₁ S₁ twice bind w E in
      elim m [ inl i ↦ inl (subst (λ (c : Around). In 3 (statement_faults t c)) (ap (λ (bs : List Name). around query (heads w D) bs depth) n ∙ hidden_around query (heads w D) (map w E) (names w L count at) depth) i) | inr z ↦ inr (z.0, subst (λ (bs : List Name). 16 < size (once (map w (take q₂ Q₂)) (statement_free t bs))) n z.1) ]

  -- so it is in the clause
  abbrev MuchClause : (ℕ → Name) → List ℕ → List Name → Clause → Type 0
  MuchClause w E ps c = In 3 (clause_faults c (around query (heads w D) (map w E) depth)) ⊎ ((query ≡ true) × (16 < size (once ps (clause_free c (map w E)))))

  pub guard_in_clause : (w : ℕ → Name) (E : List ℕ) (g b : Statement) (op : Op) → Much w E (map w (take q Q)) g → MuchClause w E (map w (take q Q)) (written (names w L count at) g op b)
  unfolding statement_faults statement_free
  guard_in_clause w E g b op (inl i) = inl (in_left 3 (fault 4 (repeats (names w L count at)) ++ statement_faults g (hiding_also (names w L count at) (around query (heads w D) (map w E) depth))) _ (in_right 3 (fault 4 (repeats (names w L count at))) _ i))
  guard_in_clause w E g b op (inr z) = inr (z.0, (let l = once_longer (map w (take q Q)) (statement_free g (map w E ++ names w L count at)) (statement_free b (map w E ++ names w L count at)) in omega (arith, z.1)))

  pub body_in_clause : (w : ℕ → Name) (E : List ℕ) (g b : Statement) (op : Op) (ps₂ : List Name) → Numbered query (map w (take q Q)) (statement_free g (map w E ++ names w L count at)) ps₂ → Much w E ps₂ b → MuchClause w E (map w (take q Q)) (written (names w L count at) g op b)
  unfolding statement_faults statement_free
  body_in_clause w E g b op ps₂ n (inl i) = inl (in_right 3 (fault 4 (repeats (names w L count at)) ++ statement_faults g (hiding_also (names w L count at) (around query (heads w D) (map w E) depth))) _ i)
  body_in_clause w E g b op ps₂ n (inr z) =
      let e = numbered query L B S Q D O at k q level depth query (map w (take q Q)) (statement_free g (map w E ++ names w L count at)) ps₂ z.0 n in
      let f = once_append (map w (take q Q)) (statement_free g (map w E ++ names w L count at)) (statement_free b (map w E ++ names w L count at)) ∙ ap (λ (l : List Name). once l (statement_free b (map w E ++ names w L count at))) (sym e) in
      inr (z.0, subst (λ (l : List Name). 16 < size l) (sym f) z.1)

-- refusal 3 in a later clause
module _ (query : Bool) (L B S Q D : List ℕ) (O : List Word) (at k q level depth kind : ℕ) (can : CanRead L B S Q D O at k q level) (rest count : ℕ) (hd : HiddenTo L at (To rest count)) (B₁ S₁ : List ℕ) (twice : Bool) (bind : Bindings L at count B S level level B₁ S₁ twice) (O₁ : List Word) where
  lift : (w : ℕ → Name) (E : List ℕ) (c : Clause) → In 3 (clause_faults c (around query (heads w D) (map w E) depth)) ⊎ ((query ≡ true) × (16 < size (once (map w (take q Q)) (clause_free c (map w E))))) → TooMuch (a_clause (op_of kind)) query L B S Q D O at k q level depth w E c
  lift w E c (inl i) = inl (in_right 3 (fault 7 (not (same_operator (op_of kind) (operator_of c)))) _ i)
  lift w E c (inr z) = inr z

  pub clause_guard_three : (B₂ S₂ Q₂ : List ℕ) (O₂ : List Word) → ReadTo a_statement query L B₁ S₁ Q D O₁ rest (k + 2) q (level + count) depth B₂ S₂ Q₂ O₂ Three → ReadTo (a_clause (op_of kind)) query L B S Q D O at k q level depth B₂ S₂ Q₂ O₂ Three
  clause_guard_three B₂ S₂ Q₂ O₂ three w num E v sp sc c us e =
      let x = clause_parts (names w L count at) (toks w L rest) us c (sym (clause_hidden (toks w L at) (toks w L rest) (names w L count at) (hd.reads w)) ∙ e) in
      let m = guard_much query L B S Q D O at k q level depth can rest count hd B₁ S₁ twice bind O₁ (k + 2) B₂ S₂ Q₂ O₂ three w num E v sp sc x.0 x.1 x.2 in
      subst (TooMuch (a_clause (op_of kind)) query L B S Q D O at k q level depth w E) x.9 (lift w E _ (guard_in_clause query L B S Q D O at k q level depth can rest count hd B₁ S₁ twice bind w E x.0 x.6 x.3 m))

  pub clause_body_three : (B₂ S₂ Q₂ : List ℕ) (O₂ : List Word) (a k₂ q₂ f₂ : ℕ) → Finished a_statement query L B₁ S₁ Q D O₁ rest (k + 2) q (level + count) depth B₂ S₂ Q₂ O₂ a k₂ q₂ f₂ → 11 ≤ kind_at L a → kind_at L a < 14 → (B₃ S₃ Q₃ : List ℕ) (O₃ : List Word) → ReadTo a_statement query L B₂ S₂ Q₂ D O₂ (a + 1) k₂ q₂ (level + count) depth B₃ S₃ Q₃ O₃ Three → ReadTo (a_clause (op_of kind)) query L B S Q D O at k q level depth B₃ S₃ Q₃ O₃ Three
  clause_body_three B₂ S₂ Q₂ O₂ a k₂ q₂ f₂ F lo hi B₃ S₃ Q₃ O₃ three w num E v sp sc c us e =
      let x = clause_parts (names w L count at) (toks w L rest) us c (sym (clause_hidden (toks w L at) (toks w L rest) (names w L count at) (hd.reads w)) ∙ e) in
      let g = guard_says query L B S Q D O at k q level depth can rest count hd B₁ S₁ twice bind O₁ (k + 2) B₂ S₂ Q₂ O₂ a k₂ q₂ f₂ F w num E v sp sc in
      let s = same_read (the_statement (toks w L rest)) g.0 x.0 (toks w L a) x.1 g.1 x.2 in
      let o = same_read (an_operator (toks w L a)) (op_of (kind_at L a)) x.3 (toks w L (a + 1)) x.4 (operator_is w L a lo hi) (ap an_operator s.1 ∙ x.5) in
      let m = body_much query L B S Q D O at k q level depth can rest count hd B₁ S₁ twice bind O₁ (k + 2) B₂ S₂ Q₂ O₂ a k₂ q₂ f₂ F B₃ S₃ Q₃ O₃ three w num E v sp sc x.6 x.7 (ap the_statement o.1 ∙ x.8) in
      subst (TooMuch (a_clause (op_of kind)) query L B S Q D O at k q level depth w E) x.9
      (lift w E _ (body_in_clause query L B S Q D O at k q level depth can rest count hd B₁ S₁ twice bind w E x.0 x.6 x.3 (map w (take q₂ Q₂)) (subst (λ (t : Statement). Numbered query (map w (take q Q)) (statement_free t (map w E ++ names w L count at)) (map w (take q₂ Q₂))) s.0 g.2.names) m))
