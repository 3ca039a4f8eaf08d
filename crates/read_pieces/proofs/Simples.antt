-- A simple statement that is a bracket.
use mathlib.Core.Path.{◌≡◌, refl, ap, ap₂, sym, ◌∙◌, subst}
use mathlib.Core.Logic.{◌⊎◌, inl, inr}
use mathlib.Core.List.{List, [], ◌∷◌, ◌++◌, map}
use mathlib.Core.Bool.{Bool, true, false}
use mathlib.Core.Option.{Option, some, none, some-injective}
use Prim.Native.Nat.{ℕ, suc, ◌+◌, ◌*◌, ◌≤◌, ◌<◌}
use native.Mathlib.Omega.{arith}
use native.Mathlib.Numerals.{add-one}
use lib.Dec.{leb}
use lib.ListN.{length, take}
use borrow.Author.Tests.{leb-true, leb-false}
use Rattle.constraint.specs.Constraint.{In}
use Rattle.akl.specs.Base.{Name, size, once, ◌>>=◌}
use Rattle.akl.specs.Limits.{most_depth}
use Rattle.akl.specs.Token.{Token, close_bracket}
use Rattle.akl.specs.Grammar.{Simple, bracket, Bracket}
use Rattle.akl.specs.Parse as parse
use Rattle.akl.specs.Parse.{after}
use Rattle.akl.specs.Reader.{fault, simple_faults, bracket_faults, deeper, simple_free, bracket_free, statement_faults, statement_free, statement_of}
use Rattle.mem_words.specs.declared.Word.{Word}
use Rattle.descent.specs.Descent.{the_simple, the_bracket}
use Rattle.descent.proofs.Steps.{no_more_read, read_on, simple_bracket}
use Rattle.read_phrases.specs.Codes.{kind_at, toks, kind_inside, mark_here, mark_not}
use Rattle.read_phrases.specs.Phrases.{SimpleAt}
use Rattle.read_phrases.specs.declared.Simple.TheVariants.{Bracket as Opened}
use Rattle.read_pieces.specs.Effect.{Effect, effect_same}
use Rattle.read_pieces.specs.Reads.{a_simple, a_bracket, Finished, ReadTo, TooMuch, around, heads}
use Rattle.read_pieces.specs.declared.Read.TheVariants.{Done, Three, Odd, Full}

-- what is read on was read
pub read_first : {A B : Type 0} (o : Option A) (f : A → Option B) (y : B) → (o >>= f) ≡ some y → (x : A) × (o ≡ some x) × (f x ≡ some y)
read_first none f y e = absurd (let z : ◌≡◌ {A = ℕ} 0 1 = ap (λ (o : Option _). elim o as (λ v. ℕ) [ none ↦ 0 | some x ↦ 1 ]) e in omega arith)
read_first (some x) f y e = (x, refl, e)

-- whether a bracket is too deep
not_deep : (d : ℕ) → d < 32 → leb most_depth d ≡ false
not_deep d h = go (leb most_depth d) refl
  where
    go : (b : Bool) → leb most_depth d ≡ b → leb most_depth d ≡ false
    go true e = absurd (let v = leb-true most_depth d e in omega arith)
    go false e = e

deep : (d : ℕ) → 32 ≤ d → leb most_depth d ≡ true
deep d h = go (leb most_depth d) refl
  where
    go : (b : Bool) → leb most_depth d ≡ b → leb most_depth d ≡ true
    go true e = e
    go false e = absurd (let v = leb-false most_depth d e in omega arith)

module _ (query : Bool) (L B S Q D : List ℕ) (O : List Word) (at k q level depth inside : ℕ) (op : SimpleAt L at (Opened inside)) where
  opened : (w : ℕ → Name) → the_simple (toks w L at) ≡ (the_bracket (toks w L inside) >>= (λ b. after close_bracket b.1 >>= λ u. some (bracket b.0, u)))
  opened w = simple_bracket (toks w L at) (toks w L inside) (op.2 w)

  -- a bracket's faults in a simple statement
  inner_faults : (w : ℕ → Name) (E : List ℕ) (b : Bracket) → depth < 32 → bracket_faults b (around query (heads w D) (map w E) (depth + 1)) ≡ simple_faults (bracket b) (around query (heads w D) (map w E) depth)
  unfolding statement_faults
  inner_faults w E b h =
      ap (λ (d : ℕ). bracket_faults b (around query (heads w D) (map w E) d)) (add-one depth)
      ∙ ap (λ (c : Bool). fault 3 c ++ bracket_faults b (around query (heads w D) (map w E) (suc depth))) (sym (not_deep depth h))

  pub simple_done : (B' S' Q' : List ℕ) (O' : List Word) (a k' q' f : ℕ) → depth < 32 → Finished a_bracket query L B S Q D O inside k q level (depth + 1) B' S' Q' O' a k' q' f → kind_at L a ≡ 4 → Finished a_simple query L B S Q D O at k q level depth B' S' Q' O' (a + 1) k' q' f
  unfolding statement_free statement_of
  simple_done B' S' Q' O' a k' q' f h F c =
      let i = kind_inside L a (omega arith) in
      let e = op.1 in
      let m = F.forward in
      let n = F.few in
      record {
        forward = omega arith;
        inside = omega arith;
        more = F.more;
        most = F.most;
        used = F.used;
        few = omega arith;
        out = F.out;
        long_o = F.long_o;
        cells = F.cells;
        saves = F.saves;
        long_s = F.long_s;
        long_q = F.long_q;
        says = λ w num E r sp sc.
            (let t = F.says w num E r sp sc in
            (bracket t.0, opened w ∙ read_on (the_bracket (toks w L inside)) _ _ t.1 ∙ read_on (after close_bracket (toks w L a)) _ _ (mark_here w L a close_bracket c), effect_same (inner_faults w E t.0 h) refl (λ qs z. refl) t.2));
      }

  pub simple_unclosed : (B' S' Q' : List ℕ) (O' : List Word) (a k' q' f : ℕ) → Finished a_bracket query L B S Q D O inside k q level (depth + 1) B' S' Q' O' a k' q' f → (kind_at L a ≡ 4 → ⊥) → ReadTo a_simple query L B S Q D O at k q level depth B' S' Q' O' Odd
  simple_unclosed B' S' Q' O' a k' q' f F c w num E r sp sc = (let t = F.says w num E r sp sc in opened w ∙ read_on (the_bracket (toks w L inside)) _ _ t.1 ∙ no_more_read (after close_bracket (toks w L a)) _ (mark_not w L a close_bracket c))

  pub simple_odd : (B' S' Q' : List ℕ) (O' : List Word) → ReadTo a_bracket query L B S Q D O inside k q level (depth + 1) B' S' Q' O' Odd → ReadTo a_simple query L B S Q D O at k q level depth B' S' Q' O' Odd
  simple_odd B' S' Q' O' h w num E r sp sc = opened w ∙ no_more_read (the_bracket (toks w L inside)) _ (h w num E r sp sc)

  pub simple_full : (B' S' Q' : List ℕ) (O' : List Word) → ReadTo a_bracket query L B S Q D O inside k q level (depth + 1) B' S' Q' O' Full → ReadTo a_simple query L B S Q D O at k q level depth B' S' Q' O' Full
  simple_full B' S' Q' O' (inl h) = inl (omega (arith, op.1, h))
  simple_full B' S' Q' O' (inr h) = inr h

  -- what a simple statement was read as is a bracket
  is_bracket : (w : ℕ → Name) (t : Simple) (us : List Token) → the_simple (toks w L at) ≡ some (t, us) → (b : Bracket) × (vs : List Token) × (the_bracket (toks w L inside) ≡ some (b, vs)) × (bracket b ≡ t)
  is_bracket w t us e =
      let x = read_first (the_bracket (toks w L inside)) _ (t, us) (sym (opened w) ∙ e) in
      let y = read_first (after close_bracket x.0.1) _ (t, us) x.2 in
      (x.0.0, x.0.1, x.1, ap (λ (p : Simple × List Token). p.0) (some-injective (bracket x.0.0, y.0) (t, us) y.2))

  pub simple_deep : (B' S' Q' : List ℕ) (O' : List Word) → 32 ≤ depth → ReadTo a_simple query L B S Q D O at k q level depth B' S' Q' O' Three
  unfolding statement_faults
  simple_deep B' S' Q' O' h w num E r sp sc t us e =
      let x = is_bracket w t us e in
      subst (TooMuch a_simple query L B S Q D O at k q level depth w E) x.3
      (inl (subst (λ (c : Bool). In 3 (fault 3 c ++ bracket_faults x.0 (around query (heads w D) (map w E) (suc depth)))) (sym (deep depth h)) (inl refl)))

  pub simple_three : (B' S' Q' : List ℕ) (O' : List Word) → depth < 32 → ReadTo a_bracket query L B S Q D O inside k q level (depth + 1) B' S' Q' O' Three → ReadTo a_simple query L B S Q D O at k q level depth B' S' Q' O' Three
  unfolding statement_free
  simple_three B' S' Q' O' h three w num E r sp sc t us e =
      let x = is_bracket w t us e in
      subst (TooMuch a_simple query L B S Q D O at k q level depth w E) x.3
      (elim (three w num E r sp sc x.0 x.1 x.2) [ inl i ↦ inl (subst (In 3) (inner_faults w E x.0 h) i) | inr z ↦ inr z ])
