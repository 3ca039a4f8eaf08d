-- Simple statements joined by commas: a statement.
use mathlib.Core.Path.{◌≡◌, refl, ap, ap₂, sym, ◌∙◌, subst}
use mathlib.Core.Logic.{◌⊎◌, inl, inr}
use mathlib.Core.List.{List, [], ◌∷◌, ◌++◌, map, append_assoc, append-nil}
use mathlib.Core.Bool.{Bool, true, false}
use mathlib.Core.Option.{Option, some, none, some-injective}
use Prim.Native.Nat.{ℕ, suc, ◌+◌, ◌*◌, ◌≤◌, ◌<◌}
use native.Mathlib.Omega.{arith}
use native.Mathlib.Numerals.{add-one}
use native.Mathlib.Nat.{zero-add, suc-add}
use lib.ListN.{length, get_or, take}
use Rattle.constraint.specs.Constraint.{In}
use Rattle.mem_numbers.specs.Stored.{Stored}
use Rattle.akl.specs.Base.{Name, size, once, if, ◌>>=◌}
use Rattle.akl.specs.Token.{Token, comma}
use Rattle.akl.specs.Grammar.{Statement, single, joined, Simple}
use Rattle.akl.specs.Parse as parse
use Rattle.akl.specs.Parse.{after}
use Rattle.akl.specs.Reader.{statement_faults, simple_faults, statement_free, simple_free, statement_of, simple_of}
use Rattle.mem_words.specs.declared.Word.{Word}
use Rattle.mem_words.specs.declared.Word.TheVariants.{End, Inner, Bad}
use Rattle.mem_sorts.specs.declared.Sort.TheVariants.{Comp}
use Rattle.descent.specs.Descent.{the_statement, the_simple}
use Rattle.descent.proofs.Steps.{no_more_read, read_on, statement_none, statement_single, statement_joined}
use Rattle.read_phrases.specs.Codes.{kind_at, toks, kind_inside, mark_here, mark_not}
use Rattle.layout.specs.Layout.{stmt_words}
use Rattle.read_emits.specs.Out.{Wrote, wrote_slot, wrote_then, wrote_patch}
use Rattle.read_emits.specs.TheirContracts.{Emits, NoRoom, Ended, Short, endings}
use Rattle.read_pieces.specs.Worst.{Lower, Lowest, in_left, in_right}
use Rattle.read_pieces.specs.Effect.{Effect, Numbered, effect_none, effect_then, effect_same, effect_around, effect_behind, once_append, once_more}
use Rattle.read_pieces.specs.Reads.{a_statement, a_simple, Says, Scope, Spelling, CanRead, Finished, ReadTo, TooMuch, around, heads}
use Rattle.read_pieces.specs.declared.Read.TheVariants.{Done, Three, Odd, Full}
use Rattle.read_pieces.proofs.Simples.{read_first}

-- the first simple statement of one that was read
first_of : (ts us : List Token) (t : Statement) → the_statement ts ≡ some (t, us) → (s : Simple) × (vs : List Token) × (the_simple ts ≡ some (s, vs)) × ((single s ≡ t) ⊎ ((r : Statement) × (joined s r ≡ t)))
first_of ts us t e = go (the_simple ts) refl
  where
    clash : ◌≡◌ {A = parse.Read Statement} none (some (t, us)) → ⊥
    clash z = let b : ◌≡◌ {A = ℕ} 0 1 = ap (λ (o : parse.Read Statement). elim o as (λ v. ℕ) [ none ↦ 0 | some x ↦ 1 ]) z in omega arith

    by_comma : (s : Simple) (vs : List Token) → the_simple ts ≡ some (s, vs) → (o : Option (List Token)) → after comma vs ≡ o → (single s ≡ t) ⊎ ((r : Statement) × (joined s r ≡ t))
    by_comma s vs h none c = inl (ap (λ (p : Statement × List Token). p.0) (some-injective (single s, vs) (t, us) (sym (statement_single ts vs s h c) ∙ e)))
    by_comma s vs h (some rs) c =
        let x = read_first (the_statement rs) _ (t, us) (sym (statement_joined ts vs rs s h c) ∙ e) in
        inr (x.0.0, ap (λ (p : Statement × List Token). p.0) (some-injective (joined s x.0.0, x.0.1) (t, us) x.2))

    go : (o : parse.Read Simple) → the_simple ts ≡ o → (s : Simple) × (vs : List Token) × (the_simple ts ≡ some (s, vs)) × ((single s ≡ t) ⊎ ((r : Statement) × (joined s r ≡ t)))
    go none h = absurd (clash (sym (statement_none ts h) ∙ e))
    go (some x) h = (x.0, x.1, h, by_comma x.0 x.1 h (after comma x.1) refl)

size_append : (l m : List Name) → size (l ++ m) ≡ size l + size m
unfolding size
size_append [] m = sym (zero-add (size m))
size_append (x ∷ l) m = ap suc (size_append l m) ∙ sym (suc-add (size l) (size m))

-- a longer list of occurrences has no fewer variables
pub once_longer : (ps xs ys : List Name) → size (once ps xs) ≤ size (once ps (xs ++ ys))
once_longer ps xs ys =
    let m = once_more ys (once ps xs) in
    let e : size (once ps (xs ++ ys)) ≡ size (once ps xs) + size m.0 = ap size (once_append ps xs ys ∙ m.1) ∙ size_append (once ps xs) m.0 in
    omega arith

module _ (query : Bool) (L B S Q D : List ℕ) (O : List Word) (at k q level depth : ℕ) where
  -- c simple statements were read, each with its comma: g puts them before the rest of the statement
  pub record Joined (w : ℕ → Name) (num : Name → ℕ) (E : List ℕ) (Q₁ : List ℕ) (O₁ : List Word) (i j p f c : ℕ) : Type 0 where
    pub g : Statement → Statement
    pub fs : List ℕ
    pub xs : List Name
    pub lay : List Name → List Word → List Word
    pub reads : the_statement (toks w L at) ≡ (the_statement (toks w L i) >>= λ t. some (g t.0, t.1))
    pub effect : Effect query (map w (take q Q)) O k (map w (take p Q₁)) O₁ j f fs xs lay
    pub faults : (t : Statement) → statement_faults (g t) (around query (heads w D) (map w E) depth) ≡ fs ++ statement_faults t (around query (heads w D) (map w E) depth)
    pub free : (t : Statement) → statement_free (g t) (map w E) ≡ xs ++ statement_free t (map w E)
    pub lays : (t : Statement) (qs : List Name) (r : List Word) → stmt_words num (statement_of (g t) qs (map w E)) r ≡ lay qs (stmt_words num (statement_of t qs (map w E)) (endings c r))

  pub record Joining (B₁ S₁ Q₁ : List ℕ) (O₁ : List Word) (i j p f c : ℕ) : Type 0 where
    pub forward : at ≤ i
    pub inside : i ≤ length L
    pub more : q ≤ p
    pub most : p ≤ 16
    pub used : (x : ℕ) → x < p → get_or Q₁ x 0 < length B
    pub few : j + c + 4 * at ≤ k + 4 * i
    pub commas : c ≤ i
    pub out : j ≤ length O₁
    pub long_o : length O₁ ≡ length O
    pub cells : B₁ ≡ B
    pub saves : (x : ℕ) → x < level → get_or S₁ x 0 ≡ get_or S x 0
    pub long_s : length S₁ ≡ length S
    pub long_q : length Q₁ ≡ length Q
    pub says : Says a_statement query L B S Q D O at k q level depth (λ w num E. Joined w num E Q₁ O₁ i j p f c)

  handed : (o : parse.Read Statement) → o ≡ (o >>= λ t. some (t.0, t.1))
  handed none = refl
  handed (some t) = refl

  pub joining_start : CanRead L B S Q D O at k q level → Joining B S Q O at k q 8 0
  unfolding endings
  joining_start c = record {
    forward = omega arith;
    inside = c.inside;
    more = omega arith;
    most = c.most;
    used = c.used;
    few = omega arith;
    commas = omega arith;
    out = c.out;
    long_o = refl;
    cells = refl;
    saves = λ x h. refl;
    long_s = refl;
    long_q = refl;
    says = λ w num E r sp sc. record { g = λ t. t; fs = []; xs = []; lay = λ qs z. z; reads = handed (the_statement (toks w L at)); effect = effect_none query (map w (take q Q)) O k c.out; faults = λ t. refl; free = λ t. refl; lays = λ t qs z. refl };
  }

  -- what a simple statement needs
  pub joining_can : (B₁ S₁ Q₁ : List ℕ) (O₁ O₂ : List Word) (i j p f c : ℕ) → CanRead L B S Q D O at k q level → Joining B₁ S₁ Q₁ O₁ i j p f c → Emits O₁ j Bad O₂ → CanRead L B₁ S₁ Q₁ D O₂ i (j + 1) p level
  joining_can B₁ S₁ Q₁ O₁ O₂ i j p f c can J e =
      let b = ap length J.cells in
      let a = J.forward in
      let z = e.stored.long in
      let y = e.room in
      record { known = can.known; heads = λ x i. omega (arith, can.heads x i); ids = λ x h. omega (arith, can.ids x h); cells = omega (arith, can.cells); few = can.few; before = omega (arith, can.before); inside = J.inside; order = omega (arith, can.order, J.long_q); most = J.most; used = λ x h. omega (arith, J.used x h); out = omega arith }

  assoc : (o : parse.Read Statement) (s : Simple) (g : Statement → Statement) → ◌>>=◌ {A = Statement × List Token} {B = Statement × List Token} (o >>= λ t. some (joined s t.0, t.1)) (λ t. some (g t.0, t.1)) ≡ (o >>= λ t. some (g (joined s t.0), t.1))
  assoc none s g = refl
  assoc (some t) s g = refl

  scoped : (B₁ E : List ℕ) → B₁ ≡ B → Scope B E level → Scope B₁ E level
  scoped B₁ E e sc = subst (λ (T : List ℕ). Scope T E level) (sym e) sc

  pub numbered : (b : Bool) (ps xs ps' : List Name) → b ≡ true → Numbered b ps xs ps' → ps' ≡ once ps xs
  numbered true ps xs ps' e n = n
  numbered false ps xs ps' e n = absurd (let z : ◌≡◌ {A = ℕ} 0 1 = ap (λ (b : Bool). if b 1 0) e in omega arith)

  too_much_in : (w : ℕ → Name) (num : Name → ℕ) (E Q₁ : List ℕ) (O₁ : List Word) (i j p f c : ℕ) (K : Joined w num E Q₁ O₁ i j p f c) (s : Simple) (t : Statement) (gs : List ℕ) (ys : List Name)
      → statement_faults t (around query (heads w D) (map w E) depth) ≡ simple_faults s (around query (heads w D) (map w E) depth) ++ gs → statement_free t (map w E) ≡ simple_free s (map w E) ++ ys
      → In 3 (simple_faults s (around query (heads w D) (map w E) depth)) ⊎ ((query ≡ true) × (16 < size (once (map w (take p Q₁)) (simple_free s (map w E)))))
      → TooMuch a_statement query L B S Q D O at k q level depth w E (K.g t)
  too_much_in w num E Q₁ O₁ i j p f c K s t gs ys ef ex (inl h) =
      inl (subst (In 3) (sym (K.faults t ∙ ap (λ (l : List ℕ). K.fs ++ l) ef)) (in_right 3 K.fs _ (in_left 3 (simple_faults s (around query (heads w D) (map w E) depth)) gs h)))
  too_much_in w num E Q₁ O₁ i j p f c K s t gs ys ef ex (inr z) =
      let l = once_longer (map w (take p Q₁)) (simple_free s (map w E)) ys in
      let n = numbered query (map w (take q Q)) K.xs (map w (take p Q₁)) z.0 K.effect.names in
      let e : once (map w (take q Q)) (statement_free (K.g t) (map w E)) ≡ once (map w (take p Q₁)) (simple_free s (map w E) ++ ys) =
      ap (once (map w (take q Q))) (K.free t ∙ ap (λ (v : List Name). K.xs ++ v) ex) ∙ once_append (map w (take q Q)) K.xs (simple_free s (map w E) ++ ys) ∙ ap (λ (v : List Name). once v (simple_free s (map w E) ++ ys)) (sym n) in
      inr (z.0, subst (λ (v : List Name). 16 < size v) (sym e) (omega (arith, z.1, l)))

  module _ (B₁ S₁ Q₁ : List ℕ) (O₁ O₂ : List Word) (i j p f c : ℕ) (J : Joining B₁ S₁ Q₁ O₁ i j p f c) (slot : Emits O₁ j Bad O₂) where
    module _ (B₂ S₂ Q₂ : List ℕ) (O₃ : List Word) (a j₂ p₂ f₂ r : ℕ) (F : Finished a_simple query L B₁ S₁ Q₁ D O₂ i (j + 1) p level depth B₂ S₂ Q₂ O₃ a j₂ p₂ f₂) (low : Lower f f₂ r) where
      pub joining_comma : (O₄ : List Word) → kind_at L a ≡ 5 → Stored O₃ j (Inner Comp) O₄ → Joining B₂ S₂ Q₂ O₄ (a + 1) j₂ p₂ r (c + 1)
      unfolding statement_faults statement_free statement_of stmt_words endings
      joining_comma O₄ h st =
          let n = kind_inside L a (omega arith) in
          let b = ap length J.cells in
          let e1 = J.few in
          let e2 = F.few in
          let e3 = J.forward in
          let e4 = F.forward in
          let z = slot.stored.long in
          record {
            forward = omega arith;
            inside = omega arith;
            more = omega (arith, J.more, F.more);
            most = F.most;
            used = λ x l. omega (arith, F.used x l);
            few = omega arith;
            commas = omega (arith, J.commas);
            out = omega (arith, F.out, st.long);
            long_o = st.long ∙ F.long_o ∙ slot.stored.long ∙ J.long_o;
            cells = F.cells ∙ J.cells;
            saves = λ x l. F.saves x l ∙ J.saves x l;
            long_s = F.long_s ∙ J.long_s;
            long_q = F.long_q ∙ J.long_q;
            says = λ w num E v sp sc.
                (let K = J.says w num E v sp sc in
                let T = F.says w num E v (subst (λ (T : List ℕ). Spelling w num (length T)) (sym J.cells) sp) (scoped B₁ E J.cells sc) in
                let s = T.0 in
                record {
                  g = λ t. K.g (joined s t);
                  fs = K.fs ++ simple_faults s (around query (heads w D) (map w E) depth);
                  xs = K.xs ++ simple_free s (map w E);
                  lay = λ qs y. K.lay qs (Inner Comp ∷ stmt_words num (simple_of s qs (map w E)) y);
                  reads = K.reads ∙ ap (λ (o : parse.Read Statement). o >>= λ t. some (K.g t.0, t.1)) (statement_joined (toks w L i) (toks w L a) (toks w L (a + 1)) s T.1 (mark_here w L a comma h)) ∙ assoc (the_statement (toks w L (a + 1))) s K.g;
                  effect = effect_then r K.effect (effect_around O₁ O₄ j j₂ (λ y. Inner Comp ∷ y) (λ y wr. wrote_patch slot.room slot.stored wr st tt) T.2) low;
                  faults = λ t. K.faults (joined s t) ∙ sym (append_assoc K.fs (simple_faults s (around query (heads w D) (map w E) depth)) (statement_faults t (around query (heads w D) (map w E) depth)));
                  free = λ t. K.free (joined s t) ∙ sym (append_assoc K.xs (simple_free s (map w E)) (statement_free t (map w E)));
                  lays = λ t qs y. K.lays (joined s t) qs y ∙ ap (λ (m : ℕ). K.lay qs (Inner Comp ∷ stmt_words num (simple_of s qs (map w E)) (stmt_words num (statement_of t qs (map w E)) (endings m y)))) (sym (add-one c));
                });
          }

      pub joining_ended : (O₅ : List Word) (j₃ : ℕ) → (kind_at L a ≡ 5 → ⊥) → Ended O₃ j₂ c O₅ j₃ → Finished a_statement query L B S Q D O at k q level depth B₂ S₂ Q₂ O₅ a j₃ p₂ r
      unfolding statement_faults statement_free statement_of
      joining_ended O₅ j₃ h en =
          let b = ap length J.cells in
          let e1 = J.few in
          let e2 = F.few in
          let e3 = J.forward in
          let e4 = F.forward in
          let e5 = en.at in
          record {
            forward = omega arith;
            inside = F.inside;
            more = omega (arith, J.more, F.more);
            most = F.most;
            used = λ x l. omega (arith, F.used x l);
            few = omega arith;
            out = en.wrote.inside;
            long_o = en.wrote.long ∙ F.long_o ∙ slot.stored.long ∙ J.long_o;
            cells = F.cells ∙ J.cells;
            saves = λ x l. F.saves x l ∙ J.saves x l;
            long_s = F.long_s ∙ J.long_s;
            long_q = F.long_q ∙ J.long_q;
            says = λ w num E v sp sc.
                (let K = J.says w num E v sp sc in
                let T = F.says w num E v (subst (λ (T : List ℕ). Spelling w num (length T)) (sym J.cells) sp) (scoped B₁ E J.cells sc) in
                let s = T.0 in (
                  K.g (single s),
                  K.reads ∙ read_on (the_statement (toks w L i)) _ _ (statement_single (toks w L i) (toks w L a) s T.1 (mark_not w L a comma h)),
                  effect_same (sym (K.faults (single s))) (sym (K.free (single s))) (λ qs y. sym (K.lays (single s) qs y))
                      (effect_behind (effect_then r K.effect (effect_around O₁ O₃ j j₂ (λ y. y) (λ y wr. wrote_then (wrote_slot slot.room slot.stored) wr) T.2) low) en.wrote),
                ));
          }

      -- the words End have no room
      pub joining_short : (O₅ : List Word) → Short O₃ j₂ c O₅ → ReadTo a_statement query L B S Q D O at k q level depth B₂ S₂ Q₂ O₅ Full
      joining_short O₅ sh =
          let e1 = J.few in
          let e2 = F.few in
          let e3 = F.inside in
          let e4 = F.long_o ∙ slot.stored.long ∙ J.long_o in
          inl (omega (arith, sh.full))

    pub joining_odd : (B₂ S₂ Q₂ : List ℕ) (O₃ : List Word) → ReadTo a_simple query L B₁ S₁ Q₁ D O₂ i (j + 1) p level depth B₂ S₂ Q₂ O₃ Odd → ReadTo a_statement query L B S Q D O at k q level depth B₂ S₂ Q₂ O₃ Odd
    joining_odd B₂ S₂ Q₂ O₃ odd w num E v sp sc =
        let K = J.says w num E v sp sc in
        let T = odd w num E v (subst (λ (T : List ℕ). Spelling w num (length T)) (sym J.cells) sp) (scoped B₁ E J.cells sc) in
        K.reads ∙ no_more_read (the_statement (toks w L i)) _ (statement_none (toks w L i) T)

    pub joining_full : (B₂ S₂ Q₂ : List ℕ) (O₃ : List Word) → ReadTo a_simple query L B₁ S₁ Q₁ D O₂ i (j + 1) p level depth B₂ S₂ Q₂ O₃ Full → ReadTo a_statement query L B S Q D O at k q level depth B₂ S₂ Q₂ O₃ Full
    joining_full B₂ S₂ Q₂ O₃ (inl h) =
        let e1 = J.few in
        let e4 = slot.stored.long ∙ J.long_o in
        inl (omega (arith, h))
    joining_full B₂ S₂ Q₂ O₃ (inr h) = inr (omega (arith, h, J.long_s))

    -- refusal 3 inside
    pub joining_three : (B₂ S₂ Q₂ : List ℕ) (O₃ : List Word) → ReadTo a_simple query L B₁ S₁ Q₁ D O₂ i (j + 1) p level depth B₂ S₂ Q₂ O₃ Three → ReadTo a_statement query L B S Q D O at k q level depth B₂ S₂ Q₂ O₃ Three
    unfolding statement_faults statement_free
    joining_three B₂ S₂ Q₂ O₃ three w num E v sp sc t us e =
        let K = J.says w num E v sp sc in
        let x = read_first (the_statement (toks w L i)) (λ y. some (K.g y.0, y.1)) (t, us) (sym K.reads ∙ e) in
        let y = first_of (toks w L i) x.0.1 x.0.0 x.1 in
        let s = y.0 in
        let m = three w num E v (subst (λ (T : List ℕ). Spelling w num (length T)) (sym J.cells) sp) (scoped B₁ E J.cells sc) s y.1 y.2 in
        let got : K.g x.0.0 ≡ t = ap (λ (p : Statement × List Token). p.0) (some-injective (K.g x.0.0, x.0.1) (t, us) x.2) in
        subst (TooMuch a_statement query L B S Q D O at k q level depth w E) got
        (elim y.3 [ inl z ↦ subst (λ (u : Statement). TooMuch a_statement query L B S Q D O at k q level depth w E (K.g u)) z (too_much_in w num E Q₁ O₁ i j p f c K s (single s) [] [] (sym (append-nil (simple_faults s (around query (heads w D) (map w E) depth)))) (sym (append-nil (simple_free s (map w E)))) m) | inr z ↦ subst (λ (u : Statement). TooMuch a_statement query L B S Q D O at k q level depth w E (K.g u)) z.1 (too_much_in w num E Q₁ O₁ i j p f c K s (joined s z.0) (statement_faults z.0 (around query (heads w D) (map w E) depth)) (statement_free z.0 (map w E)) refl refl m) ])

  -- there is no room for a slot
  pub joining_no_slot : (B₁ S₁ Q₁ : List ℕ) (O₁ O₂ : List Word) (i j p f c : ℕ) → Joining B₁ S₁ Q₁ O₁ i j p f c → NoRoom O₁ j O₂ → ReadTo a_statement query L B S Q D O at k q level depth B₁ S₁ Q₁ O₂ Full
  joining_no_slot B₁ S₁ Q₁ O₁ O₂ i j p f c J n =
      let e1 = J.few in
      let e2 = J.inside in
      inl (omega (arith, n.full, J.long_o))
