-- The other clauses of a choice, one after another.
use mathlib.Core.Path.{◌≡◌, refl, ap, ap₂, sym, ◌∙◌, subst}
use mathlib.Core.Logic.{◌⊎◌, inl, inr}
use mathlib.Core.List.{List, [], ◌∷◌, ◌++◌, map, append_assoc, append-nil}
use mathlib.Core.Bool.{Bool, true, false, ◌||◌, not}
use mathlib.Core.Option.{Option, some, none, some-injective}
use Prim.Native.Nat.{ℕ, suc, ◌+◌, ◌*◌, ◌≤◌, ◌<◌}
use native.Mathlib.Omega.{arith}
use lib.ListN.{length, get_or, take}
use Rattle.constraint.specs.Constraint.{In}
use Rattle.akl.specs.Base.{Name, size, once, if, ◌>>=◌}
use Rattle.akl.specs.Syntax.{Op, no_more, Clauses, clause}
use Rattle.akl.specs.Token.{Token, semicolon}
use Rattle.akl.specs.Grammar.{Clause, written, Others, end, and_also}
use Rattle.akl.specs.Parse as parse
use Rattle.akl.specs.Parse.{after}
use Rattle.akl.specs.Reader.{fault, mixed, same_operator, operator_of, statement_faults, clause_faults, others_faults, statement_free, clause_free, others_free, statement_of, clause_of, others_of}
use Rattle.mem_words.specs.declared.Word.{Word}
use Rattle.descent.specs.Descent.{the_clause, the_others}
use Rattle.descent.proofs.Steps.{no_more_read, read_on, others_end, others_more}
use Rattle.read_phrases.specs.Codes.{kind_at, toks, kind_inside, mark_here, mark_not, op_of}
use Rattle.layout.specs.Layout.{stmt_words, clauses_words}
use Rattle.read_emits.specs.Out.{wrote_same}
use Rattle.read_pieces.specs.Worst.{Lower, Lowest, Alike, in_left, in_right, lowest_alike, alike_then, alike_same, alike_behind, alike_swap, alike_or}
use Rattle.read_pieces.specs.Effect.{Effect, Numbered, effect_none, effect_then, effect_same, once_append}
use Rattle.read_pieces.specs.Reads.{a_clause, some_others, Says, Scope, Spelling, CanRead, Finished, ReadTo, TooMuch, around, heads}
use Rattle.read_pieces.specs.declared.Read.TheVariants.{Done, Three, Odd, Full}
use Rattle.read_pieces.proofs.Simples.{read_first}
use Rattle.read_pieces.proofs.Statements.{once_longer, numbered}

module _ (query : Bool) (L B S Q D : List ℕ) (O : List Word) (at k q level depth kind : ℕ) where
  -- clauses were read, each behind a semicolon: g puts them before the rest
  pub record Added (w : ℕ → Name) (num : Name → ℕ) (E : List ℕ) (Q₁ : List ℕ) (O₁ : List Word) (i j p f : ℕ) : Type 0 where
    pub g : Others → Others
    pub fs : List ℕ
    pub xs : List Name
    pub lay : List Name → List Word → List Word
    pub reads : the_others (toks w L at) ≡ (the_others (toks w L i) >>= λ cs. some (g cs.0, cs.1))
    pub effect : Effect query (map w (take q Q)) O k (map w (take p Q₁)) O₁ j f fs xs lay
    pub faults : (cs : Others) → Alike (fs ++ (fault 7 (mixed (op_of kind) cs) ++ others_faults cs (around query (heads w D) (map w E) depth))) (fault 7 (mixed (op_of kind) (g cs)) ++ others_faults (g cs) (around query (heads w D) (map w E) depth))
    pub free : (cs : Others) → others_free (g cs) (map w E) ≡ xs ++ others_free cs (map w E)
    pub lays : (cs : Others) (qs : List Name) (r : List Word) → clauses_words num (others_of (g cs) qs (map w E)) r ≡ lay qs (clauses_words num (others_of cs qs (map w E)) r)

  pub record Adding (B₁ S₁ Q₁ : List ℕ) (O₁ : List Word) (i j p f : ℕ) : Type 0 where
    pub forward : at ≤ i
    pub inside : i ≤ length L
    pub more : q ≤ p
    pub most : p ≤ 16
    pub used : (x : ℕ) → x < p → get_or Q₁ x 0 < length B
    pub few : j + 4 * at ≤ k + 4 * i
    pub out : j ≤ length O₁
    pub long_o : length O₁ ≡ length O
    pub cells : B₁ ≡ B
    pub saves : (x : ℕ) → x < level → get_or S₁ x 0 ≡ get_or S x 0
    pub long_s : length S₁ ≡ length S
    pub long_q : length Q₁ ≡ length Q
    pub says : Says (some_others (op_of kind)) query L B S Q D O at k q level depth (λ w num E. Added w num E Q₁ O₁ i j p f)

  handed : (o : parse.Read Others) → o ≡ (o >>= λ t. some (t.0, t.1))
  handed none = refl
  handed (some t) = refl

  pub adding_start : CanRead L B S Q D O at k q level → Adding B S Q O at k q 8
  adding_start c = record {
    forward = omega arith;
    inside = c.inside;
    more = omega arith;
    most = c.most;
    used = c.used;
    few = omega arith;
    out = c.out;
    long_o = refl;
    cells = refl;
    saves = λ x h. refl;
    long_s = refl;
    long_q = refl;
    says = λ w num E r sp sc. record { g = λ t. t; fs = []; xs = []; lay = λ qs z. z; reads = handed (the_others (toks w L at)); effect = effect_none query (map w (take q Q)) O k c.out; faults = λ t. alike_same refl; free = λ t. refl; lays = λ t qs z. refl };
  }

  scoped : (B₁ E : List ℕ) → B₁ ≡ B → Scope B E level → Scope B₁ E level
  scoped B₁ E e sc = subst (λ (T : List ℕ). Scope T E level) (sym e) sc

  assoc : (o : parse.Read Others) (c : Clause) (g : Others → Others) → ◌>>=◌ {A = Others × List Token} {B = Others × List Token} (o >>= λ cs. some (and_also c cs.0, cs.1)) (λ cs. some (g cs.0, cs.1)) ≡ (o >>= λ cs. some (g (and_also c cs.0), cs.1))
  assoc none c g = refl
  assoc (some t) c g = refl

  -- a clause's words before those of the rest
  clause_before : (num : Name → ℕ) (c : Clause) (qs bs : List Name) (cs : Clauses) (r : List Word) → clauses_words num (clause_of c qs bs cs) r ≡ clauses_words num (clause_of c qs bs no_more) (clauses_words num cs r)
  unfolding stmt_words statement_of
  clause_before num (written xs g op b) qs bs cs r = refl

  module _ (B₁ S₁ Q₁ : List ℕ) (O₁ : List Word) (i j p f : ℕ) (J : Adding B₁ S₁ Q₁ O₁ i j p f) where
    -- no semicolon: there are no more
    pub adding_ended : (kind_at L i ≡ 10 → ⊥) → Finished (some_others (op_of kind)) query L B S Q D O at k q level depth B₁ S₁ Q₁ O₁ i j p f
    unfolding statement_faults statement_free statement_of stmt_words mixed
    adding_ended h = record {
      forward = J.forward;
      inside = J.inside;
      more = J.more;
      most = J.most;
      used = J.used;
      few = (let e = J.few in omega arith);
      out = J.out;
      long_o = J.long_o;
      cells = J.cells;
      saves = J.saves;
      long_s = J.long_s;
      long_q = J.long_q;
      says = λ w num E v sp sc.
          (let K = J.says w num E v sp sc in (
            K.g end,
            K.reads ∙ read_on (the_others (toks w L i)) _ _ (others_end (toks w L i) (mark_not w L i semicolon h)),
            record {
              fault = lowest_alike f (K.fs ++ []) _ (K.faults end) (subst (Lowest f) (sym (append-nil K.fs)) K.effect.fault);
              names = subst (λ (l : List Name). Numbered query (map w (take q Q)) l (map w (take p Q₁))) (sym (append-nil K.xs) ∙ sym (K.free end)) K.effect.names;
              words = λ qs l. wrote_same (λ r. sym (K.lays end qs r)) (K.effect.words qs l);
            },
          ));
    }

    module _ (h : kind_at L i ≡ 10) where
      pub adding_can : CanRead L B S Q D O at k q level → CanRead L B₁ S₁ Q₁ D O₁ (i + 1) j p level
      adding_can can =
          let n = kind_inside L i (omega arith) in
          let b = ap length J.cells in
          let a = J.forward in
          record { known = can.known; heads = λ x i. omega (arith, can.heads x i); ids = λ x l. omega (arith, can.ids x l); cells = omega (arith, can.cells); few = can.few; before = omega (arith, can.before); inside = omega arith; order = omega (arith, can.order, J.long_q); most = J.most; used = λ x l. omega (arith, J.used x l); out = J.out }

      from_semicolon : (w : ℕ → Name) → the_others (toks w L i) ≡ (the_clause (toks w L (i + 1)) >>= λ c. the_others c.1 >>= λ cs. some (and_also c.0 cs.0, cs.1))
      from_semicolon w = others_more (toks w L i) (toks w L (i + 1)) (mark_here w L i semicolon h)

      added_faults : (w : ℕ → Name) (num : Name → ℕ) (E : List ℕ) (K : Added w num E Q₁ O₁ i j p f) (c : Clause) (cs : Others) → Alike ((K.fs ++ (fault 7 (not (same_operator (op_of kind) (operator_of c))) ++ clause_faults c (around query (heads w D) (map w E) depth))) ++ (fault 7 (mixed (op_of kind) cs) ++ others_faults cs (around query (heads w D) (map w E) depth))) (fault 7 (mixed (op_of kind) (K.g (and_also c cs))) ++ others_faults (K.g (and_also c cs)) (around query (heads w D) (map w E) depth))
      unfolding statement_faults mixed
      added_faults w num E K c cs =
          let a = around query (heads w D) (map w E) depth in
          let f7 = fault 7 (not (same_operator (op_of kind) (operator_of c))) in
          let cf = clause_faults c a in
          let m7 = fault 7 (mixed (op_of kind) cs) in
          let of = others_faults cs a in
          alike_then (alike_same (append_assoc K.fs (f7 ++ cf) (m7 ++ of) ∙ ap (λ (l : List ℕ). K.fs ++ l) (append_assoc f7 cf (m7 ++ of))))
          (alike_then (alike_behind K.fs (f7 ++ (cf ++ (m7 ++ of))) (f7 ++ (m7 ++ (cf ++ of))) (alike_behind f7 (cf ++ (m7 ++ of)) (m7 ++ (cf ++ of)) (alike_swap cf m7 of)))
          (alike_then (alike_behind K.fs (f7 ++ (m7 ++ (cf ++ of))) (fault 7 (not (same_operator (op_of kind) (operator_of c)) || mixed (op_of kind) cs) ++ (cf ++ of)) (alike_or 7 (not (same_operator (op_of kind) (operator_of c))) (mixed (op_of kind) cs) (cf ++ of)))
          (K.faults (and_also c cs))))

      pub adding_more : (B₂ S₂ Q₂ : List ℕ) (O₂ : List Word) (a j₂ p₂ f₂ r : ℕ) → Finished (a_clause (op_of kind)) query L B₁ S₁ Q₁ D O₁ (i + 1) j p level depth B₂ S₂ Q₂ O₂ a j₂ p₂ f₂ → Lower f f₂ r → Adding B₂ S₂ Q₂ O₂ a j₂ p₂ r
      unfolding statement_free statement_of
      adding_more B₂ S₂ Q₂ O₂ a j₂ p₂ f₂ r F low =
          let b = ap length J.cells in
          let e1 = J.few in
          let e2 = F.few in
          let e3 = J.forward in
          let e4 = F.forward in
          record {
            forward = omega arith;
            inside = F.inside;
            more = omega (arith, J.more, F.more);
            most = F.most;
            used = λ x l. omega (arith, F.used x l);
            few = omega arith;
            out = F.out;
            long_o = F.long_o ∙ J.long_o;
            cells = F.cells ∙ J.cells;
            saves = λ x l. F.saves x l ∙ J.saves x l;
            long_s = F.long_s ∙ J.long_s;
            long_q = F.long_q ∙ J.long_q;
            says = λ w num E v sp sc.
                (let K = J.says w num E v sp sc in
                let T = F.says w num E v (subst (λ (T : List ℕ). Spelling w num (length T)) (sym J.cells) sp) (scoped B₁ E J.cells sc) in
                let c = T.0 in
                record {
                  g = λ cs. K.g (and_also c cs);
                  fs = K.fs ++ (fault 7 (not (same_operator (op_of kind) (operator_of c))) ++ clause_faults c (around query (heads w D) (map w E) depth));
                  xs = K.xs ++ clause_free c (map w E);
                  lay = λ qs y. K.lay qs (clauses_words num (clause_of c qs (map w E) no_more) y);
                  reads = K.reads ∙ ap (λ (o : parse.Read Others). o >>= λ cs. some (K.g cs.0, cs.1)) (from_semicolon w ∙ read_on (the_clause (toks w L (i + 1))) _ _ T.1) ∙ assoc (the_others (toks w L a)) c K.g;
                  effect = effect_then r K.effect T.2 low;
                  faults = λ cs. added_faults w num E K c cs;
                  free = λ cs. K.free (and_also c cs) ∙ sym (append_assoc K.xs (clause_free c (map w E)) (others_free cs (map w E)));
                  lays = λ cs qs y. K.lays (and_also c cs) qs y ∙ ap (K.lay qs) (clause_before num c qs (map w E) (others_of cs qs (map w E)) y);
                });
          }

      pub adding_odd : (B₂ S₂ Q₂ : List ℕ) (O₂ : List Word) → ReadTo (a_clause (op_of kind)) query L B₁ S₁ Q₁ D O₁ (i + 1) j p level depth B₂ S₂ Q₂ O₂ Odd → ReadTo (some_others (op_of kind)) query L B S Q D O at k q level depth B₂ S₂ Q₂ O₂ Odd
      adding_odd B₂ S₂ Q₂ O₂ odd w num E v sp sc =
          let K = J.says w num E v sp sc in
          K.reads ∙ no_more_read (the_others (toks w L i)) _ (from_semicolon w ∙ no_more_read (the_clause (toks w L (i + 1))) _ (odd w num E v (subst (λ (T : List ℕ). Spelling w num (length T)) (sym J.cells) sp) (scoped B₁ E J.cells sc)))

      pub adding_full : (B₂ S₂ Q₂ : List ℕ) (O₂ : List Word) → ReadTo (a_clause (op_of kind)) query L B₁ S₁ Q₁ D O₁ (i + 1) j p level depth B₂ S₂ Q₂ O₂ Full → ReadTo (some_others (op_of kind)) query L B S Q D O at k q level depth B₂ S₂ Q₂ O₂ Full
      adding_full B₂ S₂ Q₂ O₂ (inl z) = inl (omega (arith, z, J.few, J.long_o))
      adding_full B₂ S₂ Q₂ O₂ (inr z) = inr (omega (arith, z, J.long_s))

      pub adding_three : (B₂ S₂ Q₂ : List ℕ) (O₂ : List Word) → ReadTo (a_clause (op_of kind)) query L B₁ S₁ Q₁ D O₁ (i + 1) j p level depth B₂ S₂ Q₂ O₂ Three → ReadTo (some_others (op_of kind)) query L B S Q D O at k q level depth B₂ S₂ Q₂ O₂ Three
      unfolding statement_free
      adding_three B₂ S₂ Q₂ O₂ three w num E v sp sc t us e =
          let K = J.says w num E v sp sc in
          let x = read_first (the_others (toks w L i)) (λ y. some (K.g y.0, y.1)) (t, us) (sym K.reads ∙ e) in
          let y = read_first (the_clause (toks w L (i + 1))) (λ c. the_others c.1 >>= λ cs. some (and_also c.0 cs.0, cs.1)) x.0 (sym (from_semicolon w) ∙ x.1) in
          let z = read_first (the_others y.0.1) (λ cs. some (and_also y.0.0 cs.0, cs.1)) x.0 y.2 in
          let c = y.0.0 in
          let cs = z.0.0 in
          let m = three w num E v (subst (λ (T : List ℕ). Spelling w num (length T)) (sym J.cells) sp) (scoped B₁ E J.cells sc) c y.0.1 y.1 in
          let at_c : and_also c cs ≡ x.0.0 = ap (λ (p : Others × List Token). p.0) (some-injective (and_also c cs, z.0.1) x.0 z.2) in
          let got : K.g (and_also c cs) ≡ t = ap K.g at_c ∙ ap (λ (p : Others × List Token). p.0) (some-injective (K.g x.0.0, x.0.1) (t, us) x.2) in
          subst (TooMuch (some_others (op_of kind)) query L B S Q D O at k q level depth w E) got
          (elim m [
            | inl u ↦ inl ((added_faults w num E K c cs).to 3 (in_left 3 (K.fs ++ (fault 7 (not (same_operator (op_of kind) (operator_of c))) ++ clause_faults c (around query (heads w D) (map w E) depth))) _ (in_right 3 K.fs _ u)))
            | inr u ↦
                (let l = once_longer (map w (take p Q₁)) (clause_free c (map w E)) (others_free cs (map w E)) in
                let n = numbered query L B S Q D O at k q level depth query (map w (take q Q)) K.xs (map w (take p Q₁)) u.0 K.effect.names in
                let q₁ : once (map w (take q Q)) (others_free (K.g (and_also c cs)) (map w E)) ≡ once (map w (take p Q₁)) (clause_free c (map w E) ++ others_free cs (map w E)) =
                ap (once (map w (take q Q))) (K.free (and_also c cs)) ∙ once_append (map w (take q Q)) K.xs (clause_free c (map w E) ++ others_free cs (map w E)) ∙ ap (λ (v : List Name). once v (clause_free c (map w E) ++ others_free cs (map w E))) (sym n) in
                inr (u.0, subst (λ (v : List Name). 16 < size v) (sym q₁) (omega (arith, u.1, l))))
          ])
