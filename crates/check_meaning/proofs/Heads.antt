-- The heads that stand in the words of a program are those of its definitions; when they pass.
use mathlib.Core.Path.{◌≡◌, refl, ap, sym, ◌∙◌, subst}
use mathlib.Core.Logic.{◌↔◌, ◌⊎◌, inl, inr}
use mathlib.Core.List.{List, [], ◌∷◌, map}
use mathlib.Core.Bool.{Bool, true, false, ◌&&◌, ◌||◌, not}
use mathlib.Core.Option.{some}
use Prim.Native.Nat.{ℕ, ◌+◌, ◌≤◌, ◌<◌}
use native.Mathlib.Omega.{arith}
use lib.Dec.{T, leb, ltb, eqb, leb→le, le→leb, ltb→lt, lt→ltb}
use Rattle.constraint.specs.Constraint.{Con, ctrue, cfail, ceq, capp}
use Rattle.constraint.proofs.Lists.{and_T, or_T, not_T, eqb_T}
use Rattle.akl.specs.Base.{Name, same, if, any, size, is_some}
use Rattle.akl.specs.Limits.{most_definitions, most_arguments}
use Rattle.akl.specs.Syntax.{Var, number, level, Stmt, atom, call, comp, hide, choice, Clauses, no_more, clause, Def, Program, defined}
use Rattle.akl.specs.Reader.{twice}
use Rattle.akl.proofs.Names.{same_eq_T, same_refl_T}
use Rattle.mem_words.specs.declared.Word.{Word}
use Rattle.mem_words.specs.declared.Word.TheVariants.{End, Num}
use Rattle.layout.specs.Layout.{var_word, vars_words, con_words, stmt_words, clauses_words, program_words}
use Rattle.check_shapes.specs.Passed.{Headed, heads_from, heads, listed, heads_pass}
use Rattle.check_meaning.proofs.Moves.{and4}

-- a definition's name and number of parameters
abbrev pub named_head : Def → Name × ℕ
named_head d = (d.name, d.arity)

module _ (num : Name → ℕ) where
  abbrev pub head_of : Def → Headed
  head_of d = (num d.name, d.arity)

  -- ---------------------------------------------------------------------------------------------
  -- No heads stand in statements.

  var_heads : (was : Bool) (p : ℕ) (x : Var) (r : List Word) → heads_from was p (var_word x ∷ r) ≡ heads_from false 0 r
  unfolding heads_from var_word
  var_heads was p (number x) r = refl
  var_heads was p (level l) r = refl

  vars_heads : (was : Bool) (p : ℕ) (xs : List Var) (r : List Word) → heads_from was p (vars_words xs (End ∷ r)) ≡ heads_from false 0 r
  unfolding heads_from vars_words
  vars_heads was p [] r = refl
  vars_heads was p (x ∷ xs) r = var_heads was p x (vars_words xs (End ∷ r)) ∙ vars_heads false 0 xs r

  con_heads : (was : Bool) (p : ℕ) (c : Con Var) (r : List Word) → heads_from was p (con_words num c r) ≡ heads_from false 0 r
  unfolding heads_from con_words
  con_heads was p ctrue r = refl
  con_heads was p cfail r = refl
  con_heads was p (ceq x y) r = var_heads false 0 x (var_word y ∷ End ∷ r) ∙ var_heads false 0 y (End ∷ r)
  con_heads was p (capp x g ys) r = var_heads false 0 x (Num (num g) ∷ vars_words ys (End ∷ r)) ∙ vars_heads true (num g) ys r

  mutual
    unfolding heads_from stmt_words clauses_words

    stmt_heads : (a : Stmt) (was : Bool) (p : ℕ) (r : List Word) → heads_from was p (stmt_words num a r) ≡ heads_from false 0 r
    stmt_heads (atom c) was p r = con_heads was p c r
    stmt_heads (call q xs) was p r = vars_heads true (num q) xs r
    stmt_heads (comp a b) was p r = stmt_heads a false 0 (stmt_words num b (End ∷ r)) ∙ stmt_heads b false 0 (End ∷ r)
    stmt_heads (hide m a) was p r = stmt_heads a true m (End ∷ r)
    stmt_heads (choice op cs) was p r = clauses_heads cs (End ∷ r)

    clauses_heads : (cs : Clauses) (r : List Word) → heads_from false 0 (clauses_words num cs r) ≡ heads_from false 0 r
    clauses_heads no_more r = refl
    clauses_heads (clause m g b cs) r = stmt_heads g true m (stmt_words num b (End ∷ clauses_words num cs r)) ∙ stmt_heads b false 0 (End ∷ clauses_words num cs r) ∙ clauses_heads cs r

  pub program_heads : (Q : Program) → heads (program_words num Q) ≡ map head_of Q
  unfolding heads heads_from program_words
  program_heads [] = refl
  program_heads (d ∷ ds) = ap (λ (l : List Headed). head_of d ∷ l) (stmt_heads d.body true d.arity (program_words num ds) ∙ program_heads ds)

  -- ---------------------------------------------------------------------------------------------
  -- Lists of heads, and definitions.

  pub listed_cons : (h : Headed) (hs : List Headed) (p k : ℕ) → T (listed (h ∷ hs) p k) ↔ (((h.0 ≡ p) × (h.1 ≡ k)) ⊎ T (listed hs p k))
  unfolding listed any
  listed_cons h hs p k = (to, from)
    where
      to : T (listed (h ∷ hs) p k) → ((h.0 ≡ p) × (h.1 ≡ k)) ⊎ T (listed hs p k)
      to t = elim ((or_T (eqb h.0 p && eqb h.1 k) (listed hs p k)).0 t) [ inl a ↦ inl ((eqb_T h.0 p).0 ((and_T (eqb h.0 p) (eqb h.1 k)).0 a).0, (eqb_T h.1 k).0 ((and_T (eqb h.0 p) (eqb h.1 k)).0 a).1) | inr b ↦ inr b ]

      from : ((h.0 ≡ p) × (h.1 ≡ k)) ⊎ T (listed hs p k) → T (listed (h ∷ hs) p k)
      from (inl e) = (or_T (eqb h.0 p && eqb h.1 k) (listed hs p k)).1 (inl ((and_T (eqb h.0 p) (eqb h.1 k)).1 ((eqb_T h.0 p).1 e.0, (eqb_T h.1 k).1 e.1)))
      from (inr t) = (or_T (eqb h.0 p && eqb h.1 k) (listed hs p k)).1 (inr t)

  same_head : (d : Def) (p : Name) (k : ℕ) → T (same d.name p && eqb d.arity k) ↔ ((d.name ≡ p) × (d.arity ≡ k))
  same_head d p k = (
    λ t. let h = (and_T (same d.name p) (eqb d.arity k)).0 t in (same_eq_T d.name p h.0, (eqb_T d.arity k).0 h.1),
    λ e. (and_T (same d.name p) (eqb d.arity k)).1 (subst (λ (z : Name). T (same d.name z)) e.0 (same_refl_T d.name), (eqb_T d.arity k).1 e.1),
  )

  pub defined_cons : (d : Def) (ds : Program) (p : Name) (k : ℕ) → T (is_some (defined (d ∷ ds) p k)) ↔ (((d.name ≡ p) × (d.arity ≡ k)) ⊎ T (is_some (defined ds p k)))
  unfolding defined
  defined_cons d ds p k = go (same d.name p && eqb d.arity k) (same_head d p k)
    where
      go : (b : Bool) → T b ↔ ((d.name ≡ p) × (d.arity ≡ k)) → T (is_some (if b (some d.body) (defined ds p k))) ↔ (((d.name ≡ p) × (d.arity ≡ k)) ⊎ T (is_some (defined ds p k)))
      go true e = (λ t. inl (e.0 tt), λ t. tt)
      go false e = (λ t. inr t, λ t. elim t [ inl a ↦ absurd (e.1 a) | inr c ↦ c ])

  any_defined : (ds : Program) (p : Name) (k : ℕ) → T (any (λ (e : Name × ℕ). same e.0 p && eqb e.1 k) (map named_head ds)) ↔ T (is_some (defined ds p k))
  unfolding any defined
  any_defined [] p k = (λ t. t, λ t. t)
  any_defined (d ∷ ds) p k = go (same d.name p && eqb d.arity k) (any_defined ds p k)
    where
      go : (b : Bool) → T (any (λ (e : Name × ℕ). same e.0 p && eqb e.1 k) (map named_head ds)) ↔ T (is_some (defined ds p k)) → T (b || any (λ (e : Name × ℕ). same e.0 p && eqb e.1 k) (map named_head ds)) ↔ T (is_some (if b (some d.body) (defined ds p k)))
      go true ih = (λ t. tt, λ t. tt)
      go false ih = ih

  -- no name and number of parameters is defined twice
  abbrev pub Once : Program → Type 0
  Once [] = Unit {0}
  Once (d ∷ ds) = (T (is_some (defined ds d.name d.arity)) → ⊥) × Once ds

  pub once_twice : (Q : Program) → T (not (twice (map named_head Q))) ↔ Once Q
  unfolding twice
  once_twice [] = (λ t. tt, λ t. tt)
  once_twice (d ∷ ds) =
      let a = any (λ (e : Name × ℕ). same e.0 d.name && eqb e.1 d.arity) (map named_head ds) in
      let b = twice (map named_head ds) in (
        λ t. (
          λ h. (not_T (a || b)).0 t ((or_T a b).1 (inl ((any_defined ds d.name d.arity).1 h))),
          (once_twice ds).0 ((not_T b).1 (λ h. (not_T (a || b)).0 t ((or_T a b).1 (inr h)))),
        ),
        λ h. (not_T (a || b)).1 (λ t. elim ((or_T a b).0 t) [ inl i ↦ h.0 ((any_defined ds d.name d.arity).0 i) | inr j ↦ (not_T b).0 ((once_twice ds).1 h.1) j ]),
      )

  -- ---------------------------------------------------------------------------------------------
  -- When heads pass.

  module _ (pred : ℕ → Bool) where
    abbrev Passing : List Headed → Headed → List Headed → Type 0
    Passing seen h hs = T (pred h.0) × (h.1 ≤ most_arguments) × (size seen < most_definitions) × (T (listed seen h.0 h.1) → ⊥) × T (heads_pass pred (h ∷ seen) hs)

    pub pass_cons : (seen : List Headed) (h : Headed) (hs : List Headed) → T (heads_pass pred seen (h ∷ hs)) ↔ Passing seen h hs
    unfolding heads_pass
    pass_cons seen h hs =
        let a = pred h.0 in
        let b = leb h.1 most_arguments in
        let c = ltb (size seen) most_definitions in
        let d = not (listed seen h.0 h.1) in
        let e = heads_pass pred (h ∷ seen) hs in (
          λ t. (let k = (and_T (a && b && c && d) e).0 t in let q = (and4 a b c d).0 k.0 in (q.0, leb→le h.1 most_arguments q.1, ltb→lt (size seen) most_definitions q.2, (not_T (listed seen h.0 h.1)).0 q.3, k.1)),
          λ p. (and_T (a && b && c && d) e).1 ((and4 a b c d).1 (p.0, le→leb h.1 most_arguments p.1, lt→ltb (size seen) most_definitions p.2, (not_T (listed seen h.0 h.1)).1 p.3), p.4),
        )

    pub pass_pred : (hs seen : List Headed) (p k : ℕ) → T (heads_pass pred seen hs) → T (listed hs p k) → T (pred p)
    unfolding listed any
    pass_pred [] seen p k t i = absurd i
    pass_pred (h ∷ hs) seen p k t i =
        let q = (pass_cons seen h hs).0 t in
        elim ((listed_cons h hs p k).0 i) [ inl e ↦ subst (λ (z : ℕ). T (pred z)) e.0 q.0 | inr j ↦ pass_pred hs (h ∷ seen) p k q.4 j ]

    not_later : (Q : Program) (seen : List Headed) (p : Name) (k : ℕ) → T (listed seen (num p) k) → T (heads_pass pred seen (map head_of Q)) → T (is_some (defined Q p k)) → ⊥
    unfolding defined
    not_later [] seen p k i t h = h
    not_later (d ∷ ds) seen p k i t h =
        let q = (pass_cons seen (head_of d) (map head_of ds)).0 t in
        elim ((defined_cons d ds p k).0 h) [ inl e ↦ q.3 (subst (λ (z : ℕ). T (listed seen (num d.name) z)) (sym e.1) (subst (λ (z : Name). T (listed seen (num z) k)) (sym e.0) i)) | inr j ↦ not_later ds (head_of d ∷ seen) p k ((listed_cons (head_of d) seen (num p) k).1 (inr i)) q.4 j ]

    pub heads_sound : (Q : Program) (seen : List Headed) → T (heads_pass pred seen (map head_of Q)) → size seen ≤ most_definitions → Once Q × (size seen + size Q ≤ most_definitions)
    unfolding size
    heads_sound [] seen t b = (tt, omega (arith, b))
    heads_sound (d ∷ ds) seen t b =
        let q = (pass_cons seen (head_of d) (map head_of ds)).0 t in
        let r = heads_sound ds (head_of d ∷ seen) q.4 (omega (arith, q.2)) in
        ((λ h. not_later ds (head_of d ∷ seen) d.name d.arity ((listed_cons (head_of d) seen (num d.name) d.arity).1 (inl (refl, refl))) q.4 h, r.0), omega (arith, r.1))

    -- what is asked of each definition, spell being the name of a number
    abbrev pub HeadsFit : (ℕ → Name) → Program → Type 0
    HeadsFit spell [] = Unit {0}
    HeadsFit spell (d ∷ ds) = T (pred (num d.name)) × (d.arity ≤ most_arguments) × (spell (num d.name) ≡ d.name) × HeadsFit spell ds

    -- none of them is among those seen
    abbrev Apart : List Headed → Program → Type 0
    Apart seen [] = Unit {0}
    Apart seen (d ∷ ds) = (T (listed seen (num d.name) d.arity) → ⊥) × Apart seen ds

    apart_none : (Q : Program) → Apart [] Q
    unfolding listed any
    apart_none [] = tt
    apart_none (d ∷ ds) = (λ t. t, apart_none ds)

    apart_more : (spell : ℕ → Name) (d : Def) (Q : Program) (seen : List Headed) → spell (num d.name) ≡ d.name → HeadsFit spell Q → (T (is_some (defined Q d.name d.arity)) → ⊥) → Apart seen Q → Apart (head_of d ∷ seen) Q
    apart_more spell d [] seen e f h a = tt
    apart_more spell d (c ∷ cs) seen e f h a = (
      λ t. elim ((listed_cons (head_of d) seen (num c.name) c.arity).0 t) [ inl z ↦ h ((defined_cons c cs d.name d.arity).1 (inl (sym f.2 ∙ ap spell (sym z.0) ∙ e, sym z.1))) | inr i ↦ a.0 i ],
      apart_more spell d cs seen e f.3 (λ i. h ((defined_cons c cs d.name d.arity).1 (inr i))) a.1,
    )

    pass_all : (spell : ℕ → Name) (Q : Program) (seen : List Headed) → HeadsFit spell Q → Once Q → Apart seen Q → size seen + size Q ≤ most_definitions → T (heads_pass pred seen (map head_of Q))
    unfolding heads_pass size
    pass_all spell [] seen f o a b = tt
    pass_all spell (d ∷ ds) seen f o a b =
        (pass_cons seen (head_of d) (map head_of ds)).1 (
          f.0,
          f.1,
          omega (arith, b),
          a.0,
          pass_all spell ds (head_of d ∷ seen) f.3 o.1 (apart_more spell d ds seen f.2 f.3 o.0 a.1) (omega (arith, b)),
        )

    pub heads_complete : (spell : ℕ → Name) (Q : Program) → HeadsFit spell Q → Once Q → size Q ≤ most_definitions → T (heads_pass pred [] (map head_of Q))
    unfolding size
    heads_complete spell Q f o b = pass_all spell Q [] f o (apart_none Q) (omega (arith, b))
