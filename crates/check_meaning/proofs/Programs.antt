-- Words of a program pass exactly when the program does.
use mathlib.Core.Path.{◌≡◌, refl, ap, sym, ◌∙◌, subst}
use mathlib.Core.Logic.{inl, inr}
use mathlib.Core.List.{List, [], ◌∷◌, map}
use mathlib.Core.Bool.{Bool, true, false, ◌||◌, not}
use Prim.Native.Nat.{ℕ, ◌<◌}
use native.Mathlib.Omega.{arith}
use lib.Dec.{T, leb, ltb, leb→le, le→leb, ltb→lt, lt→ltb}
use lib.ListN.{length}
use Rattle.constraint.specs.Constraint.{ctrue}
use Rattle.constraint.proofs.Lists.{and_T}
use Rattle.akl.specs.Base.{Name, all, any, size, is_some}
use Rattle.akl.specs.Limits.{most_definitions, most_arguments, most_depth}
use Rattle.akl.specs.Syntax.{atom, Def, Program, defined}
use Rattle.akl.specs.Reader.{twice}
use Rattle.akl.specs.WellFormed.{spelled_name, spelled_digits, spelled_predicate, statement_fits, statement_passes, definition_passes, program_passes, depth}
use Rattle.mem_words.specs.declared.Word.{Word}
use Rattle.mem_words.specs.Form.{AllSmall}
use Rattle.layout.specs.Layout.{program_words}
use Rattle.layout.specs.Reading.{read_program}
use Rattle.layout.specs.Tables.{SpeltProgram}
use Rattle.layout.proofs.Back.{program_back}
use Rattle.read_nodes.specs.Spell.{named}
use Rattle.store_form.specs.State.{number_in}
use Rattle.store_form.proofs.Names.{number_back}
use Rattle.check_shapes.specs.declared.Frame.TheVariants.{Head}
use Rattle.check_shapes.specs.Machine.{run}
use Rattle.check_shapes.specs.Passed.{Headed, heads, listed, heads_pass, program_passed}
use Rattle.check_meaning.specs.Table.{con_in, pred_in, def_in, Own}
use Rattle.check_meaning.specs.Meaning.{IsProgram}
use Rattle.check_meaning.proofs.Rests.{Known, BodiesFine}
use Rattle.check_meaning.proofs.Moves.{and3}
use Rattle.check_meaning.proofs.More.{stmt_more}
use Rattle.check_meaning.proofs.Sound.{sound}
use Rattle.check_meaning.proofs.Complete.{Found, stmt_complete}
use Rattle.check_meaning.proofs.CompleteBoxes.{program_complete}
use Rattle.check_meaning.proofs.Heads.{named_head, head_of, program_heads, listed_cons, defined_cons, once_twice, pass_pred, heads_sound, HeadsFit, heads_complete}
use Rattle.check_meaning.proofs.NotBad.{no_bad}

-- ---------------------------------------------------------------------------------------------
-- What passes is words of a program that passes. Before it is known, the heads alone say what is defined: the same as a program
-- whose bodies are `true`.

module _ (num : Name → ℕ) (spell : ℕ → Name) where
  abbrev blank : Headed → Def
  blank h = record { name = spell h.0; arity = h.1; body = atom ctrue }

  listed_blank : (hs : List Headed) (p k : ℕ) → T (listed hs p k) → T (is_some (defined (map blank hs) (spell p) k))
  unfolding listed any
  listed_blank [] p k t = absurd t
  listed_blank (h ∷ hs) p k t = elim ((listed_cons num h hs p k).0 t) [ inl e ↦ (defined_cons num (blank h) (map blank hs) (spell p) k).1 (inl (ap spell e.0, e.1)) | inr i ↦ (defined_cons num (blank h) (map blank hs) (spell p) k).1 (inr (listed_blank hs p k i)) ]

  blank_defined : (R Q : Program) → BodiesFine num spell R false Q → (p : Name) (k : ℕ) → T (is_some (defined (map blank (map (head_of num) Q)) p k)) → T (is_some (defined Q p k))
  unfolding defined
  blank_defined R [] f p k t = t
  blank_defined R (d ∷ ds) f p k t =
      elim ((defined_cons num (blank (head_of num d)) (map blank (map (head_of num) ds)) p k).0 t) [ inl e ↦ (defined_cons num d ds p k).1 (inl (sym f.3 ∙ e.0, e.1)) | inr i ↦ (defined_cons num d ds p k).1 (inr (blank_defined R ds f.4 p k i)) ]

  bodies_pass : (R P Q : Program) → ((p : Name) (k : ℕ) → T (is_some (defined R p k)) → T (is_some (defined P p k))) → BodiesFine num spell R false Q → T (all (definition_passes P) Q)
  unfolding all definition_passes statement_passes
  bodies_pass R P [] D f = tt
  bodies_pass R P (d ∷ ds) D f =
      (and_T (definition_passes P d) (all (definition_passes P) ds)).1 (
        (and3 (spelled_predicate d.name) (leb d.arity most_arguments) (statement_passes P (λ x. false) d.arity d.body)).1 (
          f.0,
          le→leb d.arity most_arguments f.1,
          (and_T (statement_fits d.body P (λ x. false) d.arity) (leb (depth d.body) most_depth)).1 (stmt_more R P (λ x. false) (λ x. false) D (λ x t. t) d.body d.arity f.2.0, le→leb (depth d.body) most_depth f.2.1),
        ),
        bodies_pass R P ds D f.4,
      )

  bodies_spelt : (R Q : Program) → BodiesFine num spell R false Q → SpeltProgram num spell Q
  bodies_spelt R [] f = tt
  bodies_spelt R (d ∷ ds) f = (f.3, f.2.2, bodies_spelt R ds f.4)

module _ (N : List ℕ) where
  defined_listed : (Q : Program) (p : Name) (k : ℕ) → T (is_some (defined Q p k)) → T (listed (map (head_of (number_in N)) Q) (number_in N p) k)
  unfolding defined
  defined_listed [] p k t = absurd t
  defined_listed (d ∷ ds) p k t =
      elim ((defined_cons (number_in N) d ds p k).0 t) [ inl e ↦ (listed_cons (number_in N) (head_of (number_in N) d) (map (head_of (number_in N)) ds) (number_in N p) k).1 (inl (ap (number_in N) e.0, e.1)) | inr i ↦ (listed_cons (number_in N) (head_of (number_in N) d) (map (head_of (number_in N)) ds) (number_in N p) k).1 (inr (defined_listed ds p k i)) ]

equal : (a b : Bool) → (T a → T b) → (T b → T a) → a ≡ b
equal true true f g = refl
equal true false f g = absurd (f tt)
equal false true f g = absurd (g tt)
equal false false f g = refl

module _ (N : List ℕ) (own : Own N) where
  pub con_known : (i : ℕ) → T (con_in N i) → (number_in N (named N i) ≡ i) × T (spelled_name (named N i) || spelled_digits (named N i))
  unfolding con_in
  con_known i t = let h = (and_T (ltb i (length N)) (spelled_name (named N i) || spelled_digits (named N i))).0 t in (own i (ltb→lt i (length N) h.0), h.1)

  pub pred_known : (i : ℕ) → T (pred_in N i) → (number_in N (named N i) ≡ i) × T (spelled_predicate (named N i))
  unfolding pred_in
  pred_known i t = let h = (and_T (ltb i (length N)) (spelled_predicate (named N i))).0 t in (own i (ltb→lt i (length N) h.0), h.1)

  in_table : (P : Program) (q k : ℕ) → T (pred_in N q) → T (is_some (defined P (named N q) k)) → T (def_in N P q k)
  unfolding pred_in def_in
  in_table P q k t d = (and_T (ltb q (length N)) (is_some (defined P (named N q) k))).1 (((and_T (ltb q (length N)) (spelled_predicate (named N q))).0 t).0, d)

  from_table : (H : List Headed) (P : Program) → H ≡ map (head_of (number_in N)) P → (q k : ℕ) → T (def_in N P q k) → T (listed H q k)
  unfolding def_in
  from_table H P e q k t =
      let h = (and_T (ltb q (length N)) (is_some (defined P (named N q) k))).0 t in
      subst (λ (l : List Headed). T (listed l q k)) (sym e) (subst (λ (z : ℕ). T (listed (map (head_of (number_in N)) P) z k)) (own q (ltb→lt q (length N) h.0)) (defined_listed N P (named N q) k h.1))

  pub program_means : (ws : List Word) → T (program_passed (con_in N) (pred_in N) ws) → (P : Program) × IsProgram N ws P
  unfolding program_passed program_passes size
  program_means ws t =
      let num = number_in N in
      let spell = named N in
      let H = heads ws in
      let R = map (blank num spell) H in
      let h = (and_T (heads_pass (pred_in N) [] H) (run (con_in N) (pred_in N) (listed H) false ws Head [])).0 t in
      let K : Known num spell R (con_in N) (pred_in N) (listed H) = record { constructors = con_known; predicates = pred_known; definitions = λ p k i. ((pred_known p (pass_pred num (pred_in N) H [] p k h.0 i)).0, listed_blank num spell H p k i) } in
      let s = sound num spell R (con_in N) (pred_in N) (listed H) false K ws Head [] h.1 in
      let P = s.1.0 in
      let e : H ≡ map (head_of num) P = ap heads s.1.1 ∙ program_heads num P in
      let f : BodiesFine num spell R false P = s.1.3 in
      let D : (p : Name) (k : ℕ) → T (is_some (defined R p k)) → T (is_some (defined P p k)) = λ p k i. blank_defined num spell R P f p k (subst (λ (l : List Headed). T (is_some (defined (map (blank num spell) l) p k))) e i) in
      let o = heads_sound num (pred_in N) P [] (subst (λ (l : List Headed). T (heads_pass (pred_in N) [] l)) e h.0) (omega arith) in (
        P,
        record {
          passes = (and3 (leb (size P) most_definitions) (not (twice (map named_head P))) (all (definition_passes P) P)).1 (le→leb (size P) most_definitions (omega (arith, o.1)), (once_twice num P).1 o.0, bodies_pass num spell R P P D f);
          laid = s.1.1;
          reads = ap (λ (u : List Word). read_program spell u) s.1.1 ∙ program_back num spell P (bodies_spelt num spell R P f);
          good = no_bad (con_in N) (pred_in N) (listed H) false ws Head [] h.1;
          defines = λ q k. equal (listed H q k) (def_in N P q k) (λ i. in_table P q k (pass_pred num (pred_in N) H [] q k h.0 i) (D (spell q) k (listed_blank num spell H q k i))) (λ i. from_table H P e q k i);
        },
      )

-- ---------------------------------------------------------------------------------------------
-- All of them pass.

module _ (N : List ℕ) where
  pub con_found : (g : Name) → number_in N g < 65536 → T (spelled_name g || spelled_digits g) → T (con_in N (number_in N g))
  unfolding con_in
  con_found g h t =
      let b = number_back N g h in
      (and_T (ltb (number_in N g) (length N)) (spelled_name (named N (number_in N g)) || spelled_digits (named N (number_in N g)))).1 (lt→ltb (number_in N g) (length N) b.1, subst (λ (z : Name). T (spelled_name z || spelled_digits z)) (sym b.0) t)

  pred_found : (g : Name) → number_in N g < 65536 → T (spelled_predicate g) → T (pred_in N (number_in N g))
  unfolding pred_in
  pred_found g h t =
      let b = number_back N g h in
      (and_T (ltb (number_in N g) (length N)) (spelled_predicate (named N (number_in N g)))).1 (lt→ltb (number_in N g) (length N) b.1, subst (λ (z : Name). T (spelled_predicate z)) (sym b.0) t)

  -- the words behind a body are small as well
  heads_fit : (P Q : Program) (def : ℕ → ℕ → Bool) → Found (number_in N) P (con_in N) def → T (all (definition_passes P) Q) → AllSmall (program_words (number_in N) Q) → HeadsFit (number_in N) (pred_in N) (named N) Q
  unfolding program_words all definition_passes statement_passes
  heads_fit P [] def F t s = tt
  heads_fit P (d ∷ ds) def F t s =
      let q = (and_T (definition_passes P d) (all (definition_passes P) ds)).0 t in
      let o = (and3 (spelled_predicate d.name) (leb d.arity most_arguments) (statement_passes P (λ x. false) d.arity d.body)).0 q.0 in
      let i = (and_T (statement_fits d.body P (λ x. false) d.arity) (leb (depth d.body) most_depth)).0 o.2 in
      let a = leb→le d.arity most_arguments o.1 in
      let v = stmt_complete (number_in N) P (con_in N) (pred_in N) def false F d.body d.arity most_depth Head [] (program_words (number_in N) ds) i.0 (leb→le (depth d.body) most_depth i.1) (omega (arith, a)) s.1.1 in
      (pred_found d.name s.0.value o.0, a, (number_back N d.name s.0.value).0, heads_fit P ds def F q.1 v.1)

  pub program_taken : (P : Program) → T (program_passes P) → AllSmall (program_words (number_in N) P) → T (program_passed (con_in N) (pred_in N) (program_words (number_in N) P))
  unfolding program_passed program_passes
  program_taken P t s =
      let num = number_in N in
      let W = program_words num P in
      let q = (and3 (leb (size P) most_definitions) (not (twice (map named_head P))) (all (definition_passes P) P)).0 t in
      let e : heads W ≡ map (head_of num) P = program_heads num P in
      let F : Found num P (con_in N) (listed (heads W)) = record { constructors = con_found; definitions = λ p k h i. subst (λ (l : List Headed). T (listed l (num p) k)) (sym e) (defined_listed N P p k i) } in
      let h = heads_complete num (pred_in N) (named N) P (heads_fit P P (listed (heads W)) F q.2 s) ((once_twice num P).0 q.1) (leb→le (size P) most_definitions q.0) in
      (and_T (heads_pass (pred_in N) [] (heads W)) (run (con_in N) (pred_in N) (listed (heads W)) false W Head [])).1 (
        subst (λ (l : List Headed). T (heads_pass (pred_in N) [] l)) (sym e) h,
        subst T (sym (program_complete num P (con_in N) (pred_in N) (listed (heads W)) F pred_found P q.2 s)) tt,
      )
