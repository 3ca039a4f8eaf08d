-- The loop over definitions that writes their heads. Assumes nothing.
use mathlib.Core.Path.{◌≡◌, refl, ap, ap₂, sym, ◌∙◌, subst}
use mathlib.Core.Logic.{◌⊎◌, inl, inr}
use mathlib.Core.List.{List, [], ◌∷◌, ◌++◌, map}
use mathlib.Core.Bool.{Bool, true, false, ◌||◌, not}
use mathlib.Core.Option.{Option, some, none, some-injective}
use Prim.Native.Nat.{ℕ, zero, suc, ◌+◌, ◌-◌, ◌*◌, ◌/◌, ◌%◌, ◌≤◌, ◌<◌}
use native.Mathlib.Omega.{arith}
use native.Mathlib.Numerals.{add-one}
use native.Mathlib.Decide.{ℕ_discrete}
use lib.Dec.{ltb}
use lib.ListN.{length, set, take}
use lib.Seq.{take-suc-set, length-take-le}
use borrow.Author.Tests.{lt-ltb}
use Rattle.constraint.proofs.Lists.{none_some}
use Rattle.constraint.specs.Constraint.{In}
use Rattle.akl.specs.Base.{Name, size, flat, repeats, ◌>>=◌}
use Rattle.akl.specs.Limits.{most_definitions, most_arguments}
use Rattle.akl.specs.Token.{Token, defines, full_stop}
use Rattle.akl.specs.Grammar.{Statement, Definition}
use Rattle.akl.specs.Parse.{Read, after, parse_program}
use Rattle.akl.specs.Reader.{fault, twice, definition_faults, program_faults, statement_faults}
use Rattle.akl.specs.Reader as akl
use Rattle.mem_numbers.specs.Stored.{Stored}
use Rattle.descent.specs.Descent.{the_definition, the_statement}
use Rattle.read_phrases.specs.Codes.{Known, kind_at, number_at, toks}
use Rattle.read_phrases.specs.Phrases.{names, Reserved, ArgumentsTo}
use Rattle.read_phrases.specs.declared.Phrase.TheVariants.{To, Odd as NoPhrase}
use Rattle.read_phrases.proofs.Reading.{names_size}
use Rattle.read_grammar.specs.Grammar.{DefinitionTo}
use Rattle.std.specs.Prelude as std
use Rattle.read_grammar.proofs.Defining.{from_arguments, definition_odd, definition_true, definition_fail, definition_arguments_odd}
use Rattle.read_lookups.specs.Places.{among, repeated, repeated_more, repeated_none}
use Rattle.read_pieces.specs.Reads.{heads}
use Rattle.read_pieces.specs.Worst.{in_left, in_right}
use Rattle.read_pieces.proofs.Simples.{read_first}
use Rattle.read_heads.specs.Heads.{CanHead, HeadAt, HeadTo, Heads, HeadedTo}
use Rattle.read_heads.specs.declared.Head.TheVariants as head
use Rattle.read_heads.specs.declared.Headed.TheVariants.{All, Many, Odd, Short}
use Rattle.read_heads.proofs.Sofar.{Sofar, sofar_start, sofar_at, sofar_more, sofar_all, sofar_next}

-- ---------------------------------------------------------------------------------------------
-- One head.

-- the name and the parameters of a definition that was read
module _ (L : List ℕ) (at : ℕ) (w : ℕ → Name) (r : Reserved w L) (d : Definition) (us : List Token) (e : the_definition (toks w L at) ≡ some (d, us)) where
  -- it begins with a name that is not `true` or `fail`
  Begins : Type 0
  Begins = (kind_at L at ≡ 0) × (number_at L at ≡ 4 → ⊥) × (number_at L at ≡ 8 → ⊥)

  begins : Begins
  unfolding Begins
  begins = go (ℕ_discrete (kind_at L at) 0) (ℕ_discrete (number_at L at) 4) (ℕ_discrete (number_at L at) 8)
    where
      go : Dec (kind_at L at ≡ 0) → Dec (number_at L at ≡ 4) → Dec (number_at L at ≡ 8) → (kind_at L at ≡ 0) × (number_at L at ≡ 4 → ⊥) × (number_at L at ≡ 8 → ⊥)
      go (yes k) (no f) (no g) = (k, f, g)
      go (no k) y z = absurd (none_some (sym (definition_odd L [] at k w r) ∙ e))
      go (yes k) (yes f) z = absurd (none_some (sym (definition_true L [] at (number_at L at) k refl f w r) ∙ e))
      go (yes k) (no f) (yes g) = absurd (none_some (sym (definition_fail L [] at (number_at L at) k refl g w r) ∙ e))

  pub head_arguments : ArgumentsTo L (at + 1) NoPhrase → ⊥
  unfolding Begins
  head_arguments a = none_some (sym (definition_arguments_odd L [] at (number_at L at) begins.0 refl begins.1 begins.2 a w r) ∙ e)

  pub head_is : (rest count : ℕ) → ArgumentsTo L (at + 1) (To rest count) → (d.head ≡ w (number_at L at)) × (size d.parameters ≡ count)
  unfolding Begins
  head_is rest count a =
      let f = sym (from_arguments L [] at (number_at L at) begins.0 refl begins.1 begins.2 rest count a w r) ∙ e in
      let x = read_first (after defines (toks w L rest)) (λ r. the_statement r >>= λ s. after full_stop s.1 >>= λ v. some (made s.0, v)) (d, us) f in
      let y = read_first (the_statement x.0) (λ s. after full_stop s.1 >>= λ v. some (made s.0, v)) (d, us) x.2 in
      let z = read_first (after full_stop y.0.1) (λ v. some (made y.0.0, v)) (d, us) y.2 in
      let q : made y.0.0 ≡ d = ap (λ (p : Definition × List Token). p.0) (some-injective (made y.0.0, z.0) (d, us) z.2) in
      (ap (λ (c : Definition). c.head) (sym q), ap (λ (c : Definition). size c.parameters) (sym q) ∙ names_size w L count (at + 1 + 1))
    where
      made : Statement → Definition
      made s = record { head = w (number_at L at); parameters = names w L count (at + 1 + 1); statement = s }

module _ (L T : List ℕ) (at end : ℕ) (can : CanHead L) (d : DefinitionTo L T at (std.Ok end)) (n : ℕ) (is : n ≡ number_at L at) where
  pub one_odd : ArgumentsTo L (at + 1) NoPhrase → HeadTo L T at head.Odd
  one_odd a w r = absurd (let q = d.2 w r in head_arguments L at w r q.0 (toks w L end) q.1 a)

  module _ (rest count : ℕ) (a : ArgumentsTo L (at + 1) (To rest count)) where
    pub one_many : 8 < count → HeadTo L T at head.Many
    one_many h w r =
        let q = d.2 w r in
        let p = head_is L at w r q.0 (toks w L end) q.1 rest count a in
        (q.0, toks w L end, q.1, omega (arith, p.1))

    pub one_head : count ≤ 8 → HeadTo L T at (head.At (n * 256 + count) end)
    one_head h =
        let s = can.small at (omega (arith, d.0, d.1)) in
        let x : (n * 256 + count) / 256 ≡ n = omega arith in
        let y : (n * 256 + count) % 256 ≡ count = omega arith in
        record {
          forward = d.0;
          inside = d.1;
          number = x ∙ is;
          small = omega arith;
          says = λ w r.
              (let q = d.2 w r in
              let p = head_is L at w r q.0 (toks w L end) q.1 rest count a in
              (q.0, q.1, p.0 ∙ ap w (sym (x ∙ is)), p.1 ∙ sym y));
        }

-- ---------------------------------------------------------------------------------------------
-- The loop.

-- the definitions before i have the first k heads of D
pub record Going (L T₀ D₀ T D : List ℕ) (i k : ℕ) (t : Bool) : Type 0 where
  pub stack : length T ≡ length T₀
  pub long : length D ≡ length D₀
  pub inside : i ≤ length L
  pub few : k ≤ 128
  pub room : k ≤ length D
  pub again : repeated (take k D) ≡ t
  pub numbers : (b : ℕ) → ((j : ℕ) → j < length L → number_at L j < b) → (c : ℕ) → In c (take k D) → c / 256 < b
  pub says : (w : ℕ → Name) → Reserved w L → (done : List Definition) × Sofar w L i done × (akl.heads done ≡ heads w (take k D))

pub going_start : (L T D : List ℕ) → Going L T D T D 0 0 false
going_start L T D = record { stack = refl; long = refl; inside = omega arith; few = omega arith; room = omega arith; again = repeated_none; numbers = λ b h c z. absurd z; says = λ w r. ([], sofar_start w L, refl) }

heads_more : (ds : List Definition) (d : Definition) → akl.heads (ds ++ (d ∷ [])) ≡ akl.heads ds ++ ((d.head, size d.parameters) ∷ [])
heads_more [] d = refl
heads_more (x ∷ ds) d = ap (λ (l : List (Name × ℕ)). (x.head, size x.parameters) ∷ l) (heads_more ds d)

heads_snoc : (w : ℕ → Name) (l : List ℕ) (h : ℕ) → heads w (l ++ (h ∷ [])) ≡ heads w l ++ ((w (h / 256), h % 256) ∷ [])
heads_snoc w [] h = refl
heads_snoc w (x ∷ l) h = ap (λ (l : List (Name × ℕ)). (w (x / 256), x % 256) ∷ l) (heads_snoc w l h)

in_snoc : (c : ℕ) (l : List ℕ) (h : ℕ) → In c (l ++ (h ∷ [])) → In c l ⊎ (c ≡ h)
in_snoc c [] h (inl e) = inr e
in_snoc c [] h (inr z) = absurd z
in_snoc c (x ∷ l) h (inl e) = inl (inl e)
in_snoc c (x ∷ l) h (inr i) = elim (in_snoc c l h i) [ inl a ↦ inl (inr a) | inr a ↦ inr a ]

size_map : (ds : List Definition) (D : List ℕ) (w : ℕ → Name) → akl.heads ds ≡ heads w D → size ds ≡ length D
unfolding size
size_map [] [] w e = refl
size_map [] (c ∷ D) w e = absurd (let z : ◌≡◌ {A = ℕ} 0 1 = ap (λ (l : List (Name × ℕ)). elim l as (λ v. ℕ) [ [] ↦ 0 | x ∷ y ↦ 1 ]) e in omega arith)
size_map (d ∷ ds) [] w e = absurd (let z : ◌≡◌ {A = ℕ} 1 0 = ap (λ (l : List (Name × ℕ)). elim l as (λ v. ℕ) [ [] ↦ 0 | x ∷ y ↦ 1 ]) e in omega arith)
size_map (d ∷ ds) (c ∷ D) w e = ap suc (size_map ds D w (ap (λ (l : List (Name × ℕ)). elim l as (λ v. List (Name × ℕ)) [ [] ↦ [] | x ∷ y ↦ y ]) e))

positive : (d : Definition) (es : List Definition) → 1 ≤ size (d ∷ es)
unfolding size
positive d es = omega arith

size_both : (ds es : List Definition) → size (ds ++ es) ≡ size ds + size es
unfolding size
size_both [] es = let z : size {A = Definition} [] ≡ 0 = refl in omega arith
size_both (d ∷ ds) es = let z = size_both ds es in omega arith

pub in_flat : (f : Definition → List ℕ) (x : ℕ) (ds : List Definition) (d : Definition) (es : List Definition) → In x (f d) → In x (flat f (ds ++ (d ∷ es)))
unfolding flat
in_flat f x [] d es h = in_left x (f d) (flat f es) h
in_flat f x (c ∷ ds) d es h = in_right x (f c) (flat f (ds ++ (d ∷ es))) (in_flat f x ds d es h)

-- refusal 3 is due: too many definitions, or something in one of them
many_due : (ds : List Definition) → 128 < size ds → In 3 (program_faults ds)
unfolding program_faults
many_due ds h = in_left 3 (fault 3 (ltb most_definitions (size ds)) ++ fault 4 (twice (akl.heads ds))) _ (in_left 3 (fault 3 (ltb most_definitions (size ds))) _ (subst (λ (b : Bool). In 3 (fault 3 b)) (sym (lt-ltb most_definitions (size ds) h)) (inl refl)))

pub one_due : (ds : List Definition) (d : Definition) (es : List Definition) → In 3 (definition_faults (akl.heads (ds ++ (d ∷ es))) d) → In 3 (program_faults (ds ++ (d ∷ es)))
unfolding program_faults
one_due ds d es h = in_right 3 (fault 3 (ltb most_definitions (size (ds ++ (d ∷ es)))) ++ fault 4 (twice (akl.heads (ds ++ (d ∷ es))))) _ (in_flat (definition_faults (akl.heads (ds ++ (d ∷ es)))) 3 ds d es h)

pub parameters_due : (hs : List (Name × ℕ)) (d : Definition) → 8 < size d.parameters → In 3 (definition_faults hs d)
parameters_due hs d h = in_left 3 (fault 3 (ltb most_arguments (size d.parameters)) ++ fault 4 (repeats d.parameters)) _ (in_left 3 (fault 3 (ltb most_arguments (size d.parameters))) _ (subst (λ (b : Bool). In 3 (fault 3 b)) (sym (lt-ltb most_arguments (size d.parameters) h)) (inl refl)))

module _ {L T₀ D₀ T D : List ℕ} {i k : ℕ} {t : Bool} (g : Going L T₀ D₀ T D i k t) where
  module _ (T' D' : List ℕ) {h rest : ℕ} (a : HeadAt L i h rest) (l : length T' ≡ length T) (m : k < 128) (n : k < length D) (s : Stored D k h D') where
    taken : take (k + 1) D' ≡ take k D ++ (h ∷ [])
    taken = ap (take (k + 1)) s.list ∙ ap (λ (j : ℕ). take j (set D k h)) (add-one k) ∙ take-suc-set D k h n

    more : (b : Bool) → among h (take k D) || repeated (take k D) ≡ b → Going L T₀ D₀ T' D' rest (k + 1) b
    more b e =
        record {
          stack = l ∙ g.stack;
          long = s.long ∙ g.long;
          inside = a.inside;
          few = omega arith;
          room = omega (arith, s.long);
          again = ap repeated taken ∙ repeated_more h (take k D) ∙ e;
          numbers = λ b z c q. elim (in_snoc c (take k D) h (subst (In c) taken q)) [ inl y ↦ g.numbers b z c y | inr y ↦ omega (arith, y, a.number, z i (omega (arith, a.forward, a.inside))) ];
          says = λ w r.
              (let p = g.says w r in
              let q = a.says w r in
              (p.0 ++ (q.0 ∷ []), sofar_more p.1 q.0 rest q.1, heads_more p.0 q.0 ∙ ap₂ (λ (l : List (Name × ℕ)) (x : Name × ℕ). l ++ (x ∷ [])) p.2 (ap₂ (λ (x : Name) (y : ℕ). (x, y)) q.2 q.3) ∙ sym (heads_snoc w (take k D) h) ∙ ap (heads w) (sym taken)));
        }

    pub going_again : among h (take k D) ≡ true → Going L T₀ D₀ T' D' rest (k + 1) true
    going_again e = more true (ap (λ (b : Bool). b || repeated (take k D)) e)

    pub going_new : among h (take k D) ≡ false → Going L T₀ D₀ T' D' rest (k + 1) t
    going_new e = more t (ap (λ (b : Bool). b || repeated (take k D)) e ∙ g.again)

    pub going_less : length L - rest < length L - i
    going_less = omega (arith, a.forward, a.inside)

  pub going_full : i < length L → 128 ≤ k → HeadedTo L T₀ D₀ D Many
  going_full h f =
      record {
        long = g.long;
        answer = λ w r ds p.
            (let a = g.says w r in
            let b = sofar_next a.1 h ds p in
            let c = sofar_at a.1 b.0 b.1 b.2 ds p in
            many_due ds (omega (arith, ap size c.1, size_both a.0 (b.0 ∷ c.0), positive b.0 c.0, size_map a.0 (take k D) w a.2, length-take-le k D g.room)));
      }

  pub going_many : HeadTo L T i head.Many → HeadedTo L T₀ D₀ D Many
  going_many f =
      record {
        long = g.long;
        answer = λ w r ds p.
            (let a = g.says w r in
            let b = f w r in
            let c = sofar_at a.1 b.0 b.1 b.2 ds p in
            subst (λ (l : List Definition). In 3 (program_faults l)) (sym c.1) (one_due a.0 b.0 c.0 (parameters_due _ b.0 b.3)));
      }

  pub going_odd : i < length L → HeadTo L T i head.Odd → HeadedTo L T₀ D₀ D Odd
  going_odd h f =
      record {
        long = g.long;
        answer = λ w r ds p.
            (let a = g.says w r in
            let b = sofar_next a.1 h ds p in
            none_some (sym (f w r) ∙ b.2));
      }

  pub going_short : HeadTo L T i head.Short → HeadedTo L T₀ D₀ D Short
  going_short f = record { long = g.long; answer = inl (omega (arith, f, g.stack)) }

  pub going_room : length D ≤ k → k < 128 → HeadedTo L T₀ D₀ D Short
  going_room f m = record { long = g.long; answer = inr (omega (arith, g.long)) }

  pub going_all : length L ≤ i → HeadedTo L T₀ D₀ D (All k t)
  going_all h =
      record {
        long = g.long;
        answer =
            record {
              few = g.few;
              inside = g.room;
              again = g.again;
              numbers = g.numbers;
              says = λ w r ds p. (let a = g.says w r in ap akl.heads (sofar_all a.1 h ds p) ∙ a.2);
            };
      }
