-- What the answers on a program's tokens say of its definitions. B₁ is the table of bindings made zero. Assumes nothing.
use mathlib.Core.Path.{◌≡◌, refl, ap, ap₂, sym, ◌∙◌, subst}
use mathlib.Core.Logic.{◌⊎◌, inl, inr}
use mathlib.Core.Bool.{Bool, true, false, ◌&&◌, ◌||◌}
use mathlib.Core.List.{List, [], ◌∷◌, ◌++◌, map, append-nil}
use mathlib.Core.Option.{Option, some, none}
use Prim.Native.Nat.{ℕ, zero, suc, ◌+◌, ◌*◌, ◌/◌, ◌%◌, ◌≤◌, ◌<◌}
use native.Mathlib.Omega.{arith}
use lib.Dec.{eqb, ltb}
use lib.ListN.{length, take, length-map}
use lib.Seq.{length-take-le}
use borrow.Author.Tests.{le-ltb, eq-eqb, eqb-true, eqb-false}
use Rattle.constraint.specs.Constraint.{In}
use Rattle.akl.specs.Base.{Name, size, same, any, flat, least}
use Rattle.akl.specs.Limits.{most_definitions}
use Rattle.akl.specs.Grammar.{Definition}
use Rattle.akl.specs.Parse.{parse_program}
use Rattle.akl.specs.Reader.{fault, twice, definition_faults, program_faults, definition_of}
use Rattle.akl.specs.Reader as akl
use Rattle.read_tokens.specs.Runs.{size_length}
use Rattle.mem_numbers.specs.Numbers.{triples, length_triples}
use Rattle.mem_numbers.specs.Prefix.{triples_prefix}
use Rattle.mem_words.specs.declared.Word.{Word}
use Rattle.read_phrases.specs.Codes.{number_at, toks}
use Rattle.read_phrases.specs.Phrases.{Reserved}
use Rattle.read_lookups.specs.Places.{among, repeated}
use Rattle.layout.specs.Layout.{program_words}
use Rattle.read_emits.specs.Out.{tight, seg, Wrote}
use Rattle.read_emits.specs.TheirContracts.{Compacted}
use Rattle.read_pieces.specs.Worst.{Lower, Lowest, in_left, in_right, lowest_both, lowest_fine, lowest_refused, lowest_fits}
use Rattle.read_pieces.specs.Reads.{Scope, Spelling, heads}
use Rattle.read_pieces.specs.declared.Read.{Read}
use Rattle.read_pieces.specs.declared.Read.TheVariants.{Done, Three, Odd, Full}
use Rattle.read_heads.specs.Heads.{CanHead, Heads, HeadedTo}
use Rattle.read_heads.specs.declared.Headed.{Headed}
use Rattle.read_heads.specs.declared.Headed.TheVariants as headed
use Rattle.read_definitions.specs.Definitions.{CanBodies, Bodies, definition_words, definitions_words}
use Rattle.refusals.specs.declared.Refusal.{Refusal}
use Rattle.refusals.specs.declared.Refusal.TheVariants.{TooMany}
use Rattle.refusals.specs.Refusals.{number_of, Textual}
use Rattle.refusals.proofs.Faults.{program_textual}
use Rattle.akl.proofs.Names.{same_refl, same_eq}
use Rattle.read_wholes.proofs.Tables.{Zeroed, zeroed_spells, seg_whole}
use Rattle.read_programs.specs.declared.Programmed.TheVariants as programmed
use Rattle.read_programs.specs.Checks.{CanCheck, CheckedTo}

-- ---------------------------------------------------------------------------------------------
-- Heads that are there twice, by their numbers.

one_head : (w : ℕ → Name) (num : Name → ℕ) (b : ℕ) → Spelling w num b → (x y : ℕ) → x / 256 < b → y / 256 < b → same (w (y / 256)) (w (x / 256)) && eqb (y % 256) (x % 256) ≡ eqb x y
one_head w num b sp x y hx hy = go (eqb x y) refl (same (w (y / 256)) (w (x / 256))) refl (eqb (y % 256) (x % 256)) refl
  where
    go : (e : Bool) → eqb x y ≡ e → (s : Bool) → same (w (y / 256)) (w (x / 256)) ≡ s → (t : Bool) → eqb (y % 256) (x % 256) ≡ t → s && t ≡ e
    go true e true p true q = refl
    go true e false p t q = absurd (let z = eqb-true x y e in let v : ◌≡◌ {A = ℕ} 0 1 = ap (λ (b : Bool). elim b as (λ z. ℕ) [ false ↦ 0 | true ↦ 1 ]) (sym p ∙ ap (λ (n : ℕ). same (w (n / 256)) (w (x / 256))) (sym z) ∙ same_refl (w (x / 256))) in omega arith)
    go true e true p false q = absurd (let z = eqb-true x y e in eqb-false (y % 256) (x % 256) q (ap (λ (n : ℕ). n % 256) (sym z)))
    go false e false p t q = refl
    go false e true p false q = refl
    go false e true p true q = absurd (eqb-false x y e (let n = sym (sp.back (y / 256) hy) ∙ ap num (same_eq (w (y / 256)) (w (x / 256)) p) ∙ sp.back (x / 256) hx in let m = eqb-true (y % 256) (x % 256) q in omega arith))

module _ (w : ℕ → Name) (num : Name → ℕ) (b : ℕ) (sp : Spelling w num b) where
  among_heads : (x : ℕ) (l : List ℕ) → x / 256 < b → ((c : ℕ) → In c l → c / 256 < b) → any (λ d. same d.0 (w (x / 256)) && eqb d.1 (x % 256)) (heads w l) ≡ among x l
  unfolding any among
  among_heads x [] h g = refl
  among_heads x (y ∷ l) h g = ap₂ ◌||◌ (one_head w num b sp x y h (g y (inl refl))) (among_heads x l h (λ c i. g c (inr i)))

  twice_heads : (l : List ℕ) → ((c : ℕ) → In c l → c / 256 < b) → twice (heads w l) ≡ repeated l
  unfolding twice repeated
  twice_heads [] g = refl
  twice_heads (x ∷ l) g = ap₂ ◌||◌ (among_heads x l (g x (inl refl)) (λ c i. g c (inr i))) (twice_heads l (λ c i. g c (inr i)))

-- ---------------------------------------------------------------------------------------------
-- The words of all definitions.

words_all : (num : Name → ℕ) (ds : List Definition) → definitions_words num ds [] ≡ program_words num (map definition_of ds)
unfolding definitions_words definition_words program_words
words_all num [] = refl
words_all num (d ∷ ds) = ap (definition_words num d) (words_all num ds)

-- ---------------------------------------------------------------------------------------------
-- The refusals due.

-- refusal 3 is the lowest where it is due
three_lowest : (ds : List Definition) → In 3 (program_faults ds) → least (program_faults ds) ≡ some 3
three_lowest ds h = lowest_refused 3 (program_faults ds) (record { least = λ x i. (program_textual ds x i).low; found = inl (omega arith, h) }) (omega arith)

size_heads : (ds : List Definition) → size (akl.heads ds) ≡ size ds
unfolding size
size_heads [] = refl
size_heads (d ∷ ds) = ap suc (size_heads ds)

module _ {L D₁ : List ℕ} {b d : ℕ} {t : Bool} (hs : Heads L D₁ d t) (ids : (i : ℕ) → i < length L → number_at L i < b) (w : ℕ → Name) (num : Name → ℕ) (ds : List Definition) (r : Reserved w L) (sp : Spelling w num b) (p : parse_program (toks w L 0) ≡ some ds) where
  is : akl.heads ds ≡ heads w (take d D₁)
  is = hs.says w r ds p

  again : twice (akl.heads ds) ≡ t
  again = ap twice is ∙ twice_heads w num b sp (take d D₁) (hs.numbers b ids) ∙ hs.again

  not_many : size ds ≤ 128
  not_many =
      let e = length-take-le d D₁ hs.inside in
      let g = length-map {B = Name × ℕ} (take d D₁) (λ c. (w (c / 256), c % 256)) in
      omega (arith, hs.few, size_heads ds, ap size is, size_length (heads w (take d D₁)))

  all_lowest : (g f m : ℕ) → Lowest g (fault 4 t) → Lowest f (flat (definition_faults (heads w (take d D₁))) ds) → Lower g f m → Lowest m (program_faults ds)
  unfolding program_faults
  all_lowest g f m a c l =
      lowest_both g f m (fault 3 (ltb most_definitions (size ds)) ++ fault 4 (twice (akl.heads ds))) (flat (definition_faults (akl.heads ds)) ds)
      (subst (λ (c : Bool). Lowest g (fault 3 (ltb most_definitions (size ds)) ++ fault 4 c)) (sym again)
      (subst (λ (c : Bool). Lowest g (fault 3 c ++ fault 4 t)) (sym (le-ltb most_definitions (size ds) not_many)) a))
      (subst (λ (l : List (Name × ℕ)). Lowest f (flat (definition_faults l) ds)) (sym is) c) l

  three_inside : In 3 (flat (definition_faults (heads w (take d D₁))) ds) → In 3 (program_faults ds)
  unfolding program_faults
  three_inside h = in_right 3 (fault 3 (ltb most_definitions (size ds)) ++ fault 4 (twice (akl.heads ds))) _ (subst (λ (l : List (Name × ℕ)). In 3 (flat (definition_faults l) ds)) (sym is) h)

-- ---------------------------------------------------------------------------------------------
-- The answers.

ids_below : {L B Q B₁ : List ℕ} → CanCheck L B Q → Zeroed B B₁ → (i : ℕ) → i < length L → number_at L i < length B₁
ids_below c z i h = omega (arith, c.ids i h, z.long)

pub can_head : {L B Q : List ℕ} → CanCheck L B Q → CanHead L
can_head c = record { known = c.known; small = λ i h. omega (arith, c.ids i h, c.cells) }

pub can_bodies : {L B Q B₁ D₁ : List ℕ} {d : ℕ} {t : Bool} → CanCheck L B Q → Zeroed B B₁ → Heads L D₁ d t → CanBodies L B₁ Q (take d D₁)
can_bodies {B₁ = B₁} c z h =
    record {
      known = c.known;
      ids = ids_below c z;
      cells = omega (arith, c.cells, z.long);
      few = c.few;
      order = c.order;
      heads = h.numbers (length B₁) (ids_below c z);
    }

module _ {L B S : List ℕ} {O : List Word} (T D : List ℕ) (names : ℕ) (D₁ : List ℕ) where
  pub heads_many : (O' : List Word) → HeadedTo L T D D₁ headed.Many → CheckedTo L T D B S O names D₁ O' (programmed.Refused TooMany)
  heads_many O' h = record { answer = λ w num ds r sp p. three_lowest ds (h.answer w r ds p) }

  pub heads_odd : (O' : List Word) (x : Refusal) → HeadedTo L T D D₁ headed.Odd → CheckedTo L T D B S O names D₁ O' (programmed.Refused x)
  heads_odd O' x h = record { answer = λ w num ds r sp p. absurd (h.answer w r ds p) }

  pub heads_short : (O' : List Word) → HeadedTo L T D D₁ headed.Short → CheckedTo L T D B S O names D₁ O' programmed.Short
  heads_short O' h = record { answer = elim h.answer [ inl x ↦ inl x | inr x ↦ inr (inl x) ] }

  module _ {Q B₁ : List ℕ} {d : ℕ} {t : Bool} (can : CanCheck L B Q) (z : Zeroed B B₁) (hs : Heads L D₁ d t) where
    pub bodies_three : (O' : List Word) → Bodies L B₁ S Q (take d D₁) O O' Three → CheckedTo L T D B S O names D₁ O' (programmed.Refused TooMany)
    bodies_three O' b = record { answer = λ w num ds r sp p. three_lowest ds (three_inside hs (ids_below can z) w num ds r (zeroed_spells z sp) p (b.to w num ds r (zeroed_spells z sp) z.scope p)) }

    pub bodies_odd : (O' : List Word) (x : Refusal) → Bodies L B₁ S Q (take d D₁) O O' Odd → CheckedTo L T D B S O names D₁ O' (programmed.Refused x)
    bodies_odd O' x b = record { answer = λ w num ds r sp p. absurd (b.to w num ds r (zeroed_spells z sp) z.scope p) }

    pub bodies_full : (O' : List Word) → Bodies L B₁ S Q (take d D₁) O O' Full → CheckedTo L T D B S O names D₁ O' programmed.Short
    bodies_full O' b = record { answer = elim b.to [ inl x ↦ inr (inr (inl x)) | inr x ↦ inr (inr (inr x)) ] }

    module _ {O' : List Word} {at k q f : ℕ} (b : Bodies L B₁ S Q (take d D₁) O O' (Done at k q f)) (g m : ℕ) (low : Lowest g (fault 4 t)) (l : Lower g f m) where
      due : (w : ℕ → Name) (num : Name → ℕ) (ds : List Definition) → Reserved w L → Spelling w num (length B) → parse_program (toks w L 0) ≡ some ds → Lowest m (program_faults ds)
      due w num ds r sp p = all_lowest hs (ids_below can z) w num ds r (zeroed_spells z sp) p g f m low (b.to.1 w num ds r (zeroed_spells z sp) z.scope p).0 l

      pub bodies_refused : (x : Refusal) → m < 8 → (Textual m → number_of x ≡ m) → CheckedTo L T D B S O names D₁ O' (programmed.Refused x)
      bodies_refused x h e =
          record {
            answer = λ w num ds r sp p.
                (let v = due w num ds r sp p in
                lowest_refused m (program_faults ds) v h ∙ ap (λ (n : ℕ). some n) (sym (e (textual ds v.found))));
          }
        where
          textual : (ds : List Definition) → ((m < 8) × In m (program_faults ds)) ⊎ ((m ≡ 8) × (program_faults ds ≡ [])) → Textual m
          textual ds (inl y) = program_textual ds m y.1
          textual ds (inr y) = absurd (omega (arith, y.0))

      pub bodies_fine : {O'' : List Word} {n : ℕ} → 8 ≤ m → Compacted O' k O'' n → CheckedTo L T D B S O names D₁ O'' (programmed.Read d n names)
      bodies_fine {O''} {n} h c =
          record {
            answer = (
              refl,
              hs.inside,
              omega (arith, c.fewer, b.to.0, c.long),
              (λ x i. omega (arith, hs.numbers (length B₁) (ids_below can z) x i, z.long)),
              λ w num ds r sp p.
                  (let v = due w num ds r sp p in
                  let u = b.to.1 w num ds r (zeroed_spells z sp) z.scope p in
                  record {
                    none_due = lowest_fits m (program_faults ds) v (eight v.found);
                    heads = hs.says w r ds p;
                    words = c.words ∙ ap tight (sym (seg_whole O' k)) ∙ sym (append-nil (tight (seg O' 0 k))) ∙ u.1.words [] ∙ words_all num ds;
                  }),
            );
          }
        where
          eight : {fs : List ℕ} → ((m < 8) × In m fs) ⊎ ((m ≡ 8) × (fs ≡ [])) → m ≡ 8
          eight (inl y) = absurd (omega (arith, y.0))
          eight (inr y) = y.0

-- the answers, by their equations
pub told_heads : {L T D D₁ : List ℕ} {r s : Headed} → r ≡ s → HeadedTo L T D D₁ r → HeadedTo L T D D₁ s
told_heads {L} {T} {D} {D₁} e h = subst (HeadedTo L T D D₁) e h

pub told_bodies : {L B S Q D : List ℕ} {O O' : List Word} {r s : Read} → r ≡ s → Bodies L B S Q D O O' r → Bodies L B S Q D O O' s
told_bodies {L} {B} {S} {Q} {D} {O} {O'} e b = subst (Bodies L B S Q D O O') e b

-- the heads that are lent on
module _ {L : List ℕ} (hb : List ℕ) {d : ℕ} {t : Bool} (hs : Heads L (triples hb) d t) where
  pub heads_there : 3 * d ≤ length hb
  heads_there = omega (arith, hs.inside, length_triples hb)

  pub heads_length : 3 * d ≡ length (take (3 * d) hb)
  heads_length = sym (length-take-le (3 * d) hb heads_there)

  pub heads_prefix : triples (take (3 * d) hb) ≡ take d (triples hb)
  heads_prefix = triples_prefix hb d heads_there
