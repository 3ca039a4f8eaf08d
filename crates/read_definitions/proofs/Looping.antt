-- The loop over all definitions. Assumes nothing.
use mathlib.Core.Path.{◌≡◌, refl, ap, sym, ◌∙◌, subst}
use mathlib.Core.Logic.{◌⊎◌, inl, inr}
use mathlib.Core.List.{List, [], ◌∷◌, ◌++◌, append_assoc, append-nil}
use mathlib.Core.Option.{Option, some, none}
use Prim.Native.Nat.{ℕ, ◌+◌, ◌-◌, ◌*◌, ◌≤◌, ◌<◌}
use native.Mathlib.Omega.{arith}
use lib.ListN.{length}
use Rattle.constraint.proofs.Lists.{none_some}
use Rattle.constraint.specs.Constraint.{In}
use Rattle.akl.specs.Base.{Name, flat}
use Rattle.akl.specs.Token.{Token}
use Rattle.akl.specs.Grammar.{Definition}
use Rattle.akl.specs.Parse.{parse_program}
use Rattle.akl.specs.Reader.{definition_faults}
use Rattle.mem_words.specs.declared.Word.{Word}
use Rattle.descent.specs.Descent.{the_definition}
use Rattle.read_phrases.specs.Codes.{toks}
use Rattle.read_phrases.specs.Phrases.{Reserved}
use Rattle.read_emits.specs.Out.{Wrote, wrote_none, wrote_then, wrote_same}
use Rattle.read_pieces.specs.Worst.{Lower, Lowest, lowest_none, lowest_both}
use Rattle.read_pieces.specs.Reads.{heads, Spelling, Scope, CanRead}
use Rattle.read_pieces.specs.declared.Read.{Read}
use Rattle.read_pieces.specs.declared.Read.TheVariants.{Done, Three, Odd, Full}
use Rattle.read_heads.proofs.Sofar.{Sofar, sofar_start, sofar_at, sofar_more, sofar_all, sofar_next}
use Rattle.read_heads.proofs.Heading.{in_flat}
use Rattle.read_definitions.specs.Definitions.{definition_words, definitions_words, Answer, Defines, CanBodies, Bodies}

flat_more : (f : Definition → List ℕ) (ds : List Definition) (d : Definition) → flat f (ds ++ (d ∷ [])) ≡ flat f ds ++ f d
unfolding flat
flat_more f [] d = append-nil (f d)
flat_more f (x ∷ ds) d = ap (λ (l : List ℕ). f x ++ l) (flat_more f ds d) ∙ sym (append_assoc (f x) (flat f ds) (f d))

words_more : (num : Name → ℕ) (ds : List Definition) (d : Definition) (r : List Word) → definitions_words num ds (definition_words num d r) ≡ definitions_words num (ds ++ (d ∷ [])) r
unfolding definitions_words
words_more num [] d r = refl
words_more num (x ∷ ds) d r = ap (definition_words num x) (words_more num ds d r)

-- the definitions before i were read: f is the lowest refusal due in them, and their words end at k
pub record Going (L B S Q D : List ℕ) (O : List Word) (B₁ S₁ Q₁ : List ℕ) (O₁ : List Word) (i k f : ℕ) : Type 0 where
  pub inside : i ≤ length L
  pub few : k ≤ 4 * i
  pub out : k ≤ length O₁
  pub long_o : length O₁ ≡ length O
  pub cells : B₁ ≡ B
  pub long_s : length S₁ ≡ length S
  pub long_q : length Q₁ ≡ length Q
  pub says : (w : ℕ → Name) (num : Name → ℕ) → Reserved w L → Spelling w num (length B) → Scope B [] 0 → (done : List Definition) × Sofar w L i done × Lowest f (flat (definition_faults (heads w D)) done) × Wrote O 0 O₁ k (definitions_words num done)

pub going_start : (L B S Q D : List ℕ) (O : List Word) → Going L B S Q D O B S Q O 0 0 8
unfolding definitions_words flat
going_start L B S Q D O = record { inside = omega arith; few = omega arith; out = omega arith; long_o = refl; cells = refl; long_s = refl; long_q = refl; says = λ w num r sp sc. ([], sofar_start w L, lowest_none, wrote_none (omega arith)) }

module _ {L B S Q D : List ℕ} {O : List Word} {B₁ S₁ Q₁ : List ℕ} {O₁ : List Word} {i k f : ℕ} (g : Going L B S Q D O B₁ S₁ Q₁ O₁ i k f) where
  pub going_can : CanBodies L B Q D → CanRead L B₁ S₁ Q₁ D O₁ i k 0 0
  going_can c =
      let b = ap length g.cells in
      record { known = c.known; ids = λ j h. omega (arith, c.ids j h); cells = omega (arith, c.cells); few = c.few; before = omega arith; inside = g.inside; order = omega (arith, c.order, g.long_q); most = omega arith; used = λ j h. absurd (omega (arith, h)); out = g.out; heads = λ x h. omega (arith, c.heads x h) }

  module _ {B₂ S₂ Q₂ : List ℕ} {O₂ : List Word} where
    pub going_full : Defines L B₁ S₁ Q₁ D O₁ i k B₂ S₂ Q₂ O₂ Full → Bodies L B S Q D O O₂ Full
    going_full d = record { to = elim d.to [ inl x ↦ inl (omega (arith, x, g.long_o, g.few)) | inr x ↦ inr (omega (arith, x, g.long_s)) ] }

    pub going_odd : i < length L → Defines L B₁ S₁ Q₁ D O₁ i k B₂ S₂ Q₂ O₂ Odd → Bodies L B S Q D O O₂ Odd
    going_odd h d =
        record {
          to = λ w num ds r sp sc p.
              (let a = g.says w num r sp sc in
              let b = sofar_next a.1 h ds p in
              none_some (sym (d.to w num r (subst (λ (l : List ℕ). Spelling w num (length l)) (sym g.cells) sp) (subst (λ (l : List ℕ). Scope l [] 0) (sym g.cells) sc)) ∙ b.2));
        }

    pub going_three : i < length L → Defines L B₁ S₁ Q₁ D O₁ i k B₂ S₂ Q₂ O₂ Three → Bodies L B S Q D O O₂ Three
    going_three h d =
        record {
          to = λ w num ds r sp sc p.
              (let a = g.says w num r sp sc in
              let b = sofar_next a.1 h ds p in
              let c = sofar_at a.1 b.0 b.1 b.2 ds p in
              subst (λ (l : List Definition). In 3 (flat (definition_faults (heads w D)) l)) (sym c.1) (in_flat (definition_faults (heads w D)) 3 a.0 b.0 c.0 (d.to w num r (subst (λ (l : List ℕ). Spelling w num (length l)) (sym g.cells) sp) (subst (λ (l : List ℕ). Scope l [] 0) (sym g.cells) sc) b.0 b.1 b.2)));
        }

    module _ {at o q m : ℕ} (d : Defines L B₁ S₁ Q₁ D O₁ i k B₂ S₂ Q₂ O₂ (Done at o q m)) where
      pub going_less : length L - at < length L - i
      going_less = omega (arith, d.to.forward, d.to.inside)

      pub going_more : (n : ℕ) → Lower f m n → Going L B S Q D O B₂ S₂ Q₂ O₂ at o n
      going_more n l =
          record {
            inside = d.to.inside;
            few = omega (arith, d.to.few, g.few);
            out = d.to.out;
            long_o = d.to.long_o ∙ g.long_o;
            cells = d.to.cells ∙ g.cells;
            long_s = d.to.long_s ∙ g.long_s;
            long_q = d.to.long_q ∙ g.long_q;
            says = λ w num r sp sc.
                (let a = g.says w num r sp sc in
                let b = d.to.says w num r (subst (λ (l : List ℕ). Spelling w num (length l)) (sym g.cells) sp) (subst (λ (l : List ℕ). Scope l [] 0) (sym g.cells) sc) in (
                  a.0 ++ (b.0 ∷ []),
                  sofar_more a.1 b.0 at b.1,
                  subst (Lowest n) (sym (flat_more (definition_faults (heads w D)) a.0 b.0)) (lowest_both f m n (flat (definition_faults (heads w D)) a.0) (definition_faults (heads w D) b.0) a.2 b.2 l),
                  wrote_same (words_more num a.0 b.0) (wrote_then a.3 b.3),
                ));
          }

  pub going_all : length L ≤ i → Bodies L B S Q D O O₁ (Done i k 0 f)
  going_all h =
      record {
        to = (
          g.out,
          λ w num ds r sp sc p.
              (let a = g.says w num r sp sc in
              let e = sofar_all a.1 h ds p in
              (subst (λ (l : List Definition). Lowest f (flat (definition_faults (heads w D)) l)) (sym e) a.2, subst (λ (l : List Definition). Wrote O 0 O₁ k (definitions_words num l)) (sym e) a.3)),
        );
      }

-- the answer by its equation
pub defines : {L B S Q D : List ℕ} {O : List Word} {at k : ℕ} {B' S' Q' : List ℕ} {O' : List Word} {r : Read} → Defines L B S Q D O at k B' S' Q' O' r → (t : Read) → r ≡ t → Defines L B S Q D O at k B' S' Q' O' t
defines {L} {B} {S} {Q} {D} {O} {at} {k} {B'} {S'} {Q'} {O'} d t e = subst (Defines L B S Q D O at k B' S' Q' O') e d
