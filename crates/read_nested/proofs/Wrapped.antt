-- The laws of pieces as the functions' answers.
use mathlib.Core.Path.{◌≡◌, refl, ap, sym, ◌∙◌, subst}
use mathlib.Core.List.{List}
use mathlib.Core.Bool.{Bool, true, false}
use Prim.Native.Nat.{ℕ, ◌+◌, ◌≤◌, ◌<◌}
use native.Mathlib.Omega.{arith}
use lib.ListN.{length}
use Rattle.mem_numbers.specs.Stored.{Stored}
use Rattle.mem_words.specs.declared.Word.{Word}
use Rattle.mem_words.specs.declared.Word.TheVariants.{End, Inner, Bad}
use Rattle.mem_sorts.specs.declared.Sort.TheVariants.{Comp}
use Rattle.read_phrases.specs.Codes.{kind_at, op_of}
use Rattle.read_phrases.specs.Phrases.{SimpleAt}
use Rattle.read_phrases.specs.declared.Simple.{Simple}
use Rattle.read_phrases.specs.declared.Simple.TheVariants.{Bracket, Odd as NoSimple}
use Rattle.read_emits.specs.TheirContracts.{Emits, NoRoom, EndsTo}
use Rattle.read_emits.specs.declared.Emitted.{Emitted}
use Rattle.read_emits.specs.declared.Emitted.TheVariants as emitted
use Rattle.read_pieces.specs.Worst.{Lower}
use Rattle.read_pieces.specs.Reads.{Piece, a_statement, a_simple, a_bracket, a_clause, some_others, CanRead, ReadTo, Finished}
use Rattle.read_pieces.specs.declared.Read.{Read}
use Rattle.read_pieces.specs.declared.Read.TheVariants.{Done, Three, Odd, Full}
use Rattle.read_pieces.proofs.Statements.{Joining, joining_start, joining_can, joining_comma, joining_ended, joining_short, joining_odd, joining_full, joining_three, joining_no_slot}
use Rattle.read_pieces.proofs.Simples.{simple_done, simple_unclosed, simple_odd, simple_full, simple_deep, simple_three}
use Rattle.read_pieces.proofs.Others.{Adding, adding_start, adding_ended, adding_can, adding_more, adding_odd, adding_full, adding_three}
use Rattle.read_nested.specs.Answers.{Answer}

-- an answer that is known
pub as_done : {p : Piece} {query : Bool} {L B S Q D : List ℕ} {O : List Word} {at k q level depth : ℕ} {B' S' Q' : List ℕ} {O' : List Word} {r : Read} {a k' q' f : ℕ} → Answer p query L B S Q D O at k q level depth B' S' Q' O' r → r ≡ Done a k' q' f → Finished p query L B S Q D O at k q level depth B' S' Q' O' a k' q' f
as_done {p} {query} {L} {B} {S} {Q} {D} {O} {at} {k} {q} {level} {depth} {B'} {S'} {Q'} {O'} h e = subst (ReadTo p query L B S Q D O at k q level depth B' S' Q' O') e h.to

pub as_known : {p : Piece} {query : Bool} {L B S Q D : List ℕ} {O : List Word} {at k q level depth : ℕ} {B' S' Q' : List ℕ} {O' : List Word} {r : Read} (r' : Read) → Answer p query L B S Q D O at k q level depth B' S' Q' O' r → r ≡ r' → ReadTo p query L B S Q D O at k q level depth B' S' Q' O' r'
as_known {p} {query} {L} {B} {S} {Q} {D} {O} {at} {k} {q} {level} {depth} {B'} {S'} {Q'} {O'} r' h e = subst (ReadTo p query L B S Q D O at k q level depth B' S' Q' O') e h.to

-- ---------------------------------------------------------------------------------------------
-- Statements.

module _ {query : Bool} {L B S Q D : List ℕ} {O : List Word} {at k q level depth : ℕ} {B₁ S₁ Q₁ : List ℕ} {O₁ : List Word} {i j p f c : ℕ} (J : Joining query L B S Q D O at k q level depth B₁ S₁ Q₁ O₁ i j p f c) where
  pub st_no_slot : {O₂ : List Word} → NoRoom O₁ j O₂ → Answer a_statement query L B S Q D O at k q level depth B₁ S₁ Q₁ O₂ Full
  st_no_slot {O₂} n = record { to = joining_no_slot query L B S Q D O at k q level depth B₁ S₁ Q₁ O₁ O₂ i j p f c J n }

  module _ {O₂ : List Word} (slot : Emits O₁ j Bad O₂) where
    pub st_can : CanRead L B S Q D O at k q level → CanRead L B₁ S₁ Q₁ D O₂ i (j + 1) p level
    st_can can = joining_can query L B S Q D O at k q level depth B₁ S₁ Q₁ O₁ O₂ i j p f c can J slot

    module _ {B₂ S₂ Q₂ : List ℕ} {O₃ : List Word} {r : Read} (ans : Answer a_simple query L B₁ S₁ Q₁ D O₂ i (j + 1) p level depth B₂ S₂ Q₂ O₃ r) where
      pub st_three : r ≡ Three → Answer a_statement query L B S Q D O at k q level depth B₂ S₂ Q₂ O₃ Three
      st_three e = record { to = joining_three query L B S Q D O at k q level depth B₁ S₁ Q₁ O₁ O₂ i j p f c J slot B₂ S₂ Q₂ O₃ (as_known Three ans e) }

      pub st_odd : r ≡ Odd → Answer a_statement query L B S Q D O at k q level depth B₂ S₂ Q₂ O₃ Odd
      st_odd e = record { to = joining_odd query L B S Q D O at k q level depth B₁ S₁ Q₁ O₁ O₂ i j p f c J slot B₂ S₂ Q₂ O₃ (as_known Odd ans e) }

      pub st_full : r ≡ Full → Answer a_statement query L B S Q D O at k q level depth B₂ S₂ Q₂ O₃ Full
      st_full e = record { to = joining_full query L B S Q D O at k q level depth B₁ S₁ Q₁ O₁ O₂ i j p f c J slot B₂ S₂ Q₂ O₃ (as_known Full ans e) }

      module _ {a j₂ p₂ f₂ : ℕ} (e : r ≡ Done a j₂ p₂ f₂) where
        pub st_finished : Finished a_simple query L B₁ S₁ Q₁ D O₂ i (j + 1) p level depth B₂ S₂ Q₂ O₃ a j₂ p₂ f₂
        st_finished = as_done ans e

        module _ {low : ℕ} (l : Lower f f₂ low) where
          pub st_comma : {O₄ : List Word} → kind_at L a ≡ 5 → Stored O₃ j (Inner Comp) O₄ → Joining query L B S Q D O at k q level depth B₂ S₂ Q₂ O₄ (a + 1) j₂ p₂ low (c + 1)
          st_comma {O₄} h st = joining_comma query L B S Q D O at k q level depth B₁ S₁ Q₁ O₁ O₂ i j p f c J slot B₂ S₂ Q₂ O₃ a j₂ p₂ f₂ low (as_done ans e) l O₄ h st

          pub st_ended : (O₅ : List Word) (u : Emitted) (j₃ : ℕ) → (kind_at L a ≡ 5 → ⊥) → EndsTo O₃ j₂ c O₅ u → u ≡ emitted.To j₃ → Answer a_statement query L B S Q D O at k q level depth B₂ S₂ Q₂ O₅ (Done a j₃ p₂ low)
          st_ended O₅ u j₃ h en x = record { to = joining_ended query L B S Q D O at k q level depth B₁ S₁ Q₁ O₁ O₂ i j p f c J slot B₂ S₂ Q₂ O₃ a j₂ p₂ f₂ low (as_done ans e) l O₅ j₃ h (subst (EndsTo O₃ j₂ c O₅) x en) }

          pub st_short : (O₅ : List Word) (u : Emitted) → EndsTo O₃ j₂ c O₅ u → u ≡ emitted.Full → Answer a_statement query L B S Q D O at k q level depth B₂ S₂ Q₂ O₅ Full
          st_short O₅ u en x = record { to = joining_short query L B S Q D O at k q level depth B₁ S₁ Q₁ O₁ O₂ i j p f c J slot B₂ S₂ Q₂ O₃ a j₂ p₂ f₂ low (as_done ans e) l O₅ (subst (EndsTo O₃ j₂ c O₅) x en) }

-- ---------------------------------------------------------------------------------------------
-- Simple statements that are brackets.

module _ (query : Bool) (L B S Q D : List ℕ) (O : List Word) (at k q level depth : ℕ) (s : Simple) (inside : ℕ) (sa : SimpleAt L at s) (is : s ≡ Bracket inside) where
  op : SimpleAt L at (Bracket inside)
  op = subst (SimpleAt L at) is sa

  pub si_can : CanRead L B S Q D O at k q level → CanRead L B S Q D O inside k q level
  si_can can = (let a = op.0 in let e = op.1 in record { known = can.known; ids = can.ids; cells = can.cells; few = can.few; before = omega (arith, can.before); inside = omega arith; order = can.order; most = can.most; used = can.used; out = can.out; heads = can.heads })

  pub si_deep : 32 ≤ depth → Answer a_simple query L B S Q D O at k q level depth B S Q O Three
  si_deep h = record { to = simple_deep query L B S Q D O at k q level depth inside op B S Q O h }

  module _ {B' S' Q' : List ℕ} {O' : List Word} {r : Read} (shallow : depth < 32) (ans : Answer a_bracket query L B S Q D O inside k q level (depth + 1) B' S' Q' O' r) where
    pub si_three : r ≡ Three → Answer a_simple query L B S Q D O at k q level depth B' S' Q' O' Three
    si_three e = record { to = simple_three query L B S Q D O at k q level depth inside op B' S' Q' O' shallow (as_known Three ans e) }

    pub si_odd : r ≡ Odd → Answer a_simple query L B S Q D O at k q level depth B' S' Q' O' Odd
    si_odd e = record { to = simple_odd query L B S Q D O at k q level depth inside op B' S' Q' O' (as_known Odd ans e) }

    pub si_full : r ≡ Full → Answer a_simple query L B S Q D O at k q level depth B' S' Q' O' Full
    si_full e = record { to = simple_full query L B S Q D O at k q level depth inside op B' S' Q' O' (as_known Full ans e) }

    pub si_done : {a k' q' f : ℕ} → r ≡ Done a k' q' f → kind_at L a ≡ 4 → Answer a_simple query L B S Q D O at k q level depth B' S' Q' O' (Done (a + 1) k' q' f)
    si_done {a} {k'} {q'} {f} e h = record { to = simple_done query L B S Q D O at k q level depth inside op B' S' Q' O' a k' q' f shallow (as_done ans e) h }

    pub si_unclosed : {a k' q' f : ℕ} → r ≡ Done a k' q' f → (kind_at L a ≡ 4 → ⊥) → Answer a_simple query L B S Q D O at k q level depth B' S' Q' O' Odd
    si_unclosed {a} {k'} {q'} {f} e h = record { to = simple_unclosed query L B S Q D O at k q level depth inside op B' S' Q' O' a k' q' f (as_done ans e) h }

pub si_none : (query : Bool) (L B S Q D : List ℕ) (O : List Word) (at k q level depth : ℕ) (s : Simple) → SimpleAt L at s → s ≡ NoSimple → Answer a_simple query L B S Q D O at k q level depth B S Q O Odd
si_none query L B S Q D O at k q level depth s sa e = record { to = λ w num E v sp sc. subst (SimpleAt L at) e sa w v }

-- ---------------------------------------------------------------------------------------------
-- Other clauses.

module _ {query : Bool} {L B S Q D : List ℕ} {O : List Word} {at k q level depth : ℕ} {kind : ℕ} {B₁ S₁ Q₁ : List ℕ} {O₁ : List Word} {i j p f : ℕ} (J : Adding query L B S Q D O at k q level depth kind B₁ S₁ Q₁ O₁ i j p f) where
  pub ot_ended : (kind_at L i ≡ 10 → ⊥) → Answer (some_others (op_of kind)) query L B S Q D O at k q level depth B₁ S₁ Q₁ O₁ (Done i j p f)
  ot_ended h = record { to = adding_ended query L B S Q D O at k q level depth kind B₁ S₁ Q₁ O₁ i j p f J h }

  module _ (h : kind_at L i ≡ 10) where
    pub ot_can : CanRead L B S Q D O at k q level → CanRead L B₁ S₁ Q₁ D O₁ (i + 1) j p level
    ot_can can = adding_can query L B S Q D O at k q level depth kind B₁ S₁ Q₁ O₁ i j p f J h can

    module _ {B₂ S₂ Q₂ : List ℕ} {O₂ : List Word} {r : Read} (ans : Answer (a_clause (op_of kind)) query L B₁ S₁ Q₁ D O₁ (i + 1) j p level depth B₂ S₂ Q₂ O₂ r) where
      pub ot_three : r ≡ Three → Answer (some_others (op_of kind)) query L B S Q D O at k q level depth B₂ S₂ Q₂ O₂ Three
      ot_three e = record { to = adding_three query L B S Q D O at k q level depth kind B₁ S₁ Q₁ O₁ i j p f J h B₂ S₂ Q₂ O₂ (as_known Three ans e) }

      pub ot_odd : r ≡ Odd → Answer (some_others (op_of kind)) query L B S Q D O at k q level depth B₂ S₂ Q₂ O₂ Odd
      ot_odd e = record { to = adding_odd query L B S Q D O at k q level depth kind B₁ S₁ Q₁ O₁ i j p f J h B₂ S₂ Q₂ O₂ (as_known Odd ans e) }

      pub ot_full : r ≡ Full → Answer (some_others (op_of kind)) query L B S Q D O at k q level depth B₂ S₂ Q₂ O₂ Full
      ot_full e = record { to = adding_full query L B S Q D O at k q level depth kind B₁ S₁ Q₁ O₁ i j p f J h B₂ S₂ Q₂ O₂ (as_known Full ans e) }

      pub ot_finished : {a j₂ p₂ f₂ : ℕ} → r ≡ Done a j₂ p₂ f₂ → Finished (a_clause (op_of kind)) query L B₁ S₁ Q₁ D O₁ (i + 1) j p level depth B₂ S₂ Q₂ O₂ a j₂ p₂ f₂
      ot_finished e = as_done ans e

      pub ot_more : {a j₂ p₂ f₂ low : ℕ} → r ≡ Done a j₂ p₂ f₂ → Lower f f₂ low → Adding query L B S Q D O at k q level depth kind B₂ S₂ Q₂ O₂ a j₂ p₂ low
      ot_more {a} {j₂} {p₂} {f₂} {low} e l = adding_more query L B S Q D O at k q level depth kind B₁ S₁ Q₁ O₁ i j p f J h B₂ S₂ Q₂ O₂ a j₂ p₂ f₂ low (as_done ans e) l
