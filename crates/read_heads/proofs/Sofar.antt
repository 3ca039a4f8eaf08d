-- Definitions one after another: those before a position, and those from it on. Assumes nothing.
use mathlib.Core.Path.{◌≡◌, refl, ap, sym, ◌∙◌, subst}
use mathlib.Core.Logic.{◌⊎◌, inl, inr}
use mathlib.Core.List.{List, [], ◌∷◌, ◌++◌, append_assoc, append-nil}
use mathlib.Core.Option.{Option, some, none, some-injective}
use Prim.Native.Nat.{ℕ, suc, ◌+◌, ◌≤◌, ◌<◌}
use native.Mathlib.Omega.{arith}
use lib.ListN.{length}
use Rattle.constraint.proofs.Lists.{none_some}
use Rattle.constraint.specs.Constraint.{In}
use Rattle.akl.specs.Base.{Name, ◌>>=◌}
use Rattle.akl.specs.Token.{Token}
use Rattle.akl.specs.Grammar.{Definition}
use Rattle.akl.specs.Parse.{Read, parse_program}
use Rattle.descent.specs.Descent.{the_definition}
use Rattle.descent.proofs.Whole.{program_empty, program_more, program_none}
use Rattle.read_phrases.specs.Codes.{toks, toks_none, toks_some}
use Rattle.read_pieces.proofs.Simples.{read_first}

abbrev NotEmpty : List Token → Type 0
NotEmpty [] = ⊥
NotEmpty (t ∷ ts) = Unit {0}

-- a program that begins with `done` goes on at i
pub record Sofar (w : ℕ → Name) (L : List ℕ) (i : ℕ) (done : List Definition) : Type 0 where
  pub left : (ds : List Definition) → parse_program (toks w L 0) ≡ some ds → (rest : List Definition) × (ds ≡ done ++ rest) × (parse_program (toks w L i) ≡ some rest)

pub sofar_start : (w : ℕ → Name) (L : List ℕ) → Sofar w L 0 []
sofar_start w L = record { left = λ ds e. (ds, refl, e) }

module _ {w : ℕ → Name} {L : List ℕ} {i : ℕ} {done : List Definition} (so : Sofar w L i done) where
  -- the definition at i is the next one
  pub sofar_at : (d : Definition) (us : List Token) → the_definition (toks w L i) ≡ some (d, us) → (ds : List Definition) → parse_program (toks w L 0) ≡ some ds → (rest : List Definition) × (ds ≡ done ++ (d ∷ rest)) × (parse_program us ≡ some rest)
  sofar_at d us e ds p =
      let a = so.left ds p in
      let b = read_first (parse_program us) (λ r. some (d ∷ r)) a.0 (sym (program_more (toks w L i) us d e) ∙ a.2) in
      (b.0, a.1 ∙ ap (λ (l : List Definition). done ++ l) (sym (some-injective (d ∷ b.0) a.0 b.2)), b.1)

  pub sofar_more : (d : Definition) (j : ℕ) → the_definition (toks w L i) ≡ some (d, toks w L j) → Sofar w L j (done ++ (d ∷ []))
  sofar_more d j e = record { left = λ ds p. (let a = sofar_at d (toks w L j) e ds p in (a.0, a.1 ∙ sym (append_assoc done (d ∷ []) a.0), a.2)) }

  -- at the end there are no more
  pub sofar_all : length L ≤ i → (ds : List Definition) → parse_program (toks w L 0) ≡ some ds → ds ≡ done
  sofar_all h ds p =
      let a = so.left ds p in
      let e : [] ≡ a.0 = some-injective [] a.0 (sym program_empty ∙ ap parse_program (sym (toks_none w L i h)) ∙ a.2) in
      a.1 ∙ ap (λ (l : List Definition). done ++ l) (sym e) ∙ append-nil done

  -- before it there is one
  pub sofar_next : i < length L → (ds : List Definition) → parse_program (toks w L 0) ≡ some ds → (d : Definition) × (us : List Token) × (the_definition (toks w L i) ≡ some (d, us))
  sofar_next h ds p = go (the_definition (toks w L i)) refl
    where
      go : (o : Read Definition) → the_definition (toks w L i) ≡ o → (d : Definition) × (us : List Token) × (the_definition (toks w L i) ≡ some (d, us))
      go none e = absurd (none_some (sym (program_none (toks w L i) (subst NotEmpty (sym (toks_some w L i h).1) tt) e) ∙ (so.left ds p).2))
      go (some (d, us)) e = (d, us, e)
