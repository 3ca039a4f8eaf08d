-- What a program's bytes come to, by the answers of the functions on its text and on its tokens. Assumes nothing.
use mathlib.Core.Path.{◌≡◌, refl, ap, sym, ◌∙◌, subst}
use mathlib.Core.Logic.{◌⊎◌, inl, inr}
use mathlib.Core.List.{List, [], ◌∷◌, map}
use mathlib.Core.Option.{Option, some, none}
use Prim.Native.Nat.{ℕ, ◌+◌, ◌*◌, ◌/◌, ◌≤◌, ◌<◌}
use native.Mathlib.Omega.{arith}
use lib.ListN.{length, take}
use Rattle.constraint.specs.Constraint.{In}
use Rattle.akl.specs.Base.{Name, size, least, Result, refused, ok}
use Rattle.akl.specs.Limits.{program_bytes}
use Rattle.akl.specs.Syntax.{Program}
use Rattle.akl.specs.Grammar.{Definition}
use Rattle.akl.specs.Parse.{parse_program}
use Rattle.akl.specs.Reader.{program_faults, definition_of, read_program}
use Rattle.akl.specs.Reader as akl
use Rattle.mem_words.specs.declared.Word.{Word}
use Rattle.read_nodes.specs.Spell.{named}
use Rattle.read_nodes.specs.Trie.{Grown}
use Rattle.read_lexed.specs.Table.{table_spare}
use Rattle.read_pieces.specs.Reads.{Spelling, heads}
use Rattle.read_texts.specs.declared.Readable.TheVariants.{Yes, Long, Odd, Short}
use Rattle.read_texts.specs.Texts.{Answered}
use Rattle.read_lexicon.specs.Lexicon.{Lexicon}
use Rattle.read_texts.proofs.Refusals.{program_long, program_odd, program_accepted}
use Rattle.refusals.specs.declared.Refusal.TheVariants.{TooLong, NotOfGrammar}
use Rattle.refusals.specs.Refusals.{number_of}
use Rattle.read_wholes.proofs.Spelled.{numbered}
use Rattle.read_wholes.proofs.Tables.{Lent, lent_known, lent_ids, lent_cells, lent_few, lent_short, lent_reserved, lent_parses, lent_spelling, lent_numbers}
use Rattle.read_programs.specs.declared.Programmed.{Programmed}
use Rattle.read_programs.specs.declared.Programmed.TheVariants as programmed
use Rattle.read_programs.specs.Checks.{CanCheck, CheckedTo}
use Rattle.read_programs.specs.Programs.{ProgramTo, Ample}

-- ---------------------------------------------------------------------------------------------
-- A text that is no program, or for which the tables are too short.

module _ {text K N H S T K' N' H' S' : List ℕ} {n : ℕ} {D : List ℕ} {O : List Word} {B Z Q D' : List ℕ} {O' : List Word} where
  pub program_too_long : Answered program_bytes parse_program text K N H S n T K' N' H' S' Long → ProgramTo text K N H S T n D O B Z Q N' H' S' D' O' (programmed.Refused TooLong)
  program_too_long a = record { kept = a.kept; answer = program_long text a.answer }

  pub program_not : Answered program_bytes parse_program text K N H S n T K' N' H' S' Odd → ProgramTo text K N H S T n D O B Z Q N' H' S' D' O' (programmed.Refused NotOfGrammar)
  program_not a = record { kept = a.kept; answer = program_odd text a.answer.0 a.answer.1 }

  pub program_cramped : Answered program_bytes parse_program text K N H S n T K' N' H' S' Short → ProgramTo text K N H S T n D O B Z Q N' H' S' D' O' programmed.Short
  program_cramped a = record { kept = a.kept; answer = (a.answer.0, λ m. a.answer.1 m.codes m.stack m.nodes) }

  module _ {k m : ℕ} (a : Answered program_bytes parse_program text K N H S n T K' N' H' S' (Yes k m)) where
    pub program_few_binds : length B < m → ProgramTo text K N H S T n D O B Z Q N' H' S' D' O' programmed.Short
    program_few_binds h = record { kept = a.kept; answer = (a.answer.fits, λ p. omega (arith, p.binds, a.answer.entries.table.few)) }

    pub program_few_order : length Q < 16 → ProgramTo text K N H S T n D O B Z Q N' H' S' D' O' programmed.Short
    program_few_order h = record { kept = a.kept; answer = (a.answer.fits, λ p. omega (arith, p.order)) }

-- ---------------------------------------------------------------------------------------------
-- A program, by its tokens.

-- names and arities of definitions are their heads
heads_of : (ds : List Definition) → akl.heads ds ≡ map (λ d. (d.name, d.arity)) (map definition_of ds)
heads_of [] = refl
heads_of (d ∷ ds) = ap (λ (l : List (Name × ℕ)). (d.head, size d.parameters) ∷ l) (heads_of ds)

module _ {text K N H S T K' N' H' S' : List ℕ} {n k m : ℕ} {L B₁ : List ℕ} (a : Answered program_bytes parse_program text K N H S n T K' N' H' S' (Yes k m)) (l : Lent K' k m L B₁) where
  pub program_can : {Q : List ℕ} → 16 ≤ length Q → CanCheck L B₁ Q
  program_can h = record { known = lent_known a l; ids = lent_ids a l; cells = lent_cells a l; few = omega (arith, lent_few a l); order = h }

  read_as : (o : Option ℕ) → least (program_faults a.answer.tree) ≡ o → read_program text ≡ elim o as (λ z. Result Program) [ none ↦ ok (map definition_of a.answer.tree) | some i ↦ refused i ]
  read_as o e = program_accepted k m a ∙ ap (λ (o : Option ℕ). elim o as (λ z. Result Program) [ none ↦ ok (map definition_of a.answer.tree) | some i ↦ refused i ]) e

  -- the answer on the tokens is the answer on the text; T₁ is the stack that the grammar was decided with
  pub program_through : {D : List ℕ} {O : List Word} {B Z Q D' : List ℕ} {O' : List Word} (T₁ : List ℕ) (r : Programmed) → length T₁ ≡ length T → CheckedTo L T₁ D B₁ Z O m D' O' r → ProgramTo text K N H S T n D O B Z Q N' H' S' D' O' r
  program_through {D} {O} {B} {Z} {Q} {D'} T₁ (programmed.Read d j i) t x =
      let ds = a.answer.tree in
      let e = x.answer.0 in
      let f = x.answer.4 (named N') (numbered (named N') m) ds (lent_reserved a l) (lent_numbers a l) (lent_parses a l) in
      record {
        kept = a.kept;
        answer =
            record {
              lexicon = subst (Lexicon N' H' S') (sym e) a.answer.entries.lexicon;
              grown = subst (Grown N n N') (sym e) a.answer.entries.table.grown;
              few = omega (arith, e, a.answer.entries.table.few);
              spare = λ ts h. omega (arith, e, table_spare a.answer.entries.table ts h);
              inside = x.answer.2;
              room = x.answer.1;
              numbers = λ c h. omega (arith, x.answer.3 c h, l.binds, e);
              program = map definition_of ds;
              reads = read_as none f.none_due;
              says =
                  record {
                    heads = sym f.heads ∙ heads_of ds;
                    words = λ num s. (x.answer.4 (named N') num ds (lent_reserved a l) (lent_spelling a l num (subst (Spelling (named N') num) e s)) (lent_parses a l)).words;
                  };
            };
      }
  program_through T₁ (programmed.Refused r) t x =
      record { kept = a.kept; answer = read_as (some (number_of r)) (x.answer (named N') (numbered (named N') m) a.answer.tree (lent_reserved a l) (lent_numbers a l) (lent_parses a l)) }
  program_through {D} {O} {B} {Z} {Q} T₁ programmed.Short t x = record { kept = a.kept; answer = (a.answer.fits, λ p. go p x.answer) }
    where
      go : Ample text K N H S T n D O B Z Q → (length T₁ < length L) ⊎ (length D < 128) ⊎ (length O < 4 * length L + 8) ⊎ (length Z < length L) → ⊥
      go p (inl h) = omega (arith, p.stack, t, lent_short a l)
      go p (inr (inl h)) = omega (arith, p.heads)
      go p (inr (inr (inl h))) = omega (arith, p.words, lent_short a l)
      go p (inr (inr (inr h))) = omega (arith, p.saves, lent_short a l)
