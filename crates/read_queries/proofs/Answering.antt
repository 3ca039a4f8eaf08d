-- What a query's bytes come to, by the answers of the functions on its text and on its tokens. Assumes nothing.
use mathlib.Core.Path.{◌≡◌, refl, ap, ap₂, sym, ◌∙◌, subst}
use mathlib.Core.Logic.{◌⊎◌, inl, inr}
use mathlib.Core.Bool.{true}
use mathlib.Core.List.{List, [], ◌∷◌, ◌++◌, map}
use mathlib.Core.Option.{Option, some, none}
use Prim.Native.Nat.{ℕ, zero, suc, ◌+◌, ◌*◌, ◌/◌, ◌%◌, ◌≤◌, ◌<◌}
use native.Mathlib.Nat.{not-suc-le-zero, le_of_suc-le-suc}
use native.Mathlib.Omega.{arith}
use lib.Dec.{ltb}
use lib.ListN.{length, get_or, take}
use lib.Seq.{length-take-le, get_or-take}
use Rattle.constraint.specs.Constraint.{In}
use Rattle.akl.specs.Base.{Name, size, least, ◌>>=◌, Result, refused, ok}
use Rattle.akl.specs.Limits.{query_bytes, most_query_variables}
use Rattle.akl.specs.Syntax.{Program}
use Rattle.akl.specs.Token.{Token, tokens}
use Rattle.akl.specs.Parse.{parse_query}
use Rattle.akl.specs.Reader.{Query, fault, statement_faults, query_faults, query_variables, statement_of, read_query}
use Rattle.mem_numbers.specs.Numbers.{shorts, triples, length_shorts, length_triples}
use Rattle.mem_numbers.specs.Prefix.{triples_prefix}
use Rattle.mem_words.specs.declared.Word.{Word}
use Rattle.read_nodes.specs.Spell.{named}
use Rattle.read_nodes.specs.Trie.{Grown}
use Rattle.read_trie.specs.Names.{named_kept}
use Rattle.read_phrases.specs.Codes.{Known, number_at, toks}
use Rattle.read_phrases.specs.Phrases.{Reserved}
use Rattle.read_pieces.specs.Reads.{Spelling, around, heads}
use Rattle.read_texts.specs.declared.Readable.{Readable}
use Rattle.read_texts.specs.declared.Readable.TheVariants.{Yes, Long, Odd, Short}
use Rattle.read_texts.specs.Texts.{Answered}
use Rattle.read_lexicon.specs.Lexicon.{Lexicon}
use Rattle.read_texts.proofs.Refusals.{query_long, query_odd, query_accepted}
use Rattle.refusals.specs.declared.Refusal.TheVariants.{TooLong, NotOfGrammar}
use Rattle.refusals.specs.Refusals.{number_of}
use Rattle.read_queries.specs.declared.Queried.{Queried}
use Rattle.read_queries.specs.declared.Queried.TheVariants as queried
use Rattle.read_queries.specs.Checks.{CanCheck, CheckedTo}
use Rattle.read_queries.specs.Queries.{CanQuery, Heads, QueryTo, Ample}
use Rattle.read_wholes.proofs.Spelled.{numbered}
use Rattle.read_wholes.proofs.Tables.{heads_same, Lent, lent_known, lent_ids, lent_cells, lent_few, lent_short, lent_reserved, lent_parses, lent_spelling, lent_numbers}

-- ---------------------------------------------------------------------------------------------
-- A text that is no query, or for which the tables are too short.

module _ {text K N H S T K' N' H' S' : List ℕ} {n : ℕ} {D : List ℕ} {O : List Word} {B Z Q : List ℕ} {O' : List Word} {Q' : List ℕ} where
  pub query_too_long : Answered query_bytes parse_query text K N H S n T K' N' H' S' Long → QueryTo text K N H S T n D O B Z Q N' H' S' O' Q' (queried.Refused TooLong)
  query_too_long a = record { kept = a.kept; answer = λ P h. query_long P text a.answer }

  pub query_not : Answered query_bytes parse_query text K N H S n T K' N' H' S' Odd → QueryTo text K N H S T n D O B Z Q N' H' S' O' Q' (queried.Refused NotOfGrammar)
  query_not a = record { kept = a.kept; answer = λ P h. query_odd P text a.answer.0 a.answer.1 }

  pub query_cramped : Answered query_bytes parse_query text K N H S n T K' N' H' S' Short → QueryTo text K N H S T n D O B Z Q N' H' S' O' Q' queried.Short
  query_cramped a = record { kept = a.kept; answer = (a.answer.0, λ m. a.answer.1 m.codes m.stack m.nodes) }

  module _ {k m : ℕ} (a : Answered query_bytes parse_query text K N H S n T K' N' H' S' (Yes k m)) where
    pub query_few_binds : length B < m → QueryTo text K N H S T n D O B Z Q N' H' S' O' Q' queried.Short
    query_few_binds h = record { kept = a.kept; answer = (a.answer.fits, λ p. omega (arith, p.binds, a.answer.entries.table.few)) }

    pub query_few_order : length Q < 16 → QueryTo text K N H S T n D O B Z Q N' H' S' O' Q' queried.Short
    query_few_order h = record { kept = a.kept; answer = (a.answer.fits, λ p. omega (arith, p.order)) }

module _ {text K N H S T K' N' H' S' : List ℕ} {n k m : ℕ} {D L B₁ : List ℕ} (X : CanQuery N H S n D) (a : Answered query_bytes parse_query text K N H S n T K' N' H' S' (Yes k m)) (l : Lent K' k m L B₁) where
  pub query_can : {Q : List ℕ} → 16 ≤ length Q → CanCheck L B₁ Q D
  query_can h =
      record {
        known = lent_known a l;
        ids = lent_ids a l;
        cells = lent_cells a l;
        few = omega (arith, lent_few a l);
        order = h;
        heads = λ c i. omega (arith, X.heads c i, a.answer.entries.table.grown.more, l.binds);
      }

  -- the definitions of the program
  defined : (P : Program) → Heads N D P → heads (named N') D ≡ map (λ d. (d.name, d.arity)) P
  defined P h = heads_same D (named N') (named N) (λ c i. named_kept X.lexicon.trie a.answer.entries.table.grown (c / 256) (X.heads c i)) ∙ h

  read_as : (P : Program) → Heads N D P → (o : Option ℕ) → least (fault 3 (ltb most_query_variables (size (query_variables a.answer.tree))) ++ statement_faults a.answer.tree (around true (heads (named N') D) [] 0)) ≡ o → read_query P text ≡ elim o [ none ↦ ok (record { variables = query_variables a.answer.tree; statement = statement_of a.answer.tree (query_variables a.answer.tree) [] }) | some i ↦ refused i ]
  unfolding query_faults
  read_as P h o e =
      let t = a.answer.tree in
      query_accepted P k m a
      ∙ ap (λ (o : Option ℕ). elim o as (λ z. Result Query) [ none ↦ ok (record { variables = query_variables t; statement = statement_of t (query_variables t) [] }) | some i ↦ refused i ])
      (ap (λ (hs : List (Name × ℕ)). least (fault 3 (ltb most_query_variables (size (query_variables t))) ++ statement_faults t (around true hs [] 0))) (sym (defined P h)) ∙ e)

  -- the answer on the tokens is the answer on the text
  pub query_through : {O : List Word} {B Z Q : List ℕ} {O' : List Word} {Q' : List ℕ} (r : Queried) → CheckedTo L B₁ Z Q D O m Q' O' r → QueryTo text K N H S T n D O B Z Q N' H' S' O' Q' r
  query_through (queried.Read v j i) x =
      let t = a.answer.tree in
      record {
        kept = a.kept;
        answer =
            record {
              lexicon = subst (Lexicon N' H' S') (sym x.answer.0) a.answer.entries.lexicon;
              grown = subst (Grown N n N') (sym x.answer.0) a.answer.entries.table.grown;
              nodes = omega (arith, x.answer.0, a.answer.entries.table.few);
              few = x.answer.1;
              inside = x.answer.2;
              used = λ g h. omega (arith, x.answer.4 g h, l.binds, x.answer.0);
              says = λ P h. (
                record { variables = query_variables t; statement = statement_of t (query_variables t) [] },
                read_as P h none (x.answer.3 (named N') (numbered (named N') m) t (lent_reserved a l) (lent_numbers a l) (lent_parses a l)).none_due,
                record {
                  variables = (x.answer.3 (named N') (numbered (named N') m) t (lent_reserved a l) (lent_numbers a l) (lent_parses a l)).variables;
                  words = λ num s. (x.answer.3 (named N') num t (lent_reserved a l) (lent_spelling a l num (subst (Spelling (named N') num) x.answer.0 s)) (lent_parses a l)).words;
                },
              );
            };
      }
  query_through (queried.Refused r) x =
      record { kept = a.kept; answer = λ P h. read_as P h (some (number_of r)) (x.answer (named N') (numbered (named N') m) a.answer.tree (lent_reserved a l) (lent_numbers a l) (lent_parses a l)) }
  query_through {O} {B} {Z} {Q} queried.Short x = record { kept = a.kept; answer = (a.answer.fits, λ p. go p x.answer) }
    where
      go : Ample text K N H S T n O B Z Q → (length O < 4 * length L + 8) ⊎ (length Z < length L) → ⊥
      go p (inl h) = omega (arith, p.words, lent_short a l)
      go p (inr h) = omega (arith, p.saves, lent_short a l)
