-- The program and the query together. The tables after the names were begun have the index 1, those after the program 2.
-- Assumes nothing.
use mathlib.Core.Path.{◌≡◌, refl, ap, sym, ◌∙◌, subst}
use mathlib.Core.Logic.{◌⊎◌, inl, inr}
use mathlib.Core.Bool.{Bool, true, false}
use mathlib.Core.List.{List, map}
use Prim.Native.Nat.{ℕ, ◌+◌, ◌*◌, ◌/◌, ◌≤◌, ◌<◌}
use native.Mathlib.Omega.{arith}
use lib.ListN.{length, take, replicate}
use lib.Seq.{length-take-le}
use Rattle.constraint.specs.Constraint.{In}
use Rattle.akl.specs.Base.{Name}
use Rattle.mem_numbers.specs.Numbers.{triples, shorts, length_triples, length_shorts}
use Rattle.mem_numbers.specs.Prefix.{triples_prefix}
use Rattle.mem_words.specs.declared.Word.{Word}
use Rattle.mem_words.specs.Words.{words, length_words}
use Rattle.read_nodes.specs.Spell.{named}
use Rattle.read_nodes.specs.Trie.{Trie, Grown, Roomy, Kept}
use Rattle.read_trie.specs.Names.{one_number, named_kept}
use Rattle.read_pieces.specs.Reads.{Spelling, heads}
use Rattle.read_lexicon.specs.Lexicon.{Lexicon, Begun}
use Rattle.refusals.specs.declared.Refusal.{Refusal}
use Rattle.read_wholes.proofs.Tables.{heads_same}
use Rattle.read_programs.specs.declared.Programmed.{Programmed}
use Rattle.read_programs.specs.declared.Programmed.TheVariants as programmed
use Rattle.read_programs.specs.Programs.{ProgramTo}
use Rattle.read_programs.specs.Programs as programs
use Rattle.read_queries.specs.declared.Queried.{Queried}
use Rattle.read_queries.specs.declared.Queried.TheVariants as queried
use Rattle.read_queries.specs.Queries.{CanQuery, QueryTo}
use Rattle.read_queries.specs.Queries as queries
use Rattle.read_inputs.specs.Inputs.{InputsTo, Loaded, Ample}
use Rattle.read_inputs.specs.declared.Inputs.{Inputs}
use Rattle.read_inputs.specs.declared.Inputs.TheVariants.{Read, Refused, Short}

-- ---------------------------------------------------------------------------------------------
-- Sizes that are kept.

roomy_less : {N H S : List ℕ} {m n : ℕ} → n ≤ m → Roomy N H S m → Roomy N H S n
roomy_less l r = record { cells = omega (arith, r.cells); heads = omega (arith, r.heads); nexts = omega (arith, r.nexts); count = omega (arith, r.count) }

roomy_kept : {N H S N' H' S' : List ℕ} {m : ℕ} → Kept N H S N' H' S' → Roomy N H S m → Roomy N' H' S' m
roomy_kept k r = record { cells = omega (arith, r.cells, k.cells); heads = omega (arith, r.heads, k.heads); nexts = omega (arith, r.nexts, k.nexts); count = r.count }

-- the tables of the query are as long as those that were lent
pub record Long (K T B Z Q : List ℕ) (K₂ T₂ B₂ Z₂ Q₂ : List ℕ) : Type 0 where
  pub codes : length K₂ ≡ length K
  pub stack : length T₂ ≡ length T
  pub binds : length B₂ ≡ length B
  pub saves : length Z₂ ≡ length Z
  pub order : length Q₂ ≡ length Q

pub long : (k t b z q k₂ t₂ b₂ z₂ q₂ : List ℕ) → length k₂ ≡ length k → length t₂ ≡ length t → length b₂ ≡ length b → length z₂ ≡ length z → length q₂ ≡ length q → Long (triples k) t (shorts b) (shorts z) (shorts q) (triples k₂) t₂ (shorts b₂) (shorts z₂) (shorts q₂)
long k t b z q k₂ t₂ b₂ z₂ q₂ ek et eb ez eq =
    record {
      codes = omega (arith, length_triples k, length_triples k₂);
      stack = et;
      binds = omega (arith, length_shorts b, length_shorts b₂);
      saves = omega (arith, length_shorts z, length_shorts z₂);
      order = omega (arith, length_shorts q, length_shorts q₂);
    }

-- ---------------------------------------------------------------------------------------------
-- The answers.

pub begun_yes : {N H S N₁ H₁ S₁ : List ℕ} (b : Bool) → Begun N H S N₁ H₁ S₁ b → b ≡ true → Lexicon N₁ H₁ S₁ 9
begun_yes true g e = g.begins
begun_yes false g e = absurd (let z : ◌≡◌ {A = ℕ} 0 1 = ap (λ (b : Bool). elim b as (λ v. ℕ) [ false ↦ 0 | true ↦ 1 ]) e in omega arith)

-- the program's definitions, as the query is read with them
module _ {text K N₁ H₁ S₁ T D : List ℕ} {R : List Word} {B Z Q N₂ H₂ S₂ D₂ : List ℕ} {R₂ : List Word} {d a m : ℕ} (p : ProgramTo text K N₁ H₁ S₁ T 9 D R B Z Q N₂ H₂ S₂ D₂ R₂ (programmed.Read d a m)) {D₃ : List ℕ} (lent : D₃ ≡ take d D₂) where
  pub query_can : CanQuery N₂ H₂ S₂ m D₃
  query_can = record { lexicon = p.answer.lexicon; heads = λ c i. p.answer.numbers c (subst (In c) lent i) }

  defined : queries.Heads N₂ D₃ p.answer.program
  defined = ap (heads (named N₂)) lent ∙ p.answer.says.heads

module _ {text query N D : List ℕ} {R : List Word} {Q : List ℕ} {G : List Word} {K H S T B Z : List ℕ} where
  pub begun_not : {N₁ H₁ S₁ : List ℕ} {N' D' : List ℕ} {R' : List Word} {Q' : List ℕ} {G' : List Word} (b : Bool) → Begun N H S N₁ H₁ S₁ b → b ≡ false → InputsTo text query N D R Q G K H S T B Z N' D' R' Q' G' Short
  begun_not false g e = record { answer = λ a. g.begins (roomy_less (omega arith) a.names) }
  begun_not true g e = absurd (let z : ◌≡◌ {A = ℕ} 1 0 = ap (λ (b : Bool). elim b as (λ v. ℕ) [ false ↦ 0 | true ↦ 1 ]) e in omega arith)

  module _ {N₁ H₁ S₁ : List ℕ} (kept : Kept N H S N₁ H₁ S₁) {N₂ H₂ S₂ D₂ : List ℕ} {R₂ : List Word} where
    pub program_refused : {N' D' : List ℕ} {R' : List Word} {Q' : List ℕ} {G' : List Word} (r : Refusal) → ProgramTo text K N₁ H₁ S₁ T 9 D R B Z Q N₂ H₂ S₂ D₂ R₂ (programmed.Refused r) → InputsTo text query N D R Q G K H S T B Z N' D' R' Q' G' (Refused r)
    program_refused r p = record { answer = inl p.answer }

    pub program_short : {N' D' : List ℕ} {R' : List Word} {Q' : List ℕ} {G' : List Word} → ProgramTo text K N₁ H₁ S₁ T 9 D R B Z Q N₂ H₂ S₂ D₂ R₂ programmed.Short → InputsTo text query N D R Q G K H S T B Z N' D' R' Q' G' Short
    program_short p =
        record {
          answer = λ a.
              p.answer.1
              (record {
                codes = a.codes.0;
                stack = a.stack.0;
                nodes = roomy_kept kept (roomy_less (omega arith) a.names);
                heads = a.heads;
                binds = omega (arith, a.binds);
                saves = a.saves.0;
                order = a.order;
                words = a.rules;
              });
        }

    module _ {d a m : ℕ} (p : ProgramTo text K N₁ H₁ S₁ T 9 D R B Z Q N₂ H₂ S₂ D₂ R₂ (programmed.Read d a m)) {D₃ : List ℕ} (lent : D₃ ≡ take d D₂) where
      module _ {K₂ T₂ B₂ Z₂ Q₂ : List ℕ} {N₃ H₃ S₃ : List ℕ} {G₃ : List Word} {Q₃ : List ℕ} where
        pub query_refused : (r : Refusal) → QueryTo query K₂ N₂ H₂ S₂ T₂ m D₃ G B₂ Z₂ Q₂ N₃ H₃ S₃ G₃ Q₃ (queried.Refused r) → InputsTo text query N D R Q G K H S T B Z N₃ D₂ R₂ Q₃ G₃ (Refused r)
        query_refused r q = record { answer = inr (p.answer.program, p.answer.reads, q.answer p.answer.program (defined p lent)) }

        pub query_short : Long K T B Z Q K₂ T₂ B₂ Z₂ Q₂ → QueryTo query K₂ N₂ H₂ S₂ T₂ m D₃ G B₂ Z₂ Q₂ N₃ H₃ S₃ G₃ Q₃ queried.Short → InputsTo text query N D R Q G K H S T B Z N₃ D₂ R₂ Q₃ G₃ Short
        query_short l q =
            record {
              answer = λ a.
                  q.answer.1
                  (record {
                    codes = omega (arith, a.codes.1, l.codes);
                    stack = omega (arith, a.stack.1, l.stack);
                    nodes = roomy_kept p.kept (roomy_kept kept (roomy_less (omega (arith, p.answer.few)) a.names));
                    binds = omega (arith, a.binds, l.binds, p.answer.few);
                    saves = omega (arith, a.saves.1, l.saves);
                    order = omega (arith, a.order, l.order);
                    words = a.goal;
                  });
            }

        pub query_read : (v b i : ℕ) → QueryTo query K₂ N₂ H₂ S₂ T₂ m D₃ G B₂ Z₂ Q₂ N₃ H₃ S₃ G₃ Q₃ (queried.Read v b i) → InputsTo text query N D R Q G K H S T B Z N₃ D₂ R₂ Q₃ G₃ (Read d a v b i)
        query_read v b i q =
            let y = q.answer.says p.answer.program (defined p lent) in
            record {
              answer =
                  record {
                    program = p.answer.program;
                    goal = y.0;
                    reads_program = p.answer.reads;
                    reads_query = y.1;
                    room = (p.answer.room, p.answer.inside, q.answer.few, q.answer.inside, q.answer.lexicon.trie.room.cells);
                    few = λ ts h. omega (arith, p.answer.spare ts h, q.answer.nodes);
                    root = omega (arith, q.answer.lexicon.nodes);
                    parents = q.answer.lexicon.trie.parents;
                    used = q.answer.used;
                    numbers = λ c h. omega (arith, p.answer.numbers c h, q.answer.grown.more);
                    apart = λ j k h g e. one_number q.answer.lexicon.trie j k h g e;
                    heads = heads_same (take d D₂) (named N₃) (named N₂) (λ c h. named_kept p.answer.lexicon.trie q.answer.grown (c / 256) (p.answer.numbers c h)) ∙ p.answer.says.heads;
                    variables = y.2.variables;
                    rules_words = λ num s. p.answer.says.words num (record { back = λ j h. ap num (sym (named_kept p.answer.lexicon.trie q.answer.grown j h)) ∙ s.back j (omega (arith, q.answer.grown.more)) });
                    goal_words = y.2.words;
                  };
            }

-- the heads that are lent on
module _ {text K N H S T D : List ℕ} {R : List Word} {B Z Q N₂ H₂ S₂ : List ℕ} {R₂ : List Word} (hb : List ℕ) {d a m : ℕ} (p : ProgramTo text K N H S T 9 D R B Z Q N₂ H₂ S₂ (triples hb) R₂ (programmed.Read d a m)) where
  pub heads_there : 3 * d ≤ length hb
  heads_there = omega (arith, p.answer.room, length_triples hb)

  pub heads_length : 3 * d ≡ length (take (3 * d) hb)
  heads_length = sym (length-take-le (3 * d) hb heads_there)

  pub heads_prefix : triples (take (3 * d) hb) ≡ take d (triples hb)
  heads_prefix = triples_prefix hb d heads_there

-- the answers, by their equations
pub told_program : {text K N H S T D : List ℕ} {R : List Word} {B Z Q N₂ H₂ S₂ D₂ : List ℕ} {R₂ : List Word} {r s : Programmed} → r ≡ s → ProgramTo text K N H S T 9 D R B Z Q N₂ H₂ S₂ D₂ R₂ r → ProgramTo text K N H S T 9 D R B Z Q N₂ H₂ S₂ D₂ R₂ s
told_program {text} {K} {N} {H} {S} {T} {D} {R} {B} {Z} {Q} {N₂} {H₂} {S₂} {D₂} {R₂} e p = subst (ProgramTo text K N H S T 9 D R B Z Q N₂ H₂ S₂ D₂ R₂) e p

pub told_query : {query K N H S T : List ℕ} {m : ℕ} {D : List ℕ} {G : List Word} {B Z Q N₃ H₃ S₃ : List ℕ} {G₃ : List Word} {Q₃ : List ℕ} {r s : Queried} → r ≡ s → QueryTo query K N H S T m D G B Z Q N₃ H₃ S₃ G₃ Q₃ r → QueryTo query K N H S T m D G B Z Q N₃ H₃ S₃ G₃ Q₃ s
told_query {query} {K} {N} {H} {S} {T} {m} {D} {G} {B} {Z} {Q} {N₃} {H₃} {S₃} {G₃} {Q₃} e q = subst (QueryTo query K N H S T m D G B Z Q N₃ H₃ S₃ G₃ Q₃) e q

-- the answer by its equation; a refusal is the same whatever is left in the tables
module _ {text query N D : List ℕ} {R : List Word} {Q : List ℕ} {G : List Word} {K H S T B Z N' D' : List ℕ} {R' : List Word} {Q' : List ℕ} {G' : List Word} where
  pub told : {r s : Inputs} → r ≡ s → InputsTo text query N D R Q G K H S T B Z N' D' R' Q' G' r → InputsTo text query N D R Q G K H S T B Z N' D' R' Q' G' s
  told e x = subst (InputsTo text query N D R Q G K H S T B Z N' D' R' Q' G') e x

  pub refused_still : {N'' D'' : List ℕ} {R'' : List Word} {Q'' : List ℕ} {G'' : List Word} (r : Refusal) → InputsTo text query N D R Q G K H S T B Z N' D' R' Q' G' (Refused r) → InputsTo text query N D R Q G K H S T B Z N'' D'' R'' Q'' G'' (Refused r)
  refused_still r x = record { answer = x.answer }

  pub short_still : {N'' D'' : List ℕ} {R'' : List Word} {Q'' : List ℕ} {G'' : List Word} → InputsTo text query N D R Q G K H S T B Z N' D' R' Q' G' Short → InputsTo text query N D R Q G K H S T B Z N'' D'' R'' Q'' G'' Short
  short_still x = record { answer = x.answer }

-- an output that was made zero
pub zero_again : (b b₁ b₂ : List ℕ) → length b₁ ≡ length b → b₂ ≡ replicate (length b₁) 0 → b₂ ≡ replicate (length b) 0
zero_again b b₁ b₂ l e = e ∙ ap (λ (n : ℕ). replicate n 0) l
