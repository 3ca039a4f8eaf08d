-- What functions of the test of locals need and leave, at the tables of the working slice. Assumes nothing.
use Rattle.std.specs.Prelude.{◌≡◌, refl, Option, None, Some, List, Bool, true, false, ℕ, ◌+◌, ◌-◌, ◌≤◌, ◌<◌, length, get_or}
use Rattle.std.proofs.Common.{ap, sym, ◌∙◌, subst, arith}
use Rattle.mem_words.specs.declared.Word.{Word}
use Rattle.mem_words.specs.declared.Word.TheVariants.{End, Free}
use Rattle.mem_words.specs.Words.{Read}
use Rattle.work_tables.specs.Tables.{Laid}
use Rattle.check_words.specs.Apart.{names, opened, word_apart, open_after, apart_passed}
use Rattle.check_vartables.specs.Tables.{names_of, stack_of, Checked, PutName, PutStack, length_names, length_stack}
use Rattle.check_vartables.specs.Stacks.{tops}
use Rattle.check_apart.specs.Search.{Ordered, strict_word, naming_word, fit}
use Rattle.check_apart.specs.Steps.{Holding, top_names, names_top, used, clashes, named, idle, pushed, popped, popped_none}

-- k brackets are open, and the words C can be read at each
pub record Look (C : List Word) (L : List ℕ) (k : ℕ) : Type 0 where
  pub laid : Laid L
  pub few : k ≤ 28672
  pub order : Ordered (stack_of L) k
  pub inside : (j : ℕ) → j < k → get_or (stack_of L) j 0 < length C

-- the word at i is next, with k brackets open
pub record Ready (C : List Word) (L : List ℕ) (k i : ℕ) : Type 0 where
  pub laid : Laid L
  pub short : length C ≤ 28672
  pub inside : i < length C
  pub holding : Holding C (stack_of L) (names_of L) k i

pub looks : {C : List Word} {L : List ℕ} {k i : ℕ} → Ready C L k i → Look C L k
looks {C} {L} {k} {i} r = record {
  laid = r.laid;
  few = omega (arith, r.short, r.inside, r.holding.few);
  order = record { up = r.holding.rising.up };
  inside = λ j h. let a = r.holding.rising.low j h in omega (arith, a, r.inside);
}

-- refused, or gone on behind the word at i
abbrev pub Gone : List Word → List ℕ → ℕ → Option ℕ → Type 0
Gone C X i None = false ≡ apart_passed C
Gone C X i (Some k) = Holding C (stack_of X) (names_of X) k (i + 1)

pub record Next (C : List Word) (L X : List ℕ) (i : ℕ) (r : Option ℕ) : Type 0 where
  pub gone : Gone C X i r
  pub rest : Checked L X

pub same : {L : List ℕ} → Checked L L
same = record { before = refl; after = refl; long = refl }

names_of_lem : {C : List Word} {L : List ℕ} {k i : ℕ} (r : Ready C L k i) (b c : Bool) → b ≡ top_names C (tops (stack_of L) k) → b ≡ c → names r.holding.stack ≡ c
names_of_lem {C} {L} {k} r b c e t = names_top C (tops (stack_of L) k) r.holding.stack r.holding.opens ∙ sym e ∙ t

-- a variable: no local; one that interferes; one that does not
pub is_used : {C : List Word} {L : List ℕ} {k i x : ℕ} (r : Ready C L k i) → Read C i (Free x) → (b : Bool) → b ≡ top_names C (tops (stack_of L) k) → b ≡ false → Next C L L i (Some k)
is_used r e b n f = record { gone = used r.inside e r.holding (names_of_lem r b false n f); rest = same }

pub is_clash : {C : List Word} {L : List ℕ} {k i x : ℕ} (r : Ready C L k i) → Read C i (Free x) → (b : Bool) → b ≡ top_names C (tops (stack_of L) k) → b ≡ true → (v : ℕ) → v ≡ get_or (names_of L) x 0 → (c : Bool) → c ≡ fit C v (tops (stack_of L) k) → c ≡ false → Next C L L i None
is_clash {C} {L} {k} r e b n t v q c f z = record { gone = clashes r.inside e r.holding (names_of_lem r b true n t) (ap (λ (u : ℕ). fit C u (tops (stack_of L) k)) (sym q) ∙ sym f ∙ z); rest = same }

pub is_named : {C : List Word} {L X : List ℕ} {k i x : ℕ} (r : Ready C L k i) → Read C i (Free x) → (b : Bool) → b ≡ top_names C (tops (stack_of L) k) → b ≡ true → (v : ℕ) → v ≡ get_or (names_of L) x 0 → (c : Bool) → c ≡ fit C v (tops (stack_of L) k) → c ≡ true → x < 65536 → PutName L x (i + 1) X → Next C L X i (Some k)
is_named {C} {L} {X} {k} {i} {x} r e b n t v q c f z m p = record {
  gone = subst (λ (P : List ℕ). Holding C P (names_of X) k (i + 1)) (sym p.stack) (named r.inside e r.holding (names_of_lem r b true n t) (ap (λ (u : ℕ). fit C u (tops (stack_of L) k)) (sym q) ∙ sym f ∙ z) (omega (arith, m, length_names r.laid)) p.names);
  rest = p.rest;
}

-- a bracket may be opened at i, and was
pub record CanOpen (L : List ℕ) (k i : ℕ) : Type 0 where
  pub laid : Laid L
  pub place : k < 28672
  pub small : i < 28672

pub record Opened (L : List ℕ) (k i : ℕ) (X : List ℕ) (r : ℕ) : Type 0 where
  pub put : PutStack L k i X
  pub count : r ≡ k + 1

pub can_open : {C : List Word} {L : List ℕ} {k i : ℕ} → Ready C L k i → CanOpen L k i
can_open r = record { laid = r.laid; place = omega (arith, r.short, r.inside, r.holding.few); small = omega (arith, r.short, r.inside) }

pub is_open : {C : List Word} {L X : List ℕ} {k i m : ℕ} {w : Word} (r : Ready C L k i) → Read C i w → Opened L k i X m → word_apart r.holding.stack w ≡ true → open_after r.holding.stack w ≡ opened (strict_word w) (naming_word w) r.holding.stack → Next C L X i (Some m)
is_open {C} {L} {X} {k} {i} {m} r e o t s = record {
  gone =
      subst (λ (j : ℕ). Holding C (stack_of X) (names_of X) j (i + 1)) (sym o.count)
      (subst (λ (N : List ℕ). Holding C (stack_of X) N (k + 1) (i + 1)) (sym o.put.names) (pushed r.inside e (omega (arith, r.short, r.inside, r.holding.few, length_stack r.laid)) o.put.stack r.holding t s));
  rest = o.put.rest;
}

pub is_idle : {C : List Word} {L : List ℕ} {k i : ℕ} {w : Word} (r : Ready C L k i) → Read C i w → word_apart r.holding.stack w ≡ true → open_after r.holding.stack w ≡ r.holding.stack → Next C L L i (Some k)
is_idle r e t s = record { gone = idle r.inside e r.holding t s; rest = same }

pub is_end : {C : List Word} {L : List ℕ} {k i : ℕ} (r : Ready C L k i) → Read C i End → (k ≡ 0 → ⊥) → Next C L L i (Some (k - 1))
is_end r e n = record { gone = popped r.inside e n r.holding; rest = same }

pub is_stray : {C : List Word} {L : List ℕ} {k i : ℕ} (r : Ready C L k i) → Read C i End → k ≡ 0 → Next C L L i (Some 0)
is_stray r e z = record { gone = popped_none r.inside e z r.holding; rest = same }

-- a word that was read, with what it is
pub read_as : {C : List Word} {i : ℕ} {w : Word} (u : Word) → w ≡ u → Read C i w → Read C i u
read_as {C} {i} u e r = subst (Read C i) e r

-- the pass is refused, or goes on
pub stopped : {C : List Word} {L X : List ℕ} {i : ℕ} {r : Option ℕ} → Next C L X i r → r ≡ None → false ≡ apart_passed C
stopped {C} {L} {X} {i} n e = subst (Gone C X i) e n.gone

pub went_on : {C : List Word} {L X : List ℕ} {i : ℕ} {r : Option ℕ} (k : ℕ) → Next C L X i r → r ≡ Some k → Holding C (stack_of X) (names_of X) k (i + 1)
went_on {C} {L} {X} {i} k n e = subst (Gone C X i) e n.gone
