-- What the reader's answer on a query's tokens says of its statement. B₁ is the table of bindings made zero. Assumes nothing.
use mathlib.Core.Path.{◌≡◌, refl, ap, sym, ◌∙◌, subst}
use mathlib.Core.Logic.{◌⊎◌, inl, inr}
use mathlib.Core.Bool.{Bool, true, false}
use mathlib.Core.List.{List, [], ◌∷◌, ◌++◌, map, append-nil}
use mathlib.Core.Option.{Option, some, none}
use Prim.Native.Nat.{ℕ, zero, ◌+◌, ◌*◌, ◌/◌, ◌-◌, ◌≤◌, ◌<◌}
use native.Mathlib.Omega.{arith}
use native.Mathlib.Nat.{not-suc-le-zero}
use lib.Dec.{ltb}
use lib.ListN.{length, take, length-map}
use lib.Seq.{length-take-le}
use borrow.Author.Tests.{lt-ltb, le-ltb}
use Rattle.constraint.proofs.Lists.{none_some}
use Rattle.constraint.specs.Constraint.{In}
use Rattle.akl.specs.Base.{Name, size, least, ◌>>=◌}
use Rattle.akl.specs.Limits.{most_query_variables}
use Rattle.akl.specs.Token.{Token, full_stop}
use Rattle.akl.specs.Grammar.{Statement}
use Rattle.akl.specs.Parse.{parse_query, after, nothing_left}
use Rattle.akl.specs.Reader.{fault, statement_faults, query_variables, statement_of}
use Rattle.read_tokens.specs.Runs.{size_length}
use Rattle.mem_words.specs.declared.Word.{Word}
use Rattle.descent.specs.Descent.{the_statement}
use Rattle.descent.proofs.Whole.{query_step}
use Rattle.read_phrases.specs.Codes.{toks}
use Rattle.read_phrases.specs.Phrases.{Reserved}
use Rattle.layout.specs.Layout.{stmt_words}
use Rattle.read_emits.specs.Out.{tight, seg, Wrote}
use Rattle.read_emits.specs.TheirContracts.{Compacted}
use Rattle.read_pieces.specs.Worst.{Lowest, in_left, in_right, lowest_both, in_both, lowest_fine, lowest_refused, lowest_fits}
use Rattle.read_pieces.specs.Reads.{a_statement, Scope, Spelling, CanRead, Finished, TooMuch, around, heads}
use Rattle.read_pieces.specs.declared.Read.{Read}
use Rattle.read_pieces.specs.declared.Read.TheVariants.{Three, Odd, Full}
use Rattle.read_pieces.proofs.Simples.{read_first}
use Rattle.read_pieces.proofs.Threes.{same_read}
use Rattle.read_nested.specs.Answers.{Answer}
use Rattle.refusals.specs.declared.Refusal.{Refusal}
use Rattle.refusals.specs.declared.Refusal.TheVariants.{TooMany}
use Rattle.refusals.specs.Refusals.{number_of, Textual}
use Rattle.refusals.proofs.Faults.{statement_textual}
use Rattle.read_queries.specs.declared.Queried.TheVariants as queried
use Rattle.read_queries.specs.Checks.{CanCheck, CheckedTo, due}
use Rattle.read_wholes.proofs.Spelled.{spelled, counted, spelled_numbers, spelled_reserved}
use Rattle.read_wholes.proofs.Tables.{Zeroed, zeroed_spells, seg_whole}

-- ---------------------------------------------------------------------------------------------
-- The tree of a query's tokens is that of the statement at its beginning.

parsed : (ts : List Token) (t : Statement) → parse_query ts ≡ some t → (us : List Token) × (the_statement ts ≡ some (t, us))
parsed ts t e =
    let x = read_first (the_statement ts) (λ s. after full_stop s.1 >>= λ r. nothing_left s.0 r) t (sym (query_step ts) ∙ e) in
    let y = read_first (after full_stop x.0.1) (λ r. nothing_left x.0.0 r) t x.2 in
    (x.0.1, x.1 ∙ ap (λ (s : Statement). some (s, x.0.1)) (ended y.0 x.0.0 y.2))
  where
    ended : (r : List Token) (s : Statement) → nothing_left s r ≡ some t → s ≡ t
    ended [] s q = cc
    ended (v ∷ r) s q = absurd (let z : ◌≡◌ {A = ℕ} 0 1 = ap (λ (o : Option Statement). elim o as (λ v. ℕ) [ none ↦ 0 | some x ↦ 1 ]) q in omega arith)

-- ---------------------------------------------------------------------------------------------
-- The tables.

pub can_read : {L B Q D B₁ : List ℕ} (S : List ℕ) (O : List Word) → CanCheck L B Q D → Zeroed B B₁ → CanRead L B₁ S Q D O 0 0 0 0
can_read S O c z =
    record {
      known = c.known;
      ids = λ i h. omega (arith, c.ids i h, z.long);
      cells = omega (arith, c.cells, z.long);
      few = c.few;
      before = omega arith;
      inside = omega arith;
      order = c.order;
      most = omega arith;
      used = λ i h. absurd (not-suc-le-zero h);
      out = omega arith;
      heads = λ d h. omega (arith, c.heads d h, z.long);
    }

-- ---------------------------------------------------------------------------------------------
-- The refusals due.

-- none is below 3
in_fault : (n : ℕ) (b : Bool) (x : ℕ) → In x (fault n b) → x ≡ n
in_fault n true x (inl e) = e
in_fault n true x (inr z) = absurd z
in_fault n false x z = absurd z

three_in : (b : Bool) → b ≡ true → In 3 (fault 3 b)
three_in true e = inl refl
three_in false e = absurd (let z : ◌≡◌ {A = ℕ} 0 1 = cc in omega arith)

module _ (D : List ℕ) (w : ℕ → Name) (t : Statement) where
  abbrev within : List ℕ
  within = statement_faults t (around true (heads w D) [] 0)

  abbrev many : Bool
  many = ltb most_query_variables (size (query_variables t))

  none_below : (x : ℕ) → In x (fault 3 many ++ within) → 3 ≤ x
  none_below x h = elim (in_both x (fault 3 many) within h) [ inl i ↦ omega (arith, in_fault 3 many x i) | inr i ↦ (statement_textual t (around true (heads w D) [] 0) x i).low ]

  -- refusal 3
  three_due : In 3 within ⊎ (16 < size (query_variables t)) → least (fault 3 many ++ within) ≡ some 3
  three_due h = lowest_refused 3 (fault 3 many ++ within) (record { least = none_below; found = inl (omega arith, found h) }) (omega arith)
    where
      found : In 3 within ⊎ (16 < size (query_variables t)) → In 3 (fault 3 many ++ within)
      found (inl i) = in_right 3 (fault 3 many) within i
      found (inr g) = in_left 3 (fault 3 many) within (three_in many (lt-ltb most_query_variables (size (query_variables t)) g))

  -- the lowest of the statement's is the lowest of all
  all_lowest : (f : ℕ) → size (query_variables t) ≤ 16 → Lowest f within → Lowest f (fault 3 many ++ within)
  all_lowest f h l = lowest_both 8 f f (fault 3 many) within (lowest_fine 3 many (le-ltb most_query_variables (size (query_variables t)) h)) l (inr (refl, at_most l.found))
    where
      at_most : ((f < 8) × In f within) ⊎ ((f ≡ 8) × (within ≡ [])) → f ≤ 8
      at_most (inl x) = omega (arith, x.0)
      at_most (inr x) = omega (arith, x.0)

-- ---------------------------------------------------------------------------------------------
-- The answers.

-- what a statement that was read leaves
pub record Left (D Q' : List ℕ) (O O' : List Word) (k q f : ℕ) (w : ℕ → Name) (num : Name → ℕ) (t : Statement) : Type 0 where
  pub fault : Lowest f (statement_faults t (around true (heads w D) [] 0))
  pub variables : map w (take q Q') ≡ query_variables t
  pub words : Wrote O 0 O' k (stmt_words num (statement_of t (query_variables t) []))

module _ {L B S Q D : List ℕ} {O : List Word} {B₁ B' S' Q' : List ℕ} {O' : List Word} {a k q f : ℕ} (can : CanCheck L B Q D) (z : Zeroed B B₁) (r : Finished a_statement true L B₁ S Q D O 0 0 0 0 0 B' S' Q' O' a k q f) where
  left : (w : ℕ → Name) (num : Name → ℕ) (t : Statement) → Reserved w L → Spelling w num (length B) → parse_query (toks w L 0) ≡ some t → Left D Q' O O' k q f w num t
  unfolding query_variables
  left w num t v s e =
      let x = r.says w num [] v (zeroed_spells z s) z.scope in
      let p = parsed (toks w L 0) t e in
      let y = same_read (the_statement (toks w L 0)) x.0 t (toks w L a) p.0 x.1 p.1 in
      subst (λ (u : Statement). Left D Q' O O' k q f w num u) y.0
      (record { fault = x.2.fault; variables = x.2.names; words = x.2.words (query_variables x.0) ([], sym x.2.names ∙ sym (append-nil (map w (take q Q')))) })

  few : {w : ℕ → Name} {num : Name → ℕ} {t : Statement} → Left D Q' O O' k q f w num t → size (query_variables t) ≤ 16
  few {w} {num} {t} l =
      let e : length (take q Q') ≡ q = length-take-le q Q' (omega (arith, r.most, r.long_q, can.order)) in
      let g = length-map (take q Q') w in
      omega (arith, ap size l.variables, size_length (map w (take q Q')), r.most)

  -- a refusal is one that texts of the grammar are given
  done_textual : f < 8 → Textual f
  done_textual h =
      let x = r.says spelled counted [] (spelled_reserved L) (spelled_numbers (length B₁)) z.scope in
      go x.0 x.2.fault.found
    where
      go : (t : Statement) → ((f < 8) × In f (statement_faults t (around true (heads spelled D) [] 0))) ⊎ ((f ≡ 8) × (statement_faults t (around true (heads spelled D) [] 0) ≡ [])) → Textual f
      go t (inl y) = statement_textual t (around true (heads spelled D) [] 0) f y.1
      go t (inr y) = absurd (omega (arith, y.0))

  pub done_refused : (names : ℕ) (x : Refusal) → f < 8 → (Textual f → number_of x ≡ f) → CheckedTo L B S Q D O names Q' O' (queried.Refused x)
  done_refused names x h e =
      record {
        order = r.long_q;
        out = r.long_o;
        answer = λ w num t v s p.
            let l = left w num t v s p in
            lowest_refused f (due L B S Q D O names w t) (all_lowest D w t f (few l) l.fault) h ∙ ap (λ (n : ℕ). some n) (sym (e (done_textual h)));
      }

  -- nothing is due
  pub done_fine : (names : ℕ) {O'' : List Word} {n : ℕ} → 8 ≤ f → Compacted O' k O'' n → CheckedTo L B S Q D O names Q' O'' (queried.Read q n names)
  done_fine names {O''} {n} h c =
      record {
        order = r.long_q;
        out = c.long ∙ r.long_o;
        answer = (
          refl,
          omega (arith, r.most, r.long_q, can.order),
          omega (arith, c.fewer, r.out, c.long),
          λ w num t v s p.
              let l = left w num t v s p in
              record {
                none_due = lowest_fits f (due L B S Q D O names w t) (all_lowest D w t f (few l) l.fault) (eight l.fault.found);
                variables = l.variables;
                words = c.words ∙ ap tight (sym whole) ∙ sym (append-nil (tight (seg O' 0 k))) ∙ l.words.words [];
              },
          λ i g. omega (arith, r.used i g, z.long),
        );
      }
    where
      eight : {fs : List ℕ} → ((f < 8) × In f fs) ⊎ ((f ≡ 8) × (fs ≡ [])) → f ≡ 8
      eight (inl y) = absurd (omega (arith, y.0))
      eight (inr y) = y.0

      whole : seg O' 0 k ≡ take k O'
      whole = seg_whole O' k

module _ {L B S Q D : List ℕ} {O : List Word} {B₁ B' S' Q' : List ℕ} {O' : List Word} (names : ℕ) (can : CanCheck L B Q D) (z : Zeroed B B₁) (lq : length Q' ≡ length Q) (lo : length O' ≡ length O) where
  pub read_three : Answer a_statement true L B₁ S Q D O 0 0 0 0 0 B' S' Q' O' Three → CheckedTo L B S Q D O names Q' O' (queried.Refused TooMany)
  unfolding query_variables
  read_three r =
      record {
        order = lq;
        out = lo;
        answer = λ w num t v s p.
            let y = parsed (toks w L 0) t p in
            three_due D w t (go w t (r.to w num [] v (zeroed_spells z s) z.scope t y.0 y.1));
      }
    where
      go : (w : ℕ → Name) (t : Statement) → TooMuch a_statement true L B₁ S Q D O 0 0 0 0 0 w [] t → In 3 (statement_faults t (around true (heads w D) [] 0)) ⊎ (16 < size (query_variables t))
      go w t (inl i) = inl i
      go w t (inr i) = inr i.1

  pub read_odd : (x : Refusal) → Answer a_statement true L B₁ S Q D O 0 0 0 0 0 B' S' Q' O' Odd → CheckedTo L B S Q D O names Q' O' (queried.Refused x)
  read_odd x r =
      record {
        order = lq;
        out = lo;
        answer = λ w num t v s p.
            let y = parsed (toks w L 0) t p in
            absurd (none_some (sym (r.to w num [] v (zeroed_spells z s) z.scope) ∙ y.1));
      }

  pub read_full : Answer a_statement true L B₁ S Q D O 0 0 0 0 0 B' S' Q' O' Full → CheckedTo L B S Q D O names Q' O' queried.Short
  read_full r = record { order = lq; out = lo; answer = go r.to }
    where
      go : (length O + 4 * 0 < 0 + 4 * length L + 8) ⊎ (length S < length L) → (length O < 4 * length L + 8) ⊎ (length S < length L)
      go (inl h) = inl (omega arith)
      go (inr h) = inr h

-- the answer, by its equation
pub told : {L B S Q D : List ℕ} {O : List Word} {B' S' Q' : List ℕ} {O' : List Word} {r s : Read} → r ≡ s → Answer a_statement true L B S Q D O 0 0 0 0 0 B' S' Q' O' r → Answer a_statement true L B S Q D O 0 0 0 0 0 B' S' Q' O' s
told {L} {B} {S} {Q} {D} {O} {B'} {S'} {Q'} {O'} e r = subst (Answer a_statement true L B S Q D O 0 0 0 0 0 B' S' Q' O') e r
