-- A statement's depth is the least depth of a text that reads as it.
use mathlib.Core.Path.{◌≡◌, refl, ap, ◌∙◌, subst}
use mathlib.Core.List.{List, [], ◌∷◌, ◌++◌}
use mathlib.Core.Bool.{Bool, true, false}
use Prim.Native.Nat.{ℕ, suc, ◌+◌, ◌≤◌, max}
use native.Mathlib.Omega.{arith}
use lib.Dec.{T, lt→ltb}
use Rattle.akl.specs.Base.{Name, range}
use Rattle.akl.specs.Limits.{most_depth}
use Rattle.akl.specs.Syntax.{Op, Stmt, atom, call, comp, hide, choice, Clauses, no_more, clause, Program}
use Rattle.akl.specs.Grammar.{Statement, single, joined, Simple, constraint, program, bracket, Bracket, plain, hiding, choosing, Clause, written, Others, end, and_also}
use Rattle.akl.specs.Parse.{unclaused}
use Rattle.akl.specs.Reader.{statement_of, simple_of, bracket_of, clause_of, others_of}
use Rattle.akl.specs.WellFormed.{is_comp, bracketed, depth, clauses_depth, statement_fits, statement_passes, numbers}
use Rattle.theory.specs.Scope.{Below}
use Rattle.texts.specs.TextDepth.{text_depth, simple_depth, bracket_depth, clause_depth, others_depth}
use Rattle.texts.specs.Draft.{most_names, level_names, number_names, simply, draft, draft_choice, draft_others, ListsFit}
use Rattle.theory.proofs.Passing.{passes_iff}
use Rattle.theory.proofs.Closed.{any_number}
use Rattle.texts.proofs.DraftReads.{below, draft_reads}
use Rattle.texts.proofs.Refit.{refit}
use Rattle.texts.proofs.Narrow.{narrow}

-- ---------------------------------------------------------------------------------------------
-- No text is less deep.

up_to : (b : Bool) (d e : ℕ) → d ≤ e → bracketed b d ≤ suc e
up_to true d e l = omega arith
up_to false d e l = omega arith

out_of : (b : Bool) (d e : ℕ) → bracketed b d ≤ e → d ≤ e
out_of true d e l = omega arith
out_of false d e l = l

module _ (xs : List Name) where
  mutual
    unfolding statement_of depth text_depth

    pub no_less : (t : Statement) (bs : List Name) → depth (statement_of t xs bs) ≤ text_depth t
    no_less (single s) bs = out_of (is_comp (simple_of s xs bs)) (depth (simple_of s xs bs)) (simple_depth s) (simple_no_less s bs)
    no_less (joined s r) bs = omega (arith, simple_no_less s bs, no_less r bs)

    simple_no_less : (s : Simple) (bs : List Name) → bracketed (is_comp (simple_of s xs bs)) (depth (simple_of s xs bs)) ≤ simple_depth s
    simple_no_less (constraint c) bs = omega arith
    simple_no_less (program p ys) bs = omega arith
    simple_no_less (bracket b) bs = bracket_no_less b bs

    bracket_no_less : (b : Bracket) (bs : List Name) → bracketed (is_comp (bracket_of b xs bs)) (depth (bracket_of b xs bs)) ≤ suc (bracket_depth b)
    bracket_no_less (plain s) bs = up_to (is_comp (statement_of s xs bs)) (depth (statement_of s xs bs)) (text_depth s) (no_less s bs)
    bracket_no_less (hiding x ys s) bs = omega (arith, no_less s (bs ++ (x ∷ ys)))
    bracket_no_less (choosing c cs) bs = omega (arith, clause_no_less c bs (others_of cs xs bs), others_no_less cs bs)

    clause_no_less : (c : Clause) (bs : List Name) (rest : Clauses) → clauses_depth (clause_of c xs bs rest) ≤ max (clause_depth c) (clauses_depth rest)
    clause_no_less (written ys g op b) bs rest = omega (arith, no_less g (bs ++ ys), no_less b (bs ++ ys))

    others_no_less : (cs : Others) (bs : List Name) → clauses_depth (others_of cs xs bs) ≤ others_depth cs
    others_no_less end bs = omega arith
    others_no_less (and_also c cs) bs = omega (arith, clause_no_less c bs (others_of cs xs bs), others_no_less cs bs)

-- ---------------------------------------------------------------------------------------------
-- The draft is just so deep.

unclaused_depth : (xs : List Name) (t : Statement) → bracket_depth (unclaused xs t) ≡ text_depth t
unfolding text_depth
unclaused_depth [] t = refl
unclaused_depth (x ∷ xs) t = refl

joined_comp : (s : Stmt) (n : ℕ) → simple_depth (simply (draft s n)) ≡ bracketed (is_comp s) (text_depth (draft s n))
unfolding draft text_depth
joined_comp (atom c) n = refl
joined_comp (call p xs) n = refl
joined_comp (comp a b) n = refl
joined_comp (hide m a) n = refl
joined_comp (choice op cs) n = refl

mutual
  unfolding draft depth text_depth

  pub draft_depth : (s : Stmt) (n : ℕ) → text_depth (draft s n) ≡ depth s
  draft_depth (atom c) n = refl
  draft_depth (call p xs) n = refl
  draft_depth (comp a b) n =
      let x = joined_comp a n ∙ ap (bracketed (is_comp a)) (draft_depth a n) in
      let y = draft_depth b n in
      λ i. max (x i) (y i)
  draft_depth (hide m a) n = ap suc (unclaused_depth (level_names n m) (draft a (n + m)) ∙ draft_depth a (n + m))
  draft_depth (choice op cs) n = ap suc (choice_depth cs op n)

  choice_depth : (cs : Clauses) (op : Op) (n : ℕ) → bracket_depth (draft_choice cs op n) ≡ clauses_depth cs
  choice_depth no_more op n = refl
  choice_depth (clause m g b cs) op n =
      let x = draft_depth g (n + m) in
      let y = draft_depth b (n + m) in
      let z = draft_others_depth cs op n in
      λ i. max (max (x i) (y i)) (z i)

  draft_others_depth : (cs : Clauses) (op : Op) (n : ℕ) → others_depth (draft_others cs op n) ≡ clauses_depth cs
  draft_others_depth no_more op n = refl
  draft_others_depth (clause m g b cs) op n =
      let x = draft_depth g (n + m) in
      let y = draft_depth b (n + m) in
      let z = draft_others_depth cs op n in
      λ i. max (max (x i) (y i)) (z i)

-- Of all trees that read as a statement that passes, with any names for its variables, none is less deep, and one is as deep as
-- that.
pub least_depth : (P : Program) (s : Stmt) (K : ℕ) → ListsFit s → K ≤ most_names → Below (numbers s) K → T (statement_passes P any_number 0 s) → ((xs : List Name) (t : Statement) → statement_of t xs [] ≡ s → depth s ≤ text_depth t) × ((xs : List Name) × (t : Statement) × (statement_of t xs [] ≡ s) × (text_depth t ≡ depth s))
unfolding level_names range
least_depth P s K lists r b h = (λ xs t e. subst (λ z. depth z ≤ text_depth t) e (no_less xs t []), (number_names K, draft s 0, draft_reads P K r s 0 (refit P any_number (below K) s 0 (λ x i u. lt→ltb x K (b x i)) k.0) (narrow s 0 lists (omega arith) k.1), draft_depth s 0))
  where
    k : T (statement_fits s P any_number 0) × (depth s ≤ most_depth)
    k = (passes_iff P any_number 0 s).0 h
