-- Brackets of clauses, stored constraints and boxes that open: what follows makes the rest that they open in.
use mathlib.Core.Path.{◌≡◌, refl, ap, ap₂, ◌∙◌, subst}
use mathlib.Core.List.{List, [], ◌∷◌, map}
use mathlib.Core.Bool.{Bool, true, ◌||◌}
use Prim.Native.Nat.{ℕ, suc, ◌+◌, ◌≤◌}
use native.Mathlib.Omega.{arith}
use lib.Dec.{T, leb, le→leb, ltb→lt}
use Rattle.constraint.specs.Constraint.{cfail, ceq, capp}
use Rattle.constraint.proofs.Lists.{and_T}
use Rattle.akl.specs.Base.{Name, all, size}
use Rattle.akl.specs.Limits.{most_arguments, most_depth}
use Rattle.akl.specs.Syntax.{Var, number, level, wait, cond, commit, Op, Stmt, Clauses, clause, Program}
use Rattle.akl.specs.Configuration.{goal, Node, or, and, stmt, choice_box, guard, cons}
use Rattle.akl.specs.WellFormed.{spelled_name, spelled_digits, variable_fits, stored_fits, statement_fits, statement_passes, clauses_fit, some_clause, depth, clauses_depth, statements_pass, statements_pass_all}
use Rattle.mem_words.specs.declared.Word.{Word}
use Rattle.mem_words.specs.declared.Word.TheVariants.{End, Num, Place, Inner}
use Rattle.mem_sorts.specs.declared.Kind.{Kind}
use Rattle.mem_sorts.specs.declared.Kind.TheVariants.{Or, And, Guarded, Member, Wait, Cond, Commit}
use Rattle.mem_sorts.specs.declared.Sort.{Sort}
use Rattle.mem_sorts.specs.declared.Sort.TheVariants.{Locals, Store, True, Fail, Eq, App, Call, Comp, Hide, Clause, AskWait, AskCond, AskCommit}
use Rattle.layout.specs.Layout.{var_word, vars_words, con_words, stmt_words, clauses_words}
use Rattle.store_words.specs.Boxes.{box_kind, local_words, store_words, node_words, nodes_words}
use Rattle.store_words.specs.Tables.{SpeltNode}
use Rattle.check_shapes.specs.declared.Frame.{Frame}
use Rattle.check_shapes.specs.declared.Frame.TheVariants.{Root, AndLocals, AndStore, Members, Constraints, Guards}
use Rattle.check_shapes.specs.declared.Move.TheVariants.{Push}
use Rattle.check_shapes.specs.Machine.{begun_stored, begun_clause, begun_locals, begun_store, begun_root, begun_goal, begun_member, begun_guarded}
use Rattle.check_meaning.proofs.Rests.{Fine, ClausesFine, Rest}
use Rattle.check_meaning.proofs.Moves.{Local, and3}
use Rattle.check_meaning.proofs.More.{stmt_more}

module _ (num : Name → ℕ) (spell : ℕ → Name) (P : Program) (free : Bool) where
  -- a clause that begins, with those behind it
  pub at_clause : (x : Frame) (n d : ℕ) (s : Sort) → ((l r : List Word) (cs : Clauses) → Inner s ∷ l ≡ clauses_words num cs (End ∷ r) → ClausesFine num spell P free n d cs → T (some_clause cs) → Rest num spell P free x (Inner s ∷ l) r) → Local num spell P free x (Inner s) (begun_clause s n d)
  unfolding clauses_words clauses_fit clauses_depth
  at_clause x n d Locals H = tt
  at_clause x n d Store H = tt
  at_clause x n d True H = tt
  at_clause x n d Fail H = tt
  at_clause x n d Eq H = tt
  at_clause x n d App H = tt
  at_clause x n d Call H = tt
  at_clause x n d Comp H = tt
  at_clause x n d Hide H = tt
  at_clause x n d Clause H = λ l q r e g.
      H l r (clause e.0 e.1 e.2 g.0)
      (ap (λ (u : List Word). Inner Clause ∷ u) (e.3 ∙ ap (λ (u : List Word). Num e.0 ∷ stmt_words num e.1 (stmt_words num e.2 (End ∷ u))) g.1)) (
        (and3 (statement_fits e.1 P (λ x. free) (n + e.0)) (statement_fits e.2 P (λ x. free) (n + e.0)) (clauses_fit g.0 P (λ x. free) n)).1 (e.4.0, e.5.0, g.2.0),
        omega (arith, e.4.1, e.5.1, g.2.1),
        (e.4.2, e.5.2, g.2.2),
      )
      tt
  at_clause x n d AskWait H = tt
  at_clause x n d AskCond H = tt
  at_clause x n d AskCommit H = tt

  -- a stored constraint that begins, with those behind it: no level is bound, so its variables are numbers
  no_level : (v : Var) → T (variable_fits (λ x. free) 0 v) → (y : ℕ) × (v ≡ number y)
  no_level (number y) t = (y, refl)
  no_level (level l) t = absurd (omega (arith, ltb→lt l 0 t))

  no_levels : (vs : List Var) → T (all (variable_fits (λ x. free) 0) vs) → (ys : List ℕ) × (vs ≡ map number ys)
  unfolding all
  no_levels [] t = ([], refl)
  no_levels (v ∷ vs) t =
      let h = (and_T (variable_fits (λ x. free) 0 v) (all (variable_fits (λ x. free) 0) vs)).0 t in
      let a = no_level v h.0 in
      let b = no_levels vs h.1 in
      (a.0 ∷ b.0, ap₂ (λ (x : Var) (xs : List Var). x ∷ xs) a.1 b.1)

  size_map : (ys : List ℕ) → size (map number ys) ≡ size ys
  unfolding size
  size_map [] = refl
  size_map (y ∷ ys) = ap suc (size_map ys)

  pub at_stored : (s : Sort) → Local num spell P free Constraints (Inner s) (begun_stored s Constraints)
  unfolding store_words con_words all
  at_stored Locals = tt
  at_stored Store = tt
  at_stored True = tt
  at_stored Fail = λ l q r e g. (cfail ∷ g.0, ap (λ (u : List Word). Inner Fail ∷ u) (e ∙ ap (λ (u : List Word). End ∷ u) g.1), (g.2.0, (tt, g.2.1)))
  at_stored Eq = λ l q r e g.
      let a = no_level e.0 e.3 in
      let b = no_level e.1 e.4 in (
        ceq a.0 b.0 ∷ g.0,
        ap (λ (u : List Word). Inner Eq ∷ u) (e.2 ∙ ap₂ (λ (x y : Var). var_word x ∷ var_word y ∷ End ∷ q) a.1 b.1 ∙ ap (λ (u : List Word). var_word (number a.0) ∷ var_word (number b.0) ∷ End ∷ u) g.1),
        (g.2.0, (tt, g.2.1)),
      )
  at_stored App = λ l q r e g.
      let a = no_level e.0 e.4 in
      let b = no_levels e.2 e.5 in
      let m : size e.2 ≡ size b.0 = ap (λ (xs : List Var). size xs) b.1 ∙ size_map b.0 in (
        capp a.0 e.1 b.0 ∷ g.0,
        ap (λ (u : List Word). Inner App ∷ u) (e.3 ∙ ap₂ (λ (x : Var) (xs : List Var). var_word x ∷ Num (num e.1) ∷ vars_words xs (End ∷ q)) a.1 b.1 ∙ ap (λ (u : List Word). var_word (number a.0) ∷ Num (num e.1) ∷ vars_words (map number b.0) (End ∷ u)) g.1),
        (
          (and3 (leb (size b.0) most_arguments) (spelled_name e.1 || spelled_digits e.1) (all stored_fits g.0)).1 (le→leb (size b.0) most_arguments (subst (λ (z : ℕ). z ≤ most_arguments) m e.6), e.7, g.2.0),
          (e.8, g.2.1),
        ),
      )
  at_stored Call = tt
  at_stored Comp = tt
  at_stored Hide = tt
  at_stored Clause = tt
  at_stored AskWait = tt
  at_stored AskCond = tt
  at_stored AskCommit = tt

  -- a statement of a configuration passes
  passes : (a : Stmt) → Fine num spell P free 0 most_depth a → T (statement_passes P (λ x. true) 0 a)
  unfolding statement_passes
  passes a k = (and_T (statement_fits a P (λ x. true) 0) (leb (depth a) most_depth)).1 (stmt_more P P (λ x. free) (λ x. true) (λ p j t. t) (λ x t. tt) a 0 k.0, le→leb (depth a) most_depth k.1)

  pub at_goal : (x z : Frame) (k : Kind) → ((l q r : List Word) (a : Node goal) → Place k ∷ l ≡ node_words num a q → T (statements_pass a P) → SpeltNode num spell a → Rest num spell P free z q r → Rest num spell P free x (Place k ∷ l) r) → Local num spell P free x (Place k) (begun_goal k z)
  unfolding node_words statements_pass
  at_goal x z Or H = λ l q r e g. H l q r (or e.0) (ap (λ (u : List Word). Place Or ∷ u) e.1) e.2.0 e.2.1 g
  at_goal x z And H = λ l q r e g. H l q r (and e.0 e.1 e.2) (ap (λ (u : List Word). Place And ∷ u) e.3) ((and_T (all stored_fits e.1) (statements_pass_all e.2 P)).1 (e.4.0, e.5.0)) (e.4.1, e.5.1) g
  at_goal x z Guarded H = tt
  at_goal x z Member H = tt
  at_goal x z Wait H = tt
  at_goal x z Cond H = tt
  at_goal x z Commit H = tt

  at_box : (op : Op) → Local num spell P free Members (Place (box_kind op)) (Push Guards Members)
  unfolding node_words statements_pass
  at_box op l q r e g = (
    cons (choice_box op e.0) g.0,
    ap (λ (u : List Word). Place (box_kind op) ∷ u) (e.1 ∙ ap (λ (u : List Word). nodes_words num e.0 (End ∷ u)) g.1),
    ((and_T (statements_pass_all e.0 P) (statements_pass_all g.0 P)).1 (e.2.0, g.2.0), (e.2.1, g.2.1)),
  )

  pub at_member : (k : Kind) → Local num spell P free Members (Place k) (begun_member k)
  unfolding node_words statements_pass box_kind
  at_member Or = tt
  at_member And = tt
  at_member Guarded = tt
  at_member Member = λ l q r e g. (
    cons (stmt e.0) g.0,
    ap (λ (u : List Word). Place Member ∷ u) (e.1 ∙ ap (λ (u : List Word). stmt_words num e.0 (End ∷ u)) g.1),
    ((and_T (statement_passes P (λ x. true) 0 e.0) (statements_pass_all g.0 P)).1 (passes e.0 e.2, g.2.0), (e.2.2, g.2.1)),
  )
  at_member Wait = at_box wait
  at_member Cond = at_box cond
  at_member Commit = at_box commit

  pub at_guarded : (k : Kind) → Local num spell P free Guards (Place k) (begun_guarded k)
  unfolding node_words statements_pass
  at_guarded Or = tt
  at_guarded And = tt
  at_guarded Guarded = λ l q r e g. (
    cons (guard e.0 e.1) g.0,
    ap (λ (u : List Word). Place Guarded ∷ u) (e.2 ∙ ap (λ (u : List Word). node_words num e.0 (stmt_words num e.1 (End ∷ u))) g.1),
    ((and3 (statements_pass e.0 P) (statement_passes P (λ x. true) 0 e.1) (statements_pass_all g.0 P)).1 (e.3, passes e.1 e.5, g.2.0), ((e.4, e.5.2), g.2.1)),
  )
  at_guarded Member = tt
  at_guarded Wait = tt
  at_guarded Cond = tt
  at_guarded Commit = tt

  pub at_root : (k : Kind) → Local num spell P free Root (Place k) (begun_root k)
  unfolding node_words
  at_root Or = λ l q r e g. (e.0, ap (λ (u : List Word). Place Or ∷ u) (e.1 ∙ ap (λ (u : List Word). nodes_words num e.0 (End ∷ u)) g.0), g.1, e.2)
  at_root And = tt
  at_root Guarded = tt
  at_root Member = tt
  at_root Wait = tt
  at_root Cond = tt
  at_root Commit = tt

  pub at_locals : (s : Sort) → Local num spell P free AndLocals (Inner s) (begun_locals s)
  at_locals Locals = λ l q r e g. (e.0, g.0, g.1, ap (λ (u : List Word). Inner Locals ∷ u) (e.1 ∙ ap (λ (u : List Word). local_words e.0 (End ∷ u)) g.2), g.3, g.4)
  at_locals Store = tt
  at_locals True = tt
  at_locals Fail = tt
  at_locals Eq = tt
  at_locals App = tt
  at_locals Call = tt
  at_locals Comp = tt
  at_locals Hide = tt
  at_locals Clause = tt
  at_locals AskWait = tt
  at_locals AskCond = tt
  at_locals AskCommit = tt

  pub at_store : (s : Sort) → Local num spell P free AndStore (Inner s) (begun_store s)
  at_store Locals = tt
  at_store Store = λ l q r e g. (e.0, g.0, ap (λ (u : List Word). Inner Store ∷ u) (e.1 ∙ ap (λ (u : List Word). store_words num e.0 (End ∷ u)) g.1), e.2, g.2)
  at_store True = tt
  at_store Fail = tt
  at_store Eq = tt
  at_store App = tt
  at_store Call = tt
  at_store Comp = tt
  at_store Hide = tt
  at_store Clause = tt
  at_store AskWait = tt
  at_store AskCond = tt
  at_store AskCommit = tt
