-- Only layouts are read: what is read of numbered words is laid out at their front, with its names spelt and the rest numbered.
use mathlib.Core.Path.{◌≡◌, refl, ap, ap₂, sym, ◌∙◌, subst}
use mathlib.Core.List.{List, [], ◌∷◌}
use mathlib.Core.Option.{some}
use Prim.Native.Nat.{ℕ, zero, suc}
use lib.ListN.{length}
use Rattle.constraint.specs.Constraint.{ctrue, cfail, ceq}
use Rattle.akl.specs.Base.{Name, ◌>>=◌}
use Rattle.akl.specs.Syntax.{Op, wait, cond, commit, Stmt, atom, comp, hide, choice, Clauses, Program}
use Rattle.mem_words.specs.declared.Word.{Word}
use Rattle.mem_words.specs.declared.Word.TheVariants.{End, Free, Level, Num, Place, Inner, Bad}
use Rattle.mem_sorts.specs.declared.Sort.{Sort}
use Rattle.mem_sorts.specs.declared.Sort.TheVariants.{Locals, Store, True, Fail, Eq, App, Call, Comp, Hide, Clause, AskWait, AskCond, AskCommit}
use Rattle.layout.specs.Layout.{var_word, ask, con_words, stmt_words, clauses_words, program_words}
use Rattle.layout.specs.Reading.{Read, an_end, a_number, a_var, an_opening, vars_from, inside, a_clause, some_clauses, stmt_from, clauses_from, program_from, read_stmt, read_program}
use Rattle.layout.specs.Tables.{Spelt, SpeltClauses, SpeltProgram, Names, SecondNames, Heads, Numbered}
use Rattle.layout.proofs.Parts.{Good, bind, taken, IsEnd, IsNumber, IsVar, IsOpening, IsVars, end_good, number_good, var_good, opening_good, vars_good, behind, behind_vars}

abbrev IsStmt : (Name → ℕ) → (ℕ → Name) → List Word → Stmt × List Word → Type 0
IsStmt num spell ws x = (ws ≡ stmt_words num x.0 x.1) × Spelt num spell x.0 × Numbered num spell x.1

abbrev IsClauses : (Name → ℕ) → (ℕ → Name) → List Word → Clauses × List Word → Type 0
IsClauses num spell ws x = (ws ≡ clauses_words num x.0 (End ∷ x.1)) × SpeltClauses num spell x.0 × Numbered num spell x.1

-- readers that read only layouts
abbrev Stmts : (Name → ℕ) → (ℕ → Name) → (List Word → Read Stmt) → Type 0
Stmts num spell st = (ws : List Word) → Numbered num spell ws → Good (IsStmt num spell ws) (st ws)

abbrev Parted : (Name → ℕ) → (ℕ → Name) → (List Word → Read Clauses) → Type 0
Parted num spell cl = (ws : List Word) → Numbered num spell ws → Good (IsClauses num spell ws) (cl ws)

-- the End of a statement
closed : (num : Name → ℕ) (spell : ℕ → Name) (s : Stmt) (ws r : List Word) (front : List Word → List Word) → ((u : List Word) → front (End ∷ u) ≡ stmt_words num s u) → ws ≡ front r → Spelt num spell s → Numbered num spell r → Good (IsStmt num spell ws) (an_end r >>= λ u. some (s, u))
closed num spell s ws r front q e k h = bind (IsEnd r) (IsStmt num spell ws) (an_end r) _ (end_good r) (λ u d. (e ∙ ap front d ∙ q u, k, behind num spell r u End d h))

choice_good : (num : Name → ℕ) (spell : ℕ → Name) (cl : List Word → Read Clauses) → Parted num spell cl → (op : Op) (r : List Word) → Numbered num spell r → Good (IsStmt num spell (Inner (ask op) ∷ r)) (cl r >>= λ cs. some (choice op cs.0, cs.1))
unfolding stmt_words
choice_good num spell cl c op r h = bind (IsClauses num spell r) (IsStmt num spell (Inner (ask op) ∷ r)) (cl r) _ (c r h) (λ cs e. (ap (λ (u : List Word). Inner (ask op) ∷ u) e.0, e.1, e.2))

inside_good : (num : Name → ℕ) (spell : ℕ → Name) (st : List Word → Read Stmt) (cl : List Word → Read Clauses) → Stmts num spell st → Parted num spell cl → (k : Sort) (r : List Word) → Numbered num spell (Inner k ∷ r) → Good (IsStmt num spell (Inner k ∷ r)) (inside spell st cl k r)
unfolding inside stmt_words con_words ask
inside_good num spell st cl a c Locals r h = tt
inside_good num spell st cl a c Store r h = tt
inside_good num spell st cl a c True r h = closed num spell (atom ctrue) (Inner True ∷ r) r (λ u. Inner True ∷ u) (λ u. refl) refl tt h.1
inside_good num spell st cl a c Fail r h = closed num spell (atom cfail) (Inner Fail ∷ r) r (λ u. Inner Fail ∷ u) (λ u. refl) refl tt h.1
inside_good num spell st cl a c Eq r h =
    bind (IsVar r) (IsStmt num spell (Inner Eq ∷ r)) (a_var r) _ (var_good r) (λ x ex.
    bind (IsVar x.1) (IsStmt num spell (Inner Eq ∷ r)) (a_var x.1) _ (var_good x.1) (λ y ey.
    closed num spell (atom (ceq x.0 y.0)) (Inner Eq ∷ r) y.1 (λ u. Inner Eq ∷ var_word x.0 ∷ var_word y.0 ∷ u) (λ u. refl)
    (ap (λ (u : List Word). Inner Eq ∷ u) (ex ∙ ap (λ (u : List Word). var_word x.0 ∷ u) ey)) tt
    (behind num spell x.1 y.1 (var_word y.0) ey (behind num spell r x.1 (var_word x.0) ex h.1))))
inside_good num spell st cl a c App r h =
    bind (IsVar r) (IsStmt num spell (Inner App ∷ r)) (a_var r) _ (var_good r) (λ x ex.
    bind (IsNumber x.1) (IsStmt num spell (Inner App ∷ r)) (a_number x.1) _ (number_good x.1) (λ f ef.
    bind (IsVars f.1) (IsStmt num spell (Inner App ∷ r)) (vars_from f.1) _ (vars_good f.1) (λ ys ey.
    let names : Names num spell x.1 = subst (SecondNames num spell) ex h.0 in
    let known : num (spell f.0) ≡ f.0 = subst (Names num spell) ef names in
    let rest : Numbered num spell f.1 = behind num spell x.1 f.1 (Num f.0) ef (behind num spell r x.1 (var_word x.0) ex h.1) in (
      ap (λ (u : List Word). Inner App ∷ u) (ex ∙ ap (λ (u : List Word). var_word x.0 ∷ u) (ef ∙ ap₂ (λ (i : ℕ) (u : List Word). Num i ∷ u) (sym known) ey)),
      ap spell known,
      behind_vars num spell ys.0 ys.1 (subst (Numbered num spell) ey rest),
    ))))
inside_good num spell st cl a c Call r h =
    bind (IsNumber r) (IsStmt num spell (Inner Call ∷ r)) (a_number r) _ (number_good r) (λ p ep.
    bind (IsVars p.1) (IsStmt num spell (Inner Call ∷ r)) (vars_from p.1) _ (vars_good p.1) (λ xs e.
    let known : num (spell p.0) ≡ p.0 = subst (Names num spell) ep h.0 in (
      ap (λ (u : List Word). Inner Call ∷ u) (ep ∙ ap₂ (λ (i : ℕ) (u : List Word). Num i ∷ u) (sym known) e),
      ap spell known,
      behind_vars num spell xs.0 xs.1 (subst (Numbered num spell) e (behind num spell r p.1 (Num p.0) ep h.1)),
    )))
inside_good num spell st cl a c Comp r h =
    bind (IsStmt num spell r) (IsStmt num spell (Inner Comp ∷ r)) (st r) _ (a r h.1) (λ x ex.
    bind (IsStmt num spell x.1) (IsStmt num spell (Inner Comp ∷ r)) (st x.1) _ (a x.1 ex.2) (λ y ey.
    closed num spell (comp x.0 y.0) (Inner Comp ∷ r) y.1 (λ u. Inner Comp ∷ stmt_words num x.0 (stmt_words num y.0 u)) (λ u. refl)
    (ap (λ (u : List Word). Inner Comp ∷ u) (ex.0 ∙ ap (λ (u : List Word). stmt_words num x.0 u) ey.0)) (ex.1, ey.1) ey.2))
inside_good num spell st cl a c Hide r h =
    bind (IsNumber r) (IsStmt num spell (Inner Hide ∷ r)) (a_number r) _ (number_good r) (λ n en.
    bind (IsStmt num spell n.1) (IsStmt num spell (Inner Hide ∷ r)) (st n.1) _ (a n.1 (behind num spell r n.1 (Num n.0) en h.1)) (λ x ex.
    closed num spell (hide n.0 x.0) (Inner Hide ∷ r) x.1 (λ u. Inner Hide ∷ Num n.0 ∷ stmt_words num x.0 u) (λ u. refl)
    (ap (λ (u : List Word). Inner Hide ∷ u) (en ∙ ap (λ (u : List Word). Num n.0 ∷ u) ex.0)) ex.1 ex.2))
inside_good num spell st cl a c Clause r h = tt
inside_good num spell st cl a c AskWait r h = choice_good num spell cl c wait r h.1
inside_good num spell st cl a c AskCond r h = choice_good num spell cl c cond r h.1
inside_good num spell st cl a c AskCommit r h = choice_good num spell cl c commit r h.1

clause_good : (num : Name → ℕ) (spell : ℕ → Name) (st : List Word → Read Stmt) (cl : List Word → Read Clauses) → Stmts num spell st → Parted num spell cl → (k : Sort) (r : List Word) → Numbered num spell (Inner k ∷ r) → Good (IsClauses num spell (Inner k ∷ r)) (a_clause st cl k r)
unfolding a_clause stmt_words
clause_good num spell st cl a c Locals r h = tt
clause_good num spell st cl a c Store r h = tt
clause_good num spell st cl a c True r h = tt
clause_good num spell st cl a c Fail r h = tt
clause_good num spell st cl a c Eq r h = tt
clause_good num spell st cl a c App r h = tt
clause_good num spell st cl a c Call r h = tt
clause_good num spell st cl a c Comp r h = tt
clause_good num spell st cl a c Hide r h = tt
clause_good num spell st cl a c Clause r h =
    bind (IsNumber r) (IsClauses num spell (Inner Clause ∷ r)) (a_number r) _ (number_good r) (λ n en.
    bind (IsStmt num spell n.1) (IsClauses num spell (Inner Clause ∷ r)) (st n.1) _ (a n.1 (behind num spell r n.1 (Num n.0) en h.1)) (λ x ex.
    bind (IsStmt num spell x.1) (IsClauses num spell (Inner Clause ∷ r)) (st x.1) _ (a x.1 ex.2) (λ y ey.
    bind (IsEnd y.1) (IsClauses num spell (Inner Clause ∷ r)) (an_end y.1) _ (end_good y.1) (λ u eu.
    bind (IsClauses num spell u) (IsClauses num spell (Inner Clause ∷ r)) (cl u) _ (c u (behind num spell y.1 u End eu ey.2)) (λ cs e. (
      ap (λ (l : List Word). Inner Clause ∷ l) (en ∙ ap (λ (l : List Word). Num n.0 ∷ l) (ex.0 ∙ ap (λ (l : List Word). stmt_words num x.0 l) (ey.0 ∙ ap (λ (l : List Word). stmt_words num y.0 l) (eu ∙ ap (λ (l : List Word). End ∷ l) e.0)))),
      (ex.1, ey.1, e.1),
      e.2,
    ))))))
clause_good num spell st cl a c AskWait r h = tt
clause_good num spell st cl a c AskCond r h = tt
clause_good num spell st cl a c AskCommit r h = tt

clauses_good : (num : Name → ℕ) (spell : ℕ → Name) (st : List Word → Read Stmt) (cl : List Word → Read Clauses) → Stmts num spell st → Parted num spell cl → Parted num spell (some_clauses st cl)
unfolding some_clauses stmt_words
clauses_good num spell st cl a c [] h = tt
clauses_good num spell st cl a c (End ∷ r) h = (refl, tt, h.1)
clauses_good num spell st cl a c (Free x ∷ r) h = tt
clauses_good num spell st cl a c (Level l ∷ r) h = tt
clauses_good num spell st cl a c (Num n ∷ r) h = tt
clauses_good num spell st cl a c (Place k ∷ r) h = tt
clauses_good num spell st cl a c (Inner s ∷ r) h = clause_good num spell st cl a c s r h
clauses_good num spell st cl a c (Bad ∷ r) h = tt

mutual
  unfolding stmt_from

  stmt_good : (num : Name → ℕ) (spell : ℕ → Name) (n : ℕ) (ws : List Word) → Numbered num spell ws → Good (IsStmt num spell ws) (stmt_from spell n ws)
  stmt_good num spell zero ws h = tt
  stmt_good num spell (suc n) ws h =
      bind (IsOpening ws) (IsStmt num spell ws) (an_opening ws) _ (opening_good ws) (λ k e.
      subst (λ (l : List Word). Good (IsStmt num spell l) (inside spell (λ u. stmt_from spell n u) (λ u. clauses_from spell n u) k.0 k.1)) (sym e)
      (inside_good num spell (λ u. stmt_from spell n u) (λ u. clauses_from spell n u) (λ u g. stmt_good num spell n u g) (λ u g. parted_good num spell n u g) k.0 k.1 (subst (Numbered num spell) e h)))

  parted_good : (num : Name → ℕ) (spell : ℕ → Name) (n : ℕ) (ws : List Word) → Numbered num spell ws → Good (IsClauses num spell ws) (clauses_from spell n ws)
  parted_good num spell zero ws h = tt
  parted_good num spell (suc n) ws h = clauses_good num spell (λ u. stmt_from spell n u) (λ u. clauses_from spell n u) (λ u g. stmt_good num spell n u g) (λ u g. parted_good num spell n u g) ws h

-- What reads back is a layout.
pub stmt_laid : (num : Name → ℕ) (spell : ℕ → Name) (n : ℕ) (ws r : List Word) (s : Stmt) → stmt_from spell n ws ≡ some (s, r) → Numbered num spell ws → ws ≡ stmt_words num s r
stmt_laid num spell n ws r s e h = (taken (IsStmt num spell ws) (stmt_from spell n ws) (s, r) (stmt_good num spell n ws h) e).0

-- Its names are spelt, and the words behind it are numbered again.
pub stmt_spelt : (num : Name → ℕ) (spell : ℕ → Name) (n : ℕ) (ws r : List Word) (s : Stmt) → stmt_from spell n ws ≡ some (s, r) → Numbered num spell ws → Spelt num spell s × Numbered num spell r
stmt_spelt num spell n ws r s e h = let t = taken (IsStmt num spell ws) (stmt_from spell n ws) (s, r) (stmt_good num spell n ws h) e in (t.1, t.2)

abbrev IsProgram : (Name → ℕ) → (ℕ → Name) → List Word → Program → Type 0
IsProgram num spell ws ds = (ws ≡ program_words num ds) × SpeltProgram num spell ds

program_good : (num : Name → ℕ) (spell : ℕ → Name) (n : ℕ) (ws : List Word) → Numbered num spell ws → Good (IsProgram num spell ws) (program_from spell n ws)
unfolding program_from program_words
program_good num spell zero ws h = tt
program_good num spell (suc n) [] h = (refl, tt)
program_good num spell (suc n) (w ∷ ws) h =
    bind (IsNumber (w ∷ ws)) (IsProgram num spell (w ∷ ws)) (a_number (w ∷ ws)) _ (number_good (w ∷ ws)) (λ p ep.
    bind (IsNumber p.1) (IsProgram num spell (w ∷ ws)) (a_number p.1) _ (number_good p.1) (λ k ek.
    let head : Numbered num spell (Num p.0 ∷ p.1) = subst (Numbered num spell) ep h in
    let known : num (spell p.0) ≡ p.0 = subst (Heads num spell p.0) ek head.0 in
    bind (IsStmt num spell k.1) (IsProgram num spell (w ∷ ws)) (stmt_from spell n k.1) _ (stmt_good num spell n k.1 (behind num spell p.1 k.1 (Num k.0) ek head.1)) (λ s es.
    bind (IsProgram num spell s.1) (IsProgram num spell (w ∷ ws)) (program_from spell n s.1) _ (program_good num spell n s.1 es.2) (λ ds e. (
      ep ∙ ap₂ (λ (i : ℕ) (l : List Word). Num i ∷ l) (sym known) (ek ∙ ap (λ (l : List Word). Num k.0 ∷ l) (es.0 ∙ ap (λ (l : List Word). stmt_words num s.0 l) e.0)),
      (ap spell known, es.1, e.1),
    )))))

pub program_laid : (num : Name → ℕ) (spell : ℕ → Name) (n : ℕ) (ws : List Word) (P : Program) → program_from spell n ws ≡ some P → Numbered num spell ws → ws ≡ program_words num P
program_laid num spell n ws P e h = (taken (IsProgram num spell ws) (program_from spell n ws) P (program_good num spell n ws h) e).0

pub program_spelt : (num : Name → ℕ) (spell : ℕ → Name) (n : ℕ) (ws : List Word) (P : Program) → program_from spell n ws ≡ some P → Numbered num spell ws → SpeltProgram num spell P
program_spelt num spell n ws P e h = (taken (IsProgram num spell ws) (program_from spell n ws) P (program_good num spell n ws h) e).1

-- The same of the readers without a bound.
pub stmt_only : (num : Name → ℕ) (spell : ℕ → Name) (ws r : List Word) (s : Stmt) → read_stmt spell ws ≡ some (s, r) → Numbered num spell ws → ws ≡ stmt_words num s r
unfolding read_stmt
stmt_only num spell ws r s e h = stmt_laid num spell (length ws) ws r s e h

pub program_only : (num : Name → ℕ) (spell : ℕ → Name) (ws : List Word) (P : Program) → read_program spell ws ≡ some P → Numbered num spell ws → ws ≡ program_words num P
unfolding read_program
program_only num spell ws P e h = program_laid num spell (suc (length ws)) ws P e h
