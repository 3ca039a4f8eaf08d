-- What the words are that a frame stands for: the rest of a bracket, with the words behind it.
use mathlib.Core.Path.{◌≡◌}
use mathlib.Core.List.{List, [], ◌∷◌}
use mathlib.Core.Bool.{Bool, ◌||◌}
use Prim.Native.Nat.{ℕ, ◌+◌, ◌≤◌}
use lib.Dec.{T}
use Rattle.constraint.specs.Constraint as constraint
use Rattle.akl.specs.Base.{Name, all, size, is_some}
use Rattle.akl.specs.Limits.{most_arguments, most_depth}
use Rattle.akl.specs.Syntax.{Var, Stmt, Clauses, Program, defined}
use Rattle.akl.specs.Configuration as akl
use Rattle.akl.specs.Configuration.{goal, member, guarded, Node, or, Nodes}
use Rattle.akl.specs.WellFormed.{spelled_name, spelled_digits, spelled_predicate, variable_fits, stored_fits, statement_fits, clauses_fit, some_clause, is_comp, bracketed, depth, clauses_depth, statements_pass, statements_pass_all}
use Rattle.mem_words.specs.declared.Word.{Word}
use Rattle.mem_words.specs.declared.Word.TheVariants.{End, Num, Inner}
use Rattle.mem_sorts.specs.declared.Sort.TheVariants.{Locals, Store}
use Rattle.layout.specs.Layout.{var_word, vars_words, stmt_words, clauses_words, program_words}
use Rattle.layout.specs.Tables.{Spelt, SpeltClauses}
use Rattle.store_words.specs.Boxes.{local_words, store_words, node_words, nodes_words}
use Rattle.store_words.specs.Tables.{SpeltStore, SpeltNode, SpeltNodes}
use Rattle.check_shapes.specs.declared.Frame.{Frame}
use Rattle.check_shapes.specs.declared.Frame.TheVariants as f
use Rattle.check_shapes.specs.declared.Frame.TheVariants.{Close, Var2, Var1, AppVar, AppNum, Args, CallNum, CallArgs, One, Comp2, Clause2, HideNum, ClauseNum, Clauses1, Head, Arity, Body, Root, Done, Goals, AndLocals, AndStore, Members, Constraints, Guards, Guard}

-- what is known of the numbers that pass: each is that of its name
pub record Known (num : Name → ℕ) (spell : ℕ → Name) (P : Program) (con pred : ℕ → Bool) (def : ℕ → ℕ → Bool) : Type 0 where
  pub constructors : (i : ℕ) → T (con i) → (num (spell i) ≡ i) × T (spelled_name (spell i) || spelled_digits (spell i))
  pub predicates : (p : ℕ) → T (pred p) → (num (spell p) ≡ p) × T (spelled_predicate (spell p))
  pub definitions : (p k : ℕ) → T (def p k) → (num (spell p) ≡ p) × T (is_some (defined P (spell p) k))

module _ (num : Name → ℕ) (spell : ℕ → Name) (P : Program) (free : Bool) where
  -- a statement with n variables bound around, of depth d at most
  abbrev pub Fine : ℕ → ℕ → Stmt → Type 0
  Fine n d s = T (statement_fits s P (λ x. free) n) × (depth s ≤ d) × Spelt num spell s

  abbrev pub LeftFine : ℕ → ℕ → Stmt → Type 0
  LeftFine n d s = T (statement_fits s P (λ x. free) n) × (bracketed (is_comp s) (depth s) ≤ d) × Spelt num spell s

  abbrev pub ClausesFine : ℕ → ℕ → Clauses → Type 0
  ClausesFine n d cs = T (clauses_fit cs P (λ x. free) n) × (clauses_depth cs ≤ d) × SpeltClauses num spell cs

  abbrev pub StoreFine : constraint.Store → Type 0
  StoreFine σ = T (all stored_fits σ) × SpeltStore num spell σ

  -- definitions, their names and bodies
  abbrev pub BodiesFine : Program → Type 0
  BodiesFine [] = Unit {0}
  BodiesFine (d ∷ ds) = T (spelled_predicate d.name) × (d.arity ≤ most_arguments) × Fine d.arity most_depth d.body × (spell (num d.name) ≡ d.name) × BodiesFine ds

  abbrev pub NodesFine : {k : akl.Kind} → Nodes k → Type 0
  NodesFine ns = T (statements_pass_all ns P) × SpeltNodes num spell ns

  abbrev pub Rest : Frame → List Word → List Word → Type 0
  Rest Close ws r = ws ≡ End ∷ r
  Rest (Var2 n) ws r = (x : Var) × (y : Var) × (ws ≡ var_word x ∷ var_word y ∷ End ∷ r) × T (variable_fits (λ x. free) n x) × T (variable_fits (λ x. free) n y)
  Rest (Var1 n) ws r = (y : Var) × (ws ≡ var_word y ∷ End ∷ r) × T (variable_fits (λ x. free) n y)
  Rest (AppVar n) ws r = (x : Var) × (g : Name) × (ys : List Var) × (ws ≡ var_word x ∷ Num (num g) ∷ vars_words ys (End ∷ r)) × T (variable_fits (λ x. free) n x) × T (all (variable_fits (λ x. free) n) ys) × (size ys ≤ most_arguments) × T (spelled_name g || spelled_digits g) × (spell (num g) ≡ g)
  Rest (AppNum n) ws r = (g : Name) × (ys : List Var) × (ws ≡ Num (num g) ∷ vars_words ys (End ∷ r)) × T (all (variable_fits (λ x. free) n) ys) × (size ys ≤ most_arguments) × T (spelled_name g || spelled_digits g) × (spell (num g) ≡ g)
  Rest (Args n k) ws r = (ys : List Var) × (ws ≡ vars_words ys (End ∷ r)) × T (all (variable_fits (λ x. free) n) ys) × (size ys ≤ k)
  Rest (CallNum n) ws r = (p : Name) × (xs : List Var) × (ws ≡ Num (num p) ∷ vars_words xs (End ∷ r)) × T (all (variable_fits (λ x. free) n) xs) × (size xs ≤ most_arguments) × T (is_some (defined P p (size xs))) × (spell (num p) ≡ p)
  Rest (CallArgs n p k) ws r = (xs : List Var) × (ws ≡ vars_words xs (End ∷ r)) × T (all (variable_fits (λ x. free) n) xs) × (k ≤ most_arguments → k + size xs ≤ most_arguments) × (num (spell p) ≡ p) × T (is_some (defined P (spell p) (k + size xs)))
  Rest (One n d) ws r = (a : Stmt) × (ws ≡ stmt_words num a (End ∷ r)) × Fine n d a
  Rest (Comp2 n d) ws r = (a : Stmt) × (b : Stmt) × (ws ≡ stmt_words num a (stmt_words num b (End ∷ r))) × LeftFine n d a × Fine n d b
  Rest (Clause2 n d) ws r = (a : Stmt) × (b : Stmt) × (ws ≡ stmt_words num a (stmt_words num b (End ∷ r))) × Fine n d a × Fine n d b
  Rest (HideNum n d) ws r = (m : ℕ) × (a : Stmt) × (ws ≡ Num m ∷ stmt_words num a (End ∷ r)) × (1 ≤ m) × Fine (n + m) d a
  Rest (ClauseNum n d) ws r = (m : ℕ) × (a : Stmt) × (b : Stmt) × (ws ≡ Num m ∷ stmt_words num a (stmt_words num b (End ∷ r))) × Fine (n + m) d a × Fine (n + m) d b
  Rest (Clauses1 n d) ws r = (cs : Clauses) × (ws ≡ clauses_words num cs (End ∷ r)) × ClausesFine n d cs × T (some_clause cs)
  Rest (f.Clauses n d) ws r = (cs : Clauses) × (ws ≡ clauses_words num cs (End ∷ r)) × ClausesFine n d cs
  Rest Head ws r = (Q : Program) × (ws ≡ program_words num Q) × (r ≡ []) × BodiesFine Q
  Rest Arity ws r = (k : ℕ) × (a : Stmt) × (Q : Program) × (ws ≡ Num k ∷ stmt_words num a (program_words num Q)) × (r ≡ []) × (k ≤ most_arguments) × Fine k most_depth a × BodiesFine Q
  Rest (Body n) ws r = (a : Stmt) × (Q : Program) × (ws ≡ stmt_words num a (program_words num Q)) × (r ≡ []) × Fine n most_depth a × BodiesFine Q
  Rest Root ws r = (ns : Nodes goal) × (ws ≡ node_words num (or ns) []) × (r ≡ []) × NodesFine ns
  Rest Done ws r = (ws ≡ []) × (r ≡ [])
  Rest Goals ws r = (ns : Nodes goal) × (ws ≡ nodes_words num ns (End ∷ r)) × NodesFine ns
  Rest AndLocals ws r = (vs : List ℕ) × (σ : constraint.Store) × (ms : Nodes member) × (ws ≡ Inner Locals ∷ local_words vs (End ∷ Inner Store ∷ store_words num σ (End ∷ nodes_words num ms (End ∷ r)))) × StoreFine σ × NodesFine ms
  Rest AndStore ws r = (σ : constraint.Store) × (ms : Nodes member) × (ws ≡ Inner Store ∷ store_words num σ (End ∷ nodes_words num ms (End ∷ r))) × StoreFine σ × NodesFine ms
  Rest Members ws r = (ms : Nodes member) × (ws ≡ nodes_words num ms (End ∷ r)) × NodesFine ms
  Rest f.Locals ws r = (vs : List ℕ) × (ws ≡ local_words vs (End ∷ r))
  Rest Constraints ws r = (σ : constraint.Store) × (ws ≡ store_words num σ (End ∷ r)) × StoreFine σ
  Rest Guards ws r = (gs : Nodes guarded) × (ws ≡ nodes_words num gs (End ∷ r)) × NodesFine gs
  Rest Guard ws r = (g : Node goal) × (b : Stmt) × (ws ≡ node_words num g (stmt_words num b (End ∷ r))) × T (statements_pass g P) × SpeltNode num spell g × Fine 0 most_depth b
