-- A pass over words that asks the same of each variable of a statement, and is then where it was: what it asks of the statement.
use mathlib.Core.Path.{◌≡◌, refl, ap, sym, ◌∙◌}
use mathlib.Core.List.{List, [], ◌∷◌, ◌++◌, map}
use mathlib.Core.Bool.{Bool, true, false, ◌&&◌}
use Prim.Native.Nat.{ℕ, suc}
use Rattle.constraint.specs.Constraint.{Con, ctrue, cfail, ceq, capp, map_con, vars, vars_all}
use Rattle.constraint.specs.Constraint as constraint
use Rattle.akl.specs.Base.{Name, all}
use Rattle.akl.specs.Syntax.{Var, number, level, Op, wait, cond, commit, Stmt, atom, call, comp, hide, choice, Clauses, no_more, clause}
use Rattle.akl.specs.WellFormed.{variable_numbers, list_numbers, constraint_numbers, numbers, clauses_numbers}
use Rattle.mem_words.specs.declared.Word.{Word}
use Rattle.mem_words.specs.declared.Word.TheVariants.{End, Free, Level, Num, Inner}
use Rattle.mem_sorts.specs.declared.Sort.{Sort}
use Rattle.mem_sorts.specs.declared.Sort.TheVariants.{True, Fail, Eq, App, Call, Comp, Hide, Clause}
use Rattle.layout.specs.Layout.{var_word, vars_words, con_words, stmt_words, clauses_words, ask}
use Rattle.store_words.specs.Boxes.{local_words, store_words}
use Rattle.check_words.specs.Frees.{frees, is_locals}

pub and_assoc : (a b c : Bool) → ((a && b) && c) ≡ (a && (b && c))
and_assoc true b c = refl
and_assoc false b c = refl

pub and_true : (a : Bool) → (a && true) ≡ a
and_true true = refl
and_true false = refl

pub all_append : {A : Type 0} (p : A → Bool) (a b : List A) → all p (a ++ b) ≡ (all p a && all p b)
unfolding all
all_append p [] b = refl
all_append p (x ∷ a) b = ap (λ (t : Bool). p x && t) (all_append p a b) ∙ sym (and_assoc (p x) (all p a) (all p b))

pub all_true : {A : Type 0} (l : List A) → all (λ (x : A). true) l ≡ true
unfolding all
all_true [] = refl
all_true (x ∷ l) = all_true l

-- one after another
pub both : (a b c d : Bool) → b ≡ (c && d) → (a && b) ≡ ((a && c) && d)
both a b c d e = ap (λ (t : Bool). a && t) e ∙ sym (and_assoc a c d)

-- the pass at some depth d; p is what it asks of a variable
pub record Walks (run : ℕ → List Word → Bool) (p : ℕ → Bool) : Type 0 where
  pub free : (x d : ℕ) (W : List Word) → run d (Free x ∷ W) ≡ (p x && run d W)
  pub level : (l d : ℕ) (W : List Word) → run d (Level l ∷ W) ≡ run d W
  pub num : (n d : ℕ) (W : List Word) → run d (Num n ∷ W) ≡ run d W
  pub opens : (s : Sort) → is_locals s ≡ false → (d : ℕ) (W : List Word) → run d (Inner s ∷ W) ≡ run (suc d) W
  pub ends : (d : ℕ) (W : List Word) → run (suc d) (End ∷ W) ≡ run d W

ask_plain : (op : Op) → is_locals (ask op) ≡ false
unfolding ask
ask_plain wait = refl
ask_plain cond = refl
ask_plain commit = refl

module _ (run : ℕ → List Word → Bool) (p : ℕ → Bool) (h : Walks run p) where
  var_walk : (d : ℕ) (v : Var) (r : List Word) → run d (var_word v ∷ r) ≡ (all p (variable_numbers v) && run d r)
  unfolding var_word all
  var_walk d (number x) r = h.free x d r ∙ sym (and_assoc (p x) true (run d r))
  var_walk d (level l) r = h.level l d r

  vars_walk : (d : ℕ) (vs : List Var) (r : List Word) → run d (vars_words vs r) ≡ (all p (list_numbers vs) && run d r)
  unfolding vars_words list_numbers all
  vars_walk d [] r = refl
  vars_walk d (v ∷ vs) r =
      var_walk d v (vars_words vs r) ∙ both (all p (variable_numbers v)) (run d (vars_words vs r)) (all p (list_numbers vs)) (run d r) (vars_walk d vs r)
      ∙ ap (λ (t : Bool). t && run d r) (sym (all_append p (variable_numbers v) (list_numbers vs)))

  pub con_walk : (num : Name → ℕ) (d : ℕ) (c : Con Var) (r : List Word) → run d (con_words num c r) ≡ (all p (constraint_numbers c) && run d r)
  unfolding con_words all
  con_walk num d ctrue r = h.opens True refl d (End ∷ r) ∙ h.ends d r
  con_walk num d cfail r = h.opens Fail refl d (End ∷ r) ∙ h.ends d r
  con_walk num d (ceq x y) r =
      h.opens Eq refl d (var_word x ∷ var_word y ∷ End ∷ r)
      ∙ var_walk (suc d) x (var_word y ∷ End ∷ r)
      ∙ both (all p (variable_numbers x)) (run (suc d) (var_word y ∷ End ∷ r)) (all p (variable_numbers y)) (run d r) (var_walk (suc d) y (End ∷ r) ∙ ap (λ (t : Bool). all p (variable_numbers y) && t) (h.ends d r))
      ∙ ap (λ (t : Bool). t && run d r) (sym (all_append p (variable_numbers x) (variable_numbers y)))
  con_walk num d (capp x f ys) r =
      h.opens App refl d (var_word x ∷ Num (num f) ∷ vars_words ys (End ∷ r))
      ∙ var_walk (suc d) x (Num (num f) ∷ vars_words ys (End ∷ r))
      ∙ both (all p (variable_numbers x)) (run (suc d) (Num (num f) ∷ vars_words ys (End ∷ r))) (all p (list_numbers ys)) (run d r)
      (h.num (num f) (suc d) (vars_words ys (End ∷ r)) ∙ vars_walk (suc d) ys (End ∷ r) ∙ ap (λ (t : Bool). all p (list_numbers ys) && t) (h.ends d r))
      ∙ ap (λ (t : Bool). t && run d r) (sym (all_append p (variable_numbers x) (list_numbers ys)))

  mutual
    unfolding stmt_words numbers all

    pub stmt_walk : (num : Name → ℕ) (s : Stmt) (d : ℕ) (r : List Word) → run d (stmt_words num s r) ≡ (all p (numbers s) && run d r)
    stmt_walk num (atom c) d r = con_walk num d c r
    stmt_walk num (call q xs) d r =
        h.opens Call refl d (Num (num q) ∷ vars_words xs (End ∷ r))
        ∙ h.num (num q) (suc d) (vars_words xs (End ∷ r))
        ∙ vars_walk (suc d) xs (End ∷ r)
        ∙ ap (λ (t : Bool). all p (list_numbers xs) && t) (h.ends d r)
    stmt_walk num (comp a b) d r =
        h.opens Comp refl d (stmt_words num a (stmt_words num b (End ∷ r)))
        ∙ stmt_walk num a (suc d) (stmt_words num b (End ∷ r))
        ∙ both (all p (numbers a)) (run (suc d) (stmt_words num b (End ∷ r))) (all p (numbers b)) (run d r) (stmt_walk num b (suc d) (End ∷ r) ∙ ap (λ (t : Bool). all p (numbers b) && t) (h.ends d r))
        ∙ ap (λ (t : Bool). t && run d r) (sym (all_append p (numbers a) (numbers b)))
    stmt_walk num (hide n a) d r =
        h.opens Hide refl d (Num n ∷ stmt_words num a (End ∷ r))
        ∙ h.num n (suc d) (stmt_words num a (End ∷ r))
        ∙ stmt_walk num a (suc d) (End ∷ r)
        ∙ ap (λ (t : Bool). all p (numbers a) && t) (h.ends d r)
    stmt_walk num (choice op cs) d r =
        h.opens (ask op) (ask_plain op) d (clauses_words num cs (End ∷ r))
        ∙ clauses_walk num cs (suc d) (End ∷ r)
        ∙ ap (λ (t : Bool). all p (clauses_numbers cs) && t) (h.ends d r)

    clauses_walk : (num : Name → ℕ) (cs : Clauses) (d : ℕ) (r : List Word) → run d (clauses_words num cs r) ≡ (all p (clauses_numbers cs) && run d r)
    clauses_walk num no_more d r = refl
    clauses_walk num (clause n g b cs) d r =
        let rest = clauses_words num cs r in
        h.opens Clause refl d (Num n ∷ stmt_words num g (stmt_words num b (End ∷ rest)))
        ∙ h.num n (suc d) (stmt_words num g (stmt_words num b (End ∷ rest)))
        ∙ stmt_walk num g (suc d) (stmt_words num b (End ∷ rest))
        ∙ both (all p (numbers g)) (run (suc d) (stmt_words num b (End ∷ rest))) (all p (numbers b)) (run d rest) (stmt_walk num b (suc d) (End ∷ rest) ∙ ap (λ (t : Bool). all p (numbers b) && t) (h.ends d rest))
        ∙ both (all p (numbers g) && all p (numbers b)) (run d rest) (all p (clauses_numbers cs)) (run d r) (clauses_walk num cs d r)
        ∙ ap (λ (t : Bool). (t && all p (clauses_numbers cs)) && run d r) (sym (all_append p (numbers g) (numbers b)))
        ∙ ap (λ (t : Bool). t && run d r) (sym (all_append p (numbers g ++ numbers b) (clauses_numbers cs)))

  -- constraints in a store
  mapped : (ys : List ℕ) → list_numbers (map number ys) ≡ ys
  unfolding list_numbers
  mapped [] = refl
  mapped (y ∷ ys) = ap (λ (l : List ℕ). y ∷ l) (mapped ys)

  stored : (c : Con ℕ) → constraint_numbers (map_con number c) ≡ vars c
  stored ctrue = refl
  stored cfail = refl
  stored (ceq x y) = refl
  stored (capp x f ys) = ap (λ (l : List ℕ). x ∷ l) (mapped ys)

  pub store_walk : (num : Name → ℕ) (σ : constraint.Store) (d : ℕ) (r : List Word) → run d (store_words num σ r) ≡ (all p (vars_all σ) && run d r)
  unfolding store_words vars_all all
  store_walk num [] d r = refl
  store_walk num (c ∷ σ) d r =
      con_walk num d (map_con number c) (store_words num σ r)
      ∙ ap (λ (l : List ℕ). all p l && run d (store_words num σ r)) (stored c)
      ∙ both (all p (vars c)) (run d (store_words num σ r)) (all p (vars_all σ)) (run d r) (store_walk num σ d r)
      ∙ ap (λ (t : Bool). t && run d r) (sym (all_append p (vars c) (vars_all σ)))

  pub locals_walk : (xs : List ℕ) (d : ℕ) (r : List Word) → run d (local_words xs r) ≡ (all p xs && run d r)
  unfolding local_words all
  locals_walk [] d r = refl
  locals_walk (x ∷ xs) d r = h.free x d (local_words xs r) ∙ both (p x) (run d (local_words xs r)) (all p xs) (run d r) (locals_walk xs d r)

-- the locals that stand behind an and-box's opening
pub frees_locals : (vs : List ℕ) (r : List Word) → frees (local_words vs (End ∷ r)) ≡ vs
unfolding frees local_words
frees_locals [] r = refl
frees_locals (x ∷ vs) r = ap (λ (l : List ℕ). x ∷ l) (frees_locals vs r)
