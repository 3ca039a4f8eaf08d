-- The numbers in statements, opened and stored.
use mathlib.Core.Path.{◌≡◌, refl, ap, sym, ◌∙◌, subst}
use mathlib.Core.Logic.{◌↔◌, ◌⊎◌, inl, inr}
use mathlib.Core.List.{List, [], ◌∷◌, ◌++◌, map}
use mathlib.Core.Bool.{Bool, true, false, ◌&&◌, ◌||◌}
use Prim.Native.Nat.{ℕ, zero, suc}
use lib.Dec.{T}
use Rattle.constraint.specs.Constraint.{Con, ctrue, cfail, ceq, capp, map_con, In, vars, vars_all}
use Rattle.constraint.proofs.Lists.{In-append, and_T}
use Rattle.akl.specs.Base.{all, range}
use Rattle.akl.specs.Syntax.{Var, number, level, Stmt, atom, call, comp, hide, choice, Clauses, no_more, clause, open_level, open_var, opened, opened_clauses}
use Rattle.akl.specs.Rules.{number_of, stored, fresh}
use Rattle.akl.specs.WellFormed.{variable_numbers, list_numbers, constraint_numbers, numbers, clauses_numbers, variable_fits, constraint_fits, few, spelled_name, spelled_digits}
use Rattle.theory.specs.Scope.{Sub}
use Rattle.theory.proofs.Closed.{any_number, ClosedVar, ClosedList, ClosedCon}

-- an opened statement has its own numbers and those of the variables put in
module _ (vs : List Var) (x : ℕ) where
  abbrev From : List ℕ → Type 0
  From l = In x l ⊎ In x (list_numbers vs)

  level_numbers : (us : List Var) (l : ℕ) → In x (variable_numbers (open_level us l)) → In x (list_numbers us)
  unfolding open_level list_numbers
  level_numbers [] l i = absurd i
  level_numbers (u ∷ us) zero i = (In-append x (variable_numbers u) (list_numbers us)).1 (inl i)
  level_numbers (u ∷ us) (suc l) i = (In-append x (variable_numbers u) (list_numbers us)).1 (inr (level_numbers us l i))

  var_opened : (v : Var) → In x (variable_numbers (open_var vs v)) → From (variable_numbers v)
  unfolding open_var
  var_opened (number y) i = inl i
  var_opened (level l) i = inr (level_numbers vs l i)

  join : (a b : List ℕ) → From a ⊎ From b → From (a ++ b)
  join a b (inl (inl i)) = inl ((In-append x a b).1 (inl i))
  join a b (inl (inr i)) = inr i
  join a b (inr (inl i)) = inl ((In-append x a b).1 (inr i))
  join a b (inr (inr i)) = inr i

  list_opened : (us : List Var) → In x (list_numbers (map (open_var vs) us)) → From (list_numbers us)
  unfolding list_numbers
  list_opened [] i = absurd i
  list_opened (u ∷ us) i = join (variable_numbers u) (list_numbers us) (elim ((In-append x (variable_numbers (open_var vs u)) (list_numbers (map (open_var vs) us))).0 i) [ inl j ↦ inl (var_opened u j) | inr j ↦ inr (list_opened us j) ])

  con_opened : (c : Con Var) → In x (constraint_numbers (map_con (open_var vs) c)) → From (constraint_numbers c)
  con_opened ctrue i = absurd i
  con_opened cfail i = absurd i
  con_opened (ceq u v) i = join (variable_numbers u) (variable_numbers v) (elim ((In-append x (variable_numbers (open_var vs u)) (variable_numbers (open_var vs v))).0 i) [ inl j ↦ inl (var_opened u j) | inr j ↦ inr (var_opened v j) ])
  con_opened (capp u f us) i = join (variable_numbers u) (list_numbers us) (elim ((In-append x (variable_numbers (open_var vs u)) (list_numbers (map (open_var vs) us))).0 i) [ inl j ↦ inl (var_opened u j) | inr j ↦ inr (list_opened us j) ])

  mutual
    unfolding numbers opened

    pub numbers_opened : (s : Stmt) → In x (numbers (opened s vs)) → In x (numbers s) ⊎ In x (list_numbers vs)
    numbers_opened (atom c) i = con_opened c i
    numbers_opened (call p us) i = list_opened us i
    numbers_opened (comp a b) i = join (numbers a) (numbers b) (elim ((In-append x (numbers (opened a vs)) (numbers (opened b vs))).0 i) [ inl j ↦ inl (numbers_opened a j) | inr j ↦ inr (numbers_opened b j) ])
    numbers_opened (hide n a) i = numbers_opened a i
    numbers_opened (choice op cs) i = clauses_opened cs i

    clauses_opened : (cs : Clauses) → In x (clauses_numbers (opened_clauses cs vs)) → In x (clauses_numbers cs) ⊎ In x (list_numbers vs)
    clauses_opened no_more i = absurd i
    clauses_opened (clause n g b cs) i = join (numbers g ++ numbers b) (clauses_numbers cs) (elim ((In-append x (numbers (opened g vs) ++ numbers (opened b vs)) (clauses_numbers (opened_clauses cs vs))).0 i) [ inl j ↦ inl (join (numbers g) (numbers b) (elim ((In-append x (numbers (opened g vs)) (numbers (opened b vs))).0 j) [ inl m ↦ inl (numbers_opened g m) | inr m ↦ inr (numbers_opened b m) ])) | inr j ↦ inr (clauses_opened cs j) ])

numbers_map : (ws : List ℕ) (x : ℕ) → In x (list_numbers (map number ws)) → In x ws
unfolding list_numbers
numbers_map [] x i = elim i [ ]
numbers_map (w ∷ ws) x (inl e) = inl e
numbers_map (w ∷ ws) x (inr i) = inr (numbers_map ws x i)

-- with fresh variables put in
pub fresh_opened : (s : Stmt) (N n x : ℕ) → In x (numbers (opened s (fresh N n))) → In x (numbers s) ⊎ In x (range N n)
fresh_opened s N n x i = elim (numbers_opened (fresh N n) x s i) [ inl j ↦ inl j | inr j ↦ inr (numbers_map (range N n) x j) ]

-- what is stored has the atom's numbers
var_stored : (v : Var) → ClosedVar v → (x : ℕ) → x ≡ number_of v → In x (variable_numbers v)
var_stored (number y) c x e = inl e
var_stored (level l) c x e = absurd (no_level l c)
  where
    no_level : (l : ℕ) → T (lib.Dec.ltb l 0) → ⊥
    no_level l t = native.Mathlib.Nat.not-suc-le-zero (lib.Dec.ltb→lt l 0 t)

list_stored : (vs : List Var) → ClosedList vs → (x : ℕ) → In x (map number_of vs) → In x (list_numbers vs)
unfolding all list_numbers
list_stored [] c x i = elim i [ ]
list_stored (v ∷ vs) c x (inl e) = (In-append x (variable_numbers v) (list_numbers vs)).1 (inl (var_stored v ((and_T (variable_fits any_number 0 v) (all (variable_fits any_number 0) vs)).0 c).0 x e))
list_stored (v ∷ vs) c x (inr i) = (In-append x (variable_numbers v) (list_numbers vs)).1 (inr (list_stored vs ((and_T (variable_fits any_number 0 v) (all (variable_fits any_number 0) vs)).0 c).1 x i))

pub stored_numbers : (c : Con Var) → ClosedCon c → Sub (vars_all (stored c)) (constraint_numbers c)
unfolding vars_all
stored_numbers ctrue k x i = i
stored_numbers cfail k x i = i
stored_numbers (ceq u v) k x i = go i ((and_T (variable_fits any_number 0 u) (variable_fits any_number 0 v)).0 k)
  where
    go : In x (number_of u ∷ number_of v ∷ []) → ClosedVar u × ClosedVar v → In x (variable_numbers u ++ variable_numbers v)
    go (inl e) h = (In-append x (variable_numbers u) (variable_numbers v)).1 (inl (var_stored u h.0 x e))
    go (inr (inr i)) h = elim i [ ]
    go (inr (inl e)) h = (In-append x (variable_numbers u) (variable_numbers v)).1 (inr (var_stored v h.1 x e))
stored_numbers (capp u f ys) k x i = go i c1
  where
    c3 : T (variable_fits any_number 0 u && all (variable_fits any_number 0) ys && few ys) × T (spelled_name f || spelled_digits f)
    c3 = (and_T (variable_fits any_number 0 u && all (variable_fits any_number 0) ys && few ys) (spelled_name f || spelled_digits f)).0 k

    c1 : ClosedVar u × ClosedList ys
    c1 = (and_T (variable_fits any_number 0 u) (all (variable_fits any_number 0) ys)).0 ((and_T (variable_fits any_number 0 u && all (variable_fits any_number 0) ys) (few ys)).0 c3.0).0

    go : In x (number_of u ∷ (map number_of ys ++ [])) → ClosedVar u × ClosedList ys → In x (variable_numbers u ++ list_numbers ys)
    go (inl e) h = (In-append x (variable_numbers u) (list_numbers ys)).1 (inl (var_stored u h.0 x e))
    go (inr j) h = (In-append x (variable_numbers u) (list_numbers ys)).1 (inr (list_stored ys h.1 x (elim ((In-append x (map number_of ys) []).0 j) [ inl m ↦ m | inr m ↦ absurd m ])))
