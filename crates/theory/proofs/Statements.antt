-- Statements: opening bound variables, which variables matter, and unfolding of program atoms.
use mathlib.Core.Path.{◌≡◌, refl, ap, sym, ◌∙◌, subst, subst⁻¹}
use mathlib.Core.Logic.{◌↔◌, ◌⊎◌, inl, inr}
use mathlib.Core.List.{List, [], ◌∷◌, ◌++◌, map, append_assoc}
use mathlib.Core.Option.{Option, some, none}
use Prim.Native.Nat.{ℕ, zero, suc, ◌+◌, ◌≤◌, ◌<◌, max}
use native.Mathlib.Omega.{arith}
use lib.ListN.{get_or}
use Rattle.constraint.specs.Tree.{Tree, Forest, node, fcons}
use Rattle.constraint.specs.Constraint.{Con, ctrue, cfail, ceq, capp, map_con, Asg, trees, Sat, In}
use Rattle.constraint.proofs.Lists.{In-append}
use Rattle.akl.specs.Base.{Name, size}
use Rattle.akl.specs.Syntax.{Var, number, level, Stmt, atom, call, comp, hide, choice, Clauses, no_more, clause, Program, defined, open_level, open_var, opened, opened_clauses}
use Rattle.theory.specs.Meaning.{leaf, look, Model, Holds, SomeClause, BodyHolds, Unfolded, Atoms}
use Rattle.akl.specs.WellFormed.{variable_numbers, list_numbers, constraint_numbers, numbers, clauses_numbers}

-- ---------------------------------------------------------------------------------------------
-- Opening: trees for the outermost bound variables, or variables that have these trees.

look_level : (ρ : Asg) (ws : List ℕ) (ts : List Tree) (l : ℕ) → look ρ ts (open_level (map number ws) l) ≡ get_or (map ρ ws ++ ts) l leaf
unfolding open_level
look_level ρ [] ts l = refl
look_level ρ (w ∷ ws) ts zero = refl
look_level ρ (w ∷ ws) ts (suc l) = look_level ρ ws ts l

look_open : (ρ : Asg) (ws : List ℕ) (ts : List Tree) (v : Var) → look ρ ts (open_var (map number ws) v) ≡ look ρ (map ρ ws ++ ts) v
unfolding open_var
look_open ρ ws ts (number x) = refl
look_open ρ ws ts (level l) = look_level ρ ws ts l

pub trees_map : {X Y : Type 0} (f : X → Y) (ρ : Y → Tree) (σ : X → Tree) → ((x : X) → ρ (f x) ≡ σ x) → (xs : List X) → trees ρ (map f xs) ≡ trees σ xs
trees_map f ρ σ h [] = refl
trees_map f ρ σ h (x ∷ xs) = rw (h x, trees_map f ρ σ h xs)

pub map_map : {X Y : Type 0} (f : X → Y) (ρ : Y → Tree) (σ : X → Tree) → ((x : X) → ρ (f x) ≡ σ x) → (xs : List X) → map ρ (map f xs) ≡ map σ xs
map_map f ρ σ h [] = refl
map_map f ρ σ h (x ∷ xs) = rw (h x, map_map f ρ σ h xs)

pub sat_map : {X Y : Type 0} (f : X → Y) (ρ : Y → Tree) (σ : X → Tree) → ((x : X) → ρ (f x) ≡ σ x) → (c : Con X) → Sat σ c ≡ Sat ρ (map_con f c)
sat_map f ρ σ h ctrue = refl
sat_map f ρ σ h cfail = refl
sat_map f ρ σ h (ceq x y) = rw (h x, h y)
sat_map f ρ σ h (capp x g ys) = rw (h x, trees_map f ρ σ h ys)

module _ (Q : Model) (ρ : Asg) (ws : List ℕ) where
  under : (s : Stmt) (ts us : List Tree) → Holds s Q ρ (map ρ ws ++ ts ++ us) ≡ Holds s Q ρ (map ρ ws ++ (ts ++ us))
  under s ts us = ap (Holds s Q ρ) (append_assoc (map ρ ws) ts us)

  mutual
    unfolding opened

    open_holds : (s : Stmt) (ts : List Tree) → Holds s Q ρ (map ρ ws ++ ts) ≡ Holds (opened s (map number ws)) Q ρ ts
    open_holds (atom c) ts = sat_map (open_var (map number ws)) (look ρ ts) (look ρ (map ρ ws ++ ts)) (look_open ρ ws ts) c
    open_holds (call p vs) ts = ap (Q p) (sym (map_map (open_var (map number ws)) (look ρ ts) (look ρ (map ρ ws ++ ts)) (look_open ρ ws ts) vs))
    open_holds (comp a b) ts = λ i. open_holds a ts i × open_holds b ts i
    open_holds (hide m a) ts = λ i. (us : List Tree) × (size us ≡ m) × (under a ts us ∙ open_holds a (ts ++ us)) i
    open_holds (choice op cs) ts = open_some cs ts

    open_some : (cs : Clauses) (ts : List Tree) → SomeClause cs Q ρ (map ρ ws ++ ts) ≡ SomeClause (opened_clauses cs (map number ws)) Q ρ ts
    open_some no_more ts = refl
    open_some (clause m g b cs) ts = λ i. ((us : List Tree) × (size us ≡ m) × (under g ts us ∙ open_holds g (ts ++ us)) i × (under b ts us ∙ open_holds b (ts ++ us)) i) ⊎ open_some cs ts i

  pub open_iff : (s : Stmt) (ts : List Tree) → Holds s Q ρ (map ρ ws ++ ts) ↔ Holds (opened s (map number ws)) Q ρ ts
  open_iff s ts = (subst (λ A. A) (open_holds s ts), subst⁻¹ (λ A. A) (open_holds s ts))

-- ---------------------------------------------------------------------------------------------
-- Only the values of the variables that occur matter.

abbrev pub On : List ℕ → Asg → Asg → Type 0
On xs ρ ρ' = (x : ℕ) → In x xs → ρ x ≡ ρ' x

pub on_left : (xs ys : List ℕ) (ρ ρ' : Asg) → On (xs ++ ys) ρ ρ' → On xs ρ ρ'
on_left xs ys ρ ρ' o x i = o x ((In-append x xs ys).1 (inl i))

pub on_right : (xs ys : List ℕ) (ρ ρ' : Asg) → On (xs ++ ys) ρ ρ' → On ys ρ ρ'
on_right xs ys ρ ρ' o x i = o x ((In-append x xs ys).1 (inr i))

look_on : (ρ ρ' : Asg) (ts : List Tree) (v : Var) → On (variable_numbers v) ρ ρ' → look ρ ts v ≡ look ρ' ts v
look_on ρ ρ' ts (number x) o = o x (inl refl)
look_on ρ ρ' ts (level l) o = refl

trees_on : (ρ ρ' : Asg) (ts : List Tree) (vs : List Var) → On (list_numbers vs) ρ ρ' → trees (look ρ ts) vs ≡ trees (look ρ' ts) vs
unfolding list_numbers
trees_on ρ ρ' ts [] o = refl
trees_on ρ ρ' ts (v ∷ vs) o = rw (look_on ρ ρ' ts v (on_left (variable_numbers v) (list_numbers vs) ρ ρ' o), trees_on ρ ρ' ts vs (on_right (variable_numbers v) (list_numbers vs) ρ ρ' o))

map_on : (ρ ρ' : Asg) (ts : List Tree) (vs : List Var) → On (list_numbers vs) ρ ρ' → map (look ρ ts) vs ≡ map (look ρ' ts) vs
unfolding list_numbers
map_on ρ ρ' ts [] o = refl
map_on ρ ρ' ts (v ∷ vs) o = rw (look_on ρ ρ' ts v (on_left (variable_numbers v) (list_numbers vs) ρ ρ' o), map_on ρ ρ' ts vs (on_right (variable_numbers v) (list_numbers vs) ρ ρ' o))

sat_on : (ρ ρ' : Asg) (ts : List Tree) (c : Con Var) → On (constraint_numbers c) ρ ρ' → Sat (look ρ ts) c → Sat (look ρ' ts) c
sat_on ρ ρ' ts ctrue o s = tt
sat_on ρ ρ' ts cfail o s = s
sat_on ρ ρ' ts (ceq x y) o s = sym (look_on ρ ρ' ts x (on_left (variable_numbers x) (variable_numbers y) ρ ρ' o)) ∙ s ∙ look_on ρ ρ' ts y (on_right (variable_numbers x) (variable_numbers y) ρ ρ' o)
sat_on ρ ρ' ts (capp x f ys) o s = sym (look_on ρ ρ' ts x (on_left (variable_numbers x) (list_numbers ys) ρ ρ' o)) ∙ s ∙ ap (node f) (trees_on ρ ρ' ts ys (on_right (variable_numbers x) (list_numbers ys) ρ ρ' o))

module _ (Q : Model) (ρ ρ' : Asg) where
  mutual
    unfolding numbers

    pub holds_on : (s : Stmt) (ts : List Tree) → On (numbers s) ρ ρ' → Holds s Q ρ ts → Holds s Q ρ' ts
    holds_on (atom c) ts o h = sat_on ρ ρ' ts c o h
    holds_on (call p vs) ts o h = subst (Q p) (map_on ρ ρ' ts vs o) h
    holds_on (comp a b) ts o h = (holds_on a ts (on_left (numbers a) (numbers b) ρ ρ' o) h.0, holds_on b ts (on_right (numbers a) (numbers b) ρ ρ' o) h.1)
    holds_on (hide m a) ts o h = (h.0, h.1, holds_on a (ts ++ h.0) o h.2)
    holds_on (choice op cs) ts o h = some_on cs ts o h

    some_on : (cs : Clauses) (ts : List Tree) → On (clauses_numbers cs) ρ ρ' → SomeClause cs Q ρ ts → SomeClause cs Q ρ' ts
    some_on no_more ts o h = h
    some_on (clause m g b cs) ts o (inl h) =
        let og = on_left (numbers g) (numbers b) ρ ρ' (on_left (numbers g ++ numbers b) (clauses_numbers cs) ρ ρ' o) in
        let ob = on_right (numbers g) (numbers b) ρ ρ' (on_left (numbers g ++ numbers b) (clauses_numbers cs) ρ ρ' o) in
        inl (h.0, h.1, holds_on g (ts ++ h.0) og h.2, holds_on b (ts ++ h.0) ob h.3)
    some_on (clause m g b cs) ts o (inr h) = inr (some_on cs ts (on_right (numbers g ++ numbers b) (clauses_numbers cs) ρ ρ' o) h)

-- ---------------------------------------------------------------------------------------------
-- Program atoms: what holds for finitely many unfoldings of each holds for some number of all.

abbrev Weaker : Model → Model → Type 0
Weaker Q Q' = (p : Name) (ts : List Tree) → Q p ts → Q' p ts

mutual
  holds_more : (s : Stmt) (Q Q' : Model) → Weaker Q Q' → (ρ : Asg) (ts : List Tree) → Holds s Q ρ ts → Holds s Q' ρ ts
  holds_more (atom c) Q Q' m ρ ts h = h
  holds_more (call p vs) Q Q' m ρ ts h = m p (map (look ρ ts) vs) h
  holds_more (comp a b) Q Q' m ρ ts h = (holds_more a Q Q' m ρ ts h.0, holds_more b Q Q' m ρ ts h.1)
  holds_more (hide n a) Q Q' m ρ ts h = (h.0, h.1, holds_more a Q Q' m ρ (ts ++ h.0) h.2)
  holds_more (choice op cs) Q Q' m ρ ts h = some_more cs Q Q' m ρ ts h

  some_more : (cs : Clauses) (Q Q' : Model) → Weaker Q Q' → (ρ : Asg) (ts : List Tree) → SomeClause cs Q ρ ts → SomeClause cs Q' ρ ts
  some_more no_more Q Q' m ρ ts h = h
  some_more (clause n g b cs) Q Q' m ρ ts (inl h) = inl (h.0, h.1, holds_more g Q Q' m ρ (ts ++ h.0) h.2, holds_more b Q Q' m ρ (ts ++ h.0) h.3)
  some_more (clause n g b cs) Q Q' m ρ ts (inr h) = inr (some_more cs Q Q' m ρ ts h)

module _ (P : Program) where
  body_more : (Q Q' : Model) → Weaker Q Q' → (ts : List Tree) (o : Option Stmt) → BodyHolds Q ts o → BodyHolds Q' ts o
  body_more Q Q' m ts none h = h
  body_more Q Q' m ts (some b) h = holds_more b Q Q' m (λ x. leaf) ts h

  one_more : (n : ℕ) → Weaker (Unfolded P n) (Unfolded P (suc n))
  unfolding Unfolded
  one_more zero p ts h = absurd h
  one_more (suc n) p ts h = body_more (Unfolded P n) (Unfolded P (suc n)) (one_more n) ts (defined P p (size ts)) h

  some_more_times : (m n : ℕ) → Weaker (Unfolded P n) (Unfolded P (m + n))
  some_more_times zero n p ts h = subst (λ k. Unfolded P k p ts) (omega arith) h
  some_more_times (suc m) n p ts h = subst (λ k. Unfolded P k p ts) (omega arith) (one_more (m + n) p ts (some_more_times m n p ts h))

  mutual
    enough : (s : Stmt) (ρ : Asg) (ts : List Tree) → Holds s (Atoms P) ρ ts → (n : ℕ) × Holds s (Unfolded P n) ρ ts
    enough (atom c) ρ ts h = (0, h)
    enough (call p vs) ρ ts h = h
    enough (comp a b) ρ ts h =
        let x = enough a ρ ts h.0 in
        let y = enough b ρ ts h.1 in
        (y.0 + x.0, (holds_more a _ _ (some_more_times y.0 x.0) ρ ts x.1, holds_more b _ _ (λ p us k. subst (λ z. Unfolded P z p us) (omega arith) (some_more_times x.0 y.0 p us k)) ρ ts y.1))
    enough (hide m a) ρ ts h = let x = enough a ρ (ts ++ h.0) h.2 in (x.0, (h.0, h.1, x.1))
    enough (choice op cs) ρ ts h = enough_some cs ρ ts h

    enough_some : (cs : Clauses) (ρ : Asg) (ts : List Tree) → SomeClause cs (Atoms P) ρ ts → (n : ℕ) × SomeClause cs (Unfolded P n) ρ ts
    enough_some no_more ρ ts i = elim i [ ]
    enough_some (clause m g b cs) ρ ts (inl h) =
        let x = enough g ρ (ts ++ h.0) h.2 in
        let y = enough b ρ (ts ++ h.0) h.3 in
        (y.0 + x.0, inl (h.0, h.1, holds_more g _ _ (some_more_times y.0 x.0) ρ (ts ++ h.0) x.1, holds_more b _ _ (λ p us k. subst (λ z. Unfolded P z p us) (omega arith) (some_more_times x.0 y.0 p us k)) ρ (ts ++ h.0) y.1))
    enough_some (clause m g b cs) ρ ts (inr h) = let x = enough_some cs ρ ts h in (x.0, inr x.1)

  -- An atom holds exactly when the body of its definition does.
  pub atom_unfolds : (p : Name) (ts : List Tree) → Atoms P p ts ↔ BodyHolds (Atoms P) ts (defined P p (size ts))
  unfolding Unfolded
  atom_unfolds p ts = (λ h. to_it h.0 h.1, λ h. from_it (defined P p (size ts)) refl h)
    where
      to_it : (n : ℕ) → Unfolded P n p ts → BodyHolds (Atoms P) ts (defined P p (size ts))
      to_it zero h = elim h [ ]
      to_it (suc n) h = body_more (Unfolded P n) (Atoms P) (λ r us k. (n, k)) ts (defined P p (size ts)) h

      from_it : (o : Option Stmt) → defined P p (size ts) ≡ o → BodyHolds (Atoms P) ts o → Atoms P p ts
      from_it none e h = elim h [ ]
      from_it (some b) e h = let x = enough b (λ y. leaf) ts h in (suc x.0, subst (BodyHolds (Unfolded P x.0) ts) (sym e) x.1)
