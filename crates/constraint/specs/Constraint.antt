-- Constraints, and what document 01 says of them by the trees that satisfy them.
use Rattle.std.specs.Prelude.{◌≡◌, ◌⊎◌, List, [], ◌∷◌, ◌++◌, map, ℕ}
use Rattle.constraint.specs.Tree.{Label, Tree, Forest, node, fnil, fcons}

-- "A constraint atom has one of four kinds: `true`, `fail`, variable = variable, variable = constructor."
-- X is the type of variables: numbers in a store; numbers and bound variables in a statement; names in a text.
-- `capp x f ys` is x = f(ys), where ys is empty for a constructor that is a name alone.
pub data Con (X : Type 0) : Type 0 where
  ctrue cfail : Con X
  ceq : X → X → Con X
  capp : X → Label → List X → Con X

-- The same constraint of other variables.
abbrev pub map_con : {X Y : Type 0} → (X → Y) → Con X → Con Y
map_con f ctrue = ctrue
map_con f cfail = cfail
map_con f (ceq x y) = ceq (f x) (f y)
map_con f (capp x g ys) = capp (f x) g (map f ys)

-- A store of constraints, over variable numbers.
abbrev pub Store : Type 0
Store = List (Con ℕ)

-- An assignment of trees to variable numbers.
abbrev pub Asg : Type 0
Asg = ℕ → Tree

abbrev pub trees : {X : Type 0} → (X → Tree) → List X → Forest
trees ρ [] = fnil
trees ρ (y ∷ ys) = fcons (ρ y) (trees ρ ys)

-- The assignment satisfies the constraint.
abbrev pub Sat : {X : Type 0} → (X → Tree) → Con X → Type 0
Sat ρ ctrue = Unit {0}
Sat ρ cfail = ⊥
Sat ρ (ceq x y) = ρ x ≡ ρ y
Sat ρ (capp x f ys) = ρ x ≡ node f (trees ρ ys)

abbrev pub Sats : Asg → Store → Type 0
Sats ρ [] = Unit {0}
Sats ρ (c ∷ cs) = Sat ρ c × Sats ρ cs

-- Some assignment satisfies all of the store.
abbrev pub Satisfiable : Store → Type 0
Satisfiable σ = (ρ : Asg) × Sats ρ σ

-- x is one of the list.
abbrev pub In : ℕ → List ℕ → Type 0
In x [] = ⊥
In x (y ∷ ys) = (x ≡ y) ⊎ In x ys

-- The two assignments differ at most on vs: one is the other "after some choice of values for" vs.
abbrev pub Off : List ℕ → Asg → Asg → Type 0
Off vs ρ ρ' = (x : ℕ) → ¬ In x vs → ρ x ≡ ρ' x

-- "A constraint with locals V is quiet for an environment when each assignment that satisfies the environment
-- satisfies it too after some choice of values for V." No assignment satisfies an environment without solutions,
-- so that "an environment without solutions makes everything quiet".
abbrev pub Quiet : List ℕ → Store → Store → Type 0
Quiet vs env σ = (ρ : Asg) → Sats ρ env → (ρ' : Asg) × Off vs ρ ρ' × Sats ρ' σ

-- The variables of a constraint, and of a store.
abbrev pub vars : Con ℕ → List ℕ
vars ctrue = []
vars cfail = []
vars (ceq x y) = x ∷ y ∷ []
vars (capp x f ys) = x ∷ ys

unfoldable pub vars_all : Store → List ℕ
vars_all [] = []
vars_all (c ∷ σ) = vars c ++ vars_all σ

-- No variable of vs is in ws; in the store.
abbrev pub Apart : List ℕ → List ℕ → Type 0
Apart vs ws = (x : ℕ) → In x ws → ¬ In x vs

abbrev pub Fresh : List ℕ → Store → Type 0
Fresh vs [] = Unit {0}
Fresh vs (c ∷ cs) = Apart vs (vars c) × Fresh vs cs
