-- Decisions that compute: is a store satisfiable, is it quiet. That they decide Satisfiable and Quiet is proved
-- in proofs/Decision.antt and proofs/Renamed.antt. The solved form St is used once more: an answer's text is read off it.
--
-- Variables that must be equal form a class with one representative; a class may be bound to one constructor term.
-- Constraints are told one by one: two classes are merged, a class is bound, or two terms for one class are compared
-- and their arguments told equal. A class whose term holds the class itself, at any depth, has no finite tree.
use Rattle.std.specs.Prelude.{◌≡◌, refl, List, [], ◌∷◌, ◌++◌, map, Bool, true, false, ◌&&◌, ◌||◌, not, ℕ, zero, suc, ◌+◌, ◌*◌, max, length, eqb}
use Rattle.std.proofs.Common.{sym, ◌∙◌}
use Rattle.std.proofs.Math.Logic.{ite, if_pos, if_neg}
use Rattle.std.proofs.Math.Option.{Option, some, none}
use Rattle.std.proofs.Math.Decide.{ℕ_discrete}
use Rattle.constraint.specs.Tree.{Label, label_dec}
use Rattle.constraint.specs.Constraint.{Con, ctrue, cfail, ceq, capp, map_con, Store, vars_all}

-- What a class is bound to: nothing, or a constructor term.
pub data Bnd : Type 0 where
  free : Bnd
  fun : Label → List ℕ → Bnd

-- A representative, and the label and arguments of its term.
abbrev pub Bound : Type 0
Bound = ℕ × Label × List ℕ

abbrev pub find : ℕ → List Bound → Bnd
find x [] = free
find x (b ∷ bs) = ite (ℕ_discrete x b.0) (fun b.1 b.2) (find x bs)

abbrev pub remove : ℕ → List Bound → List Bound
remove x [] = []
remove x (b ∷ bs) = ite (ℕ_discrete x b.0) (remove x bs) (b ∷ remove x bs)

-- The state: each variable's representative, and the terms of the classes that are bound.
pub record St : Type 0 where
  pub rep : ℕ → ℕ
  pub idem : (x : ℕ) → rep (rep x) ≡ rep x
  pub bs : List Bound

unfoldable pub untold : St
untold = record { rep = λ x. x; idem = λ x. refl; bs = [] }

-- z, or b if z is a
abbrev pub swap : ℕ → ℕ → ℕ → ℕ
swap a b z = ite (ℕ_discrete z a) b z

abbrev pub to : (ℕ → ℕ) → ℕ → ℕ → ℕ → ℕ
to rep a b z = swap a b (rep z)

-- The class of a goes into that of b: both are representatives, and differ.
abbrev pub merge : (s : St) (a b : ℕ) → s.rep b ≡ b → (b ≡ a → ⊥) → St
merge s a b rb ne = record { rep = to s.rep a b; bs = remove a s.bs; idem = λ z. go z (ℕ_discrete (s.rep z) a) }
  where
    tob : to s.rep a b b ≡ b
    tob = if_neg (ℕ_discrete (s.rep b) a) (λ e. ne (sym rb ∙ e)) b (s.rep b) ∙ rb

    go : (z : ℕ) → Dec (s.rep z ≡ a) → to s.rep a b (to s.rep a b z) ≡ to s.rep a b z
    go z (yes e) = rw (if_pos (ℕ_discrete (s.rep z) a) e b (s.rep z)) tob
    go z (no n) = rw (if_neg (ℕ_discrete (s.rep z) a) n b (s.rep z), s.idem z) (if_neg (ℕ_discrete (s.rep z) a) n b (s.rep z))

abbrev pub put : St → ℕ → Label → List ℕ → St
put s x f ys = record { rep = s.rep; idem = s.idem; bs = (x, f, ys) ∷ s.bs }

-- y₁ = z₁, y₂ = z₂, ..: what two terms with one label ask; lists of two lengths have no solution.
abbrev pub pairs : List ℕ → List ℕ → Store
pairs [] [] = []
pairs [] (z ∷ zs) = cfail ∷ []
pairs (y ∷ ys) [] = cfail ∷ []
pairs (y ∷ ys) (z ∷ zs) = ceq y z ∷ pairs ys zs

-- A binding told once more, of the class that it was merged into.
abbrev pub again : ℕ → Bnd → Store
again b free = []
again b (fun f ys) = capp b f ys ∷ []

-- Two labels that differ clash.
abbrev pub clash? : {f g : Label} → Dec (f ≡ g) → Store → Store
clash? (yes e) p = p
clash? (no n) p = cfail ∷ []

-- The next state, and what is still to be told.
abbrev pub Next : Type 0
Next = St × Store

abbrev pub on_eq : (s : St) (x y : ℕ) → Dec (s.rep y ≡ s.rep x) → Next
on_eq s x y (yes e) = (s, [])
on_eq s x y (no n) = (merge s (s.rep x) (s.rep y) (s.idem y) n, again (s.rep y) (find (s.rep x) s.bs))

abbrev pub on_app : (s : St) (x : ℕ) (f : Label) (ys : List ℕ) → Bnd → Next
on_app s x f ys free = (put s (s.rep x) f ys, [])
on_app s x f ys (fun g zs) = (s, clash? (label_dec f g) (pairs ys zs))

-- One constraint is told.
abbrev pub tell_one : St → Con ℕ → Next
tell_one s ctrue = (s, [])
tell_one s cfail = (s, [])
tell_one s (ceq x y) = on_eq s x y (ℕ_discrete (s.rep y) (s.rep x))
tell_one s (capp x f ys) = on_app s x f ys (find (s.rep x) s.bs)

-- All of them, with n for a bound on the number of steps: no state where two labels clash.
unfoldable pub tell_all : ℕ → St → Store → Option St
tell_all zero s p = none
tell_all (suc n) s [] = some s
tell_all (suc n) s (cfail ∷ p) = none
tell_all (suc n) s (ctrue ∷ p) = tell_all n s p
tell_all (suc n) s (ceq x y ∷ p) = let t = tell_one s (ceq x y) in tell_all n t.0 (t.1 ++ p)
tell_all (suc n) s (capp x f ys ∷ p) = let t = tell_one s (capp x f ys) in tell_all n t.0 (t.1 ++ p)

-- A number that falls at each tell-one.
abbrev pub cost : Con ℕ → ℕ
cost ctrue = 1
cost cfail = 1
cost (ceq x y) = 2
cost (capp x f ys) = 2 * length ys + 2

abbrev pub costs : Store → ℕ
costs [] = 0
costs (c ∷ p) = cost c + costs p

abbrev pub held : List Bound → ℕ
held [] = 0
held (b ∷ bs) = 2 * length b.2 + 1 + held bs

unfoldable pub solve : St → Store → Option St
solve s p = tell_all (suc (costs p + held s.bs)) s p

-- Lists of variables.
unfoldable pub elem : ℕ → List ℕ → Bool
elem x [] = false
elem x (y ∷ l) = eqb x y || elem x l

unfoldable pub nub : List ℕ → List ℕ
nub [] = []
nub (x ∷ l) = let r = nub l in elim (elem x r) [ true ↦ r | false ↦ x ∷ r ]

unfoldable pub distinct : List ℕ → Bool
distinct [] = true
distinct (x ∷ l) = not (elem x l) && distinct l

unfoldable pub keep : (ℕ → Bool) → List ℕ → List ℕ
keep p [] = []
keep p (x ∷ l) = let r = keep p l in elim (p x) [ true ↦ x ∷ r | false ↦ r ]

-- The cycle test. A representative is blocked by l when an argument of its term is in a class of l.
unfoldable pub any_in : (ℕ → ℕ) → List ℕ → List ℕ → Bool
any_in r l [] = false
any_in r l (y ∷ ys) = elem (r y) l || any_in r l ys

unfoldable pub blocked_by : (ℕ → ℕ) → List ℕ → Bnd → Bool
blocked_by r l free = false
blocked_by r l (fun f ys) = any_in r l ys

-- One round takes off every representative that the others do not block.
unfoldable pub round : St → List ℕ → List ℕ
round s l = keep (λ x. blocked_by s.rep l (find x s.bs)) l

unfoldable pub rounds : ℕ → St → List ℕ → List ℕ
rounds zero s l = l
rounds (suc n) s l = rounds n s (round s l)

unfoldable pub empty? : List ℕ → Bool
empty? [] = true
empty? (x ∷ l) = false

-- The representatives that are bound.
unfoldable pub keys : (ℕ → ℕ) → List Bound → List ℕ
keys r [] = []
keys r (b ∷ bs) = r b.0 ∷ keys r bs

unfoldable pub acyclic? : St → Bool
acyclic? s = let l = keys s.rep s.bs in empty? (rounds (length l) s l)

-- Satisfiable: no clash, no cycle.
unfoldable pub sat_of : Option St → Bool
sat_of none = false
sat_of (some s) = acyclic? s

unfoldable pub satisfiable? : Store → Bool
satisfiable? σ = sat_of (solve untold σ)

-- Quiet, where no local occurs in the environment: telling σ on top of the environment leaves every class that was
-- unbound, and has a representative that is no local, unbound and apart from every other such class.
unfoldable pub free? : Bnd → Bool
free? free = true
free? (fun f ys) = false

unfoldable pub parameter? : List ℕ → St → ℕ → Bool
parameter? vs E x = free? (find (E.rep x) E.bs) && (eqb (E.rep x) x && not (elem x vs))

unfoldable pub all? : (ℕ → Bool) → List ℕ → Bool
all? p [] = true
all? p (x ∷ l) = p x && all? p l

unfoldable pub untouched? : St → List ℕ → Bool
untouched? F xs = all? (λ x. free? (find (F.rep x) F.bs)) xs && distinct (map F.rep xs)

unfoldable pub then_quiet? : List ℕ → List ℕ → St → Option St → Bool
then_quiet? vs xs E none = false
then_quiet? vs xs E (some F) = acyclic? F && untouched? F (keep (parameter? vs E) xs)

unfoldable pub after_quiet? : List ℕ → List ℕ → Store → Option St → Bool
after_quiet? vs xs σ none = true
after_quiet? vs xs σ (some E) = elim (acyclic? E) [ true ↦ then_quiet? vs xs E (solve E σ) | false ↦ true ]

unfoldable pub quiet_fresh? : List ℕ → Store → Store → Bool
quiet_fresh? vs env σ = after_quiet? vs (nub (vars_all env ++ vars_all σ)) σ (solve untold env)

-- Quiet, of any locals: those of σ are first renamed to numbers that occur nowhere.
unfoldable pub top : List ℕ → ℕ
top [] = 0
top (x ∷ l) = max (suc x) (top l)

unfoldable pub rename : List ℕ → ℕ → ℕ → ℕ
rename vs k x = elim (elem x vs) [ true ↦ k + x | false ↦ x ]

unfoldable pub quiet? : List ℕ → Store → Store → Bool
quiet? vs env σ =
    let k = top (vs ++ (vars_all env ++ vars_all σ)) in
    quiet_fresh? (map (rename vs k) vs) env (map (map_con (rename vs k)) σ)
