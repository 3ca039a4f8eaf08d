-- Whether trees are labelled with names or with any list of numbers, the same stores are satisfiable and quiet, and the same
-- trees labelled with names satisfy a store with some choice of values.
use mathlib.Core.Path.{◌≡◌, refl, ap, sym, ◌∙◌, subst}
use mathlib.Core.Logic.{◌↔◌, inl, inr}
use mathlib.Core.List.{List, [], ◌∷◌}
use mathlib.Core.Bool.{Bool, true, false, ◌&&◌, ◌||◌}
use Prim.Native.Nat.{ℕ, zero, suc, ◌≤◌, ◌<◌, max}
use native.Mathlib.Omega.{arith}
use lib.Dec.{T, eqb, leb, leb→le, le→leb}
use Rattle.constraint.specs.Tree.{Label, Tree, Forest, node, fnil, fcons}
use Rattle.constraint.specs.Constraint.{Con, ctrue, cfail, ceq, capp, Store, Asg, trees, Sat, Sats, Off, Satisfiable, Quiet}
use Rattle.constraint.proofs.Lists.{and_T, or_T}
use Rattle.akl.specs.Base.{size, all, if}
use Rattle.akl.specs.Token.{class_of, word_class}
use Rattle.akl.specs.Limits.{name_bytes}
use Rattle.akl.specs.WellFormed.{is_small, begins, spelled_name, spelled_digits, few, stored_fits}
use Rattle.theory.specs.Named.{like_name, like_digits, a_name?, Named, NamedTree, NamedForest, NamedAsg, NamedCon, NamedStore, NamedSatisfiable, NamedChoice, NamedQuiet}

-- ---------------------------------------------------------------------------------------------
-- Trees with other labels.

unfoldable mutual
  pub relabel : Tree → (Label → Label) → Tree
  relabel (node f ts) φ = node (φ f) (relabels ts φ)

  pub relabels : Forest → (Label → Label) → Forest
  relabels fnil φ = fnil
  relabels (fcons t ts) φ = fcons (relabel t φ) (relabels ts φ)

abbrev through : (Label → Label) → Asg → Asg
through φ ρ x = relabel (ρ x) φ

-- φ leaves the labels of the constraints as they are
abbrev FixesCon : (Label → Label) → Con ℕ → Type 0
FixesCon φ ctrue = Unit {0}
FixesCon φ cfail = Unit {0}
FixesCon φ (ceq x y) = Unit {0}
FixesCon φ (capp x f ys) = φ f ≡ f

abbrev Fixes : (Label → Label) → Store → Type 0
Fixes φ [] = Unit {0}
Fixes φ (c ∷ cs) = FixesCon φ c × Fixes φ cs

trees_through : (φ : Label → Label) (ρ : Asg) (ys : List ℕ) → relabels (trees ρ ys) φ ≡ trees (through φ ρ) ys
unfolding relabel
trees_through φ ρ [] = refl
trees_through φ ρ (y ∷ ys) = ap (fcons (relabel (ρ y) φ)) (trees_through φ ρ ys)

sat_through : (φ : Label → Label) (ρ : Asg) (c : Con ℕ) → FixesCon φ c → Sat ρ c → Sat (through φ ρ) c
unfolding relabel
sat_through φ ρ ctrue k s = tt
sat_through φ ρ cfail k s = s
sat_through φ ρ (ceq x y) k s = ap (λ t. relabel t φ) s
sat_through φ ρ (capp x f ys) k s = ap (λ t. relabel t φ) s ∙ (λ i. node (k i) (trees_through φ ρ ys i))

sats_through : (φ : Label → Label) (ρ : Asg) (σ : Store) → Fixes φ σ → Sats ρ σ → Sats (through φ ρ) σ
sats_through φ ρ [] k s = tt
sats_through φ ρ (c ∷ σ) k s = (sat_through φ ρ c k.0 s.0, sats_through φ ρ σ k.1 s.1)

mutual
  unfolding relabel

  pub relabel_named : (t : Tree) (φ : Label → Label) → ((f : Label) → Named (φ f)) → NamedTree (relabel t φ)
  relabel_named (node f ts) φ h = (h f, relabels_named ts φ h)

  relabels_named : (ts : Forest) (φ : Label → Label) → ((f : Label) → Named (φ f)) → NamedForest (relabels ts φ)
  relabels_named fnil φ h = tt
  relabels_named (fcons t ts) φ h = (relabel_named t φ h, relabels_named ts φ h)

mutual
  unfolding relabel

  pub relabel_same : (t : Tree) (φ : Label → Label) → ((f : Label) → Named f → φ f ≡ f) → NamedTree t → relabel t φ ≡ t
  relabel_same (node f ts) φ h n = λ i. node (h f n.0 i) (relabels_same ts φ h n.1 i)

  pub relabels_same : (ts : Forest) (φ : Label → Label) → ((f : Label) → Named f → φ f ≡ f) → NamedForest ts → relabels ts φ ≡ ts
  relabels_same fnil φ h n = refl
  relabels_same (fcons t ts) φ h n = λ i. fcons (relabel_same t φ h n.0 i) (relabels_same ts φ h n.1 i)

mutual
  unfolding relabel

  relabel_back : (t : Tree) (φ ψ : Label → Label) → ((f : Label) → ψ (φ f) ≡ f) → relabel (relabel t φ) ψ ≡ t
  relabel_back (node f ts) φ ψ h = λ i. node (h f i) (relabels_back ts φ ψ h i)

  relabels_back : (ts : Forest) (φ ψ : Label → Label) → ((f : Label) → ψ (φ f) ≡ f) → relabels (relabels ts φ) ψ ≡ ts
  relabels_back fnil φ ψ h = refl
  relabels_back (fcons t ts) φ ψ h = λ i. fcons (relabel_back t φ ψ h i) (relabels_back ts φ ψ h i)

-- ---------------------------------------------------------------------------------------------
-- Every label to a name, and the names to themselves.

abbrev pub to_name : Label → Label
to_name f = if (a_name? f) f (97 ∷ [])

pub to_name_named : (f : Label) → Named (to_name f)
unfolding like_name class_of all
to_name_named f = go (a_name? f) refl
  where
    go : (b : Bool) → a_name? f ≡ b → Named (if b f (97 ∷ []))
    go true e = subst T (sym e) tt
    go false e = tt

pub to_name_same : (f : Label) → Named f → to_name f ≡ f
to_name_same f h = go (a_name? f) h
  where
    go : (b : Bool) → T b → if b f (97 ∷ []) ≡ f
    go false t = elim t [ ]
    go true t = refl

con_fixed : (φ : Label → Label) (c : Con ℕ) → ((f : Label) → Named f → φ f ≡ f) → NamedCon c → FixesCon φ c
con_fixed φ ctrue h n = tt
con_fixed φ cfail h n = tt
con_fixed φ (ceq x y) h n = tt
con_fixed φ (capp x f ys) h n = h f n

names_fixed : (φ : Label → Label) (σ : Store) → ((f : Label) → Named f → φ f ≡ f) → NamedStore σ → Fixes φ σ
names_fixed φ [] h n = tt
names_fixed φ (c ∷ σ) h n = (con_fixed φ c h n.0, names_fixed φ σ h n.1)

-- What any trees satisfy, they satisfy with names for their labels.
pub sats_to_name : (ρ : Asg) (σ : Store) → NamedStore σ → Sats ρ σ → Sats (λ x. relabel (ρ x) to_name) σ
sats_to_name ρ σ n s = sats_through to_name ρ σ (names_fixed to_name σ to_name_same n) s

-- A choice of any trees for vs gives one of trees labelled with names, where the others are such.
pub choice_named : (vs : List ℕ) (σ : Store) (ρ : Asg) → NamedStore σ → NamedAsg ρ → ((ρ' : Asg) × Off vs ρ ρ' × Sats ρ' σ) ↔ NamedChoice vs σ ρ
choice_named vs σ ρ n r = (λ h. (through to_name h.0, λ x. relabel_named (h.0 x) to_name to_name_named, λ x k. sym (relabel_same (ρ x) to_name to_name_same (r x)) ∙ ap (λ t. relabel t to_name) (h.1 x k), sats_through to_name h.0 σ (names_fixed to_name σ to_name_same n) h.2), λ h. (h.0, h.2, h.3))

pub satisfiable_named : (σ : Store) → NamedStore σ → Satisfiable σ ↔ NamedSatisfiable σ
satisfiable_named σ n = (λ h. (through to_name h.0, λ x. relabel_named (h.0 x) to_name to_name_named, sats_through to_name h.0 σ (names_fixed to_name σ to_name_same n) h.1), λ h. (h.0, h.2))

-- ---------------------------------------------------------------------------------------------
-- Every label to a name of its own, and back; names of n bytes or fewer stay as they are, the others become longer ones.

-- n + 1 times a, then l
unfoldable behind : ℕ → List ℕ → List ℕ
behind zero l = 97 ∷ l
behind (suc n) l = 97 ∷ behind n l

unfoldable without : ℕ → List ℕ → List ℕ
without zero [] = []
without zero (x ∷ l) = l
without (suc n) [] = []
without (suc n) (x ∷ l) = without n l

-- each number x as x times a, then b
unfoldable number_as : ℕ → List ℕ → List ℕ
number_as zero l = 98 ∷ l
number_as (suc x) l = 97 ∷ number_as x l

unfoldable coded : List ℕ → List ℕ
coded [] = []
coded (x ∷ l) = number_as x (coded l)

abbrev one_more : List ℕ → List ℕ
one_more [] = []
one_more (x ∷ l) = suc x ∷ l

unfoldable decoded : List ℕ → List ℕ
decoded [] = []
decoded (x ∷ l) = let r = decoded l in if (eqb x 98) (0 ∷ r) (one_more r)

decoded_number : (x : ℕ) (l : List ℕ) → decoded (number_as x l) ≡ x ∷ decoded l
unfolding decoded number_as
decoded_number zero l = refl
decoded_number (suc x) l = ap one_more (decoded_number x l)

decoded_coded : (l : List ℕ) → decoded (coded l) ≡ l
unfolding coded decoded
decoded_coded [] = refl
decoded_coded (x ∷ l) = decoded_number x (coded l) ∙ ap (λ r. x ∷ r) (decoded_coded l)

without_behind : (n : ℕ) (l : List ℕ) → without n (behind n l) ≡ l
unfolding without behind
without_behind zero l = refl
without_behind (suc n) l = without_behind n l

behind_long : (n : ℕ) (l : List ℕ) → n < size (behind n l)
unfolding behind size
behind_long zero l = omega arith
behind_long (suc n) l = omega (arith, behind_long n l)

abbrev Letters : List ℕ → Type 0
Letters l = T (all (λ x. word_class (class_of x)) l)

number_letters : (x : ℕ) (l : List ℕ) → Letters l → Letters (number_as x l)
unfolding number_as all class_of
number_letters zero l h = h
number_letters (suc x) l h = number_letters x l h

coded_letters : (l : List ℕ) → Letters (coded l)
unfolding coded all
coded_letters [] = tt
coded_letters (x ∷ l) = number_letters x (coded l) (coded_letters l)

behind_letters : (n : ℕ) (l : List ℕ) → Letters l → Letters (behind n l)
unfolding behind all class_of
behind_letters zero l h = h
behind_letters (suc n) l h = behind_letters n l h

behind_begins : (n : ℕ) (l : List ℕ) → T (begins is_small (behind n l))
unfolding behind class_of
behind_begins zero l = tt
behind_begins (suc n) l = tt

module _ (n : ℕ) where
  abbrev kept? : Label → Bool
  kept? f = leb (size f) n && a_name? f

  abbrev own_name : Label → Label
  own_name f = if (kept? f) f (behind n (coded f))

  abbrev label_of : Label → Label
  label_of f = if (leb (size f) n) f (decoded (without n f))

  own_named : (f : Label) → Named (own_name f)
  unfolding like_name
  own_named f = go (kept? f) refl
    where
      go : (b : Bool) → kept? f ≡ b → Named (if b f (behind n (coded f)))
      go true e = ((and_T (leb (size f) n) (a_name? f)).0 (subst T (sym e) tt)).1
      go false e = (or_T (like_name (behind n (coded f))) (like_digits (behind n (coded f)))).1 (inl ((and_T (begins is_small (behind n (coded f))) (all (λ x. word_class (class_of x)) (behind n (coded f)))).1 (behind_begins n (coded f), behind_letters n (coded f) (coded_letters f))))

  own_back : (f : Label) → label_of (own_name f) ≡ f
  own_back f = go (kept? f) refl
    where
      short : (b : Bool) → T b → if b f (decoded (without n f)) ≡ f
      short false t = elim t [ ]
      short true t = refl

      long : (b : Bool) → (T b → ⊥) → if b (behind n (coded f)) (decoded (without n (behind n (coded f)))) ≡ f
      long true m = absurd (m tt)
      long false m = ap decoded (without_behind n (coded f)) ∙ decoded_coded f

      high : T (leb (size (behind n (coded f))) n) → ⊥
      high t = let l = leb→le (size (behind n (coded f))) n t in let k = behind_long n (coded f) in omega arith

      go : (b : Bool) → kept? f ≡ b → label_of (if b f (behind n (coded f))) ≡ f
      go true e = short (leb (size f) n) ((and_T (leb (size f) n) (a_name? f)).0 (subst T (sym e) tt)).0
      go false e = long (leb (size (behind n (coded f))) n) high

  own_kept : (f : Label) → size f ≤ n → Named f → own_name f ≡ f
  own_kept f l h = go (kept? f) ((and_T (leb (size f) n) (a_name? f)).1 (le→leb (size f) n l, h))
    where
      go : (b : Bool) → T b → if b f (behind n (coded f)) ≡ f
      go false t = elim t [ ]
      go true t = refl

-- the length of the longest label
abbrev label_length : Con ℕ → ℕ
label_length ctrue = 0
label_length cfail = 0
label_length (ceq x y) = 0
label_length (capp x f ys) = size f

unfoldable pub longest : Store → ℕ
longest [] = 0
longest (c ∷ σ) = max (label_length c) (longest σ)

con_kept : (n : ℕ) (c : Con ℕ) → label_length c ≤ n → NamedCon c → FixesCon (own_name n) c
con_kept n ctrue l h = tt
con_kept n cfail l h = tt
con_kept n (ceq x y) l h = tt
con_kept n (capp x f ys) l h = own_kept n f l h

kept_fixed : (n : ℕ) (σ : Store) → longest σ ≤ n → NamedStore σ → Fixes (own_name n) σ
unfolding longest
kept_fixed n [] l h = tt
kept_fixed n (c ∷ σ) l h = (con_kept n c (omega arith) h.0, kept_fixed n σ (omega arith) h.1)

con_back : (φ ψ : Label → Label) (c : Con ℕ) → ((f : Label) → ψ (φ f) ≡ f) → FixesCon φ c → FixesCon ψ c
con_back φ ψ ctrue b h = tt
con_back φ ψ cfail b h = tt
con_back φ ψ (ceq x y) b h = tt
con_back φ ψ (capp x f ys) b h = ap ψ (sym h) ∙ b f

back_fixed : (φ ψ : Label → Label) (σ : Store) → ((f : Label) → ψ (φ f) ≡ f) → Fixes φ σ → Fixes ψ σ
back_fixed φ ψ [] b h = tt
back_fixed φ ψ (c ∷ σ) b h = (con_back φ ψ c b h.0, back_fixed φ ψ σ b h.1)

-- An assignment of any trees, with names of their own for its labels.
pub own_names : ℕ → Asg → Asg
own_names n ρ x = relabel (ρ x) (own_name n)

pub own_names_named : (n : ℕ) (ρ : Asg) → NamedAsg (own_names n ρ)
unfolding own_names
own_names_named n ρ x = relabel_named (ρ x) (own_name n) (own_named n)

pub own_names_sats : (n : ℕ) (ρ : Asg) (σ : Store) → longest σ ≤ n → NamedStore σ → Sats ρ σ → Sats (own_names n ρ) σ
unfolding own_names
own_names_sats n ρ σ l h s = sats_through (own_name n) ρ σ (kept_fixed n σ l h) s

-- What can be met from it by a choice of values for vs is what can be met from the assignment itself.
pub own_names_choice : (n : ℕ) (vs : List ℕ) (ρ : Asg) (σ : Store) → longest σ ≤ n → NamedStore σ → ((ρ' : Asg) × Off vs (own_names n ρ) ρ' × Sats ρ' σ) ↔ ((ρ' : Asg) × Off vs ρ ρ' × Sats ρ' σ)
unfolding own_names
own_names_choice n vs ρ σ l h = (λ c. (through (label_of n) c.0, λ x k. sym (relabel_back (ρ x) (own_name n) (label_of n) (own_back n)) ∙ ap (λ t. relabel t (label_of n)) (c.1 x k), sats_through (label_of n) c.0 σ (back_fixed (own_name n) (label_of n) σ (own_back n) (kept_fixed n σ l h)) c.2), λ c. (through (own_name n) c.0, λ x k. ap (λ t. relabel t (own_name n)) (c.1 x k), sats_through (own_name n) c.0 σ (kept_fixed n σ l h) c.2))

pub quiet_named : (vs : List ℕ) (env σ : Store) → NamedStore env → NamedStore σ → Quiet vs env σ ↔ NamedQuiet vs env σ
quiet_named vs env σ e h = (λ q ρ r s. (choice_named vs σ ρ h r).0 (q ρ s), λ q ρ s. (own_names_choice n vs ρ σ (omega arith) h).0 ((choice_named vs σ (own_names n ρ) h (own_names_named n ρ)).1 (q (own_names n ρ) (own_names_named n ρ) (own_names_sats n ρ env (omega arith) e s))))
  where
    n : ℕ
    n = max (longest env) (longest σ)

-- ---------------------------------------------------------------------------------------------
-- What passes is labelled with names.

pub spelled_is_named : (f : Label) → T (spelled_name f || spelled_digits f) → Named f
unfolding spelled_name spelled_digits like_name like_digits
spelled_is_named f h = (or_T (like_name f) (like_digits f)).1 (elim ((or_T (spelled_name f) (spelled_digits f)).0 h) [ inl t ↦ inl ((and_T (like_name f) (leb (size f) name_bytes)).0 t).0 | inr t ↦ inr ((and_T (like_digits f) (leb (size f) name_bytes)).0 t).0 ])

pub stored_named : (σ : Store) → T (all stored_fits σ) → NamedStore σ
unfolding all
stored_named [] h = tt
stored_named (c ∷ σ) h = let k = (and_T (stored_fits c) (all stored_fits σ)).0 h in (go c k.0, stored_named σ k.1)
  where
    go : (d : Con ℕ) → T (stored_fits d) → NamedCon d
    go ctrue t = elim t [ ]
    go cfail t = tt
    go (ceq x y) t = tt
    go (capp x f ys) t = spelled_is_named f ((and_T (few ys) (spelled_name f || spelled_digits f)).0 t).1
