-- Trees labelled with names. Document 01: "Values are finite trees labelled with names of any length".
-- The definitions in crates/constraint let any list of numbers label a tree. Here the same is said of trees whose labels are
-- names; that it comes to the same is shown in proofs/NamedTrees.antt.
use Rattle.std.specs.Prelude.{List, [], ◌∷◌, Bool, ◌&&◌, ◌||◌, ℕ, T}
use Rattle.constraint.specs.Tree.{Label, Tree, Forest, node, fnil, fcons}
use Rattle.constraint.specs.Constraint.{Con, ctrue, cfail, ceq, capp, Store, Asg, Sats, Off}
use Rattle.akl.specs.Base.{all}
use Rattle.akl.specs.Token.{class_of, word_class, digit_class}
use Rattle.akl.specs.WellFormed.{is_small, begins}

-- "A name is a small letter and then letters, digits and underscores, or digits alone", of any length.
unfoldable pub like_name : Label → Bool
like_name f = begins is_small f && all (λ x. word_class (class_of x)) f

unfoldable pub like_digits : Label → Bool
like_digits f = begins digit_class f && all (λ x. digit_class (class_of x)) f

abbrev pub a_name? : Label → Bool
a_name? f = like_name f || like_digits f

abbrev pub Named : Label → Type 0
Named f = T (a_name? f)

abbrev mutual
  pub NamedTree : Tree → Type 0
  NamedTree (node f ts) = Named f × NamedForest ts

  pub NamedForest : Forest → Type 0
  NamedForest fnil = Unit {0}
  NamedForest (fcons t ts) = NamedTree t × NamedForest ts

abbrev pub NamedAsg : Asg → Type 0
NamedAsg ρ = (x : ℕ) → NamedTree (ρ x)

-- Constraints whose constructors are names.
abbrev pub NamedCon : Con ℕ → Type 0
NamedCon ctrue = Unit {0}
NamedCon cfail = Unit {0}
NamedCon (ceq x y) = Unit {0}
NamedCon (capp x f ys) = Named f

abbrev pub NamedStore : Store → Type 0
NamedStore [] = Unit {0}
NamedStore (c ∷ cs) = NamedCon c × NamedStore cs

-- Satisfiable, quiet, and a choice of values for vs, with trees labelled with names alone.
abbrev pub NamedSatisfiable : Store → Type 0
NamedSatisfiable σ = (ρ : Asg) × NamedAsg ρ × Sats ρ σ

abbrev pub NamedChoice : List ℕ → Store → Asg → Type 0
NamedChoice vs σ ρ = (ρ' : Asg) × NamedAsg ρ' × Off vs ρ ρ' × Sats ρ' σ

abbrev pub NamedQuiet : List ℕ → Store → Store → Type 0
NamedQuiet vs env σ = (ρ : Asg) → NamedAsg ρ → Sats ρ env → NamedChoice vs σ ρ
