-- Which lists of words are those of a program that passes, and of a configuration whose statements pass. Assumes nothing.
use Rattle.std.specs.Prelude.{List, [], ◌∷◌, ◌++◌, Bool, true, false, ◌&&◌, not, ℕ, leb, ltb, eqb}
use Rattle.akl.specs.Base.{if, any, size}
use Rattle.akl.specs.Limits.{most_definitions, most_arguments}
use Rattle.mem_words.specs.declared.Word.{Word}
use Rattle.mem_words.specs.declared.Word.TheVariants.{End, Free, Level, Num, Place, Inner, Bad}
use Rattle.check_shapes.specs.declared.Frame.TheVariants.{Head, Root}
use Rattle.check_shapes.specs.Machine.{run}

-- the number of a name, and a number of parameters
abbrev pub Headed : Type 0
Headed = ℕ × ℕ

-- Two numbers side by side are the head of a definition: no other construct has them. `was` says that the word before was the
-- number p.
unfoldable pub heads_from : Bool → ℕ → List Word → List Headed
heads_from was p [] = []
heads_from was p (End ∷ r) = heads_from false 0 r
heads_from was p (Free x ∷ r) = heads_from false 0 r
heads_from was p (Level l ∷ r) = heads_from false 0 r
heads_from was p (Num k ∷ r) = if was ((p, k) ∷ []) [] ++ heads_from true k r
heads_from was p (Place k ∷ r) = heads_from false 0 r
heads_from was p (Inner s ∷ r) = heads_from false 0 r
heads_from was p (Bad ∷ r) = heads_from false 0 r

unfoldable pub heads : List Word → List Headed
heads ws = heads_from false 0 ws

unfoldable pub listed : List Headed → ℕ → ℕ → Bool
listed hs p k = any (λ h. eqb h.0 p && eqb h.1 k) hs

-- heads one after another, `seen` those before: a predicate's name, few parameters, at most 128 of them, none twice
unfoldable pub heads_pass : (ℕ → Bool) → List Headed → List Headed → Bool
heads_pass pred seen [] = true
heads_pass pred seen (h ∷ hs) =
    pred h.0 && leb h.1 most_arguments && ltb (size seen) most_definitions && not (listed seen h.0 h.1) && heads_pass pred (h ∷ seen) hs

-- con: which numbers are those of constructors; pred: of predicates' names
unfoldable pub program_passed : (con pred : ℕ → Bool) → List Word → Bool
program_passed con pred ws = heads_pass pred [] (heads ws) && run con pred (listed (heads ws)) false ws Head []

-- def: which numbers of names have a definition with so many parameters
unfoldable pub config_passed : (con pred : ℕ → Bool) (def : ℕ → ℕ → Bool) → List Word → Bool
config_passed con pred def ws = run con pred def true ws Root []
