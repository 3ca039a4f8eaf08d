-- Lists of words that pass and that do not, computed: the name 1 is a constructor's, 2 and 3 are predicates'.
use mathlib.Core.Path.{◌≡◌, refl}
use mathlib.Core.List.{List, [], ◌∷◌, ◌++◌, map}
use mathlib.Core.Bool.{Bool, true, false, ◌&&◌}
use Prim.Native.Nat.{ℕ, zero, suc}
use lib.Dec.{eqb, leb}
use Rattle.akl.specs.Base.{any, size}
use Rattle.mem_words.specs.declared.Word.{Word}
use Rattle.mem_words.specs.declared.Word.TheVariants.{End, Free, Level, Num, Place, Inner, Bad}
use Rattle.mem_sorts.specs.declared.Kind.TheVariants.{Or, And, Guarded, Member, Wait}
use Rattle.mem_sorts.specs.declared.Sort.TheVariants.{Locals, Store, True, Fail, Eq, App, Call, Comp, Hide, Clause, AskWait}
use Rattle.check_shapes.specs.Machine.{run}
use Rattle.check_shapes.specs.Passed.{heads_from, heads, listed, heads_pass, program_passed, config_passed}

abbrev of_program : List Word → Bool
of_program ws = program_passed (λ i. eqb i 1) (λ i. leb 2 i && leb i 3) ws

abbrev of_config : List Word → Bool
of_config ws = config_passed (λ i. eqb i 1) (λ i. leb 2 i && leb i 3) (λ p k. eqb p 2 && eqb k 1) ws

-- a definition of the name p with k parameters
abbrev defines : ℕ → ℕ → List Word → List Word
defines p k ws = Num p ∷ Num k ∷ ws

-- n hidings around `true`
abbrev hidings : ℕ → List Word → List Word
hidings zero r = Inner True ∷ End ∷ r
hidings (suc n) r = Inner Hide ∷ Num 1 ∷ hidings n (End ∷ r)

-- n compositions, each the left part of the next
abbrev lefts : ℕ → List Word → List Word
lefts zero r = Inner True ∷ End ∷ r
lefts (suc n) r = Inner Comp ∷ lefts n (Inner True ∷ End ∷ End ∷ r)

-- a choice whose clause hides a variable and calls
abbrev choice : List Word
choice = Inner AskWait ∷ Inner Clause ∷ Num 1 ∷ Inner Eq ∷ Level 0 ∷ Level 1 ∷ End ∷ Inner Call ∷ Num 2 ∷ Level 1 ∷ End ∷ End ∷ End ∷ []

pub programs : map of_program (
    []
    ∷ defines 2 1 choice
    ∷ defines 2 1 (choice ++ defines 2 2 choice)
    ∷ defines 2 0 (hidings 32 [])
    ∷ defines 2 0 (lefts 33 [])
    ∷ []) ≡ true ∷ true ∷ true ∷ true ∷ true ∷ []
unfolding program_passed heads heads_from heads_pass listed run any size
programs = refl

-- another name; a name that is none; a head twice; 9 parameters; the End left out; words behind; no definition; too deep, twice
pub no_programs : map of_program (
    defines 3 1 choice
    ∷ defines 4 0 (Inner True ∷ End ∷ [])
    ∷ defines 2 1 (choice ++ defines 2 1 choice)
    ∷ defines 2 9 (Inner True ∷ End ∷ [])
    ∷ defines 2 0 (Inner True ∷ [])
    ∷ defines 2 0 (Inner True ∷ End ∷ End ∷ [])
    ∷ choice
    ∷ defines 2 0 (hidings 33 [])
    ∷ defines 2 0 (lefts 34 [])
    ∷ []) ≡ false ∷ false ∷ false ∷ false ∷ false ∷ false ∷ false ∷ false ∷ false ∷ []
unfolding program_passed heads heads_from heads_pass listed run any size
no_programs = refl

-- statements with `true`, levels that are not bound, no hidden variable, no clause, 9 arguments, no constructor, words that are none
pub no_statements : map (λ ws. of_program (defines 2 0 ws)) (
    (Inner Eq ∷ Level 0 ∷ Level 0 ∷ End ∷ [])
    ∷ (Inner Hide ∷ Num 0 ∷ Inner True ∷ End ∷ End ∷ [])
    ∷ (Inner AskWait ∷ End ∷ [])
    ∷ (Inner Hide ∷ Num 1 ∷ Inner App ∷ Level 0 ∷ Num 1 ∷ Level 0 ∷ Level 0 ∷ Level 0 ∷ Level 0 ∷ Level 0 ∷ Level 0 ∷ Level 0 ∷ Level 0 ∷ Level 0 ∷ End ∷ End ∷ [])
    ∷ (Inner Hide ∷ Num 1 ∷ Inner App ∷ Level 0 ∷ Num 2 ∷ End ∷ End ∷ [])
    ∷ (Inner Hide ∷ Num 1 ∷ Inner Eq ∷ Level 0 ∷ Free 0 ∷ End ∷ End ∷ [])
    ∷ (Bad ∷ [])
    ∷ []) ≡ false ∷ false ∷ false ∷ false ∷ false ∷ false ∷ false ∷ []
unfolding program_passed heads heads_from heads_pass listed run any size
no_statements = refl

-- an and-box with the local variable 7, a store and members
abbrev boxed : List Word → List Word → List Word
boxed σ ms = Place Or ∷ Place And ∷ Inner Locals ∷ Free 7 ∷ End ∷ Inner Store ∷ σ ++ (End ∷ ms ++ (End ∷ End ∷ []))

-- a choice-box with one guarded goal, its guard failed
abbrev guarded : List Word → List Word
guarded b = Place Wait ∷ Place Guarded ∷ Place Or ∷ End ∷ b ++ (End ∷ End ∷ [])

pub configs : map of_config (
    (Place Or ∷ End ∷ [])
    ∷ boxed [] []
    ∷ boxed (Inner App ∷ Free 7 ∷ Num 1 ∷ Free 7 ∷ End ∷ Inner Fail ∷ End ∷ []) (Place Member ∷ Inner Call ∷ Num 2 ∷ Free 7 ∷ End ∷ End ∷ [])
    ∷ boxed (Inner Eq ∷ Free 7 ∷ Free 8 ∷ End ∷ []) (guarded (Inner True ∷ End ∷ []))
    ∷ []) ≡ true ∷ true ∷ true ∷ true ∷ []
unfolding config_passed run
configs = refl

-- `true` stored, a level stored, a member that is no definition's, a level in a member, a body left out, an and-box at the top
pub no_configs : map of_config (
    boxed (Inner True ∷ End ∷ []) []
    ∷ boxed (Inner Eq ∷ Free 7 ∷ Level 0 ∷ End ∷ []) []
    ∷ boxed [] (Place Member ∷ Inner Call ∷ Num 2 ∷ End ∷ End ∷ [])
    ∷ boxed [] (Place Member ∷ Inner Eq ∷ Free 7 ∷ Level 0 ∷ End ∷ End ∷ [])
    ∷ boxed [] (guarded [])
    ∷ (Place And ∷ Inner Locals ∷ End ∷ Inner Store ∷ End ∷ End ∷ [])
    ∷ (Place Or ∷ End ∷ Place Or ∷ End ∷ [])
    ∷ []) ≡ false ∷ false ∷ false ∷ false ∷ false ∷ false ∷ false ∷ []
unfolding config_passed run
no_configs = refl
