-- All that refusal 9 asks of the variables of a configuration, as tests of its words, and that they are document 01's. Assumes nothing.
use Rattle.std.specs.Prelude.{◌≡◌, refl, List, [], ◌++◌, Bool, true, false, ◌&&◌, ℕ, ltb}
use Rattle.std.proofs.Common.{ap, ap₂, sym, ◌∙◌}
use Rattle.akl.specs.Base.{Name, all, range}
use Rattle.akl.specs.Configuration.{goal, Node}
use Rattle.akl.specs.WellFormed.{no_interference, in_scope, query_locals, all_numbers}
use Rattle.mem_words.specs.declared.Word.{Word}
use Rattle.store_words.specs.Boxes.{node_words}
use Rattle.check_words.specs.Frees.{numbers_passed}
use Rattle.check_words.specs.Query.{query_passed}
use Rattle.check_words.specs.Apart.{apart_passed}
use Rattle.check_words.specs.Scope.{scope_passed}
use Rattle.check_words.proofs.Numbers.{numbers_law}
use Rattle.check_words.proofs.Query.{query_law}
use Rattle.check_words.proofs.Apart.{apart_law}
use Rattle.check_words.proofs.Scope.{scope_law}

-- q query variables, `next` the next fresh number
unfoldable pub scopes_passed : ℕ → ℕ → List Word → Bool
scopes_passed q next C = apart_passed C && scope_passed C && query_passed q C && numbers_passed q next C

pub scopes_law : (q next : ℕ) (num : Name → ℕ) (n : Node goal) (C : List Word) → C ≡ node_words num n [] → scopes_passed q next C ≡ (no_interference n && in_scope n [] && query_locals n q && all (λ x. ltb x next) (range 0 q ++ all_numbers n))
unfolding scopes_passed
scopes_law q next num n C e =
    ap (λ (a : Bool). a && scope_passed C && query_passed q C && numbers_passed q next C) (apart_law num n C e)
    ∙ ap (λ (a : Bool). a && query_passed q C && numbers_passed q next C) (scope_law num n C e)
    ∙ ap₂ (λ (a b : Bool). no_interference n && in_scope n [] && a && b) (query_law q num n C e) (numbers_law q next num n C e)

-- the answer, by the first test that fails
pub numbers_fail : (q next : ℕ) (C : List Word) → numbers_passed q next C ≡ false → false ≡ scopes_passed q next C
unfolding scopes_passed
numbers_fail q next C e = sym (ap (λ (b : Bool). apart_passed C && scope_passed C && query_passed q C && b) e ∙ last (apart_passed C && scope_passed C && query_passed q C))
  where
    last : (a : Bool) → (a && false) ≡ false
    last true = refl
    last false = refl

pub query_fail : (q next : ℕ) (C : List Word) → query_passed q C ≡ false → false ≡ scopes_passed q next C
unfolding scopes_passed
query_fail q next C e = sym (ap (λ (b : Bool). apart_passed C && scope_passed C && b && numbers_passed q next C) e ∙ ap (λ (b : Bool). b && numbers_passed q next C) (last (apart_passed C && scope_passed C)))
  where
    last : (a : Bool) → (a && false) ≡ false
    last true = refl
    last false = refl

pub apart_fail : (q next : ℕ) (C : List Word) → apart_passed C ≡ false → false ≡ scopes_passed q next C
unfolding scopes_passed
apart_fail q next C e = sym (ap (λ (b : Bool). b && scope_passed C && query_passed q C && numbers_passed q next C) e)

pub scope_left : (q next : ℕ) (C : List Word) → numbers_passed q next C ≡ true → query_passed q C ≡ true → apart_passed C ≡ true → scope_passed C ≡ scopes_passed q next C
unfolding scopes_passed
scope_left q next C a b c =
    sym
    (ap (λ (x : Bool). x && scope_passed C && query_passed q C && numbers_passed q next C) c
    ∙ ap₂ (λ (x y : Bool). scope_passed C && x && y) b a
    ∙ last (scope_passed C && true)
    ∙ last (scope_passed C))
  where
    last : (a : Bool) → (a && true) ≡ a
    last true = refl
    last false = refl
