-- The tests of the shape behind the questions of rules 6, 7 and 8, and the kinds of places that they are asked at. Assumes nothing.
use mathlib.Core.Path.{◌≡◌, refl, ap, sym, ◌∙◌, subst}
use mathlib.Core.Bool.{Bool, true, false, cond, ◌||◌}
use mathlib.Core.Logic.{◌⊎◌, inl, inr}
use mathlib.Core.List.{List}
use Prim.Native.Nat.{ℕ, zero, suc, ◌+◌, ◌<◌}
use native.Mathlib.Omega.{arith}
use lib.Dec.{T, eqb, eqb→eq}
use lib.ListN.{get_or}
use Rattle.mem_words.specs.declared.Word.{Word}
use Rattle.mem_words.specs.declared.Word.TheVariants.{End, Free, Level, Num, Place, Inner, Bad}
use Rattle.mem_sorts.specs.declared.Kind.TheVariants.{Or, And, Guarded, Member, Wait, Cond, Commit}
use Rattle.mem_sorts.specs.declared.Sort.{Sort}
use Rattle.mem_sorts.specs.declared.Sort.TheVariants as sorts
use Rattle.rule_words.specs.Scans.{opens, around}
use Rattle.rule_effects.specs.Conditions.{kind_in, kind_at, solved_at, right_at, left_at, one_at}
use Rattle.rule_kinds.specs.Kinds.{sort_takes, word_takes, or_takes, place_takes, takes_in}
use Rattle.rule_ranges.proofs.Inside.{around_before}
use Rattle.rule_applies.specs.declared.Asks.{Asks}
use Rattle.rule_applies.specs.declared.Asks.TheVariants.{Never, Always, Quiet, Satisfiable}
use Rattle.rule_applies.specs.Asking.{only_if, asks_6, asks_7, asks_8, asks_in}

pub differ : false ≡ true → ⊥
differ z = let y : ◌≡◌ {A = ℕ} 0 1 = ap (λ (x : Bool). elim x [ true ↦ 1 | false ↦ 0 ]) z in omega (arith, y)

-- ---------------------------------------------------------------------------------------------
-- A question to the solver is asked only where all tests of the shape hold.

number : Asks → ℕ
number Never = 0
number Always = 1
number (Quiet q) = 2
number (Satisfiable q) = 3

quiet_never : (q : ℕ) → Quiet q ≡ Never → ⊥
unfolding number
quiet_never q e = let z : ◌≡◌ {A = ℕ} 2 0 = ap number e in omega (arith, z)

quiet_always : (q : ℕ) → Quiet q ≡ Always → ⊥
unfolding number
quiet_always q e = let z : ◌≡◌ {A = ℕ} 2 1 = ap number e in omega (arith, z)

three_hold : (a b c : Bool) (q : ℕ) → Quiet q ≡ only_if a (only_if b (only_if c (Quiet q))) → (a ≡ true) × (b ≡ true) × (c ≡ true)
unfolding only_if
three_hold true true true q e = (refl, refl, refl)
three_hold true true false q e = absurd (quiet_never q e)
three_hold true false c q e = absurd (quiet_never q e)
three_hold false b c q e = absurd (quiet_never q e)

three_ask : (a b c : Bool) (q : ℕ) → a ≡ true → b ≡ true → c ≡ true → Quiet q ≡ only_if a (only_if b (only_if c (Quiet q)))
unfolding only_if
three_ask a b c q x y z = ap (λ (u : Bool). only_if u (Quiet q)) (sym z) ∙ ap (λ (u : Bool). only_if u (only_if c (Quiet q))) (sym y) ∙ ap (λ (u : Bool). only_if u (only_if b (only_if c (Quiet q)))) (sym x)

six_holds : (a b c : Bool) (q : ℕ) → Quiet q ≡ only_if a (only_if b (cond c Always (Quiet q))) → (a ≡ true) × (b ≡ true) × (c ≡ false)
unfolding only_if
six_holds true true true q e = absurd (quiet_always q e)
six_holds true true false q e = (refl, refl, refl)
six_holds true false c q e = absurd (quiet_never q e)
six_holds false b c q e = absurd (quiet_never q e)

six_asks : (a b c : Bool) (q : ℕ) → a ≡ true → b ≡ true → c ≡ false → Quiet q ≡ only_if a (only_if b (cond c Always (Quiet q)))
unfolding only_if
six_asks a b c q x y z = ap (λ (u : Bool). cond u Always (Quiet q)) (sym z) ∙ ap (λ (u : Bool). only_if u (cond c Always (Quiet q))) (sym y) ∙ ap (λ (u : Bool). only_if u (only_if b (cond c Always (Quiet q)))) (sym x)

-- the tests of each rule
pub tests_6 : (W : List Word) (c : ℕ) → Quiet (c + 2) ≡ asks_in W c 6 → (one_at W c ≡ true) × (solved_at W (c + 2) ≡ true) × (kind_at W c Wait ≡ false)
unfolding asks_in asks_6
tests_6 W c e = six_holds (one_at W c) (solved_at W (c + 2)) (kind_at W c Wait) (c + 2) e

pub tests_7 : (W : List Word) (i : ℕ) → Quiet (i + 1) ≡ asks_in W i 7 → (kind_at W (around W i) Cond ≡ true) × (solved_at W (i + 1) ≡ true) × (right_at W i ≡ true)
unfolding asks_in asks_7
tests_7 W i e = three_hold (kind_at W (around W i) Cond) (solved_at W (i + 1)) (right_at W i) (i + 1) e

pub tests_8 : (W : List Word) (i : ℕ) → Quiet (i + 1) ≡ asks_in W i 8 → (kind_at W (around W i) Commit ≡ true) × (solved_at W (i + 1) ≡ true) × (left_at W i || right_at W i ≡ true)
unfolding asks_in asks_8
tests_8 W i e = three_hold (kind_at W (around W i) Commit) (solved_at W (i + 1)) (left_at W i || right_at W i) (i + 1) e

pub ask_6 : (W : List Word) (c : ℕ) → one_at W c ≡ true → solved_at W (c + 2) ≡ true → kind_at W c Wait ≡ false → Quiet (c + 2) ≡ asks_in W c 6
unfolding asks_in asks_6
ask_6 W c x y z = six_asks (one_at W c) (solved_at W (c + 2)) (kind_at W c Wait) (c + 2) x y z

pub ask_7 : (W : List Word) (i : ℕ) → kind_at W (around W i) Cond ≡ true → solved_at W (i + 1) ≡ true → right_at W i ≡ true → Quiet (i + 1) ≡ asks_in W i 7
unfolding asks_in asks_7
ask_7 W i x y z = three_ask (kind_at W (around W i) Cond) (solved_at W (i + 1)) (right_at W i) (i + 1) x y z

pub ask_8 : (W : List Word) (i : ℕ) → kind_at W (around W i) Commit ≡ true → solved_at W (i + 1) ≡ true → left_at W i || right_at W i ≡ true → Quiet (i + 1) ≡ asks_in W i 8
unfolding asks_in asks_8
ask_8 W i x y z = three_ask (kind_at W (around W i) Commit) (solved_at W (i + 1)) (left_at W i || right_at W i) (i + 1) x y z

-- ---------------------------------------------------------------------------------------------
-- Kinds of places.

-- a place has one kind
kind_no : (W : List Word) (c n : ℕ) → eqb (kind_in (get_or W c Bad)) n ≡ true → kind_in (get_or W c Bad) ≡ n
kind_no W c n h = eqb→eq (kind_in (get_or W c Bad)) n (subst T (sym h) tt)

pub cond_wait : (W : List Word) (c : ℕ) → kind_at W c Cond ≡ true → kind_at W c Wait ≡ false
unfolding kind_at
cond_wait W c h = ap (λ (x : ℕ). eqb x 4) (kind_no W c 5 h)

pub cond_commit : (W : List Word) (c : ℕ) → kind_at W c Cond ≡ true → kind_at W c Commit ≡ false
unfolding kind_at
cond_commit W c h = ap (λ (x : ℕ). eqb x 6) (kind_no W c 5 h)

pub commit_wait : (W : List Word) (c : ℕ) → kind_at W c Commit ≡ true → kind_at W c Wait ≡ false
unfolding kind_at
commit_wait W c h = ap (λ (x : ℕ). eqb x 4) (kind_no W c 6 h)

-- of a choice-box
pub cond_takes : (W : List Word) (c : ℕ) → kind_at W c Cond ≡ true → takes_in W c ≡ 5
unfolding kind_at takes_in
cond_takes W c = go (get_or W c Bad)
  where
    go : (w : Word) → eqb (kind_in w) 5 ≡ true → place_takes w W c ≡ 5
    go End h = absurd (differ h)
    go (Free v) h = absurd (differ h)
    go (Level v) h = absurd (differ h)
    go (Num v) h = absurd (differ h)
    go (Place Or) h = absurd (differ h)
    go (Place And) h = absurd (differ h)
    go (Place Guarded) h = absurd (differ h)
    go (Place Member) h = absurd (differ h)
    go (Place Wait) h = absurd (differ h)
    go (Place Cond) h = refl
    go (Place Commit) h = absurd (differ h)
    go (Inner s) h = absurd (differ h)
    go Bad h = absurd (differ h)

pub commit_takes : (W : List Word) (c : ℕ) → kind_at W c Commit ≡ true → takes_in W c ≡ 5
unfolding kind_at takes_in
commit_takes W c = go (get_or W c Bad)
  where
    go : (w : Word) → eqb (kind_in w) 6 ≡ true → place_takes w W c ≡ 5
    go End h = absurd (differ h)
    go (Free v) h = absurd (differ h)
    go (Level v) h = absurd (differ h)
    go (Num v) h = absurd (differ h)
    go (Place Or) h = absurd (differ h)
    go (Place And) h = absurd (differ h)
    go (Place Guarded) h = absurd (differ h)
    go (Place Member) h = absurd (differ h)
    go (Place Wait) h = absurd (differ h)
    go (Place Cond) h = absurd (differ h)
    go (Place Commit) h = refl
    go (Inner s) h = absurd (differ h)
    go Bad h = absurd (differ h)

pub guarded_takes : (W : List Word) (c : ℕ) → kind_at W c Guarded ≡ true → takes_in W c ≡ 6
unfolding kind_at takes_in
guarded_takes W c = go (get_or W c Bad)
  where
    go : (w : Word) → eqb (kind_in w) 2 ≡ true → place_takes w W c ≡ 6
    go End h = absurd (differ h)
    go (Free v) h = absurd (differ h)
    go (Level v) h = absurd (differ h)
    go (Num v) h = absurd (differ h)
    go (Place Or) h = absurd (differ h)
    go (Place And) h = absurd (differ h)
    go (Place Guarded) h = refl
    go (Place Member) h = absurd (differ h)
    go (Place Wait) h = absurd (differ h)
    go (Place Cond) h = absurd (differ h)
    go (Place Commit) h = absurd (differ h)
    go (Inner s) h = absurd (differ h)
    go Bad h = absurd (differ h)

pub guarded_opens : (W : List Word) (i : ℕ) → kind_at W i Guarded ≡ true → opens (get_or W i Bad) 0 ≡ true
unfolding kind_at
guarded_opens W i = go (get_or W i Bad)
  where
    go : (w : Word) → eqb (kind_in w) 2 ≡ true → opens w 0 ≡ true
    go End h = absurd (differ h)
    go (Free v) h = absurd (differ h)
    go (Level v) h = absurd (differ h)
    go (Num v) h = absurd (differ h)
    go (Place k) h = refl
    go (Inner s) h = refl
    go Bad h = absurd (differ h)

-- what is around a position stands before it
pub around_low : (W : List Word) (j : ℕ) → 0 < j → around W j < j
around_low W zero h = absurd (omega (arith, h))
around_low W (suc j) h = let a = around_before W j in omega (arith, a)

-- statements and or-boxes are neither
Far : ℕ → Type 0
Far n = (n < 5) ⊎ (6 < n)

far_no : (n : ℕ) → Far n → (n ≡ 5) ⊎ (n ≡ 6) → ⊥
unfolding Far
far_no n (inl a) (inl h) = omega (arith, a, h)
far_no n (inl a) (inr h) = omega (arith, a, h)
far_no n (inr a) (inl h) = omega (arith, a, h)
far_no n (inr a) (inr h) = omega (arith, a, h)

sort_far : (s : Sort) → Far (sort_takes s)
unfolding Far
sort_far sorts.Locals = inr (omega arith)
sort_far sorts.Store = inr (omega arith)
sort_far sorts.True = inl (omega arith)
sort_far sorts.Fail = inl (omega arith)
sort_far sorts.Eq = inl (omega arith)
sort_far sorts.App = inl (omega arith)
sort_far sorts.Call = inl (omega arith)
sort_far sorts.Comp = inl (omega arith)
sort_far sorts.Hide = inl (omega arith)
sort_far sorts.Clause = inr (omega arith)
sort_far sorts.AskWait = inl (omega arith)
sort_far sorts.AskCond = inl (omega arith)
sort_far sorts.AskCommit = inl (omega arith)

word_far : (w : Word) → Far (word_takes w)
unfolding Far
word_far End = inr (omega arith)
word_far (Free v) = inr (omega arith)
word_far (Level v) = inr (omega arith)
word_far (Num v) = inr (omega arith)
word_far (Place k) = inr (omega arith)
word_far (Inner s) = sort_far s
word_far Bad = inr (omega arith)

or_far : (W : List Word) (j : ℕ) → Far (or_takes W j)
unfolding Far or_takes
or_far W zero = inr (omega arith)
or_far W (suc j) = go (kind_at W (around W (suc j)) Or)
  where
    go : (b : Bool) → Far (cond b 8 9)
    go true = inr (omega arith)
    go false = inr (omega arith)

-- a guarded goal, and a choice-box that is no `?`
pub takes_guarded : (W : List Word) (i : ℕ) → takes_in W i ≡ 6 → kind_at W i Guarded ≡ true
unfolding kind_at takes_in
takes_guarded W i = go (get_or W i Bad)
  where
    go : (w : Word) → place_takes w W i ≡ 6 → eqb (kind_in w) 2 ≡ true
    go End h = absurd (omega (arith, h))
    go (Free v) h = absurd (omega (arith, h))
    go (Level v) h = absurd (omega (arith, h))
    go (Num v) h = absurd (omega (arith, h))
    go (Place Or) h = absurd (far_no (or_takes W i) (or_far W i) (inr h))
    go (Place And) h = absurd (omega (arith, h))
    go (Place Guarded) h = refl
    go (Place Member) h = absurd (far_no (word_takes (get_or W (i + 1) Bad)) (word_far (get_or W (i + 1) Bad)) (inr h))
    go (Place Wait) h = absurd (omega (arith, h))
    go (Place Cond) h = absurd (omega (arith, h))
    go (Place Commit) h = absurd (omega (arith, h))
    go (Inner s) h = absurd (omega (arith, h))
    go Bad h = absurd (omega (arith, h))

pub takes_choice : (W : List Word) (c : ℕ) → takes_in W c ≡ 5 → kind_at W c Wait ≡ false → (kind_at W c Cond ≡ true) ⊎ (kind_at W c Commit ≡ true)
unfolding kind_at takes_in
takes_choice W c = go (get_or W c Bad)
  where
    go : (w : Word) → place_takes w W c ≡ 5 → eqb (kind_in w) 4 ≡ false → (eqb (kind_in w) 5 ≡ true) ⊎ (eqb (kind_in w) 6 ≡ true)
    go End h z = absurd (omega (arith, h))
    go (Free v) h z = absurd (omega (arith, h))
    go (Level v) h z = absurd (omega (arith, h))
    go (Num v) h z = absurd (omega (arith, h))
    go (Place Or) h z = absurd (far_no (or_takes W c) (or_far W c) (inl h))
    go (Place And) h z = absurd (omega (arith, h))
    go (Place Guarded) h z = absurd (omega (arith, h))
    go (Place Member) h z = absurd (far_no (word_takes (get_or W (c + 1) Bad)) (word_far (get_or W (c + 1) Bad)) (inl h))
    go (Place Wait) h z = absurd (differ (sym z))
    go (Place Cond) h z = inl refl
    go (Place Commit) h z = inr refl
    go (Inner s) h z = absurd (omega (arith, h))
    go Bad h z = absurd (omega (arith, h))
