-- Rule by rule: with the solver's answer, what the shape says is whether the rule applies.
use mathlib.Core.Path.{◌≡◌, refl, ap, ap₂, sym, ◌∙◌, subst}
use mathlib.Core.Bool.{Bool, true, false, cond, ◌&&◌, ◌||◌, not}
use mathlib.Core.List.{List, ◌++◌}
use mathlib.Core.Option.{some}
use Prim.Native.Nat.{ℕ, ◌+◌}
use lib.Dec.{eqb}
use Rattle.constraint.specs.Constraint.{Store}
use Rattle.constraint.specs.Solve.{satisfiable?, quiet?}
use Rattle.akl.specs.Base.{Name, is_some}
use Rattle.akl.specs.Syntax.{Op, wait, cond as cond_op, commit, Stmt}
use Rattle.akl.specs.Configuration.{goal, member, guarded, Node, or, and, choice_box, guard, Nodes, nil, cons, Ctx, in_and, in_choice, in_guard, env, Config}
use Rattle.akl.specs.Rules.{provided, empty, non_empty, is_wait, is_cond, is_commit, solved_guard, is_failure, rule_6, rule_7, rule_8, rule_9, rule_10, rule_11, rule_12, rule_13}
use Rattle.mem_words.specs.declared.Word.{Word}
use Rattle.mem_sorts.specs.declared.Kind.TheVariants.{Wait, Cond, Commit}
use Rattle.mem_sorts.specs.Shapes.{kind_no}
use Rattle.rule_effects.specs.Conditions.{kind_at, solved_at}
use Rattle.rule_effects.specs.Standing.{Stands}
use Rattle.rule_effects.proofs.Conditions.{guard_solved, guard_failed, right_of, left_of, operator_of, box_empty, box_operator, first_solved, kind_wait, kind_cond, kind_commit}
use Rattle.rule_applies.specs.declared.Asks.{Asks}
use Rattle.rule_applies.specs.declared.Asks.TheVariants.{Always, Quiet}
use Rattle.rule_applies.specs.Asking.{only_if, asks_6, asks_7, asks_8, asks_10, asks_11, asks_12, asks_13}
use Rattle.rule_applies.specs.Answers.{verdict, IsQuiet, IsSatisfiable, Answers}
use Rattle.rule_applies.proofs.Guards.{guard_stands, first_guard_stands, none_one, none_more, some_one, some_more, or_parts, and_parts}

-- ---------------------------------------------------------------------------------------------
-- Conditions and answers.

some_provided : (b : Bool) (c : Config) → is_some (provided b (some c)) ≡ b
some_provided true c = refl
some_provided false c = refl

and_true : (b : Bool) → (b && true) ≡ b
and_true true = refl
and_true false = refl

and_false : (b : Bool) → (b && false) ≡ false
and_false true = refl
and_false false = refl

ap₃ : (f : Bool → Bool → Bool → Asks) {a a' b b' c c' : Bool} → a ≡ a' → b ≡ b' → c ≡ c' → f a b c ≡ f a' b' c'
ap₃ f {a} {a'} {b} {b'} {c} {c'} p q r = ap (λ (x : Bool). f x b c) p ∙ ap₂ (f a') q r

module _ (num : Name → ℕ) (Z W : List Word) (q : Bool) where
  -- what is asked, by another way to say it
  settled : (a x : Asks) (v : Bool) → a ≡ x → (Answers num Z W x q → verdict x q ≡ v) → Answers num Z W a q → verdict a q ≡ v
  settled a x v e f h = ap (λ (z : Asks). verdict z q) e ∙ f (subst (λ (z : Asks). Answers num Z W z q) e h)

  -- the shape decides
  by_shape : (a : Asks) (b : Bool) (c : Config) → a ≡ only_if b Always → verdict a q ≡ is_some (provided b (some c))
  unfolding only_if
  by_shape a true c e = ap (λ (z : Asks). verdict z q) e
  by_shape a false c e = ap (λ (z : Asks). verdict z q) e

  -- a quiet store is asked for, where the shape is right
  by_quiet : (t x : Bool) (g : ℕ) (c : Config) → (IsQuiet num Z W g q → q ≡ x) → Answers num Z W (only_if t (Quiet g)) q → verdict (only_if t (Quiet g)) q ≡ is_some (provided (x && t) (some c))
  unfolding only_if
  by_quiet true x g c f h = f h ∙ sym (some_provided (x && true) c ∙ and_true x)
  by_quiet false x g c f h = sym (some_provided (x && false) c ∙ and_false x)

-- the shapes that rules 6, 7 and 8, and 12 ask for, by their tests
shape_6 : ℕ → Bool → Bool → Bool → Asks
shape_6 i a b c = only_if a (only_if b (cond c Always (Quiet (i + 2))))

shape_7 : ℕ → Bool → Bool → Bool → Asks
shape_7 i a b c = only_if a (only_if b (only_if c (Quiet (i + 1))))

shape_12 : Bool → Bool → Bool → Asks
shape_12 a b c = only_if a (only_if b (only_if c Always))

split_not : (q : Bool) (op : Op) (c : Bool) → verdict (shape_12 (is_wait op) false c) q ≡ false
unfolding shape_12 only_if
split_not q wait c = refl
split_not q cond_op c = refl
split_not q commit c = refl

split : (q : Bool) (next : ℕ) (χ : Ctx goal) (vs : List ℕ) (σ : Store) (l r : Nodes member) (op : Op) (g : Node goal) (b : Stmt) (x : Node guarded) (gs : Nodes guarded)
    → verdict (shape_12 (is_wait op) true (is_some (solved_guard g))) q ≡ is_some (rule_12 next χ vs σ l r op (cons (guard g b) (cons x gs)))
unfolding shape_12 only_if
split q next χ vs σ l r wait (or ns) b x gs = refl
split q next χ vs σ l r wait (and ws θ (cons m ms)) b x gs = refl
split q next χ vs σ l r wait (and ws θ nil) b x gs = refl
split q next χ vs σ l r cond_op (or ns) b x gs = refl
split q next χ vs σ l r cond_op (and ws θ (cons m ms)) b x gs = refl
split q next χ vs σ l r cond_op (and ws θ nil) b x gs = refl
split q next χ vs σ l r commit (or ns) b x gs = refl
split q next χ vs σ l r commit (and ws θ (cons m ms)) b x gs = refl
split q next χ vs σ l r commit (and ws θ nil) b x gs = refl

module _ (num : Name → ℕ) (next : ℕ) {Z W : List Word} (i : ℕ) (q : Bool) where
  -- ---------------------------------------------------------------------------------------------
  -- 6

  promoted : (χ : Ctx goal) (vs : List ℕ) (σ : Store) (l r : Nodes member) (op : Op) (g : Node goal) (b : Stmt) → Stands num (in_guard (in_choice (in_and χ vs σ l r) op nil nil) b) g Z W (i + 2)
      → Answers num Z W (shape_6 i true (is_some (solved_guard g)) (is_wait op)) q → verdict (shape_6 i true (is_some (solved_guard g)) (is_wait op)) q ≡ is_some (rule_6 next χ vs σ l r op (cons (guard g b) nil))
  unfolding shape_6 only_if env
  promoted χ vs σ l r op (or ns) b s h = refl
  promoted χ vs σ l r op (and ws θ (cons m ms)) b s h = refl
  promoted χ vs σ l r wait (and ws θ nil) b s h = refl
  promoted χ vs σ l r cond_op (and ws θ nil) b s h = h.answer _ ws θ nil s ∙ sym (some_provided (quiet? ws (env χ ++ σ) θ) _)
  promoted χ vs σ l r commit (and ws θ nil) b s h = h.answer _ ws θ nil s ∙ sym (some_provided (quiet? ws (env χ ++ σ) θ) _)

  pub rule_6_applies : {χ : Ctx goal} {vs : List ℕ} {σ : Store} {l r : Nodes member} {op : Op} (gs : Nodes guarded) → Stands num (in_and χ vs σ l r) (choice_box op gs) Z W i
      → Answers num Z W (asks_6 W i) q → verdict (asks_6 W i) q ≡ is_some (rule_6 next χ vs σ l r op gs)
  unfolding asks_6 shape_6 only_if kind_at
  rule_6_applies nil s h = ap (λ (b : Bool). verdict (shape_6 i b (solved_at W (i + 2)) (kind_at W i Wait)) q) (none_one num s)
  rule_6_applies (cons (guard g b) (cons x gs)) s h = ap (λ (b : Bool). verdict (shape_6 i b (solved_at W (i + 2)) (kind_at W i Wait)) q) (some_one num s)
  rule_6_applies {χ} {vs} {σ} {l} {r} {op} (cons (guard g b) nil) s h =
      settled num Z W q (asks_6 W i) (shape_6 i true (is_some (solved_guard g)) (is_wait op)) _
      (ap₃ (shape_6 i) (some_one num s) (first_solved num s) (ap (λ (k : ℕ). eqb k (kind_no Wait)) (box_operator num s) ∙ kind_wait op))
      (promoted χ vs σ l r op g b (first_guard_stands num s)) h

  -- ---------------------------------------------------------------------------------------------
  -- 7 and 8

  conditioned : (χ : Ctx member) (op : Op) (l r : Nodes guarded) (g : Node goal) (b : Stmt) → Stands num (in_guard (in_choice χ op l r) b) g Z W (i + 1)
      → Answers num Z W (shape_7 i (is_cond op) (is_some (solved_guard g)) (non_empty r)) q → verdict (shape_7 i (is_cond op) (is_some (solved_guard g)) (non_empty r)) q ≡ is_some (rule_7 next χ op l r g b)
  unfolding shape_7 only_if env
  conditioned χ wait l r g b s h = refl
  conditioned χ commit l r g b s h = refl
  conditioned χ cond_op l r (or ns) b s h = refl
  conditioned χ cond_op l r (and ws θ (cons m ms)) b s h = refl
  conditioned χ cond_op l r (and ws θ nil) b s h = by_quiet num Z W q (non_empty r) (quiet? ws (env χ) θ) (i + 1) _ (λ a. a.answer _ ws θ nil s) h

  pub rule_7_applies : {χ : Ctx member} {op : Op} {l r : Nodes guarded} {g : Node goal} {b : Stmt} → Stands num (in_choice χ op l r) (guard g b) Z W i
      → Answers num Z W (asks_7 W i) q → verdict (asks_7 W i) q ≡ is_some (rule_7 next χ op l r g b)
  unfolding asks_7 shape_7 kind_at
  rule_7_applies {χ} {op} {l} {r} {g} {b} s h =
      settled num Z W q (asks_7 W i) (shape_7 i (is_cond op) (is_some (solved_guard g)) (non_empty r)) _
      (ap₃ (shape_7 i) (ap (λ (k : ℕ). eqb k (kind_no Cond)) (operator_of num s) ∙ kind_cond op) (guard_solved num s) (right_of num s))
      (conditioned χ op l r g b (guard_stands num s)) h

  committed : (χ : Ctx member) (op : Op) (l r : Nodes guarded) (g : Node goal) (b : Stmt) → Stands num (in_guard (in_choice χ op l r) b) g Z W (i + 1)
      → Answers num Z W (shape_7 i (is_commit op) (is_some (solved_guard g)) (non_empty l || non_empty r)) q
      → verdict (shape_7 i (is_commit op) (is_some (solved_guard g)) (non_empty l || non_empty r)) q ≡ is_some (rule_8 next χ op l r g b)
  unfolding shape_7 only_if env
  committed χ wait l r g b s h = refl
  committed χ cond_op l r g b s h = refl
  committed χ commit l r (or ns) b s h = refl
  committed χ commit l r (and ws θ (cons m ms)) b s h = refl
  committed χ commit l r (and ws θ nil) b s h = by_quiet num Z W q (non_empty l || non_empty r) (quiet? ws (env χ) θ) (i + 1) _ (λ a. a.answer _ ws θ nil s) h

  pub rule_8_applies : {χ : Ctx member} {op : Op} {l r : Nodes guarded} {g : Node goal} {b : Stmt} → Stands num (in_choice χ op l r) (guard g b) Z W i
      → Answers num Z W (asks_8 W i) q → verdict (asks_8 W i) q ≡ is_some (rule_8 next χ op l r g b)
  unfolding asks_8 shape_7 kind_at
  rule_8_applies {χ} {op} {l} {r} {g} {b} s h =
      settled num Z W q (asks_8 W i) (shape_7 i (is_commit op) (is_some (solved_guard g)) (non_empty l || non_empty r)) _
      (ap₃ (shape_7 i) (ap (λ (k : ℕ). eqb k (kind_no Commit)) (operator_of num s) ∙ kind_commit op) (guard_solved num s) (ap₂ ◌||◌ (left_of num s) (right_of num s)))
      (committed χ op l r g b (guard_stands num s)) h

  -- ---------------------------------------------------------------------------------------------
  -- 9, 10, 11, 13

  pub rule_9_applies : {χ : Ctx goal} {vs : List ℕ} {σ : Store} {ms : Nodes member} → Stands num χ (and vs σ ms) Z W i → IsSatisfiable num Z W i q → not q ≡ is_some (rule_9 next χ σ)
  rule_9_applies {χ} {vs} {σ} {ms} s h = ap not (h.answer χ vs σ ms s) ∙ sym (some_provided (not (satisfiable? (env χ ++ σ))) _)

  pub rule_10_applies : {χ : Ctx goal} {vs : List ℕ} {σ : Store} {l r : Nodes member} {op : Op} {gs : Nodes guarded} → Stands num (in_and χ vs σ l r) (choice_box op gs) Z W i → verdict (asks_10 W i) q ≡ is_some (rule_10 next χ gs)
  unfolding asks_10
  rule_10_applies {gs = gs} s = by_shape num Z W q (asks_10 W i) (empty gs) _ (ap (λ (b : Bool). only_if b Always) (box_empty num s))

  pub rule_11_applies : {χ : Ctx member} {op : Op} {l r : Nodes guarded} {g : Node goal} {b : Stmt} → Stands num (in_choice χ op l r) (guard g b) Z W i → verdict (asks_11 W i) q ≡ is_some (rule_11 next χ op l r g)
  unfolding asks_11
  rule_11_applies {g = g} s = by_shape num Z W q (asks_11 W i) (is_failure g) _ (ap (λ (b : Bool). only_if b Always) (guard_failed num s))

  pub rule_13_applies : {χ : Ctx member} {op : Op} {l r : Nodes guarded} (g : Node goal) {b : Stmt} → Stands num (in_choice χ op l r) (guard g b) Z W i → verdict (asks_13 W i) q ≡ is_some (rule_13 next χ op l r g b)
  unfolding asks_13 only_if
  rule_13_applies (or nil) s = ap (λ (b : Bool). verdict (only_if b Always) q) (or_parts num (guard_stands num s))
  rule_13_applies (or (cons n ns)) s = ap (λ (b : Bool). verdict (only_if b Always) q) (or_parts num (guard_stands num s))
  rule_13_applies (and vs σ ms) s = ap (λ (b : Bool). verdict (only_if b Always) q) (and_parts num (guard_stands num s))

  -- ---------------------------------------------------------------------------------------------
  -- 12

  pub rule_12_applies : {χ : Ctx goal} {vs : List ℕ} {σ : Store} {l r : Nodes member} {op : Op} (gs : Nodes guarded) → Stands num (in_and χ vs σ l r) (choice_box op gs) Z W i → verdict (asks_12 W i) q ≡ is_some (rule_12 next χ vs σ l r op gs)
  unfolding asks_12 shape_12 kind_at
  rule_12_applies {op = op} nil s = ap (λ (a : Asks). verdict a q) (ap₃ shape_12 (ap (λ (k : ℕ). eqb k (kind_no Wait)) (box_operator num s) ∙ kind_wait op) (none_more num s) refl) ∙ split_not q op (solved_at W (i + 2))
  rule_12_applies {op = op} (cons (guard g b) nil) s = ap (λ (a : Asks). verdict a q) (ap₃ shape_12 (ap (λ (k : ℕ). eqb k (kind_no Wait)) (box_operator num s) ∙ kind_wait op) (some_more num s) refl) ∙ split_not q op (solved_at W (i + 2))
  rule_12_applies {χ} {vs} {σ} {l} {r} {op} (cons (guard g b) (cons x gs)) s =
      ap (λ (a : Asks). verdict a q) (ap₃ shape_12 (ap (λ (k : ℕ). eqb k (kind_no Wait)) (box_operator num s) ∙ kind_wait op) (some_more num s) (first_solved num s)) ∙ split q next χ vs σ l r op g b x gs
