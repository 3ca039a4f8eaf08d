-- The stores of the and-boxes around a node are its environment, the innermost first.
use mathlib.Core.Path.{◌≡◌, refl, ap, sym, ◌∙◌, subst}
use mathlib.Core.Bool.{Bool, true, false, cond}
use mathlib.Core.List.{List, [], ◌∷◌}
use Prim.Native.Nat.{ℕ, zero, suc, ◌≤◌, ◌<◌}
use native.Mathlib.Omega.{arith}
use lib.Dec.{ltb, eqb}
use borrow.Author.Tests.{lt-ltb, le-ltb}
use Rattle.constraint.specs.Tree.{Label}
use Rattle.constraint.specs.Constraint as constraint
use Rattle.akl.specs.Base.{Name}
use Rattle.akl.specs.Syntax.{Op, wait, cond as condition, commit, Stmt}
use Rattle.akl.specs.Configuration as akl
use Rattle.akl.specs.Configuration.{goal, member, guarded, Node, or, and, choice_box, guard, Nodes, cons, ◌+n◌, Ctx, top, in_or, in_and, in_choice, in_guard, plug, env}
use Rattle.mem_words.specs.declared.Word.{Word}
use Rattle.mem_sorts.specs.declared.Kind.TheVariants.{And}
use Rattle.mem_sorts.specs.Shapes.{kind_no}
use Rattle.store_words.specs.Boxes.{box_kind}
use Rattle.store_words.specs.Contexts.{before, after, kind_of}
use Rattle.store_words.specs.Tables.{SpeltNode}
use Rattle.rule_words.specs.Scans.{around}
use Rattle.rule_effects.specs.Conditions.{kind_at}
use Rattle.rule_effects.specs.Standing.{Stands}
use Rattle.rule_effects.proofs.Frames.{stands_seg}
use Rattle.rule_effects.proofs.Conditions.{kind_node}
use Rattle.rule_ranges.specs.Ranges.{Range, store_range, and_its, ranges}
use Rattle.rule_ranges.proofs.Around.{holds_or, holds_and, holds_choice, holds_guard, at_top}
use Rattle.rule_ranges.proofs.Ranged.{Ranged, no_more, then, together, SpeltStores}
use Rattle.rule_ranges.proofs.Own.{spelt_in, store_held}
use Rattle.rule_ranges.proofs.Alike.{Alike, alike_same, alike_turned}

-- the stores of the and-boxes around a node, the innermost first
unfoldable pub context_stores : {k : akl.Kind} → Ctx k → List constraint.Store
context_stores top = []
context_stores (in_or χ l r) = context_stores χ
context_stores (in_and χ vs σ l r) = σ ∷ context_stores χ
context_stores (in_choice χ op l r) = context_stores χ
context_stores (in_guard χ b) = context_stores χ

-- Together they are the environment, in another order.
pub around_alike : {k : akl.Kind} (χ : Ctx k) → Alike (together (context_stores χ)) (env χ)
unfolding context_stores together env
around_alike top = alike_same refl
around_alike (in_or χ l r) = around_alike χ
around_alike (in_and χ vs σ l r) = alike_turned σ (around_alike χ)
around_alike (in_choice χ op l r) = around_alike χ
around_alike (in_guard χ b) = around_alike χ

-- What is spelt of the whole is spelt of them.
pub spelt_around : (num : Name → ℕ) (lab : ℕ → Label) {k : akl.Kind} (χ : Ctx k) (n : Node k) → SpeltNode num lab (plug χ n) → SpeltStores num lab (context_stores χ)
unfolding context_stores plug
spelt_around num lab top n p = tt
spelt_around num lab (in_or χ l r) n p = spelt_around num lab χ (or (l +n cons n r)) p
spelt_around num lab (in_and χ vs σ l r) n p = ((spelt_in num lab χ (and vs σ (l +n cons n r)) p).0, spelt_around num lab χ (and vs σ (l +n cons n r)) p)
spelt_around num lab (in_choice χ op l r) n p = spelt_around num lab χ (choice_box op (l +n cons n r)) p
spelt_around num lab (in_guard χ b) n p = spelt_around num lab χ (guard n b) p

-- ---------------------------------------------------------------------------------------------
-- A bracket on the way outwards, and the end of the way.

pub ranges_step : (f : ℕ) (W : List Word) (s i o : ℕ) → around W i ≡ o → s < i → s ≤ o → ranges (suc f) W s i ≡ and_its W o (ranges f W s o)
unfolding ranges
ranges_step f W s i o e h g =
    ap (λ (b : Bool). cond b (cond (ltb (around W i) s) [] (and_its W (around W i) (ranges f W s (around W i)))) []) (lt-ltb s i h)
    ∙ ap (λ (x : ℕ). cond (ltb x s) [] (and_its W x (ranges f W s x))) e
    ∙ ap (λ (b : Bool). cond b [] (and_its W o (ranges f W s o))) (le-ltb o s g)

pub ranges_end : (f : ℕ) (W : List Word) (s i : ℕ) → i ≤ s → ranges f W s i ≡ []
unfolding ranges
ranges_end zero W s i h = refl
ranges_end (suc f) W s i h = ap (λ (b : Bool). cond b (cond (ltb (around W i) s) [] (and_its W (around W i) (ranges f W s (around W i)))) []) (le-ltb s i h)

-- ---------------------------------------------------------------------------------------------
-- Which brackets have a store.

pub choice_kind : (op : Op) → eqb (kind_no (box_kind op)) (kind_no And) ≡ false
unfolding box_kind
choice_kind wait = refl
choice_kind condition = refl
choice_kind commit = refl

module _ (num : Name → ℕ) {Z W : List Word} {o : ℕ} where
  kind_test : {k : akl.Kind} {χ : Ctx k} {n : Node k} → Stands num χ n Z W o → kind_at W o And ≡ eqb (kind_no (kind_of n)) (kind_no And)
  unfolding kind_at
  kind_test {k} {χ} {n} s = ap (λ (x : ℕ). eqb x (kind_no And)) (kind_node num n (before num χ [] ∷ []) (after num χ Z) W o (stands_seg num s) (let h = s.begins in omega (arith, h)))

  pub and_begins : {χ : Ctx goal} {vs : List ℕ} {σ : constraint.Store} {ms : Nodes member} → Stands num χ (and vs σ ms) Z W o → kind_at W o And ≡ true
  unfolding kind_of
  and_begins s = kind_test s

  pub and_adds : {χ : Ctx goal} {vs : List ℕ} {σ : constraint.Store} {ms : Nodes member} (rs : List Range) → Stands num χ (and vs σ ms) Z W o → and_its W o rs ≡ store_range W o ∷ rs
  and_adds rs s = ap (λ (b : Bool). cond b (store_range W o ∷ rs) rs) (and_begins s)

  pub or_adds : {χ : Ctx goal} {ns : Nodes goal} (rs : List Range) → Stands num χ (or ns) Z W o → and_its W o rs ≡ rs
  unfolding kind_of
  or_adds rs s = ap (λ (b : Bool). cond b (store_range W o ∷ rs) rs) (kind_test s)

  pub choice_adds : {χ : Ctx member} {op : Op} {gs : Nodes guarded} (rs : List Range) → Stands num χ (choice_box op gs) Z W o → and_its W o rs ≡ rs
  unfolding kind_of
  choice_adds {χ} {op} rs s = ap (λ (b : Bool). cond b (store_range W o ∷ rs) rs) (kind_test s ∙ choice_kind op)

  pub guard_adds : {χ : Ctx guarded} {g : Node goal} {b : Stmt} (rs : List Range) → Stands num χ (guard g b) Z W o → and_its W o rs ≡ rs
  unfolding kind_of
  guard_adds rs s = ap (λ (b : Bool). cond b (store_range W o ∷ rs) rs) (kind_test s)

-- ---------------------------------------------------------------------------------------------
-- The way outwards, with calls enough.

module _ (num : Name → ℕ) where
  passed : (f : ℕ) (W : List Word) (i : ℕ) → around W i < i → ranges (suc f) W 0 i ≡ and_its W (around W i) (ranges f W 0 (around W i))
  passed f W i h = ranges_step f W 0 i (around W i) refl (omega arith) (omega arith)

  pub around_ranged : {k : akl.Kind} (χ : Ctx k) (n : Node k) (f : ℕ) (Z W : List Word) (i : ℕ) → i ≤ f → Stands num χ n Z W i → Ranged num W (ranges f W 0 i) (context_stores χ)
  unfolding context_stores
  around_ranged top n f Z W i h s = let z = at_top num s in subst (λ (rs : List Range). Ranged num W rs []) (sym (ranges_end f W 0 i (omega (arith, z)))) no_more
  around_ranged (in_or χ l r) n zero Z W i h s = let u = holds_or num s in let v = u.1 in absurd (omega (arith, v))
  around_ranged (in_or χ l r) n (suc f) Z W i h s =
      let u = holds_or num s in
      let v = u.1 in
      subst (λ (rs : List Range). Ranged num W rs (context_stores χ)) (sym (passed f W i v ∙ or_adds num (ranges f W 0 (around W i)) u.0)) (around_ranged χ (or (l +n cons n r)) f Z W (around W i) (omega (arith, v)) u.0)
  around_ranged (in_and χ vs σ l r) n zero Z W i h s = let u = holds_and num s in let v = u.1 in absurd (omega (arith, v))
  around_ranged (in_and χ vs σ l r) n (suc f) Z W i h s =
      let u = holds_and num s in
      let v = u.1 in
      subst (λ (rs : List Range). Ranged num W rs (σ ∷ context_stores χ)) (sym (passed f W i v ∙ and_adds num (ranges f W 0 (around W i)) u.0)) (then (store_held num u.0) (around_ranged χ (and vs σ (l +n cons n r)) f Z W (around W i) (omega (arith, v)) u.0))
  around_ranged (in_choice χ op l r) n zero Z W i h s = let u = holds_choice num s in let v = u.1 in absurd (omega (arith, v))
  around_ranged (in_choice χ op l r) n (suc f) Z W i h s =
      let u = holds_choice num s in
      let v = u.1 in
      subst (λ (rs : List Range). Ranged num W rs (context_stores χ)) (sym (passed f W i v ∙ choice_adds num (ranges f W 0 (around W i)) u.0)) (around_ranged χ (choice_box op (l +n cons n r)) f Z W (around W i) (omega (arith, v)) u.0)
  around_ranged (in_guard χ b) n zero Z W i h s = let u = holds_guard num s in let v = u.1 in absurd (omega (arith, v))
  around_ranged (in_guard χ b) n (suc f) Z W i h s =
      let u = holds_guard num s in
      let v = u.1 in
      subst (λ (rs : List Range). Ranged num W rs (context_stores χ)) (sym (passed f W i v ∙ guard_adds num (ranges f W 0 (around W i)) u.0)) (around_ranged χ (guard n b) f Z W (around W i) (omega (arith, v)) u.0)
