-- Locals that join a box, and fresh numbers.
use mathlib.Core.Path.{◌≡◌, refl, ap, sym, ◌∙◌, subst}
use mathlib.Core.Logic.{◌↔◌, ◌⊎◌, inl, inr, ite, if_pos, if_neg}
use mathlib.Core.List.{List, [], ◌∷◌, ◌++◌, map}
use Prim.Native.Nat.{ℕ, zero, suc, ◌+◌, ◌≤◌, ◌<◌}
use native.Mathlib.Decide.{ℕ_discrete, dec_lt}
use native.Mathlib.Omega.{arith}
use Rattle.constraint.specs.Tree.{Tree}
use Rattle.constraint.specs.Constraint.{Asg, In, Off}
use Rattle.constraint.proofs.Lists.{In-append}
use Rattle.constraint.proofs.Trees.{dec_in}
use Rattle.constraint.proofs.Entail.{mix, mix_in, mix_out}
use Rattle.akl.specs.Base.{size, range}
use Rattle.theory.specs.Meaning.{hidden_locals}
use Rattle.theory.specs.Scope.{Disjoint, Below}
use Rattle.theory.proofs.Agreement.{Agree, hidden_In}

pub hidden_append : (q x : ℕ) (vs us : List ℕ) → In x (hidden_locals q (vs ++ us)) ↔ (In x (hidden_locals q vs) ⊎ In x (hidden_locals q us))
hidden_append q x vs us =
    let a = hidden_In q x (vs ++ us) in
    let b = hidden_In q x vs in
    let c = hidden_In q x us in
    let d = In-append x vs us in
    (λ i. let h = a.0 i in elim (d.0 h.0) [ inl j ↦ inl (b.1 (j, h.1)) | inr j ↦ inr (c.1 (j, h.1)) ], λ h. elim h [ inl i ↦ a.1 (d.1 (inl (b.0 i).0), (b.0 i).1) | inr i ↦ a.1 (d.1 (inr (c.0 i).0), (c.0 i).1) ])

-- vs are a box's locals, us join them, ws are variables that us do not hold
module _ (q : ℕ) (vs us ws : List ℕ) (d : Disjoint us ws) where
  -- first the box's, then those that join
  pub extend_off : (ρ ρ' ρ'' : Asg) → Off (hidden_locals q vs) ρ ρ' → Off (hidden_locals q us) ρ' ρ'' → Off (hidden_locals q (vs ++ us)) ρ ρ''
  extend_off ρ ρ' ρ'' o o' x n = o x (λ i. n ((hidden_append q x vs us).1 (inl i))) ∙ o' x (λ i. n ((hidden_append q x vs us).1 (inr i)))

  pub off_agree : (ρ ρ' : Asg) → Off (hidden_locals q us) ρ ρ' → Agree q ws ρ ρ'
  off_agree ρ ρ' o x (inl i) = o x (λ j. d x ((hidden_In q x us).0 j).0 i)
  off_agree ρ ρ' o x (inr l) = o x (λ j. no_way ((hidden_In q x us).0 j).1)
    where
      no_way : q ≤ x → ⊥
      no_way h = omega arith

  -- those that joined are set back
  reset : Asg → Asg → Asg
  reset ρ ρ'' = mix (hidden_locals q us) ρ'' ρ

  pub back : Asg → Asg → Asg
  back ρ ρ'' = reset ρ ρ''

  pub back_off : (ρ ρ'' : Asg) → Off (hidden_locals q (vs ++ us)) ρ ρ'' → Off (hidden_locals q vs) ρ (back ρ ρ'')
  unfolding back reset
  back_off ρ ρ'' o x n = go (dec_in x (hidden_locals q us))
    where
      go : Dec (In x (hidden_locals q us)) → ρ x ≡ mix (hidden_locals q us) ρ'' ρ x
      go (yes i) = sym (mix_in (hidden_locals q us) ρ'' ρ x i)
      go (no m) = o x (λ j. elim ((hidden_append q x vs us).0 j) [ inl k ↦ n k | inr k ↦ m k ]) ∙ mix_out (hidden_locals q us) ρ'' ρ x m

  pub back_agree : (ρ ρ'' : Asg) → Agree q ws ρ'' (back ρ ρ'')
  unfolding back reset
  back_agree ρ ρ'' = off_agree ρ'' (mix (hidden_locals q us) ρ'' ρ) (mix_out (hidden_locals q us) ρ'' ρ)

  pub back_of : (ρ ρ'' : Asg) → Off (hidden_locals q us) (back ρ ρ'') ρ''
  unfolding back reset
  back_of ρ ρ'' x n = sym (mix_out (hidden_locals q us) ρ'' ρ x n)

-- ---------------------------------------------------------------------------------------------
-- Fresh numbers: N, N + 1, .., m of them.

pub range_In : (x N m : ℕ) → In x (range N m) → (N ≤ x) × (x < N + m)
unfolding range
range_In x N zero i = elim i [ ]
range_In x N (suc m) (inl e) = (rw e (omega arith), rw e (omega arith))
range_In x N (suc m) (inr i) = let h = range_In x (suc N) m i in (omega arith, omega arith)

pub In-range : (x N m : ℕ) → N ≤ x → x < N + m → In x (range N m)
unfolding range
In-range x N zero a b = absurd (omega arith)
In-range x N (suc m) a b = go (ℕ_discrete x N) (λ c d. In-range x (suc N) m c d)
  where
    go : Dec (x ≡ N) → (suc N ≤ x → x < suc N + m → In x (range (suc N) m)) → (x ≡ N) ⊎ In x (range (suc N) m)
    go (yes e) ih = inl e
    go (no n) ih = inr (ih (omega arith) (omega arith))

pub range_new : (N m : ℕ) (ws : List ℕ) → Below ws N → Disjoint (range N m) ws
range_new N m ws h x i j = omega (arith, range_In x N m i, h x j)

-- trees for the numbers N, N + 1, ..
unfoldable pub assign : ℕ → List Tree → Asg → Asg
assign N [] ρ x = ρ x
assign N (t ∷ ts) ρ x = ite (ℕ_discrete x N) t (assign (suc N) ts ρ x)

assign_low : (N : ℕ) (ts : List Tree) (ρ : Asg) (x : ℕ) → x < N → assign N ts ρ x ≡ ρ x
unfolding assign
assign_low N [] ρ x l = refl
assign_low N (t ∷ ts) ρ x l = if_neg (ℕ_discrete x N) (λ e. ne e) t (assign (suc N) ts ρ x) ∙ assign_low (suc N) ts ρ x (omega arith)
  where
    ne : x ≡ N → ⊥
    ne e = omega arith

assign_out : (N m : ℕ) (ts : List Tree) (ρ : Asg) → size ts ≡ m → (x : ℕ) → (In x (range N m) → ⊥) → assign N ts ρ x ≡ ρ x
unfolding assign range size
assign_out N m [] ρ e x n = refl
assign_out N zero (t ∷ ts) ρ e x n = absurd (omega arith)
assign_out N (suc m) (t ∷ ts) ρ e x n = if_neg (ℕ_discrete x N) (λ q. n (inl q)) t (assign (suc N) ts ρ x) ∙ assign_out (suc N) m ts ρ (omega arith) x (λ i. n (inr i))

map_range : (f g : Asg) (N m : ℕ) → ((x : ℕ) → N ≤ x → f x ≡ g x) → map f (range N m) ≡ map g (range N m)
unfolding range
map_range f g N zero h = refl
map_range f g N (suc m) h = rw (h N (omega arith), map_range f g (suc N) m (λ x l. h x (omega arith)))

pub assign_map : (N m : ℕ) (ts : List Tree) (ρ : Asg) → size ts ≡ m → map (assign N ts ρ) (range N m) ≡ ts
unfolding assign range size
assign_map N zero [] ρ e = refl
assign_map N (suc m) [] ρ e = absurd (omega arith)
assign_map N zero (t ∷ ts) ρ e = absurd (omega arith)
assign_map N (suc m) (t ∷ ts) ρ e = rw (if_pos (ℕ_discrete N N) refl t (assign (suc N) ts ρ N)) (ap (λ (z : List Tree). t ∷ z) (map_range _ _ (suc N) m (λ x l. if_neg (ℕ_discrete x N) (λ q. ne x l q) t (assign (suc N) ts ρ x)) ∙ assign_map (suc N) m ts ρ (omega arith)))
  where
    ne : (x : ℕ) → suc N ≤ x → x ≡ N → ⊥
    ne x l q = omega arith

-- only the fresh numbers have other trees
pub assign_off : (q N m : ℕ) (ts : List Tree) (ρ : Asg) → q ≤ N → size ts ≡ m → Off (hidden_locals q (range N m)) ρ (assign N ts ρ)
assign_off q N m ts ρ l e x n = sym (assign_out N m ts ρ e x (λ i. n ((hidden_In q x (range N m)).1 (i, late i))))
  where
    late : In x (range N m) → q ≤ x
    late i = omega (arith, range_In x N m i)

pub size_map : {A B : Type 0} (f : A → B) (l : List A) → size (map f l) ≡ size l
unfolding size
size_map f [] = refl
size_map f (x ∷ l) = ap suc (size_map f l)

pub size_range : (N m : ℕ) → size (range N m) ≡ m
unfolding size range
size_range N zero = refl
size_range N (suc m) = ap suc (size_range (suc N) m)

pub size_append : {A : Type 0} (a b : List A) → size (a ++ b) ≡ size a + size b
unfolding size
size_append [] b = omega arith
size_append (x ∷ a) b = omega (arith, size_append a b)
