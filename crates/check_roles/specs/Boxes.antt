-- An and-box opens: its locals are in scope, and it is the last and-box of the guard that it stands in, if any. Assumes nothing.
use Rattle.std.specs.Prelude.{◌≡◌, refl, List, [], ◌∷◌, ◌⊎◌, Bool, true, false, ◌&&◌, ◌||◌, ℕ, suc, ◌/◌, ◌%◌, ◌≤◌, ◌<◌, eqb, get_or}
use Rattle.std.proofs.Common.{ap, sym, ◌∙◌, subst, inl, inr, arith, eq-eqb, ne_eqb}
use Rattle.constraint.specs.Solve.{elem}
use Rattle.akl.specs.Base.{all, if}
use Rattle.mem_words.specs.declared.Word.{Word}
use Rattle.check_words.specs.Scope.{Held, clear, plain, boxed, guarding, scoped, awaits, excused, give}
use Rattle.check_roles.specs.Held.{target, Last, Cover, live, dead, under, Rel, Off, Stays, rel_on}

-- the position of a local where an and-box opens at i, g being the one it had, l that of the guard's last and-box
abbrev pub newer : ℕ → ℕ → ℕ → ℕ
newer l i g = if (eqb l 0 || eqb g l) (suc i) g

-- the locals vs are marked
pub record Marked (N M vs : List ℕ) (l i : ℕ) : Type 0 where
  pub out : (x : ℕ) → elem x vs ≡ false → get_or M x 0 ≡ get_or N x 0
  pub bit : (x : ℕ) → elem x vs ≡ true → get_or M x 0 % 2 ≡ 1
  pub half : (x : ℕ) → elem x vs ≡ true → get_or M x 0 / 2 ≡ newer l i (get_or N x 0 / 2)

pub target_low : (Ps : List ℕ) (S : List Held) (C : List Word) (T N : List ℕ) (i b : ℕ) (c : Cover) (g : ℕ) → Rel Ps S C T N i b c → target Ps S ≡ suc g → g < b
unfolding Rel target
target_low [] [] C T N i b c g r e = absurd (omega (arith, e))
target_low [] (h ∷ S) C T N i b c g r e = absurd r
target_low (p ∷ Ps) [] C T N i b c g r e = absurd r
target_low (p ∷ Ps) (clear n ∷ S) C T N i b c g r e = let a = target_low Ps S C T N i p c g r.3 e in let q = r.0 in omega (arith, a, q)
target_low (p ∷ Ps) (plain ∷ S) C T N i b c g r e = absurd (omega (arith, e))
target_low (p ∷ Ps) (boxed vs ∷ S) C T N i b c g r e = absurd (omega (arith, e))
target_low (p ∷ Ps) (guarding bs ∷ S) C T N i b c g r e = let q = r.0 in omega (arith, q, e)

pub target_none : (Ps : List ℕ) (S : List Held) (C : List Word) (T N : List ℕ) (i b : ℕ) (c : Cover) → Rel Ps S C T N i b c → target Ps S ≡ 0 → awaits S ≡ false
unfolding Rel target awaits
target_none [] [] C T N i b c r e = refl
target_none [] (h ∷ S) C T N i b c r e = absurd r
target_none (p ∷ Ps) [] C T N i b c r e = absurd r
target_none (p ∷ Ps) (clear n ∷ S) C T N i b c r e = target_none Ps S C T N i p c r.3 e
target_none (p ∷ Ps) (plain ∷ S) C T N i b c r e = refl
target_none (p ∷ Ps) (boxed vs ∷ S) C T N i b c r e = refl
target_none (p ∷ Ps) (guarding bs ∷ S) C T N i b c r e = absurd (omega (arith, e))

pub target_some : (Ps : List ℕ) (S : List Held) (C : List Word) (T N : List ℕ) (i b : ℕ) (c : Cover) → Rel Ps S C T N i b c → (target Ps S ≡ 0 → ⊥) → awaits S ≡ true
unfolding Rel target awaits
target_some [] [] C T N i b c r e = absurd (e refl)
target_some [] (h ∷ S) C T N i b c r e = absurd r
target_some (p ∷ Ps) [] C T N i b c r e = absurd r
target_some (p ∷ Ps) (clear n ∷ S) C T N i b c r e = target_some Ps S C T N i p c r.3 e
target_some (p ∷ Ps) (plain ∷ S) C T N i b c r e = absurd (e refl)
target_some (p ∷ Ps) (boxed vs ∷ S) C T N i b c r e = absurd (e refl)
target_some (p ∷ Ps) (guarding bs ∷ S) C T N i b c r e = refl

give_target : (Ps : List ℕ) (S : List Held) (vs : List ℕ) → target Ps (give vs S) ≡ target Ps S
unfolding target give
give_target [] S vs = refl
give_target (p ∷ Ps) [] vs = refl
give_target (p ∷ Ps) (clear n ∷ S) vs = give_target Ps S vs
give_target (p ∷ Ps) (plain ∷ S) vs = refl
give_target (p ∷ Ps) (boxed us ∷ S) vs = refl
give_target (p ∷ Ps) (guarding bs ∷ S) vs = refl

pub give_none : (vs : List ℕ) (S : List Held) → awaits S ≡ false → give vs S ≡ S
unfolding awaits give
give_none vs [] e = refl
give_none vs (clear n ∷ S) e = ap (λ (R : List Held). clear n ∷ R) (give_none vs S e)
give_none vs (plain ∷ S) e = refl
give_none vs (boxed us ∷ S) e = refl
give_none vs (guarding bs ∷ S) e = absurd (let z : ◌≡◌ {A = ℕ} 0 1 = cc in omega arith)

-- a local's position stays or becomes a later one
newer_is : (l i g : ℕ) → (newer l i g ≡ g) ⊎ (newer l i g ≡ suc i)
newer_is l i g = go (eqb l 0 || eqb g l)
  where
    go : (b : Bool) → (if b (suc i) g ≡ g) ⊎ (if b (suc i) g ≡ suc i)
    go true = inr refl
    go false = inl refl

pub marked_stays : {N M vs : List ℕ} {l i : ℕ} (c : Cover) (S : List Held) → Marked N M vs l i → ((x : ℕ) → elem x vs ≡ true → elem x (scoped S) ≡ false) → ((x : ℕ) → elem x vs ≡ true → Off c x) → (x : ℕ) → Stays N M i c S x
marked_stays {N} {M} {vs} {l} {i} c S m f o x = go (elem x vs) refl
  where
    go : (b : Bool) → elem x vs ≡ b → Stays N M i c S x
    go false e = inl (ap (λ (v : ℕ). v / 2) (m.out x e))
    go true e = which (newer_is l i (get_or N x 0 / 2))
      where
        which : (newer l i (get_or N x 0 / 2) ≡ get_or N x 0 / 2) ⊎ (newer l i (get_or N x 0 / 2) ≡ suc i) → Stays N M i c S x
        which (inl q) = inl (m.half x e ∙ q)
        which (inr q) = let a : get_or M x 0 / 2 ≡ suc i = m.half x e ∙ q in inr (omega (arith, a), f x e, o x e)

-- it is the last and-box of the guard
newer_first : (l i g : ℕ) → l ≡ 0 → newer l i g ≡ suc i
newer_first l i g e = ap (λ (b : Bool). if (b || eqb g l) (suc i) g) (eq-eqb l 0 e)

newer_next : (l i g : ℕ) → (l ≡ 0 → ⊥) → newer l i g ≡ if (eqb g l) (suc i) g
newer_next l i g n = ap (λ (b : Bool). if (b || eqb g l) (suc i) g) (ne_eqb l 0 n)

pub last_given : {N M vs : List ℕ} {l i : ℕ} (bs : List (List ℕ)) → Marked N M vs l i → ((x : ℕ) → get_or N x 0 / 2 ≤ i) → Last N i l bs → Last M (suc i) (suc i) (vs ∷ bs)
unfolding all
last_given {N} {M} {vs} {l} {i} bs m s k = (omega arith, omega arith, λ x. go x (elem x vs) refl)
  where
    here : (bs : List (List ℕ)) (x : ℕ) → get_or N x 0 / 2 ≤ i → Last N i l bs → eqb (newer l i (get_or N x 0 / 2)) (suc i) ≡ all (elem x) bs
    here [] x h k = eq-eqb (newer l i (get_or N x 0 / 2)) (suc i) (newer_first l i (get_or N x 0 / 2) k)
    here (b ∷ bs) x h k = let q = k.0 in ap (λ (g : ℕ). eqb g (suc i)) (newer_next l i (get_or N x 0 / 2) (λ e. omega (arith, e, q))) ∙ which (eqb (get_or N x 0 / 2) l) refl ∙ k.2 x
      where
        which : (t : Bool) → eqb (get_or N x 0 / 2) l ≡ t → eqb (if t (suc i) (get_or N x 0 / 2)) (suc i) ≡ eqb (get_or N x 0 / 2) l
        which true e = eq-eqb (suc i) (suc i) refl ∙ sym e
        which false e = ne_eqb (get_or N x 0 / 2) (suc i) (λ z. omega (arith, z, h)) ∙ sym e

    go : (x : ℕ) (t : Bool) → elem x vs ≡ t → eqb (get_or M x 0 / 2) (suc i) ≡ (elem x vs && all (elem x) bs)
    go x true e = ap (λ (g : ℕ). eqb g (suc i)) (m.half x e) ∙ here bs x (s x) k ∙ sym (ap (λ (t : Bool). t && all (elem x) bs) e)
    go x false e = let h = s x in let q = m.out x e in ne_eqb (get_or M x 0 / 2) (suc i) (λ z. omega (arith, z, h, q)) ∙ sym (ap (λ (t : Bool). t && all (elem x) bs) e)

-- U is T with the guard's last and-box at i
pub record Linked (T U : List ℕ) (g i : ℕ) : Type 0 where
  pub here : get_or U g 0 ≡ suc i
  pub there : (p : ℕ) → (p ≡ g → ⊥) → get_or U p 0 ≡ get_or T p 0

pub rel_given : (Ps : List ℕ) (S : List Held) (C : List Word) (T U N M vs : List ℕ) (i b g : ℕ) → target Ps S ≡ suc g → Linked T U g i → Marked N M vs (get_or T g 0) i → ((x : ℕ) → get_or N x 0 / 2 ≤ i) → ((x : ℕ) → elem x vs ≡ true → elem x (scoped S) ≡ false) → Rel Ps S C T N i b live → Rel Ps (give vs S) C U M (suc i) b (under vs)
unfolding Rel target give scoped
rel_given [] [] C T U N M vs i b g e u m s f r = absurd (omega (arith, e))
rel_given [] (h ∷ S) C T U N M vs i b g e u m s f r = absurd r
rel_given (p ∷ Ps) [] C T U N M vs i b g e u m s f r = absurd r
rel_given (p ∷ Ps) (clear n ∷ S) C T U N M vs i b g e u m s f r =
    let a = target_low Ps S C T N i p live g r.3 e in
    (r.0, r.1, u.there p (λ z. omega (arith, z, a)) ∙ r.2 ∙ sym (give_target Ps S vs), rel_given Ps S C T U N M vs i p g e u m s f r.3)
rel_given (p ∷ Ps) (plain ∷ S) C T U N M vs i b g e u m s f r = absurd (omega (arith, e))
rel_given (p ∷ Ps) (boxed us ∷ S) C T U N M vs i b g e u m s f r = absurd (omega (arith, e))
rel_given (p ∷ Ps) (guarding bs ∷ S) C T U N M vs i b g e u m s f r =
    let q : p ≡ g = omega (arith, e) in
    let k : Last M (suc i) (suc i) (vs ∷ bs) = last_given bs m s (subst (λ (z : ℕ). Last N i (get_or T z 0) bs) q r.2) in (
      r.0,
      r.1,
      subst (λ (l : ℕ). Last M (suc i) l (vs ∷ bs)) (sym (ap (λ (z : ℕ). get_or U z 0) q ∙ u.here)) k,
      refl,
      rel_on Ps S C T U N M i (suc i) p dead (omega arith) (λ z l. u.there z (λ y. omega (arith, y, l, q))) (marked_stays dead S m f (λ x z. tt)) r.4,
    )

-- what is waited for: x is local to every and-box of the guard
pub excused_none : (x : ℕ) (S : List Held) → awaits S ≡ false → excused x S ≡ false
unfolding awaits excused
excused_none x [] e = refl
excused_none x (clear n ∷ S) e = excused_none x S e
excused_none x (plain ∷ S) e = refl
excused_none x (boxed vs ∷ S) e = refl
excused_none x (guarding bs ∷ S) e = absurd (let z : ◌≡◌ {A = ℕ} 0 1 = cc in omega arith)

last_free : (N : List ℕ) (i l : ℕ) (bs : List (List ℕ)) (x : ℕ) → Last N i l bs → l ≡ 0 → all (elem x) bs ≡ true
unfolding all
last_free N i l [] x k z = refl
last_free N i l (b ∷ bs) x k z = let q = k.0 in absurd (omega (arith, q, z))

last_some : (N : List ℕ) (i l : ℕ) (bs : List (List ℕ)) (x : ℕ) → Last N i l bs → (l ≡ 0 → ⊥) → all (elem x) bs ≡ eqb (get_or N x 0 / 2) l
last_some N i l [] x k z = absurd (z k)
last_some N i l (b ∷ bs) x k z = sym (k.2 x)

pub excused_free : (Ps : List ℕ) (S : List Held) (C : List Word) (T N : List ℕ) (i b : ℕ) (c : Cover) (g x : ℕ) → Rel Ps S C T N i b c → target Ps S ≡ suc g → get_or T g 0 ≡ 0 → excused x S ≡ true
unfolding Rel target excused
excused_free [] [] C T N i b c g x r e z = absurd (omega (arith, e))
excused_free [] (h ∷ S) C T N i b c g x r e z = absurd r
excused_free (p ∷ Ps) [] C T N i b c g x r e z = absurd r
excused_free (p ∷ Ps) (clear n ∷ S) C T N i b c g x r e z = excused_free Ps S C T N i p c g x r.3 e z
excused_free (p ∷ Ps) (plain ∷ S) C T N i b c g x r e z = absurd (omega (arith, e))
excused_free (p ∷ Ps) (boxed vs ∷ S) C T N i b c g x r e z = absurd (omega (arith, e))
excused_free (p ∷ Ps) (guarding bs ∷ S) C T N i b c g x r e z = let q : p ≡ g = omega (arith, e) in last_free N i (get_or T p 0) bs x r.2 (ap (λ (y : ℕ). get_or T y 0) q ∙ z)

pub excused_some : (Ps : List ℕ) (S : List Held) (C : List Word) (T N : List ℕ) (i b : ℕ) (c : Cover) (g x : ℕ) → Rel Ps S C T N i b c → target Ps S ≡ suc g → (get_or T g 0 ≡ 0 → ⊥) → excused x S ≡ eqb (get_or N x 0 / 2) (get_or T g 0)
unfolding Rel target excused
excused_some [] [] C T N i b c g x r e z = absurd (omega (arith, e))
excused_some [] (h ∷ S) C T N i b c g x r e z = absurd r
excused_some (p ∷ Ps) [] C T N i b c g x r e z = absurd r
excused_some (p ∷ Ps) (clear n ∷ S) C T N i b c g x r e z = excused_some Ps S C T N i p c g x r.3 e z
excused_some (p ∷ Ps) (plain ∷ S) C T N i b c g x r e z = absurd (omega (arith, e))
excused_some (p ∷ Ps) (boxed vs ∷ S) C T N i b c g x r e z = absurd (omega (arith, e))
excused_some (p ∷ Ps) (guarding bs ∷ S) C T N i b c g x r e z =
    let q : p ≡ g = omega (arith, e) in
    last_some N i (get_or T p 0) bs x r.2 (λ y. z (ap (λ (w : ℕ). get_or T w 0) (sym q) ∙ y)) ∙ ap (λ (w : ℕ). eqb (get_or N x 0 / 2) (get_or T w 0)) q
