-- The open brackets of the test of scope, in tables. For each variable N has twice a position, and one more while it is in scope.
-- T has for a guarded goal the position of the last and-box of its guard, and for an or-box or a bracket of locals, a store or a
-- statement the guarded goal that it belongs to; positions are one too high, 0 is for none. A variable is local to every and-box of
-- a guard exactly when its position is that of the last of them: it is set where it is local and was so to the one before. It is
-- not set again while that and-box is open, for no local may be in scope already. Assumes nothing.
use Rattle.std.specs.Prelude.{◌≡◌, refl, List, [], ◌∷◌, ◌++◌, Bool, true, false, ◌&&◌, ◌||◌, ◌⊎◌, ℕ, suc, ◌+◌, ◌/◌, ◌≤◌, ◌<◌, eqb, get_or, drop}
use Rattle.std.proofs.Common.{ap, sym, ◌∙◌, subst, inl, inr, arith, ne_eqb}
use Rattle.constraint.specs.Solve.{elem}
use Rattle.akl.specs.Base.{all}
use Rattle.mem_words.specs.declared.Word.{Word}
use Rattle.mem_words.specs.declared.Word.TheVariants.{End, Free, Level, Num, Place, Inner, Bad}
use Rattle.mem_sorts.specs.declared.Kind.{Kind}
use Rattle.mem_sorts.specs.declared.Kind.TheVariants.{Or, And, Guarded, Member, Wait, Cond, Commit}
use Rattle.check_words.specs.Frees.{frees, is_locals}
use Rattle.check_words.specs.Scope.{Held, clear, plain, boxed, guarding, scoped, awaits}
use Rattle.check_roles.specs.declared.Role.{Role}
use Rattle.check_roles.specs.declared.Role.TheVariants.{Clear, Plain, Boxed, Guarding}

abbrev pub kind_role : Kind → Role
kind_role Or = Clear
kind_role And = Boxed
kind_role Guarded = Guarding
kind_role Member = Plain
kind_role Wait = Plain
kind_role Cond = Plain
kind_role Commit = Plain

abbrev pub role_of : Word → Role
role_of End = Plain
role_of (Free x) = Plain
role_of (Level l) = Plain
role_of (Num n) = Plain
role_of (Place k) = kind_role k
role_of (Inner s) = Clear
role_of Bad = Plain

abbrev pub names_word : Word → Bool
names_word End = false
names_word (Free x) = false
names_word (Level l) = false
names_word (Num n) = false
names_word (Place k) = false
names_word (Inner s) = is_locals s
names_word Bad = false

-- the word at p opens the bracket
abbrev pub Is : List Word → ℕ → Held → Type 0
Is C p (clear n) = (role_of (get_or C p Bad) ≡ Clear) × (n ≡ names_word (get_or C p Bad))
Is C p plain = role_of (get_or C p Bad) ≡ Plain
Is C p (boxed vs) = (role_of (get_or C p Bad) ≡ Boxed) × (vs ≡ frees (drop (p + 2) C))
Is C p (guarding bs) = role_of (get_or C p Bad) ≡ Guarding

-- one more than the position of the guarded goal whose guard or body this is
unfoldable pub target : List ℕ → List Held → ℕ
target [] S = 0
target (p ∷ Ps) [] = 0
target (p ∷ Ps) (clear n ∷ S) = target Ps S
target (p ∷ Ps) (plain ∷ S) = 0
target (p ∷ Ps) (boxed vs ∷ S) = 0
target (p ∷ Ps) (guarding bs ∷ S) = suc p

-- l is one more than the position of the last of the and-boxes bs
abbrev pub Last : List ℕ → ℕ → ℕ → List (List ℕ) → Type 0
Last N i l [] = l ≡ 0
Last N i l (b ∷ bs) = (0 < l) × (l ≤ i) × ((x : ℕ) → eqb (get_or N x 0 / 2) l ≡ all (elem x) (b ∷ bs))

-- what stands further in: nothing but clear brackets; an and-box with its locals; else
pub data Cover : Type 0 where
  live dead : Cover
  under : List ℕ → Cover

abbrev pub Covers : Cover → List (List ℕ) → Type 0
Covers live bs = Unit {0}
Covers dead bs = ⊥
Covers (under us) [] = ⊥
Covers (under us) (b ∷ bs) = us ≡ b

-- the brackets S stand at the positions Ps, all below b
unfoldable pub Rel : List ℕ → List Held → List Word → List ℕ → List ℕ → ℕ → ℕ → Cover → Type 0
Rel [] [] C T N i b c = Unit {0}
Rel [] (h ∷ S) C T N i b c = ⊥
Rel (p ∷ Ps) [] C T N i b c = ⊥
Rel (p ∷ Ps) (clear n ∷ S) C T N i b c = (p < b) × Is C p (clear n) × (get_or T p 0 ≡ target Ps S) × Rel Ps S C T N i p c
Rel (p ∷ Ps) (plain ∷ S) C T N i b c = (p < b) × Is C p plain × Rel Ps S C T N i p dead
Rel (p ∷ Ps) (boxed vs ∷ S) C T N i b c = (p < b) × Is C p (boxed vs) × ((x : ℕ) → elem x vs ≡ true → elem x (scoped S) ≡ false) × Rel Ps S C T N i p (under vs)
Rel (p ∷ Ps) (guarding bs ∷ S) C T N i b c = (p < b) × Is C p (guarding bs) × Last N i (get_or T p 0) bs × Covers c bs × Rel Ps S C T N i p dead

true_false : true ≡ false → ⊥
true_false e = let z : ◌≡◌ {A = ℕ} 0 1 = cc in omega arith

-- where no guard or body is waited in, none can be
pub rel_dead : (Ps : List ℕ) (S : List Held) (C : List Word) (T N : List ℕ) (i b : ℕ) → Rel Ps S C T N i b live → awaits S ≡ false → Rel Ps S C T N i b dead
unfolding Rel awaits
rel_dead [] [] C T N i b r a = tt
rel_dead [] (h ∷ S) C T N i b r a = absurd r
rel_dead (p ∷ Ps) [] C T N i b r a = absurd r
rel_dead (p ∷ Ps) (clear n ∷ S) C T N i b r a = (r.0, r.1, r.2, rel_dead Ps S C T N i p r.3 a)
rel_dead (p ∷ Ps) (plain ∷ S) C T N i b r a = r
rel_dead (p ∷ Ps) (boxed vs ∷ S) C T N i b r a = r
rel_dead (p ∷ Ps) (guarding bs ∷ S) C T N i b r a = absurd (true_false a)

pub rel_any : (Ps : List ℕ) (S : List Held) (C : List Word) (T N : List ℕ) (i b : ℕ) (c : Cover) → Rel Ps S C T N i b dead → Rel Ps S C T N i b c
unfolding Rel
rel_any [] [] C T N i b c r = tt
rel_any [] (h ∷ S) C T N i b c r = absurd r
rel_any (p ∷ Ps) [] C T N i b c r = absurd r
rel_any (p ∷ Ps) (clear n ∷ S) C T N i b c r = (r.0, r.1, r.2, rel_any Ps S C T N i p c r.3)
rel_any (p ∷ Ps) (plain ∷ S) C T N i b c r = r
rel_any (p ∷ Ps) (boxed vs ∷ S) C T N i b c r = r
rel_any (p ∷ Ps) (guarding bs ∷ S) C T N i b c r = absurd r.3

pub rel_live : (Ps : List ℕ) (S : List Held) (C : List Word) (T N : List ℕ) (i b : ℕ) (c : Cover) → Rel Ps S C T N i b c → Rel Ps S C T N i b live
unfolding Rel
rel_live [] [] C T N i b c r = tt
rel_live [] (h ∷ S) C T N i b c r = absurd r
rel_live (p ∷ Ps) [] C T N i b c r = absurd r
rel_live (p ∷ Ps) (clear n ∷ S) C T N i b c r = (r.0, r.1, r.2, rel_live Ps S C T N i p c r.3)
rel_live (p ∷ Ps) (plain ∷ S) C T N i b c r = r
rel_live (p ∷ Ps) (boxed vs ∷ S) C T N i b c r = r
rel_live (p ∷ Ps) (guarding bs ∷ S) C T N i b c r = (r.0, r.1, r.2, tt, r.4)

pub rel_wide : (Ps : List ℕ) (S : List Held) (C : List Word) (T N : List ℕ) (i b d : ℕ) (c : Cover) → b ≤ d → Rel Ps S C T N i b c → Rel Ps S C T N i d c
unfolding Rel
rel_wide [] [] C T N i b d c h r = tt
rel_wide [] (g ∷ S) C T N i b d c h r = absurd r
rel_wide (p ∷ Ps) [] C T N i b d c h r = absurd r
rel_wide (p ∷ Ps) (clear n ∷ S) C T N i b d c h r = let q = r.0 in (omega (arith, q, h), r.1, r.2, r.3)
rel_wide (p ∷ Ps) (plain ∷ S) C T N i b d c h r = let q = r.0 in (omega (arith, q, h), r.1, r.2)
rel_wide (p ∷ Ps) (boxed vs ∷ S) C T N i b d c h r = let q = r.0 in (omega (arith, q, h), r.1, r.2, r.3)
rel_wide (p ∷ Ps) (guarding bs ∷ S) C T N i b d c h r = let q = r.0 in (omega (arith, q, h), r.1, r.2, r.3, r.4)

-- the numbers of variables change: the position stays, or becomes a later one where the variable is not in scope
abbrev pub Off : Cover → ℕ → Type 0
Off live x = ⊥
Off dead x = Unit {0}
Off (under us) x = elem x us ≡ false

abbrev pub Stays : List ℕ → List ℕ → ℕ → Cover → List Held → ℕ → Type 0
Stays N M i c S x = (get_or M x 0 / 2 ≡ get_or N x 0 / 2) ⊎ ((i < get_or M x 0 / 2) × (elem x (scoped S) ≡ false) × Off c x)

or_both : (a b : Bool) → (a || b) ≡ false → (a ≡ false) × (b ≡ false)
or_both true b e = absurd (true_false e)
or_both false b e = (refl, e)

elem_both : (x : ℕ) (a b : List ℕ) → elem x (a ++ b) ≡ (elem x a || elem x b)
unfolding elem
elem_both x [] b = refl
elem_both x (y ∷ a) b = ap (λ (t : Bool). eqb x y || t) (elem_both x a b) ∙ assoc (eqb x y) (elem x a) (elem x b)
  where
    assoc : (a b c : Bool) → (a || (b || c)) ≡ ((a || b) || c)
    assoc true b c = refl
    assoc false b c = refl

last_on : (N M : List ℕ) (i j l : ℕ) (c : Cover) (S : List Held) (bs : List (List ℕ)) → i ≤ j → Last N i l bs → Covers c bs → ((x : ℕ) → Stays N M i c S x) → Last M j l bs
unfolding all
last_on N M i j l c S [] h k v s = k
last_on N M i j l c S (b ∷ bs) h k v s = let q = k.1 in (k.0, omega (arith, q, h), λ x. each x (s x))
  where
    off : (c : Cover) (x : ℕ) → Covers c (b ∷ bs) → Off c x → elem x b ≡ false
    off live x v o = absurd o
    off dead x v o = absurd v
    off (under us) x v o = ap (elem x) (sym v) ∙ o

    each : (x : ℕ) → Stays N M i c S x → eqb (get_or M x 0 / 2) l ≡ all (elem x) (b ∷ bs)
    each x (inl e) = ap (λ (g : ℕ). eqb g l) e ∙ k.2 x
    each x (inr z) = let q = k.1 in let g = z.0 in ne_eqb (get_or M x 0 / 2) l (λ e. omega (arith, e, q, g)) ∙ sym (ap (λ (t : Bool). t && all (elem x) bs) (off c x v z.2))

pub rel_on : (Ps : List ℕ) (S : List Held) (C : List Word) (T U N M : List ℕ) (i j b : ℕ) (c : Cover) → i ≤ j → ((p : ℕ) → p < b → get_or U p 0 ≡ get_or T p 0) → ((x : ℕ) → Stays N M i c S x) → Rel Ps S C T N i b c → Rel Ps S C U M j b c
unfolding Rel scoped
rel_on [] [] C T U N M i j b c h t s r = tt
rel_on [] (g ∷ S) C T U N M i j b c h t s r = absurd r
rel_on (p ∷ Ps) [] C T U N M i j b c h t s r = absurd r
rel_on (p ∷ Ps) (clear n ∷ S) C T U N M i j b c h t s r =
    let z = r.0 in
    (z, r.1, t p z ∙ r.2, rel_on Ps S C T U N M i j p c h (λ q l. t q (omega (arith, l, z))) s r.3)
rel_on (p ∷ Ps) (plain ∷ S) C T U N M i j b c h t s r =
    let z = r.0 in
    (z, r.1, rel_on Ps S C T U N M i j p dead h (λ q l. t q (omega (arith, l, z))) (λ x. less x (s x)) r.2)
  where
    less : (x : ℕ) → Stays N M i c S x → Stays N M i dead S x
    less x (inl e) = inl e
    less x (inr z) = inr (z.0, z.1, tt)
rel_on (p ∷ Ps) (boxed vs ∷ S) C T U N M i j b c h t s r =
    let z = r.0 in
    (z, r.1, r.2, rel_on Ps S C T U N M i j p (under vs) h (λ q l. t q (omega (arith, l, z))) (λ x. less x (s x)) r.3)
  where
    less : (x : ℕ) → Stays N M i c (boxed vs ∷ S) x → Stays N M i (under vs) S x
    less x (inl e) = inl e
    less x (inr z) = let q = or_both (elem x (scoped S)) (elem x vs) (sym (elem_both x (scoped S) vs) ∙ z.1) in inr (z.0, q.0, q.1)
rel_on (p ∷ Ps) (guarding bs ∷ S) C T U N M i j b c h t s r =
    let z = r.0 in
    (z, r.1, subst (λ (l : ℕ). Last M j l bs) (sym (t p z)) (last_on N M i j (get_or T p 0) c (guarding bs ∷ S) bs h r.2 r.3 s), r.3, rel_on Ps S C T U N M i j p dead h (λ q l. t q (omega (arith, l, z))) (λ x. less x (s x)) r.4)
  where
    less : (x : ℕ) → Stays N M i c (guarding bs ∷ S) x → Stays N M i dead S x
    less x (inl e) = inl e
    less x (inr z) = inr (z.0, z.1, tt)
