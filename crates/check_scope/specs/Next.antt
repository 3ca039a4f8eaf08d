-- What functions of the test of scope need and leave, at the tables of the working slice. Assumes nothing.
use Rattle.std.specs.Prelude.{◌≡◌, refl, Option, None, Some, List, [], ◌∷◌, Bool, true, false, not, ℕ, zero, suc, ◌+◌, ◌-◌, ◌≤◌, ◌<◌, eqb, length, get_or, drop}
use Rattle.std.proofs.Common.{ap, sym, ◌∙◌, subst, arith, eq-eqb, ne_eqb, eqb-true}
use Rattle.mem_numbers.specs.Stored.{Stored}
use Rattle.mem_parts.specs.Parts.{outside_then}
use Rattle.mem_words.specs.declared.Word.{Word}
use Rattle.mem_words.specs.declared.Word.TheVariants.{End, Free, Place, Bad}
use Rattle.mem_sorts.specs.declared.Kind.TheVariants.{And}
use Rattle.mem_words.specs.Words.{Read}
use Rattle.work_tables.specs.Tables.{Laid}
use Rattle.check_words.specs.Scope.{Held, clear, plain, boxed, guarding, awaits, word_scoped, held_after, scope_passed}
use Rattle.check_vartables.specs.Tables.{names_of, stack_of, links_of, Checked, PutStack, PutLink, length_stack, length_links}
use Rattle.check_vartables.specs.Stacks.{tops}
use Rattle.check_roles.specs.declared.Role.{Role}
use Rattle.check_roles.specs.declared.Role.TheVariants.{Clear, Plain, Boxed, Guarding}
use Rattle.check_roles.specs.Held.{role_of, names_word, Is, Rel, Cover, live}
use Rattle.check_roles.specs.Boxes.{target_none, target_some}
use Rattle.check_roles.specs.Steps.{Holding, off, aimed, aim, aim_low, idle, Fits, pushed, closed, closed_none}
use Rattle.check_roles.specs.Opening.{refused, box_alone, box_guarding, box_ended}
use Rattle.check_words.specs.Frees.{frees}
use Rattle.check_roles.specs.Marks.{unmark_all}
use Rattle.check_marks.specs.Marking.{Did, Undid}
use Rattle.check_uses.specs.Uses.{Look, may_use, may_use_is}

-- the word at i is next, with k brackets open
pub record Ready (C : List Word) (L : List ℕ) (k i : ℕ) : Type 0 where
  pub laid : Laid L
  pub short : length C ≤ 28672
  pub inside : i < length C
  pub holding : Holding C (stack_of L) (links_of L) (names_of L) k i

top_low : (P : List ℕ) (k : ℕ) (S : List Held) (C : List Word) (T N : List ℕ) (i b : ℕ) (c : Cover) → Rel (tops P k) S C T N i b c → (k ≡ 0 → ⊥) → get_or P (k - 1) 0 < b
unfolding tops Rel
top_low P zero S C T N i b c r n = absurd (n refl)
top_low P (suc k) [] C T N i b c r n = absurd r
top_low P (suc k) (clear m ∷ S) C T N i b c r n = let e : k ≡ suc k - 1 = omega arith in subst (λ (j : ℕ). get_or P j 0 < b) e r.0
top_low P (suc k) (plain ∷ S) C T N i b c r n = let e : k ≡ suc k - 1 = omega arith in subst (λ (j : ℕ). get_or P j 0 < b) e r.0
top_low P (suc k) (boxed vs ∷ S) C T N i b c r n = let e : k ≡ suc k - 1 = omega arith in subst (λ (j : ℕ). get_or P j 0 < b) e r.0
top_low P (suc k) (guarding bs ∷ S) C T N i b c r n = let e : k ≡ suc k - 1 = omega arith in subst (λ (j : ℕ). get_or P j 0 < b) e r.0

pub looks : {C : List Word} {L : List ℕ} {k i : ℕ} → Ready C L k i → Look C L k
looks {C} {L} {k} {i} r = record {
  laid = r.laid;
  few = omega (arith, r.short, r.inside, r.holding.few);
  short = r.short;
  inside = λ n. let a = top_low (stack_of L) k r.holding.stack C (links_of L) (names_of L) i i live r.holding.rel n in omega (arith, a, r.inside);
  aims = let a = aim_low r.holding (aimed C (links_of L) (tops (stack_of L) k)) refl in omega (arith, a, r.short, r.inside);
}

-- refused, or gone on behind the word at i
abbrev pub Gone : List Word → List ℕ → ℕ → Option ℕ → Type 0
Gone C X i None = false ≡ scope_passed C
Gone C X i (Some k) = Holding C (stack_of X) (links_of X) (names_of X) k (i + 1)

pub record Next (C : List Word) (L X : List ℕ) (i : ℕ) (r : Option ℕ) : Type 0 where
  pub gone : Gone C X i r
  pub rest : Checked L X

pub same : {L : List ℕ} → Checked L L
same = record { before = refl; after = refl; long = refl }

-- a word that was read, with what it is
pub read_as : {C : List Word} {i : ℕ} {w : Word} (u : Word) → w ≡ u → Read C i w → Read C i u
read_as {C} {i} u e r = subst (Read C i) e r

pub is_idle : {C : List Word} {L : List ℕ} {k i : ℕ} {w : Word} (r : Ready C L k i) → Read C i w → word_scoped r.holding.stack w (drop (i + 1) C) ≡ true → held_after r.holding.stack w (drop (i + 1) C) ≡ r.holding.stack → Next C L L i (Some k)
is_idle r e t s = record { gone = idle r.inside e r.holding t s; rest = same }

-- a variable
pub is_used : {C : List Word} {L : List ℕ} {k i x : ℕ} (r : Ready C L k i) → Read C i (Free x) → (b : Bool) → b ≡ may_use C L k x → b ≡ true → Next C L L i (Some k)
is_used {C} {L} {k} {i} {x} r e b f t = record { gone = idle r.inside e r.holding (sym (f ∙ may_use_is L r.holding x) ∙ t) refl; rest = same }

pub is_strange : {C : List Word} {L : List ℕ} {k i x : ℕ} (r : Ready C L k i) → Read C i (Free x) → (b : Bool) → b ≡ may_use C L k x → b ≡ false → Next C L L i None
is_strange {C} {L} {k} {i} {x} r e b f t = record { gone = off r.inside e r.holding (sym (f ∙ may_use_is L r.holding x) ∙ t); rest = same }

-- a bracket ends; p is its position, w its first word and o what it is
pub is_stray : {C : List Word} {L : List ℕ} {k i : ℕ} (r : Ready C L k i) → Read C i End → k ≡ 0 → Next C L L i (Some 0)
is_stray r e z = record { gone = closed_none r.inside e z r.holding; rest = same }

abbrev pub Other : Role → Type 0
Other Clear = Unit {0}
Other Plain = Unit {0}
Other Boxed = ⊥
Other Guarding = Unit {0}

role_at : (C : List Word) (P : List ℕ) (k p : ℕ) (w : Word) (o : Role) → p ≡ get_or P (k - 1) 0 → w ≡ get_or C p Bad → o ≡ role_of w → role_of (get_or C (get_or P (k - 1) 0) Bad) ≡ o
role_at C P k p w o a b c = sym (c ∙ ap role_of (b ∙ ap (λ (q : ℕ). get_or C q Bad) a))

pub is_ended : {C : List Word} {L : List ℕ} {k i p : ℕ} {w : Word} (o : Role) (r : Ready C L k i) → Read C i End → (k ≡ 0 → ⊥) → p ≡ get_or (stack_of L) (k - 1) 0 → w ≡ get_or C p Bad → o ≡ role_of w → Other o → Next C L L i (Some (k - 1))
is_ended {C} {L} {k} {i} {p} {w} o r e n a b c d = record { gone = closed r.inside e n (λ q. subst Other (sym (role_at C (stack_of L) k p w o a b c) ∙ q) d) r.holding; rest = same }

pub is_unboxed : {C : List Word} {L X : List ℕ} {k i p : ℕ} {w : Word} (r : Ready C L k i) → Read C i End → (k ≡ 0 → ⊥) → p ≡ get_or (stack_of L) (k - 1) 0 → w ≡ get_or C p Bad → Boxed ≡ role_of w → Undid C L (p + 2) X → Next C L X i (Some (k - 1))
is_unboxed {C} {L} {X} {k} {i} {p} {w} r e n a b c u = record {
  gone =
      subst (λ (P : List ℕ). Holding C P (links_of X) (names_of X) (k - 1) (i + 1)) (sym u.named.stack)
      (subst (λ (T : List ℕ). Holding C (stack_of L) T (names_of X) (k - 1) (i + 1)) (sym u.named.links)
      (box_ended r.inside e n (role_at C (stack_of L) k p w Boxed a b c) (subst (λ (q : ℕ). (y : ℕ) → get_or (names_of X) y 0 ≡ unmark_all (frees (drop (q + 2) C)) (λ z. get_or (names_of L) z 0) y) a u.unmarked) r.holding));
  rest = u.named.rest;
}

-- an and-box opens
here : (L X : List ℕ) {k i : ℕ} → stack_of X ≡ stack_of L → (Y : List ℕ) → PutStack X k i Y → Stored (stack_of L) k i (stack_of Y)
here L X {k} {i} e Y p = subst (λ (P : List ℕ). Stored P k i (stack_of Y)) e p.stack

room : {C : List Word} {L : List ℕ} {k i : ℕ} → Ready C L k i → k < length (stack_of L)
room r = omega (arith, r.short, r.inside, r.holding.few, length_stack r.laid)

pub is_taken : {C : List Word} {L X : List ℕ} {k i : ℕ} (l : ℕ) (b : Bool) (r : Ready C L k i) → Read C i (Place And) → Did C L (i + 2) l i X b → b ≡ false → Next C L X i None
is_taken l b r e d f = record { gone = refused l r.inside e r.holding (sym d.new ∙ f); rest = d.named.rest }

pub is_alone : {C : List Word} {L X Y : List ℕ} {k i : ℕ} (t : ℕ) (b : Bool) (r : Ready C L k i) → Read C i (Place And) → t ≡ aimed C (links_of L) (tops (stack_of L) k) → t ≡ 0 → Did C L (i + 2) 0 i X b → b ≡ true → PutStack X k i Y → Next C L Y i (Some (k + 1))
is_alone {C} {L} {X} {Y} {k} {i} t b r e a z d f p = record {
  gone =
      subst (λ (N : List ℕ). Holding C (stack_of Y) (links_of Y) N (k + 1) (i + 1)) (sym p.names)
      (subst (λ (T : List ℕ). Holding C (stack_of Y) T (names_of X) (k + 1) (i + 1)) (sym (p.links ∙ d.named.links))
      (box_alone t r.inside e (room r) (here L X d.named.stack Y p) r.holding a z (sym d.new ∙ f) (d.marked f)));
  rest = outside_then d.named.rest p.rest;
}

pub is_guarding : {C : List Word} {L X Y Z : List ℕ} {k i : ℕ} (t l : ℕ) (b : Bool) (r : Ready C L k i) → Read C i (Place And) → t ≡ aimed C (links_of L) (tops (stack_of L) k) → (t ≡ 0 → ⊥) → l ≡ get_or (links_of L) (t - 1) 0 → Did C L (i + 2) l i X b → b ≡ true → PutLink X (t - 1) (i + 1) Y → PutStack Y k i Z → Next C L Z i (Some (k + 1))
is_guarding {C} {L} {X} {Y} {Z} {k} {i} t l b r e a z q d f u p =
    let s : Did C L (i + 2) (get_or (links_of L) (t - 1) 0) i X b = subst (λ (j : ℕ). Did C L (i + 2) j i X b) q d in
    let low = aim_low r.holding t a in
    let g : t - 1 < length (links_of L) = omega (arith, low, z, r.short, r.inside, length_links r.laid) in
    let v : Stored (links_of L) (t - 1) (i + 1) (links_of Y) = subst (λ (T : List ℕ). Stored T (t - 1) (i + 1) (links_of Y)) d.named.links u.links in
    record {
      gone =
          subst (λ (N : List ℕ). Holding C (stack_of Z) (links_of Z) N (k + 1) (i + 1)) (sym (p.names ∙ u.names))
          (subst (λ (T : List ℕ). Holding C (stack_of Z) T (names_of X) (k + 1) (i + 1)) (sym p.links)
          (box_guarding t r.inside e (room r) (here L Y (u.stack ∙ d.named.stack) Z p) r.holding a z g v (sym s.new ∙ f) (s.marked f)));
      rest = outside_then d.named.rest (outside_then u.rest p.rest);
    }

-- another bracket opens; b says whether it may in a guard or a body
abbrev pub bars : Bool → ℕ → Bool
bars true t = false
bars false t = not (eqb t 0)

pub bars_closed : (b : Bool) (t : ℕ) → b ≡ false → (t ≡ 0 → ⊥) → bars b t ≡ true
bars_closed b t e n = ap (λ (c : Bool). bars c t) e ∙ ap not (ne_eqb t 0 n)

bars_true : (b : Bool) (t : ℕ) → bars b t ≡ true → (b ≡ false) × (t ≡ 0 → ⊥)
bars_true true t e = absurd (let z : ◌≡◌ {A = ℕ} 0 1 = cc in omega arith)
bars_true false t e = (refl, λ z. no (ap not (eq-eqb t 0 z)))
  where
    no : not (eqb t 0) ≡ false → ⊥
    no f = let y : true ≡ false = sym e ∙ f in let z : ◌≡◌ {A = ℕ} 0 1 = cc in omega arith

bars_false : (b : Bool) (t : ℕ) → bars b t ≡ false → b ≡ false → t ≡ 0
bars_false true t e f = absurd (let z : ◌≡◌ {A = ℕ} 0 1 = cc in omega arith)
bars_false false t e f = eqb-true t 0 (yes_it (eqb t 0) e)
  where
    yes_it : (c : Bool) → not c ≡ false → c ≡ true
    yes_it true e = refl
    yes_it false e = absurd (let z : ◌≡◌ {A = ℕ} 0 1 = cc in omega arith)

pub record Put (C : List Word) (L : List ℕ) (k i : ℕ) (b : Bool) (X : List ℕ) (m : ℕ) : Type 0 where
  pub count : m ≡ k + 1
  pub stack : Stored (stack_of L) k i (stack_of X)
  pub links : Stored (links_of L) i (aimed C (links_of L) (tops (stack_of L) k)) (links_of X)
  pub names : names_of X ≡ names_of L
  pub bar : b ≡ false → aimed C (links_of L) (tops (stack_of L) k) ≡ 0

abbrev pub OpenBy : List Word → List ℕ → ℕ → ℕ → Bool → List ℕ → Option ℕ → Type 0
OpenBy C L k i b X None = (b ≡ false) × (aimed C (links_of L) (tops (stack_of L) k) ≡ 0 → ⊥)
OpenBy C L k i b X (Some m) = Put C L k i b X m

pub record Opening (C : List Word) (L : List ℕ) (k i : ℕ) (b : Bool) (X : List ℕ) (g : Option ℕ) : Type 0 where
  pub by : OpenBy C L k i b X g
  pub rest : Checked L X

pub is_barred : {C : List Word} {L : List ℕ} {k i : ℕ} (b : Bool) (t : ℕ) → t ≡ aimed C (links_of L) (tops (stack_of L) k) → bars b t ≡ true → Opening C L k i b L None
is_barred b t a e = let q = bars_true b t e in record { by = (q.0, λ z. q.1 (a ∙ z)); rest = same }

pub is_put : {C : List Word} {L X Y : List ℕ} {k i : ℕ} (b : Bool) (t : ℕ) → t ≡ aimed C (links_of L) (tops (stack_of L) k) → bars b t ≡ false → PutLink L i t X → PutStack X k i Y → Opening C L k i b Y (Some (k + 1))
is_put {C} {L} {X} {Y} {k} {i} b t a e u p = record {
  by = record {
    count = refl;
    stack = here L X u.stack Y p;
    links = subst (λ (T : List ℕ). Stored (links_of L) i (aimed C (links_of L) (tops (stack_of L) k)) T) (sym p.links) (subst (λ (v : ℕ). Stored (links_of L) i v (links_of X)) a u.links);
    names = p.names ∙ u.names;
    bar = λ f. sym a ∙ bars_false b t e f;
  };
  rest = outside_then u.rest p.rest;
}

put_next : {C : List Word} {L X : List ℕ} {k i m : ℕ} {w : Word} {b : Bool} (o : Held) (r : Ready C L k i) → Read C i w → Put C L k i b X m → Is C i o → Fits o (aimed C (links_of L) (tops (stack_of L) k)) → word_scoped r.holding.stack w (drop (i + 1) C) ≡ true → held_after r.holding.stack w (drop (i + 1) C) ≡ o ∷ r.holding.stack → Holding C (stack_of X) (links_of X) (names_of X) m (i + 1)
put_next {C} {L} {X} {k} {i} {m} o r e p s f v q =
    subst (λ (j : ℕ). Holding C (stack_of X) (links_of X) (names_of X) j (i + 1)) (sym p.count)
    (subst (λ (N : List ℕ). Holding C (stack_of X) (links_of X) N (k + 1) (i + 1)) (sym p.names)
    (pushed (aimed C (links_of L) (tops (stack_of L) k)) o r.inside e (room r) (omega (arith, r.short, r.inside, length_links r.laid)) p.stack p.links r.holding refl s f v q))

-- an or-box, or a bracket of locals, a store or a statement
pub next_clear : {C : List Word} {L X : List ℕ} {k i : ℕ} {w : Word} (g : Option ℕ) (r : Ready C L k i) → Read C i w → Opening C L k i true X g → role_of w ≡ Clear → word_scoped r.holding.stack w (drop (i + 1) C) ≡ true → held_after r.holding.stack w (drop (i + 1) C) ≡ clear (names_word w) ∷ r.holding.stack → Next C L X i g
next_clear None r e p c v q = absurd (let z = p.by.0 in let y : ◌≡◌ {A = ℕ} 0 1 = cc in omega arith)
next_clear {C} {L} {X} {k} {i} {w} (Some m) r e p c v q = record { gone = put_next (clear (names_word w)) r e p.by (ap role_of (sym e.is) ∙ c, ap names_word e.is) tt v q; rest = p.rest }

-- a guarded goal, a member or a choice-box
abbrev pub Barred : Held → Role → Type 0
Barred (clear n) o = ⊥
Barred plain o = o ≡ Plain
Barred (boxed vs) o = ⊥
Barred (guarding []) o = o ≡ Guarding
Barred (guarding (b ∷ bs)) o = ⊥

barred_is : (C : List Word) (i : ℕ) (h : Held) → Barred h (role_of (get_or C i Bad)) → Is C i h
barred_is C i (clear n) b = absurd b
barred_is C i plain b = b
barred_is C i (boxed vs) b = absurd b
barred_is C i (guarding []) b = b
barred_is C i (guarding (c ∷ bs)) b = absurd b

barred_fits : (h : Held) (o : Role) (t : ℕ) → Barred h o → t ≡ 0 → Fits h t
barred_fits (clear n) o t b z = absurd b
barred_fits plain o t b z = z
barred_fits (boxed vs) o t b z = absurd b
barred_fits (guarding []) o t b z = z
barred_fits (guarding (c ∷ bs)) o t b z = absurd b

pub next_closed : {C : List Word} {L X : List ℕ} {k i : ℕ} {w : Word} (o : Held) (g : Option ℕ) (r : Ready C L k i) → Read C i w → Opening C L k i false X g → Barred o (role_of w) → word_scoped r.holding.stack w (drop (i + 1) C) ≡ not (awaits r.holding.stack) → held_after r.holding.stack w (drop (i + 1) C) ≡ o ∷ r.holding.stack → Next C L X i g
next_closed {C} {L} {X} {k} {i} o None r e p b v q =
    record {
      gone = off r.inside e r.holding (v ∙ ap not (target_some (tops (stack_of L) k) r.holding.stack C (links_of L) (names_of L) i i live r.holding.rel (λ z. p.by.1 (sym (aim r.holding (aimed C (links_of L) (tops (stack_of L) k)) refl) ∙ z))));
      rest = p.rest;
    }
next_closed {C} {L} {X} {k} {i} {w} o (Some m) r e p b v q =
    let z = p.by.bar refl in
    record {
      gone = put_next o r e p.by (barred_is C i o (subst (λ (u : Word). Barred o (role_of u)) e.is b)) (barred_fits o (role_of w) (aimed C (links_of L) (tops (stack_of L) k)) b z) (v ∙ ap not (target_none (tops (stack_of L) k) r.holding.stack C (links_of L) (names_of L) i i live r.holding.rel (aim r.holding (aimed C (links_of L) (tops (stack_of L) k)) refl ∙ z))) q;
      rest = p.rest;
    }

-- the pass is refused, or goes on
pub stopped : {C : List Word} {L X : List ℕ} {i : ℕ} {r : Option ℕ} → Next C L X i r → r ≡ None → false ≡ scope_passed C
stopped {C} {L} {X} {i} n e = subst (Gone C X i) e n.gone

pub went_on : {C : List Word} {L X : List ℕ} {i : ℕ} {r : Option ℕ} (k : ℕ) → Next C L X i r → r ≡ Some k → Holding C (stack_of X) (links_of X) (names_of X) k (i + 1)
went_on {C} {L} {X} {i} k n e = subst (Gone C X i) e n.gone
