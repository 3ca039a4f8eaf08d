-- Words marked one after another. Assumes nothing.
use mathlib.Core.Path.{◌≡◌, refl, ap, sym, ◌∙◌, subst}
use mathlib.Core.Bool.{Bool, true, false, cond}
use mathlib.Core.Logic.{◌⊎◌, inl, inr}
use mathlib.Core.List.{List, [], ◌∷◌, ◌++◌, append_assoc, append-nil}
use Prim.Native.Nat.{ℕ, suc, ◌+◌, ◌-◌, ◌≤◌, ◌<◌}
use native.Mathlib.Omega.{arith}
use native.Mathlib.Numerals.{add-one}
use native.Mathlib.Decide.{ℕ_discrete}
use lib.ListN.{length, get_or, take, drop, length-drop}
use lib.Seq.{drop-cons, take_all}
use Rattle.constraint.specs.Constraint.{In}
use Rattle.constraint.proofs.Lists.{In-append}
use Rattle.mem_numbers.specs.Stored.{stored_same, stored_other}
use Rattle.mem_words.specs.declared.Word.{Word}
use Rattle.mem_words.specs.declared.Word.TheVariants.{End, Free, Level, Num, Place, Inner, Bad}
use Rattle.mem_parts.specs.Parts.{Outside, outside_then}
use Rattle.solve_fields.specs.Read.{Vars, var_of, is_var}
use Rattle.work_tables.specs.Tables.{locals_of, Laid, length_locals}
use Rattle.work_tables.specs.Writes.{PutLocal}
use Rattle.rule_words.specs.Scans.{close}
use Rattle.rule_words.specs.Pieces.{cut}
use Rattle.rule_effects.specs.Effects.{behind}
use Rattle.rule_ranges.specs.Ranges.{locals_in, locals_at}
use Rattle.rule_locals.specs.Inside.{inside, here, Given, Adds, EndsAt, Marked}

-- one word
pub in_word : (b : Bool) (x : Word) (r : List Word) → locals_in b (x ∷ r) ≡ here b x ++ locals_in (inside b x) r
unfolding locals_in
in_word true End r = refl
in_word true (Free v) r = refl
in_word true (Level v) r = refl
in_word true (Num v) r = refl
in_word true (Place k) r = refl
in_word true (Inner s) r = refl
in_word true Bad r = refl
in_word false End r = refl
in_word false (Free v) r = refl
in_word false (Level v) r = refl
in_word false (Num v) r = refl
in_word false (Place k) r = refl
in_word false (Inner s) r = refl
in_word false Bad r = refl

same_out : (L : List ℕ) → Outside 335872 401408 L L
same_out L = record { before = refl; after = refl; long = refl }

given_none : (A : List ℕ) (v : ℕ) → Given A [] v A
given_none A v = record { inside = λ x i. absurd i; others = λ x n. refl; rest = same_out A }

given_next : (A vs X Y : List ℕ) (u v : ℕ) → Laid X → u < 65536 → Given A vs v X → PutLocal X u v Y → Given A (vs ++ (u ∷ [])) v Y
given_next A vs X Y u v h l m p = record {
  inside = λ x i. got x (ℕ_discrete x u) ((In-append x vs (u ∷ [])).0 i);
  others = λ x n. stored_other x 0 p.locals (λ q. n ((In-append x vs (u ∷ [])).1 (inr (inl q)))) ∙ m.others x (λ i. n ((In-append x vs (u ∷ [])).1 (inl i)));
  rest = outside_then m.rest p.rest;
}
  where
    got : (x : ℕ) → Dec (x ≡ u) → In x vs ⊎ In x (u ∷ []) → get_or (locals_of Y) x 0 ≡ v
    got x (yes q) i = ap (λ (k : ℕ). get_or (locals_of Y) k 0) q ∙ stored_same 0 p.locals (omega (arith, length_locals h))
    got x (no q) (inl i) = stored_other x 0 p.locals q ∙ m.inside x i
    got x (no q) (inr (inl i)) = absurd (q i)
    got x (no q) (inr (inr i)) = absurd i

adds_nothing : (L : List ℕ) (b : Bool) (x : Word) (v : ℕ) → here b x ≡ [] → Adds L b x v L
adds_nothing L b x v e = record { more = λ A vs m. subst (λ (us : List ℕ). Given A us v L) (sym (append-nil vs) ∙ ap (λ (us : List ℕ). vs ++ us) (sym e)) m; rest = same_out L }

pub adds_outside : (L : List ℕ) (b : Bool) (x : Word) (v : ℕ) → b ≡ false → Adds L b x v L
adds_outside L b x v e = adds_nothing L b x v (ap (λ (c : Bool). here c x) e)

pub adds_no_variable : (L : List ℕ) (b : Bool) (x : Word) (v : ℕ) (k : Bool) → k ≡ is_var x → k ≡ false → Adds L b x v L
adds_no_variable L true x v k e f = adds_nothing L true x v (ap (λ (c : Bool). cond c (var_of x ∷ []) []) (sym e ∙ f))
adds_no_variable L false x v k e f = adds_nothing L false x v refl

pub adds_local : (L X : List ℕ) (b : Bool) (x : Word) (v : ℕ) (k : Bool) (u : ℕ) → Laid L → u < 65536 → b ≡ true → k ≡ is_var x → k ≡ true → u ≡ var_of x → PutLocal L u v X → Adds L b x v X
adds_local L X b x v k u h l eb ek kt eu p = record { more = λ A vs m. subst (λ (us : List ℕ). Given A (vs ++ us) v X) (sym one) (given_next A vs L X u v h l m p); rest = p.rest }
  where
    one : here b x ≡ u ∷ []
    one = ap (λ (c : Bool). here c x) eb ∙ ap (λ (c : Bool). cond c (var_of x ∷ []) []) (sym ek ∙ kt) ∙ ap (λ (y : ℕ). y ∷ []) (sym eu)

-- where the goal ends
pub ends_behind : (W : List Word) (g e : ℕ) → e ≡ close W g → e < length W → EndsAt W g (e + 1)
ends_behind W g e q h = record { same = ap (λ (k : ℕ). cut g (k + 1) W) (sym q); end = omega arith }

pub ends_with : (W : List Word) (g e n : ℕ) → n ≡ length W → e ≡ close W g → n ≤ e → EndsAt W g n
unfolding cut
ends_with W g e n en q h =
    let d : length (drop g W) ≡ length W - g = length-drop g W in
    record { same = take_all (close W g + 1 - g) (drop g W) (omega (arith, en, q)) ∙ sym (take_all (n - g) (drop g W) (omega (arith, en))); end = omega (arith, en) }

-- on the way
pub marked_none : (W : List Word) (g e v : ℕ) (A : List ℕ) → Marked W g e v A A g false
marked_none W g e v A = record { vs = []; split = refl; given = given_none A v }

cut_cons : (W : List Word) (j e : ℕ) → j < e → e ≤ length W → cut j e W ≡ get_or W j Bad ∷ cut (j + 1) e W
unfolding cut
cut_cons W j e h g =
    let k : e - j ≡ suc (e - (j + 1)) = omega arith in
    ap (λ (n : ℕ). take n (drop j W)) k ∙ ap (take (suc (e - (j + 1)))) (drop-cons W j Bad (omega arith) ∙ ap (λ (i : ℕ). get_or W j Bad ∷ drop i W) (sym (add-one j)))

cut_nothing : (W : List Word) (j e : ℕ) → e ≤ j → cut j e W ≡ []
unfolding cut
cut_nothing W j e h = let k : e - j ≡ 0 = omega arith in ap (λ (n : ℕ). take n (drop j W)) k

pub marked_next : (W : List Word) (g e v : ℕ) (A X Y : List ℕ) (j : ℕ) (b c : Bool) (x : Word) → j < e → e ≤ length W → x ≡ get_or W j Bad → c ≡ inside b x → Adds X b x v Y → Marked W g e v A X j b → Marked W g e v A Y (j + 1) c
marked_next W g e v A X Y j b c x h l ex ec p m = record {
  vs = m.vs ++ here b x;
  split = append_assoc m.vs (here b x) (locals_in c (cut (j + 1) e W)) ∙ ap (λ (us : List ℕ). m.vs ++ us) (sym word) ∙ m.split;
  given = p.more A m.vs m.given;
}
  where
    word : locals_in b (cut j e W) ≡ here b x ++ locals_in c (cut (j + 1) e W)
    word = ap (locals_in b) (cut_cons W j e h l ∙ ap (λ (y : Word). y ∷ cut (j + 1) e W) (sym ex)) ∙ in_word b x (cut (j + 1) e W) ∙ ap (λ (d : Bool). here b x ++ locals_in d (cut (j + 1) e W)) (sym ec)

pub marked_all : (W : List Word) (g e v : ℕ) (A X : List ℕ) (j : ℕ) (b : Bool) → e ≤ j → EndsAt W g e → Marked W g e v A X j b → Given A (locals_at W g) v X
unfolding locals_at locals_in
marked_all W g e v A X j b h q m =
    let k : m.vs ≡ locals_in false (cut g (behind W g) W) = sym (append-nil m.vs) ∙ ap (λ (l : List Word). m.vs ++ locals_in b l) (sym (cut_nothing W j e h)) ∙ m.split ∙ ap (locals_in false) (sym q.same) in
    subst (λ (us : List ℕ). Given A us v X) k m.given

-- every variable of the words has a mark
pub var_low : (W : List Word) (j : ℕ) (x : Word) → Vars W 65536 → x ≡ get_or W j Bad → var_of x < 65536
var_low W j x v e = subst (λ (y : Word). var_of y < 65536) (sym e) (v.low j)
