-- What marking and unmarking an and-box's locals leave, and their loops: F gives the numbers so far. Assumes nothing.
use Rattle.std.specs.Prelude.{◌≡◌, refl, List, [], ◌∷◌, Bool, true, false, ◌&&◌, ◌||◌, not, ℕ, suc, ◌+◌, ◌*◌, ◌/◌, ◌%◌, ◌≤◌, ◌<◌, eqb, length, get_or, drop}
use Rattle.std.proofs.Common.{ap, sym, ◌∙◌, arith, eq-eqb, ne_eqb}
use Rattle.std.proofs.Math.Decide.{ℕ_discrete}
use Rattle.akl.specs.Base.{if}
use Rattle.mem_numbers.specs.Stored.{stored_same, stored_other}
use Rattle.mem_parts.specs.Parts.{outside_then}
use Rattle.mem_words.specs.declared.Word.{Word}
use Rattle.work_tables.specs.Tables.{Laid}
use Rattle.check_words.specs.Frees.{frees}
use Rattle.check_words.specs.Passes.{frees_past}
use Rattle.check_vartables.specs.Tables.{names_of, stack_of, links_of, Checked, PutName, length_names}
use Rattle.check_roles.specs.Boxes.{newer}
use Rattle.check_roles.specs.Marks.{upd, is_marked, all_new, mark_all, unmark_all}

-- nothing but the numbers of variables changed
pub record Named (L X : List ℕ) : Type 0 where
  pub stack : stack_of X ≡ stack_of L
  pub links : links_of X ≡ links_of L
  pub rest : Checked L X

pub named_same : {L : List ℕ} → Named L L
named_same = record { stack = refl; links = refl; rest = record { before = refl; after = refl; long = refl } }

pub named_then : {L X Y : List ℕ} {x v : ℕ} → Named L X → PutName X x v Y → Named L Y
named_then n p = record { stack = p.stack ∙ n.stack; links = p.links ∙ n.links; rest = outside_then n.rest p.rest }

-- the numbers of L and X
abbrev pub numbers : List ℕ → ℕ → ℕ
numbers L y = get_or (names_of L) y 0

pub upd_by : {L X : List ℕ} {x v : ℕ} (F : ℕ → ℕ) → x < 65536 → Laid L → PutName L x v X → ((y : ℕ) → numbers L y ≡ F y) → (y : ℕ) → numbers X y ≡ upd F x v y
upd_by {L} {X} {x} {v} F h l p f y = go (ℕ_discrete y x)
  where
    go : Dec (y ≡ x) → numbers X y ≡ upd F x v y
    go (yes e) = let n = length_names l in ap (λ (z : ℕ). numbers X z) e ∙ stored_same 0 p.names (omega (arith, h, n)) ∙ sym (ap (λ (b : Bool). if b v (F y)) (eq-eqb y x e))
    go (no e) = stored_other y 0 p.names e ∙ f y ∙ sym (ap (λ (b : Bool). if b v (F y)) (ne_eqb y x e))

pub newer_first : (l i g : ℕ) → l ≡ 0 → i + 1 ≡ newer l i g
newer_first l i g e = let z : i + 1 ≡ suc i = omega arith in z ∙ sym (ap (λ (b : Bool). if (b || eqb g l) (suc i) g) (eq-eqb l 0 e))

pub newer_next : (l i g : ℕ) → (l ≡ 0 → ⊥) → g ≡ l → i + 1 ≡ newer l i g
newer_next l i g n e = let z : i + 1 ≡ suc i = omega arith in z ∙ sym (ap (λ (b : Bool). if (b || eqb g l) (suc i) g) (ne_eqb l 0 n) ∙ ap (λ (b : Bool). if b (suc i) g) (eq-eqb g l e))

pub newer_old : (l i g : ℕ) → (l ≡ 0 → ⊥) → (g ≡ l → ⊥) → g ≡ newer l i g
newer_old l i g n e = sym (ap (λ (b : Bool). if (b || eqb g l) (suc i) g) (ne_eqb l 0 n) ∙ ap (λ (b : Bool). if b (suc i) g) (ne_eqb g l e))

-- the locals from `at` on, those before j being marked
pub record Marking (C : List Word) (L : List ℕ) (at l i : ℕ) (X : List ℕ) (j : ℕ) : Type 0 where
  pub far : ℕ → ℕ
  pub are : (y : ℕ) → numbers X y ≡ far y
  pub new : all_new (frees (drop at C)) l i (numbers L) ≡ all_new (frees (drop j C)) l i far
  pub all : mark_all (frees (drop at C)) l i (numbers L) ≡ mark_all (frees (drop j C)) l i far

-- r: all were new, and then all are marked
pub record Did (C : List Word) (L : List ℕ) (at l i : ℕ) (X : List ℕ) (r : Bool) : Type 0 where
  pub new : r ≡ all_new (frees (drop at C)) l i (numbers L)
  pub marked : r ≡ true → (y : ℕ) → numbers X y ≡ mark_all (frees (drop at C)) l i (numbers L) y
  pub named : Named L X

pub mark_first : (C : List Word) (L : List ℕ) (at l i : ℕ) → Marking C L at l i L at
mark_first C L at l i = record { far = numbers L; are = λ y. refl; new = refl; all = refl }

pub mark_end : {C : List Word} {L X : List ℕ} {at l i j : ℕ} → frees (drop j C) ≡ [] → Marking C L at l i X j → Named L X → Did C L at l i X true
unfolding all_new mark_all
mark_end {C} {L} {X} {at} {l} {i} {j} e m n = record {
  new = sym (m.new ∙ ap (λ (vs : List ℕ). all_new vs l i m.far) e);
  marked = λ t y. m.are y ∙ sym (ap (λ (f : ℕ → ℕ). f y) (m.all ∙ ap (λ (vs : List ℕ). mark_all vs l i m.far) e));
  named = n;
}

pub mark_past : {C : List Word} {L X : List ℕ} {at l i j : ℕ} → length C ≤ j → Marking C L at l i X j → Named L X → Did C L at l i X true
mark_past {C} {L} {X} {at} {l} {i} {j} h m n = mark_end (frees_past C j h) m n

true_false : true ≡ false → ⊥
true_false e = let z : ◌≡◌ {A = ℕ} 0 1 = cc in omega arith

pub mark_old : {C : List Word} {L X : List ℕ} {at l i j x : ℕ} (u : ℕ) → frees (drop j C) ≡ x ∷ frees (drop (j + 1) C) → u ≡ numbers X x → u % 2 ≡ 1 → Marking C L at l i X j → Named L X → Did C L at l i X false
unfolding all_new
mark_old {C} {L} {X} {at} {l} {i} {j} {x} u e q o m n = record {
  new =
      sym
      (m.new
      ∙ ap (λ (vs : List ℕ). all_new vs l i m.far) e
      ∙ ap (λ (b : Bool). not b && all_new (frees (drop (j + 1) C)) l i (upd m.far x (2 * newer l i (m.far x / 2) + 1))) (ap is_marked (sym (q ∙ m.are x)) ∙ eq-eqb (u % 2) 1 o));
  marked = λ t. absurd (true_false (sym t));
  named = n;
}

pub mark_on : {C : List Word} {L X Y : List ℕ} {at l i j x : ℕ} (u k : ℕ) → Laid X → frees (drop j C) ≡ x ∷ frees (drop (j + 1) C) → x < 65536 → u ≡ numbers X x → (u % 2 ≡ 1 → ⊥) → k ≡ newer l i (u / 2) → PutName X x (2 * k + 1) Y → Marking C L at l i X j → Marking C L at l i Y (j + 1)
unfolding all_new mark_all
mark_on {C} {L} {X} {Y} {at} {l} {i} {j} {x} u k a e c q o g p m =
    let d : 2 * k + 1 ≡ 2 * newer l i (m.far x / 2) + 1 = ap (λ (t : ℕ). 2 * t + 1) (g ∙ ap (λ (t : ℕ). newer l i (t / 2)) (q ∙ m.are x)) in
    record {
      far = upd m.far x (2 * newer l i (m.far x / 2) + 1);
      are = λ y. upd_by m.far c a p m.are y ∙ ap (λ (t : ℕ). upd m.far x t y) d;
      new =
          m.new
          ∙ ap (λ (vs : List ℕ). all_new vs l i m.far) e
          ∙ ap (λ (b : Bool). not b && all_new (frees (drop (j + 1) C)) l i (upd m.far x (2 * newer l i (m.far x / 2) + 1))) (ap is_marked (sym (q ∙ m.are x)) ∙ ne_eqb (u % 2) 1 o);
      all = m.all ∙ ap (λ (vs : List ℕ). mark_all vs l i m.far) e;
    }

-- the same for unmarking
pub record Unmarking (C : List Word) (L : List ℕ) (at : ℕ) (X : List ℕ) (j : ℕ) : Type 0 where
  pub far : ℕ → ℕ
  pub are : (y : ℕ) → numbers X y ≡ far y
  pub all : unmark_all (frees (drop at C)) (numbers L) ≡ unmark_all (frees (drop j C)) far

pub record Undid (C : List Word) (L : List ℕ) (at : ℕ) (X : List ℕ) : Type 0 where
  pub unmarked : (y : ℕ) → numbers X y ≡ unmark_all (frees (drop at C)) (numbers L) y
  pub named : Named L X

pub unmark_first : (C : List Word) (L : List ℕ) (at : ℕ) → Unmarking C L at L at
unmark_first C L at = record { far = numbers L; are = λ y. refl; all = refl }

pub unmark_end : {C : List Word} {L X : List ℕ} {at j : ℕ} → frees (drop j C) ≡ [] → Unmarking C L at X j → Named L X → Undid C L at X
unfolding unmark_all
unmark_end {C} {L} {X} {at} {j} e m n = record { unmarked = λ y. m.are y ∙ sym (ap (λ (f : ℕ → ℕ). f y) (m.all ∙ ap (λ (vs : List ℕ). unmark_all vs m.far) e)); named = n }

pub unmark_past : {C : List Word} {L X : List ℕ} {at j : ℕ} → length C ≤ j → Unmarking C L at X j → Named L X → Undid C L at X
unmark_past {C} {L} {X} {at} {j} h m n = unmark_end (frees_past C j h) m n

pub unmark_on : {C : List Word} {L X Y : List ℕ} {at j x : ℕ} (u : ℕ) → Laid X → frees (drop j C) ≡ x ∷ frees (drop (j + 1) C) → x < 65536 → u ≡ numbers X x → PutName X x (u / 2 * 2) Y → Unmarking C L at X j → Unmarking C L at Y (j + 1)
unfolding unmark_all
unmark_on {C} {L} {X} {Y} {at} {j} {x} u a e c q p m =
    let d : u / 2 * 2 ≡ m.far x / 2 * 2 = ap (λ (t : ℕ). t / 2 * 2) (q ∙ m.are x) in
    record {
      far = upd m.far x (m.far x / 2 * 2);
      are = λ y. upd_by m.far c a p m.are y ∙ ap (λ (t : ℕ). upd m.far x t y) d;
      all = m.all ∙ ap (λ (vs : List ℕ). unmark_all vs m.far) e;
    }
