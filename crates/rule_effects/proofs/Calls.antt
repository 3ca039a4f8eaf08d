-- Rule 2: a program atom becomes its definition's body.
use mathlib.Core.Path.{◌≡◌, refl, ap, ap₂, sym, ◌∙◌, subst}
use mathlib.Core.Bool.{Bool, true, false, cond, ◌&&◌}
use mathlib.Core.List.{List, [], ◌∷◌, ◌++◌, map, append_assoc, append-nil}
use mathlib.Core.Option.{Option, some, none}
use Prim.Native.Nat.{ℕ, zero, suc, ◌+◌, ◌-◌, ◌<◌, ◌≤◌}
use native.Mathlib.Omega.{arith}
use native.Mathlib.Decide.{ℕ_discrete}
use lib.Dec.{eqb, ltb}
use lib.ListN.{length, get_or, take, drop, length-append}
use borrow.Author.Tests.{lt-ltb, le-ltb, eq-eqb, ne_eqb}
use Rattle.akl.specs.Base.{Name, same, if, size}
use Rattle.akl.proofs.Names.{same_refl, same_eq}
use Rattle.akl.specs.Syntax.{Var, Stmt, call, Def, Program, defined, opened}
use Rattle.akl.specs.Configuration.{member, Node, stmt, Ctx, plug}
use Rattle.mem_words.specs.declared.Word.{Word}
use Rattle.mem_words.specs.declared.Word.TheVariants.{End, Num, Place, Inner, Bad}
use Rattle.mem_sorts.specs.declared.Kind.TheVariants.{Member}
use Rattle.mem_sorts.specs.declared.Sort.TheVariants.{Call}
use Rattle.mem_copies.specs.Open.{open_word}
use Rattle.layout.specs.Layout.{vars_words, stmt_words, program_words}
use Rattle.layout.specs.Tables.{SpeltProgram}
use Rattle.store_words.specs.Boxes.{node_words}
use Rattle.store_words.specs.Contexts.{before, after}
use Rattle.rule_words.specs.Scans.{close}
use Rattle.rule_words.specs.Pieces.{cut, cat}
use Rattle.rule_words.proofs.Segments as seg
use Rattle.rule_words.proofs.Segments.{size_cat, seg_drop, seg_cut, seg_take_on}
use Rattle.rule_words.proofs.Balance.{seg_ends}
use Rattle.rule_effects.specs.Effects.{behind, number_in, heads_match, body_from, called, body_of, effect_2}
use Rattle.rule_effects.specs.Standing.{Stands}
use Rattle.rule_effects.proofs.Shapes.{stmt_tree, vars_balanced}
use Rattle.rule_effects.proofs.Frames.{E, stmt_seg, plug_seg, stands_seg, closes_tree, seg_word}
use Rattle.rule_effects.proofs.Opening.{stmt_opened}

-- names are the same exactly when their numbers are, where each is the name of its number
same_number : (num : Name → ℕ) (spell : ℕ → Name) (a b : Name) → spell (num a) ≡ a → spell (num b) ≡ b → same a b ≡ eqb (num a) (num b)
same_number num spell a b p q = go (same a b) refl
  where
    go : (t : Bool) → same a b ≡ t → same a b ≡ eqb (num a) (num b)
    go true e = e ∙ sym (eq-eqb (num a) (num b) (ap num (same_eq a b e)))
    go false e = e ∙ sym (ne_eqb (num a) (num b) (λ d. let z : ◌≡◌ {A = Bool} true false = sym (same_refl a) ∙ ap (same a) (sym p ∙ ap spell d ∙ q) ∙ e in let y : ◌≡◌ {A = ℕ} 0 1 = cc in omega arith))

-- where the body of a definition that is found stands
pub record Found (num : Name → ℕ) (D : List Word) (b : Stmt) (at : ℕ) : Type 0 where
  pub head : List Word
  pub tail : List Word
  pub whole : D ≡ head ++ stmt_words num b tail
  pub begins : at ≡ length head

abbrev Result : (Name → ℕ) → List Word → ℕ → Option Stmt → Type 0
Result num D at none = at ≡ length D
Result num D at (some b) = Found num D b at

found : (ds : Program) (num : Name → ℕ) (spell : ℕ → Name) (p : Name) (n f : ℕ) (A D : List Word) (j : ℕ) → SpeltProgram num spell ds → spell (num p) ≡ p → D ≡ A ++ program_words num ds → j ≡ length A → length (program_words num ds) ≤ f
    → Result num D (body_from f D j (num p) n) (defined ds p n)
unfolding defined body_from program_words heads_match
found [] num spell p n zero A D j t e w h c = refl
found [] num spell p n (suc f) A D j t e w h c =
    let k : length D ≤ j = omega (arith, h, ap length w ∙ length-append A []) in
    ap (λ (b : Bool). cond b (cond (heads_match D j (num p) n) (j + 2) (body_from f D (behind D (j + 2)) (num p) n)) (length D)) (le-ltb j (length D) k)
found (d ∷ ds) num spell p n zero A D j t e w h c = absurd (omega (arith, c))
found (d ∷ ds) num spell p n (suc f) A D j t e w h c =
    let H = Num (num d.name) ∷ Num d.arity ∷ [] in
    let B = stmt_words num d.body [] in
    let R = program_words num ds in
    let k : j < length D = omega (arith, h, ap length w ∙ length-append A (Num (num d.name) ∷ Num d.arity ∷ stmt_words num d.body R)) in
    let a1 : get_or D j Bad ≡ Num (num d.name) = seg_word (A ∷ []) (Num (num d.name)) _ D j w (omega (arith, h)) in
    let a2 : get_or D (j + 1) Bad ≡ Num d.arity = seg_word (A ∷ (Num (num d.name) ∷ []) ∷ []) (Num d.arity) _ D (j + 1) w (omega (arith, h)) in
    let m : heads_match D j (num p) n ≡ same d.name p && eqb d.arity n =
    ap₂ (λ (x y : Word). eqb (number_in x) (num p) && eqb (number_in y) n) a1 a2 ∙ ap (λ (b : Bool). b && eqb d.arity n) (sym (same_number num spell d.name p t.0 e)) in
    let q = seg_ends (stmt_words num d.body) (stmt_tree num d.body) (A ∷ H ∷ []) R D (j + 2) w (omega (arith, h)) in
    let w1 : D ≡ (A ++ (Num (num d.name) ∷ Num d.arity ∷ B)) ++ R = w ∙ ap (cat (A ∷ H ∷ [])) (stmt_seg num d.body R) ∙ sym (append_assoc A (Num (num d.name) ∷ Num d.arity ∷ B) R) in
    let l1 = length-append A (Num (num d.name) ∷ Num d.arity ∷ B) in
    let l2 = ap length (stmt_seg num d.body R) ∙ length-append B R in
    let ih = found ds num spell p n f (A ++ (Num (num d.name) ∷ Num d.arity ∷ B)) D (behind D (j + 2)) t.2 e w1 (omega (arith, h, q, l1)) (omega (arith, c, l2)) in
    let ev : body_from (suc f) D j (num p) n ≡ cond (same d.name p && eqb d.arity n) (j + 2) (body_from f D (behind D (j + 2)) (num p) n) =
    ap₂ (λ (b x : Bool). cond b (cond x (j + 2) (body_from f D (behind D (j + 2)) (num p) n)) (length D)) (lt-ltb j (length D) k) m in
    let here : Found num D d.body (j + 2) = record { head = A ++ H; tail = R; whole = w ∙ sym (append_assoc A H (stmt_words num d.body R)); begins = omega (arith, h, length-append A H) } in
    subst (λ (x : ℕ). Result num D x (defined (d ∷ ds) p n)) (sym ev) (go (same d.name p && eqb d.arity n) here ih)
  where
    go : (b : Bool) → Found num D d.body (j + 2) → Result num D (body_from f D (behind D (j + 2)) (num p) n) (defined ds p n) → Result num D (cond b (j + 2) (body_from f D (behind D (j + 2)) (num p) n)) (if b (some d.body) (defined ds p n))
    go true x y = x
    go false x y = y

vars_many : (ys : List Var) → length (vars_words ys []) ≡ size ys
unfolding vars_words size
vars_many [] = refl
vars_many (y ∷ ys) = ap suc (vars_many ys)

record Parts (num : Name → ℕ) (χ : Ctx member) (p : Name) (xs : List Var) (Z W : List Word) (i : ℕ) : Type 0 where
  args : close W (i + 1) ≡ i + 3 + length (vars_words xs [])
  word : number_in (get_or W (i + 2) Bad) ≡ num p
  whole : W ≡ cat (before num χ [] ∷ (Place Member ∷ []) ∷ (Inner Call ∷ Num (num p) ∷ []) ∷ vars_words xs [] ∷ E ∷ []) (End ∷ after num χ Z)

parts : (num : Name → ℕ) {χ : Ctx member} {p : Name} {xs : List Var} {Z W : List Word} {i : ℕ} → Stands num χ (stmt (call p xs)) Z W i → Parts num χ p xs Z W i
unfolding node_words stmt_words
parts num {χ} {p} {xs} {Z} {W} {i} s =
    let P = before num χ [] in
    let M = Place Member ∷ [] in
    let C = Inner Call ∷ Num (num p) ∷ [] in
    let X = vars_words xs [] in
    let Q = after num χ Z in
    let h = s.begins in
    let w0 : W ≡ cat (P ∷ M ∷ []) (stmt_words num (call p xs) (End ∷ Q)) = stands_seg num s in
    let w : W ≡ cat (P ∷ M ∷ C ∷ X ∷ E ∷ []) (End ∷ Q) = w0 ∙ ap (cat (P ∷ M ∷ C ∷ [])) ((vars_balanced xs).front (End ∷ End ∷ Q)) in
    let v = closes_tree (stmt_words num (call p xs)) (stmt_tree num (call p xs)) (P ∷ M ∷ []) (P ∷ M ∷ C ∷ X ∷ []) (End ∷ Q) W (i + 1) w0 w (omega (arith, h)) in
    record { args = omega (arith, v, h); word = ap number_in (seg_word (P ∷ M ∷ (Inner Call ∷ []) ∷ []) (Num (num p)) _ W (i + 2) w (omega (arith, h))); whole = w }

module _ (num : Name → ℕ) (spell : ℕ → Name) (ds : Program) (D : List Word) {χ : Ctx member} {p : Name} {xs : List Var} {Z W : List Word} {i : ℕ} where
  body : Stands num χ (stmt (call p xs)) Z W i → SpeltProgram num spell ds → spell (num p) ≡ p → D ≡ program_words num ds → Result num D (body_of W D i) (defined ds p (size xs))
  unfolding body_of
  body s t e d =
      let k = parts num s in
      let z : close W (i + 1) - (i + 3) ≡ size xs = omega (arith, k.args, vars_many xs) in
      let l : length (program_words num ds) ≤ length D = omega (arith, ap length d) in
      subst (λ (x : ℕ). Result num D x (defined ds p (size xs))) (ap₂ (body_from (length D) D 0) (sym k.word) (sym z)) (found ds num spell p (size xs) (length D) [] D 0 t e d refl l)

  -- Without a definition the search ends behind the program's words.
  pub no_body : Stands num χ (stmt (call p xs)) Z W i → SpeltProgram num spell ds → spell (num p) ≡ p → D ≡ program_words num ds → defined ds p (size xs) ≡ none → body_of W D i ≡ length D
  no_body s t e d f = subst (Result num D (body_of W D i)) f (body s t e d)

  pub rule_2_words : {b : Stmt} → Stands num χ (stmt (call p xs)) Z W i → SpeltProgram num spell ds → spell (num p) ≡ p → D ≡ program_words num ds → defined ds p (size xs) ≡ some b → effect_2 W D i ≡ node_words num (plug χ (stmt (opened b xs))) Z
  unfolding effect_2 called node_words
  rule_2_words {b} s t e d f =
      let P = before num χ [] in
      let M = Place Member ∷ [] in
      let C = Inner Call ∷ Num (num p) ∷ [] in
      let X = vars_words xs [] in
      let Q = after num χ Z in
      let h = s.begins in
      let k = parts num s in
      let w = k.whole in
      let B = stmt_words num b [] in
      let at = body_of W D i in
      let y : Found num D b at = subst (Result num D at) f (body s t e d) in
      let o = seg_ends (stmt_words num b) (stmt_tree num b) (y.head ∷ []) y.tail D at y.whole (omega (arith, y.begins)) in
      let c1 : cut (i + 3) (close W (i + 1)) W ≡ X = seg_cut (P ∷ M ∷ C ∷ []) (X ∷ []) _ W (i + 3) (close W (i + 1)) w (omega (arith, h)) (omega (arith, h, k.args)) in
      let c2 : cut at (behind D at) D ≡ B = seg_cut (y.head ∷ []) (B ∷ []) y.tail D at (behind D at) (y.whole ∙ ap (cat (y.head ∷ [])) (stmt_seg num b y.tail)) (omega (arith, y.begins)) (omega (arith, y.begins, o)) in
      let c3 : drop (close W (i + 1) + 1) W ≡ End ∷ Q = seg_drop (P ∷ M ∷ C ∷ X ∷ E ∷ []) (End ∷ Q) W (close W (i + 1) + 1) w (omega (arith, h, k.args)) in
      seg_take_on (P ∷ M ∷ []) _ W (i + 1) w (omega (arith, h)) _
      ∙ ap (cat (P ∷ M ∷ [])) (ap₂ (λ (u v : List Word). u ++ v) (ap₂ (λ (u v : List Word). map (open_word u) v) c1 c2 ∙ stmt_opened b num xs []) c3)
      ∙ sym (plug_seg num χ (stmt (opened b xs)) Z ∙ ap (cat (P ∷ M ∷ [])) (stmt_seg num (opened b xs) (End ∷ Q)))
