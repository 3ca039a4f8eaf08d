-- Rules 1, 4 and 6: what is added to the locals and the store of an and-box.
use mathlib.Core.Path.{◌≡◌, refl, ap, ap₂, sym, ◌∙◌}
use mathlib.Core.Bool.{Bool, true, false, cond}
use mathlib.Core.List.{List, [], ◌∷◌, ◌++◌, map, append_assoc, append-nil}
use Prim.Native.Nat.{ℕ, suc, ◌+◌}
use native.Mathlib.Omega.{arith}
use lib.ListN.{length, get_or, take, drop, length-append}
use lib.Seq.{get_or-append_seam}
use Rattle.constraint.specs.Constraint as constraint
use Rattle.constraint.specs.Constraint.{Con, ctrue, cfail, ceq, capp, map_con}
use Rattle.akl.specs.Base.{Name, range}
use Rattle.akl.specs.Syntax.{Var, number, Op, Stmt, atom, hide, opened}
use Rattle.akl.specs.Rules.{number_of, stored, fresh}
use Rattle.akl.specs.Configuration.{goal, member, guarded, Node, or, and, stmt, choice_box, guard, Nodes, nil, cons, ◌+n◌, one, Ctx, in_and, plug}
use Rattle.mem_words.specs.declared.Word.{Word}
use Rattle.mem_words.specs.declared.Word.TheVariants.{End, Free, Num, Place, Inner, Bad}
use Rattle.mem_sorts.specs.declared.Kind.TheVariants.{And, Guarded, Member}
use Rattle.mem_sorts.specs.declared.Sort.TheVariants.{Locals, Store, True, Fail, Eq, App, Hide}
use Rattle.mem_copies.specs.Open.{open_word}
use Rattle.layout.specs.Layout.{con_words, stmt_words}
use Rattle.store_words.specs.Boxes.{box_kind, local_words, store_words, node_words, nodes_words}
use Rattle.store_words.specs.Contexts.{before, after}
use Rattle.store_words.proofs.Places.{plug_words}
use Rattle.rule_words.specs.Scans.{close, around}
use Rattle.rule_words.specs.Pieces.{cut, cat}
use Rattle.rule_words.proofs.Segments.{join, size, size_cat, cat_join, size_join, seg_take, seg_drop, seg_cut, seg_take_on, seg_cut_on}
use Rattle.rule_words.proofs.Balance.{Tree, seg_ends}
use Rattle.rule_effects.specs.Effects.{behind, told, begins_true, true_sort, locals_end, store_end, effect_1, promoted, effect_6, number_in, frees, revealed, fresh_4, effect_4}
use Rattle.rule_effects.specs.Standing.{Stands}
use Rattle.rule_effects.proofs.Shapes.{con_tree, stmt_tree, node_tree, locals_balanced, store_balanced, locals_tree, store_tree}
use Rattle.rule_effects.proofs.Frames.{E, AL, ES, stmt_seg, node_seg, nodes_seg, before_seg, plug_seg, stands_seg, head_seg, before_and, closes_at, closes_tree, and_side, seg_word}
use Rattle.rule_effects.proofs.Members.{and_around}
use Rattle.rule_effects.proofs.Opening.{frees_locals, fresh_opened}

-- what stands in an and-box before a member, with what is added to its locals and its store
and_parts : (num : Name → ℕ) (χ : Ctx goal) (vs : List ℕ) (σ : constraint.Store) (l m : Nodes member) (Z : List Word)
    → node_words num (plug χ (and vs σ (l +n m))) Z ≡ cat (before num χ [] ∷ AL ∷ local_words vs [] ∷ ES ∷ store_words num σ [] ∷ E ∷ nodes_words num l [] ∷ []) (nodes_words num m (End ∷ after num χ Z))
and_parts num χ vs σ l m Z =
    and_side num χ vs σ l nil m Z ∙ sym (before_seg num (in_and χ vs σ l nil) (nodes_words num m (End ∷ after num χ Z))) ∙ before_and num χ vs σ l nil (nodes_words num m (End ∷ after num χ Z))

member_parts : (num : Name → ℕ) {χ : Ctx goal} {vs : List ℕ} {σ : constraint.Store} {l r : Nodes member} {n : Node member} {Z W : List Word} {i : ℕ} → Stands num (in_and χ vs σ l r) n Z W i
    → W ≡ cat (before num χ [] ∷ AL ∷ local_words vs [] ∷ ES ∷ store_words num σ [] ∷ E ∷ nodes_words num l [] ∷ []) (node_words num n (nodes_words num r (End ∷ after num χ Z)))
unfolding plug nodes_words
member_parts num {χ} {vs} {σ} {l} {r} {n} {Z} s = s.whole ∙ and_parts num χ vs σ l (cons n r) Z

member_begins : (num : Name → ℕ) {χ : Ctx goal} {vs : List ℕ} {σ : constraint.Store} {l r : Nodes member} {n : Node member} {Z W : List Word} {i : ℕ} → Stands num (in_and χ vs σ l r) n Z W i
    → i ≡ size (before num χ [] ∷ AL ∷ local_words vs [] ∷ ES ∷ store_words num σ [] ∷ E ∷ nodes_words num l [] ∷ [])
member_begins num {χ} {vs} {σ} {l} {r} s =
    let P = before num χ [] in
    let X = P ∷ AL ∷ local_words vs [] ∷ ES ∷ store_words num σ [] ∷ E ∷ nodes_words num l [] ∷ [] in
    s.begins ∙ ap length (before_and num χ vs σ l r []) ∙ size_cat X [] ∙ omega arith

-- where the locals and the store of the and-box at a close
pub heads : (num : Name → ℕ) (vs : List ℕ) (σ : constraint.Store) (P T W : List Word) (a : ℕ) → W ≡ cat (P ∷ AL ∷ local_words vs [] ∷ ES ∷ store_words num σ [] ∷ E ∷ []) T → a ≡ length P
    → (locals_end W a ≡ size (P ∷ AL ∷ local_words vs [] ∷ [])) × (store_end W a ≡ size (P ∷ AL ∷ local_words vs [] ∷ ES ∷ store_words num σ [] ∷ []))
heads num vs σ P T W a w h =
    let U = local_words vs [] in
    let S = store_words num σ [] in
    let Q : List Word = Inner Store ∷ (S ++ (End ∷ T)) in
    let u = closes_tree (λ r. Inner Locals ∷ local_words vs (End ∷ r)) (locals_tree vs) (P ∷ (Place And ∷ []) ∷ []) (P ∷ AL ∷ U ∷ []) Q W (a + 1) (w ∙ ap (cat (P ∷ AL ∷ [])) (sym ((locals_balanced vs).front (End ∷ Q)))) w (omega (arith, h)) in
    let t = closes_tree (λ r. Inner Store ∷ store_words num σ (End ∷ r)) (store_tree num σ) (P ∷ AL ∷ U ∷ E ∷ []) (P ∷ AL ∷ U ∷ ES ∷ S ∷ []) T W (locals_end W a + 1) (w ∙ ap (cat (P ∷ AL ∷ U ∷ ES ∷ [])) (sym ((store_balanced num σ).front (End ∷ T)))) w (omega (arith, u)) in
    (u, t)

-- ---------------------------------------------------------------------------------------------
-- 1

stores_side : (num : Name → ℕ) (σ τ : constraint.Store) (r : List Word) → store_words num (σ ++ τ) r ≡ store_words num σ (store_words num τ r)
unfolding store_words
stores_side num [] τ r = refl
stores_side num (c ∷ σ) τ r = ap (con_words num (map_con number c)) (stores_side num σ τ r)

told_parts : (P U S C L M Q W : List Word) (i s b e : ℕ) → W ≡ cat (P ∷ AL ∷ U ∷ ES ∷ S ∷ E ∷ L ∷ (Place Member ∷ []) ∷ M ∷ E ∷ []) Q
    → s ≡ size (P ∷ AL ∷ U ∷ ES ∷ S ∷ []) → i ≡ s + 1 + length L → e ≡ i + 1 + length M → cut (i + 1) b W ≡ C
    → told W i s b e ≡ cat (P ∷ AL ∷ U ∷ ES ∷ S ∷ C ∷ E ∷ L ∷ []) Q
unfolding told
told_parts P U S C L M Q W i s b e w hs hi he hc =
    seg_take_on (P ∷ AL ∷ U ∷ ES ∷ S ∷ []) _ W s w hs _ ∙ ap (cat (P ∷ AL ∷ U ∷ ES ∷ S ∷ []))
    (ap (λ (u : List Word). u ++ (cut s i W ++ drop (e + 1) W)) hc ∙ ap (cat (C ∷ []))
    (seg_cut_on (P ∷ AL ∷ U ∷ ES ∷ S ∷ []) (E ∷ L ∷ []) _ W s i w hs (omega arith) _ ∙ ap (cat (E ∷ L ∷ []))
    (seg_drop (P ∷ AL ∷ U ∷ ES ∷ S ∷ E ∷ L ∷ (Place Member ∷ []) ∷ M ∷ E ∷ []) Q W (e + 1) w (omega arith))))

-- what goes to the store of a constraint's words: `true` adds nothing
atom_piece : (num : Name → ℕ) (c : Con Var) → map_con number (map_con number_of c) ≡ c → (X : List (List Word)) (Q W : List Word) (j e : ℕ) → W ≡ cat X (con_words num c Q) → j ≡ size X → e ≡ j + length (con_words num c [])
    → cut j (cond (begins_true (get_or W j Bad)) j e) W ≡ store_words num (stored c) []
unfolding con_words store_words
atom_piece num ctrue f X Q W j e w h g =
    ap (λ (b : Bool). cut j (cond b j e) W) (ap begins_true (seg_word X (Inner True) (End ∷ Q) W j w h)) ∙ seg_cut X [] _ W j j w h (omega arith)
atom_piece num cfail f X Q W j e w h g =
    ap (λ (b : Bool). cut j (cond b j e) W) (ap begins_true (seg_word X (Inner Fail) (End ∷ Q) W j w h)) ∙ seg_cut X ((Inner Fail ∷ End ∷ []) ∷ []) Q W j e w h (omega arith) ∙ ap (λ (d : Con Var). con_words num d []) (sym f)
atom_piece num (ceq x y) f X Q W j e w h g =
    ap (λ (b : Bool). cut j (cond b j e) W) (ap begins_true (seg_word X (Inner Eq) _ W j w h)) ∙ seg_cut X (con_words num (ceq x y) [] ∷ []) Q W j e w h (omega arith) ∙ ap (λ (d : Con Var). con_words num d []) (sym f)
atom_piece num (capp x t ys) f X Q W j e w h g =
    ap (λ (b : Bool). cut j (cond b j e) W) (ap begins_true (seg_word X (Inner App) _ W j w h))
    ∙ seg_cut X (con_words num (capp x t ys) [] ∷ []) Q W j e (w ∙ ap (cat X) ((con_tree num (capp x t ys)).balanced.front Q)) h (omega arith) ∙ ap (λ (d : Con Var). con_words num d []) (sym f)

-- The constraint's variables are numbers: a member has no bound variables left free.
pub rule_1_words : (num : Name → ℕ) {χ : Ctx goal} {vs : List ℕ} {σ : constraint.Store} {l r : Nodes member} {c : Con Var} {Z W : List Word} {i : ℕ} → map_con number (map_con number_of c) ≡ c → Stands num (in_and χ vs σ l r) (stmt (atom c)) Z W i
    → effect_1 W i ≡ node_words num (plug χ (and vs (σ ++ stored c) (l +n r))) Z
unfolding effect_1 node_words stmt_words
rule_1_words num {χ} {vs} {σ} {l} {r} {c} {Z} {W} {i} f s =
    let P = before num χ [] in
    let U = local_words vs [] in
    let S = store_words num σ [] in
    let L = nodes_words num l [] in
    let M = con_words num c [] in
    let T = nodes_words num r (End ∷ after num χ Z) in
    let C = store_words num (stored c) [] in
    let w0 : W ≡ cat (P ∷ AL ∷ U ∷ ES ∷ S ∷ E ∷ L ∷ (Place Member ∷ []) ∷ []) (con_words num c (End ∷ T)) = member_parts num s in
    let w : W ≡ cat (P ∷ AL ∷ U ∷ ES ∷ S ∷ E ∷ L ∷ (Place Member ∷ []) ∷ M ∷ E ∷ []) T = w0 ∙ ap (cat (P ∷ AL ∷ U ∷ ES ∷ S ∷ E ∷ L ∷ (Place Member ∷ []) ∷ [])) ((con_tree num c).balanced.front (End ∷ T)) in
    let h = member_begins num s in
    let a : around W i ≡ length P = and_around num s in
    let t = (heads num vs σ P _ W (around W i) w a).1 in
    let e = closes_at num (stmt (atom c)) (P ∷ AL ∷ U ∷ ES ∷ S ∷ E ∷ L ∷ []) (P ∷ AL ∷ U ∷ ES ∷ S ∷ E ∷ L ∷ (Place Member ∷ []) ∷ M ∷ []) T W i w0 w h in
    told_parts P U S C L M T W i _ _ _ w t (omega (arith, h, t)) (omega (arith, h, e)) (atom_piece num c f (P ∷ AL ∷ U ∷ ES ∷ S ∷ E ∷ L ∷ (Place Member ∷ []) ∷ []) (End ∷ T) W (i + 1) (close W i) w0 (omega (arith, h)) (omega (arith, h, e)))
    ∙ sym (and_parts num χ vs (σ ++ stored c) l r Z
    ∙ ap (λ (u : List Word). cat (P ∷ AL ∷ U ∷ ES ∷ []) (u ++ cat (E ∷ L ∷ []) T)) (stores_side num σ (stored c) [] ∙ (store_balanced num σ).front (store_words num (stored c) []))
    ∙ ap (cat (P ∷ AL ∷ U ∷ ES ∷ [])) (append_assoc S C (cat (E ∷ L ∷ []) T)))

-- ---------------------------------------------------------------------------------------------
-- 4

locals_side : (vs ws : List ℕ) (r : List Word) → local_words (vs ++ ws) r ≡ local_words vs (local_words ws r)
unfolding local_words
locals_side [] ws r = refl
locals_side (v ∷ vs) ws r = ap (λ (u : List Word). Free v ∷ u) (locals_side vs ws r)

revealed_parts : (P U S L A Q W : List Word) (i n next u s : ℕ) → W ≡ cat (P ∷ AL ∷ U ∷ ES ∷ S ∷ E ∷ L ∷ (Place Member ∷ []) ∷ (Inner Hide ∷ Num n ∷ []) ∷ A ∷ E ∷ []) Q
    → u ≡ size (P ∷ AL ∷ U ∷ []) → i ≡ size (P ∷ AL ∷ U ∷ ES ∷ S ∷ E ∷ L ∷ []) → s ≡ i + 3 + length A
    → revealed W i n next u s ≡ cat (P ∷ AL ∷ U ∷ frees next n ∷ ES ∷ S ∷ E ∷ L ∷ (Place Member ∷ []) ∷ map (open_word (frees next n)) A ∷ []) Q
unfolding revealed
revealed_parts P U S L A Q W i n next u s w hu hi hs =
    let M = Place Member ∷ [] in
    let H = Inner Hide ∷ Num n ∷ [] in
    seg_take_on (P ∷ AL ∷ U ∷ []) _ W u w hu _ ∙ ap (cat (P ∷ AL ∷ U ∷ frees next n ∷ []))
    (seg_cut_on (P ∷ AL ∷ U ∷ []) (ES ∷ S ∷ E ∷ L ∷ M ∷ []) _ W u (i + 1) w hu (omega arith) _ ∙ ap (cat (ES ∷ S ∷ E ∷ L ∷ M ∷ []))
    (ap₂ (λ (x y : List Word). map (open_word (frees next n)) x ++ y) (seg_cut (P ∷ AL ∷ U ∷ ES ∷ S ∷ E ∷ L ∷ M ∷ H ∷ []) (A ∷ []) _ W (i + 3) s w (omega arith) (omega arith))
    (seg_drop (P ∷ AL ∷ U ∷ ES ∷ S ∷ E ∷ L ∷ M ∷ H ∷ A ∷ E ∷ []) Q W (s + 1) w (omega arith))))

pub rule_4_words : (num : Name → ℕ) {χ : Ctx goal} {vs : List ℕ} {σ : constraint.Store} {l r : Nodes member} {n : ℕ} {a : Stmt} {Z W : List Word} {i : ℕ} (next : ℕ) → Stands num (in_and χ vs σ l r) (stmt (hide n a)) Z W i
    → effect_4 W i next ≡ node_words num (plug χ (and (vs ++ range next n) σ (l +n cons (stmt (opened a (fresh next n))) r))) Z
unfolding effect_4 fresh_4 node_words stmt_words
rule_4_words num {χ} {vs} {σ} {l} {r} {n} {a} {Z} {W} {i} next s =
    let P = before num χ [] in
    let U = local_words vs [] in
    let S = store_words num σ [] in
    let L = nodes_words num l [] in
    let M = Place Member ∷ [] in
    let H = Inner Hide ∷ Num n ∷ [] in
    let A = stmt_words num a [] in
    let T = nodes_words num r (End ∷ after num χ Z) in
    let F = frees next n in
    let w0 : W ≡ cat (P ∷ AL ∷ U ∷ ES ∷ S ∷ E ∷ L ∷ M ∷ H ∷ []) (stmt_words num a (End ∷ End ∷ T)) = member_parts num s in
    let w : W ≡ cat (P ∷ AL ∷ U ∷ ES ∷ S ∷ E ∷ L ∷ M ∷ H ∷ A ∷ E ∷ []) (End ∷ T) = w0 ∙ ap (cat (P ∷ AL ∷ U ∷ ES ∷ S ∷ E ∷ L ∷ M ∷ H ∷ [])) (stmt_seg num a (End ∷ End ∷ T)) in
    let h = member_begins num s in
    let b : around W i ≡ length P = and_around num s in
    let u = (heads num vs σ P _ W (around W i) w b).0 in
    let e = closes_tree (stmt_words num (hide n a)) (stmt_tree num (hide n a)) (P ∷ AL ∷ U ∷ ES ∷ S ∷ E ∷ L ∷ M ∷ []) (P ∷ AL ∷ U ∷ ES ∷ S ∷ E ∷ L ∷ M ∷ H ∷ A ∷ []) (End ∷ T) W (i + 1) w0 w (omega (arith, h)) in
    ap (λ (k : ℕ). revealed W i k next (locals_end W (around W i)) (close W (i + 1))) (ap number_in (seg_word (P ∷ AL ∷ U ∷ ES ∷ S ∷ E ∷ L ∷ M ∷ (Inner Hide ∷ []) ∷ []) (Num n) _ W (i + 2) w (omega (arith, h))))
    ∙ revealed_parts P U S L A (End ∷ T) W i n next _ _ w u h (omega (arith, h, e))
    ∙ sym (and_parts num χ (vs ++ range next n) σ l (cons (stmt (opened a (fresh next n))) r) Z
    ∙ ap (λ (x : List Word). cat (P ∷ AL ∷ []) (x ++ cat (ES ∷ S ∷ E ∷ L ∷ M ∷ []) (stmt_words num (opened a (fresh next n)) (End ∷ T)))) (locals_side vs (range next n) [] ∙ (locals_balanced vs).front _ ∙ ap (cat (U ∷ [])) (frees_locals next n [] ∙ append-nil F))
    ∙ ap (cat (P ∷ AL ∷ [])) (append_assoc U F _ ∙ ap (cat (U ∷ F ∷ ES ∷ S ∷ E ∷ L ∷ M ∷ [])) (stmt_seg num (opened a (fresh next n)) (End ∷ T) ∙ ap (λ (x : List Word). x ++ (End ∷ T)) (sym (fresh_opened num a next n)))))

-- ---------------------------------------------------------------------------------------------
-- 6

promoted_parts : (P U S L K X T B Q W : List Word) (i u s v t b c e : ℕ) → length K ≡ 1
    → W ≡ cat (P ∷ AL ∷ U ∷ ES ∷ S ∷ E ∷ L ∷ K ∷ (Place Guarded ∷ []) ∷ AL ∷ X ∷ ES ∷ T ∷ E ∷ E ∷ B ∷ E ∷ []) Q
    → u ≡ size (P ∷ AL ∷ U ∷ []) → s ≡ size (P ∷ AL ∷ U ∷ ES ∷ S ∷ []) → i ≡ size (P ∷ AL ∷ U ∷ ES ∷ S ∷ E ∷ L ∷ []) → v ≡ i + 4 + length X → t ≡ v + 2 + length T → b ≡ t + 2 → c ≡ b + length B → e ≡ c + 1
    → promoted W i u s v t b c e ≡ cat (P ∷ AL ∷ U ∷ X ∷ ES ∷ S ∷ T ∷ E ∷ L ∷ (Place Member ∷ []) ∷ B ∷ []) Q
unfolding promoted
promoted_parts P U S L K X T B Q W i u s v t b c e k w hu hs hi hv ht hb hc he =
    let D = Place Guarded ∷ [] in
    seg_take_on (P ∷ AL ∷ U ∷ []) _ W u w hu _ ∙ ap (cat (P ∷ AL ∷ U ∷ []))
    (seg_cut_on (P ∷ AL ∷ U ∷ ES ∷ S ∷ E ∷ L ∷ K ∷ D ∷ AL ∷ []) (X ∷ []) _ W (i + 4) v w (omega arith) (omega arith) _ ∙ ap (cat (X ∷ []))
    (seg_cut_on (P ∷ AL ∷ U ∷ []) (ES ∷ S ∷ []) _ W u s w hu (omega arith) _ ∙ ap (cat (ES ∷ S ∷ []))
    (seg_cut_on (P ∷ AL ∷ U ∷ ES ∷ S ∷ E ∷ L ∷ K ∷ D ∷ AL ∷ X ∷ ES ∷ []) (T ∷ []) _ W (v + 2) t w (omega arith) (omega arith) _ ∙ ap (cat (T ∷ []))
    (seg_cut_on (P ∷ AL ∷ U ∷ ES ∷ S ∷ []) (E ∷ L ∷ []) _ W s i w hs (omega arith) _ ∙ ap (cat (E ∷ L ∷ (Place Member ∷ []) ∷ []))
    (seg_cut_on (P ∷ AL ∷ U ∷ ES ∷ S ∷ E ∷ L ∷ K ∷ D ∷ AL ∷ X ∷ ES ∷ T ∷ E ∷ E ∷ []) (B ∷ []) _ W b c w (omega arith) (omega arith) _ ∙ ap (cat (B ∷ []))
    (seg_drop (P ∷ AL ∷ U ∷ ES ∷ S ∷ E ∷ L ∷ K ∷ D ∷ AL ∷ X ∷ ES ∷ T ∷ E ∷ E ∷ B ∷ E ∷ []) Q W e w (omega arith)))))))

pub rule_6_words : (num : Name → ℕ) {χ : Ctx goal} {ws : List ℕ} {θ : constraint.Store} {l r : Nodes member} {op : Op} {vs : List ℕ} {σ : constraint.Store} {b : Stmt} {Z W : List Word} {i : ℕ}
    → Stands num (in_and χ ws θ l r) (choice_box op (one (guard (and vs σ nil) b))) Z W i → effect_6 W i ≡ node_words num (plug χ (and (ws ++ vs) (θ ++ σ) (l +n cons (stmt b) r))) Z
unfolding effect_6 node_words
rule_6_words num {χ} {ws} {θ} {l} {r} {op} {vs} {σ} {b} {Z} {W} {i} st =
    let P = before num χ [] in
    let U = local_words ws [] in
    let S = store_words num θ [] in
    let L = nodes_words num l [] in
    let K = Place (box_kind op) ∷ [] in
    let D = Place Guarded ∷ [] in
    let X = local_words vs [] in
    let T = store_words num σ [] in
    let B = stmt_words num b [] in
    let R = nodes_words num r (End ∷ after num χ Z) in
    let Y = P ∷ AL ∷ U ∷ ES ∷ S ∷ E ∷ L ∷ K ∷ D ∷ [] in
    let w0 : W ≡ cat (P ∷ AL ∷ U ∷ ES ∷ S ∷ E ∷ L ∷ K ∷ D ∷ AL ∷ []) (local_words vs (End ∷ Inner Store ∷ store_words num σ (End ∷ End ∷ stmt_words num b (End ∷ End ∷ R)))) = member_parts num st in
    let w1 : W ≡ cat (P ∷ AL ∷ U ∷ ES ∷ S ∷ E ∷ L ∷ K ∷ D ∷ AL ∷ X ∷ ES ∷ T ∷ E ∷ E ∷ []) (stmt_words num b (End ∷ End ∷ R)) = w0 ∙ ap (cat (P ∷ AL ∷ U ∷ ES ∷ S ∷ E ∷ L ∷ K ∷ D ∷ AL ∷ [])) (head_seg num vs σ _) in
    let w : W ≡ cat (P ∷ AL ∷ U ∷ ES ∷ S ∷ E ∷ L ∷ K ∷ D ∷ AL ∷ X ∷ ES ∷ T ∷ E ∷ E ∷ B ∷ E ∷ []) (End ∷ R) = w1 ∙ ap (cat (P ∷ AL ∷ U ∷ ES ∷ S ∷ E ∷ L ∷ K ∷ D ∷ AL ∷ X ∷ ES ∷ T ∷ E ∷ E ∷ [])) (stmt_seg num b (End ∷ End ∷ R)) in
    let h = member_begins num st in
    let a : around W i ≡ length P = and_around num st in
    let us = heads num ws θ P _ W (around W i) w a in
    let vt = heads num vs σ (join Y) (End ∷ stmt_words num b (End ∷ End ∷ R)) W (i + 2) (w1 ∙ cat_join Y _) (omega (arith, h, size_join Y)) in
    let g = closes_at num (and vs σ nil) Y (P ∷ AL ∷ U ∷ ES ∷ S ∷ E ∷ L ∷ K ∷ D ∷ AL ∷ X ∷ ES ∷ T ∷ E ∷ []) (stmt_words num b (End ∷ End ∷ R)) W (i + 2) w0 w1 (omega (arith, h)) in
    let c = seg_ends (stmt_words num b) (stmt_tree num b) (P ∷ AL ∷ U ∷ ES ∷ S ∷ E ∷ L ∷ K ∷ D ∷ AL ∷ X ∷ ES ∷ T ∷ E ∷ E ∷ []) _ W (behind W (i + 2)) w1 (omega (arith, g)) in
    let e = closes_at num (choice_box op (one (guard (and vs σ nil) b))) (P ∷ AL ∷ U ∷ ES ∷ S ∷ E ∷ L ∷ []) (P ∷ AL ∷ U ∷ ES ∷ S ∷ E ∷ L ∷ K ∷ D ∷ AL ∷ X ∷ ES ∷ T ∷ E ∷ E ∷ B ∷ E ∷ []) R W i w0 w h in
    let j = size_join Y in
    promoted_parts P U S L K X T B (End ∷ R) W i _ _ _ _ _ _ _ refl w us.0 us.1 h (omega (arith, h, j, vt.0)) (omega (arith, h, j, vt.0, vt.1)) (omega (arith, g, j, vt.1)) c (omega (arith, c, e, g))
    ∙ sym (and_parts num χ (ws ++ vs) (θ ++ σ) l (cons (stmt b) r) Z
    ∙ ap₂ (λ (x y : List Word). cat (P ∷ AL ∷ x ∷ ES ∷ y ∷ E ∷ L ∷ (Place Member ∷ []) ∷ []) (stmt_words num b (End ∷ R))) (locals_side ws vs [] ∙ (locals_balanced ws).front X) (stores_side num θ σ [] ∙ (store_balanced num θ).front T)
    ∙ ap (cat (P ∷ AL ∷ [])) (append_assoc U X _ ∙ ap (cat (U ∷ X ∷ ES ∷ [])) (append_assoc S T _ ∙ ap (cat (S ∷ T ∷ E ∷ L ∷ (Place Member ∷ []) ∷ [])) (stmt_seg num b (End ∷ R)))))
