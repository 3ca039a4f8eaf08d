-- Rule 5: a choice becomes a choice-box, clause by clause.
use mathlib.Core.Path.{◌≡◌, refl, ap, ap₂, sym, ◌∙◌}
use mathlib.Core.Bool.{Bool, true, false}
use mathlib.Core.Bool as bool
use mathlib.Core.List.{List, [], ◌∷◌, ◌++◌, map, append_assoc, append-nil}
use Prim.Native.Nat.{ℕ, zero, suc, ◌+◌, ◌≤◌}
use native.Mathlib.Omega.{arith}
use lib.ListN.{length, get_or, take, drop, length-append}
use Rattle.akl.specs.Base.{Name, range}
use Rattle.akl.specs.Syntax.{Op, wait, cond, commit, Stmt, choice, Clauses, no_more, clause, opened}
use Rattle.akl.specs.Rules.{fresh, guarded_goals, hidden_in}
use Rattle.akl.specs.Configuration.{member, guarded, Node, and, stmt, choice_box, guard, Nodes, nil, cons, one, Ctx, plug}
use Rattle.mem_words.specs.declared.Word.{Word}
use Rattle.mem_words.specs.declared.Word.TheVariants.{End, Num, Place, Inner, Bad}
use Rattle.mem_sorts.specs.declared.Kind.TheVariants.{And, Guarded, Member}
use Rattle.mem_sorts.specs.declared.Sort.TheVariants.{Locals, Store, Clause}
use Rattle.mem_copies.specs.Open.{open_word}
use Rattle.layout.specs.Layout.{ask, stmt_words, clauses_words}
use Rattle.store_words.specs.Boxes.{box_kind, local_words, store_words, node_words, nodes_words}
use Rattle.store_words.specs.Contexts.{before, after}
use Rattle.rule_words.specs.Scans.{close}
use Rattle.rule_words.specs.Pieces.{cut, cat}
use Rattle.rule_words.proofs.Segments.{size, size_cat, seg_take, seg_drop, seg_cut, seg_take_on, seg_cut_on}
use Rattle.rule_words.proofs.Balance.{Tree, tree, leaf, then, seg_ends, an_inner, a_num}
use Rattle.rule_effects.specs.Effects.{behind, number_in, frees, box_of, box_of_sort, begins_clause, clause_sort, guarded_one, hides, guarded_from, hidden_from, effect_5, fresh_5}
use Rattle.rule_effects.specs.Standing.{Stands}
use Rattle.rule_effects.proofs.Shapes.{stmt_tree, clauses_balanced}
use Rattle.rule_effects.proofs.Frames.{E, stmt_seg, node_seg, nodes_seg, plug_seg, stands_seg, closes_tree, seg_word}
use Rattle.rule_effects.proofs.Opening.{frees_locals, fresh_opened}

abbrev CN : ℕ → List Word
CN n = Inner Clause ∷ Num n ∷ []

how_many : Clauses → ℕ
how_many no_more = 0
how_many (clause n g b cs) = suc (how_many cs)

-- there are fewer clauses than words
clauses_few : (num : Name → ℕ) (cs : Clauses) (r : List Word) → how_many cs ≤ length (clauses_words num cs r)
unfolding clauses_words how_many
clauses_few num no_more r = omega arith
clauses_few num (clause n g b cs) r =
    let x = clauses_words num cs r in
    omega (arith, clauses_few num cs r, ap length (stmt_seg num g (stmt_words num b (End ∷ x))) ∙ length-append (stmt_words num g []) (stmt_words num b (End ∷ x)), ap length (stmt_seg num b (End ∷ x)) ∙ length-append (stmt_words num b []) (End ∷ x))

-- the words of a clause
clause_tree : (num : Name → ℕ) (n : ℕ) (g b : Stmt) → Tree (λ r. Inner Clause ∷ Num n ∷ stmt_words num g (stmt_words num b (End ∷ r)))
clause_tree num n g b =
    tree (Inner Clause) (λ r. Num n ∷ stmt_words num g (stmt_words num b r)) (an_inner Clause) (leaf (Num n) (λ r. stmt_words num g (stmt_words num b r)) (a_num n) (then (stmt_words num g) (stmt_words num b) (stmt_tree num g).balanced (stmt_tree num b).balanced))

-- the guarded goal of a clause
one_parts : (num : Name → ℕ) (next n : ℕ) (g b : Stmt) (A C W : List Word) (j p q : ℕ) → W ≡ cat (A ∷ CN n ∷ stmt_words num g [] ∷ stmt_words num b [] ∷ []) C → j ≡ length A → p ≡ j + 2 + length (stmt_words num g []) → q ≡ p + length (stmt_words num b [])
    → (r : List Word) → guarded_one W j p q (frees next n) ++ r ≡ node_words num (guard (and (range next n) [] (one (stmt (opened g (fresh next n))))) (opened b (fresh next n))) r
unfolding guarded_one node_words store_words
one_parts num next n g b A C W j p q w hj hp hq r =
    let F = frees next n in
    let G = stmt_words num g [] in
    let B = stmt_words num b [] in
    let g' = opened g (fresh next n) in
    let b' = opened b (fresh next n) in
    let X = (Place Guarded ∷ Place And ∷ []) ∷ (Inner Locals ∷ []) ∷ F ∷ (End ∷ Inner Store ∷ []) ∷ (End ∷ Place Member ∷ []) ∷ [] in
    let e1 : map (open_word F) (cut (j + 2) p W) ≡ stmt_words num g' [] = ap (map (open_word F)) (seg_cut (A ∷ CN n ∷ []) (G ∷ []) _ W (j + 2) p w (omega arith) (omega arith)) ∙ fresh_opened num g next n in
    let e2 : map (open_word F) (cut p q W) ≡ stmt_words num b' [] = ap (map (open_word F)) (seg_cut (A ∷ CN n ∷ G ∷ []) (B ∷ []) _ W p q w (omega arith) (omega arith)) ∙ fresh_opened num b next n in
    let Y : List Word → List Word → List (List Word) = λ x y. (Place Guarded ∷ Place And ∷ []) ∷ (Inner Locals ∷ []) ∷ F ∷ (End ∷ Inner Store ∷ []) ∷ (End ∷ Place Member ∷ []) ∷ x ∷ (End ∷ End ∷ []) ∷ y ∷ [] in
    ap₂ (λ (x y : List Word). cat (Y x y) (End ∷ []) ++ r) e1 e2
    ∙ on_cat (Y (stmt_words num g' []) (stmt_words num b' [])) (End ∷ []) r
    ∙ sym (ap (λ (u : List Word). Place Guarded ∷ Place And ∷ Inner Locals ∷ u) (frees_locals next n _ ∙ ap (λ (u : List Word). F ++ (End ∷ Inner Store ∷ End ∷ Place Member ∷ u)) (stmt_seg num g' _ ∙ ap (λ (u : List Word). stmt_words num g' [] ++ (End ∷ End ∷ u)) (stmt_seg num b' (End ∷ r)))))
  where
    on_cat : (X : List (List Word)) (y z : List Word) → cat X y ++ z ≡ cat X (y ++ z)
    on_cat [] y z = refl
    on_cat (x ∷ X) y z = append_assoc x (cat X y) z ∙ ap (λ (u : List Word). x ++ u) (on_cat X y z)

-- all of them
clauses_guarded : (cs : Clauses) (num : Name → ℕ) (f next : ℕ) (A x W : List Word) (j : ℕ) → W ≡ A ++ clauses_words num cs (End ∷ x) → j ≡ length A → how_many cs ≤ f → (guarded_from f W j next ≡ nodes_words num (guarded_goals cs next) []) × (hidden_from f W j ≡ hidden_in cs)
unfolding clauses_words how_many guarded_from hidden_from guarded_goals hidden_in nodes_words
clauses_guarded no_more num zero next A x W j w h c = (refl, refl)
clauses_guarded no_more num (suc f) next A x W j w h c =
    let e : begins_clause (get_or W j Bad) ≡ false = ap begins_clause (seg_word (A ∷ []) End x W j w (omega arith)) in
    (ap (λ (b : Bool). bool.cond b (guarded_one W j (behind W (j + 2)) (behind W (behind W (j + 2))) (frees next (hides W j)) ++ guarded_from f W (behind W j) (next + hides W j)) []) e, ap (λ (b : Bool). bool.cond b (hides W j + hidden_from f W (behind W j)) 0) e)
clauses_guarded (clause n g b cs) num zero next A x W j w h c = absurd (omega (arith, c))
clauses_guarded (clause n g b cs) num (suc f) next A x W j w h c =
    let G = stmt_words num g [] in
    let B = stmt_words num b [] in
    let C = clauses_words num cs (End ∷ x) in
    let K = Inner Clause ∷ Num n ∷ (G ++ (B ++ (End ∷ []))) in
    let w1 : W ≡ cat (A ∷ CN n ∷ G ∷ []) (stmt_words num b (End ∷ C)) = w ∙ ap (cat (A ∷ CN n ∷ [])) (stmt_seg num g (stmt_words num b (End ∷ C))) in
    let w2 : W ≡ cat (A ∷ CN n ∷ G ∷ B ∷ E ∷ []) C = w1 ∙ ap (cat (A ∷ CN n ∷ G ∷ [])) (stmt_seg num b (End ∷ C)) in
    let w3 : W ≡ (A ++ K) ++ C = w2 ∙ ap (λ (u : List Word). A ++ (Inner Clause ∷ Num n ∷ u)) (ap (λ (u : List Word). G ++ u) (sym (append_assoc B (End ∷ []) C)) ∙ sym (append_assoc G (B ++ (End ∷ [])) C)) ∙ sym (append_assoc A K C) in
    let k : length (A ++ K) ≡ length A + suc (suc (length G + (length B + 1))) = length-append A K ∙ ap (λ (m : ℕ). length A + suc (suc m)) (length-append G (B ++ (End ∷ [])) ∙ ap (λ (m : ℕ). length G + m) (length-append B (End ∷ []))) in
    let e : begins_clause (get_or W j Bad) ≡ true = ap begins_clause (seg_word (A ∷ []) (Inner Clause) _ W j w (omega arith)) in
    let m : hides W j ≡ n = ap number_in (seg_word (A ∷ (Inner Clause ∷ []) ∷ []) (Num n) _ W (j + 1) w (omega arith)) in
    let p = seg_ends (stmt_words num g) (stmt_tree num g) (A ∷ CN n ∷ []) _ W (j + 2) w (omega arith) in
    let q = seg_ends (stmt_words num b) (stmt_tree num b) (A ∷ CN n ∷ G ∷ []) _ W (behind W (j + 2)) w1 (omega (arith, p)) in
    let z = closes_tree (λ r. Inner Clause ∷ Num n ∷ stmt_words num g (stmt_words num b (End ∷ r))) (clause_tree num n g b) (A ∷ []) (A ∷ CN n ∷ G ∷ B ∷ []) C W j w w2 (omega arith) in
    let ih = clauses_guarded cs num f (next + n) (A ++ K) x W (behind W j) w3 (omega (arith, z, k)) (omega (arith, c)) in (
      ap (λ (t : Bool). bool.cond t (guarded_one W j (behind W (j + 2)) (behind W (behind W (j + 2))) (frees next (hides W j)) ++ guarded_from f W (behind W j) (next + hides W j)) []) e
          ∙ ap (λ (t : ℕ). guarded_one W j (behind W (j + 2)) (behind W (behind W (j + 2))) (frees next t) ++ guarded_from f W (behind W j) (next + t)) m
          ∙ ap (λ (u : List Word). guarded_one W j (behind W (j + 2)) (behind W (behind W (j + 2))) (frees next n) ++ u) ih.0
          ∙ one_parts num next n g b A (E ++ C) W j (behind W (j + 2)) (behind W (behind W (j + 2))) w2 h p q (nodes_words num (guarded_goals cs (next + n)) []),
      ap (λ (t : Bool). bool.cond t (hides W j + hidden_from f W (behind W j)) 0) e ∙ ap₂ (λ (s t : ℕ). s + t) m ih.1,
    )

kind_asked : (op : Op) → box_of (Inner (ask op)) ≡ box_kind op
unfolding ask box_kind
kind_asked wait = refl
kind_asked cond = refl
kind_asked commit = refl

module _ (num : Name → ℕ) {χ : Ctx member} {op : Op} {cs : Clauses} {Z W : List Word} {i : ℕ} where
  both : (next : ℕ) → Stands num χ (stmt (choice op cs)) Z W i → (guarded_from (length W) W (i + 2) next ≡ nodes_words num (guarded_goals cs next) []) × (hidden_from (length W) W (i + 2) ≡ hidden_in cs)
  unfolding node_words stmt_words
  both next s =
      let P = before num χ [] in
      let M = Place Member ∷ Inner (ask op) ∷ [] in
      let Q = after num χ Z in
      let h = s.begins in
      let w : W ≡ cat (P ∷ M ∷ []) (clauses_words num cs (End ∷ End ∷ Q)) = stands_seg num s in
      let n = ap length w ∙ size_cat (P ∷ M ∷ []) (clauses_words num cs (End ∷ End ∷ Q)) in
      clauses_guarded cs num (length W) next (P ++ M) (End ∷ Q) W (i + 2) (w ∙ sym (append_assoc P M _)) (omega (arith, h, length-append P M)) (omega (arith, n, clauses_few num cs (End ∷ End ∷ Q)))

  pub rule_5_words : (next : ℕ) → Stands num χ (stmt (choice op cs)) Z W i → effect_5 W i next ≡ node_words num (plug χ (choice_box op (guarded_goals cs next))) Z
  unfolding effect_5 node_words stmt_words
  rule_5_words next s =
      let P = before num χ [] in
      let O = Inner (ask op) ∷ [] in
      let M = Place Member ∷ [] in
      let Q = after num χ Z in
      let C = clauses_words num cs [] in
      let gs = guarded_goals cs next in
      let h = s.begins in
      let w0 : W ≡ cat (P ∷ M ∷ []) (stmt_words num (choice op cs) (End ∷ Q)) = stands_seg num s in
      let w : W ≡ cat (P ∷ M ∷ O ∷ C ∷ E ∷ []) (End ∷ Q) = w0 ∙ ap (cat (P ∷ M ∷ O ∷ [])) ((clauses_balanced num cs).front (End ∷ End ∷ Q)) in
      let z = closes_tree (stmt_words num (choice op cs)) (stmt_tree num (choice op cs)) (P ∷ M ∷ []) (P ∷ M ∷ O ∷ C ∷ []) (End ∷ Q) W (i + 1) w0 w (omega (arith, h)) in
      seg_take_on (P ∷ []) _ W i w (omega (arith, h)) _
      ∙ ap (cat (P ∷ [])) (ap₂ (λ (v : Word) (u : List Word). Place (box_of v) ∷ (guarded_from (length W) W (i + 2) next ++ u)) (seg_word (P ∷ M ∷ []) (Inner (ask op)) _ W (i + 1) w (omega (arith, h))) (seg_drop (P ∷ M ∷ O ∷ C ∷ E ∷ []) (End ∷ Q) W (behind W (i + 1)) w (omega (arith, z)))
      ∙ ap₂ (λ (k : _) (u : List Word). Place k ∷ (u ++ (End ∷ Q))) (kind_asked op) (both next s).0)
      ∙ sym (plug_seg num χ (choice_box op gs) Z ∙ ap (cat (P ∷ (Place (box_kind op) ∷ []) ∷ [])) (nodes_seg num gs (End ∷ Q)))

  pub fresh_5_words : Stands num χ (stmt (choice op cs)) Z W i → fresh_5 W i ≡ hidden_in cs
  unfolding fresh_5
  fresh_5_words s = (both 0 s).1
