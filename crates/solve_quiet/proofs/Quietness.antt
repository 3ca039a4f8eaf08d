-- What the quiet test finds is the definition. Assumes nothing.
use mathlib.Core.Path.{◌≡◌, refl, ap, sym, ◌∙◌, subst}
use mathlib.Core.Logic.{◌↔◌, ◌⊎◌, inl, inr, ite, if_pos, if_neg}
use mathlib.Core.Bool.{true}
use mathlib.Core.List.{List, [], ◌∷◌, ◌++◌}
use Prim.Native.Nat.{ℕ, zero, suc, ◌+◌, ◌-◌, ◌*◌, ◌/◌, ◌%◌, ◌≤◌, ◌<◌}
use native.Mathlib.Omega.{arith}
use native.Mathlib.Decide.{ℕ_discrete}
use lib.ListN.{length, get_or}
use Rattle.constraint.specs.Tree.{Label, Tree, node, fnil}
use Rattle.constraint.specs.Constraint.{Asg, Store, Sats, Satisfiable, Quiet, In}
use Rattle.constraint.specs.Solve.{Bnd, free, fun}
use Rattle.constraint.proofs.Form.{Form, at, Solves, Ranked, Of}
use Rattle.constraint.proofs.Entail.{Par, quiet_if, reach, quiet_keeps, quiet_apart}
use Rattle.mem_words.specs.declared.Word.{Word}
use Rattle.solve_cells.specs.Cells.{rep, par, Up}
use Rattle.solve_cells.specs.Trail.{rewind, rewind_at, CanUndo}
use Rattle.solve_classes.specs.Means.{bound, Fits}
use Rattle.solve_classes.specs.Weights.{weights_in}
use Rattle.solve_cells.proofs.Climb.{rep_root, next_root, root_rep}
use Rattle.solve_classes.proofs.Tables.{form_of, fits_form, bound_yes, bound_no}
use Rattle.solve_classes.proofs.Linking.{root_cell}
use Rattle.solve_fields.specs.Read.{term_at, tab_of}
use Rattle.solve_tells.specs.Tells.{State, Means, Left}
use Rattle.solve_explores.specs.Search.{Acyclic, Cyclic}
use Rattle.solve_explores.specs.Since.{TestedSince}
use Rattle.solve_quiet.specs.Owners.{Cand, Outer, Alone, Owning, Loud, Marks, Looking}
use Rattle.solve_quiet.specs.Solver.{Marking, Before, Calmed, Kept, Tight, Crowded}
use Rattle.solve_tells.specs.Draws.{Drawn}
use Rattle.solve_tells.specs.Steps.{Filled}
use Rattle.solve_tells.proofs.Trails.{vars_of_lem}
use Rattle.solve_tells.proofs.Rooms.{within_drawn, old_drawn}
use Rattle.solve_quiet.specs.declared.Calm.TheVariants.{Silent, Loudly, NoSpace}
use Rattle.std.specs.Prelude.{Result, Ok, Err}
use Rattle.solve_quiet.specs.declared.Unowned.{Unowned}
use Rattle.solve_quiet.specs.declared.Unowned.TheVariants.{Joint, NoPlace}
use Rattle.solve_quiet.proofs.Verdict.{ranked, form_of_lem}
use Rattle.solve_quiet.proofs.Owning.{four, marks_of}

-- an application is no unbound class
term_bound : (lab : ℕ → Label) (W : List Word) (P : List ℕ) (k : ℕ) → tab_of lab W P k ≡ free → ⊥
unfolding tab_of term_at
term_bound lab W P k e = let z : ◌≡◌ {A = ℕ} 0 1 = cc e in omega arith

cell_bound : (lab : ℕ → Label) (W : List Word) (P : List ℕ) (c : ℕ) → bound (tab_of lab W P) c ≡ free → c % 4 ≡ 2 → ⊥
cell_bound lab W P c e t = term_bound lab W P (c / 256) (sym (bound_yes (tab_of lab W P) c t) ∙ e)

module _ (W : List Word) (L P T X C : List ℕ) (n a n₀ : ℕ) (P₀ T₀ X₀ C₀ : List ℕ) (a₀ : ℕ) (lab : ℕ → Label) (vs : List ℕ) (env σ : Store) (U : Up T) (B : Before W P T X C n a lab vs env P₀ T₀ X₀ C₀ n₀ a₀) (mk : Marking L vs) (m : Means lab W P T (env ++ σ)) where
  U₀ : Up T₀
  U₀ = B.state.sound.up

  E : Form
  E = form_of (tab_of lab W P₀) T₀ U₀

  F : Form
  F = form_of (tab_of lab W P) T U

  is_e : Of E env
  unfolding E
  is_e = form_of_lem lab W P₀ T₀ U₀ env B.means

  is_f : Of F (env ++ σ)
  unfolding F
  is_f = form_of_lem lab W P T U (env ++ σ) m

  RE : Ranked E
  unfolding E
  RE = ranked lab W P₀ T₀ U₀ B.acyclic

  outer_of : (x : ℕ) → ¬ In x vs → Outer L x
  outer_of x k = go (ℕ_discrete (get_or L x 0) 0)
    where
      go : Dec (get_or L x 0 ≡ 0) → Outer L x
      go (yes e) = e
      go (no d) = absurd (k ((mk x).1 d))

  -- a parameter was unbound
  open_of : (x : ℕ) → Par E vs x → get_or T₀ x 0 % 4 ≡ 0
  unfolding E form_of
  open_of x p = go (four (get_or T₀ x 0))
    where
      root : par T₀ x ≡ x
      root = subst (λ (r : ℕ). par T₀ r ≡ r) p.1 (root_rep T₀ U₀ x)

      unb : bound (tab_of lab W P₀) (get_or T₀ x 0) ≡ free
      unb = ap (λ (r : ℕ). bound (tab_of lab W P₀) (get_or T₀ r 0)) (sym p.1) ∙ p.0

      go : (get_or T₀ x 0 % 4 ≡ 0) ⊎ ((get_or T₀ x 0 % 4 ≡ 1) ⊎ ((get_or T₀ x 0 % 4 ≡ 2) ⊎ (get_or T₀ x 0 % 4 ≡ 3))) → get_or T₀ x 0 % 4 ≡ 0
      go (inl e) = e
      go (inr (inl e)) = absurd (root_cell T₀ U₀ x root e)
      go (inr (inr (inl e))) = absurd (cell_bound lab W P₀ (get_or T₀ x 0) unb e)
      go (inr (inr (inr e))) = absurd (B.state.sound.plain x e)

  -- what was unbound and is no local is a parameter
  par_open : (x : ℕ) → get_or T₀ x 0 % 4 ≡ 0 → Outer L x → Par E vs x
  unfolding E form_of
  par_open x e o =
      let root : rep T₀ x ≡ x = rep_root T₀ x (next_root (get_or T₀ x 0) x (λ z. omega arith)) in
      (ap (λ (r : ℕ). bound (tab_of lab W P₀) (get_or T₀ r 0)) root ∙ bound_no (tab_of lab W P₀) (get_or T₀ x 0) (λ z. omega arith), root, λ i. (mk x).0 i o)

  par_cand : (y : ℕ) → Cand T X C n₀ n y → Outer L y → Par E vs y
  unfolding Cand
  par_cand y (inl w) o = par_open y (subst (λ (z : ℕ). get_or T₀ z 0 % 4 ≡ 0) w.3 (B.left.step.grown.opens w.0 w.1 w.2 w.4)) o
  par_cand y (inr e) o = par_open y ((B.left.step.grown.tags y).unbound e) o

  -- a cycle: no solution, so not quiet
  pub cyclic_loud : Cyclic W P T → Quiet vs env σ → ⊥
  unfolding F
  cyclic_loud c q =
      let w = reach vs env σ E F is_e is_f B.fresh RE q (λ x. node [] fnil) in
      c lab w.0 ((fits_form (tab_of lab W P) T U w.0).1 w.1)

  pub found_loud : Loud L T X C n₀ n → Quiet vs env σ → ⊥
  unfolding F form_of
  found_loud l q = go l.why
    where
      p : Par E vs l.var
      p = par_cand l.var l.cand l.outer

      go : (get_or T (rep T l.var) 0 % 4 ≡ 2) ⊎ ((y : ℕ) × Cand T X C n₀ n y × Outer L y × (l.var ≡ y → ⊥) × (rep T l.var ≡ rep T y)) → ⊥
      go (inl e) = cell_bound lab W P (get_or T (rep T l.var) 0) (quiet_keeps vs env σ E F is_e is_f B.fresh RE q l.var p) e
      go (inr w) = w.3 (quiet_apart vs env σ E F is_e is_f B.fresh RE q l.var w.0 p (par_cand w.0 w.1 w.2) w.4)

  -- every parameter is alone: quiet
  module _ (A : Acyclic W P T) (O X' C' : List ℕ) (k : ℕ) (w : Owning L T X C n₀ n O X' C' n k) where
    alone : (x : ℕ) → Par E vs x → Alone T O x
    unfolding Alone
    alone x p = go (rewind_at (n - n₀) n₀ T X C x)
      where
        o : get_or T₀ x 0 % 4 ≡ 0
        o = open_of x p

        back : get_or (rewind (n - n₀) n₀ T X C) x 0 ≡ get_or T₀ x 0
        back = ap (λ (l : List ℕ). get_or l x 0) B.left.step.grown.back

        go : (get_or (rewind (n - n₀) n₀ T X C) x 0 ≡ get_or T x 0) ⊎ ((t : ℕ) × (n₀ ≤ t) × (t < n₀ + (n - n₀)) × (get_or X t 0 ≡ x) × (get_or C t 0 ≡ get_or (rewind (n - n₀) n₀ T X C) x 0) × (get_or X t 0 < length T)) → Alone T O x
        go (inl e) =
            let c : get_or T x 0 % 4 ≡ 0 = ap (λ (z : ℕ). z % 4) (sym e ∙ back) ∙ o in
            let r : rep T x ≡ x = rep_root T x (next_root (get_or T x 0) x (λ z. omega arith)) in
            (ap (λ (z : ℕ). get_or T z 0 % 4) r ∙ c, inl r)
        go (inr u) = subst (Alone T O) u.3 (w.done u.0 u.1 (omega (arith, u.2, B.left.step.grown.le)) (ap (λ (z : ℕ). z % 4) (u.4 ∙ back) ∙ o) (ap (λ (z : ℕ). get_or L z 0) u.3 ∙ outer_of x p.2))

    own : ℕ → ℕ
    own z = ite (ℕ_discrete (get_or O z 0 % 4) 3) (get_or O z 0 / 256) z

    owned : (x : ℕ) → Par E vs x → own (rep T x) ≡ x
    unfolding Alone own
    owned x p = go (alone x p).1
      where
        go : (rep T x ≡ x) ⊎ ((get_or O (rep T x) 0 % 4 ≡ 3) × (get_or O (rep T x) 0 / 256 ≡ x)) → own (rep T x) ≡ x
        go (inl e) = if_neg (ℕ_discrete (get_or O (rep T x) 0 % 4) 3) (λ z. w.local (rep T x) z (ap (λ (y : ℕ). get_or L y 0) e ∙ outer_of x p.2)) _ _ ∙ e
        go (inr q) = if_pos (ℕ_discrete (get_or O (rep T x) 0 % 4) 3) q.0 _ _ ∙ q.1

    pub silent : Quiet vs env σ
    unfolding F form_of Alone
    silent = quiet_if vs env σ E F is_e is_f B.fresh RE (ranked lab W P T U A) (record { keeps = λ x p. bound_no (tab_of lab W P) (get_or T (rep T x) 0) (λ z. omega (arith, (alone x p).0)); owner = own; owned = owned })

-- the answers of the test
pub calmed_cyclic : (W : List Word) (L P T X C : List ℕ) (n a n₀ : ℕ) → Up T → Cyclic W P T → Calmed W L P T X C n a n₀ Loudly
calmed_cyclic W L P T X C n a n₀ U c = record { right = λ P₀ T₀ X₀ C₀ a₀ lab vs env σ B mk m. cyclic_loud W L P T X C n a n₀ P₀ T₀ X₀ C₀ a₀ lab vs env σ U B mk m c }

pub calmed_joint : (W : List Word) (L P T X C : List ℕ) (n a n₀ : ℕ) → Up T → Loud L T X C n₀ n → Calmed W L P T X C n a n₀ Loudly
calmed_joint W L P T X C n a n₀ U l = record { right = λ P₀ T₀ X₀ C₀ a₀ lab vs env σ B mk m. found_loud W L P T X C n a n₀ P₀ T₀ X₀ C₀ a₀ lab vs env σ U B mk m l }

pub calmed_apart : (W : List Word) (L P T X C : List ℕ) (n a n₀ : ℕ) → Up T → TestedSince W P T X C n a n₀ true → (O X' C' : List ℕ) (k : ℕ) → Owning L T X C n₀ n O X' C' n k → Calmed W L P T X C n a n₀ Silent
calmed_apart W L P T X C n a n₀ U A O X' C' k w = record { right = λ P₀ T₀ X₀ C₀ a₀ lab vs env σ B mk m. silent W L P T X C n a n₀ P₀ T₀ X₀ C₀ a₀ lab vs env σ U B mk m (A P₀ T₀ X₀ C₀ a₀ B.left B.state B.acyclic) O X' C' k w }

pub calmed_none : (W : List Word) (L P T X C : List ℕ) (n a n₀ : ℕ) (O X' C' : List ℕ) (k : ℕ) → State W P T X C n a → Marks T X C n O X' C' k → Filled X C k → Calmed W L P T X C n a n₀ NoSpace
calmed_none W L P T X C n a n₀ O X' C' k s w f vs o t = go f
  where
    most : k ≤ 3 * length vs
    most = omega (arith, s.cost, w.cost, weights_in vs O (w.within vs o t).cells)

    go : Filled X C k → Tight vs X C
    go (inl h) = inl (omega (arith, most))
    go (inr h) = inr (omega (arith, most))

-- so there is an answer where the trail has room for the different variables of the words and 2
pub crowded_never : (W : List Word) (P T X C : List ℕ) (n a : ℕ) (vs : List ℕ) → State W P T X C n a → Crowded T X C n → Drawn W vs → 3 * length vs + 2 ≤ length X → 3 * length vs + 2 ≤ length C → ⊥
crowded_never W P T X C n a vs s k d x y = go (k vs (old_drawn W vs X 0 n d s.used) (within_drawn W vs T d s.sound.within))
  where
    go : Tight vs X C → ⊥
    go (inl h) = omega arith
    go (inr h) = omega arith

-- owners are taken back
pub kept_none : (T X C : List ℕ) (n : ℕ) → Kept T X C n T X C
kept_none T X C n = record { cells = refl; size_x = refl; size_c = refl; old_x = λ i l. refl; old_c = λ i l. refl }

pub kept_back : (T X C : List ℕ) (n : ℕ) (O X' C' : List ℕ) (k : ℕ) (T'' : List ℕ) → Marks T X C n O X' C' k → T'' ≡ rewind (k - n) n O X' C' → Kept T X C n T'' X' C'
kept_back T X C n O X' C' k T'' s e = record { cells = e ∙ s.grown.back; size_x = s.grown.size_x; size_c = s.grown.size_c; old_x = s.grown.old_x; old_c = s.grown.old_c }

pub can_undo : (T X C : List ℕ) (n : ℕ) (O X' C' : List ℕ) (k : ℕ) → Marks T X C n O X' C' k → CanUndo O X' C' k n
can_undo T X C n O X' C' k s = record { le = s.grown.le; room_x = omega (arith, s.fit_x, s.grown.size_x); room_c = omega (arith, s.fit_c, s.grown.size_c); vars = λ i l h. omega (arith, vars_of_lem X' n k (length T) s.vars i l h, s.grown.size_t) }

module _ (L T X C : List ℕ) (from n : ℕ) (O X' C' : List ℕ) (i k : ℕ) (o : Result ℕ Unowned) (w : Looking L T X C from n O X' C' i o) where
  pub marks_apart : o ≡ Ok k → Marks T X C n O X' C' k
  marks_apart e = marks_of (subst (Looking L T X C from n O X' C' i) e w)

  pub marks_joint : o ≡ Err (Joint k) → Marks T X C n O X' C' k
  marks_joint e = (subst (Looking L T X C from n O X' C' i) e w).0

  pub loud_joint : o ≡ Err (Joint k) → Loud L T X C from n
  loud_joint e = (subst (Looking L T X C from n O X' C' i) e w).1

  pub marks_full : o ≡ Err (NoPlace k) → Marks T X C n O X' C' k
  marks_full e = (subst (Looking L T X C from n O X' C' i) e w).0

  pub full_place : o ≡ Err (NoPlace k) → Filled X C k
  full_place e = (subst (Looking L T X C from n O X' C' i) e w).1
