-- Tables at a mark: what stays true of them, and of the marks below. Assumes nothing.
use mathlib.Core.Path.{◌≡◌, refl, ap, sym, ◌∙◌, subst}
use mathlib.Core.List.{List, [], ◌∷◌, ◌++◌, append_assoc, append-nil}
use Prim.Native.Nat.{ℕ, ◌+◌, ◌-◌, ◌≤◌, ◌<◌}
use native.Mathlib.Omega.{arith}
use lib.ListN.{length, get_or}
use Rattle.constraint.specs.Tree.{Label}
use Rattle.constraint.specs.Constraint.{Store}
use Rattle.mem_words.specs.declared.Word.{Word}
use Rattle.solve_cells.specs.Trail.{rewind, rewind_none}
use Rattle.solve_classes.specs.Means.{OldVars, OldIn}
use Rattle.solve_quiet.specs.Solver.{Kept}
use Rattle.solve_tells.specs.Reach.{vars_of}
use Rattle.solve_fields.specs.Read.{label_at, args_at}
use Rattle.solve_tells.specs.Tells.{State, Means, Left}
use Rattle.solve_tells.proofs.Telling.{left_then}
use Rattle.work_grows.specs.Closed.{Closed}
use Rattle.work_grows.proofs.Growing.{left_more}
use Rattle.work_grows.proofs.Returning.{left_mark, state_mark, means_mark}
use Rattle.work_marks.specs.Marks.{Mark, trail_at, apps_at, used_at, all_told, Here, Under, Stand}

-- what was told up to a mark and since
pub all_since : (lab : ℕ → Label) (news ms : List Mark) → all_told lab (news ++ ms) ≡ all_told lab ms ++ all_told lab news
all_since lab [] ms = sym (append-nil (all_told lab ms))
all_since lab (m ∷ news) ms = ap (λ (s : Store). s ++ m.store lab) (all_since lab news ms) ∙ append_assoc (all_told lab ms) (all_told lab news) (m.store lab)

pub stand_here : (ms : List Mark) (W : List Word) (P T X C : List ℕ) → Stand ms W P T X C → Here ms W P T X C
stand_here [] W P T X C s = s
stand_here (m ∷ ms) W P T X C s = s.0

closed_same : (W : List Word) (P P' : List ℕ) (a : ℕ) → ((j : ℕ) → j < a → get_or P' j 0 ≡ get_or P j 0) → Closed W P a → Closed W P' a
closed_same W P P' a o c = record {
  label = λ R j h. subst (λ (p : ℕ). label_at (W ++ R) p ≡ label_at W p) (sym (o j h)) (c.label R j h);
  args = λ R j h. subst (λ (p : ℕ). args_at (W ++ R) p ≡ args_at W p) (sym (o j h)) (c.args R j h);
}

-- tables with the cells of the mark, whatever came behind its trail and its applications
module _ (ms : List Mark) (W₀ W : List Word) (P₀ T₀ X₀ C₀ P T X C : List ℕ) (n a : ℕ) (l : Left W P₀ T₀ X₀ C₀ (trail_at ms) (apps_at ms) P T X C n a) where
  here_over : Here ms W₀ P₀ T₀ X₀ C₀ → Here ms W₀ P T₀ X C
  here_over h = record {
    state = state_mark W₀ W P₀ T₀ X₀ C₀ (trail_at ms) (apps_at ms) P T X C n a l h.state;
    closed = closed_same W₀ P₀ P (apps_at ms) l.old_p h.closed;
    words = h.words;
    means = λ lab. means_mark W₀ W P₀ T₀ X₀ C₀ (trail_at ms) (apps_at ms) P T X C n a l h.state lab (all_told lab ms) (h.means lab);
  }

pub stand_over : (ms : List Mark) (W₀ W : List Word) (P₀ T₀ X₀ C₀ P T X C : List ℕ) (n a : ℕ) → Left W P₀ T₀ X₀ C₀ (trail_at ms) (apps_at ms) P T X C n a → Stand ms W₀ P₀ T₀ X₀ C₀ → Stand ms W₀ P T₀ X C
stand_over [] W₀ W P₀ T₀ X₀ C₀ P T X C n a l s = here_over [] W₀ W P₀ T₀ X₀ C₀ P T X C n a l s
stand_over (m ∷ ms) W₀ W P₀ T₀ X₀ C₀ P T X C n a l s = (
  here_over (m ∷ ms) W₀ W P₀ T₀ X₀ C₀ P T X C n a l s.0,
  record {
    words = s.1.words;
    more = s.1.more;
    log = s.1.log;
    pos = s.1.pos;
    cells = s.1.cells;
    vars = s.1.vars;
    olds = s.1.olds;
    stood = s.1.stood;
    left = left_then s.1.left (left_mark W₀ W P₀ T₀ X₀ C₀ m.trail m.apps P T X C n a l s.0.state);
  },
)

vars_none : (X : List ℕ) (n z : ℕ) → OldVars X n n z
unfolding OldVars
vars_none X n z t a b = absurd (omega arith)

in_none : (X : List ℕ) (n : ℕ) (vs : List ℕ) → OldIn X n n vs
unfolding OldIn
in_none X n vs t a b = absurd (omega arith)

-- tables with the same cells and trail are a mark of no changes further on
pub kept_left : (W : List Word) (P T X C : List ℕ) (n a : ℕ) (X' C' : List ℕ) → State W P T X C n a → Kept T X C n T X' C' → Left W P T X C n a P T X' C' n a
kept_left W P T X C n a X' C' s k = record {
  step = record {
    grown = record { le = omega arith; size_t = refl; size_x = k.size_x; size_c = k.size_c; back = (let z : n - n ≡ 0 = omega arith in ap (λ (m : ℕ). rewind m n T X' C') z ∙ rewind_none n T X' C'); old_x = k.old_x; old_c = k.old_c; tags = λ x. record { unbound = λ e. e }; opens = λ i l h. absurd (omega arith) };
    up = s.sound.up;
    vars = vars_none X' n (length T);
    plain = λ x e. e;
    fit_x = s.sound.fit_x;
    fit_c = s.sound.fit_c;
    cost = omega arith;
    within = s.sound.within;
    used = in_none X' n (vars_of W);
  };
  more = omega arith;
  size_p = refl;
  old_p = λ i l. refl;
}

pub kept_same : (T X C : List ℕ) (n : ℕ) → Kept T X C n T X C
kept_same T X C n = record { cells = refl; size_x = refl; size_c = refl; old_x = λ i l. refl; old_c = λ i l. refl }

-- the tables of the latest mark are had back from themselves
pub under_here : (ms : List Mark) (W : List Word) (P T X C : List ℕ) → Stand ms W P T X C → Under (Stand ms) ms W P T X C (trail_at ms) (apps_at ms)
under_here ms W P T X C s = record {
  words = W;
  more = [];
  log = sym (append-nil W);
  pos = P;
  cells = T;
  vars = X;
  olds = C;
  stood = s;
  left = kept_left W P T X C (trail_at ms) (apps_at ms) X C (stand_here ms W P T X C s).state (kept_same T X C (trail_at ms));
}

-- and where those of a mark can be had back, those of every mark below can
pub under_then : (news ms : List Mark) (W : List Word) (P T X C : List ℕ) (n a : ℕ) → Under (Stand (news ++ ms)) (news ++ ms) W P T X C n a → Under (Stand ms) ms W P T X C n a
under_then [] ms W P T X C n a u = u
under_then (m ∷ news) ms W P T X C n a u =
    let v = u.stood.1 in
    under_then news ms W P T X C n a (record {
      words = v.words;
      more = v.more ++ u.more;
      log = u.log ∙ ap (λ (w : List Word). w ++ u.more) v.log ∙ append_assoc v.words v.more u.more;
      pos = v.pos;
      cells = v.cells;
      vars = v.vars;
      olds = v.olds;
      stood = v.stood;
      left = left_then (subst (λ (w : List Word). Left w v.pos v.cells v.vars v.olds (trail_at (news ++ ms)) (apps_at (news ++ ms)) u.pos u.cells u.vars u.olds m.trail m.apps) (sym u.log) (left_more u.words u.more v.pos v.cells v.vars v.olds (trail_at (news ++ ms)) (apps_at (news ++ ms)) u.pos u.cells u.vars u.olds m.trail m.apps v.left)) u.left;
    })

-- the same of equal tables
pub stand_at : (ms : List Mark) {W W' : List Word} {P P' T T' X X' C C' : List ℕ} → W ≡ W' → P ≡ P' → T ≡ T' → X ≡ X' → C ≡ C' → Stand ms W P T X C → Stand ms W' P' T' X' C'
stand_at ms {W} {W'} {P} {P'} {T} {T'} {X} {X'} {C} {C'} ew ep et ex ec s =
    subst (λ (w : List Word). Stand ms w P' T' X' C') ew (subst (λ (p : List ℕ). Stand ms W p T' X' C') ep (subst (λ (t : List ℕ). Stand ms W P t X' C') et (subst (λ (x : List ℕ). Stand ms W P T x C') ex (subst (Stand ms W P T X) ec s))))
