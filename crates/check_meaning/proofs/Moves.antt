-- A word that is not refused: what follows it, whatever that is, makes the rest that it was read in. By classes of words.
use mathlib.Core.Path.{◌≡◌, ap}
use mathlib.Core.Logic.{◌↔◌}
use mathlib.Core.List.{List, ◌∷◌}
use mathlib.Core.Bool.{Bool, true, false, ◌&&◌, ◌||◌}
use Prim.Native.Nat.{ℕ, ◌-◌}
use native.Mathlib.Omega.{arith}
use lib.Dec.{T, leb, ltb, leb→le, le→leb}
use Rattle.constraint.specs.Constraint.{ctrue, cfail, ceq, capp}
use Rattle.constraint.proofs.Lists.{and_T}
use Rattle.akl.specs.Base.{Name, if, all, size, is_some}
use Rattle.akl.specs.Limits.{most_arguments}
use Rattle.akl.specs.Syntax.{Var, number, level, wait, cond, commit, Op, Stmt, atom, call, comp, hide, choice, Clauses, Program, defined}
use Rattle.akl.specs.WellFormed.{spelled_name, spelled_digits, variable_fits, statement_fits, some_clause, depth}
use Rattle.mem_words.specs.declared.Word.{Word}
use Rattle.mem_words.specs.declared.Word.TheVariants.{End, Free, Level, Num, Place, Inner, Bad}
use Rattle.mem_sorts.specs.declared.Kind.{Kind}
use Rattle.mem_sorts.specs.declared.Sort.{Sort}
use Rattle.mem_sorts.specs.declared.Sort.TheVariants.{Locals, Store, True, Fail, Eq, App, Call, Comp, Hide, Clause, AskWait, AskCond, AskCommit}
use Rattle.layout.specs.Layout.{var_word, ask, con_words, stmt_words}
use Rattle.check_shapes.specs.declared.Frame.{Frame}
use Rattle.check_shapes.specs.declared.Frame.TheVariants.{Close, Var2, AppVar, CallNum, Comp2, HideNum, Clauses1}
use Rattle.check_shapes.specs.declared.Move.{Move}
use Rattle.check_shapes.specs.declared.Move.TheVariants.{Stop, Stay, Push, Pop}
use Rattle.check_shapes.specs.Machine.{is_end, is_var, is_free, on_num, on_inner, on_place, deeper, begun, begun_left}
use Rattle.check_meaning.proofs.Rests.{Fine, LeftFine, Rest}

pub and3 : (a b c : Bool) → T (a && b && c) ↔ (T a × T b × T c)
and3 true b c = (λ h. let k = (and_T b c).0 h in (tt, k.0, k.1), λ h. (and_T b c).1 (h.1, h.2))
and3 false b c = (λ h. absurd h, λ h. absurd h.0)

pub and4 : (a b c d : Bool) → T (a && b && c && d) ↔ (T a × T b × T c × T d)
and4 true b c d = (λ h. let k = (and3 b c d).0 h in (tt, k.0, k.1, k.2), λ h. (and3 b c d).1 (h.1, h.2, h.3))
and4 false b c d = (λ h. absurd h, λ h. absurd h.0)

module _ (num : Name → ℕ) (spell : ℕ → Name) (P : Program) (free : Bool) where
  abbrev pub Local : Frame → Word → Move → Type 0
  Local x w Stop = Unit {0}
  Local x w (Stay y) = (l r : List Word) → Rest num spell P free y l r → Rest num spell P free x (w ∷ l) r
  Local x w (Push y z) = (l q r : List Word) → Rest num spell P free y l q → Rest num spell P free z q r → Rest num spell P free x (w ∷ l) r
  Local x w Pop = (l : List Word) → Rest num spell P free x (w ∷ l) l

  pub only_if : (x : Frame) (w : Word) (b : Bool) (m : Move) → (T b → Local x w m) → Local x w (if b m Stop)
  only_if x w true m h = h tt
  only_if x w false m h = tt

  pub at_end : (x : Frame) (w : Word) (e m : Move) → Local x End e → Local x w m → Local x w (if (is_end w) e m)
  at_end x End e m h g = h
  at_end x (Free v) e m h g = g
  at_end x (Level v) e m h g = g
  at_end x (Num v) e m h g = g
  at_end x (Place k) e m h g = g
  at_end x (Inner s) e m h g = g
  at_end x Bad e m h g = g

  -- b is what else must be true
  pub at_var : (x : Frame) (n : ℕ) (w : Word) (b : Bool) (m : Move) → ((v : Var) → T b → T (variable_fits (λ x. free) n v) → Local x (var_word v) m) → Local x w (if (is_var free n w && b) m Stop)
  unfolding var_word
  at_var x n End b m h = tt
  at_var x n (Free v) b m h = only_if x (Free v) (free && b) m (λ t. let k = (and_T free b).0 t in h (number v) k.1 k.0)
  at_var x n (Level v) b m h = only_if x (Level v) (ltb v n && b) m (λ t. let k = (and_T (ltb v n) b).0 t in h (level v) k.1 k.0)
  at_var x n (Num v) b m h = tt
  at_var x n (Place k) b m h = tt
  at_var x n (Inner s) b m h = tt
  at_var x n Bad b m h = tt

  -- nothing else asked
  pub at_any : (x : Frame) (n : ℕ) (w : Word) (m : Move) → ((v : Var) → T (variable_fits (λ x. free) n v) → Local x (var_word v) m) → Local x w (if (is_var free n w) m Stop)
  unfolding var_word
  at_any x n End m h = tt
  at_any x n (Free v) m h = only_if x (Free v) free m (λ t. h (number v) t)
  at_any x n (Level v) m h = only_if x (Level v) (ltb v n) m (λ t. h (level v) t)
  at_any x n (Num v) m h = tt
  at_any x n (Place k) m h = tt
  at_any x n (Inner s) m h = tt
  at_any x n Bad m h = tt

  pub at_free : (x : Frame) (w : Word) (m : Move) → ((v : ℕ) → Local x (Free v) m) → Local x w (if (is_free w) m Stop)
  at_free x End m h = tt
  at_free x (Free v) m h = h v
  at_free x (Level v) m h = tt
  at_free x (Num v) m h = tt
  at_free x (Place k) m h = tt
  at_free x (Inner s) m h = tt
  at_free x Bad m h = tt

  pub at_num : (x : Frame) (w : Word) (m : ℕ → Move) → ((i : ℕ) → Local x (Num i) (m i)) → Local x w (on_num w m)
  at_num x End m h = tt
  at_num x (Free v) m h = tt
  at_num x (Level v) m h = tt
  at_num x (Num v) m h = h v
  at_num x (Place k) m h = tt
  at_num x (Inner s) m h = tt
  at_num x Bad m h = tt

  pub at_inner : (x : Frame) (w : Word) (m : Sort → Move) → ((s : Sort) → Local x (Inner s) (m s)) → Local x w (on_inner w m)
  at_inner x End m h = tt
  at_inner x (Free v) m h = tt
  at_inner x (Level v) m h = tt
  at_inner x (Num v) m h = tt
  at_inner x (Place k) m h = tt
  at_inner x (Inner s) m h = h s
  at_inner x Bad m h = tt

  pub at_place : (x : Frame) (w : Word) (m : Kind → Move) → ((k : Kind) → Local x (Place k) (m k)) → Local x w (on_place w m)
  at_place x End m h = tt
  at_place x (Free v) m h = tt
  at_place x (Level v) m h = tt
  at_place x (Num v) m h = tt
  at_place x (Place k) m h = h k
  at_place x (Inner s) m h = tt
  at_place x Bad m h = tt

  -- ---------------------------------------------------------------------------------------------
  -- A statement that begins, z being left behind it: Q n d is what is known of the statement.

  abbrev Begins : (Stmt → Type 0) → Frame → Frame → Sort → Type 0
  Begins Q x z s = (l q r : List Word) (a : Stmt) → Inner s ∷ l ≡ stmt_words num a q → Q a → Rest num spell P free z q r → Rest num spell P free x (Inner s ∷ l) r

  true_begins : (Q : Stmt → Type 0) (x z : Frame) → Q (atom ctrue) → Begins Q x z True → Local x (Inner True) (Push Close z)
  unfolding stmt_words con_words
  true_begins Q x z k H l q r e g = H l q r (atom ctrue) (ap (λ (u : List Word). Inner True ∷ u) e) k g

  fail_begins : (Q : Stmt → Type 0) (x z : Frame) → Q (atom cfail) → Begins Q x z Fail → Local x (Inner Fail) (Push Close z)
  unfolding stmt_words con_words
  fail_begins Q x z k H l q r e g = H l q r (atom cfail) (ap (λ (u : List Word). Inner Fail ∷ u) e) k g

  eq_begins : (Q : Stmt → Type 0) (x z : Frame) (n d : ℕ) → ((u v : Var) → Fine num spell P free n d (atom (ceq u v)) → Q (atom (ceq u v))) → Begins Q x z Eq → Local x (Inner Eq) (Push (Var2 n) z)
  unfolding stmt_words con_words statement_fits depth
  eq_begins Q x z n d k H l q r e g =
      H l q r (atom (ceq e.0 e.1)) (ap (λ (u : List Word). Inner Eq ∷ u) e.2) (k e.0 e.1 ((and_T (variable_fits (λ x. free) n e.0) (variable_fits (λ x. free) n e.1)).1 (e.3, e.4), omega arith, tt)) g

  app_begins : (Q : Stmt → Type 0) (x z : Frame) (n d : ℕ) → ((u : Var) (h : Name) (vs : List Var) → Fine num spell P free n d (atom (capp u h vs)) → Q (atom (capp u h vs))) → Begins Q x z App → Local x (Inner App) (Push (AppVar n) z)
  unfolding stmt_words con_words statement_fits depth
  app_begins Q x z n d k H l q r e g =
      H l q r (atom (capp e.0 e.1 e.2)) (ap (λ (u : List Word). Inner App ∷ u) e.3) (k e.0 e.1 e.2 (
        (and4 (variable_fits (λ x. free) n e.0) (all (variable_fits (λ x. free) n) e.2) (leb (size e.2) most_arguments) (spelled_name e.1 || spelled_digits e.1)).1 (e.4, e.5, le→leb (size e.2) most_arguments e.6, e.7),
        omega arith,
        e.8,
      )) g

  call_begins : (Q : Stmt → Type 0) (x z : Frame) (n d : ℕ) → ((p : Name) (vs : List Var) → Fine num spell P free n d (call p vs) → Q (call p vs)) → Begins Q x z Call → Local x (Inner Call) (Push (CallNum n) z)
  unfolding stmt_words statement_fits depth
  call_begins Q x z n d k H l q r e g =
      H l q r (call e.0 e.1) (ap (λ (u : List Word). Inner Call ∷ u) e.2) (k e.0 e.1 (
        (and3 (all (variable_fits (λ x. free) n) e.1) (leb (size e.1) most_arguments) (is_some (defined P e.0 (size e.1)))).1 (e.3, le→leb (size e.1) most_arguments e.4, e.5),
        omega arith,
        e.6,
      )) g

  comp_begins : (Q : Stmt → Type 0) (x z : Frame) (n d : ℕ) → ((a b : Stmt) → Fine num spell P free n d (comp a b) → Q (comp a b)) → Begins Q x z Comp → Local x (Inner Comp) (Push (Comp2 n d) z)
  unfolding stmt_words statement_fits depth
  comp_begins Q x z n d k H l q r e g =
      H l q r (comp e.0 e.1) (ap (λ (u : List Word). Inner Comp ∷ u) e.2) (k e.0 e.1 ((and_T (statement_fits e.0 P (λ x. free) n) _).1 (e.3.0, e.4.0), omega (arith, e.3.1, e.4.1), (e.3.2, e.4.2))) g

  hide_begins : (Q : Stmt → Type 0) (x z : Frame) (n d : ℕ) → ((m : ℕ) (a : Stmt) → Fine num spell P free n d (hide m a) → Q (hide m a)) → Begins Q x z Hide → Local x (Inner Hide) (deeper d (HideNum n (d - 1)) z)
  unfolding stmt_words statement_fits depth
  hide_begins Q x z n d k H =
      only_if x (Inner Hide) (leb 1 d) (Push (HideNum n (d - 1)) z) (λ t l q r e g.
      H l q r (hide e.0 e.1) (ap (λ (u : List Word). Inner Hide ∷ u) e.2) (k e.0 e.1 ((and_T (leb 1 e.0) _).1 (le→leb 1 e.0 e.3, e.4.0), omega (arith, leb→le 1 d t, e.4.1), e.4.2)) g)

  choice_begins : (Q : Stmt → Type 0) (x z : Frame) (n d : ℕ) (op : Op) → ((cs : Clauses) → Fine num spell P free n d (choice op cs) → Q (choice op cs)) → Begins Q x z (ask op) → Local x (Inner (ask op)) (deeper d (Clauses1 n (d - 1)) z)
  unfolding stmt_words statement_fits depth
  choice_begins Q x z n d op k H =
      only_if x (Inner (ask op)) (leb 1 d) (Push (Clauses1 n (d - 1)) z) (λ t l q r e g.
      H l q r (choice op e.0) (ap (λ (u : List Word). Inner (ask op) ∷ u) e.1) (k e.0 ((and_T (some_clause e.0) _).1 (e.3, e.2.0), omega (arith, leb→le 1 d t, e.2.1), e.2.2)) g)

  pub at_begun : (x z : Frame) (n d : ℕ) (s : Sort) → Begins (Fine num spell P free n d) x z s → Local x (Inner s) (begun s n d z)
  unfolding statement_fits depth ask
  at_begun x z n d Locals H = tt
  at_begun x z n d Store H = tt
  at_begun x z n d True H = true_begins (Fine num spell P free n d) x z (tt, omega arith, tt) H
  at_begun x z n d Fail H = fail_begins (Fine num spell P free n d) x z (tt, omega arith, tt) H
  at_begun x z n d Eq H = eq_begins (Fine num spell P free n d) x z n d (λ u v k. k) H
  at_begun x z n d App H = app_begins (Fine num spell P free n d) x z n d (λ u h vs k. k) H
  at_begun x z n d Call H = call_begins (Fine num spell P free n d) x z n d (λ p vs k. k) H
  at_begun x z n d Comp H = comp_begins (Fine num spell P free n d) x z n d (λ a b k. k) H
  at_begun x z n d Hide H = hide_begins (Fine num spell P free n d) x z n d (λ m a k. k) H
  at_begun x z n d Clause H = tt
  at_begun x z n d AskWait H = choice_begins (Fine num spell P free n d) x z n d wait (λ cs k. k) H
  at_begun x z n d AskCond H = choice_begins (Fine num spell P free n d) x z n d cond (λ cs k. k) H
  at_begun x z n d AskCommit H = choice_begins (Fine num spell P free n d) x z n d commit (λ cs k. k) H

  pub at_left : (x z : Frame) (n d : ℕ) (s : Sort) → Begins (LeftFine num spell P free n d) x z s → Local x (Inner s) (begun_left s n d z)
  unfolding statement_fits depth ask
  at_left x z n d Locals H = tt
  at_left x z n d Store H = tt
  at_left x z n d True H = true_begins (LeftFine num spell P free n d) x z (tt, omega arith, tt) H
  at_left x z n d Fail H = fail_begins (LeftFine num spell P free n d) x z (tt, omega arith, tt) H
  at_left x z n d Eq H = eq_begins (LeftFine num spell P free n d) x z n d (λ u v k. k) H
  at_left x z n d App H = app_begins (LeftFine num spell P free n d) x z n d (λ u h vs k. k) H
  at_left x z n d Call H = call_begins (LeftFine num spell P free n d) x z n d (λ p vs k. k) H
  at_left x z n d Comp H = only_if x (Inner Comp) (leb 1 d) (Push (Comp2 n (d - 1)) z) (λ t. comp_begins (LeftFine num spell P free n d) x z n (d - 1) (λ a b k. (k.0, omega (arith, leb→le 1 d t, k.1), k.2)) H)
  at_left x z n d Hide H = hide_begins (LeftFine num spell P free n d) x z n d (λ m a k. k) H
  at_left x z n d Clause H = tt
  at_left x z n d AskWait H = choice_begins (LeftFine num spell P free n d) x z n d wait (λ cs k. k) H
  at_left x z n d AskCond H = choice_begins (LeftFine num spell P free n d) x z n d cond (λ cs k. k) H
  at_left x z n d AskCommit H = choice_begins (LeftFine num spell P free n d) x z n d commit (λ cs k. k) H
