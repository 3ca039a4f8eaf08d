-- A word keeps frames below the bounds, and leaves behind only frames that fit. Assumes nothing.
use Rattle.std.specs.Prelude.{Bool, true, false, ◌&&◌, ℕ, ◌+◌, ◌-◌, T, leb, ltb}
use Rattle.std.proofs.Common.{arith, leb→le, ltb→lt}
use Rattle.constraint.proofs.Lists.{and_T}
use Rattle.akl.specs.Base.{if}
use Rattle.akl.specs.Limits.{most_arguments, most_depth}
use Rattle.mem_words.specs.declared.Word.{Word}
use Rattle.mem_words.specs.declared.Word.TheVariants.{End, Free, Level, Num, Place, Inner, Bad}
use Rattle.mem_sorts.specs.declared.Kind.{Kind}
use Rattle.mem_sorts.specs.declared.Kind.TheVariants as k
use Rattle.mem_sorts.specs.declared.Sort.{Sort}
use Rattle.mem_sorts.specs.declared.Sort.TheVariants as s
use Rattle.check_shapes.specs.declared.Frame.{Frame}
use Rattle.check_shapes.specs.declared.Frame.TheVariants.{Close, Var2, Var1, AppVar, AppNum, Args, CallNum, CallArgs, One, Comp2, Clause2, HideNum, ClauseNum, Clauses1, Clauses, Head, Arity, Body, Root, Done, Goals, AndLocals, AndStore, Members, Locals, Constraints, Guards, Guard}
use Rattle.check_shapes.specs.declared.Move.{Move}
use Rattle.check_shapes.specs.declared.Move.TheVariants.{Stop, Stay, Push, Pop}
use Rattle.check_shapes.specs.Machine.{is_end, is_var, is_free, on_num, on_inner, on_place, begun, begun_left, begun_stored, begun_clause, begun_locals, begun_store, begun_root, begun_goal, begun_member, begun_guarded, most_levels, step}
use Rattle.check_shapes.specs.Bounds.{Low, Bounded, Left}
use Rattle.check_shapes.specs.Low.{LowMove}

either : (b : Bool) (m u : Move) → (T b → LowMove m) → LowMove u → LowMove (if b m u)
either true m u h g = h tt
either false m u h g = g

at_num : (w : Word) (m : ℕ → Move) → ((i : ℕ) → LowMove (m i)) → LowMove (on_num w m)
at_num End m h = tt
at_num (Free v) m h = tt
at_num (Level v) m h = tt
at_num (Num v) m h = h v
at_num (Place k) m h = tt
at_num (Inner s) m h = tt
at_num Bad m h = tt

at_inner : (w : Word) (m : Sort → Move) → ((i : Sort) → LowMove (m i)) → LowMove (on_inner w m)
at_inner End m h = tt
at_inner (Free v) m h = tt
at_inner (Level v) m h = tt
at_inner (Num v) m h = tt
at_inner (Place k) m h = tt
at_inner (Inner s) m h = h s
at_inner Bad m h = tt

at_place : (w : Word) (m : Kind → Move) → ((i : Kind) → LowMove (m i)) → LowMove (on_place w m)
at_place End m h = tt
at_place (Free v) m h = tt
at_place (Level v) m h = tt
at_place (Num v) m h = tt
at_place (Place k) m h = h k
at_place (Inner s) m h = tt
at_place Bad m h = tt

less : {n d : ℕ} → Low n d → Low n (d - 1)
less l = record { levels = l.levels; depth = omega (arith, l.depth) }

top : Low 0 most_depth
top = record { levels = omega arith; depth = omega arith }

low_begun : (s : Sort) (n d : ℕ) (x : Frame) → Low n d → Left x → LowMove (begun s n d x)
low_begun s.Locals n d x l h = tt
low_begun s.Store n d x l h = tt
low_begun s.True n d x l h = (tt, h)
low_begun s.Fail n d x l h = (tt, h)
low_begun s.Eq n d x l h = (tt, h)
low_begun s.App n d x l h = (tt, h)
low_begun s.Call n d x l h = (tt, h)
low_begun s.Comp n d x l h = (l, h)
low_begun s.Hide n d x l h = either (leb 1 d) (Push (HideNum n (d - 1)) x) Stop (λ t. (less l, h)) tt
low_begun s.Clause n d x l h = tt
low_begun s.AskWait n d x l h = either (leb 1 d) (Push (Clauses1 n (d - 1)) x) Stop (λ t. (less l, h)) tt
low_begun s.AskCond n d x l h = either (leb 1 d) (Push (Clauses1 n (d - 1)) x) Stop (λ t. (less l, h)) tt
low_begun s.AskCommit n d x l h = either (leb 1 d) (Push (Clauses1 n (d - 1)) x) Stop (λ t. (less l, h)) tt

low_left : (s : Sort) (n d : ℕ) (x : Frame) → Low n d → Left x → LowMove (begun_left s n d x)
low_left s.Locals n d x l h = tt
low_left s.Store n d x l h = tt
low_left s.True n d x l h = (tt, h)
low_left s.Fail n d x l h = (tt, h)
low_left s.Eq n d x l h = (tt, h)
low_left s.App n d x l h = (tt, h)
low_left s.Call n d x l h = (tt, h)
low_left s.Comp n d x l h = either (leb 1 d) (Push (Comp2 n (d - 1)) x) Stop (λ t. (less l, h)) tt
low_left s.Hide n d x l h = either (leb 1 d) (Push (HideNum n (d - 1)) x) Stop (λ t. (less l, h)) tt
low_left s.Clause n d x l h = tt
low_left s.AskWait n d x l h = either (leb 1 d) (Push (Clauses1 n (d - 1)) x) Stop (λ t. (less l, h)) tt
low_left s.AskCond n d x l h = either (leb 1 d) (Push (Clauses1 n (d - 1)) x) Stop (λ t. (less l, h)) tt
low_left s.AskCommit n d x l h = either (leb 1 d) (Push (Clauses1 n (d - 1)) x) Stop (λ t. (less l, h)) tt

low_stored : (s : Sort) → LowMove (begun_stored s Constraints)
low_stored s.Locals = tt
low_stored s.Store = tt
low_stored s.True = tt
low_stored s.Fail = (tt, tt)
low_stored s.Eq = (tt, tt)
low_stored s.App = (tt, tt)
low_stored s.Call = tt
low_stored s.Comp = tt
low_stored s.Hide = tt
low_stored s.Clause = tt
low_stored s.AskWait = tt
low_stored s.AskCond = tt
low_stored s.AskCommit = tt

low_clause : (s : Sort) (n d : ℕ) → Low n d → LowMove (begun_clause s n d)
low_clause s.Locals n d l = tt
low_clause s.Store n d l = tt
low_clause s.True n d l = tt
low_clause s.Fail n d l = tt
low_clause s.Eq n d l = tt
low_clause s.App n d l = tt
low_clause s.Call n d l = tt
low_clause s.Comp n d l = tt
low_clause s.Hide n d l = tt
low_clause s.Clause n d l = (l, l)
low_clause s.AskWait n d l = tt
low_clause s.AskCond n d l = tt
low_clause s.AskCommit n d l = tt

low_locals : (s : Sort) → LowMove (begun_locals s)
low_locals s.Locals = (tt, tt)
low_locals s.Store = tt
low_locals s.True = tt
low_locals s.Fail = tt
low_locals s.Eq = tt
low_locals s.App = tt
low_locals s.Call = tt
low_locals s.Comp = tt
low_locals s.Hide = tt
low_locals s.Clause = tt
low_locals s.AskWait = tt
low_locals s.AskCond = tt
low_locals s.AskCommit = tt

low_store : (s : Sort) → LowMove (begun_store s)
low_store s.Locals = tt
low_store s.Store = (tt, tt)
low_store s.True = tt
low_store s.Fail = tt
low_store s.Eq = tt
low_store s.App = tt
low_store s.Call = tt
low_store s.Comp = tt
low_store s.Hide = tt
low_store s.Clause = tt
low_store s.AskWait = tt
low_store s.AskCond = tt
low_store s.AskCommit = tt

low_root : (k : Kind) → LowMove (begun_root k)
low_root k.Or = (tt, tt)
low_root k.And = tt
low_root k.Guarded = tt
low_root k.Member = tt
low_root k.Wait = tt
low_root k.Cond = tt
low_root k.Commit = tt

low_goal : (k : Kind) (x : Frame) → Left x → LowMove (begun_goal k x)
low_goal k.Or x h = (tt, h)
low_goal k.And x h = (tt, h)
low_goal k.Guarded x h = tt
low_goal k.Member x h = tt
low_goal k.Wait x h = tt
low_goal k.Cond x h = tt
low_goal k.Commit x h = tt

low_member : (k : Kind) → LowMove (begun_member k)
low_member k.Or = tt
low_member k.And = tt
low_member k.Guarded = tt
low_member k.Member = (top, tt)
low_member k.Wait = (tt, tt)
low_member k.Cond = (tt, tt)
low_member k.Commit = (tt, tt)

low_guarded : (k : Kind) → LowMove (begun_guarded k)
low_guarded k.Or = tt
low_guarded k.And = tt
low_guarded k.Guarded = (tt, tt)
low_guarded k.Member = tt
low_guarded k.Wait = tt
low_guarded k.Cond = tt
low_guarded k.Commit = tt

module _ (con pred : ℕ → Bool) (def : ℕ → ℕ → Bool) (free : Bool) where
  pub step_low : (x : Frame) (w : Word) → Bounded x → LowMove (step con pred def free x w)
  step_low Close w l = either (is_end w) Pop Stop (λ t. tt) tt
  step_low (Var2 n) w l = either (is_var free n w) (Stay (Var1 n)) Stop (λ t. tt) tt
  step_low (Var1 n) w l = either (is_var free n w) (Stay Close) Stop (λ t. tt) tt
  step_low (AppVar n) w l = either (is_var free n w) (Stay (AppNum n)) Stop (λ t. tt) tt
  step_low (AppNum n) w l = at_num w _ (λ i. either (con i) _ Stop (λ t. tt) tt)
  step_low (Args n d) w l = either (is_end w) Pop (if (is_var free n w && leb 1 d) (Stay (Args n (d - 1))) Stop) (λ t. tt) (either (is_var free n w && leb 1 d) (Stay (Args n (d - 1))) Stop (λ t. tt) tt)
  step_low (CallNum n) w l = at_num w _ (λ p. tt)
  step_low (CallArgs n p k) w l = either (is_end w) (if (def p k) Pop Stop) (if (is_var free n w && ltb k most_arguments) (Stay (CallArgs n p (k + 1))) Stop) (λ t. either (def p k) Pop Stop (λ t. tt) tt) (either (is_var free n w && ltb k most_arguments) (Stay (CallArgs n p (k + 1))) Stop (λ t. tt) tt)
  step_low (One n d) w l = at_inner w _ (λ s. low_begun s n d Close l tt)
  step_low (Comp2 n d) w l = at_inner w _ (λ s. low_left s n d (One n d) l l)
  step_low (Clause2 n d) w l = at_inner w _ (λ s. low_begun s n d (One n d) l l)
  step_low (HideNum n d) w l = at_num w _ (λ m. either (leb 1 m && ltb (n + m) most_levels) (Stay (One (n + m) d)) Stop (λ t. record { levels = ltb→lt (n + m) most_levels ((and_T (leb 1 m) (ltb (n + m) most_levels)).0 t).1; depth = l.depth }) tt)
  step_low (ClauseNum n d) w l = at_num w _ (λ m. either (ltb (n + m) most_levels) (Stay (Clause2 (n + m) d)) Stop (λ t. record { levels = ltb→lt (n + m) most_levels t; depth = l.depth }) tt)
  step_low (Clauses1 n d) w l = at_inner w _ (λ s. low_clause s n d l)
  step_low (Clauses n d) w l = either (is_end w) Pop (on_inner w (λ s. begun_clause s n d)) (λ t. tt) (at_inner w _ (λ s. low_clause s n d l))
  step_low Head w l = at_num w _ (λ p. either (pred p) (Stay Arity) Stop (λ t. tt) tt)
  step_low Arity w l = at_num w _ (λ k. either (leb k most_arguments) (Stay (Body k)) Stop (λ t. record { levels = omega (arith, leb→le k most_arguments t); depth = omega arith }) tt)
  step_low (Body n) w l = at_inner w _ (λ s. low_begun s n most_depth Head l tt)
  step_low Root w l = at_place w begun_root low_root
  step_low Done w l = tt
  step_low Goals w l = either (is_end w) Pop (on_place w (λ k. begun_goal k Goals)) (λ t. tt) (at_place w _ (λ k. low_goal k Goals tt))
  step_low AndLocals w l = at_inner w begun_locals low_locals
  step_low AndStore w l = at_inner w begun_store low_store
  step_low Members w l = either (is_end w) Pop (on_place w begun_member) (λ t. tt) (at_place w begun_member low_member)
  step_low Locals w l = either (is_end w) Pop (if (is_free w) (Stay Locals) Stop) (λ t. tt) (either (is_free w) (Stay Locals) Stop (λ t. tt) tt)
  step_low Constraints w l = either (is_end w) Pop (on_inner w (λ s. begun_stored s Constraints)) (λ t. tt) (at_inner w _ low_stored)
  step_low Guards w l = either (is_end w) Pop (on_place w begun_guarded) (λ t. tt) (at_place w begun_guarded low_guarded)
  step_low Guard w l = at_place w _ (λ k. low_goal k (One 0 most_depth) top)
