-- Words as a machine reads them, word by word, over a stack of the brackets that are open. con says which numbers are those of
-- constructors, pred of predicates' names, def p k that the program defines the name with the number p and k parameters; free,
-- whether variables' numbers may stand. Assumes nothing.
use Rattle.std.specs.Prelude.{List, [], ◌∷◌, Bool, true, false, ◌&&◌, ℕ, ◌+◌, ◌-◌, leb, ltb}
use Rattle.akl.specs.Base.{if}
use Rattle.akl.specs.Limits.{most_arguments, most_depth}
use Rattle.mem_words.specs.declared.Word.{Word}
use Rattle.mem_words.specs.declared.Word.TheVariants.{End, Free, Level, Num, Place, Inner, Bad}
use Rattle.mem_sorts.specs.declared.Kind.{Kind}
use Rattle.mem_sorts.specs.declared.Kind.TheVariants.{Or, And, Guarded, Member, Wait, Cond, Commit}
use Rattle.mem_sorts.specs.declared.Sort.{Sort}
use Rattle.mem_sorts.specs.declared.Sort.TheVariants.{Locals, Store, True, Fail, Eq, App, Call, Comp, Hide, Clause, AskWait, AskCond, AskCommit}
use Rattle.check_shapes.specs.declared.Frame.{Frame}
use Rattle.check_shapes.specs.declared.Frame.TheVariants as f
use Rattle.check_shapes.specs.declared.Frame.TheVariants.{Close, Var2, Var1, AppVar, AppNum, Args, CallNum, CallArgs, One, Comp2, Clause2, HideNum, ClauseNum, Clauses1, Clauses, Head, Arity, Body, Root, Done, Goals, AndLocals, AndStore, Members, Constraints, Guards, Guard}
use Rattle.check_shapes.specs.declared.Move.{Move}
use Rattle.check_shapes.specs.declared.Move.TheVariants.{Stop, Stay, Push, Pop}

-- ---------------------------------------------------------------------------------------------
-- Classes of words.

abbrev pub is_end : Word → Bool
is_end End = true
is_end (Free x) = false
is_end (Level l) = false
is_end (Num n) = false
is_end (Place k) = false
is_end (Inner s) = false
is_end Bad = false

-- a variable's number where these may stand, or a level below n
abbrev pub is_var : Bool → ℕ → Word → Bool
is_var free n End = false
is_var free n (Free x) = free
is_var free n (Level l) = ltb l n
is_var free n (Num i) = false
is_var free n (Place k) = false
is_var free n (Inner s) = false
is_var free n Bad = false

abbrev pub is_free : Word → Bool
is_free End = false
is_free (Free x) = true
is_free (Level l) = false
is_free (Num n) = false
is_free (Place k) = false
is_free (Inner s) = false
is_free Bad = false

-- what a number does, what an opening word of a sort or a kind does: other words are refused
abbrev pub on_num : Word → (ℕ → Move) → Move
on_num End m = Stop
on_num (Free x) m = Stop
on_num (Level l) m = Stop
on_num (Num n) m = m n
on_num (Place k) m = Stop
on_num (Inner s) m = Stop
on_num Bad m = Stop

abbrev pub on_inner : Word → (Sort → Move) → Move
on_inner End m = Stop
on_inner (Free x) m = Stop
on_inner (Level l) m = Stop
on_inner (Num n) m = Stop
on_inner (Place k) m = Stop
on_inner (Inner s) m = m s
on_inner Bad m = Stop

abbrev pub on_place : Word → (Kind → Move) → Move
on_place End m = Stop
on_place (Free x) m = Stop
on_place (Level l) m = Stop
on_place (Num n) m = Stop
on_place (Place k) m = m k
on_place (Inner s) m = Stop
on_place Bad m = Stop

-- ---------------------------------------------------------------------------------------------
-- Brackets that open, x being left behind them.

-- one hiding or choice deeper
abbrev pub deeper : ℕ → Frame → Frame → Move
deeper d y x = if (leb 1 d) (Push y x) Stop

-- a statement
abbrev pub begun : Sort → ℕ → ℕ → Frame → Move
begun Locals n d x = Stop
begun Store n d x = Stop
begun True n d x = Push Close x
begun Fail n d x = Push Close x
begun Eq n d x = Push (Var2 n) x
begun App n d x = Push (AppVar n) x
begun Call n d x = Push (CallNum n) x
begun Comp n d x = Push (Comp2 n d) x
begun Hide n d x = deeper d (HideNum n (d - 1)) x
begun Clause n d x = Stop
begun AskWait n d x = deeper d (Clauses1 n (d - 1)) x
begun AskCond n d x = deeper d (Clauses1 n (d - 1)) x
begun AskCommit n d x = deeper d (Clauses1 n (d - 1)) x

-- the left part of a composition: a composition is one deeper there, by the bracket that it needs
abbrev pub begun_left : Sort → ℕ → ℕ → Frame → Move
begun_left Locals n d x = Stop
begun_left Store n d x = Stop
begun_left True n d x = Push Close x
begun_left Fail n d x = Push Close x
begun_left Eq n d x = Push (Var2 n) x
begun_left App n d x = Push (AppVar n) x
begun_left Call n d x = Push (CallNum n) x
begun_left Comp n d x = deeper d (Comp2 n (d - 1)) x
begun_left Hide n d x = deeper d (HideNum n (d - 1)) x
begun_left Clause n d x = Stop
begun_left AskWait n d x = deeper d (Clauses1 n (d - 1)) x
begun_left AskCond n d x = deeper d (Clauses1 n (d - 1)) x
begun_left AskCommit n d x = deeper d (Clauses1 n (d - 1)) x

-- a stored constraint: no `true`, no levels
abbrev pub begun_stored : Sort → Frame → Move
begun_stored Locals x = Stop
begun_stored Store x = Stop
begun_stored True x = Stop
begun_stored Fail x = Push Close x
begun_stored Eq x = Push (Var2 0) x
begun_stored App x = Push (AppVar 0) x
begun_stored Call x = Stop
begun_stored Comp x = Stop
begun_stored Hide x = Stop
begun_stored Clause x = Stop
begun_stored AskWait x = Stop
begun_stored AskCond x = Stop
begun_stored AskCommit x = Stop

abbrev pub begun_clause : Sort → ℕ → ℕ → Move
begun_clause Locals n d = Stop
begun_clause Store n d = Stop
begun_clause True n d = Stop
begun_clause Fail n d = Stop
begun_clause Eq n d = Stop
begun_clause App n d = Stop
begun_clause Call n d = Stop
begun_clause Comp n d = Stop
begun_clause Hide n d = Stop
begun_clause Clause n d = Push (ClauseNum n d) (Clauses n d)
begun_clause AskWait n d = Stop
begun_clause AskCond n d = Stop
begun_clause AskCommit n d = Stop

abbrev pub begun_locals : Sort → Move
begun_locals Locals = Push f.Locals AndStore
begun_locals Store = Stop
begun_locals True = Stop
begun_locals Fail = Stop
begun_locals Eq = Stop
begun_locals App = Stop
begun_locals Call = Stop
begun_locals Comp = Stop
begun_locals Hide = Stop
begun_locals Clause = Stop
begun_locals AskWait = Stop
begun_locals AskCond = Stop
begun_locals AskCommit = Stop

abbrev pub begun_store : Sort → Move
begun_store Locals = Stop
begun_store Store = Push Constraints Members
begun_store True = Stop
begun_store Fail = Stop
begun_store Eq = Stop
begun_store App = Stop
begun_store Call = Stop
begun_store Comp = Stop
begun_store Hide = Stop
begun_store Clause = Stop
begun_store AskWait = Stop
begun_store AskCond = Stop
begun_store AskCommit = Stop

-- the top or-box
abbrev pub begun_root : Kind → Move
begun_root Or = Push Goals Done
begun_root And = Stop
begun_root Guarded = Stop
begun_root Member = Stop
begun_root Wait = Stop
begun_root Cond = Stop
begun_root Commit = Stop

-- a goal
abbrev pub begun_goal : Kind → Frame → Move
begun_goal Or x = Push Goals x
begun_goal And x = Push AndLocals x
begun_goal Guarded x = Stop
begun_goal Member x = Stop
begun_goal Wait x = Stop
begun_goal Cond x = Stop
begun_goal Commit x = Stop

abbrev pub begun_member : Kind → Move
begun_member Or = Stop
begun_member And = Stop
begun_member Guarded = Stop
begun_member Member = Push (One 0 most_depth) Members
begun_member Wait = Push Guards Members
begun_member Cond = Push Guards Members
begun_member Commit = Push Guards Members

abbrev pub begun_guarded : Kind → Move
begun_guarded Or = Stop
begun_guarded And = Stop
begun_guarded Guarded = Push Guard Guards
begun_guarded Member = Stop
begun_guarded Wait = Stop
begun_guarded Cond = Stop
begun_guarded Commit = Stop

-- ---------------------------------------------------------------------------------------------
-- What a word does.

-- so many variables are never bound: at most 8, and 65,535 for each of 32 that nest; a number of four bytes holds a frame below it
abbrev pub most_levels : ℕ
most_levels = 4194304

module _ (con pred : ℕ → Bool) (def : ℕ → ℕ → Bool) (free : Bool) where
  abbrev pub step : Frame → Word → Move
  step Close w = if (is_end w) Pop Stop
  step (Var2 n) w = if (is_var free n w) (Stay (Var1 n)) Stop
  step (Var1 n) w = if (is_var free n w) (Stay Close) Stop
  step (AppVar n) w = if (is_var free n w) (Stay (AppNum n)) Stop
  step (AppNum n) w = on_num w (λ i. if (con i) (Stay (Args n most_arguments)) Stop)
  step (Args n k) w = if (is_end w) Pop (if (is_var free n w && leb 1 k) (Stay (Args n (k - 1))) Stop)
  step (CallNum n) w = on_num w (λ p. Stay (CallArgs n p 0))
  step (CallArgs n p k) w = if (is_end w) (if (def p k) Pop Stop) (if (is_var free n w && ltb k most_arguments) (Stay (CallArgs n p (k + 1))) Stop)
  step (One n d) w = on_inner w (λ s. begun s n d Close)
  step (Comp2 n d) w = on_inner w (λ s. begun_left s n d (One n d))
  step (Clause2 n d) w = on_inner w (λ s. begun s n d (One n d))
  step (HideNum n d) w = on_num w (λ m. if (leb 1 m && ltb (n + m) most_levels) (Stay (One (n + m) d)) Stop)
  step (ClauseNum n d) w = on_num w (λ m. if (ltb (n + m) most_levels) (Stay (Clause2 (n + m) d)) Stop)
  step (Clauses1 n d) w = on_inner w (λ s. begun_clause s n d)
  step (Clauses n d) w = if (is_end w) Pop (on_inner w (λ s. begun_clause s n d))
  step Head w = on_num w (λ p. if (pred p) (Stay Arity) Stop)
  step Arity w = on_num w (λ k. if (leb k most_arguments) (Stay (Body k)) Stop)
  step (Body n) w = on_inner w (λ s. begun s n most_depth Head)
  step Root w = on_place w begun_root
  step Done w = Stop
  step Goals w = if (is_end w) Pop (on_place w (λ k. begun_goal k Goals))
  step AndLocals w = on_inner w begun_locals
  step AndStore w = on_inner w begun_store
  step Members w = if (is_end w) Pop (on_place w begun_member)
  step f.Locals w = if (is_end w) Pop (if (is_free w) (Stay f.Locals) Stop)
  step Constraints w = if (is_end w) Pop (on_inner w (λ s. begun_stored s Constraints))
  step Guards w = if (is_end w) Pop (on_place w begun_guarded)
  step Guard w = on_place w (λ k. begun_goal k (One 0 most_depth))

-- a move: k says what the rest of the words does
abbrev pub act : Move → (Frame → List Frame → Bool) → List Frame → Bool
act Stop k st = false
act (Stay x) k st = k x st
act (Push y x) k st = k y (x ∷ st)
act Pop k [] = false
act Pop k (x ∷ st) = k x st

-- where words may end
abbrev pub is_last : Frame → Bool
is_last Close = false
is_last (Var2 n) = false
is_last (Var1 n) = false
is_last (AppVar n) = false
is_last (AppNum n) = false
is_last (Args n k) = false
is_last (CallNum n) = false
is_last (CallArgs n p k) = false
is_last (One n d) = false
is_last (Comp2 n d) = false
is_last (Clause2 n d) = false
is_last (HideNum n d) = false
is_last (ClauseNum n d) = false
is_last (Clauses1 n d) = false
is_last (Clauses n d) = false
is_last Head = true
is_last Arity = false
is_last (Body n) = false
is_last Root = false
is_last Done = true
is_last Goals = false
is_last AndLocals = false
is_last AndStore = false
is_last Members = false
is_last f.Locals = false
is_last Constraints = false
is_last Guards = false
is_last Guard = false

abbrev pub ends : Frame → List Frame → Bool
ends x [] = is_last x
ends x (y ∷ st) = false

module _ (con pred : ℕ → Bool) (def : ℕ → ℕ → Bool) (free : Bool) where
  -- the words, with x left of the innermost bracket and st of those around it, the inner first
  unfoldable pub run : List Word → Frame → List Frame → Bool
  run [] x st = ends x st
  run (w ∷ l) x st = act (step con pred def free x w) (run l) st
