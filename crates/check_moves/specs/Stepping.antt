-- What a word does, by the tables of the working slice. Assumes nothing.
use Rattle.std.specs.Prelude.{◌≡◌, refl, List, Bool, ℕ, ◌<◌}
use Rattle.mem_words.specs.declared.Word.{Word}
use Rattle.mem_words.specs.declared.Word.TheVariants.{Free, Bad}
use Rattle.check_shapes.specs.declared.Frame.{Frame}
use Rattle.check_shapes.specs.declared.Frame.TheVariants.{Close, Var2, Var1, AppVar, AppNum, Args, CallNum, CallArgs, One, Comp2, Clause2, HideNum, ClauseNum, Clauses1, Clauses, Head, Arity, Body, Root, Done, Goals, AndLocals, AndStore, Members, Locals, Constraints, Guards, Guard}
use Rattle.check_shapes.specs.declared.Move.{Move}
use Rattle.check_shapes.specs.declared.Move.TheVariants.{Stop}
use Rattle.check_shapes.specs.Machine.{step}
use Rattle.check_shapes.specs.Moving.{Moves, Frees, told}
use Rattle.check_shapes.specs.Bounds.{Bounded}
use Rattle.check_tables.specs.Tables.{kinds_of, arities_of, Tabled, con_of, pred_of, def_of}

-- r is what the word w does in the frame x, by the tables of the bytes L, of m names
pub record Steps (L : List ℕ) (m : ℕ) (free : Bool) (x : Frame) (w : Word) (r : Move) : Type 0 where
  pub is : r ≡ step (con_of m (kinds_of L)) (pred_of m (kinds_of L)) (def_of m (arities_of L)) free x w

-- wherever variables' numbers may stand
pub record Fixed (L : List ℕ) (m : ℕ) (x : Frame) (w : Word) (r : Move) : Type 0 where
  pub any : (free : Bool) → r ≡ step (con_of m (kinds_of L)) (pred_of m (kinds_of L)) (def_of m (arities_of L)) free x w

-- what a step may be asked with: the value has two bytes
pub record CanStep (L : List ℕ) (m : ℕ) (x : Frame) (v : ℕ) : Type 0 where
  pub tables : Tabled L m
  pub low : Bounded x
  pub small : v < 65536

pub fixed : {L : List ℕ} {m : ℕ} {w : Word} {x y : Frame} {r : Move} → x ≡ y → Fixed L m y w r → Fixed L m x w r
fixed {L} {m} {w} e p = record { any = λ free. told (λ (z : Frame). step (con_of m (kinds_of L)) (pred_of m (kinds_of L)) (def_of m (arities_of L)) free z w) e (p.any free) }

-- the word that was matched
pub worded : {L : List ℕ} {m : ℕ} {free : Bool} {x : Frame} {v w : Word} {r : Move} → w ≡ v → Steps L m free x v r → Steps L m free x w r
worded {L} {m} {free} {x} e p = record { is = told (step (con_of m (kinds_of L)) (pred_of m (kinds_of L)) (def_of m (arities_of L)) free x) e p.is }

pub of_fixed : {L : List ℕ} {m : ℕ} {x : Frame} {w : Word} {r : Move} (free : Bool) → Fixed L m x w r → Steps L m free x w r
of_fixed free p = record { is = p.any free }

pub of_moves : {x : Frame} {w : Word} {r : Move} (L : List ℕ) (m : ℕ) (free : Bool) → Moves x w r → Steps L m free x w r
of_moves L m free p = record { is = p.is (con_of m (kinds_of L)) (pred_of m (kinds_of L)) (def_of m (arities_of L)) free }

pub of_frees : {x : Frame} {free : Bool} {r : Move} (L : List ℕ) (m v : ℕ) → Frees x free r → Steps L m free x (Free v) r
of_frees L m v p = record { is = p.is (con_of m (kinds_of L)) (pred_of m (kinds_of L)) (def_of m (arities_of L)) v }

-- `Bad` is refused everywhere
pub of_bad : (L : List ℕ) (m : ℕ) (free : Bool) (x : Frame) → Steps L m free x Bad Stop
of_bad L m free x = record { is = go x }
  where
    go : (x : Frame) → Stop ≡ step (con_of m (kinds_of L)) (pred_of m (kinds_of L)) (def_of m (arities_of L)) free x Bad
    go Close = refl
    go (Var2 n) = refl
    go (Var1 n) = refl
    go (AppVar n) = refl
    go (AppNum n) = refl
    go (Args n d) = refl
    go (CallNum n) = refl
    go (CallArgs n p k) = refl
    go (One n d) = refl
    go (Comp2 n d) = refl
    go (Clause2 n d) = refl
    go (HideNum n d) = refl
    go (ClauseNum n d) = refl
    go (Clauses1 n d) = refl
    go (Clauses n d) = refl
    go Head = refl
    go Arity = refl
    go (Body n) = refl
    go Root = refl
    go Done = refl
    go Goals = refl
    go AndLocals = refl
    go AndStore = refl
    go Members = refl
    go Locals = refl
    go Constraints = refl
    go Guards = refl
    go Guard = refl
