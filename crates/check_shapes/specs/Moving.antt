-- What a word does, whatever the tables say of numbers; and what is true of frames that stay below the bounds. Assumes nothing.
use Rattle.std.specs.Prelude.{◌≡◌, refl, Bool, true, false, ◌&&◌, ℕ}
use Rattle.std.proofs.Common.{ap, sym, ◌∙◌}
use Rattle.akl.specs.Base.{if}
use Rattle.mem_words.specs.declared.Word.{Word}
use Rattle.mem_words.specs.declared.Word.TheVariants.{Free}
use Rattle.check_shapes.specs.declared.Frame.{Frame}
use Rattle.check_shapes.specs.declared.Move.{Move}
use Rattle.check_shapes.specs.declared.Move.TheVariants.{Stop}
use Rattle.check_shapes.specs.Machine.{step}

-- r is what the word w does in the frame x
pub record Moves (x : Frame) (w : Word) (r : Move) : Type 0 where
  pub is : (con pred : ℕ → Bool) (def : ℕ → ℕ → Bool) (free : Bool) → r ≡ step con pred def free x w

-- a value that was matched: what a function gives at the form that it has
pub told : {A B : Type 0} (f : A → B) {s t : A} {r : B} → s ≡ t → r ≡ f t → r ≡ f s
told f e p = p ∙ ap f (sym e)

-- r is what a variable's number does in the frame x
pub record Frees (x : Frame) (free : Bool) (r : Move) : Type 0 where
  pub is : (con pred : ℕ → Bool) (def : ℕ → ℕ → Bool) (v : ℕ) → r ≡ step con pred def free x (Free v)

-- two tests, the second known
pub both_yes : (b c : Bool) (m r : Move) → c ≡ true → r ≡ if b m Stop → r ≡ if (b && c) m Stop
both_yes true c m r e p = p ∙ ap (λ (t : Bool). if t m Stop) (sym e)
both_yes false c m r e p = p

pub both_no : (b c : Bool) (m : Move) → c ≡ false → Stop ≡ if (b && c) m Stop
both_no true c m e = ap (λ (t : Bool). if t m Stop) (sym e)
both_no false c m e = refl
