-- The answers to a question for the number of answers; there are no more of them than parts. Assumes nothing.
use mathlib.Core.Path.{◌≡◌, refl, sym, ap, ap₂, ◌∙◌}
use mathlib.Core.List.{List, ◌∷◌, []}
use mathlib.Core.Bool.{Bool, true, false}
use mathlib.Core.Option.{some, none}
use Prim.Native.Nat.{ℕ, ◌+◌, ◌*◌, ◌≤◌}
use native.Mathlib.Omega.{arith}
use lib.ListN.{length}
use Rattle.constraint.specs.Constraint.{Store}
use Rattle.constraint.specs.Solve.{satisfiable?}
use Rattle.akl.specs.Base.{size, if}
use Rattle.akl.specs.Limits.{most_parts}
use Rattle.akl.specs.Configuration.{Kind, member, Node, or, and, stmt, choice_box, guard, Nodes, nil, cons}
use Rattle.akl.specs.Parts.{parts, parts_all}
use Rattle.akl.specs.Answers.{Answer, answers, answers_all, solved_box}
use Rattle.theory.proofs.Locals.{size_append}
use Rattle.mem_words.specs.declared.Word.{Word}
use Rattle.mem_words.specs.Words.{words}
use Rattle.mem_parts.specs.Parts.{cut}
use Rattle.check_held.specs.Checks.{words_in}
use Rattle.store_form.specs.State.{State}
use Rattle.store_form.specs.Form.{rules_words}
use Rattle.store_calls.specs.Outcomes.{slices_short, held}
use Rattle.store_room.proofs.Freshness.{formed_state}
use Rattle.store_lent.specs.Lent.{working_bytes}
use Rattle.step_meant.specs.Deciding.{HoldsState}
use Rattle.answer_boxes.specs.Asked.{MeantSome, CountIs}
use Rattle.call_state.proofs.Answers.{config_meant}
use Rattle.refusals.specs.declared.Refusal.{Refusal}
use Rattle.refusals.specs.Refusals.{number_of}
use Rattle.std.specs.Prelude.{Err}
use Rattle.call_slices.specs.Admitted.{Admits}
use Rattle.call_slices.proofs.Slices.{refused_first}
use Rattle.call_count.specs.Called.{count_told, CountTo}

module _ (b : List ℕ) (w : ℕ) where
  -- 8 and 9
  pub to_refused : (e : Refusal) → Admits b w (Err e) → CountTo b w (number_of e)
  to_refused e a = record { number = refused_first count_told (λ h. refl) refl b w e a }

  pub to_count : (s : State) (r : ℕ) → slices_short most_parts working_bytes b w ≡ false → held most_parts b ≡ some s → r ≡ size (answers s.config.root) → CountTo b w (256 * r)
  to_count s r e h q = record { number = ap (λ (x : ℕ). 256 * x) q ∙ ap₂ count_told (sym e) (sym h) }

pub answered : (b : List ℕ) (w n r : ℕ) → slices_short most_parts working_bytes b w ≡ false → n ≡ words_in b → HoldsState b → CountIs (words (cut 159837 (159837 + 3 * n) b)) r → CountTo b w (256 * r)
answered b w n r e en h q = to_count b w h.state r e h.holds (q.right h.state (rules_words h.state) (config_meant b n h.state en h.holds))

-- an and-box is at most one answer
one_if : (a : Answer) (b : Bool) → size (if b (a ∷ []) []) ≤ 1
unfolding size
one_if a true = omega arith
one_if a false = omega arith

one_box : (vs : List ℕ) (σ : Store) (ms : Nodes member) → size (solved_box vs σ ms) ≤ 1
unfolding size
one_box vs σ nil = one_if (vs, σ) (satisfiable? σ)
one_box vs σ (cons m ms) = omega arith

mutual
  unfolding answers answers_all parts parts_all size

  answers_parts : {k : Kind} (n : Node k) → size (answers n) ≤ parts n
  answers_parts (or ns) = omega (arith, answers_parts_all ns)
  answers_parts (and vs σ ms) = omega (arith, one_box vs σ ms)
  answers_parts (stmt s) = omega arith
  answers_parts (choice_box op gs) = omega arith
  answers_parts (guard g b) = omega arith

  answers_parts_all : {k : Kind} (ns : Nodes k) → size (answers_all ns) ≤ parts_all ns
  answers_parts_all nil = omega arith
  answers_parts_all (cons n ns) = omega (arith, size_append (answers n) (answers_all ns), answers_parts n, answers_parts_all ns)

-- "A configuration has at most 2,048" parts, so that 256 times the count is a number of the machine
pub count_small : {W : List Word} {r : ℕ} → MeantSome W → CountIs W r → r ≤ 2048
count_small m q = omega (arith, q.right m.some_state m.some_rules m.meant, answers_parts m.some_state.config.root, (formed_state most_parts m.some_state m.meant.stands).fit)
