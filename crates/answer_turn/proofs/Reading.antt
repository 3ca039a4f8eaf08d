-- The ways of a turn, by the words that the code reads. Assumes nothing.
use mathlib.Core.Path.{◌≡◌, ap, sym, ◌∙◌, subst}
use mathlib.Core.Bool.{Bool, true, false}
use mathlib.Core.List.{List, [], ◌∷◌}
use Prim.Native.Nat.{ℕ, suc, ◌+◌, ◌-◌, ◌/◌, ◌%◌, ◌≤◌, ◌<◌}
use native.Mathlib.Omega.{arith}
use lib.ListN.{length, get_or}
use Rattle.mem_words.specs.declared.Word.{Word}
use Rattle.mem_words.specs.declared.Word.TheVariants.{Bad}
use Rattle.mem_numbers.specs.Numbers.{Got}
use Rattle.mem_numbers.specs.Stored.{Stored}
use Rattle.read_nodes.specs.Spell.{named}
use Rattle.akl.specs.Answers.{unbound}
use Rattle.answer_walk.specs.Numbered.{Numbered}
use Rattle.solve_cells.specs.Cells.{Found}
use Rattle.solve_classes.specs.Means.{Apps}
use Rattle.solve_fields.specs.Read.{var_of, num_of, is_var, label_at}
use Rattle.solve_explores.specs.Search.{cell_of}
use Rattle.solve_tells.proofs.Meeting.{var_inside}
use Rattle.work_tables.specs.Tables.{log_of, Laid, Logged, Peeked, length_log}
use Rattle.answer_emit.specs.Put.{Put}
use Rattle.answer_walk.specs.Stack.{stacked}
use Rattle.answer_walk.proofs.Stacks.{linked_few, length_stacked}
use Rattle.answer_walk.proofs.Heights.{stack_room}
use Rattle.answer_stack.specs.Slots.{numbers_of, places_of, begun_of}
use Rattle.answer_turn.specs.Turning.{Shown, Ready, Turned, AtBound, Named, CanNumber}
use Rattle.answer_turn.proofs.Steps.{term_free, on_app, step_unbound, step_label, step_open, step_comma, step_close}

pub low_label : {W : List Word} {v : Word} {g i n : ℕ} → Peeked W i v → g ≡ num_of v → ((j : ℕ) → num_of (get_or W j Bad) < n) → g < n
low_label {W} {v} {g} {i} {n} p e h = let z : g ≡ num_of (get_or W i Bad) = e ∙ ap num_of p.is in omega (arith, z, h i)

label_is : {W : List Word} {v : Word} {g : ℕ} (p : ℕ) → Peeked W (p + 2) v → g ≡ num_of v → g ≡ label_at W p
unfolding label_at
label_is p k e = e ∙ ap num_of k.is

pub test_is : {W : List Word} {v : Word} {i : ℕ} (b t : Bool) → Peeked W i v → t ≡ is_var v → t ≡ b → is_var (get_or W i Bad) ≡ b
test_is b t k e q = ap is_var (sym k.is) ∙ sym e ∙ q

-- the argument's number is small, as the words are few
pub begun_small : {L : List ℕ} {v : Word} (used p k : ℕ) (t : Bool) → Laid L → Logged used → Peeked (log_of used L) (p + 3 + k) v → t ≡ is_var v → t ≡ true → k + 1 < 65536
begun_small {L} {v} used p k t h l j q r = omega (arith, var_inside (log_of used L) (p + 3 + k) (test_is true t j q r), length_log used h l, l.most)

module _ {N : List ℕ} {W : List Word} {P T : List ℕ} (sh : Shown N W P T) where
  pub did_label : {S K M O O' : List ℕ} {x h c at at' p g : ℕ} {w : Bool} {u v : Word} (t : Bool) → AtBound P T x p → Peeked W (p + 2) u → g ≡ num_of u → Peeked W (p + 3) v → t ≡ is_var v → t ≡ false → Put (named N g) w O at O' at' → Turned N W P T S K M O true x h c at w S K M O' false 0 h c at'
  did_label {S} {K} {M} {O} {O'} {x} {h} {c} {at} {at'} {p} {g} {w} {u} {v} t b k e j q r put = step_label N W P T sh p b (test_is false t j q r) (subst (λ (z : ℕ). Put (named N z) w O at O' at') (label_is p k e) put)

  pub did_open : {S K M O S' K' M' O₁ O' : List ℕ} {x h c at a at' p g y : ℕ} {w : Bool} {u v : Word} (t : Bool) → AtBound P T x p → Peeked W (p + 2) u → g ≡ num_of u → Peeked W (p + 3) v → t ≡ is_var v → t ≡ true → y ≡ var_of v → Put (named N g) w O at O₁ a → Put (40 ∷ []) w O₁ a O' at' → Stored S h p S' → Stored K h 1 K' → M' ≡ M → h < length S → h < length K → Turned N W P T S K M O true x h c at w S' K' M' O' true y (h + 1) c at'
  did_open {S} {K} {M} {O} {S'} {K'} {M'} {O₁} {O'} {x} {h} {c} {at} {a} {at'} {p} {g} {y} {w} {u} {v} t b k e j q r d p₁ p₂ ss sk em ls lk =
      subst (λ (z : ℕ). Turned N W P T S K M O true x h c at w S' K' M' O' true z (h + 1) c at') (sym (d ∙ ap var_of j.is))
      (step_open N W P T sh p b (test_is true t j q r) (subst (λ (z : ℕ). Put (named N z) w O at O₁ a) (label_is p k e) p₁) p₂ ss sk em ls lk)

  -- the stack has room for the application
  pub room_for : {S K M : List ℕ} {x h c p : ℕ} → Ready N W P T S K M true x h c → AtBound P T x p → h < length P
  room_for {S} {K} {M} {x} {h} {c} {p} r b = stack_room W P T sh.acyclic (length P) sh.apps x p (on_app N W P T sh x p b) r.run.next.1 r.run.stack

  -- the stack is never higher than there are applications
  pub height_for : {S K M : List ℕ} {x h c : ℕ} {going : Bool} → Ready N W P T S K M going x h c → h ≤ length P
  height_for {S} {K} {M} {x} {h} {c} {going} r = omega (arith, linked_few W P T sh.acyclic (length P) sh.apps (stacked S h) r.run.stack.linked, length_stacked S h)

  pub did_comma : {S K M O S' K' M' O' : List ℕ} {c at at' h i p k y : ℕ} {w : Bool} {v : Word} (t : Bool) → h ≡ i + 1 → p ≡ get_or S i 0 → k ≡ get_or K i 0 → Peeked W (p + 3 + k) v → t ≡ is_var v → t ≡ true → y ≡ var_of v → Put (44 ∷ []) w O at O' at' → S' ≡ S → Stored K i (k + 1) K' → M' ≡ M → i < length K → Turned N W P T S K M O false 0 h c at w S' K' M' O' true y h c at'
  did_comma {S} {K} {M} {O} {S'} {K'} {M'} {O'} {c} {at} {at'} {h} {i} {p} {k} {y} {w} {v} t eh ep ek j q r d put es sk em l =
      subst (λ (z : ℕ). Turned N W P T S K M O false 0 z c at w S' K' M' O' true y z c at') (sym n)
      (subst (λ (z : ℕ). Turned N W P T S K M O false 0 (suc i) c at w S' K' M' O' true z (suc i) c at') (sym (d ∙ ap var_of j.is ∙ ap (λ (m : ℕ). var_of (get_or W m Bad)) at_word))
      (step_comma N W P T sh i (ap (λ (m : ℕ). is_var (get_or W m Bad)) (sym at_word) ∙ test_is true t j q r) put es (subst (λ (z : ℕ). Stored K i (z + 1) K') ek sk) em l))
    where
      n : h ≡ suc i
      n = omega (arith, eh)

      at_word : p + 3 + k ≡ get_or S i 0 + 3 + get_or K i 0
      at_word = omega (arith, ep, ek)

  pub did_close : {S K M O O' : List ℕ} {c at at' h i p k : ℕ} {w : Bool} {v : Word} (t : Bool) → h ≡ i + 1 → p ≡ get_or S i 0 → k ≡ get_or K i 0 → Peeked W (p + 3 + k) v → t ≡ is_var v → t ≡ false → Put (41 ∷ []) w O at O' at' → Turned N W P T S K M O false 0 h c at w S K M O' false 0 i c at'
  did_close {S} {K} {M} {O} {O'} {c} {at} {at'} {h} {i} {p} {k} {w} {v} t eh ep ek j q r put =
      subst (λ (z : ℕ). Turned N W P T S K M O false 0 z c at w S K M O' false 0 i c at') (sym n) (step_close N W P T sh i (ap (λ (m : ℕ). is_var (get_or W m Bad)) (sym at_word) ∙ test_is false t j q r) put)
    where
      n : h ≡ suc i
      n = omega (arith, eh)

      at_word : p + 3 + k ≡ get_or S i 0 + 3 + get_or K i 0
      at_word = omega (arith, ep, ek)

  -- the class and the cell that were looked up
  pub did_unknown : {L X O O' : List ℕ} {S K M : List ℕ} {x h c r d at c' at' : ℕ} {w : Bool} → S ≡ places_of L → K ≡ begun_of L → M ≡ numbers_of L → Found T x r → d ≡ get_or T r 0 → (d % 4 ≡ 2 → ⊥) → Named L r c O at w X O' c' at' → Turned N W P T S K M O true x h c at w (places_of X) (begun_of X) (numbers_of X) O' false 0 h c' at'
  did_unknown {L} {X} {O} {O'} {S} {K} {M} {x} {h} {c} {r} {d} {at} {c'} {at'} {w} es ek em g e n m =
      step_unbound N W P T sh r (term_free N W P T sh x (λ z. n (ap (λ (y : ℕ). y % 4) (e ∙ ap (λ (y : ℕ). get_or T y 0) g.is) ∙ z)) ∙ ap unbound (sym g.is)) (m.place ∙ sym es) (m.begun ∙ sym ek) (λ s k. m.numbers s (subst (λ (z : List ℕ). Numbered z s c 65535) em k)) (λ s k. m.put s (subst (λ (z : List ℕ). Numbered z s c 65535) em k))

  pub at_bound : {x r d p : ℕ} → Found T x r → d ≡ get_or T r 0 → d % 4 ≡ 2 → Got P (d / 256) 4294967296 p → AtBound P T x p
  at_bound {x} {r} {d} {p} g e n q =
      let z : d ≡ cell_of T x = e ∙ ap (λ (y : ℕ). get_or T y 0) g.is in
      record { bound = ap (λ (y : ℕ). y % 4) (sym z) ∙ n; place = q.is ∙ ap (λ (y : ℕ). get_or P (y / 256) 0) z; small = q.small }

  -- the class may be numbered
  pub can_number : {L : List ℕ} {S K M : List ℕ} {x h c r : ℕ} → Laid L → M ≡ numbers_of L → Ready N W P T S K M true x h c → Found T x r → CanNumber L r c
  can_number {L} {S} {K} {M} {x} {h} {c} {r} l e d g = record { laid = l; low = subst (λ (y : ℕ). y < 65535) (sym g.is) (sh.classes x d.run.next.2); seen = d.seen; numbers = subst (λ (z : List ℕ). Numbered z d.seen c 65535) e d.run.numbers }

  -- its application is in the table
  pub app_in : {x r d : ℕ} → Found T x r → d ≡ get_or T r 0 → d % 4 ≡ 2 → d / 256 < length P
  unfolding Apps
  app_in {x} {r} {d} g e n = subst (λ (y : ℕ). y / 256 < length P) (sym e) (sh.apps r (ap (λ (y : ℕ). y % 4) (sym e) ∙ n))
