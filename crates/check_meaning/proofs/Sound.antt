-- Words that the machine takes are the rests that its frames stand for, one behind another.
use mathlib.Core.Path.{◌≡◌, refl, ap, ap₂, sym, ◌∙◌, subst}
use mathlib.Core.List.{List, [], ◌∷◌}
use mathlib.Core.Bool.{Bool, ◌&&◌}
use Prim.Native.Nat.{ℕ, suc, ◌+◌, ◌-◌, ◌≤◌}
use native.Mathlib.Omega.{arith}
use lib.Dec.{T, leb, ltb, leb→le, ltb→lt}
use Rattle.constraint.proofs.Lists.{and_T}
use Rattle.akl.specs.Base.{Name, if, all, size, is_some}
use Rattle.akl.specs.Limits.{most_arguments, most_depth}
use Rattle.akl.specs.Syntax.{no_more, Program, defined}
use Rattle.akl.specs.Configuration.{nil, cons}
use Rattle.akl.specs.WellFormed.{variable_fits, clauses_fit, clauses_depth, statements_pass, statements_pass_all}
use Rattle.mem_words.specs.declared.Word.{Word}
use Rattle.mem_words.specs.declared.Word.TheVariants.{End, Free, Num}
use Rattle.layout.specs.Layout.{var_word, vars_words, stmt_words, program_words}
use Rattle.store_words.specs.Boxes.{local_words, store_words, node_words}
use Rattle.check_shapes.specs.declared.Frame.{Frame}
use Rattle.check_shapes.specs.declared.Frame.TheVariants.{Close, Var2, Var1, AppVar, AppNum, Args, CallNum, CallArgs, One, Comp2, Clause2, HideNum, ClauseNum, Clauses1, Clauses, Head, Arity, Body, Root, Done, Goals, AndLocals, AndStore, Members, Locals, Constraints, Guards, Guard}
use Rattle.check_shapes.specs.declared.Move.{Move}
use Rattle.check_shapes.specs.declared.Move.TheVariants.{Stop, Stay, Push, Pop}
use Rattle.check_shapes.specs.Machine.{begun_locals, begun_store, begun_root, begun_member, begun_guarded, most_levels, step, act, ends, run}
use Rattle.check_meaning.proofs.Rests.{Known, Rest}
use Rattle.check_meaning.proofs.Moves.{Local, only_if, at_end, at_var, at_any, at_free, at_num, at_inner, at_place, at_begun, at_left}
use Rattle.check_meaning.proofs.Openings.{at_clause, at_stored, at_goal, at_member, at_guarded, at_root, at_locals, at_store}

module _ (num : Name → ℕ) (spell : ℕ → Name) (P : Program) (con pred : ℕ → Bool) (def : ℕ → ℕ → Bool) (free : Bool) (K : Known num spell P con pred def) where
  -- a call's number of arguments, counted up
  counted : (p : Name) (j k : ℕ) → j ≡ k → T (is_some (defined P p j)) → T (is_some (defined P p k))
  counted p j k e t = subst (λ (i : ℕ). T (is_some (defined P p i))) e t

  args : (n k : ℕ) (w : Word) → Local num spell P free (Args n k) w (step con pred def free (Args n k) w)
  unfolding vars_words all size
  args n k w =
      at_end num spell P free (Args n k) w Pop _ (λ l. ([], refl, tt, omega arith))
      (at_var num spell P free (Args n k) n w (leb 1 k) (Stay (Args n (k - 1))) (λ v b t l r e.
      (v ∷ e.0, ap (λ (u : List Word). var_word v ∷ u) e.1, (and_T (variable_fits (λ x. free) n v) (all (variable_fits (λ x. free) n) e.0)).1 (t, e.2), omega (arith, leb→le 1 k b, e.3))))

  call_args : (n p k : ℕ) (w : Word) → Local num spell P free (CallArgs n p k) w (step con pred def free (CallArgs n p k) w)
  unfolding vars_words all size
  call_args n p k w =
      at_end num spell P free (CallArgs n p k) w (if (def p k) Pop Stop) _ (only_if num spell P free (CallArgs n p k) End (def p k) Pop (λ t l.
      let h = K.definitions p k t in
      let z : k ≡ k + 0 = omega arith in
      ([], refl, tt, λ b. omega (arith, b), h.0, counted (spell p) k (k + 0) z h.1)))
      (at_var num spell P free (CallArgs n p k) n w (ltb k most_arguments) (Stay (CallArgs n p (k + 1))) (λ v b t l r e.
      let s = ltb→lt k most_arguments b in
      let z : k + 1 + size e.0 ≡ k + suc (size e.0) = omega arith in (
        v ∷ e.0,
        ap (λ (u : List Word). var_word v ∷ u) e.1,
        (and_T (variable_fits (λ x. free) n v) (all (variable_fits (λ x. free) n) e.0)).1 (t, e.2),
        λ c. (let i : k + 1 ≤ most_arguments = omega (arith, s) in omega (arith, e.3 i)),
        e.4,
        counted (spell p) (k + 1 + size e.0) (k + suc (size e.0)) z e.5,
      )))

  -- lists: nothing but the End, or one more
  clauses : (n d : ℕ) (w : Word) → Local num spell P free (Clauses n d) w (step con pred def free (Clauses n d) w)
  unfolding stmt_words clauses_fit clauses_depth
  clauses n d w = at_end num spell P free (Clauses n d) w Pop _ (λ l. (no_more, refl, (tt, omega arith, tt))) (at_inner num spell P free (Clauses n d) w _ (λ s. at_clause num spell P free (Clauses n d) n d s (λ l r cs e k t. (cs, e, k))))

  goals : (w : Word) → Local num spell P free Goals w (step con pred def free Goals w)
  unfolding node_words statements_pass
  goals w =
      at_end num spell P free Goals w Pop _ (λ l. (nil, refl, (tt, tt)))
      (at_place num spell P free Goals w _ (λ k. at_goal num spell P free Goals Goals k (λ l q r a e t h g.
      (cons a g.0, e ∙ ap (λ (u : List Word). node_words num a u) g.1, ((and_T (statements_pass a P) (statements_pass_all g.0 P)).1 (t, g.2.0), (h, g.2.1))))))

  members : (w : Word) → Local num spell P free Members w (step con pred def free Members w)
  unfolding node_words statements_pass
  members w = at_end num spell P free Members w Pop _ (λ l. (nil, refl, (tt, tt))) (at_place num spell P free Members w begun_member (at_member num spell P free))

  guards : (w : Word) → Local num spell P free Guards w (step con pred def free Guards w)
  unfolding node_words statements_pass
  guards w = at_end num spell P free Guards w Pop _ (λ l. (nil, refl, (tt, tt))) (at_place num spell P free Guards w begun_guarded (at_guarded num spell P free))

  constraints : (w : Word) → Local num spell P free Constraints w (step con pred def free Constraints w)
  unfolding store_words all
  constraints w = at_end num spell P free Constraints w Pop _ (λ l. ([], refl, (tt, tt))) (at_inner num spell P free Constraints w _ (at_stored num spell P free))

  locals : (w : Word) → Local num spell P free Locals w (step con pred def free Locals w)
  unfolding local_words
  locals w = at_end num spell P free Locals w Pop _ (λ l. ([], refl)) (at_free num spell P free Locals w (Stay Locals) (λ v l r e. (v ∷ e.0, ap (λ (u : List Word). Free v ∷ u) e.1)))

  local : (x : Frame) (w : Word) → Local num spell P free x w (step con pred def free x w)
  unfolding program_words
  local Close w = at_end num spell P free Close w Pop Stop (λ l. refl) tt
  local (Var2 n) w = at_any num spell P free (Var2 n) n w (Stay (Var1 n)) (λ v t l r e. (v, e.0, ap (λ (u : List Word). var_word v ∷ u) e.1, t, e.2))
  local (Var1 n) w = at_any num spell P free (Var1 n) n w (Stay Close) (λ v t l r e. (v, ap (λ (u : List Word). var_word v ∷ u) e, t))
  local (AppVar n) w = at_any num spell P free (AppVar n) n w (Stay (AppNum n)) (λ v t l r e. (v, e.0, e.1, ap (λ (u : List Word). var_word v ∷ u) e.2, t, e.3, e.4, e.5, e.6))
  local (AppNum n) w =
      at_num num spell P free (AppNum n) w _ (λ i.
      only_if num spell P free (AppNum n) (Num i) (con i) (Stay (Args n most_arguments)) (λ t l r e.
      let k = K.constructors i t in
      (spell i, e.0, ap₂ (λ (j : ℕ) (u : List Word). Num j ∷ u) (sym k.0) e.1, e.2, e.3, k.1, ap spell k.0)))
  local (Args n k) w = args n k w
  local (CallNum n) w =
      at_num num spell P free (CallNum n) w _ (λ p l r e.
      let z : 0 + size e.0 ≡ size e.0 = omega arith in
      let o : 0 ≤ most_arguments = omega arith in
      (spell p, e.0, ap₂ (λ (j : ℕ) (u : List Word). Num j ∷ u) (sym e.4) e.1, e.2, subst (λ (i : ℕ). i ≤ most_arguments) z (e.3 o), counted (spell p) (0 + size e.0) (size e.0) z e.5, ap spell e.4))
  local (CallArgs n p k) w = call_args n p k w
  local (One n d) w = at_inner num spell P free (One n d) w _ (λ s. at_begun num spell P free (One n d) Close n d s (λ l q r a e k g. (a, e ∙ ap (λ (u : List Word). stmt_words num a u) g, k)))
  local (Comp2 n d) w = at_inner num spell P free (Comp2 n d) w _ (λ s. at_left num spell P free (Comp2 n d) (One n d) n d s (λ l q r a e k g. (a, g.0, e ∙ ap (λ (u : List Word). stmt_words num a u) g.1, k, g.2)))
  local (Clause2 n d) w = at_inner num spell P free (Clause2 n d) w _ (λ s. at_begun num spell P free (Clause2 n d) (One n d) n d s (λ l q r a e k g. (a, g.0, e ∙ ap (λ (u : List Word). stmt_words num a u) g.1, k, g.2)))
  local (HideNum n d) w =
      at_num num spell P free (HideNum n d) w _ (λ m.
      only_if num spell P free (HideNum n d) (Num m) (leb 1 m && ltb (n + m) most_levels) (Stay (One (n + m) d)) (λ t l r e.
      (m, e.0, ap (λ (u : List Word). Num m ∷ u) e.1, leb→le 1 m ((and_T (leb 1 m) (ltb (n + m) most_levels)).0 t).0, e.2)))
  local (ClauseNum n d) w =
      at_num num spell P free (ClauseNum n d) w _ (λ m.
      only_if num spell P free (ClauseNum n d) (Num m) (ltb (n + m) most_levels) (Stay (Clause2 (n + m) d)) (λ t l r e.
      (m, e.0, e.1, ap (λ (u : List Word). Num m ∷ u) e.2, e.3, e.4)))
  local (Clauses1 n d) w = at_inner num spell P free (Clauses1 n d) w _ (λ s. at_clause num spell P free (Clauses1 n d) n d s (λ l r cs e k t. (cs, e, k, t)))
  local (Clauses n d) w = clauses n d w
  local Head w =
      at_num num spell P free Head w _ (λ p.
      only_if num spell P free Head (Num p) (pred p) (Stay Arity) (λ t l r e.
      let k = K.predicates p t in
      (record { name = spell p; arity = e.0; body = e.1 } ∷ e.2, ap₂ (λ (j : ℕ) (u : List Word). Num j ∷ u) (sym k.0) e.3, e.4, (k.1, e.5, e.6, ap spell k.0, e.7))))
  local Arity w =
      at_num num spell P free Arity w _ (λ k.
      only_if num spell P free Arity (Num k) (leb k most_arguments) (Stay (Body k)) (λ t l r e.
      (k, e.0, e.1, ap (λ (u : List Word). Num k ∷ u) e.2, e.3, leb→le k most_arguments t, e.4, e.5)))
  local (Body n) w = at_inner num spell P free (Body n) w _ (λ s. at_begun num spell P free (Body n) Head n most_depth s (λ l q r a e k g. (a, g.0, e ∙ ap (λ (u : List Word). stmt_words num a u) g.1, g.2, k, g.3)))
  local Root w = at_place num spell P free Root w begun_root (at_root num spell P free)
  local Done w = tt
  local Goals w = goals w
  local AndLocals w = at_inner num spell P free AndLocals w begun_locals (at_locals num spell P free)
  local AndStore w = at_inner num spell P free AndStore w begun_store (at_store num spell P free)
  local Members w = members w
  local Locals w = locals w
  local Constraints w = constraints w
  local Guards w = guards w
  local Guard w = at_place num spell P free Guard w _ (λ k. at_goal num spell P free Guard (One 0 most_depth) k (λ l q r a e t h g. (a, g.0, e ∙ ap (λ (u : List Word). node_words num a u) g.1, t, h, g.2)))

  -- the words that the frames of a stack stand for, one behind another
  abbrev pub Parses : List Frame → List Word → Type 0
  Parses [] ws = ws ≡ []
  Parses (x ∷ st) ws = (r : List Word) × Rest num spell P free x ws r × Parses st r

  last : (x : Frame) (st : List Frame) → T (ends x st) → Parses (x ∷ st) []
  unfolding program_words
  last Close [] t = absurd t
  last Close (y ∷ st) t = absurd t
  last (Var2 n) [] t = absurd t
  last (Var2 n) (y ∷ st) t = absurd t
  last (Var1 n) [] t = absurd t
  last (Var1 n) (y ∷ st) t = absurd t
  last (AppVar n) [] t = absurd t
  last (AppVar n) (y ∷ st) t = absurd t
  last (AppNum n) [] t = absurd t
  last (AppNum n) (y ∷ st) t = absurd t
  last (Args n k) [] t = absurd t
  last (Args n k) (y ∷ st) t = absurd t
  last (CallNum n) [] t = absurd t
  last (CallNum n) (y ∷ st) t = absurd t
  last (CallArgs n p k) [] t = absurd t
  last (CallArgs n p k) (y ∷ st) t = absurd t
  last (One n d) [] t = absurd t
  last (One n d) (y ∷ st) t = absurd t
  last (Comp2 n d) [] t = absurd t
  last (Comp2 n d) (y ∷ st) t = absurd t
  last (Clause2 n d) [] t = absurd t
  last (Clause2 n d) (y ∷ st) t = absurd t
  last (HideNum n d) [] t = absurd t
  last (HideNum n d) (y ∷ st) t = absurd t
  last (ClauseNum n d) [] t = absurd t
  last (ClauseNum n d) (y ∷ st) t = absurd t
  last (Clauses1 n d) [] t = absurd t
  last (Clauses1 n d) (y ∷ st) t = absurd t
  last (Clauses n d) [] t = absurd t
  last (Clauses n d) (y ∷ st) t = absurd t
  last Head [] t = ([], ([], refl, refl, tt), refl)
  last Head (y ∷ st) t = absurd t
  last Arity [] t = absurd t
  last Arity (y ∷ st) t = absurd t
  last (Body n) [] t = absurd t
  last (Body n) (y ∷ st) t = absurd t
  last Root [] t = absurd t
  last Root (y ∷ st) t = absurd t
  last Done [] t = ([], (refl, refl), refl)
  last Done (y ∷ st) t = absurd t
  last Goals [] t = absurd t
  last Goals (y ∷ st) t = absurd t
  last AndLocals [] t = absurd t
  last AndLocals (y ∷ st) t = absurd t
  last AndStore [] t = absurd t
  last AndStore (y ∷ st) t = absurd t
  last Members [] t = absurd t
  last Members (y ∷ st) t = absurd t
  last Locals [] t = absurd t
  last Locals (y ∷ st) t = absurd t
  last Constraints [] t = absurd t
  last Constraints (y ∷ st) t = absurd t
  last Guards [] t = absurd t
  last Guards (y ∷ st) t = absurd t
  last Guard [] t = absurd t
  last Guard (y ∷ st) t = absurd t

  after : (x : Frame) (w : Word) (l : List Word) (st : List Frame) (m : Move) → Local num spell P free x w m → ((y : Frame) (u : List Frame) → T (run con pred def free l y u) → Parses (y ∷ u) l) → T (act m (run con pred def free l) st) → Parses (x ∷ st) (w ∷ l)
  after x w l st Stop h g t = absurd t
  after x w l st (Stay y) h g t = let a = g y st t in (a.0, h l a.0 a.1, a.2)
  after x w l st (Push y z) h g t = let a = g y (z ∷ st) t in (a.2.0, h l a.0 a.2.0 a.1 a.2.1, a.2.2)
  after x w l [] Pop h g t = absurd t
  after x w l (y ∷ st) Pop h g t = (l, h l, g y st t)

  pub sound : (ws : List Word) (x : Frame) (st : List Frame) → T (run con pred def free ws x st) → Parses (x ∷ st) ws
  unfolding run
  sound [] x st t = last x st t
  sound (w ∷ l) x st t = after x w l st (step con pred def free x w) (local x w) (λ y u h. sound l y u h) t
