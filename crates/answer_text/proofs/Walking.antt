-- The steps of a walk. Assumes nothing.
use mathlib.Core.Path.{◌≡◌, refl, ap, sym, ◌∙◌, subst}
use mathlib.Core.Logic.{inl}
use mathlib.Core.List.{List, [], ◌∷◌, ◌++◌, append_assoc, append-nil}
use Prim.Native.Nat.{ℕ}
use Rattle.constraint.specs.Tree.{Label}
use Rattle.constraint.specs.Constraint.{In}
use Rattle.constraint.proofs.Lists.{In-append}
use Rattle.theory.specs.Scope.{Sub}
use Rattle.akl.specs.Answers.{Term, unbound, built, terms, unknowns, unknowns_all, position, term_text}
use Rattle.runs.proofs.Shows.{Seen, SeenAll}
use Rattle.answer_text.specs.Walks.{Frame, Stack, todos, Walk}
use Rattle.answer_text.proofs.First.{unknown_new, position_old, grows_all, text_stable, seen_wider, seen_wider_all, seen_same, unknowns_again, terms_append_unknowns, terms_append_seen}

module _ (f : ℕ → Term) where
  head_same : (x : ℕ) (l seen : List ℕ) → Seen (f x) seen → unknowns_all (terms f (x ∷ l)) seen ≡ unknowns_all (terms f l) seen
  unfolding terms unknowns
  head_same x l seen i = ap (unknowns_all (terms f l)) (seen_same (f x) seen i)

  -- going into a term, and meeting it again behind
  head_into : (g : Label) (x : ℕ) (ys l seen : List ℕ) → f x ≡ built g (terms f ys) → unknowns_all (terms f (ys ++ (x ∷ l))) seen ≡ unknowns_all (terms f (x ∷ l)) seen
  unfolding terms unknowns
  head_into g x ys l seen e =
      let s : unknowns_all (terms f ys) seen ≡ unknowns (f x) seen = ap (λ (t : Term). unknowns t seen) (sym e) in
      terms_append_unknowns f ys (x ∷ l) seen ∙ ap (λ (z : List ℕ). unknowns_all (terms f l) (unknowns (f x) z)) s ∙ ap (unknowns_all (terms f l)) (unknowns_again (f x) seen)

  -- once more behind what it added
  again : (x : ℕ) (l l' seen next end : List ℕ) → l' ≡ x ∷ l → unknowns (f x) seen ≡ next → unknowns_all (terms f l') seen ≡ end → unknowns_all (terms f l') next ≡ end
  unfolding terms unknowns
  again x l l' seen next end e s h =
      let k : unknowns (f x) next ≡ next = ap (unknowns (f x)) (sym s) ∙ unknowns_again (f x) seen ∙ s in
      ap (λ (z : List ℕ). unknowns_all (terms f z) next) e ∙ ap (unknowns_all (terms f l)) (k ∙ sym s) ∙ ap (λ (z : List ℕ). unknowns_all (terms f z) seen) (sym e) ∙ h

  one : (x : ℕ) (seen : List ℕ) → Seen (f x) seen → SeenAll (terms f (x ∷ [])) seen
  unfolding terms
  one x seen i = (i, tt)

  none : (seen : List ℕ) → SeenAll (terms f []) seen
  unfolding terms
  none seen = tt

  over : (x : ℕ) (seen : List ℕ) → Frame f seen x [] → Seen (f x) seen
  over x seen k = subst (λ (t : Term). Seen t seen) (sym (k.split ∙ ap (λ (l : List ℕ). built k.label (terms f l)) (append-nil k.done))) k.settled

  frame_wider : (a b : List ℕ) (x : ℕ) (todo : List ℕ) → Sub a b → Frame f a x todo → Frame f b x todo
  frame_wider a b x todo s k = record { label = k.label; done = k.done; split = k.split; settled = seen_wider_all (terms f k.done) a b s k.settled }

  stack_wider : (ks : List (ℕ × List ℕ)) (a b : List ℕ) → Sub a b → Stack f a ks → Stack f b ks
  stack_wider [] a b s h = tt
  stack_wider (k ∷ ks) a b s h = (frame_wider a b k.0 k.1 s h.0, stack_wider ks a b s h.1)

  -- the start: nothing is met or seen
  pub walk_start : (base : List ℕ) → Walk f (λ x. ⊥) [] base [] (unknowns_all (terms f base) [])
  unfolding todos
  walk_start base = record { left = refl; stack = tt; known = λ x h. absurd h }

  -- the end: all that is seen
  pub walk_end : (met : ℕ → Type 0) (seen end : List ℕ) → Walk f met [] [] seen end → seen ≡ end
  unfolding todos terms unknowns
  walk_end met seen end w = w.left

  module _ (met : ℕ → Type 0) (ks : List (ℕ × List ℕ)) (base seen end : List ℕ) where
    -- what is seen keeps its number to the end, so the texts of what is met are known
    pub walk_position : (r : ℕ) → Walk f met ks base seen end → In r seen → position r end ≡ position r seen
    walk_position r w i = let g = grows_all (terms f (todos ks base)) seen in ap (position r) (sym w.left ∙ g.1) ∙ position_old r seen g.0 i

    pub walk_text : (t : Term) → Walk f met ks base seen end → Seen t seen → term_text t end ≡ term_text t seen
    walk_text t w i = let g = grows_all (terms f (todos ks base)) seen in ap (term_text t) (sym w.left ∙ g.1) ∙ text_stable t seen g.0 i

    -- a term at the head of what is to be met is gone into
    pub walk_into : (x : ℕ) (g : Label) (ys l : List ℕ) → Walk f met ks base seen end → todos ks base ≡ x ∷ l → f x ≡ built g (terms f ys) → Walk f met ((x, ys) ∷ ks) base seen end
    unfolding todos
    walk_into x g ys l w e u = record { left = ap (λ (z : List ℕ). unknowns_all (terms f (ys ++ z)) seen) e ∙ head_into g x ys l seen u ∙ ap (λ (z : List ℕ). unknowns_all (terms f z) seen) (sym e) ∙ w.left; stack = (record { label = g; done = []; split = u; settled = none seen }, w.stack); known = w.known }

    -- a term whose arguments are met is left: its unknowns are seen
    pub walk_out : (x : ℕ) → Walk f met ((x, []) ∷ ks) base seen end → Walk f met ks base seen end × Seen (f x) seen
    unfolding todos
    walk_out x w = (record { left = w.left; stack = w.stack.1; known = w.known }, over x seen w.stack.0)

    -- a query's variable, or an argument, whose unknowns are seen is passed over
    pub walk_next : (x : ℕ) → Walk f met [] (x ∷ base) seen end → Seen (f x) seen → Walk f met [] base seen end
    unfolding todos
    walk_next x w i = record { left = sym (head_same x base seen i) ∙ w.left; stack = tt; known = w.known }

    pub walk_pass : (z x : ℕ) (todo : List ℕ) → Walk f met ((z, x ∷ todo) ∷ ks) base seen end → Seen (f x) seen → Walk f met ((z, todo) ∷ ks) base seen end
    unfolding todos
    walk_pass z x todo w i = record { left = sym (head_same x (todo ++ todos ks base) seen i) ∙ w.left; stack = (passed w.stack.0, w.stack.1); known = w.known }
      where
        passed : Frame f seen z (x ∷ todo) → Frame f seen z todo
        passed k = record { label = k.label; done = k.done ++ (x ∷ []); split = k.split ∙ ap (λ (l : List ℕ). built k.label (terms f l)) (sym (append_assoc k.done (x ∷ []) todo)); settled = terms_append_seen f k.done (x ∷ []) seen k.settled (one x seen i) }

    -- a new unknown, at the head of what is to be met, is seen
    pub walk_number : (x r : ℕ) (l : List ℕ) → Walk f met ks base seen end → todos ks base ≡ x ∷ l → f x ≡ unbound r → (In r seen → ⊥) → Walk f met ks base (seen ++ (r ∷ [])) end
    walk_number x r l w e u n = record { left = go; stack = stack_wider ks seen (seen ++ (r ∷ [])) more w.stack; known = λ y m. seen_wider (f y) seen (seen ++ (r ∷ [])) more (w.known y m) }
      where
        more : Sub seen (seen ++ (r ∷ []))
        more y i = (In-append y seen (r ∷ [])).1 (inl i)

        is : unknowns (f x) seen ≡ seen ++ (r ∷ [])
        is = ap (λ (t : Term). unknowns t seen) u ∙ unknown_new r seen n

        go : unknowns_all (terms f (todos ks base)) (seen ++ (r ∷ [])) ≡ end
        go = again x l (todos ks base) seen (seen ++ (r ∷ [])) end e is w.left

    -- others count as met: those whose unknowns are seen
    pub walk_met : (new : ℕ → Type 0) → Walk f met ks base seen end → ((y : ℕ) → new y → Seen (f y) seen) → Walk f new ks base seen end
    walk_met new w h = record { left = w.left; stack = w.stack; known = h }
