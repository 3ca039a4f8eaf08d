-- The moves by the words that the code reads. Assumes nothing.
use mathlib.Core.Path.{◌≡◌, refl, ap, ap₂, sym, ◌∙◌, subst}
use mathlib.Core.Bool.{Bool, true, false}
use mathlib.Core.List.{List, [], ◌∷◌}
use Prim.Native.Nat.{ℕ, suc, ◌+◌, ◌-◌, ◌/◌, ◌%◌, ◌≤◌, ◌<◌}
use native.Mathlib.Omega.{arith}
use lib.ListN.{length, get_or}
use Rattle.constraint.specs.Constraint.{In}
use Rattle.akl.specs.Answers.{Term, unbound, built, terms, unknowns}
use Rattle.mem_words.specs.declared.Word.{Word}
use Rattle.mem_numbers.specs.Stored.{Stored}
use Rattle.solve_cells.specs.Cells.{Found}
use Rattle.solve_fields.specs.Read.{var_of, is_var, label_at, args_at}
use Rattle.read_nodes.specs.Spell.{named}
use Rattle.answer_text.specs.Lengths.{term_length, cap}
use Rattle.answer_text.proofs.Caps.{cap_most}
use Rattle.work_tables.specs.Tables.{Laid, Peeked}
use Rattle.answer_walk.specs.Walk.{turns}
use Rattle.answer_walk.specs.Numbered.{Numbered}
use Rattle.answer_walk.specs.Stack.{left_at}
use Rattle.answer_walk.proofs.Numbering.{number_old, number_put}
use Rattle.answer_walk.proofs.Stacks.{left_next, left_none}
use Rattle.answer_stack.specs.Slots.{numbers_of, places_of, begun_of, PutNumber, PutBegun, Pushed, same_answered, length_numbers, length_begun}
use Rattle.answer_stack.proofs.Slots.{length_places}
use Rattle.answer_known.specs.Known.{known_of, PutKnown, known_kept}
use Rattle.answer_known.proofs.Known.{length_known}
use Rattle.answer_turn.specs.Turning.{term_in, Shown, CanNumber}
use Rattle.answer_turn.proofs.Reading.{test_is}
use Rattle.answer_order.specs.Order.{left_of, lefts, BoundTo}
use Rattle.answer_order.specs.Memo.{Done}
use Rattle.answer_order.proofs.Order.{closed_args, top_of, room, app_low}
use Rattle.answer_size.specs.Sizes.{CanAdd, AddedAll}
use Rattle.answer_size.proofs.Sizing.{free_at, bound_at, cell_is, class_low}
use Rattle.answer_visit.specs.Visiting.{Numbering, Pending, Opened, CanBegin, Step, Begun, CanTurn, Turned}
use Rattle.answer_visit.proofs.Moves.{visit_free, visit_known, visit_open, turn_next, next_less, turn_close}

-- ---------------------------------------------------------------------------------------------
-- A class is met.

pub met_new : {L X : List ℕ} {r c : ℕ} → Laid L → r < 65535 → get_or (numbers_of L) r 0 ≡ 0 → PutNumber L r (c + 1) X → Numbering L r c X (c + 1)
met_new {L} {X} {r} {c} h l z n = record { numbers = λ s k. number_put r k z l (omega (arith, length_numbers h)) n.number; place = n.place; begun = n.begun; rest = n.rest }

pub met_old : {L : List ℕ} {r e : ℕ} (c : ℕ) → e ≡ get_or (numbers_of L) r 0 → (e ≡ 0 → ⊥) → Numbering L r c L c
met_old {L} {r} {e} c i n = record { numbers = λ s k. subst (λ (u : List ℕ). Numbered (numbers_of L) u c 65535) (sym (number_old r (e - 1) k one).0) k; place = refl; begun = refl; rest = same_answered }
  where
    one : get_or (numbers_of L) r 0 ≡ suc (e - 1)
    one = omega (arith, i, n)

-- ---------------------------------------------------------------------------------------------
-- A variable is visited.

step_at : {N : List ℕ} {W : List Word} {P T I K M G I' K' M' G' : List ℕ} {x₀ h c m n : ℕ} {F : List ℕ} → I' ≡ I → K' ≡ K → M' ≡ M → G' ≡ G → Step N W P T I K M G x₀ h c m F n → Step N W P T I' K' M' G' x₀ h c m F n
step_at {N} {W} {P} {T} {I} {K} {M} {G} {I'} {K'} {M'} {G'} {x₀} {h} {c} {m} {n} {F} a b d e p =
    subst (λ (z : List ℕ). Step N W P T z K' M' G' x₀ h c m F n) (sym a)
    (subst (λ (z : List ℕ). Step N W P T I z M' G' x₀ h c m F n) (sym b)
    (subst (λ (z : List ℕ). Step N W P T I K z G' x₀ h c m F n) (sym d)
    (subst (λ (z : List ℕ). Step N W P T I K M z x₀ h c m F n) (sym e) p)))

bound_is : {T : List ℕ} {y r d : ℕ} → Found T y r → d ≡ get_or T r 0 → d % 4 ≡ 2 → BoundTo T y (d / 256)
bound_is g e b = record { bound = bound_at g e b; app = ap (λ (z : ℕ). z / 256) (sym (cell_is g e)) }

module _ {P T : List ℕ} where
  pub did_free : {L X : List ℕ} {y r d h c c' : ℕ} → Found T y r → d ≡ get_or T r 0 → (d % 4 ≡ 2 → ⊥) → Numbering L r c X c' → Begun P T (places_of L) (begun_of L) (numbers_of L) (known_of L) y h c (places_of X) (begun_of X) (numbers_of X) (known_of X) h c'
  did_free {L} {X} {y} {r} {d} {h} {c} {c'} g e n k = record { step = λ N W sh x₀ m s F p. step_at k.place k.begun refl (known_kept k.rest) (visit_free N W P T sh (free_at g e n) (subst (λ (z : ℕ). Numbered (numbers_of X) (unknowns (unbound z) s) c' 65535) g.is (k.numbers s p.met.numbers)) p) }

  pub did_known : {I K M G : List ℕ} {y r d e h c : ℕ} → Found T y r → d ≡ get_or T r 0 → d % 4 ≡ 2 → e ≡ get_or G (d / 256) 0 → (e ≡ 0 → ⊥) → Begun P T I K M G y h c I K M G h c
  did_known {I} {K} {M} {G} {y} {r} {d} {e} {h} {c} g q b i n = record { step = λ N W sh x₀ m s F p. visit_known N W P T sh (bound_at g q b) (λ z. n (i ∙ ap (λ (u : ℕ). get_or G (u / 256) 0) (cell_is g q) ∙ z)) p }

  pub did_open : {L X : List ℕ} {y r d h c : ℕ} → Laid L → h < 2048 → Found T y r → d ≡ get_or T r 0 → d % 4 ≡ 2 → Pushed L h (d / 256) 0 X → Begun P T (places_of L) (begun_of L) (numbers_of L) (known_of L) y h c (places_of X) (begun_of X) (numbers_of X) (known_of X) (h + 1) c
  did_open {L} {X} {y} {r} {d} {h} {c} ld l g q b k = record { step = λ N W sh x₀ m s F p. step_at refl refl k.number (known_kept k.rest) (visit_open N W P T sh (bound_is g q b) k.place k.begun (omega (arith, l, length_places ld)) (omega (arith, l, length_begun ld)) p) }

  pub begin_room : {I K M G : List ℕ} {y r d h c : ℕ} → Found T y r → d ≡ get_or T r 0 → d % 4 ≡ 2 → CanBegin P T I K M G y h c → h < length P
  begin_room {I} {K} {M} {G} {y} {r} {d} {h} {c} g q b k = room k.words P T k.root (Done (term_in k.names k.words P T) T G k.seen) I K h k.shown.acyclic (length P) k.shown.apps (bound_is g q b) k.state.going

  pub begin_number : {L K I G : List ℕ} {y r h c : ℕ} → Laid L → Found T y r → CanBegin P T I K (numbers_of L) G y h c → CanNumber L r c
  begin_number l g k = record { laid = l; low = class_low k.shown g k.state.low; seen = k.seen; numbers = k.state.met.numbers }

-- ---------------------------------------------------------------------------------------------
-- The top of the stack.

abbrev long_at : List ℕ → List Word → List ℕ → List ℕ → ℕ → ℕ → List ℕ → ℕ
long_at N W P T m p s = cap m (term_length (built (named N (label_at W p)) (terms (term_in N W P T) (args_at W p))) s)

pending_at : {N : List ℕ} {W : List Word} {P T I K M G I' K' M' G' : List ℕ} {x₀ y h h' c m : ℕ} {s F : List ℕ} → I' ≡ I → K' ≡ K → M' ≡ M → G' ≡ G → h' ≡ h → Pending N W P T I K M G x₀ y h c m s F → Pending N W P T I' K' M' G' x₀ y h' c m s F
pending_at {N} {W} {P} {T} {I} {K} {M} {G} {I'} {K'} {M'} {G'} {x₀} {y} {h} {h'} {c} {m} {s} {F} a b d e g p =
    subst (λ (z : List ℕ). Pending N W P T z K' M' G' x₀ y h' c m s F) (sym a)
    (subst (λ (z : List ℕ). Pending N W P T I z M' G' x₀ y h' c m s F) (sym b)
    (subst (λ (z : List ℕ). Pending N W P T I K z G' x₀ y h' c m s F) (sym d)
    (subst (λ (z : List ℕ). Pending N W P T I K M z x₀ y h' c m s F) (sym e)
    (subst (λ (z : ℕ). Pending N W P T I K M G x₀ y z c m s F) (sym g) p))))

opened_at : {N : List ℕ} {W : List Word} {P T I K M G : List ℕ} {x₀ h i c m : ℕ} {s F : List ℕ} → h ≡ i + 1 → Opened N W P T I K M G x₀ h c m s F → Opened N W P T I K M G x₀ (suc i) c m s F
opened_at {N} {W} {P} {T} {I} {K} {M} {G} {x₀} {h} {i} {c} {m} {s} {F} e p = let z : h ≡ suc i = omega (arith, e) in subst (λ (j : ℕ). Opened N W P T I K M G x₀ j c m s F) z p

left_var : (W : List Word) (P I K : List ℕ) (i : ℕ) {k n p y : ℕ} {v : Word} (t : Bool) → k ≡ get_or I i 0 → n ≡ get_or K i 0 → p ≡ get_or P k 0 → Peeked W (p + 3 + n) v → t ≡ is_var v → t ≡ true → y ≡ var_of v → left_of W P I K i ≡ y ∷ left_at W (get_or P (get_or I i 0) 0) (n + 1)
unfolding left_of
left_var W P I K i {k} {n} {p} {y} {v} t ek en ep j q r e =
    let z : p ≡ get_or P (get_or I i 0) 0 = ep ∙ ap (λ (u : ℕ). get_or P u 0) ek in
    ap₂ (left_at W) (sym z) (sym en) ∙ left_next W p n (test_is true t j q r) ∙ ap₂ (λ (a b : ℕ). a ∷ left_at W b (n + 1)) (sym (e ∙ ap var_of j.is)) z

left_nil : (W : List Word) (P I K : List ℕ) (i : ℕ) {k n p : ℕ} {v : Word} (t : Bool) → k ≡ get_or I i 0 → n ≡ get_or K i 0 → p ≡ get_or P k 0 → Peeked W (p + 3 + n) v → t ≡ is_var v → t ≡ false → left_of W P I K i ≡ []
unfolding left_of
left_nil W P I K i {k} {n} {p} {v} t ek en ep j q r =
    let z : p ≡ get_or P (get_or I i 0) 0 = ep ∙ ap (λ (u : ℕ). get_or P u 0) ek in
    ap₂ (left_at W) (sym z) (sym en) ∙ left_none W p n (test_is false t j q r)

module _ {N : List ℕ} {W : List Word} {P T : List ℕ} (sh : Shown N W P T) where
  pub top_high : {I K M G : List ℕ} {h c m : ℕ} → 0 < h → CanTurn N W P T I K M G h c m → h ≤ length P
  top_high {I} {K} {M} {G} {h} {c} {m} l k =
      let Q : ℕ → Type 0 = Done (term_in N W P T) T G k.seen in
      let e : h ≡ (h - 1) + 1 = omega arith in
      let x = top_of W P T k.root I K (h - 1) Q (opened_at e k.state).open' in
      omega (arith, room W P T k.root Q I K (h - 1) sh.acyclic (length P) sh.apps x.1 x.2)

  pub top_low : {I K M G : List ℕ} {h j c m : ℕ} (i : ℕ) → h ≡ i + 1 → j ≡ get_or I i 0 → CanTurn N W P T I K M G h c m → j < length P
  top_low {I} {K} {M} {G} {h} {j} {c} {m} i e q k =
      let Q : ℕ → Type 0 = Done (term_in N W P T) T G k.seen in
      let x = top_of W P T k.root I K i Q (opened_at e k.state).open' in
      subst (λ (z : ℕ). z < length P) (sym q) (app_low W P T k.root (length P) sh.apps x.1)

  module _ {h j p : ℕ} {v : Word} (L : List ℕ) (i n c : ℕ) (t : Bool) (eh : h ≡ i + 1) (ej : j ≡ get_or (places_of L) i 0) (en : n ≡ get_or (begun_of L) i 0) (ep : p ≡ get_or P j 0) (pk : Peeked W (p + 3 + n) v) (et : t ≡ is_var v) where
    args_done : {m : ℕ} {s F : List ℕ} (x₀ : ℕ) → t ≡ false → Opened N W P T (places_of L) (begun_of L) (numbers_of L) (known_of L) x₀ h c m s F → (y : ℕ) → In y (args_at W p) → Done (term_in N W P T) T (known_of L) s y
    args_done {m} {s} {F} x₀ r o y i' =
        let z : p ≡ get_or P (get_or (places_of L) i 0) 0 = ep ∙ ap (λ (u : ℕ). get_or P u 0) ej in
        closed_args W P T x₀ (places_of L) (begun_of L) i (Done (term_in N W P T) T (known_of L) s) (left_nil W P (places_of L) (begun_of L) i t ej en ep pk et r) (opened_at eh o).open' y (subst (λ (u : ℕ). In y (args_at W u)) z i')

    -- no argument is left
    pub close_can : {m : ℕ} → t ≡ false → CanTurn N W P T (places_of L) (begun_of L) (numbers_of L) (known_of L) h c m → CanAdd W P T (numbers_of L) (known_of L) (args_at W p) m
    close_can {m} r k = record { names = N; shown = sh; seen = k.seen; count = c; met = k.state.met; done = args_done k.root r k.state }

    pub close_small : {m l : ℕ} → m < 4294967294 → t ≡ false → CanTurn N W P T (places_of L) (begun_of L) (numbers_of L) (known_of L) h c m → AddedAll N W P T (numbers_of L) (known_of L) p m l → l + 1 < 4294967296
    close_small {m} {l} lm r k a = omega (arith, lm, a.is k.seen c k.state.met (args_done k.root r k.state), cap_most m (term_length (built (named N (label_at W p)) (terms (term_in N W P T) (args_at W p))) k.seen))

    pub did_close : {X : List ℕ} {m l : ℕ} → Laid L → j < 2048 → t ≡ false → AddedAll N W P T (numbers_of L) (known_of L) p m l → PutKnown L j (l + 1) X → Turned N W P T (places_of L) (begun_of L) (numbers_of L) (known_of L) h c m (places_of X) (begun_of X) (numbers_of X) (known_of X) i c
    did_close {X} {m} {l} ld lj r a k = record { step = λ x₀ s F o. step_at k.place k.begun k.number refl (subst (λ (u : ℕ). Step N W P T (places_of L) (begun_of L) (numbers_of L) (known_of X) x₀ i c m F (turns (term_in N W P T) (lefts W P (places_of L) (begun_of L) u))) (sym one) (turn_close N W P T sh (left_nil W P (places_of L) (begun_of L) i t ej en ep pk et r) stored (omega (arith, lj, sym ej, length_known ld)) (len x₀ s F o) (opened_at eh o))) }
      where
        one : h ≡ suc i
        one = omega (arith, eh)

        stored : Stored (known_of L) (get_or (places_of L) i 0) (suc l) (known_of X)
        stored = let z : l + 1 ≡ suc l = omega arith in subst (λ (u : ℕ). Stored (known_of L) u (suc l) (known_of X)) ej (subst (λ (u : ℕ). Stored (known_of L) j u (known_of X)) z k.known)

        len : (x₀ : ℕ) (s F : List ℕ) → Opened N W P T (places_of L) (begun_of L) (numbers_of L) (known_of L) x₀ h c m s F → l ≡ long_at N W P T m (get_or P (get_or (places_of L) i 0) 0) s
        len x₀ s F o = subst (λ (u : ℕ). l ≡ long_at N W P T m u s) (ep ∙ ap (λ (u : ℕ). get_or P u 0) ej) (a.is s c o.met (args_done x₀ r o))

    -- the next one is visited
    module _ {X : List ℕ} {y : ℕ} (ld : Laid L) (li : i < 2048) (r : t ≡ true) (ev : y ≡ var_of v) (k : PutBegun L i (n + 1) X) where
      next_is : left_of W P (places_of L) (begun_of L) i ≡ y ∷ left_at W (get_or P (get_or (places_of L) i 0) 0) (n + 1)
      next_is = left_var W P (places_of L) (begun_of L) i t ej en ep pk et r ev

      low_y : y < 65535
      low_y = subst (λ (u : ℕ). u < 65535) (sym (ev ∙ ap var_of pk.is)) (sh.vars.low (p + 3 + n))

      next_pending : {m x₀ : ℕ} {s F : List ℕ} → Opened N W P T (places_of L) (begun_of L) (numbers_of L) (known_of L) x₀ h c m s F → Pending N W P T (places_of X) (begun_of X) (numbers_of X) (known_of X) x₀ y h c m s F
      next_pending {m} {x₀} {s} {F} o = pending_at k.place refl k.number (known_kept k.rest) one (turn_next N W P T sh next_is k.begun (omega (arith, li, length_begun ld)) low_y (opened_at eh o))
        where
          one : h ≡ suc i
          one = omega (arith, eh)

      pub next_can : {m : ℕ} → CanTurn N W P T (places_of L) (begun_of L) (numbers_of L) (known_of L) h c m → CanBegin P T (places_of X) (begun_of X) (numbers_of X) (known_of X) y h c
      next_can {m} q = record { names = N; words = W; shown = sh; root = q.root; most = m; seen = q.seen; final = q.final; state = next_pending q.state }

      pub did_next : {I' K' M' G' : List ℕ} {h' c' : ℕ} (m : ℕ) → Begun P T (places_of X) (begun_of X) (numbers_of X) (known_of X) y h c I' K' M' G' h' c' → Turned N W P T (places_of L) (begun_of L) (numbers_of L) (known_of L) h c m I' K' M' G' h' c'
      did_next m b = record {
        step = λ x₀ s F o.
            let st = b.step N W sh x₀ m s F (next_pending o) in
            record { seen = st.seen; state = st.state; less = omega (arith, st.less, next_less N W P T sh (places_of L) next_is k.begun (omega (arith, li, length_begun ld)), same, was) };
      }
        where
          f : ℕ → Term
          f = term_in N W P T

          one : h ≡ suc i
          one = omega (arith, eh)

          same : turns f (lefts W P (places_of X) (begun_of X) h) ≡ turns f (lefts W P (places_of L) (begun_of X) (suc i))
          same = ap₂ (λ (z : List ℕ) (u : ℕ). turns f (lefts W P z (begun_of X) u)) k.place one

          was : turns f (lefts W P (places_of L) (begun_of L) h) ≡ turns f (lefts W P (places_of L) (begun_of L) (suc i))
          was = ap (λ (u : ℕ). turns f (lefts W P (places_of L) (begun_of L) u)) one
