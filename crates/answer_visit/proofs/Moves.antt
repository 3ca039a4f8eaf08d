-- One law for each move of the search. Assumes nothing.
use mathlib.Core.Path.{◌≡◌, refl, ap, sym, ◌∙◌, subst}
use mathlib.Core.List.{List, [], ◌∷◌}
use Prim.Native.Nat.{ℕ, suc, ◌+◌, ◌/◌, ◌%◌, ◌<◌}
use native.Mathlib.Omega.{arith}
use lib.ListN.{length, get_or}
use Rattle.constraint.specs.Tree.{Label}
use Rattle.constraint.specs.Constraint.{In}
use Rattle.akl.specs.Answers.{Term, unbound, built, Terms, terms, unknowns, unknowns_all}
use Rattle.runs.proofs.Shows.{Seen}
use Rattle.mem_words.specs.declared.Word.{Word}
use Rattle.mem_numbers.specs.Stored.{Stored}
use Rattle.read_nodes.specs.Spell.{named}
use Rattle.solve_cells.specs.Cells.{rep}
use Rattle.solve_fields.specs.Read.{label_at, args_at}
use Rattle.solve_explores.specs.Search.{cell_of}
use Rattle.answer_text.specs.Lengths.{term_length, cap}
use Rattle.answer_walk.specs.Walk.{met as met_by, nodes, nodes_all, turns}
use Rattle.answer_walk.specs.Numbered.{Numbered}
use Rattle.answer_walk.specs.Stack.{left_at}
use Rattle.answer_walk.proofs.Prefix.{Grows, unknowns_grow}
use Rattle.answer_walk.proofs.Turns.{fewer_comma, fewer_close}
use Rattle.answer_turn.specs.Turning.{term_in, Shown}
use Rattle.answer_order.specs.Order.{left_of, lefts, BoundTo, Going, Open}
use Rattle.answer_order.specs.Memo.{Measured, Done}
use Rattle.answer_order.proofs.Order.{lefts_push, lefts_next, lefts_top, going_map, visited, opened, next, closed_args, top_of}
use Rattle.answer_order.proofs.Memo.{done_later, memo_later, done_unbound, done_known, known_same, done_more, memo_more, done_bound, seen_each}
use Rattle.answer_size.proofs.Terms.{free_term, app_term}
use Rattle.answer_visit.specs.Visiting.{Pending, Opened, Step}

nodes_some : (t : Term) → 0 < nodes t
unfolding nodes
nodes_some (unbound r) = omega arith
nodes_some (built g ts) = omega arith

nodes_built : (g : Label) (ts : Terms) → nodes (built g ts) ≡ 1 + nodes_all ts
unfolding nodes
nodes_built g ts = refl

turns_more : (f : ℕ → Term) (ys : List ℕ) (fs : List (List ℕ)) → turns f (ys ∷ fs) ≡ nodes_all (terms f ys) + turns f fs
unfolding turns
turns_more f ys fs = refl

met_more : (f : ℕ → Term) (ys : List ℕ) (fs : List (List ℕ)) (s : List ℕ) → met_by f (ys ∷ fs) s ≡ met_by f fs (unknowns_all (terms f ys) s)
unfolding met_by
met_more f ys fs s = refl

met_next : (f : ℕ → Term) (y : ℕ) (ys : List ℕ) (fs : List (List ℕ)) (s : List ℕ) → met_by f ((y ∷ ys) ∷ fs) s ≡ met_by f (ys ∷ fs) (unknowns (f y) s)
unfolding met_by terms unknowns
met_next f y ys fs s = refl

met_end : (f : ℕ → Term) (fs : List (List ℕ)) (s : List ℕ) → met_by f ([] ∷ fs) s ≡ met_by f fs s
unfolding met_by terms unknowns
met_end f fs s = refl

unknowns_built : (g : Label) (ts : Terms) (s : List ℕ) → unknowns (built g ts) s ≡ unknowns_all ts s
unfolding unknowns
unknowns_built g ts s = refl

module _ (N : List ℕ) (W : List Word) (P T : List ℕ) (sh : Shown N W P T) where
  abbrev f : ℕ → Term
  f = term_in N W P T

  seen_app : (x k : ℕ) (s : List ℕ) → BoundTo T x k → ((y : ℕ) → In y (args_at W (get_or P k 0)) → Seen (f y) s) → Seen (f x) s
  seen_app x k s b h = subst (λ (t : Term). Seen t s) (sym (app_term N W P T sh x k b)) (seen_each f (args_at W (get_or P k 0)) s h)

  -- ---------------------------------------------------------------------------------------------
  -- A variable is visited.

  -- an unbound class
  pub visit_free : {I K M G M' : List ℕ} {x₀ y h c c' m : ℕ} {s F : List ℕ} → (cell_of T y % 4 ≡ 2 → ⊥) → Numbered M' (unknowns (unbound (rep T y)) s) c' 65535 → Pending N W P T I K M G x₀ y h c m s F → Step N W P T I K M' G x₀ h c' m F (nodes (f y) + turns f (lefts W P I K h))
  visit_free {I} {K} {M} {G} {M'} {x₀} {y} {h} {c} {c'} {m} {s} {F} n k p = record {
    seen = u;
    state = record {
      met = record { numbers = subst (λ (t : Term). Numbered M' (unknowns t s) c' 65535) (sym e) k; memo = memo_later f T g p.met.memo };
      open' = visited W P T x₀ (Done f T G u) I K h y (done_unbound f T s y (rep T y) n e) (going_map W P T x₀ (Done f T G s) (Done f T G u) I K h y (done_later f T g) p.going);
      left = p.left;
    };
    less = omega (arith, nodes_some (f y));
  }
    where
      u : List ℕ
      u = unknowns (f y) s

      e : f y ≡ unbound (rep T y)
      e = free_term N W P T sh y n

      g : Grows s u
      g = unknowns_grow (f y) s

  -- an application whose length is known
  pub visit_known : {I K M G : List ℕ} {x₀ y h c m : ℕ} {s F : List ℕ} → cell_of T y % 4 ≡ 2 → (get_or G (cell_of T y / 256) 0 ≡ 0 → ⊥) → Pending N W P T I K M G x₀ y h c m s F → Step N W P T I K M G x₀ h c m F (nodes (f y) + turns f (lefts W P I K h))
  visit_known {I} {K} {M} {G} {x₀} {y} {h} {c} {m} {s} {F} b n p = record {
    seen = s;
    state = record {
      met = p.met;
      open' = visited W P T x₀ (Done f T G s) I K h y d p.going;
      left = ap (met_by f (lefts W P I K h)) (sym (known_same f T y d)) ∙ p.left;
    };
    less = omega (arith, nodes_some (f y));
  }
    where
      d : Done f T G s y
      d = done_known f T y p.met.memo b n

  -- one that is not
  pub visit_open : {I K M G I' K' : List ℕ} {x₀ y h k c m : ℕ} {s F : List ℕ} → BoundTo T y k → Stored I h k I' → Stored K h 0 K' → h < length I → h < length K → Pending N W P T I K M G x₀ y h c m s F → Step N W P T I' K' M G x₀ (h + 1) c m F (nodes (f y) + turns f (lefts W P I K h))
  visit_open {I} {K} {M} {G} {I'} {K'} {x₀} {y} {h} {k} {c} {m} {s} {F} b a d l n p = record {
    seen = s;
    state = record {
      met = p.met;
      open' = subst (Open (Done f T G s) W P T I' K' x₀) (sym one) (opened W P T x₀ (Done f T G s) y b a d l n p.going);
      left = ap (λ (fs : List (List ℕ)). met_by f fs s) same ∙ met_more f ys (lefts W P I K h) s ∙ ap (met_by f (lefts W P I K h)) (sym (unknowns_built g (terms f ys) s) ∙ ap (λ (t : Term). unknowns t s) (sym e)) ∙ p.left;
    };
    less = omega (arith, ap (turns f) same, turns_more f ys (lefts W P I K h), ap nodes e, nodes_built g (terms f ys));
  }
    where
      one : h + 1 ≡ suc h
      one = omega arith

      ys : List ℕ
      ys = args_at W (get_or P k 0)

      g : Label
      g = named N (label_at W (get_or P k 0))

      e : f y ≡ built g (terms f ys)
      e = app_term N W P T sh y k b

      same : lefts W P I' K' (h + 1) ≡ ys ∷ lefts W P I K h
      same = lefts_push W P a d l n

  -- ---------------------------------------------------------------------------------------------
  -- The top of the stack.

  -- its next argument
  pub turn_next : {I K M G K' : List ℕ} {x₀ y h n c m : ℕ} {s F : List ℕ} → left_of W P I K h ≡ y ∷ left_at W (get_or P (get_or I h 0) 0) n → Stored K h n K' → h < length K → y < 65535 → Opened N W P T I K M G x₀ (suc h) c m s F → Pending N W P T I K' M G x₀ y (suc h) c m s F
  turn_next {I} {K} {M} {G} {K'} {x₀} {y} {h} {n} {c} {m} {s} {F} e b l low p = record {
    met = p.met;
    going = next W P T x₀ I y (Done f T G s) e b l p.open';
    left = ap (λ (fs : List (List ℕ)). met_by f fs (unknowns (f y) s)) (lefts_next W P I b l) ∙ sym (met_next f y ys (lefts W P I K h) s) ∙ ap (λ (fs : List (List ℕ)). met_by f fs s) (sym top) ∙ p.left;
    low = low;
  }
    where
      ys : List ℕ
      ys = left_at W (get_or P (get_or I h 0) 0) n

      top : lefts W P I K (suc h) ≡ (y ∷ ys) ∷ lefts W P I K h
      top = lefts_top W P I K h ∙ ap (λ (z : List ℕ). z ∷ lefts W P I K h) e

  pub next_less : (I : List ℕ) {K K' : List ℕ} {y h n : ℕ} → left_of W P I K h ≡ y ∷ left_at W (get_or P (get_or I h 0) 0) n → Stored K h n K' → h < length K → nodes (f y) + turns f (lefts W P I K' (suc h)) < turns f (lefts W P I K (suc h))
  next_less I {K} {K'} {y} {h} {n} e b l =
      let ys : List ℕ = left_at W (get_or P (get_or I h 0) 0) n in
      let top : lefts W P I K (suc h) ≡ (y ∷ ys) ∷ lefts W P I K h = lefts_top W P I K h ∙ ap (λ (z : List ℕ). z ∷ lefts W P I K h) e in
      omega (arith, fewer_comma f y ys (lefts W P I K h), ap (turns f) top, ap (turns f) (lefts_next W P I b l))

  -- no argument is left: its length becomes known
  pub turn_close : {I K M G G' : List ℕ} {x₀ h v c m : ℕ} {s F : List ℕ} → left_of W P I K h ≡ [] → Stored G (get_or I h 0) (suc v) G' → get_or I h 0 < length G → v ≡ cap m (term_length (built (named N (label_at W (get_or P (get_or I h 0) 0))) (terms f (args_at W (get_or P (get_or I h 0) 0)))) s) → Opened N W P T I K M G x₀ (suc h) c m s F → Step N W P T I K M G' x₀ h c m F (turns f (lefts W P I K (suc h)))
  turn_close {I} {K} {M} {G} {G'} {x₀} {h} {v} {c} {m} {s} {F} e st l q p = record {
    seen = s;
    state = record {
      met = record { numbers = p.met.numbers; memo = memo_more f T st l each p.met.memo };
      open' = visited W P T x₀ (Done f T G' s) I K h x.0 (done_bound f T st l x.0 x.1 (all x.0 x.1)) (going_map W P T x₀ (Done f T G s) (Done f T G' s) I K h x.0 (done_more f T st l) x.2);
      left = sym (met_end f (lefts W P I K h) s) ∙ ap (λ (fs : List (List ℕ)). met_by f fs s) (sym top) ∙ p.left;
    };
    less = omega (arith, fewer_close f (lefts W P I K h), ap (turns f) top);
  }
    where
      k : ℕ
      k = get_or I h 0

      x : (y : ℕ) × BoundTo T y (get_or I h 0) × Going (Done f T G s) W P T I K x₀ h y
      x = top_of W P T x₀ I K h (Done f T G s) p.open'

      top : lefts W P I K (suc h) ≡ [] ∷ lefts W P I K h
      top = lefts_top W P I K h ∙ ap (λ (z : List ℕ). z ∷ lefts W P I K h) e

      all : (y : ℕ) → BoundTo T y k → Seen (f y) s
      all y b = seen_app y k s b (λ z i. (closed_args W P T x₀ I K h (Done f T G s) e p.open' z i).seen)

      each : (y : ℕ) → BoundTo T y k → Measured (f y) s m (suc v)
      each y b = record { seen = all y b; is = ap suc (q ∙ ap (λ (t : Term). cap m (term_length t s)) (sym (app_term N W P T sh y k b))) }
