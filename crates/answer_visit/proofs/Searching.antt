-- The search from its start to its end. Assumes nothing.
use mathlib.Core.Path.{◌≡◌, refl, ap, sym, ◌∙◌, subst}
use mathlib.Core.List.{List, []}
use Prim.Native.Nat.{ℕ, ◌<◌}
use Rattle.akl.specs.Answers.{Term, unknowns}
use Rattle.mem_words.specs.declared.Word.{Word}
use Rattle.work_tables.specs.Tables.{cells_of, pos_of, log_of, Laid, Logged}
use Rattle.answer_walk.specs.Walk.{met as met_by, turns}
use Rattle.answer_stack.specs.Slots.{Answered, answered_to, answered_at}
use Rattle.answer_known.specs.Known.{Counted, counted_to, counted_at}
use Rattle.answer_turn.specs.Turning.{term_in, Shown}
use Rattle.answer_order.specs.Order.{lefts, Open}
use Rattle.answer_order.specs.Memo.{Done, Met}
use Rattle.answer_order.proofs.Order.{root_begin, root_done}
use Rattle.answer_visit.specs.Visiting.{Pending, Opened, CanBegin, Begun, CanTurn, Turned, Finished, CanVisit, Visited}

-- for the list of those that were met at first
pub record Here (N : List ℕ) (W : List Word) (P T I K M G : List ℕ) (x₀ h c m : ℕ) (F : List ℕ) : Type 0 where
  pub seen : List ℕ
  pub state : Opened N W P T I K M G x₀ h c m seen F

pub record Searching (N : List ℕ) (W : List Word) (P T I₀ K₀ M₀ G₀ : List ℕ) (h₀ c₀ m : ℕ) (I K M G : List ℕ) (h c : ℕ) : Type 0 where
  pub here : (x₀ : ℕ) (s F : List ℕ) → Opened N W P T I₀ K₀ M₀ G₀ x₀ h₀ c₀ m s F → Here N W P T I K M G x₀ h c m F

lefts_none : (W : List Word) (P I K : List ℕ) → lefts W P I K 0 ≡ []
unfolding lefts
lefts_none W P I K = refl

met_none : (f : ℕ → Term) (s : List ℕ) → met_by f [] s ≡ s
unfolding met_by
met_none f s = refl

module _ (N : List ℕ) (W : List Word) (P T : List ℕ) where
  pub search_start : (I K M G : List ℕ) (h c m : ℕ) → Searching N W P T I K M G h c m I K M G h c
  search_start I K M G h c m = record { here = λ x₀ s F o. record { seen = s; state = o } }

  module _ {I₀ K₀ M₀ G₀ : List ℕ} {h₀ c₀ m : ℕ} {I K M G : List ℕ} {h c : ℕ} where
    -- what the next turn starts with
    pub search_can : CanTurn N W P T I₀ K₀ M₀ G₀ h₀ c₀ m → Searching N W P T I₀ K₀ M₀ G₀ h₀ c₀ m I K M G h c → CanTurn N W P T I K M G h c m
    search_can k v = let u = v.here k.root k.seen k.final k.state in record { root = k.root; seen = u.seen; final = k.final; state = u.state }

    -- one turn more
    pub search_more : {I' K' M' G' : List ℕ} {h' c' : ℕ} → Searching N W P T I₀ K₀ M₀ G₀ h₀ c₀ m I K M G h c → Turned N W P T I K M G h c m I' K' M' G' h' c' → Searching N W P T I₀ K₀ M₀ G₀ h₀ c₀ m I' K' M' G' h' c'
    search_more v t = record { here = λ x₀ s F o. let u = v.here x₀ s F o in let n = t.step x₀ u.seen F u.state in record { seen = n.seen; state = n.state } }

    pub search_less : {I' K' M' G' : List ℕ} {h' c' : ℕ} → CanTurn N W P T I₀ K₀ M₀ G₀ h₀ c₀ m → Searching N W P T I₀ K₀ M₀ G₀ h₀ c₀ m I K M G h c → Turned N W P T I K M G h c m I' K' M' G' h' c' → turns (term_in N W P T) (lefts W P I' K' h') < turns (term_in N W P T) (lefts W P I K h)
    search_less k v t = let u = v.here k.root k.seen k.final k.state in (t.step k.root u.seen k.final u.state).less

    -- the stack is empty
    pub search_done : Searching N W P T I₀ K₀ M₀ G₀ h₀ c₀ m I K M G h c → h ≡ 0 → Finished N W P T I₀ K₀ M₀ G₀ h₀ c₀ m M G c
    search_done v e = record {
      met = λ x₀ s F o. let u = v.here x₀ s F o in subst (λ (l : List ℕ). Met (term_in N W P T) T M G c m l) (last u.state) u.state.met;
      done = λ x₀ s F o. let u = v.here x₀ s F o in subst (λ (l : List ℕ). Done (term_in N W P T) T G l x₀) (last u.state) (root_done W P T x₀ (Done (term_in N W P T) T G u.seen) I K (subst (Open (Done (term_in N W P T) T G u.seen) W P T I K x₀) e u.state.open'));
    }
      where
        last : {x₀ : ℕ} {s F : List ℕ} → Opened N W P T I K M G x₀ h c m s F → s ≡ F
        last {x₀} {s} {F} o = sym (met_none (term_in N W P T) s) ∙ ap (λ (fs : List (List ℕ)). met_by (term_in N W P T) fs s) (sym (ap (lefts W P I K) e ∙ lefts_none W P I K)) ∙ o.left

  -- a root
  root_pending : {M G : List ℕ} {x c m : ℕ} {s : List ℕ} (I K : List ℕ) → x < 65535 → Met (term_in N W P T) T M G c m s → Pending N W P T I K M G x x 0 c m s (unknowns (term_in N W P T x) s)
  root_pending {M} {G} {x} {c} {m} {s} I K l k = record { met = k; going = root_begin W P T x (Done (term_in N W P T) T G s) I K; left = ap (λ (fs : List (List ℕ)). met_by (term_in N W P T) fs (unknowns (term_in N W P T x) s)) (lefts_none W P I K) ∙ met_none (term_in N W P T) (unknowns (term_in N W P T x) s); low = l }

  module _ {M G : List ℕ} {x c m : ℕ} (sh : Shown N W P T) (I K : List ℕ) where
    pub root_can : CanVisit N W P T M G x c m → CanBegin P T I K M G x 0 c
    root_can v = record { names = N; words = W; shown = sh; root = x; most = m; seen = v.seen; final = unknowns (term_in N W P T x) v.seen; state = root_pending I K v.low v.met }

    module _ {I₁ K₁ M₁ G₁ : List ℕ} {h₁ c₁ : ℕ} (b : Begun P T I K M G x 0 c I₁ K₁ M₁ G₁ h₁ c₁) (v : CanVisit N W P T M G x c m) where
      pub root_turn : CanTurn N W P T I₁ K₁ M₁ G₁ h₁ c₁ m
      root_turn =
          let F : List ℕ = unknowns (term_in N W P T x) v.seen in
          let st = b.step N W sh x m v.seen F (root_pending I K v.low v.met) in
          record { root = x; seen = st.seen; final = F; state = st.state }

      pub root_visited : {M' G' : List ℕ} {c' : ℕ} → Finished N W P T I₁ K₁ M₁ G₁ h₁ c₁ m M' G' c' → Visited N W P T M G x c m M' G' c'
      root_visited n = record {
        met = λ s k. let F : List ℕ = unknowns (term_in N W P T x) s in let st = b.step N W sh x m s F (root_pending I K v.low k) in n.met x st.seen F st.state;
        done = λ s k. let F : List ℕ = unknowns (term_in N W P T x) s in let st = b.step N W sh x m s F (root_pending I K v.low k) in n.done x st.seen F st.state;
      }

-- ---------------------------------------------------------------------------------------------
-- The solver's tables are as they were at first.

module _ {L X : List ℕ} (used : ℕ) (l : Logged used) (h₀ : Laid L) (p : Answered L X) where
  pub can_begin_to : {I K M G : List ℕ} {y h c : ℕ} → CanBegin (pos_of L) (cells_of L) I K M G y h c → CanBegin (pos_of X) (cells_of X) I K M G y h c
  can_begin_to {I} {K} {M} {G} {y} {h} {c} q = answered_to used (λ (W : List Word) (P T : List ℕ). CanBegin P T I K M G y h c) l h₀ p q

  pub begun_at : {I K M G I' K' M' G' : List ℕ} {y h c h' c' : ℕ} → Begun (pos_of X) (cells_of X) I K M G y h c I' K' M' G' h' c' → Begun (pos_of L) (cells_of L) I K M G y h c I' K' M' G' h' c'
  begun_at {I} {K} {M} {G} {I'} {K'} {M'} {G'} {y} {h} {c} {h'} {c'} q = answered_at used (λ (W : List Word) (P T : List ℕ). Begun P T I K M G y h c I' K' M' G' h' c') l h₀ p q

module _ {L X : List ℕ} (used : ℕ) (l : Logged used) (h₀ : Laid L) (p : Counted L X) where
  pub shown_to : {N : List ℕ} → Shown N (log_of used L) (pos_of L) (cells_of L) → Shown N (log_of used X) (pos_of X) (cells_of X)
  shown_to {N} q = counted_to used (λ (W : List Word) (P T : List ℕ). Shown N W P T) l h₀ p q

  pub can_turn_to : {N I K M G : List ℕ} {h c m : ℕ} → CanTurn N (log_of used L) (pos_of L) (cells_of L) I K M G h c m → CanTurn N (log_of used X) (pos_of X) (cells_of X) I K M G h c m
  can_turn_to {N} {I} {K} {M} {G} {h} {c} {m} q = counted_to used (λ (W : List Word) (P T : List ℕ). CanTurn N W P T I K M G h c m) l h₀ p q

  pub turned_at : {N I K M G I' K' M' G' : List ℕ} {h c m h' c' : ℕ} → Turned N (log_of used X) (pos_of X) (cells_of X) I K M G h c m I' K' M' G' h' c' → Turned N (log_of used L) (pos_of L) (cells_of L) I K M G h c m I' K' M' G' h' c'
  turned_at {N} {I} {K} {M} {G} {I'} {K'} {M'} {G'} {h} {c} {m} {h'} {c'} q = counted_at used (λ (W : List Word) (P T : List ℕ). Turned N W P T I K M G h c m I' K' M' G' h' c') l h₀ p q

  pub finished_at : {N I K M G M' G' : List ℕ} {h c m c' : ℕ} → Finished N (log_of used X) (pos_of X) (cells_of X) I K M G h c m M' G' c' → Finished N (log_of used L) (pos_of L) (cells_of L) I K M G h c m M' G' c'
  finished_at {N} {I} {K} {M} {G} {M'} {G'} {h} {c} {m} {c'} q = counted_at used (λ (W : List Word) (P T : List ℕ). Finished N W P T I K M G h c m M' G' c') l h₀ p q
