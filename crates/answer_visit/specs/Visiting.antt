-- The search on its way: what it starts with, and what each turn leaves. Assumes nothing.
-- With N for the table of names, W, P and T for the solver's words, positions and cells, I and K for the stack, M for the numbers, G for
-- the lengths that are known; s was met, F is what will be met at the end, x₀ the root.
use Rattle.std.specs.Prelude.{◌≡◌, List, ℕ, ◌+◌, ◌<◌}
use Rattle.akl.specs.Answers.{unbound, unknowns}
use Rattle.mem_words.specs.declared.Word.{Word}
use Rattle.answer_walk.specs.Walk.{met as met_by, nodes, turns}
use Rattle.answer_walk.specs.Numbered.{Numbered}
use Rattle.answer_stack.specs.Slots.{numbers_of, places_of, begun_of, Answered}
use Rattle.answer_turn.specs.Turning.{term_in, Shown}
use Rattle.answer_order.specs.Order.{lefts, Going, Open}
use Rattle.answer_order.specs.Memo.{Done, Met}

-- an unbound class was met
pub record Numbering (L : List ℕ) (r c : ℕ) (X : List ℕ) (c' : ℕ) : Type 0 where
  pub numbers : (s : List ℕ) → Numbered (numbers_of L) s c 65535 → Numbered (numbers_of X) (unknowns (unbound r) s) c' 65535
  pub place : places_of X ≡ places_of L
  pub begun : begun_of X ≡ begun_of L
  pub rest : Answered L X

-- y is to be visited
pub record Pending (N : List ℕ) (W : List Word) (P T I K M G : List ℕ) (x₀ y h c m : ℕ) (s F : List ℕ) : Type 0 where
  pub met : Met (term_in N W P T) T M G c m s
  pub going : Going (Done (term_in N W P T) T G s) W P T I K x₀ h y
  pub left : met_by (term_in N W P T) (lefts W P I K h) (unknowns (term_in N W P T y) s) ≡ F
  pub low : y < 65535

-- what was begun is done
pub record Opened (N : List ℕ) (W : List Word) (P T I K M G : List ℕ) (x₀ h c m : ℕ) (s F : List ℕ) : Type 0 where
  pub met : Met (term_in N W P T) T M G c m s
  pub open' : Open (Done (term_in N W P T) T G s) W P T I K x₀ h
  pub left : met_by (term_in N W P T) (lefts W P I K h) s ≡ F

-- y may be visited, by some names and words; `Begun` says that it was
pub record CanBegin (P T I K M G : List ℕ) (y h c : ℕ) : Type 0 where
  pub names : List ℕ
  pub words : List Word
  pub shown : Shown names words P T
  pub root : ℕ
  pub most : ℕ
  pub seen : List ℕ
  pub final : List ℕ
  pub state : Pending names words P T I K M G root y h c most seen final

-- the search stands open again, with fewer turns left
pub record Step (N : List ℕ) (W : List Word) (P T I' K' M' G' : List ℕ) (x₀ h' c' m : ℕ) (F : List ℕ) (turns_left : ℕ) : Type 0 where
  pub seen : List ℕ
  pub state : Opened N W P T I' K' M' G' x₀ h' c' m seen F
  pub less : turns (term_in N W P T) (lefts W P I' K' h') < turns_left

pub record Begun (P T I K M G : List ℕ) (y h c : ℕ) (I' K' M' G' : List ℕ) (h' c' : ℕ) : Type 0 where
  pub step : (N : List ℕ) (W : List Word) → Shown N W P T → (x₀ m : ℕ) (s F : List ℕ) → Pending N W P T I K M G x₀ y h c m s F → Step N W P T I' K' M' G' x₀ h' c' m F (nodes (term_in N W P T y) + turns (term_in N W P T) (lefts W P I K h))

-- a turn may be made; `Turned` says that it was
pub record CanTurn (N : List ℕ) (W : List Word) (P T I K M G : List ℕ) (h c m : ℕ) : Type 0 where
  pub root : ℕ
  pub seen : List ℕ
  pub final : List ℕ
  pub state : Opened N W P T I K M G root h c m seen final

pub record Turned (N : List ℕ) (W : List Word) (P T I K M G : List ℕ) (h c m : ℕ) (I' K' M' G' : List ℕ) (h' c' : ℕ) : Type 0 where
  pub step : (x₀ : ℕ) (s F : List ℕ) → Opened N W P T I K M G x₀ h c m s F → Step N W P T I' K' M' G' x₀ h' c' m F (turns (term_in N W P T) (lefts W P I K h))

-- all turns were made: the root is done
pub record Finished (N : List ℕ) (W : List Word) (P T I K M G : List ℕ) (h c m : ℕ) (M' G' : List ℕ) (c' : ℕ) : Type 0 where
  pub met : (x₀ : ℕ) (s F : List ℕ) → Opened N W P T I K M G x₀ h c m s F → Met (term_in N W P T) T M' G' c' m F
  pub done : (x₀ : ℕ) (s F : List ℕ) → Opened N W P T I K M G x₀ h c m s F → Done (term_in N W P T) T G' F x₀

-- x may be visited with all below it; `Visited` says that it was
pub record CanVisit (N : List ℕ) (W : List Word) (P T M G : List ℕ) (x c m : ℕ) : Type 0 where
  pub low : x < 65535
  pub seen : List ℕ
  pub met : Met (term_in N W P T) T M G c m seen

pub record Visited (N : List ℕ) (W : List Word) (P T M G : List ℕ) (x c m : ℕ) (M' G' : List ℕ) (c' : ℕ) : Type 0 where
  pub met : (s : List ℕ) → Met (term_in N W P T) T M G c m s → Met (term_in N W P T) T M' G' c' m (unknowns (term_in N W P T x) s)
  pub done : (s : List ℕ) → Met (term_in N W P T) T M G c m s → Done (term_in N W P T) T G' (unknowns (term_in N W P T x) s) x
