-- Telling constraints to the tables: what is asked, and what is handed back. Assumes nothing.
use Rattle.std.specs.Prelude.{Result, Ok, Err, ◌≡◌, ◌↔◌, ◌⊎◌, List, [], ◌∷◌, ◌++◌, ℕ, zero, suc, ◌+◌, ◌-◌, ◌≤◌, ◌<◌, length, get_or, drop}
use Rattle.std.proofs.Math.Logic.{ite}
use Rattle.std.proofs.Math.Decide.{ℕ_discrete}
use Rattle.constraint.specs.Tree.{Label}
use Rattle.constraint.specs.Constraint.{Asg, Store, Sats}
use Rattle.mem_words.specs.declared.Word.{Word}
use Rattle.mem_words.specs.declared.Word.TheVariants.{Bad}
use Rattle.solve_classes.specs.Means.{Fits, Apps, OldVars, OldIn}
use Rattle.solve_classes.specs.Weights.{weights}
use Rattle.solve_fields.specs.Read.{tab_of, Distinct, told, starts}
use Rattle.solve_tells.specs.Reach.{vars_of}
use Rattle.solve_tells.specs.Steps.{Step, Sound, Filled}
use Rattle.solve_tells.specs.declared.Stop.{Stop}
use Rattle.solve_tells.specs.declared.Stop.TheVariants.{Clash, Full}
use Rattle.solve_tells.specs.declared.Told.{Told}
use Rattle.solve_tells.specs.declared.Told.TheVariants.{All, Failed, NoRoom}
use Rattle.solve_begins.specs.Begins.{begins_of}

-- 1 for a word that begins an application
unfoldable pub app_of : Word → ℕ
app_of w = ite (ℕ_discrete (begins_of w) 3) 1 0

-- how many of the first n words begin an application
unfoldable pub apps_of : ℕ → List Word → ℕ
apps_of zero l = 0
apps_of (suc n) [] = 0
apps_of (suc n) (w ∷ r) = app_of w + apps_of n r

-- the same of the word at i, and of a range of words
abbrev pub apps_at : List Word → ℕ → ℕ
apps_at W i = app_of (get_or W i Bad)

abbrev pub apps_in : List Word → ℕ → ℕ → ℕ
apps_in W from to = apps_of (to - from) (drop from W)

-- the tables between tells: n changes and a applications so far; the table is at least as heavy as the trail is long
pub record State (W : List Word) (P T X C : List ℕ) (n a : ℕ) : Type 0 where
  pub sound : Sound W T X C n
  pub apps : Apps T a
  pub fit_p : a ≤ length P
  pub size : length P ≤ 65536
  pub vars : OldVars X 0 n (length T)
  pub used : OldIn X 0 n (vars_of W)
  pub cost : n ≤ weights T

-- the tables have the solutions of σ
unfoldable pub Means : (ℕ → Label) → List Word → List ℕ → List ℕ → Store → Type 0
Means lab W P T σ = (ρ : Asg) → Sats ρ σ ↔ Fits (tab_of lab W P) T ρ

-- a range of the words
pub record CanTell (W : List Word) (P T X C : List ℕ) (n a from to : ℕ) : Type 0 where
  pub state : State W P T X C n a
  pub le : from ≤ to
  pub end : to ≤ length W

-- what telling leaves, however it went: it can be taken back
pub record Left (W : List Word) (P T X C : List ℕ) (n a : ℕ) (P' T' X' C' : List ℕ) (n' a' : ℕ) : Type 0 where
  pub step : Step W T X C n T' X' C' n'
  pub more : a ≤ a'
  pub size_p : length P' ≡ length P
  pub old_p : (i : ℕ) → i < a → get_or P' i 0 ≡ get_or P i 0

-- the constraints S, with q applications, were told: the tables are as sound as before, and have the solutions of what was
-- told before and S
pub record Done (W : List Word) (P T X C : List ℕ) (n a q : ℕ) (S : (ℕ → Label) → Store) (P' T' X' C' : List ℕ) (n' a' : ℕ) : Type 0 where
  pub left : Left W P T X C n a P' T' X' C' n' a'
  pub state : State W P' T' X' C' n' a'
  pub few : a' ≤ a + q
  pub means : (lab : ℕ → Label) (σ : Store) → Means lab W P T σ → Means lab W P' T' (σ ++ S lab)

-- there is a clash: what was told before and S have no solution
pub record Clashed (W : List Word) (P T X C : List ℕ) (n a : ℕ) (S : (ℕ → Label) → Store) (P' T' X' C' : List ℕ) (n' a' : ℕ) : Type 0 where
  pub left : Left W P T X C n a P' T' X' C' n' a'
  pub none : (lab : ℕ → Label) → Distinct lab → (σ : Store) → Means lab W P T σ → (ρ : Asg) → Sats ρ (σ ++ S lab) → ⊥

-- the trail is full, or there are not places for all of q more applications
abbrev pub Lacks : List ℕ → List ℕ → List ℕ → ℕ → ℕ → ℕ → Type 0
Lacks P X C n a q = Filled X C n ⊎ (length P < a + q)

-- there was no room for a change, or for the applications that were to be told
pub record Stopped (W : List Word) (P T X C : List ℕ) (n a q : ℕ) (P' T' X' C' : List ℕ) (n' a' : ℕ) : Type 0 where
  pub left : Left W P T X C n a P' T' X' C' n' a'
  pub full : Lacks P X C n' a q

abbrev pub Telling : List Word → List ℕ → List ℕ → List ℕ → List ℕ → ℕ → ℕ → ℕ → ((ℕ → Label) → Store) → List ℕ → List ℕ → List ℕ → List ℕ → Told → Type 0
Telling W P T X C n a q S P' T' X' C' (All n' a') = Done W P T X C n a q S P' T' X' C' n' a'
Telling W P T X C n a q S P' T' X' C' (Failed n' a') = Clashed W P T X C n a S P' T' X' C' n' a'
Telling W P T X C n a q S P' T' X' C' (NoRoom n' a') = Stopped W P T X C n a q P' T' X' C' n' a'

-- the end of a step as that of telling, where a applications are told then
abbrev pub told_by : Result ℕ Stop → ℕ → Told
told_by (Ok n) a = All n a
told_by (Err (Clash n)) a = Failed n a
told_by (Err (Full n)) a = NoRoom n a

-- a word that is told
pub record CanOne (W : List Word) (P T X C : List ℕ) (n a i : ℕ) : Type 0 where
  pub state : State W P T X C n a
  pub end : i < length W

-- the constraint that the word at i begins
abbrev pub one_at : List Word → ℕ → (ℕ → Label) → Store
one_at W i lab = starts lab (get_or W i Bad) (drop (i + 1) W)

-- the constraints of a range of words
abbrev pub range_of : List Word → ℕ → ℕ → (ℕ → Label) → Store
range_of W from to lab = told lab (to - from) (drop from W)

-- what may be taken back from a mark (n', a') to an earlier mark n
pub record CanBack (T X C : List ℕ) (n' n : ℕ) : Type 0 where
  pub le : n ≤ n'
  pub fit_x : n' ≤ length X
  pub fit_c : n' ≤ length C
  pub vars : OldVars X n n' (length T)

-- the tables are those of the earlier mark again: whatever was true of them is
pub record Back (W : List Word) (P T X C : List ℕ) (n' n : ℕ) (T'' : List ℕ) : Type 0 where
  pub same : (P₀ T₀ X₀ C₀ : List ℕ) (a a' : ℕ) → Left W P₀ T₀ X₀ C₀ n a P T X C n' a' → T'' ≡ T₀
  pub state : (P₀ T₀ X₀ C₀ : List ℕ) (a a' : ℕ) → Left W P₀ T₀ X₀ C₀ n a P T X C n' a' → State W P₀ T₀ X₀ C₀ n a → State W P T'' X C n a
  pub means : (P₀ T₀ X₀ C₀ : List ℕ) (a a' : ℕ) → Left W P₀ T₀ X₀ C₀ n a P T X C n' a' → State W P₀ T₀ X₀ C₀ n a → (lab : ℕ → Label) (σ : Store) → Means lab W P₀ T₀ σ → Means lab W P T'' σ
