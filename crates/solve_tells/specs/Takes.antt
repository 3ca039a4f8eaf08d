-- An equation or an application taken into the tables: what is asked, and what is handed back. Assumes nothing.
use Rattle.std.specs.Prelude.{Result, Ok, Err, ◌↔◌, List, ℕ, ◌≤◌, ◌<◌, length}
use Rattle.constraint.specs.Tree.{Label}
use Rattle.constraint.specs.Constraint.{Asg, In}
use Rattle.mem_words.specs.declared.Word.{Word}
use Rattle.solve_classes.specs.Means.{Fits, Apps}
use Rattle.solve_fields.specs.Read.{tab_of, Distinct}
use Rattle.solve_tells.specs.Reach.{vars_of}
use Rattle.solve_tells.specs.Steps.{Step, Sound, Filled}
use Rattle.solve_tells.specs.declared.Stop.{Stop}
use Rattle.solve_tells.specs.declared.Stop.TheVariants.{Clash, Full}

-- x = y may be told
pub record CanEquate (W : List Word) (P T X C : List ℕ) (n x y : ℕ) : Type 0 where
  pub sound : Sound W T X C n
  pub apps : Apps T (length P)
  pub size : length P ≤ 65536
  pub inx : x < length T
  pub iny : y < length T
  pub usedx : In x (vars_of W)
  pub usedy : In y (vars_of W)

-- x is the application k may be told
pub record CanApply (W : List Word) (P T X C : List ℕ) (n x k : ℕ) : Type 0 where
  pub sound : Sound W T X C n
  pub apps : Apps T (length P)
  pub size : length P ≤ 65536
  pub inx : x < length T
  pub usedx : In x (vars_of W)
  pub app : k < length P

-- one constraint was told: Q says of an assignment that it satisfies it, b is a bound for the applications that it brings
pub record Took (W : List Word) (P T X C : List ℕ) (n b : ℕ) (Q : (ℕ → Label) → Asg → Type 0) (T' X' C' : List ℕ) (n' : ℕ) : Type 0 where
  pub step : Step W T X C n T' X' C' n'
  pub apps : (m : ℕ) → b ≤ m → Apps T m → Apps T' m
  pub means : (lab : ℕ → Label) (ρ : Asg) → (Fits (tab_of lab W P) T ρ × Q lab ρ) ↔ Fits (tab_of lab W P) T' ρ

abbrev pub Taking : List Word → List ℕ → List ℕ → List ℕ → List ℕ → ℕ → ℕ → ((ℕ → Label) → Asg → Type 0) → List ℕ → List ℕ → List ℕ → Result ℕ Stop → Type 0
Taking W P T X C n b Q T' X' C' (Ok n') = Took W P T X C n b Q T' X' C' n'
Taking W P T X C n b Q T' X' C' (Err (Clash n')) = Step W T X C n T' X' C' n' × ((lab : ℕ → Label) → Distinct lab → (ρ : Asg) → Fits (tab_of lab W P) T ρ → Q lab ρ → ⊥)
Taking W P T X C n b Q T' X' C' (Err (Full n')) = Step W T X C n T' X' C' n' × Filled X C n'
