-- Hidden lists, operators and clauses: what the small functions of the reader say. Assumes nothing.
use Rattle.std.specs.Prelude.{◌≡◌, List, Bool, true, false, not, ℕ, ◌+◌, ◌≤◌, ◌<◌, eqb, length}
use Rattle.std.proofs.Common.{ap, sym, subst, arith, eq-eqb, ne_eqb}
use Rattle.akl.specs.Reader.{fault}
use Rattle.read_scopes.specs.Scopes.{Bindings}
use Rattle.read_scopes.specs.TheirContracts.{BindTo}
use Rattle.read_scopes.specs.declared.Binding.{Binding}
use Rattle.read_scopes.specs.declared.Binding.TheVariants.{Apart, Twice, Full}
use Rattle.read_pieces.specs.Worst.{Lowest, lowest_none, lowest_one, lowest_fault, lowest_fine}

-- the refusal that a hidden list gives, and 0 where it was not bound
abbrev pub twice_no : Binding → ℕ
twice_no Apart = 8
twice_no Twice = 4
twice_no Full = 0

-- whether a kind is that of an operator
abbrev pub Operates : ℕ → Bool → Type 0
Operates k true = (11 ≤ k) × (k < 14)
Operates k false = 11 ≤ k → k < 14 → ⊥

-- the refusal that a clause's operator gives
abbrev pub Mixes : ℕ → ℕ → ℕ → Type 0
Mixes kind first r = Lowest r (fault 7 (not (eqb first kind)))

-- a list that was bound
pub record Entered (L : List ℕ) (at count : ℕ) (B S : List ℕ) (level : ℕ) (B₁ S₁ : List ℕ) (g : ℕ) : Type 0 where
  pub twice : Bool
  pub binds : Bindings L at count B S level level B₁ S₁ twice
  pub fault : Lowest g (fault 4 twice)

pub entered : (L : List ℕ) (at count : ℕ) (B S : List ℕ) (level : ℕ) (B₁ S₁ : List ℕ) (b : Binding) (g : ℕ) → BindTo L at count B S level level B₁ S₁ b → g ≡ twice_no b → (g ≡ 0 → ⊥) → Entered L at count B S level B₁ S₁ g
entered L at count B S level B₁ S₁ Apart g h e n = record { twice = false; binds = h; fault = subst (λ (m : ℕ). Lowest m (fault 4 false)) (sym e) lowest_none }
entered L at count B S level B₁ S₁ Twice g h e n = record { twice = true; binds = h; fault = subst (λ (m : ℕ). Lowest m (fault 4 true)) (sym e) (lowest_one 4 (omega arith)) }
entered L at count B S level B₁ S₁ Full g h e n = absurd (n e)

-- a list that was not
pub not_entered : (L : List ℕ) (at count : ℕ) (B S : List ℕ) (level : ℕ) (B₁ S₁ : List ℕ) (b : Binding) (g : ℕ) → BindTo L at count B S level level B₁ S₁ b → g ≡ twice_no b → g ≡ 0 → length S < level + count
not_entered L at count B S level B₁ S₁ Apart g h e z = absurd (omega arith)
not_entered L at count B S level B₁ S₁ Twice g h e z = absurd (omega arith)
not_entered L at count B S level B₁ S₁ Full g h e z = h.short

pub mixes_same : (kind first : ℕ) → kind ≡ first → Mixes kind first 8
mixes_same kind first e = lowest_fine 7 (not (eqb first kind)) (ap not (eq-eqb first kind (sym e)))

pub mixes_other : (kind first : ℕ) → (kind ≡ first → ⊥) → Mixes kind first 7
mixes_other kind first n = lowest_fault 7 (not (eqb first kind)) (omega arith) (ap not (ne_eqb first kind (λ e. n (sym e))))
