-- What the functions promise. Assumes nothing.
use Rattle.std.specs.Prelude.{◌≡◌, List, Bool, true, false, ℕ, ◌+◌, ◌*◌, ◌/◌, ◌<◌, ◌≤◌, length, get_or}
use Rattle.std.proofs.Common.{ap, ◌∙◌, arith}
use Rattle.read_scopes.specs.Scopes.{Bindings, CanEnter, CanLeave, taken_back, taken_same}
use Rattle.read_scopes.specs.declared.Binding.{Binding}
use Rattle.read_scopes.specs.declared.Binding.TheVariants.{Apart, Twice, Full}

-- what may be bound
pub record CanBind (L : List ℕ) (first count : ℕ) (B : List ℕ) (level : ℕ) : Type 0 where
  pub inside : 0 < count → first + 2 * count ≤ length L + 1
  pub names : (j : ℕ) → j < count → get_or L (first + 2 * j) 0 / 256 < length B
  pub small : level + count < 65535

-- there is no room for the values to save, and nothing was changed
pub record NoRoom (B S : List ℕ) (need : ℕ) (B' S' : List ℕ) : Type 0 where
  pub short : length S < need
  pub same_b : B' ≡ B
  pub same_s : S' ≡ S

-- What `bind` promises of its answer.
abbrev pub BindTo : List ℕ → ℕ → ℕ → List ℕ → List ℕ → ℕ → ℕ → List ℕ → List ℕ → Binding → Type 0
BindTo L first count B S n level B' S' Apart = Bindings L first count B S n level B' S' false
BindTo L first count B S n level B' S' Twice = Bindings L first count B S n level B' S' true
BindTo L first count B S n level B' S' Full = NoRoom B S (n + count) B' S'

-- what may be taken back
pub record CanUnbind (L : List ℕ) (first count : ℕ) (B S : List ℕ) (n : ℕ) : Type 0 where
  pub inside : 0 < count → first + 2 * count ≤ length L + 1
  pub names : (j : ℕ) → j < count → get_or L (first + 2 * j) 0 / 256 < length B
  pub room : n + count ≤ length S

-- What `unbind` promises.
pub record Unbound (L : List ℕ) (first count : ℕ) (B S : List ℕ) (n : ℕ) (B' : List ℕ) : Type 0 where
  pub list : B' ≡ taken_back L first count B S n
  pub long : length B' ≡ length B

-- each name of the list may be bound, when its time comes
pub can_enter : {L : List ℕ} {first count : ℕ} {B S : List ℕ} {n level j : ℕ} {B' S' : List ℕ} {twice : Bool} → CanBind L first count B level → Bindings L first j B S n level B' S' twice → j < count → n + count ≤ length S → CanEnter L (first + 2 * j) B' S' (n + j) (level + j + 1)
can_enter {L} {first} {count} {B} {S} {n} {level} {j} {B'} {S'} {twice} C a h r =
    record {
      inside = omega (arith, C.inside (omega arith));
      name = omega (arith, C.names j h, a.size_b);
      room = omega (arith, a.size_s);
      small = omega (arith, C.small);
    }

-- each name may be set back
pub can_leave : {L : List ℕ} {first count : ℕ} {B S : List ℕ} {n : ℕ} (j : ℕ) {B' : List ℕ} → CanUnbind L first count B S n → length B' ≡ length B → j < count → CanLeave L (first + 2 * j) B' S (n + j)
can_leave j C b h = record { inside = omega (arith, C.inside (omega arith)); name = omega (arith, C.names j h); room = omega (arith, C.room) }

-- what was bound may be taken back, once the tables are as they were for it
pub can_unbind : {L : List ℕ} {first count : ℕ} {B S : List ℕ} {n level : ℕ} {B' S' : List ℕ} {twice : Bool} {B₂ S₂ : List ℕ} → CanBind L first count B level → Bindings L first count B S n level B' S' twice → length B₂ ≡ length B → length S₂ ≡ length S → CanUnbind L first count B₂ S₂ n
can_unbind C a b s = record { inside = C.inside; names = λ j h. omega (arith, C.names j h); room = omega (arith, a.room) }

-- and then the table is what it was before
pub unbound_back : {L : List ℕ} {first count : ℕ} {B S : List ℕ} {n level : ℕ} {B' S' : List ℕ} {twice : Bool} {B₂ S₂ B₃ : List ℕ} → Bindings L first count B S n level B' S' twice → B₂ ≡ B' → ((i : ℕ) → n ≤ i → i < n + count → get_or S₂ i 0 ≡ get_or S' i 0) → Unbound L first count B₂ S₂ n B₃ → B₃ ≡ B
unbound_back {L} {first} {count} {B} {S} {n} {level} {B'} {S'} {twice} {B₂} {S₂} {B₃} a b s u = u.list ∙ ap (λ (t : List ℕ). taken_back L first count t S₂ n) b ∙ taken_same count L first B' S' S₂ n s ∙ a.back
