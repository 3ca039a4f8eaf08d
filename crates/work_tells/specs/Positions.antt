-- Where the applications stand that were told: each before the end of what was told. Assumes nothing.
use Rattle.std.specs.Prelude.{Result, Ok, Err, ◌≡◌, refl, List, ℕ, ◌+◌, ◌≤◌, ◌<◌, length, get_or}
use Rattle.std.proofs.Common.{ap, sym, ◌∙◌, subst, arith}
use Rattle.std.proofs.Math.Decide.{dec_lt}
use Rattle.mem_numbers.specs.Stored.{stored_same}
use Rattle.solve_tells.specs.declared.Told.{Told}
use Rattle.solve_tells.specs.declared.Told.TheVariants.{All, Failed, NoRoom}
use Rattle.solve_tells.specs.declared.Stop.{Stop}
use Rattle.solve_tells.specs.declared.Stop.TheVariants.{Clash, Full}
use Rattle.solve_tells.specs.Tells.{told_by}
use Rattle.work_tables.specs.Tables.{pos_of, Laid, Moved, moved_pos}
use Rattle.work_tables.specs.Writes.{PutPos}

-- the applications from a on up to k have their positions before e
abbrev pub Before : ℕ → ℕ → ℕ → List ℕ → Type 0
Before a k e P = (j : ℕ) → a ≤ j → j < k → get_or P j 0 < e

-- those that telling brought, however it went
abbrev pub Ahead : ℕ → ℕ → List ℕ → Told → Type 0
Ahead a e P (All n k) = Before a k e P
Ahead a e P (Failed n k) = Before a k e P
Ahead a e P (NoRoom n k) = Before a k e P

pub before_none : (a e : ℕ) (P : List ℕ) → Before a a e P
before_none a e P j h g = absurd (omega arith)

pub before_put : {L X Z : List ℕ} {a i : ℕ} → PutPos L a i X → Moved X Z → a < length (pos_of L) → Before a (a + 1) (i + 1) (pos_of Z)
before_put {L} {X} {Z} {a} {i} p q l j h g =
    let e : j ≡ a = omega arith in
    let s : get_or (pos_of Z) j 0 ≡ i = ap (λ (k : ℕ). get_or (pos_of Z) k 0) e ∙ ap (λ (P : List ℕ). get_or P a 0) (moved_pos q) ∙ stored_same 0 p.pos l in
    omega arith

-- one telling after another
pub before_then : (P P' : List ℕ) (a k k' i : ℕ) → Before a k i P → ((j : ℕ) → j < k → get_or P' j 0 ≡ get_or P j 0) → Before k k' (i + 1) P' → Before a k' (i + 1) P'
before_then P P' a k k' i b o n j h g = go (dec_lt j k)
  where
    go : Dec (j < k) → get_or P' j 0 < i + 1
    go (yes l) = let q = b j h l in let r = o j l in omega arith
    go (no l) = n j (omega arith) g

-- of a step it does not matter how it ended
pub ahead_by : (a e k : ℕ) (P : List ℕ) (o : Result ℕ Stop) → Before a k e P → Ahead a e P (told_by o k)
ahead_by a e k P (Ok n) b = b
ahead_by a e k P (Err (Clash n)) b = b
ahead_by a e k P (Err (Full n)) b = b
