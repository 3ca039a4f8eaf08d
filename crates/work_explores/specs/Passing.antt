-- The argument that led to an application that left the stack is passed. Assumes nothing.
use Rattle.std.specs.Prelude.{◌≡◌, refl, List, ℕ, ◌+◌, ◌-◌, ◌≤◌, ◌<◌, get_or}
use Rattle.std.proofs.Common.{sym, subst, arith}
use Rattle.mem_numbers.specs.Numbers.{Got}
use Rattle.mem_numbers.specs.Stored.{Stored}
use Rattle.work_tables.specs.Tables.{marks_of, stack_of, dones_of, Laid, Searched, same_searched}
use Rattle.work_tables.specs.Writes.{PutDone}

-- the count of the last of h on the stack fits when it is one more
pub record CanPass (L : List ℕ) (h : ℕ) : Type 0 where
  pub laid : Laid L
  pub inside : h ≤ 2048
  pub small : 0 < h → get_or (dones_of L) (h - 1) 0 + 1 < 4294967296

-- it is one more; where the stack is empty nothing is changed
pub record Passed (L : List ℕ) (h : ℕ) (X : List ℕ) : Type 0 where
  pub some : 0 < h → Stored (dones_of L) (h - 1) (get_or (dones_of L) (h - 1) 0 + 1) (dones_of X)
  pub none : h ≡ 0 → dones_of X ≡ dones_of L
  pub mark : marks_of X ≡ marks_of L
  pub stack : stack_of X ≡ stack_of L
  pub rest : Searched L X

pub passed_none : {L : List ℕ} {h : ℕ} → h ≡ 0 → Passed L h L
passed_none e = record { some = λ p. absurd (omega arith); none = λ z. refl; mark = refl; stack = refl; rest = same_searched }

pub passed_some : {L X : List ℕ} {h i : ℕ} → (h ≡ 0 → ⊥) → Got (dones_of L) (h - 1) 4294967296 i → PutDone L (h - 1) (i + 1) X → Passed L h X
passed_some {L} {X} {h} n g p = record {
  some = λ q. subst (λ (k : ℕ). Stored (dones_of L) (h - 1) (k + 1) (dones_of X)) g.is p.done;
  none = λ z. absurd (n z);
  mark = p.mark;
  stack = p.stack;
  rest = p.rest;
}

-- so what is true of marks and stack stays true
pub pass_mates : {L X : List ℕ} {h : ℕ} (Q : List ℕ → List ℕ → Type 0) → Passed L h X → Q (marks_of L) (stack_of L) → Q (marks_of X) (stack_of X)
pass_mates {L} {X} Q p q = subst (λ (M : List ℕ). Q M (stack_of X)) (sym p.mark) (subst (Q (marks_of L)) (sym p.stack) q)
