-- What a write to one table leaves of the others. Assumes nothing.
use Rattle.std.specs.Prelude.{◌≡◌, refl, List, ℕ, ◌+◌, ◌-◌, ◌*◌, ◌/◌, ◌≤◌, ◌<◌, length, get_or}
use Rattle.std.proofs.Common.{ap, sym, ◌∙◌, subst, arith}
use Rattle.mem_words.specs.declared.Word.{Word}
use Rattle.mem_words.specs.declared.Word.TheVariants.{Bad}
use Rattle.mem_numbers.specs.Numbers.{shorts, triples, longs}
use Rattle.mem_numbers.specs.Stored.{Stored}
use Rattle.mem_words.specs.Words.{words}
use Rattle.mem_parts.specs.Parts.{cut, Outside, outside_wide, cut_left, cut_right, CanGet, CanSet, Set1, Set2, Set3, Set4}
use Rattle.work_tables.specs.Tables.{marks_of, stack_of, dones_of, cells_of, vars_of, olds_of, pos_of, locals_of, log_of, Laid, Peeked, Searched, Moved, Noted, CanRead, CanWrite, length_mark, length_stack, length_done, length_cell, length_var, length_old, length_pos, length_locals}

-- one table is written, the others of its group are as they were
pub record PutMark (L : List ℕ) (i v : ℕ) (X : List ℕ) : Type 0 where
  pub mark : Stored (marks_of L) i v (marks_of X)
  pub stack : stack_of X ≡ stack_of L
  pub done : dones_of X ≡ dones_of L
  pub rest : Searched L X

pub record PutStack (L : List ℕ) (i v : ℕ) (X : List ℕ) : Type 0 where
  pub mark : marks_of X ≡ marks_of L
  pub stack : Stored (stack_of L) i v (stack_of X)
  pub done : dones_of X ≡ dones_of L
  pub rest : Searched L X

pub record PutDone (L : List ℕ) (i v : ℕ) (X : List ℕ) : Type 0 where
  pub mark : marks_of X ≡ marks_of L
  pub stack : stack_of X ≡ stack_of L
  pub done : Stored (dones_of L) i v (dones_of X)
  pub rest : Searched L X

pub record PutCell (L : List ℕ) (i v : ℕ) (X : List ℕ) : Type 0 where
  pub cell : Stored (cells_of L) i v (cells_of X)
  pub var : vars_of X ≡ vars_of L
  pub old : olds_of X ≡ olds_of L
  pub rest : Moved L X

pub record PutVar (L : List ℕ) (i v : ℕ) (X : List ℕ) : Type 0 where
  pub cell : cells_of X ≡ cells_of L
  pub var : Stored (vars_of L) i v (vars_of X)
  pub old : olds_of X ≡ olds_of L
  pub rest : Moved L X

pub record PutOld (L : List ℕ) (i v : ℕ) (X : List ℕ) : Type 0 where
  pub cell : cells_of X ≡ cells_of L
  pub var : vars_of X ≡ vars_of L
  pub old : Stored (olds_of L) i v (olds_of X)
  pub rest : Moved L X

pub record PutPos (L : List ℕ) (i v : ℕ) (X : List ℕ) : Type 0 where
  pub cell : cells_of X ≡ cells_of L
  pub var : vars_of X ≡ vars_of L
  pub old : olds_of X ≡ olds_of L
  pub pos : Stored (pos_of L) i v (pos_of X)
  pub log : (k : ℕ) → log_of k X ≡ log_of k L
  pub rest : Noted L X

-- what the accessors ask of the parts, and what they give
pub get_mark : {L : List ℕ} {i : ℕ} → CanRead L 2048 i → CanGet 0 4096 L (shorts (cut 0 4096 L)) i
unfolding marks_of
get_mark h = record { le = omega arith; fits = omega (arith, h.laid.long); inside = omega (arith, h.inside, length_mark h.laid) }

pub set_mark : {L : List ℕ} {i v : ℕ} → CanWrite L 2048 i 65536 v → CanSet 0 4096 L (shorts (cut 0 4096 L)) i 65536 v
unfolding marks_of
set_mark h = record { le = omega arith; fits = omega (arith, h.laid.long); inside = omega (arith, h.inside, length_mark h.laid); small = h.small }

pub put_mark : {L X : List ℕ} {i v : ℕ} → Laid L → Set2 0 4096 L i v X → PutMark L i v X
unfolding marks_of stack_of dones_of
put_mark h s = record {
  mark = s.part;
  stack = ap shorts (cut_right 4096 8192 (omega arith) s.rest);
  done = ap longs (cut_right 8192 16384 (omega arith) s.rest);
  rest = outside_wide 0 16384 (omega arith) (omega arith) s.rest;
}

pub get_stack : {L : List ℕ} {i : ℕ} → CanRead L 2048 i → CanGet 4096 8192 L (shorts (cut 4096 8192 L)) i
unfolding stack_of
get_stack h = record { le = omega arith; fits = omega (arith, h.laid.long); inside = omega (arith, h.inside, length_stack h.laid) }

pub set_stack : {L : List ℕ} {i v : ℕ} → CanWrite L 2048 i 65536 v → CanSet 4096 8192 L (shorts (cut 4096 8192 L)) i 65536 v
unfolding stack_of
set_stack h = record { le = omega arith; fits = omega (arith, h.laid.long); inside = omega (arith, h.inside, length_stack h.laid); small = h.small }

pub put_stack : {L X : List ℕ} {i v : ℕ} → Laid L → Set2 4096 8192 L i v X → PutStack L i v X
unfolding marks_of stack_of dones_of
put_stack h s = record {
  mark = ap shorts (cut_left 0 4096 (omega arith) (omega arith) (omega (arith, h.long)) s.rest);
  stack = s.part;
  done = ap longs (cut_right 8192 16384 (omega arith) s.rest);
  rest = outside_wide 0 16384 (omega arith) (omega arith) s.rest;
}

pub get_done : {L : List ℕ} {i : ℕ} → CanRead L 2048 i → CanGet 8192 16384 L (longs (cut 8192 16384 L)) i
unfolding dones_of
get_done h = record { le = omega arith; fits = omega (arith, h.laid.long); inside = omega (arith, h.inside, length_done h.laid) }

pub set_done : {L : List ℕ} {i v : ℕ} → CanWrite L 2048 i 4294967296 v → CanSet 8192 16384 L (longs (cut 8192 16384 L)) i 4294967296 v
unfolding dones_of
set_done h = record { le = omega arith; fits = omega (arith, h.laid.long); inside = omega (arith, h.inside, length_done h.laid); small = h.small }

pub put_done : {L X : List ℕ} {i v : ℕ} → Laid L → Set4 8192 16384 L i v X → PutDone L i v X
unfolding marks_of stack_of dones_of
put_done h s = record {
  mark = ap shorts (cut_left 0 4096 (omega arith) (omega arith) (omega (arith, h.long)) s.rest);
  stack = ap shorts (cut_left 4096 8192 (omega arith) (omega arith) (omega (arith, h.long)) s.rest);
  done = s.part;
  rest = outside_wide 0 16384 (omega arith) (omega arith) s.rest;
}

pub get_cell : {L : List ℕ} {i : ℕ} → CanRead L 65536 i → CanGet 16384 212992 L (triples (cut 16384 212992 L)) i
unfolding cells_of
get_cell h = record { le = omega arith; fits = omega (arith, h.laid.long); inside = omega (arith, h.inside, length_cell h.laid) }

pub set_cell : {L : List ℕ} {i v : ℕ} → CanWrite L 65536 i 16777216 v → CanSet 16384 212992 L (triples (cut 16384 212992 L)) i 16777216 v
unfolding cells_of
set_cell h = record { le = omega arith; fits = omega (arith, h.laid.long); inside = omega (arith, h.inside, length_cell h.laid); small = h.small }

pub put_cell : {L X : List ℕ} {i v : ℕ} → Laid L → Set3 16384 212992 L i v X → PutCell L i v X
unfolding cells_of vars_of olds_of
put_cell h s = record {
  cell = s.part;
  var = ap shorts (cut_right 212992 229376 (omega arith) s.rest);
  old = ap triples (cut_right 229376 253952 (omega arith) s.rest);
  rest = outside_wide 16384 253952 (omega arith) (omega arith) s.rest;
}

pub get_var : {L : List ℕ} {i : ℕ} → CanRead L 8192 i → CanGet 212992 229376 L (shorts (cut 212992 229376 L)) i
unfolding vars_of
get_var h = record { le = omega arith; fits = omega (arith, h.laid.long); inside = omega (arith, h.inside, length_var h.laid) }

pub set_var : {L : List ℕ} {i v : ℕ} → CanWrite L 8192 i 65536 v → CanSet 212992 229376 L (shorts (cut 212992 229376 L)) i 65536 v
unfolding vars_of
set_var h = record { le = omega arith; fits = omega (arith, h.laid.long); inside = omega (arith, h.inside, length_var h.laid); small = h.small }

pub put_var : {L X : List ℕ} {i v : ℕ} → Laid L → Set2 212992 229376 L i v X → PutVar L i v X
unfolding cells_of vars_of olds_of
put_var h s = record {
  cell = ap triples (cut_left 16384 212992 (omega arith) (omega arith) (omega (arith, h.long)) s.rest);
  var = s.part;
  old = ap triples (cut_right 229376 253952 (omega arith) s.rest);
  rest = outside_wide 16384 253952 (omega arith) (omega arith) s.rest;
}

pub get_old : {L : List ℕ} {i : ℕ} → CanRead L 8192 i → CanGet 229376 253952 L (triples (cut 229376 253952 L)) i
unfolding olds_of
get_old h = record { le = omega arith; fits = omega (arith, h.laid.long); inside = omega (arith, h.inside, length_old h.laid) }

pub set_old : {L : List ℕ} {i v : ℕ} → CanWrite L 8192 i 16777216 v → CanSet 229376 253952 L (triples (cut 229376 253952 L)) i 16777216 v
unfolding olds_of
set_old h = record { le = omega arith; fits = omega (arith, h.laid.long); inside = omega (arith, h.inside, length_old h.laid); small = h.small }

pub put_old : {L X : List ℕ} {i v : ℕ} → Laid L → Set3 229376 253952 L i v X → PutOld L i v X
unfolding cells_of vars_of olds_of
put_old h s = record {
  cell = ap triples (cut_left 16384 212992 (omega arith) (omega arith) (omega (arith, h.long)) s.rest);
  var = ap shorts (cut_left 212992 229376 (omega arith) (omega arith) (omega (arith, h.long)) s.rest);
  old = s.part;
  rest = outside_wide 16384 253952 (omega arith) (omega arith) s.rest;
}

pub get_pos : {L : List ℕ} {i : ℕ} → CanRead L 2048 i → CanGet 253952 262144 L (longs (cut 253952 262144 L)) i
unfolding pos_of
get_pos h = record { le = omega arith; fits = omega (arith, h.laid.long); inside = omega (arith, h.inside, length_pos h.laid) }

pub set_pos : {L : List ℕ} {i v : ℕ} → CanWrite L 2048 i 4294967296 v → CanSet 253952 262144 L (longs (cut 253952 262144 L)) i 4294967296 v
unfolding pos_of
set_pos h = record { le = omega arith; fits = omega (arith, h.laid.long); inside = omega (arith, h.inside, length_pos h.laid); small = h.small }

pub put_pos : {L X : List ℕ} {i v : ℕ} → Laid L → Set4 253952 262144 L i v X → PutPos L i v X
unfolding cells_of vars_of olds_of pos_of log_of
put_pos h s = record {
  cell = ap triples (cut_left 16384 212992 (omega arith) (omega arith) (omega (arith, h.long)) s.rest);
  var = ap shorts (cut_left 212992 229376 (omega arith) (omega arith) (omega (arith, h.long)) s.rest);
  old = ap triples (cut_left 229376 253952 (omega arith) (omega arith) (omega (arith, h.long)) s.rest);
  pos = s.part;
  log = λ k. ap words (cut_right 262144 (262144 + 3 * k) (omega arith) s.rest);
  rest = outside_wide 16384 262144 (omega arith) (omega arith) s.rest;
}

-- a mark of a local is written, and nothing else
pub record PutLocal (L : List ℕ) (i v : ℕ) (X : List ℕ) : Type 0 where
  pub locals : Stored (locals_of L) i v (locals_of X)
  pub rest : Outside 335872 401408 L X

pub get_local : {L : List ℕ} {i : ℕ} → CanRead L 65536 i → CanGet 335872 401408 L (cut 335872 401408 L) i
unfolding locals_of
get_local h = record { le = omega arith; fits = omega (arith, h.laid.long); inside = omega (arith, h.inside, length_locals h.laid) }

pub set_local : {L : List ℕ} {i v : ℕ} → CanWrite L 65536 i 256 v → CanSet 335872 401408 L (cut 335872 401408 L) i 256 v
unfolding locals_of
set_local h = record { le = omega arith; fits = omega (arith, h.laid.long); inside = omega (arith, h.inside, length_locals h.laid); small = h.small }

pub put_local : {L X : List ℕ} {i v : ℕ} → Laid L → Set1 335872 401408 L i v X → PutLocal L i v X
unfolding locals_of
put_local h s = record { locals = s.part; rest = s.rest }

-- when a position was written, the log, the cells and the trail are as they were
pub put_at : {L X : List ℕ} {i v : ℕ} (k : ℕ) (Q : List Word → List ℕ → List ℕ → List ℕ → Type 0) → PutPos L i v X → Q (log_of k X) (cells_of X) (vars_of X) (olds_of X) → Q (log_of k L) (cells_of L) (vars_of L) (olds_of L)
put_at {L} {X} k Q p q =
    subst (λ (W : List Word). Q W (cells_of L) (vars_of L) (olds_of L)) (p.log k)
    (subst (λ (T : List ℕ). Q (log_of k X) T (vars_of L) (olds_of L)) p.cell
    (subst (λ (T : List ℕ). Q (log_of k X) (cells_of X) T (olds_of L)) p.var
    (subst (λ (T : List ℕ). Q (log_of k X) (cells_of X) (vars_of X) T) p.old q)))

pub put_to : {L X : List ℕ} {i v : ℕ} (k : ℕ) (Q : List Word → List ℕ → List ℕ → List ℕ → Type 0) → PutPos L i v X → Q (log_of k L) (cells_of L) (vars_of L) (olds_of L) → Q (log_of k X) (cells_of X) (vars_of X) (olds_of X)
put_to {L} {X} k Q p q =
    subst (λ (W : List Word). Q W (cells_of X) (vars_of X) (olds_of X)) (sym (p.log k))
    (subst (λ (T : List ℕ). Q (log_of k L) T (vars_of X) (olds_of X)) (sym p.cell)
    (subst (λ (T : List ℕ). Q (log_of k L) (cells_of L) T (olds_of X)) (sym p.var)
    (subst (λ (T : List ℕ). Q (log_of k L) (cells_of L) (vars_of L) T) (sym p.old) q)))

pub peek_put : {L X : List ℕ} {i v j : ℕ} {r : Word} (k : ℕ) → PutPos L i v X → Peeked (log_of k X) j r → r ≡ get_or (log_of k L) j Bad
peek_put {L} {X} {i} {v} {j} k p e = e.is ∙ ap (λ (W : List Word). get_or W j Bad) (p.log k)

-- when a mark or a count was written, the other two tables of the cycle test are as they were
pub mark_mates : {L X : List ℕ} {i v : ℕ} (Q : List ℕ → List ℕ → Type 0) → PutMark L i v X → Q (stack_of L) (dones_of L) → Q (stack_of X) (dones_of X)
mark_mates {L} {X} Q p q = subst (λ (K : List ℕ). Q K (dones_of X)) (sym p.stack) (subst (Q (stack_of L)) (sym p.done) q)

pub done_mates : {L X : List ℕ} {i v : ℕ} (Q : List ℕ → List ℕ → Type 0) → PutDone L i v X → Q (marks_of L) (stack_of L) → Q (marks_of X) (stack_of X)
done_mates {L} {X} Q p q = subst (λ (M : List ℕ). Q M (stack_of X)) (sym p.mark) (subst (Q (marks_of L)) (sym p.stack) q)
