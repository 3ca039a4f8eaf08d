-- The layout of the working slice, in one place: its tables as views, and what a write to one table leaves of the others. Assumes nothing.
--   from      table                                                 entries   bytes each
--   0         marks of the cycle test                                 2,048   2
--   4,096     its stack                                               2,048   2
--   8,192     the arguments that are done, for each on the stack      2,048   4
--   16,384    cells of variables                                     65,536   3
--   212,992   the trail: variables                                    8,192   2
--   229,376   the trail: old cells                                    8,192   3
--   253,952   positions of applications in the log                    2,048   4
--   262,144   the log: words of what was told                        24,576   3
--   335,872   marks of locals                                        65,536   1
--   401,408   122,880 bytes for what walks and answers need, up to 524,288
-- Tables that change together stand side by side: the cycle test changes what lies below 16,384, a step of telling the cells and the trail.
use Rattle.std.specs.Prelude.{◌≡◌, refl, List, ℕ, ◌+◌, ◌-◌, ◌*◌, ◌/◌, ◌≤◌, ◌<◌, length, get_or}
use Rattle.std.proofs.Common.{ap, sym, ◌∙◌, subst, arith}
use Rattle.mem_words.specs.declared.Word.TheVariants.{Bad}
use Rattle.mem_numbers.specs.Numbers.{shorts, triples, longs, Got, length_shorts, length_triples, length_longs}
use Rattle.mem_words.specs.declared.Word.{Word}
use Rattle.mem_words.specs.Words.{words, length_words}
use Rattle.mem_parts.specs.Parts.{cut, length_cut, Outside, outside_wide, outside_then, cut_left, cut_right}

-- the tables of the bytes L
unfoldable pub marks_of : List ℕ → List ℕ
marks_of L = shorts (cut 0 4096 L)

unfoldable pub stack_of : List ℕ → List ℕ
stack_of L = shorts (cut 4096 8192 L)

unfoldable pub dones_of : List ℕ → List ℕ
dones_of L = longs (cut 8192 16384 L)

unfoldable pub cells_of : List ℕ → List ℕ
cells_of L = triples (cut 16384 212992 L)

unfoldable pub vars_of : List ℕ → List ℕ
vars_of L = shorts (cut 212992 229376 L)

unfoldable pub olds_of : List ℕ → List ℕ
olds_of L = triples (cut 229376 253952 L)

unfoldable pub pos_of : List ℕ → List ℕ
pos_of L = longs (cut 253952 262144 L)

unfoldable pub locals_of : List ℕ → List ℕ
locals_of L = cut 335872 401408 L

-- the first k words of the log, which are those in use
unfoldable pub log_of : ℕ → List ℕ → List Word
log_of k L = words (cut 262144 (262144 + 3 * k) L)

-- the slice is long enough
pub record Laid (L : List ℕ) : Type 0 where
  pub long : 524288 ≤ length L

-- r is the word at i of W; past the end there is none
pub record Peeked (W : List Word) (i : ℕ) (r : Word) : Type 0 where
  pub is : r ≡ get_or W i Bad

-- how many words the log may have
pub record Logged (k : ℕ) : Type 0 where
  pub most : k ≤ 24576

-- the cycle test's tables alone were changed; the cells and the trail alone; these and the cycle test's; positions and what stands before
abbrev pub Searched : List ℕ → List ℕ → Type 0
Searched L X = Outside 0 16384 L X

abbrev pub Moved : List ℕ → List ℕ → Type 0
Moved L X = Outside 16384 253952 L X

abbrev pub Tried : List ℕ → List ℕ → Type 0
Tried L X = Outside 0 253952 L X

abbrev pub Noted : List ℕ → List ℕ → Type 0
Noted L X = Outside 16384 262144 L X

pub record CanRead (L : List ℕ) (most i : ℕ) : Type 0 where
  pub laid : Laid L
  pub inside : i < most

pub record CanWrite (L : List ℕ) (most i bound v : ℕ) : Type 0 where
  pub laid : Laid L
  pub inside : i < most
  pub small : v < bound

pub laid_after : {a e : ℕ} {L X : List ℕ} → Laid L → Outside a e L X → Laid X
laid_after h p = record { long = omega (arith, h.long, p.long) }

-- how long the tables are
pub length_mark : {L : List ℕ} → Laid L → length (marks_of L) ≡ 2048
unfolding marks_of
length_mark {L} h = let k = h.long in let n : length (cut 0 4096 L) ≡ 4096 = length_cut 0 4096 L (omega arith) in length_shorts (cut 0 4096 L) ∙ ap (λ (n : ℕ). n / 2) n

pub length_stack : {L : List ℕ} → Laid L → length (stack_of L) ≡ 2048
unfolding stack_of
length_stack {L} h = let k = h.long in let n : length (cut 4096 8192 L) ≡ 4096 = length_cut 4096 8192 L (omega arith) in length_shorts (cut 4096 8192 L) ∙ ap (λ (n : ℕ). n / 2) n

pub length_done : {L : List ℕ} → Laid L → length (dones_of L) ≡ 2048
unfolding dones_of
length_done {L} h = let k = h.long in let n : length (cut 8192 16384 L) ≡ 8192 = length_cut 8192 16384 L (omega arith) in length_longs (cut 8192 16384 L) ∙ ap (λ (n : ℕ). n / 4) n

pub length_cell : {L : List ℕ} → Laid L → length (cells_of L) ≡ 65536
unfolding cells_of
length_cell {L} h = let k = h.long in let n : length (cut 16384 212992 L) ≡ 196608 = length_cut 16384 212992 L (omega arith) in length_triples (cut 16384 212992 L) ∙ ap (λ (n : ℕ). n / 3) n

pub length_var : {L : List ℕ} → Laid L → length (vars_of L) ≡ 8192
unfolding vars_of
length_var {L} h = let k = h.long in let n : length (cut 212992 229376 L) ≡ 16384 = length_cut 212992 229376 L (omega arith) in length_shorts (cut 212992 229376 L) ∙ ap (λ (n : ℕ). n / 2) n

pub length_old : {L : List ℕ} → Laid L → length (olds_of L) ≡ 8192
unfolding olds_of
length_old {L} h = let k = h.long in let n : length (cut 229376 253952 L) ≡ 24576 = length_cut 229376 253952 L (omega arith) in length_triples (cut 229376 253952 L) ∙ ap (λ (n : ℕ). n / 3) n

pub length_pos : {L : List ℕ} → Laid L → length (pos_of L) ≡ 2048
unfolding pos_of
length_pos {L} h = let k = h.long in let n : length (cut 253952 262144 L) ≡ 8192 = length_cut 253952 262144 L (omega arith) in length_longs (cut 253952 262144 L) ∙ ap (λ (n : ℕ). n / 4) n

pub length_locals : {L : List ℕ} → Laid L → length (locals_of L) ≡ 65536
unfolding locals_of
length_locals {L} h = let k = h.long in length_cut 335872 401408 L (omega arith)

pub length_log : {L : List ℕ} (k : ℕ) → Laid L → Logged k → length (log_of k L) ≡ k
unfolding log_of
length_log {L} k h l =
    let g = h.long in let m = l.most in
    let n : length (cut 262144 (262144 + 3 * k) L) ≡ 3 * k = length_cut 262144 (262144 + 3 * k) L (omega arith) ∙ (omega arith) in
    let q : 3 * k / 3 ≡ k = omega arith in
    length_words (cut 262144 (262144 + 3 * k) L) ∙ ap (λ (n : ℕ). n / 3) n ∙ q

-- a table that lies behind what was changed, or before it, is as it was
pub searched_cell : {L X : List ℕ} → Searched L X → cells_of X ≡ cells_of L
unfolding cells_of
searched_cell p = ap triples (cut_right 16384 212992 (omega arith) p)

pub searched_var : {L X : List ℕ} → Searched L X → vars_of X ≡ vars_of L
unfolding vars_of
searched_var p = ap shorts (cut_right 212992 229376 (omega arith) p)

pub searched_old : {L X : List ℕ} → Searched L X → olds_of X ≡ olds_of L
unfolding olds_of
searched_old p = ap triples (cut_right 229376 253952 (omega arith) p)

pub searched_pos : {L X : List ℕ} → Searched L X → pos_of X ≡ pos_of L
unfolding pos_of
searched_pos p = ap longs (cut_right 253952 262144 (omega arith) p)

pub searched_locals : {L X : List ℕ} → Searched L X → locals_of X ≡ locals_of L
unfolding locals_of
searched_locals p = cut_right 335872 401408 (omega arith) p

pub searched_log : {L X : List ℕ} (k : ℕ) → Searched L X → log_of k X ≡ log_of k L
unfolding log_of
searched_log k p = ap words (cut_right 262144 (262144 + 3 * k) (omega arith) p)

pub moved_pos : {L X : List ℕ} → Moved L X → pos_of X ≡ pos_of L
unfolding pos_of
moved_pos p = ap longs (cut_right 253952 262144 (omega arith) p)

pub moved_locals : {L X : List ℕ} → Moved L X → locals_of X ≡ locals_of L
unfolding locals_of
moved_locals p = cut_right 335872 401408 (omega arith) p

pub moved_log : {L X : List ℕ} (k : ℕ) → Moved L X → log_of k X ≡ log_of k L
unfolding log_of
moved_log k p = ap words (cut_right 262144 (262144 + 3 * k) (omega arith) p)

pub tried_pos : {L X : List ℕ} → Tried L X → pos_of X ≡ pos_of L
unfolding pos_of
tried_pos p = ap longs (cut_right 253952 262144 (omega arith) p)

pub tried_locals : {L X : List ℕ} → Tried L X → locals_of X ≡ locals_of L
unfolding locals_of
tried_locals p = cut_right 335872 401408 (omega arith) p

pub tried_log : {L X : List ℕ} (k : ℕ) → Tried L X → log_of k X ≡ log_of k L
unfolding log_of
tried_log k p = ap words (cut_right 262144 (262144 + 3 * k) (omega arith) p)

pub noted_locals : {L X : List ℕ} → Noted L X → locals_of X ≡ locals_of L
unfolding locals_of
noted_locals p = cut_right 335872 401408 (omega arith) p

pub noted_log : {L X : List ℕ} (k : ℕ) → Noted L X → log_of k X ≡ log_of k L
unfolding log_of
noted_log k p = ap words (cut_right 262144 (262144 + 3 * k) (omega arith) p)

pub moved_mark : {L X : List ℕ} → Laid L → Moved L X → marks_of X ≡ marks_of L
unfolding marks_of
moved_mark h p = ap shorts (cut_left 0 4096 (omega arith) (omega arith) (omega (arith, h.long)) p)

pub moved_stack : {L X : List ℕ} → Laid L → Moved L X → stack_of X ≡ stack_of L
unfolding stack_of
moved_stack h p = ap shorts (cut_left 4096 8192 (omega arith) (omega arith) (omega (arith, h.long)) p)

pub moved_done : {L X : List ℕ} → Laid L → Moved L X → dones_of X ≡ dones_of L
unfolding dones_of
moved_done h p = ap longs (cut_left 8192 16384 (omega arith) (omega arith) (omega (arith, h.long)) p)

pub moved_tried : {L X : List ℕ} → Moved L X → Tried L X
moved_tried p = outside_wide 0 253952 (omega arith) (omega arith) p

pub searched_tried : {L X : List ℕ} → Searched L X → Tried L X
searched_tried p = outside_wide 0 253952 (omega arith) (omega arith) p

pub moved_noted : {L X : List ℕ} → Moved L X → Noted L X
moved_noted p = outside_wide 16384 262144 (omega arith) (omega arith) p

pub same_moved : {L : List ℕ} → Moved L L
same_moved = record { before = refl; after = refl; long = refl }

-- a word that was read after a change is that of the log before it
pub peek_moved : {L X : List ℕ} {i : ℕ} {r : Word} (k : ℕ) → Moved L X → Peeked (log_of k X) i r → r ≡ get_or (log_of k L) i Bad
peek_moved {L} {X} {i} k p e = e.is ∙ ap (λ (W : List Word). get_or W i Bad) (moved_log k p)

-- what is true of the log and the positions after a change is true of those before it, and the other way round
pub moved_at : {L X : List ℕ} (k : ℕ) (Q : List Word → List ℕ → Type 0) → Moved L X → Q (log_of k X) (pos_of X) → Q (log_of k L) (pos_of L)
moved_at {L} {X} k Q p q = subst (λ (W : List Word). Q W (pos_of L)) (moved_log k p) (subst (Q (log_of k X)) (moved_pos p) q)

pub moved_to : {L X : List ℕ} (k : ℕ) (Q : List Word → List ℕ → Type 0) → Moved L X → Q (log_of k L) (pos_of L) → Q (log_of k X) (pos_of X)
moved_to {L} {X} k Q p q = subst (λ (W : List Word). Q W (pos_of X)) (sym (moved_log k p)) (subst (Q (log_of k L)) (sym (moved_pos p)) q)

-- what is true of the positions before is true of those after
pub at_pos : {L X : List ℕ} (Q : List ℕ → Type 0) → Moved L X → Q (pos_of L) → Q (pos_of X)
at_pos Q p q = subst Q (sym (moved_pos p)) q

pub noted_at : {L X : List ℕ} (k : ℕ) (Q : List Word → Type 0) → Noted L X → Q (log_of k X) → Q (log_of k L)
noted_at k Q p q = subst Q (noted_log k p) q

pub noted_to : {L X : List ℕ} (k : ℕ) (Q : List Word → Type 0) → Noted L X → Q (log_of k L) → Q (log_of k X)
noted_to k Q p q = subst Q (sym (noted_log k p)) q

-- the same for the tables that the cycle test reads
pub searched_at : {L X : List ℕ} (k : ℕ) (Q : List Word → List ℕ → List ℕ → Type 0) → Searched L X → Q (log_of k X) (pos_of X) (cells_of X) → Q (log_of k L) (pos_of L) (cells_of L)
searched_at {L} {X} k Q p q = subst (λ (W : List Word). Q W (pos_of L) (cells_of L)) (searched_log k p) (subst (λ (P : List ℕ). Q (log_of k X) P (cells_of L)) (searched_pos p) (subst (Q (log_of k X) (pos_of X)) (searched_cell p) q))

pub searched_to : {L X : List ℕ} (k : ℕ) (Q : List Word → List ℕ → List ℕ → Type 0) → Searched L X → Q (log_of k L) (pos_of L) (cells_of L) → Q (log_of k X) (pos_of X) (cells_of X)
searched_to {L} {X} k Q p q = subst (λ (W : List Word). Q W (pos_of X) (cells_of X)) (sym (searched_log k p)) (subst (λ (P : List ℕ). Q (log_of k L) P (cells_of X)) (sym (searched_pos p)) (subst (Q (log_of k L) (pos_of L)) (sym (searched_cell p)) q))

pub got_pos : {L X : List ℕ} {i b r : ℕ} → Searched L X → Got (pos_of X) i b r → Got (pos_of L) i b r
got_pos {L} {X} {i} {b} {r} p g = subst (λ (P : List ℕ). Got P i b r) (searched_pos p) g

pub same_searched : {L : List ℕ} → Searched L L
same_searched = record { before = refl; after = refl; long = refl }

pub looked_at : {L X : List ℕ} (Q : List ℕ → List ℕ → List ℕ → List ℕ → Type 0) → Searched L X → Q (locals_of X) (cells_of X) (vars_of X) (olds_of X) → Q (locals_of L) (cells_of L) (vars_of L) (olds_of L)
looked_at {L} {X} Q p q = subst (λ (M : List ℕ). Q M (cells_of L) (vars_of L) (olds_of L)) (searched_locals p) (subst (λ (M : List ℕ). Q (locals_of X) M (vars_of L) (olds_of L)) (searched_cell p) (subst (λ (M : List ℕ). Q (locals_of X) (cells_of X) M (olds_of L)) (searched_var p) (subst (Q (locals_of X) (cells_of X) (vars_of X)) (searched_old p) q)))

pub looked_to : {L X : List ℕ} (Q : List ℕ → List ℕ → List ℕ → List ℕ → Type 0) → Searched L X → Q (locals_of L) (cells_of L) (vars_of L) (olds_of L) → Q (locals_of X) (cells_of X) (vars_of X) (olds_of X)
looked_to {L} {X} Q p q = subst (λ (M : List ℕ). Q M (cells_of X) (vars_of X) (olds_of X)) (sym (searched_locals p)) (subst (λ (M : List ℕ). Q (locals_of L) M (vars_of X) (olds_of X)) (sym (searched_cell p)) (subst (λ (M : List ℕ). Q (locals_of L) (cells_of L) M (olds_of X)) (sym (searched_var p)) (subst (Q (locals_of L) (cells_of L) (vars_of L)) (sym (searched_old p)) q)))

pub same_noted : {L : List ℕ} → Noted L L
same_noted = record { before = refl; after = refl; long = refl }
