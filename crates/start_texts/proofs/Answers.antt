-- The answers of reading two texts, as answers of the start. Assumes nothing.
use mathlib.Core.Path.{◌≡◌, refl, sym, ap, ◌∙◌, subst}
use mathlib.Core.List.{List}
use Prim.Native.Nat.{ℕ, zero, suc, ◌+◌, ◌≤◌, ◌<◌}
use native.Mathlib.Omega.{arith}
use mathlib.Core.Logic.{◌⊎◌, inl, inr}
use lib.ListN.{length}
use Rattle.akl.specs.Base.{refused, ok}
use Rattle.akl.specs.Limits.{most_parts}
use Rattle.akl.specs.Syntax.{Program}
use Rattle.akl.specs.Reader.{Query, read_program, read_query}
use Rattle.mem_words.specs.declared.Word.{Word}
use Rattle.read_inputs.specs.declared.Inputs.{Inputs}
use Rattle.read_inputs.specs.declared.Inputs.TheVariants.{Read, Refused, Short}
use Rattle.read_inputs.specs.Inputs.{InputsTo, Loaded, Ample}
use Rattle.store_texts.proofs.Queries.{query_short}
use Rattle.refusals.specs.declared.Refusal.{Refusal}
use Rattle.refusals.specs.Refusals.{number_of}
use Rattle.refusals.proofs.Numbers.{numbered}
use Rattle.store_form.specs.Sizes.{most_nodes}
use Rattle.start_outcome.specs.Outcome.{StoreAfter, StartTo}
use Rattle.start_outcome.proofs.Settling.{program_refused, query_refused}

-- The table of names is no longer than a store has room for.
pub few_cells : (text query N M : List ℕ) (P : Program) (q : Query) → length N ≡ 9 + length text + length query → length text ≤ 16384 → length M ≡ length N → read_query P query ≡ ok q → length M ≤ most_nodes
unfolding most_nodes
few_cells text query N M P q e h k r = omega (arith, query_short P query q r, e, h, k)

-- A refusal of a text is the start's, and leaves the store.
pub refused_text : (text query L : List ℕ) (w n : ℕ) (f : Refusal) → n ≡ number_of f
    → (read_program text ≡ refused (number_of f)) ⊎ ((P : Program) × (read_program text ≡ ok P) × (read_query P query ≡ refused (number_of f)))
    → StartTo text query L w L n
refused_text text query L w n f e a = subst (StartTo text query L w L) (sym e) (go a)
  where
    same : (m : ℕ) → (k : ℕ) × (m ≡ suc k) → StoreAfter most_parts text query L L m
    same m (k, p) = subst (StoreAfter most_parts text query L L) (sym p) refl

    go : (read_program text ≡ refused (number_of f)) ⊎ ((P : Program) × (read_program text ≡ ok P) × (read_query P query ≡ refused (number_of f))) → StartTo text query L w L (number_of f)
    go (inl p) = record { refusal = program_refused text query L w (number_of f) p; store = same (number_of f) (numbered f) }
    go (inr (P, p, r)) = record { refusal = query_refused text query L w (number_of f) P p r; store = same (number_of f) (numbered f) }

-- What reading both texts answers is known: each case by itself.
module _ {text query N D : List ℕ} {R : List Word} {Q : List ℕ} {G : List Word} {K H S T B Z N' D' : List ℕ} {R' : List Word} {Q' : List ℕ} {G' : List Word} {r : Inputs} (given : InputsTo text query N D R Q G K H S T B Z N' D' R' Q' G' r) where
  pub told_read : (d a v b m : ℕ) → r ≡ Read d a v b m → Loaded text query N' D' R' Q' G' d a v b m
  told_read d a v b m e = (subst (InputsTo text query N D R Q G K H S T B Z N' D' R' Q' G') e given).answer

  pub told_refused : (f : Refusal) → r ≡ Refused f → (read_program text ≡ refused (number_of f)) ⊎ ((P : Program) × (read_program text ≡ ok P) × (read_query P query ≡ refused (number_of f)))
  told_refused f e = (subst (InputsTo text query N D R Q G K H S T B Z N' D' R' Q' G') e given).answer

  pub told_short : r ≡ Short → Ample text query N D R Q G K H S T B Z → ⊥
  told_short e = (subst (InputsTo text query N D R Q G K H S T B Z N' D' R' Q' G') e given).answer
