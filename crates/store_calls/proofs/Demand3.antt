-- Demand 3 said of bytes: over every list of calls on the bytes of a query's start.
use mathlib.Core.Path.{◌≡◌, refl, ap, sym, ◌∙◌, subst}
use mathlib.Core.List.{List, [], ◌++◌, map}
use mathlib.Core.Option.{some}
use Prim.Native.Nat.{ℕ, ◌<◌}
use native.Mathlib.Omega.{arith}
use lib.Dec.{T}
use Rattle.akl.specs.Base.{Name, ok}
use Rattle.akl.specs.Limits.{most_parts}
use Rattle.akl.specs.Syntax.{Program}
use Rattle.akl.specs.Reader.{Query, read_program, read_query}
use Rattle.akl.specs.Configuration.{Config}
use Rattle.akl.specs.Record.{start}
use Rattle.akl.specs.WellFormed.{well_formed}
use Rattle.runs.specs.Calls.{after_calls}
use Rattle.runs.specs.Outcomes.{outcomes}
use Rattle.runs.proofs.Demand3.{run_holds}
use Rattle.mem_words.specs.declared.Word.{Word}
use Rattle.store_form.specs.State.{State, program_of, names_of, config_of}
use Rattle.store_form.specs.Form.{store_bytes}
use Rattle.store_form.proofs.Keeping.{with_config}
use Rattle.store_start.specs.Start.{Left, start_state}
use Rattle.store_start.proofs.Starting.{start_names, start_fits, start_means}
use Rattle.store_steps.specs.After.{Stands}
use Rattle.store_calls.specs.Calls.{ByteCall, meant}
use Rattle.store_calls.specs.OnBytes.{Begins, RunOnBytes}
use Rattle.store_calls.proofs.OnBytes.{calls_on_bytes}

-- For any limit on the parts that two bytes hold.
module _ (limit : ℕ) (low : limit < 65536) (rules text : List ℕ) (P : Program) (query : Query) (c : Config) (rp : read_program rules ≡ ok P) (rq : read_query P text ≡ ok query) (rs : start limit query ≡ ok c) (s : State) (B : Begins limit s P query c) where
  start_formed : T (well_formed limit P query.variables c)
  unfolding after_calls
  start_formed = (run_holds limit rules text P query c rp rq rs []).formed

  -- The state at the start has bytes and is well formed.
  pub begins_stands : Stands limit s
  begins_stands = record {
    fits = B.fits;
    formed =
        subst (λ (Q : Program). T (well_formed limit Q (names_of s) (config_of s))) (sym B.program)
        (subst (λ (xs : List Name). T (well_formed limit P xs (config_of s))) (sym B.names)
        (subst (λ (d : Config). T (well_formed limit P query.variables d)) (sym B.config) start_formed));
  }

  pub run_on_bytes : (work : ℕ) (rest : List ℕ) (ks : List ByteCall) → RunOnBytes limit work s rest ks P query c
  run_on_bytes work rest ks =
      let calls = map (meant work) ks in
      let on = calls_on_bytes limit low work rest s begins_stands ks in
      let end : after_calls limit (program_of s) (config_of s) calls ≡ after_calls limit P c calls =
      ap (λ (Q : Program). after_calls limit Q (config_of s) calls) B.program ∙ ap (λ (d : Config). after_calls limit P d calls) B.config in
      record {
        told =
            on.told
            ∙ ap (λ (Q : Program). outcomes limit Q (names_of s) (config_of s) calls) B.program
            ∙ ap (λ (xs : List Name). outcomes limit P xs (config_of s) calls) B.names
            ∙ ap (λ (d : Config). outcomes limit P query.variables d calls) B.config;
        bytes = on.bytes ∙ ap (λ (d : Config). store_bytes limit (with_config s d) ++ rest) end;
        holds = on.holds ∙ ap (λ (d : Config). some (with_config s d)) end;
        stand = subst (λ (d : Config). Stands limit (with_config s d)) end on.stand;
        run = run_holds limit rules text P query c rp rq rs calls;
      }

-- Demand 3 on bytes, at document 01's limit.
pub demand_3_on_bytes : (rules text : List ℕ) (P : Program) (query : Query) (c : Config) → read_program rules ≡ ok P → read_query P text ≡ ok query →
    start most_parts query ≡ ok c → (s : State) → Begins most_parts s P query c → (work : ℕ) (rest : List ℕ) (ks : List ByteCall) → RunOnBytes most_parts work s rest ks P query c
demand_3_on_bytes rules text P query c rp rq rs s B work rest ks = run_on_bytes most_parts (omega arith) rules text P query c rp rq rs s B work rest ks

-- The state made from what the reader of texts leaves is one that a run begins with,
pub left_begins : (limit : ℕ) (text query N : List ℕ) (R : List Word) (Q : List ℕ) (G : List Word) (a v b m : ℕ) (P : Program) (q : Query) → Left text query N R Q G a v b m P q → (c : Config) → start limit q ≡ ok c → Begins limit (start_state N m P Q v q) P q c
left_begins limit text query N R Q G a v b m P q L c rs = record {
  program = refl;
  names = start_names text query N R Q G a v b m P q L;
  config = start_means text query N R Q G a v b m P q L limit c rs;
  fits = start_fits text query N R Q G a v b m P q L limit c rs;
}

-- so that demand 3 holds of its bytes.
pub left_on_bytes : (text query N : List ℕ) (R : List Word) (Q : List ℕ) (G : List Word) (a v b m : ℕ) (P : Program) (q : Query) → Left text query N R Q G a v b m P q → (c : Config) → start most_parts q ≡ ok c →
    (work : ℕ) (rest : List ℕ) (ks : List ByteCall) → RunOnBytes most_parts work (start_state N m P Q v q) rest ks P q c
left_on_bytes text query N R Q G a v b m P q L c rs =
    demand_3_on_bytes text query P q c L.reads_program L.reads_query rs (start_state N m P Q v q) (left_begins most_parts text query N R Q G a v b m P q L c rs)
