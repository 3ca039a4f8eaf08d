-- The store that a start leaves holds the state that means what was read, well formed: reading it back gives the definitions' program,
-- names and configuration. Assumes nothing.
use mathlib.Core.Path.{◌≡◌, refl, sym, ap, ◌∙◌, subst}
use mathlib.Core.List.{List}
use mathlib.Core.Option.{some}
use Prim.Native.Nat.{ℕ, ◌<◌}
use native.Mathlib.Omega.{arith}
use lib.Dec.{T}
use lib.ListN.{drop}
use Rattle.akl.specs.Limits.{most_parts}
use Rattle.akl.specs.WellFormed.{well_formed}
use Rattle.akl.specs.Base.{Name}
use Rattle.akl.specs.Syntax.{Program}
use Rattle.akl.specs.Configuration.{Config}
use Rattle.texts.proofs.Reading.{read_program_passes, read_query_fits}
use Rattle.theory.proofs.Reflect.{formed_iff}
use Rattle.runs.proofs.Start.{start_formed}
use Rattle.store_form.specs.Sizes.{store_length}
use Rattle.store_form.specs.State.{State, program_of, names_of, config_of, well_formed_state}
use Rattle.store_steps.specs.After.{Stands}
use Rattle.store_calls.specs.Outcomes.{held, put_state}
use Rattle.store_calls.proofs.OnBytes.{begin_held}
use Rattle.start_outcome.specs.Outcome.{Started}

module _ (limit : ℕ) (low : limit < 65536) (text query b b' : List ℕ) (S : Started limit text query b b') where
  pub started_stands : Stands limit S.state
  started_stands =
      let B = S.begins in
      let f : T (well_formed limit S.program S.goal.variables S.config) = (formed_iff limit S.program S.goal.variables S.config).1 (start_formed S.program (read_program_passes text S.program S.reads_program) S.goal (read_query_fits S.program query S.goal S.reads_query) limit S.config S.starts) in
      record {
        fits = B.fits;
        formed =
            subst (λ (c : Config). T (well_formed limit (program_of S.state) (names_of S.state) c)) (sym B.config)
            (subst (λ (xs : List Name). T (well_formed limit (program_of S.state) xs S.config)) (sym B.names)
            (subst (λ (P : Program). T (well_formed limit P S.goal.variables S.config)) (sym B.program) f));
      }

  pub started_held : held limit b' ≡ some S.state
  unfolding put_state
  started_held = ap (held limit) S.store ∙ begin_held limit low 0 (drop (store_length limit) b) S.state started_stands
