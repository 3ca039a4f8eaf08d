-- A goal is stable exactly where there is no unrest at any place in it, by its places and by positions.
use mathlib.Core.Path.{◌≡◌, refl, ap, ap₂, sym, ◌∙◌, subst}
use mathlib.Core.Bool.{Bool, true, false, ◌&&◌, not}
use mathlib.Core.List.{List}
use Prim.Native.Nat.{ℕ, ◌<◌, ◌≤◌}
use native.Mathlib.Omega.{arith}
use lib.Dec.{T}
use Rattle.constraint.specs.Solve.{quiet?}
use Rattle.akl.specs.Base.{size, any, all, range}
use Rattle.akl.specs.Limits.{most_parts}
use Rattle.akl.specs.Configuration.{Kind, Node, Ctx, plug, env}
use Rattle.akl.specs.Places.{Place, at, places}
use Rattle.akl.specs.Table.{table}
use Rattle.akl.specs.Stability.{disturbs, locals, stable}
use Rattle.accept.specs.AtPlaces.{stores_at}
use Rattle.mem_words.specs.declared.Word.{Word}
use Rattle.store_form.specs.State.{State, program_of, config_of}
use Rattle.store_steps.specs.After.{Stands}
use Rattle.store_room.proofs.Freshness.{fresh}
use Rattle.rule_ranges.proofs.Stable.{stable_stores}
use Rattle.rule_effects.specs.Effects.{behind}
use Rattle.step_meant.specs.Meant.{Meant, StandsAt}
use Rattle.step_meant.specs.Asked.{unrest, Unrest, IsStable}
use Rattle.step_stable.specs.Calm.{Calm}
use Rattle.step_stable.proofs.Tests.{is_true, is_false, any_nth, nth_any, none_and_all}
use Rattle.step_stable.proofs.Here.{quiescent_here}
use Rattle.step_stable.proofs.Positions.{its_root, place_stands_in, stands_in_place}

-- By its places.
pub stable_places : (limit : ℕ) (s : State) → Stands limit s → {k : Kind} (χ : Ctx k) (n : Node k) → plug χ n ≡ s.config.root → stable (program_of s) (config_of s) (at χ n) ≡ not (any (unrest s χ n) (places n χ))
unfolding stable
stable_places limit s h χ n e =
    ap₂ ◌&&◌ (quiescent_here s.config χ n e s.program) (stable_stores n χ (fresh limit s h χ n (sym e)))
    ∙ none_and_all (λ pl. any (λ r. disturbs s.program s.config χ n r pl) (range 1 (size table))) (λ pl. all (quiet? (locals n) (env χ)) (stores_at pl)) (places n χ)

-- ---------------------------------------------------------------------------------------------
-- By positions.

module _ (W D : List Word) (s : State) (m : Meant W D s) {k : Kind} (χ : Ctx k) (n : Node k) (g : ℕ) (h : StandsAt s W (at χ n) g) where
  stable_in : stable (program_of s) (config_of s) (at χ n) ≡ not (any (unrest s χ n) (places n χ))
  stable_in = stable_places most_parts s m.stands χ n (its_root most_parts s m.stands.fits W m.config χ n g h)

  calm_in : Calm W D g (behind W g) → true ≡ stable (program_of s) (config_of s) (at χ n)
  calm_in c = sym (stable_in ∙ ap not (is_false (any (unrest s χ n) (places n χ)) nowhere))
    where
      nowhere : T (any (unrest s χ n) (places n χ)) → ⊥
      nowhere t =
          let a = any_nth (unrest s χ n) (places n χ) t in
          let b = place_stands_in most_parts s m.stands.fits W m.config χ n g h a.0 a.1 a.2 in
          subst T (sym ((c.still b.0 (omega (arith, b.2)) (omega (arith, b.3))).right s χ n a.1 m h b.1)) a.3

  loud_in : (j : ℕ) → g ≤ j → j < behind W g → Unrest W D g j true → false ≡ stable (program_of s) (config_of s) (at χ n)
  loud_in j a b u =
      let f = u.found refl s m in
      let q = stands_in_place most_parts s m.stands.fits W m.config χ n g h f.0 j f.1 a b in
      sym (stable_in ∙ ap not (is_true (any (unrest s χ n) (places n χ)) (nth_any (unrest s χ n) (places n χ) q.0 f.0 q.1 (subst T (u.right s χ n f.0 m h f.1) tt))))

module _ {W D : List Word} {g : ℕ} where
  -- no unrest up to the goal's end
  pub calm : {j : ℕ} → Calm W D g j → behind W g ≤ j → IsStable W D g true
  calm {j} c b = record { right = λ s pl m h. go s pl m h }
    where
      all_of_it : Calm W D g (behind W g)
      all_of_it = record { still = λ i x y. c.still i x (omega arith) }

      go : (s : State) (pl : Place) → Meant W D s → StandsAt s W pl g → true ≡ stable (program_of s) (config_of s) pl
      go s (at χ n) m h = calm_in W D s m χ n g h all_of_it

  -- unrest somewhere in it
  pub loud : {j : ℕ} {r : Bool} → Unrest W D g j r → r ≡ true → g ≤ j → j < behind W g → IsStable W D g false
  loud {j} u e a b = record { right = λ s pl m h. go s pl m h }
    where
      go : (s : State) (pl : Place) → Meant W D s → StandsAt s W pl g → false ≡ stable (program_of s) (config_of s) pl
      go s (at χ n) m h = loud_in W D s m χ n g h j a b (subst (λ (x : Bool). Unrest W D g j x) e u)
