-- The bound of the parts, from a store to what a step built and left of it. Assumes nothing.
use mathlib.Core.Path.{◌≡◌, refl, ap, sym, ◌∙◌}
use mathlib.Core.List.{List}
use mathlib.Core.Option.{some, some-injective}
use Prim.Native.Nat.{ℕ, ◌+◌, ◌≤◌, ◌<◌}
use native.Mathlib.Omega.{arith}
use lib.ListN.{length, take}
use Rattle.akl.specs.Limits.{most_parts}
use Rattle.akl.specs.StepsText.{Step}
use Rattle.akl.specs.Parts.{parts}
use Rattle.theory.specs.Formed.{Formed}
use Rattle.theory.proofs.Reflect.{formed_iff}
use Rattle.mem_words.specs.declared.Word.{Word}
use Rattle.mem_words.specs.Words.{words}
use Rattle.store_form.specs.State.{State, program_of, names_of, config_of}
use Rattle.store_calls.proofs.Any.{held_stands}
use Rattle.store_parts.specs.declared.Among.TheVariants.{Others}
use Rattle.store_parts.specs.Counting.{parts_in}
use Rattle.store_commit.specs.Settled.{Settled, Written}
use Rattle.rule_words.specs.Scans.{close}
use Rattle.rule_build.specs.Built.{Built}
use Rattle.rule_hidden.specs.Counting.{Capped}
use Rattle.rule_rewrite.specs.Rewriting.{effect_words, fresh_words}
use Rattle.step_meant.specs.Deciding.{Goes, HoldsState}
use Rattle.step_fewer.proofs.Fewer.{effect_fewer}
use Rattle.step_parts.specs.Bounds.{piece_parts, CanBound, Bound, kept, grown, unknown}
use Rattle.step_store.specs.Bounds.{AtMost, Carried}
use Rattle.step_store.proofs.Whole.{place_is}
use Rattle.step_store.proofs.Piece.{closes_there, piece_most}
use Rattle.step_store.proofs.Done.{Viewed, then, room, parts_next, settled_held}

-- a state that is held is within the limit
pub at_most_any : (b : List ℕ) → AtMost b 2048
at_most_any b = record {
  few = λ s e.
      let h : Formed most_parts (program_of s) (names_of s) (config_of s) = (formed_iff most_parts (program_of s) (names_of s) (config_of s)).0 (held_stands most_parts (omega arith) b s e).formed in
      h.fit;
}

module _ (b : List ℕ) (W D : List Word) (next : ℕ) (v : Viewed b W D next) (k : Step) (i f : ℕ) (g : Goes W D k i) (c : Capped (fresh_words W k.rule i) f) (h : next + f ≤ 65535)
    (n : ℕ) (S : List ℕ) (t : Built 28672 (effect_words W D k.rule i next) n (words S)) (o : HoldsState b) where
  -- the words that were built, by the state's next number
  there : n ≤ 28672 → (n ≡ length (effect_words W D k.rule i o.state.config.next)) × (take n (words S) ≡ effect_words W D k.rule i o.state.config.next)
  there l =
      let r = room b W D next v k i f g c h n S t l in
      let e = ap (effect_words W D k.rule i) (v.number o.state o.holds) in
      (r.0 ∙ ap length e, r.1 ∙ e)

  pub can_bound : (u : ℕ) → u ≤ 2048 → 86016 ≤ length S → CanBound S n u k.rule i
  can_bound u l r = record {
    room = r;
    few = l;
    closed = λ a w.
        let m = v.meant o.state o.holds in
        omega (arith, (there w).0, ap (λ (Z : List Word). close Z i) (there w).1, closes_there W D o.state m k i (g o.state m) a);
  }

  -- the bound holds where it is within the limit
  pub bound_fits : (u q : ℕ) → AtMost b u → Bound S n u k.rule i q → q ≤ most_parts → n ≤ 28672 → parts_in Others (take n (words S)) ≤ q
  bound_fits u q w (kept a e) y l =
      let s = o.state in
      let m = v.meant s o.holds in
      let R = g s m in
      let x = effect_fewer (program_of s) s.config.next k.rule R.at_place R.takes.row R.after R.takes.is_row R.takes.fits R.leads a in
      omega (arith, e, x, w.few s o.holds, parts_next b W D next v k i f g c h n S t s o.holds l, ap parts (place_is W D s m R.at_place i R.takes.stands))
  bound_fits u q w (grown a e) y l =
      let s = o.state in
      let m = v.meant s o.holds in
      let x = piece_most W D s m k i (g s m) a in
      omega (arith, e, x, w.few s o.holds, parts_next b W D next v k i f g c h n S t s o.holds l, ap (λ (Z : List Word). piece_parts Z i) (there l).1)
  bound_fits u q w (unknown z) y l = absurd (omega (arith, y, z))

  -- what is left has the parts that were built
  pub carried : (B : List ℕ) (p : ℕ) → Settled b S n (next + f) B 0 → Written S n p → Carried B p
  carried B p y w = record {
    most = record {
      few = λ s e.
          let q = settled_held b W D next v k i f g c h n S t B 0 refl y o.state o.holds in
          let same : then b W D next v k i f g c h n S t o.state o.holds ≡ s = some-injective (then b W D next v k i f g c h n S t o.state o.holds) s (sym q.0 ∙ e) in
          omega (arith, w.few, ap (λ (d : State). parts (config_of d).root) same, parts_next b W D next v k i f g c h n S t o.state o.holds q.1);
    };
    limit = w.limit;
  }
