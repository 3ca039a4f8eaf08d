-- A step on bytes that hold a state, from what the functions on its words hand back: the refusals 10 to 13, 14 before anything is
-- built, and what settling the built words leaves. Assumes nothing.
use mathlib.Core.Path.{◌≡◌, refl, ap, sym, ◌∙◌}
use mathlib.Core.Bool.{Bool}
use mathlib.Core.List.{List}
use mathlib.Core.Option.{some}
use Prim.Native.Nat.{ℕ, zero, suc, ◌+◌, ◌*◌, ◌<◌, ◌≤◌}
use native.Mathlib.Decide.{dec_lt}
use native.Mathlib.Omega.{arith}
use lib.Dec.{ltb}
use lib.ListN.{length, take}
use borrow.Author.Tests.{lt-ltb, le-ltb}
use Rattle.akl.specs.Base.{if, refused, ok}
use Rattle.akl.specs.Limits.{last_number, most_parts}
use Rattle.akl.specs.StepsText.{Step}
use Rattle.akl.specs.Configuration.{Config}
use Rattle.akl.specs.Parts.{parts}
use Rattle.akl.specs.Step.{step, within_limits}
use Rattle.accept.proofs.Accepted.{limits_iff}
use Rattle.runs.specs.Outcomes.{refusal}
use Rattle.mem_words.specs.declared.Word.{Word}
use Rattle.mem_words.specs.Words.{words}
use Rattle.mem_parts.specs.Parts.{cut}
use Rattle.check_held.specs.Checks.{nodes_in, rules_in, words_in, next_in}
use Rattle.store_form.specs.State.{State, program_of, config_of}
use Rattle.store_form.specs.Form.{config_words}
use Rattle.store_form.proofs.Keeping.{with_config}
use Rattle.store_steps.specs.After.{state_after}
use Rattle.store_steps.proofs.Keeping.{after_refused, after_accepted, step_stands}
use Rattle.store_calls.specs.Outcomes.{called, held, put_state, step_done}
use Rattle.store_calls.proofs.Any.{held_stands}
use Rattle.store_views.proofs.Views.{held_begins, config_there, program_there, next_told}
use Rattle.store_parts.specs.declared.Among.TheVariants.{Others}
use Rattle.store_parts.specs.Counting.{parts_in}
use Rattle.store_commit.specs.Settled.{Settled, number_over, words_over, parts_over, written}
use Rattle.store_commit.proofs.Parts.{config_parts}
use Rattle.store_commit.specs.Committed.{Committed}
use Rattle.store_commit.proofs.Words.{committed_held}
use Rattle.store_commit.proofs.Settling.{leaves_held}
use Rattle.rule_build.specs.Built.{Built}
use Rattle.rule_hidden.specs.Counting.{Capped}
use Rattle.rule_rewrite.specs.Rewriting.{effect_words, fresh_words}
use Rattle.step_meant.specs.Meant.{Meant}
use Rattle.step_meant.specs.Deciding.{Refuses, Goes, outcome_of, StepDone}
use Rattle.step_store.proofs.Next.{next_is}

-- what is read of a store: the words of its configuration and of its program, and its next fresh number
pub record Viewed (b : List ℕ) (W D : List Word) (next : ℕ) : Type 0 where
  pub meant : (s : State) → held most_parts b ≡ some s → Meant W D s
  pub number : (s : State) → held most_parts b ≡ some s → next ≡ s.config.next

pub viewed : (b : List ℕ) (n d next : ℕ) → n ≡ words_in b → d ≡ rules_in b → next ≡ next_in b → Viewed b (words (cut 159837 (159837 + 3 * n) b)) (words (cut (18 + 3 * nodes_in b) (18 + 3 * nodes_in b + 3 * d) b)) next
viewed b n d next en ed ex = record {
  meant = λ s h.
      let p = held_begins most_parts (omega arith) b s h in
      record {
        stands = held_stands most_parts (omega arith) b s h;
        config = ap (λ (x : ℕ). words (cut 159837 (159837 + 3 * x) b)) en ∙ config_there most_parts (omega arith) s p.1 _ b p.0;
        rules = ap (λ (x : ℕ). words (cut (18 + 3 * nodes_in b) (18 + 3 * nodes_in b + 3 * x) b)) ed ∙ program_there most_parts (omega arith) s p.1 _ b p.0;
      };
  number = λ s h. let p = held_begins most_parts (omega arith) b s h in ex ∙ next_told most_parts (omega arith) s p.1 _ b p.0;
}

-- ---------------------------------------------------------------------------------------------
-- The limits.

module _ (c : Config) where
  pub numbers_over : suc last_number < c.next → within_limits most_parts c ≡ refused 14
  unfolding within_limits
  numbers_over h = ap (λ (x : Bool). if x (refused 14) (if (ltb most_parts (parts c.root)) (refused 15) (ok c))) (lt-ltb (suc last_number) c.next h)

  pub too_many : c.next ≤ suc last_number → most_parts < parts c.root → within_limits most_parts c ≡ refused 15
  unfolding within_limits
  too_many h g =
      ap (λ (x : Bool). if x (refused 14) (if (ltb most_parts (parts c.root)) (refused 15) (ok c))) (le-ltb (suc last_number) c.next h)
      ∙ ap (λ (x : Bool). if x (refused 15) (ok c)) (lt-ltb most_parts (parts c.root) g)

  pub within : c.next ≤ suc last_number → parts c.root ≤ most_parts → within_limits most_parts c ≡ ok c
  within h g = (limits_iff most_parts c c).1 (refl, h, g)

-- ---------------------------------------------------------------------------------------------
-- What is done.

refused_bytes : (b : List ℕ) (x : ℕ) → 0 < x → called (refusal x) b ≡ called (outcome_of x) b
refused_bytes b zero h = absurd (omega arith)
refused_bytes b (suc x) h = refl

-- a refused step changes no store
refusing : (b : List ℕ) (s : State) (k : Step) (x : ℕ) → 0 < x → step most_parts (program_of s) (config_of s) k ≡ refused x → step_done most_parts b (state_after most_parts s k) ≡ called (outcome_of x) b
refusing b s k x h e = ap (step_done most_parts b) ((after_refused most_parts s k x).1 e) ∙ refused_bytes b x h

module _ (b : List ℕ) (W D : List Word) (next : ℕ) (v : Viewed b W D next) (k : Step) where
  pub refused_done : (x : ℕ) → 0 < x → Refuses W D k x → StepDone b k x b
  refused_done x h r = record { right = λ s e. refusing b s k x h (r s (v.meant s e)) }

  module _ (i f : ℕ) (g : Goes W D k i) (c : Capped (fresh_words W k.rule i) f) where
    -- the numbers of the next configuration
    number_next : (s : State) (e : held most_parts b ≡ some s) → (g s (v.meant s e)).after.next ≡ next + fresh_words W k.rule i
    number_next s e = (next_is W D s (v.meant s e) k i (g s (v.meant s e))).1 ∙ ap (λ (x : ℕ). x + fresh_words W k.rule i) (sym (v.number s e))

    pub over_done : 65535 < next + f → StepDone b k 14 b
    over_done h = record {
      right = λ s e.
          let R = g s (v.meant s e) in
          refusing b s k 14 (omega arith) (R.limits ∙ numbers_over R.after (omega (arith, number_next s e, many (dec_lt 65536 (fresh_words W k.rule i)))));
    }
      where
        many : Dec (65536 < fresh_words W k.rule i) → 65535 < next + fresh_words W k.rule i
        many (yes p) = omega arith
        many (no p) = omega (arith, h, c.small (omega arith))

    -- where the numbers are not over, the count is that of the rule
    pub counted : next + f ≤ 65535 → f ≡ fresh_words W k.rule i
    counted h = go (dec_lt 65536 (fresh_words W k.rule i))
      where
        go : Dec (65536 < fresh_words W k.rule i) → f ≡ fresh_words W k.rule i
        go (yes p) = absurd (omega (arith, h, c.large p))
        go (no p) = c.small (omega arith)

    module _ (h : next + f ≤ 65535) (n : ℕ) (S : List ℕ) (t : Built 28672 (effect_words W D k.rule i next) n (words S)) where
      abbrev pub X : List Word
      X = effect_words W D k.rule i next

      -- the state with the next configuration
      abbrev pub then : (s : State) → held most_parts b ≡ some s → State
      then s e = with_config s (g s (v.meant s e)).after

      pub words_next : (s : State) (e : held most_parts b ≡ some s) → X ≡ config_words (then s e)
      words_next s e = ap (effect_words W D k.rule i) (v.number s e) ∙ (next_is W D s (v.meant s e) k i (g s (v.meant s e))).0

      next_low : (s : State) (e : held most_parts b ≡ some s) → (g s (v.meant s e)).after.next ≡ next + f
      next_low s e = number_next s e ∙ ap (λ (x : ℕ). next + x) (sym (counted h))

      -- words that have room were built
      pub room : n ≤ 28672 → (n ≡ length X) × (take n (words S) ≡ X)
      room l = t.whole (go (dec_lt 28672 (length X)))
        where
          go : Dec (28672 < length X) → length X ≤ 28672
          go (yes p) = absurd (omega (arith, l, t.over p))
          go (no p) = omega arith

      pub parts_next : (s : State) (e : held most_parts b ≡ some s) → n ≤ 28672 → parts_in Others (take n (words S)) ≡ parts (g s (v.meant s e)).after.root
      parts_next s e l = ap (parts_in Others) ((room l).1 ∙ words_next s e) ∙ config_parts (then s e)

      -- more words than so few parts have
      parts_many : (s : State) (e : held most_parts b ≡ some s) → 28672 < n → most_parts < parts (g s (v.meant s e)).after.root
      parts_many s e l = go (dec_lt most_parts (parts (g s (v.meant s e)).after.root))
        where
          go : Dec (most_parts < parts (g s (v.meant s e)).after.root) → most_parts < parts (g s (v.meant s e)).after.root
          go (yes p) = p
          go (no p) =
              let R = g s (v.meant s e) in
              let w = step_stands most_parts (omega arith) s (v.meant s e).stands k R.after (R.limits ∙ within R.after (omega (arith, h, next_low s e)) (omega arith)) in
              let q : length X ≤ 28672 = omega (arith, w.fits.words, ap length (words_next s e)) in
              absurd (omega (arith, l, q, (t.whole q).0))

      -- what is written is the state that the step leads to
      accepted_there : n ≤ 28672 → parts_in Others (take n (words S)) ≤ most_parts → (s : State) (e : held most_parts b ≡ some s) → state_after most_parts s k ≡ ok (then s e)
      accepted_there m p s e =
          let R = g s (v.meant s e) in
          (after_accepted most_parts s k (then s e)).1 (R.after, R.limits ∙ within R.after (omega (arith, h, next_low s e)) (omega (arith, p, parts_next s e m)), refl)

      written_there : (B : List ℕ) → n ≤ 28672 → Committed b S n (next + f) B → (s : State) (e : held most_parts b ≡ some s) → B ≡ put_state most_parts b (then s e)
      written_there B m y s e =
          let r = room m in
          committed_held s (g s (v.meant s e)).after b S B n (next + f) e y (r.1 ∙ words_next s e) (r.0 ∙ ap length (words_next s e)) (sym (next_low s e))

      pub settled_done : (B : List ℕ) (x : ℕ) → Settled b S n (next + f) B x → StepDone b k x B
      settled_done B x (number_over l y) = absurd (omega arith)
      settled_done B x (words_over l m y) = record {
        right = λ s e.
            let R = g s (v.meant s e) in
            refusing b s k 15 (omega arith) (R.limits ∙ too_many R.after (omega (arith, h, next_low s e)) (parts_many s e m)) ∙ ap (called (refusal 15)) (sym y);
      }
      settled_done B x (parts_over l m p y) = record {
        right = λ s e.
            let R = g s (v.meant s e) in
            refusing b s k 15 (omega arith) (R.limits ∙ too_many R.after (omega (arith, h, next_low s e)) (omega (arith, p, parts_next s e m))) ∙ ap (called (refusal 15)) (sym y);
      }
      settled_done B x (written l m p y) = record {
        right = λ s e. ap (step_done most_parts b) (accepted_there m p s e) ∙ ap (called (outcome_of 0)) (sym (written_there B m y s e));
      }

      -- and so the store holds it
      pub settled_held : (B : List ℕ) (x : ℕ) → x ≡ 0 → Settled b S n (next + f) B x → (s : State) (e : held most_parts b ≡ some s) → (held most_parts B ≡ some (then s e)) × (n ≤ 28672)
      settled_held B x z (number_over l y) s e = absurd (omega arith)
      settled_held B x z (words_over l m y) s e = absurd (omega arith)
      settled_held B x z (parts_over l m p y) s e = absurd (omega arith)
      settled_held B x z (written l m p y) s e = (ap (held most_parts) (written_there B m y s e) ∙ leaves_held s (then s e) k b e (accepted_there m p s e), m)
