-- The regions of a store that holds a state: they lie within it, and their words are those of the state. Assumes nothing.
use mathlib.Core.Path.{◌≡◌, refl, ap, sym, ◌∙◌, subst}
use mathlib.Core.List.{List, [], ◌∷◌}
use mathlib.Core.Option.{Option, some, none}
use Prim.Native.Nat.{ℕ, zero, suc, ◌+◌, ◌-◌, ◌*◌, ◌<◌, ◌≤◌}
use native.Mathlib.Omega.{arith}
use lib.ListN.{length}
use Rattle.akl.specs.Base.{nth, size}
use Rattle.akl.specs.Limits.{most_parts}
use Rattle.akl.specs.Table.{Row, table, rule_row}
use Rattle.check_held.specs.Checks.{nodes_in, rules_in, words_in, next_in}
use Rattle.check_held.proofs.Back.{held_checks}
use Rattle.check_zeros.specs.Zeros.{Zeros}
use Rattle.store_form.proofs.Lengths.{starts, lengths}
use Rattle.store_views.proofs.Views.{held_begins, program_within, config_within, next_told}
use borrow.Rule.Slice.PartMut.{put_mid}
use Rattle.akl.specs.StepsText.{Step}
use Rattle.mem_words.specs.declared.Word.{Word}
use Rattle.mem_words.specs.Words.{words, length_words}
use Rattle.mem_parts.specs.Parts.{cut, cut_put, length_cut}
use Rattle.store_commit.specs.Settled.{CanSettle, Settled, Written}
use Rattle.rule_build.specs.Built.{Built}
use Rattle.rule_hidden.specs.Counting.{Capped}
use Rattle.rule_rewrite.specs.Rewriting.{effect_words, fresh_words}
use Rattle.step_parts.specs.Bounds.{CanBound, Bound}
use Rattle.step_meant.specs.Deciding.{step_of, Refuses, Goes, HoldsState}
use Rattle.step_decide.specs.Decided.{CanDecide, Decided}
use Rattle.step_decide.proofs.Places.{stands_within}
use Rattle.step_store.specs.Regions.{config_part, program_part, Counts, CanRewrite, WasBuilt}
use Rattle.store_words.specs.Contexts.{place_at}
use Rattle.rule_places.specs.declared.Finger.{Finger}
use Rattle.rule_places.specs.Fingers.{Points}
use Rattle.step_finger.specs.Following.{Follows}
use Rattle.step_store.specs.Bounds.{AtMost, Carried}
use Rattle.step_store.specs.Pointed.{Pointed}
use Rattle.step_store.proofs.Done.{Viewed, viewed, counted}
use Rattle.step_store.proofs.Bounded.{can_bound, bound_fits, carried}
use Rattle.step_store.proofs.Pointing.{left_pointed}

pub counts : (b : List ℕ) (n m : ℕ) → 245853 ≤ length b → HoldsState b → n ≡ words_in b → m ≡ rules_in b → Counts b n m
counts b n m l h e f = record { long = l; held = h; config = e; rules = f }

module _ {b : List ℕ} {n m : ℕ} (c : Counts b n m) where
  pub config_fits : 159837 + 3 * n ≤ 245853
  config_fits =
      let p = held_begins most_parts (omega arith) b c.held.state c.held.holds in
      omega (arith, c.config, lengths.0, config_within most_parts (omega arith) c.held.state p.1 _ b p.0)

  pub program_fits : 18 + 3 * nodes_in b + 3 * m ≤ 159789
  program_fits =
      let p = held_begins most_parts (omega arith) b c.held.state c.held.holds in
      omega (arith, c.rules, program_within most_parts (omega arith) c.held.state p.1 _ b p.0)

  pub parts_viewed : (next : ℕ) → next ≡ next_in b → Viewed b (config_part b n) (program_part b m) next
  unfolding config_part program_part
  parts_viewed next e = viewed b n m next c.config c.rules e

  pub can_decide : CanDecide (config_part b n) (program_part b m)
  can_decide = record { state = c.held.state; meant = (parts_viewed (next_in b) refl).meant c.held.state c.held.holds }

  -- a finger in the configuration is one in its words
  pub points_there : (f : Finger) → Pointed b f → Points (config_part b n) f
  points_there f p = subst (λ (Z : List Word). Points Z f) (sym ((parts_viewed (next_in b) refl).meant c.held.state c.held.holds).config) (p.there c.held.state c.held.holds)

  -- behind the configuration all is zero
  pub config_zeros : Zeros b (159837 + 3 * n) 245853
  config_zeros i p q =
      let h = (held_checks most_parts (omega arith) b c.held.state c.held.holds).0 in
      h.unused.words i (omega (arith, c.config, starts.2)) (omega (arith, lengths.0))

  -- the next fresh number fits two bytes
  pub next_low : (next : ℕ) → next ≡ next_in b → next < 65536
  next_low next e =
      let p = held_begins most_parts (omega arith) b c.held.state c.held.holds in
      omega (arith, e, next_told most_parts (omega arith) c.held.state p.1 _ b p.0, p.1.next)

-- the part in which words were built came back
pub built_back : (a e : ℕ) (L Y : List ℕ) (cap x : ℕ) (X : List Word) → a ≤ e → e ≤ length L → length Y ≡ length (cut a e L) → Built cap X x (words Y) → Built cap X x (words (cut a e (put_mid a (e - a) L Y)))
built_back a e L Y cap x X h g l t = subst (λ (z : List ℕ). Built cap X x (words z)) (sym (cut_put a e L Y h g (l ∙ length_cut a e L g))) t

-- and has room for 28,672
pub room_is : (w : List ℕ) → 524288 ≤ length w → length (words (cut 401408 487424 w)) ≡ 28672
room_is w h = omega (arith, length_words (cut 401408 487424 w), length_cut 401408 487424 w (omega arith))

pub was_built : (b w w' : List ℕ) (n m next r i x : ℕ) → 524288 ≤ length w → Built (length (words (cut 401408 487424 w))) (effect_words (config_part b n) (program_part b m) r i next) x (words (cut 401408 487424 w')) → WasBuilt b n m next r i x w'
was_built b w w' n m next r i x h t = record { built = subst (λ (c : ℕ). Built c (effect_words (config_part b n) (program_part b m) r i next) x (words (cut 401408 487424 w'))) (room_is w h) t }

-- a rule's number is that of a row
nth_within : {A : Type 0} (l : List A) (p : ℕ) (x : A) → nth l p ≡ some x → p < size l
unfolding nth size
nth_within [] p x e = absurd (let z : ◌≡◌ {A = ℕ} 0 1 = ap (λ (o : Option _). elim o as (λ v. ℕ) [ none ↦ 0 | some y ↦ 1 ]) e in omega arith)
nth_within (y ∷ l) zero x e = omega arith
nth_within (y ∷ l) (suc p) x e = omega (arith, nth_within l p x e)

pub rule_number : (r : ℕ) (w : Row) → rule_row r ≡ some w → (1 ≤ r) × (r ≤ 14)
unfolding rule_row size table
rule_number zero w e = absurd (let z : ◌≡◌ {A = ℕ} 0 1 = ap (λ (o : Option Row). elim o as (λ v. ℕ) [ none ↦ 0 | some y ↦ 1 ]) e in omega arith)
rule_number (suc r) w e = (omega arith, omega (arith, nth_within table r w e, fourteen))
  where
    fourteen : size table ≡ 14
    fourteen = refl

module _ {b : List ℕ} {n m : ℕ} (c : Counts b n m) (r p a i : ℕ) (g : Goes (config_part b n) (program_part b m) (step_of r p a) i) where
  pub goes_there : i ≤ length (config_part b n)
  goes_there =
      let q = can_decide c in
      let R = g q.state q.meant in
      omega (arith, stands_within q.state (config_part b n) R.at_place i R.takes.stands)

  module _ (next f : ℕ) (e : next ≡ next_in b) (k : Capped (fresh_words (config_part b n) r i) f) (h : next + f ≤ 65535) (x : ℕ) (w : List ℕ) (l : 524288 ≤ length w) (t : WasBuilt b n m next r i x w) (u : ℕ) where
    -- where the next configuration was built
    abbrev S : List ℕ
    S = cut 401408 487424 w

    room : 86016 ≤ length S
    room = omega (arith, length_cut 401408 487424 w (omega arith))

    pub can_bound_it : u ≤ 2048 → CanBound S x u r i
    can_bound_it few = can_bound b (config_part b n) (program_part b m) next (parts_viewed c next e) (step_of r p a) i f g k h x S t.built c.held u few room

    pub can_settle : AtMost b u → (q : ℕ) → Bound S x u r i q → CanSettle b S x n q
    can_settle most q d = record {
      store = c.long;
      room = room;
      few_old = omega (arith, config_fits c);
      zeros = config_zeros c;
      fit = λ y z. bound_fits b (config_part b n) (program_part b m) next (parts_viewed c next e) (step_of r p a) i f g k h x S t.built c.held u q most d y z;
    }

    pub settled_left : (B : List ℕ) (z : Finger) → Settled b S x (next + f) B 0 → Follows (config_part b n) r i z → Pointed B z
    settled_left B z s d = left_pointed b (config_part b n) (program_part b m) next (parts_viewed c next e) (step_of r p a) i f g k h x S t.built c.held B z s d

    pub settled_carried : (B : List ℕ) (q : ℕ) → Settled b S x (next + f) B 0 → Written S x q → Carried B q
    settled_carried B q s d = carried b (config_part b n) (program_part b m) next (parts_viewed c next e) (step_of r p a) i f g k h x S t.built c.held B q s d

  pub can_rewrite : (next f : ℕ) → next ≡ next_in b → Capped (fresh_words (config_part b n) r i) f → next + f ≤ 65535 → CanRewrite (config_part b n) r i next
  can_rewrite next f e k h =
      let d = can_decide c in
      let R = g d.state d.meant in
      let q = rule_number r R.takes.row R.takes.is_row in
      record {
        there = goes_there;
        numbers = omega (arith, h, counted b (config_part b n) (program_part b m) next (parts_viewed c next e) (step_of r p a) i f g k h);
        first = q.0;
        last = q.1;
      }
