-- What each test of a store told, as refusal 9. Assumes nothing.
use mathlib.Core.Path.{◌≡◌, sym, ap, ◌∙◌, subst}
use mathlib.Core.List.{List}
use mathlib.Core.Bool.{Bool, true, false}
use Prim.Native.Nat.{ℕ, ◌+◌, ◌*◌, ◌≤◌}
use native.Mathlib.Omega.{arith}
use lib.ListN.{length}
use Rattle.akl.specs.Base.{is_some}
use Rattle.akl.specs.Limits.{most_parts}
use Rattle.mem_parts.specs.Parts.{cut, length_cut}
use Rattle.mem_words.specs.declared.Word.{Word}
use Rattle.mem_words.specs.Words.{words, length_words}
use Rattle.mem_words.specs.Form.{Bytes}
use Rattle.store_form.specs.Sizes.{store_length}
use Rattle.store_form.proofs.Lengths.{lengths}
use Rattle.store_calls.specs.Outcomes.{held}
use Rattle.store_pieces.proofs.Numbers.{ByteList, all_bytes}
use Rattle.check_header.specs.declared.Header.{Header}
use Rattle.check_header.specs.declared.Heading.{Heading}
use Rattle.check_header.specs.declared.Heading.TheVariants.{Counted, Wrong}
use Rattle.check_header.specs.Header.{Read, bounds}
use Rattle.check_held.specs.Checks.{numbers_in, Counts, Unused, names_at, rules_at, variables_at, words_at, variables_in, next_in}
use Rattle.check_held.proofs.Held.{names_count}
use Rattle.check_bytes.specs.Bytes.{Laid, BytesTold}
use Rattle.check_decided.proofs.Decided.{none_held}
use Rattle.check_rules.specs.Rules.{variables_of_store, rules_of_store, CanRules, RulesTold, RulesChecked}
use Rattle.check_goals.specs.Goals.{CanGoals, GoalsChecked}
use Rattle.check_store.specs.Store.{Formed}
use Rattle.check_store.proofs.Pieces.{names_are, rules_are, variables_are, words_are}
use Rattle.check_store.proofs.Forming.{rules_unformed, goals_formed}

untrue : {A : Type 0} → false ≡ true → A
untrue z = absurd (let y : ◌≡◌ {A = ℕ} 0 1 = ap (λ (b : Bool). elim b as (λ v. ℕ) [ false ↦ 0 | true ↦ 1 ]) z in omega arith)

pub as_long : (b : List ℕ) → 245853 ≤ length b → store_length most_parts ≤ length b
as_long b h = omega (arith, lengths.0, h)

pub can_bytes : (b : List ℕ) → 245853 ≤ length b → Laid most_parts b
can_bytes b h = record { parts = omega arith; long = as_long b h }

-- the header is within its bounds, or is not
pub told_counted : (b : List ℕ) (r : Heading) (c : Header) → r ≡ Counted c → BytesTold most_parts b r → Read most_parts (numbers_in b) c × Unused most_parts b
told_counted b r c e t = subst (BytesTold most_parts b) e t

pub told_wrong : (b : List ℕ) (r : Heading) → r ≡ Wrong → BytesTold most_parts b r → Formed b false
told_wrong b r e t =
    let w : Counts most_parts (numbers_in b) → Unused most_parts b → ⊥ = subst (BytesTold most_parts b) e t in
    record { is = ap is_some (sym (none_held most_parts (omega arith) b (λ P n D. w D.counts D.unused))) }

module _ (b : List ℕ) (given : ByteList b) (long : 245853 ≤ length b) (c : Header) (R : Read most_parts (numbers_in b) c) (U : Unused most_parts b) where
  pub can_rules : (L : List ℕ) → 524288 ≤ length L → CanRules b c.nodes c.rules c.variables L
  can_rules L w =
      let C = R.counts in
      record {
        store = long;
        working = w;
        some = omega (arith, C.root, R.nodes);
        names = omega (arith, C.nodes, R.nodes, bounds.0);
        rules = omega (arith, C.rules, R.rules, bounds.1);
        together = omega (arith, C.together, R.nodes, R.rules, bounds.3);
        variables = omega (arith, C.variables, R.variables);
      }

  few_words : c.words ≤ 28672
  few_words = omega (arith, R.counts.words, R.words)

  pub words_end : 159837 + 3 * c.words ≤ length b
  words_end = omega (arith, few_words, long)

  pub can_goals : (X : List ℕ) → 524288 ≤ length X → CanGoals X c.nodes c.variables (words (cut 159837 (159837 + 3 * c.words) b))
  can_goals X w =
      let C = R.counts in
      record {
        tables = record { long = w; names = omega (arith, C.nodes, R.nodes, bounds.0) };
        words = omega (arith, length_words (cut 159837 (159837 + 3 * c.words) b), length_cut 159837 (159837 + 3 * c.words) b words_end, few_words);
        variables = omega (arith, C.variables, R.variables);
      }

  many : c.nodes ≡ length (names_at b)
  many = R.nodes ∙ sym (names_count most_parts b (as_long b long) R.counts)

  moved : (X : List ℕ) (t : Bool) (L : List ℕ) → RulesChecked b c.nodes c.rules c.variables L X t → RulesTold (names_at b) (variables_at b) (rules_at b) c.nodes X t
  moved X t L r =
      subst (λ (W : List Word). RulesTold (names_at b) (variables_at b) W c.nodes X t) (rules_are b c.nodes c.rules R.nodes R.rules)
      (subst (λ (v : List ℕ). RulesTold (names_at b) v (rules_of_store b c.nodes c.rules) c.nodes X t) (variables_are b c.variables R.variables)
      (subst (λ (N : List ℕ). RulesTold N (variables_of_store b c.variables) (rules_of_store b c.nodes c.rules) c.nodes X t) (names_are b c.nodes R.nodes) r.told))

  pub rules_told : (L X : List ℕ) (t : Bool) → t ≡ false → RulesChecked b c.nodes c.rules c.variables L X t → Formed b false
  rules_told L X true e r = untrue (sym e)
  rules_told L X false e r = record { is = rules_unformed b (all_bytes b given) (as_long b long) R.counts U c.nodes X (moved X false L r) }

  pub goals_told : (L X Y : List ℕ) (t r : Bool) → t ≡ true → RulesChecked b c.nodes c.rules c.variables L X t → GoalsChecked X c.nodes c.variables c.next (words (cut 159837 (159837 + 3 * c.words) b)) Y r → Formed b r
  goals_told L X Y true r e s g =
      let h = subst (λ (W : List Word). GoalsChecked X c.nodes c.variables c.next W Y r) (words_are b c.words R.words) g in
      let k = subst (λ (q : ℕ). GoalsChecked X c.nodes q c.next (words_at b) Y r) R.variables h in
      let l = subst (λ (n : ℕ). GoalsChecked X c.nodes (variables_in b) n (words_at b) Y r) R.next k in
      record { is = goals_formed b (all_bytes b given) (as_long b long) R.counts U c.nodes X (moved X true L s) many Y r l }
  goals_told L X Y false r e s g = untrue e
