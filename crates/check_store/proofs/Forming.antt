-- What the tests come to is refusal 9. Assumes nothing.
use mathlib.Core.Path.{◌≡◌, sym, ap, ap₂, ◌∙◌, subst, fun_ext}
use mathlib.Core.List.{List, []}
use mathlib.Core.Bool.{Bool, true, false, ◌&&◌}
use mathlib.Core.Option.{some, none}
use Prim.Native.Nat.{ℕ, ◌≤◌, ◌<◌}
use native.Mathlib.Omega.{arith}
use native.Mathlib.Nat.{add-zero}
use lib.Dec.{T, leb, leb→le, le→leb}
use lib.ListN.{length}
use Rattle.constraint.proofs.Lists.{and_T}
use Rattle.akl.specs.Base.{Name, is_some}
use Rattle.akl.specs.Limits.{most_parts}
use Rattle.akl.specs.Syntax.{Program}
use Rattle.akl.specs.Configuration.{goal, Node}
use Rattle.akl.specs.Parts.{parts}
use Rattle.akl.specs.WellFormed.{statements_pass}
use Rattle.mem_numbers.specs.Numbers.{triples}
use Rattle.mem_words.specs.declared.Word.{Word}
use Rattle.mem_words.specs.Form.{Bytes, AllSmall}
use Rattle.layout.specs.Layout.{program_words}
use Rattle.layout.proofs.Once.{program_once}
use Rattle.store_words.specs.Boxes.{node_words}
use Rattle.read_nodes.specs.Spell.{named}
use Rattle.store_form.specs.Sizes.{store_length}
use Rattle.store_form.specs.State.{State, number_in}
use Rattle.store_form.proofs.Names.{number_back}
use Rattle.store_form.proofs.Spelt.{program_small}
use Rattle.store_calls.specs.Outcomes.{held}
use Rattle.store_parts.specs.declared.Among.TheVariants.{Others}
use Rattle.store_parts.specs.Counting.{parts_in}
use Rattle.store_parts.proofs.Trees.{node_parts}
use Rattle.check_held.specs.Checks.{numbers_in, Counts, Unused, names_at, rules_at, variables_at, words_at, nodes_in, variables_in, next_in, state_with}
use Rattle.check_held.proofs.Held.{rules_two_bytes, words_two_bytes}
use Rattle.check_names.specs.Names.{NamesStand}
use Rattle.check_namekinds.specs.Kinds.{KindsTo}
use Rattle.check_decided.specs.Decided.{scoped, Decided}
use Rattle.check_decided.proofs.Decided.{node_number, decided_held, none_held}
use Rattle.check_tables.specs.Tables.{kinds_of, arities_of, con_of, pred_of, def_of}
use Rattle.check_shapes.specs.Passed.{config_passed}
use Rattle.check_meaning.specs.Table.{con_in, pred_in, def_in}
use Rattle.check_meaning.specs.Meaning.{IsProgram, IsConfig}
use Rattle.check_meaning.proofs.Configs.{config_means, config_taken}
use Rattle.check_agree.proofs.Tables.{con_agrees, pred_agrees, def_agrees}
use Rattle.check_scopes.specs.Scopes.{scopes_passed, scopes_law}
use Rattle.check_rules.specs.Rules.{RulesStand, RulesTold}
use Rattle.check_goals.specs.Goals.{goals_passed, GoalsChecked}

three : (a b c : Bool) → T (a && b && c) → T a × T b × T c
three a b c t = let x = (and_T (a && b) c).0 t in let y = (and_T a b).0 x.0 in (y.0, y.1, x.1)

all_three : (a b c : Bool) → T a → T b → T c → T (a && b && c)
all_three a b c x y z = (and_T (a && b) c).1 ((and_T a b).1 (x, y), z)

counted : (num : Name → ℕ) (n : Node goal) (W : List Word) → W ≡ node_words num n [] → parts_in Others W ≡ parts n
unfolding parts_in
counted num n W e = ap (parts_in Others) e ∙ node_parts n num [] ∙ add-zero (parts n)

module _ (b : List ℕ) (small : Bytes b) (long : store_length most_parts ≤ length b) (C : Counts most_parts (numbers_in b)) (U : Unused most_parts b) where
  abbrev N : List ℕ
  N = names_at b

  abbrev W : List Word
  W = words_at b

  low : most_parts ≤ 65536
  low = omega arith

  -- Names, variables or program do not stand.
  pub rules_unformed : (m : ℕ) (X : List ℕ) → RulesTold N (variables_at b) (rules_at b) m X false → false ≡ is_some (held most_parts b)
  rules_unformed m X f = ap is_some (sym (none_held most_parts low b (λ P n D. f P D.names D.rules D.program)))

  module _ (m : ℕ) (X : List ℕ) (S : RulesStand N (variables_at b) (rules_at b) m X) (many : m ≡ length N) where
    abbrev P : Program
    P = S.program

    abbrev num : Name → ℕ
    num = number_in N

    known : (f : Name) → num f < 65536 → named N (num f) ≡ f
    known f h = (number_back N f h).0

    -- a program with these words is this one
    only : (Q : Program) → rules_at b ≡ program_words num Q → Q ≡ P
    only Q e =
        let r = rules_two_bytes most_parts b long C small in
        program_once num (named N) Q P (program_small num (named N) known Q (subst AllSmall e r)) (program_small num (named N) known P (subst AllSmall S.is.laid r)) (sym e ∙ S.is.laid)

    abbrev passed : ℕ → ℕ → Bool
    passed q next = goals_passed (con_in N) (pred_in N) (def_in N P) q next W

    tables : (q next : ℕ) (X' : List ℕ) (r : Bool) → GoalsChecked X m q next W X' r → r ≡ passed q next
    tables q next X' r g =
        let e = con_agrees N (kinds_of X) m many S.kinds in
        let f = pred_agrees N (kinds_of X) m many S.kinds in
        let h : def_of m (arities_of X) ≡ def_in N P = fun_ext (λ p. fun_ext (λ k. S.definitions p k)) in
        g.is ∙ ap₂ (λ (x y : ℕ → Bool). goals_passed x y (def_of m (arities_of X)) q next W) e f ∙ ap (λ (d : ℕ → ℕ → Bool). goals_passed (con_in N) (pred_in N) d q next W) h

    -- the words pass: a state is held
    holds : T (passed (variables_in b) (next_in b)) → true ≡ is_some (held most_parts b)
    unfolding goals_passed scoped
    holds t =
        let h = three (config_passed (con_in N) (pred_in N) (def_in N P) W) (leb (parts_in Others W) most_parts) (scopes_passed (variables_in b) (next_in b) W) t in
        let M = config_means N P (node_number S.stand) W h.0 in
        let n = M.0 in
        let I = M.1 in
        let D : Decided most_parts b P n = record {
          long = long;
          counts = C;
          unused = U;
          names = S.stand;
          rules = S.is.laid;
          program = S.is.passes;
          words = I.laid;
          top = I.top;
          statements = I.passes;
          scopes = subst T (scopes_law (variables_in b) (next_in b) num n W I.laid) h.2;
          fit = leb→le (parts n) most_parts (subst (λ (k : ℕ). T (leb k most_parts)) (counted num n W I.laid) h.1);
        } in
        ap is_some (sym (decided_held most_parts low b small P n D))

    -- they do not: none is
    holds_none : (T (passed (variables_in b) (next_in b)) → ⊥) → false ≡ is_some (held most_parts b)
    unfolding goals_passed scoped
    holds_none f = ap is_some (sym (none_held most_parts low b (λ Q n D. f (passes Q n D (only Q D.rules)))))
      where
        passes : (Q : Program) (n : Node goal) → Decided most_parts b Q n → Q ≡ P → T (passed (variables_in b) (next_in b))
        passes Q n D e =
            let w = words_two_bytes most_parts b long C small in
            let c : T (config_passed (con_in N) (pred_in N) (def_in N P) W) =
            subst (λ (V' : List Word). T (config_passed (con_in N) (pred_in N) (def_in N P) V')) (sym D.words) (config_taken N P n D.top (subst (λ (R : Program). T (statements_pass n R)) e D.statements) (subst AllSmall D.words w)) in
            all_three (config_passed (con_in N) (pred_in N) (def_in N P) W) (leb (parts_in Others W) most_parts) (scopes_passed (variables_in b) (next_in b) W) c
            (subst (λ (k : ℕ). T (leb k most_parts)) (sym (counted num n W D.words)) (le→leb (parts n) most_parts D.fit))
            (subst T (sym (scopes_law (variables_in b) (next_in b) num n W D.words)) D.scopes)

    -- The configuration's tests decide.
    pub goals_formed : (X' : List ℕ) (r : Bool) → GoalsChecked X m (variables_in b) (next_in b) W X' r → r ≡ is_some (held most_parts b)
    goals_formed X' r g = go r (tables (variables_in b) (next_in b) X' r g)
      where
        go : (t : Bool) → t ≡ passed (variables_in b) (next_in b) → t ≡ is_some (held most_parts b)
        go true e = holds (subst T e tt)
        go false e = holds_none (λ t. subst T (sym e) t)
