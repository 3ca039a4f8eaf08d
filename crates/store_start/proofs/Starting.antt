-- The state at the start of a query has bytes, means the program, the names and the configuration of the definitions, and is well formed
-- where its parts fit.
use mathlib.Core.Path.{◌≡◌, refl, ap, ap₂, sym, ◌∙◌, subst}
use mathlib.Core.List.{List, [], ◌∷◌, ◌++◌, map}
use mathlib.Core.Bool.{◌&&◌, not}
use Prim.Native.Nat.{ℕ, zero, suc, ◌+◌, ◌*◌, ◌<◌, ◌≤◌}
use native.Mathlib.Omega.{arith}
use lib.Dec.{T, leb, leb→le}
use lib.ListN.{length, take, length-map}
use Rattle.constraint.proofs.Lists.{and_T}
use Rattle.akl.specs.Base.{Name, size, range, all, repeats, ok}
use Rattle.akl.specs.Limits.{program_bytes, most_query_variables}
use Rattle.akl.specs.Syntax.{Program}
use Rattle.akl.specs.Reader.{Query}
use Rattle.akl.specs.Configuration.{Config, start_config}
use Rattle.akl.specs.Record.{start}
use Rattle.akl.specs.WellFormed.{names_pass, spelled_variable, well_formed}
use Rattle.theory.specs.Formed.{Formed, QueryFits}
use Rattle.theory.proofs.Reflect.{formed_iff}
use Rattle.accept.proofs.Accepted.{limits_iff}
use Rattle.texts.proofs.Reading.{read_program_passes, read_query_fits}
use Rattle.runs.proofs.Start.{start_formed}
use Rattle.mem_words.specs.declared.Word.{Word}
use Rattle.mem_words.specs.declared.Word.TheVariants.{End, Place, Inner}
use Rattle.mem_words.specs.Form.{AllSmall}
use Rattle.mem_sorts.specs.declared.Kind.TheVariants.{Or, And, Member}
use Rattle.mem_sorts.specs.declared.Sort.TheVariants.{Locals, Store}
use Rattle.layout.specs.Layout.{program_words}
use Rattle.read_nodes.specs.Spell.{named}
use Rattle.store_words.specs.Boxes.{local_words, store_words, node_words}
use Rattle.store_words.proofs.Places.{stmt_front}
use Rattle.store_words.proofs.Sizes.{size_length}
use Rattle.store_texts.proofs.Programs.{program_words_few, names_and_words_few}
use Rattle.store_texts.proofs.Queries.{query_short}
use Rattle.store_form.specs.Sizes.{most_program_words, most_together}
use Rattle.store_form.specs.State.{State, table, node_count, number_in, names_of, well_formed_state}
use Rattle.store_form.specs.Form.{rules_words, config_words}
use Rattle.store_form.specs.Holding.{below, Fits}
use Rattle.store_form.proofs.Names.{number_named}
use Rattle.store_form.proofs.Spelt.{all_small}
use Rattle.store_form.proofs.Lengths.{formed_words}
use Rattle.store_start.specs.Start.{Left, start_state, start_words}
use Rattle.store_start.proofs.Tables.{cells_count, names_same, cells_lower, cells_apart, names_apart}

locals_small : (from n : ℕ) (r : List Word) → from + n ≤ 65536 → AllSmall r → AllSmall (local_words (range from n) r)
unfolding local_words range
locals_small from zero r h k = k
locals_small from (suc n) r h k = (record { value = omega arith }, locals_small (suc from) n r (omega arith) k)

join_small : (W X : List Word) → AllSmall W → AllSmall X → AllSmall (W ++ X)
join_small [] X a b = b
join_small (w ∷ W) X a b = (a.0, join_small W X a.1 b)

-- the same elements, looked up alike
map_same : (f g : ℕ → Name) (n : ℕ) (l : List ℕ) → ((i : ℕ) → i < n → f i ≡ g i) → T (all (below n) l) → map f l ≡ map g l
unfolding all
map_same f g n [] h t = refl
map_same f g n (x ∷ l) h t =
    let a = (and_T (below n x) (all (below n) l)).0 t in
    ap₂ (λ (y : Name) (r : List Name). y ∷ r) (h x (leb→le (suc x) n a.0)) (map_same f g n l h a.1)

pub few_names : (xs : List Name) → T (names_pass xs) → size xs ≤ 16
unfolding names_pass
few_names xs t = leb→le (size xs) most_query_variables ((and_T (leb (size xs) most_query_variables) (not (repeats xs))).0 ((and_T (leb (size xs) most_query_variables && not (repeats xs)) (all spelled_variable xs)).0 t).0).0

enough_words : (n k : ℕ) → 2 * n ≤ 5 * k → k ≤ program_bytes → n ≤ most_program_words
unfolding most_program_words
enough_words n k a b = omega arith

module _ (text query N : List ℕ) (R : List Word) (Q : List ℕ) (G : List Word) (a v b m : ℕ) (P : Program) (q : Query) (left : Left text query N R Q G a v b m P q) where
  abbrev s : State
  s = start_state N m P Q v q

  abbrev num : Name → ℕ
  num = number_in (table s)

  -- a node's name has its number
  pub finds : (i : ℕ) → i < m → num (named N i) ≡ i
  finds i h =
      ap num (sym (names_same N m left.root left.nodes left.parents left.apart i h))
      ∙ number_named (table s) (names_apart N m left.root left.nodes left.parents left.apart) i (omega (arith, cells_count N m left.root left.nodes left.parents left.apart))

  -- What it means.
  pub start_names : names_of s ≡ q.variables
  start_names = map_same (named (table s)) (named N) m (take v Q) (names_same N m left.root left.nodes left.parents left.apart) left.known ∙ left.variables

  -- Its words: those that the reader wrote.
  pub start_rules : rules_words s ≡ take a R
  unfolding rules_words
  start_rules = sym (left.rules_words num finds)

  pub start_goals : config_words s ≡ start_words q (take b G)
  unfolding config_words start_words start_config node_words store_words
  start_goals =
      ap (λ (W : List Word). Place Or ∷ Place And ∷ Inner Locals ∷ local_words (range 0 (size q.variables)) (End ∷ Inner Store ∷ End ∷ Place Member ∷ W))
      (stmt_front num q.statement [] (End ∷ End ∷ End ∷ []) ∙ ap (λ (W : List Word). W ++ (End ∷ End ∷ End ∷ [])) (sym (left.goal_words num finds)))

  fits_query : QueryFits P q
  fits_query = read_query_fits P query q left.reads_query

  goals_small : AllSmall (start_words q (take b G))
  unfolding start_words
  goals_small =
      let w = Place Member ∷ (take b G ++ (End ∷ End ∷ End ∷ [])) in
      let e = few_names q.variables fits_query.names in
      let rest : AllSmall w = (record { value = omega arith }, join_small (take b G) (End ∷ End ∷ End ∷ []) left.goal_small (record { value = omega arith }, (record { value = omega arith }, (record { value = omega arith }, tt)))) in
      (record { value = omega arith }, (record { value = omega arith }, (record { value = omega arith }, locals_small 0 (size q.variables) (End ∷ Inner Store ∷ End ∷ w) (omega (arith, e)) (record { value = omega arith }, (record { value = omega arith }, (record { value = omega arith }, rest))))))

  rules_few : length (rules_words s) ≤ most_program_words
  unfolding rules_words
  rules_few = let f = program_words_few text P left.reads_program num in enough_words (length (program_words num P)) (length text) f.0 f.1

  pub rules_together : node_count s + length (rules_words s) ≤ most_together
  unfolding rules_words most_together
  rules_together =
      let k = cells_count N m left.root left.nodes left.parents left.apart in
      let f = names_and_words_few text P left.reads_program num m (9 + length query) (λ ts e. omega (arith, left.few ts e)) in
      omega (arith, k, f, (program_words_few text P left.reads_program num).1, query_short P query q left.reads_query)

  module _ (limit : ℕ) (c : Config) (fit : start limit q ≡ ok c) where
    start_is : start_config q ≡ c
    unfolding start
    start_is = ((limits_iff limit (start_config q) c).0 fit).0

    formed : Formed limit P q.variables (start_config q)
    formed = subst (Formed limit P q.variables) (sym start_is) (start_formed P (read_program_passes text P left.reads_program) q fits_query limit c fit)

    -- It has bytes.
    pub start_fits : Fits limit s
    unfolding start_config
    start_fits =
        let k = cells_count N m left.root left.nodes left.parents left.apart in
        let e = few_names q.variables fits_query.names in
        let l : length (map (named N) (take v Q)) ≡ length q.variables = ap length left.variables in
        record {
          nodes = omega (arith, k, left.nodes, left.names);
          lower = cells_lower N m left.root left.nodes left.parents left.apart;
          apart = cells_apart N m left.root left.nodes left.parents left.apart;
          rules = rules_few;
          together = rules_together;
          rules_small = all_small (rules_words s) (subst AllSmall (sym start_rules) left.rules_small);
          variables = omega (arith, l, e, size_length q.variables, length-map (take v Q) (named N));
          known = subst (λ (n : ℕ). T (all (below n) (take v Q))) (sym k) left.known;
          words = formed_words limit s P q.variables formed;
          words_small = all_small (config_words s) (subst AllSmall (sym start_goals) goals_small);
          next = omega (arith, e);
        }

    -- It means the definitions' configuration, and is well formed.
    pub start_means : s.config ≡ c
    start_means = start_is

    pub start_well_formed : T (well_formed_state limit s)
    start_well_formed = subst (λ (xs : List Name). T (well_formed limit P xs (start_config q))) (sym start_names) ((formed_iff limit P q.variables (start_config q)).1 formed)
