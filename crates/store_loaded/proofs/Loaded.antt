-- What the reader of texts leaves (read_inputs: Loaded), in tables of bytes, is what the state at the start is made of.
use mathlib.Core.Path.{◌≡◌, refl, ap, sym, ◌∙◌, subst}
use mathlib.Core.List.{List, [], ◌∷◌, map}
use mathlib.Core.Bool.{Bool, ◌&&◌}
use Prim.Native.Nat.{ℕ, zero, suc, ◌+◌, ◌*◌, ◌/◌, ◌<◌, ◌≤◌}
use native.Mathlib.Omega.{arith}
use lib.Dec.{T, ltb, lt→ltb}
use lib.ListN.{length, get_or, take, drop}
use Rattle.constraint.proofs.Lists.{and_T}
use Rattle.akl.specs.Base.{Name, all, ok}
use Rattle.akl.specs.Syntax.{Program}
use Rattle.akl.specs.Reader.{Query}
use Rattle.akl.specs.Configuration.{Config}
use Rattle.akl.specs.Record.{start}
use Rattle.mem_words.specs.declared.Word.{Word}
use Rattle.mem_words.specs.Words.{words}
use Rattle.mem_words.specs.Form.{Bytes, AllSmall}
use Rattle.read_pieces.specs.Reads.{Spelling}
use Rattle.read_inputs.specs.Inputs.{Loaded}
use Rattle.store_form.specs.Sizes.{most_nodes}
use Rattle.store_form.specs.State.{State, names_of, well_formed_state}
use Rattle.store_form.specs.Form.{rules_words, config_words}
use Rattle.store_form.specs.Holding.{below, Fits}
use Rattle.store_pieces.proofs.Small.{words_small}
use Rattle.store_start.specs.Start.{Left, start_state, start_words}
use Rattle.store_start.proofs.Starting.{start_names, start_rules, start_goals, start_fits, start_means, start_well_formed}

-- ---------------------------------------------------------------------------------------------
-- Words of bytes have values of two bytes, and so do the first of them.

take_small : (n : ℕ) (W : List Word) → AllSmall W → AllSmall (take n W)
take_small zero W h = tt
take_small (suc n) [] h = tt
take_small (suc n) (w ∷ W) h = (h.0, take_small n W h.1)

-- ---------------------------------------------------------------------------------------------
-- Numbers below the count.

take_below : (v n : ℕ) (Q : List ℕ) → v ≤ length Q → ((i : ℕ) → i < v → get_or Q i 0 < n) → T (all (below n) (take v Q))
unfolding all
take_below zero n Q h g = tt
take_below (suc v) n [] h g = absurd (omega arith)
take_below (suc v) n (x ∷ Q) h g = (and_T (below n x) (all (below n) (take v Q))).1 (lt→ltb x n (g 0 (omega arith)), take_below v n Q (omega arith) (λ i k. g (suc i) (omega arith)))

-- ---------------------------------------------------------------------------------------------
-- The words R and G are those of lent bytes r and g; the table of names has no more entries than a store has room for.

module _ (text query N D : List ℕ) (r : List ℕ) (Q : List ℕ) (g : List ℕ) (d a v b m : ℕ) (read : Loaded text query N D (words r) Q (words g) d a v b m) (names : length N ≤ most_nodes) (rs : Bytes r) (gs : Bytes g) where
  pub loaded_left : Left text query N (words r) Q (words g) a v b m read.program read.goal
  loaded_left =
      record {
        reads_program = read.reads_program;
        reads_query = read.reads_query;
        root = read.root;
        nodes = read.room.4;
        names = names;
        few = read.few;
        parents = read.parents;
        apart = read.apart;
        variables = read.variables;
        known = take_below v m Q read.room.2 read.used;
        rules_words = λ num h. read.rules_words num (record { back = h });
        goal_words = λ num h. read.goal_words num (record { back = h });
        rules_small = take_small a (words r) (words_small r rs);
        goal_small = take_small b (words g) (words_small g gs);
      }

  -- the state at the start
  abbrev pub loaded : State
  loaded = start_state N m read.program Q v read.goal

  -- It means the definitions' program, names and, where the start is not refused, configuration; it has bytes, made of the words that
  -- the reader wrote; and it is well formed.
  pub loaded_names : names_of loaded ≡ read.goal.variables
  loaded_names = start_names text query N (words r) Q (words g) a v b m read.program read.goal loaded_left

  pub loaded_rules : rules_words loaded ≡ take a (words r)
  loaded_rules = start_rules text query N (words r) Q (words g) a v b m read.program read.goal loaded_left

  pub loaded_goals : config_words loaded ≡ start_words read.goal (take b (words g))
  loaded_goals = start_goals text query N (words r) Q (words g) a v b m read.program read.goal loaded_left

  module _ (limit : ℕ) (c : Config) (fit : start limit read.goal ≡ ok c) where
    pub loaded_config : loaded.config ≡ c
    loaded_config = start_means text query N (words r) Q (words g) a v b m read.program read.goal loaded_left limit c fit

    pub loaded_fits : Fits limit loaded
    loaded_fits = start_fits text query N (words r) Q (words g) a v b m read.program read.goal loaded_left limit c fit

    pub loaded_formed : T (well_formed_state limit loaded)
    loaded_formed = start_well_formed text query N (words r) Q (words g) a v b m read.program read.goal loaded_left limit c fit
