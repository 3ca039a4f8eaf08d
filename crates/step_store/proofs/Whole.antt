-- A place that stands in the words of a state's configuration is one of it: what it makes with its context is the configuration. So an
-- atom there has no bound variable left, and a call's name is that of its number. Assumes nothing.
use mathlib.Core.Path.{◌≡◌, ap, sym, ◌∙◌, subst}
use mathlib.Core.List.{List, []}
use mathlib.Core.Option.{some, some-injective}
use Prim.Native.Nat.{ℕ, ◌<◌}
use lib.Dec.{leb}
use Rattle.constraint.specs.Constraint.{Con}
use Rattle.constraint.proofs.Lists.{and_T}
use Rattle.akl.specs.Base.{Name}
use Rattle.akl.specs.Limits.{most_depth, most_parts}
use Rattle.akl.specs.Syntax.{Var, atom, call, comp, hide, choice}
use Rattle.akl.specs.Configuration.{Kind, goal, Node, or, and, stmt, choice_box, guard, Ctx, plug}
use Rattle.akl.specs.Places.{Place, at}
use Rattle.akl.specs.WellFormed.{constraint_fits, statement_fits, depth, statement_passes, statements_pass}
use Rattle.accept.proofs.EffectSound.{whole}
use Rattle.theory.specs.Formed.{Formed}
use Rattle.theory.proofs.Closed.{any_number, ClosedCon}
use Rattle.theory.proofs.InContext.{Pass, pass_context}
use Rattle.theory.proofs.Reflect.{formed_iff}
use Rattle.read_nodes.specs.Spell.{named}
use Rattle.layout.specs.Layout.{program_words}
use Rattle.layout.specs.Tables.{SpeltProgram}
use Rattle.mem_words.specs.declared.Word.{Word}
use Rattle.mem_words.specs.Form.{AllSmall}
use Rattle.store_words.specs.Boxes.{node_words}
use Rattle.store_words.specs.Reading.{read_node}
use Rattle.store_words.proofs.Back.{node_back}
use Rattle.store_form.specs.Sizes.{two_bytes}
use Rattle.store_form.specs.State.{State, table, number_in, program_of, names_of, config_of}
use Rattle.store_form.specs.Form.{rules_words, config_words}
use Rattle.store_form.specs.Named.{NamedNode, InTable}
use Rattle.store_form.proofs.Names.{number_back}
use Rattle.store_form.proofs.Spelt.{small_all, program_small, node_small}
use Rattle.store_steps.proofs.Nodes.{named_context}
use Rattle.store_steps.proofs.Words.{config_in_table}
use Rattle.rule_effects.specs.Standing.{Stands}
use Rattle.rule_closed.proofs.Numbers.{con_same}
use Rattle.rule_rewrite.proofs.Led.{Clean}
use Rattle.step_meant.specs.Meant.{Meant, StandsAt}

-- the name of a number in a state's table
abbrev pub spell_of : State → ℕ → Name
spell_of s = named (table s)

module _ (W D : List Word) (s : State) (m : Meant W D s) where
  abbrev num : Name → ℕ
  num = number_in (table s)

  back : (f : Name) → num f < two_bytes → spell_of s (num f) ≡ f
  back f h = (number_back (table s) f h).0

  small : AllSmall W
  small = subst AllSmall (sym m.config) (small_all (config_words s) m.stands.fits.words_small)

  pub program_spelt : SpeltProgram num (spell_of s) (program_of s)
  unfolding rules_words
  program_spelt = program_small num (spell_of s) back (program_of s) (small_all (rules_words s) m.stands.fits.rules_small)

  pub program_is : D ≡ program_words num (program_of s)
  unfolding rules_words
  program_is = m.rules

  -- words are those of one configuration only
  whole_is : (g : Node goal) → W ≡ node_words num g [] → g ≡ s.config.root
  unfolding config_words
  whole_is g e =
      let read : (x : Node goal) → W ≡ node_words num x [] → read_node (spell_of s) goal W ≡ some (x, []) =
      λ x f. ap (read_node (spell_of s) goal) f ∙ node_back num (spell_of s) x [] (node_small num (spell_of s) back x [] (subst AllSmall f small)).0 in
      ap (λ (p : Node goal × List Word). p.0) (some-injective (g, []) (s.config.root, []) (sym (read g e) ∙ read s.config.root m.config))

  pub plug_is : {k : Kind} (χ : Ctx k) (n : Node k) (i : ℕ) → Stands num χ n [] W i → plug χ n ≡ s.config.root
  plug_is χ n i t = whole_is (plug χ n) t.whole

  pub place_is : (pl : Place) (i : ℕ) → StandsAt s W pl i → whole pl ≡ s.config.root
  place_is (at χ n) i t = plug_is χ n i t

  passes : {k : Kind} (χ : Ctx k) (n : Node k) (i : ℕ) → Stands num χ n [] W i → Pass (program_of s) n
  passes χ n i t =
      let f : Formed most_parts (program_of s) (names_of s) (config_of s) = (formed_iff most_parts (program_of s) (names_of s) (config_of s)).0 m.stands.formed in
      (pass_context (program_of s) χ n n (subst (Pass (program_of s)) (sym (plug_is χ n i t)) f.statements)).0

  in_table : {k : Kind} (χ : Ctx k) (n : Node k) (i : ℕ) → Stands num χ n [] W i → NamedNode (InTable (table s)) n
  in_table χ n i t = (named_context (InTable (table s)) χ n n (subst (NamedNode (InTable (table s))) (sym (plug_is χ n i t)) (config_in_table most_parts s m.stands.fits))).0

  closed : (c : Con Var) → Pass (program_of s) (stmt (atom c)) → ClosedCon c
  unfolding statements_pass statement_passes statement_fits
  closed c t = ((and_T (constraint_fits any_number 0 c) (leb (depth (atom c)) most_depth)).0 t).0

  pub clean_there : (pl : Place) (i : ℕ) → StandsAt s W pl i → Clean num (spell_of s) pl
  clean_there (at χ (or ns)) i t = tt
  clean_there (at χ (and vs σ ms)) i t = tt
  clean_there (at χ (stmt (atom c))) i t = con_same c (closed c (passes χ (stmt (atom c)) i t))
  clean_there (at χ (stmt (call p xs))) i t = back p (in_table χ (stmt (call p xs)) i t)
  clean_there (at χ (stmt (comp a b))) i t = tt
  clean_there (at χ (stmt (hide n a))) i t = tt
  clean_there (at χ (stmt (choice op cs))) i t = tt
  clean_there (at χ (choice_box op gs)) i t = tt
  clean_there (at χ (guard g b)) i t = tt
