-- Words of a configuration pass exactly when its statements do.
use mathlib.Core.Path.{◌≡◌, ap, sym, ◌∙◌, subst}
use mathlib.Core.List.{List, []}
use mathlib.Core.Bool.{true}
use Prim.Native.Nat.{ℕ, ◌<◌}
use lib.Dec.{T, ltb, ltb→lt, lt→ltb}
use lib.ListN.{length}
use Rattle.constraint.proofs.Lists.{and_T}
use Rattle.akl.specs.Base.{Name, is_some}
use Rattle.akl.specs.Syntax.{Program, defined}
use Rattle.akl.specs.Configuration.{goal, Node, or, and}
use Rattle.akl.specs.WellFormed.{is_or, statements_pass}
use Rattle.mem_words.specs.declared.Word.{Word}
use Rattle.mem_words.specs.Form.{AllSmall}
use Rattle.read_nodes.specs.Spell.{named}
use Rattle.store_form.specs.State.{number_in}
use Rattle.store_form.proofs.Names.{number_back}
use Rattle.store_words.specs.Boxes.{node_words}
use Rattle.store_words.specs.Reading.{read_node}
use Rattle.store_words.specs.Tables.{SpeltNode}
use Rattle.store_words.proofs.Back.{node_back}
use Rattle.check_shapes.specs.declared.Frame.TheVariants.{Root}
use Rattle.check_shapes.specs.Passed.{config_passed}
use Rattle.check_meaning.specs.Table.{con_in, pred_in, def_in, Own}
use Rattle.check_meaning.specs.Meaning.{IsConfig}
use Rattle.check_meaning.proofs.Rests.{Known}
use Rattle.check_meaning.proofs.Sound.{sound}
use Rattle.check_meaning.proofs.Complete.{Found}
use Rattle.check_meaning.proofs.CompleteBoxes.{config_complete}
use Rattle.check_meaning.proofs.NotBad.{no_bad}
use Rattle.check_meaning.proofs.Programs.{con_known, pred_known, con_found}

module _ (N : List ℕ) (P : Program) where
  def_known : Own N → (p k : ℕ) → T (def_in N P p k) → (number_in N (named N p) ≡ p) × T (is_some (defined P (named N p) k))
  unfolding def_in
  def_known own p k t = let h = (and_T (ltb p (length N)) (is_some (defined P (named N p) k))).0 t in (own p (ltb→lt p (length N) h.0), h.1)

  def_found : (p : Name) (k : ℕ) → number_in N p < 65536 → T (is_some (defined P p k)) → T (def_in N P (number_in N p) k)
  unfolding def_in
  def_found p k h t =
      let b = number_back N p h in
      (and_T (ltb (number_in N p) (length N)) (is_some (defined P (named N (number_in N p)) k))).1 (lt→ltb (number_in N p) (length N) b.1, subst (λ (z : Name). T (is_some (defined P z k))) (sym b.0) t)

  pub config_means : Own N → (ws : List Word) → T (config_passed (con_in N) (pred_in N) (def_in N P) ws) → (n : Node goal) × IsConfig N P ws n
  unfolding config_passed statements_pass
  config_means own ws t =
      let num = number_in N in
      let spell = named N in
      let K : Known num spell P (con_in N) (pred_in N) (def_in N P) = record { constructors = con_known N own; predicates = pred_known N own; definitions = def_known own } in
      let s = sound num spell P (con_in N) (pred_in N) (def_in N P) true K ws Root [] t in
      let k : SpeltNode num spell (or s.1.0) = s.1.3.1 in (
        or s.1.0,
        record {
          passes = s.1.3.0;
          top = tt;
          laid = s.1.1;
          reads = ap (λ (u : List Word). read_node spell goal u) s.1.1 ∙ node_back num spell (or s.1.0) [] k;
          good = no_bad (con_in N) (pred_in N) (def_in N P) true ws Root [] t;
        },
      )

  pub config_taken : (n : Node goal) → T (is_or n) → T (statements_pass n P) → AllSmall (node_words (number_in N) n []) → T (config_passed (con_in N) (pred_in N) (def_in N P) (node_words (number_in N) n []))
  unfolding config_passed
  config_taken (or ns) o t s =
      let F : Found (number_in N) P (con_in N) (def_in N P) = record { constructors = con_found N; definitions = def_found } in
      subst T (sym (config_complete (number_in N) P (con_in N) (pred_in N) (def_in N P) F ns t s)) tt
  config_taken (and vs σ ms) o t s = absurd o
