-- No rule brings in a name: those of the goal after it are among those of the program and of the goal before.
use mathlib.Core.Path.{◌≡◌, sym, ◌∙◌, subst}
use Prim.Native.Nat.{ℕ}
use Rattle.akl.specs.Base.{Name, size, ok}
use Rattle.akl.specs.Syntax.{Program, comp, hide, atom}
use Rattle.akl.specs.StepsText.{Step}
use Rattle.akl.specs.Configuration.{Kind, Node, or, and, stmt, choice_box, guard, nil, cons, one, failure, Ctx, plug, Config}
use Rattle.akl.specs.Places.{Place}
use Rattle.akl.specs.Rules.{stored, fresh}
use Rattle.akl.specs.Step.{step}
use Rattle.theory.specs.Transition.{Transition}
use Rattle.theory.specs.Transition as Tr
use Rattle.accept.specs.Accepts.{Accepts}
use Rattle.accept.proofs.PlaceLaws.{place_whole}
use Rattle.accept.proofs.Stable.{transition_whole}
use Rattle.accept.proofs.Accepted.{accepts_iff}
use Rattle.store_form.specs.Named.{NamedNode}
use Rattle.store_steps.specs.Named.{NamedProgram}
use Rattle.store_steps.proofs.Nodes.{named_append, named_mid, named_stores, named_context, named_opened, named_stored, named_defined, named_guards}

module _ (K : Name → Type 0) where
  pub transition_named : {P : Program} {N r : ℕ} {pl : Place} {k : Kind} {χ : Ctx k} {n n' : Node k} {N' : ℕ} → Transition P N r pl k χ n n' N' → NamedProgram K P → NamedNode K n → NamedNode K n'
  transition_named (Tr.constraint_atom χ vs σ l r c) p h =
      let m = (named_mid K l r (stmt (atom c))).0 h.1 in
      (named_stores K σ (stored c) h.0 (named_stored K c m.1), (named_append K l r).1 (m.0, m.2))
  transition_named {P = P} (Tr.program_atom χ f xs b e) p h = named_opened K b xs (named_defined K P f (size xs) b p e)
  transition_named (Tr.composition χ vs σ l r a b) p h =
      let m = (named_mid K l r (stmt (comp a b))).0 h.1 in
      (h.0, (named_mid K l (cons (stmt b) r) (stmt a)).1 (m.0, m.1.0, (m.1.1, m.2)))
  transition_named {N = N} (Tr.hiding χ vs σ l r n a) p h =
      let m = (named_mid K l r (stmt (hide n a))).0 h.1 in
      (h.0, (named_mid K l r _).1 (m.0, named_opened K a (fresh N n) m.1, m.2))
  transition_named {N = N} (Tr.choosing χ op cs) p h = named_guards K cs N h
  transition_named (Tr.promotion χ ws θ l r op vs σ b q) p h =
      let m = (named_mid K l r (choice_box op (one (guard (and vs σ nil) b)))).0 h.1 in
      (named_stores K θ σ h.0 m.1.0.0.0, (named_mid K l r (stmt b)).1 (m.0, m.1.0.1, m.2))
  transition_named (Tr.condition χ l r vs σ b q s) p h =
      let m = (named_mid K l r (guard (and vs σ nil) b)).0 h in
      (named_mid K l nil (guard (and vs σ nil) b)).1 (m.0, m.1, tt)
  transition_named (Tr.committing χ l r vs σ b q s) p h =
      let m = (named_mid K l r (guard (and vs σ nil) b)).0 h in
      (m.1, tt)
  transition_named (Tr.environment_failure χ vs σ ms q) p h = tt
  transition_named (Tr.goal_failure χ vs σ l r op) p h = tt
  transition_named (Tr.guard_failure χ op l r b) p h =
      let m = (named_mid K l r (guard failure b)).0 h in
      (named_append K l r).1 (m.0, m.2)
  transition_named (Tr.splitting χ vs σ l r us τ b t ts) p h =
      let m = (named_mid K l r _).0 h.1 in
      ((h.0, (named_mid K l r _).1 (m.0, (m.1.0, tt), m.2)), ((h.0, (named_mid K l r _).1 (m.0, m.1.1, m.2)), tt))
  transition_named (Tr.distribution χ op l r g gs b) p h =
      let m = (named_mid K l r (guard (or (cons g gs)) b)).0 h in
      (named_mid K l (cons (guard (or gs) b) r) (guard g b)).1 (m.0, (m.1.0.0, m.1.1), ((m.1.0.1, m.1.1), m.2))
  transition_named (Tr.flattening χ l r ns) p h =
      let m = (named_mid K l r (or ns)).0 h in
      (named_append K l _).1 (m.0, (named_append K ns r).1 (m.1, m.2))

  -- An accepted step brings in no name.
  pub step_named : (limit : ℕ) (P : Program) (c : Config) (s : Step) (d : Config) → step limit P c s ≡ ok d → NamedProgram K P → NamedNode K c.root → NamedNode K d.root
  step_named limit P c s d e p h =
      let a : Accepts limit P c s d = (accepts_iff limit P c s d).0 e in
      let same : plug a.context a.before ≡ c.root = transition_whole a.transition ∙ place_whole c s.place a.at_place a.is_place in
      let w = named_context K a.context a.before a.after (subst (NamedNode K) (sym same) h) in
      subst (NamedNode K) (sym a.result) (w.1 (transition_named a.transition p w.0))
