-- Only words of configurations are read: what is read of numbered words is laid out at their front, with its names spelt.
use mathlib.Core.Path.{◌≡◌, refl, ap, ap₂, sym, ◌∙◌, subst}
use mathlib.Core.List.{List, [], ◌∷◌, map}
use mathlib.Core.Option.{Option, some, none}
use Prim.Native.Nat.{ℕ, zero, suc}
use lib.ListN.{length}
use Rattle.constraint.specs.Constraint.{Con, ctrue, cfail, ceq, capp, map_con}
use Rattle.constraint.specs.Constraint as constraint
use Rattle.akl.specs.Base.{Name, ◌>>=◌}
use Rattle.akl.specs.Syntax.{Var, number, level, Op, wait, cond, commit, Stmt, atom, call, comp, hide, choice}
use Rattle.akl.specs.Configuration as akl
use Rattle.akl.specs.Configuration.{goal, member, guarded, Node, choice_box, Nodes}
use Rattle.mem_words.specs.declared.Word.{Word}
use Rattle.mem_words.specs.declared.Word.TheVariants.{End, Free, Level, Num, Place, Inner, Bad}
use Rattle.mem_sorts.specs.declared.Kind.{Kind}
use Rattle.mem_sorts.specs.declared.Kind.TheVariants.{Or, And, Guarded, Member, Wait, Cond, Commit}
use Rattle.mem_sorts.specs.declared.Sort.{Sort}
use Rattle.mem_sorts.specs.declared.Sort.TheVariants.{Locals, Store, True, Fail, Eq, App, Call, Comp, Hide, Clause, AskWait, AskCond, AskCommit}
use Rattle.layout.specs.Layout.{con_words, stmt_words}
use Rattle.layout.specs.Reading.{Read, an_end, an_opening, stmt_from, read_stmt}
use Rattle.layout.specs.Tables.{Spelt, Numbered}
use Rattle.layout.proofs.Parts.{Good, bind, taken, IsEnd, IsOpening, end_good, opening_good, behind}
use Rattle.layout.proofs.Only.{stmt_laid, stmt_spelt}
use Rattle.store_words.specs.Boxes.{box_kind, local_words, store_words, node_words, nodes_words}
use Rattle.store_words.specs.Reading.{a_place, locals_in, store_in, locals_from, a_free, all_free, free_con, a_con, some_cons, cons_from, read_locals, read_cons, opened_node, some_nodes, node_from, nodes_from, read_node}
use Rattle.store_words.specs.Tables.{SpeltStore, SpeltNode, SpeltNodes}

good_then : {A : Type 0} (Q R : A → Type 0) (o : Option A) → Good Q o → ((a : A) → Q a → R a) → Good R o
good_then Q R none g h = tt
good_then Q R (some a) g h = h a g

-- ---------------------------------------------------------------------------------------------
-- Single words, locals and constraints.

abbrev IsPlace : List Word → Kind × List Word → Type 0
IsPlace ws x = ws ≡ Place x.0 ∷ x.1

place_good : (ws : List Word) → Good (IsPlace ws) (a_place ws)
unfolding a_place
place_good [] = tt
place_good (End ∷ r) = tt
place_good (Free x ∷ r) = tt
place_good (Level l ∷ r) = tt
place_good (Num n ∷ r) = tt
place_good (Place k ∷ r) = refl
place_good (Inner s ∷ r) = tt
place_good (Bad ∷ r) = tt

abbrev IsFrees : List Word → List ℕ × List Word → Type 0
IsFrees ws x = ws ≡ local_words x.0 (End ∷ x.1)

frees_good : (ws : List Word) → Good (IsFrees ws) (locals_from ws)
unfolding locals_from local_words
frees_good [] = tt
frees_good (End ∷ r) = refl
frees_good (Free x ∷ r) = bind (IsFrees r) (IsFrees (Free x ∷ r)) (locals_from r) _ (frees_good r) (λ xs e. ap (λ (u : List Word). Free x ∷ u) e)
frees_good (Level l ∷ r) = tt
frees_good (Num n ∷ r) = tt
frees_good (Place k ∷ r) = tt
frees_good (Inner s ∷ r) = tt
frees_good (Bad ∷ r) = tt

behind_locals : (num : Name → ℕ) (spell : ℕ → Name) (xs : List ℕ) (r : List Word) → Numbered num spell (local_words xs (End ∷ r)) → Numbered num spell r
unfolding local_words
behind_locals num spell [] r h = h.1
behind_locals num spell (x ∷ xs) r h = behind_locals num spell xs r h.1

locals_sort : (s : Sort) (r : List Word) → Good (λ u. (Inner s ∷ r) ≡ (Inner Locals ∷ u)) (locals_in s r)
unfolding locals_in
locals_sort Locals r = refl
locals_sort Store r = tt
locals_sort True r = tt
locals_sort Fail r = tt
locals_sort Eq r = tt
locals_sort App r = tt
locals_sort Call r = tt
locals_sort Comp r = tt
locals_sort Hide r = tt
locals_sort Clause r = tt
locals_sort AskWait r = tt
locals_sort AskCond r = tt
locals_sort AskCommit r = tt

store_sort : (s : Sort) (r : List Word) → Good (λ u. (Inner s ∷ r) ≡ (Inner Store ∷ u)) (store_in s r)
unfolding store_in
store_sort Locals r = tt
store_sort Store r = refl
store_sort True r = tt
store_sort Fail r = tt
store_sort Eq r = tt
store_sort App r = tt
store_sort Call r = tt
store_sort Comp r = tt
store_sort Hide r = tt
store_sort Clause r = tt
store_sort AskWait r = tt
store_sort AskCond r = tt
store_sort AskCommit r = tt

abbrev IsLocals : List Word → List ℕ × List Word → Type 0
IsLocals ws x = ws ≡ Inner Locals ∷ local_words x.0 (End ∷ x.1)

locals_good : (ws : List Word) → Good (IsLocals ws) (read_locals ws)
unfolding read_locals
locals_good ws =
    bind (IsOpening ws) (IsLocals ws) (an_opening ws) _ (opening_good ws) (λ k e.
    bind (λ u. (Inner k.0 ∷ k.1) ≡ (Inner Locals ∷ u)) (IsLocals ws) (locals_in k.0 k.1) _ (locals_sort k.0 k.1) (λ u d.
    good_then (IsFrees u) (IsLocals ws) (locals_from u) (frees_good u) (λ xs f. e ∙ d ∙ ap (λ (l : List Word). Inner Locals ∷ l) f)))

free_good : (x : Var) → Good (λ y. x ≡ number y) (a_free x)
unfolding a_free
free_good (number x) = refl
free_good (level l) = tt

all_good : (xs : List Var) → Good (λ ys. xs ≡ map number ys) (all_free xs)
unfolding all_free
all_good [] = refl
all_good (x ∷ xs) =
    bind (λ y. x ≡ number y) (λ zs. (x ∷ xs) ≡ map number zs) (a_free x) _ (free_good x) (λ y e.
    bind (λ ys. xs ≡ map number ys) (λ zs. (x ∷ xs) ≡ map number zs) (all_free xs) _ (all_good xs) (λ ys f. ap₂ (λ (a : Var) (l : List Var). a ∷ l) e f))

con_good : (c : Con Var) → Good (λ d. c ≡ map_con number d) (free_con c)
unfolding free_con
con_good ctrue = refl
con_good cfail = refl
con_good (ceq x y) =
    bind (λ a. x ≡ number a) (λ d. ceq x y ≡ map_con number d) (a_free x) _ (free_good x) (λ a e.
    bind (λ b. y ≡ number b) (λ d. ceq x y ≡ map_con number d) (a_free y) _ (free_good y) (λ b f. ap₂ (λ (u v : Var). ceq u v) e f))
con_good (capp x g ys) =
    bind (λ a. x ≡ number a) (λ d. capp x g ys ≡ map_con number d) (a_free x) _ (free_good x) (λ a e.
    bind (λ bs. ys ≡ map number bs) (λ d. capp x g ys ≡ map_con number d) (all_free ys) _ (all_good ys) (λ b f. ap₂ (λ (u : Var) (v : List Var). capp u g v) e f))

atom_good : (s : Stmt) → Good (λ d. s ≡ atom (map_con number d)) (a_con s)
unfolding a_con
atom_good (atom c) = go (free_con c) (con_good c)
  where
    go : (o : Option (Con ℕ)) → Good (λ d. c ≡ map_con number d) o → Good (λ d. atom c ≡ atom (map_con number d)) o
    go none g = tt
    go (some d) g = ap atom g
atom_good (call p xs) = tt
atom_good (comp a b) = tt
atom_good (hide n a) = tt
atom_good (choice op cs) = tt

abbrev IsStmt : (Name → ℕ) → (ℕ → Name) → List Word → Stmt × List Word → Type 0
IsStmt num spell ws x = (ws ≡ stmt_words num x.0 x.1) × Spelt num spell x.0 × Numbered num spell x.1

stmt_good : (num : Name → ℕ) (spell : ℕ → Name) (ws : List Word) → Numbered num spell ws → Good (IsStmt num spell ws) (read_stmt spell ws)
unfolding read_stmt
stmt_good num spell ws h = go (stmt_from spell (length ws) ws) refl
  where
    go : (o : Option (Stmt × List Word)) → stmt_from spell (length ws) ws ≡ o → Good (IsStmt num spell ws) o
    go none e = tt
    go (some x) e =
        let k = stmt_spelt num spell (length ws) ws x.1 x.0 e h in
        (stmt_laid num spell (length ws) ws x.1 x.0 e h, k.0, k.1)

abbrev IsCons : (Name → ℕ) → (ℕ → Name) → List Word → constraint.Store × List Word → Type 0
IsCons num spell ws x = (ws ≡ store_words num x.0 (End ∷ x.1)) × SpeltStore num spell x.0 × Numbered num spell x.1

some_cons_good : (num : Name → ℕ) (spell : ℕ → Name) (more : List Word → Read constraint.Store) → ((ws : List Word) → Numbered num spell ws → Good (IsCons num spell ws) (more ws)) → (ws : List Word) → Numbered num spell ws → Good (IsCons num spell ws) (some_cons (read_stmt spell) more ws)
unfolding some_cons store_words stmt_words
some_cons_good num spell more m [] h = tt
some_cons_good num spell more m (End ∷ r) h = (refl, tt, h.1)
some_cons_good num spell more m (Free x ∷ r) h = tt
some_cons_good num spell more m (Level l ∷ r) h = tt
some_cons_good num spell more m (Num n ∷ r) h = tt
some_cons_good num spell more m (Place k ∷ r) h = tt
some_cons_good num spell more m (Inner s ∷ r) h =
    bind (IsStmt num spell (Inner s ∷ r)) (IsCons num spell (Inner s ∷ r)) (read_stmt spell (Inner s ∷ r)) _ (stmt_good num spell (Inner s ∷ r) h) (λ a e.
    bind (λ d. a.0 ≡ atom (map_con number d)) (IsCons num spell (Inner s ∷ r)) (a_con a.0) _ (atom_good a.0) (λ c d.
    bind (IsCons num spell a.1) (IsCons num spell (Inner s ∷ r)) (more a.1) _ (m a.1 e.2) (λ σ f. (
      e.0 ∙ ap (λ (x : Stmt). stmt_words num x a.1) d ∙ ap (λ (l : List Word). con_words num (map_con number c) l) f.0,
      (subst (Spelt num spell) d e.1, f.1),
      f.2,
    ))))
some_cons_good num spell more m (Bad ∷ r) h = tt

cons_good : (num : Name → ℕ) (spell : ℕ → Name) (n : ℕ) (ws : List Word) → Numbered num spell ws → Good (IsCons num spell ws) (cons_from spell n ws)
unfolding cons_from
cons_good num spell zero ws h = tt
cons_good num spell (suc n) ws h = some_cons_good num spell (λ u. cons_from spell n u) (λ u g. cons_good num spell n u g) ws h

abbrev IsStore : (Name → ℕ) → (ℕ → Name) → List Word → constraint.Store × List Word → Type 0
IsStore num spell ws x = (ws ≡ Inner Store ∷ store_words num x.0 (End ∷ x.1)) × SpeltStore num spell x.0 × Numbered num spell x.1

store_good : (num : Name → ℕ) (spell : ℕ → Name) (ws : List Word) → Numbered num spell ws → Good (IsStore num spell ws) (read_cons spell ws)
unfolding read_cons
store_good num spell ws h =
    bind (IsOpening ws) (IsStore num spell ws) (an_opening ws) _ (opening_good ws) (λ k e.
    bind (λ u. (Inner k.0 ∷ k.1) ≡ (Inner Store ∷ u)) (IsStore num spell ws) (store_in k.0 k.1) _ (store_sort k.0 k.1) (λ u d.
    good_then (IsCons num spell u) (IsStore num spell ws) (cons_from spell (length u) u) (cons_good num spell (length u) u (behind num spell ws u (Inner Store) (e ∙ d) h)) (λ σ f. (e ∙ d ∙ ap (λ (l : List Word). Inner Store ∷ l) f.0, f.1, f.2))))

-- ---------------------------------------------------------------------------------------------
-- Nodes.

abbrev IsNode : (Name → ℕ) → (ℕ → Name) → {k : akl.Kind} → List Word → Node k × List Word → Type 0
IsNode num spell ws x = (ws ≡ node_words num x.0 x.1) × SpeltNode num spell x.0 × Numbered num spell x.1

abbrev IsNodes : (Name → ℕ) → (ℕ → Name) → {k : akl.Kind} → List Word → Nodes k × List Word → Type 0
IsNodes num spell ws x = (ws ≡ nodes_words num x.0 (End ∷ x.1)) × SpeltNodes num spell x.0 × Numbered num spell x.1

-- readers that read only words of nodes
abbrev OneNode : (Name → ℕ) → (ℕ → Name) → {k : akl.Kind} → (List Word → Read (Node k)) → Type 0
OneNode num spell f = (ws : List Word) → Numbered num spell ws → Good (IsNode num spell ws) (f ws)

abbrev AllNodes : (Name → ℕ) → (ℕ → Name) → {k : akl.Kind} → (List Word → Read (Nodes k)) → Type 0
AllNodes num spell f = (ws : List Word) → Numbered num spell ws → Good (IsNodes num spell ws) (f ws)

choice_good : (num : Name → ℕ) (spell : ℕ → Name) (hs : List Word → Read (Nodes guarded)) → AllNodes num spell hs → (op : Op) (r : List Word) → Numbered num spell r → Good (IsNode num spell {k = member} (Place (box_kind op) ∷ r)) (hs r >>= λ ns. some (choice_box op ns.0, ns.1))
unfolding node_words
choice_good num spell hs c op r h = bind (IsNodes num spell r) (IsNode num spell {k = member} (Place (box_kind op) ∷ r)) (hs r) _ (c r h) (λ ns e. (ap (λ (u : List Word). Place (box_kind op) ∷ u) e.0, e.1, e.2))

opened_good : (num : Name → ℕ) (spell : ℕ → Name) (g : List Word → Read (Node goal)) (gs : List Word → Read (Nodes goal)) (ms : List Word → Read (Nodes member)) (hs : List Word → Read (Nodes guarded)) → OneNode num spell g → AllNodes num spell gs → AllNodes num spell ms → AllNodes num spell hs → (k : akl.Kind) (p : Kind) (r : List Word) → Numbered num spell r → Good (IsNode num spell (Place p ∷ r)) (opened_node spell g gs ms hs k p r)
unfolding opened_node node_words box_kind
opened_good num spell g gs ms hs a b c d goal Or r h = bind (IsNodes num spell r) (IsNode num spell (Place Or ∷ r)) (gs r) _ (b r h) (λ ns e. (ap (λ (u : List Word). Place Or ∷ u) e.0, e.1, e.2))
opened_good num spell g gs ms hs a b c d goal And r h =
    bind (IsLocals r) (IsNode num spell (Place And ∷ r)) (read_locals r) _ (locals_good r) (λ vs ev.
    let after_locals : Numbered num spell vs.1 = behind_locals num spell vs.0 vs.1 (behind num spell r (local_words vs.0 (End ∷ vs.1)) (Inner Locals) ev h) in
    bind (IsStore num spell vs.1) (IsNode num spell (Place And ∷ r)) (read_cons spell vs.1) _ (store_good num spell vs.1 after_locals) (λ σ es.
    bind (IsNodes num spell σ.1) (IsNode num spell (Place And ∷ r)) (ms σ.1) _ (c σ.1 es.2) (λ ns e. (
      ap (λ (u : List Word). Place And ∷ u) (ev ∙ ap (λ (u : List Word). Inner Locals ∷ local_words vs.0 (End ∷ u)) (es.0 ∙ ap (λ (u : List Word). Inner Store ∷ store_words num σ.0 (End ∷ u)) e.0)),
      (es.1, e.1),
      e.2,
    ))))
opened_good num spell g gs ms hs a b c d goal Guarded r h = tt
opened_good num spell g gs ms hs a b c d goal Member r h = tt
opened_good num spell g gs ms hs a b c d goal Wait r h = tt
opened_good num spell g gs ms hs a b c d goal Cond r h = tt
opened_good num spell g gs ms hs a b c d goal Commit r h = tt
opened_good num spell g gs ms hs a b c d member Or r h = tt
opened_good num spell g gs ms hs a b c d member And r h = tt
opened_good num spell g gs ms hs a b c d member Guarded r h = tt
opened_good num spell g gs ms hs a b c d member Member r h =
    bind (IsStmt num spell r) (IsNode num spell {k = member} (Place Member ∷ r)) (read_stmt spell r) _ (stmt_good num spell r h) (λ s e.
    bind (IsEnd s.1) (IsNode num spell {k = member} (Place Member ∷ r)) (an_end s.1) _ (end_good s.1) (λ u f. (
      ap (λ (l : List Word). Place Member ∷ l) (e.0 ∙ ap (λ (l : List Word). stmt_words num s.0 l) f),
      e.1,
      behind num spell s.1 u End f e.2,
    )))
opened_good num spell g gs ms hs a b c d member Wait r h = choice_good num spell hs d wait r h
opened_good num spell g gs ms hs a b c d member Cond r h = choice_good num spell hs d cond r h
opened_good num spell g gs ms hs a b c d member Commit r h = choice_good num spell hs d commit r h
opened_good num spell g gs ms hs a b c d guarded Or r h = tt
opened_good num spell g gs ms hs a b c d guarded And r h = tt
opened_good num spell g gs ms hs a b c d guarded Guarded r h =
    bind (IsNode num spell r) (IsNode num spell {k = guarded} (Place Guarded ∷ r)) (g r) _ (a r h) (λ n e.
    bind (IsStmt num spell n.1) (IsNode num spell {k = guarded} (Place Guarded ∷ r)) (read_stmt spell n.1) _ (stmt_good num spell n.1 e.2) (λ s f.
    bind (IsEnd s.1) (IsNode num spell {k = guarded} (Place Guarded ∷ r)) (an_end s.1) _ (end_good s.1) (λ u q. (
      ap (λ (l : List Word). Place Guarded ∷ l) (e.0 ∙ ap (λ (l : List Word). node_words num n.0 l) (f.0 ∙ ap (λ (l : List Word). stmt_words num s.0 l) q)),
      (e.1, f.1),
      behind num spell s.1 u End q f.2,
    ))))
opened_good num spell g gs ms hs a b c d guarded Member r h = tt
opened_good num spell g gs ms hs a b c d guarded Wait r h = tt
opened_good num spell g gs ms hs a b c d guarded Cond r h = tt
opened_good num spell g gs ms hs a b c d guarded Commit r h = tt

some_nodes_good : (num : Name → ℕ) (spell : ℕ → Name) {k : akl.Kind} (nd : List Word → Read (Node k)) (ns : List Word → Read (Nodes k)) → OneNode num spell nd → AllNodes num spell ns → AllNodes num spell (some_nodes nd ns)
unfolding some_nodes node_words
some_nodes_good num spell nd ns a b [] h = tt
some_nodes_good num spell nd ns a b (End ∷ r) h = (refl, tt, h.1)
some_nodes_good num spell nd ns a b (Free x ∷ r) h = tt
some_nodes_good num spell nd ns a b (Level l ∷ r) h = tt
some_nodes_good num spell nd ns a b (Num n ∷ r) h = tt
some_nodes_good num spell nd ns a b (Place p ∷ r) h =
    bind (IsNode num spell (Place p ∷ r)) (IsNodes num spell (Place p ∷ r)) (nd (Place p ∷ r)) _ (a (Place p ∷ r) h) (λ x e.
    bind (IsNodes num spell x.1) (IsNodes num spell (Place p ∷ r)) (ns x.1) _ (b x.1 e.2) (λ l f. (
      e.0 ∙ ap (λ (u : List Word). node_words num x.0 u) f.0,
      (e.1, f.1),
      f.2,
    )))
some_nodes_good num spell nd ns a b (Inner s ∷ r) h = tt
some_nodes_good num spell nd ns a b (Bad ∷ r) h = tt

mutual
  unfolding node_from

  node_good : (num : Name → ℕ) (spell : ℕ → Name) (n : ℕ) (k : akl.Kind) (ws : List Word) → Numbered num spell ws → Good (IsNode num spell ws) (node_from spell n k ws)
  node_good num spell zero k ws h = tt
  node_good num spell (suc n) k ws h =
      bind (IsPlace ws) (IsNode num spell ws) (a_place ws) _ (place_good ws) (λ p e.
      subst (λ (l : List Word). Good (IsNode num spell l) (opened_node spell (λ u. node_from spell n goal u) (λ u. nodes_from spell n goal u) (λ u. nodes_from spell n member u) (λ u. nodes_from spell n guarded u) k p.0 p.1)) (sym e)
      (opened_good num spell (λ u. node_from spell n goal u) (λ u. nodes_from spell n goal u) (λ u. nodes_from spell n member u) (λ u. nodes_from spell n guarded u)
      (λ u g. node_good num spell n goal u g) (λ u g. nodes_good num spell n goal u g) (λ u g. nodes_good num spell n member u g) (λ u g. nodes_good num spell n guarded u g)
      k p.0 p.1 (behind num spell ws p.1 (Place p.0) e h)))

  nodes_good : (num : Name → ℕ) (spell : ℕ → Name) (n : ℕ) (k : akl.Kind) (ws : List Word) → Numbered num spell ws → Good (IsNodes num spell ws) (nodes_from spell n k ws)
  nodes_good num spell zero k ws h = tt
  nodes_good num spell (suc n) k ws h = some_nodes_good num spell (λ u. node_from spell n k u) (λ u. nodes_from spell n k u) (λ u g. node_good num spell n k u g) (λ u g. nodes_good num spell n k u g) ws h

-- What is read was written so.
pub node_laid : (num : Name → ℕ) (spell : ℕ → Name) (n : ℕ) (k : akl.Kind) (ws r : List Word) (x : Node k) → node_from spell n k ws ≡ some (x, r) → Numbered num spell ws → ws ≡ node_words num x r
node_laid num spell n k ws r x e h = (taken (IsNode num spell ws) (node_from spell n k ws) (x, r) (node_good num spell n k ws h) e).0

-- Its names are spelt, and the words behind it are numbered again.
pub node_spelt : (num : Name → ℕ) (spell : ℕ → Name) (n : ℕ) (k : akl.Kind) (ws r : List Word) (x : Node k) → node_from spell n k ws ≡ some (x, r) → Numbered num spell ws → SpeltNode num spell x × Numbered num spell r
node_spelt num spell n k ws r x e h = let t = taken (IsNode num spell ws) (node_from spell n k ws) (x, r) (node_good num spell n k ws h) e in (t.1, t.2)

-- The same of the reader without a bound: with `node-back`, exactly the words of nodes read as nodes.
pub node_only : (num : Name → ℕ) (spell : ℕ → Name) (k : akl.Kind) (ws r : List Word) (x : Node k) → read_node spell k ws ≡ some (x, r) → Numbered num spell ws → (ws ≡ node_words num x r) × SpeltNode num spell x
unfolding read_node
node_only num spell k ws r x e h = (node_laid num spell (length ws) k ws r x e h, (node_spelt num spell (length ws) k ws r x e h).0)
