-- Constraint atoms and program atoms as simple statements: what reading one promises. Assumes nothing.
use Rattle.std.specs.Prelude.{◌≡◌, refl, List, ◌∷◌, ◌++◌, map, [], Bool, true, false, not, ◌&&◌, ◌||◌, ℕ, zero, suc, ◌+◌, ◌*◌, ◌/◌, ◌%◌, ◌<◌, ◌≤◌, eqb, ltb, length, take}
use Rattle.std.proofs.Common.{ap, ap₂, sym, ◌∙◌, subst, inl, inr, arith, lt-ltb, le-ltb, eq-eqb, ne_eqb, eqb-true}
use Rattle.std.proofs.Math.Seq.{take-length}
use Rattle.std.proofs.lemmas.Bool.{eqb-false}
use Rattle.constraint.specs.Constraint.{In}
use Rattle.akl.specs.Base.{Name, size, if, any, same}
use Rattle.akl.specs.Base as akl
use Rattle.akl.specs.Grammar.{Simple, constraint, program}
use Rattle.akl.specs.Syntax.{call}
use Rattle.akl.specs.Limits.{most_arguments}
use Rattle.akl.specs.Reader.{fault, names_in, variable_of, not_bound, unbound, unknown, simple_faults, simple_free, simple_of}
use Rattle.mem_words.specs.declared.Word.{Word}
use Rattle.layout.specs.Layout.{stmt_words}
use Rattle.read_phrases.specs.Codes.{number_at}
use Rattle.read_phrases.specs.Phrases.{names, con_of, SimpleAt}
use Rattle.read_phrases.specs.declared.Constraint.{Constraint}
use Rattle.read_phrases.specs.declared.Constraint.TheVariants.{Same, Made}
use Rattle.read_phrases.specs.declared.Constraint.TheVariants as kind
use Rattle.read_phrases.specs.declared.Simple.TheVariants.{Atom, Program}
use Rattle.read_lookups.specs.Places.{ids, among, length_ids, name_default}
use Rattle.read_scopes.specs.Spelled.{among_names}
use Rattle.read_varwords.specs.Names.{names_ids, size_map}
use Rattle.read_pieces.specs.Worst.{Lowest, lowest_none, lowest_fault, lowest_fine, lowest_both}
use Rattle.read_pieces.specs.Reads.{a_simple, Spelling, CanRead, ReadTo, around, heads, bound}
use Rattle.read_pieces.specs.declared.Read.{Read}
use Rattle.read_pieces.specs.declared.Read.TheVariants as read
use Rattle.read_laid.specs.Parts.{Tables, Inside, unbound_none}
use Rattle.read_laid.specs.Shapes.{con_lay, call_lay, vars_of, size_of, arguments_of, NamesOf, CanConstraint, CanProgram}
use Rattle.read_atoms.specs.Answers.{FaultOf, Subject, one_tree}

-- What `constraint` promises of its answer, wherever the constraint stands.
pub record ConstraintRead (query : Bool) (L B Q : List ℕ) (O : List Word) (c : Constraint) (rest k q : ℕ) (Q' : List ℕ) (O' : List Word) (r : Read) : Type 0 where
  pub reads : (S D : List ℕ) (at level depth : ℕ) → CanRead L B S Q D O at k q level → SimpleAt L at (Atom c rest) → ReadTo a_simple query L B S Q D O at k q level depth B S Q' O' r

-- What `program` promises of its answer, wherever the atom stands.
pub record ProgramRead (query : Bool) (L B Q D : List ℕ) (O : List Word) (p first count rest k q : ℕ) (Q' : List ℕ) (O' : List Word) (r : Read) : Type 0 where
  pub reads : (S : List ℕ) (at level depth : ℕ) → CanRead L B S Q D O at k q level → SimpleAt L at (Program p first count rest) → ReadTo a_simple query L B S Q D O at k q level depth B S Q' O' r

-- the refusal of a program atom whose name and number of arguments are not among the heads
unfoldable pub missing_of : ℕ → List ℕ → ℕ
missing_of head D = if (among head D) 8 5

-- ---------------------------------------------------------------------------------------------
-- What may be read may be written.

pub tables : {L B S Q D : List ℕ} {O : List Word} {at k q level : ℕ} → CanRead L B S Q D O at k q level → Tables B Q O k q
tables c = record { cells = c.cells; order = c.order; most = c.most; used = record { each = c.used }; out = c.out }

module _ {L B S Q D : List ℕ} {O : List Word} {at k q level : ℕ} (c : CanRead L B S Q D O at k q level) where
  arguments_inside : (first count rest : ℕ) → (1 ≤ count → rest ≡ first + 2 * count) → rest ≤ length L → Inside L B first count
  unfolding number_at
  arguments_inside first count rest e h =
      record {
        inside = λ o. omega (arith, e o);
        names = λ j l.
            let n = e (omega arith) in
            let i = c.ids (first + 2 * j) (omega arith) in
            omega (arith, name_default L (first + 2 * j) 255 (omega arith));
      }

  pub can_constraint : (a : Constraint) (rest : ℕ) → SimpleAt L at (Atom a rest) → CanConstraint L B Q O a k q
  can_constraint a rest s = record { tables = tables c; names = go a s }
    where
      go : (a : Constraint) → SimpleAt L at (Atom a rest) → NamesOf L B a
      go kind.True s = tt
      go kind.Fail s = tt
      go (Same x y) s =
          let b = s.0.inside in
          let e = s.2.end in
          (omega (arith, s.2.left, c.ids at (omega arith)), omega (arith, s.2.right, c.ids (at + 2) (omega arith)))
      go (Made x f first count) s =
          let b = s.0.inside in
          let e = s.2.start in
          (omega (arith, s.2.var, c.ids at (omega arith)), omega (arith, s.2.label, c.ids (at + 2) (omega arith)), arguments_inside first count rest (λ o. omega (arith, s.2.end o, s.2.first)) b)

  pub can_program : (p first count rest : ℕ) → SimpleAt L at (Program p first count rest) → CanProgram L B Q O p first count k q
  can_program p first count rest s =
      let b = s.0.inside in
      let e = s.0.behind in
      record { tables = tables c; name = omega (arith, s.2.name, c.ids at (omega arith)); arguments = arguments_inside first count rest (λ o. omega (arith, s.2.end o, s.2.first)) b }

-- ---------------------------------------------------------------------------------------------
-- Refusals.

fault_none : (n : ℕ) (b : Bool) (fs : List ℕ) → b ≡ false → fault n b ++ fs ≡ fs
fault_none n b fs e = ap (λ (b : Bool). fault n b ++ fs) e

fault_due : (n : ℕ) (b : Bool) (fs : List ℕ) → b ≡ true → In n (fault n b ++ fs)
fault_due n b fs e = subst (λ (b : Bool). In n (fault n b ++ fs)) (sym e) (inl refl)

fault_due_first : (n : ℕ) (b : Bool) (fs gs : List ℕ) → b ≡ true → In n ((fault n b ++ fs) ++ gs)
fault_due_first n b fs gs e = subst (λ (b : Bool). In n ((fault n b ++ fs) ++ gs)) (sym e) (inl refl)

-- 6 beside another
faults_6 : (b : Bool) (low f : ℕ) (u : Bool) (fs : List ℕ) → low ≤ 8 → Lowest low fs → b ≡ u → FaultOf b low f → Lowest f (fs ++ fault 6 u)
faults_6 true low f u fs h l e g = lowest_both low 6 f fs (fault 6 u) l (lowest_fault 6 u (omega arith) (sym e)) g
faults_6 false low f u fs h l e g = lowest_both low 8 f fs (fault 6 u) l (lowest_fine 6 u (sym e)) (inl (g, h))

size_names : (w : ℕ → Name) (L : List ℕ) (count first : ℕ) → size (names w L count first) ≡ count
size_names w L count first = ap size (names_ids count w L first) ∙ size_map w (ids L count first) ∙ length_ids L count first

few_names : (w : ℕ → Name) (L : List ℕ) (count first : ℕ) → count ≤ 8 → ltb most_arguments (size (names w L count first)) ≡ false
few_names w L count first h = le-ltb 8 (size (names w L count first)) (omega (arith, size_names w L count first))

many_names : (w : ℕ → Name) (L : List ℕ) (count first : ℕ) → 8 < count → ltb most_arguments (size (names w L count first)) ≡ true
many_names w L count first h = lt-ltb 8 (size (names w L count first)) (omega (arith, size_names w L count first))

-- ---------------------------------------------------------------------------------------------
-- Constraints.

con_names : (c : Constraint) (w : ℕ → Name) (L : List ℕ) → names_in (con_of w L c) ≡ map w (vars_of L c)
con_names kind.True w L = refl
con_names kind.Fail w L = refl
con_names (Same x y) w L = refl
con_names (Made x f first count) w L = ap (λ (l : List Name). w x ∷ l) (names_ids count w L first)

con_few : (L : List ℕ) (at rest : ℕ) (c : Constraint) → SimpleAt L at (Atom c rest) → size_of c + 4 * at + 8 ≤ 4 * rest + 7
con_few L at rest kind.True s = omega (arith, s.0.behind)
con_few L at rest kind.Fail s = omega (arith, s.0.behind)
con_few L at rest (Same x y) s = omega (arith, s.2.end)
con_few L at rest (Made x f first zero) s = omega (arith, s.2.start)
con_few L at rest (Made x f first (suc count)) s = omega (arith, s.2.end (omega arith))

con_faults : (c : Constraint) (query : Bool) (w : ℕ → Name) (L D : List ℕ) (bs : List Name) (depth : ℕ) → arguments_of c ≤ 8 → (b : Bool) (f : ℕ) → b ≡ unbound (bound query bs) (map w (vars_of L c)) → FaultOf b 8 f → Lowest f (simple_faults (constraint (con_of w L c)) (around query (heads w D) bs depth))
unfolding simple_faults
con_faults kind.True query w L D bs depth h b f e g = faults_6 b 8 f false [] (omega arith) lowest_none (e ∙ sym (unbound_none query bs)) g
con_faults kind.Fail query w L D bs depth h b f e g = faults_6 b 8 f false [] (omega arith) lowest_none (e ∙ sym (unbound_none query bs)) g
con_faults (Same x y) query w L D bs depth h b f e g = faults_6 b 8 f (unbound (bound query bs) (w x ∷ w y ∷ [])) [] (omega arith) lowest_none e g
con_faults (Made x l first count) query w L D bs depth h b f e g =
    let ys : List Name = names w L count first in
    subst (Lowest f) (sym (fault_none 3 (ltb most_arguments (size ys)) (fault 6 (unbound (bound query bs) (w x ∷ ys))) (few_names w L count first h)))
    (faults_6 b 8 f (unbound (bound query bs) (w x ∷ ys)) [] (omega arith) lowest_none (e ∙ ap (λ (l : List Name). unbound (bound query bs) (w x ∷ l)) (sym (names_ids count w L first))) g)

pub constraint_subject : {query : Bool} {L B D : List ℕ} (at rest depth : ℕ) (c : Constraint) → SimpleAt L at (Atom c rest) → arguments_of c ≤ 8 → Subject query L B D at rest (size_of c) (vars_of L c) (con_lay L c) 8 depth
unfolding con_lay stmt_words simple_of simple_free
constraint_subject {query} {L} {B} {D} at rest depth c s h =
    record {
      tree = λ w. constraint (con_of w L c);
      forward = omega (arith, s.0.behind);
      inside = s.0.inside;
      few = con_few L at rest c s;
      reads = s.1;
      free = λ w bs. ap (not_bound bs) (con_names c w L);
      laid = λ w num qs bs r. refl;
      faults = λ w num bs sp b f e g. con_faults c query w L D bs depth h b f e g;
    }

-- too many arguments
pub constraint_three : (L B S Q D : List ℕ) (O : List Word) (query : Bool) (at rest k q level depth : ℕ) (c : Constraint) (Q' : List ℕ) (O' : List Word) → SimpleAt L at (Atom c rest) → 8 < arguments_of c → ReadTo a_simple query L B S Q D O at k q level depth B S Q' O' read.Three
unfolding simple_faults
constraint_three L B S Q D O query at rest k q level depth kind.True Q' O' s h = absurd (omega arith)
constraint_three L B S Q D O query at rest k q level depth kind.Fail Q' O' s h = absurd (omega arith)
constraint_three L B S Q D O query at rest k q level depth (Same x y) Q' O' s h = absurd (omega arith)
constraint_three L B S Q D O query at rest k q level depth (Made x l first count) Q' O' s h = λ w num E r sp sc t us e.
    let ys : List Name = names w L count first in
    inl (subst (λ (z : Simple). In 3 (simple_faults z (around query (heads w D) (map w E) depth))) (one_tree w L at rest (constraint (con_of w L (Made x l first count))) t us (s.1 w r) e)
    (fault_due 3 (ltb most_arguments (size ys)) (fault 6 (unbound (bound query (map w E)) (w x ∷ ys))) (many_names w L count first h)))

-- ---------------------------------------------------------------------------------------------
-- Program atoms.

or_back : (a b : Bool) → a || false ≡ b || false → a ≡ b
or_back true true e = refl
or_back true false e = e
or_back false true e = e
or_back false false e = refl

same_name : (w : ℕ → Name) (x y : ℕ) → (w x ≡ w y → x ≡ y) → same (w x) (w y) ≡ eqb x y
unfolding among akl.among any
same_name w x y h = or_back (same (w x) (w y)) (eqb x y) (among_names w x (y ∷ []) (λ z i q. elim i [ inl e ↦ h (q ∙ ap w e) ∙ sym e | inr u ↦ absurd u ]))

same_head : (c p n : ℕ) → n < 256 → eqb (c / 256) p && eqb (c % 256) n ≡ eqb (p * 256 + n) c
same_head c p n h = go (eqb (c / 256) p) (eqb (c % 256) n) refl refl
  where
    go : (a b : Bool) → eqb (c / 256) p ≡ a → eqb (c % 256) n ≡ b → a && b ≡ eqb (p * 256 + n) c
    go true true d e = let x = eqb-true (c / 256) p d in let y = eqb-true (c % 256) n e in sym (eq-eqb (p * 256 + n) c (omega arith))
    go true false d e = sym (ne_eqb (p * 256 + n) c (λ z. eqb-false (c % 256) n e (omega arith)))
    go false b d e = sym (ne_eqb (p * 256 + n) c (λ z. eqb-false (c / 256) p d (omega arith)))

any_head : (D : List ℕ) (w : ℕ → Name) (p n : ℕ) → n < 256 → ((c : ℕ) → In c D → w (c / 256) ≡ w p → c / 256 ≡ p) → any (λ d. same d.0 (w p) && eqb d.1 n) (heads w D) ≡ among (p * 256 + n) D
unfolding any among
any_head [] w p n h f = refl
any_head (c ∷ D) w p n h f = ap₂ ◌||◌ (ap (λ (b : Bool). b && eqb (c % 256) n) (same_name w (c / 256) p (f c (inl refl))) ∙ same_head c p n h) (any_head D w p n h (λ x i. f x (inr i)))

missing_due : (b : Bool) → Lowest (if b 8 5) (fault 5 (not b))
missing_due true = lowest_none
missing_due false = lowest_fault 5 true (omega arith) refl

missing_low : (b : Bool) → if b 8 5 ≤ 8
missing_low true = omega arith
missing_low false = omega arith

program_few : (L : List ℕ) (at rest p first count : ℕ) → SimpleAt L at (Program p first count rest) → count + 3 + 4 * at + 8 ≤ 4 * rest + 7
program_few L at rest p first zero s = omega (arith, s.0.behind)
program_few L at rest p first (suc count) s = omega (arith, s.2.end (omega arith))

program_faults : (B : List ℕ) (query : Bool) (w : ℕ → Name) (num : Name → ℕ) (L D : List ℕ) (bs : List Name) (depth p first count : ℕ) → Spelling w num (length B) → ((c : ℕ) → In c D → c / 256 < length B) → p < length B → count ≤ 8 → (b : Bool) (f : ℕ) → b ≡ unbound (bound query bs) (map w (ids L count first)) → FaultOf b (missing_of (p * 256 + count) D) f → Lowest f (simple_faults (program (w p) (names w L count first)) (around query (heads w D) bs depth))
unfolding simple_faults missing_of
program_faults B query w num L D bs depth p first count sp hs hp h b f e g =
    let ys : List Name = names w L count first in
    let a : Bool = among (p * 256 + count) D in
    let n = size_names w L count first in
    let u : unknown (around query (heads w D) bs depth) (w p) (size ys) ≡ not a = ap (λ (m : ℕ). unknown (around query (heads w D) bs depth) (w p) m) n ∙ ap not (any_head D w p count (omega arith) (λ c i q. sym (sp.back (c / 256) (hs c i)) ∙ ap num q ∙ sp.back p hp)) in
    let v : Bool = unknown (around query (heads w D) bs depth) (w p) (size ys) in
    let l : Lowest (if a 8 5) (fault 5 v) = subst (λ (c : Bool). Lowest (if a 8 5) (fault 5 c)) (sym u) (missing_due a) in
    let m : Lowest (if a 8 5) (fault 3 (ltb most_arguments (size ys)) ++ fault 5 v) = subst (Lowest (if a 8 5)) (sym (fault_none 3 (ltb most_arguments (size ys)) (fault 5 v) (few_names w L count first h))) l in
    faults_6 b (if a 8 5) f (unbound (bound query bs) ys) (fault 3 (ltb most_arguments (size ys)) ++ fault 5 v) (missing_low a) m (e ∙ ap (unbound (bound query bs)) (sym (names_ids count w L first))) g

pub program_subject : {query : Bool} {L B S Q D : List ℕ} {O : List Word} {at k q level : ℕ} → CanRead L B S Q D O at k q level → (p first count rest depth : ℕ) → SimpleAt L at (Program p first count rest) → count ≤ 8 → Subject query L B D at rest (count + 3) (ids L count first) (call_lay p (ids L count first)) (missing_of (p * 256 + count) D) depth
unfolding call_lay stmt_words simple_of simple_free
program_subject {query} {L} {B} {S} {Q} {D} {O} {at} c p first count rest depth s h =
    record {
      tree = λ w. program (w p) (names w L count first);
      forward = omega (arith, s.0.behind);
      inside = s.0.inside;
      few = program_few L at rest p first count s;
      reads = s.1;
      free = λ w bs. ap (not_bound bs) (names_ids count w L first);
      laid = λ w num qs bs r. ap (λ (l : List Name). stmt_words num (call (w p) (map (variable_of qs bs) l)) r) (sym (names_ids count w L first));
      faults = λ w num bs sp b f e g. program_faults B query w num L D bs depth p first count sp c.heads (can_program c p first count rest s).name h b f e g;
    }

-- too many arguments
pub program_three : (L B S Q D : List ℕ) (O : List Word) (query : Bool) (at rest k q level depth p first count : ℕ) (Q' : List ℕ) (O' : List Word) → SimpleAt L at (Program p first count rest) → 8 < count → ReadTo a_simple query L B S Q D O at k q level depth B S Q' O' read.Three
unfolding simple_faults
program_three L B S Q D O query at rest k q level depth p first count Q' O' s h w num E r sp sc t us e =
    let ys : List Name = names w L count first in
    inl (subst (λ (z : Simple). In 3 (simple_faults z (around query (heads w D) (map w E) depth))) (one_tree w L at rest (program (w p) ys) t us (s.1 w r) e)
    (fault_due_first 3 (ltb most_arguments (size ys)) (fault 5 (unknown (around query (heads w D) (map w E) depth) (w p) (size ys))) (fault 6 (unbound (bound query (map w E)) ys)) (many_names w L count first h)))

-- the search among all heads
pub missing_yes : (head : ℕ) (D : List ℕ) {k : ℕ} {b : Bool} → k ≡ length D → b ≡ among head (take k D) → b ≡ true → 8 ≡ missing_of head D
unfolding missing_of
missing_yes head D e g t = sym (ap (λ (c : Bool). if c 8 5) (ap (among head) (sym (take-length D) ∙ ap (λ (n : ℕ). take n D) (sym e)) ∙ sym g ∙ t))

pub missing_no : (head : ℕ) (D : List ℕ) {k : ℕ} {b : Bool} → k ≡ length D → b ≡ among head (take k D) → b ≡ false → 5 ≡ missing_of head D
unfolding missing_of
missing_no head D e g t = sym (ap (λ (c : Bool). if c 8 5) (ap (among head) (sym (take-length D) ∙ ap (λ (n : ℕ). take n D) (sym e)) ∙ sym g ∙ t))
