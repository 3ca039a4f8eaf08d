-- A mark goes on byte by byte, and nodes are marked one after another. Assumes nothing.
use mathlib.Core.Path.{◌≡◌, refl, ap, ap₂, sym, ◌∙◌}
use mathlib.Core.List.{List, [], ◌∷◌, ◌++◌}
use mathlib.Core.Bool.{Bool, true, false, ◌&&◌}
use Prim.Native.Nat.{ℕ, zero, suc, ◌+◌, ◌*◌, ◌/◌, ◌%◌, ◌<◌, ◌≤◌}
use native.Mathlib.Omega.{arith}
use native.Mathlib.Decide.{ℕ_discrete}
use lib.Dec.{leb}
use lib.ListN.{length, get_or}
use borrow.Author.Tests.{le-leb, lt-leb, leb-true, leb-false}
use Rattle.akl.specs.Base.{Name, all, size}
use Rattle.akl.specs.Token.{Class, small, capital, digit, underscore, blank, mark, other, class_of, word_class, digit_class}
use Rattle.mem_numbers.specs.Stored.{stored_same, stored_other}
use Rattle.mem_parts.specs.Parts.{outside_then}
use Rattle.read_nodes.specs.Spell.{named, Lower, named_root, named_step}
use Rattle.work_tables.specs.Tables.{Laid, laid_after}
use Rattle.check_nodetables.specs.Tables.{kinds_of, Marked, PutKind, length_kinds}
use Rattle.check_links.specs.Links.{Nodes}
use Rattle.check_namemarks.specs.Marks.{formed, words_on, digits_on, form, goes, packs, packed, mark_of, marked, MarkedTo, RootMarked}

-- ---------------------------------------------------------------------------------------------
-- One byte more.

all_snoc : (p : ℕ → Bool) (w : Name) (x : ℕ) → all p (w ++ (x ∷ [])) ≡ (all p w && p x)
unfolding all
all_snoc p [] x = true_right (p x)
  where
    true_right : (b : Bool) → b && true ≡ b
    true_right true = refl
    true_right false = refl
all_snoc p (y ∷ w) x = ap (λ (b : Bool). p y && b) (all_snoc p w x) ∙ assoc (p y) (all p w) (p x)
  where
    assoc : (a b c : Bool) → a && (b && c) ≡ (a && b) && c
    assoc true b c = refl
    assoc false b c = refl

pub size_snoc : (w : Name) (x : ℕ) → size (w ++ (x ∷ [])) ≡ suc (size w)
unfolding size
size_snoc [] x = refl
size_snoc (y ∷ w) x = ap suc (size_snoc w x)

formed_on : (c : Class) (a d p q : Bool) → formed c (a && p) (d && q) ≡ goes (formed c a d) p q
formed_on small true d true q = refl
formed_on small true d false q = refl
formed_on small false d p q = refl
formed_on capital true d true q = refl
formed_on capital true d false q = refl
formed_on capital false d p q = refl
formed_on digit a true p true = refl
formed_on digit a true p false = refl
formed_on digit a false p q = refl
formed_on underscore a d p q = refl
formed_on blank a d p q = refl
formed_on mark a d p q = refl
formed_on other a d p q = refl

form_snoc : (y : ℕ) (w : Name) (x : ℕ) → form ((y ∷ w) ++ (x ∷ [])) ≡ goes (form (y ∷ w)) (word_class (class_of x)) (digit_class (class_of x))
unfolding form words_on digits_on
form_snoc y w x =
    ap₂ (formed (class_of y)) (all_snoc (λ x. word_class (class_of x)) w x) (all_snoc (λ x. digit_class (class_of x)) w x)
    ∙ formed_on (class_of y) (all (λ x. word_class (class_of x)) w) (all (λ x. digit_class (class_of x)) w) (word_class (class_of x)) (digit_class (class_of x))

goes_none : (f : ℕ) (a d : Bool) → f ≡ 0 → goes f a d ≡ 0
goes_none zero a d e = refl
goes_none (suc f) a d e = absurd (omega arith)

packed_none : (l : ℕ) → packed 0 l ≡ 0
unfolding packed
packed_none l = refl

packed_long : (f l : ℕ) → 32 < l → packed f l ≡ 0
unfolding packed
packed_long zero l h = refl
packed_long (suc f) l h = ap (λ (b : Bool). packs (suc f) b l) (lt-leb l 32 h)

pub packed_fits : (f l : ℕ) → 0 < f → l ≤ 32 → packed f l ≡ f * 64 + l
unfolding packed
packed_fits zero l g h = absurd (omega arith)
packed_fits (suc f) l g h = ap (λ (b : Bool). packs (suc f) b l) (le-leb l 32 h)

-- a mark goes on as the way and the length do
pub packed_on : (f l : ℕ) (a d : Bool) → packed (goes f a d) (suc l) ≡ packed (goes (packed f l / 64) a d) (packed f l % 64 + 1)
packed_on zero l a d =
    let e : packed 0 l / 64 ≡ 0 = omega (arith, packed_none l) in
    packed_none (suc l) ∙ sym (ap (λ (k : ℕ). packed k (packed 0 l % 64 + 1)) (goes_none (packed 0 l / 64) a d e) ∙ packed_none (packed 0 l % 64 + 1))
packed_on (suc f) l a d = go (leb l 32) refl
  where
    go : (b : Bool) → leb l 32 ≡ b → packed (goes (suc f) a d) (suc l) ≡ packed (goes (packed (suc f) l / 64) a d) (packed (suc f) l % 64 + 1)
    go true e =
        let h = leb-true l 32 e in
        let z = packed_fits (suc f) l (omega arith) h in
        let u : packed (suc f) l / 64 ≡ suc f = omega arith in
        let v : packed (suc f) l % 64 + 1 ≡ suc l = omega arith in
        sym (ap₂ (λ (x y : ℕ). packed (goes x a d) y) u v)
    go false e =
        let h = leb-false l 32 e in
        let z = packed_long (suc f) l (omega arith) in
        let u : packed (suc f) l / 64 ≡ 0 = omega arith in
        packed_long (goes (suc f) a d) (suc l) (omega arith)
        ∙ sym (ap (λ (k : ℕ). packed k (packed (suc f) l % 64 + 1)) (goes_none (packed (suc f) l / 64) a d u) ∙ packed_none (packed (suc f) l % 64 + 1))

mark_snoc : (y : ℕ) (w : Name) (x p : ℕ) → 0 < p → mark_of ((y ∷ w) ++ (x ∷ [])) ≡ marked p (mark_of (y ∷ w)) (class_of x)
unfolding mark_of marked
mark_snoc y w x zero g = absurd (omega arith)
mark_snoc y w x (suc p) g = ap₂ packed (form_snoc y w x) (size_snoc (y ∷ w) x) ∙ packed_on (form (y ∷ w)) (size (y ∷ w)) (word_class (class_of x)) (digit_class (class_of x))

mark_one : (x s : ℕ) → mark_of (x ∷ []) ≡ marked 0 s (class_of x)
unfolding mark_of marked form words_on digits_on size all
mark_one x s = refl

pub root_marked : (N K : List ℕ) → RootMarked K → MarkedTo N K 1
unfolding mark_of form size packed
root_marked N K h j g = let z : j ≡ 0 = omega arith in ap (λ (i : ℕ). get_or K i 0) z ∙ h ∙ sym (ap (λ (i : ℕ). mark_of (named N i)) z ∙ ap mark_of (named_root N))

-- the mark of a node is that of its parent, gone on
pub mark_node : (N : List ℕ) → Lower N (length N) → (i p s x : ℕ) → 0 < i → i < length N → p ≡ get_or N i 0 / 256 → x ≡ get_or N i 0 % 256 → s ≡ mark_of (named N p) → mark_of (named N i) ≡ marked p s (class_of x)
mark_node N L i zero s x g h e f q =
    ap mark_of (named_step N (length N) L i g h ∙ ap₂ (λ (k b : ℕ). named N k ++ (b ∷ [])) (sym e) (sym f) ∙ ap (λ (w : Name). w ++ (x ∷ [])) (named_root N))
    ∙ mark_one x s
mark_node N L i (suc p) s x g h e f q =
    let l = L i g h in
    let b : suc p < length N = omega (arith, e, l) in
    let up = named_step N (length N) L (suc p) (omega arith) b in
    ap mark_of (named_step N (length N) L i g h ∙ ap₂ (λ (k b : ℕ). named N k ++ (b ∷ [])) (sym e) (sym f))
    ∙ go (named N (suc p)) (named N (get_or N (suc p) 0 / 256)) (get_or N (suc p) 0 % 256) up
    ∙ ap (λ (m : ℕ). marked (suc p) m (class_of x)) (sym q)
  where
    go : (w v : Name) (y : ℕ) → w ≡ v ++ (y ∷ []) → mark_of (w ++ (x ∷ [])) ≡ marked (suc p) (mark_of w) (class_of x)
    go [] [] y z = absurd (let u : ◌≡◌ {A = ℕ} 0 1 = ap length z in omega arith)
    go [] (a ∷ v) y z = absurd (let u : 0 ≡ suc (length (v ++ (y ∷ []))) = ap length z in omega arith)
    go (b ∷ w) v y z = mark_snoc b w x (suc p) (omega arith)

-- The loop: the nodes below i of n are marked in the working slice X, which was L.
pub record Marking (N L : List ℕ) (n : ℕ) (X : List ℕ) (i : ℕ) : Type 0 where
  pub laid : Laid X
  pub low : 1 ≤ i
  pub high : i ≤ n
  pub marks : MarkedTo N (kinds_of X) i
  pub rest : Marked L X

pub marking_more : {N L X Y : List ℕ} {n i p s x v : ℕ} → Nodes N → n ≡ length N → Marking N L n X i → i < n → p ≡ get_or N i 0 / 256 → x ≡ get_or N i 0 % 256 → s ≡ get_or (kinds_of X) p 0 → v ≡ marked p s (class_of x) → PutKind X i v Y → Marking N L n Y (i + 1)
marking_more {N} {L} {X} {Y} {n} {i} {p} {s} {x} {v} K e M h a b c d t =
    let low = M.low in
    let l = K.rooted.lower i (omega arith) (omega arith) in
    let m = K.most in
    let z = length_kinds M.laid in
    record {
      laid = laid_after M.laid t.rest;
      low = omega arith;
      high = omega arith;
      marks = λ j g. go j g (ℕ_discrete j i);
      rest = outside_then M.rest t.rest;
    }
  where
    at : get_or (kinds_of Y) i 0 ≡ v
    at = let m = K.most in let z = length_kinds M.laid in stored_same 0 t.kinds (omega arith)

    up : s ≡ mark_of (named N p)
    up = let low = M.low in let l = K.rooted.lower i (omega arith) (omega arith) in c ∙ M.marks p (omega arith)

    go : (j : ℕ) → j < i + 1 → Dec (j ≡ i) → get_or (kinds_of Y) j 0 ≡ mark_of (named N j)
    go j g (yes q) =
        let low = M.low in
        ap (λ (k : ℕ). get_or (kinds_of Y) k 0) q ∙ at ∙ d ∙ sym (mark_node N K.rooted.lower i p s x (omega arith) (omega arith) a b up) ∙ sym (ap (λ (k : ℕ). mark_of (named N k)) q)
    go j g (no q) = stored_other j 0 t.kinds q ∙ M.marks j (omega arith)

-- ---------------------------------------------------------------------------------------------
-- The cases, as code comes to them.

pub goes_digit : (f : ℕ) (a d : Bool) → f ≡ 2 → d ≡ true → 2 ≡ goes f a d
goes_digit f a d e t = sym (ap₂ (λ (x : ℕ) (y : Bool). goes x a y) e t)

pub goes_no_digit : (f : ℕ) (a d : Bool) → f ≡ 2 → d ≡ false → 0 ≡ goes f a d
goes_no_digit f a d e t = sym (ap₂ (λ (x : ℕ) (y : Bool). goes x a y) e t)

pub goes_word : (f : ℕ) (a d : Bool) → (f ≡ 2 → ⊥) → a ≡ true → f ≡ goes f a d
goes_word f a d n t = go f n ∙ ap (λ (b : Bool). goes f b d) (sym t)
  where
    go : (f : ℕ) → (f ≡ 2 → ⊥) → f ≡ goes f true d
    go zero n = refl
    go (suc zero) n = refl
    go (suc (suc zero)) n = absurd (n refl)
    go (suc (suc (suc f))) n = refl

pub goes_no_word : (f : ℕ) (a d : Bool) → (f ≡ 2 → ⊥) → a ≡ false → 0 ≡ goes f a d
goes_no_word f a d n t = go f n ∙ ap (λ (b : Bool). goes f b d) (sym t)
  where
    go : (f : ℕ) → (f ≡ 2 → ⊥) → 0 ≡ goes f false d
    go zero n = refl
    go (suc zero) n = refl
    go (suc (suc zero)) n = absurd (n refl)
    go (suc (suc (suc f))) n = refl

pub formed_small : (c : Class) (a d : Bool) → formed c a d < 4
formed_small small true d = omega arith
formed_small small false d = omega arith
formed_small capital true d = omega arith
formed_small capital false d = omega arith
formed_small digit a true = omega arith
formed_small digit a false = omega arith
formed_small underscore a d = omega arith
formed_small blank a d = omega arith
formed_small mark a d = omega arith
formed_small other a d = omega arith

pub goes_small : (f : ℕ) (a d : Bool) → f < 4 → goes f a d < 4
goes_small zero a d h = omega arith
goes_small (suc zero) true d h = omega arith
goes_small (suc zero) false d h = omega arith
goes_small (suc (suc zero)) a true h = omega arith
goes_small (suc (suc zero)) a false h = omega arith
goes_small (suc (suc (suc f))) true d h = omega arith
goes_small (suc (suc (suc f))) false d h = omega arith

pub packed_zero : (f l : ℕ) → f ≡ 0 → 0 ≡ packed f l
packed_zero f l e = sym (ap (λ (x : ℕ). packed x l) e ∙ packed_none l)

pub packed_over : (f l : ℕ) → 32 < l → 0 ≡ packed f l
packed_over f l h = sym (packed_long f l h)

pub packed_within : (f l : ℕ) → (f ≡ 0 → ⊥) → l ≤ 32 → f * 64 + l ≡ packed f l
packed_within f l n h = sym (packed_fits f l (omega arith) h)

pub marked_first : (p s : ℕ) (c : Class) → p ≡ 0 → packed (formed c true true) 1 ≡ marked p s c
unfolding marked
marked_first p s c e = sym (ap (λ (x : ℕ). marked x s c) e)

pub marked_further : (p s : ℕ) (c : Class) → (p ≡ 0 → ⊥) → packed (goes (s / 64) (word_class c) (digit_class c)) (s % 64 + 1) ≡ marked p s c
unfolding marked
marked_further zero s c n = absurd (n refl)
marked_further (suc p) s c n = refl
