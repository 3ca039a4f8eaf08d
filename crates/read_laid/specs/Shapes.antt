-- The parts that simple statements are made of: what the functions that write them promise. Assumes nothing.
use Rattle.std.specs.Prelude.{◌≡◌, refl, Result, Ok, Err, List, ◌∷◌, ◌++◌, map, [], Bool, true, false, ◌||◌, ℕ, ◌+◌, ◌<◌, ◌≤◌, length}
use Rattle.std.proofs.Common.{ap, sym, ◌∙◌, subst, append-nil, arith}
use Rattle.akl.specs.Base.{Name}
use Rattle.akl.specs.Syntax.{Var}
use Rattle.constraint.specs.Constraint.{map_con}
use Rattle.mem_words.specs.declared.Word.{Word}
use Rattle.mem_words.specs.declared.Word.TheVariants.{End, Num, Inner}
use Rattle.mem_sorts.specs.declared.Sort.{Sort}
use Rattle.mem_sorts.specs.declared.Sort.TheVariants.{True, Fail, Eq, App, Call}
use Rattle.layout.specs.Layout.{var_word, vars_words, con_words}
use Rattle.read_phrases.specs.Phrases.{con_of, names}
use Rattle.read_phrases.specs.declared.Constraint.{Constraint}
use Rattle.read_phrases.specs.declared.Constraint.TheVariants.{Same, Made}
use Rattle.read_phrases.specs.declared.Constraint.TheVariants as kind
use Rattle.read_lookups.specs.Places.{ids}
use Rattle.read_emits.specs.TheirContracts.{Emits}
use Rattle.read_varwords.specs.Names.{names_ids}
use Rattle.read_varwords.specs.Vars.{CanVar, CanVars, VarsTo}
use Rattle.read_varwords.specs.declared.Vars.{Vars}
use Rattle.read_varwords.specs.declared.Unwritten.{Unwritten}
use Rattle.read_varwords.specs.declared.Unwritten.TheVariants.{Many, Full}
use Rattle.read_pieces.specs.Reads.{Spelling}
use Rattle.read_emits.specs.Out.{Solid}
use Rattle.read_laid.specs.Parts.{Lay, Tables, Inside, Part, TooMany, PartTo, Parted, vars_lay, part_word, part_vars, part_then, part_many, part_full, tables_on, part_same, many_vars, many_before}

-- a number of a name, and the two words of an atom without variables
unfoldable pub number_lay : ℕ → Lay
number_lay f w num v r = Num (num (w f)) ∷ r

unfoldable pub bare_lay : Sort → Lay
bare_lay s w num v r = Inner s ∷ End ∷ r

-- a first word and a variable
unfoldable pub lead_lay : Sort → ℕ → Lay
lead_lay s x w num v r = Inner s ∷ var_word (v (w x)) ∷ r

-- a last variable
unfoldable pub last_lay : ℕ → Lay
last_lay x w num v r = var_word (v (w x)) ∷ End ∷ r

-- an equation of two variables
unfoldable pub same_lay : ℕ → ℕ → Lay
same_lay x y w num v r = Inner Eq ∷ var_word (v (w x)) ∷ var_word (v (w y)) ∷ End ∷ r

-- arguments, and arguments behind a name's number
unfoldable pub tail_lay : List ℕ → Lay
tail_lay is w num v r = vars_words (map v (map w is)) (End ∷ r)

unfoldable pub labelled_lay : ℕ → List ℕ → Lay
labelled_lay f is w num v r = Num (num (w f)) ∷ vars_words (map v (map w is)) (End ∷ r)

-- a variable that is an application of a label
unfoldable pub made_lay : ℕ → ℕ → List ℕ → Lay
made_lay x f is w num v r = Inner App ∷ var_word (v (w x)) ∷ Num (num (w f)) ∷ vars_words (map v (map w is)) (End ∷ r)

-- a program atom
unfoldable pub call_lay : ℕ → List ℕ → Lay
call_lay p is w num v r = Inner Call ∷ Num (num (w p)) ∷ vars_words (map v (map w is)) (End ∷ r)

-- a constraint: the numbers of its variables, its words, and how many they are
abbrev pub vars_of : List ℕ → Constraint → List ℕ
vars_of L kind.True = []
vars_of L kind.Fail = []
vars_of L (Same x y) = x ∷ y ∷ []
vars_of L (Made x f first count) = x ∷ ids L count first

unfoldable pub con_lay : List ℕ → Constraint → Lay
con_lay L c w num v r = con_words num (map_con v (con_of w L c)) r

abbrev pub size_of : Constraint → ℕ
size_of kind.True = 2
size_of kind.Fail = 2
size_of (Same x y) = 4
size_of (Made x f first count) = count + 4

-- how many arguments it has
abbrev pub arguments_of : Constraint → ℕ
arguments_of kind.True = 0
arguments_of kind.Fail = 0
arguments_of (Same x y) = 0
arguments_of (Made x f first count) = count

-- its numbers are those of names
abbrev pub NamesOf : List ℕ → List ℕ → Constraint → Type 0
NamesOf L B kind.True = Unit
NamesOf L B kind.Fail = Unit
NamesOf L B (Same x y) = (x < length B) × (y < length B)
NamesOf L B (Made x f first count) = (x < length B) × (f < length B) × Inside L B first count

pub record CanConstraint (L B Q : List ℕ) (O : List Word) (c : Constraint) (k q : ℕ) : Type 0 where
  pub tables : Tables B Q O k q
  pub names : NamesOf L B c

pub record CanProgram (L B Q : List ℕ) (O : List Word) (p first count k q : ℕ) : Type 0 where
  pub tables : Tables B Q O k q
  pub name : p < length B
  pub arguments : Inside L B first count

-- an answer, and that of what went before
abbrev pub or_vars : Bool → Result Vars Unwritten → Result Vars Unwritten
or_vars f (Ok v) = Ok (record { out = v.out; known = v.known; free = f || v.free })
or_vars f (Err x) = Err x

-- ---------------------------------------------------------------------------------------------
-- The answers of the functions.

-- the same words, said otherwise
pub to_same : {n : ℕ} {is : List ℕ} {lay : Lay} (lay' : Lay) {O : List Word} {k : ℕ} {B Q : List ℕ} {q : ℕ} {query : Bool} {O' : List Word} {Q' : List ℕ} {z : Result Vars Unwritten} → ((w : ℕ → Name) (num : Name → ℕ) (v : Name → Var) (r : List Word) → lay w num v r ≡ lay' w num v r) → Parted n is lay O k B Q q query O' Q' z → Parted n is lay' O k B Q q query O' Q' z
to_same {n} {is} {lay} lay' {O} {k} {B} {Q} {q} {query} {O'} {Q'} {z} h a = record { to = go z a.to }
  where
    go : (z : Result Vars Unwritten) → PartTo n is lay O k B Q q query O' Q' z → PartTo n is lay' O k B Q q query O' Q' z
    go (Ok v) a = part_same refl refl h a
    go (Err Many) a = a
    go (Err Full) a = a

-- what `variable` and `variables` answer
pub to_part : (n : ℕ) (is : List ℕ) (O : List Word) (k : ℕ) (B Q : List ℕ) (q : ℕ) (query : Bool) (O' : List Word) (Q' : List ℕ) → length is ≡ n → (z : Result Vars Unwritten) → VarsTo is O k B Q q query O' Q' z → Parted n is (vars_lay is) O k B Q q query O' Q' z
to_part n is O k B Q q query O' Q' l (Ok v) a = record { to = part_vars query l a }
to_part n is O k B Q q query O' Q' l (Err Many) a = record { to = many_vars a }
to_part n is O k B Q q query O' Q' l (Err Full) a = record { to = omega (arith, a.full) }

-- the answer is known
module _ {n : ℕ} {is : List ℕ} {lay : Lay} {O : List Word} {k : ℕ} {B Q : List ℕ} {q : ℕ} {query : Bool} {O' : List Word} {Q' : List ℕ} {z : Result Vars Unwritten} (a : Parted n is lay O k B Q q query O' Q' z) where
  pub is_done : {v : Vars} → z ≡ Ok v → Part n is lay O k B Q q query O' Q' v.out v.known v.free
  is_done e = subst (PartTo n is lay O k B Q q query O' Q') e a.to

  pub is_many : z ≡ Err Many → TooMany is B Q q query
  is_many e = subst (PartTo n is lay O k B Q q query O' Q') e a.to

  pub is_full : z ≡ Err Full → length O < k + n
  is_full e = subst (PartTo n is lay O k B Q q query O' Q') e a.to

-- a word first
word_then : {m : ℕ} {js : List ℕ} {O : List Word} {k : ℕ} {x : Word} {O₁ : List Word} {B Q : List ℕ} {q : ℕ} (query : Bool) {O' : List Word} {Q' : List ℕ} {lay : Lay} {z : Result Vars Unwritten} (c : ℕ) (front lay' : Lay) → m + 1 ≡ c → Tables B Q O k q → Solid x → ((w : ℕ → Name) (num : Name → ℕ) (v : Name → Var) (r : List Word) → Spelling w num (length B) → x ∷ r ≡ front w num v r) → ((w : ℕ → Name) (num : Name → ℕ) (v : Name → Var) (r : List Word) → front w num v (lay w num v r) ≡ lay' w num v r) → Emits O k x O₁ → Parted m js lay O₁ (k + 1) B Q q query O' Q' z → Parted c js lay' O k B Q q query O' Q' z
word_then {m} {js} {O} {k} {x} {O₁} {B} {Q} {q} query {O'} {Q'} {lay} {z} c front lay' e t s h g i a = record { to = go z a.to }
  where
    go : (z : Result Vars Unwritten) → PartTo m js lay O₁ (k + 1) B Q q query O' Q' z → PartTo c js lay' O k B Q q query O' Q' z
    go (Ok v) a = part_same refl refl g (part_then (part_word query front t s h i) c (omega arith) a)
    go (Err Many) a = part_many (part_word query front t s h i) a
    go (Err Full) a = part_full (part_word query front t s h i) m c (omega arith) a

-- the end
end_after : {n : ℕ} {is : List ℕ} {O : List Word} {k : ℕ} {B Q : List ℕ} {q : ℕ} {query : Bool} {O₁ : List Word} {Q₁ : List ℕ} {k₁ q₁ : ℕ} {f : Bool} {O₂ : List Word} {lay : Lay} (lay' : Lay) → ((w : ℕ → Name) (num : Name → ℕ) (v : Name → Var) (r : List Word) → lay w num v (End ∷ r) ≡ lay' w num v r) → Tables B Q O k q → Part n is lay O k B Q q query O₁ Q₁ k₁ q₁ f → Emits O₁ k₁ End O₂ → Part (n + 1) is lay' O k B Q q query O₂ Q₁ (k₁ + 1) q₁ f
end_after {n} {is} {query = query} {f = f} lay' h t a e = part_same (append-nil is) (or_none f) h (part_then a (n + 1) refl (part_word query (λ w num v r. End ∷ r) (tables_on a t) tt (λ w num v r s. refl) e))
  where
    or_none : (b : Bool) → b || false ≡ b
    or_none true = refl
    or_none false = refl

-- two parts
or_then : {n : ℕ} {is : List ℕ} {lay : Lay} {O : List Word} {k : ℕ} {B Q : List ℕ} {q : ℕ} {query : Bool} {O₁ : List Word} {Q₁ : List ℕ} {k₁ q₁ : ℕ} {f : Bool} {m : ℕ} {js : List ℕ} {lay' : Lay} {O₂ : List Word} {Q₂ : List ℕ} {z : Result Vars Unwritten} (c : ℕ) (lay'' : Lay) → n + m ≡ c → ((w : ℕ → Name) (num : Name → ℕ) (v : Name → Var) (r : List Word) → lay w num v (lay' w num v r) ≡ lay'' w num v r) → Part n is lay O k B Q q query O₁ Q₁ k₁ q₁ f → Parted m js lay' O₁ k₁ B Q₁ q₁ query O₂ Q₂ z → (r : Result Vars Unwritten) → r ≡ or_vars f z → Parted c (is ++ js) lay'' O k B Q q query O₂ Q₂ r
or_then {n} {is} {lay} {O} {k} {B} {Q} {q} {query} {O₁} {Q₁} {k₁} {q₁} {f} {m} {js} {lay'} {O₂} {Q₂} {z} c lay'' e h a b r g = record { to = subst (PartTo c (is ++ js) lay'' O k B Q q query O₂ Q₂) (sym g) (go z b.to) }
  where
    go : (z : Result Vars Unwritten) → PartTo m js lay' O₁ k₁ B Q₁ q₁ query O₂ Q₂ z → PartTo c (is ++ js) lay'' O k B Q q query O₂ Q₂ (or_vars f z)
    go (Ok v) b = part_same refl refl h (part_then a c e b)
    go (Err Many) b = part_many a b
    go (Err Full) b = part_full a m c e b

-- ---------------------------------------------------------------------------------------------
-- Each function.

pub bare_on : {O : List Word} {k : ℕ} {B Q : List ℕ} {q : ℕ} (query : Bool) (s : Sort) {O₁ O₂ : List Word} (k' : ℕ) → Tables B Q O k q → Emits O k (Inner s) O₁ → Emits O₁ (k + 1) End O₂ → k' ≡ k + 2 → Parted 2 [] (bare_lay s) O k B Q q query O₂ Q (Ok (record { out = k'; known = q; free = false }))
unfolding bare_lay
bare_on {O} {k} {B} {Q} {q} query s {O₁} {O₂} k' t a b e =
    let p = part_word query (λ w num v r. Inner s ∷ r) t tt (λ w num v r h. refl) a in
    let z : k + 1 + 1 ≡ k' = omega arith in
    record { to = subst (λ (n : ℕ). Part 2 [] (bare_lay s) O k B Q q query O₂ Q n q false) z (end_after (bare_lay s) (λ w num v r. refl) t p b) }

pub lead_on : {O : List Word} {k : ℕ} {B Q : List ℕ} {q : ℕ} (query : Bool) (s : Sort) (x : ℕ) {O₁ : List Word} (O' : List Word) (Q' : List ℕ) → Tables B Q O k q → Emits O k (Inner s) O₁ → (z : Result Vars Unwritten) → VarsTo (x ∷ []) O₁ (k + 1) B Q q query O' Q' z → Parted 2 (x ∷ []) (lead_lay s x) O k B Q q query O' Q' z
unfolding lead_lay vars_words
lead_on {O} {k} {B} {Q} {q} query s x {O₁} O' Q' t a z b = word_then query 2 (λ w num v r. Inner s ∷ r) (lead_lay s x) refl t tt (λ w num v r h. refl) (λ w num v r. refl) a (to_part 1 (x ∷ []) O₁ (k + 1) B Q q query O' Q' refl z b)

pub last_on : {O : List Word} {k : ℕ} {B Q : List ℕ} {q : ℕ} {query : Bool} {x : ℕ} {O₁ : List Word} {Q₁ : List ℕ} {z : Result Vars Unwritten} {v : Vars} {O₂ : List Word} → Tables B Q O k q → Parted 1 (x ∷ []) (vars_lay (x ∷ [])) O k B Q q query O₁ Q₁ z → z ≡ Ok v → Emits O₁ v.out End O₂ → Parted 2 (x ∷ []) (last_lay x) O k B Q q query O₂ Q₁ (Ok (record { out = v.out + 1; known = v.known; free = v.free }))
unfolding last_lay vars_words
last_on {x = x} t a e b = record { to = end_after (last_lay x) (λ w num v r. refl) t (is_done a e) b }

pub tail_on : {n : ℕ} {is : List ℕ} {O : List Word} {k : ℕ} {B Q : List ℕ} {q : ℕ} {query : Bool} {O₁ : List Word} {Q₁ : List ℕ} {z : Result Vars Unwritten} {v : Vars} {O₂ : List Word} → Tables B Q O k q → Parted n is (vars_lay is) O k B Q q query O₁ Q₁ z → z ≡ Ok v → Emits O₁ v.out End O₂ → Parted (n + 1) is (tail_lay is) O k B Q q query O₂ Q₁ (Ok (record { out = v.out + 1; known = v.known; free = v.free }))
unfolding tail_lay
tail_on {is = is} t a e b = record { to = end_after (tail_lay is) (λ w num v r. refl) t (is_done a e) b }

pub labelled_on : (count : ℕ) {is : List ℕ} {O : List Word} {k : ℕ} {B Q : List ℕ} {q : ℕ} {query : Bool} (f : ℕ) {O₁ O' : List Word} {Q' : List ℕ} {z : Result Vars Unwritten} → Tables B Q O k q → f < length B → Emits O k (Num f) O₁ → Parted (count + 1) is (tail_lay is) O₁ (k + 1) B Q q query O' Q' z → Parted (count + 2) is (labelled_lay f is) O k B Q q query O' Q' z
unfolding labelled_lay tail_lay number_lay
labelled_on count {is} {query = query} f t h a b = word_then query (count + 2) (number_lay f) (labelled_lay f is) (omega arith) t tt (λ w num v r s. ap (λ (n : ℕ). Num n ∷ r) (sym (s.back f h))) (λ w num v r. refl) a b

pub called_on : (count : ℕ) {is : List ℕ} {O : List Word} {k : ℕ} {B Q : List ℕ} {q : ℕ} {query : Bool} (p : ℕ) {O₁ O' : List Word} {Q' : List ℕ} {z : Result Vars Unwritten} → Tables B Q O k q → Emits O k (Inner Call) O₁ → Parted (count + 2) is (labelled_lay p is) O₁ (k + 1) B Q q query O' Q' z → Parted (count + 3) is (call_lay p is) O k B Q q query O' Q' z
unfolding call_lay labelled_lay
called_on count {is} {query = query} p t a b = word_then query (count + 3) (λ w num v r. Inner Call ∷ r) (call_lay p is) (omega arith) t tt (λ w num v r s. refl) (λ w num v r. refl) a b

pub same_on : {O : List Word} {k : ℕ} {B Q : List ℕ} {q : ℕ} {query : Bool} {x y : ℕ} {O₁ : List Word} {Q₁ : List ℕ} {z : Result Vars Unwritten} {v : Vars} {O₂ : List Word} {Q₂ : List ℕ} {z₂ : Result Vars Unwritten} → Parted 2 (x ∷ []) (lead_lay Eq x) O k B Q q query O₁ Q₁ z → z ≡ Ok v → Parted 2 (y ∷ []) (last_lay y) O₁ v.out B Q₁ v.known query O₂ Q₂ z₂ → (r : Result Vars Unwritten) → r ≡ or_vars v.free z₂ → Parted 4 (x ∷ y ∷ []) (same_lay x y) O k B Q q query O₂ Q₂ r
unfolding same_lay lead_lay last_lay
same_on {x = x} {y = y} a e b r g = or_then 4 (same_lay x y) refl (λ w num v r. refl) (is_done a e) b r g

pub made_on : (count : ℕ) {is : List ℕ} {O : List Word} {k : ℕ} {B Q : List ℕ} {q : ℕ} {query : Bool} {x : ℕ} (l : ℕ) {O₁ : List Word} {Q₁ : List ℕ} {z : Result Vars Unwritten} {v : Vars} {O₂ : List Word} {Q₂ : List ℕ} {z₂ : Result Vars Unwritten} → Parted 2 (x ∷ []) (lead_lay App x) O k B Q q query O₁ Q₁ z → z ≡ Ok v → Parted (count + 2) is (labelled_lay l is) O₁ v.out B Q₁ v.known query O₂ Q₂ z₂ → (r : Result Vars Unwritten) → r ≡ or_vars v.free z₂ → Parted (count + 4) (x ∷ is) (made_lay x l is) O k B Q q query O₂ Q₂ r
unfolding made_lay lead_lay labelled_lay
made_on count {is} {x = x} l a e b r g = or_then (count + 4) (made_lay x l is) (omega arith) (λ w num v r. refl) (is_done a e) b r g

-- what `variable` and `variables` answer is an error
pub err_vars : (m : ℕ) (is : List ℕ) (lay' : Lay) (O : List Word) (k : ℕ) (B Q : List ℕ) (q : ℕ) (query : Bool) (O' : List Word) (Q' : List ℕ) → length is ≤ m → (x : Unwritten) → VarsTo is O k B Q q query O' Q' (Err x) → Parted m is lay' O k B Q q query O' Q' (Err x)
err_vars m is lay' O k B Q q query O' Q' h Many a = record { to = many_vars a }
err_vars m is lay' O k B Q q query O' Q' h Full a = record { to = omega (arith, a.full) }

-- the answer is an error, and so is that for the words with others behind them
pub is_err : {n : ℕ} {is : List ℕ} {lay : Lay} (m : ℕ) (js : List ℕ) (lay' : Lay) {O : List Word} {k : ℕ} {B Q : List ℕ} {q : ℕ} {query : Bool} {O' : List Word} {Q' : List ℕ} {z : Result Vars Unwritten} (x : Unwritten) → n ≤ m → Parted n is lay O k B Q q query O' Q' z → z ≡ Err x → Parted m (is ++ js) lay' O k B Q q query O' Q' (Err x)
is_err m js lay' Many h a e = record { to = many_before js (is_many a e) }
is_err m js lay' Full h a e = record { to = omega (arith, is_full a e) }

-- the tables after one word
pub tables_word : {B Q : List ℕ} {O : List Word} {k q : ℕ} {x : Word} {O' : List Word} → Tables B Q O k q → Emits O k x O' → Tables B Q O' (k + 1) q
tables_word t e = record { cells = t.cells; order = t.order; most = t.most; used = t.used; out = omega (arith, e.room, e.stored.long) }

pub can_var : {B Q : List ℕ} {O : List Word} {k q id : ℕ} → Tables B Q O k q → id < length B → CanVar id B Q q
can_var t h = record { name = h; small = omega (arith, t.cells); order = t.order; few = t.most; known = t.used }

pub can_vars : {L B Q : List ℕ} {O : List Word} {k q first count : ℕ} → Tables B Q O k q → Inside L B first count → CanVars L first count O k B Q q
can_vars t i = record { inside = i.inside; names = i.names; room = t.out; order = t.order; few = t.most; known = t.used }

-- a constraint's words are those that the functions write
pub con_bare_true : (L : List ℕ) {O : List Word} {k : ℕ} {B Q : List ℕ} {q : ℕ} {query : Bool} {O' : List Word} {Q' : List ℕ} {z : Result Vars Unwritten} → Parted 2 [] (bare_lay True) O k B Q q query O' Q' z → Parted 2 [] (con_lay L kind.True) O k B Q q query O' Q' z
unfolding con_lay bare_lay con_words
con_bare_true L a = to_same (con_lay L kind.True) (λ w num v r. refl) a

pub con_bare_fail : (L : List ℕ) {O : List Word} {k : ℕ} {B Q : List ℕ} {q : ℕ} {query : Bool} {O' : List Word} {Q' : List ℕ} {z : Result Vars Unwritten} → Parted 2 [] (bare_lay Fail) O k B Q q query O' Q' z → Parted 2 [] (con_lay L kind.Fail) O k B Q q query O' Q' z
unfolding con_lay bare_lay con_words
con_bare_fail L a = to_same (con_lay L kind.Fail) (λ w num v r. refl) a

pub con_same : (L : List ℕ) {x y : ℕ} {O : List Word} {k : ℕ} {B Q : List ℕ} {q : ℕ} {query : Bool} {O' : List Word} {Q' : List ℕ} {z : Result Vars Unwritten} → Parted 4 (x ∷ y ∷ []) (same_lay x y) O k B Q q query O' Q' z → Parted 4 (x ∷ y ∷ []) (con_lay L (Same x y)) O k B Q q query O' Q' z
unfolding con_lay same_lay con_words
con_same L {x} {y} a = to_same (con_lay L (Same x y)) (λ w num v r. refl) a

pub con_made : (L : List ℕ) {x : ℕ} (f first count : ℕ) {O : List Word} {k : ℕ} {B Q : List ℕ} {q : ℕ} {query : Bool} {O' : List Word} {Q' : List ℕ} {z : Result Vars Unwritten} → Parted (count + 4) (x ∷ ids L count first) (made_lay x f (ids L count first)) O k B Q q query O' Q' z → Parted (count + 4) (x ∷ ids L count first) (con_lay L (Made x f first count)) O k B Q q query O' Q' z
unfolding con_lay made_lay con_words
con_made L {x} f first count a = to_same (con_lay L (Made x f first count)) (λ w num v r. ap (λ (l : List Name). Inner App ∷ var_word (v (w x)) ∷ Num (num (w f)) ∷ vars_words (map v l) (End ∷ r)) (sym (names_ids count w L first))) a

pub con_as : (L : List ℕ) {a : Constraint} (b : Constraint) {O : List Word} {k : ℕ} {B Q : List ℕ} {q : ℕ} {query : Bool} {O' : List Word} {Q' : List ℕ} {z : Result Vars Unwritten} → a ≡ b → Parted (size_of b) (vars_of L b) (con_lay L b) O k B Q q query O' Q' z → Parted (size_of a) (vars_of L a) (con_lay L a) O k B Q q query O' Q' z
con_as L {a} b {O} {k} {B} {Q} {q} {query} {O'} {Q'} {z} e p = subst (λ (c : Constraint). Parted (size_of c) (vars_of L c) (con_lay L c) O k B Q q query O' Q' z) (sym e) p
