-- What writing the words of variables promises, and how two such writings join. Variables are numbers of names; w spells
-- them. Assumes nothing.
use Rattle.std.specs.Prelude.{◌≡◌, refl, Result, Ok, Err, List, [], ◌∷◌, ◌++◌, map, Bool, true, false, ◌||◌, not, ℕ, zero, suc, ◌+◌, ◌-◌, ◌*◌, ◌/◌, ◌<◌, ◌≤◌, length, get_or, take, drop}
use Rattle.std.proofs.Common.{ap, ap₂, sym, ◌∙◌, subst, append_assoc, arith, length-append, ext_get_or, length-take-le, get_or-take, take-add}
use Rattle.std.proofs.lemmas.List.{map-append}
use Rattle.std.proofs.Math.Option.{some}
use Rattle.constraint.specs.Constraint.{In}
use Rattle.akl.specs.Base.{Name, any, flat, once, size, among, if}
use Rattle.akl.specs.Syntax.{Var}
use Rattle.akl.specs.Reader.{variable_of, not_bound, unbound}
use Rattle.mem_words.specs.declared.Word.{Word}
use Rattle.layout.specs.Layout.{vars_words}
use Rattle.read_scopes.specs.Scopes.{Bound}
use Rattle.read_lookups.specs.Places.{ids, ids_none, ids_more, length_ids}
use Rattle.read_emits.specs.Out.{Wrote, wrote_none, wrote_then, wrote_same, wrote_to}
use Rattle.read_varwords.specs.Names.{once_append, flat_append, any_append, vars_append, size_once, once_none}
use Rattle.read_varwords.specs.declared.Vars.{Vars}
use Rattle.read_varwords.specs.declared.Unwritten.{Unwritten}
use Rattle.read_varwords.specs.declared.Unwritten.TheVariants.{Many, Full}

-- w spells the names of the table B apart, and the names E are what B says is bound
pub record Spells (w : ℕ → Name) (B E : List ℕ) : Type 0 where
  pub bound : Bound B E
  pub inner : (x : ℕ) → In x E → x < length B
  pub apart : (i j : ℕ) → i < length B → j < length B → w i ≡ w j → i ≡ j

-- the first q numbers of Q are names of the table B
pub record Below (B Q : List ℕ) (q : ℕ) : Type 0 where
  pub each : (i : ℕ) → i < q → get_or Q i 0 < length B

-- the words of the variable id may be written
pub record CanVar (id : ℕ) (B Q : List ℕ) (q : ℕ) : Type 0 where
  pub name : id < length B
  pub small : id < 65536
  pub order : 16 ≤ length Q
  pub few : q ≤ 16
  pub known : Below B Q q

-- those of a list may be written
pub record CanVars (L : List ℕ) (first count : ℕ) (O : List Word) (k : ℕ) (B Q : List ℕ) (q : ℕ) : Type 0 where
  pub inside : 0 < count → first + 2 * count ≤ length L + 1
  pub names : (j : ℕ) → j < count → get_or L (first + 2 * j) 0 / 256 < length B
  pub room : k ≤ length O
  pub order : 16 ≤ length Q
  pub few : q ≤ 16
  pub known : Below B Q q

-- in a query the names that are not bound are known by their first occurrence; names that become known later change no word
pub record InQuery (w : ℕ → Name) (E : List ℕ) (is : List ℕ) (O : List Word) (k : ℕ) (Q : List ℕ) (q : ℕ) (O' : List Word) (k' : ℕ) (Q' : List ℕ) (q' : ℕ) : Type 0 where
  pub known : map w (take q' Q') ≡ once (map w (take q Q)) (not_bound (map w E) (map w is))
  pub wrote : (qs : List Name) → Wrote O k O' k' (vars_words (map (variable_of (map w (take q' Q') ++ qs) (map w E)) (map w is)))

-- in a program free says whether a name is not bound
pub record InProgram (w : ℕ → Name) (E : List ℕ) (is : List ℕ) (O : List Word) (k : ℕ) (O' : List Word) (k' : ℕ) (free : Bool) : Type 0 where
  pub unbound : free ≡ unbound (some (map w E)) (map w is)
  pub wrote : Wrote O k O' k' (vars_words (map (variable_of [] (map w E)) (map w is)))

-- the words of the variables `is` were written
pub record VarsDone (is : List ℕ) (O : List Word) (k : ℕ) (B Q : List ℕ) (q : ℕ) (query : Bool) (O' : List Word) (Q' : List ℕ) (k' q' : ℕ) (free : Bool) : Type 0 where
  pub at : k' ≡ k + length is
  pub inside : k' ≤ length O'
  pub long : length O' ≡ length O
  pub more : q ≤ q'
  pub few : q' ≤ 16
  pub known : Below B Q' q'
  pub older : (i : ℕ) → i < q → get_or Q' i 0 ≡ get_or Q i 0
  pub long_q : length Q' ≡ length Q
  pub asked : query ≡ true → free ≡ false
  pub asks : query ≡ true → (w : ℕ → Name) (E : List ℕ) → Spells w B E → InQuery w E is O k Q q O' k' Q' q'
  pub keeps : query ≡ false → q' ≡ q
  pub keeps_q : query ≡ false → Q' ≡ Q
  pub tells : query ≡ false → (w : ℕ → Name) (E : List ℕ) → Spells w B E → InProgram w E is O k O' k' free

-- the query has more than 16 variables
pub record VarsMany (is : List ℕ) (O : List Word) (B Q : List ℕ) (q : ℕ) (query : Bool) (O' : List Word) (Q' : List ℕ) : Type 0 where
  pub asks : query ≡ true
  pub many : (w : ℕ → Name) (E : List ℕ) → Spells w B E → 16 < size (once (map w (take q Q)) (not_bound (map w E) (map w is)))
  pub long : length O' ≡ length O
  pub long_q : length Q' ≡ length Q

-- there is no room for the words
pub record VarsFull (is : List ℕ) (O : List Word) (k : ℕ) (Q : List ℕ) (O' : List Word) (Q' : List ℕ) : Type 0 where
  pub full : length O < k + length is
  pub long : length O' ≡ length O
  pub long_q : length Q' ≡ length Q

-- What writing the words of the variables `is` promises of its answer.
abbrev pub VarsTo : List ℕ → List Word → ℕ → List ℕ → List ℕ → ℕ → Bool → List Word → List ℕ → Result Vars Unwritten → Type 0
VarsTo is O k B Q q query O' Q' (Ok v) = VarsDone is O k B Q q query O' Q' v.out v.known v.free
VarsTo is O k B Q q query O' Q' (Err Many) = VarsMany is O B Q q query O' Q'
VarsTo is O k B Q q query O' Q' (Err Full) = VarsFull is O k Q O' Q'

-- ---------------------------------------------------------------------------------------------
-- No variables.

pub vars_none : (O : List Word) (k : ℕ) (B Q : List ℕ) (q : ℕ) (query : Bool) → k ≤ length O → q ≤ 16 → Below B Q q → VarsDone [] O k B Q q query O Q k q false
unfolding vars_words flat any
vars_none O k B Q q query h f b =
    record {
      at = omega arith;
      inside = h;
      long = refl;
      more = omega arith;
      few = f;
      known = b;
      older = λ i l. refl;
      long_q = refl;
      asked = λ e. refl;
      asks = λ e w E s. record { known = sym (once_none (map w (take q Q))); wrote = λ qs. wrote_none h };
      keeps = λ e. refl;
      keeps_q = λ e. refl;
      tells = λ e w E s. record { unbound = refl; wrote = wrote_none h };
    }

-- ---------------------------------------------------------------------------------------------
-- Two lists, one after the other.

-- the names known before are the first of those known after
pub begins : (w : ℕ → Name) (Q Q' : List ℕ) (q q' : ℕ) → q ≤ length Q → length Q' ≡ length Q → q ≤ q' → ((i : ℕ) → i < q → get_or Q' i 0 ≡ get_or Q i 0) → (rest : List Name) × (map w (take q' Q') ≡ map w (take q Q) ++ rest)
begins w Q Q' q q' h l g f =
    let z : q' ≡ q + (q' - q) = omega arith in
    let a : length (take q Q') ≡ q = length-take-le q Q' (omega arith) in
    let e : take q Q' ≡ take q Q = ext_get_or 0 (take q Q') (take q Q) (a ∙ sym (length-take-le q Q h)) (λ i d. get_or-take q Q' i 0 (omega arith) ∙ f i (omega arith) ∙ sym (get_or-take q Q i 0 (omega arith))) in (
      map w (take (q' - q) (drop q Q')),
      ap (λ (n : ℕ). map w (take n Q')) z
          ∙ ap (map w) (take-add q (q' - q) Q' ∙ ap (λ (t : List ℕ). t ++ take (q' - q) (drop q Q')) e)
          ∙ map-append w (take q Q) (take (q' - q) (drop q Q')),
    )

-- names that become known later change no word
pub query_later : {w : ℕ → Name} {E is : List ℕ} {O : List Word} {k : ℕ} {Q : List ℕ} {q : ℕ} {O' : List Word} {k' : ℕ} {Q' : List ℕ} {q' : ℕ} (Q'' : List ℕ) (q'' : ℕ) → InQuery w E is O k Q q O' k' Q' q' → q' ≤ length Q' → length Q'' ≡ length Q' → q' ≤ q'' → ((i : ℕ) → i < q' → get_or Q'' i 0 ≡ get_or Q' i 0) → (qs : List Name) → Wrote O k O' k' (vars_words (map (variable_of (map w (take q'' Q'') ++ qs) (map w E)) (map w is)))
query_later {w} {E} {is} {O} {k} {Q} {q} {O'} {k'} {Q'} {q'} Q'' q'' p h l g f qs =
    let n = begins w Q' Q'' q' q'' h l g f in
    let z : map w (take q' Q') ++ (n.0 ++ qs) ≡ map w (take q'' Q'') ++ qs = sym (append_assoc (map w (take q' Q')) n.0 qs) ∙ ap (λ (t : List Name). t ++ qs) (sym n.1) in
    subst (λ (t : List Name). Wrote O k O' k' (vars_words (map (variable_of t (map w E)) (map w is)))) z (p.wrote (n.0 ++ qs))

or_false : (a b : Bool) → a ≡ false → b ≡ false → a || b ≡ false
or_false a b p q = ap₂ ◌||◌ p q

-- the words of a list of both, and the names known after it
words_both : (is js : List ℕ) (w : ℕ → Name) (v : Name → Var) (r : List Word) → vars_words (map v (map w is)) (vars_words (map v (map w js)) r) ≡ vars_words (map v (map w (is ++ js))) r
words_both is js w v r = sym (vars_append (map v (map w is)) (map v (map w js)) r) ∙ ap (λ (l : List Var). vars_words l r) (sym (map-append v (map w is) (map w js)) ∙ ap (map v) (sym (map-append w is js)))

once_both : (is js : List ℕ) (w : ℕ → Name) (bs seen : List Name) → once (once seen (not_bound bs (map w is))) (not_bound bs (map w js)) ≡ once seen (not_bound bs (map w (is ++ js)))
once_both is js w bs seen = sym (once_append (not_bound bs (map w is)) seen (not_bound bs (map w js))) ∙ ap (once seen) (sym (flat_append (λ (x : Name). if (among x bs) [] (x ∷ [])) (map w is) (map w js)) ∙ ap (not_bound bs) (sym (map-append w is js)))

module _ {is js : List ℕ} {O : List Word} {k : ℕ} {B Q : List ℕ} {q : ℕ} {query : Bool} {O₁ : List Word} {Q₁ : List ℕ} {k₁ q₁ : ℕ} {f₁ : Bool} (a : VarsDone is O k B Q q query O₁ Q₁ k₁ q₁ f₁) where
  pub vars_then : {O₂ : List Word} {Q₂ : List ℕ} {k₂ q₂ : ℕ} {f₂ : Bool} → 16 ≤ length Q → VarsDone js O₁ k₁ B Q₁ q₁ query O₂ Q₂ k₂ q₂ f₂ → VarsDone (is ++ js) O k B Q q query O₂ Q₂ k₂ q₂ (f₁ || f₂)
  vars_then {O₂} {Q₂} {k₂} {q₂} {f₂} big b =
      record {
        at = omega (arith, a.at, b.at, length-append is js);
        inside = b.inside;
        long = b.long ∙ a.long;
        more = omega (arith, a.more, b.more);
        few = b.few;
        known = b.known;
        older = λ i l. b.older i (omega (arith, a.more)) ∙ a.older i l;
        long_q = b.long_q ∙ a.long_q;
        asked = λ e. or_false f₁ f₂ (a.asked e) (b.asked e);
        asks = λ e w E s.
            let p = a.asks e w E s in
            let n = b.asks e w E s in
            record {
              known = n.known ∙ ap (λ (t : List Name). once t (not_bound (map w E) (map w js))) p.known ∙ once_both is js w (map w E) (map w (take q Q));
              wrote = λ qs. wrote_same (λ r. words_both is js w (variable_of (map w (take q₂ Q₂) ++ qs) (map w E)) r) (wrote_then (query_later Q₂ q₂ p (omega (arith, a.few, a.long_q)) b.long_q b.more b.older qs) (n.wrote qs));
            };
        keeps = λ e. b.keeps e ∙ a.keeps e;
        keeps_q = λ e. b.keeps_q e ∙ a.keeps_q e;
        tells = λ e w E s.
            let p = a.tells e w E s in
            let n = b.tells e w E s in
            record {
              unbound =
                  ap₂ ◌||◌ p.unbound n.unbound
                  ∙ sym (any_append (λ (x : Name). not (among x (map w E))) (map w is) (map w js))
                  ∙ ap (any (λ (x : Name). not (among x (map w E)))) (sym (map-append w is js));
              wrote = wrote_same (λ r. words_both is js w (variable_of [] (map w E)) r) (wrote_then p.wrote n.wrote);
            };
      }

  -- too many, or no room, at the second list; whatever follows it
  pub vars_many : {O₂ : List Word} {Q₂ : List ℕ} → VarsMany js O₁ B Q₁ q₁ query O₂ Q₂ → VarsMany (is ++ js) O B Q q query O₂ Q₂
  vars_many {O₂} {Q₂} m =
      record {
        asks = m.asks;
        many = λ w E s. subst (λ (t : List Name). 16 < size t) (ap (λ (t : List Name). once t (not_bound (map w E) (map w js))) (a.asks m.asks w E s).known ∙ once_both is js w (map w E) (map w (take q Q))) (m.many w E s);
        long = m.long ∙ a.long;
        long_q = m.long_q ∙ a.long_q;
      }

  pub vars_full : {O₂ : List Word} {Q₂ : List ℕ} → VarsFull js O₁ k₁ Q₁ O₂ Q₂ → VarsFull (is ++ js) O k Q O₂ Q₂
  vars_full {O₂} {Q₂} m = record { full = omega (arith, a.at, m.full, a.long, length-append is js); long = m.long ∙ a.long; long_q = m.long_q ∙ a.long_q }

-- and whatever list follows
pub many_before : {is : List ℕ} (js : List ℕ) {O : List Word} {B Q : List ℕ} {q : ℕ} {query : Bool} {O' : List Word} {Q' : List ℕ} → VarsMany is O B Q q query O' Q' → VarsMany (is ++ js) O B Q q query O' Q'
many_before {is} js {O} {B} {Q} {q} {query} {O'} {Q'} m =
    record {
      asks = m.asks;
      many = λ w E s.
          let bs : List Name = map w E in
          let g = size_once (not_bound bs (map w js)) (once (map w (take q Q)) (not_bound bs (map w is))) in
          let h = m.many w E s in
          subst (λ (t : List Name). 16 < size t) (once_both is js w bs (map w (take q Q))) (omega arith);
      long = m.long;
      long_q = m.long_q;
    }

pub full_before : {is : List ℕ} (js : List ℕ) {O : List Word} {k : ℕ} {Q : List ℕ} {O' : List Word} {Q' : List ℕ} → VarsFull is O k Q O' Q' → VarsFull (is ++ js) O k Q O' Q'
full_before {is} js m = record { full = omega (arith, m.full, length-append is js); long = m.long; long_q = m.long_q }

-- ---------------------------------------------------------------------------------------------
-- The names of a list of tokens.

ids_split : (a : ℕ) (L : List ℕ) (b i : ℕ) → ids L (a + b) i ≡ ids L a i ++ ids L b (i + 2 * a)
unfolding ids
ids_split zero L b i =
    let y : zero + b ≡ b = omega arith in
    let z : i ≡ i + 2 * 0 = omega arith in
    ap (λ (n : ℕ). ids L n i) y ∙ ap (ids L b) z
ids_split (suc a) L b i =
    let y : suc a + b ≡ suc (a + b) = omega arith in
    let z : i + 2 + 2 * a ≡ i + 2 * suc a = omega arith in
    ap (λ (n : ℕ). ids L n i) y ∙ ap (λ (l : List ℕ). get_or L i 0 / 256 ∷ l) (ids_split a L b (i + 2) ∙ ap (λ (n : ℕ). ids L a (i + 2) ++ ids L b n) z)

-- the first j names, one more, and the rest
ids_around : (L : List ℕ) (first j count id : ℕ) → j < count → id ≡ get_or L (first + 2 * j) 0 / 256 → (ids L j first ++ (id ∷ [])) ++ ids L (count - (j + 1)) (first + 2 * (j + 1)) ≡ ids L count first
ids_around L first j count id h e =
    let z : j + 1 + (count - (j + 1)) ≡ count = omega arith in
    ap (λ (x : ℕ). (ids L j first ++ (x ∷ [])) ++ ids L (count - (j + 1)) (first + 2 * (j + 1))) e
    ∙ ap (λ (l : List ℕ). l ++ ids L (count - (j + 1)) (first + 2 * (j + 1))) (sym (ids_more L j first))
    ∙ sym (ids_split (j + 1) L (count - (j + 1)) first)
    ∙ ap (λ (n : ℕ). ids L n first) z

pub vars_start : (L : List ℕ) (first : ℕ) {O : List Word} {k : ℕ} {B Q : List ℕ} {q : ℕ} {query : Bool} → k ≤ length O → q ≤ 16 → Below B Q q → VarsDone (ids L 0 first) O k B Q q query O Q k q false
vars_start L first {O} {k} {B} {Q} {q} {query} h f b = subst (λ (l : List ℕ). VarsDone l O k B Q q query O Q k q false) (sym (ids_none L first)) (vars_none O k B Q q query h f b)

module _ (L : List ℕ) (first j : ℕ) {O : List Word} {k : ℕ} {B Q : List ℕ} {q : ℕ} {query : Bool} {O₁ : List Word} {Q₁ : List ℕ} {k₁ q₁ : ℕ} {f₁ : Bool} (a : VarsDone (ids L j first) O k B Q q query O₁ Q₁ k₁ q₁ f₁) {id : ℕ} (e : id ≡ get_or L (first + 2 * j) 0 / 256) where
  -- one name more
  pub vars_more : {O₂ : List Word} {Q₂ : List ℕ} {k₂ q₂ : ℕ} {f₂ : Bool} (f : Bool) → 16 ≤ length Q → VarsDone (id ∷ []) O₁ k₁ B Q₁ q₁ query O₂ Q₂ k₂ q₂ f₂ → f₁ || f₂ ≡ f → VarsDone (ids L (j + 1) first) O k B Q q query O₂ Q₂ k₂ q₂ f
  vars_more {O₂} {Q₂} {k₂} {q₂} {f₂} f big b z =
      subst (λ (l : List ℕ). VarsDone l O k B Q q query O₂ Q₂ k₂ q₂ f) (ap (λ (x : ℕ). ids L j first ++ (x ∷ [])) e ∙ sym (ids_more L j first)) (subst (λ (g : Bool). VarsDone (ids L j first ++ (id ∷ [])) O k B Q q query O₂ Q₂ k₂ q₂ g) z (vars_then a big b))

  pub vars_many_at : {O₂ : List Word} {Q₂ : List ℕ} (count : ℕ) → j < count → VarsMany (id ∷ []) O₁ B Q₁ q₁ query O₂ Q₂ → VarsMany (ids L count first) O B Q q query O₂ Q₂
  vars_many_at {O₂} {Q₂} count h m = subst (λ (l : List ℕ). VarsMany l O B Q q query O₂ Q₂) (ids_around L first j count id h e) (many_before (ids L (count - (j + 1)) (first + 2 * (j + 1))) (vars_many a m))

  pub vars_full_at : {O₂ : List Word} {Q₂ : List ℕ} (count : ℕ) → j < count → VarsFull (id ∷ []) O₁ k₁ Q₁ O₂ Q₂ → VarsFull (ids L count first) O k Q O₂ Q₂
  vars_full_at {O₂} {Q₂} count h m = subst (λ (l : List ℕ). VarsFull l O k Q O₂ Q₂) (ids_around L first j count id h e) (full_before (ids L (count - (j + 1)) (first + 2 * (j + 1))) (vars_full a m))

  pub vars_err_at : (O₂ : List Word) (Q₂ : List ℕ) (count : ℕ) → j < count → (x : Unwritten) → VarsTo (id ∷ []) O₁ k₁ B Q₁ q₁ query O₂ Q₂ (Err x) → VarsTo (ids L count first) O k B Q q query O₂ Q₂ (Err x)
  vars_err_at O₂ Q₂ count h Many m = vars_many_at count h m
  vars_err_at O₂ Q₂ count h Full m = vars_full_at count h m

pub vars_all : (L : List ℕ) (first j count : ℕ) {O : List Word} {k : ℕ} {B Q : List ℕ} {q : ℕ} {query : Bool} {O' : List Word} {Q' : List ℕ} {k' q' : ℕ} {free : Bool} → VarsDone (ids L j first) O k B Q q query O' Q' k' q' free → j ≡ count → VarsDone (ids L count first) O k B Q q query O' Q' k' q' free
vars_all L first j count {O} {k} {B} {Q} {q} {query} {O'} {Q'} {k'} {q'} {free} a e = subst (λ (n : ℕ). VarsDone (ids L n first) O k B Q q query O' Q' k' q' free) e a

-- where the words of the list end, and how many had no room
pub vars_at : (L : List ℕ) (first count : ℕ) {O : List Word} {k : ℕ} {B Q : List ℕ} {q : ℕ} {query : Bool} {O' : List Word} {Q' : List ℕ} {k' q' : ℕ} {free : Bool} → VarsDone (ids L count first) O k B Q q query O' Q' k' q' free → k' ≡ k + count
vars_at L first count a = omega (arith, a.at, length_ids L count first)

pub vars_short : (L : List ℕ) (first count : ℕ) {O : List Word} {k : ℕ} {Q : List ℕ} {O' : List Word} {Q' : List ℕ} → VarsFull (ids L count first) O k Q O' Q' → length O < k + count
vars_short L first count a = omega (arith, a.full, length_ids L count first)
