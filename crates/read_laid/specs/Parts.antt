-- Words written one after another, some of them those of variables. `is` are the numbers of the variables' names, in order;
-- `lay` says what the words are, once the variables are known. Assumes nothing.
use Rattle.std.specs.Prelude.{◌≡◌, refl, Result, Ok, Err, List, ◌∷◌, ◌++◌, map, [], Bool, true, false, not, ◌||◌, ℕ, ◌+◌, ◌*◌, ◌/◌, ◌<◌, ◌≤◌, length, get_or, take}
use Rattle.std.proofs.Common.{ap, ap₂, sym, ◌∙◌, subst, arith}
use Rattle.std.proofs.lemmas.List.{map-append}
use Rattle.std.proofs.Math.Option.{some}
use Rattle.akl.specs.Base.{Name, any, flat, once, size, among, if}
use Rattle.akl.specs.Syntax.{Var}
use Rattle.akl.specs.Reader.{variable_of, not_bound, unbound}
use Rattle.mem_words.specs.declared.Word.{Word}
use Rattle.layout.specs.Layout.{vars_words}
use Rattle.read_emits.specs.Out.{Solid, Wrote, wrote_then, wrote_same, wrote_word}
use Rattle.read_varwords.specs.Names.{once_append, flat_append, any_append, size_once}
use Rattle.read_emits.specs.TheirContracts.{Emits}
use Rattle.read_varwords.specs.Vars.{Spells, Below, VarsDone, VarsMany}
use Rattle.read_varwords.specs.declared.Vars.{Vars}
use Rattle.read_varwords.specs.declared.Unwritten.{Unwritten}
use Rattle.read_varwords.specs.declared.Unwritten.TheVariants.{Many, Full}
use Rattle.read_pieces.specs.Effect.{Final, Numbered, final_back}
use Rattle.read_pieces.specs.Reads.{Spelling, bound}

-- the words put before those that follow, by the spelling, the numbers of names and the variables
abbrev pub Lay : Type 0
Lay = (ℕ → Name) → (Name → ℕ) → (Name → Var) → List Word → List Word

-- the tables that words are written to and variables looked up in
pub record Tables (B Q : List ℕ) (O : List Word) (k q : ℕ) : Type 0 where
  pub cells : length B ≤ 65536
  pub order : 16 ≤ length Q
  pub most : q ≤ 16
  pub used : Below B Q q
  pub out : k ≤ length O

-- the `count` names at every second token from `first` on are names of the table B
pub record Inside (L B : List ℕ) (first count : ℕ) : Type 0 where
  pub inside : 0 < count → first + 2 * count ≤ length L + 1
  pub names : (j : ℕ) → j < count → get_or L (first + 2 * j) 0 / 256 < length B

-- the new variables of a query, the words, and whether one is not bound
pub record Said (is : List ℕ) (lay : List Name → List Word → List Word) (w : ℕ → Name) (E : List ℕ) (O : List Word) (k : ℕ) (Q : List ℕ) (q : ℕ) (query : Bool) (O' : List Word) (Q' : List ℕ) (k' q' : ℕ) (free : Bool) : Type 0 where
  pub names : Numbered query (map w (take q Q)) (not_bound (map w E) (map w is)) (map w (take q' Q'))
  pub words : (qs : List Name) → Final query (map w (take q' Q')) qs → Wrote O k O' k' (lay qs)
  pub unbound : free ≡ unbound (bound query (map w E)) (map w is)

-- n words were written
pub record Part (n : ℕ) (is : List ℕ) (lay : Lay) (O : List Word) (k : ℕ) (B Q : List ℕ) (q : ℕ) (query : Bool) (O' : List Word) (Q' : List ℕ) (k' q' : ℕ) (free : Bool) : Type 0 where
  pub at : k' ≡ k + n
  pub inside : k' ≤ length O'
  pub long : length O' ≡ length O
  pub more : q ≤ q'
  pub few : q' ≤ 16
  pub known : Below B Q' q'
  pub long_q : length Q' ≡ length Q
  pub says : (w : ℕ → Name) (num : Name → ℕ) (E : List ℕ) → Spelling w num (length B) → Spells w B E → Said is (λ qs. lay w num (variable_of qs (map w E))) w E O k Q q query O' Q' k' q' free

-- the query has too many variables
pub record TooMany (is B Q : List ℕ) (q : ℕ) (query : Bool) : Type 0 where
  pub asks : query ≡ true
  pub many : (w : ℕ → Name) (num : Name → ℕ) (E : List ℕ) → Spelling w num (length B) → Spells w B E → 16 < size (once (map w (take q Q)) (not_bound (map w E) (map w is)))

abbrev pub PartTo : ℕ → List ℕ → Lay → List Word → ℕ → List ℕ → List ℕ → ℕ → Bool → List Word → List ℕ → Result Vars Unwritten → Type 0
PartTo n is lay O k B Q q query O' Q' (Ok v) = Part n is lay O k B Q q query O' Q' v.out v.known v.free
PartTo n is lay O k B Q q query O' Q' (Err Many) = TooMany is B Q q query
PartTo n is lay O k B Q q query O' Q' (Err Full) = length O < k + n

-- What a function that writes such words promises of its answer.
pub record Parted (n : ℕ) (is : List ℕ) (lay : Lay) (O : List Word) (k : ℕ) (B Q : List ℕ) (q : ℕ) (query : Bool) (O' : List Word) (Q' : List ℕ) (r : Result Vars Unwritten) : Type 0 where
  pub to : PartTo n is lay O k B Q q query O' Q' r

-- ---------------------------------------------------------------------------------------------
-- One word, and the words of variables.

pub unbound_none : (query : Bool) (bs : List Name) → false ≡ unbound (bound query bs) []
unfolding any
unbound_none true bs = refl
unbound_none false bs = refl

none_new : (query : Bool) (bs ps : List Name) → Numbered query ps (not_bound bs []) ps
unfolding flat once
none_new true bs ps = refl
none_new false bs ps = refl

-- a word that is written as it is for every spelling
pub part_word : {O : List Word} {k : ℕ} {x : Word} {O' : List Word} {B Q : List ℕ} {q : ℕ} (query : Bool) (lay : Lay) → Tables B Q O k q → Solid x → ((w : ℕ → Name) (num : Name → ℕ) (v : Name → Var) (r : List Word) → Spelling w num (length B) → x ∷ r ≡ lay w num v r) → Emits O k x O' → Part 1 [] lay O k B Q q query O' Q (k + 1) q false
part_word {O} {k} {x} {O'} {B} {Q} {q} query lay t s h e =
    record {
      at = refl;
      inside = omega (arith, e.room, e.stored.long);
      long = e.stored.long;
      more = omega arith;
      few = t.most;
      known = t.used;
      long_q = refl;
      says = λ w num E sp ss.
          record {
            names = none_new query (map w E) (map w (take q Q));
            words = λ qs f. wrote_same (λ r. h w num (variable_of qs (map w E)) r sp) (wrote_word e.room s e.stored);
            unbound = unbound_none query (map w E);
          };
    }

-- the words of the variables `is`
abbrev pub vars_lay : List ℕ → Lay
vars_lay is w num v r = vars_words (map v (map w is)) r

pub part_vars : {n : ℕ} {is : List ℕ} {O : List Word} {k : ℕ} {B Q : List ℕ} {q : ℕ} (query : Bool) {O' : List Word} {Q' : List ℕ} {k' q' : ℕ} {free : Bool} → length is ≡ n → VarsDone is O k B Q q query O' Q' k' q' free → Part n is (vars_lay is) O k B Q q query O' Q' k' q' free
part_vars {n} {is} {O} {k} {B} {Q} {q} query {O'} {Q'} {k'} {q'} {free} l a =
    record {
      at = omega (arith, a.at);
      inside = a.inside;
      long = a.long;
      more = a.more;
      few = a.few;
      known = a.known;
      long_q = a.long_q;
      says = λ w num E sp ss. go query refl w E ss;
    }
  where
    go : (b : Bool) → query ≡ b → (w : ℕ → Name) (E : List ℕ) → Spells w B E → Said is (λ qs r. vars_words (map (variable_of qs (map w E)) (map w is)) r) w E O k Q q b O' Q' k' q' free
    go true e w E ss =
        let p = a.asks e w E ss in
        record {
          names = p.known;
          words = λ qs f. subst (λ (t : List Name). Wrote O k O' k' (vars_words (map (variable_of t (map w E)) (map w is)))) (sym f.1) (p.wrote f.0);
          unbound = a.asked e;
        }
    go false e w E ss =
        let p = a.tells e w E ss in
        record {
          names = ap₂ (λ (m : ℕ) (l : List ℕ). map w (take m l)) (a.keeps e) (a.keeps_q e);
          words = λ qs f. subst (λ (t : List Name). Wrote O k O' k' (vars_words (map (variable_of t (map w E)) (map w is)))) (sym f) p.wrote;
          unbound = p.unbound;
        }

-- ---------------------------------------------------------------------------------------------
-- One after another.

abbrev pub both : Lay → Lay → Lay
both lay lay' w num v r = lay w num v (lay' w num v r)

unbound_both : (query : Bool) (bs xs ys : List Name) → unbound (bound query bs) xs || unbound (bound query bs) ys ≡ unbound (bound query bs) (xs ++ ys)
unbound_both true bs xs ys = refl
unbound_both false bs xs ys = sym (any_append (λ (x : Name). not (among x bs)) xs ys)

new_both : (bs xs ys : List Name) → not_bound bs (xs ++ ys) ≡ not_bound bs xs ++ not_bound bs ys
new_both bs xs ys = flat_append (λ (x : Name). if (among x bs) [] (x ∷ [])) xs ys

once_both : (is js : List ℕ) (w : ℕ → Name) (bs seen : List Name) → once (once seen (not_bound bs (map w is))) (not_bound bs (map w js)) ≡ once seen (not_bound bs (map w (is ++ js)))
once_both is js w bs seen = sym (once_append (not_bound bs (map w is)) seen (not_bound bs (map w js))) ∙ ap (once seen) (sym (new_both bs (map w is) (map w js)) ∙ ap (not_bound bs) (sym (map-append w is js)))

numbered_both : (query : Bool) (is js : List ℕ) (w : ℕ → Name) (bs ps ps' ps'' : List Name) → Numbered query ps (not_bound bs (map w is)) ps' → Numbered query ps' (not_bound bs (map w js)) ps'' → Numbered query ps (not_bound bs (map w (is ++ js))) ps''
numbered_both true is js w bs ps ps' ps'' a b = b ∙ ap (λ (l : List Name). once l (not_bound bs (map w js))) a ∙ once_both is js w bs ps
numbered_both false is js w bs ps ps' ps'' a b = b ∙ a

numbered_asked : (query : Bool) (ps xs ps' : List Name) → query ≡ true → Numbered query ps xs ps' → ps' ≡ once ps xs
numbered_asked true ps xs ps' e a = a
numbered_asked false ps xs ps' e a = absurd (let z : ◌≡◌ {A = ℕ} 0 1 = cc in omega arith)

module _ {n : ℕ} {is : List ℕ} {lay : Lay} {O : List Word} {k : ℕ} {B Q : List ℕ} {q : ℕ} {query : Bool} {O₁ : List Word} {Q₁ : List ℕ} {k₁ q₁ : ℕ} {f₁ : Bool} (a : Part n is lay O k B Q q query O₁ Q₁ k₁ q₁ f₁) where
  pub part_then : {m : ℕ} {js : List ℕ} {lay' : Lay} {O₂ : List Word} {Q₂ : List ℕ} {k₂ q₂ : ℕ} {f₂ : Bool} (c : ℕ) → n + m ≡ c → Part m js lay' O₁ k₁ B Q₁ q₁ query O₂ Q₂ k₂ q₂ f₂ → Part c (is ++ js) (both lay lay') O k B Q q query O₂ Q₂ k₂ q₂ (f₁ || f₂)
  part_then {m} {js} {lay'} {O₂} {Q₂} {k₂} {q₂} {f₂} c e b =
      record {
        at = omega (arith, a.at, b.at);
        inside = b.inside;
        long = b.long ∙ a.long;
        more = omega (arith, a.more, b.more);
        few = b.few;
        known = b.known;
        long_q = b.long_q ∙ a.long_q;
        says = λ w num E sp ss.
            let p = a.says w num E sp ss in
            let s = b.says w num E sp ss in
            record {
              names = numbered_both query is js w (map w E) (map w (take q Q)) (map w (take q₁ Q₁)) (map w (take q₂ Q₂)) p.names s.names;
              words = λ qs f. wrote_then (p.words qs (final_back query (map w (take q₁ Q₁)) (not_bound (map w E) (map w js)) (map w (take q₂ Q₂)) qs s.names f)) (s.words qs f);
              unbound = ap₂ ◌||◌ p.unbound s.unbound ∙ unbound_both query (map w E) (map w is) (map w js) ∙ ap (unbound (bound query (map w E))) (sym (map-append w is js));
            };
      }

  -- too many variables in what follows
  pub part_many : {js : List ℕ} → TooMany js B Q₁ q₁ query → TooMany (is ++ js) B Q q query
  part_many {js} t =
      record {
        asks = t.asks;
        many = λ w num E sp ss. subst (λ (l : List Name). 16 < size l) (ap (λ (l : List Name). once l (not_bound (map w E) (map w js))) (numbered_asked query (map w (take q Q)) (not_bound (map w E) (map w is)) (map w (take q₁ Q₁)) t.asks (a.says w num E sp ss).names) ∙ once_both is js w (map w E) (map w (take q Q))) (t.many w num E sp ss);
      }

  -- and no room for it
  pub part_full : (m c : ℕ) → n + m ≡ c → length O₁ < k₁ + m → length O < k + c
  part_full m c e h = omega (arith, a.at, a.long)

  pub tables_on : Tables B Q O k q → Tables B Q₁ O₁ k₁ q₁
  tables_on t = record { cells = t.cells; order = omega (arith, t.order, a.long_q); most = a.few; used = a.known; out = a.inside }

-- too many variables already
pub many_vars : {is : List ℕ} {O : List Word} {B Q : List ℕ} {q : ℕ} {query : Bool} {O' : List Word} {Q' : List ℕ} → VarsMany is O B Q q query O' Q' → TooMany is B Q q query
many_vars m = record { asks = m.asks; many = λ w num E sp ss. m.many w E ss }

pub many_before : {is : List ℕ} (js : List ℕ) {B Q : List ℕ} {q : ℕ} {query : Bool} → TooMany is B Q q query → TooMany (is ++ js) B Q q query
many_before {is} js {B} {Q} {q} t =
    record {
      asks = t.asks;
      many = λ w num E sp ss.
          let bs : List Name = map w E in
          let g = size_once (not_bound bs (map w js)) (once (map w (take q Q)) (not_bound bs (map w is))) in
          let h = t.many w num E sp ss in
          subst (λ (l : List Name). 16 < size l) (once_both is js w bs (map w (take q Q))) (omega arith);
    }

-- the same words, said otherwise
pub part_same : {n : ℕ} {is js : List ℕ} {lay lay' : Lay} {O : List Word} {k : ℕ} {B Q : List ℕ} {q : ℕ} {query : Bool} {O' : List Word} {Q' : List ℕ} {k' q' : ℕ} {free free' : Bool} → is ≡ js → free ≡ free' → ((w : ℕ → Name) (num : Name → ℕ) (v : Name → Var) (r : List Word) → lay w num v r ≡ lay' w num v r) → Part n is lay O k B Q q query O' Q' k' q' free → Part n js lay' O k B Q q query O' Q' k' q' free'
part_same {n} {is} {js} {lay} {lay'} {O} {k} {B} {Q} {q} {query} {O'} {Q'} {k'} {q'} {free} {free'} e f h a =
    subst (λ (l : List ℕ). Part n l lay' O k B Q q query O' Q' k' q' free') e
    (subst (λ (b : Bool). Part n is lay' O k B Q q query O' Q' k' q' b) f
    (record {
      at = a.at;
      inside = a.inside;
      long = a.long;
      more = a.more;
      few = a.few;
      known = a.known;
      long_q = a.long_q;
      says = λ w num E sp ss.
          let p = a.says w num E sp ss in
          record { names = p.names; words = λ qs g. wrote_same (h w num (variable_of qs (map w E))) (p.words qs g); unbound = p.unbound };
    }))
