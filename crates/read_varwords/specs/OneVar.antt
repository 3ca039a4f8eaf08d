-- The word of one variable, in each case. Assumes nothing.
use Rattle.std.specs.Prelude.{◌≡◌, refl, Bool, ◌||◌, ℕ, zero, suc, ◌+◌, ◌-◌, ◌<◌, ◌≤◌, length, set, take}
use Rattle.std.proofs.Math.Path.{ap, sym, subst}
use Rattle.std.proofs.Common.{ap₂, ◌∙◌, add-one, arith, take-suc-set, length-take-le}
use mathlib.Core.List.{List, [], ◌∷◌, ◌++◌, map, map-append}
use Rattle.std.proofs.Math.Bool.{true, false, not}
use Rattle.std.proofs.Math.Option.{Option, some, none}
use Rattle.std.proofs.Math.Decide.{ℕ_discrete}
use Rattle.std.proofs.Math.ListN.{get_or}
use Rattle.mem_numbers.specs.Stored.{Stored, stored_same, stored_other}
use Rattle.akl.specs.Base.{Name, any, once, size, among, first, last}
use Rattle.akl.specs.Syntax.{Var, number, level}
use Rattle.akl.specs.Reader.{variable_of, not_bound}
use Rattle.mem_words.specs.Words.{Small}
use Rattle.mem_words.specs.declared.Word.{Word}
use Rattle.mem_words.specs.declared.Word.TheVariants.{Free, Level}
use Rattle.layout.specs.Layout.{var_word, vars_words}
use Rattle.read_lookups.specs.Places.{inner_among, outer_among}
use Rattle.read_lookups.specs.Finding.{FirstAt}
use Rattle.read_lookups.specs.declared.Variable.{Variable}
use Rattle.read_scopes.specs.Spelled.{Own, position, among_names, level_last, in_take, found_first, absent_first}
use Rattle.read_emits.specs.Out.{Wrote, wrote_word}
use Rattle.read_emits.specs.TheirContracts.{Emits, NoRoom}
use Rattle.read_varwords.specs.Names.{is_some, first_among, first_append, not_bound_yes, not_bound_no, once_none, once_old, once_new, size_snoc, size_map}
use Rattle.read_varwords.specs.Vars.{Spells, Below, CanVar, InQuery, InProgram, VarsDone, VarsMany, VarsFull}

wrote_var : {O : List Word} {k : ℕ} {O' : List Word} (v : Var) → Emits O k (var_word v) O' → Wrote O k O' (k + 1) (vars_words (v ∷ []))
unfolding vars_words var_word
wrote_var (number x) e = wrote_word e.room tt e.stored
wrote_var (level l) e = wrote_word e.room tt e.stored

-- the word of a query variable: it is small, and it is what was written
pub free_small : {u : Word} {i : ℕ} → u ≡ Free i → i < 65536 → Small u
free_small b h = subst Small (sym b) (record { value = h })

free_word : {O : List Word} {k i : ℕ} {O' : List Word} {u : Word} → u ≡ Free i → Emits O k u O' → Emits O k (Free i) O'
free_word {O} {k} {i} {O'} b e = subst (λ (t : Word). Emits O k t O') b e

-- ---------------------------------------------------------------------------------------------
-- One name, spelled.

module _ (w : ℕ → Name) {B E : List ℕ} (s : Spells w B E) (x : ℕ) (h : x < length B) where
  own_bound : Own w x E
  own_bound = λ y i e. s.apart x y h (s.inner y i) e

  own_known : (Q : List ℕ) (q : ℕ) → Below B Q q → Own w x (take q Q)
  own_known Q q b = λ y i e. let p = in_take y Q q i in s.apart x y h (omega (arith, b.each p.0 p.1, p.3)) e

  -- its last position among the bound names
  last_is : last (w x) (map w E) ≡ position (get_or B x 0)
  last_is = level_last w x s.bound h own_bound

  bound_yes : 0 < get_or B x 0 → among (w x) (map w E) ≡ true
  bound_yes g = among_names w x E own_bound ∙ inner_among x [] E (omega (arith, s.bound.each x h))

  bound_no : get_or B x 0 ≡ 0 → among (w x) (map w E) ≡ false
  bound_no g = among_names w x E own_bound ∙ outer_among x [] E (omega (arith, s.bound.each x h))

  -- the variable that it is
  of_level : (qs : List Name) (n : ℕ) → get_or B x 0 ≡ suc n → level n ≡ variable_of qs (map w E) (w x)
  of_level qs n e = sym (ap (λ (o : Option ℕ). elim o [ some l ↦ level l | none ↦ elim (first (w x) qs) [ some i ↦ number i | none ↦ number (size qs) ] ]) (last_is ∙ ap position e))

  of_first : (qs : List Name) (i : ℕ) → get_or B x 0 ≡ 0 → first (w x) qs ≡ some i → number i ≡ variable_of qs (map w E) (w x)
  of_first qs i e f = sym (ap₂ (λ (o p : Option ℕ). elim o [ some l ↦ level l | none ↦ elim p [ some i ↦ number i | none ↦ number (size qs) ] ]) (last_is ∙ ap position e) f)

  of_none : get_or B x 0 ≡ 0 → number 0 ≡ variable_of [] (map w E) (w x)
  unfolding first size
  of_none e = sym (ap (λ (o : Option ℕ). elim o [ some l ↦ level l | none ↦ number 0 ]) (last_is ∙ ap position e))

  -- the names known, where it is bound, where it is known already, and where it is new
  once_bound : (seen : List Name) → 0 < get_or B x 0 → seen ≡ once seen (not_bound (map w E) (w x ∷ []))
  once_bound seen g = sym (ap (once seen) (not_bound_yes (map w E) (w x) (bound_yes g)) ∙ once_none seen)

  once_found : (seen : List Name) (i : ℕ) → get_or B x 0 ≡ 0 → first (w x) seen ≡ some i → seen ≡ once seen (not_bound (map w E) (w x ∷ []))
  once_found seen i g f = sym (ap (once seen) (not_bound_no (map w E) (w x) (bound_no g)) ∙ once_old seen (w x) (first_among (w x) seen ∙ ap is_some f))

  once_absent : (seen : List Name) → get_or B x 0 ≡ 0 → first (w x) seen ≡ none → seen ++ (w x ∷ []) ≡ once seen (not_bound (map w E) (w x ∷ []))
  once_absent seen g f = sym (ap (once seen) (not_bound_no (map w E) (w x) (bound_no g)) ∙ once_new seen (w x) (first_among (w x) seen ∙ ap is_some f))

-- ---------------------------------------------------------------------------------------------
-- Its word.

any_one : (p : Name → Bool) (x : Name) (b : Bool) → p x ≡ b → b ≡ any p (x ∷ [])
unfolding any
any_one p x true e = sym (ap (λ (c : Bool). c || false) e)
any_one p x false e = sym (ap (λ (c : Bool). c || false) e)

never : {A : Type 0} (b : Bool) → b ≡ true → b ≡ false → A
never b p q = absurd (let e : true ≡ false = sym p ∙ q in let z : ◌≡◌ {A = ℕ} 0 1 = cc in omega arith)

module _ {id : ℕ} {O : List Word} {k : ℕ} {B Q : List ℕ} {q : ℕ} {query : Bool} {O' : List Word} (c : CanVar id B Q q) where
  -- no new name
  kept : (v : Var) (free : Bool) → Emits O k (var_word v) O' → (query ≡ true → free ≡ false) → (query ≡ true → (w : ℕ → Name) (E : List ℕ) → Spells w B E → InQuery w E (id ∷ []) O k Q q O' (k + 1) Q q) → (query ≡ false → (w : ℕ → Name) (E : List ℕ) → Spells w B E → InProgram w E (id ∷ []) O k O' (k + 1) free) → VarsDone (id ∷ []) O k B Q q query O' Q (k + 1) q free
  kept v free e a f g =
      record {
        at = omega arith;
        inside = omega (arith, e.room, e.stored.long);
        long = e.stored.long;
        more = omega arith;
        few = c.few;
        known = c.known;
        older = λ i l. refl;
        long_q = refl;
        asked = a;
        asks = f;
        keeps = λ e. refl;
        keeps_q = λ e. refl;
        tells = g;
      }

  -- it is bound
  pub one_level : (n : ℕ) → get_or B id 0 ≡ suc n → Emits O k (Level n) O' → VarsDone (id ∷ []) O k B Q q query O' Q (k + 1) q false
  unfolding var_word
  one_level n l e =
      kept (level n) false e (λ z. refl)
      (λ z w E s. record { known = once_bound w s id c.name (map w (take q Q)) (omega arith); wrote = λ qs. wrote_as (of_level w s id c.name (map w (take q Q) ++ qs) n l) })
      (λ z w E s. record { unbound = any_one (λ (x : Name). not (among x (map w E))) (w id) false (ap not (bound_yes w s id c.name (omega arith))); wrote = wrote_as (of_level w s id c.name [] n l) })
    where
      wrote_as : {u : Var} → level n ≡ u → Wrote O k O' (k + 1) (vars_words (u ∷ []))
      wrote_as {u} p = subst (λ (t : Var). Wrote O k O' (k + 1) (vars_words (t ∷ []))) p (wrote_var (level n) e)

  -- it is not bound, in a program
  pub one_free : query ≡ false → get_or B id 0 ≡ 0 → Emits O k (Free 0) O' → VarsDone (id ∷ []) O k B Q q query O' Q (k + 1) q true
  unfolding var_word
  one_free n l e =
      kept (number 0) true e (λ z. never query z n)
      (λ z w E s. never query z n)
      (λ z w E s. record { unbound = any_one (λ (x : Name). not (among x (map w E))) (w id) true (ap not (bound_no w s id c.name l)); wrote = subst (λ (t : Var). Wrote O k O' (k + 1) (vars_words (t ∷ []))) (of_none w s id c.name l) (wrote_var (number 0) e) })

  -- it is not bound, in a query, and known by its number
  pub one_found : {u : Word} (v : Variable) → query ≡ true → get_or B id 0 ≡ 0 → FirstAt Q q id v.0 → u ≡ Free v.0 → Emits O k u O' → VarsDone (id ∷ []) O k B Q q query O' Q (k + 1) q false
  unfolding var_word
  one_found v n l f b e =
      kept (number v.0) false (free_word b e) (λ z. refl)
      (λ z w E s.
      let p : first (w id) (map w (take q Q)) ≡ some v.0 = found_first w Q q id v.0 (omega (arith, c.few, c.order)) f (own_known w s id c.name Q q c.known) in
      record {
        known = once_found w s id c.name (map w (take q Q)) v.0 l p;
        wrote = λ qs. subst (λ (t : Var). Wrote O k O' (k + 1) (vars_words (t ∷ []))) (of_first w s id c.name (map w (take q Q) ++ qs) v.0 l (first_append (w id) (map w (take q Q)) qs v.0 p)) (wrote_var (number v.0) (free_word b e));
      })
      (λ z w E s. never query n z)

  -- it is new
  pub one_new : {Q' : List ℕ} {u : Word} → query ≡ true → get_or B id 0 ≡ 0 → ((j : ℕ) → j < q → get_or Q j 0 ≡ id → ⊥) → q < 16 → Stored Q q id Q' → u ≡ Free q → Emits O k u O' → VarsDone (id ∷ []) O k B Q q query O' Q' (k + 1) (q + 1) false
  unfolding var_word
  one_new {Q'} n l f r t b e =
      record {
        at = omega arith;
        inside = omega (arith, e.room, e.stored.long);
        long = e.stored.long;
        more = omega arith;
        few = omega arith;
        known = below;
        older = older;
        long_q = t.long;
        asked = λ z. refl;
        asks = λ z w E s.
            let p : first (w id) (map w (take (q + 1) Q')) ≡ some q = found_first w Q' (q + 1) id q (omega (arith, c.order, t.long)) at_end (own_known w s id c.name Q' (q + 1) below) in
            record {
              known =
                  ap (λ (m : List ℕ). map w (take (q + 1) m)) t.list
                  ∙ ap (λ (m : ℕ). map w (take m (set Q q id))) (add-one q)
                  ∙ ap (map w) (take-suc-set Q q id (omega (arith, c.order)))
                  ∙ map-append w (take q Q) (id ∷ [])
                  ∙ once_absent w s id c.name (map w (take q Q)) l (absent_first w Q q id (omega (arith, c.order)) f (own_known w s id c.name Q q c.known));
              wrote = λ qs. subst (λ (v : Var). Wrote O k O' (k + 1) (vars_words (v ∷ []))) (of_first w s id c.name (map w (take (q + 1) Q') ++ qs) q l (first_append (w id) (map w (take (q + 1) Q')) qs q p)) (wrote_var (number q) (free_word b e));
            };
        keeps = λ z. never query n z;
        keeps_q = λ z. never query n z;
        tells = λ z. never query n z;
      }
    where
      older : (i : ℕ) → i < q → get_or Q' i 0 ≡ get_or Q i 0
      older i d = stored_other i 0 t (λ z. omega arith)

      here : get_or Q' q 0 ≡ id
      here = stored_same 0 t (omega (arith, c.order))

      below : Below B Q' (q + 1)
      below = record { each = λ i d. go i d (ℕ_discrete i q) }
        where
          go : (i : ℕ) → i < q + 1 → Dec (i ≡ q) → get_or Q' i 0 < length B
          go i d (yes z) = subst (λ (m : ℕ). get_or Q' m 0 < length B) (sym z) (omega (arith, here, c.name))
          go i d (no z) = omega (arith, older i (omega arith), c.known.each i (omega arith))

      at_end : FirstAt Q' (q + 1) id q
      at_end = record { inside = omega arith; is = here; earlier = λ j d z. f j d (sym (older j d) ∙ z) }

-- it is new, and one too many
pub one_many : {id : ℕ} (O : List Word) {B Q : List ℕ} {q : ℕ} {query : Bool} → CanVar id B Q q → query ≡ true → get_or B id 0 ≡ 0 → ((j : ℕ) → j < q → get_or Q j 0 ≡ id → ⊥) → 16 ≤ q → VarsMany (id ∷ []) O B Q q query O Q
one_many {id} O {B} {Q} {q} {query} c n l f r =
    record {
      asks = n;
      many = λ w E s.
          let a = once_absent w s id c.name (map w (take q Q)) l (absent_first w Q q id (omega (arith, c.order, c.few)) f (own_known w s id c.name Q q c.known)) in
          subst (λ (t : List Name). 16 < size t) a (omega (arith, size_snoc (map w (take q Q)) (w id), size_map w (take q Q), length-take-le q Q (omega (arith, c.order, c.few))));
      long = refl;
      long_q = refl;
    }

-- there is no room for it
pub one_full : (id : ℕ) {O : List Word} {k : ℕ} {Q : List ℕ} {O' : List Word} {Q' : List ℕ} → NoRoom O k O' → length Q' ≡ length Q → VarsFull (id ∷ []) O k Q O' Q'
one_full id n e = record { full = omega (arith, n.full); long = ap length n.same; long_q = e }
