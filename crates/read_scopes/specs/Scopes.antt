-- The table of what is bound, the values saved, and what one binding and its taking back do to them. Assumes nothing.
use Rattle.std.specs.Prelude.{◌≡◌, refl, Bool, true, false, ◌||◌, ℕ, zero, suc, ◌+◌, ◌*◌, ◌/◌, ◌<◌, ◌≤◌, length, get_or, set, replicate}
use Rattle.std.proofs.Math.Path.{ap, subst}
use Rattle.std.proofs.Common.{sym, ◌∙◌, add-one, arith, set-set}
use mathlib.Core.List.{List, [], ◌∷◌, ◌++◌, append_assoc, append-nil}
use Rattle.std.proofs.Math.Decide.{ℕ_discrete}
use Rattle.std.proofs.Math.ListN.{length-append}
use Rattle.std.proofs.Math.Seq.{set-get_or}
use Rattle.mem_numbers.specs.Numbers.{shorts, zero_shorts}
use Rattle.mem_numbers.specs.Stored.{Stored, stored_same, stored_other}
use Rattle.read_lookups.specs.Places.{ids, place, among, repeated, ids_none, ids_more, length_ids, place_none, place_le, place_new, place_old, inner_among, outer_among, repeated_more, repeated_none}

-- The table B says where each name stands among the names E, outermost first.
pub record Bound (B E : List ℕ) : Type 0 where
  pub each : (x : ℕ) → x < length B → get_or B x 0 ≡ place x E

-- B with the `count` names from the token `first` on set back, the last first, to the values that S has from n on
unfoldable pub taken_back : List ℕ → ℕ → ℕ → List ℕ → List ℕ → ℕ → List ℕ
taken_back L first zero B S n = B
taken_back L first (suc k) B S n = taken_back L first k (set B (get_or L (first + 2 * k) 0 / 256) (get_or S (n + k) 0)) S n

-- the name of a token may be given the value v, and its old value be saved at k
pub record CanEnter (L : List ℕ) (at : ℕ) (B S : List ℕ) (k v : ℕ) : Type 0 where
  pub inside : at < length L
  pub name : get_or L at 0 / 256 < length B
  pub room : k < length S
  pub small : v < 65536

-- the name was given the value v; old is the value that it had
pub record Entered (L : List ℕ) (at : ℕ) (B S : List ℕ) (k v : ℕ) (B' S' : List ℕ) (old : ℕ) : Type 0 where
  pub is : old ≡ get_or B (get_or L at 0 / 256) 0
  pub saved : Stored S k (get_or B (get_or L at 0 / 256) 0) S'
  pub bound : Stored B (get_or L at 0 / 256) v B'

pub record CanLeave (L : List ℕ) (at : ℕ) (B S : List ℕ) (k : ℕ) : Type 0 where
  pub inside : at < length L
  pub name : get_or L at 0 / 256 < length B
  pub room : k < length S

-- the name was given the value that is saved at k
pub record Left (L : List ℕ) (at : ℕ) (B S : List ℕ) (k : ℕ) (B' : List ℕ) : Type 0 where
  pub bound : Stored B (get_or L at 0 / 256) (get_or S k 0) B'

-- `count` names are bound behind `level` names, and the values that they had are saved from n on; twice says whether a name is
-- there twice
pub record Bindings (L : List ℕ) (first count : ℕ) (B S : List ℕ) (n level : ℕ) (B' S' : List ℕ) (twice : Bool) : Type 0 where
  pub binds : (E : List ℕ) → Bound B E → length E ≡ level → Bound B' (E ++ ids L count first)
  pub again : (E : List ℕ) → Bound B E → length E ≡ level → repeated (ids L count first) ≡ twice
  pub back : taken_back L first count B' S' n ≡ B
  pub older : (i : ℕ) → i < n → get_or S' i 0 ≡ get_or S i 0
  pub room : n + count ≤ length S
  pub size_b : length B' ≡ length B
  pub size_s : length S' ≡ length S

-- ---------------------------------------------------------------------------------------------
-- Laws of the table.

-- no name is bound
pub bound_none : (B : List ℕ) → ((x : ℕ) → x < length B → get_or B x 0 ≡ 0) → Bound B []
bound_none B h = record { each = λ x l. h x l ∙ sym (place_none x) }

pub bound_zero : (m : ℕ) → Bound (shorts (replicate m 0)) []
bound_zero m = bound_none (shorts (replicate m 0)) (λ x l. zero_shorts m x)

-- no value is above the number of names
pub bound_low : {B E : List ℕ} → Bound B E → (x : ℕ) → x < length B → get_or B x 0 ≤ length E
bound_low {B} {E} b x h = let e = b.each x h in let l = place_le x E in omega arith

-- one name more
pub bound_more : {B E B' : List ℕ} {x v : ℕ} → Bound B E → Stored B x v B' → x < length B → v ≡ suc (length E) → Bound B' (E ++ (x ∷ []))
bound_more {B} {E} {B'} {x} {v} b s h e = record { each = λ y l. go y l (ℕ_discrete y x) }
  where
    go : (y : ℕ) → y < length B' → Dec (y ≡ x) → get_or B' y 0 ≡ place y (E ++ (x ∷ []))
    go y l (yes q) = subst (λ (z : ℕ). get_or B' z 0 ≡ place z (E ++ (x ∷ []))) (sym q) (stored_same 0 s h ∙ e ∙ sym (place_new x E))
    go y l (no q) = stored_other y 0 s q ∙ b.each y (omega (arith, s.long)) ∙ sym (place_old y x E q)

-- ---------------------------------------------------------------------------------------------
-- Laws of what is taken back.

pub taken_none : (L : List ℕ) (first : ℕ) (B S : List ℕ) (n : ℕ) → taken_back L first 0 B S n ≡ B
unfolding taken_back
taken_none L first B S n = refl

pub taken_more : (L : List ℕ) (first k : ℕ) (B S : List ℕ) (n : ℕ) → taken_back L first (k + 1) B S n ≡ taken_back L first k (set B (get_or L (first + 2 * k) 0 / 256) (get_or S (n + k) 0)) S n
unfolding taken_back
taken_more L first k B S n = ap (λ (m : ℕ). taken_back L first m B S n) (add-one k)

-- only the values saved for the names themselves matter
pub taken_same : (k : ℕ) (L : List ℕ) (first : ℕ) (B S S' : List ℕ) (n : ℕ) → ((i : ℕ) → n ≤ i → i < n + k → get_or S' i 0 ≡ get_or S i 0) → taken_back L first k B S' n ≡ taken_back L first k B S n
unfolding taken_back
taken_same zero L first B S S' n h = refl
taken_same (suc k) L first B S S' n h =
    ap (λ (v : ℕ). taken_back L first k (set B (get_or L (first + 2 * k) 0 / 256) v) S' n) (h (n + k) (omega arith) (omega arith))
    ∙ taken_same k L first (set B (get_or L (first + 2 * k) 0 / 256) (get_or S (n + k) 0)) S S' n (λ i a b. h i a (omega arith))

-- ---------------------------------------------------------------------------------------------
-- The loop that binds.

pub bindings_none : (L : List ℕ) (first : ℕ) (B S : List ℕ) (n level : ℕ) → n ≤ length S → Bindings L first 0 B S n level B S false
bindings_none L first B S n level r =
    record {
      binds = λ E b e. subst (Bound B) (sym (ap (λ (l : List ℕ). E ++ l) (ids_none L first) ∙ append-nil E)) b;
      again = λ E b e. ap repeated (ids_none L first) ∙ repeated_none;
      back = taken_none L first B S n;
      older = λ i h. refl;
      room = omega arith;
      size_b = refl;
      size_s = refl;
    }

module _ {L : List ℕ} {first j : ℕ} {B S : List ℕ} {n level : ℕ} {B₁ S₁ : List ℕ} {twice : Bool} {B' S' : List ℕ} {old : ℕ} (a : Bindings L first j B S n level B₁ S₁ twice) (c : CanEnter L (first + 2 * j) B₁ S₁ (n + j) (level + j + 1)) (s : Entered L (first + 2 * j) B₁ S₁ (n + j) (level + j + 1) B' S' old) where
  x : ℕ
  x = get_or L (first + 2 * j) 0 / 256

  more : (b : Bool) → ((E : List ℕ) → Bound B E → length E ≡ level → among x (ids L j first) || repeated (ids L j first) ≡ b) → Bindings L first (j + 1) B S n level B' S' b
  unfolding x
  more b r =
      record {
        binds = λ E h e. subst (λ (l : List ℕ). Bound B' l) (append_assoc E (ids L j first) (x ∷ []) ∙ ap (λ (l : List ℕ). E ++ l) (sym (ids_more L j first))) (bound_more (a.binds E h e) s.bound c.name (omega (arith, length-append E (ids L j first), length_ids L j first)));
        again = λ E h e. ap repeated (ids_more L j first) ∙ repeated_more x (ids L j first) ∙ r E h e;
        back =
            taken_more L first j B' S' n
            ∙ ap (λ (v : ℕ). taken_back L first j (set B' x v) S' n) (stored_same 0 s.saved c.room)
            ∙ ap (λ (l : List ℕ). taken_back L first j (set l x (get_or B₁ x 0)) S' n) s.bound.list
            ∙ ap (λ (l : List ℕ). taken_back L first j l S' n) (set-set B₁ x (level + j + 1) (get_or B₁ x 0) ∙ set-get_or B₁ x 0)
            ∙ taken_same j L first B₁ S₁ S' n (λ i g h. stored_other i 0 s.saved (λ e. omega arith))
            ∙ a.back;
        older = λ i h. stored_other i 0 s.saved (λ e. omega arith) ∙ a.older i h;
        room = omega (arith, c.room, a.size_s);
        size_b = s.bound.long ∙ a.size_b;
        size_s = s.saved.long ∙ a.size_s;
      }

  -- the name's old value is its place
  was : (E : List ℕ) → Bound B E → length E ≡ level → old ≡ place x (E ++ ids L j first)
  unfolding x
  was E h e = s.is ∙ (a.binds E h e).each x c.name

  -- its old value is one of this list
  pub bindings_again : level < old → Bindings L first (j + 1) B S n level B' S' true
  bindings_again g = more true (λ E h e. ap (λ (b : Bool). b || repeated (ids L j first)) (inner_among x E (ids L j first) (omega (arith, was E h e))))

  -- its old value is one from before
  pub bindings_more : old ≤ level → Bindings L first (j + 1) B S n level B' S' twice
  bindings_more g = more twice (λ E h e. ap (λ (b : Bool). b || repeated (ids L j first)) (outer_among x E (ids L j first) (omega (arith, was E h e))) ∙ a.again E h e)

-- the names are all bound
pub bindings_all : {L : List ℕ} {first j count : ℕ} {B S : List ℕ} {n level : ℕ} {B' S' : List ℕ} {b twice : Bool} → Bindings L first j B S n level B' S' b → j ≡ count → b ≡ twice → Bindings L first count B S n level B' S' twice
bindings_all {L} {first} {j} {count} {B} {S} {n} {level} {B'} {S'} {b} {twice} a e q = subst (λ (k : ℕ). Bindings L first k B S n level B' S' twice) e (subst (λ (t : Bool). Bindings L first j B S n level B' S' t) q a)

-- ---------------------------------------------------------------------------------------------
-- One name bound, or set back.

pub entered : {L : List ℕ} {at : ℕ} {B S : List ℕ} {k v : ℕ} {B' S' : List ℕ} {old id : ℕ} → id ≡ get_or L at 0 / 256 → old ≡ get_or B id 0 → Stored S k old S' → Stored B id v B' → Entered L at B S k v B' S' old
entered {L} {at} {B} {S} {k} {v} {B'} {S'} {old} {id} p q s t =
    let e : old ≡ get_or B (get_or L at 0 / 256) 0 = q ∙ ap (λ (i : ℕ). get_or B i 0) p in
    record { is = e; saved = subst (λ (o : ℕ). Stored S k o S') e s; bound = subst (λ (i : ℕ). Stored B i v B') p t }

pub left : {L : List ℕ} {at : ℕ} {B S : List ℕ} {k : ℕ} {B' : List ℕ} {old id : ℕ} → id ≡ get_or L at 0 / 256 → old ≡ get_or S k 0 → Stored B id old B' → Left L at B S k B'
left {L} {at} {B} {S} {k} {B'} {old} {id} p q t = record { bound = subst (λ (o : ℕ). Stored B (get_or L at 0 / 256) o B') q (subst (λ (i : ℕ). Stored B i old B') p t) }

-- a turn of the loop that takes back
pub taken_turn : {L : List ℕ} (first j : ℕ) {B S : List ℕ} (n m : ℕ) {B' : List ℕ} → m ≡ j + 1 → Left L (first + 2 * j) B S (n + j) B' → taken_back L first j B' S n ≡ taken_back L first m B S n
taken_turn {L} first j {B} {S} n m {B'} e l =
    ap (λ (b : List ℕ). taken_back L first j b S n) l.bound.list
    ∙ sym (taken_more L first j B S n)
    ∙ ap (λ (k : ℕ). taken_back L first k B S n) (sym e)
