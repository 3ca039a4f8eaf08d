-- What each token does to the brackets on the stack.
use mathlib.Core.Path.{◌≡◌, refl, ap, sym, ◌∙◌, subst}
use mathlib.Core.List.{List, [], ◌∷◌}
use mathlib.Core.Logic.{◌⊎◌, inl, inr}
use mathlib.Core.Option.{some, none}
use Prim.Native.Nat.{ℕ, zero, suc, ◌+◌, ◌-◌, ◌≤◌, ◌<◌}
use native.Mathlib.Omega.{arith}
use lib.ListN.{length, get_or, set, length-set}
use lib.Seq.{get_or-set_same, get_or-set_other}
use Rattle.akl.specs.Base.{Name}
use Rattle.akl.specs.Syntax.{Op}
use Rattle.akl.specs.Token.{Token, open_bracket, close_bracket, comma, semicolon}
use Rattle.akl.specs.Grammar.{Statement}
use Rattle.akl.specs.Parse.{Read, after, an_operator}
use Rattle.descent.specs.Descent.{the_statement, the_simple, the_hidden}
use Rattle.descent.specs.Frames.{Opens, Reached}
use Rattle.descent.proofs.Frames.{opens_start, opens_bracket, bracket_odd, simple_odd, reached_comma, reached_end, first_op, first_close, first_odd, body_next, body_next_odd, body_close, body_odd, guard_op, guard_odd}
use Rattle.read_phrases.specs.Codes.{Known, kind_at, toks, kind_inside, mark_here, mark_not, operator_here, operator_not}
use Rattle.read_phrases.specs.Phrases.{Reserved, HiddenTo, SimpleAt}
use Rattle.read_phrases.specs.declared.Phrase.TheVariants.{To, Odd as NoPhrase}
use Rattle.read_statements.specs.Statements.{frames, Says, Forward, Followed, Stepped, CanTurn, CanFollow}
use Rattle.read_statements.specs.declared.Onward.{Onward}
use Rattle.read_statements.specs.declared.Onward.TheVariants.{Next, Done}
use Rattle.read_statements.specs.declared.Unparsed.{Unparsed}
use Rattle.read_statements.specs.declared.Unparsed.TheVariants.{Odd, Short}
use Rattle.std.specs.Prelude as std

-- the innermost bracket
frames_top : (S : List ℕ) (h : ℕ) → 1 ≤ h → frames S h ≡ get_or S (h - 1) 0 ∷ frames S (h - 1)
unfolding frames
frames_top S zero h = absurd (omega arith)
frames_top S (suc d) h = let e : suc d - 1 ≡ d = omega arith in ap (λ (n : ℕ). get_or S n 0 ∷ frames S n) (sym e)

frames_set : (S : List ℕ) (i v d : ℕ) → d ≤ i → frames (set S i v) d ≡ frames S d
unfolding frames
frames_set S i v zero h = refl
frames_set S i v (suc d) h = (λ k. get_or-set_other S i d v 0 (λ e. omega arith) k ∷ frames_set S i v d (omega arith) k)

-- the stack with v on top
pub frames_new : (S : List ℕ) (h v : ℕ) → 1 ≤ h → h ≤ length S → frames (set S (h - 1) v) h ≡ v ∷ frames S (h - 1)
frames_new S h v a b = frames_top (set S (h - 1) v) h a ∙ (λ k. get_or-set_same S (h - 1) v 0 (omega arith) k ∷ frames_set S (h - 1) v (h - 1) (omega arith) k)

-- ---------------------------------------------------------------------------------------------
-- Behind a statement in a bracket.

-- what is odd, whatever the bracket is
others_odd : (f : ℕ) (F : List ℕ) (us : List Token) (G : Read Statement) → Reached (f ∷ F) us G → after comma us ≡ none → after close_bracket us ≡ none → an_operator us ≡ none → after semicolon us ≡ none → G ≡ none
others_odd zero F us G r c d o s = first_odd F us G r c o d
others_odd (suc zero) F us G r c d o s = body_odd F us G r c s d
others_odd (suc (suc n)) F us G r c d o s = guard_odd n F us G r c o

clause_odd : (f : ℕ) (F : List ℕ) (us : List Token) (G : Read Statement) → (f ≡ 1 → ⊥) → Reached (f ∷ F) us G → after comma us ≡ none → after close_bracket us ≡ none → an_operator us ≡ none → G ≡ none
clause_odd zero F us G n r c d o = first_odd F us G r c o d
clause_odd (suc zero) F us G n r c d o = absurd (n refl)
clause_odd (suc (suc k)) F us G n r c d o = guard_odd k F us G r c o

operator_on : (f : ℕ) (F : List ℕ) (us vs : List Token) (op : Op) (G : Read Statement) → (f ≡ 1 → ⊥) → Reached (f ∷ F) us G → after comma us ≡ none → an_operator us ≡ some (op, vs) → Opens (1 ∷ F) vs G
operator_on zero F us vs op G n r c e = first_op F us vs op G r c e
operator_on (suc zero) F us vs op G n r c e = absurd (n refl)
operator_on (suc (suc k)) F us vs op G n r c e = guard_op k F us vs op G r c e

module _ (L S : List ℕ) (at h : ℕ) (can : CanTurn L S at h) where
  inner : (w : ℕ → Name) (G : Read Statement) → Reached (frames S h) (toks w L at) G → Reached (get_or S (h - 1) 0 ∷ frames S (h - 1)) (toks w L at) G
  inner w G r = subst (λ (F : List ℕ). Reached F (toks w L at) G) (frames_top S h can.inner) r

  no_comma : (w : ℕ → Name) → after comma (toks w L at) ≡ none
  no_comma w = mark_not w L at comma can.comma

  no_close : (w : ℕ → Name) → after close_bracket (toks w L at) ≡ none
  no_close w = mark_not w L at close_bracket can.close

  pub turn_clause_odd : (k f : ℕ) → k ≡ kind_at L at → k ≡ 10 → f ≡ get_or S (h - 1) 0 → (f ≡ 1 → ⊥) → Followed L S at h S (std.Err Odd)
  turn_clause_odd k f ek e ef n = record { long = refl; forward = tt; says = λ w G r. clause_odd (get_or S (h - 1) 0) _ _ G (λ z. n (ef ∙ z)) (inner w G r) (no_comma w) (no_close w) (operator_not w L at (λ a b. omega arith)) }

  pub turn_other_odd : (k : ℕ) → k ≡ kind_at L at → (k ≡ 10 → ⊥) → (11 ≤ k → k < 14 → ⊥) → Followed L S at h S (std.Err Odd)
  turn_other_odd k ek n m = record { long = refl; forward = tt; says = λ w G r. others_odd (get_or S (h - 1) 0) _ _ G (inner w G r) (no_comma w) (no_close w) (operator_not w L at (λ a b. m (omega arith) (omega arith))) (mark_not w L at semicolon (λ e. n (ek ∙ e))) }

  pub turn_body_odd : (k f : ℕ) → k ≡ kind_at L at → (k ≡ 10 → ⊥) → f ≡ get_or S (h - 1) 0 → f ≡ 1 → Followed L S at h S (std.Err Odd)
  turn_body_odd k f ek n ef e = record { long = refl; forward = tt; says = λ w G r. body_odd (frames S (h - 1)) (toks w L at) G (subst (λ (g : ℕ). Reached (g ∷ frames S (h - 1)) (toks w L at) G) (sym ef ∙ e) (inner w G r)) (no_comma w) (mark_not w L at semicolon (λ z. n (ek ∙ z))) (no_close w) }

  pub turn_operator : (k f : ℕ) → k ≡ kind_at L at → 11 ≤ k → k < 14 → f ≡ get_or S (h - 1) 0 → (f ≡ 1 → ⊥) → Followed L S at h (set S (h - 1) 1) (std.Ok (Next (at + 1) h))
  turn_operator k f ek a b ef n =
      let i = kind_inside L at (omega arith) in
      record {
        long = length-set S (h - 1) 1;
        forward = (omega arith, omega arith, omega arith, can.height);
        says = λ w G r.
            (let o = operator_here w L at (omega arith) (omega arith) in
            subst (λ (F : List ℕ). Opens F (toks w L (at + 1)) G) (sym (frames_new S h 1 can.inner can.height)) (operator_on (get_or S (h - 1) 0) (frames S (h - 1)) (toks w L at) (toks w L (at + 1)) o.0 G (λ z. n (ef ∙ z)) (inner w G r) (no_comma w) o.1));
      }

  body : (w : ℕ → Name) (G : Read Statement) (f : ℕ) → f ≡ get_or S (h - 1) 0 → f ≡ 1 → Reached (frames S h) (toks w L at) G → Reached (1 ∷ frames S (h - 1)) (toks w L at) G
  body w G f ef e r = subst (λ (g : ℕ). Reached (g ∷ frames S (h - 1)) (toks w L at) G) (sym ef ∙ e) (inner w G r)

  hidden_forward : (from rest count : ℕ) → from ≤ length L → HiddenTo L from (To rest count) → (from ≤ rest) × (rest ≤ length L)
  hidden_forward from rest count i hd = elim hd.place [ inl q ↦ (omega (arith, q.1), omega (arith, q.1)) | inr q ↦ (omega (arith, q.1), q.2) ]

  pub turn_next : (k f rest count : ℕ) → k ≡ kind_at L at → k ≡ 10 → f ≡ get_or S (h - 1) 0 → f ≡ 1 → HiddenTo L (at + 1) (To rest count) → Followed L S at h (set S (h - 1) 2) (std.Ok (Next rest h))
  turn_next k f rest count ek e ef ff hd =
      let i = kind_inside L at (omega arith) in
      let q = hidden_forward (at + 1) rest count (omega arith) hd in
      record {
        long = length-set S (h - 1) 2;
        forward = (omega (arith, q.0), q.1, omega (arith, q.0), can.height);
        says = λ w G r.
            subst (λ (F : List ℕ). Opens F (toks w L rest) G) (sym (frames_new S h 2 can.inner can.height)) (body_next (frames S (h - 1)) (toks w L at) (toks w L (at + 1)) (toks w L rest) _ G (body w G f ef ff r) (no_comma w) (mark_here w L at semicolon (sym ek ∙ e)) (hd.reads w));
      }

  pub turn_next_odd : (k f : ℕ) → k ≡ kind_at L at → k ≡ 10 → f ≡ get_or S (h - 1) 0 → f ≡ 1 → HiddenTo L (at + 1) NoPhrase → Followed L S at h (set S (h - 1) 2) (std.Err Odd)
  turn_next_odd k f ek e ef ff hd = record { long = length-set S (h - 1) 2; forward = tt; says = λ w G r. body_next_odd (frames S (h - 1)) (toks w L at) (toks w L (at + 1)) G (body w G f ef ff r) (no_comma w) (mark_here w L at semicolon (sym ek ∙ e)) (hd w) }

-- ---------------------------------------------------------------------------------------------
-- Behind a simple statement: brackets close.

pub record Closing (L S : List ℕ) (at h i d : ℕ) : Type 0 where
  pub height : d ≤ h
  pub forward : at ≤ i
  pub inside : i ≤ length L
  pub less : d + at ≤ h + i
  pub says : (w : ℕ → Name) (G : Read Statement) → Reached (frames S h) (toks w L at) G → Reached (frames S d) (toks w L i) G

pub closing_start : (L S : List ℕ) (at h : ℕ) → CanFollow L S at h → Closing L S at h at h
closing_start L S at h c = record { height = omega arith; forward = omega arith; inside = c.inside; less = omega arith; says = λ w G r. r }

close_one : (f : ℕ) (F : List ℕ) (us vs : List Token) (G : Read Statement) → f ≤ 1 → Reached (f ∷ F) us G → after comma us ≡ none → an_operator us ≡ none → after semicolon us ≡ none → after close_bracket us ≡ some vs → Reached F vs G
close_one zero F us vs G l r c o s d = first_close F us vs G r c o d
close_one (suc zero) F us vs G l r c o s d = body_close F us vs G r c s d
close_one (suc (suc n)) F us vs G l r c o s d = absurd (omega arith)

close_odd : (f : ℕ) (F : List ℕ) (us : List Token) (G : Read Statement) → 1 < f → Reached (f ∷ F) us G → after comma us ≡ none → an_operator us ≡ none → G ≡ none
close_odd zero F us G l r c o = absurd (omega arith)
close_odd (suc zero) F us G l r c o = absurd (omega arith)
close_odd (suc (suc n)) F us G l r c o = guard_odd n F us G r c o

module _ (L S : List ℕ) (at h i d : ℕ) (can : CanFollow L S at h) (so_far : Closing L S at h i d) where
  pub follow_comma : (k : ℕ) → k ≡ kind_at L i → k ≡ 5 → Followed L S at h S (std.Ok (Next (i + 1) d))
  follow_comma k ek e =
      let z = kind_inside L i (omega arith) in
      let a = so_far.height in
      let b = so_far.forward in
      let c = so_far.less in
      record { long = refl; forward = (omega arith, omega arith, omega arith, omega (arith, can.height)); says = λ w G r. reached_comma (frames S d) (toks w L i) (toks w L (i + 1)) G (so_far.says w G r) (mark_here w L i comma (sym ek ∙ e)) }

  pub follow_done : (k : ℕ) → k ≡ kind_at L i → (k ≡ 5 → ⊥) → d ≡ 0 → Followed L S at h S (std.Ok (Done i))
  unfolding frames
  follow_done k ek n e = record { long = refl; forward = (so_far.forward, so_far.inside); says = λ w G r. reached_end (toks w L i) G (subst (λ (m : ℕ). Reached (frames S m) (toks w L i) G) e (so_far.says w G r)) (mark_not w L i comma (λ z. n (ek ∙ z))) }

  pub can_turn : (k : ℕ) → k ≡ kind_at L i → (k ≡ 5 → ⊥) → (k ≡ 4 → ⊥) → (d ≡ 0 → ⊥) → CanTurn L S i d
  can_turn k ek a b n = record { inner = (let z : d ≡ 0 → ⊥ = n in omega arith); height = (let a = so_far.height in omega (arith, can.height)); comma = λ e. a (ek ∙ e); close = λ e. b (ek ∙ e) }

  pub follow_turn : (S' : List ℕ) (r : std.Result Onward Unparsed) → Followed L S i d S' r → Followed L S at h S' r
  follow_turn S' (std.Ok (Next j height)) f =
      let b = so_far.forward in
      let c = so_far.less in
      let u = f.forward in
      record { long = f.long; forward = (omega (arith, u.0), u.1, omega (arith, u.2), u.3); says = λ w G q. f.says w G (so_far.says w G q) }
  follow_turn S' (std.Ok (Done rest)) f =
      let b = so_far.forward in
      let u = f.forward in
      record { long = f.long; forward = (omega (arith, u.0), u.1); says = λ w G q. f.says w G (so_far.says w G q) }
  follow_turn S' (std.Err Odd) f = record { long = f.long; forward = tt; says = λ w G q. f.says w G (so_far.says w G q) }
  follow_turn S' (std.Err Short) f = (let a = so_far.height in let b = so_far.forward in record { long = f.long; forward = (omega (arith, f.forward.0), omega (arith, f.forward.1)); says = λ w G q. tt })

  pub follow_turned : (S₁ S' : List ℕ) (r : std.Result Onward Unparsed) → S₁ ≡ S → Followed L S₁ i d S' r → Followed L S at h S' r
  follow_turned S₁ S' r e f = follow_turn S' r (subst (λ (T : List ℕ). Followed L T i d S' r) e f)

  here : (w : ℕ → Name) (G : Read Statement) → (d ≡ 0 → ⊥) → Reached (frames S h) (toks w L at) G → Reached (get_or S (d - 1) 0 ∷ frames S (d - 1)) (toks w L i) G
  here w G n r = subst (λ (F : List ℕ). Reached F (toks w L i) G) (frames_top S d (omega arith)) (so_far.says w G r)

  pub follow_odd : (k : ℕ) → k ≡ kind_at L i → k ≡ 4 → (d ≡ 0 → ⊥) → 1 < get_or S (d - 1) 0 → Followed L S at h S (std.Err Odd)
  follow_odd k ek e n g = record { long = refl; forward = tt; says = λ w G r. close_odd (get_or S (d - 1) 0) (frames S (d - 1)) (toks w L i) G g (here w G n r) (mark_not w L i comma (λ z. omega arith)) (operator_not w L i (λ a b. omega arith)) }

  pub follow_close : (k : ℕ) → k ≡ kind_at L i → k ≡ 4 → (d ≡ 0 → ⊥) → get_or S (d - 1) 0 ≤ 1 → Closing L S at h (i + 1) (d - 1)
  follow_close k ek e n g =
      let z = kind_inside L i (omega arith) in
      let a = so_far.height in
      let b = so_far.forward in
      let c = so_far.less in
      record {
        height = omega arith;
        forward = omega arith;
        inside = omega arith;
        less = omega arith;
        says = λ w G r.
            close_one (get_or S (d - 1) 0) (frames S (d - 1)) (toks w L i) (toks w L (i + 1)) G g (here w G n r) (mark_not w L i comma (λ z. omega arith)) (operator_not w L i (λ a b. omega arith)) (mark_not w L i semicolon (λ z. omega arith)) (mark_here w L i close_bracket (sym ek ∙ e));
      }

-- the stack is as it was
pub unmoved : (L S S' : List ℕ) (at h : ℕ) (r : std.Result Onward Unparsed) → S' ≡ S → Followed L S at h S r → Followed L S at h S' r
unmoved L S S' at h r e f = subst (λ (T : List ℕ). Followed L S at h T r) (sym e) f
