-- What each token does to the open brackets.
use mathlib.Core.Path.{◌≡◌, refl, ap, sym, ◌∙◌, subst}
use mathlib.Core.List.{List, [], ◌∷◌}
use mathlib.Core.Option.{Option, some, none}
use Prim.Native.Nat.{ℕ, zero, suc}
use Rattle.akl.specs.Base.{Name, ◌>>=◌}
use Rattle.akl.specs.Syntax.{Op}
use Rattle.akl.specs.Token.{Token, open_bracket, close_bracket, comma, semicolon}
use Rattle.akl.specs.Grammar.{Statement, single, joined, Simple, bracket, Bracket, choosing, Clause, written, Others, end, and_also}
use Rattle.akl.specs.Parse.{Read, after, an_operator, unclaused}
use Rattle.descent.specs.Descent.{the_hidden, the_statement, the_simple, the_bracket, the_others, the_clause, first_clause, guard_of}
use Rattle.descent.specs.Frames.{Form, Opens, Reached}
use Rattle.descent.proofs.Steps.{no_more_read, read_on, statement_none, statement_single, statement_joined, simple_bracket, bracket_none, bracket_hidden, first_no_operator, first_operator, others_end, others_more, clause_none, clause_hidden}

-- composition is associative, and what hands its result back changes nothing
assoc : {A B C : Type 0} (o : Option A) (f : A → Option B) (g : B → Option C) → ((o >>= f) >>= g) ≡ (o >>= λ x. f x >>= g)
assoc none f g = refl
assoc (some x) f g = refl

same_after : {A B : Type 0} (o : Option A) (f g : A → Option B) → ((x : A) → f x ≡ g x) → (o >>= f) ≡ (o >>= g)
same_after none f g h = refl
same_after (some x) f g h = h x

handed : (o : Read Statement) → o ≡ (o >>= λ t. some (t.0, t.1))
handed none = refl
handed (some t) = refl

pub opens_start : (ts : List Token) → Opens [] ts (the_statement ts)
unfolding Opens
opens_start ts = ((λ t. t), handed (the_statement ts))

-- what is odd inside is odd
pub opens_odd : (F : List ℕ) (ts : List Token) (G : Read Statement) → Opens F ts G → the_statement ts ≡ none → G ≡ none
unfolding Opens
opens_odd [] ts G o e = o.1 ∙ no_more_read (the_statement ts) _ e
opens_odd (f ∷ F) ts G o e =
    opens_odd F o.0 G o.6 (statement_none o.0 (simple_bracket o.0 o.1 o.3 ∙ no_more_read (the_bracket o.1) _ (o.4 ∙ no_more_read (the_statement ts) o.2 e)))

pub simple_odd : (F : List ℕ) (ts : List Token) (G : Read Statement) → Opens F ts G → the_simple ts ≡ none → G ≡ none
simple_odd F ts G o e = opens_odd F ts G o (statement_none ts e)

-- ---------------------------------------------------------------------------------------------
-- A comma: the statement goes on.

form_joined : (f : ℕ) (s : Simple) (K : Statement × List Token → Read Bracket) → Form f K → Form f (λ t. K (joined s t.0, t.1))
unfolding Form
form_joined zero s K h = (h.0, (λ t. h.1 (joined s t)), λ t. h.2 (joined s t.0, t.1))
form_joined (suc zero) s K h = ((λ b cs. h.0 (joined s b) cs), λ t. h.1 (joined s t.0, t.1))
form_joined (suc (suc n)) s K h = (h.0, (λ t. h.1 (joined s t)), h.2, λ t. h.3 (joined s t.0, t.1))

pub reached_comma : (F : List ℕ) (us rs : List Token) (G : Read Statement) → Reached F us G → after comma us ≡ some rs → Opens F rs G
unfolding Opens
reached_comma [] us rs G h c =
    let j = h.opens.0 in
    ((λ t. j (joined h.read t)), h.opens.1 ∙ ap (λ (o : Read Statement). o >>= λ t. some (j t.0, t.1)) (statement_joined h.from us rs h.read h.reads c) ∙ assoc (the_statement rs) (λ t. some (joined h.read t.0, t.1)) (λ t. some (j t.0, t.1)))
reached_comma (f ∷ F) us rs G h c =
    let o = h.opens in
    let K = o.2 in
    (o.0, o.1, (λ t. K (joined h.read t.0, t.1)), o.3, o.4 ∙ ap (λ (p : Read Statement). p >>= K) (statement_joined h.from us rs h.read h.reads c) ∙ assoc (the_statement rs) (λ t. some (joined h.read t.0, t.1)) K, form_joined f h.read K o.5, o.6)

-- No comma: the statement ends.
pub reached_end : (us : List Token) (G : Read Statement) → Reached [] us G → after comma us ≡ none → (t : Statement) × (G ≡ some (t, us))
unfolding Opens
reached_end us G h c = (h.opens.0 (single h.read), h.opens.1 ∙ read_on (the_statement h.from) (single h.read, us) _ (statement_single h.from us h.read h.reads c))

-- ---------------------------------------------------------------------------------------------
-- An opening bracket.

pub opens_bracket : (F : List ℕ) (ts qs us : List Token) (xs : List Name) (G : Read Statement) → Opens F ts G → after open_bracket ts ≡ some qs → the_hidden qs ≡ some (xs, us) → Opens (0 ∷ F) us G
unfolding Opens Form
opens_bracket F ts qs us xs G o e h = (ts, qs, first_clause xs, e, bracket_hidden qs us xs h, (xs, (λ t. t), λ t. refl), o)

pub bracket_odd : (F : List ℕ) (ts qs : List Token) (G : Read Statement) → Opens F ts G → after open_bracket ts ≡ some qs → the_hidden qs ≡ none → G ≡ none
bracket_odd F ts qs G o e h = simple_odd F ts G o (simple_bracket ts qs e ∙ no_more_read (the_bracket qs) _ (bracket_none qs h))

-- ---------------------------------------------------------------------------------------------
-- Behind a statement in a bracket.

-- the bracket, where its statement ends
ended : (f : ℕ) (F : List ℕ) (us : List Token) (G : Read Statement) (h : Reached (f ∷ F) us G) → after comma us ≡ none → (ps : List Token) × (qs : List Token) × (K : Statement × List Token → Read Bracket) × (after open_bracket ps ≡ some qs) × (the_bracket qs ≡ K (single h.read, us)) × Form f K × Opens F ps G
unfolding Opens
ended f F us G h c =
    let o = h.opens in
    (o.0, o.1, o.2, o.3, o.4 ∙ read_on (the_statement h.from) (single h.read, us) o.2 (statement_single h.from us h.read h.reads c), o.5, o.6)

-- a bracket that was read closes, or is odd
closed : (F : List ℕ) (ps qs us vs : List Token) (b : Bracket) (G : Read Statement) → Opens F ps G → after open_bracket ps ≡ some qs → the_bracket qs ≡ some (b, us) → after close_bracket us ≡ some vs → Reached F vs G
closed F ps qs us vs b G o e h c = record { from = ps; read = bracket b; opens = o; reads = simple_bracket ps qs e ∙ read_on (the_bracket qs) (b, us) _ h ∙ read_on (after close_bracket us) vs _ c }

unclosed : (F : List ℕ) (ps qs us : List Token) (b : Bracket) (G : Read Statement) → Opens F ps G → after open_bracket ps ≡ some qs → the_bracket qs ≡ some (b, us) → after close_bracket us ≡ none → G ≡ none
unclosed F ps qs us b G o e h c = simple_odd F ps G o (simple_bracket ps qs e ∙ read_on (the_bracket qs) (b, us) _ h ∙ no_more_read (after close_bracket us) _ c)

none_inside : (F : List ℕ) (ps qs : List Token) (G : Read Statement) → Opens F ps G → after open_bracket ps ≡ some qs → the_bracket qs ≡ none → G ≡ none
none_inside F ps qs G o e h = simple_odd F ps G o (simple_bracket ps qs e ∙ no_more_read (the_bracket qs) _ h)

-- the first statement: an operator, or the end
pub first_op : (F : List ℕ) (us rs : List Token) (op : Op) (G : Read Statement) → Reached (0 ∷ F) us G → after comma us ≡ none → an_operator us ≡ some (op, rs) → Opens (1 ∷ F) rs G
unfolding Opens Form
first_op F us rs op G h c e =
    let q = ended 0 F us G h c in
    let xs = q.5.0 in
    let s = q.5.1 (single h.read) in
    (q.0, q.1, (λ b. the_others b.1 >>= λ cs. some (choosing (written xs s op b.0) cs.0, cs.1)), q.3, q.4 ∙ q.5.2 (single h.read, us) ∙ first_operator xs s us rs op e, ((λ b cs. choosing (written xs s op b) cs), λ t. refl), q.6)

first_read : (F : List ℕ) (us : List Token) (G : Read Statement) (h : Reached (0 ∷ F) us G) → after comma us ≡ none → an_operator us ≡ none → (ps : List Token) × (qs : List Token) × (b : Bracket) × (after open_bracket ps ≡ some qs) × (the_bracket qs ≡ some (b, us)) × Opens F ps G
unfolding Form
first_read F us G h c e =
    let q = ended 0 F us G h c in
    let xs = q.5.0 in
    let s = q.5.1 (single h.read) in
    (q.0, q.1, unclaused xs s, q.3, q.4 ∙ q.5.2 (single h.read, us) ∙ first_no_operator xs s us e, q.6)

pub first_close : (F : List ℕ) (us vs : List Token) (G : Read Statement) → Reached (0 ∷ F) us G → after comma us ≡ none → an_operator us ≡ none → after close_bracket us ≡ some vs → Reached F vs G
first_close F us vs G h c e d =
    let q = first_read F us G h c e in
    closed F q.0 q.1 us vs q.2 G q.5 q.3 q.4 d

pub first_odd : (F : List ℕ) (us : List Token) (G : Read Statement) → Reached (0 ∷ F) us G → after comma us ≡ none → an_operator us ≡ none → after close_bracket us ≡ none → G ≡ none
first_odd F us G h c e d =
    let q = first_read F us G h c e in
    unclosed F q.0 q.1 us q.2 G q.5 q.3 q.4 d

-- a body: another clause, or the end
body_clause : (F : List ℕ) (us rs : List Token) (G : Read Statement) (h : Reached (1 ∷ F) us G) → after comma us ≡ none → after semicolon us ≡ some rs → (ps : List Token) × (qs : List Token) × (k : Clause → Others → Bracket) × (after open_bracket ps ≡ some qs) × (the_bracket qs ≡ (the_clause rs >>= λ d. the_others d.1 >>= λ cs. some (k d.0 cs.0, cs.1))) × Opens F ps G
unfolding Form
body_clause F us rs G h c e =
    let q = ended 1 F us G h c in
    let k = q.5.0 in
    let s = single h.read in (
      q.0,
      q.1,
      (λ d cs. k s (and_also d cs)),
      q.3,
      q.4 ∙ q.5.1 (s, us)
          ∙ ap (λ (o : Read Others). o >>= λ cs. some (k s cs.0, cs.1)) (others_more us rs e)
          ∙ assoc (the_clause rs) (λ d. the_others d.1 >>= λ cs. some (and_also d.0 cs.0, cs.1)) (λ cs. some (k s cs.0, cs.1))
          ∙ same_after (the_clause rs) _ _ (λ d. assoc (the_others d.1) (λ cs. some (and_also d.0 cs.0, cs.1)) (λ cs. some (k s cs.0, cs.1))),
      q.6,
    )

pub body_next : (F : List ℕ) (us rs vs : List Token) (xs : List Name) (G : Read Statement) → Reached (1 ∷ F) us G → after comma us ≡ none → after semicolon us ≡ some rs → the_hidden rs ≡ some (xs, vs) → Opens (2 ∷ F) vs G
unfolding Opens Form
body_next F us rs vs xs G h c e d =
    let q = body_clause F us rs G h c e in
    let k = q.2 in (
      q.0,
      q.1,
      (λ t. guard_of xs t >>= λ d. the_others d.1 >>= λ cs. some (k d.0 cs.0, cs.1)),
      q.3,
      q.4 ∙ ap (λ (o : Read Clause). o >>= λ d. the_others d.1 >>= λ cs. some (k d.0 cs.0, cs.1)) (clause_hidden rs vs xs d)
          ∙ assoc (the_statement vs) (guard_of xs) (λ d. the_others d.1 >>= λ cs. some (k d.0 cs.0, cs.1)),
      (xs, (λ t. t), k, λ t. refl),
      q.5,
    )

pub body_next_odd : (F : List ℕ) (us rs : List Token) (G : Read Statement) → Reached (1 ∷ F) us G → after comma us ≡ none → after semicolon us ≡ some rs → the_hidden rs ≡ none → G ≡ none
body_next_odd F us rs G h c e d =
    let q = body_clause F us rs G h c e in
    none_inside F q.0 q.1 G q.5 q.3 (q.4 ∙ no_more_read (the_clause rs) _ (clause_none rs d))

body_read : (F : List ℕ) (us : List Token) (G : Read Statement) (h : Reached (1 ∷ F) us G) → after comma us ≡ none → after semicolon us ≡ none → (ps : List Token) × (qs : List Token) × (b : Bracket) × (after open_bracket ps ≡ some qs) × (the_bracket qs ≡ some (b, us)) × Opens F ps G
unfolding Form
body_read F us G h c e =
    let q = ended 1 F us G h c in
    let k = q.5.0 in
    let s = single h.read in
    (q.0, q.1, k s end, q.3, q.4 ∙ q.5.1 (s, us) ∙ read_on (the_others us) (end, us) _ (others_end us e), q.6)

pub body_close : (F : List ℕ) (us vs : List Token) (G : Read Statement) → Reached (1 ∷ F) us G → after comma us ≡ none → after semicolon us ≡ none → after close_bracket us ≡ some vs → Reached F vs G
body_close F us vs G h c e d =
    let q = body_read F us G h c e in
    closed F q.0 q.1 us vs q.2 G q.5 q.3 q.4 d

pub body_odd : (F : List ℕ) (us : List Token) (G : Read Statement) → Reached (1 ∷ F) us G → after comma us ≡ none → after semicolon us ≡ none → after close_bracket us ≡ none → G ≡ none
body_odd F us G h c e d =
    let q = body_read F us G h c e in
    unclosed F q.0 q.1 us q.2 G q.5 q.3 q.4 d

-- the guard of a later clause: an operator
pub guard_op : (n : ℕ) (F : List ℕ) (us rs : List Token) (op : Op) (G : Read Statement) → Reached (suc (suc n) ∷ F) us G → after comma us ≡ none → an_operator us ≡ some (op, rs) → Opens (1 ∷ F) rs G
unfolding Opens Form guard_of
guard_op n F us rs op G h c e =
    let q = ended (suc (suc n)) F us G h c in
    let xs = q.5.0 in
    let s = q.5.1 (single h.read) in
    let k = q.5.2 in
    let go : Clause × List Token → Read Bracket = λ d. the_others d.1 >>= λ cs. some (k d.0 cs.0, cs.1) in (
      q.0,
      q.1,
      (λ b. the_others b.1 >>= λ cs. some (k (written xs s op b.0) cs.0, cs.1)),
      q.3,
      q.4 ∙ q.5.3 (single h.read, us)
          ∙ ap (λ (o : Read Clause). o >>= go) (read_on (an_operator us) (op, rs) (λ o. the_statement o.1 >>= λ b. some (written xs s o.0 b.0, b.1)) e)
          ∙ assoc (the_statement rs) (λ b. some (written xs s op b.0, b.1)) go,
      ((λ b cs. k (written xs s op b) cs), λ t. refl),
      q.6,
    )

pub guard_odd : (n : ℕ) (F : List ℕ) (us : List Token) (G : Read Statement) → Reached (suc (suc n) ∷ F) us G → after comma us ≡ none → an_operator us ≡ none → G ≡ none
unfolding Form guard_of
guard_odd n F us G h c e =
    let q = ended (suc (suc n)) F us G h c in
    let xs = q.5.0 in
    let s = q.5.1 (single h.read) in
    let k = q.5.2 in
    none_inside F q.0 q.1 G q.6 q.3 (q.4 ∙ q.5.3 (single h.read, us) ∙ ap (λ (o : Read Clause). o >>= λ d. the_others d.1 >>= λ cs. some (k d.0 cs.0, cs.1)) (no_more_read (an_operator us) (λ o. the_statement o.1 >>= λ b. some (written xs s o.0 b.0, b.1)) e))
