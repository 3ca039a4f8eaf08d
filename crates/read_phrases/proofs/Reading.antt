-- What the readers of phrases find, branch by branch.
use mathlib.Core.Path.{◌≡◌, refl, ap, sym, ◌∙◌, subst}
use mathlib.Core.Logic.{◌⊎◌, inl, inr}
use mathlib.Core.List.{List, [], ◌∷◌, ◌++◌, append-nil}
use mathlib.Core.Bool.{Bool, true, false}
use mathlib.Core.Option.{Option, some, none}
use Prim.Native.Nat.{ℕ, zero, suc, ◌+◌, ◌*◌, ◌/◌, ◌%◌, ◌≤◌, ◌<◌}
use native.Mathlib.Omega.{arith}
use native.Mathlib.Nat.{not-suc-le-zero, le_of_suc-le-suc}
use lib.Dec.{eqb}
use lib.ListN.{length, get_or, get_or-eq_default}
use borrow.Author.Tests.{eq-eqb, ne_eqb}
use Rattle.mem_numbers.specs.Stored.{get_d_any}
use Rattle.constraint.specs.Constraint.{ctrue, cfail, ceq, capp}
use Rattle.akl.specs.Base.{Name, bytes, size, same, when, if, ◌>>=◌}
use Rattle.akl.specs.Token.{Token, open_bracket, close_bracket, comma, colon, equals}
use Rattle.akl.specs.Grammar.{Simple, constraint, program}
use Rattle.akl.specs.Parse.{Read, after, a_variable, a_name, a_label}
use Rattle.descent.specs.Descent.{the_variables, the_arguments, the_hidden, the_equation, the_named, the_simple, the_atom}
use Rattle.descent.proofs.Steps.{no_more_read, read_on, variables_none, variables_last, variables_more, arguments_left_out, arguments_in, hidden_left_out, hidden_equation, hidden_list, equation_variable, equation_other, named_step, simple_atom}
use Rattle.read_phrases.specs.Codes.{Known, kind_at, number_at, toks, kind_inside, mark_here, mark_not, variable_here, variable_not, name_here, name_not, label_here, label_not}
use Rattle.read_phrases.specs.Phrases.{names, VariablesRead, VariablesTo, ArgumentsRead, ArgumentsTo, HiddenRead, HiddenTo, Reserved, con_of, SimpleAt, CanEquate, CanName}
use Rattle.read_phrases.specs.Phrases as p
use Rattle.read_phrases.specs.declared.Phrase.TheVariants.{To, Odd}
use Rattle.read_phrases.specs.declared.Constraint.TheVariants.{True, Fail, Same, Made}
use Rattle.read_phrases.specs.declared.Simple.TheVariants.{Atom, Program, Bracket, Odd as Nothing}

pub kind_got : (L : List ℕ) (i c r : ℕ) → i < length L → c ≡ get_or L i 0 → r ≡ c % 256 → r ≡ kind_at L i
unfolding kind_at
kind_got L i c r h e f = f ∙ ap (λ (x : ℕ). x % 256) (e ∙ get_d_any L i 0 255 h)

pub number_got : (L : List ℕ) (i c r : ℕ) → i < length L → c ≡ get_or L i 0 → r ≡ c / 256 → r ≡ number_at L i
unfolding number_at
number_got L i c r h e f = f ∙ ap (λ (x : ℕ). x / 256) (e ∙ get_d_any L i 0 255 h)

pub kind_past : (L : List ℕ) (i : ℕ) → length L ≤ i → 255 ≡ kind_at L i
unfolding kind_at
kind_past L i h = ap (λ (x : ℕ). x % 256) (sym (get_or-eq_default L 255 h))

pub number_past : (L : List ℕ) (i : ℕ) → length L ≤ i → 0 ≡ number_at L i
unfolding number_at
number_past L i h = ap (λ (x : ℕ). x / 256) (sym (get_or-eq_default L 255 h))

-- ---------------------------------------------------------------------------------------------
-- Lists of variables.

names_more : (w : ℕ → Name) (L : List ℕ) (m i : ℕ) (xs : List Name) → names w L m i ++ (w (number_at L (i + 2 * m)) ∷ xs) ≡ names w L (suc m) i ++ xs
unfolding names
names_more w L zero i xs = let e : i + 2 * 0 ≡ i = omega arith in ap (λ (k : ℕ). w (number_at L k) ∷ xs) e
names_more w L (suc m) i xs =
    let e : i + 2 * suc m ≡ i + 2 + 2 * m = omega arith in
    ap (λ (l : List Name). w (number_at L i) ∷ l) (ap (λ (k : ℕ). names w L m (i + 2) ++ (w (number_at L k) ∷ xs)) e ∙ names_more w L m (i + 2) xs)

pub names_size : (w : ℕ → Name) (L : List ℕ) (m i : ℕ) → size (names w L m i) ≡ m
unfolding names size
names_size w L zero i = refl
names_size w L (suc m) i = ap suc (names_size w L m (i + 2))

-- m variables were read, each with its comma
pub record Variables (L : List ℕ) (at i m : ℕ) : Type 0 where
  pub place : i ≡ at + 2 * m
  pub reads : (w : ℕ → Name) → the_variables (toks w L at) ≡ (the_variables (toks w L i) >>= λ r. some (names w L m at ++ r.0, r.1))

handed : (o : Read (List Name)) → o ≡ (o >>= λ r. some (r.0, r.1))
handed none = refl
handed (some r) = refl

pub variables_start : (L : List ℕ) (at : ℕ) → Variables L at at 0
unfolding names
variables_start L at = record { place = omega arith; reads = λ w. handed (the_variables (toks w L at)) }

assoc : (o : Read (List Name)) (f g : List Name × List Token → Read (List Name)) → ((o >>= f) >>= g) ≡ (o >>= λ x. f x >>= g)
assoc none f g = refl
assoc (some x) f g = refl

same_after : (o : Read (List Name)) (f g : List Name × List Token → Read (List Name)) → ((x : List Name × List Token) → f x ≡ g x) → (o >>= f) ≡ (o >>= g)
same_after none f g h = refl
same_after (some x) f g h = h x

module _ (L : List ℕ) (at i m : ℕ) (so_far : Variables L at i m) where
  pub variables_odd : (kind_at L i ≡ 2 → ⊥) → VariablesTo L at Odd
  variables_odd h w = so_far.reads w ∙ no_more_read (the_variables (toks w L i)) _ (variables_none (toks w L i) (variable_not w L i h))

  snoc : (w : ℕ → Name) (xs : List Name) → names w L m at ++ (w (number_at L i) ∷ xs) ≡ names w L (suc m) at ++ xs
  snoc w xs = ap (λ (k : ℕ). names w L m at ++ (w (number_at L k) ∷ xs)) so_far.place ∙ names_more w L m at xs

  pub variables_next : kind_at L i ≡ 2 → kind_at L (i + 1) ≡ 5 → Variables L at (i + 1 + 1) (m + 1)
  variables_next v c = record {
    place = (let e = so_far.place in omega arith);
    reads = λ w.
        so_far.reads w
        ∙ ap (λ (o : Read (List Name)). o >>= λ r. some (names w L m at ++ r.0, r.1)) (variables_more (toks w L i) (toks w L (i + 1)) (toks w L (i + 1 + 1)) (w (number_at L i)) (variable_here w L i v) (mark_here w L (i + 1) comma c))
        ∙ assoc (the_variables (toks w L (i + 1 + 1))) _ _
        ∙ same_after (the_variables (toks w L (i + 1 + 1))) _ _ (λ r. ap (λ (l : List Name). some (l, r.1)) (snoc w r.0 ∙ (let e : suc m ≡ m + 1 = omega arith in ap (λ (n : ℕ). names w L n at ++ r.0) e)));
  }

  pub variables_to : kind_at L i ≡ 2 → (kind_at L (i + 1) ≡ 5 → ⊥) → VariablesTo L at (To (i + 1) (m + 1))
  variables_to v c = record {
    many = omega arith;
    place = (let e = so_far.place in omega arith);
    inside = (let h = kind_inside L i (omega arith) in omega arith);
    reads = λ w.
        so_far.reads w
        ∙ read_on (the_variables (toks w L i)) (w (number_at L i) ∷ [], toks w L (i + 1)) _ (variables_last (toks w L i) (toks w L (i + 1)) (w (number_at L i)) (variable_here w L i v) (mark_not w L (i + 1) comma c))
        ∙ ap (λ (l : List Name). some (l, toks w L (i + 1))) (snoc w [] ∙ append-nil (names w L (suc m) at) ∙ (let e : suc m ≡ m + 1 = omega arith in ap (λ (n : ℕ). names w L n at) e));
  }

module _ (L : List ℕ) (at : ℕ) where
  pub arguments_without : (kind_at L at ≡ 3 → ⊥) → ArgumentsTo L at (To at 0)
  unfolding names
  arguments_without h = record { place = inl (refl, refl); reads = λ w. arguments_left_out (toks w L at) (mark_not w L at open_bracket h) }

  opened : (w : ℕ → Name) → kind_at L at ≡ 3 → the_arguments (toks w L at) ≡ (the_variables (toks w L (at + 1)) >>= λ xs. after close_bracket xs.1 >>= λ u. some (xs.0, u))
  opened w h = arguments_in (toks w L at) (toks w L (at + 1)) (mark_here w L at open_bracket h)

  pub arguments_odd : kind_at L at ≡ 3 → VariablesTo L (at + 1) Odd → ArgumentsTo L at Odd
  arguments_odd h v w = opened w h ∙ no_more_read (the_variables (toks w L (at + 1))) _ (v w)

  pub arguments_unclosed : (rest count : ℕ) → kind_at L at ≡ 3 → VariablesTo L (at + 1) (To rest count) → (kind_at L rest ≡ 4 → ⊥) → ArgumentsTo L at Odd
  arguments_unclosed rest count h v c w = opened w h ∙ read_on (the_variables (toks w L (at + 1))) _ _ (v.reads w) ∙ no_more_read (after close_bracket (toks w L rest)) _ (mark_not w L rest close_bracket c)

  pub arguments_closed : (rest count : ℕ) → kind_at L at ≡ 3 → VariablesTo L (at + 1) (To rest count) → kind_at L rest ≡ 4 → ArgumentsTo L at (To (rest + 1) count)
  arguments_closed rest count h v c = record {
    place = (let a = v.many in let b = v.place in let i = kind_inside L rest (omega arith) in inr (a, omega arith, omega arith));
    reads = λ w. opened w h ∙ read_on (the_variables (toks w L (at + 1))) _ _ (v.reads w) ∙ read_on (after close_bracket (toks w L rest)) _ _ (mark_here w L rest close_bracket c);
  }

  pub hidden_without : (kind_at L at ≡ 2 → ⊥) → HiddenTo L at (To at 0)
  unfolding names
  hidden_without h = record { place = inl (refl, refl); reads = λ w. hidden_left_out (toks w L at) (variable_not w L at h) }

  pub hidden_equals : kind_at L at ≡ 2 → kind_at L (at + 1) ≡ 9 → HiddenTo L at (To at 0)
  unfolding names
  hidden_equals v e = record { place = inl (refl, refl); reads = λ w. hidden_equation (toks w L at) (toks w L (at + 1)) (toks w L (at + 1 + 1)) (w (number_at L at)) (variable_here w L at v) (mark_here w L (at + 1) equals e) }

  listed : (w : ℕ → Name) → kind_at L at ≡ 2 → (kind_at L (at + 1) ≡ 9 → ⊥) → the_hidden (toks w L at) ≡ (the_variables (toks w L at) >>= λ xs. after colon xs.1 >>= λ u. some (xs.0, u))
  listed w v e = hidden_list (toks w L at) (toks w L (at + 1)) (w (number_at L at)) (variable_here w L at v) (mark_not w L (at + 1) equals e)

  pub hidden_odd : kind_at L at ≡ 2 → (kind_at L (at + 1) ≡ 9 → ⊥) → VariablesTo L at Odd → HiddenTo L at Odd
  hidden_odd v e h w = listed w v e ∙ no_more_read (the_variables (toks w L at)) _ (h w)

  pub hidden_uncolon : (rest count : ℕ) → kind_at L at ≡ 2 → (kind_at L (at + 1) ≡ 9 → ⊥) → VariablesTo L at (To rest count) → (kind_at L rest ≡ 7 → ⊥) → HiddenTo L at Odd
  hidden_uncolon rest count v e h c w = listed w v e ∙ read_on (the_variables (toks w L at)) _ _ (h.reads w) ∙ no_more_read (after colon (toks w L rest)) _ (mark_not w L rest colon c)

  pub hidden_colon : (rest count : ℕ) → kind_at L at ≡ 2 → (kind_at L (at + 1) ≡ 9 → ⊥) → VariablesTo L at (To rest count) → kind_at L rest ≡ 7 → HiddenTo L at (To (rest + 1) count)
  hidden_colon rest count v e h c = record {
    place = (let a = h.many in let b = h.place in let i = kind_inside L rest (omega arith) in inr (a, omega arith, omega arith));
    reads = λ w. listed w v e ∙ read_on (the_variables (toks w L at)) _ _ (h.reads w) ∙ read_on (after colon (toks w L rest)) _ _ (mark_here w L rest colon c);
  }
