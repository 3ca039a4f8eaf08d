-- Brackets that are open while a statement is read, so that a reader can keep them on a stack of its own. For each open
-- bracket a number says what may follow: 0, its first statement is being read, so that an operator may follow or its end;
-- 1, the body of a clause, so that a `;` may follow or the end; 2 and above, the guard of a later clause, which an operator
-- must follow.
use Rattle.std.specs.Prelude.{◌≡◌, List, [], ◌∷◌, ℕ, zero, suc}
use Rattle.std.proofs.Math.Option.{some}
use Rattle.akl.specs.Base.{Name, ◌>>=◌}
use Rattle.akl.specs.Token.{Token, open_bracket}
use Rattle.akl.specs.Grammar.{Statement, Simple, Bracket, Clause, Others}
use Rattle.akl.specs.Parse.{Read, after}
use Rattle.descent.specs.Descent.{the_statement, the_simple, the_bracket, the_others, first_clause, guard_of}

-- What the grammar does behind the statement that is being read, by the bracket's number.
unfoldable pub Form : ℕ → (Statement × List Token → Read Bracket) → Type 0
Form zero K = (xs : List Name) × (j : Statement → Statement) × ((t : Statement × List Token) → K t ≡ first_clause xs (j t.0, t.1))
Form (suc zero) K = (k : Statement → Others → Bracket) × ((t : Statement × List Token) → K t ≡ (the_others t.1 >>= λ cs. some (k t.0 cs.0, cs.1)))
Form (suc (suc n)) K = (xs : List Name) × (j : Statement → Statement) × (k : Clause → Others → Bracket) × ((t : Statement × List Token) → K t ≡ (guard_of xs (j t.0, t.1) >>= λ c. the_others c.1 >>= λ cs. some (k c.0 cs.0, cs.1)))

-- The outer statement reads as G says if the tokens ts go on, inside these brackets, with a statement: innermost first.
unfoldable pub Opens : List ℕ → List Token → Read Statement → Type 0
Opens [] ts G = (j : Statement → Statement) × (G ≡ (the_statement ts >>= λ t. some (j t.0, t.1)))
Opens (f ∷ F) ts G = (ps : List Token) × (qs : List Token) × (K : Statement × List Token → Read Bracket) × (after open_bracket ps ≡ some qs) × (the_bracket qs ≡ (the_statement ts >>= K)) × Form f K × Opens F ps G

-- The same, where a simple statement of it has been read and the tokens us are behind it.
pub record Reached (F : List ℕ) (us : List Token) (G : Read Statement) : Type 0 where
  pub from : List Token
  pub read : Simple
  pub opens : Opens F from G
  pub reads : the_simple from ≡ some (read, us)
