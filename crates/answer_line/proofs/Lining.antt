-- The line from its first binding to its last. Assumes nothing.
use mathlib.Core.Path.{◌≡◌, refl, ap, sym, ◌∙◌, subst}
use mathlib.Core.Bool.{Bool}
use mathlib.Core.List.{List, [], ◌∷◌, ◌++◌, map}
use Prim.Native.Nat.{ℕ, suc, ◌+◌, ◌≤◌, ◌<◌}
use native.Mathlib.Decide.{dec_lt}
use native.Mathlib.Omega.{arith}
use lib.ListN.{length, get_or, drop, length-append, drop_of_length-le}
use lib.Seq.{drop-cons}
use Rattle.akl.specs.Base.{Name, bytes, size, range}
use Rattle.akl.specs.Answers.{terms, unknowns, unknowns_all, bindings_text, line_text}
use Rattle.mem_words.specs.declared.Word.{Word}
use Rattle.read_nodes.specs.Spell.{named}
use Rattle.work_tables.specs.Tables.{cells_of, pos_of, log_of, Laid, Logged}
use Rattle.answer_walk.specs.Line.{terms_from, Lining}
use Rattle.answer_walk.specs.Numbered.{Numbered}
use Rattle.answer_walk.proofs.Lines.{binding, line_begin, line_more, line_last}
use Rattle.answer_emit.specs.Put.{Put}
use Rattle.answer_emit.proofs.Put.{put_nothing, put_then, put_as}
use Rattle.answer_stack.specs.Slots.{Answered, answered_at, answered_to}
use Rattle.answer_turn.specs.Turning.{term_in, Shown}
use Rattle.answer_print.specs.Printing.{CanPrint, Printed}
use Rattle.answer_line.specs.Lined.{CanLine, whole, Bound}

pub low_name : {N Q : List ℕ} {i v : ℕ} → CanLine N Q → v ≡ get_or Q i 0 → i < length Q → v < length N
low_name {N} {Q} {i} {v} k e h = omega (arith, e, k.low i h)

-- where a text ends, the next may begin
pub put_room : {D O O' : List ℕ} {w : Bool} {at r : ℕ} → Put D w O at O' r → r ≤ length O' + 1
put_room {D} {O} {O'} {w} {at} {r} p = go (dec_lt (length O) (at + length D))
  where
    go : Dec (length O < at + length D) → r ≤ length O' + 1
    go (yes h) = omega (arith, p.over h, p.long)
    go (no h) = omega (arith, (p.fits (omega arith)).0, p.long)

-- a text that did not fit does not when it is longer
over_all : {D O O' : List ℕ} {w : Bool} {at a : ℕ} (A : List ℕ) → length D ≤ length A → length O < a → Put D w O at O' a → Put A w O at O' a
over_all {D} {O} {O'} {w} {at} {a} A n l p = record {
  fits = λ g. absurd (omega (arith, n, (p.fits (omega (arith, n))).0));
  over = λ g. go (dec_lt (length O) (at + length D));
  kept = p.kept;
  long = p.long;
}
  where
    go : Dec (length O < at + length D) → a ≡ length O + 1
    go (yes h) = p.over h
    go (no h) = absurd (omega (arith, (p.fits (omega arith)).0))

-- a name, ` = ` and a term
pub bound_of : {N : List ℕ} {W : List Word} {P T M M' O O₁ O₂ O' : List ℕ} {w : Bool} {v x c at a b c' at' : ℕ} → Put (named N v) w O at O₁ a → Put (bytes " = ") w O₁ a O₂ b → Printed N W P T M x c O₂ b w M' O' c' at' → Bound N W P T M v x c O at w M' O' c' at'
bound_of p q r = record { put = λ s k. put_then (put_then p q) (r.put s k); numbers = λ g. r.numbers (omega (arith, g, p.long, q.long)) }

pub next_print : {M O O₁ O₂ : List ℕ} {w : Bool} {D : List ℕ} {x c at a b : ℕ} → CanPrint M x c O at → Put D w O₁ a O₂ b → CanPrint M x c O₂ b
next_print k p = record { low = k.low; seen = k.seen; numbers = k.numbers; room = put_room p }

-- ---------------------------------------------------------------------------------------------
-- The variables from i on are to be written.

pub record Lined (N Q : List ℕ) (W : List Word) (P T : List ℕ) (O : List ℕ) (w : Bool) (M O' : List ℕ) (i c a : ℕ) : Type 0 where
  pub inside : i < length Q
  pub seen : List ℕ
  pub done : List ℕ
  pub line : Lining (term_in N W P T) i (map (named N) (drop i Q)) seen done (whole N Q W P T)
  pub numbers : Numbered M seen c 65535
  pub put : Put done w O 0 O' a

size_names : (g : ℕ → Name) (l : List ℕ) → size (map g l) ≡ length l
unfolding size
size_names g [] = refl
size_names g (x ∷ l) = ap suc (size_names g l)

module _ (N : List ℕ) (W : List Word) (P T : List ℕ) where
  pub line_first : (Q : List ℕ) → 0 < length Q → Lining (term_in N W P T) 0 (map (named N) (drop 0 Q)) [] [] (whole N Q W P T)
  line_first [] h = absurd (omega arith)
  line_first (v ∷ Q) h = subst (λ (n : ℕ). Lining (term_in N W P T) 0 (map (named N) (v ∷ Q)) [] [] (line_text (map (named N) (v ∷ Q)) (terms (term_in N W P T) (range 0 n)))) (size_names (named N) (v ∷ Q)) (line_begin (term_in N W P T) (named N v) (map (named N) Q))

  pub line_none : (Q : List ℕ) {O O' : List ℕ} {w : Bool} {r : ℕ} → length Q ≡ 0 → Put (bytes "true") w O 0 O' r → Put (whole N Q W P T) w O 0 O' r
  line_none [] e p = p
  line_none (v ∷ Q) e p = absurd (omega (arith, e))

  pub lined_start : (Q M O : List ℕ) (w : Bool) → 0 < length Q → Numbered M [] 0 65535 → Lined N Q W P T O w M O 0 0 0
  lined_start Q M O w h k = record { inside = h; seen = []; done = []; line = line_first Q h; numbers = k; put = put_nothing w O 0 (omega arith) }

  pub lined_at : {Q O M O' : List ℕ} {w : Bool} {i j c a : ℕ} → i ≡ j → Lined N Q W P T O w M O' i c a → Lined N Q W P T O w M O' j c a
  lined_at {Q} {O} {M} {O'} {w} {i} {j} {c} {a} e l = subst (λ (k : ℕ). Lined N Q W P T O w M O' k c a) e l

  pub lined_print : {Q O M O' : List ℕ} {w : Bool} {i x c a : ℕ} → x < 65535 → Lined N Q W P T O w M O' i c a → CanPrint M x c O' a
  lined_print h l = record { low = h; seen = l.seen; numbers = l.numbers; room = put_room l.put }

  -- the binding of the variable i, which has the name v
  module _ (Q : List ℕ) (i : ℕ) {v : ℕ} {s D : List ℕ} (e : v ≡ get_or Q i 0) (h : i < length Q) (l : Lining (term_in N W P T) i (map (named N) (drop i Q)) s D (whole N Q W P T)) where
    names : map (named N) (drop i Q) ≡ named N v ∷ map (named N) (drop (i + 1) Q)
    names = ap (map (named N)) (drop-cons Q i 0 h) ∙ ap (λ (z : ℕ). named N z ∷ map (named N) (drop (suc i) Q)) (sym e) ∙ ap (λ (k : ℕ). named N v ∷ map (named N) (drop k Q)) n
      where
        n : suc i ≡ i + 1
        n = omega arith

    lining : Lining (term_in N W P T) i (named N v ∷ map (named N) (drop (i + 1) Q)) s D (whole N Q W P T)
    lining = subst (λ (ys : List Name). Lining (term_in N W P T) i ys s D (whole N Q W P T)) names l

    -- the last one
    pub line_ends : i + 1 ≡ length Q → D ++ binding (named N v) (term_in N W P T i) s ≡ whole N Q W P T
    line_ends g = line_last (term_in N W P T) i (named N v) (subst (λ (ys : List Name). Lining (term_in N W P T) i (named N v ∷ ys) s D (whole N Q W P T)) none_left lining)
      where
        none_left : map (named N) (drop (i + 1) Q) ≡ []
        none_left = ap (map (named N)) (drop_of_length-le Q {i = i + 1} (omega (arith, g)))

    -- one that is not the last
    pub line_onwards : (i + 1 ≡ length Q → ⊥) → Lining (term_in N W P T) (i + 1) (map (named N) (drop (i + 1) Q)) (unknowns (term_in N W P T i) s) (D ++ (binding (named N v) (term_in N W P T i) s ++ bytes ", ")) (whole N Q W P T)
    line_onwards g = subst (λ (ys : List Name). Lining (term_in N W P T) (i + 1) ys (unknowns (term_in N W P T i) s) (D ++ (binding (named N v) (term_in N W P T i) s ++ bytes ", ")) (whole N Q W P T)) (sym next) (line_more (term_in N W P T) i (named N v) (named N (get_or Q (i + 1) 0)) (map (named N) (drop (suc (i + 1)) Q)) (subst (λ (ys : List Name). Lining (term_in N W P T) i (named N v ∷ ys) s D (whole N Q W P T)) next lining))
      where
        next : map (named N) (drop (i + 1) Q) ≡ named N (get_or Q (i + 1) 0) ∷ map (named N) (drop (suc (i + 1)) Q)
        next = ap (map (named N)) (drop-cons Q (i + 1) 0 (omega (arith, h, g)))

  module _ (Q : List ℕ) {O M O₁ M' O₂ : List ℕ} {w : Bool} {i v c a c' a' : ℕ} (e : v ≡ get_or Q i 0) (l : Lined N Q W P T O w M O₁ i c a) (b : Bound N W P T M v i c O₁ a w M' O₂ c' a') where
    text : Put (l.done ++ binding (named N v) (term_in N W P T i) l.seen) w O 0 O₂ a'
    text = put_then l.put (b.put l.seen l.numbers)

    pub lined_last : i + 1 ≡ length Q → Put (whole N Q W P T) w O 0 O₂ a'
    lined_last h = put_as (whole N Q W P T) (line_ends Q i e l.inside l.line h) text

    pub lined_over : (i + 1 ≡ length Q → ⊥) → length O₂ < a' → Put (whole N Q W P T) w O 0 O₂ a'
    lined_over h g = over_all (whole N Q W P T) shorter (omega (arith, g, text.long)) text
      where
        one : List ℕ
        one = binding (named N v) (term_in N W P T i) l.seen

        rest : List ℕ
        rest = bindings_text (map (named N) (drop (i + 1) Q)) (terms_from (term_in N W P T) (i + 1) (map (named N) (drop (i + 1) Q))) (unknowns_all (terms_from (term_in N W P T) (i + 1) (map (named N) (drop (i + 1) Q))) (unknowns (term_in N W P T i) l.seen))

        long : length ((l.done ++ (one ++ bytes ", ")) ++ rest) ≡ length (whole N Q W P T)
        long = ap length (line_onwards Q i e l.inside l.line h).text

        shorter : length (l.done ++ one) ≤ length (whole N Q W P T)
        shorter = omega (arith, long, length-append (l.done ++ (one ++ bytes ", ")) rest, length-append l.done (one ++ bytes ", "), length-append one (bytes ", "), length-append l.done one)

    pub lined_more : {O₃ : List ℕ} {a'' : ℕ} → (i + 1 ≡ length Q → ⊥) → a' ≤ length O₂ → length O₂ ≡ length O₁ → Put (bytes ", ") w O₂ a' O₃ a'' → Lined N Q W P T O w M' O₃ (i + 1) c' a''
    lined_more h g k p = record {
      inside = omega (arith, l.inside, h);
      seen = unknowns (term_in N W P T i) l.seen;
      done = l.done ++ (binding (named N v) (term_in N W P T i) l.seen ++ bytes ", ");
      line = line_onwards Q i e l.inside l.line h;
      numbers = b.numbers (omega (arith, g, k)) l.seen l.numbers;
      put = put_then l.put (put_then (b.put l.seen l.numbers) p);
    }

-- ---------------------------------------------------------------------------------------------
-- The solver's tables are as they were at first.

module _ {L X : List ℕ} (used : ℕ) (l : Logged used) (h : Laid L) (p : Answered L X) where
  pub shown_to : {N : List ℕ} → Shown N (log_of used L) (pos_of L) (cells_of L) → Shown N (log_of used X) (pos_of X) (cells_of X)
  shown_to {N} q = answered_to used (λ (W : List Word) (P T : List ℕ). Shown N W P T) l h p q

  pub bound_at : {N M M' O O' : List ℕ} {w : Bool} {v x c a c' a' : ℕ} → Bound N (log_of used X) (pos_of X) (cells_of X) M v x c O a w M' O' c' a' → Bound N (log_of used L) (pos_of L) (cells_of L) M v x c O a w M' O' c' a'
  bound_at {N} {M} {M'} {O} {O'} {w} {v} {x} {c} {a} {c'} {a'} q = answered_at used (λ (W : List Word) (P T : List ℕ). Bound N W P T M v x c O a w M' O' c' a') l h p q

  pub line_at : (N Q : List ℕ) {O O' : List ℕ} {w : Bool} {r : ℕ} → Put (whole N Q (log_of used X) (pos_of X) (cells_of X)) w O 0 O' r → Put (whole N Q (log_of used L) (pos_of L) (cells_of L)) w O 0 O' r
  line_at N Q {O} {O'} {w} {r} q = answered_at used (λ (W : List Word) (P T : List ℕ). Put (whole N Q W P T) w O 0 O' r) l h p q
