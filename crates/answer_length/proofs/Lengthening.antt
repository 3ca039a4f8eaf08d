-- The length of the line from its first binding to its last. Assumes nothing.
use mathlib.Core.Path.{◌≡◌, refl, ap, ap₂, sym, ◌∙◌, subst}
use mathlib.Core.Bool.{false}
use mathlib.Core.List.{List, [], ◌∷◌, ◌++◌, map}
use Prim.Native.Nat.{ℕ, ◌+◌, ◌<◌}
use native.Mathlib.Omega.{arith}
use lib.ListN.{length, get_or, drop, length-append}
use Rattle.akl.specs.Base.{Name, bytes, bytes_from}
use Rattle.akl.specs.Answers.{Term, unknowns, term_text}
use Rattle.mem_words.specs.declared.Word.{Word}
use Rattle.read_nodes.specs.Spell.{named}
use Rattle.work_tables.specs.Tables.{cells_of, pos_of, log_of, Laid, Logged}
use Rattle.answer_text.specs.Lengths.{term_length, cap}
use Rattle.answer_text.proofs.Lengths.{term_length_text}
use Rattle.answer_text.proofs.Caps.{cap_same, cap_more, cap_left, cap_sum}
use Rattle.answer_walk.specs.Line.{Lining}
use Rattle.answer_walk.specs.Numbered.{Numbered}
use Rattle.answer_walk.proofs.Lines.{binding}
use Rattle.answer_emit.specs.Put.{put, Put}
use Rattle.answer_known.specs.Known.{Counted, NoneKnown, counted_at, counted_to}
use Rattle.answer_turn.specs.Turning.{term_in, Shown}
use Rattle.answer_order.specs.Memo.{Met}
use Rattle.answer_order.proofs.Memo.{memo_none}
use Rattle.answer_size.specs.Sizes.{CanMeasure, Sized}
use Rattle.answer_visit.specs.Visiting.{CanVisit, Visited}
use Rattle.answer_line.specs.Lined.{whole}
use Rattle.answer_line.proofs.Lining.{line_first, line_ends, line_onwards}
use Rattle.answer_length.specs.Long.{BoundLong}

-- ---------------------------------------------------------------------------------------------
-- One binding.

binding_long : (g : Name) (t : Term) (s : List ℕ) → length (g ++ bytes " = " ++ term_text t s) ≡ length g + 3 + term_length t s
unfolding bytes bytes_from
binding_long g t s = omega (arith, length-append (g ++ bytes " = ") (term_text t s), length-append g (bytes " = "), term_length_text t s)

cap_three : (m at n t : ℕ) → cap m (cap m (cap m (at + n) + 3) + cap m t) ≡ cap m (at + (n + 3 + t))
cap_three m at n t =
    let e : at + n + 3 + t ≡ at + (n + 3 + t) = omega arith in
    ap (λ (z : ℕ). cap m (z + cap m t)) (cap_left m (at + n) 3) ∙ cap_sum m (at + n + 3) t ∙ ap (cap m) e

module _ {N : List ℕ} {W : List Word} {P T M G M' G' : List ℕ} {x c m c' : ℕ} (sh : Shown N W P T) where
  pub bound_can : CanVisit N W P T M G x c m → Visited N W P T M G x c m M' G' c' → CanMeasure P T M' G' x m
  bound_can k v = record { low = k.low; names = N; words = W; shown = sh; seen = unknowns (term_in N W P T x) k.seen; count = c'; met = v.met k.seen k.met; done = v.done k.seen k.met }

  pub bound_of : {n a b l r : ℕ} (v at : ℕ) → n ≡ length (named N v) → a ≡ cap m (at + n) → b ≡ cap m (a + 3) → Visited N W P T M G x c m M' G' c' → Sized P T M' G' x m l → r ≡ cap m (b + l) → BoundLong N W P T M G v x c m at M' G' c' r
  bound_of {n} {a} {b} {l} {r} v at en ea eb vs z er = record {
    is = λ s k.
        let u : List ℕ = unknowns (term_in N W P T x) s in
        let t : ℕ = term_length (term_in N W P T x) u in
        let el : l ≡ cap m t = z.is N W sh u c' (vs.met s k) (vs.done s k) in
        er ∙ ap₂ (λ (y i : ℕ). cap m (y + i)) (eb ∙ ap (λ (y : ℕ). cap m (y + 3)) ea) el ∙ cap_three m at n t ∙ ap (λ (y : ℕ). cap m (at + (y + 3 + t))) en ∙ ap (λ (y : ℕ). cap m (at + y)) (sym (binding_long (named N v) (term_in N W P T x) u));
    met = vs.met;
  }

-- ---------------------------------------------------------------------------------------------
-- The variables from i on are to be counted.

pub record Lengthened (N Q : List ℕ) (W : List Word) (P T : List ℕ) (m : ℕ) (M G : List ℕ) (i c a : ℕ) : Type 0 where
  pub inside : i < length Q
  pub seen : List ℕ
  pub done : List ℕ
  pub line : Lining (term_in N W P T) i (map (named N) (drop i Q)) seen done (whole N Q W P T)
  pub met : Met (term_in N W P T) T M G c m seen
  pub long : a ≡ cap m (length done)

comma_long : (D o : List ℕ) → length D + length o + 2 ≡ length (D ++ (o ++ bytes ", "))
unfolding bytes bytes_from
comma_long D o = omega (arith, length-append D (o ++ bytes ", "), length-append o (bytes ", "))

module _ (N : List ℕ) (W : List Word) (P T : List ℕ) where
  true_long : (m : ℕ) → cap m (0 + 4) ≡ cap m (length (bytes "true"))
  unfolding bytes bytes_from
  true_long m = refl

  pub none_long : (Q : List ℕ) (m : ℕ) {r : ℕ} → length Q ≡ 0 → r ≡ cap m (0 + 4) → r ≡ cap m (length (whole N Q W P T))
  none_long [] m e q = q ∙ true_long m
  none_long (v ∷ Q) m e q = absurd (omega (arith, e))

  pub long_start : (Q M G : List ℕ) (m : ℕ) → 0 < length Q → Numbered M [] 0 65535 → NoneKnown G → Lengthened N Q W P T m M G 0 0 0
  long_start Q M G m h k z = record { inside = h; seen = []; done = []; line = line_first N W P T Q h; met = record { numbers = k; memo = memo_none (term_in N W P T) T z.zero }; long = sym (cap_same m 0 (omega arith)) }

  pub long_at : {Q M G : List ℕ} {m i j c a : ℕ} → i ≡ j → Lengthened N Q W P T m M G i c a → Lengthened N Q W P T m M G j c a
  long_at {Q} {M} {G} {m} {i} {j} {c} {a} e l = subst (λ (k : ℕ). Lengthened N Q W P T m M G k c a) e l

  pub long_can : {Q M G : List ℕ} {m i c a : ℕ} → i < 65535 → Lengthened N Q W P T m M G i c a → CanVisit N W P T M G i c m
  long_can h l = record { low = h; seen = l.seen; met = l.met }

  module _ (Q : List ℕ) {M G M' G' : List ℕ} {m i v c a c' a' : ℕ} (e : v ≡ get_or Q i 0) (l : Lengthened N Q W P T m M G i c a) (b : BoundLong N W P T M G v i c m a M' G' c' a') where
    abbrev one : List ℕ
    one = binding (named N v) (term_in N W P T i) l.seen

    so_far : a' ≡ cap m (length l.done + length one)
    so_far = b.is l.seen l.met ∙ ap (λ (z : ℕ). cap m (z + length one)) l.long ∙ cap_left m (length l.done) (length one)

    pub long_last : i + 1 ≡ length Q → a' ≡ cap m (length (whole N Q W P T))
    long_last h = so_far ∙ ap (cap m) (sym (length-append l.done one) ∙ ap length (line_ends N W P T Q i e l.inside l.line h))

    pub long_more : {a'' : ℕ} → (i + 1 ≡ length Q → ⊥) → a'' ≡ cap m (a' + 2) → Lengthened N Q W P T m M' G' (i + 1) c' a''
    long_more {a''} h q = record {
      inside = omega (arith, l.inside, h);
      seen = unknowns (term_in N W P T i) l.seen;
      done = l.done ++ (one ++ bytes ", ");
      line = line_onwards N W P T Q i e l.inside l.line h;
      met = b.met l.seen l.met;
      long = q ∙ ap (λ (z : ℕ). cap m (z + 2)) so_far ∙ cap_left m (length l.done + length one) 2 ∙ ap (cap m) (comma_long l.done one);
    }

-- ---------------------------------------------------------------------------------------------
-- The length says where the text ends.

pub ends_there : (A O : List ℕ) {r : ℕ} → r ≡ cap (length O) (length A) → Put A false O 0 O r
unfolding put
ends_there A O {r} e = record {
  fits = λ h. (omega (arith, e, cap_same (length O) (length A) (omega arith)), refl);
  over = λ h. omega (arith, e, cap_more (length O) (length A) (omega arith));
  kept = λ q. refl;
  long = refl;
}

-- ---------------------------------------------------------------------------------------------
-- The solver's tables are as they were at first.

module _ {L X : List ℕ} (used : ℕ) (l : Logged used) (h : Laid L) (p : Counted L X) where
  pub can_measure_to : {M G : List ℕ} {x m : ℕ} → CanMeasure (pos_of L) (cells_of L) M G x m → CanMeasure (pos_of X) (cells_of X) M G x m
  can_measure_to {M} {G} {x} {m} q = counted_to used (λ (W : List Word) (P T : List ℕ). CanMeasure P T M G x m) l h p q

  pub sized_at : {M G : List ℕ} {x m r : ℕ} → Sized (pos_of X) (cells_of X) M G x m r → Sized (pos_of L) (cells_of L) M G x m r
  sized_at {M} {G} {x} {m} {r} q = counted_at used (λ (W : List Word) (P T : List ℕ). Sized P T M G x m r) l h p q

  pub can_visit_to : {N M G : List ℕ} {x c m : ℕ} → CanVisit N (log_of used L) (pos_of L) (cells_of L) M G x c m → CanVisit N (log_of used X) (pos_of X) (cells_of X) M G x c m
  can_visit_to {N} {M} {G} {x} {c} {m} q = counted_to used (λ (W : List Word) (P T : List ℕ). CanVisit N W P T M G x c m) l h p q

  pub bound_at : {N M G M' G' : List ℕ} {v x c m a c' a' : ℕ} → BoundLong N (log_of used X) (pos_of X) (cells_of X) M G v x c m a M' G' c' a' → BoundLong N (log_of used L) (pos_of L) (cells_of L) M G v x c m a M' G' c' a'
  bound_at {N} {M} {G} {M'} {G'} {v} {x} {c} {m} {a} {c'} {a'} q = counted_at used (λ (W : List Word) (P T : List ℕ). BoundLong N W P T M G v x c m a M' G' c' a') l h p q

  pub line_at : (N Q : List ℕ) (m : ℕ) {r : ℕ} → r ≡ cap m (length (whole N Q (log_of used X) (pos_of X) (cells_of X))) → r ≡ cap m (length (whole N Q (log_of used L) (pos_of L) (cells_of L)))
  line_at N Q m {r} q = counted_at used (λ (W : List Word) (P T : List ℕ). r ≡ cap m (length (whole N Q W P T))) l h p q
