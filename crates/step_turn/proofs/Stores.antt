-- What was told for the brackets that are open, by their ranges: the constraints, but for the order; the room that was taken.
-- Assumes nothing.
use mathlib.Core.Path.{◌≡◌, refl, ap, sym, ◌∙◌, subst}
use mathlib.Core.Bool.{false}
use mathlib.Core.List.{List, [], ◌∷◌, ◌++◌, append_assoc}
use Prim.Native.Nat.{ℕ, ◌+◌, ◌*◌, ◌≤◌, ◌<◌}
use native.Mathlib.Omega.{arith}
use lib.ListN.{length, get_or}
use Rattle.constraint.specs.Tree.{Label}
use Rattle.constraint.specs.Constraint.{Store}
use Rattle.constraint.proofs.Entail.{sats_append}
use Rattle.mem_words.specs.declared.Word.{Word}
use Rattle.mem_sorts.specs.declared.Kind.TheVariants.{And}
use Rattle.work_marks.specs.Marks.{Mark, apps_at, used_at, all_told}
use Rattle.work_marks.proofs.Standing.{all_since}
use Rattle.rule_effects.specs.Conditions.{kind_at}
use Rattle.rule_ranges.specs.Ranges.{Range, and_its, ranges_from, told_all, log_words, apps_all}
use Rattle.rule_ranges.proofs.Alike.{Alike, fresh_append, alike_same, alike_turned}
use Rattle.rule_tells.proofs.Scanned.{its_and, its_other, none_left}
use Rattle.rule_tells.proofs.Adding.{told_more, words_more, apps_more}
use Rattle.step_open.specs.Opened.{Chain}
use Rattle.step_open.proofs.Chains.{chain_few, chain_next, chain_all}
use Rattle.step_frames.specs.Frames.{Frame}
use Rattle.step_turn.specs.Boxes.{Bracket, plain, box, places, marks, inner, boxes, Told, Framed, Environment}
use Rattle.step_turn.specs.Stood.{CanTurn}

-- the marks of the goal's own and-boxes
abbrev pub since : List Bracket → List Mark
since [] = []
since (plain o ∷ bs) = since bs
since (box o ns ∷ bs) = ns ++ since bs

pub marks_since : (env : List Mark) (bs : List Bracket) → marks env bs ≡ since bs ++ env
marks_since env [] = refl
marks_since env (plain o ∷ bs) = marks_since env bs
marks_since env (box o ns ∷ bs) = ap (λ (l : List Mark). ns ++ l) (marks_since env bs) ∙ sym (append_assoc ns (since bs) env)

pub inner_few : (bs : List Bracket) → inner bs ≤ length (places bs)
inner_few [] = omega arith
inner_few (plain o ∷ bs) = omega (arith, inner_few bs)
inner_few (box o ns ∷ bs) = omega arith

pub depth_few : {W : List Word} {X : List ℕ} {j d k used n a : ℕ} → CanTurn W X j d k used n a → d ≤ length W
depth_few {W} {X} {j} p = let s = p.stood in omega (arith, p.low, p.can.whole, s.depth, inner_few s.brackets, chain_few W p.goal j (places s.brackets) s.opened.chain)

-- a store behind another comes before one that is like the other
alike_moved : (σ : Store) {τ e : Store} → Alike τ e → Alike (τ ++ σ) (σ ++ e)
alike_moved σ {τ} {e} h = record {
  sats = λ ρ. (λ s. let p = (sats_append ρ τ σ).0 s in (sats_append ρ σ e).1 (p.1, (h.sats ρ).0 p.0), λ s. let p = (sats_append ρ σ e).0 s in (sats_append ρ τ σ).1 ((h.sats ρ).1 p.1, p.0));
  fresh = λ vs. (λ s. let p = (fresh_append vs τ σ).0 s in (fresh_append vs σ e).1 (p.1, (h.fresh vs).0 p.0), λ s. let p = (fresh_append vs σ e).0 s in (fresh_append vs τ σ).1 ((h.fresh vs).1 p.1, p.0));
}

-- an entry of the stack by numbers that are the same
pub frame_as : {F : List ℕ} {k d u n a : ℕ} (k' d' u' n' a' : ℕ) → k ≡ k' → d ≡ d' → u ≡ u' → n ≡ n' → a ≡ a' → Frame F k d u n a → Frame F k' d' u' n' a'
frame_as {F} {k} {d} {u} {n} {a} k' d' u' n' a' ek ed eu en ea f =
    subst (λ (x : ℕ). Frame F x d' u' n' a') ek (subst (λ (x : ℕ). Frame F k x u' n' a') ed (subst (λ (x : ℕ). Frame F k d x n' a') eu (subst (λ (x : ℕ). Frame F k d u x a') en (subst (λ (x : ℕ). Frame F k d u n x) ea f))))

-- the entries below the top are as they were
pub framed_kept : (F F' : List ℕ) (env : List Mark) (bs : List Bracket) → ((i : ℕ) → i < 4 * boxes bs → get_or F' i 0 ≡ get_or F i 0) → Framed F env bs → Framed F' env bs
unfolding Framed
framed_kept F F' env [] h p = tt
framed_kept F F' env (plain o ∷ bs) h p = framed_kept F F' env bs h p
framed_kept F F' env (box o ns ∷ bs) h p = (
  record {
    depth = h (4 * boxes bs) (omega arith) ∙ p.0.depth;
    words = h (4 * boxes bs + 1) (omega arith) ∙ p.0.words;
    trail = h (4 * boxes bs + 2) (omega arith) ∙ p.0.trail;
    apps = h (4 * boxes bs + 3) (omega arith) ∙ p.0.apps;
  },
  framed_kept F F' env bs (λ i l. h i (omega arith)) p.1,
)

module _ (W : List Word) (g : ℕ) (env : List Mark) where
  none_open : (j : ℕ) → Chain W g j [] → ranges_from W g j ≡ []
  unfolding Chain
  none_open j c = none_left W g j (omega (arith, c))

  inwards : (j o : ℕ) (os : List ℕ) → Chain W g j (o ∷ os) → Chain W g o os
  unfolding Chain
  inwards j o os c = c.3

  plain_next : (j o : ℕ) (os : List ℕ) → Chain W g j (o ∷ os) → kind_at W o And ≡ false → ranges_from W g j ≡ ranges_from W g o
  plain_next j o os c k = chain_next W g j o os c ∙ ap (λ (rs : List Range). rs ++ ranges_from W g o) (its_other W o k)

  -- the constraints
  pub stores_alike : (lab : ℕ → Label) (j : ℕ) (bs : List Bracket) → Chain W g j (places bs) → Told W env bs → Alike (told_all lab W (ranges_from W g j)) (all_told lab (since bs))
  unfolding Told told_all
  stores_alike lab j [] c t = alike_same (ap (told_all lab W) (none_open j c))
  stores_alike lab j (plain o ∷ bs) c t = subst (λ (rs : List Range). Alike (told_all lab W rs) (all_told lab (since bs))) (sym (plain_next j o (places bs) c t.0)) (stores_alike lab o bs (inwards j o (places bs) c) t.1)
  stores_alike lab j (box o ns ∷ bs) c t =
      subst (λ (σ : Store). Alike σ (all_told lab (ns ++ since bs))) (sym (ap (told_all lab W) (chain_next W g j o (places bs) c) ∙ told_more lab W (and_its W o []) (ranges_from W g o)))
      (subst (λ (σ : Store). Alike (told_all lab W (and_its W o []) ++ told_all lab W (ranges_from W g o)) σ) (sym (all_since lab ns (since bs) ∙ ap (λ (σ : Store). all_told lab (since bs) ++ σ) (t.1.told lab)))
      (alike_turned (told_all lab W (and_its W o [])) (stores_alike lab o bs (inwards j o (places bs) c) t.2)))

  -- the words of the log and the positions
  pub words_since : (j : ℕ) (bs : List Bracket) → Chain W g j (places bs) → Told W env bs → used_at (marks env bs) ≡ used_at env + log_words (ranges_from W g j)
  unfolding Told log_words
  words_since j [] c t = omega (arith, ap log_words (none_open j c))
  words_since j (plain o ∷ bs) c t = omega (arith, words_since o bs (inwards j o (places bs) c) t.1, ap log_words (plain_next j o (places bs) c t.0))
  words_since j (box o ns ∷ bs) c t = omega (arith, words_since o bs (inwards j o (places bs) c) t.2, t.1.words, ap log_words (chain_next W g j o (places bs) c), words_more (and_its W o []) (ranges_from W g o))

  pub apps_since : (j : ℕ) (bs : List Bracket) → Chain W g j (places bs) → Told W env bs → apps_at (marks env bs) ≤ apps_at env + apps_all W (ranges_from W g j)
  unfolding Told apps_all
  apps_since j [] c t = omega (arith, ap (apps_all W) (none_open j c))
  apps_since j (plain o ∷ bs) c t = omega (arith, apps_since o bs (inwards j o (places bs) c) t.1, ap (apps_all W) (plain_next j o (places bs) c t.0))
  apps_since j (box o ns ∷ bs) c t = omega (arith, apps_since o bs (inwards j o (places bs) c) t.2, t.1.apps, ap (apps_all W) (chain_next W g j o (places bs) c), apps_more W (and_its W o []) (ranges_from W g o))

  -- each and-box takes three words at least
  pub boxes_few : (bs : List Bracket) → Told W env bs → 3 * boxes bs ≤ used_at (marks env bs)
  unfolding Told log_words
  boxes_few [] t = omega arith
  boxes_few (plain o ∷ bs) t = boxes_few bs t.1
  boxes_few (box o ns ∷ bs) t = omega (arith, boxes_few bs t.2, t.1.words, ap log_words (its_and W o t.0))

  -- all that was told is like all stores around the position
  module _ (from : ℕ) (v : Environment W g from env) (lab : ℕ → Label) (j : ℕ) (bs : List Bracket) (c : Chain W g j (places bs)) (t : Told W env bs) where
    by_ranges : told_all lab W (ranges_from W 0 j) ≡ told_all lab W (ranges_from W g j) ++ told_all lab W (ranges_from W 0 g)
    by_ranges = ap (told_all lab W) (chain_all W g j (places bs) c) ∙ told_more lab W (ranges_from W g j) (ranges_from W 0 g)

    by_marks : all_told lab (marks env bs) ≡ told_all lab W (ranges_from W 0 g) ++ all_told lab (since bs)
    by_marks = ap (all_told lab) (marks_since env bs) ∙ all_since lab (since bs) env ∙ ap (λ (σ : Store). σ ++ all_told lab (since bs)) (v.told lab)

    pub around_alike : Alike (told_all lab W (ranges_from W 0 j)) (all_told lab (marks env bs))
    around_alike =
        subst (λ (σ : Store). Alike σ (all_told lab (marks env bs))) (sym by_ranges)
        (subst (λ (σ : Store). Alike (told_all lab W (ranges_from W g j) ++ told_all lab W (ranges_from W 0 g)) σ) (sym by_marks)
        (alike_moved (told_all lab W (ranges_from W 0 g)) (stores_alike lab j bs c t)))
