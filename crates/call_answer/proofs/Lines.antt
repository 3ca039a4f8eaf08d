-- The lines that are put by the lent tables are the text of the answer that was told.
use mathlib.Core.Path.{◌≡◌, refl, sym, ap, ap₂, ◌∙◌, subst}
use mathlib.Core.Logic.{◌⊎◌, inl, inr}
use mathlib.Core.List.{List, map}
use mathlib.Core.Bool.{true, false}
use mathlib.Core.Option.{some, none}
use Prim.Native.Nat.{ℕ, ◌+◌, ◌*◌, ◌/◌, ◌≤◌, ◌<◌}
use native.Mathlib.Omega.{arith}
use lib.ListN.{length, length-map}
use Rattle.akl.specs.Base.{Name, size, range}
use Rattle.akl.specs.Answers.{Answer, terms, line_text, answer_text, numbered}
use Rattle.mem_numbers.specs.Numbers.{triples}
use Rattle.mem_words.specs.declared.Word.{Word}
use Rattle.mem_words.specs.Words.{words, length_words}
use Rattle.mem_parts.specs.Parts.{cut, length_cut}
use Rattle.read_nodes.specs.Spell.{named}
use Rattle.store_words.proofs.Sizes.{size_length}
use Rattle.store_form.specs.State.{State, table, names_of}
use Rattle.store_form.specs.Form.{rules_words}
use Rattle.work_tables.specs.Tables.{cells_of, pos_of, log_of, Laid, Logged, laid_after}
use Rattle.check_held.specs.Checks.{nodes_in, variables_in, words_in}
use Rattle.step_meant.specs.Meant.{Meant}
use Rattle.step_meant.specs.Deciding.{HoldsState}
use Rattle.answer_boxes.specs.Asked.{AnswerStands, Found}
use Rattle.answer_emit.specs.Put.{Put}
use Rattle.answer_emit.proofs.Put.{put_as, put_same}
use Rattle.answer_known.specs.Known.{Counted, counted_to}
use Rattle.answer_turn.specs.Turning.{term_in, Shown}
use Rattle.answer_line.specs.Lined.{CanLine}
use Rattle.call_state.proofs.Answers.{config_meant}
use Rattle.call_answer.specs.Telling.{AnswerThere, AnswerTold}
use Rattle.call_answer.specs.Called.{AnswerOf, AnswerReady}
use Rattle.call_answer.proofs.Telling.{answer_inside}
use Rattle.call_answer.proofs.Views.{names_there, variables_there, can_line}
use Rattle.call_answer.proofs.Outcomes.{of_16, of_17, of_text}

-- ---------------------------------------------------------------------------------------------
-- Where the answer stands.

module _ (b : List ℕ) (n c j : ℕ) (ec : c ≡ words_in b) (fits : 159837 + 3 * c ≤ length b) where
  abbrev W : List Word
  W = words (cut 159837 (159837 + 3 * c) b)

  many : length W ≡ c
  many =
      let l : length (cut 159837 (159837 + 3 * c) b) ≡ 3 * c = length_cut 159837 (159837 + 3 * c) b fits ∙ (omega arith) in
      let q : 3 * c / 3 ≡ c = omega arith in
      length_words (cut 159837 (159837 + 3 * c) b) ∙ ap (λ (k : ℕ). k / 3) l ∙ q

  meant_here : (h : HoldsState b) → Meant W (rules_words h.state) h.state
  meant_here h = config_meant b c h.state ec h.holds

  pub found_none : Found W n j → j ≡ c → (O : List ℕ) → AnswerOf b n O O 16
  found_none f e O = of_16 b n O none_there
    where
      none_there : (h : HoldsState b) → numbered h.state.config.root n ≡ none
      none_there h = go (f.right h.state (rules_words h.state) (meant_here h))
        where
          go : ((numbered h.state.config.root n ≡ none) × (j ≡ length W)) ⊎ AnswerStands h.state W n j → numbered h.state.config.root n ≡ none
          go (inl p) = p.0
          go (inr p) =
              let t : AnswerThere W j = record { some_state = h.state; some_rules = rules_words h.state; number = n; meant = meant_here h; stands = p } in
              absurd (omega (arith, answer_inside t, many, e))

  module _ (f : Found W n j) (e : j ≡ c → ⊥) where
    stands_there : (h : HoldsState b) → AnswerStands h.state W n j
    stands_there h = go (f.right h.state (rules_words h.state) (meant_here h))
      where
        go : ((numbered h.state.config.root n ≡ none) × (j ≡ length W)) ⊎ AnswerStands h.state W n j → AnswerStands h.state W n j
        go (inl p) = absurd (e (p.1 ∙ many))
        go (inr p) = p

    pub found_there : HoldsState b → AnswerThere W j
    found_there h = record { some_state = h.state; some_rules = rules_words h.state; number = n; meant = meant_here h; stands = stands_there h }

    pub found_ready : HoldsState b → (u : ℕ) (X : List ℕ) → AnswerTold W j u X → AnswerReady b n u X
    found_ready h u X t = record { holds = h; words = W; place = j; meant = meant_here; stands = stands_there; told = t }

-- ---------------------------------------------------------------------------------------------
-- Its text: k nodes of names and v variables are lent.

module _ (b : List ℕ) (n u : ℕ) (X : List ℕ) (ready : AnswerReady b n u X) (k v : ℕ) (ek : k ≡ nodes_in b) (ev : v ≡ variables_in b) where
  abbrev N : List ℕ
  N = triples (cut 18 (18 + 3 * k) b)

  abbrev Q : List ℕ
  Q = triples (cut 159789 (159789 + 3 * v) b)

  abbrev answer_of : HoldsState b → Answer
  answer_of h = ((ready.stands h).own, (ready.stands h).store)

  pub shown_lent : Shown N (log_of u X) (pos_of X) (cells_of X)
  shown_lent =
      let h = ready.holds in
      subst (λ (l : List ℕ). Shown l (log_of u X) (pos_of X) (cells_of X)) (sym (names_there b h k ek)) (ready.told.shown h.state (rules_words h.state) n (ready.meant h) (ready.stands h))

  pub can_lent : CanLine N Q
  can_lent =
      let h = ready.holds in
      subst (λ (l : List ℕ). CanLine l Q) (sym (names_there b h k ek)) (subst (CanLine (table h.state)) (sym (variables_there b h v ev)) (can_line b h))

  line_is : (h : HoldsState b) → line_text (map (named N) Q) (terms (term_in N (log_of u X) (pos_of X) (cells_of X)) (range 0 (length Q))) ≡ answer_text (names_of h.state) (answer_of h)
  line_is h =
      let s = h.state in
      let many : length s.variables ≡ size (names_of s) = sym (size_length (names_of s) ∙ length-map s.variables (named (table s))) in
      ap₂ (λ (a q : List ℕ). line_text (map (named a) q) (terms (term_in a (log_of u X) (pos_of X) (cells_of X)) (range 0 (length q)))) (names_there b h k ek) (variables_there b h v ev)
      ∙ ap (λ (z : ℕ). line_text (names_of s) (terms (term_in (table s) (log_of u X) (pos_of X) (cells_of X)) (range 0 z))) many
      ∙ ready.told.text s (rules_words s) n (ready.meant h) (ready.stands h) (names_of s)

  module _ (O O₁ : List ℕ) (r : ℕ) (p : Put (line_text (map (named N) Q) (terms (term_in N (log_of u X) (pos_of X) (cells_of X)) (range 0 (length Q)))) false O 0 O₁ r) where
    pub line_long : length O₁ < r → AnswerOf b n O O₁ 17
    line_long l = of_17 b n O answer_of (λ h. (ready.stands h).is) O₁ r (λ h. put_as (answer_text (names_of h.state) (answer_of h)) (line_is h) p) (omega (arith, p.long))

    module _ (Y : List ℕ) (l : Laid X) (g : Logged u) (a : Counted X Y) where
      pub shown_again : Shown N (log_of u Y) (pos_of Y) (cells_of Y)
      shown_again = counted_to u (Shown N) g l a shown_lent

      line_again : (h : HoldsState b) → line_text (map (named N) Q) (terms (term_in N (log_of u Y) (pos_of Y) (cells_of Y)) (range 0 (length Q))) ≡ answer_text (names_of h.state) (answer_of h)
      line_again h = counted_to u (λ (w : List Word) (x t : List ℕ). line_text (map (named N) Q) (terms (term_in N w x t) (range 0 (length Q))) ≡ answer_text (names_of h.state) (answer_of h)) g l a (line_is h)

      module _ (O₂ : List ℕ) (q : ℕ) (p₂ : Put (line_text (map (named N) Q) (terms (term_in N (log_of u Y) (pos_of Y) (cells_of Y)) (range 0 (length Q)))) true O₁ 0 O₂ q) (f : r ≤ length O₁) where
        put_text : (h : HoldsState b) → Put (answer_text (names_of h.state) (answer_of h)) true O 0 O₂ q
        put_text h = subst (λ (o : List ℕ). Put (answer_text (names_of h.state) (answer_of h)) true o 0 O₂ q) (p.kept refl) (put_as (answer_text (names_of h.state) (answer_of h)) (line_again h) p₂)

        line_fits : q ≤ length O
        line_fits =
            let h = ready.holds in
            let e : r ≡ q = put_same (put_as (answer_text (names_of h.state) (answer_of h)) (line_is h) p) (put_text h) in
            omega (arith, e, f, p.long)

        pub line_within : q ≤ length O₂
        line_within = omega (arith, line_fits, p₂.long, p.long)

        pub line_put : (x : ℕ) → x ≡ 256 + q → AnswerOf b n O O₂ x
        line_put x e = subst (AnswerOf b n O O₂) (sym e) (of_text b n O answer_of (λ h. (ready.stands h).is) O₂ q put_text line_fits)
