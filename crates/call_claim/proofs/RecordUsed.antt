-- Closed uses: the record of document 01, as the calls of a host after an accepted start, with refused calls, refused starts among them,
-- and questions in between.
-- A definition that made the claim say less would not give these numbers and this table.
use mathlib.Core.Path.{◌≡◌, refl, ap, sym, ◌∙◌, subst}
use mathlib.Core.Logic.{◌↔◌, ◌⊎◌, inl, inr}
use mathlib.Core.List.{List, [], ◌∷◌, ◌++◌, append_assoc, append-nil}
use mathlib.Core.Bool.{Bool, true, false, ◌||◌}
use Prim.Native.Nat.{ℕ, zero, suc, ◌+◌, ◌*◌, ◌≤◌, ◌<◌}
use native.Mathlib.Omega.{arith}
use lib.Dec.{ltb}
use borrow.Author.Tests.{lt-ltb, le-ltb}
use lib.ListN.{length, take}
use Rattle.constraint.specs.Constraint.{Asg}
use Rattle.akl.specs.Base.{bytes}
use Rattle.akl.specs.Limits.{most_parts}
use Rattle.akl.specs.Computed.{everything}
use Rattle.akl.specs.StepsText.{Step}
use Rattle.akl.specs.Reader.{read_program}
use Rattle.akl.specs.Configuration.{Config}
use Rattle.runs.specs.Calls.{after_calls}
use Rattle.runs.proofs.Used.{program_of, query_of, config_of, line, P₀, q₀, c₀, kept, new, used_answers}
use Rattle.store_calls.specs.Handed.{returned, counted, written}
use Rattle.store_lent.specs.Lent.{working_bytes}
use Rattle.start_outcome.specs.Outcome.{program_refusal}
use Rattle.start_call.specs.Called.{StartCalled}
use Rattle.call_claim.specs.Host.{Request, for_step, for_run, for_answer, for_state, for_count, for_start, HostCall, History}
use Rattle.call_claim.specs.Seen.{accepted_of, accepted_steps, NoneLoses}
use Rattle.call_claim.specs.HostRun.{short, stands_for, calls, Gets}
use Rattle.call_claim.specs.Table.{Among, HandedOut, FitsSome, ToldCount, ToldLast, WholeTable}
use Rattle.call_claim.proofs.Histories.{after_parts, calls_parts}
use Rattle.call_claim.proofs.Facts.{Facts, facts}
use Rattle.call_claim.proofs.Tables.{table_exact}
use Rattle.call_claim.proofs.Made.{StartsRefused}

abbrev text₀ : List ℕ
text₀ = bytes "amend(K) := (K = kept ? true ; K = new ? true)."

abbrev query₀ : List ℕ
query₀ = bytes "amend(K)."

one : (k : HostCall) → calls (k ∷ []) ≡ stands_for (short k) k.request
unfolding calls
one k = append-nil (stands_for (short k) k.request)

-- It is known of each call whether its working slice is too short.
abbrev Lent : List HostCall → List Bool → Type 0
Lent [] [] = Unit {0}
Lent [] (w ∷ ws) = ⊥
Lent (k ∷ ks) [] = ⊥
Lent (k ∷ ks) (w ∷ ws) = (short k ≡ w) × Lent ks ws

-- what each call gets, from the configuration d on
abbrev AllGet : List HostCall → List Bool → Config → Type 0
AllGet [] ws d = Unit {0}
AllGet (k ∷ ks) [] d = Unit {0}
AllGet (k ∷ ks) (w ∷ ws) d = Gets P₀ q₀.variables d w k.request k.returned × AllGet ks ws (after_calls most_parts P₀ d (stands_for w k.request))

module _ (all : List HostCall) (F : Facts P₀ q₀ c₀ all) where
  all_get : (ks : List HostCall) (ws : List Bool) (js : List HostCall) → all ≡ js ++ ks → Lent ks ws → AllGet ks ws (after_calls most_parts P₀ c₀ (calls js))
  all_get [] ws js e l = tt
  all_get (k ∷ ks) [] js e l = tt
  all_get (k ∷ ks) (w ∷ ws) js e l =
      let d = after_calls most_parts P₀ c₀ (calls js) in
      let on : after_calls most_parts P₀ c₀ (calls (js ++ (k ∷ []))) ≡ after_calls most_parts P₀ d (stands_for w k.request) =
      ap (after_calls most_parts P₀ c₀) (calls_parts js (k ∷ []))
      ∙ after_parts P₀ (calls js) (calls (k ∷ [])) c₀
      ∙ ap (after_calls most_parts P₀ d) (one k)
      ∙ ap (λ (z : Bool). after_calls most_parts P₀ d (stands_for z k.request)) l.0 in (
        subst (λ (z : Bool). Gets P₀ q₀.variables d z k.request k.returned) l.0 (F.each_call js k ks e).gets,
        subst (AllGet ks ws) on (all_get ks ws (js ++ (k ∷ [])) (e ∙ sym (append_assoc js (k ∷ []) ks)) l.1),
      )

-- The steps that are seen where the numbers are known.
abbrev Numbers : List HostCall → List ℕ → Type 0
Numbers [] ns = Unit {0}
Numbers (k ∷ ks) [] = ⊥
Numbers (k ∷ ks) (n ∷ ns) = (k.returned ≡ n) × Numbers ks ns

unfoldable seen_by : List HostCall → List ℕ → List Step
seen_by [] ns = []
seen_by (k ∷ ks) [] = []
seen_by (k ∷ ks) (n ∷ ns) = accepted_of k.request n ++ seen_by ks ns

accepted_by : (ks : List HostCall) (ns : List ℕ) → Numbers ks ns → accepted_steps ks ≡ seen_by ks ns
unfolding accepted_steps seen_by
accepted_by [] ns h = refl
accepted_by (k ∷ ks) [] h = absurd h
accepted_by (k ∷ ks) (n ∷ ns) h =
    ap (λ (z : ℕ). accepted_of k.request z ++ accepted_steps ks) h.0
    ∙ ap (λ (l : List Step). accepted_of k.request n ++ l) (accepted_by ks ns h.1)

-- The i-th call is lent v i, which is long enough, or few, which is not; it returns x i. The output slices have 9, 8 and 7 bytes and
-- any number.
module _ (b₀ u b u' : List ℕ) (S : StartCalled text₀ query₀ b₀ u b u' 0) (v v' : ℕ → List ℕ) (long : (i : ℕ) → working_bytes ≤ length (v i)) (few few' : List ℕ) (less : length few < working_bytes) (x : ℕ → ℕ) (o' p' q' r r' : List ℕ) where
  abbrev call : ℕ → Request → HostCall
  call i a = record { request = a; work = v i; work' = v' i; returned = x i }

  abbrev scant : ℕ → Request → HostCall
  scant i a = record { request = a; work = few; work' = few'; returned = x i }

  fit : (i : ℕ) → ltb (length (v i)) working_bytes ≡ false
  fit i = le-ltb (length (v i)) working_bytes (long i)

  unfit : ltb (length few) working_bytes ≡ true
  unfit = lt-ltb (length few) working_bytes less

  -- its ten steps as a single call and two texts, the first with a step that is refused
  abbrev first_text : List ℕ
  first_text = bytes "5 2 0\n1 5 0\n1 7 0\n12 2 1\n6 99 0\n14 1 0\n"

  abbrev second_text : List ℕ
  second_text = bytes "14 1 0\n6 2 0\n6 4 0\n1 2 0\n1 3 0\n"

  abbrev steps₀ : List HostCall
  steps₀ =
      call 0 (for_step (line 9 1 0))
      ∷ call 1 (for_step (line 2 2 0))
      ∷ call 2 (for_run first_text)
      ∷ scant 3 (for_run second_text)
      ∷ scant 4 (for_run (bytes "1"))
      ∷ call 5 for_state
      ∷ call 6 (for_start text₀ (bytes "amend(K"))
      ∷ call 7 (for_run second_text)
      ∷ scant 8 (for_step (line 2 2 0))
      ∷ []

  abbrev asks₀ : List HostCall
  asks₀ =
      call 9 (for_answer 2 (bytes "123456789") o')
      ∷ call 10 for_count
      ∷ scant 11 for_count
      ∷ call 12 for_state
      ∷ call 13 (for_answer 1 (bytes "12345678") p')
      ∷ call 14 (for_answer 1 (bytes "1234567") q')
      ∷ call 15 (for_answer 3 r r')
      ∷ scant 16 for_state
      ∷ scant 17 (for_start text₀ query₀)
      ∷ []

  abbrev shorts : List Bool
  shorts = false ∷ false ∷ false ∷ true ∷ true ∷ false ∷ false ∷ false ∷ true ∷ false ∷ false ∷ true ∷ false ∷ false ∷ false ∷ false ∷ true ∷ true ∷ []

  lent : Lent (steps₀ ++ asks₀) shorts
  lent = (fit 0, (fit 1, (fit 2, (unfit, (unfit, (fit 5, (fit 6, (fit 7, (unfit, (fit 9, (fit 10, (unfit, (fit 12, (fit 13, (fit 14, (fit 15, (unfit, (unfit, tt))))))))))))))))))

  -- Its two starts are refused, so there are such calls (Made: all-made): one for its query, one for its working slice.
  pub used_refused : StartsRefused ((for_start text₀ (bytes "amend(K"), v 6) ∷ (for_start text₀ query₀, few) ∷ [])
  unfolding everything
  used_refused = (λ e z. absurd (omega (arith, z)), (scanty (ltb (length few) working_bytes) unfit, tt))
    where
      scanty : (y : Bool) → y ≡ true → (e : Bool) → program_refusal most_parts (e || y) query₀ (read_program text₀) ≡ 0 → ⊥
      scanty true h true z = absurd (omega (arith, z))
      scanty true h false z = absurd (omega (arith, z))
      scanty false h e z = let k : ◌≡◌ {A = ℕ} 0 1 = ap (λ (i : Bool). elim i as (λ v. ℕ) [ false ↦ 0 | true ↦ 1 ]) h in absurd (omega (arith, k))

  module _ (c : List ℕ) (h : History b (steps₀ ++ asks₀) c) where
    claim : Facts P₀ q₀ c₀ (steps₀ ++ asks₀)
    unfolding everything P₀ q₀ c₀ program_of query_of config_of
    claim = facts text₀ query₀ b₀ u b u' S P₀ q₀ c₀ refl refl refl (steps₀ ++ asks₀) c h

    -- What the calls returned, and the output slices.
    pub used_numbers :
        (x 0 ≡ 13) × ((x 1 ≡ 0) × ((x 2 ≡ 256 * 4 + 11) × ((x 3 ≡ 8) × ((x 4 ≡ 18) × ((x 5 ≡ 256 * 2) × ((x 6 ≡ 2) × ((x 7 ≡ 256 * 5) × ((x 8 ≡ 8) ×
        (((x 9 ≡ 256 + 7) × (o' ≡ bytes "K = new89")) × ((x 10 ≡ 256 * 2) × ((x 11 ≡ 8) × ((x 12 ≡ 256) ×
        (((x 13 ≡ 256 + 8) × (p' ≡ bytes "K = kept")) × (((x 14 ≡ 17) × (q' ≡ bytes "1234567")) × (((x 15 ≡ 16) × (r' ≡ r)) × ((x 16 ≡ 8) × ((x 17 ≡ 8) × Unit {0})))))))))))))))))
    unfolding everything P₀ q₀ c₀ program_of query_of config_of after_calls calls returned counted written
    used_numbers = all_get (steps₀ ++ asks₀) claim (steps₀ ++ asks₀) shorts [] refl lent

    -- The steps that the host sees accepted are the record's ten.
    pub used_steps : accepted_steps steps₀ ≡ line 2 2 0 ∷ line 5 2 0 ∷ line 1 5 0 ∷ line 1 7 0 ∷ line 12 2 1 ∷ line 14 1 0 ∷ line 6 2 0 ∷ line 6 4 0 ∷ line 1 2 0 ∷ line 1 3 0 ∷ []
    unfolding everything seen_by
    used_steps =
        let n = used_numbers in
        accepted_by steps₀ (13 ∷ 0 ∷ 1035 ∷ 8 ∷ 18 ∷ 512 ∷ 2 ∷ 1280 ∷ 8 ∷ []) (n.0, (n.1.0, (n.1.1.0, (n.1.1.1.0, (n.1.1.1.1.0, (n.1.1.1.1.1.0, (n.1.1.1.1.1.1.0, (n.1.1.1.1.1.1.1.0, (n.1.1.1.1.1.1.1.1.0, tt)))))))))

    -- The questions give the whole table: the host knows that there are two answers
    whole : (k : HostCall) → Among k asks₀ → ToldCount k 2 ⊎ ToldLast k 2 → WholeTable asks₀
    unfolding everything
    whole k A t =
        let n = used_numbers.1.1.1.1.1.1.1.1.1 in
        record {
          questions = (tt, (tt, (tt, (tt, (tt, (tt, (tt, (tt, (tt, tt)))))))));
          state_call = call 12 for_state;
          state_among = record { before = call 9 (for_answer 2 (bytes "123456789") o') ∷ call 10 for_count ∷ scant 11 for_count ∷ []; behind = _; is = refl };
          ended = record { asked = refl; number = inr n.1.1.1.0 };
          count = 2;
          count_call = k;
          count_among = A;
          counted = t;
          each = texts n.0.0 n.0.1 n.1.1.1.1.0.0 n.1.1.1.1.0.1;
        }
      where
        texts : x 9 ≡ 256 + 7 → o' ≡ bytes "K = new89" → x 13 ≡ 256 + 8 → p' ≡ bytes "K = kept" → (i : ℕ) → 1 ≤ i → i ≤ 2 → (k : HostCall) × (t : List ℕ) × Among k asks₀ × HandedOut k i t
        texts a e d f zero l m = absurd (omega (arith, l))
        texts a e d f (suc zero) l m = (
          call 13 (for_answer 1 (bytes "12345678") p'),
          bytes "K = kept",
          record { before = call 9 (for_answer 2 (bytes "123456789") o') ∷ call 10 for_count ∷ scant 11 for_count ∷ call 12 for_state ∷ []; behind = _; is = refl },
          record { out = bytes "12345678"; out' = p'; asked = refl; number = d; text = ap (take 8) f },
        )
        texts a e d f (suc (suc zero)) l m = (
          call 9 (for_answer 2 (bytes "123456789") o'),
          bytes "K = new",
          record { before = []; behind = _; is = refl },
          record { out = bytes "123456789"; out' = o'; asked = refl; number = a; text = ap (take 7) e },
        )
        texts a e d f (suc (suc (suc i))) l m = absurd (omega (arith, m))

    -- by their count,
    by_count : WholeTable asks₀
    unfolding everything
    by_count =
        whole (call 10 for_count) (record { before = call 9 (for_answer 2 (bytes "123456789") o') ∷ []; behind = _; is = refl })
        (inl (record { asked = refl; number = used_numbers.1.1.1.1.1.1.1.1.1.1.0 }))

    -- or since it was told that there is no third.
    by_last : WholeTable asks₀
    unfolding everything
    by_last =
        whole (call 15 (for_answer 3 r r'))
        (record {
          before = call 9 (for_answer 2 (bytes "123456789") o') ∷ call 10 for_count ∷ scant 11 for_count ∷ call 12 for_state ∷ call 13 (for_answer 1 (bytes "12345678") p') ∷ call 14 (for_answer 1 (bytes "1234567") q') ∷ [];
          behind = _;
          is = refl;
        })
        (inr (record { out = r; out' = r'; asked = refl; number = used_numbers.1.1.1.1.1.1.1.1.1.1.1.1.1.1.1.0.0 }))

    -- The trees that fit it are kept and new.
    table : WholeTable asks₀ → (ρ : Asg) → FitsSome q₀.variables asks₀ ρ ↔ ((ρ 0 ≡ kept) ⊎ (ρ 0 ≡ new))
    unfolding everything P₀ q₀ c₀ program_of query_of config_of
    table W ρ =
        let none_loses : NoneLoses (accepted_steps steps₀) = subst NoneLoses (sym used_steps) (tt, (tt, (tt, (tt, (tt, (tt, (tt, (tt, (tt, (tt, tt)))))))))) in
        let t = table_exact text₀ query₀ b₀ u b u' S P₀ q₀ c₀ refl refl refl steps₀ asks₀ c h W none_loses ρ in
        let a = used_answers ρ in
        (λ f. a.0 (t.0 f), λ s. t.1 (a.1 s))

    pub used_table : (ρ : Asg) → FitsSome q₀.variables asks₀ ρ ↔ ((ρ 0 ≡ kept) ⊎ (ρ 0 ≡ new))
    used_table = table by_count

    pub used_table_by_last : (ρ : Asg) → FitsSome q₀.variables asks₀ ρ ↔ ((ρ 0 ≡ kept) ⊎ (ρ 0 ≡ new))
    used_table_by_last = table by_last
