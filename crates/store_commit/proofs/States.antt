-- What is written into the bytes of a state is the bytes of the state with another configuration. Assumes nothing.
use mathlib.Core.Path.{◌≡◌, refl, sym, ap, ap₂, ◌∙◌}
use mathlib.Core.List.{List, [], ◌∷◌, ◌++◌, append_assoc}
use Prim.Native.Nat.{ℕ, ◌+◌, ◌-◌, ◌*◌, ◌≤◌}
use native.Mathlib.Omega.{arith}
use lib.ListN.{length, take, drop, length-append}
use lib.Seq.{take-append-le, take_at, drop_at, drop-drop}
use Rattle.akl.specs.Limits.{most_parts}
use Rattle.akl.specs.Configuration.{Config}
use Rattle.mem_words.specs.Form.{bytes_of}
use Rattle.mem_parts.specs.Parts.{cut}
use Rattle.store_form.specs.Sizes.{header_length, program_length, variables_length, config_length, program_start, config_start, store_length}
use Rattle.store_form.specs.State.{State, table, node_count}
use Rattle.store_form.specs.Form.{number_bytes, numbers_bytes, region, rules_words, config_words, header, store_bytes}
use Rattle.store_form.specs.Holding.{Fits}
use Rattle.store_form.proofs.Bytes.{length_numbers_bytes, length_region, next_region}
use Rattle.store_form.proofs.Lengths.{starts}
use Rattle.store_form.proofs.Keeping.{with_config}
use Rattle.store_form.proofs.Reading as reading
use Rattle.store_regions.proofs.Written.{region_on}
use Rattle.store_commit.specs.Committed.{committed, Committed}

-- a list of a header H, what follows it, M, and a last region of k bytes, with others behind
in_list : (L H M C S K G rest : List ℕ) (a h c k e : ℕ)
    → L ≡ (H ++ (M ++ region k C [])) ++ rest → length H ≡ h → a ≤ h → h + length M ≡ c → length C ≤ k → c + k ≡ e → take a H ++ K ≡ G
    → take a L ++ (K ++ (cut h c L ++ region k S (drop e L))) ≡ (G ++ (M ++ region k S [])) ++ rest
unfolding cut
in_list L H M C S K G rest a h c k e l lh ah lm lc ce g =
    let join : (A B : List ℕ) → (A ++ (M ++ region k B [])) ++ rest ≡ A ++ (M ++ region k B rest) =
    λ A B. append_assoc A (M ++ region k B []) rest ∙ ap (λ (x : List ℕ). A ++ x) (append_assoc M (region k B []) rest ∙ ap (λ (x : List ℕ). M ++ x) (region_on k B rest)) in
    let l1 : L ≡ H ++ (M ++ region k C rest) = l ∙ join H C in
    let first : take a L ≡ take a H = ap (take a) l1 ∙ take-append-le a H (M ++ region k C rest) (omega arith) in
    let behind : drop h L ≡ M ++ region k C rest = ap (drop h) l1 ∙ drop_at H (M ++ region k C rest) h lh in
    let lm1 : length M ≡ c - h = omega arith in
    let mid : take (c - h) (drop h L) ≡ M = ap (take (c - h)) behind ∙ take_at M (region k C rest) (c - h) lm1 in
    let hc : h + (c - h) ≡ c = omega arith in
    let last : drop c L ≡ region k C rest = ap (λ (j : ℕ). drop j L) (sym hc) ∙ sym (drop-drop (c - h) h L) ∙ ap (drop (c - h)) behind ∙ drop_at M (region k C rest) (c - h) lm1 in
    let end : drop e L ≡ rest = ap (λ (j : ℕ). drop j L) (sym ce) ∙ next_region c k L C rest last lc in
    ap₂ (λ (x y : List ℕ). x ++ (K ++ y)) first (ap₂ (λ (x y : List ℕ). x ++ region k S y) mid end)
    ∙ sym (append_assoc (take a H) K (M ++ region k S rest))
    ∙ ap (λ (x : List ℕ). x ++ (M ++ region k S rest)) g
    ∙ sym (join G S)

-- the regions between a state's header and its configuration
middle : State → List ℕ
middle s = numbers_bytes (table s) ++ (region (program_length (node_count s)) (bytes_of (rules_words s)) [] ++ region variables_length (numbers_bytes s.variables) [])

in_three : (limit : ℕ) (s : State) → store_bytes limit s ≡ numbers_bytes (header s) ++ (middle s ++ region (config_length limit) (bytes_of (config_words s)) [])
unfolding store_bytes middle
in_three limit s =
    let r4 : List ℕ = region (config_length limit) (bytes_of (config_words s)) [] in
    let N : List ℕ = numbers_bytes (table s) in
    let P : List ℕ = bytes_of (rules_words s) in
    let W : List ℕ = numbers_bytes s.variables in
    let k : ℕ = program_length (node_count s) in
    ap (λ (x : List ℕ). numbers_bytes (header s) ++ x) (sym (
    append_assoc N (region k P [] ++ region variables_length W []) r4
    ∙ ap (λ (x : List ℕ). N ++ x)
    (append_assoc (region k P []) (region variables_length W []) r4
    ∙ ap (λ (x : List ℕ). region k P [] ++ x) (region_on variables_length W r4)
    ∙ region_on k P (region variables_length W r4))
    ))

module _ (limit : ℕ) (low : limit ≤ 65536) (s : State) (F : Fits limit s) where
  header_long : length (numbers_bytes (header s)) ≡ header_length
  unfolding header header_length
  header_long = length_numbers_bytes (header s)

  middle_long : header_length + length (middle s) ≡ config_start
  unfolding middle config_start program_start
  middle_long =
      let N : List ℕ = numbers_bytes (table s) in
      let P : List ℕ = bytes_of (rules_words s) in
      let W : List ℕ = numbers_bytes s.variables in
      let k : ℕ = program_length (node_count s) in
      omega (
        arith,
        length-append N (region k P [] ++ region variables_length W []),
        length-append (region k P []) (region variables_length W []),
        reading.names_long limit low s F,
        length_region k P [] (reading.rules_long limit low s F),
        reading.shared limit low s F,
        length_region variables_length W [] (reading.variables_long limit low s F),
      )

-- the header with the counts of another configuration
header_with : (s : State) (c : Config) (n next : ℕ) → n ≡ length (config_words (with_config s c)) → next ≡ c.next → take 12 (numbers_bytes (header s)) ++ numbers_bytes (n ∷ next ∷ []) ≡ numbers_bytes (header (with_config s c))
unfolding header numbers_bytes number_bytes rules_words
header_with s c n next en ex = ap₂ (λ (m k : ℕ). take 12 (numbers_bytes (header s)) ++ numbers_bytes (m ∷ k ∷ [])) en ex

middle_with : (s : State) (c : Config) → middle s ≡ middle (with_config s c)
unfolding middle rules_words
middle_with s c = refl

module _ (s : State) (F : Fits most_parts s) (c : Config) (L S rest X : List ℕ) (n next : ℕ) (is : L ≡ store_bytes most_parts s ++ rest) (w : Committed L S n next X) where
  -- with the bytes of a configuration
  pub committed_bytes : take (3 * n) S ≡ bytes_of (config_words (with_config s c)) → n ≡ length (config_words (with_config s c)) → next ≡ c.next → X ≡ store_bytes most_parts (with_config s c) ++ rest
  unfolding committed store_length
  committed_bytes e en ex =
      let t = with_config s c in
      let k = config_length most_parts in
      w.list
      ∙ in_list L (numbers_bytes (header s)) (middle s) (bytes_of (config_words s)) (take (3 * n) S) (numbers_bytes (n ∷ next ∷ [])) (numbers_bytes (header t)) rest 12 header_length config_start k (config_start + k)
      (is ∙ ap (λ (x : List ℕ). x ++ rest) (in_three most_parts s)) (header_long most_parts (omega arith) s F) (omega (arith, starts.0)) (middle_long most_parts (omega arith) s F) (reading.config_long most_parts (omega arith) s F) refl (header_with s c n next en ex)
      ∙ ap₂ (λ (m x : List ℕ). (numbers_bytes (header t) ++ (m ++ region k x [])) ++ rest) (middle_with s c) e
      ∙ ap (λ (x : List ℕ). x ++ rest) (sym (in_three most_parts t))
