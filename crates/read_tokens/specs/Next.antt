-- The next token of some bytes, and what a cursor's answer says of it. Assumes nothing.
use Rattle.std.specs.Prelude.{◌≡◌, refl, List, [], ◌∷◌, Bool, true, false, ℕ, suc, ◌+◌, ◌-◌, ◌≤◌, ◌<◌, leb, length, take, drop, get_or}
use Rattle.std.proofs.Math.Path.{ap, sym}
use Rattle.std.proofs.Common.{◌∙◌, subst, add-one, arith, length-drop, drop_of_length-le, drop-cons, drop-drop, get_or-drop, length-take-le, leb-true, leb-false}
use Rattle.std.proofs.Math.ListN.{get_or-eq_default}
use Rattle.akl.specs.Base.{size, if}
use Rattle.akl.specs.Limits.{name_bytes}
use Rattle.akl.specs.Token as akl
use Rattle.read_tokens.specs.declared.Kind.{Kind}
use Rattle.read_tokens.specs.declared.Sign.{Sign}
use Rattle.std.specs.Prelude as std
use Rattle.read_tokens.specs.declared.Sign.TheVariants.{One, Two}
use Rattle.read_tokens.specs.declared.Next.{Next}
use Rattle.read_tokens.specs.declared.Next.TheVariants.{Token, End, Bad}
use Rattle.read_tokens.specs.Kinds.{token_of, sign_of, placed, spelled_of, cursor}
use Rattle.read_tokens.specs.Marks.{marks, sign_marked, Single, single}
use Rattle.read_tokens.specs.Runs.{size_length, Ends, ends_forward}

-- A token with what is left behind it; the end of the text; or bytes that are no token.
pub data Found : Type 0 where
  next : akl.Token → List ℕ → Found
  at_end : Found
  no_token : Found

-- what is found where the bytes begin so, and n behind their first
abbrev pub found : Found → akl.Lexed → Found
found n (akl.passed r) = n
found n (akl.token t r) = next t r
found n akl.bad = no_token

-- The next token: blanks are passed.
unfoldable pub next_token : List ℕ → Found
next_token [] = at_end
next_token (x ∷ l) = found (next_token l) (akl.lexed (akl.class_of x) x l)

-- What an answer says of the text s.
abbrev pub meant : List ℕ → Next → Found
meant s (Token k at len c) = next (token_of k (take len (drop at s))) (drop c.0 s)
meant s End = at_end
meant s Bad = no_token

-- The token's bytes lie behind the cursor, and the new cursor right behind them.
pub record Moved (s : List ℕ) (from at len to : ℕ) : Type 0 where
  pub behind : from ≤ at
  pub some : 1 ≤ len
  pub short : len ≤ name_bytes
  pub past : to ≡ at + len
  pub inside : to ≤ length s

abbrev pub Forward : List ℕ → ℕ → Next → Type 0
Forward s from (Token k at len c) = Moved s from at len c.0
Forward s from End = Unit
Forward s from Bad = Unit

-- What `next` promises of its answer r at the position `from` of s.
pub record Reads (s : List ℕ) (from : ℕ) (r : Next) : Type 0 where
  pub says : meant s r ≡ next_token (drop from s)
  pub forward : Forward s from r

-- From `from` to `at` there are blanks.
pub record Passed (s : List ℕ) (from at : ℕ) : Type 0 where
  pub behind : from ≤ at
  pub same : next_token (drop from s) ≡ next_token (drop at s)

pub passed_none : (s : List ℕ) (at : ℕ) → Passed s at at
passed_none s at = record { behind = omega arith; same = refl }

-- the next token at a byte of known class
next_class : (s : List ℕ) (i : ℕ) (k : akl.Class) → i < length s → k ≡ akl.class_of (get_or s i 0) → next_token (drop i s) ≡ found (next_token (drop (suc i) s)) (akl.lexed k (get_or s i 0) (drop (suc i) s))
unfolding next_token
next_class s i k g e =
    ap next_token (drop-cons s i 0 g)
    ∙ ap (λ (k : akl.Class). found (next_token (drop (suc i) s)) (akl.lexed k (get_or s i 0) (drop (suc i) s))) (sym e)

module _ (s : List ℕ) (from at : ℕ) (P : Passed s from at) where
  pub reads_end : length s ≤ at → Reads s from End
  unfolding next_token
  reads_end g = record { says = sym (P.same ∙ ap next_token (drop_of_length-le s g)); forward = tt }

  pub passed_more : at < length s → akl.blank ≡ akl.class_of (get_or s at 0) → Passed s from (at + 1)
  passed_more g e =
      let p = P.behind in
      record { behind = omega arith; same = P.same ∙ next_class s at akl.blank g e ∙ ap (λ (k : ℕ). next_token (drop k s)) (sym (add-one at)) }

  -- a byte that begins no token
  pub reads_bad : (k : akl.Class) → ((x : ℕ) (l : List ℕ) → akl.lexed k x l ≡ akl.bad) → at < length s → k ≡ akl.class_of (get_or s at 0) → Reads s from Bad
  reads_bad k L g e =
      record { says = sym (P.same ∙ next_class s at k g e ∙ ap (found (next_token (drop (suc at) s))) (L (get_or s at 0) (drop (suc at) s))); forward = tt }

  -- a name, a variable or digits
  word_found : (k : Kind) (p : akl.Class → Bool) (c : akl.Class) → ((x : ℕ) (l : List ℕ) → akl.lexed c x l ≡ akl.word (token_of k) (akl.span p (x ∷ l))) → at < length s → c ≡ akl.class_of (get_or s at 0) → (end : ℕ) → Ends p s at end → next_token (drop from s) ≡ found (next_token (drop (suc at) s)) (if (leb (end - at) name_bytes) (akl.token (token_of k (take (end - at) (drop at s))) (drop end s)) akl.bad)
  word_found k p c L g e end E =
      let x = get_or s at 0 in
      let l = drop (suc at) s in
      let w = take (end - at) (drop at s) in
      let a = E.from in
      let b = E.to in
      let n : size w ≡ end - at = size_length w ∙ length-take-le (end - at) (drop at s) (omega (arith, length-drop at s)) in
      P.same
      ∙ next_class s at c g e
      ∙ ap (found (next_token l))
      (L x l
      ∙ ap (λ (z : List ℕ). akl.word (token_of k) (akl.span p z)) (sym (drop-cons s at 0 g))
      ∙ ap (akl.word (token_of k)) E.run
      ∙ ap (λ (m : ℕ). if (leb m name_bytes) (akl.token (token_of k w) (drop end s)) akl.bad) n)

  pub reads_word : (k : Kind) (p : akl.Class → Bool) (c : akl.Class) → ((x : ℕ) (l : List ℕ) → akl.lexed c x l ≡ akl.word (token_of k) (akl.span p (x ∷ l))) → p c ≡ true → at < length s → c ≡ akl.class_of (get_or s at 0) → (end : ℕ) → Ends p s at end → (r : Next) → r ≡ spelled_of k at end → Reads s from r
  reads_word k p c L t g e end E r q =
      go (leb (end - at) name_bytes) refl (word_found k p c L g e end E) (ends_forward p s at end E g (ap p (sym e) ∙ t))
    where
      go : (b : Bool) → leb (end - at) name_bytes ≡ b → next_token (drop from s) ≡ found (next_token (drop (suc at) s)) (if (leb (end - at) name_bytes) (akl.token (token_of k (take (end - at) (drop at s))) (drop end s)) akl.bad) → at < end → Reads s from r
      go true z f h =
          let is : r ≡ Token k at (end - at) (cursor end) = q ∙ ap (λ (b : Bool). if b (Token k at (end - at) (cursor end)) Bad) z in
          let f' = f ∙ ap (λ (b : Bool). found (next_token (drop (suc at) s)) (if b (akl.token (token_of k (take (end - at) (drop at s))) (drop end s)) akl.bad)) z in
          let m : Moved s from at (end - at) end = record { behind = P.behind; some = omega arith; short = leb-true (end - at) name_bytes z; past = omega arith; inside = E.to } in
          subst (Reads s from) (sym is) (record { says = sym f'; forward = m })
      go false z f h =
          let is : r ≡ Bad = q ∙ ap (λ (b : Bool). if b (Token k at (end - at) (cursor end)) Bad) z in
          let f' = f ∙ ap (λ (b : Bool). found (next_token (drop (suc at) s)) (if b (akl.token (token_of k (take (end - at) (drop at s))) (drop end s)) akl.bad)) z in
          subst (Reads s from) (sym is) (record { says = sym f'; forward = tt })

  -- a mark
  pub reads_mark : at < length s → akl.mark ≡ akl.class_of (get_or s at 0) → (r : Next) → r ≡ placed at (sign_of (get_or s at 0) (get_or s (at + 1) 0)) → Reads s from r
  reads_mark g e r q = go (sign_of (get_or s at 0) (get_or s (at + 1) 0)) refl
    where
      second : get_or (drop (suc at) s) 0 0 ≡ get_or s (at + 1) 0
      second = let z : suc at + 0 ≡ at + 1 = omega arith in get_or-drop (suc at) s 0 0 ∙ ap (λ (k : ℕ). get_or s k 0) z

      f : next_token (drop from s) ≡ found (next_token (drop (suc at) s)) (marks (sign_of (get_or s at 0) (get_or s (at + 1) 0)) (take 1 (drop at s)) (take 2 (drop at s)) (drop (suc at) s))
      f =
          P.same
          ∙ next_class s at akl.mark g e
          ∙ ap (found (next_token (drop (suc at) s)))
          (sym (sign_marked (get_or s at 0) (take 1 (drop at s)) (take 2 (drop at s)) (drop (suc at) s))
          ∙ ap (λ (y : ℕ). marks (sign_of (get_or s at 0) y) (take 1 (drop at s)) (take 2 (drop at s)) (drop (suc at) s)) second)

      inner : (k : Kind) → sign_of (get_or s at 0) (get_or s (at + 1) 0) ≡ std.Some (Two k) → length s ≤ at + 1 → ⊥
      inner k z h = subst Single (ap (sign_of (get_or s at 0)) (sym (get_or-eq_default s 0 h)) ∙ z) (single (get_or s at 0))

      within : (k : Kind) → sign_of (get_or s at 0) (get_or s (at + 1) 0) ≡ std.Some (Two k) → at + 1 < length s
      within k z = by_cases (leb (length s) (at + 1)) refl
        where
          by_cases : (b : Bool) → leb (length s) (at + 1) ≡ b → at + 1 < length s
          by_cases true v = absurd (inner k z (leb-true (length s) (at + 1) v))
          by_cases false v = leb-false (length s) (at + 1) v

      go : (m : std.Option Sign) → sign_of (get_or s at 0) (get_or s (at + 1) 0) ≡ m → Reads s from r
      go (std.Some (One k)) z =
          let b = P.behind in
          let f' = f ∙ ap (λ (m : std.Option Sign). found (next_token (drop (suc at) s)) (marks m (take 1 (drop at s)) (take 2 (drop at s)) (drop (suc at) s))) z in
          let d : drop (suc at) s ≡ drop (at + 1) s = ap (λ (n : ℕ). drop n s) (sym (add-one at)) in
          subst (Reads s from) (sym (q ∙ ap (placed at) z))
          (record { says = sym (f' ∙ ap (next (token_of k (take 1 (drop at s)))) d); forward = record { behind = b; some = omega arith; short = omega arith; past = omega arith; inside = omega arith } })
      go (std.Some (Two k)) z =
          let b = P.behind in
          let h = within k z in
          let f' = f ∙ ap (λ (m : std.Option Sign). found (next_token (drop (suc at) s)) (marks m (take 1 (drop at s)) (take 2 (drop at s)) (drop (suc at) s))) z in
          let n : suc at + 1 ≡ at + 1 + 1 = omega arith in
          let d : drop 1 (drop (suc at) s) ≡ drop (at + 1 + 1) s = drop-drop 1 (suc at) s ∙ ap (λ (n : ℕ). drop n s) n in
          subst (Reads s from) (sym (q ∙ ap (placed at) z))
          (record { says = sym (f' ∙ ap (next (token_of k (take 2 (drop at s)))) d); forward = record { behind = b; some = omega arith; short = omega arith; past = omega arith; inside = omega arith } })
      go std.None z =
          let f' = f ∙ ap (λ (m : std.Option Sign). found (next_token (drop (suc at) s)) (marks m (take 1 (drop at s)) (take 2 (drop at s)) (drop (suc at) s))) z in
          subst (Reads s from) (sym (q ∙ ap (placed at) z)) (record { says = sym f'; forward = tt })
