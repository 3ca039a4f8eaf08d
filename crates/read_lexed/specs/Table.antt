-- The table of a text's token codes, and what is true while it is filled. Assumes nothing.
use Rattle.std.specs.Prelude.{◌≡◌, refl, List, [], ◌∷◌, ◌++◌, map, ℕ, zero, suc, ◌+◌, ◌<◌, ◌≤◌, length, get_or, take, drop}
use Rattle.std.proofs.Common.{ap, ap₂, sym, ◌∙◌, subst, append-nil, add-one, le_of_suc-le-suc, arith, take-suc-set}
use Rattle.std.proofs.Math.Option.{Option, some, none, some-injective}
use Rattle.std.proofs.Math.Decide.{dec_lt}
use Rattle.std.proofs.Math.Seq.{append_snoc}
use Rattle.akl.specs.Base.{◌>>=◌}
use Rattle.akl.specs.Token as akl
use Rattle.read_tokens.specs.declared.Kind.{Kind}
use Rattle.read_tokens.specs.declared.Cursor.{Cursor}
use Rattle.read_tokens.specs.declared.Next.TheVariants.{Token, End, Bad}
use Rattle.read_tokens.specs.Kinds.{token_of}
use Rattle.read_tokens.specs.Next.{Moved, Reads}
use Rattle.read_tokens.specs.Tokens.{tokens_read}
use Rattle.mem_numbers.specs.Stored.{Stored, stored_same, stored_other}
use Rattle.std.specs.Prelude as std
use Rattle.read_nodes.specs.Trie.{Roomy, Trie, Grown, Kept}
use Rattle.read_trie.specs.Names.{grown_none, grown_twice}
use Rattle.read_trie.specs.Outcome.{kept_none, kept_twice}
use Rattle.read_lexed.specs.declared.NotLexed.{NotLexed}
use Rattle.read_lexed.specs.declared.NotLexed.TheVariants as lexed
use Rattle.read_lexed.specs.Codes.{token_at, Fit, token_kept, fit_more}
use Rattle.read_lexed.specs.Marks.{mark_in, marks, marks_last}
use Rattle.read_lexed.specs.Encoded.{Coded, Encoded}

-- The first k codes of K' are the text's tokens, their names spelled by N'.
pub record Table (text : List ℕ) (N : List ℕ) (n : ℕ) (N' H' S' K' : List ℕ) (k m : ℕ) : Type 0 where
  pub trie : Trie N' H' S' m
  pub grown : Grown N n N' m
  pub says : akl.tokens text ≡ some (map (token_at N') (take k K'))
  pub fit : (j : ℕ) → j < k → Fit m (get_or K' j 0)
  pub inside : k ≤ length K'
  pub short : k ≤ length text
  pub few : m ≤ n + length text
  -- marks make no node, and each has a byte
  pub spare : m + marks (map (token_at N') (take k K')) ≤ n + length text

-- the marks of the text's tokens, however they were found
pub table_spare : {text N N' H' S' K' : List ℕ} {n k m : ℕ} → Table text N n N' H' S' K' k m → (ts : List akl.Token) → akl.tokens text ≡ some ts → m + marks ts ≤ n + length text
table_spare {N' = N'} {K' = K'} {k = k} t ts e =
    let z : map (token_at N') (take k K') ≡ ts = some-injective (map (token_at N') (take k K')) ts (sym t.says ∙ e) in
    let w : marks (map (token_at N') (take k K')) ≡ marks ts = ap marks z in
    omega (arith, t.spare)

abbrev pub Answer : List ℕ → List ℕ → List ℕ → List ℕ → List ℕ → ℕ → List ℕ → List ℕ → List ℕ → List ℕ → std.Result (ℕ × ℕ) NotLexed → Type 0
Answer text K N H S n K' N' H' S' (std.Ok (k, m)) = Table text N n N' H' S' K' k m
Answer text K N H S n K' N' H' S' (std.Err lexed.Bad) = akl.tokens text ≡ none
Answer text K N H S n K' N' H' S' (std.Err lexed.Full) = length text ≤ length K → Roomy N H S (n + length text) → ⊥

-- What `tokenise` promises of its answer r.
pub record Tokenised (text K N H S : List ℕ) (n : ℕ) (K' N' H' S' : List ℕ) (r : std.Result (ℕ × ℕ) NotLexed) : Type 0 where
  pub kept : Kept N H S N' H' S'
  pub codes : length K' ≡ length K
  pub answer : Answer text K N H S n K' N' H' S' r

-- xs before the tokens of a reading
abbrev pub onto : List akl.Token → Option (List akl.Token) → Option (List akl.Token)
onto xs none = none
onto xs (some ts) = some (xs ++ ts)

-- k tokens up to `at` are coded
pub record Sofar (text K N H S : List ℕ) (n : ℕ) (K' N' H' S' : List ℕ) (at k m : ℕ) : Type 0 where
  pub trie : Trie N' H' S' m
  pub grown : Grown N n N' m
  pub kept : Kept N H S N' H' S'
  pub codes : length K' ≡ length K
  pub says : akl.tokens text ≡ onto (map (token_at N') (take k K')) (akl.tokens (drop at text))
  pub fit : (j : ℕ) → j < k → Fit m (get_or K' j 0)
  pub room : k ≤ length K'
  pub short : k ≤ at
  pub inside : at ≤ length text
  pub few : m ≤ n + at
  pub spare : m + marks (map (token_at N') (take k K')) ≤ n + at

onto_none : (o : Option (List akl.Token)) → o ≡ onto [] o
onto_none none = refl
onto_none (some ts) = refl

onto_one : (xs : List akl.Token) (t : akl.Token) (o : Option (List akl.Token)) → onto xs (o >>= (λ ts. some (t ∷ ts))) ≡ onto (xs ++ (t ∷ [])) o
onto_one xs t none = refl
onto_one xs t (some ts) = ap some (sym (append_snoc xs t ts))

map_snoc : {A B : Type 0} (f : A → B) (l : List A) (x : A) → map f (l ++ (x ∷ [])) ≡ map f l ++ (f x ∷ [])
map_snoc f [] x = refl
map_snoc {A} {B} f (y ∷ l) x = ap (λ (w : List B). f y ∷ w) (map_snoc f l x)

-- functions that agree on the first k elements
pub map_first : {B : Type 0} (f g : ℕ → B) (k : ℕ) (l : List ℕ) → k ≤ length l → ((j : ℕ) → j < k → f (get_or l j 0) ≡ g (get_or l j 0)) → map f (take k l) ≡ map g (take k l)
map_first f g zero l h e = refl
map_first f g (suc k) [] h e = refl
map_first {B} f g (suc k) (x ∷ l) h e =
    ap₂ (λ (y : B) (w : List B). y ∷ w) (e 0 (omega arith)) (map_first f g k l (le_of_suc-le-suc h) (λ j i. e (suc j) (omega arith)))

pub sofar_none : (text K N H S : List ℕ) (n : ℕ) → Trie N H S n → Sofar text K N H S n K N H S 0 0 n
unfolding marks
sofar_none text K N H S n T =
    record {
      trie = T;
      grown = grown_none N n;
      kept = kept_none N H S;
      codes = refl;
      says = onto_none (akl.tokens text);
      fit = λ j h. absurd (omega arith);
      room = omega arith;
      short = omega arith;
      inside = omega arith;
      few = omega arith;
      spare = omega arith;
    }

module _ {text K N H S : List ℕ} {n : ℕ} {K' N' H' S' : List ℕ} {at k m : ℕ} (Z : Sofar text K N H S n K' N' H' S' at k m) where
  -- no token is left
  pub sofar_end : Reads text at End → Tokenised text K N H S n K' N' H' S' (std.Ok (k, m))
  sofar_end R =
      record {
        kept = Z.kept;
        codes = Z.codes;
        answer =
            record {
              trie = Z.trie;
              grown = Z.grown;
              says = Z.says ∙ ap (onto (map (token_at N') (take k K'))) (tokens_read text at End R) ∙ ap some (append-nil (map (token_at N') (take k K')));
              fit = Z.fit;
              inside = Z.room;
              short = omega (arith, Z.short, Z.inside);
              few = omega (arith, Z.few, Z.inside);
              spare = omega (arith, Z.spare, Z.inside);
            };
      }

  -- no token stands there
  pub sofar_bad : Reads text at Bad → Tokenised text K N H S n K' N' H' S' (std.Err lexed.Bad)
  sofar_bad R =
      record { kept = Z.kept; codes = Z.codes; answer = Z.says ∙ ap (onto (map (token_at N') (take k K'))) (tokens_read text at Bad R) }

  module _ (kind : Kind) (from len : ℕ) (rest : Cursor) (R : Reads text at (Token kind from len rest)) where
    -- no room for one code more
    pub sofar_codes : length K' ≤ k → Tokenised text K N H S n K' N' H' S' (std.Err lexed.Full)
    sofar_codes h =
        let M = R.forward in
        record { kept = Z.kept; codes = Z.codes; answer = λ g q. omega (arith, Z.codes, Z.short, M.behind, M.some, M.past, M.inside) }

    -- no room for one name more
    pub sofar_names : {N'' H'' S'' : List ℕ} → Encoded text kind from len N' H' S' m N'' H'' S'' std.None → Tokenised text K N H S n K' N'' H'' S'' (std.Err lexed.Full)
    sofar_names E =
        let M = R.forward in
        let w : m + len ≤ n + length text = omega (arith, Z.few, M.behind, M.past, M.inside) in
        record {
          kept = kept_twice Z.kept E.kept;
          codes = Z.codes;
          answer =
              λ g q. E.code (record { cells = omega (arith, q.cells, Z.kept.cells); heads = omega (arith, q.heads, Z.kept.heads); nexts = omega (arith, q.nexts, Z.kept.nexts); count = omega (arith, q.count) });
        }

    -- one token more
    pub sofar_more : {N'' H'' S'' K'' : List ℕ} {c m' : ℕ} → Encoded text kind from len N' H' S' m N'' H'' S'' (std.Some (c, m')) → k < length K' → Stored K' k c K'' → Sofar text K N H S n K'' N'' H'' S'' rest.0 (k + 1) m'
    sofar_more {N''} {H''} {S''} {K''} {c} {m'} E h s =
        record {
          trie = C.trie;
          grown = grown_twice Z.grown C.grown;
          kept = kept_twice Z.kept E.kept;
          codes = s.long ∙ Z.codes;
          says =
              Z.says
              ∙ ap (onto old) (tokens_read text at (Token kind from len rest) R)
              ∙ onto_one old (token_of kind (take len (drop from text))) (akl.tokens (drop rest.0 text))
              ∙ ap (λ (w : List akl.Token). onto w (akl.tokens (drop rest.0 text))) (sym new);
          fit = λ j g. fit' j g (dec_lt j k);
          room = omega (arith, s.long);
          short = omega (arith, Z.short, M.behind, M.some, M.past);
          inside = M.inside;
          few = omega (arith, Z.few, C.few, M.behind, M.past);
          spare = omega (arith, more, Z.spare, C.spare, M.behind, M.past);
        }
      where
        C : Coded text kind from len N' m N'' H'' S'' c m'
        C = E.code

        M : Moved text at from len rest.0
        M = R.forward

        old : List akl.Token
        old = map (token_at N') (take k K')

        new : map (token_at N'') (take (k + 1) K'') ≡ old ++ (token_of kind (take len (drop from text)) ∷ [])
        new =
            ap (map (token_at N'')) (ap₂ take (add-one k) s.list ∙ take-suc-set K' k c h)
            ∙ map_snoc (token_at N'') (take k K') c
            ∙ ap (λ (w : List akl.Token). w ++ (token_at N'' c ∷ [])) (map_first (token_at N'') (token_at N') k K' (omega arith) (λ j g. token_kept Z.trie C.grown (get_or K' j 0) (Z.fit j g).number))
            ∙ ap (λ (t : akl.Token). old ++ (t ∷ [])) C.token

        more : marks (map (token_at N'') (take (k + 1) K'')) ≡ marks old + mark_in (token_of kind (take len (drop from text)))
        more = ap marks new ∙ marks_last old (token_of kind (take len (drop from text)))

        fit' : (j : ℕ) → j < k + 1 → Dec (j < k) → Fit m' (get_or K'' j 0)
        fit' j g (yes l) = subst (Fit m') (sym (stored_other j 0 s (λ e. omega arith))) (fit_more (Z.fit j l) C.grown.more)
        fit' j g (no l) =
            let e : j ≡ k = omega arith in
            subst (Fit m') (sym (ap (λ (i : ℕ). get_or K'' i 0) e ∙ stored_same 0 s h)) C.fit
