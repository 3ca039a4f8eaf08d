-- Token codes: the kind's number + 256 * the name's number. Assumes nothing.
use Rattle.std.specs.Prelude.{◌≡◌, refl, ◌↔◌, List, ℕ, zero, suc, ◌+◌, ◌*◌, ◌/◌, ◌%◌, ◌<◌, ◌≤◌}
use Rattle.std.proofs.Common.{ap, ◌∙◌, arith}
use Rattle.akl.specs.Token.{Token, name, digits}
use Rattle.read_tokens.specs.declared.Kind.{Kind}
use Rattle.read_tokens.specs.declared.Kind.TheVariants.{Name, Digits, Variable, OpenBracket, CloseBracket, Comma, FullStop, Colon, Defines, Equals, Semicolon, Wait, Cond, Commit}
use Rattle.read_tokens.specs.Kinds.{token_of}
use Rattle.read_nodes.specs.Spell.{named}
use Rattle.read_nodes.specs.Trie.{Trie, Grown}
use Rattle.read_trie.specs.Names.{one_number, named_kept}

-- the number of a kind
abbrev pub kind_no : Kind → ℕ
kind_no Name = 0
kind_no Digits = 1
kind_no Variable = 2
kind_no OpenBracket = 3
kind_no CloseBracket = 4
kind_no Comma = 5
kind_no FullStop = 6
kind_no Colon = 7
kind_no Defines = 8
kind_no Equals = 9
kind_no Semicolon = 10
kind_no Wait = 11
kind_no Cond = 12
kind_no Commit = 13

-- the kind of a number; from 13 on it is the last
unfoldable pub kind_of : ℕ → Kind
kind_of zero = Name
kind_of (suc zero) = Digits
kind_of (suc (suc zero)) = Variable
kind_of (suc (suc (suc zero))) = OpenBracket
kind_of (suc (suc (suc (suc zero)))) = CloseBracket
kind_of (suc (suc (suc (suc (suc zero))))) = Comma
kind_of (suc (suc (suc (suc (suc (suc zero)))))) = FullStop
kind_of (suc (suc (suc (suc (suc (suc (suc zero))))))) = Colon
kind_of (suc (suc (suc (suc (suc (suc (suc (suc zero)))))))) = Defines
kind_of (suc (suc (suc (suc (suc (suc (suc (suc (suc zero))))))))) = Equals
kind_of (suc (suc (suc (suc (suc (suc (suc (suc (suc (suc zero)))))))))) = Semicolon
kind_of (suc (suc (suc (suc (suc (suc (suc (suc (suc (suc (suc zero))))))))))) = Wait
kind_of (suc (suc (suc (suc (suc (suc (suc (suc (suc (suc (suc (suc zero)))))))))))) = Cond
kind_of (suc (suc (suc (suc (suc (suc (suc (suc (suc (suc (suc (suc (suc n))))))))))))) = Commit

-- the token of a code: its name is spelled by the cells N
unfoldable pub token_at : List ℕ → ℕ → Token
token_at N c = token_of (kind_of (c % 256)) (named N (c / 256))

-- A code of a table of n nodes.
pub record Fit (n c : ℕ) : Type 0 where
  pub kind : c % 256 < 14
  pub number : c / 256 < n
  -- names, digits and variables have a byte at least
  pub above : c % 256 < 3 → 0 < c / 256
  -- marks have no name
  pub mark : 3 ≤ c % 256 → c / 256 ≡ 0

pub kind_once : (k : Kind) → kind_of (kind_no k) ≡ k
unfolding kind_of
kind_once Name = refl
kind_once Digits = refl
kind_once Variable = refl
kind_once OpenBracket = refl
kind_once CloseBracket = refl
kind_once Comma = refl
kind_once FullStop = refl
kind_once Colon = refl
kind_once Defines = refl
kind_once Equals = refl
kind_once Semicolon = refl
kind_once Wait = refl
kind_once Cond = refl
kind_once Commit = refl

pub kind_small : (k : Kind) → kind_no k < 14
kind_small Name = omega arith
kind_small Digits = omega arith
kind_small Variable = omega arith
kind_small OpenBracket = omega arith
kind_small CloseBracket = omega arith
kind_small Comma = omega arith
kind_small FullStop = omega arith
kind_small Colon = omega arith
kind_small Defines = omega arith
kind_small Equals = omega arith
kind_small Semicolon = omega arith
kind_small Wait = omega arith
kind_small Cond = omega arith
kind_small Commit = omega arith

-- a mark is the same whatever the bytes
pub mark_any : (k : Kind) (w v : List ℕ) → 3 ≤ kind_no k → token_of k w ≡ token_of k v
mark_any Name w v h = absurd (omega arith)
mark_any Digits w v h = absurd (omega arith)
mark_any Variable w v h = absurd (omega arith)
mark_any OpenBracket w v h = refl
mark_any CloseBracket w v h = refl
mark_any Comma w v h = refl
mark_any FullStop w v h = refl
mark_any Colon w v h = refl
mark_any Defines w v h = refl
mark_any Equals w v h = refl
mark_any Semicolon w v h = refl
mark_any Wait w v h = refl
mark_any Cond w v h = refl
mark_any Commit w v h = refl

-- the token of a code whose parts are known
pub token_at_lem : (N : List ℕ) (k : Kind) (i c : ℕ) → c ≡ kind_no k + i * 256 → token_at N c ≡ token_of k (named N i)
unfolding token_at
token_at_lem N k i c e =
    let s = kind_small k in
    let a : c % 256 ≡ kind_no k = omega arith in
    let b : c / 256 ≡ i = omega arith in
    ap (λ (m : ℕ). token_of (kind_of m) (named N (c / 256))) a
    ∙ ap (λ (k : Kind). token_of k (named N (c / 256))) (kind_once k)
    ∙ ap (λ (m : ℕ). token_of k (named N m)) b

-- tokens stay as they are where tables grow
pub token_kept : {N H S N' : List ℕ} {n n' : ℕ} → Trie N H S n → Grown N n N' n' → (c : ℕ) → c / 256 < n → token_at N' c ≡ token_at N c
unfolding token_at
token_kept T G c h = ap (token_of (kind_of (c % 256))) (named_kept T G (c / 256) h)

pub fit_more : {n m c : ℕ} → Fit n c → n ≤ m → Fit m c
fit_more F h = let l = F.number in record { kind = F.kind; number = omega arith; above = F.above; mark = F.mark }

-- two codes have equal names exactly when their names' numbers are equal
pub same_name : {N H S : List ℕ} {n : ℕ} → Trie N H S n → (c d : ℕ) → c / 256 < n → d / 256 < n → (named N (c / 256) ≡ named N (d / 256)) ↔ (c / 256 ≡ d / 256)
same_name {N} T c d h g = (one_number T (c / 256) (d / 256) h g, ap (named N))
