-- Equal tokens have equal codes. Assumes nothing.
use Rattle.std.specs.Prelude.{◌≡◌, refl, List, [], ℕ, zero, suc, ◌/◌, ◌%◌, ◌<◌}
use Rattle.std.proofs.Common.{ap, sym, ◌∙◌, arith}
use Rattle.std.proofs.Math.Decide.{dec_lt}
use Rattle.akl.specs.Syntax.{Op, wait, cond, commit}
use Rattle.akl.specs.Token as akl
use Rattle.read_tokens.specs.declared.Kind.{Kind}
use Rattle.read_tokens.specs.declared.Kind.TheVariants.{Name, Digits, Variable, OpenBracket, CloseBracket, Comma, FullStop, Colon, Defines, Equals, Semicolon, Wait, Cond, Commit}
use Rattle.read_tokens.specs.Kinds.{token_of}
use Rattle.read_nodes.specs.Spell.{named}
use Rattle.read_nodes.specs.Trie.{Trie}
use Rattle.read_trie.specs.Names.{one_number}
use Rattle.read_lexed.specs.Codes.{kind_no, kind_of, token_at, Fit}

-- the number of a token's kind
abbrev op_no : Op → ℕ
op_no wait = 11
op_no cond = 12
op_no commit = 13

abbrev mark_no : akl.Mark → ℕ
mark_no akl.open_bracket = 3
mark_no akl.close_bracket = 4
mark_no akl.comma = 5
mark_no akl.full_stop = 6
mark_no akl.colon = 7
mark_no akl.defines = 8
mark_no akl.equals = 9
mark_no akl.semicolon = 10
mark_no (akl.operator o) = op_no o

abbrev token_no : akl.Token → ℕ
token_no (akl.name w) = 0
token_no (akl.digits w) = 1
token_no (akl.variable w) = 2
token_no (akl.sign m) = mark_no m

-- the bytes of a token that is no mark
abbrev spelled : akl.Token → List ℕ
spelled (akl.name w) = w
spelled (akl.digits w) = w
spelled (akl.variable w) = w
spelled (akl.sign m) = []

token_no_lem : (k : Kind) (w : List ℕ) → token_no (token_of k w) ≡ kind_no k
token_no_lem Name w = refl
token_no_lem Digits w = refl
token_no_lem Variable w = refl
token_no_lem OpenBracket w = refl
token_no_lem CloseBracket w = refl
token_no_lem Comma w = refl
token_no_lem FullStop w = refl
token_no_lem Colon w = refl
token_no_lem Defines w = refl
token_no_lem Equals w = refl
token_no_lem Semicolon w = refl
token_no_lem Wait w = refl
token_no_lem Cond w = refl
token_no_lem Commit w = refl

token_spelled : (k : Kind) (w : List ℕ) → kind_no k < 3 → spelled (token_of k w) ≡ w
token_spelled Name w h = refl
token_spelled Digits w h = refl
token_spelled Variable w h = refl
token_spelled OpenBracket w h = absurd (omega arith)
token_spelled CloseBracket w h = absurd (omega arith)
token_spelled Comma w h = absurd (omega arith)
token_spelled FullStop w h = absurd (omega arith)
token_spelled Colon w h = absurd (omega arith)
token_spelled Defines w h = absurd (omega arith)
token_spelled Equals w h = absurd (omega arith)
token_spelled Semicolon w h = absurd (omega arith)
token_spelled Wait w h = absurd (omega arith)
token_spelled Cond w h = absurd (omega arith)
token_spelled Commit w h = absurd (omega arith)

-- the number of the kind of a number
pub number_once : (m : ℕ) → m < 14 → kind_no (kind_of m) ≡ m
unfolding kind_of
number_once zero h = refl
number_once (suc zero) h = refl
number_once (suc (suc zero)) h = refl
number_once (suc (suc (suc zero))) h = refl
number_once (suc (suc (suc (suc zero)))) h = refl
number_once (suc (suc (suc (suc (suc zero))))) h = refl
number_once (suc (suc (suc (suc (suc (suc zero)))))) h = refl
number_once (suc (suc (suc (suc (suc (suc (suc zero))))))) h = refl
number_once (suc (suc (suc (suc (suc (suc (suc (suc zero)))))))) h = refl
number_once (suc (suc (suc (suc (suc (suc (suc (suc (suc zero))))))))) h = refl
number_once (suc (suc (suc (suc (suc (suc (suc (suc (suc (suc zero)))))))))) h = refl
number_once (suc (suc (suc (suc (suc (suc (suc (suc (suc (suc (suc zero))))))))))) h = refl
number_once (suc (suc (suc (suc (suc (suc (suc (suc (suc (suc (suc (suc zero)))))))))))) h = refl
number_once (suc (suc (suc (suc (suc (suc (suc (suc (suc (suc (suc (suc (suc zero))))))))))))) h = refl
number_once (suc (suc (suc (suc (suc (suc (suc (suc (suc (suc (suc (suc (suc (suc m)))))))))))))) h = absurd (omega arith)

-- a code of a mark has 0 for its name, so that codes are equal where tokens are
pub one_code : {N H S : List ℕ} {n : ℕ} → Trie N H S n → (c d : ℕ) → Fit n c → Fit n d → token_at N c ≡ token_at N d → c ≡ d
unfolding token_at
one_code {N} {H} {S} {n} T c d F G e = go (dec_lt (c % 256) 3)
  where
    kinds : c % 256 ≡ d % 256
    kinds =
        sym (number_once (c % 256) F.kind)
        ∙ sym (token_no_lem (kind_of (c % 256)) (named N (c / 256)))
        ∙ ap token_no e
        ∙ token_no_lem (kind_of (d % 256)) (named N (d / 256))
        ∙ number_once (d % 256) G.kind

    go : Dec (c % 256 < 3) → c ≡ d
    go (yes h) =
        let a : kind_no (kind_of (c % 256)) < 3 = omega (arith, number_once (c % 256) F.kind) in
        let b : kind_no (kind_of (d % 256)) < 3 = omega (arith, number_once (d % 256) G.kind, kinds) in
        let w : named N (c / 256) ≡ named N (d / 256) = sym (token_spelled (kind_of (c % 256)) (named N (c / 256)) a) ∙ ap spelled e ∙ token_spelled (kind_of (d % 256)) (named N (d / 256)) b in
        let z = one_number T (c / 256) (d / 256) F.number G.number w in
        omega (arith, kinds)
    go (no h) =
        let a = F.mark (omega arith) in
        let b = G.mark (omega (arith, kinds)) in
        omega (arith, kinds)
