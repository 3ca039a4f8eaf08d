-- The marks as `sign_of` tells them apart are the marks of the definitions. Assumes nothing.
use Rattle.std.specs.Prelude.{◌≡◌, refl, List, [], ◌∷◌, Bool, true, false, ℕ, eqb, get_or, drop}
use Rattle.std.proofs.Math.Option.{some, none}
use Rattle.akl.specs.Base.{if, when}
use Rattle.akl.specs.Syntax.{wait, cond, commit}
use Rattle.akl.specs.Token as akl
use Rattle.read_tokens.specs.declared.Kind.TheVariants.{OpenBracket, CloseBracket, Comma, FullStop, Colon, Defines, Equals, Semicolon, Wait, Cond, Commit}
use Rattle.read_tokens.specs.declared.Sign.{Sign}
use Rattle.std.specs.Prelude as std
use Rattle.read_tokens.specs.declared.Sign.TheVariants.{One, Two}
use Rattle.read_tokens.specs.Kinds.{token_of, sign_of}

-- what a mark before the bytes l is: its first byte is passed already; its bytes are u, or w where it has two
abbrev pub marks : std.Option Sign → List ℕ → List ℕ → List ℕ → akl.Lexed
marks (std.Some (One k)) u w l = akl.token (token_of k u) l
marks (std.Some (Two k)) u w l = akl.token (token_of k w) (drop 1 l)
marks std.None u w l = akl.bad

-- the ten tests on the first byte, one after the other, and the two on the second
alone : (a b c d e f g h i j : Bool) (u w : List ℕ) →
    marks (if a (std.Some (One OpenBracket)) (if b (std.Some (One CloseBracket)) (if c (std.Some (One Comma)) (if d std.None (if e (std.Some (One FullStop)) (if f (std.Some (One Colon)) (if g (std.Some (One Semicolon)) (if h (std.Some (One Equals)) (if i (std.Some (One Wait)) (if j (std.Some (One Commit)) std.None)))))))))) u w []
    ≡ (if a (akl.token (akl.sign akl.open_bracket) []) (if b (akl.token (akl.sign akl.close_bracket) []) (if c (akl.token (akl.sign akl.comma) []) (if d akl.bad (if e (akl.token (akl.sign akl.full_stop) []) (if f (akl.token (akl.sign akl.colon) []) (if g (akl.token (akl.sign akl.semicolon) []) (if h (akl.token (akl.sign akl.equals) []) (if i (akl.token (akl.sign (akl.operator wait)) []) (if j (akl.token (akl.sign (akl.operator commit)) []) akl.bad))))))))))
alone true b c d e f g h i j u w = refl
alone false true c d e f g h i j u w = refl
alone false false true d e f g h i j u w = refl
alone false false false true e f g h i j u w = refl
alone false false false false true f g h i j u w = refl
alone false false false false false true g h i j u w = refl
alone false false false false false false true h i j u w = refl
alone false false false false false false false true i j u w = refl
alone false false false false false false false false true j u w = refl
alone false false false false false false false false false true u w = refl
alone false false false false false false false false false false u w = refl

paired : (a b c d e f g h i j y z : Bool) (u w : List ℕ) (v : ℕ) (l : List ℕ) →
    marks (if a (std.Some (One OpenBracket)) (if b (std.Some (One CloseBracket)) (if c (std.Some (One Comma)) (if d (if y (std.Some (Two Cond)) std.None) (if e (std.Some (One FullStop)) (if f (if z (std.Some (Two Defines)) (std.Some (One Colon))) (if g (std.Some (One Semicolon)) (if h (std.Some (One Equals)) (if i (std.Some (One Wait)) (if j (std.Some (One Commit)) std.None)))))))))) u w (v ∷ l)
    ≡ (if a (akl.token (akl.sign akl.open_bracket) (v ∷ l)) (if b (akl.token (akl.sign akl.close_bracket) (v ∷ l)) (if c (akl.token (akl.sign akl.comma) (v ∷ l)) (if d (elim (when y l) [ none ↦ akl.bad | some r ↦ akl.token (akl.sign (akl.operator cond)) r ]) (if e (akl.token (akl.sign akl.full_stop) (v ∷ l)) (if f (elim (when z l) [ none ↦ akl.token (akl.sign akl.colon) (v ∷ l) | some r ↦ akl.token (akl.sign akl.defines) r ]) (if g (akl.token (akl.sign akl.semicolon) (v ∷ l)) (if h (akl.token (akl.sign akl.equals) (v ∷ l)) (if i (akl.token (akl.sign (akl.operator wait)) (v ∷ l)) (if j (akl.token (akl.sign (akl.operator commit)) (v ∷ l)) akl.bad))))))))))
paired true b c d e f g h i j y z u w v l = refl
paired false true c d e f g h i j y z u w v l = refl
paired false false true d e f g h i j y z u w v l = refl
paired false false false true e f g h i j true z u w v l = refl
paired false false false true e f g h i j false z u w v l = refl
paired false false false false true f g h i j y z u w v l = refl
paired false false false false false true g h i j y true u w v l = refl
paired false false false false false true g h i j y false u w v l = refl
paired false false false false false false true h i j y z u w v l = refl
paired false false false false false false false true i j y z u w v l = refl
paired false false false false false false false false true j y z u w v l = refl
paired false false false false false false false false false true y z u w v l = refl
paired false false false false false false false false false false y z u w v l = refl

pub sign_marked : (x : ℕ) (u w l : List ℕ) → marks (sign_of x (get_or l 0 0)) u w l ≡ akl.marked x l
sign_marked x u w [] = alone (eqb x 40) (eqb x 41) (eqb x 44) (eqb x 45) (eqb x 46) (eqb x 58) (eqb x 59) (eqb x 61) (eqb x 63) (eqb x 124) u w
sign_marked x u w (v ∷ l) = paired (eqb x 40) (eqb x 41) (eqb x 44) (eqb x 45) (eqb x 46) (eqb x 58) (eqb x 59) (eqb x 61) (eqb x 63) (eqb x 124) (eqb 62 v) (eqb 61 v) u w v l

-- a mark of two bytes needs the second
abbrev pub Single : std.Option Sign → Type 0
Single (std.Some (One k)) = Unit
Single (std.Some (Two k)) = ⊥
Single std.None = Unit

lone : (a b c d e f g h i j : Bool) → Single (if a (std.Some (One OpenBracket)) (if b (std.Some (One CloseBracket)) (if c (std.Some (One Comma)) (if d std.None (if e (std.Some (One FullStop)) (if f (std.Some (One Colon)) (if g (std.Some (One Semicolon)) (if h (std.Some (One Equals)) (if i (std.Some (One Wait)) (if j (std.Some (One Commit)) std.None))))))))))
lone true b c d e f g h i j = tt
lone false true c d e f g h i j = tt
lone false false true d e f g h i j = tt
lone false false false true e f g h i j = tt
lone false false false false true f g h i j = tt
lone false false false false false true g h i j = tt
lone false false false false false false true h i j = tt
lone false false false false false false false true i j = tt
lone false false false false false false false false true j = tt
lone false false false false false false false false false true = tt
lone false false false false false false false false false false = tt

pub single : (x : ℕ) → Single (sign_of x 0)
single x = lone (eqb x 40) (eqb x 41) (eqb x 44) (eqb x 45) (eqb x 46) (eqb x 58) (eqb x 59) (eqb x 61) (eqb x 63) (eqb x 124)
