-- The laws of names and their numbers, for callers. Assumes nothing.
use Rattle.std.specs.Prelude.{◌≡◌, refl, List, [], ◌∷◌, ◌++◌, ℕ, ◌+◌, ◌*◌, ◌/◌, ◌%◌, ◌<◌, get_or}
use Rattle.std.proofs.Common.{ap, ◌∙◌, arith}
use Rattle.read_nodes.specs.Spell.{named, named_step, named_same, named_once}
use Rattle.read_nodes.specs.Trie.{Trie, Grown}

-- equal names have equal numbers
pub one_number : {N H S : List ℕ} {n : ℕ} → Trie N H S n → (i j : ℕ) → i < n → j < n → named N i ≡ named N j → i ≡ j
one_number {N} {H} {S} {n} T i j h g e = named_once i i j N n T.parents T.apart (omega arith) h g e

-- names stay as they are where tables grow
pub named_kept : {N H S N' : List ℕ} {n n' : ℕ} → Trie N H S n → Grown N n N' n' → (i : ℕ) → i < n → named N' i ≡ named N i
named_kept {N} {H} {S} {N'} {n} {n'} T G i h = named_same N N' n T.parents G.same i h

pub grown_none : (N : List ℕ) (n : ℕ) → Grown N n N n
grown_none N n = record { more = omega arith; long = refl; same = λ i h. refl }

pub grown_twice : {N N' N'' : List ℕ} {n n' n'' : ℕ} → Grown N n N' n' → Grown N' n' N'' n'' → Grown N n N'' n''
grown_twice {N} {N'} {N''} {n} {n'} {n''} G K =
    let a = G.more in
    let b = K.more in
    record { more = omega arith; long = K.long ∙ G.long; same = λ i h. K.same i (omega arith) ∙ G.same i h }

-- the name of a child: its parent's and one byte more
pub named_child : {N H S : List ℕ} {n : ℕ} → Trie N H S n → (q p b : ℕ) → 0 < q → q < n → get_or N q 0 ≡ p * 256 + b → b < 256 → named N q ≡ named N p ++ (b ∷ [])
named_child {N} {H} {S} {n} T q p b g h e s =
    let x : get_or N q 0 / 256 ≡ p = omega arith in
    let y : get_or N q 0 % 256 ≡ b = omega arith in
    named_step N n T.parents q g h
    ∙ ap (λ (k : ℕ). named N k ++ (get_or N q 0 % 256 ∷ [])) x
    ∙ ap (λ (k : ℕ). named N p ++ (k ∷ [])) y
