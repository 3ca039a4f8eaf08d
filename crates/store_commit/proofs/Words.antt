-- Words that were built in a lent slice are the bytes that are written. Assumes nothing.
use mathlib.Core.Path.{◌≡◌, sym, ap, ◌∙◌, subst}
use mathlib.Core.List.{List, [], ◌∷◌, ◌++◌}
use mathlib.Core.Option.{some}
use Prim.Native.Nat.{ℕ, zero, suc, ◌*◌, ◌≤◌}
use native.Mathlib.Omega.{arith}
use lib.ListN.{length, take, drop}
use lib.Seq.{drop_at}
use Rattle.akl.specs.Limits.{most_parts}
use Rattle.akl.specs.Configuration.{Config}
use Rattle.mem_words.specs.declared.Word.{Word}
use Rattle.mem_words.specs.Words.{words, length_words}
use Rattle.mem_words.specs.Form.{NoBad, bytes_of}
use Rattle.store_form.specs.Sizes.{store_length}
use Rattle.store_form.specs.State.{State, table, number_in}
use Rattle.store_form.specs.Form.{config_words, store_bytes}
use Rattle.store_form.specs.Holding.{Fits}
use Rattle.store_form.proofs.Keeping.{with_config}
use Rattle.store_form.proofs.Reading.{bytes_length}
use Rattle.store_pieces.proofs.Numbers.{ByteList}
use Rattle.store_pieces.proofs.Words.{first_words}
use Rattle.store_pieces.proofs.Laid.{node_good}
use Rattle.store_calls.specs.Outcomes.{held, put_state}
use Rattle.store_views.proofs.Views.{held_begins}
use Rattle.rule_build.specs.Built.{Built}
use Rattle.store_commit.specs.Committed.{Committed}
use Rattle.store_commit.proofs.States.{committed_bytes}

take_short : (n : ℕ) (l : List Word) → length (take n l) ≤ length l
take_short zero l = omega arith
take_short (suc n) [] = omega arith
take_short (suc n) (x ∷ l) = omega (arith, take_short n l)

-- the first words of bytes, all of them and none `Bad`, tell the first bytes
pub words_tell : (n : ℕ) (O : List ℕ) (W : List Word) → ByteList O → NoBad W → take n (words O) ≡ W → n ≡ length W → take (3 * n) O ≡ bytes_of W
words_tell n O W b g e l =
    let m : n ≤ length (words O) = omega (arith, take_short n (words O), ap length e, l) in
    sym (first_words n O (omega (arith, m, length_words O)) b (subst NoBad (sym e) g)) ∙ ap bytes_of e

-- likewise of words that were built, where there was room for them
pub built_tell : (cap n : ℕ) (O : List ℕ) (W : List Word) → ByteList O → NoBad W → Built cap W n (words O) → length W ≤ cap → (n ≡ length W) × (take (3 * n) O ≡ bytes_of W)
built_tell cap n O W b g t h = let w = t.whole h in (w.0, words_tell n O W b g w.1 w.0)

-- no word of a configuration is `Bad`
pub config_good : (s : State) → NoBad (config_words s)
unfolding config_words
config_good s = node_good s.config.root (number_in (table s)) [] tt

-- The bytes of a state, with others behind, become those of the state with the configuration whose words were built.
pub committed_words : (s : State) → Fits most_parts s → (c : Config) (L S rest X : List ℕ) (n next : ℕ) → L ≡ store_bytes most_parts s ++ rest → Committed L S n next X
    → take n (words S) ≡ config_words (with_config s c) → n ≡ length (config_words (with_config s c)) → next ≡ c.next → X ≡ store_bytes most_parts (with_config s c) ++ rest
committed_words s F c L S rest X n next is w e en ex =
    committed_bytes s F c L S rest X n next is w (words_tell n S (config_words (with_config s c)) w.bytes (config_good (with_config s c)) e en) en ex

-- the slice with another state's bytes as its store
pub put_there : (s : State) → Fits most_parts s → (t : State) (L rest : List ℕ) → L ≡ store_bytes most_parts s ++ rest → put_state most_parts L t ≡ store_bytes most_parts t ++ rest
unfolding put_state
put_there s F t L rest is =
    ap (λ (r : List ℕ). store_bytes most_parts t ++ r) (ap (drop (store_length most_parts)) is ∙ drop_at (store_bytes most_parts s) rest (store_length most_parts) (bytes_length most_parts (omega arith) s F))

-- the same of bytes that hold a state
pub committed_held : (s : State) (c : Config) (L S X : List ℕ) (n next : ℕ) → held most_parts L ≡ some s → Committed L S n next X
    → take n (words S) ≡ config_words (with_config s c) → n ≡ length (config_words (with_config s c)) → next ≡ c.next → X ≡ put_state most_parts L (with_config s c)
unfolding put_state
committed_held s c L S X n next h w e en ex =
    let p = held_begins most_parts (omega arith) L s h in
    committed_words s p.1 c L S (drop (store_length most_parts) L) X n next p.0 w e en ex
