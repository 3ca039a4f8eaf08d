-- Words are one-to-one: equal words are words of equal nodes, with equal words behind them.
use mathlib.Core.Path.{◌≡◌, ap, sym, ◌∙◌}
use mathlib.Core.List.{List}
use mathlib.Core.Option.{some-injective}
use Prim.Native.Nat.{ℕ, ◌+◌}
use native.Mathlib.Omega.{arith}
use Rattle.akl.specs.Base.{Name}
use Rattle.akl.specs.Configuration.{Kind, Node}
use Rattle.mem_words.specs.declared.Word.{Word}
use Rattle.store_words.specs.Boxes.{node_words}
use Rattle.store_words.specs.Reading.{node_from}
use Rattle.store_words.specs.Tables.{SpeltNode, node_calls}
use Rattle.store_words.proofs.Back.{node_read}

pub node_once : (num : Name → ℕ) (spell : ℕ → Name) {k : Kind} (x y : Node k) (r u : List Word) → SpeltNode num spell x → SpeltNode num spell y → node_words num x r ≡ node_words num y u → (x ≡ y) × (r ≡ u)
node_once num spell {k} x y r u h g e = (ap (λ (p : Node k × List Word). p.0) pair, ap (λ (p : Node k × List Word). p.1) pair)
  where
    n : ℕ
    n = node_calls x + node_calls y

    pair : ◌≡◌ {A = Node k × List Word} (x, r) (y, u)
    pair = some-injective (x, r) (y, u) (sym (node_read num spell x n r (omega arith) h) ∙ ap (λ (ws : List Word). node_from spell n k ws) e ∙ node_read num spell y n u (omega arith) g)
