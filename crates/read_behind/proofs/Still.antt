-- What was read is still there when the outputs change only behind their counts: names are spelled by the cells below the count, and the
-- heads and the query's variables have numbers of names below it. Assumes nothing.
use mathlib.Core.Path.{◌≡◌, refl, ap, ap₂, sym, ◌∙◌, subst}
use mathlib.Core.List.{List, [], ◌∷◌, map}
use Prim.Native.Nat.{ℕ, zero, suc, ◌*◌, ◌-◌, ◌/◌, ◌<◌}
use native.Mathlib.Omega.{arith}
use lib.ListN.{length, get_or, take, drop, replicate}
use Rattle.constraint.specs.Constraint.{In}
use Rattle.akl.specs.Base.{Name}
use Rattle.mem_numbers.specs.Numbers.{shorts, triples, length_shorts, length_triples}
use Rattle.mem_words.specs.declared.Word.{Word}
use Rattle.mem_words.specs.Words.{words, length_words}
use Rattle.read_nodes.specs.Spell.{named, named_same}
use Rattle.read_pieces.specs.Reads.{Spelling, heads}
use Rattle.read_wholes.proofs.Tables.{heads_same}
use Rattle.read_inputs.specs.declared.Inputs.TheVariants.{Read}
use Rattle.read_inputs.specs.Inputs.{InputsTo, Loaded, Outputs}
use Rattle.read_behind.specs.Behind.{Behind, Within, AllBehind}
use Rattle.read_behind.proofs.Firsts.{first_same, triples_first, shorts_first, words_first}

map_first : (n : ℕ) (Q : List ℕ) (f g : ℕ → Name) → ((i : ℕ) → i < n → f (get_or Q i 0) ≡ g (get_or Q i 0)) → map f (take n Q) ≡ map g (take n Q)
map_first zero Q f g h = refl
map_first (suc n) [] f g h = refl
map_first (suc n) (x ∷ Q) f g h = ap₂ ◌∷◌ (h 0 (omega arith)) (map_first n Q f g (λ i k. h (suc i) (omega arith)))

module _ {text query : List ℕ} (c h u o g : List ℕ) {d a v k m : ℕ} (read : Loaded text query (triples c) (triples h) (words u) (shorts o) (words g) d a v k m) where
  -- the counts are within the bytes
  pub loaded_within : Within d a v k m c h u o g
  loaded_within =
      record {
        cells = omega (arith, read.room.4, length_triples c);
        heads = omega (arith, read.room.0, length_triples h);
        rules = omega (arith, read.room.1, length_words u);
        order = omega (arith, read.room.2, length_shorts o);
        goal = omega (arith, read.room.3, length_words g);
      }

  module _ (c' h' u' o' g' : List ℕ) (z : AllBehind d a v k m c c' h h' u u' o o' g g') where
    cell_same : (i : ℕ) → i < m → get_or (triples c') i 0 ≡ get_or (triples c) i 0
    cell_same = first_same m (triples c) (triples c') 0 (triples_first c c' m z.cells.long loaded_within.cells z.cells.before)

    name_same : (i : ℕ) → i < m → named (triples c') i ≡ named (triples c) i
    name_same = named_same (triples c) (triples c') m read.parents cell_same

    heads_first : take d (triples h') ≡ take d (triples h)
    heads_first = triples_first h h' d z.heads.long loaded_within.heads z.heads.before

    order_first : take v (shorts o') ≡ take v (shorts o)
    order_first = shorts_first o o' v z.order.long loaded_within.order z.order.before

    spelled : (num : Name → ℕ) → Spelling (named (triples c')) num m → Spelling (named (triples c)) num m
    spelled num s = record { back = λ i l. ap num (sym (name_same i l)) ∙ s.back i l }

    pub loaded_still : Loaded text query (triples c') (triples h') (words u') (shorts o') (words g') d a v k m
    loaded_still =
        record {
          program = read.program;
          goal = read.goal;
          reads_program = read.reads_program;
          reads_query = read.reads_query;
          room = (
            omega (arith, loaded_within.heads, z.heads.long, length_triples h'),
            omega (arith, loaded_within.rules, z.rules.long, length_words u'),
            omega (arith, loaded_within.order, z.order.long, length_shorts o'),
            omega (arith, loaded_within.goal, z.goal.long, length_words g'),
            omega (arith, loaded_within.cells, z.cells.long, length_triples c'),
          );
          few = read.few;
          root = read.root;
          parents = λ i p l. omega (arith, cell_same i l, read.parents i p l);
          used = λ i l. omega (arith, first_same v (shorts o) (shorts o') 0 order_first i l, read.used i l);
          numbers = λ x i. read.numbers x (subst (In x) heads_first i);
          apart = λ i j p q e. read.apart i j p q (sym (name_same i p) ∙ e ∙ name_same j q);
          heads =
              ap (heads (named (triples c'))) heads_first
              ∙ heads_same (take d (triples h)) (named (triples c')) (named (triples c)) (λ x i. name_same (x / 256) (read.numbers x i))
              ∙ read.heads;
          variables =
              ap (map (named (triples c'))) order_first
              ∙ map_first v (shorts o) (named (triples c')) (named (triples c)) (λ i l. name_same (get_or (shorts o) i 0) (read.used i l))
              ∙ read.variables;
          rules_words = λ num s. words_first u u' a z.rules.long loaded_within.rules z.rules.before ∙ read.rules_words num (spelled num s);
          goal_words = λ num s. words_first g g' k z.goal.long loaded_within.goal z.goal.before ∙ read.goal_words num (spelled num s);
        }

-- the answer of reading, and the outputs by the bytes that were lent, c₀ to g₀
module _ {text query N D : List ℕ} {R : List Word} {Q : List ℕ} {G : List Word} {K H S T B Z c h u o g : List ℕ} {d a v k m : ℕ} where
  pub inputs_within : InputsTo text query N D R Q G K H S T B Z (triples c) (triples h) (words u) (shorts o) (words g) (Read d a v k m) → Within d a v k m c h u o g
  inputs_within x = loaded_within c h u o g x.answer

  pub inputs_still : {c' h' u' o' g' : List ℕ} → InputsTo text query N D R Q G K H S T B Z (triples c) (triples h) (words u) (shorts o) (words g) (Read d a v k m) → AllBehind d a v k m c c' h h' u u' o o' g g' → InputsTo text query N D R Q G K H S T B Z (triples c') (triples h') (words u') (shorts o') (words g') (Read d a v k m)
  inputs_still {c'} {h'} {u'} {o'} {g'} x z = record { answer = loaded_still c h u o g x.answer c' h' u' o' g' z }

zeros_long : (n : ℕ) (b₀ b b' : List ℕ) → length b ≡ length b₀ → Behind n b b' → drop n b' ≡ replicate (length b₀ - n) 0
zeros_long n b₀ b b' e z = z.zeros ∙ ap (λ (j : ℕ). replicate (j - n) 0) e

pub outputs_read : (c₀ h₀ u₀ o₀ g₀ : List ℕ) {c h u o g c' h' u' o' g' : List ℕ} (d a v k m : ℕ) → length c ≡ length c₀ → length h ≡ length h₀ → length u ≡ length u₀ → length o ≡ length o₀ → length g ≡ length g₀ → AllBehind d a v k m c c' h h' u u' o o' g g' → Outputs (Read d a v k m) c₀ c' h₀ h' u₀ u' o₀ o' g₀ g'
outputs_read c₀ h₀ u₀ o₀ g₀ {c} {h} {u} {o} {g} {c'} {h'} {u'} {o'} {g'} d a v k m ec eh eu eo eg z =
    record {
      cells = zeros_long (3 * m) c₀ c c' ec z.cells;
      heads = zeros_long (3 * d) h₀ h h' eh z.heads;
      rules = zeros_long (3 * a) u₀ u u' eu z.rules;
      order = zeros_long (2 * v) o₀ o o' eo z.order;
      goal = zeros_long (3 * k) g₀ g g' eg z.goal;
    }
