-- What the tests of names and of the program's words come to. Assumes nothing.
use mathlib.Core.Path.{◌≡◌, refl, sym, ap, ap₂, ◌∙◌, subst}
use mathlib.Core.List.{List, [], ◌∷◌}
use mathlib.Core.Bool.{Bool, true, false}
use Prim.Native.Nat.{ℕ, zero, suc, ◌+◌, ◌-◌, ◌*◌, ◌/◌, ◌≤◌, ◌<◌}
use native.Mathlib.Omega.{arith}
use lib.Dec.{T}
use lib.ListN.{length, take, drop, get_or}
use lib.Seq.{get_or-drop}
use Rattle.akl.specs.Syntax.{Program}
use Rattle.akl.specs.WellFormed.{program_passes}
use Rattle.mem_numbers.specs.Numbers.{triples, length_triples}
use Rattle.mem_parts.specs.Parts.{cut, length_cut, Outside}
use Rattle.mem_words.specs.declared.Word.{Word}
use Rattle.mem_words.specs.Words.{words, length_words}
use Rattle.mem_words.specs.Form.{Bytes, AllSmall}
use Rattle.layout.specs.Layout.{program_words}
use Rattle.store_form.specs.State.{number_in}
use Rattle.store_pieces.proofs.Numbers.{ByteList, all_bytes}
use Rattle.store_pieces.proofs.Small.{words_small}
use Rattle.check_nodetables.specs.Tables as nodes
use Rattle.check_names.specs.Names.{NamesStand, Told, Touched}
use Rattle.check_namekinds.specs.Kinds.{KindsTo}
use Rattle.check_decided.proofs.Decided.{node_number}
use Rattle.check_tables.specs.Tables.{kinds_of, arities_of, Tabled, con_of, pred_of, kinds_before}
use Rattle.check_shapes.specs.Passed.{program_passed}
use Rattle.check_meaning.specs.Table.{con_in, pred_in}
use Rattle.check_meaning.proofs.Programs.{program_means, program_taken}
use Rattle.check_agree.proofs.Tables.{con_agrees, pred_agrees}
use Rattle.check_program.specs.Checking.{Checked}
use Rattle.check_rules.specs.Rules.{RulesTold}

-- bytes of a part
take_bytes : (k : ℕ) (l : List ℕ) → ByteList l → ByteList (take k l)
take_bytes zero l b i = omega arith
take_bytes (suc k) [] b i = omega arith
take_bytes (suc k) (x ∷ l) b zero = b 0
take_bytes (suc k) (x ∷ l) b (suc i) = take_bytes k l (λ j. b (suc j)) i

pub cut_bytes : (a e : ℕ) (l : List ℕ) → ByteList l → ByteList (cut a e l)
unfolding cut
cut_bytes a e l b = take_bytes (e - a) (drop a l) (λ i. subst (λ (x : ℕ). x < 256) (sym (get_or-drop a l i 0)) (b (a + i)))

pub cut_small : (a e : ℕ) (l : List ℕ) → ByteList l → AllSmall (words (cut a e l))
cut_small a e l b = words_small (cut a e l) (all_bytes (cut a e l) (cut_bytes a e l b))

pub long_names : (b : List ℕ) (m : ℕ) → 18 + 3 * m ≤ length b → length (triples (cut 18 (18 + 3 * m) b)) ≡ m
long_names b m h = omega (arith, length_triples (cut 18 (18 + 3 * m) b), length_cut 18 (18 + 3 * m) b h)

pub long_variables : (b : List ℕ) (q : ℕ) → 159789 + 3 * q ≤ length b → length (triples (cut 159789 (159789 + 3 * q) b)) ≡ q
long_variables b q h = omega (arith, length_triples (cut 159789 (159789 + 3 * q) b), length_cut 159789 (159789 + 3 * q) b h)

pub long_rules : (b : List ℕ) (a r : ℕ) → a + 3 * r ≤ length b → length (words (cut a (a + 3 * r) b)) ≡ r
long_rules b a r h = omega (arith, length_words (cut a (a + 3 * r) b), length_cut a (a + 3 * r) b h)

untrue : {A : Type 0} → false ≡ true → A
untrue z = absurd (let y : ◌≡◌ {A = ℕ} 0 1 = ap (λ (b : Bool). elim b as (λ v. ℕ) [ false ↦ 0 | true ↦ 1 ]) z in omega arith)

-- the names do not stand
pub names_refused : (N v : List ℕ) (R : List Word) (m : ℕ) (K X : List ℕ) (t : Bool) → t ≡ false → Told N v K t → RulesTold N v R m X false
names_refused N v R m K X true e t = untrue (sym e)
names_refused N v R m K X false e t = λ P s p q. t s

names_stand : (N v K : List ℕ) (t : Bool) → t ≡ true → Told N v K t → NamesStand N v × KindsTo N K (length N)
names_stand N v K true e t = t
names_stand N v K false e t = untrue e

same_kinds : (L : List ℕ) → nodes.kinds_of L ≡ kinds_of L
unfolding nodes.kinds_of kinds_of
same_kinds L = refl

-- The names stand, and the program's words are tested.
pub rules_told : (N v : List ℕ) (R : List Word) (m : ℕ) (L X : List ℕ) (t u : Bool) → m ≡ length N → AllSmall R → 524288 ≤ length L → m ≤ 20489 → t ≡ true → Told N v (nodes.kinds_of L) t → Checked L m R X u → RulesTold N v R m X u
rules_told N v R m L X t u e small long few et told c = go u refl
  where
    S : NamesStand N v
    S = (names_stand N v (nodes.kinds_of L) t et told).0

    K : KindsTo N (kinds_of L) (length N)
    K = subst (λ (k : List ℕ). KindsTo N k (length N)) (same_kinds L) (names_stand N v (nodes.kinds_of L) t et told).1

    tabled : Tabled L m
    tabled = record { long = long; names = few }

    same : u ≡ program_passed (con_in N) (pred_in N) R
    same = c.is ∙ ap₂ (λ (x y : ℕ → Bool). program_passed x y R) (con_agrees N (kinds_of L) m e K) (pred_agrees N (kinds_of L) m e K)

    go : (w : Bool) → u ≡ w → RulesTold N v R m X w
    go true p =
        let M = program_means N (node_number S) R (subst T (sym p ∙ same) tt) in
        record {
          stand = S;
          program = M.0;
          is = M.1;
          kinds = subst (λ (k : List ℕ). KindsTo N k (length N)) (sym (kinds_before 20992 (omega arith) (omega arith) tabled c.rest)) K;
          definitions = λ q j. c.table p q j ∙ M.1.defines q j;
        }
    go false p = λ P s q f.
        let t = subst (λ (W : List Word). T (program_passed (con_in N) (pred_in N) W)) (sym q) (program_taken N P f (subst AllSmall q small)) in
        subst T (sym same ∙ p) t
