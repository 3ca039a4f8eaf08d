-- Whether words are those of a program that passes, by the tables of the working slice. Assumes nothing.
use Rattle.std.specs.Prelude.{◌≡◌, List, [], Bool, true, false, ◌&&◌, ℕ}
use Rattle.std.proofs.Common.{ap, ap₂, sym, ◌∙◌, arith}
use Rattle.std.proofs.Math.Path.{fun_ext}
use Rattle.mem_words.specs.declared.Word.{Word}
use Rattle.mem_parts.specs.Parts.{Outside, outside_then, outside_wide}
use Rattle.check_shapes.specs.declared.Frame.TheVariants.{Head}
use Rattle.check_shapes.specs.Machine.{run}
use Rattle.check_shapes.specs.Passed.{heads, listed, program_passed}
use Rattle.check_tables.specs.Tables.{kinds_of, arities_of, con_of, pred_of, def_of, tabled_after, kinds_before, arities_before}
use Rattle.check_heads.specs.Filling.{CanFill, Filled}
use Rattle.check_run.specs.Running.{runs, CanRun, Ran}

-- r says whether the words W pass; if they do, the table of arities has their heads
pub record Checked (L : List ℕ) (m : ℕ) (W : List Word) (X : List ℕ) (r : Bool) : Type 0 where
  pub is : r ≡ program_passed (con_of m (kinds_of L)) (pred_of m (kinds_of L)) W
  pub table : r ≡ true → (q j : ℕ) → def_of m (arities_of X) q j ≡ listed (heads W) q j
  pub rest : Outside 20992 262144 L X

pub can_run : {L X : List ℕ} {m : ℕ} {W : List Word} {r : Bool} → CanFill L m W → Filled L m W X r → CanRun X m W Head
can_run c f = record { tables = tabled_after c.tables f.rest; short = c.short; low = tt }

untrue : {A : Type 0} → false ≡ true → A
untrue z = absurd (let y : ◌≡◌ {A = ℕ} 0 1 = ap (λ (b : Bool). elim b as (λ v. ℕ) [ false ↦ 0 | true ↦ 1 ]) z in omega arith)

pub heads_refused : {L X : List ℕ} {m : ℕ} {W : List Word} {r : Bool} → Filled L m W X r → r ≡ false → Checked L m W X false
unfolding program_passed
heads_refused {L} {X} {m} {W} f e = record {
  is = ap (λ (v : Bool). v && run (con_of m (kinds_of L)) (pred_of m (kinds_of L)) (listed (heads W)) false W Head []) (sym e ∙ f.is);
  table = λ z. untrue z;
  rest = outside_wide 20992 262144 (omega arith) (omega arith) f.rest;
}

pub checked : {L Y X : List ℕ} {m : ℕ} {W : List Word} {g r : Bool} → CanFill L m W → Filled L m W Y g → g ≡ true → Ran Y m false W Head X r → Checked L m W X r
unfolding program_passed runs
checked {L} {Y} {X} {m} {W} {g} {r} c f e n =
    let k : kinds_of Y ≡ kinds_of L = kinds_before 20992 (omega arith) (omega arith) c.tables f.rest in
    let a : arities_of X ≡ arities_of Y = arities_before 65536 (omega arith) (omega arith) (tabled_after c.tables f.rest) n.rest in
    let d : def_of m (arities_of Y) ≡ listed (heads W) = fun_ext (λ q. fun_ext (λ j. f.table e q j)) in
    record {
      is =
          n.is
          ∙ ap₂ (λ (B : List ℕ) (D : ℕ → ℕ → Bool). run (con_of m B) (pred_of m B) D false W Head []) k d
          ∙ ap (λ (v : Bool). v && run (con_of m (kinds_of L)) (pred_of m (kinds_of L)) (listed (heads W)) false W Head []) (sym e ∙ f.is);
      table = λ z q j. ap (λ (A : List ℕ). def_of m A q j) a ∙ f.table e q j;
      rest = outside_then (outside_wide 20992 262144 (omega arith) (omega arith) f.rest) (outside_wide 20992 262144 (omega arith) (omega arith) n.rest);
    }
