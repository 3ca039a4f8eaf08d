-- The laws are those of `solve_classes`, at the tables of the slice. Assumes nothing.
use mathlib.Core.Path.{refl, sym, subst}
use mathlib.Core.Bool.{Bool}
use Prim.Native.Nat.{ℕ}
use native.Mathlib.Omega.{arith}
use Rattle.solve_cells.specs.Cells.{Found}
use Rattle.solve_classes.specs.Means.{Order}
use Rattle.solve_classes.proofs.Linking.{joined_same, joined_reps, joined_sym}
use Rattle.work_tables.specs.Tables.{cells_of, vars_of, olds_of}
use Rattle.work_classes.proofs.join.Goals as goal

pub find-a-requires : goal.find-a-requires
find-a-requires c = (c.requires.0, record { up = c.requires.1.up; inside = c.requires.1.inx })

pub find-b-requires : goal.find-b-requires
find-b-requires c = (c.requires.0, record { up = c.requires.1.up; inside = c.requires.1.iny })

pub returns-then-a-b : goal.returns-then-a-b
returns-then-a-b c =
    let L = c.args.w.now in
    record { joined = joined_same (cells_of L) (vars_of L) (olds_of L) c.args.n c.args.x.0 c.args.y.0 c.find-a.result.0 c.requires.1 c.find-a.ensures (subst (λ (r : ℕ). Found (cells_of L) c.args.y.0 r) (sym c.if-a-b.true) c.find-b.ensures); rest = record { before = refl; after = refl; long = refl } }

pub below-requires : goal.below-requires
below-requires c = (c.requires.0, record { ina = c.find-a.ensures.inside; inb = c.find-b.ensures.inside; size = omega (arith, c.requires.1.up.size); apart = c.if-a-b.false })

pub hang-requires : goal.hang-requires
hang-requires c =
    let h = c.requires.1 in
    (c.requires.0, record { up = h.up; ina = c.find-a.ensures.inside; inb = c.find-b.ensures.inside; roota = c.find-a.ensures.root; rootb = c.find-b.ensures.root; less = subst (λ (r : Bool). Order (cells_of c.args.w.now) c.find-a.result.0 c.find-b.result.0 r) c.if-below.true c.below.ensures; room_x = h.room_x; room_c = h.room_c })

pub returns-then-below : goal.returns-then-below
returns-then-below c =
    let L = c.args.w.now in
    record { joined = joined_reps (cells_of L) (vars_of L) (olds_of L) c.args.n c.args.x.0 c.args.y.0 c.find-a.result.0 c.find-b.result.0 _ _ _ c.hang.result c.requires.1 c.find-a.ensures c.find-b.ensures c.hang.ensures.joined; rest = c.hang.ensures.rest }

pub hang-requires-2 : goal.hang-requires-2
hang-requires-2 c =
    let h = c.requires.1 in
    (c.requires.0, record { up = h.up; ina = c.find-b.ensures.inside; inb = c.find-a.ensures.inside; roota = c.find-b.ensures.root; rootb = c.find-a.ensures.root; less = subst (λ (r : Bool). Order (cells_of c.args.w.now) c.find-a.result.0 c.find-b.result.0 r) c.if-below.false c.below.ensures; room_x = h.room_x; room_c = h.room_c })

pub returns : goal.returns
returns c =
    let L = c.args.w.now in
    record { joined = joined_reps (cells_of L) (vars_of L) (olds_of L) c.args.n c.args.x.0 c.args.y.0 c.find-a.result.0 c.find-b.result.0 _ _ _ c.hang-2.result c.requires.1 c.find-a.ensures c.find-b.ensures (joined_sym c.hang-2.ensures.joined); rest = c.hang-2.ensures.rest }
