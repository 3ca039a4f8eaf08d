-- The laws are those of `solve_classes`, at the tables of the slice. Assumes nothing.
use mathlib.Core.Path.{◌≡◌, refl, sym, ap, ◌∙◌}
use Prim.Native.Nat.{ℕ, ◌+◌, ◌*◌, ◌/◌, ◌%◌}
use native.Mathlib.Omega.{arith}
use Rattle.mem_numbers.specs.Stored.{stored_other}
use Rattle.solve_cells.specs.Trail.{CanSave}
use Rattle.solve_classes.proofs.Linking.{joined_link, joined_raise, link_paid, root_cell, same_rank, differ}
use Rattle.mem_parts.specs.Parts.{outside_then}
use Rattle.work_tables.specs.Tables.{cells_of, vars_of, olds_of, length_var, laid_after}
use Rattle.work_classes.proofs.hang.Goals as goal

pub overflow_add-one : goal.overflow_add-one
overflow_add-one c = omega (arith, c.requires.1.room_x, length_var c.requires.0)

pub overflow_add-two : goal.overflow_add-two
overflow_add-two c = omega (arith, c.requires.1.room_x, length_var c.requires.0)

pub cell_get-requires : goal.cell_get-requires
cell_get-requires c = record { laid = c.requires.0; inside = omega (arith, c.requires.1.ina, c.requires.1.up.size) }

pub cell_get-cb-requires : goal.cell_get-cb-requires
cell_get-cb-requires c = record { laid = c.requires.0; inside = omega (arith, c.requires.1.inb, c.requires.1.up.size) }

pub overflow_mul-ra : goal.overflow_mul-ra
overflow_mul-ra c = omega arith

pub overflow_add-ra : goal.overflow_add-ra
overflow_add-ra c = omega arith

pub overflow_mul-b : goal.overflow_mul-b
overflow_mul-b c = omega (arith, c.requires.1.inb, c.requires.1.up.size)

pub overflow_add-ra-2 : goal.overflow_add-ra-2
overflow_add-ra-2 c = omega (arith, c.requires.1.inb, c.requires.1.up.size)

pub save-requires : goal.save-requires
save-requires c = (c.requires.0, record { inside = c.requires.1.ina; var = omega (arith, c.requires.1.ina, c.requires.1.up.size); cell = omega (arith, c.requires.1.inb, c.requires.1.up.size); room_x = omega (arith, c.requires.1.room_x); room_c = omega (arith, c.requires.1.room_c) })

pub returns-then-ra-rb : goal.returns-then-ra-rb
returns-then-ra-rb c =
    let L = c.args.w.now in
    let h = c.requires.1 in
    let d = 1 + c.cell_get.result / 4 % 64 * 4 + c.args.b.0 * 256 in
    let k1 : CanSave (cells_of L) (vars_of L) (olds_of L) c.args.n c.args.a.0 d = record { inside = h.ina; var = omega (arith, h.ina, h.up.size); cell = omega (arith, h.inb, h.up.size); room_x = omega (arith, h.room_x); room_c = omega (arith, h.room_c) } in
    record { joined = joined_link (cells_of L) (vars_of L) (olds_of L) _ _ _ c.args.n c.args.a.0 c.args.b.0 d h k1 c.save.ensures.saved (omega arith) (omega arith) (omega (arith, c.cell_get.ensures.is)); rest = c.save.ensures.rest }

pub returns-then-rb-gt62 : goal.returns-then-rb-gt62
returns-then-rb-gt62 c =
    let L = c.args.w.now in
    let h = c.requires.1 in
    let d = 1 + c.cell_get.result / 4 % 64 * 4 + c.args.b.0 * 256 in
    let k1 : CanSave (cells_of L) (vars_of L) (olds_of L) c.args.n c.args.a.0 d = record { inside = h.ina; var = omega (arith, h.ina, h.up.size); cell = omega (arith, h.inb, h.up.size); room_x = omega (arith, h.room_x); room_c = omega (arith, h.room_c) } in
    record { joined = joined_link (cells_of L) (vars_of L) (olds_of L) _ _ _ c.args.n c.args.a.0 c.args.b.0 d h k1 c.save.ensures.saved (omega arith) (omega arith) (omega (arith, c.cell_get.ensures.is)); rest = c.save.ensures.rest }

pub overflow_add-cb : goal.overflow_add-cb
overflow_add-cb c = omega arith

pub save-requires-2 : goal.save-requires-2
save-requires-2 c = (laid_after c.requires.0 c.save.ensures.rest, record { inside = omega (arith, c.save.ensures.saved.cells.long, c.requires.1.inb); var = omega (arith, c.requires.1.inb, c.requires.1.up.size); cell = omega (arith, c.cell_get-cb.ensures.small); room_x = omega (arith, c.requires.1.room_x, c.save.ensures.saved.vars.long); room_c = omega (arith, c.requires.1.room_c, c.save.ensures.saved.olds.long) })

pub returns : goal.returns
returns c =
    let L = c.args.w.now in
    let h = c.requires.1 in
    let a = c.args.a.0 in
    let b = c.args.b.0 in
    let g = c.cell_get.result in
    let g2 = c.cell_get-cb.result in
    let d = 1 + g / 4 % 64 * 4 + b * 256 in
    let sv = c.save.ensures.saved in
    let k1 : CanSave (cells_of L) (vars_of L) (olds_of L) c.args.n a d = record { inside = h.ina; var = omega (arith, h.ina, h.up.size); cell = omega (arith, h.inb, h.up.size); room_x = omega (arith, h.room_x); room_c = omega (arith, h.room_c) } in
    let ne : b ≡ a → ⊥ = differ (cells_of L) a b h.less in
    let same = stored_other b 0 sv.cells ne in
    let nl = root_cell (cells_of L) h.up b h.rootb in
    let le = same_rank (cells_of L) a b g g2 c.cell_get.ensures.is c.cell_get-cb.ensures.is h.less (omega (arith, h.inb, h.up.size)) in
    record {
      joined =
          joined_raise (cells_of L) (vars_of L) (olds_of L) c.args.n a b _ _ _ (c.args.n + 1) b (g2 + 4) _ _ _
          (joined_link (cells_of L) (vars_of L) (olds_of L) _ _ _ c.args.n a b d h k1 sv (omega arith) (omega arith) (omega (arith, c.cell_get.ensures.is))) refl (omega arith)
          (omega (arith, link_paid a d h.up sv.cells h.ina h.roota (omega arith)))
          (record { inside = omega (arith, sv.cells.long, h.inb); var = omega (arith, h.inb, h.up.size); cell = omega (arith, c.cell_get-cb.ensures.small); room_x = omega (arith, h.room_x, sv.vars.long); room_c = omega (arith, h.room_c, sv.olds.long) })
          c.save-2.ensures.saved (λ e. nl (ap (λ (z : ℕ). z % 4) (sym same) ∙ e)) (omega (arith, same, c.cell_get-cb.ensures.is)) (omega (arith, same, c.cell_get-cb.ensures.is)) (omega (arith, same, c.cell_get-cb.ensures.is));
      rest = outside_then c.save.ensures.rest c.save-2.ensures.rest;
    }
