use Rattle.std.proofs.Common.{◌≡◌, ◌+◌, ◌-◌, ◌*◌, ◌<◌, refl, sym, arith}
use Rattle.spv_base.specs.Cell.{undefined_cell}
use Rattle.spv_start.specs.Blocks.{read_among, read_members}
use Rattle.spv_start.specs.Numbers.{scalar_at}
use Rattle.spv_start.proofs.BlockLemmas.{less_one, none_read, row_more, row_of}
use Rattle.spv_start.proofs.blocks.Reader.+reads.Goals as goal
use Rattle.spv_types.proofs.Exports.{leaves_scalar, no_leaves, leaves_many}

pub among-returns-in-None : goal.among-returns-in-None
among-returns-in-None t c = none_read c.args.self.now.types.now c.args.self.now.bytes.now c.args.self.now.size c.args.limit c.args.ty c.args.at c.args.cells.now.items (sym c.in-None.ensures)

pub of_form-returns-in_ok-push-in-Bool : goal.of_form-returns-in_ok-push-in-Bool
of_form-returns-in_ok-push-in-Bool t c = rw (c.in-Bool.is, leaves_scalar (undefined_cell 1)) c.in_ok-push-in-Bool.ensures.items

pub of_form-returns-in_ok-push-in-Int : goal.of_form-returns-in_ok-push-in-Int
of_form-returns-in_ok-push-in-Int t c =
    rw (c.in-Int.is, leaves_scalar (scalar_at c.args.self.now.bytes.now c.args.at c.in-Int.width), ← c.scalar_at.ensures) c.in_ok-push-in-Int.ensures.items

pub of_form-returns-in-Vector : goal.of_form-returns-in-Vector
of_form-returns-in-Vector t c =
    rw c.in-Vector.is (row_of c.row.result c.row.new.cells.items c.args.cells.now.items _ c.args.at _ _ _ _ c.scalar_bytes-stride.ensures c.from.ensures c.row.ensures)

pub of_form-returns-in-Array : goal.of_form-returns-in-Array
of_form-returns-in-Array t c =
    rw (c.in-Array.is, ← c.unwrap_or.ensures, ← c.unwrap_or-in-Array.ensures)
    (row_of c.row-in-Array.result c.row-in-Array.new.cells.items c.args.cells.now.items _ c.args.at _ _ _ _ refl c.from-in-Array.ensures c.row-in-Array.ensures)

pub of_form-returns-in-Runtime : goal.of_form-returns-in-Runtime
of_form-returns-in-Runtime t c =
    rw c.in-Runtime.is (row_of c.row-in-Runtime.result c.row-in-Runtime.new.cells.items c.args.cells.now.items _ c.args.at _ _ _ _ c.unwrap_or-in-Runtime.ensures c.elements_in-count.ensures c.row-in-Runtime.ensures)

pub of_form-returns-in-Struct : goal.of_form-returns-in-Struct
of_form-returns-in-Struct t c =
    rw (c.in-Struct.is, leaves_many (read_members (read_among c.args.self.now.types.now c.args.self.now.bytes.now c.args.self.now.size c.args.limit) c.args.at c.in-Struct.members), ← c.as_slice.ensures) c.of_members.ensures

pub of_form-returns-in-Void : goal.of_form-returns-in-Void
of_form-returns-in-Void t c = rw c.in-Void.is (no_leaves c.args.cells.now.items)

pub of_form-returns-in-Pointer : goal.of_form-returns-in-Pointer
of_form-returns-in-Pointer t c = rw c.in-Pointer.is (no_leaves c.args.cells.now.items)

pub of_form-returns-in-Function : goal.of_form-returns-in-Function
of_form-returns-in-Function t c = rw c.in-Function.is (no_leaves c.args.cells.now.items)

pub row-each-preserved : goal.row-each-preserved
row-each-preserved t c =
    let some : 0 < c.each.left = omega (arith, c.each-test.true) in
    let one : (c.each.left - 1) * c.args.stride + c.args.stride ≡ c.each.left * c.args.stride = less_one c.each.left c.args.stride some in
    record {
      within = omega (arith, one, c.each.invariant.within, c.from-place.ensures);
      cells = row_more (read_among c.args.self.now.types.now c.args.self.now.bytes.now c.args.self.now.size c.args.limit c.args.ty) c.among.new.cells.items c.each.cells.items _ c.each.place c.from-place.result c.args.stride c.each.left some
          c.from-place.ensures c.in_ok-among.ensures c.each.invariant.cells;
    }
