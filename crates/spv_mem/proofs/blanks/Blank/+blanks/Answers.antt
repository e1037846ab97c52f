use Rattle.std.proofs.Common.{◌≡◌, min, replicate, sym}
use Rattle.spv_base.specs.Cell.{undefined_cell}
use Rattle.spv_types.specs.declared.forms.Member.{Member}
use Rattle.spv_types.proofs.Exports.{leaves_many, leaves_scalar, no_leaves}
use Rattle.spv_mem.specs.Blanks.{blank_among}
use Rattle.spv_mem.proofs.BlankLemmas.{equal_more, member_leaves, none_blank}
use Rattle.spv_mem.proofs.blanks.Blank.+blanks.Goals as goal

pub among-returns-in-None : goal.among-returns-in-None
among-returns-in-None t c = none_blank c.args.self.now.types.now c.args.self.now.elements c.args.limit c.args.ty c.args.cells.now.items (sym c.in-None.ensures)

pub of_form-returns-in_ok-push-in-Bool : goal.of_form-returns-in_ok-push-in-Bool
of_form-returns-in_ok-push-in-Bool t c =
    let one : c.undefined.result ≡ undefined_cell 1 = c.undefined.ensures in
    rw (c.in-Bool.is, leaves_scalar (undefined_cell 1), ← one) c.in_ok-push-in-Bool.ensures.items

pub of_form-returns-in_ok-push-in-Int : goal.of_form-returns-in_ok-push-in-Int
of_form-returns-in_ok-push-in-Int t c =
    rw (c.in-Int.is, leaves_scalar (undefined_cell (min c.in-Int.width 64)), ← c.undefined-in-Int.ensures) c.in_ok-push-in-Int.ensures.items

pub of_form-returns-in-Vector : goal.of_form-returns-in-Vector
of_form-returns-in-Vector t c =
    rw (c.in-Vector.is, leaves_many (replicate c.in-Vector.count (blank_among c.args.self.now.types.now c.args.self.now.elements c.args.limit c.in-Vector.component))) c.repeated_cells.ensures

pub of_form-returns-in-Array : goal.of_form-returns-in-Array
of_form-returns-in-Array t c =
    rw (c.in-Array.is, ← c.unwrap_or.ensures, leaves_many (replicate c.unwrap_or.result (blank_among c.args.self.now.types.now c.args.self.now.elements c.args.limit c.in-Array.element))) c.repeated_cells-in-Array.ensures

pub of_form-returns-in-Runtime : goal.of_form-returns-in-Runtime
of_form-returns-in-Runtime t c =
    rw (c.in-Runtime.is, leaves_many (replicate c.args.self.now.elements (blank_among c.args.self.now.types.now c.args.self.now.elements c.args.limit c.in-Runtime.element))) c.repeated_cells-in-Runtime.ensures

pub of_form-returns-in-Struct : goal.of_form-returns-in-Struct
of_form-returns-in-Struct t c =
    rw (c.in-Struct.is, member_leaves (λ (m : Member). blank_among c.args.self.now.types.now c.args.self.now.elements c.args.limit m.ty) c.in-Struct.members, ← c.as_slice.ensures) c.of_members.ensures

pub of_form-returns-in-Void : goal.of_form-returns-in-Void
of_form-returns-in-Void t c = rw c.in-Void.is (no_leaves c.args.cells.now.items)

pub of_form-returns-in-Pointer : goal.of_form-returns-in-Pointer
of_form-returns-in-Pointer t c = rw c.in-Pointer.is (no_leaves c.args.cells.now.items)

pub of_form-returns-in-Function : goal.of_form-returns-in-Function
of_form-returns-in-Function t c = rw c.in-Function.is (no_leaves c.args.cells.now.items)

pub repeated_cells-loop-number-preserved : goal.repeated_cells-loop-number-preserved
repeated_cells-loop-number-preserved t c =
    equal_more (blank_among c.args.self.now.types.now c.args.self.now.elements c.args.limit c.args.ty) _ _ _ c.loop-number._number c.in_ok-among.ensures c.loop-number.invariant
