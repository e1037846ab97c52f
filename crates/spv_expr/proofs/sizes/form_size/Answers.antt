use Rattle.std.proofs.Common.{List, length, sym, subst}
use Rattle.std.proofs.lemmas.Option.{IfSome_then}
use Rattle.spv_types.specs.declared.forms.Form.{Form}
use Rattle.spv_types.specs.declared.forms.Member.{Member}
use Rattle.spv_expr.specs.Sizes.{AreSized, IsFormSize}
use Rattle.spv_expr.proofs.SizeLemmas.{boolean_size, int_size, struct_size, vector_size}
use Rattle.spv_expr.proofs.sizes.form_size.Goals as goal

pub returns-in-Bool : goal.returns-in-Bool
returns-in-Bool c = subst (λ (f : Form). IsFormSize c.args.types.now f c.scalar_size.result) (sym c.in-Bool.is) (boolean_size c.args.types.now c.scalar_size.result c.scalar_size.ensures)

pub returns-in-Int : goal.returns-in-Int
returns-in-Int c = subst (λ (f : Form). IsFormSize c.args.types.now f c.scalar_size-in-Int.result) (sym c.in-Int.is)
    (int_size c.args.types.now c.in-Int.width c.in-Int.sign c.scalar_size-in-Int.result c.scalar_size-in-Int.ensures)

pub returns-in-Vector : goal.returns-in-Vector
returns-in-Vector c = IfSome_then c.row_size.result c.row_size.ensures
    (λ size row. subst (λ (f : Form). IsFormSize c.args.types.now f size) (sym c.in-Vector.is) (vector_size c.args.types.now c.in-Vector.component c.in-Vector.count size row))

pub returns-in-Array : goal.returns-in-Array
returns-in-Array c = IfSome_then c.array_size.result c.array_size.ensures
    (λ size array. subst (λ (f : Form). IsFormSize c.args.types.now f size) (sym c.in-Array.is) (array c.in-Array.stride))

pub returns-in-Struct : goal.returns-in-Struct
returns-in-Struct c = IfSome_then c.members_size.result c.members_size.ensures
    (λ size row. subst (λ (f : Form). IsFormSize c.args.types.now f size) (sym c.in-Struct.is) (struct_size c.args.types.now _ c.in-Struct.block size
    (subst (λ (ms : List Member). AreSized c.args.types.now ms (length ms) size) c.as_slice.ensures row)))
