use Rattle.std.proofs.Common.{sym, subst, List}
use Rattle.spv_types.specs.declared.forms.Form.{Form}
use Rattle.spv_types.specs.declared.forms.Member.{Member}
use Rattle.spv_types.specs.Counted.{AreBefore, PartsAreBefore}
use Rattle.spv_types.proofs.counting.parts_before.Goals as goal

pub returns-in-Struct : goal.returns-in-Struct
returns-in-Struct c = λ yes.
    let all = subst (λ (ms : List Member). AreBefore c.args.types.now c.args.limit ms) c.as_slice.ensures (c.members_before.ensures yes) in
    subst (λ (f : Form). PartsAreBefore c.args.types.now c.args.limit f) (sym c.in-Struct.is) all
