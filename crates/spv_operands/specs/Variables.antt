-- What an OpVariable declares (SPIR-V 1.6 section 3.42.8).
use Rattle.std.specs.Prelude.{◌≡◌, Some}
use Rattle.spv_base.specs.Entries.{reads}
use Rattle.spv_base.specs.declared.instructions.Inst.{Inst}
use Rattle.spv_types.specs.Queries.{pointee}
use Rattle.spv_types.specs.Types.{form_of}
use Rattle.spv_types.specs.declared.queries.Pointed.{Pointed}
use Rattle.spv_initial.specs.Start.{variables}
use Rattle.spv_initial.specs.Variables.{targets_of}
use Rattle.spv_valid.specs.Acceptance.{Accepted}

-- Its type is a pointer type, and its id is among those of the module's variables, with the type of its value.
pub record IsDeclared (a : Accepted) (i : Inst) : Type 0 where
  pub pointed : Pointed
  pub type : pointee (form_of a.types i.ty) ≡ Some pointed
  pub target : reads i.id (targets_of (variables a)) ≡ Some pointed.target
