-- What an id stands for is of the type of its result: data a value of it, and a pointer leads to the type that it points to.
use Rattle.std.specs.Prelude.{◌≡◌, ℕ, Option, Some, None}
use Rattle.spv_base.specs.Entries.{reads}
use Rattle.spv_base.specs.Variables.{root_id}
use Rattle.spv_base.specs.declared.values.Pointer.{Pointer}
use Rattle.spv_base.specs.declared.values.Root.{Root}
use Rattle.spv_base.specs.declared.values.Value.{Value}
use Rattle.spv_initial.specs.Start.{variables}
use Rattle.spv_initial.specs.Variables.{targets_of}
use Rattle.spv_types.specs.Rows.{no_roots}
use Rattle.spv_types.specs.Shapes.{HasShape, LeadsTo}
use Rattle.spv_operands.specs.Operands.{pointer_of}
use Rattle.spv_show.specs.Elements.{with_elements}
use Rattle.spv_valid.specs.Acceptance.{Accepted}
use Rattle.spv_ids.specs.Texts.{target_of, type_of}

-- the type of the value of the variable that a root names
abbrev pub variable_type : Accepted → Root → Option ℕ
variable_type a r = reads (root_id r) (targets_of (variables a))

-- no data but in memory has an element of a runtime array
pub record IsTyped (a : Accepted) (id : ℕ) (v : Value) : Type 0 where
  pub value : pointer_of v ≡ None → HasShape (with_elements 0 a.types) no_roots (type_of a id) v
  pub pointer : (q : Pointer) → pointer_of v ≡ Some q → LeadsTo a.types (variable_type a) q (target_of a id)
