-- What it means that the ids of a module are in order.
use Rattle.std.specs.Prelude.{◌≡◌, ◌⊎◌, ℕ, true, Some, slice_get}
use Rattle.std.specs.List.{AllByRecursion}
use Rattle.spv_ops.specs.Module.{Decoded}
use Rattle.spv_index.specs.Operands.{ids_in}
use Rattle.spv_index.specs.Positions.{Stand, stands_of}
use Rattle.spv_sections.specs.declared.kinds.Wanted.TheVariants.{DeclaredType}
use Rattle.spv_sections.specs.Kinds.{uses_of, wanted}
use Rattle.spv_sections.specs.Definitions.{is_id}
use Rattle.spv_sections.specs.Ids.{is_result, is_type_id, looked_at, names, scope_of}

-- The ids of an instruction are in order where it stands. Of the operands of an instruction with no meaning at run time the
-- set alone is looked at, and what names and decorations are of may have no definition.
pub record IsInOrder (decoded : Decoded) (s : Stand) : Type 0 where
  -- it has a result where its opcode has one: an id that is at least 1 and below the Bound, and that nothing at a lower word defines
  pub result : is_result decoded s.inst ≡ true
  -- it has a result type where its opcode has one: an id below the Bound, of a type that is defined where it can be named
  pub has_type : is_type_id decoded s.inst ≡ true
  pub type_named : (s.inst.ty ≡ 0) ⊎ (names decoded (scope_of s.position s.inst) DeclaredType s.inst.ty ≡ true)
  -- each id among its operands is below the Bound, defined where it can be named, and of the kind that the operand asks
  pub operands : (k id : ℕ) → slice_get (ids_in (looked_at s.class s.inst)) k ≡ Some id
      → (is_id decoded.bound id ≡ true) × (names decoded (scope_of s.position s.inst) (wanted (uses_of s.inst.op) k) id ≡ true)

abbrev pub AreInOrder : Decoded → Type 0
AreInOrder decoded = AllByRecursion (IsInOrder decoded) (stands_of decoded.insts)
