-- A decoded module: its instructions, in their order, and the Bound of its ids (SPIR-V 1.6 section 2.3).
use Rattle.std.specs.Prelude.{ℕ, ◌<◌, ◌≤◌, List}
use Rattle.std.specs.List.{AllByRecursion}
use Rattle.spv_base.specs.Order.{Ascend}
use Rattle.spv_base.specs.declared.instructions.Inst.{Inst}

pub record Decoded : Type 0 where
  pub insts : List Inst
  pub bound : ℕ

-- each word stands behind the ones before; a module has at most 4 MiB, so there are fewer than 1,048,576 of them, and its Bound is at most
-- 1,048,576 (this project's profile)
pub record IsDecoded (m : Decoded) : Type 0 where
  pub ascend : Ascend 0 m.insts
  pub words : AllByRecursion (λ i. i.word < 1048576) m.insts
  pub limit : m.bound ≤ 1048576
