-- What an accepted module gives to a run over it (SPIR-V 1.6 section 2.16): operands of their kinds and types, targets that
-- exist, an executable that comes next where none ends the block, and constants of the shapes of their types.
use Rattle.std.specs.Prelude.{◌≡◌, ℕ, ℤ, true, List, [], Option, Some, length}
use Rattle.spv_base.specs.Entries.{reads}
use Rattle.spv_base.specs.declared.instructions.Inst.{Inst}
use Rattle.spv_base.specs.declared.values.Root.{Root}
use Rattle.spv_types.specs.Laws.{AreComplete, AreNamed, AreSound}
use Rattle.spv_cfg.specs.Laws.{BlocksAreEntered, FunctionsAreEntered, FunctionsHaveDepths, RunsGoOn, TargetsAreEntered}
use Rattle.spv_sections.specs.Laws.{AreInOrder}
use Rattle.spv_consts.specs.Laws.{HaveShapes, HaveValues}
use Rattle.spv_consts.specs.Limits.{KeepLimits}
use Rattle.spv_bodies.specs.Laws.{KeepRules}
use Rattle.spv_bodies.specs.Context.{known_of}
use Rattle.spv_index.specs.Definitions.{before_functions}
use Rattle.spv_index.specs.Operands.{id_operand}
use Rattle.spv_types.specs.Build.{type_breaches}
use Rattle.spv_types.specs.Typing.{types_read}
use Rattle.spv_consts.specs.Build.{constant_breaches}
use Rattle.spv_valid.specs.Acceptance.{Accepted, decoded_in}
use Rattle.spv_valid.specs.Breaches.{layout_breaches}
use Rattle.spv_valid.specs.Entry.{entry_point, is_compute, is_plain_function, is_size}

-- The entry point: a GLCompute one, of a name or the first, whose function is the entry. This function has no parameters and returns
-- void, a workgroup has 1 to 1,024 invocations, and the longest chain of calls from it is known.
pub record HasEntry (a : Accepted) : Type 0 where
  pub name : Option (List ℕ)
  pub point : Inst
  pub is_point : entry_point a.insts name ≡ Some point
  pub compute : is_compute point ≡ true
  pub function : id_operand point 1 ≡ Some a.entry
  pub plain : is_plain_function a.types a.insts a.entry ≡ true
  pub size : is_size a.size ≡ true
  pub depth : reads a.entry a.flow.depths ≡ Some a.depth

pub record IsValid (a : Accepted) : Type 0 where
  -- the ids are below the Bound, and stand for what the operands ask
  pub ids : AreInOrder (decoded_in a)
  -- no id is defined twice, and constants come after their types
  pub named : AreNamed a.insts
  -- the types keep the rules of their forms and come after their parts, and each array has its length
  pub types : AreSound a.types
  pub lengths : AreComplete a.types (length a.types)
  -- no rule of types, of module variables or of undefined values is broken (SPIR-V 1.6 section 2.16.1)
  pub declared : type_breaches a.insts [] (before_functions a.insts) ≡ []
  -- no rule of constants is broken
  pub over : List (ℕ × ℤ)
  pub constants : constant_breaches (types_read a.insts) a.insts over ≡ []
  -- types are nested at most 32 deep and have at most 4,194,304 cells, as all constants together (this project's profile)
  pub limits : KeepLimits a.types a.constants
  -- blocks are laid out (SPIR-V 1.6 section 2.16.2)
  pub layout : layout_breaches a.types a.insts ≡ []
  -- each constant has a value, of the shape of its type; none has pointers in it
  pub values : HaveValues a.insts a.constants
  pub shapes : (roots : Root → Option ℕ) → HaveShapes a.types a.insts roots a.constants
  -- each block, each target of a branch and each function has an executable to begin with, and the functions have depths
  pub blocks : BlocksAreEntered a.insts a.flow
  pub targets : TargetsAreEntered a.insts a.flow
  pub functions : FunctionsAreEntered a.insts a.flow
  pub depths : FunctionsHaveDepths a.insts a.flow
  -- behind each executable but the last of a block the next one comes
  pub nexts : RunsGoOn a.insts a.flow
  -- the instructions of functions have operands of the types that their opcodes ask
  pub rules : KeepRules (known_of a.types a.constants a.insts) a.insts
  -- where a run begins
  pub entry : HasEntry a
