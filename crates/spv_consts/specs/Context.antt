-- What the constants of a module are read by: its instructions, and the overrides that hold. OpUndef is 1.
use Rattle.std.specs.Prelude.{ℕ, ◌==◌, ◌&&◌, nat_lt, Bool, false, List}
use Rattle.std.specs.Option.{option_map_or}
use Rattle.spv_base.specs.declared.instructions.Inst.{Inst}
use Rattle.spv_index.specs.Definitions.{defining}
use Rattle.spv_consts.specs.Overrides.{Numbers}

pub record Context : Type 0 where
  pub all : List Inst
  pub held : Numbers

-- an OpUndef whose first word is before a word
abbrev pub is_undef_before : ℕ → Inst → Bool
is_undef_before word d = d.op == 1 && nat_lt d.word word

-- an id is defined by one
abbrev pub has_undef_before : Context → ℕ → ℕ → Bool
has_undef_before m word id = option_map_or (is_undef_before word) (defining m.all id) false
