-- The memory that a run starts with: each variable of the module, in the order of the module, with the value that it begins with. No
-- frame is entered yet.
use Rattle.std.specs.Prelude.{ℕ, List, [], map, replicate, Option}
use Rattle.std.specs.List.{filter_map, range_with_len}
use Rattle.std.specs.Option.{option_map}
use Rattle.spv_base.specs.Variables.{Roots}
use Rattle.spv_base.specs.declared.values.Value.{Value}
use Rattle.spv_valid.specs.Acceptance.{Accepted, invocations}
use Rattle.spv_setup.specs.declared.settings.Settings.{Settings}
use Rattle.spv_mem.specs.Memory.{Held}
use Rattle.spv_initial.specs.Values.{local_value, own_value, shared_value}
use Rattle.spv_initial.specs.Variables.{declared_in, targets_of}
use Rattle.spv_initial.specs.declared.variables.Declared.{Declared}

-- a variable under its id, where it has a value
abbrev pub root : Declared → Option Value → Option (ℕ × Value)
root d v = option_map (λ (x : Value). (d.id, x)) v

-- those of some variables that all invocations share, that an invocation has for itself, and that a frame has
abbrev pub shared_roots : Accepted → Settings → List Declared → Roots
shared_roots a s ds = filter_map (λ (d : Declared). root d (shared_value a s d)) ds

abbrev pub own_roots : Accepted → Settings → List Declared → ℕ → Roots
own_roots a s ds n = filter_map (λ (d : Declared). root d (own_value a s n d)) ds

abbrev pub local_roots : Accepted → List Declared → Roots
local_roots a ds = filter_map (λ (d : Declared). root d (local_value a d)) ds

-- the variables of a module
abbrev pub variables : Accepted → List Declared
variables a = declared_in a.types a.insts

-- The memory of some variables, with room for as many frames of each invocation as the longest chain of calls has.
abbrev pub starting_with : Accepted → Settings → List Declared → Held
starting_with a s ds = record {
  types = a.types;
  targets = targets_of ds;
  shared = shared_roots a s ds;
  privates = map (own_roots a s ds) (range_with_len 0 (invocations a));
  locals = replicate (invocations a) (record { list = []; room = a.depth });
}

-- that of all
unfoldable pub starting : Accepted → Settings → Held
starting a s = starting_with a s (variables a)
