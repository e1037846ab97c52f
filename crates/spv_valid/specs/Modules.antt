-- What a stored module is.
use Rattle.spv_valid.specs.declared.modules.Module.TheInside.{Inside}
use Rattle.spv_valid.specs.Acceptance.{Accepted}

abbrev pub view_of : Inside → Accepted
view_of m = record { insts = m.index.insts; bound = m.index.bound; types = m.types; constants = m.consts; flow = m.flow; entry = m.entry.function; size = m.entry.size; depth = m.entry.depth; stack_cells = m.stack_cells }
