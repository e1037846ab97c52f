use Rattle.std.proofs.Common.{List, ℕ, ap}
use Rattle.spv_undo.specs.declared.entries.Entry.TheVariants.{Leaf}
use Rattle.spv_undo.proofs.entries.variable_entry.Goals as goal

pub returns : goal.returns
returns c = ap (λ (p : List ℕ). Leaf c.args.root 0 (record { of = record {}; value = p }) c.args.value) c.no_path.ensures
