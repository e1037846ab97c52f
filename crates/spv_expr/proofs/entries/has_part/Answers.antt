use Rattle.std.proofs.Common.{◌∙◌, [], ◌∷◌, ap}
use Rattle.std.specs.Option.{is_some}
use Rattle.spv_base.specs.declared.values.Pointer.{Pointer}
use Rattle.spv_mem.specs.Memory.{load_of}
use Rattle.spv_expr.proofs.EntryLemmas.{load_append, loads_some}
use Rattle.spv_expr.proofs.entries.has_part.Goals as goal

pub returns : goal.returns
returns c =
    let m = c.args.memory.now in
    c.is_ok.ensures.value ∙ loads_some m c.args.inv c.in_ok-first.first c.load.result c.load.ensures
    ∙ ap (λ (p : Pointer). is_some (load_of m c.args.inv p)) c.in_ok-first.ensures
    ∙ ap is_some (load_append m c.args.inv c.args.pointer.now (0 ∷ []))
