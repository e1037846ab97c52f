use Rattle.std.proofs.Common.{◌∙◌, List, length, ap, sym}
use Rattle.spv_index.specs.Classes.{sets_of}
use Rattle.spv_index.specs.Positions.{Stand, outside}
use Rattle.spv_index.proofs.StandLemmas.{stands_length}
use Rattle.spv_index.proofs.stands.Stands.len.Goals as goal

pub returns : goal.returns
returns c =
    let insts = c.self.inside.insts.now in
    sym (stands_length (sets_of insts) outside insts) ∙ ap (λ (stood : List Stand). length stood) c.self.view_is
