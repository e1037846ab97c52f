use Rattle.std.proofs.Common.{◌<◌, length, add-one}
use Rattle.spv_index.specs.Classes.{sets_of}
use Rattle.spv_index.specs.Positions.{outside}
use Rattle.spv_index.proofs.StandLemmas.{stand_at, stands_length, standings_length}
use Rattle.spv_index.proofs.stands.Stands.at.Goals as goal

pub standing_at-standing-requires : goal.standing_at-standing-requires
standing_at-standing-requires c = rw (c.self.invariant, standings_length, c.self.view_is) c.requires

pub inst_at-requires : goal.inst_at-requires
inst_at-requires c =
    let insts = c.self.inside.insts.now in
    rw (← stands_length (sets_of insts) outside insts, c.self.view_is) c.requires

pub returns : goal.returns
returns c =
    let insts = c.self.inside.insts.now in
    let below : c.args.n < length insts = rw (← stands_length (sets_of insts) outside insts, c.self.view_is) c.requires in
    rw (← c.self.view_is, add-one)
    (stand_at (sets_of insts) outside insts c.args.n c.standing_at-standing.result c.inst_at.result.now below (rw c.self.invariant at c.standing_at-standing.ensures) c.inst_at.ensures)
