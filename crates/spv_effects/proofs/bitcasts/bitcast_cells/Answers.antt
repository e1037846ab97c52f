use Rattle.std.proofs.Common.{◌∙◌, ◌*◌, ◌<◌, List, [], ◌∷◌, ◌++◌, ℕ, map, length, sym, ap, arith}
use Rattle.std.proofs.lemmas.List.{take_more_set}
use Rattle.std.proofs.lemmas.List.FromFn.{map-range_with_len_more}
use Rattle.std.specs.List.{range_with_len}
use Rattle.spv_alu.specs.Vectors.{bitcast_of, component_width}
use Rattle.spv_base.specs.Cell.{Cell}
use Rattle.spv_effects.proofs.ListLemmas.{lane_within}
use Rattle.spv_effects.proofs.bitcasts.bitcast_cells.Goals as goal

pub bitcast-requires-clause-within : goal.bitcast-requires-clause-within
bitcast-requires-clause-within c =
    let below : c.loop-index.index < c.args.count = omega arith in
    lane_within c.args.count c.args.width c.loop-index.index (length c.args.a.now * component_width c.args.a.now) below c.requires.bits.bits

pub loop-index-preserved : goal.loop-index-preserved
loop-index-preserved c =
    let within : c.loop-index.index < length c.loop-index.into = omega arith in
    let f : ℕ → Cell = bitcast_of c.args.a.now c.args.width in
    take_more_set c.loop-index.into c.loop-index.index c.bitcast.result within
    ∙ ap (λ (t : List Cell). t ++ (c.bitcast.result ∷ [])) c.loop-index.invariant
    ∙ ap (λ (r : Cell). map f (range_with_len 0 c.loop-index.index) ++ (r ∷ [])) c.bitcast.ensures.lane
    ∙ sym (map-range_with_len_more f 0 c.loop-index.index c.loop-index.index (omega arith))
