use Rattle.std.proofs.Common.{refl}
use Rattle.spv_types.proofs.RowPlaces.{lies_at, lies_written, part_lies}
use Rattle.spv_types.proofs.rows.parts_are_sub_rows.Goals as goal

pub returns-clause-lies : goal.returns-clause-lies
returns-clause-lies c = λ ts roots id n path v w sound place. lies_at v path w n (part_lies ts roots sound path id n v w place.shape place.leaf place.part)

pub returns-clause-written : goal.returns-clause-written
returns-clause-written c = λ ts roots id n path v w u sound place. lies_written v path w n u (part_lies ts roots sound path id n v w place.shape place.leaf place.part)

pub returns-clause-rows : goal.returns-clause-rows
returns-clause-rows c = λ ts roots id n path v w sound place. record { part = w; is = place.part; lies = part_lies ts roots sound path id n v w place.shape place.leaf place.part; long = refl }
