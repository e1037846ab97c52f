use Rattle.std.proofs.Math.Logic.{∥∥₁_elim}
use Rattle.std.proofs.Props.{props}
use Rattle.std.specs.Prelude.{slice_index_or}
use Rattle.spv_touch.specs.Below.spv_valid.specs.Acceptance.{IsAccepted}
use Rattle.spv_group.specs.Run.{run}
use Rattle.spv_exchanges.proofs.LookLemmas.{known_fits}
use Rattle.spv_exchanges.proofs.RunLemmas.{same_run}
use Rattle.spv_exchanges.proofs.laws.free_events_change_places.Goals as goal

pub returns : goal.returns
returns c = λ p entries from to events places accepted low within sound are free between.
    let fits = c.stored_values_keep_outlines.ensures in
    let laws = c.free_events_stay_free.ensures in
    same_run p entries from to events low within
    (λ n a b. known_fits p (run p entries n) (slice_index_or entries n 0)
    (∥∥₁_elim accepted (hlevel props) (λ (is : IsAccepted p.accepted). ∣ fits p (run p entries n) (slice_index_or entries n 0) is (sound n a b) ∣₁))) are
    (λ k e at. laws.no_barrier events k e free at)
    (λ j k root leaf e f other at_j at_k conflict. laws.apart events j k root leaf e f free other at_j at_k conflict)
    places between
