-- Sessions that are opened over a pair.
use Rattle.std.proofs.Common.{◌≡◌, ◌∙◌, ℕ, List, [], map, Result, Ok, Err, refl, ap, sym, subst}
use Rattle.spv_loop.specs.Sessions.{Held as Group, Settings, Undoing, Viewing, first_viewing, line_cost, reply}
use Rattle.spv_app.specs.declared.opening.OpeningRefusal.{OpeningRefusal}
use Rattle.spv_loop.specs.declared.status.Status.{Status}
use Rattle.spv_loop.specs.CommandLoop.{Ran}
use Rattle.spv_loop.specs.Transcript.{Reply, Cost}
use Rattle.spv_app.specs.Opening.{journaled, viewed, with_journal}
use Rattle.spv_loop.specs.Streams.{Streams}

-- the first view of what a pair is opened as
pub viewed_as : (n : ℕ) (r : Result Group OpeningRefusal) (u : Undoing) (v : Viewing) → journaled n r ≡ Ok u → v ≡ first_viewing u → viewed n r ≡ Ok v
viewed_as n (Ok g) u v e f = let same : with_journal n g ≡ u = cc in ap Ok (ap first_viewing same ∙ sym f)
viewed_as n (Err x) u v e f = absurd (cc)

pub unviewed_as : (n : ℕ) (r : Result Group OpeningRefusal) (x : OpeningRefusal) → journaled n r ≡ Err x → viewed n r ≡ Err x
unviewed_as n (Ok g) x e = absurd (cc)
unviewed_as n (Err y) x e = let same : y ≡ x = cc in ap Err same

-- the group that a view is of
pub viewed_is : (n : ℕ) (r : Result Group OpeningRefusal) (v : Viewing) → viewed n r ≡ Ok v → (g : Group) × (r ≡ Ok g) × (v ≡ first_viewing (with_journal n g))
viewed_is n (Ok g) v e = (g, refl, cc)
viewed_is n (Err x) v e = absurd (cc)

pub refused_is : (n : ℕ) (r : Result Group OpeningRefusal) (x : OpeningRefusal) → viewed n r ≡ Err x → r ≡ Err x
refused_is n (Ok g) x e = absurd (cc)
refused_is n (Err y) x e = let same : y ≡ x = cc in ap Err same

-- a run of the command loop from what is the same
pub ran_as : (reply : Reply) (cost : Cost) (start at : Viewing) (before after : Streams) (status : Status) → at ≡ start → Ran reply cost at before after status → Ran reply cost start before after status
ran_as reply cost start at before after status e ran = subst (λ (s : Viewing). Ran reply cost s before after status) e ran

-- and by what are the same settings
pub ran_by : (settings tests : Settings) (start : Viewing) (before after : Streams) (status : Status) → tests ≡ settings → Ran (reply tests) (line_cost tests) start before after status → Ran (reply settings) (line_cost settings) start before after status
ran_by settings tests start before after status e ran = subst (λ (s : Settings). Ran (reply s) (line_cost s) start before after status) e ran

-- of no probes there are no tests
pub none_tested : {A B : Type 0} (f : A → B) (xs : List A) (ys : List B) → ys ≡ map f xs → xs ≡ [] → ys ≡ []
none_tested f xs ys e none = e ∙ ap (map f) none
