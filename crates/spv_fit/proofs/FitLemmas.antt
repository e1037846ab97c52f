-- A schedule is of the invocations that it was asked for.
use Rattle.std.proofs.Common.{◌≡◌, ℕ, Bool, true, false, cond, List, length, ap, sym, Result, Ok, Err}
use Rattle.std.specs.Prelude.{nat_le}
use Rattle.spv_base.specs.declared.causes.SetupRefusal.{SetupRefusal}
use Rattle.spv_setup.specs.declared.settings.Run.{Run}
use Rattle.spv_setup.specs.Schedule.{Entries, entries_of, schedule_of}

pub schedule_counts : (invocations : ℕ) (runs : List Run) (s : Entries) → schedule_of invocations runs ≡ Ok s → s.invocations ≡ invocations
unfolding schedule_of
schedule_counts invocations runs s is = by_test (nat_le (length (entries_of invocations runs)) 4194304) is
  where
    by_test : (t : Bool) → ◌≡◌ {A = Result Entries SetupRefusal} (cond t (Ok (record { invocations = invocations; list = entries_of invocations runs })) (Err (record { code = 9; line = 0 }))) (Ok s) → s.invocations ≡ invocations
    by_test true h = let e : ◌≡◌ {A = Entries} (record { invocations = invocations; list = entries_of invocations runs }) s = cc in sym (ap (λ (x : Entries). x.invocations) e)
    by_test false h = absurd (cc)
