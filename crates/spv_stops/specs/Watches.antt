-- Watches: ranges of bits of variables.
use Rattle.std.specs.Prelude.{ℕ, Bool, Option}
use Rattle.spv_base.specs.Entries.{reads}
use Rattle.spv_stops.specs.Stops.{Stops}

-- What a watch looks at: so many bits from the first on, of a global or of a local of an invocation. A local is one of the real frame at a
-- depth, if that is one of this function, under an InlinedAt.
pub record WatchKey : Type 0 where
  pub local : Bool
  pub inv : ℕ
  pub depth : ℕ
  pub function : ℕ
  pub variable : ℕ
  pub inlined : ℕ
  pub first : ℕ
  pub count : ℕ

-- the key of the watch with this number
abbrev pub key_of : ℕ → Stops WatchKey → Option WatchKey
key_of k watches = reads k watches.0
