-- What the outside of a call tells: the files, the input, the output, and the count of steps.
use Rattle.std.specs.Prelude.{ℕ, List}
use Rattle.spv_base.specs.Outside.{Told, Asked}
use Rattle.spv_loop.specs.Streams.{Streams}

pub record Library : Type 0 where
  pub told : Told  -- the contents of the files by their names
  pub asked : Asked  -- the names that were asked for, in the order of the calls
  pub taken : ℕ  -- how many bytes the last call took
  pub failed : List ℕ  -- the name whose reading failed last

-- what files tell, by the meanings of their trait
abbrev pub library : {F : Type 0} → (contents : F → Told) → (asked : F → Asked) → (taken : F → ℕ) → (failed : F → List ℕ) → F → Library
library contents asked taken failed files = record { told = contents files; asked = asked files; taken = taken files; failed = failed files }

pub record Outside : Type 0 where
  pub files : Library
  pub streams : Streams
