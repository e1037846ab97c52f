-- An event of another entry doesn't move an invocation.
use Rattle.std.proofs.Common.{◌≡◌, ℕ, false, ◌==◌, Option, Some, List, refl, subst}
use Rattle.std.specs.Prelude.{slice_get}
use Rattle.std.specs.Option.{option_map_or}
use Rattle.spv_base.specs.declared.happenings.Happening.{Happening}
use Rattle.spv_state.specs.Program.{Program}
use Rattle.spv_group.proofs.Exports.{entry_is}
use Rattle.spv_group.specs.Run.{happening_at}
use Rattle.spv_search.specs.Moves.{moves}

no_move : (i : ℕ) (h : Happening) → h.inv == i ≡ false → moves i h ≡ false
no_move i h other = rw other refl

pub other_entry : (p : Program) (es : List ℕ) (n i : ℕ) (h : Happening) → option_map_or (λ j. j == i) (slice_get es n) false ≡ false → happening_at p es n ≡ Some h → moves i h ≡ false
other_entry p es n i h other is = no_move i h (subst (λ (o : Option ℕ). option_map_or (λ j. j == i) o false ≡ false) (entry_is p es n h is) other)
