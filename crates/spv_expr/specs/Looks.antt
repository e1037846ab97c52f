-- Where the memory is read for what events tell. Clauses of private calls alone cite this.
use Rattle.std.specs.Prelude.{◌≡◌, ℕ, ◌==◌, ◌||◌, Bool, true, false, List, slice_index, ⊤}
use Rattle.std.specs.Option.{option_map_or}
use Rattle.spv_base.specs.declared.values.PassedEvent.{PassedEvent}
use Rattle.spv_dbg.specs.declared.insts.DebugInst.{DebugInst}
use Rattle.spv_dbg.specs.Tables.{Tables, with_id}
use Rattle.spv_mem.specs.Memory.{Held as Memory}
use Rattle.spv_parts.specs.Parts.{literal}
use Rattle.spv_expr.specs.declared.events.Instance.{Instance}
use Rattle.spv_expr.specs.declared.ranges.Range.{Range}
use Rattle.spv_expr.specs.declared.sources.Look.{Look}
use Rattle.spv_expr.specs.declared.sources.Look.TheVariants.{Past, Found, Unknown}
use Rattle.spv_expr.specs.declared.sources.Source.{Source}
use Rattle.spv_expr.specs.declared.sources.Source.TheVariants.{Nowhere}
use Rattle.spv_expr.specs.Bits.{local_bit, piece_bits, told}
use Rattle.spv_expr.specs.Kept.{is_in}
use Rattle.spv_expr.specs.Sources.{ReadsSame}
use Rattle.spv_expr.specs.Variables.{tells}

-- Deref (0), StackValue (7) and Fragment (9): what they make of a pointer depends on the leaves alone that it leads to
abbrev pub is_plain : Tables → ℕ → Bool
is_plain t id = option_map_or (λ (d : DebugInst). literal t (slice_index d.operands 0) == 0 || (literal t (slice_index d.operands 0) == 7 || literal t (slice_index d.operands 0) == 9)) (with_id t id) false

module _ (t : Tables) where
  -- the bits of the piece of an event are the same in two memories that are the same there
  abbrev pub IsPieceSource : DebugInst → PassedEvent → Source → Type 0
  IsPieceSource d e source = (inv : ℕ) (m n : Memory) → ReadsSame source inv m n → piece_bits m inv t d e ≡ piece_bits n inv t d e

  module _ (v : Instance) (span : Range) where
    -- so are the bits of a range of which an event tells
    abbrev pub IsToldSource : PassedEvent → Source → Type 0
    IsToldSource e source = (inv : ℕ) (m n : Memory) → ReadsSame source inv m n → (j : ℕ) → is_in j span ≡ true → tells t v j e ≡ true → told m inv t v j e ≡ told n inv t v j e

    -- it tells of all of them
    abbrev pub TellsAll : PassedEvent → Type 0
    TellsAll e = (j : ℕ) → is_in j span ≡ true → tells t v j e ≡ true

    abbrev pub IsLook : PassedEvent → Look → Type 0
    IsLook e Past = IsToldSource e Nowhere
    IsLook e (Found source) = TellsAll e × IsToldSource e source
    IsLook e Unknown = ⊤

    -- so are those of a range, where these events were passed
    abbrev pub IsLocalSource : List PassedEvent → Source → Type 0
    IsLocalSource events source = (inv : ℕ) (m n : Memory) → ReadsSame source inv m n → (j : ℕ) → is_in j span ≡ true → local_bit m inv t events v j ≡ local_bit n inv t events v j
