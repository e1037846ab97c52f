-- The lines of happenings: what a probe is told of an event beside what the group tells.
use Rattle.std.specs.Prelude.{ℕ, ◌==◌, Bool, false, if◌then◌else◌}
use Rattle.std.specs.Option.{option_map_or}
use Rattle.spv_base.specs.declared.happenings.Happening.{Happening}
use Rattle.spv_base.specs.declared.happenings.Kind.{Kind}
use Rattle.spv_base.specs.declared.happenings.Kind.TheVariants as kind
use Rattle.spv_base.specs.declared.instructions.Inst.{Inst}
use Rattle.spv_index.specs.Definitions.{at}
use Rattle.spv_valid.specs.Acceptance.{Accepted}
use Rattle.spv_dbg.specs.Tables.{tables_of}
use Rattle.spv_scopes.specs.Heads.{heads_of, line_begun}
use Rattle.spv_scopes.specs.Spots.{spots_of}

-- an OpControlBarrier (224) stands at a word
abbrev pub is_barrier : Accepted → ℕ → Bool
is_barrier a word = option_map_or (λ (d : Inst). d.op == 224) (at a.insts word) false

-- the number of the line that begins at a word, and 0 where none does
abbrev pub begun_at : Accepted → ℕ → ℕ
begun_at a word = line_begun (heads_of a (tables_of a) (spots_of a (tables_of a))) word

-- An idle event has no line, and neither has one that leaves a barrier, which is plain and has the barrier's word. Another has the line
-- of its instruction where that is a line head.
abbrev pub line_of : Accepted → Kind → (word : ℕ) → ℕ
line_of a kind.Idle word = 0
line_of a kind.Plain word = if is_barrier a word then 0 else begun_at a word
line_of a _ word = begun_at a word

abbrev pub lined : Accepted → Happening → Happening
lined a h = record h { line = line_of a h.kind h.word }
