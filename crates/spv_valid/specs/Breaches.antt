-- The breaches of a module's rules, and which of them is the least: first by pass, then by word, then by code.
use Rattle.std.specs.Prelude.{◌≡◌, ◌<◌, ◌≤◌, ◌⊎◌, ℕ, ℤ, List, [], ◌∷◌, ◌++◌, map, Option, Result, Ok, Err}
use Rattle.std.specs.List.{All, Contains}
use Rattle.std.specs.Result.{result_unwrap_or}
use Rattle.spv_base.specs.declared.causes.Refusal.{Refusal}
use Rattle.spv_base.specs.declared.instructions.Inst.{Inst}
use Rattle.spv_ops.specs.Module.{Decoded}
use Rattle.spv_types.specs.Types.{Types}
use Rattle.spv_index.specs.Definitions.{before_functions}
use Rattle.spv_types.specs.Typing.{types_read}
use Rattle.spv_types.specs.Build.{type_breaches}
use Rattle.spv_types.specs.InterfaceBlocks.{module_breaches}
use Rattle.spv_cfg.specs.Flow.{block_breaches, call_breaches, flow_in}
use Rattle.spv_sections.specs.Sections.{order_breaches}
use Rattle.spv_sections.specs.Ids.{id_breaches}
use Rattle.spv_sections.specs.Capabilities.{capability_breaches}
use Rattle.spv_consts.specs.Table.{Constants}
use Rattle.spv_consts.specs.Build.{constant_breaches, constants_of}
use Rattle.spv_bodies.specs.Bodies.{body_breaches}
use Rattle.spv_bodies.specs.Context.{known_of}
use Rattle.spv_bodies.specs.Places.{placed}
use Rattle.spv_valid.specs.Entry.{entry_of}

-- the breaches of the first list that has any
abbrev pub first_with : List (List Refusal) → List Refusal
first_with [] = []
first_with ([] ∷ later) = first_with later
first_with ((r ∷ rs) ∷ later) = r ∷ rs

-- what a result refuses
abbrev pub refused_in : {T : Type 0} → Result T Refusal → List Refusal
refused_in (Ok x) = []
refused_in (Err r) = r ∷ []

-- words, each with a code
abbrev pub at_words : ℕ → List ℕ → List Refusal
at_words code words = map (λ word. record { code = code; word = word }) words

-- ---- pass by pass

abbrev pub layout_breaches : Types → List Inst → List Refusal
layout_breaches ts insts = module_breaches insts ts [] insts

abbrev pub flow_breaches : List Inst → List Refusal
flow_breaches insts = at_words 15 (block_breaches insts) ++ at_words 16 (call_breaches insts)

abbrev pub bodies_breaches : Types × Constants → List Inst → List Refusal
bodies_breaches known insts = body_breaches (known_of known.0 known.1 insts) (placed insts)

-- the passes in their order, by the types that a module has, and by those with the lengths of their arrays and its constants
abbrev pub breaches_by : Decoded → Option (List ℕ) → List (ℕ × ℤ) → Types → Types × Constants → List (List Refusal)
breaches_by m name over types known =
    order_breaches m.insts
    ∷ id_breaches m
    ∷ capability_breaches m.insts
    ∷ type_breaches m.insts [] (before_functions m.insts)
    ∷ constant_breaches types m.insts over
    ∷ layout_breaches known.0 m.insts
    ∷ flow_breaches m.insts
    ∷ bodies_breaches known m.insts
    ∷ refused_in (entry_of known.0 known.1 (flow_in m.insts) m.insts name)
    ∷ []

abbrev pub known_read : List Inst → List (ℕ × ℤ) → Types × Constants
known_read insts over = result_unwrap_or (constants_of (types_read insts) insts over) ([], [])

-- The breaches of a module: those of a later pass only where the passes before it have none.
unfoldable pub breaches : Decoded → Option (List ℕ) → List (ℕ × ℤ) → List Refusal
breaches m name over = first_with (breaches_by m name over (types_read m.insts) (known_read m.insts over))

-- ---- the least

-- a breach at a lower word than another, or at its word with no greater code
abbrev pub IsBefore : Refusal → Refusal → Type 0
IsBefore r s = (r.word < s.word) ⊎ ((r.word ≡ s.word) × (r.code ≤ s.code))

-- one of some breaches, which none of them is before
pub record IsLeast (rs : List Refusal) (r : Refusal) : Type 0 where
  pub among : Contains rs r
  pub least : All (IsBefore r) rs
