-- One instruction after another: the breaches of the rules of constants (code 14) and of the limits on types and constants
-- (code 18; this project's limits), and what is known after it. An instruction is judged by what the instructions before it give
-- that break nothing.
use Rattle.std.specs.Prelude.{ℕ, ◌+◌, ◌||◌, ◌&&◌, not, nat_lt, if◌then◌else◌, Bool, true, false, List, [], ◌∷◌, ◌++◌, unwrap_or}
use Rattle.std.specs.Option.{option_map_or}
use Rattle.spv_base.specs.declared.instructions.Inst.{Inst}
use Rattle.spv_base.specs.declared.causes.Refusal.{Refusal}
use Rattle.spv_types.specs.declared.limits.Limit.{Limit}
use Rattle.spv_base.specs.Saturation.{saturated}
use Rattle.spv_types.specs.Types.{form_of}
use Rattle.spv_types.specs.Constants.{is_constant}
use Rattle.spv_types.specs.Limits.{limit_among, limit_step}
use Rattle.spv_consts.specs.Context.{Context}
use Rattle.spv_consts.specs.State.{State, is_next}
use Rattle.spv_consts.specs.Lengths.{lengthened}
use Rattle.spv_consts.specs.Rules.{keeps_rules}
use Rattle.spv_consts.specs.Evaluation.{value_of}

-- a type may be nested 32 deep and have 4,194,304 cells
abbrev pub is_great : Limit → Bool
is_great limit = nat_lt 32 limit.nesting || nat_lt 4194304 limit.cells

-- the type with an id is nested too deep or has too many cells, by the types before it
abbrev pub is_great_type : State → ℕ → Bool
is_great_type s id = option_map_or (λ f. is_great (limit_step (limit_among s.types s.known) f)) (form_of s.types id) false

-- the cells of all constants with one more, of a type
abbrev pub cells_with : State → ℕ → ℕ
cells_with s ty = saturated (s.cells + (limit_among s.types s.known ty).cells)

-- an instruction passes a limit: the type that comes next, or a constant with which all have more than 4,194,304 cells
abbrev pub passes_limit : State → Inst → Bool
passes_limit s i =
    if is_next s i.id then is_great_type s i.id
    else (if is_constant i.op then nat_lt 4194304 (cells_with s i.ty)
    else false)

-- it does, with the length that it sets, or sets a greater one than a type may have cells
abbrev pub breaks_limit : Context → State → Inst → Bool
breaks_limit m s i = option_map_or (λ t. passes_limit t i) (lengthened m s i) true

-- one more type is passed
abbrev pub with_type : State → State
with_type s = record s { known = s.known + 1 }

abbrev pub with_constant : Context → State → Inst → State
with_constant m s i = record s { values = s.values ++ (i.id, value_of m s i) ∷ []; cells = cells_with s i.ty }

-- the state after an instruction that breaks nothing
abbrev pub with_entry : Context → State → Inst → State
with_entry m s i =
    if is_next s i.id then with_type s
    else (if is_constant i.op then with_constant m s i
    else s)

-- the state after one that breaks a rule or a limit: it defines no constant and no length
abbrev pub left_out : State → Inst → State
left_out s i = if is_next s i.id then with_type s else s

-- the state after an instruction
unfoldable pub after_one : Context → State → Inst → State
after_one m s i =
    if keeps_rules m s i && not (breaks_limit m s i)
    then with_entry m (unwrap_or (lengthened m s i) s) i
    else left_out s i

-- the breaches of an instruction: of the rules, and of the limits
unfoldable pub breaches_at : Context → State → Inst → List Refusal
breaches_at m s i =
    (if keeps_rules m s i then [] else record { code = 14; word = i.word } ∷ [])
    ++ (if breaks_limit m s i then record { code = 18; word = i.word } ∷ [] else [])

-- the state after some instructions
unfoldable pub after_all : Context → State → List Inst → State
after_all m s [] = s
after_all m s (i ∷ is) = after_all m (after_one m s i) is

-- the breaches of some instructions
unfoldable pub breaches_from : Context → State → List Inst → List Refusal
breaches_from m s [] = []
breaches_from m s (i ∷ is) = breaches_at m s i ++ breaches_from m (after_one m s i) is
