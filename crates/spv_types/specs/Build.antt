-- The types of a module, or the first instruction before the functions that breaks a rule of types.
use Rattle.std.specs.Prelude.{ℕ, if◌then◌else◌, List, [], ◌∷◌, ◌++◌, Result, Ok, Err}
use Rattle.spv_base.specs.declared.instructions.Inst.{Inst}
use Rattle.spv_base.specs.declared.causes.Refusal.{Refusal}
use Rattle.spv_types.specs.Types.{Types}
use Rattle.spv_index.specs.Definitions.{before_functions}
use Rattle.spv_types.specs.Typing.{types_in, types_read}
use Rattle.spv_types.specs.Rules.{keeps_rules}

-- the code of the rules of types
abbrev pub type_code : ℕ
type_code = 12

-- the refusals of the instructions that break a rule, each after those before it
unfoldable pub type_breaches : List Inst → List Inst → List Inst → List Refusal
type_breaches all before [] = []
type_breaches all before (i ∷ is) =
    (if keeps_rules all (types_in all before) i then [] else record { code = type_code; word = i.word } ∷ []) ++ type_breaches all (before ++ i ∷ []) is

-- a result, where there is no refusal, or the first refusal
abbrev pub unless_refused : {T : Type 0} → T → List Refusal → Result T Refusal
unless_refused x [] = Ok x
unless_refused x (r ∷ rs) = Err r

-- the types of a module, or the first breach of their rules
unfoldable pub types_of : List Inst → Result Types Refusal
types_of insts = unless_refused (types_read insts) (type_breaches insts [] (before_functions insts))
