-- What the instructions of a module say of ids and words. Where several do, the first counts.
use Rattle.std.specs.Prelude.{ℕ, suc, ◌==◌, ◌&&◌, nat_lt, if◌then◌else◌, Bool, List, [], ◌∷◌, Option, Some, None, find}
use Rattle.std.specs.Option.{option_and_then}
use Rattle.spv_base.specs.declared.instructions.Inst.{Inst}
use Rattle.spv_base.specs.Options.{holds}
use Rattle.spv_index.specs.Operands.{id_operand, literal_operand, text_operand}

-- an id is at least 1, and below the greatest Bound
abbrev pub is_id : ℕ → Bool
is_id id = nat_lt 0 id && nat_lt id 1048576

-- ---- the instruction that defines an id: the first with the id as its result (SPIR-V 1.6 section 2.2.1, "Result <id>")

abbrev pub has_result : ℕ → Inst → Bool
has_result id i = i.id == id

-- the instruction that defines an id
unfoldable pub defining : List Inst → ℕ → Option Inst
defining insts id = if is_id id then find (has_result id) insts else None

-- the type of an instruction's result; 0 stands where it has none
abbrev pub type_in : Inst → Option ℕ
type_in i = if i.ty == 0 then None else Some i.ty

-- the type of the result with an id, where there is one and it has a type
abbrev pub result_type : List Inst → ℕ → Option ℕ
result_type insts id = option_and_then type_in (defining insts id)

-- ---- numbers of instructions

-- the number of the first of some instructions that passes a test, where the first of them has number n
abbrev pub number_from : ℕ → (Inst → Bool) → List Inst → Option ℕ
number_from n passes [] = None
number_from n passes (i ∷ is) = if passes i then Some n else number_from (suc n) passes is

-- the number of the instruction that defines an id
unfoldable pub number_of : List Inst → ℕ → Option ℕ
number_of insts id = if is_id id then number_from 0 (has_result id) insts else None

-- ---- words

abbrev pub stands_at : ℕ → Inst → Bool
stands_at word i = i.word == word

-- the instruction whose first word has a number
unfoldable pub at : List Inst → ℕ → Option Inst
at insts word = find (stands_at word) insts

-- the number of the instruction whose first word has a number
unfoldable pub number_at : List Inst → ℕ → Option ℕ
number_at insts word = number_from 0 (stands_at word) insts

-- ---- functions

-- the instructions before the first OpFunction (54), where the functions begin (SPIR-V 1.6 section 2.4)
unfoldable pub before_functions : List Inst → List Inst
before_functions [] = []
before_functions (i ∷ is) = if i.op == 54 then [] else i ∷ before_functions is

-- ---- names and decorations (SPIR-V 1.6 sections 3.42.2 and 3.42.3)

-- OpName (5) with this target
abbrev pub names_it : ℕ → Inst → Bool
names_it id i = i.op == 5 && holds id (id_operand i 0)

-- the name of an id
unfoldable pub name_of : List Inst → ℕ → Option (List ℕ)
name_of insts id = if is_id id then option_and_then (λ i. text_operand i 1) (find (names_it id) insts) else None

-- OpDecorate (71) with this target and this decoration
abbrev pub decorates : ℕ → ℕ → Inst → Bool
decorates id kind i = i.op == 71 && (holds id (id_operand i 0) && holds kind (literal_operand i 1))

-- the instruction that puts a decoration on an id
unfoldable pub decorating : List Inst → ℕ → ℕ → Option Inst
decorating insts id kind = find (decorates id kind) insts

-- the first literal behind a decoration of an id
abbrev pub decoration : List Inst → ℕ → ℕ → Option ℕ
decoration insts id kind = option_and_then (λ i. literal_operand i 2) (decorating insts id kind)

-- OpMemberDecorate (72) with this structure type, this member and this decoration
abbrev pub decorates_member : ℕ → ℕ → ℕ → Inst → Bool
decorates_member id member kind i = i.op == 72 && ((holds id (id_operand i 0) && holds member (literal_operand i 1)) && holds kind (literal_operand i 2))

-- the instruction that puts a decoration on a member of a structure type
unfoldable pub member_decorating : List Inst → ℕ → ℕ → ℕ → Option Inst
member_decorating insts id member kind = find (decorates_member id member kind) insts

-- the first literal behind a decoration of a member
abbrev pub member_decoration : List Inst → ℕ → ℕ → ℕ → Option ℕ
member_decoration insts id member kind = option_and_then (λ i. literal_operand i 3) (member_decorating insts id member kind)
