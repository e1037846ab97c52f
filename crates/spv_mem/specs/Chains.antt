-- Access chains: the path of a pointer with further indexes, read as signed (SPIR-V 1.6 section 3.42.8, OpAccessChain and
-- OpPtrAccessChain).
use Rattle.std.specs.Prelude.{◌≡◌, ℕ, ◌+◌, ◌-◌, ◌*◌, ◌^◌, ◌%◌, ◌==◌, ◌&&◌, nat_lt, if◌then◌else◌, Bool, true, false, List, [], ◌∷◌, ◌++◌, map, length, take, drop, Option, Some, None, IsSome, Result, Ok, Err}
use Rattle.std.specs.List.{list_all}
use Rattle.std.specs.Option.{option_map, option_map_or}
use Rattle.spv_base.specs.Cell.{Cell}
use Rattle.spv_base.specs.Entries.{reads}
use Rattle.spv_base.specs.Variables.{root_id}
use Rattle.spv_base.specs.declared.causes.MemErr.{MemErr}
use Rattle.spv_base.specs.declared.causes.MemErr.TheVariants.{UndefinedIndex, OutOfBounds, NoMemory}
use Rattle.spv_base.specs.declared.values.Pointer.{Pointer}
use Rattle.spv_types.specs.declared.forms.Form.{Form}
use Rattle.spv_types.specs.declared.forms.Form.TheVariants.{Array, Runtime}
use Rattle.spv_types.specs.Shapes.{reached_type}
use Rattle.spv_types.specs.Types.{Types, form_of}
use Rattle.spv_mem.specs.Memory.{Held}

abbrev pub all_defined : List Cell → Bool
all_defined cs = list_all (λ (c : Cell). c.defined) cs

-- a number of a width, sign-extended to 64 bits, in two's complement
abbrev pub extended : Cell → ℕ
extended c = if nat_lt (2 * c.bits) (2 ^ c.width) then c.bits else c.bits + (2 ^ 64 - 2 ^ c.width)

-- a path with further indexes
abbrev pub extend : List ℕ → List Cell → List ℕ
extend path cs = path ++ map extended cs

-- what a chain by some indexes gives
abbrev pub Chains : Pointer → List Cell → Result Pointer MemErr → Type 0
Chains p cs (Ok q) = (all_defined cs ≡ true) × (q.root ≡ p.root) × (q.path ≡ extend p.path cs)
Chains p cs (Err UndefinedIndex) = all_defined cs ≡ false
Chains p cs (Err OutOfBounds) = ⊥
Chains p cs (Err NoMemory) = all_defined cs ≡ true

-- ---- from another element on

-- an array, whether its type or the memory tells how many elements it has
abbrev pub is_array : Option Form → Bool
is_array (Some (Array element length stride)) = true
is_array (Some (Runtime element stride)) = true
is_array _ = false

-- the last index of a path from a type chooses an element of an array: those before it lead to one
abbrev pub chooses_element : Types → ℕ → List ℕ → Bool
chooses_element ts type path = nat_lt 0 (length path) && option_map_or (λ t. is_array (form_of ts t)) (reached_type ts type (take (length path - 1) path)) false

-- a path with its last index further by a number, modulo 2^64
abbrev pub moved : List ℕ → ℕ → List ℕ
moved path n = take (length path - 1) path ++ map (λ i. (i + n) % 2 ^ 64) (drop (length path - 1) path)

-- The path of a pointer from another element on: its last index is further by the Element of OpPtrAccessChain, read as signed. None
-- where that is not 0 and the index does not choose an element of an array, by the type of the variable, which need not be there.
unfoldable pub ptr_moved : Types → List (ℕ × ℕ) → Pointer → Cell → Option (List ℕ)
ptr_moved ts targets p element =
    if extended element == 0 then Some p.path
    else if option_map_or (λ type. chooses_element ts type p.path) (reads (root_id p.root) targets) false then Some (moved p.path (extended element)) else None

-- what a chain by an Element and some indexes gives
abbrev pub PtrChains : Held → Pointer → Cell → List Cell → Result Pointer MemErr → Type 0
PtrChains m p element cs (Ok q) =
    (all_defined (element ∷ cs) ≡ true) × (option_map (λ path. record { root = p.root; path = extend path cs }) (ptr_moved m.types m.targets p element) ≡ Some q)
PtrChains m p element cs (Err UndefinedIndex) = all_defined (element ∷ cs) ≡ false
PtrChains m p element cs (Err OutOfBounds) = (all_defined (element ∷ cs) ≡ true) × (ptr_moved m.types m.targets p element ≡ None)
PtrChains m p element cs (Err NoMemory) = (all_defined (element ∷ cs) ≡ true) × IsSome (ptr_moved m.types m.targets p element)
