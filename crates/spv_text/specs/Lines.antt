-- What stands at the front of a text, by what is written; lines that can be written.
use Rattle.std.specs.Prelude.{◌≡◌, ℕ, ◌<◌, ◌≤◌, nat_le, ◌&&◌, ◌||◌, Bool, true, false, List, length, ◌++◌, slice_index}
use Rattle.std.specs.List.{AllByRecursion, list_all}
use Rattle.spv_base.specs.declared.instructions.Operand.{Operand}
use Rattle.spv_base.specs.declared.instructions.Operand.TheVariants.{Id, Lit, Text}
use Rattle.spv_text.specs.declared.lines.Part.{Part}
use Rattle.spv_text.specs.declared.lines.Part.TheVariants as part
use Rattle.spv_text.specs.declared.lines.Line.{Line}
use Rattle.spv_line.specs.Numbers.{is_digit}

-- ---- what stands at the front of a text

-- x stands there, as it is written, and after it a text that may follow
abbrev pub Stands : {T : Type 0} → (T → List ℕ) → (T → Type 0) → (List ℕ → Type 0) → List ℕ → T → List ℕ → Type 0
Stands write Is Follows text x rest = Is x × (text ≡ write x ++ rest) × Follows rest

-- nothing of the kind stands there
abbrev pub Lacks : {T : Type 0} → (T → List ℕ) → (T → Type 0) → (List ℕ → Type 0) → List ℕ → Type 0
Lacks {T} write Is Follows text = (x : T) (rest : List ℕ) → Is x → text ≡ write x ++ rest → Follows rest → ⊥

-- ---- bytes

-- a digit, or a letter: the bytes 65 to 90 and 97 to 122
abbrev pub is_name_byte : ℕ → Bool
is_name_byte b = is_digit b || ((nat_le 65 b && nat_le b 90) || (nat_le 97 b && nat_le b 122))

-- no digit follows a number, and no letter or digit a name: past the end of a text there is 0
abbrev pub HasNoDigit : List ℕ → Type 0
HasNoDigit rest = is_digit (slice_index rest 0) ≡ false

abbrev pub HasNoNameByte : List ℕ → Type 0
HasNoNameByte rest = is_name_byte (slice_index rest 0) ≡ false

-- digits are there, and a leading zero is the only one
abbrev pub LeadsWell : List ℕ → Type 0
LeadsWell digits = (0 < length digits) × (slice_index digits 0 ≡ 48 → length digits ≡ 1)

abbrev pub Any : List ℕ → Type 0
Any rest = Unit {0}

-- ---- what can be written

abbrev pub IsNumber : ℕ → Type 0
IsNumber n = n ≤ 4294967295

-- a byte of a string
abbrev pub IsByte : ℕ → Type 0
IsByte byte = (0 < byte) × (byte < 256)

abbrev pub IsOperand : Operand → Type 0
IsOperand (Id id) = IsNumber id
IsOperand (Lit literal) = IsNumber literal
IsOperand (Text bytes) = AllByRecursion IsByte bytes

abbrev pub IsPart : Part → Type 0
IsPart (part.ResultType id) = IsNumber id
IsPart (part.ResultId id) = IsNumber id
IsPart (part.Operand operand) = IsOperand operand

-- one or more letters and digits
abbrev pub IsName : List ℕ → Type 0
IsName name = (list_all is_name_byte name ≡ true) × (0 < length name)

-- Numbers are at most 4,294,967,295, and no string has a zero byte.
abbrev pub IsLine : Line → Type 0
IsLine line = IsNumber line.word × IsName line.name × AllByRecursion IsPart line.parts
