-- The grammar of setups, by rows: what the words of a line say.
use Rattle.std.specs.Prelude.{ℕ, ◌==◌, ◌&&◌, nat_lt, nat_le, Bool, if◌then◌else◌, ℤ, pos, neg_ℤ, List, [], ◌∷◌, length, drop, slice_index, codes, Option, Some, None, Result, Ok, Err}
use Rattle.std.specs.Option.{option_map}
use Rattle.std.specs.Str.{bytes_eq}
use Rattle.spv_base.specs.Answers.{after}
use Rattle.spv_line.specs.Words.{words_in}
use Rattle.spv_line.specs.Numbers.{number_of}
use Rattle.spv_line.specs.Hex.{bytes_of}
use Rattle.spv_setup.specs.declared.line.Content.TheVariants.{Hex, Zero}
use Rattle.spv_setup.specs.declared.line.Line.{Line}
use Rattle.spv_setup.specs.declared.line.Line.TheVariants.{Entry, Group, Spec, Buffer, Push, Move, Rounds, FinishedCount}
use Rattle.spv_setup.specs.declared.line.LineFault.{LineFault}
use Rattle.spv_setup.specs.declared.line.LineFault.TheVariants.{Words, Form}
use Rattle.spv_setup.specs.declared.line.Version.{Version}
use Rattle.spv_setup.specs.declared.line.Version.TheVariants.{One, Two}

-- ---- words that are values

-- a number has 1 to 20 decimal digits
abbrev pub number : ℕ → List ℕ → Option ℕ
number limit word = if nat_le (length word) 20 then number_of limit word else None

-- a number of 32 bits
abbrev pub short : List ℕ → Option ℕ
short word = number 4294967295 word

-- a number from -2^63 to 2^64 - 1; `-` (45) stands before what is negative
abbrev pub value : List ℕ → Option ℤ
value word = if slice_index word 0 == 45 then option_map (λ n. neg_ℤ (pos n)) (number 9223372036854775808 (drop 1 word)) else option_map pos (number 18446744073709551615 word)

abbrev pub both : {A B : Type 0} → Option A → Option B → Option (A × B)
both None b = None
both (Some a) None = None
both (Some a) (Some b) = Some (a, b)

abbrev pub three : {A B C : Type 0} → Option A → Option B → Option C → Option (A × B × C)
three None b c = None
three (Some a) None c = None
three (Some a) (Some b) None = None
three (Some a) (Some b) (Some c) = Some (a, b, c)

-- the line that the values make, where all words have their form
abbrev pub formed : {A : Type 0} → (A → Line) → Option A → Result Line LineFault
formed make None = Err Form
formed make (Some a) = Ok (make a)

-- ---- the rows: what stands after the first word of a line

-- NAME
abbrev pub entry_row : List (List ℕ) → Result Line LineFault
entry_row (name ∷ []) = Ok (Entry name)
entry_row words = Err Words

-- each number of a workgroup is below how many there are
abbrev pub is_in_grid : ℕ × ℕ × ℕ → ℕ × ℕ × ℕ → Bool
is_in_grid place number = nat_lt place.0 number.0 && (nat_lt place.1 number.1 && nat_lt place.2 number.2)

abbrev pub group_line : Option (ℕ × ℕ × ℕ) → Option (ℕ × ℕ × ℕ) → Result Line LineFault
group_line None number = Err Form
group_line (Some place) None = Err Form
group_line (Some place) (Some number) = if is_in_grid place number then Ok (Group (record { place = place; number = number })) else Err Form

-- X Y Z of X Y Z
abbrev pub group_row : List (List ℕ) → Result Line LineFault
group_row (x ∷ y ∷ z ∷ of ∷ nx ∷ ny ∷ nz ∷ []) = if bytes_eq of (codes "of") then group_line (three (short x) (short y) (short z)) (three (short nx) (short ny) (short nz)) else Err Words
group_row words = Err Words

-- ID VALUE
abbrev pub spec_row : List (List ℕ) → Result Line LineFault
spec_row (id ∷ it ∷ []) = formed (λ v. Spec v.0 v.1) (both (short id) (value it))
spec_row words = Err Words

-- DIGITS, for the buffer of SET and BIND
abbrev pub hex_row : List ℕ → List ℕ → List (List ℕ) → Result Line LineFault
hex_row set binding words = formed (λ v. Buffer v.0 v.1 (Hex v.2)) (three (short set) (short binding) (bytes_of words))

-- N, for the buffer of SET and BIND
abbrev pub zero_row : List ℕ → List ℕ → List (List ℕ) → Result Line LineFault
zero_row set binding (count ∷ []) = formed (λ v. Buffer v.0 v.1 (Zero v.2)) (three (short set) (short binding) (number 16777216 count))
zero_row set binding words = Err Words

-- SET BIND hex DIGITS, and SET BIND zero N
abbrev pub buffer_row : List (List ℕ) → Result Line LineFault
buffer_row (set ∷ binding ∷ kind ∷ words) =
    if bytes_eq kind (codes "hex") then hex_row set binding words
    else if bytes_eq kind (codes "zero") then zero_row set binding words
    else Err Words
buffer_row words = Err Words

-- hex DIGITS
abbrev pub push_row : List (List ℕ) → Result Line LineFault
push_row [] = Err Words
push_row (kind ∷ words) = if bytes_eq kind (codes "hex") then formed Push (bytes_of words) else Err Words

-- I N
abbrev pub move_row : List (List ℕ) → Result Line LineFault
move_row (invocation ∷ count ∷ []) = formed (λ v. Move v.0 v.1) (both (short invocation) (number 4194304 count))
move_row words = Err Words

-- N
abbrev pub rounds_row : List (List ℕ) → Result Line LineFault
rounds_row (count ∷ []) = formed Rounds (number 4194304 count)
rounds_row words = Err Words

-- finished-count, in version 2; version 1 has no such line
abbrev pub barrier_row : Version → List (List ℕ) → Result Line LineFault
barrier_row One words = Err Words
barrier_row Two (kind ∷ []) = if bytes_eq kind (codes "finished-count") then Ok FinishedCount else Err Words
barrier_row Two words = Err Words

-- the row of a line's first word, for the words after it
unfoldable pub row : Version → List ℕ → List (List ℕ) → Result Line LineFault
row version word words =
    if bytes_eq word (codes "entry") then entry_row words
    else if bytes_eq word (codes "group") then group_row words
    else if bytes_eq word (codes "spec") then spec_row words
    else if bytes_eq word (codes "buffer") then buffer_row words
    else if bytes_eq word (codes "push") then push_row words
    else if bytes_eq word (codes "move") then move_row words
    else if bytes_eq word (codes "rounds") then rounds_row words
    else if bytes_eq word (codes "barrier") then barrier_row version words
    else Err Words

-- ---- a line after the first

abbrev pub meaning_of : Version → List (List ℕ) → Result (Option Line) LineFault
meaning_of version [] = Ok None
meaning_of version (word ∷ words) = after (row version word words) (λ line. Ok (Some line))

-- what a line says: nothing where it has no words, or begins with `#` (35)
abbrev pub meaning : Version → List ℕ → Result (Option Line) LineFault
meaning version line = if slice_index line 0 == 35 then Ok None else meaning_of version (words_in line)
