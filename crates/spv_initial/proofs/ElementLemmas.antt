-- How many parts the last part has of a value that is read from bytes.
use Rattle.std.proofs.Common.{◌≡◌, ◌∙◌, ℕ, zero, suc, ◌+◌, ◌-◌, true, List, [], ◌∷◌, length, slice_get, Option, Some, None, refl, sym, ap, zero-add, arith}
use Rattle.std.specs.Prelude.{unwrap_or}
use Rattle.std.specs.Option.{option_map_or}
use Rattle.spv_base.specs.Cell.{Cell, undefined_cell}
use Rattle.spv_base.specs.declared.values.Value.{Scalar, List as Many}
use Rattle.spv_types.specs.declared.forms.Form.{Form}
use Rattle.spv_types.specs.declared.forms.Form.TheVariants.{Void, Bool as Boolean, Int, Vector, Array, Runtime, Struct, Pointer, Function}
use Rattle.spv_types.specs.declared.forms.Member.{Member}
use Rattle.spv_types.specs.Counted.{members_of}
use Rattle.spv_types.specs.Places.{scalar_bytes, elements_in as elements_within}
use Rattle.spv_types.specs.Rules.{is_block}
use Rattle.spv_types.specs.Types.{Types, form_of, found_among}
use Rattle.spv_types.proofs.Exports.{FoundAt, form_found, found_at, impossible}
use Rattle.spv_start.specs.Blocks.{Reader, read_among, read_members, read_row, read_step, value_in}
use Rattle.spv_start.specs.Numbers.{scalar_at}
use Rattle.spv_start.proofs.Exports.{found_value, read_among_is}
use Rattle.spv_mem.specs.Blanks.{part_count}
use Rattle.spv_mem.specs.Targets.{count_in, elements_in, last_of}
use Rattle.spv_mem.proofs.Exports.{many_last, many_count, scalar_count}
use Rattle.spv_initial.specs.Elements.{array_elements, last_count, member_count}

-- ---- built-in values

pub three_last : (a b c : Cell) → elements_in (Many (Scalar a ∷ Scalar b ∷ Scalar c ∷ [])) ≡ 0
three_last a b c = many_last (Scalar a ∷ Scalar b ∷ Scalar c ∷ []) ∙ scalar_count c

-- ---- values that are read from bytes

pub row_length : (read : Reader) (at stride n : ℕ) → length (read_row read at stride n) ≡ n
row_length read at stride zero = refl
row_length read at stride (suc n) = ap suc (row_length read (at + stride) stride n)

members_length : (read : ℕ → Reader) (at : ℕ) (ms : List Member) → length (read_members read at ms) ≡ length ms
members_length read at [] = refl
members_length read at (m ∷ ms) = ap suc (members_length read at ms)

count_step : (ts : Types) (bytes : List ℕ) (size : ℕ) (read : ℕ → Reader) (f : Form) (at : ℕ) → count_in (read_step ts bytes size read f at) ≡ part_count (array_elements size at f) f
count_step ts bytes size read Void at = many_count []
count_step ts bytes size read Boolean at = scalar_count (undefined_cell 1)
count_step ts bytes size read (Int width sign) at = scalar_count (scalar_at bytes at width)
count_step ts bytes size read (Vector component count) at =
    many_count (read_row (read component) at (scalar_bytes (form_of ts component)) count) ∙ row_length (read component) at (scalar_bytes (form_of ts component)) count
count_step ts bytes size read (Array element n stride) at =
    many_count (read_row (read element) at (unwrap_or stride 0) (unwrap_or n 0)) ∙ row_length (read element) at (unwrap_or stride 0) (unwrap_or n 0)
count_step ts bytes size read (Runtime element stride) at =
    many_count (read_row (read element) at (unwrap_or stride 0) (elements_within size at stride)) ∙ row_length (read element) at (unwrap_or stride 0) (elements_within size at stride)
count_step ts bytes size read (Struct members block) at = many_count (read_members read at members) ∙ members_length read at members
count_step ts bytes size read (Pointer class target) at = many_count []
count_step ts bytes size read (Function returns parameters) at = many_count []

count_among : (ts : Types) (bytes : List ℕ) (size n id at : ℕ)
    → count_in (read_among ts bytes size n id at) ≡ option_map_or (λ (f : ℕ × Form). part_count (array_elements size at f.1) f.1) (found_among ts n id) 0
count_among ts bytes size n id at = ap count_in (read_among_is ts bytes size n id at) ∙ found (found_among ts n id)
  where
    found : (o : Option (ℕ × Form)) → count_in (found_value ts bytes size o at) ≡ option_map_or (λ (f : ℕ × Form). part_count (array_elements size at f.1) f.1) o 0
    found None = many_count []
    found (Some f) = count_step ts bytes size (read_among ts bytes size f.0) f.1 at

sub_one : (k : ℕ) → suc k - 1 ≡ k
sub_one k = omega arith

-- the last of some members is the last of one more
later_member : (m k : Member) (ms : List Member) → slice_get (k ∷ ms) (length (k ∷ ms) - 1) ≡ slice_get (m ∷ k ∷ ms) (length (m ∷ k ∷ ms) - 1)
later_member m k ms = ap (slice_get (k ∷ ms)) (sub_one (length ms)) ∙ sym (ap (slice_get (m ∷ k ∷ ms)) (sub_one (suc (length ms))))

last_read : (read : ℕ → Reader) (at : ℕ) (ms : List Member)
    → option_map_or count_in (last_of (read_members read at ms)) 0 ≡ option_map_or (λ (m : Member). count_in (read m.ty (at + unwrap_or m.offset 0))) (slice_get ms (length ms - 1)) 0
last_read read at [] = refl
last_read read at (m ∷ []) = refl
last_read read at (m ∷ k ∷ ms) =
    last_read read at (k ∷ ms) ∙ ap (λ (o : Option Member). option_map_or (λ (x : Member). count_in (read x.ty (at + unwrap_or x.offset 0))) o 0) (later_member m k ms)

pub block_elements : (ts : Types) (bytes : List ℕ) (size id m : ℕ) (f : Form) → is_block (form_of ts id) ≡ true → found_among ts (length ts) id ≡ Some (m, f)
    → elements_in (value_in ts bytes size id) ≡ last_count ts size m (members_of f)
unfolding value_in
block_elements ts bytes size id m f block is =
    ap elements_in (read_among_is ts bytes size (length ts) id 0 ∙ ap (λ (o : Option (ℕ × Form)). found_value ts bytes size o 0) is) ∙ by_form f (ap is_block formed ∙ block)
  where
    formed : Some f ≡ form_of ts id
    formed = let at : FoundAt ts (length ts) id m f = found_at ts (length ts) id m f is in ap Some (sym at.form) ∙ form_found ts id m at.number

    by_member : (o : Option Member)
        → option_map_or (λ (x : Member). count_in (read_among ts bytes size m x.ty (0 + unwrap_or x.offset 0))) o 0 ≡ option_map_or (member_count ts size m) o 0
    by_member None = refl
    by_member (Some x) = ap (λ (at : ℕ). count_in (read_among ts bytes size m x.ty at)) (zero-add (unwrap_or x.offset 0)) ∙ count_among ts bytes size m x.ty (unwrap_or x.offset 0)

    by_form : (g : Form) → is_block (Some g) ≡ true → elements_in (read_step ts bytes size (read_among ts bytes size m) g 0) ≡ last_count ts size m (members_of g)
    by_form Void h = impossible h
    by_form Boolean h = impossible h
    by_form (Int width sign) h = impossible h
    by_form (Vector component count) h = impossible h
    by_form (Array element n stride) h = impossible h
    by_form (Runtime element stride) h = impossible h
    by_form (Struct members b) h =
        many_last (read_members (read_among ts bytes size m) 0 members) ∙ last_read (read_among ts bytes size m) 0 members ∙ by_member (slice_get members (length members - 1))
    by_form (Pointer class target) h = impossible h
    by_form (Function returns parameters) h = impossible h

pub no_block : (ts : Types) (bytes : List ℕ) (size id : ℕ) → found_among ts (length ts) id ≡ None → 0 ≡ elements_in (value_in ts bytes size id)
unfolding value_in
no_block ts bytes size id none =
    sym (ap elements_in (read_among_is ts bytes size (length ts) id 0 ∙ ap (λ (o : Option (ℕ × Form)). found_value ts bytes size o 0) none) ∙ many_last [])
