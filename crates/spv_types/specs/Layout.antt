-- How a block is laid out: the bytes of its types, and the rules of offsets and strides (SPIR-V 1.6 sections 2.16.2 and
-- 3.20, and this project's profile). Sizes stop at the greatest number of 64 bits, which no type within the limits reaches.
use Rattle.std.specs.Prelude.{◌≡◌, ℕ, ◌<◌, ◌≤◌, slice_index_or, ◌+◌, ◌*◌, ◌/◌, ◌==◌, ◌&&◌, ◌||◌, not, nat_le, max, Bool, true, false, map, List, [], ◌∷◌, length, Option, Some, None, unwrap_or}
use Rattle.std.specs.List.{list_all}
use Rattle.std.specs.Option.{is_some}
use Rattle.spv_types.specs.declared.forms.Form.{Form}
use Rattle.spv_types.specs.declared.forms.Form.TheVariants.{Void, Bool as Boolean, Int, Vector, Array, Runtime, Struct, Pointer, Function}
use Rattle.spv_types.specs.declared.forms.Member.{Member}
use Rattle.spv_types.specs.declared.spans.Span.{Span}
use Rattle.spv_types.specs.Types.{Types, form_of, in_first}
use Rattle.spv_base.specs.Saturation.{saturated}
use Rattle.spv_types.specs.Rules.{is_runtime}

-- the greatest end of some members
unfoldable pub greatest_end : (ℕ → ℕ) → List Member → ℕ
greatest_end size [] = 0
greatest_end size (m ∷ ms) = max (saturated (unwrap_or m.offset 0 + size m.ty)) (greatest_end size ms)

-- the bytes of a form, where size gives those of its parts
abbrev pub size_step : (ℕ → ℕ) → Form → ℕ
size_step size Void = 0
size_step size Boolean = 0
size_step size (Int width sign) = width / 8
size_step size (Vector component count) = saturated (size component * count)
size_step size (Array element length stride) = saturated (unwrap_or length 0 * unwrap_or stride 0)
size_step size (Runtime element stride) = 0
size_step size (Struct members block) = greatest_end size members
size_step size (Pointer class target) = 0
size_step size (Function returns parameters) = 0

unfoldable pub size_among : Types → ℕ → ℕ → ℕ
size_among = in_first 0 size_step

-- the bytes of the type with an id
unfoldable pub size_of : Types → ℕ → ℕ
size_of ts id = size_among ts (length ts) id

-- a stride that is not 0, and not below the size of an element
abbrev pub keeps_stride : ℕ → Option ℕ → Bool
keeps_stride size None = false
keeps_stride size (Some stride) = nat_le 1 stride && nat_le size stride

-- the bytes of a member; a runtime array has no end
abbrev pub span_of : Types → Member → Span
span_of ts m = record { start = unwrap_or m.offset 0; end = saturated (unwrap_or m.offset 0 + size_of ts m.ty); is_open = is_runtime (form_of ts m.ty) }

abbrev pub is_empty : Span → Bool
is_empty s = not s.is_open && s.end == s.start

-- a span that ends at or before the start of another
abbrev pub ends_before : Span → Span → Bool
ends_before s t = not s.is_open && nat_le s.end t.start

-- two spans without a byte in common
abbrev pub are_apart : Span → Span → Bool
are_apart s t = (is_empty s || is_empty t) || (ends_before s t || ends_before t s)

-- a span that does not end before it starts
abbrev pub IsForward : Span → Type 0
IsForward s = s.start ≤ s.end

-- each of some spans ends before the next one
abbrev pub EachEndsBeforeNext : List Span → Type 0
EachEndsBeforeNext ss = (k : ℕ) (d : Span) → k + 1 < length ss → ends_before (slice_index_or ss k d) (slice_index_or ss (k + 1) d) ≡ true

-- no two of some spans have a byte in common
unfoldable pub none_overlap : List Span → Bool
none_overlap [] = true
none_overlap (s ∷ ss) = list_all (are_apart s) ss && none_overlap ss

-- each member has an Offset, and is laid out
unfoldable pub are_members_laid : (ℕ → Bool) → List Member → Bool
are_members_laid laid [] = true
are_members_laid laid (m ∷ ms) = (is_some m.offset && laid m.ty) && are_members_laid laid ms

-- a form is laid out as a block asks, where laid says so of its parts
abbrev pub laid_step : Types → (ℕ → Bool) → Form → Bool
laid_step ts laid Void = false
laid_step ts laid Boolean = false
laid_step ts laid (Int width sign) = true
laid_step ts laid (Vector component count) = laid component
laid_step ts laid (Array element length stride) = keeps_stride (size_of ts element) stride && laid element
laid_step ts laid (Runtime element stride) = keeps_stride (size_of ts element) stride && laid element
laid_step ts laid (Struct members block) = are_members_laid laid members && none_overlap (map (span_of ts) members)
laid_step ts laid (Pointer class target) = false
laid_step ts laid (Function returns parameters) = false

unfoldable pub laid_among : Types → ℕ → ℕ → Bool
laid_among ts = in_first false (laid_step ts) ts

-- the type with an id is laid out as a block asks
unfoldable pub is_laid : Types → ℕ → Bool
is_laid ts id = laid_among ts (length ts) id
