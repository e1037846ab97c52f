-- How many parts the last part of a value has: the elements of the runtime array, where a block ends in one.
use Rattle.std.specs.Prelude.{ℕ, ◌-◌, List, length, slice_get, unwrap_or}
use Rattle.std.specs.Option.{option_map_or}
use Rattle.spv_types.specs.declared.forms.Form.{Form}
use Rattle.spv_types.specs.declared.forms.Form.TheVariants.{Runtime}
use Rattle.spv_types.specs.declared.forms.Member.{Member}
use Rattle.spv_types.specs.Types.{Types, found_among}
use Rattle.spv_types.specs.Places.{elements_in}
use Rattle.spv_mem.specs.Blanks.{last_part, part_count}

-- as many elements of a form that is a runtime array as fit so many bytes, of which it begins at a place
abbrev pub array_elements : ℕ → ℕ → Form → ℕ
array_elements size at (Runtime element stride) = elements_in size at stride
array_elements size at _ = 0

-- how many parts a member of so many bytes has, which stands at its offset and whose type is among the first n types
abbrev pub member_count : Types → ℕ → ℕ → Member → ℕ
member_count ts size n m = option_map_or (λ (f : ℕ × Form). part_count (array_elements size (unwrap_or m.offset 0) f.1) f.1) (found_among ts n m.ty) 0

-- those of the last member
abbrev pub last_count : Types → ℕ → ℕ → List Member → ℕ
last_count ts size n ms = option_map_or (member_count ts size n) (slice_get ms (length ms - 1)) 0

-- how many parts the last part of a form has, which is no runtime array
abbrev pub part_parts : Types → ℕ × Form → ℕ
part_parts ts f = option_map_or (λ part. option_map_or (λ (g : ℕ × Form). part_count 0 g.1) (found_among ts f.0 part) 0) (last_part 0 f.1) 0
