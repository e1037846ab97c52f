-- How many parts the last part has of a value that is read off its leaves.
use Rattle.std.proofs.Common.{◌≡◌, ◌∙◌, ℕ, zero, suc, List, [], ◌∷◌, length, map, replicate, Option, Some, None, refl, sym, ap}
use Rattle.std.specs.Prelude.{unwrap_or}
use Rattle.std.specs.Option.{option_map_or}
use Rattle.std.proofs.lemmas.List.{length-map, length-replicate}
use Rattle.spv_base.specs.Cell.{Cell, undefined_cell}
use Rattle.spv_base.specs.declared.values.Value.{Value, List as Many}
use Rattle.spv_types.specs.declared.forms.Form.{Form}
use Rattle.spv_types.specs.declared.forms.Form.TheVariants.{Void, Bool as Boolean, Int, Vector, Array, Runtime, Struct, Pointer, Function}
use Rattle.spv_types.specs.declared.forms.Member.{Member}
use Rattle.spv_types.specs.Rules.{last_type}
use Rattle.spv_types.specs.Types.{Types, found_among, in_first}
use Rattle.spv_types.proofs.Exports.{in_first-is}
use Rattle.spv_consts.specs.Trees.{Reader, read_among, read_none, read_parts, read_scalar, read_step, value_at}
use Rattle.spv_mem.specs.Blanks.{if_any, last_part, part_count}
use Rattle.spv_mem.specs.Targets.{count_in, elements_in, last_of}
use Rattle.spv_mem.proofs.Exports.{any_is, many_count, many_last, scalar_count, scalar_last}
use Rattle.spv_initial.specs.Elements.{part_parts}

-- the last of some types
abbrev last_in : List ℕ → Option ℕ
last_in [] = None
last_in (t ∷ []) = Some t
last_in (t ∷ u ∷ types) = last_in (u ∷ types)

parts_length : (read : ℕ → Reader) (types : List ℕ) (cs : List Cell) → length (read_parts read types cs).0 ≡ length types
parts_length read [] cs = refl
parts_length read (t ∷ types) cs = ap suc (parts_length read types (read t cs).1)

last_parts : (read : ℕ → Reader) (count : ℕ → ℕ) → ((t : ℕ) (cs : List Cell) → count_in (read t cs).0 ≡ count t) → (types : List ℕ) (cs : List Cell)
    → option_map_or count_in (last_of (read_parts read types cs).0) 0 ≡ option_map_or count (last_in types) 0
last_parts read count each [] cs = refl
last_parts read count each (t ∷ []) cs = each t cs
last_parts read count each (t ∷ u ∷ types) cs = last_parts read count each (u ∷ types) (read t cs).1

last_same : (t n : ℕ) → last_in (t ∷ replicate n t) ≡ Some t
last_same t zero = refl
last_same t (suc n) = last_same t n

last_replicate : (n t : ℕ) → last_in (replicate n t) ≡ if_any n t
last_replicate zero t = refl
last_replicate (suc n) t = last_same t n ∙ sym (any_is n t)

last_member : (ms : List Member) → last_in (map (λ (m : Member). m.ty) ms) ≡ last_type ms
last_member [] = refl
last_member (m ∷ []) = refl
last_member (m ∷ k ∷ ms) = last_member (k ∷ ms)

scalar_off : (cs : List Cell) → (count_in (read_scalar cs).0 ≡ 0) × (elements_in (read_scalar cs).0 ≡ 0)
scalar_off [] = (scalar_count (undefined_cell 1), scalar_last (undefined_cell 1))
scalar_off (c ∷ cs) = (scalar_count c, scalar_last c)

many_off : (read : ℕ → Reader) (types : List ℕ) (cs : List Cell) → count_in (Many (read_parts read types cs).0) ≡ length types
many_off read types cs = many_count (read_parts read types cs).0 ∙ parts_length read types cs

count_off : (read : ℕ → Reader) (f : Form) (cs : List Cell) → count_in (read_step read f cs).0 ≡ part_count 0 f
count_off read Void cs = many_count []
count_off read Boolean cs = (scalar_off cs).0
count_off read (Int width sign) cs = (scalar_off cs).0
count_off read (Vector component count) cs = many_off read (replicate count component) cs ∙ length-replicate count component
count_off read (Array element n stride) cs = many_off read (replicate (unwrap_or n 0) element) cs ∙ length-replicate (unwrap_or n 0) element
count_off read (Runtime element stride) cs = many_count []
count_off read (Struct members block) cs = many_off read (map (λ (m : Member). m.ty) members) cs ∙ length-map members (λ (m : Member). m.ty)
count_off read (Pointer class target) cs = many_count []
count_off read (Function returns parameters) cs = many_count []

last_off : (read : ℕ → Reader) (count : ℕ → ℕ) → ((t : ℕ) (cs : List Cell) → count_in (read t cs).0 ≡ count t) → (f : Form) (cs : List Cell)
    → elements_in (read_step read f cs).0 ≡ option_map_or count (last_part 0 f) 0
last_off read count each Void cs = many_last []
last_off read count each Boolean cs = (scalar_off cs).1
last_off read count each (Int width sign) cs = (scalar_off cs).1
last_off read count each (Vector component n) cs =
    many_last (read_parts read (replicate n component) cs).0 ∙ last_parts read count each (replicate n component) cs ∙ ap (λ (o : Option ℕ). option_map_or count o 0) (last_replicate n component)
last_off read count each (Array element n stride) cs =
    many_last (read_parts read (replicate (unwrap_or n 0) element) cs).0 ∙ last_parts read count each (replicate (unwrap_or n 0) element) cs
    ∙ ap (λ (o : Option ℕ). option_map_or count o 0) (last_replicate (unwrap_or n 0) element)
last_off read count each (Runtime element stride) cs = many_last []
last_off read count each (Struct members block) cs =
    many_last (read_parts read (map (λ (m : Member). m.ty) members) cs).0 ∙ last_parts read count each (map (λ (m : Member). m.ty) members) cs
    ∙ ap (λ (o : Option ℕ). option_map_or count o 0) (last_member members)
last_off read count each (Pointer class target) cs = many_last []
last_off read count each (Function returns parameters) cs = many_last []

-- the value of a type that is found, or none
abbrev found_off : Types → Option (ℕ × Form) → Reader
found_off ts None cs = (Many [], cs)
found_off ts (Some f) cs = read_step (read_among ts f.0) f.1 cs

off_is : (ts : Types) (n id : ℕ) (cs : List Cell) → read_among ts n id cs ≡ found_off ts (found_among ts n id) cs
unfolding read_among
off_is ts n id cs = ap (λ (r : Reader). r cs) (in_first-is {A = Reader} read_none read_step ts n id) ∙ found (found_among ts n id)
  where
    found : (o : Option (ℕ × Form)) → option_map_or {U = Reader} (λ (f : ℕ × Form). read_step (in_first read_none read_step ts f.0) f.1) o read_none cs ≡ found_off ts o cs
    found None = refl
    found (Some f) = refl

-- the parts of a type among the first n
abbrev parts_among : Types → ℕ → ℕ → ℕ
parts_among ts n part = option_map_or (λ (g : ℕ × Form). part_count 0 g.1) (found_among ts n part) 0

count_off_among : (ts : Types) (n id : ℕ) (cs : List Cell) → count_in (read_among ts n id cs).0 ≡ parts_among ts n id
count_off_among ts n id cs = ap (λ (p : Value × List Cell). count_in p.0) (off_is ts n id cs) ∙ found (found_among ts n id)
  where
    found : (o : Option (ℕ × Form)) → count_in (found_off ts o cs).0 ≡ option_map_or (λ (g : ℕ × Form). part_count 0 g.1) o 0
    found None = many_count []
    found (Some f) = count_off (read_among ts f.0) f.1 cs

pub constant_elements : (ts : Types) (id : ℕ) (cells : List Cell) → elements_in (value_at ts id cells) ≡ option_map_or (part_parts ts) (found_among ts (length ts) id) 0
unfolding value_at
constant_elements ts id cells = ap (λ (p : Value × List Cell). elements_in p.0) (off_is ts (length ts) id cells) ∙ found (found_among ts (length ts) id)
  where
    found : (o : Option (ℕ × Form)) → elements_in (found_off ts o cells).0 ≡ option_map_or (part_parts ts) o 0
    found None = many_last []
    found (Some f) = last_off (read_among ts f.0) (parts_among ts f.0) (count_off_among ts f.0) f.1 cells
