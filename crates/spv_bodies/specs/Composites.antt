-- The rules of composite operations and copies (SPIR-V 1.6 section 3.42.12).
use Rattle.std.specs.Prelude.{◌≡◌, ◌<◌, ◌⊎◌, ℕ, ◌+◌, ◌==◌, ◌&&◌, ◌||◌, nat_lt, Bool, true, false, if◌then◌else◌, List, [], ◌∷◌, length, drop, Option, Some, None}
use Rattle.std.specs.Option.{option_map_or, option_and_then}
use Rattle.std.specs.List.{All, AllZip, list_all, sum_by}
use Rattle.spv_base.specs.declared.instructions.Inst.{Inst}
use Rattle.spv_base.specs.declared.instructions.Operand.{Operand}
use Rattle.spv_base.specs.Options.{holds}
use Rattle.spv_types.specs.declared.forms.Form.{Form}
use Rattle.spv_types.specs.declared.forms.Form.TheVariants.{Vector, Array, Struct}
use Rattle.spv_types.specs.declared.forms.Member.{Member}
use Rattle.spv_types.specs.Types.{form_of}
use Rattle.spv_types.specs.declared.queries.Components.{Components}
use Rattle.spv_types.specs.Queries.{components_in, member_type}
use Rattle.spv_typing.specs.Fitting.{is_selectable}
use Rattle.spv_index.specs.Operands.{literal_in}
use Rattle.spv_bodies.specs.Context.{HasType, IsInteger, IsVectorOf, Known, form_at, is_integer_at, type_at, type_in}

-- ---- vectors

-- VectorExtractDynamic 77 (vector, index): a component of the vector, by a scalar integer
abbrev pub KeepsExtractDynamic : Known → Inst → Type 0
KeepsExtractDynamic k i = IsInteger (form_at k i 1) × ((v : Components) × IsVectorOf (form_at k i 0) v × (v.ty ≡ i.ty))

-- VectorInsertDynamic 78 (vector, component, index): a vector of the result's type, and one of its components
abbrev pub KeepsInsertDynamic : Known → Inst → Type 0
KeepsInsertDynamic k i = (HasType k i 0 i.ty × IsInteger (form_at k i 2)) × ((v : Components) × IsVectorOf (form_of k.types i.ty) v × HasType k i 1 v.ty)

-- a literal of VectorShuffle over so many components: one of them, or 0xFFFFFFFF for none
abbrev pub IsChoice : ℕ → Operand → Type 0
IsChoice count o = (choice : ℕ) × (literal_in o ≡ Some choice) × ((choice < count) ⊎ (choice ≡ 4294967295))

-- a shuffle of a and b that gives r: of one component type, with one literal for each component of r
abbrev pub IsShuffle : List Operand → Components → Components → Components → Type 0
IsShuffle os a b r = ((a.ty ≡ r.ty) × (b.ty ≡ r.ty)) × ((length os ≡ r.count) × All (IsChoice (a.count + b.count)) os)

-- VectorShuffle 79 (vector, vector, literals)
abbrev pub KeepsShuffle : Known → Inst → Type 0
KeepsShuffle k i =
    (a : Components) × IsVectorOf (form_at k i 0) a
    × ((b : Components) × IsVectorOf (form_at k i 1) b
    × ((r : Components) × IsVectorOf (form_of k.types i.ty) r × IsShuffle (drop 2 i.operands) a b r))

-- ---- whole composites

-- how many components a constituent of a vector gives: one, or those of a vector of the same components
abbrev pub given : Known → ℕ → Option ℕ → ℕ
given k component None = 0
given k component (Some ty) = if ty == component then 1 else option_map_or (λ (v : Components). if v.ty == component then v.count else 0) (components_in (form_of k.types ty)) 0

-- constituents that each give components, and together so many
abbrev pub Fill : Known → ℕ → ℕ → List Operand → Type 0
Fill k component count os = All (λ o. 0 < given k component (type_in k o)) os × (count ≡ sum_by (λ o. given k component (type_in k o)) os)

-- the parts of a value of a form: one for each part, of its type, but that vectors may stand for several components
abbrev pub AreParts : Known → List Operand → Option Form → Type 0
AreParts k os (Some (Vector component count)) = Fill k component count os
AreParts k os (Some (Array element count stride)) = (count ≡ Some (length os)) × All (λ o. type_in k o ≡ Some element) os
AreParts k os (Some (Struct members block)) = AllZip (λ (m : Member) (o : Operand). type_in k o ≡ Some m.ty) members os
AreParts k os _ = ⊥

-- CompositeConstruct 80 (constituents)
abbrev pub KeepsConstruct : Known → Inst → Type 0
KeepsConstruct k i = AreParts k i.operands (form_of k.types i.ty)

-- ---- parts of composites

abbrev pub element_below : ℕ → Option ℕ → ℕ → Option ℕ
element_below element None n = None
element_below element (Some count) n = if nat_lt n count then Some element else None

-- part n of a type
abbrev pub part : Option Form → ℕ → Option ℕ
part (Some (Vector component count)) n = element_below component (Some count) n
part (Some (Array element count stride)) n = element_below element count n
part (Some (Struct members block)) n = member_type members n
part _ n = None

-- the part that some literals name: the whole, where there are none
abbrev pub named_type : Known → ℕ → List Operand → Option ℕ
named_type k ty [] = Some ty
named_type k ty (o ∷ os) = option_and_then (λ t. named_type k t os) (option_and_then (part (form_of k.types ty)) (literal_in o))

-- the literals name a part with a type, which is no pointer type
abbrev pub IsPart : Known → ℕ → List Operand → ℕ → Type 0
IsPart k whole os ty = (is_selectable (form_of k.types ty) ≡ true) × (named_type k whole os ≡ Some ty)

-- CompositeExtract 81 (composite, literals): the part that they name
abbrev pub KeepsExtract : Known → Inst → Type 0
KeepsExtract k i = (whole : ℕ) × HasType k i 0 whole × IsPart k whole (drop 1 i.operands) i.ty

-- CompositeInsert 82 (object, composite, literals): a composite of the result's type, and an object in the place of a part
abbrev pub KeepsInsert : Known → Inst → Type 0
KeepsInsert k i = HasType k i 1 i.ty × ((ty : ℕ) × HasType k i 0 ty × IsPart k i.ty (drop 2 i.operands) ty)

-- CopyObject 83 (operand)
abbrev pub KeepsCopyObject : Known → Inst → Type 0
KeepsCopyObject k i = HasType k i 0 i.ty

-- ---- the same as tests

abbrev pub keeps_extract_dynamic : Known → Inst → Bool
keeps_extract_dynamic k i = is_integer_at k i 1 && option_map_or (λ (v : Components). v.ty == i.ty) (components_in (form_at k i 0)) false

abbrev pub keeps_insert_dynamic : Known → Inst → Bool
keeps_insert_dynamic k i =
    (holds i.ty (type_at k i 0) && is_integer_at k i 2)
    && option_map_or (λ (v : Components). holds v.ty (type_at k i 1)) (components_in (form_of k.types i.ty)) false

abbrev pub is_choice : ℕ → Operand → Bool
is_choice count o = option_map_or (λ choice. nat_lt choice count || choice == 4294967295) (literal_in o) false

abbrev pub is_shuffle : List Operand → Components → Components → Components → Bool
is_shuffle os a b r = (a.ty == r.ty && b.ty == r.ty) && (length os == r.count && list_all (is_choice (a.count + b.count)) os)

abbrev pub keeps_shuffle : Known → Inst → Bool
keeps_shuffle k i =
    option_map_or (λ a. option_map_or (λ b. option_map_or (is_shuffle (drop 2 i.operands) a b)
    (components_in (form_of k.types i.ty)) false) (components_in (form_at k i 1)) false) (components_in (form_at k i 0)) false

abbrev pub fill : Known → ℕ → ℕ → List Operand → Bool
fill k component count os =
    list_all (λ o. nat_lt 0 (given k component (type_in k o))) os && count == sum_by (λ o. given k component (type_in k o)) os

abbrev pub are_members : Known → List Member → List Operand → Bool
are_members k [] [] = true
are_members k [] (o ∷ os) = false
are_members k (m ∷ ms) [] = false
are_members k (m ∷ ms) (o ∷ os) = holds m.ty (type_in k o) && are_members k ms os

abbrev pub are_elements : Known → ℕ → Option ℕ → List Operand → Bool
are_elements k element count os = holds (length os) count && list_all (λ o. holds element (type_in k o)) os

abbrev pub are_parts : Known → List Operand → Option Form → Bool
are_parts k os (Some (Vector component count)) = fill k component count os
are_parts k os (Some (Array element n stride)) = are_elements k element n os
are_parts k os (Some (Struct members block)) = are_members k members os
are_parts k os _ = false

abbrev pub keeps_construct : Known → Inst → Bool
keeps_construct k i = are_parts k i.operands (form_of k.types i.ty)

abbrev pub is_part : Known → ℕ → List Operand → ℕ → Bool
is_part k whole os ty = is_selectable (form_of k.types ty) && holds ty (named_type k whole os)

abbrev pub keeps_extract : Known → Inst → Bool
keeps_extract k i = option_map_or (λ whole. is_part k whole (drop 1 i.operands) i.ty) (type_at k i 0) false

abbrev pub keeps_insert : Known → Inst → Bool
keeps_insert k i = holds i.ty (type_at k i 1) && option_map_or (λ ty. is_part k i.ty (drop 2 i.operands) ty) (type_at k i 0) false

abbrev pub keeps_copy_object : Known → Inst → Bool
keeps_copy_object k i = holds i.ty (type_at k i 0)
