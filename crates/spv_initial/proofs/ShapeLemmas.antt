-- What is read from bytes has the shape of its type.
use Rattle.std.proofs.Common.{◌≡◌, ◌∙◌, ◌⊎◌, ℕ, zero, suc, ◌+◌, ◌/◌, ◌^◌, ◌<◌, ◌==◌, ◌||◌, Bool, true, false, List, [], ◌∷◌, length, get_or, slice_get, Option, Some, None, inl, inr, refl, sym, ap, subst, arith}
use Rattle.std.proofs.lemmas.Bool.{and_parts, eqb-true}
use Rattle.std.specs.Prelude.{if◌then◌else◌, unwrap_or}
use Rattle.std.specs.Bool.{MatchBool}
use Rattle.std.specs.List.{All, AllZip}
use Rattle.std.specs.Option.{MatchOption, is_some, option_map, option_map_or}
use Rattle.std.proofs.Math.Nat.{pow-suc}
use Rattle.std.proofs.lemmas.List.Elements.{All-cons, All-nil}
use Rattle.std.proofs.lemmas.Option.{unwrap_or-slice_get}
use Rattle.spv_base.specs.Cell.{Cell, defined_cell, undefined_cell}
use Rattle.spv_base.specs.declared.values.Value.{Value, Scalar}
use Rattle.spv_base.proofs.Exports.{is_many}
use Rattle.spv_base.specs.Options.{holds}
use Rattle.spv_types.specs.declared.forms.Form.{Form}
use Rattle.spv_types.specs.declared.forms.Form.TheVariants.{Void, Bool as Boolean, Int, Vector, Array, Runtime, Struct, Pointer, Function}
use Rattle.spv_types.specs.declared.forms.Member.{Member}
use Rattle.spv_types.specs.Cells.{cells_among, cells_of, cells_step, members_cells}
use Rattle.spv_types.specs.Laws.{AreSound, ComesBefore, IsAmong}
use Rattle.spv_types.specs.Places.{scalar_bytes, elements_in}
use Rattle.spv_types.specs.Rows.{no_roots}
use Rattle.spv_types.specs.Rules.{is_data, is_scalar, is_width, keep_members, keeps_form, keeps_member}
use Rattle.spv_types.specs.Shapes.{HasShape, HasShapeAmong, IsScalar, part_type, shape_step}
use Rattle.spv_types.specs.Types.{Types, form_of, in_first, number_of}
use Rattle.spv_types.proofs.Exports.{cells_whole, among_is, form_number, in_first-found, number_lt, scalar_data, member_data, sized_data, width_narrow, impossible}
use Rattle.spv_consts.proofs.Exports.{is_scalar as scalar_is, undefined_is_lane}
use Rattle.spv_start.specs.Blocks.{Reader, read_among, read_members, read_none, read_row, read_step, value_in}
use Rattle.spv_start.specs.Numbers.{byte_at, number_at, scalar_at}
use Rattle.spv_mem.specs.Targets.{end_open, is_counted, is_open_array, is_open_block, may_be_target}
use Rattle.spv_mem.proofs.Exports.{both_there, product_there}
use Rattle.spv_initial.proofs.ElementLemmas.{row_length}

-- ---- numbers

-- bytes are below 256
abbrev pub AreBytes : List ℕ → Type 0
AreBytes bytes = (k : ℕ) → get_or bytes k 0 < 256

byte_below : (bytes : List ℕ) → AreBytes bytes → (at : ℕ) → byte_at bytes at < 256
byte_below bytes small at = subst (λ (n : ℕ). n < 256) (sym (unwrap_or-slice_get bytes at 0)) (small at)

number_below : (bytes : List ℕ) → AreBytes bytes → (at n : ℕ) → number_at bytes at n < 256 ^ n
number_below bytes small at zero = omega arith
number_below bytes small at (suc n) =
    let first : byte_at bytes at < 256 = byte_below bytes small at in
    let rest : number_at bytes (at + 1) n < 256 ^ n = number_below bytes small (at + 1) n in
    rw (pow-suc 256 n) (omega (arith, first, rest))

-- the widths of integers
width_cases : (width : ℕ) → is_width width ≡ true → (width ≡ 8) ⊎ ((width ≡ 16) ⊎ ((width ≡ 32) ⊎ (width ≡ 64)))
width_cases width h = by_tests (width == 8) (width == 16) (width == 32) (width == 64) refl refl refl refl h
  where
    by_tests : (a b c d : Bool) → (width == 8) ≡ a → (width == 16) ≡ b → (width == 32) ≡ c → (width == 64) ≡ d → ((a || b) || (c || d)) ≡ true
        → (width ≡ 8) ⊎ ((width ≡ 16) ⊎ ((width ≡ 32) ⊎ (width ≡ 64)))
    by_tests true b c d e f g k t = inl (eqb-true width 8 e)
    by_tests false true c d e f g k t = inr (inl (eqb-true width 16 f))
    by_tests false false true d e f g k t = inr (inr (inl (eqb-true width 32 g)))
    by_tests false false false true e f g k t = inr (inr (inr (eqb-true width 64 k)))
    by_tests false false false false e f g k t = impossible t

bits_below : (bytes : List ℕ) → AreBytes bytes → (at width : ℕ) → is_width width ≡ true → number_at bytes at (width / 8) < 2 ^ width
bits_below bytes small at width h = by_case (width_cases width h)
  where
    below : (w : ℕ) → width ≡ w → number_at bytes at (w / 8) < 2 ^ w → number_at bytes at (width / 8) < 2 ^ width
    below w same fits = subst (λ (n : ℕ). number_at bytes at (n / 8) < 2 ^ n) (sym same) fits

    by_case : (width ≡ 8) ⊎ ((width ≡ 16) ⊎ ((width ≡ 32) ⊎ (width ≡ 64))) → number_at bytes at (width / 8) < 2 ^ width
    by_case (inl same) = below 8 same (number_below bytes small at 1)
    by_case (inr (inl same)) = below 16 same (number_below bytes small at 2)
    by_case (inr (inr (inl same))) = below 32 same (number_below bytes small at 4)
    by_case (inr (inr (inr same))) = below 64 same (number_below bytes small at 8)

scalar_shape : (bytes : List ℕ) → AreBytes bytes → (at width : ℕ) → is_width width ≡ true → IsScalar width (Scalar (scalar_at bytes at width))
scalar_shape bytes small at width h =
    let c : Cell = defined_cell width (number_at bytes at (width / 8)) in
    let is : scalar_at bytes at width ≡ c = ap (λ (b : Bool). if b then defined_cell width (number_at bytes at (width / 8)) else undefined_cell 1) h in
    subst (λ (x : Cell). IsScalar width (Scalar x)) (sym is)
    (scalar_is c width refl (record { narrow = width_narrow width h; fits = bits_below bytes small at width h; zero = λ e. absurd (cc) }))

-- ---- values

row_all : (P : Value → Type 0) (read : Reader) → ((at : ℕ) → P (read at)) → (at stride n : ℕ) → All P (read_row read at stride n)
row_all P read each at stride zero = All-nil P
row_all P read each at stride (suc n) = All-cons P (read at) (read_row read (at + stride) stride n) (each at) (row_all P read each (at + stride) stride n)

module _ (ts : Types) (bytes : List ℕ) (size : ℕ) (small : AreBytes bytes) (shape : ℕ → Value → Type 0) (cells : ℕ → Option ℕ) (read : ℕ → Reader) where
  -- each type of data with a number of leaves has its value, wherever it begins
  abbrev pub Each : Type 0
  Each = (id : ℕ) → is_data (form_of ts id) ≡ true → is_some (cells id) ≡ true → (at : ℕ) → shape id (read id at)

  members_shape : Each → (block : Bool) (ms : List Member) → keep_members ts block ms ≡ true → is_some (members_cells cells ms) ≡ true → (at : ℕ)
      → AllZip (λ (m : Member). shape m.ty) ms (read_members read at ms)
  unfolding keep_members members_cells
  members_shape each block [] k c at = tt
  members_shape each block (m ∷ ms) k c at =
      let kept = and_parts (keeps_member ts block (length ms == 0) m.ty) (keep_members ts block ms) k in
      let counted = both_there (cells m.ty) (members_cells cells ms) c in
      (each m.ty (member_data ts block (length ms == 0) m.ty kept.0) counted.0 (at + unwrap_or m.offset 0), members_shape each block ms kept.1 counted.1 at)

  pub form_shape : Each → (f : Form) → keeps_form ts f ≡ true → is_data (Some f) ≡ true → is_some (cells_step cells f) ≡ true → (at : ℕ)
      → shape_step ts no_roots shape f (read_step ts bytes size read f at)
  form_shape each Void k d c at = impossible d
  form_shape each Boolean k d c at = scalar_is (undefined_cell 1) 1 refl undefined_is_lane
  form_shape each (Int width sign) k d c at = scalar_shape bytes small at width (and_parts (is_width width) _ k).0
  form_shape each (Vector component count) k d c at =
      let stride : ℕ = scalar_bytes (form_of ts component) in
      let sort = scalar_data (form_of ts component) (and_parts (is_scalar (form_of ts component)) _ k).0 in
      is_many (λ (vs : List Value). (length vs ≡ count) × All (shape component) vs) (read_row (read component) at stride count)
      (row_length (read component) at stride count, row_all (shape component) (read component) (each component sort (product_there (cells component) count c)) at stride count)
  form_shape each (Array element None stride) k d c at = impossible c
  form_shape each (Array element (Some n) stride) k d c at =
      is_many (λ (vs : List Value). (Some (length vs) ≡ Some n) × All (shape element) vs) (read_row (read element) at (unwrap_or stride 0) n)
      (ap Some (row_length (read element) at (unwrap_or stride 0) n), row_all (shape element) (read element) (each element (sized_data ts element k) (product_there (cells element) n c)) at (unwrap_or stride 0) n)
  form_shape each (Runtime element stride) k d c at = impossible c
  form_shape each (Struct members block) k d c at =
      is_many (λ (vs : List Value). AllZip (λ (m : Member). shape m.ty) members vs) (read_members read at members) (members_shape each block members k c at)
  form_shape each (Pointer class target) k d c at = impossible d
  form_shape each (Function returns parameters) k d c at = impossible d

module _ (ts : Types) (bytes : List ℕ) (size : ℕ) (small : AreBytes bytes) (sound : AreSound ts) where
  -- types with numbers of leaves
  counted_shape : (n id : ℕ) → is_data (form_of ts id) ≡ true → is_some (cells_among ts n id) ≡ true → (at : ℕ) → HasShapeAmong ts no_roots n id (read_among ts bytes size n id at)
  unfolding HasShapeAmong cells_among read_among in_first
  counted_shape zero id d c at = impossible c
  counted_shape (suc n) id d c at = here (λ part g h place. counted_shape n part g h place) (holds n (number_of ts id)) c
    where
      formed : ((part : ℕ) → is_data (form_of ts part) ≡ true → is_some (cells_among ts n part) ≡ true → (place : ℕ) → HasShapeAmong ts no_roots n part (read_among ts bytes size n part place))
          → (o : Option Form) → form_of ts id ≡ o → is_some (option_map_or (cells_step (cells_among ts n)) o None) ≡ true
          → MatchOption o ⊥ (λ f. shape_step ts no_roots (HasShapeAmong ts no_roots n) f (option_map_or {U = Reader} (read_step ts bytes size (read_among ts bytes size n)) o read_none at))
      formed before None is c = impossible c
      formed before (Some f) is c =
          let sort : is_data (Some f) ≡ true = ap is_data (sym is) ∙ d in
          form_shape ts bytes size small (HasShapeAmong ts no_roots n) (cells_among ts n) (read_among ts bytes size n) before f (sound.kept id f is) sort c at

      here : ((part : ℕ) → is_data (form_of ts part) ≡ true → is_some (cells_among ts n part) ≡ true → (place : ℕ) → HasShapeAmong ts no_roots n part (read_among ts bytes size n part place))
          → (b : Bool) → is_some (if b then option_map_or (cells_step (cells_among ts n)) (form_of ts id) None else cells_among ts n id) ≡ true
          → MatchBool b (MatchOption (form_of ts id) ⊥ (λ f. shape_step ts no_roots (HasShapeAmong ts no_roots n) f ((if b then option_map_or {U = Reader} (read_step ts bytes size (read_among ts bytes size n)) (form_of ts id) read_none else read_among ts bytes size n id) at)))
          (HasShapeAmong ts no_roots n id ((if b then option_map_or {U = Reader} (read_step ts bytes size (read_among ts bytes size n)) (form_of ts id) read_none else read_among ts bytes size n id) at))
      here before true c = formed before (form_of ts id) refl c
      here before false c = before id d c at

  -- a part of a form is among the types before it
  part_among : (id m : ℕ) (f : Form) → number_of ts id ≡ Some m → form_of ts id ≡ Some f → (index part : ℕ) → part_type f index ≡ Some part → IsAmong ts m part
  part_among id m f h is index part at =
      let before : ComesBefore ts part id = sound.ordered id index part f is at in
      let same : before.number ≡ m = let g = before.is in cc in
      subst (λ (k : ℕ). IsAmong ts k part) same before.among

  -- the value of a type is made of the type's form, and so is the shape
  by_form : (n m id : ℕ) (f : Form) (at : ℕ) → number_of ts id ≡ Some m → m < n → form_of ts id ≡ Some f
      → shape_step ts no_roots (HasShapeAmong ts no_roots m) f (read_step ts bytes size (read_among ts bytes size m) f at) → HasShapeAmong ts no_roots n id (read_among ts bytes size n id at)
  unfolding read_among
  by_form n m id f at h low is has =
      let P : Type 0 → Type 0 = λ X. X in
      let v : Value = read_step ts bytes size (read_among ts bytes size m) f at in
      let value : read_among ts bytes size n id at ≡ v =
      ap (λ (r : Reader). r at) (in_first-found {A = Reader} read_none (read_step ts bytes size) ts n m id h low
      ∙ ap (λ (o : Option Form). option_map_or {U = Reader} (read_step ts bytes size (read_among ts bytes size m)) o read_none) is) in
      let same : HasShapeAmong ts no_roots n id v ≡ shape_step ts no_roots (HasShapeAmong ts no_roots m) f v =
      among_is ts no_roots n m id v h low ∙ ap (λ (o : Option Form). MatchOption o ⊥ (λ g. shape_step ts no_roots (HasShapeAmong ts no_roots m) g v)) is in
      subst (HasShapeAmong ts no_roots n id) (sym value) (subst P (sym same) has)

  counted_before : (m part : ℕ) → IsAmong ts m part → is_data (form_of ts part) ≡ true → is_counted ts part ≡ true → (at : ℕ) → HasShapeAmong ts no_roots m part (read_among ts bytes size m part at)
  counted_before m part among d c at = counted_shape m part d (ap is_some (cells_whole ts m part among) ∙ c) at

  -- runtime arrays of such
  array_shape : (n id : ℕ) → IsAmong ts n id → is_open_array ts (form_of ts id) ≡ true → (at : ℕ) → HasShapeAmong ts no_roots n id (read_among ts bytes size n id at)
  array_shape n id among h at = formed (form_of ts id) refl h
    where
      formed : (o : Option Form) → form_of ts id ≡ o → is_open_array ts o ≡ true → HasShapeAmong ts no_roots n id (read_among ts bytes size n id at)
      formed None is h = impossible h
      formed (Some Void) is h = impossible h
      formed (Some Boolean) is h = impossible h
      formed (Some (Int width sign)) is h = impossible h
      formed (Some (Vector component count)) is h = impossible h
      formed (Some (Array element len stride)) is h = impossible h
      formed (Some (Struct members block)) is h = impossible h
      formed (Some (Pointer class target)) is h = impossible h
      formed (Some (Function returns parameters)) is h = impossible h
      formed (Some (Runtime element stride)) is h =
          let m : ℕ = among.number in
          let before = part_among id m (Runtime element stride) among.is is 0 element refl in
          let sort = sized_data ts element (sound.kept id (Runtime element stride) is) in
          by_form n m id (Runtime element stride) at among.is among.below is
          (is_many (All (HasShapeAmong ts no_roots m element)) (read_row (read_among ts bytes size m element) at (unwrap_or stride 0) (elements_in size at stride))
          (row_all (HasShapeAmong ts no_roots m element) (read_among ts bytes size m element) (counted_before m element before sort h) at (unwrap_or stride 0) (elements_in size at stride)))

  -- members of which the last is such an array
  open_members : (n : ℕ) (block : Bool) (ms : List Member) → ((index part : ℕ) → option_map (λ (m : Member). m.ty) (slice_get ms index) ≡ Some part → IsAmong ts n part)
      → keep_members ts block ms ≡ true → end_open ts ms ≡ true → (at : ℕ) → AllZip (λ (m : Member). HasShapeAmong ts no_roots n m.ty) ms (read_members (read_among ts bytes size n) at ms)
  unfolding keep_members
  open_members n block [] before k h at = impossible h
  open_members n block (m ∷ []) before k h at = (array_shape n m.ty (before 0 m.ty refl) h (at + unwrap_or m.offset 0), tt)
  open_members n block (m ∷ l ∷ ms) before k h at =
      let kept = and_parts (keeps_member ts block (length (l ∷ ms) == 0) m.ty) (keep_members ts block (l ∷ ms)) k in
      let ends = and_parts (is_counted ts m.ty) (end_open ts (l ∷ ms)) h in (
        counted_before n m.ty (before 0 m.ty refl) (member_data ts block (length (l ∷ ms) == 0) m.ty kept.0) ends.0 (at + unwrap_or m.offset 0),
        open_members n block (l ∷ ms) (λ index part is. before (suc index) part is) kept.1 ends.1 at,
      )

  block_shape : (id : ℕ) (o : Option Form) → form_of ts id ≡ o → is_open_block ts o ≡ true → (at : ℕ) → HasShapeAmong ts no_roots (length ts) id (read_among ts bytes size (length ts) id at)
  block_shape id None is h at = impossible h
  block_shape id (Some Void) is h at = impossible h
  block_shape id (Some Boolean) is h at = impossible h
  block_shape id (Some (Int width sign)) is h at = impossible h
  block_shape id (Some (Vector component count)) is h at = impossible h
  block_shape id (Some (Array element len stride)) is h at = impossible h
  block_shape id (Some (Runtime element stride)) is h at = impossible h
  block_shape id (Some (Pointer class target)) is h at = impossible h
  block_shape id (Some (Function returns parameters)) is h at = impossible h
  block_shape id (Some (Struct members block)) is h at =
      let number = form_number ts id (Struct members block) is in
      let m : ℕ = number.0 in
      by_form (length ts) m id (Struct members block) at number.1 (number_lt ts id m number.1) is
      (is_many (λ (vs : List Value). AllZip (λ (k : Member). HasShapeAmong ts no_roots m k.ty) members vs) (read_members (read_among ts bytes size m) at members)
      (open_members m block members (λ index part i. part_among id m (Struct members block) number.1 is index part i) (sound.kept id (Struct members block) is) h at))

  counted_whole : (id : ℕ) → is_counted ts id ≡ true → is_some (cells_among ts (length ts) id) ≡ true
  unfolding cells_of
  counted_whole id c = c

  -- the value of a type that a variable may have
  pub read_shape : (id : ℕ) → may_be_target ts id ≡ true → is_data (form_of ts id) ≡ true → HasShape ts no_roots id (value_in ts bytes size id)
  unfolding HasShape value_in
  read_shape id may d = either (is_counted ts id) refl may
    where
      either : (b : Bool) → is_counted ts id ≡ b → (b || is_open_block ts (form_of ts id)) ≡ true → HasShapeAmong ts no_roots (length ts) id (read_among ts bytes size (length ts) id 0)
      either true c h = counted_shape (length ts) id d (counted_whole id c) 0
      either false c h = block_shape id (form_of ts id) refl h 0
