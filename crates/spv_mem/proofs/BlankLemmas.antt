-- Undefined values: they are made of their forms, and have their shapes.
use Rattle.std.proofs.Common.{◌≡◌, ◌∙◌, ℕ, zero, suc, ◌+◌, ◌<◌, ◌≤◌, ◌*◌, ◌==◌, ◌||◌, min, Bool, true, false, List, [], ◌∷◌, ◌++◌, length, map, replicate, slice_get, Option, Some, None, refl, sym, ap, subst, arith}
use Rattle.std.specs.Prelude.{if◌then◌else◌, unwrap_or}
use Rattle.std.specs.Bool.{MatchBool}
use Rattle.std.specs.List.{All, AllZip, flat_map}
use Rattle.std.specs.Option.{MatchOption, is_some, option_map, option_map_or}
use Rattle.std.proofs.lemmas.List.{flat_map_more, length-map, length-replicate, replicate_more}
use Rattle.std.proofs.lemmas.List.Elements.{All-replicate}
use Rattle.std.proofs.lemmas.Nat.{pow_pos}
use Rattle.std.proofs.Math.Logic.{∥∥₁_map}
use Rattle.std.proofs.lemmas.Bool.{and_parts, lt-ltb}
use Rattle.spv_base.specs.Entries.{reads}
use Rattle.spv_base.specs.Cell.{IsCell, Cell, undefined_cell}
use Rattle.spv_base.specs.declared.values.Value.{Value, Scalar, List as Many}
use Rattle.spv_base.proofs.Exports.{out_many, out_scalar, is_many}
use Rattle.spv_base.specs.Options.{holds}
use Rattle.spv_types.specs.declared.forms.Form.{Form}
use Rattle.spv_types.specs.declared.forms.Form.TheVariants.{Void, Bool as Boolean, Int, Vector, Array, Runtime, Struct, Pointer, Function}
use Rattle.spv_types.specs.declared.forms.Member.{Member}
use Rattle.spv_types.specs.Types.{Types, form_of, found_among, in_first, number_of}
use Rattle.spv_types.specs.Cells.{added, cells_among, cells_of, cells_step, members_cells}
use Rattle.spv_types.specs.Laws.{AreSound, ComesBefore, IsAmong}
use Rattle.spv_types.specs.Rows.{leaves, no_roots}
use Rattle.spv_types.specs.Rules.{is_data, is_scalar, is_width, keep_members, keeps_form, keeps_member, last_type}
use Rattle.spv_types.specs.Shapes.{HasShape, HasShapeAmong, IsScalar, part_type, shape_step}
use Rattle.spv_types.proofs.Exports.{cells_whole, leaves_many, no_leaves, among_is, form_number, in_first-found, in_first-is, number_lt, scalar_data, member_data, sized_data, width_narrow, impossible}
use Rattle.spv_mem.specs.Blanks.{blank_among, blank_in, blank_of, blank_step, if_any, last_part, part_count}
use Rattle.spv_mem.specs.Memory.{Held, IsMemory, IsVariable}
use Rattle.spv_mem.specs.Targets.{count_in, elements_in, end_open, is_counted, is_open_array, is_open_block, last_of, may_be_target}

-- ---- by forms

pub blank_among_is : (ts : Types) (e n id : ℕ) → blank_among ts e n id ≡ option_map_or (λ (f : ℕ × Form). blank_step e (blank_among ts e f.0) f.1) (found_among ts n id) (Many [])
unfolding blank_among
blank_among_is ts e n id = in_first-is (Many []) (blank_step e) ts n id

-- ---- rows

pub none_blank : (ts : Types) (e n id : ℕ) (xs : List Cell) → found_among ts n id ≡ None → xs ≡ xs ++ leaves (blank_among ts e n id)
none_blank ts e n id xs none = rw (blank_among_is ts e n id, none) (no_leaves xs)

-- one more of equal values
pub equal_more : (v : Value) (new old first : List Cell) (n : ℕ) → new ≡ old ++ leaves v → old ≡ first ++ flat_map leaves (replicate n v) → new ≡ first ++ flat_map leaves (replicate (n + 1) v)
equal_more v new old first n is before =
    is ∙ ap (λ (cs : List Cell). cs ++ leaves v) before ∙ flat_map_more leaves first (replicate n v) v ∙ ap (λ (vs : List Value). first ++ flat_map leaves vs) (replicate_more n v)

each_leaves : (f : Member → Value) (ms : List Member) → flat_map leaves (map f ms) ≡ flat_map (λ (m : Member). leaves (f m)) ms
each_leaves f [] = refl
each_leaves f (m ∷ ms) = ap (λ (cs : List Cell). leaves (f m) ++ cs) (each_leaves f ms)

pub member_leaves : (f : Member → Value) (ms : List Member) → leaves (Many (map f ms)) ≡ flat_map (λ (m : Member). leaves (f m)) ms
member_leaves f ms = leaves_many (map f ms) ∙ each_leaves f ms

-- ---- shapes

undefined_is_lane : (width : ℕ) → width ≤ 64 → IsCell (undefined_cell width)
undefined_is_lane width narrow = record { narrow = narrow; fits = pow_pos width; zero = λ _. refl }

undefined_is_scalar : (width lane : ℕ) → lane ≡ width → width ≤ 64 → IsScalar width (Scalar (undefined_cell lane))
undefined_is_scalar width lane same narrow = rw (out_scalar, same) (refl, undefined_is_lane width narrow)

-- two numbers whose sum is there
pub both_there : (a b : Option ℕ) → is_some (added a b) ≡ true → (is_some a ≡ true) × (is_some b ≡ true)
both_there None b h = impossible h
both_there (Some n) None h = impossible h
both_there (Some n) (Some m) h = (refl, refl)

pub product_there : (a : Option ℕ) (n : ℕ) → is_some (option_map (λ c. c * n) a) ≡ true → is_some a ≡ true
product_there None n h = impossible h
product_there (Some c) n h = refl

module _ (ts : Types) (e : ℕ) (shape : ℕ → Value → Type 0) (cells : ℕ → Option ℕ) (blank : ℕ → Value) where
  -- each type of data with a number of leaves has its value
  abbrev pub Each : Type 0
  Each = (id : ℕ) → is_data (form_of ts id) ≡ true → is_some (cells id) ≡ true → shape id (blank id)

  members_shape : Each → (block : Bool) (ms : List Member) → keep_members ts block ms ≡ true → is_some (members_cells cells ms) ≡ true
      → AllZip (λ (m : Member). shape m.ty) ms (map (λ (m : Member). blank m.ty) ms)
  unfolding keep_members members_cells
  members_shape each block [] k c = tt
  members_shape each block (m ∷ ms) k c =
      let kept = and_parts (keeps_member ts block (length ms == 0) m.ty) (keep_members ts block ms) k in
      let counted = both_there (cells m.ty) (members_cells cells ms) c in
      (each m.ty (member_data ts block (length ms == 0) m.ty kept.0) counted.0, members_shape each block ms kept.1 counted.1)

  pub form_shape : Each → (f : Form) → keeps_form ts f ≡ true → is_data (Some f) ≡ true → is_some (cells_step cells f) ≡ true
      → shape_step ts no_roots shape f (blank_step e blank f)
  form_shape each Void k d c = impossible d
  form_shape each Boolean k d c = undefined_is_scalar 1 1 refl (omega arith)
  form_shape each (Int width sign) k d c =
      let narrow = width_narrow width (and_parts (is_width width) _ k).0 in
      undefined_is_scalar width (min width 64) (omega arith) narrow
  form_shape each (Vector component count) k d c =
      let sort = scalar_data (form_of ts component) (and_parts (is_scalar (form_of ts component)) _ k).0 in
      is_many (λ (vs : List Value). (length vs ≡ count) × All (shape component) vs) (replicate count (blank component))
      (length-replicate count (blank component), All-replicate (shape component) count (blank component) (each component sort (product_there (cells component) count c)))
  form_shape each (Array element None stride) k d c = impossible c
  form_shape each (Array element (Some n) stride) k d c =
      is_many (λ (vs : List Value). (Some (length vs) ≡ Some n) × All (shape element) vs) (replicate n (blank element))
      (ap Some (length-replicate n (blank element)), All-replicate (shape element) n (blank element) (each element (sized_data ts element k) (product_there (cells element) n c)))
  form_shape each (Runtime element stride) k d c = impossible c
  form_shape each (Struct members block) k d c =
      is_many (λ (vs : List Value). AllZip (λ (m : Member). shape m.ty) members vs) (map (λ (m : Member). blank m.ty) members) (members_shape each block members k c)
  form_shape each (Pointer class target) k d c = impossible d
  form_shape each (Function returns parameters) k d c = impossible d

module _ (ts : Types) (e : ℕ) (sound : AreSound ts) where
  -- types with numbers of leaves
  pub counted_shape : (n id : ℕ) → is_data (form_of ts id) ≡ true → is_some (cells_among ts n id) ≡ true → HasShapeAmong ts no_roots n id (blank_among ts e n id)
  unfolding HasShapeAmong cells_among blank_among in_first
  counted_shape zero id d c = impossible c
  counted_shape (suc n) id d c = here (λ part g h. counted_shape n part g h) (holds n (number_of ts id)) c
    where
      formed : ((part : ℕ) → is_data (form_of ts part) ≡ true → is_some (cells_among ts n part) ≡ true → HasShapeAmong ts no_roots n part (blank_among ts e n part))
          → (o : Option Form) → form_of ts id ≡ o → is_some (option_map_or (cells_step (cells_among ts n)) o None) ≡ true
          → MatchOption o ⊥ (λ f. shape_step ts no_roots (HasShapeAmong ts no_roots n) f (option_map_or (blank_step e (blank_among ts e n)) o (Many [])))
      formed before None is c = impossible c
      formed before (Some f) is c =
          let sort : is_data (Some f) ≡ true = ap is_data (sym is) ∙ d in
          form_shape ts e (HasShapeAmong ts no_roots n) (cells_among ts n) (blank_among ts e n) before f (sound.kept id f is) sort c

      here : ((part : ℕ) → is_data (form_of ts part) ≡ true → is_some (cells_among ts n part) ≡ true → HasShapeAmong ts no_roots n part (blank_among ts e n part))
          → (b : Bool) → is_some (if b then option_map_or (cells_step (cells_among ts n)) (form_of ts id) None else cells_among ts n id) ≡ true
          → MatchBool b (MatchOption (form_of ts id) ⊥ (λ f. shape_step ts no_roots (HasShapeAmong ts no_roots n) f (if b then option_map_or (blank_step e (blank_among ts e n)) (form_of ts id) (Many []) else blank_among ts e n id)))
          (HasShapeAmong ts no_roots n id (if b then option_map_or (blank_step e (blank_among ts e n)) (form_of ts id) (Many []) else blank_among ts e n id))
      here before true c = formed before (form_of ts id) refl c
      here before false c = before id d c

  -- a part of a form is among the types before it
  part_among : (id m : ℕ) (f : Form) → number_of ts id ≡ Some m → form_of ts id ≡ Some f → (index part : ℕ) → part_type f index ≡ Some part → IsAmong ts m part
  part_among id m f h is index part at =
      let before : ComesBefore ts part id = sound.ordered id index part f is at in
      let same : before.number ≡ m = let g = before.is in cc in
      subst (λ (k : ℕ). IsAmong ts k part) same before.among

  -- the undefined value of a type is made of the type's form, and so is the shape
  by_form : (n m id : ℕ) (f : Form) → number_of ts id ≡ Some m → m < n → form_of ts id ≡ Some f
      → shape_step ts no_roots (HasShapeAmong ts no_roots m) f (blank_step e (blank_among ts e m) f) → HasShapeAmong ts no_roots n id (blank_among ts e n id)
  unfolding blank_among
  by_form n m id f h low is has =
      let P : Type 0 → Type 0 = λ X. X in
      let v : Value = blank_step e (blank_among ts e m) f in
      let value : blank_among ts e n id ≡ v = in_first-found (Many []) (blank_step e) ts n m id h low ∙ ap (λ (o : Option Form). option_map_or (blank_step e (blank_among ts e m)) o (Many [])) is in
      let same : HasShapeAmong ts no_roots n id v ≡ shape_step ts no_roots (HasShapeAmong ts no_roots m) f v =
      among_is ts no_roots n m id v h low ∙ ap (λ (o : Option Form). MatchOption o ⊥ (λ g. shape_step ts no_roots (HasShapeAmong ts no_roots m) g v)) is in
      subst (HasShapeAmong ts no_roots n id) (sym value) (subst P (sym same) has)

  counted_before : (m part : ℕ) → IsAmong ts m part → is_data (form_of ts part) ≡ true → is_counted ts part ≡ true → HasShapeAmong ts no_roots m part (blank_among ts e m part)
  counted_before m part among d c = counted_shape m part d (ap is_some (cells_whole ts m part among) ∙ c)

  -- runtime arrays of such
  array_shape : (n id : ℕ) → IsAmong ts n id → is_open_array ts (form_of ts id) ≡ true → HasShapeAmong ts no_roots n id (blank_among ts e n id)
  array_shape n id among h = formed (form_of ts id) refl h
    where
      formed : (o : Option Form) → form_of ts id ≡ o → is_open_array ts o ≡ true → HasShapeAmong ts no_roots n id (blank_among ts e n id)
      formed None is h = impossible h
      formed (Some Void) is h = impossible h
      formed (Some Boolean) is h = impossible h
      formed (Some (Int width sign)) is h = impossible h
      formed (Some (Vector component count)) is h = impossible h
      formed (Some (Array element len stride)) is h = impossible h
      formed (Some (Struct members block)) is h = impossible h
      formed (Some (Pointer class target)) is h = impossible h
      formed (Some (Function returns parameters)) is h = impossible h
      formed (Some (Runtime element stride)) is h =
          let m : ℕ = among.number in
          let before = part_among id m (Runtime element stride) among.is is 0 element refl in
          let sort = sized_data ts element (sound.kept id (Runtime element stride) is) in
          by_form n m id (Runtime element stride) among.is among.below is
          (is_many (All (HasShapeAmong ts no_roots m element)) (replicate e (blank_among ts e m element))
          (All-replicate (HasShapeAmong ts no_roots m element) e (blank_among ts e m element) (counted_before m element before sort h)))

  -- members of which the last is such an array
  open_members : (n : ℕ) (block : Bool) (ms : List Member) → ((index part : ℕ) → option_map (λ (m : Member). m.ty) (slice_get ms index) ≡ Some part → IsAmong ts n part)
      → keep_members ts block ms ≡ true → end_open ts ms ≡ true → AllZip (λ (m : Member). HasShapeAmong ts no_roots n m.ty) ms (map (λ (m : Member). blank_among ts e n m.ty) ms)
  unfolding keep_members
  open_members n block [] before k h = impossible h
  open_members n block (m ∷ []) before k h = (array_shape n m.ty (before 0 m.ty refl) h, tt)
  open_members n block (m ∷ l ∷ ms) before k h =
      let kept = and_parts (keeps_member ts block (length (l ∷ ms) == 0) m.ty) (keep_members ts block (l ∷ ms)) k in
      let ends = and_parts (is_counted ts m.ty) (end_open ts (l ∷ ms)) h in
      (counted_before n m.ty (before 0 m.ty refl) (member_data ts block (length (l ∷ ms) == 0) m.ty kept.0) ends.0, open_members n block (l ∷ ms) (λ index part at. before (suc index) part at) kept.1 ends.1)

  block_shape : (id : ℕ) (o : Option Form) → form_of ts id ≡ o → is_open_block ts o ≡ true → HasShapeAmong ts no_roots (length ts) id (blank_among ts e (length ts) id)
  block_shape id None is h = impossible h
  block_shape id (Some Void) is h = impossible h
  block_shape id (Some Boolean) is h = impossible h
  block_shape id (Some (Int width sign)) is h = impossible h
  block_shape id (Some (Vector component count)) is h = impossible h
  block_shape id (Some (Array element len stride)) is h = impossible h
  block_shape id (Some (Runtime element stride)) is h = impossible h
  block_shape id (Some (Pointer class target)) is h = impossible h
  block_shape id (Some (Function returns parameters)) is h = impossible h
  block_shape id (Some (Struct members block)) is h =
      let number = form_number ts id (Struct members block) is in
      let m : ℕ = number.0 in
      by_form (length ts) m id (Struct members block) number.1 (number_lt ts id m number.1) is
      (is_many (λ (vs : List Value). AllZip (λ (k : Member). HasShapeAmong ts no_roots m k.ty) members vs) (map (λ (k : Member). blank_among ts e m k.ty) members)
      (open_members m block members (λ index part at. part_among id m (Struct members block) number.1 is index part at) (sound.kept id (Struct members block) is) h))

  counted_whole : (id : ℕ) → is_counted ts id ≡ true → is_some (cells_among ts (length ts) id) ≡ true
  unfolding cells_of
  counted_whole id c = c

  -- the undefined value of a type that a variable may have
  pub blank_shape : (id : ℕ) → may_be_target ts id ≡ true → is_data (form_of ts id) ≡ true → HasShape ts no_roots id (blank_of ts e id)
  unfolding HasShape blank_of
  blank_shape id may d = either (is_counted ts id) refl may
    where
      either : (b : Bool) → is_counted ts id ≡ b → (b || is_open_block ts (form_of ts id)) ≡ true → HasShapeAmong ts no_roots (length ts) id (blank_among ts e (length ts) id)
      either true c h = counted_shape (length ts) id d (counted_whole id c)
      either false c h = block_shape id (form_of ts id) refl h

-- ---- the parts of an undefined value

last_same : (v : Value) (n : ℕ) → last_of (v ∷ replicate n v) ≡ Some v
last_same v zero = refl
last_same v (suc n) = last_same v n

pub any_is : (n t : ℕ) → if_any (suc n) t ≡ Some t
any_is n t = ap (λ (b : Bool). if b then Some t else None) (lt-ltb 0 (suc n) (omega arith))

any_last : (n t : ℕ) (v : ℕ → Value) → option_map_or count_in (last_of (replicate n (v t))) 0 ≡ option_map_or (λ part. count_in (v part)) (if_any n t) 0
any_last zero t v = refl
any_last (suc n) t v = ap (λ (o : Option Value). option_map_or count_in o 0) (last_same (v t) n) ∙ ap (λ (o : Option ℕ). option_map_or (λ part. count_in (v part)) o 0) (sym (any_is n t))

last_member : (ms : List Member) (v : ℕ → Value) → option_map_or count_in (last_of (map (λ (m : Member). v m.ty) ms)) 0 ≡ option_map_or (λ part. count_in (v part)) (last_type ms) 0
last_member [] v = refl
last_member (m ∷ []) v = refl
last_member (m ∷ k ∷ ms) v = last_member (k ∷ ms) v

pub many_last : (vs : List Value) → elements_in (Many vs) ≡ option_map_or count_in (last_of vs) 0
many_last vs = rw out_many refl

pub scalar_last : (c : Cell) → elements_in (Scalar c) ≡ 0
scalar_last c = rw out_scalar refl

last_step : (e : ℕ) (v : ℕ → Value) (f : Form) → elements_in (blank_step e v f) ≡ option_map_or (λ part. count_in (v part)) (last_part e f) 0
last_step e v Void = many_last []
last_step e v Boolean = scalar_last (undefined_cell 1)
last_step e v (Int width sign) = scalar_last (undefined_cell (min width 64))
last_step e v (Vector component count) = many_last (replicate count (v component)) ∙ any_last count component v
last_step e v (Array element len stride) = many_last (replicate (unwrap_or len 0) (v element)) ∙ any_last (unwrap_or len 0) element v
last_step e v (Runtime element stride) = many_last (replicate e (v element)) ∙ any_last e element v
last_step e v (Struct members block) = many_last (map (λ (m : Member). v m.ty) members) ∙ last_member members v
last_step e v (Pointer class target) = many_last []
last_step e v (Function returns parameters) = many_last []

pub many_count : (vs : List Value) → count_in (Many vs) ≡ length vs
many_count vs = rw out_many refl

pub scalar_count : (c : Cell) → count_in (Scalar c) ≡ 0
scalar_count c = rw out_scalar refl

count_step : (e : ℕ) (v : ℕ → Value) (f : Form) → count_in (blank_step e v f) ≡ part_count e f
count_step e v Void = many_count []
count_step e v Boolean = scalar_count (undefined_cell 1)
count_step e v (Int width sign) = scalar_count (undefined_cell (min width 64))
count_step e v (Vector component count) = many_count (replicate count (v component)) ∙ length-replicate count (v component)
count_step e v (Array element len stride) = many_count (replicate (unwrap_or len 0) (v element)) ∙ length-replicate (unwrap_or len 0) (v element)
count_step e v (Runtime element stride) = many_count (replicate e (v element)) ∙ length-replicate e (v element)
count_step e v (Struct members block) = many_count (map (λ (m : Member). v m.ty) members) ∙ length-map members (λ (m : Member). v m.ty)
count_step e v (Pointer class target) = many_count []
count_step e v (Function returns parameters) = many_count []

count_among : (ts : Types) (e n id : ℕ) → count_in (blank_among ts e n id) ≡ option_map_or (λ (f : ℕ × Form). part_count e f.1) (found_among ts n id) 0
count_among ts e n id = ap count_in (blank_among_is ts e n id) ∙ found (found_among ts n id)
  where
    found : (o : Option (ℕ × Form)) → count_in (option_map_or (λ (f : ℕ × Form). blank_step e (blank_among ts e f.0) f.1) o (Many [])) ≡ option_map_or (λ (f : ℕ × Form). part_count e f.1) o 0
    found None = many_count []
    found (Some f) = count_step e (blank_among ts e f.0) f.1

pub elements_are : (ts : Types) (e id : ℕ) → elements_in (blank_of ts e id)
    ≡ option_map_or (λ (f : ℕ × Form). option_map_or (λ part. option_map_or (λ (g : ℕ × Form). part_count e g.1) (found_among ts f.0 part) 0) (last_part e f.1) 0) (found_among ts (length ts) id) 0
unfolding blank_of
elements_are ts e id = ap elements_in (blank_among_is ts e (length ts) id) ∙ found (found_among ts (length ts) id)
  where
    counted : (n : ℕ) (o : Option ℕ) → option_map_or (λ part. count_in (blank_among ts e n part)) o 0 ≡ option_map_or (λ part. option_map_or (λ (g : ℕ × Form). part_count e g.1) (found_among ts n part) 0) o 0
    counted n None = refl
    counted n (Some part) = count_among ts e n part

    found : (o : Option (ℕ × Form)) → elements_in (option_map_or (λ (f : ℕ × Form). blank_step e (blank_among ts e f.0) f.1) o (Many []))
        ≡ option_map_or (λ (f : ℕ × Form). option_map_or (λ part. option_map_or (λ (g : ℕ × Form). part_count e g.1) (found_among ts f.0 part) 0) (last_part e f.1) 0) o 0
    found None = many_last []
    found (Some f) = last_step e (blank_among ts e f.0) f.1 ∙ counted f.0 (last_part e f.1)

-- ---- variables that begin undefined

pub blank_is_variable : (m : Held) (id type e : ℕ) → ∥ IsMemory m ∥₁ → reads id m.targets ≡ Some type → is_data (form_of m.types type) ≡ true → ∥ IsVariable m.types m.targets id (blank_of m.types e type) ∥₁
blank_is_variable m id type e memory named sort = ∥∥₁_map memory (λ (is : IsMemory m). record { type = type; named = named; shape = blank_shape m.types e is.sound type (is.targets id type named) sort })

pub blank_unnamed : (m : Held) (id e : ℕ) → reads id m.targets ≡ None → None ≡ blank_in m id e
blank_unnamed m id e h = rw h refl

pub blank_other : (m : Held) (id type e : ℕ) → reads id m.targets ≡ Some type → is_data (form_of m.types type) ≡ false → None ≡ blank_in m id e
blank_other m id type e h g = rw (h, g) refl

pub blank_found : (m : Held) (id type e : ℕ) → reads id m.targets ≡ Some type → is_data (form_of m.types type) ≡ true → Some (blank_of m.types e type) ≡ blank_in m id e
blank_found m id type e h g = rw (h, g) refl
