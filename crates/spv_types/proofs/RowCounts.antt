-- A value of a shape has as many leaves as its type has cells.
use Rattle.std.proofs.Common.{◌≡◌, ◌∙◌, ℕ, zero, suc, ◌*◌, Bool, true, false, List, [], ◌∷◌, Option, Some, None, length, length-append, refl, sym, ap, arith}
use Rattle.std.specs.Bool.{MatchBool}
use Rattle.std.specs.Option.{IsSomeAnd, MatchOption, option_map, option_map_or}
use Rattle.std.specs.Prelude.{if◌then◌else◌}
use Rattle.std.specs.List.{All, AllZip, flat_map}
use Rattle.std.proofs.lemmas.List.Elements.{All-head, All-tail}
use Rattle.spv_base.specs.Cell.{Cell}
use Rattle.spv_base.specs.Parts.{parts_in}
use Rattle.spv_base.specs.declared.values.Pointer.{Pointer as Reference}
use Rattle.spv_base.specs.declared.values.Root.{Root}
use Rattle.spv_base.specs.declared.values.Value.{Value, out-Value}
use Rattle.spv_base.specs.declared.values.Value.TheOpen.{Value-F}
use Rattle.spv_base.specs.Options.{holds}
use Rattle.spv_types.specs.declared.forms.Form.{Form}
use Rattle.spv_types.specs.declared.forms.Form.TheVariants.{Void, Bool as Boolean, Int, Vector, Array, Runtime, Struct, Pointer, Function}
use Rattle.spv_types.specs.declared.forms.Member.{Member}
use Rattle.spv_types.specs.Types.{Types, form_of, in_first, number_of}
use Rattle.spv_types.specs.Cells.{cells_among, cells_of, cells_step, members_cells}
use Rattle.spv_types.specs.Shapes.{HasShape, HasShapeAmong, pointer_in, scalar_in, shape_step}
use Rattle.spv_types.proofs.CellLemmas.{added_is}
use Rattle.spv_types.specs.Rows.{leaves}
use Rattle.spv_types.proofs.RowLemmas.{scalar_row, pointer_row, many_row}

-- values of a type have as many leaves as a reading of cells says
abbrev pub Counts : (ℕ → Value → Type 0) → (ℕ → Option ℕ) → Type 0
Counts shape cells = (id : ℕ) (v : Value) (n : ℕ) → shape id v → cells id ≡ Some n → length (leaves v) ≡ n

-- ---- options that are there

pub times_is : (a : Option ℕ) (k n : ℕ) → option_map (λ c. c * k) a ≡ Some n → (c : ℕ) × (a ≡ Some c) × (n ≡ c * k)
times_is None k n h = cc
times_is (Some c) k n h = let e : n ≡ c * k = cc in (c, refl, e)

-- ---- values that are alike, one after another

pub each_row : (P : Value → Type 0) (c : ℕ) (vs : List Value) → ((v : Value) → P v → length (leaves v) ≡ c) → All P vs → length (flat_map leaves vs) ≡ c * length vs
each_row P c [] count all = omega arith
each_row P c (v ∷ vs) count all =
    let one : length (leaves v) ≡ c = count v (All-head P v vs all) in
    let rest : length (flat_map leaves vs) ≡ c * length vs = each_row P c vs count (All-tail P v vs all) in
    rw (length-append (leaves v) (flat_map leaves vs)) (omega arith)

pub members_row : (shape : ℕ → Value → Type 0) (cells : ℕ → Option ℕ) (ms : List Member) (vs : List Value) (n : ℕ) → Counts shape cells
    → AllZip (λ (m : Member). shape m.ty) ms vs → members_cells cells ms ≡ Some n → length (flat_map leaves vs) ≡ n
unfolding members_cells
members_row shape cells [] [] n count all h = cc
members_row shape cells [] (v ∷ vs) n count all h = absurd all
members_row shape cells (m ∷ ms) [] n count all h = absurd all
members_row shape cells (m ∷ ms) (v ∷ vs) n count all h =
    let sum = added_is (cells m.ty) (members_cells cells ms) n h in
    let one : length (leaves v) ≡ sum.0 = count m.ty v sum.0 all.0 sum.2 in
    let rest : length (flat_map leaves vs) ≡ sum.1 = members_row shape cells ms vs sum.1 count all.1 sum.3 in
    rw (length-append (leaves v) (flat_map leaves vs)) (omega (arith, sum.4))

-- ---- one level

scalar_count : (P : Cell → Type 0) (v : Value) → IsSomeAnd (scalar_in (out-Value v)) P → length (leaves v) ≡ 1
scalar_count P v h = level (out-Value v) refl h
  where
    level : (l : Value-F Value) → out-Value v ≡ l → IsSomeAnd (scalar_in l) P → length (leaves v) ≡ 1
    level (Value-F.Scalar c) e h = rw (scalar_row v c e) refl
    level (Value-F.List vs) e h = absurd h
    level (Value-F.Ptr p) e h = absurd h

pointer_count : (P : Reference → Type 0) (v : Value) → IsSomeAnd (pointer_in (out-Value v)) P → length (leaves v) ≡ 1
pointer_count P v h = level (out-Value v) refl h
  where
    level : (l : Value-F Value) → out-Value v ≡ l → IsSomeAnd (pointer_in l) P → length (leaves v) ≡ 1
    level (Value-F.Scalar c) e h = absurd h
    level (Value-F.List vs) e h = absurd h
    level (Value-F.Ptr p) e h = rw (pointer_row v p e) refl

pub many_is : (P : List Value → Type 0) (v : Value) → IsSomeAnd (parts_in (out-Value v)) P → (vs : List Value) × (out-Value v ≡ Value-F.List vs) × P vs
many_is P v h = level (out-Value v) refl h
  where
    level : (l : Value-F Value) → out-Value v ≡ l → IsSomeAnd (parts_in l) P → (vs : List Value) × (out-Value v ≡ Value-F.List vs) × P vs
    level (Value-F.Scalar c) e h = absurd h
    level (Value-F.List vs) e h = (vs, e, h)
    level (Value-F.Ptr p) e h = absurd h

step_count : (ts : Types) (roots : Root → Option ℕ) (shape : ℕ → Value → Type 0) (cells : ℕ → Option ℕ) (f : Form) (v : Value) (n : ℕ) → Counts shape cells
    → shape_step ts roots shape f v → cells_step cells f ≡ Some n → length (leaves v) ≡ n
step_count ts roots shape cells Void v n count h k = absurd h
step_count ts roots shape cells Boolean v n count h k = let e : 1 ≡ n = cc in scalar_count _ v h ∙ e
step_count ts roots shape cells (Int width sign) v n count h k = let e : 1 ≡ n = cc in scalar_count _ v h ∙ e
step_count ts roots shape cells (Vector component size) v n count h k =
    let many = many_is _ v h in
    let times = times_is (cells component) size n k in
    let rows : length (flat_map leaves many.0) ≡ times.0 * length many.0 = each_row (shape component) times.0 many.0 (λ u s. count component u times.0 s times.1) many.2.1 in
    ap length (many_row v many.0 many.1) ∙ rows ∙ ap (λ k. times.0 * k) many.2.0 ∙ sym times.2
step_count ts roots shape cells (Array element None stride) v n count h k = cc
step_count ts roots shape cells (Array element (Some size) stride) v n count h k =
    let many = many_is _ v h in
    let times = times_is (cells element) size n k in
    let same : length many.0 ≡ size = let e = many.2.0 in cc in
    let rows : length (flat_map leaves many.0) ≡ times.0 * length many.0 = each_row (shape element) times.0 many.0 (λ u s. count element u times.0 s times.1) many.2.1 in
    ap length (many_row v many.0 many.1) ∙ rows ∙ ap (λ k. times.0 * k) same ∙ sym times.2
step_count ts roots shape cells (Runtime element stride) v n count h k = cc
step_count ts roots shape cells (Struct members block) v n count h k =
    let many = many_is _ v h in
    ap length (many_row v many.0 many.1) ∙ members_row shape cells members many.0 n count many.2 k
step_count ts roots shape cells (Pointer class target) v n count h k = let e : 1 ≡ n = cc in pointer_count _ v h ∙ e
step_count ts roots shape cells (Function returns parameters) v n count h k = absurd h

-- ---- all levels

formed_count : (ts : Types) (roots : Root → Option ℕ) (shape : ℕ → Value → Type 0) (cells : ℕ → Option ℕ) (o : Option Form) (v : Value) (n : ℕ) → Counts shape cells
    → MatchOption o ⊥ (λ f. shape_step ts roots shape f v) → option_map_or (cells_step cells) o None ≡ Some n → length (leaves v) ≡ n
formed_count ts roots shape cells None v n count h k = absurd h
formed_count ts roots shape cells (Some f) v n count h k = step_count ts roots shape cells f v n count h k

pub among_counts : (ts : Types) (roots : Root → Option ℕ) (m : ℕ) → Counts (HasShapeAmong ts roots m) (cells_among ts m)
unfolding HasShapeAmong cells_among in_first
among_counts ts roots zero id v n h k = absurd h
among_counts ts roots (suc m) id v n h k = here (among_counts ts roots m) (holds m (number_of ts id)) h k
  where
    here : Counts (HasShapeAmong ts roots m) (cells_among ts m) → (b : Bool)
        → MatchBool b (MatchOption (form_of ts id) ⊥ (λ f. shape_step ts roots (HasShapeAmong ts roots m) f v)) (HasShapeAmong ts roots m id v)
        → (if b then option_map_or (cells_step (cells_among ts m)) (form_of ts id) None else cells_among ts m id) ≡ Some n → length (leaves v) ≡ n
    here below true h k = formed_count ts roots (HasShapeAmong ts roots m) (cells_among ts m) (form_of ts id) v n below h k
    here below false h k = below id v n h k

pub shapes_count : (ts : Types) (roots : Root → Option ℕ) → Counts (HasShape ts roots) (cells_of ts)
unfolding HasShape cells_of
shapes_count ts roots id v n h k = among_counts ts roots (length ts) id v n h k
