-- What vector operations give has the shape of the result's type.
use Rattle.std.proofs.Common.{◌≡◌, ◌∙◌, ℕ, ◌<◌, List, [], ◌∷◌, length, map, Option, Some, sym, ap, subst, arith}
use Rattle.std.proofs.Math.ListN.{length-map}
use Rattle.spv_base.specs.Cell.{Cell, undefined_cell, HasWidth}
use Rattle.spv_base.specs.declared.values.Root.{Root}
use Rattle.spv_base.specs.declared.values.Value.{Value, Scalar}
use Rattle.spv_types.specs.declared.forms.Form.TheVariants.{Vector}
use Rattle.spv_types.specs.Laws.{AreSound}
use Rattle.spv_types.specs.Rows.{leaves}
use Rattle.spv_types.specs.Shapes.{HasShape}
use Rattle.spv_types.specs.Types.{Types, form_of}
use Rattle.spv_effects.specs.LaneTypes.{HasLaneType}
use Rattle.spv_effects.specs.Lanes.{AreScalars, lane_of, of_lanes}
use Rattle.spv_effects.specs.Vectors.{component, extract_dynamic_value, insert_dynamic_value, shuffle_value, shuffled}
use Rattle.spv_effects.proofs.Exports.{leaves_of_lanes, extracted_scalars, inserted_scalars, shuffled_scalars, lanes_shape}
use Rattle.spv_results.proofs.VectorTypes.{lanes_are, vector_type}

lane_shape : (ts : Types) (roots : Root → Option ℕ) (id w : ℕ) (c : Cell) → AreSound ts → HasLaneType ts id w 1 → AreScalars w 1 (c ∷ []) → HasShape ts roots id (Scalar c)
unfolding of_lanes
lane_shape ts roots id w c sound t s = lanes_shape ts roots id w 1 (c ∷ []) sound t s

module _ (ts : Types) (roots : Root → Option ℕ) (sound : AreSound ts) where
  pub extract_dynamic_shape : (id component count : ℕ) (v index : Value) → form_of ts id ≡ Some (Vector component count) → HasShape ts roots id v → HasShape ts roots component (extract_dynamic_value v index)
  extract_dynamic_shape id component count v index e h =
      let t = vector_type ts id component count sound e in
      let s = lanes_are ts roots id t.width count v sound h t.whole in
      let some : 0 < length (leaves v) = subst (λ (n : ℕ). 0 < n) (sym s.count) t.some in
      lane_shape ts roots component t.width _ sound t.one (extracted_scalars t.width count (leaves v) (lane_of index) some s)

  one_lane : (id w : ℕ) (v : Value) → HasLaneType ts id w 1 → HasShape ts roots id v → HasWidth w (lane_of v)
  one_lane id w v t h =
      let s = lanes_are ts roots id w 1 v sound h t in
      s.fit 0 (undefined_cell 0) (subst (λ (n : ℕ). 0 < n) (sym s.count) (omega arith))

  pub insert_dynamic_shape : (id component count : ℕ) (v c index : Value) → form_of ts id ≡ Some (Vector component count) → HasShape ts roots id v → HasShape ts roots component c
      → HasShape ts roots id (insert_dynamic_value v c index)
  insert_dynamic_shape id component count v c index e h g =
      let t = vector_type ts id component count sound e in
      let s = lanes_are ts roots id t.width count v sound h t.whole in
      lanes_shape ts roots id t.width count _ sound t.whole (inserted_scalars t.width count (leaves v) (lane_of c) (lane_of index) (one_lane component t.width c t.one g) s)

  pub shuffle_shape : (id a b component m n count : ℕ) (v u : Value) (numbers : List ℕ) → form_of ts id ≡ Some (Vector component count) → form_of ts a ≡ Some (Vector component m) → form_of ts b ≡ Some (Vector component n)
      → length numbers ≡ count → HasShape ts roots a v → HasShape ts roots b u → HasShape ts roots id (shuffle_value v u numbers)
  shuffle_shape id a b component m n count v u numbers e f g long h k =
      let t = vector_type ts id component count sound e in
      let first = vector_type ts a component m sound f in
      let second = vector_type ts b component n sound g in
      let same : first.width ≡ t.width = let p = first.is in let q = t.is in cc in
      let also : second.width ≡ t.width = let p = second.is in let q = t.is in cc in
      let s = subst (λ (w : ℕ). AreScalars w m (leaves v)) same (lanes_are ts roots a first.width m v sound h first.whole) in
      let r = subst (λ (w : ℕ). AreScalars w n (leaves u)) also (lanes_are ts roots b second.width n u sound k second.whole) in
      let some : 0 < length (leaves v) = subst (λ (i : ℕ). 0 < i) (sym s.count) first.some in
      lanes_shape ts roots id t.width count _ sound t.whole (subst (λ (i : ℕ). AreScalars t.width i (map (shuffled (leaves v) (leaves u)) numbers)) long (shuffled_scalars t.width m n (leaves v) (leaves u) numbers some s r))

-- ---- how many lanes results have

pub shuffle_count : (v u : Value) (numbers : List ℕ) → length (leaves (shuffle_value v u numbers)) ≡ length numbers
shuffle_count v u numbers = ap length (leaves_of_lanes (map (shuffled (leaves v) (leaves u)) numbers)) ∙ length-map numbers (shuffled (leaves v) (leaves u))
