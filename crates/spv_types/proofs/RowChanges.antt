-- A part that was put is there, the last one put stays, and the old one put back gives the old value.
use Rattle.std.specs.List.{flat_map}
use Rattle.std.proofs.Common.{◌≡◌, ◌∙◌, ℕ, zero, suc, List, [], ◌∷◌, Some, length, refl, sym, ap, set-set, slice_get, slice_set, take, drop}
use Rattle.spv_base.specs.Parts.{part_at, with_part}
use Rattle.spv_base.specs.declared.values.Value.{Value, List as Many}
use Rattle.spv_base.proofs.Exports.{out_many, set_same, slice_get-set_same}
use Rattle.spv_types.specs.Rows.{HasRow, leaves, Lies}
use Rattle.spv_types.proofs.RowLemmas.{leaves_many, many_by, row_changed, row_split}
use Rattle.spv_types.proofs.RowPlaces.{changed, has_part}

pub put_is_there : (path : List ℕ) (v w u : Value) → part_at v path ≡ Some w → part_at (with_part v path u) path ≡ Some u
put_is_there [] v w u h = refl
put_is_there (i ∷ path) v w u h =
    let p = has_part v i path w h in
    let x : Value = with_part p.part path u in
    rw (changed v i path p.values p.part u p.is p.at, out_many (slice_set p.values i x), slice_get-set_same p.values i p.part x p.at) (put_is_there path p.part w u p.rest)

pub put_twice : (path : List ℕ) (v w u x : Value) → part_at v path ≡ Some w → with_part (with_part v path u) path x ≡ with_part v path x
put_twice [] v w u x h = refl
put_twice (i ∷ path) v w u x h =
    let p = has_part v i path w h in
    let y : Value = with_part p.part path u in
    let vs : List Value = slice_set p.values i y in
    ap (λ (t : Value). with_part t (i ∷ path) x) (changed v i path p.values p.part u p.is p.at)
    ∙ changed (Many vs) i path vs y x (out_many vs) (slice_get-set_same p.values i p.part y p.at)
    ∙ ap (λ (t : Value). Many (slice_set vs i t)) (put_twice path p.part w u x p.rest)
    ∙ ap Many (set-set p.values i y (with_part p.part path x))
    ∙ sym (changed v i path p.values p.part x p.is p.at)

pub put_back : (path : List ℕ) (v w : Value) → part_at v path ≡ Some w → with_part v path w ≡ v
put_back [] v w h = cc
put_back (i ∷ path) v w h =
    let p = has_part v i path w h in
    changed v i path p.values p.part w p.is p.at
    ∙ ap (λ (t : Value). Many (slice_set p.values i t)) (put_back path p.part w p.rest)
    ∙ ap Many (set_same p.values i p.part p.at)
    ∙ sym (many_by v p.values p.is)

-- the row of what was put lies where the row of the part lay
pub put_has_row : (path : List ℕ) (v w u : Value) (n : ℕ) → part_at v path ≡ Some w → Lies v path w n → HasRow (with_part v path u) path n (length (leaves u))
put_has_row path v w u n h l = record {
  part = u;
  is = put_is_there path v w u h;
  lies = record { before = l.before; after = l.after; begins = l.begins; row = l.written u; written = λ x. ap leaves (put_twice path v w u x h) ∙ l.written x };
  long = refl;
}

-- ---- values of a list, as registers lie in the row of a frame

pub slot_has_row : (vs : List Value) (k : ℕ) (u : Value) → slice_get vs k ≡ Some u → HasRow (Many vs) (k ∷ []) (length (flat_map leaves (take k vs))) (length (leaves u))
slot_has_row vs k u h = record {
  part = u;
  is = rw (out_many vs, h) refl;
  lies = record {
    before = flat_map leaves (take k vs);
    after = flat_map leaves (drop (suc k) vs);
    begins = refl;
    row = leaves_many vs ∙ row_split vs k u h;
    written = λ x. ap leaves (changed (Many vs) k [] vs u x (out_many vs) h) ∙ leaves_many (slice_set vs k x) ∙ row_changed vs k u x h;
  };
  long = refl;
}
