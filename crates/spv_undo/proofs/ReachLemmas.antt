-- A part that a path names in a value has a type, which the path reaches from the value's type.
use Rattle.std.proofs.Common.{◌≡◌, ℕ, zero, suc, List, [], ◌∷◌, Option, Some, option_map, slice_get, refl}
use Rattle.std.specs.List.{AllZip}
use Rattle.spv_base.specs.Parts.{part_at}
use Rattle.spv_base.specs.declared.values.Root.{Root}
use Rattle.spv_base.specs.declared.values.Value.{Value, out-Value}
use Rattle.spv_base.specs.declared.values.Value.TheOpen.{Value-F}
use Rattle.spv_types.specs.Laws.{AreSound}
use Rattle.spv_types.specs.Shapes.{HasShape, part_type, reached_type, shape_step}
use Rattle.spv_types.specs.Types.{Types}
use Rattle.spv_types.specs.declared.forms.Form.{Form}
use Rattle.spv_types.specs.declared.forms.Form.TheVariants.{Void, Bool as Boolean, Int, Vector, Array, Runtime, Struct, Pointer as PointerTo, Function}
use Rattle.spv_types.specs.declared.forms.Member.{Member}
use Rattle.spv_types.proofs.Exports.{has_part, shape_formed, shapes_are_by_forms, shapes_keep}

member_type : (shape : ℕ → Value → Type 0) (ms : List Member) (vs : List Value) (k : ℕ) (u : Value) → AllZip (λ (m : Member). shape m.ty) ms vs → slice_get vs k ≡ Some u
    → (t : ℕ) × (option_map (λ (m : Member). m.ty) (slice_get ms k) ≡ Some t)
member_type shape [] [] k u all at = absurd cc
member_type shape [] (v ∷ vs) k u all at = absurd all
member_type shape (m ∷ ms) [] k u all at = absurd all
member_type shape (m ∷ ms) (v ∷ vs) zero u all at = (m.ty, refl)
member_type shape (m ∷ ms) (v ∷ vs) (suc k) u all at = member_type shape ms vs k u all.1 at

part_typed : (ts : Types) (roots : Root → Option ℕ) (shape : ℕ → Value → Type 0) (f : Form) (v : Value) (vs : List Value) (k : ℕ) (u : Value) → shape_step ts roots shape f v → out-Value v ≡ Value-F.List vs
    → slice_get vs k ≡ Some u → (t : ℕ) × (part_type f k ≡ Some t)
part_typed ts roots shape Void v vs k u s is at = absurd s
part_typed ts roots shape Boolean v vs k u s is at = absurd (rw is at s)
part_typed ts roots shape (Int width sign) v vs k u s is at = absurd (rw is at s)
part_typed ts roots shape (Vector component count) v vs k u s is at = (component, refl)
part_typed ts roots shape (Array element n stride) v vs k u s is at = (element, refl)
part_typed ts roots shape (Runtime element stride) v vs k u s is at = (element, refl)
part_typed ts roots shape (Struct members block) v vs k u s is at = let all = rw is at s in member_type shape members vs k u all at
part_typed ts roots shape (PointerTo class target) v vs k u s is at = absurd (rw is at s)
part_typed ts roots shape (Function returns parameters) v vs k u s is at = absurd s

pub reached : (ts : Types) (roots : Root → Option ℕ) → AreSound ts → (path : List ℕ) (id : ℕ) (v w : Value) → HasShape ts roots id v → part_at v path ≡ Some w → (t : ℕ) × (reached_type ts id path ≡ Some t)
unfolding reached_type
reached ts roots sound [] id v w h is = (id, refl)
reached ts roots sound (k ∷ path) id v w h is =
    let p = has_part v k path w is in
    let f = shape_formed ts roots id v h in
    let t = part_typed ts roots (HasShape ts roots) f.0 v p.values k p.part ((shapes_are_by_forms ts roots sound id f.0 v f.1).0 h) p.is p.at in
    let first : reached_type ts id (k ∷ []) ≡ Some t.0 = rw (f.1, t.1) refl in
    let here : part_at v (k ∷ []) ≡ Some p.part = rw (p.is, p.at) refl in
    let rest = reached ts roots sound path t.0 p.part w (shapes_keep ts roots sound (k ∷ []) id t.0 v p.part p.part h first here).0 p.rest in
    (rest.0, rw (f.1, t.1) rest.1)
