-- The texts of a frame's registers, one after another.
use Rattle.std.proofs.Common.{◌≡◌, ◌∙◌, ℕ, zero, suc, ◌+◌, ◌<◌, List, [], ◌∷◌, fold, take, length, Option, Some, None, refl, sym, ap, subst, arith, slice_get, add-one}
use Rattle.std.specs.List.{filter_map}
use Rattle.std.specs.Option.{option_map_or}
use Rattle.std.specs.Prelude.{IsSome, unwrap_or}
use Rattle.spv_base.specs.Entries.{reads}
use Rattle.spv_base.specs.declared.values.Pointer.{Pointer}
use Rattle.spv_base.specs.declared.values.Value.{Value, Ptr}
use Rattle.spv_frame.specs.Frames.{Held as Frame}
use Rattle.spv_ids.specs.Below.spv_operands.specs.Shapes.{target_in}
use Rattle.spv_plans.specs.Plans.{plan_of}
use Rattle.spv_plans.specs.Registered.{HasPointerType, HasValueType}
use Rattle.spv_show.specs.Rows.{IsRowOf}
use Rattle.spv_leaves.specs.Below.spv_types.specs.Cells.{cells_of}
use Rattle.spv_leaves.specs.Below.spv_types.specs.Rows.{leaves}
use Rattle.spv_leaves.specs.Below.spv_types.specs.Shapes.{HasShape}
use Rattle.spv_valid.specs.Acceptance.{Accepted}
use Rattle.spv_session.specs.Frames.{IsShown}
use Rattle.spv_ids.specs.Texts.{type_of}
use Rattle.spv_session.specs.Texts.{with_any, with_shown}

-- the text of a register
abbrev Text : Type 0
Text = List ℕ

with_one : {X : Type 0} (g : X → Option (ℕ × Text)) (x : X) (xs : List X) (held : List (ℕ × Text))
    → fold with_shown held (filter_map g (x ∷ xs)) ≡ fold with_shown (option_map_or (with_shown held) (g x) held) (filter_map g xs)
with_one {X} g x xs held = by (g x) refl
  where
    by : (o : Option (ℕ × Text)) → g x ≡ o → fold with_shown held (filter_map g (x ∷ xs)) ≡ fold with_shown (option_map_or (with_shown held) o held) (filter_map g xs)
    by None e = rw e refl
    by (Some t) e = rw e refl

with_suc : {X : Type 0} (g : X → Option (ℕ × Text)) (xs : List X) (n : ℕ) (held : List (ℕ × Text)) → n < length xs
    → with_any (fold with_shown held (filter_map g (take n xs))) g (slice_get xs n) ≡ fold with_shown held (filter_map g (take (suc n) xs))
with_suc g [] n held h = absurd (omega arith)
with_suc g (x ∷ xs) zero held h = sym (with_one g x [] held)
with_suc g (x ∷ xs) (suc n) held h =
    ap (λ (ts : List (ℕ × Text)). with_any ts g (slice_get xs n)) (with_one g x (take n xs) held)
    ∙ with_suc g xs n (option_map_or (with_shown held) (g x) held) (omega arith)
    ∙ sym (with_one g x (take (suc n) xs) held)

-- the texts of the first registers, and that of one more
pub with_next : {X : Type 0} (g : X → Option (ℕ × Text)) (xs : List X) (n : ℕ) (held : List (ℕ × Text)) → n < length xs
    → with_any (fold with_shown held (filter_map g (take n xs))) g (slice_get xs n) ≡ fold with_shown held (filter_map g (take (n + 1) xs))
with_next g xs n held h = rw add-one (with_suc g xs n held h)

-- ---- what is known of a register

-- a value of a frame that can be shown is the row of a value of its type
pub value_row : (a : Accepted) (f : Frame) (id n : ℕ) (v : Value) → IsShown a f → HasValueType a (plan_of a f.plan.function) id n
    → reads id f.values ≡ Some (Some v) → IsRowOf a.types (type_of a id) (leaves v) v
value_row a f id n v shown typed read =
    let ty : type_of a id ≡ typed.ty = ap (λ (o : Option ℕ). unwrap_or o 0) typed.is in
    let counted : IsSome (cells_of a.types typed.ty) = subst IsSome (sym typed.cells) refl in
    subst (λ (t : ℕ). IsRowOf a.types t (leaves v) v) (sym ty)
    (record { shape = shown.shaped.values id typed.ty v read typed.is; counted = counted; row = refl })

pub pointer_shape : (a : Accepted) (f : Frame) (id : ℕ) (q : Pointer) → IsShown a f → HasPointerType a id
    → reads id f.pointers ≡ Some (Some q) → HasShape a.types (target_in a (type_of a id)) (type_of a id) (Ptr q)
pointer_shape a f id q shown typed read =
    let ty : type_of a id ≡ typed.ty = ap (λ (o : Option ℕ). unwrap_or o 0) typed.is in
    subst (λ (t : ℕ). HasShape a.types (target_in a t) t (Ptr q)) (sym ty) (shown.shaped.pointers id typed.ty q read typed.is)
