-- The text of a value that is a pointer is that of the pointer.
use Rattle.std.proofs.Common.{◌≡◌, ℕ, zero, suc, Bool, true, false, List, length, Option, Some, None, refl, subst}
use Rattle.spv_base.proofs.Exports.{out_pointer}
use Rattle.std.specs.Bool.{MatchBool}
use Rattle.std.specs.Option.{IsSomeAnd, MatchOption, option_map_or}
use Rattle.std.specs.Prelude.{if◌then◌else◌}
use Rattle.spv_base.specs.Cell.{Cell}
use Rattle.spv_base.specs.Parts.{parts_in}
use Rattle.spv_base.specs.declared.values.Pointer.{Pointer as Reference}
use Rattle.spv_base.specs.declared.values.Root.{Root}
use Rattle.spv_base.specs.declared.values.Value.{Value, Ptr, out-Value}
use Rattle.spv_base.specs.declared.values.Value.TheOpen.{Value-F}
use Rattle.spv_base.specs.Options.{holds}
use Rattle.spv_types.specs.declared.forms.Form.{Form}
use Rattle.spv_types.specs.declared.forms.Form.TheVariants.{Void, Bool as Boolean, Int, Vector, Array, Runtime, Struct, Pointer, Function}
use Rattle.spv_types.specs.Types.{Types, form_of, in_first, number_of}
use Rattle.spv_types.specs.Shapes.{HasShape, HasShapeAmong, scalar_in, shape_step}
use Rattle.spv_show.specs.Pointers.{pointer_text}
use Rattle.spv_show.specs.Texts.{Text, no_text, text_among, text_step, value_text}

no_scalar : (P : Cell → Type 0) (v : Value) (p : Reference) → out-Value v ≡ Value-F.Ptr p → IsSomeAnd (scalar_in (out-Value v)) P → ⊥
no_scalar P v p e h = subst (λ (l : Value-F Value). IsSomeAnd (scalar_in l) P) e h

no_list : (P : List Value → Type 0) (v : Value) (p : Reference) → out-Value v ≡ Value-F.Ptr p → IsSomeAnd (parts_in (out-Value v)) P → ⊥
no_list P v p e h = subst (λ (l : Value-F Value). IsSomeAnd (parts_in l) P) e h

step_shown : (ts : Types) (roots : Root → Option ℕ) (shape : ℕ → Value → Type 0) (text : ℕ → Text) (f : Form) (v : Value) (p : Reference) (left : ℕ) → out-Value v ≡ Value-F.Ptr p
    → shape_step ts roots shape f v → (text_step text f v left).text ≡ pointer_text p
step_shown ts roots shape text Void v p left e h = absurd h
step_shown ts roots shape text Boolean v p left e h = absurd (no_scalar _ v p e h)
step_shown ts roots shape text (Int width sign) v p left e h = absurd (no_scalar _ v p e h)
step_shown ts roots shape text (Vector component count) v p left e h = absurd (no_list _ v p e h)
step_shown ts roots shape text (Array element n stride) v p left e h = absurd (no_list _ v p e h)
step_shown ts roots shape text (Runtime element stride) v p left e h = absurd (no_list _ v p e h)
step_shown ts roots shape text (Struct members block) v p left e h = absurd (no_list _ v p e h)
step_shown ts roots shape text (Pointer class target) v p left e h = rw e refl
step_shown ts roots shape text (Function returns parameters) v p left e h = absurd h

formed_shown : (ts : Types) (roots : Root → Option ℕ) (shape : ℕ → Value → Type 0) (text : ℕ → Text) (o : Option Form) (v : Value) (p : Reference) (left : ℕ) → out-Value v ≡ Value-F.Ptr p
    → MatchOption o ⊥ (λ f. shape_step ts roots shape f v) → (option_map_or {U = Text} (text_step text) o no_text v left).text ≡ pointer_text p
formed_shown ts roots shape text None v p left e h = absurd h
formed_shown ts roots shape text (Some f) v p left e h = step_shown ts roots shape text f v p left e h

among_shown : (ts : Types) (roots : Root → Option ℕ) (m id : ℕ) (v : Value) (p : Reference) (left : ℕ) → out-Value v ≡ Value-F.Ptr p → HasShapeAmong ts roots m id v → (text_among ts m id v left).text ≡ pointer_text p
unfolding HasShapeAmong in_first text_among
among_shown ts roots zero id v p left e h = absurd h
among_shown ts roots (suc m) id v p left e h = here (λ k. among_shown ts roots m id v p left e k) (holds m (number_of ts id)) h
  where
    here : (HasShapeAmong ts roots m id v → (text_among ts m id v left).text ≡ pointer_text p) → (b : Bool)
        → MatchBool b (MatchOption (form_of ts id) ⊥ (λ f. shape_step ts roots (HasShapeAmong ts roots m) f v)) (HasShapeAmong ts roots m id v)
        → ((if b then option_map_or {U = Text} (text_step (text_among ts m)) (form_of ts id) no_text else text_among ts m id) v left).text ≡ pointer_text p
    here below true h = formed_shown ts roots (HasShapeAmong ts roots m) (text_among ts m) (form_of ts id) v p left e h
    here below false h = below h

pub pointer_is : (ts : Types) (roots : Root → Option ℕ) (id : ℕ) (p : Reference) → HasShape ts roots id (Ptr p) → value_text ts id (Ptr p) ≡ pointer_text p
unfolding HasShape value_text
pointer_is ts roots id p h = among_shown ts roots (length ts) id (Ptr p) p 256 (out_pointer p) h
