-- A frame stays sound where a register takes a value of its type, and where it goes on to the next executable.
use Rattle.std.proofs.Common.{◌≡◌, ◌⊎◌, ◌∙◌, inl, inr, ℕ, Some, refl, ap, subst}
use Rattle.spv_base.specs.Entries.{reads, writes}
use Rattle.spv_base.specs.declared.values.Pointer.{Pointer}
use Rattle.spv_base.specs.declared.values.Value.{Value, Ptr, out-Value}
use Rattle.spv_base.specs.declared.values.Value.TheOpen.{Value-F}
use Rattle.spv_index.specs.Definitions.{result_type}
use Rattle.spv_valid.specs.Below.spv_types.specs.Rows.{no_roots}
use Rattle.spv_valid.specs.Below.spv_types.specs.Shapes.{HasShape}
use Rattle.spv_frame.specs.Frames.{Held as Frame}
use Rattle.spv_operands.specs.Shapes.{AreShaped, target_in}
use Rattle.spv_valid.specs.Acceptance.{Accepted}
use Rattle.spv_sites.specs.Fits.{LevelFits}
use Rattle.spv_state.specs.Sound.{IsSoundFrame, StandsIn}
use Rattle.spv_state.specs.State.{with_level, with_pc, with_register}
use Rattle.spv_base.proofs.Exports.{reads_written}
use Rattle.spv_state.proofs.Exports.{keys_stay}
use Rattle.spv_valid.specs.Below.spv_types.proofs.Exports.{pointer_by}

-- ---- a register takes a value or a pointer

shaped_value : (a : Accepted) (f : Frame) (id : ℕ) (v : Value) → ((ty : ℕ) → result_type a.insts id ≡ Some ty → HasShape a.types no_roots ty v) → AreShaped a f
    → AreShaped a (record f { values = writes id (Some v) f.values })
shaped_value a f id v fits shaped = record {
  values = λ k ty w at typed. by_id k ty w typed (reads_written id k (Some v) (Some w) f.values at);
  pointers = shaped.pointers;
} where
  by_id : (k ty : ℕ) (w : Value) → result_type a.insts k ≡ Some ty → ((id ≡ k) × (Some v ≡ Some w)) ⊎ (reads k f.values ≡ Some (Some w)) → HasShape a.types no_roots ty w
  by_id k ty w typed (inl here) =
      let same : v ≡ w = let e = here.1 in cc in
      subst (HasShape a.types no_roots ty) same (fits ty (ap (result_type a.insts) here.0 ∙ typed))
  by_id k ty w typed (inr old) = shaped.values k ty w old typed

shaped_pointer : (a : Accepted) (f : Frame) (id : ℕ) (q : Pointer) → ((ty : ℕ) → result_type a.insts id ≡ Some ty → HasShape a.types (target_in a ty) ty (Ptr q)) → AreShaped a f
    → AreShaped a (record f { pointers = writes id (Some q) f.pointers })
shaped_pointer a f id q fits shaped = record {
  values = shaped.values;
  pointers = λ k ty r at typed. by_id k ty r typed (reads_written id k (Some q) (Some r) f.pointers at);
} where
  by_id : (k ty : ℕ) (r : Pointer) → result_type a.insts k ≡ Some ty → ((id ≡ k) × (Some q ≡ Some r)) ⊎ (reads k f.pointers ≡ Some (Some r)) → HasShape a.types (target_in a ty) ty (Ptr r)
  by_id k ty r typed (inl here) =
      let same : q ≡ r = let e = here.1 in cc in
      subst (λ (x : Pointer). HasShape a.types (target_in a ty) ty (Ptr x)) same (fits ty (ap (result_type a.insts) here.0 ∙ typed))
  by_id k ty r typed (inr old) = shaped.pointers k ty r old typed

abbrev pub RegisterFits : Accepted → ℕ → Value → Value-F Value → Type 0
RegisterFits a id v level = (ty : ℕ) → result_type a.insts id ≡ Some ty → LevelFits a ty v level

level_kept : (a : Accepted) (f : Frame) (id : ℕ) (v : Value) (level : Value-F Value) → out-Value v ≡ level → RegisterFits a id v level → IsSoundFrame a f → IsSoundFrame a (with_level id v level f)
level_kept a f id v (Value-F.Scalar c) e fits s = record {
  plan = s.plan;
  places = record { values = keys_stay id (Some v) f.values ∙ s.places.values; pointers = s.places.pointers };
  stands = s.stands;
  shaped = shaped_value a f id v fits s.shaped;
  captured = s.captured;
}
level_kept a f id v (Value-F.List vs) e fits s = record {
  plan = s.plan;
  places = record { values = keys_stay id (Some v) f.values ∙ s.places.values; pointers = s.places.pointers };
  stands = s.stands;
  shaped = shaped_value a f id v fits s.shaped;
  captured = s.captured;
}
level_kept a f id v (Value-F.Ptr q) e fits s = record {
  plan = s.plan;
  places = record { values = s.places.values; pointers = keys_stay id (Some q) f.pointers ∙ s.places.pointers };
  stands = s.stands;
  shaped = shaped_pointer a f id q (λ ty typed. subst (HasShape a.types (target_in a ty) ty) (pointer_by v q e) (fits ty typed)) s.shaped;
  captured = s.captured;
}

pub register_kept : (a : Accepted) (f : Frame) (id : ℕ) (v : Value) → RegisterFits a id v (out-Value v) → IsSoundFrame a f → IsSoundFrame a (with_register id v f)
register_kept a f id v fits s = level_kept a f id v (out-Value v) refl fits s

-- its function and where it stands stay
level_plan : (f : Frame) (id : ℕ) (v : Value) (level : Value-F Value) → ((with_level id v level f).plan ≡ f.plan) × ((with_level id v level f).pc ≡ f.pc)
level_plan f id v (Value-F.Scalar c) = (refl, refl)
level_plan f id v (Value-F.List vs) = (refl, refl)
level_plan f id v (Value-F.Ptr q) = (refl, refl)

pub register_stays : (f : Frame) (id : ℕ) (v : Value) → ((with_register id v f).plan ≡ f.plan) × ((with_register id v f).pc ≡ f.pc)
register_stays f id v = level_plan f id v (out-Value v)

-- ---- a frame goes on

pub moved_kept : (a : Accepted) (f : Frame) (pc : ℕ) → StandsIn a f.plan.function pc → IsSoundFrame a f → IsSoundFrame a (with_pc pc f)
moved_kept a f pc stands s = record {
  plan = s.plan;
  places = record { values = s.places.values; pointers = s.places.pointers };
  stands = stands;
  shaped = record { values = s.shaped.values; pointers = s.shaped.pointers };
  captured = s.captured;
}
