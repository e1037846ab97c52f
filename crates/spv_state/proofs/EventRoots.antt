-- The pointers that debug events capture name variables that are there.
use Rattle.std.proofs.Common.{◌≡◌, ◌∙◌, ℕ, ◌-◌, ◌==◌, false, List, [], ◌∷◌, ◌++◌, length, map, Option, Some, None, slice_get, slice_index_or, refl, sym, ap, subst, arith}
use Rattle.std.proofs.Math.Logic.{∥∥₁_elim}
use Rattle.std.proofs.lemmas.Bool.{ne_eqb}
use Rattle.std.proofs.lemmas.List.Elements.{All-append, All-map}
use Rattle.std.proofs.lemmas.Option.{slice_get-map}
use Rattle.std.specs.Prelude.{find}
use Rattle.std.specs.Option.{is_some, option_and_then, option_map}
use Rattle.spv_base.specs.Entries.{reads}
use Rattle.spv_base.specs.declared.instructions.Inst.{Inst}
use Rattle.spv_base.specs.declared.values.Value.{Value}
use Rattle.spv_index.specs.Definitions.{defining, has_result, result_type, type_in}
use Rattle.spv_index.specs.Positions.{Stand, stand_of}
use Rattle.spv_valid.specs.Acceptance.{Accepted, IsAccepted}
use Rattle.spv_valid.specs.Meanings.{meaning_at, meaning_of}
use Rattle.spv_valid.specs.Validity.{IsValid}
use Rattle.spv_valid.specs.declared.meanings.Meaning.{Meaning}
use Rattle.spv_valid.specs.declared.meanings.Meaning.TheVariants.{Register}
use Rattle.spv_frame.specs.Frames.{Held as Frame}
use Rattle.spv_frame.specs.Registers.{Planned, ids}
use Rattle.spv_plans.specs.Plans.{plan_of}
use Rattle.spv_plans.specs.Registers.{has_cells}
use Rattle.spv_plans.proofs.Exports.{Comes, Placed, place, value_comes, result_typed}
use Rattle.spv_operands.specs.Operands.{pointer_of}
use Rattle.spv_operands.specs.Values.{value_of}
use Rattle.spv_operands.proofs.Exports.{stand_defines, data_plain}
use Rattle.spv_state.specs.Events.{captured, captures_before, due, passed}
use Rattle.spv_state.specs.Roots.{CapturesRoot, IsRoot, IsRooted}
use Rattle.spv_state.specs.Sound.{IsSoundFrame}
use Rattle.spv_state.specs.declared.captures.Capture.{Capture}
use Rattle.spv_base.proofs.Exports.{entry_at}
use Rattle.spv_state.proofs.AcceptedLemmas.{found_once}
use Rattle.spv_state.proofs.OperandRoots.{HasFrame, value_root}
use Rattle.spv_state.proofs.RootLemmas.{ids_last, root_prop, rooted_more}
use Rattle.spv_state.proofs.Stands.{stand_inst}
use Rattle.spv_valid.specs.Below.spv_consts.proofs.Exports.{found_of_defining}

-- ---- the register of a value holds no pointer

-- an entry has a number
read_number : {X : Type 0} (id : ℕ) (es : List (ℕ × X)) (x : X) → reads id es ≡ Some x → (n : ℕ) × (slice_get (map (λ (e : ℕ × X). e.0) es) n ≡ Some id)
read_number {X} id es x h =
    let there = entry_at id x es h in
    (there.0, slice_get-map (λ (e : ℕ × X). e.0) es there.0 ∙ ap (option_map (λ (e : ℕ × X). e.0)) there.1)

-- an id that stands for something is defined
meant_defined : (insts : List Inst) (id : ℕ) (m : Meaning) → meaning_of insts id ≡ Some m → (i : Inst) × (defining insts id ≡ Some i)
meant_defined insts id m meant = by_stand (stand_of insts id) (stand_defines insts id) meant
  where
    by_stand : (o : Option Stand) → option_map (λ (s : Stand). s.inst) o ≡ defining insts id → option_map meaning_at o ≡ Some m → (i : Inst) × (defining insts id ≡ Some i)
    by_stand None e h = absurd (cc)
    by_stand (Some s) e h = (s.inst, sym e)

-- by the instruction that the register comes from, which has a type
register_typed : (a : Accepted) → IsValid a → (function n id : ℕ) (i : Inst) → slice_get (ids (plan_of a function).values) n ≡ Some id → defining a.insts id ≡ Some i → result_type a.insts id ≡ Some i.ty
register_typed a valid function n id i at defined =
    let c : Comes a (has_cells a.types) function id = (value_comes a function n id at).comes in
    let own : Placed a function id c.stand = place a (has_cells a.types) function id c in
    let there = stand_inst a.insts own.number c.stand own.at in
    let found = subst (λ (k : ℕ). find (has_result k) a.insts ≡ Some i) (sym c.is) (found_of_defining a.insts id i defined) in
    let same : i ≡ c.stand.inst = found_once a.insts own.number c.stand.inst i valid.named.distinct there own.named found in
    let typed : (i.ty == 0) ≡ false = ne_eqb i.ty 0 (λ none. result_typed a.types c.stand.inst c.register (ap (λ (x : Inst). x.ty) (sym same) ∙ none)) in
    let type : type_in i ≡ Some i.ty = rw typed refl in
    ap (option_and_then type_in) defined ∙ type

register_plain : (a : Accepted) → IsValid a → (f : Frame) → IsSoundFrame a f → (id : ℕ) (m : Meaning) (v : Value) → meaning_of a.insts id ≡ Some m → reads id f.values ≡ Some (Some v) → is_some (pointer_of v) ≡ false
register_plain a valid f sound id m v meant read =
    let number = read_number id f.values (Some v) read in
    let at : slice_get (ids (plan_of a f.plan.function).values) number.0 ≡ Some id
    = subst (λ (p : Planned). slice_get (ids p.values) number.0 ≡ Some id) sound.plan (subst (λ (ks : List ℕ). slice_get ks number.0 ≡ Some id) sound.places.values number.1) in
    let defined = meant_defined a.insts id m meant in
    let type = register_typed a valid f.plan.function number.0 id defined.0 at defined.1 in
    data_plain a.types valid.types defined.0.ty v (sound.shaped.values id defined.0.ty v read type)

-- ---- so what is captured is the pointer of an operand

module _ (a : Accepted) (accepted : ∥ IsAccepted a ∥₁) (valid : ∥ IsValid a ∥₁) where
  module _ (fs : List Frame) (depth : ℕ) (f : Frame) (here : HasFrame a fs depth f) (sound : IsSoundFrame a f) (rooted : IsRooted a fs depth f) where
    captured_root : (c : Capture) → CapturesRoot a fs depth (captured a f depth c)
    captured_root c q is = by_id c.id is
      where
        by_value : (id : ℕ) (o : Option Value) → value_of a f depth id ≡ o → option_and_then pointer_of o ≡ Some q → IsRoot a fs depth q.root
        by_value id None e h = absurd (cc)
        by_value id (Some v) e h =
            let prop = root_prop a fs depth q.root in
            ∥∥₁_elim accepted prop (λ (accepts : IsAccepted a). ∥∥₁_elim valid prop (λ (kept : IsValid a).
            value_root a accepts kept fs depth id f here rooted v (λ function meant read. register_plain a kept f sound id (Register function) v meant read) q e h))

        by_id : (o : Option ℕ) → option_and_then pointer_of (option_and_then (value_of a f depth) o) ≡ Some q → IsRoot a fs depth q.root
        by_id None h = absurd (cc)
        by_id (Some id) h = by_value id (value_of a f depth id) refl h

    -- a frame that passes debug events
    pub passed_rooted : IsRooted a fs depth (passed a depth f)
    passed_rooted =
        let cs : List Capture = captures_before a f.pc in
        let own = All-map (CapturesRoot a fs depth) (captured a f depth) cs (λ k c lt. captured_root (slice_index_or cs k c)) in
        record { registers = rooted.registers; events = All-append (CapturesRoot a fs depth) f.events (due a depth f) rooted.events own }

  -- and one above others, which began with what was there for the top one
  pub above_rooted : (fs : List Frame) (f : Frame) → IsSoundFrame a f → IsRooted a fs (length fs - 1) f → IsRooted a (fs ++ passed a (length fs) f ∷ []) (length fs) (passed a (length fs) f)
  above_rooted fs f sound rooted =
      let g : Frame = passed a (length fs) f in
      passed_rooted (fs ++ g ∷ []) (length fs) f (ids_last a fs g) sound (rooted_more a fs (g ∷ []) (length fs - 1) (length fs) f (omega arith) rooted)
