-- The pointers that an instruction gives, or passes on to a function, name variables that are there.
use Rattle.std.proofs.Common.{◌≡◌, ◌⊎◌, ◌∙◌, inl, inr, ℕ, ◌-◌, List, [], length, Option, Some, None, refl, sym, ap, subst}
use Rattle.std.proofs.Math.Logic.{∥∥₁_elim}
use Rattle.std.specs.Option.{option_and_then}
use Rattle.spv_base.specs.Entries.{reads}
use Rattle.spv_base.specs.declared.instructions.Inst.{Inst}
use Rattle.spv_base.specs.declared.values.Pointer.{Pointer as Reference}
use Rattle.spv_base.specs.declared.values.Root.{Root}
use Rattle.spv_base.specs.declared.values.Value.{Value, Ptr, out-Value}
use Rattle.spv_base.specs.declared.values.Value.TheOpen.{Value-F}
use Rattle.spv_base.specs.Variables.{root_id}
use Rattle.spv_index.specs.Definitions.{result_type}
use Rattle.spv_index.specs.Operands.{id_operand}
use Rattle.spv_valid.specs.Below.spv_types.specs.declared.forms.Form.TheVariants.{Pointer as Pointing}
use Rattle.spv_valid.specs.Below.spv_types.specs.declared.queries.Pointed.{Pointed}
use Rattle.spv_valid.specs.Below.spv_types.specs.Laws.{AreSound}
use Rattle.spv_valid.specs.Below.spv_types.specs.Queries.{pointee}
use Rattle.spv_valid.specs.Below.spv_types.specs.Shapes.{HasShape, LeadsTo, pointer_in, reached_type}
use Rattle.spv_valid.specs.Below.spv_types.specs.Types.{form_of}
use Rattle.spv_valid.specs.Below.spv_bodies.specs.Context.{type_at, type_of}
use Rattle.spv_frame.specs.Frames.{Held as Frame}
use Rattle.spv_valid.specs.Acceptance.{Accepted, IsAccepted}
use Rattle.spv_valid.specs.Validity.{IsValid}
use Rattle.spv_operands.specs.Operands.{pointer_of}
use Rattle.spv_operands.specs.Shapes.{target_in}
use Rattle.spv_operands.specs.Values.{storage_class, value_of}
use Rattle.spv_operands.proofs.Exports.{IsTarget, target_parts}
use Rattle.spv_state.specs.Below.spv_results.specs.Operands.{IsResult, known}
use Rattle.spv_state.specs.Roots.{IsRoot, IsRooted}
use Rattle.spv_state.specs.State.{depth_of, frames_of, with_level, with_register}
use Rattle.spv_base.proofs.Exports.{reads_written}
use Rattle.spv_state.proofs.Exports.{buffer_root, operand_root, pointer_own, frame_rooted, root_prop}
use Rattle.spv_sites.specs.Fits.{ResultRooted}
use Rattle.spv_sites.specs.Planned.{gained}
use Rattle.spv_sites.specs.Sites.{IsGain, IsSite, Site, accepted, value_with, values}
use Rattle.spv_sites.specs.declared.effects.Gain.{Gain}
use Rattle.spv_sites.specs.declared.effects.Gain.TheVariants.{Nothing, Row, Pointer, Handed}
use Rattle.spv_sites.proofs.EffectLemmas.{result_plain}
use Rattle.spv_sites.proofs.PointerLemmas.{Leads, pointed}
use Rattle.spv_sites.proofs.SiteLemmas.{frame_sound}

-- ---- operands

-- a variable that is there for the top frame
abbrev pub IsOwnRoot : Site → Root → Type 0
IsOwnRoot x r = IsRoot (accepted x) (frames_of x.state x.inv) (depth_of x.state x.inv) r

module _ (x : Site) where
  root_by : IsAccepted (accepted x) → IsValid (accepted x) → IsSite x → (id ty : ℕ) (v : Value) (q : Reference) → value_with x id ≡ Some v → result_type (accepted x).insts id ≡ Some ty → pointer_of v ≡ Some q → IsOwnRoot x q.root
  root_by accepts valid is id ty v q value type lent =
      let rooted = frame_rooted x.program x.state is.sound x.inv (depth_of x.state x.inv) x.frame is.top in
      operand_root (accepted x) accepts valid (frames_of x.state x.inv) (depth_of x.state x.inv) id x.frame is.top rooted (frame_sound x is).shaped ty type v q value lent

  -- the variable that a pointer names which an id stands for
  pub id_root : (id ty : ℕ) (v : Value) (q : Reference) (m : Accepted) → m ≡ accepted x → ∥ IsAccepted m ∥₁ → ∥ IsValid m ∥₁ → ∥ IsSite x ∥₁ → value_with x id ≡ Some v → result_type (accepted x).insts id ≡ Some ty
      → pointer_of v ≡ Some q → IsOwnRoot x q.root
  id_root id ty v q m same accepts valid site value type lent =
      let prop = root_prop (accepted x) (frames_of x.state x.inv) (depth_of x.state x.inv) q.root in
      ∥∥₁_elim (subst (λ (a : Accepted). ∥ IsAccepted a ∥₁) same accepts) prop (λ (h : IsAccepted (accepted x)).
      ∥∥₁_elim (subst (λ (a : Accepted). ∥ IsValid a ∥₁) same valid) prop (λ (k : IsValid (accepted x)).
      ∥∥₁_elim site prop (λ (is : IsSite x). root_by h k is id ty v q value type lent)))

  -- and that of one which an operand is
  pub site_root : (n ty : ℕ) (v : Value) (q : Reference) (m : Accepted) → m ≡ accepted x → ∥ IsAccepted m ∥₁ → ∥ IsValid m ∥₁ → ∥ IsSite x ∥₁ → values x n ≡ Some v → type_at (known (accepted x)) x.inst n ≡ Some ty
      → pointer_of v ≡ Some q → IsOwnRoot x q.root
  site_root n ty v q m same accepts valid site value type lent = by_id (id_operand x.inst n) value type
    where
      by_id : (o : Option ℕ) → option_and_then (value_of (accepted x) x.frame (depth_of x.state x.inv)) o ≡ Some v → option_and_then (type_of (known (accepted x))) o ≡ Some ty → IsOwnRoot x q.root
      by_id None e t = absurd (cc)
      by_id (Some id) e t = id_root id ty v q m same accepts valid site e t lent

-- a pointer into a storage buffer, of the class 12, names a variable outside functions
pub given_root : (a : Accepted) → ∥ IsAccepted a ∥₁ → ∥ IsValid a ∥₁ → (fs : List Frame) (depth ty target : ℕ) (q : Reference) → form_of a.types ty ≡ Some (Pointing 12 target) → HasShape a.types (target_in a ty) ty (Ptr q) → IsRoot a fs depth q.root
    → IsRoot a [] 0 q.root
given_root a accepts valid fs depth ty target q is shape root =
    let prop = root_prop a [] 0 q.root in
    ∥∥₁_elim accepts prop (λ (h : IsAccepted a). ∥∥₁_elim valid prop (λ (k : IsValid a). buffer_root a h k fs depth q.root root (in_buffer k)))
  where
    in_buffer : IsValid a → storage_class a.insts (root_id q.root) ≡ Some 12
    in_buffer k =
        let leads : Leads a.types (target_in a ty) target (Ptr q) = pointed a.types (target_in a ty) ty 12 target (Ptr q) k.types is shape in
        let same : leads.place ≡ q = sym (pointer_own q leads.place leads.is) in
        by_target (target_in a ty q.root) refl (subst (λ (p : Reference). LeadsTo a.types (target_in a ty) p target) same leads.leads)
      where
        by_target : (o : Option ℕ) → target_in a ty q.root ≡ o → option_and_then (λ (t : ℕ). reached_type a.types t q.path) o ≡ Some target → storage_class a.insts (root_id q.root) ≡ Some 12
        by_target None e h = absurd (cc)
        by_target (Some t) e h =
            let found : IsTarget a ty q.root t = target_parts a ty q.root t e in
            let type : pointee (form_of a.types ty) ≡ Some (record { class = 12; target = target }) = ap pointee is in
            let class : found.pointed.class ≡ 12 = let one : Some found.pointed ≡ Some (record { class = 12; target = target }) = sym found.type ∙ type in let two : found.pointed ≡ record { class = 12; target = target } = cc in ap (λ (p : Pointed). p.class) two in
            found.class ∙ ap (λ (n : ℕ). Some n) class

-- ---- results

pub plain_rooted : (a : Accepted) (fs : List Frame) (v : Value) → pointer_in (out-Value v) ≡ None → ResultRooted a fs (Some v)
plain_rooted a fs v plain q is = absurd (cc)

pub result_rooted : (a : Accepted) (fs : List Frame) (d : Inst) (v : Value) → AreSound a.types → IsResult a d v → ResultRooted a fs (Some v)
result_rooted a fs d v sound h = plain_rooted a fs v (result_plain a d v sound h)

pub pointer_rooted : (a : Accepted) (fs : List Frame) (r : Reference) → IsRoot a fs (length fs - 1) r.root → ResultRooted a fs (Some (Ptr r))
pointer_rooted a fs r h q is = subst (λ (p : Reference). IsRoot a fs (length fs - 1) p.root) (pointer_own r q is) h

pub gain_rooted : (x : Site) (gain : Gain) (v : Value) → AreSound (accepted x).types → IsGain x gain v → ResultRooted (accepted x) (frames_of x.state x.inv) (gained gain v)
gain_rooted x Nothing v sound h = absurd h
gain_rooted x Row v sound h = result_rooted (accepted x) (frames_of x.state x.inv) x.inst v sound h
gain_rooted x (Pointer b) v sound h = pointer_rooted (accepted x) (frames_of x.state x.inv) b.value h.1
gain_rooted x (Handed c) v sound h = absurd h

-- ---- registers

pub register_rooted : (a : Accepted) (fs : List Frame) (depth : ℕ) (f : Frame) (id : ℕ) (v : Value) → ((q : Reference) → pointer_in (out-Value v) ≡ Some q → IsRoot a fs depth q.root) → IsRooted a fs depth f
    → IsRooted a fs depth (with_register id v f)
register_rooted a fs depth f id v own rooted = by_level (out-Value v) own
  where
    by_level : (level : Value-F Value) → ((q : Reference) → pointer_in level ≡ Some q → IsRoot a fs depth q.root) → IsRooted a fs depth (with_level id v level f)
    by_level (Value-F.Scalar c) root = record { registers = rooted.registers; events = rooted.events }
    by_level (Value-F.List vs) root = record { registers = rooted.registers; events = rooted.events }
    by_level (Value-F.Ptr p) root = record { registers = λ k q at. by_id k q (reads_written id k (Some p) (Some q) f.pointers at); events = rooted.events }
      where
        by_id : (k : ℕ) (q : Reference) → ((id ≡ k) × (Some p ≡ Some q)) ⊎ (reads k f.pointers ≡ Some (Some q)) → IsRoot a fs depth q.root
        by_id k q (inl here) = root q here.1
        by_id k q (inr there) = rooted.registers k q there
