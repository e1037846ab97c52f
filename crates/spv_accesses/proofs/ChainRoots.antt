-- The pointers that access chains give name variables that are there.
use Rattle.std.proofs.Common.{◌≡◌, ℕ, ◌-◌, Bool, true, false, List, length, ok_or, Option, Some, None, Result, Ok, Err, refl, ap, subst}
use Rattle.std.specs.Option.{option_and_then}
use Rattle.std.specs.Prelude.{if◌then◌else◌}
use Rattle.spv_base.specs.Cell.{Cell}
use Rattle.spv_base.specs.declared.instructions.Inst.{Inst}
use Rattle.spv_base.specs.declared.values.Pointer.{Pointer as Reference}
use Rattle.spv_base.specs.declared.values.Value.{Value, Ptr}
use Rattle.spv_ops.specs.Steps.{◌>>=◌}
use Rattle.spv_types.specs.declared.forms.Form.TheVariants.{Pointer as PointerForm}
use Rattle.spv_types.specs.Types.{form_of}
use Rattle.spv_types.specs.declared.queries.Pointed.{Pointed}
use Rattle.spv_bodies.specs.Context.{Known, PointsTo, type_at}
use Rattle.spv_mem.specs.Memory.{Held as Memory}
use Rattle.spv_mem.specs.Chains.{all_defined, extend}
use Rattle.spv_frame.specs.Frames.{Held as Frame}
use Rattle.spv_valid.specs.Acceptance.{Accepted}
use Rattle.spv_operands.specs.Operands.{pointer_of}
use Rattle.spv_state.specs.Roots.{IsRoot}
use Rattle.spv_sites.specs.Chains.{chained_pointer, ptr_chained, with_indexes}
use Rattle.spv_sites.specs.Effects.{pointer}
use Rattle.spv_sites.specs.Fits.{ResultRooted}
use Rattle.spv_sites.specs.declared.causes.Cause.{Cause}
use Rattle.spv_sites.specs.declared.causes.Cause.TheVariants.{OutOfBounds, UndefinedIndex}
use Rattle.spv_accesses.proofs.MovedLemmas.{moved_parts}
use Rattle.spv_sites.proofs.Exports.{pointer_rooted}

-- the base has a type
pub base_typed : (k : Known) (d : Inst) (p : Pointed) → PointsTo k d 0 p → (ty : ℕ) × (type_at k d 0 ≡ Some ty)
base_typed k d p points = by_type (type_at k d 0) refl points
  where
    by_type : (o : Option ℕ) → type_at k d 0 ≡ o → option_and_then (form_of k.types) o ≡ Some (PointerForm p.class p.target) → (ty : ℕ) × (type_at k d 0 ≡ Some ty)
    by_type None e h = absurd (cc)
    by_type (Some ty) e h = (ty, e)

-- what is done to a pointer leaves its root
rooted_by : (a : Accepted) (fs : List Frame) (at : Value) (step : Reference → Result Reference Cause) (r : Reference) → ((q : Reference) → step q ≡ Ok r → q.root ≡ r.root)
    → ((q : Reference) → pointer_of at ≡ Some q → IsRoot a fs (length fs - 1) q.root) → (pointer at >>= step) ≡ Ok r → ResultRooted a fs (Some (Ptr r))
rooted_by a fs at step r keeps base h = by_place (pointer_of at) refl h
  where
    by_place : (o : Option Reference) → pointer_of at ≡ o → (ok_or o OutOfBounds >>= step) ≡ Ok r → ResultRooted a fs (Some (Ptr r))
    by_place None e g = absurd (cc)
    by_place (Some q) e g = pointer_rooted a fs r (subst (IsRoot a fs (length fs - 1)) (keeps q g) (base q e))

-- a pointer with further indexes has the root that it had
with_root : (q : Reference) (cs : List Cell) (r : Reference) → with_indexes q cs ≡ Ok r → q.root ≡ r.root
with_root q cs r h = by_defined (all_defined cs) h
  where
    by_defined : (b : Bool) → (if b then Ok (record { root = q.root; path = extend q.path cs }) else Err UndefinedIndex) ≡ Ok r → q.root ≡ r.root
    by_defined false g = absurd (cc)
    by_defined true g = let made : Reference = record { root = q.root; path = extend q.path cs } in let same : made ≡ r = cc in ap (λ (p : Reference). p.root) same

pub chain_rooted : (a : Accepted) (fs : List Frame) (at : Value) (cs : List Cell) (r : Reference) → ((q : Reference) → pointer_of at ≡ Some q → IsRoot a fs (length fs - 1) q.root) → chained_pointer at cs ≡ Ok r → ResultRooted a fs (Some (Ptr r))
chain_rooted a fs at cs r base h = rooted_by a fs at (λ (q : Reference). with_indexes q cs) r (λ q. with_root q cs r) base h

-- and so has one from another element on
pub ptr_rooted : (a : Accepted) (fs : List Frame) (m : Memory) (at : Value) (e : Cell) (cs : List Cell) (r : Reference) → ((q : Reference) → pointer_of at ≡ Some q → IsRoot a fs (length fs - 1) q.root)
    → (pointer at >>= (λ (q : Reference). ptr_chained m q e cs)) ≡ Ok r → ResultRooted a fs (Some (Ptr r))
ptr_rooted a fs m at e cs r base h =
    rooted_by a fs at (λ (q : Reference). ptr_chained m q e cs) r (λ q g. let parts = moved_parts m q e cs r g in ap (λ (p : Reference). p.root) parts.2) base h
