-- The refusals of what a module declares, one instruction after another.
use Rattle.std.proofs.Common.{◌≡◌, ◌∙◌, ℕ, ◌+◌, ◌<◌, ◌≤◌, Bool, true, false, List, ◌++◌, length, get_or, drop, drop-cons, drop_of_length-le, add-one, Ok, Err, refl}
use Rattle.std.specs.List.{flat_map}
use Rattle.spv_base.specs.declared.instructions.Inst.{Inst}
use Rattle.spv_base.specs.declared.causes.Refusal.{Refusal}
use Rattle.spv_types.specs.InterfaceBlocks.{nothing}
use Rattle.spv_sections.specs.Capabilities.{capabilities_of, capability_breach, capability_code, declares_variable_pointers, is_here}

-- the refusals of some instructions of a module that declares variable pointers or doesn't
abbrev pub breaches_in : Bool → List Inst → List Refusal
breaches_in pointers insts = flat_map (capability_breach pointers) insts

breach_at : (pointers : Bool) (insts : List Inst) (n : ℕ) (inst : Inst) → n < length insts → inst ≡ get_or insts n inst
    → breaches_in pointers (drop n insts) ≡ capability_breach pointers inst ++ breaches_in pointers (drop (n + 1) insts)
breach_at pointers insts n inst l e = rw (drop-cons insts n inst l, ← e, add-one) refl

-- none of the instructions before number n is refused
abbrev pub AreHere : Bool → List Inst → ℕ → Type 0
AreHere pointers insts n = breaches_in pointers insts ≡ breaches_in pointers (drop n insts)

pub capability_refused : (pointers : Bool) (insts : List Inst) (n : ℕ) (inst : Inst) → pointers ≡ declares_variable_pointers insts
    → n < length insts → inst ≡ get_or insts n inst → false ≡ is_here pointers inst
    → AreHere pointers insts n → Err (record { code = capability_code; word = inst.word }) ≡ capabilities_of insts
unfolding capabilities_of
capability_refused pointers insts n inst p l e t h = rw (← p, h, breach_at pointers insts n inst l e, ← t) refl

pub capability_kept : (pointers : Bool) (insts : List Inst) (n : ℕ) (inst : Inst) → n < length insts → inst ≡ get_or insts n inst → true ≡ is_here pointers inst
    → AreHere pointers insts n → AreHere pointers insts (n + 1)
capability_kept pointers insts n inst l e t h = h ∙ breach_at pointers insts n inst l e ∙ rw (← t) refl

pub capability_done : (pointers : Bool) (insts : List Inst) (n : ℕ) → pointers ≡ declares_variable_pointers insts
    → length insts ≤ n → AreHere pointers insts n → Ok nothing ≡ capabilities_of insts
unfolding capabilities_of
capability_done pointers insts n p l h = rw (← p, h, drop_of_length-le insts l) refl
