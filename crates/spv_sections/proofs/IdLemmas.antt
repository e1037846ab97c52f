-- The refusals of ids, one operand and one instruction after another.
use Rattle.std.proofs.Common.{◌≡◌, ◌∙◌, ℕ, ◌+◌, ◌<◌, ◌≤◌, true, false, ◌&&◌, List, [], ◌∷◌, ◌++◌, length, get_or, drop, drop-cons, drop_of_length-le, add-one, Ok, Err, refl, sym, ap, arith}
use Rattle.std.specs.List.{flat_map}
use Rattle.spv_base.specs.declared.causes.Refusal.{Refusal}
use Rattle.spv_base.specs.declared.instructions.Operand.{Operand}
use Rattle.spv_base.specs.declared.instructions.Operand.TheVariants.{Id, Lit, Text}
use Rattle.spv_ops.specs.Module.{Decoded}
use Rattle.spv_index.specs.Positions.{Stand}
use Rattle.spv_types.specs.Build.{unless_refused}
use Rattle.spv_types.specs.InterfaceBlocks.{nothing}
use Rattle.spv_sections.specs.declared.ids.Scope.{Scope}
use Rattle.spv_sections.specs.declared.kinds.Uses.{Uses}
use Rattle.spv_sections.specs.declared.kinds.Wanted.{Wanted}
use Rattle.spv_sections.specs.Kinds.{wanted}
use Rattle.spv_sections.specs.Ids.{breaches_at, breaches_of, id_count, operand_names, operands_name, scope_of}

-- ---- the operands of an instruction

operand_at : (decoded : Decoded) (scope : Scope) (uses : Uses) (number : ℕ) (operands : List Operand) (n : ℕ) (operand : Operand) → n < length operands → operand ≡ get_or operands n operand
    → operands_name decoded scope uses number (drop n operands)
    ≡ operand_names decoded scope (wanted uses number) operand && operands_name decoded scope uses (number + id_count operand) (drop (n + 1) operands)
unfolding operands_name
operand_at decoded scope uses number operands n operand l e = rw (drop-cons operands n operand l, ← e, add-one) refl

-- no operand before number n is of something else
abbrev pub AreNamed : Decoded → Scope → Uses → ℕ → List Operand → ℕ → Type 0
AreNamed decoded scope uses number operands n = operands_name decoded scope uses number (drop n operands) ≡ operands_name decoded scope uses 0 operands

pub operand_refused : (decoded : Decoded) (scope : Scope) (uses : Uses) (number : ℕ) (operands : List Operand) (n : ℕ) (operand : Operand) (what : Wanted) → n < length operands → operand ≡ get_or operands n operand
    → what ≡ wanted uses number → false ≡ operand_names decoded scope what operand
    → AreNamed decoded scope uses number operands n → false ≡ operands_name decoded scope uses 0 operands
operand_refused decoded scope uses number operands n operand what l e w t h =
    sym (sym h ∙ operand_at decoded scope uses number operands n operand l e ∙ rw (← w, ← t) refl)

pub operand_kept : (decoded : Decoded) (scope : Scope) (uses : Uses) (number : ℕ) (operands : List Operand) (n : ℕ) (operand : Operand) (what : Wanted) (count : ℕ) → n < length operands → operand ≡ get_or operands n operand
    → what ≡ wanted uses number → count ≡ id_count operand → true ≡ operand_names decoded scope what operand
    → AreNamed decoded scope uses number operands n → AreNamed decoded scope uses (number + count) operands (n + 1)
operand_kept decoded scope uses number operands n operand what count l e w k t h =
    sym (operand_at decoded scope uses number operands n operand l e ∙ rw (← w, ← t, ← k) refl) ∙ h

pub operands_done : (decoded : Decoded) (scope : Scope) (uses : Uses) (number : ℕ) (operands : List Operand) (n : ℕ) → length operands ≤ n
    → AreNamed decoded scope uses number operands n → true ≡ operands_name decoded scope uses 0 operands
unfolding operands_name
operands_done decoded scope uses number operands n l h = rw (drop_of_length-le operands l) at h

pub few : (operand : Operand) (count number n : ℕ) → count ≡ id_count operand → number ≤ n → number + count ≤ n + 1
few (Id id) count number n e l = omega arith
few (Lit word) count number n e l = omega arith
few (Text bytes) count number n e l = omega arith

-- ---- instructions

-- none of the instructions before number n is refused
abbrev pub NoneRefused : Decoded → List Stand → ℕ → Type 0
NoneRefused decoded stood n = flat_map (breaches_of decoded) stood ≡ flat_map (breaches_of decoded) (drop n stood)

stopped : (refusals more : List Refusal) (refusal : Refusal) → Err refusal ≡ unless_refused nothing refusals → Err refusal ≡ unless_refused nothing (refusals ++ more)
stopped [] more refusal e = absurd (cc)
stopped (r ∷ rs) more refusal e = e

went_on : (refusals more : List Refusal) → Ok nothing ≡ unless_refused nothing refusals → refusals ++ more ≡ more
went_on [] more e = refl
went_on (r ∷ rs) more e = absurd (cc)

pub inst_refused : (decoded : Decoded) (stood : List Stand) (n : ℕ) (s : Stand) (scope : Scope) (refusal : Refusal) → drop n stood ≡ s ∷ drop (n + 1) stood
    → scope ≡ scope_of s.position s.inst → Err refusal ≡ unless_refused nothing (breaches_at decoded scope s.class s.inst)
    → NoneRefused decoded stood n → Err refusal ≡ unless_refused nothing (flat_map (breaches_of decoded) stood)
inst_refused decoded stood n s scope refusal e c t h =
    let here : Err refusal ≡ unless_refused nothing (breaches_of decoded s) = rw c at t in
    rw (h, e) (stopped (breaches_of decoded s) (flat_map (breaches_of decoded) (drop (n + 1) stood)) refusal here)

pub inst_kept : (decoded : Decoded) (stood : List Stand) (n : ℕ) (s : Stand) (scope : Scope) → drop n stood ≡ s ∷ drop (n + 1) stood
    → scope ≡ scope_of s.position s.inst → Ok nothing ≡ unless_refused nothing (breaches_at decoded scope s.class s.inst)
    → NoneRefused decoded stood n → NoneRefused decoded stood (n + 1)
inst_kept decoded stood n s scope e c t h =
    let here : Ok nothing ≡ unless_refused nothing (breaches_of decoded s) = rw c at t in
    h ∙ ap (flat_map (breaches_of decoded)) e ∙ went_on (breaches_of decoded s) (flat_map (breaches_of decoded) (drop (n + 1) stood)) here

pub insts_done : (decoded : Decoded) (stood : List Stand) (n : ℕ) → length stood ≤ n
    → NoneRefused decoded stood n → Ok nothing ≡ unless_refused nothing (flat_map (breaches_of decoded) stood)
insts_done decoded stood n l h = rw (h, drop_of_length-le stood l) refl
