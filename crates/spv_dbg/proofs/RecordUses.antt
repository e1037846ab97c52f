-- What the laws of debug records give to those who go from one record to another.
use Rattle.std.proofs.Common.{◌≡◌, ◌∙◌, ℕ, Option, Some, None, refl, sym, ap, subst}
use Rattle.std.specs.Prelude.{if◌then◌else◌, nat_lt}
use Rattle.std.specs.Option.{option_and_then, option_map, option_map_or}
use Rattle.std.proofs.lemmas.Bool.{lt-ltb}
use Rattle.std.proofs.Math.Logic.{∥∥₁_map}
use Rattle.spv_base.specs.Entries.{reads}
use Rattle.spv_valid.specs.Acceptance.{Accepted, IsAccepted}
use Rattle.spv_dbg.specs.declared.insts.DebugInst.{DebugInst}
use Rattle.spv_dbg.specs.declared.kinds.Role.{Role}
use Rattle.spv_dbg.specs.declared.marks.Mark.{Mark}
use Rattle.spv_dbg.specs.Marks.{measure_in, nothing, part}
use Rattle.spv_dbg.specs.Records.{AreRecords, IsRecord, Leads, kept_before, measured_in}
use Rattle.spv_dbg.specs.Tables.{Tables, bits_in, tables_of}

-- what is kept of a record that an operand leads to
pub leads_kept : (t : Tables) (n : ℕ) (role : Role) (id : ℕ) → Leads t n role id → kept_before t n id ≡ reads id t.marks
leads_kept t n role id l =
    ap (option_and_then (λ (k : ℕ). if nat_lt k n then reads id t.marks else None)) l.is_number ∙ rw (lt-ltb l.number n l.before) refl

-- the bits of the type that it is
pub leads_bits : (t : Tables) (n : ℕ) (role : Role) (id bits : ℕ) → Leads t n role id → bits_in t id ≡ Some bits → (part (kept_before t n) id).bits ≡ bits
leads_bits t n role id bits l e = ap (λ (o : Option Mark). (option_map_or measure_in o nothing).bits) (leads_kept t n role id l) ∙ by_kept (reads id t.marks) e
  where
    by_kept : (o : Option Mark) → option_map (λ (k : Mark). k.bits) o ≡ Some bits → (option_map_or measure_in o nothing).bits ≡ bits
    by_kept None e = absurd (cc)
    by_kept (Some k) e = cc

-- the bits of a record
pub record_bits : (t : Tables) (n : ℕ) (d : DebugInst) → IsRecord t n d → bits_in t d.id ≡ Some (measured_in t n d).bits
record_bits t n d r = ap (option_map (λ (k : Mark). k.bits)) r.kept

-- tables that are those of an accepted module
pub whole_tables : (m : Accepted) (t : Tables) → ((a : Accepted) → IsAccepted a → AreRecords (tables_of a)) → ∥ IsAccepted m ∥₁ → t ≡ tables_of m → ∥ AreRecords t ∥₁
whole_tables m t law accepted same = subst (λ (x : Tables). ∥ AreRecords x ∥₁) (sym same) (∥∥₁_map accepted (law m))
