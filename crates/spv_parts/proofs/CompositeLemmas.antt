-- Members by their names.
use Rattle.std.proofs.Common.{◌≡◌, ◌∙◌, ℕ, ◌+◌, ◌-◌, ◌==◌, ◌<◌, Bool, true, false, if◌then◌else◌, List, length, get_or, drop, Option, Some, None, refl, sym, ap, eqb-true}
use Rattle.std.specs.List.{position_from}
use Rattle.std.specs.Prelude.{filter, position}
use Rattle.std.proofs.lemmas.Iterator.Adapters.{position_from-zero}
use Rattle.std.proofs.lemmas.List.{drop_more}
use Rattle.std.specs.Option.{option_and_then}
use Rattle.spv_base.proofs.Exports.{same_some}
use Rattle.spv_dbg.specs.declared.insts.DebugInst.{DebugInst}
use Rattle.spv_dbg.specs.Tables.{Tables, with_id}
use Rattle.spv_parts.specs.Composites.{composite_in, composite_of, is_named, last_member, part_named}
use Rattle.spv_parts.specs.Parts.{TypePart, member, members_of, part_at, plain}

module _ (passes named : ℕ → Bool) (ids : List ℕ) where
  pub number_first : position_from named 0 (filter passes ids) ≡ position named (filter passes ids)
  number_first = sym (position_from-zero named (filter passes ids))

  module _ (i n : ℕ) (result : Option ℕ) (lt : i < length ids) (e : position_from named n (filter passes (drop i ids)) ≡ result) where
    pub number_skipped : passes (get_or ids i 0) ≡ false → position_from named n (filter passes (drop (i + 1) ids)) ≡ result
    number_skipped isnt = rw isnt at (rw (drop_more ids i 0 lt) at e)

    pub number_found : passes (get_or ids i 0) ≡ true → named (get_or ids i 0) ≡ true → Some n ≡ result
    number_found is found = rw (is, found) at (rw (drop_more ids i 0 lt) at e)

    pub number_passed : passes (get_or ids i 0) ≡ true → named (get_or ids i 0) ≡ false → position_from named (n + 1) (filter passes (drop (i + 1) ids)) ≡ result
    number_passed is isnt = rw (is, isnt) at (rw (drop_more ids i 0 lt) at e)

-- ---- a member with a name

composite_from : (d : DebugInst) (b : Bool) (o : Option DebugInst) → Some d ≡ (if b then option_and_then composite_in o else None) → (b ≡ true) × (o ≡ Some d) × (d.number ≡ 10)
composite_from d false o e = absurd (cc)
composite_from d true None e = absurd (cc)
composite_from d true (Some x) e = by (x.number == 10) refl e
  where
    by : (is : Bool) → (x.number == 10) ≡ is → Some d ≡ (if is then Some x else None) → (true ≡ true) × (Some x ≡ Some d) × (d.number ≡ 10)
    by false a f = absurd (cc)
    by true a f = let same : d ≡ x = same_some (Some d) d x refl f in (refl, sym f, ap (λ (y : DebugInst). y.number) same ∙ eqb-true x.number 10 a)

-- a part of a TypeComposite is a member
pub part_at_is : (t : Tables) (p : TypePart) (d : DebugInst) (i : ℕ) → Some d ≡ composite_of t p → part_at t p i ≡ member t (members_of t d) i
part_at_is t p d i e =
    let are = composite_from d (length p.counts == 0) (with_id t (plain t p.base)) e in
    rw (are.0, are.1, are.2) refl

pub part_named_is : (t : Tables) (p : TypePart) (name : List ℕ) (d : DebugInst) (i : ℕ) → Some d ≡ composite_of t p → Some i ≡ position (is_named t name) (members_of t d)
    → part_named t p name ≡ member t (members_of t d) i
part_named_is t p name d i e found = rw (sym e, sym found) (part_at_is t p d i e)

pub last_is : (t : Tables) (p : TypePart) (d : DebugInst) (count : ℕ) → Some d ≡ composite_of t p → count ≡ length (members_of t d) → (count == 0) ≡ false
    → last_member t p ≡ member t (members_of t d) (count - 1)
last_is t p d count e is some = rw (sym e, sym is, some) (part_at_is t p d (count - 1) e)

pub last_none : (t : Tables) (p : TypePart) (d : DebugInst) (count : ℕ) → Some d ≡ composite_of t p → count ≡ length (members_of t d) → (count == 0) ≡ true
    → last_member t p ≡ None
last_none t p d count e is none = rw (sym e, sym is, none) refl
