-- The leaves of a type are those of its form, and the leaves of members add up.
use Rattle.std.proofs.Common.{◌≡◌, ℕ, zero, suc, ◌+◌, ◌<◌, List, [], ◌∷◌, length, get_or, take, ◌-◌, ◌*◌, ◌^◌, ◌∙◌, Option, Some, None, refl, ap, arith}
use Rattle.std.specs.Option.{option_map, option_map_or}
use Rattle.spv_types.specs.declared.forms.Form.{Form}
use Rattle.spv_types.specs.declared.forms.Member.{Member}
use Rattle.spv_types.specs.Types.{Types, found_among}
use Rattle.spv_types.specs.Cells.{cells_among, cells_step, members_cells, added}
use Rattle.std.specs.Prelude.{min}
use Rattle.spv_base.specs.Saturation.{saturated, saturated_first}
use Rattle.spv_base.proofs.Exports.{saturated-add, saturated-mul}
use Rattle.spv_types.proofs.TypeLemmas.{in_first-is}

pub cells_among_is : (ts : Types) (n id : ℕ) → cells_among ts n id ≡ option_map_or (λ (f : ℕ × Form). cells_step (cells_among ts f.0) f.1) (found_among ts n id) None
unfolding cells_among
cells_among_is ts n id = in_first-is None cells_step ts n id

pub members_cells_more : (f : ℕ → Option ℕ) (ms : List Member) (i : ℕ) (d : Member) → i < length ms → members_cells f (take (i + 1) ms) ≡ added (members_cells f (take i ms)) (f (get_or ms i d).ty)
unfolding members_cells
members_cells_more f [] i d h = absurd (omega arith)
members_cells_more f (m ∷ ms) zero d h = first (f m.ty)
  where
    first : (o : Option ℕ) → added o (Some 0) ≡ added (Some 0) o
    first None = refl
    first (Some n) = let e : n + 0 ≡ 0 + n = omega arith in ap Some e
members_cells_more f (m ∷ ms) (suc i) d h = let e : suc i + 1 ≡ suc (i + 1) = omega arith in rw (e, members_cells_more f ms i d (omega arith)) (joined (f m.ty) (members_cells f (take i ms)) (f (get_or ms i d).ty))
  where
    joined : (a b c : Option ℕ) → added a (added b c) ≡ added (added a b) c
    joined None b c = refl
    joined (Some n) None c = refl
    joined (Some n) (Some m) None = refl
    joined (Some n) (Some m) (Some k) = let e : n + (m + k) ≡ n + m + k = omega arith in ap Some e

pub members_cells_none : (f : ℕ → Option ℕ) (ms : List Member) (i : ℕ) (d : Member) → i < length ms → f (get_or ms i d).ty ≡ None → members_cells f ms ≡ None
unfolding members_cells
members_cells_none f [] i d h e = absurd (omega arith)
members_cells_none f (m ∷ ms) zero d h e = rw e refl
members_cells_none f (m ∷ ms) (suc i) d h e = rw (members_cells_none f ms i d (omega arith) e) (none (f m.ty))
  where
    none : (o : Option ℕ) → added o None ≡ None
    none None = refl
    none (Some n) = refl

pub members_cells_nil : (f : ℕ → Option ℕ) → members_cells f [] ≡ Some 0
unfolding members_cells
members_cells_nil f = refl

pub added_saturated : (a b : Option ℕ) (n m : ℕ) → option_map saturated a ≡ Some n → option_map saturated b ≡ Some m → option_map saturated (added a b) ≡ Some (min (n + m) (2 ^ 64 - 1))
added_saturated None b n m h k = cc
added_saturated (Some a) None n m h k = cc
added_saturated (Some a) (Some b) n m h k = let e : saturated a ≡ n = cc in let f : saturated b ≡ m = cc in rw (← e, ← f, saturated-add a b) refl

pub repeated_saturated : (a : Option ℕ) (n k : ℕ) → option_map saturated a ≡ Some n → option_map saturated (option_map (λ c. c * k) a) ≡ Some (min (n * k) (2 ^ 64 - 1))
repeated_saturated None n k h = cc
repeated_saturated (Some a) n k h = let e : saturated a ≡ n = cc in rw (← e, saturated-mul a k) refl

abbrev pub pair : ℕ → ℕ → ℕ × ℕ
pair a b = (a, b)

abbrev pub some_pair : ℕ → ℕ → Option (ℕ × ℕ)
some_pair a b = Some (a, b)

pub element_saturated : (a : Option ℕ) (n i id : ℕ) → option_map saturated a ≡ Some n → option_map saturated_first (option_map {U = ℕ × ℕ} (λ c. (c * i, id)) a) ≡ some_pair (min (n * i) (2 ^ 64 - 1)) id
element_saturated None n i id h = cc
element_saturated (Some a) n i id h = let e : saturated a ≡ n = cc in rw (← e, saturated-mul a i) refl

pub members_cells_next : (f : ℕ → Option ℕ) (ms : List Member) (i n m : ℕ) (d : Member) → i < length ms → option_map saturated (members_cells f (take i ms)) ≡ Some n → option_map saturated (f (get_or ms i d).ty) ≡ Some m → option_map saturated (members_cells f (take (i + 1) ms)) ≡ Some (min (n + m) (2 ^ 64 - 1))
members_cells_next f ms i n m d l h k = ap (option_map saturated) (members_cells_more f ms i d l) ∙ added_saturated (members_cells f (take i ms)) (f (get_or ms i d).ty) n m h k

pub added_is : (a b : Option ℕ) (n : ℕ) → added a b ≡ Some n → (x : ℕ) × (y : ℕ) × (a ≡ Some x) × (b ≡ Some y) × (n ≡ x + y)
added_is None b n h = cc
added_is (Some x) None n h = cc
added_is (Some x) (Some y) n h = let e : n ≡ x + y = cc in (x, y, refl, refl, e)
