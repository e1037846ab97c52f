-- The value of a type is made of its form; the leaves of values, one after another.
use Rattle.std.proofs.Common.{◌≡◌, ◌∙◌, ℕ, zero, suc, ◌+◌, ◌-◌, ◌*◌, ◌<◌, List, [], ◌++◌, append_assoc, None, Some, Option, refl, ap, arith}
use Rattle.std.specs.List.{flat_map}
use Rattle.std.specs.Prelude.{Result}
use Rattle.std.specs.Result.{OnOk}
use Rattle.std.specs.Option.{option_map_or}
use Rattle.spv_base.specs.Cell.{Cell}
use Rattle.spv_base.specs.declared.values.Value.{Value, List as Many}
use Rattle.spv_types.specs.declared.forms.Form.{Form}
use Rattle.spv_types.specs.Rows.{leaves}
use Rattle.spv_types.specs.Types.{Types, found_among, in_first}
use Rattle.spv_types.proofs.Exports.{in_first-is, no_leaves, leaves_many}
use Rattle.spv_start.specs.Blocks.{Reader, read_among, read_none, read_row, read_step}

-- the value of a type that is found, or none
abbrev pub found_value : Types → List ℕ → ℕ → Option (ℕ × Form) → ℕ → Value
found_value ts bytes size None at = Many []
found_value ts bytes size (Some f) at = read_step ts bytes size (read_among ts bytes size f.0) f.1 at

pub read_among_is : (ts : Types) (bytes : List ℕ) (size n id at : ℕ) → read_among ts bytes size n id at ≡ found_value ts bytes size (found_among ts n id) at
unfolding read_among
read_among_is ts bytes size n id at = ap (λ (f : Reader). f at) (in_first-is {A = Reader} read_none (read_step ts bytes size) ts n id) ∙ found (found_among ts n id)
  where
    found : (o : Option (ℕ × Form)) → option_map_or {U = Reader} (λ (f : ℕ × Form). read_step ts bytes size (in_first read_none (read_step ts bytes size) ts f.0) f.1) o read_none at ≡ found_value ts bytes size o at
    found None = refl
    found (Some f) = refl

-- ---- what is appended

pub none_read : (ts : Types) (bytes : List ℕ) (size n id at : ℕ) (xs : List Cell) → found_among ts n id ≡ None → xs ≡ xs ++ leaves (read_among ts bytes size n id at)
none_read ts bytes size n id at xs none = rw (read_among_is ts bytes size n id at, none) (no_leaves xs)

pub row_of : {E : Type 0} (r : Result (Unit {0}) E) (new old : List Cell) (read : Reader) (at s stride n count : ℕ) → s ≡ stride → n ≡ count
    → OnOk r (new ≡ old ++ flat_map leaves (read_row read at s n)) → OnOk r (new ≡ old ++ leaves (Many (read_row read at stride count)))
row_of r new old read at s stride n count e f h = rw (leaves_many (read_row read at stride count), ← e, ← f) h

-- one more value of a row
pub row_more : (read : Reader) (new old whole : List Cell) (at s stride left : ℕ) → 0 < left → s ≡ stride → new ≡ old ++ leaves (read at)
    → old ++ flat_map leaves (read_row read at stride left) ≡ whole → new ++ flat_map leaves (read_row read (at + s) stride (left - 1)) ≡ whole
row_more read new old whole at s stride zero some same is before = absurd (omega (arith, some))
row_more read new old whole at s stride (suc k) some same is before =
    let e : suc k - 1 ≡ k = omega arith in
    rw (e, is, same, append_assoc old (leaves (read at)) (flat_map leaves (read_row read (at + stride) stride k))) before

pub less_one : (left s : ℕ) → 0 < left → (left - 1) * s + s ≡ left * s
less_one zero s some = absurd (omega (arith, some))
less_one (suc k) s some = let e : suc k - 1 ≡ k = omega arith in rw e (omega arith)
