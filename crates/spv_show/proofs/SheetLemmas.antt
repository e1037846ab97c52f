-- What is written of a type is what its form says; lists between their brackets.
use Rattle.std.proofs.Common.{◌≡◌, ◌∙◌, ℕ, zero, suc, ◌<◌, List, [], ◌∷◌, length, replicate, Option, Some, None, refl, ap, arith}
use Rattle.std.specs.Option.{option_map, option_map_or}
use Rattle.std.specs.Prelude.{codes}
use Rattle.spv_base.specs.Cell.{Cell}
use Rattle.spv_types.specs.declared.forms.Form.{Form}
use Rattle.spv_types.specs.declared.forms.Member.{Member}
use Rattle.spv_types.specs.Types.{Types, found_among, in_first}
use Rattle.spv_types.proofs.Exports.{in_first-is}
use Rattle.spv_show.specs.Elements.{sized, with_elements}
use Rattle.spv_show.specs.Scalars.{unavailable}
use Rattle.spv_show.specs.Sheets.{Change, Written, put, put_among, put_elements, put_leaf, put_members, put_row, put_step, put_struct}
use Rattle.spv_show.proofs.ElementLemmas.{found_sized, sized_found}

-- the change of a type that is found
abbrev pub found_change : ℕ → Types → List Cell → Option (ℕ × Form) → Change
found_change k ts cells None s = put_leaf unavailable s
found_change k ts cells (Some f) s = put_step cells (put_among (with_elements k ts) cells f.0) (sized k f.1) s

pub put_among_is : (k : ℕ) (ts : Types) (cells : List Cell) (n id : ℕ) (s : Written) → put_among (with_elements k ts) cells n id s ≡ found_change k ts cells (found_among ts n id) s
unfolding put_among
put_among_is k ts cells n id s =
    ap (λ (f : Change). f s) (in_first-is {A = Change} (put_leaf unavailable) (put_step cells) (with_elements k ts) n id) ∙ found (found_among (with_elements k ts) n id) (found_among ts n id) (found_sized k ts n id)
  where
    found : (p o : Option (ℕ × Form)) → p ≡ option_map (sized_found k) o
        → option_map_or {U = Change} (λ (f : ℕ × Form). put_step cells (in_first (put_leaf unavailable) (put_step cells) (with_elements k ts) f.0) f.1) p (put_leaf unavailable) s ≡ found_change k ts cells o s
    found p None e = rw e refl
    found p (Some f) e = rw e refl

pub none_put : (k : ℕ) (ts : Types) (cells : List Cell) (n id : ℕ) (s : Written) → found_among ts n id ≡ None → put_among (with_elements k ts) cells n id s ≡ put_leaf unavailable s
none_put k ts cells n id s none = rw (put_among_is k ts cells n id s, none) refl

-- ---- lists that have elements

pub row_is : (c : Change) (count : ℕ) (s : Written) → 0 < count → put_row (replicate count c) s ≡ put (codes "]") (put_elements 0 (replicate count c) (put (codes "[") s))
row_is c zero s some = absurd (omega (arith, some))
row_is c (suc n) s some = refl

pub struct_is : (change : ℕ → Change) (ms : List Member) (s : Written) → 0 < length ms → put_struct (put_members change 0 ms) s ≡ put (codes "}") (put_elements 0 (put_members change 0 ms) (put (codes "{") s))
struct_is change [] s some = absurd (omega (arith, some))
struct_is change (m ∷ ms) s some = refl
