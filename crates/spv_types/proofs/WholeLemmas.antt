-- The leaves of a type are at most the cells that its limit counts, where these are not saturated.
use Rattle.std.proofs.Common.{◌≡◌, ℕ, zero, suc, ◌*◌, ◌<◌, ◌≤◌, Bool, true, false, List, [], ◌∷◌, Option, Some, None, length, arith}
use Rattle.std.specs.Option.{option_map, option_map_or}
use Rattle.std.specs.Prelude.{if◌then◌else◌}
use Rattle.std.proofs.Math.Nat.{mul-le-mul_left}
use Rattle.spv_types.specs.declared.forms.Form.{Form}
use Rattle.spv_types.specs.declared.forms.Form.TheVariants.{Void, Bool as Boolean, Int, Vector, Array, Runtime, Struct, Pointer, Function}
use Rattle.spv_types.specs.declared.forms.Member.{Member}
use Rattle.spv_types.specs.declared.limits.Limit.{Limit}
use Rattle.spv_types.specs.Types.{Types, form_of, in_first, number_of}
use Rattle.spv_types.specs.Cells.{cells_among, cells_of, cells_step, members_cells}
use Rattle.spv_base.specs.Saturation.{saturated}
use Rattle.spv_base.specs.Options.{holds}
use Rattle.spv_types.specs.Limits.{limit_among, limit_of, limit_step, members_limit, no_limit}
use Rattle.spv_types.proofs.CellLemmas.{added_is}
use Rattle.spv_types.proofs.RowCounts.{times_is}

-- types have at most as many leaves as a reading of limits counts
abbrev Whole : (ℕ → Option ℕ) → (ℕ → Limit) → Type 0
Whole cells limit = (id n : ℕ) → cells id ≡ Some n → (limit id).cells < 18446744073709551615 → n ≤ (limit id).cells

members_whole : (cells : ℕ → Option ℕ) (limit : ℕ → Limit) (ms : List Member) (n : ℕ) → Whole cells limit → members_cells cells ms ≡ Some n → (members_limit limit ms).cells < 18446744073709551615 → n ≤ (members_limit limit ms).cells
unfolding members_cells members_limit
members_whole cells limit [] n whole h l = let z : n ≡ 0 = cc in omega arith
members_whole cells limit (m ∷ ms) n whole h l =
    let sum = added_is (cells m.ty) (members_cells cells ms) n h in
    let first : sum.0 ≤ (limit m.ty).cells = whole m.ty sum.0 sum.2 (omega arith) in
    let rest : sum.1 ≤ (members_limit limit ms).cells = members_whole cells limit ms sum.1 whole sum.3 (omega arith) in
    omega (arith, sum.4)

repeated_whole : (a : Option ℕ) (l k n : ℕ) → ((c : ℕ) → a ≡ Some c → l < 18446744073709551615 → c ≤ l) → option_map (λ c. c * k) a ≡ Some n → saturated (l * k) < 18446744073709551615 → n ≤ saturated (l * k)
repeated_whole a l zero n each h less = let t = times_is a zero n h in omega (arith, t.2)
repeated_whole a l (suc k) n each h less =
    let t = times_is a (suc k) n h in
    let small : l ≤ l * suc k = omega arith in
    let one : t.0 ≤ l = each t.0 t.1 (omega (arith, small)) in
    let all : suc k * t.0 ≤ suc k * l = mul-le-mul_left (suc k) one in
    omega (arith, t.2, all)

no_members_whole : (cells : ℕ → Option ℕ) (n : ℕ) → members_cells cells [] ≡ Some n → n ≤ 1
unfolding members_cells
no_members_whole cells n h = let z : n ≡ 0 = cc in omega arith

step_whole : (cells : ℕ → Option ℕ) (limit : ℕ → Limit) (f : Form) (n : ℕ) → Whole cells limit → cells_step cells f ≡ Some n → (limit_step limit f).cells < 18446744073709551615 → n ≤ (limit_step limit f).cells
step_whole cells limit Void n whole h l = let z : n ≡ 0 = cc in omega arith
step_whole cells limit Boolean n whole h l = let z : n ≡ 1 = cc in omega arith
step_whole cells limit (Int width sign) n whole h l = let z : n ≡ 1 = cc in omega arith
step_whole cells limit (Vector component count) n whole h l = repeated_whole (cells component) (limit component).cells count n (λ c e. whole component c e) h l
step_whole cells limit (Array element None stride) n whole h l = cc
step_whole cells limit (Array element (Some size) stride) n whole h l = repeated_whole (cells element) (limit element).cells size n (λ c e. whole element c e) h l
step_whole cells limit (Runtime element stride) n whole h l = cc
step_whole cells limit (Struct [] block) n whole h l = no_members_whole cells n h
step_whole cells limit (Struct (m ∷ ms) block) n whole h l = members_whole cells limit (m ∷ ms) n whole h l
step_whole cells limit (Pointer class target) n whole h l = let z : n ≡ 1 = cc in omega arith
step_whole cells limit (Function returns parameters) n whole h l = let z : n ≡ 0 = cc in omega arith

among_whole : (ts : Types) (m : ℕ) → Whole (cells_among ts m) (limit_among ts m)
unfolding cells_among limit_among in_first
among_whole ts zero id n h l = cc
among_whole ts (suc m) id n h l = here (among_whole ts m) (holds m (number_of ts id)) (form_of ts id) h l
  where
    here : Whole (cells_among ts m) (limit_among ts m) → (b : Bool) (o : Option Form) → (if b then option_map_or (cells_step (cells_among ts m)) o None else cells_among ts m id) ≡ Some n
        → (if b then option_map_or (limit_step (limit_among ts m)) o no_limit else limit_among ts m id).cells < 18446744073709551615
        → n ≤ (if b then option_map_or (limit_step (limit_among ts m)) o no_limit else limit_among ts m id).cells
    here below true None h l = cc
    here below true (Some f) h l = step_whole (cells_among ts m) (limit_among ts m) f n below h l
    here below false o h l = below id n h l

pub types_whole : (ts : Types) (id n : ℕ) → cells_of ts id ≡ Some n → (limit_of ts id).cells < 18446744073709551615 → n ≤ (limit_of ts id).cells
unfolding cells_of limit_of
types_whole ts id n h l = among_whole ts (length ts) id n h l
