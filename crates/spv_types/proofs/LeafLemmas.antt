-- The leaves before a part, where they fit 64 bits.
use Rattle.std.proofs.Common.{◌≡◌, ℕ, ◌+◌, ◌-◌, ◌^◌, List, ◌∷◌, Option, Some, None, refl, ap}
use Rattle.std.specs.Prelude.{min}
use Rattle.std.specs.Option.{option_map, option_and_then}
use Rattle.spv_types.specs.declared.forms.Form.{Form}
use Rattle.spv_types.specs.Types.{Types, form_of}
use Rattle.spv_types.specs.Cells.{cells_of}
use Rattle.spv_base.proofs.Exports.{saturated-add}
use Rattle.spv_base.specs.Saturation.{saturated, saturated_first}
use Rattle.spv_types.specs.Leaves.{leaf_of, part_of}
use Rattle.spv_types.proofs.CellLemmas.{some_pair, pair}

pub leaf_saturated : (ts : Types) (id i before part within : ℕ) (path : List ℕ) (f : Form) → Some f ≡ form_of ts id → some_pair before part ≡ option_map saturated_first (part_of (cells_of ts) f i) → Some within ≡ option_map saturated (leaf_of ts part path) → Some (min (before + within) (2 ^ 64 - 1)) ≡ option_map saturated (leaf_of ts id (i ∷ path))
unfolding leaf_of
leaf_saturated ts id i before part within path f g h k = rw (← g) (step ts before part within path (part_of (cells_of ts) f i) h k)
  where
    last : (n before within : ℕ) (o : Option ℕ) → before ≡ saturated n → Some within ≡ option_map saturated o → Some (min (before + within) (2 ^ 64 - 1)) ≡ option_map saturated (option_map (λ m. n + m) o)
    last n before within None e k = cc
    last n before within (Some m) e k = let f : within ≡ saturated m = cc in rw (e, f, saturated-add n m) refl

    step : (ts : Types) (before part within : ℕ) (path : List ℕ) (p : Option (ℕ × ℕ)) → some_pair before part ≡ option_map saturated_first p → Some within ≡ option_map saturated (leaf_of ts part path) → Some (min (before + within) (2 ^ 64 - 1)) ≡ option_map saturated (option_and_then (λ p. option_map (λ n. p.0 + n) (leaf_of ts p.1 path)) p)
    step ts before part within path None h k = cc
    step ts before part within path (Some p) h k =
        let q : pair before part ≡ saturated_first p = cc in
        let e = ap (λ (x : ℕ × ℕ). x.0) q in let f = ap (λ (x : ℕ × ℕ). x.1) q in
        rw (← f) (last p.0 before within (leaf_of ts part path) e k)

pub leaf_unknown : (ts : Types) (id i : ℕ) (path : List ℕ) → form_of ts id ≡ None → leaf_of ts id (i ∷ path) ≡ None
unfolding leaf_of
leaf_unknown ts id i path h = rw h refl

pub leaf_no_part : (ts : Types) (id i : ℕ) (path : List ℕ) (f : Form) → Some f ≡ form_of ts id → None ≡ option_map saturated_first (part_of (cells_of ts) f i) → leaf_of ts id (i ∷ path) ≡ None
unfolding leaf_of
leaf_no_part ts id i path f g h = rw (← g) (step (part_of (cells_of ts) f i) h)
  where
    step : (p : Option (ℕ × ℕ)) → None ≡ option_map saturated_first p → option_and_then (λ p. option_map (λ n. p.0 + n) (leaf_of ts p.1 path)) p ≡ None
    step None h = refl
    step (Some p) h = cc

pub leaf_not_within : (ts : Types) (id i before part : ℕ) (path : List ℕ) (f : Form) → Some f ≡ form_of ts id → some_pair before part ≡ option_map saturated_first (part_of (cells_of ts) f i) → None ≡ option_map saturated (leaf_of ts part path) → leaf_of ts id (i ∷ path) ≡ None
unfolding leaf_of
leaf_not_within ts id i before part path f g h k = rw (← g) (step (part_of (cells_of ts) f i) h)
  where
    last : (n : ℕ) (o : Option ℕ) → None ≡ option_map saturated o → option_map (λ m. n + m) o ≡ None
    last n None k = refl
    last n (Some m) k = cc

    step : (p : Option (ℕ × ℕ)) → some_pair before part ≡ option_map saturated_first p → option_and_then (λ p. option_map (λ n. p.0 + n) (leaf_of ts p.1 path)) p ≡ None
    step None h = cc
    step (Some p) h =
        let q : pair before part ≡ saturated_first p = cc in
        let f = ap (λ (x : ℕ × ℕ). x.1) q in
        last p.0 (leaf_of ts p.1 path) (rw f at k)
