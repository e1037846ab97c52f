-- What the operations on lanes give: a lane of the result's width, from lanes of widths that the operation takes.
use Rattle.std.proofs.Common.{◌≡◌, ℕ, ◌≤◌, ◌==◌, Bool, true, false, Option, Some, None, sym, subst, arith}
use Rattle.std.specs.Prelude.{◌&&◌, if◌then◌else◌, nat_le, nat_lt}
use Rattle.std.specs.Option.{option_map, option_map_or, unwrap_or}
use Rattle.spv_base.specs.Cell.{Cell, undefined_cell, HasWidth}
use Rattle.spv_alu.specs.Results.{truth}
use Rattle.spv_alu.specs.declared.unary_op.UnaryOp.{UnaryOp}
use Rattle.spv_alu.specs.declared.binary_op.BinaryOp.{BinaryOp}
use Rattle.spv_alu.specs.Unary.{UnaryRow, conversion, arithmetic, logical, unary_of, unary_op, unary_result, unary_row}
use Rattle.spv_alu.specs.Unary as unary
use Rattle.spv_alu.specs.Binary.{BinaryRow, binary_of, binary_op, binary_result, binary_row, binary_width}
use Rattle.spv_alu.specs.Binary as binary
use Rattle.spv_consts.specs.Lanes.{binary_lane, is_lane_width, pair_takes, row_takes, select_lane, takes_one, unary_lane}
use Rattle.spv_types.proofs.Exports.{impossible}
use Rattle.std.proofs.lemmas.Bool.{eqb-true, and_parts}
use Rattle.spv_base.proofs.Exports.{same_number}
use Rattle.spv_alu.proofs.Exports.{integer_has_width, truth_has_width, defined_has_width}

-- ---- tests

narrow : (w : ℕ) → is_lane_width w ≡ true → w ≤ 64
narrow w h = most (and_parts (nat_lt 0 w) (nat_le w 64) h).1
  where
    most : nat_le w 64 ≡ true → w ≤ 64
    most h = grind arith

-- ---- results

-- ---- unary operations

unary_result_fits : (row : UnaryRow) (v n w : ℕ) → row_takes row v w ≡ true → HasWidth w (unary_result row v n w)
unary_result_fits (conversion f) v n w h = integer_has_width w (f v n) (narrow w (and_parts (is_lane_width v) (is_lane_width w) h).1)
unary_result_fits (arithmetic f) v n w h =
    let p = and_parts (is_lane_width v) (w == v) h in
    let e : w ≡ v = eqb-true w v p.1 in
    integer_has_width w (f w n) (subst (λ k. k ≤ 64) (sym e) (narrow v p.0))
unary_result_fits (logical f) v n w h =
    let e : w ≡ 1 = eqb-true w 1 (and_parts (v == 1) (w == 1) h).1 in
    subst (λ k. HasWidth k (truth (f (n == 1)))) (sym e) (truth_has_width (f (n == 1)))

pub unary_has_width : (op w : ℕ) (a : Cell) → takes_one op a.width w ≡ true → HasWidth w (unary_lane op w a)
unfolding unary_of
unary_has_width op w a h = rw h (by_operation (unary_op op) h)
  where
    by_operation : (o : Option UnaryOp) → option_map_or (λ o. row_takes (unary_row o) a.width w) o false ≡ true
        → HasWidth w (unwrap_or (option_map (λ o. unary.unary_lane o a w) o) (undefined_cell a.width))
    by_operation None h = impossible h
    by_operation (Some o) h = defined_has_width a.defined w _ (unary_result_fits (unary_row o) a.width a.bits w h)

-- ---- binary operations

result_fits : (row : BinaryRow) (v w x y : ℕ) → pair_takes row v w ≡ true → HasWidth (binary_width row v) (binary_result row v x y)
result_fits (binary.arithmetic f) v w x y h = integer_has_width v _ (narrow v (and_parts (is_lane_width v) (w == v) h).0)
result_fits (binary.unsigned_division f) v w x y h = defined_has_width _ v _ (integer_has_width v _ (narrow v (and_parts (is_lane_width v) (w == v) h).0))
result_fits (binary.signed_division f) v w x y h = defined_has_width _ v _ (integer_has_width v _ (narrow v (and_parts (is_lane_width v) (w == v) h).0))
result_fits (binary.logical f) v w x y h = truth_has_width _
result_fits (binary.unsigned_comparison f) v w x y h = truth_has_width _
result_fits (binary.signed_comparison f) v w x y h = truth_has_width _
result_fits (binary.shift f) v w x y h = defined_has_width _ v _ (integer_has_width v _ (narrow v (and_parts (is_lane_width v) (is_lane_width w) h).0))

-- the widths of two operands and of their result
abbrev pub takes_pair : BinaryRow → ℕ → ℕ → ℕ → Bool
takes_pair row v w u = pair_takes row v w && binary_width row v == u

abbrev pub takes_pair_of : ℕ → ℕ → ℕ → ℕ → Bool
takes_pair_of op v w u = option_map_or (λ o. takes_pair (binary_row o) v w u) (binary_op op) false

pub binary_has_width : (op u : ℕ) (a b : Cell) → takes_pair_of op a.width b.width u ≡ true → HasWidth u (binary_lane op a b)
unfolding binary_of
binary_has_width op u a b h = by_operation (binary_op op) h
  where
    by_operation : (o : Option BinaryOp) → option_map_or (λ o. takes_pair (binary_row o) a.width b.width u) o false ≡ true
        → HasWidth u (if option_map_or (λ o. pair_takes (binary_row o) a.width b.width) o false then unwrap_or (option_map (λ o. binary.binary_lane o a b) o) (undefined_cell a.width) else undefined_cell a.width)
    by_operation None h = impossible h
    by_operation (Some o) h =
        let p = and_parts (pair_takes (binary_row o) a.width b.width) (binary_width (binary_row o) a.width == u) h in
        let e : binary_width (binary_row o) a.width ≡ u = eqb-true _ _ p.1 in
        let fits : HasWidth (binary_width (binary_row o) a.width) (binary.binary_lane o a b) = defined_has_width (a.defined && b.defined) _ _ (result_fits (binary_row o) a.width b.width a.bits b.bits p.0) in
        rw p.0 (subst (λ k. HasWidth k (binary.binary_lane o a b)) e fits)

-- ---- Select

pub select_has_width : (w : ℕ) (c a b : Cell) → HasWidth w a → HasWidth w b → HasWidth w (select_lane c a b)
select_has_width w c a b h g =
    let e : (b.width == a.width) ≡ true = rw (h.0, g.0) (same_number w) in
    rw e (defined_has_width (c.defined && a.defined && b.defined) w _ (chosen (c.bits == 1)))
  where
    chosen : (t : Bool) → HasWidth w (if t then a else b)
    chosen true = h
    chosen false = g
