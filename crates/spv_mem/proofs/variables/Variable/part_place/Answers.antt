use Rattle.std.proofs.Common.{◌≡◌, ◌-◌, ◌<◌, ◌≤◌, ◌^◌, ℕ, length, sym, subst}
use Rattle.std.specs.Option.{option_map_or}
use Rattle.spv_types.specs.Cells.{cells_of}
use Rattle.spv_base.specs.Saturation.{saturated}
use Rattle.spv_types.specs.Rows.{leaves}
use Rattle.spv_values.specs.Places.{IsRowAt}
use Rattle.spv_values.proofs.Exports.{row_at}
use Rattle.spv_mem.proofs.PlaceLemmas.{leaf_none, past_none, row_there, start_within, type_none}
use Rattle.spv_mem.proofs.variables.Variable.part_place.Goals as goal

pub returns-then-is_past : goal.returns-then-is_past
returns-then-is_past c =
    past_none c.args.types.now c.args.ty c.args.path.now c.args.self.now c.requires (let e = c.is_past.ensures in let h = c.if-is_past.true in let p = c.as_slice-indexes.ensures in cc)

pub returns-in_err-start : goal.returns-in_err-start
returns-in_err-start c =
    let gone = leaf_none c.args.types.now c.args.ty c.args.path.now c.args.self.now c.requires
    (let e = c.is_past.ensures in let h = c.if-is_past.false in let p = c.as_slice-indexes.ensures in cc)
    (let e = c.leaf.ensures in let h = c.in_err-start.was in let p = c.as_slice-indexes.ensures in cc) in
    rw (c.from_residual.ensures) gone

pub returns-in_err-part : goal.returns-in_err-part
returns-in_err-part c =
    let gone = type_none c.args.types.now c.args.ty c.args.path.now c.args.self.now c.requires
    (let e = c.is_past.ensures in let h = c.if-is_past.false in let p = c.as_slice-indexes.ensures in cc)
    (let e = c.reached_type.ensures in let h = c.in_err-part.was in let p = c.as_slice-indexes.ensures in cc) in
    rw (c.from_residual-in_err-part.ensures) gone

pub overflow_sub-cells : goal.overflow_sub-cells
overflow_sub-cells c =
    let cells : c.len-cells.result ≡ length (leaves c.args.self.now) = let e = c.len-cells.ensures in let v = c.self.view_is in cc in
    let short : length (leaves c.args.self.now) < 2 ^ 64 = subst (λ (n : ℕ). n < 2 ^ 64) cells c.len-cells.type_inv in
    subst (λ (n : ℕ). c.in_ok-start.start ≤ n) (sym cells) (start_within c.args.types.now c.args.ty c.args.path.now c.args.self.now c.in_ok-start.start c.in_ok-part.part c.requires
    (let e = c.is_past.ensures in let h = c.if-is_past.false in let p = c.as_slice-indexes.ensures in cc) short
    (let e = c.leaf.ensures in let h = c.in_ok-start.was in let p = c.as_slice-indexes.ensures in cc)
    (let e = c.reached_type.ensures in let h = c.in_ok-part.was in let p = c.as_slice-indexes.ensures in cc))

pub returns : goal.returns
returns c =
    let cells : c.len-cells.result ≡ length (leaves c.args.self.now) = let e = c.len-cells.ensures in let v = c.self.view_is in cc in
    let short : length (leaves c.args.self.now) < 2 ^ 64 = subst (λ (n : ℕ). n < 2 ^ 64) cells c.len-cells.type_inv in
    let long : option_map_or saturated (cells_of c.args.types.now c.in_ok-part.part) (length (leaves c.args.self.now) - c.in_ok-start.start) ≡ c.part_len-len.result = let e = c.part_len-len.ensures in cc in
    subst (λ (n : ℕ). IsRowAt c.args.self.now c.args.path.now c.in_ok-start.start n) long
    (row_at c.args.self.now c.args.path.now c.in_ok-start.start _ (row_there c.args.types.now c.args.ty c.args.path.now c.args.self.now c.in_ok-start.start c.in_ok-part.part c.requires
    (let e = c.is_past.ensures in let h = c.if-is_past.false in let p = c.as_slice-indexes.ensures in cc) short
    (let e = c.leaf.ensures in let h = c.in_ok-start.was in let p = c.as_slice-indexes.ensures in cc)
    (let e = c.reached_type.ensures in let h = c.in_ok-part.was in let p = c.as_slice-indexes.ensures in cc)))
