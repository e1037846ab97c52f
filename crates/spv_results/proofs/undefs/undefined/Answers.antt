use Rattle.std.proofs.Common.{◌≡◌, ◌∙◌, Some, ap, length, subst, sym}
use Rattle.spv_base.specs.Parts.{part_at}
use Rattle.spv_base.specs.declared.values.Value.{Value}
use Rattle.spv_mem.specs.Blanks.{blank_of}
use Rattle.spv_mem.specs.Targets.{Fits}
use Rattle.spv_types.specs.Rows.{leaves}
use Rattle.spv_types.specs.Types.{Types}
use Rattle.spv_results.specs.Operands.{IsResult}
use Rattle.spv_results.proofs.CopyCalls.{undefined_fills, undefined_fits, undefined_shape}
use Rattle.spv_results.proofs.undefs.undefined.Goals as goal

pub load-requires : goal.load-requires
load-requires c =
    let blank : blank_of c.args.accepted.now.types 0 c.args.inst.now.ty ≡ c.in_ok-blank.blank = sym (c.in_ok-blank.ensures ∙ ap (λ (ts : Types). blank_of ts 0 c.args.inst.now.ty) c.types.ensures) in
    subst (λ (ts : Types). ∥ Fits ts c.args.inst.now.ty c.in_ok-blank.blank ∥₁) (sym c.types-2.ensures)
    (subst (λ (v : Value). ∥ Fits c.args.accepted.now.types c.args.inst.now.ty v ∥₁) blank (undefined_fits c.args.accepted.now c.args.inst.now c.make_room.ensures.valid c.requires))

pub copy-requires : goal.copy-requires
copy-requires c =
    let whole : Some c.in-Some.part ≡ Some c.in_ok-blank.blank = sym c.in-Some.is ∙ c.load.ensures ∙ ap (part_at c.in_ok-blank.blank) c.new-whole.ensures in
    let part : c.in-Some.part ≡ c.in_ok-blank.blank = cc in
    let blank : c.in_ok-blank.blank ≡ blank_of c.args.accepted.now.types 0 c.args.inst.now.ty = c.in_ok-blank.ensures ∙ ap (λ (ts : Types). blank_of ts 0 c.args.inst.now.ty) c.types.ensures in
    c.in_ok-make_room.ensures.room ∙ undefined_fills c.args.accepted.now c.args.inst.now c.make_room.ensures.valid c.requires ∙ ap (λ (v : Value). length (leaves v)) (sym (part ∙ blank))

pub returns-clause-shape : goal.returns-clause-shape
returns-clause-shape c =
    let whole : Some c.in-Some.part ≡ Some c.in_ok-blank.blank = sym c.in-Some.is ∙ c.load.ensures ∙ ap (part_at c.in_ok-blank.blank) c.new-whole.ensures in
    let part : c.in-Some.part ≡ c.in_ok-blank.blank = cc in
    let blank : c.in_ok-blank.blank ≡ blank_of c.args.accepted.now.types 0 c.args.inst.now.ty = c.in_ok-blank.ensures ∙ ap (λ (ts : Types). blank_of ts 0 c.args.inst.now.ty) c.types.ensures in
    subst (IsResult c.args.accepted.now c.args.inst.now) (sym (c.copy.ensures.value ∙ part ∙ blank)) (undefined_shape c.args.accepted.now c.args.inst.now c.make_room.ensures.valid c.requires)
