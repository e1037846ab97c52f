use Rattle.std.proofs.Common.{◌≡◌, ◌∙◌, ap, length}
use Rattle.std.specs.Prelude.{max}
use Rattle.spv_base.specs.declared.values.Value.{Value}
use Rattle.spv_types.specs.Rows.{leaves}
use Rattle.spv_undo.specs.declared.entries.OldPart.{OldPart}
use Rattle.spv_undo.proofs.Exports.{may_at, there_at, undoes_at}
use Rattle.spv_journal.proofs.noting.part_entry.Goals as goal

pub returns : goal.returns
returns c =
    let m = c.args.whole.now.memory in
    let p = c.args.pointer.now in
    let box = c.in_ok-new.field-0.value in
    let place : box.place ≡ p = ap (λ (o : OldPart). o.place) c.in_ok-new.ensures.ok ∙ c.in_ok-copy.ensures in
    let value : box.row ≡ c.args.row.now = ap (λ (o : OldPart). o.row) c.in_ok-new.ensures.ok ∙ c.in_ok-of_part.ensures ∙ c.as_part.ensures in
    record {
      undoes = record {
        back = undoes_at c.args.i p box.place c.args.row.now box.row c.args.whole.now place value;
        can = (there_at m c.args.i p box.place place c.requires.there, may_at m c.args.i p box.place c.args.row.now box.row place value c.requires.may);
      };
      counts = ap (λ (v : Value). max 1 (length (leaves v))) value;
    }
