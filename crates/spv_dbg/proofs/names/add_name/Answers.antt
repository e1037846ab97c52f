use Rattle.std.proofs.Common.{◌∙◌, Some, sym}
use Rattle.spv_dbg.proofs.NameLemmas.{put_new, updated}
use Rattle.spv_dbg.proofs.names.add_name.Goals as goal

pub returns : goal.returns
returns c = λ file.
    let name = c.in-Some.name.now in
    let taken = rw c.bytes.ensures at (sym c.if-contains_key.ensures) in
    let key = c.in_ok-from_slice.ensures.items ∙ c.bytes-2.ensures in
    let new = rw key at (updated c.in_ok-from_slice.field-0.items c.args.names.now c.insert.new.self (Some c.args.number) c.in_ok-insert.ensures.updates file) in
    put_new c.args.strings.now c.args.id c.args.number name file c.args.names.now c.insert.new.self (sym c.in-Some.ensures) taken new
