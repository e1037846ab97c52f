use Rattle.std.proofs.Common.{◌∙◌, sym, ap, refl}
use Rattle.spv_index.specs.Positions.{Stand}
use Rattle.spv_scopes.specs.declared.heads.Found.{Found}
use Rattle.spv_scopes.specs.Heads.{key_of}
use Rattle.spv_scopes.proofs.FoundLemmas.{found_heads_key, found_key}
use Rattle.spv_scopes.proofs.heads.Found.add.Goals as goal

pub returns-clause-found : goal.returns-clause-found
returns-clause-found c = λ passed found.
    let t = c.args.tables.now in
    let stand = c.args.stand.now in
    let s : Stand = record { position = stand.position; class = stand.class; inst = stand.inst.now } in
    let k = c.in_ok-key.ensures in
    let put = c.in_ok-add_stop.ensures in
    found_key t c.args.spots.now passed s c.args.self.now c.key_of.new.files c.in_ok-key.key _ (sym c.is_executable.ensures ∙ c.if-not-is_executable.false) k.files k.grows (k.key ∙ ap (key_of t) c.place-place.ensures) k.within put.files refl put.entries put.lines found

pub returns-clause-heads : goal.returns-clause-heads
returns-clause-heads c = λ passed found.
    let t = c.args.tables.now in
    let stand = c.args.stand.now in
    let s : Stand = record { position = stand.position; class = stand.class; inst = stand.inst.now } in
    let k = c.in_ok-key.ensures in
    let put = c.in_ok-add_stop.ensures in
    let after = c.add_stop.new.self in
    let new : Found = record after { before = c.in_ok-key.key } in
    found_heads_key t c.args.spots.now passed s c.args.self.now c.key_of.new.files c.in_ok-key.key new k.files k.grows (k.key ∙ ap (key_of t) c.place-place.ensures) k.within put.files put.entries found
