use Rattle.std.proofs.Common.{◌∙◌, ◌+◌, Option, arith, sym, subst}
use Rattle.std.proofs.lemmas.Result.{on_ok_weaker}
use Rattle.spv_base.specs.declared.values.Value.{Value}
use Rattle.spv_sites.specs.Effects.{Control}
use Rattle.spv_sites.specs.Fits.{ControlFits, ControlRooted, ResultFits, ResultRooted}
use Rattle.spv_sites.specs.Planned.{gained, gone, shown}
use Rattle.spv_journal.specs.Held.{Records}
use Rattle.spv_state.specs.State.{State, frames_of}
use Rattle.spv_machine.specs.Reached.{IsReached}
use Rattle.spv_machine.specs.Recording.{control_entries, effect_entries, store_entries}
use Rattle.spv_machine.specs.Step.{apply}
use Rattle.spv_machine.specs.Weights.{taking}
use Rattle.spv_machine.proofs.Applied.{applied_is, control_stays, stored_passed, stored_rooted}
use Rattle.spv_machine.proofs.Recording.{records_more, records_on}
use Rattle.spv_machine.proofs.ReachedLemmas.{Facts, carried_behind, facts, given_behind, held_behind, set_reached, stored_reached}
use Rattle.spv_machine.proofs.applying.apply.Goals as goal

pub put_result-requires-clause-reached : goal.put_result-requires-clause-reached
put_result-requires-clause-reached c =
    let p = c.args.m.now in
    let d = c.args.inst.now in
    subst (λ (x : State). IsReached p x c.args.inv d) (sym c.in_ok-put_store.ensures.store) (stored_reached p c.args.recorded.now.state c.args.inv d (shown c.args.effect c.args.row.now).store c.requires.fits.store c.requires.reached)

pub put_result-requires-clause-fits : goal.put_result-requires-clause-fits
put_result-requires-clause-fits c =
    let e = c.args.effect in
    let held = held_behind c.args.recorded.now.state c.args.inv e.store e.gain c.args.row.now c.put_store.new.row c.requires.taken.0 c.put_store.ensures.row c.in_ok-put_store.ensures.handed in
    subst (ResultFits c.args.m.now.accepted c.args.inst.now) (sym held.1) c.requires.fits.result

pub put_result-requires-clause-held : goal.put_result-requires-clause-held
put_result-requires-clause-held c =
    let e = c.args.effect in
    (held_behind c.args.recorded.now.state c.args.inv e.store e.gain c.args.row.now c.put_store.new.row c.requires.taken.0 c.put_store.ensures.row c.in_ok-put_store.ensures.handed).0

pub go-requires-clause-reached : goal.go-requires-clause-reached
go-requires-clause-reached c =
    let p = c.args.m.now in
    let d = c.args.inst.now in
    let e = c.args.effect in
    let first : IsReached p c.put_store.new.recorded.state c.args.inv d
    = subst (λ (x : State). IsReached p x c.args.inv d) (sym c.in_ok-put_store.ensures.store) (stored_reached p c.args.recorded.now.state c.args.inv d (shown e c.args.row.now).store c.requires.fits.store c.requires.reached) in
    let held = held_behind c.args.recorded.now.state c.args.inv e.store e.gain c.args.row.now c.put_store.new.row c.requires.taken.0 c.put_store.ensures.row c.in_ok-put_store.ensures.handed in
    let known : Facts p.accepted = facts p.accepted c.accepted-accepted.result.now c.accepted-accepted.ensures.module c.insts-insts.ensures.accepted c.insts-insts.ensures.valid in
    subst (λ (x : State). IsReached p x c.args.inv d) (sym c.in_ok-put_result.ensures.result)
    (set_reached p known.known c.put_store.new.recorded.state c.args.inv d (gained e.gain c.put_store.new.row) first (subst (ResultFits p.accepted d) (sym held.1) c.requires.fits.result)
    (subst (ResultRooted p.accepted (frames_of c.put_store.new.recorded.state c.args.inv)) (sym held.1)
    (stored_rooted p.accepted c.args.recorded.now.state c.put_store.new.recorded.state c.args.inv (shown e c.args.row.now).store (gained e.gain c.args.row.now) c.in_ok-put_store.ensures.store c.requires.fits.rooted)))

pub go-requires-clause-fits : goal.go-requires-clause-fits
go-requires-clause-fits c =
    let e = c.args.effect in
    let given = given_behind c.args.recorded.now.state c.args.inv e.store e.gain c.args.row.now c.put_store.new.row c.put_result.new.row e.control c.requires.taken.1 c.put_store.ensures.row c.put_result.ensures.row in
    subst (ControlFits c.args.m.now.accepted c.args.inst.now) (sym given) c.requires.fits.control

pub go-requires-clause-carried : goal.go-requires-clause-carried
go-requires-clause-carried c =
    let e = c.args.effect in
    carried_behind c.args.recorded.now.state c.args.inv e.store e.gain c.args.row.now c.put_store.new.row c.put_result.new.row e.control c.requires.taken.1 c.put_store.ensures.row c.put_result.ensures.row

pub go-requires-clause-rooted : goal.go-requires-clause-rooted
go-requires-clause-rooted c =
    let a = c.args.m.now.accepted in
    let i = c.args.inv in
    let e = c.args.effect in
    let v = c.args.row.now in
    let s = c.args.recorded.now.state in
    let given = given_behind s i e.store e.gain v c.put_store.new.row c.put_result.new.row e.control c.requires.taken.1 c.put_store.ensures.row c.put_result.ensures.row in
    let stored = stored_passed a s c.put_store.new.recorded.state i (shown e v).store (gone e.control v) c.in_ok-put_store.ensures.store c.requires.fits.passed in
    let put = control_stays a c.put_store.new.recorded.state i c.args.inst.now.id (gained e.gain c.put_store.new.row) (gone e.control v) stored in
    subst (ControlRooted a (frames_of c.put_result.new.recorded.state i)) (sym given)
    (subst (λ (x : State). ControlRooted a (frames_of x i) (gone e.control v)) (sym c.in_ok-put_result.ensures.result) put)

pub returns : goal.returns
returns c =
    let p = c.args.m.now in
    let a = p.accepted in
    let i = c.args.inv in
    let d = c.args.inst.now in
    let e = c.args.effect in
    let v = c.args.row.now in
    let s = c.args.recorded.now.state in
    let s2 = c.put_result.new.recorded.state in
    let held = held_behind s i e.store e.gain v c.put_store.new.row c.requires.taken.0 c.put_store.ensures.row c.in_ok-put_store.ensures.handed in
    let given = given_behind s i e.store e.gain v c.put_store.new.row c.put_result.new.row e.control c.requires.taken.1 c.put_store.ensures.row c.put_result.ensures.row in
    let applied = applied_is p i d e v c.put_store.new.row c.put_result.new.row s c.put_store.new.recorded.state s2 c.in_ok-put_store.ensures.store c.in_ok-put_result.ensures.result held.1 given in
    let one = c.put_store.ensures.recorded in
    let two = subst (λ (o : Option Value). Records (taking o) c.put_store.new.recorded c.put_result.new.recorded) held.1 c.put_result.ensures.recorded in
    let gone_as = subst (λ (x : State). Records (control_entries a i (gone e.control c.put_result.new.row) x) c.put_result.new.recorded c.go.new.recorded) applied c.go.ensures.recorded in
    let three = subst (λ (x : Control). Records (control_entries a i x (apply p i d (shown e v) s)) c.put_result.new.recorded c.go.new.recorded) given gone_as in
    let n = store_entries (shown e v).store in
    let m = taking (gained e.gain v) in
    record {
      ok = on_ok_weaker c.go.result (λ gone. gone ∙ applied) c.go.ensures.ok;
      recorded = records_on (n + m) (control_entries a i (gone e.control v) (apply p i d (shown e v) s)) c.args.recorded.now c.put_result.new.recorded c.go.new.recorded
          (records_on n m c.args.recorded.now c.put_store.new.recorded c.put_result.new.recorded one two) three;
    }

pub returns-in_err-put_store-clause-recorded : goal.returns-in_err-put_store-clause-recorded
returns-in_err-put_store-clause-recorded c =
    let a = c.args.m.now.accepted in
    let e = shown c.args.effect c.args.row.now in
    let t = apply c.args.m.now c.args.inv c.args.inst.now e c.args.recorded.now.state in
    records_more (store_entries e.store) (effect_entries a c.args.inv e t) c.args.recorded.now c.put_store.new.recorded (omega arith) c.put_store.ensures.recorded

pub returns-in_err-put_result-clause-recorded : goal.returns-in_err-put_result-clause-recorded
returns-in_err-put_result-clause-recorded c =
    let a = c.args.m.now.accepted in
    let i = c.args.inv in
    let e = c.args.effect in
    let v = c.args.row.now in
    let s = c.args.recorded.now.state in
    let t = apply c.args.m.now i c.args.inst.now (shown e v) s in
    let held = held_behind s i e.store e.gain v c.put_store.new.row c.requires.taken.0 c.put_store.ensures.row c.in_ok-put_store.ensures.handed in
    let one = c.put_store.ensures.recorded in
    let two = subst (λ (o : Option Value). Records (taking o) c.put_store.new.recorded c.put_result.new.recorded) held.1 c.put_result.ensures.recorded in
    let n = store_entries (shown e v).store in
    let m = taking (gained e.gain v) in
    records_more (n + m) (effect_entries a i (shown e v) t) c.args.recorded.now c.put_result.new.recorded (omega arith) (records_on n m c.args.recorded.now c.put_store.new.recorded c.put_result.new.recorded one two)
