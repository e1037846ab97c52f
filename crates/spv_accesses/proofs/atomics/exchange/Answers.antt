use Rattle.std.proofs.Common.{Some, subst, sym}
use Rattle.spv_base.specs.declared.values.Pointer.{Pointer as Reference}
use Rattle.spv_base.specs.declared.values.Value.{Scalar}
use Rattle.spv_types.specs.Laws.{AreSound}
use Rattle.spv_mem.specs.Memory.{Held as Memory, IsMemory}
use Rattle.spv_valid.specs.Acceptance.{Accepted}
use Rattle.spv_results.proofs.Exports.{sound_types}
use Rattle.spv_sites.specs.Fits.{StoreFits}
use Rattle.spv_accesses.proofs.AtomicLemmas.{exchange_fits}
use Rattle.spv_sites.proofs.Exports.{result_fits, result_rooted}
use Rattle.spv_state.specs.State.{frames_of}
use Rattle.spv_accesses.proofs.atomics.exchange.Goals as goal

pub returns-clause-fits : goal.returns-clause-fits
returns-clause-fits c =
    let sound = (subst (λ (a : Accepted). AreSound a.types) c.accepted.ensures (sound_types c.accepted.result.now c.insts-insts.ensures.valid)) in
    record {
      store = subst (λ (q : Reference). StoreFits c.args.site.now.state c.args.site.now.inv (Some (q, c.put.new.row))) (sym c.in_ok-store.ensures)
          (exchange_fits c.args.site.now c.args.target c.requires.target (subst (λ (m : Memory). ∥ IsMemory m ∥₁) c.memory.ensures c.variables_are_shaped.ensures) c.args.new c.put.new.row c.in_ok-put.ensures c.is_lane.ensures c.requires.width);
      result = result_fits c.args.site.now.program.accepted c.args.site.now.inst (Scalar c.args.target.1) sound c.requires.result;
      control = c.requires.next;
      rooted = result_rooted c.args.site.now.program.accepted (frames_of c.args.site.now.state c.args.site.now.inv) c.args.site.now.inst (Scalar c.args.target.1) sound c.requires.result;
      passed = tt;
    }
