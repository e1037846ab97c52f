use Rattle.std.proofs.Common.{◌≡◌, ◌≤◌, ap, length, subst, sym}
use Rattle.spv_make.specs.Inputs.{setup_for}
use Rattle.spv_make.specs.declared.making.Made.{Made}
use Rattle.spv_app.specs.Limits.{setup_limit}
use Rattle.spv_app.proofs.Makings.{setup_fits}
use Rattle.spv_app.proofs.making.making.Goals as goal

pub transcript_of-requires : goal.transcript_of-requires
transcript_of-requires g c =
    let made = ap (λ (m : Made). m.setup) c.in_ok-module.ensures.made in
    let vec = c.into_vec-2.ensures in
    let is = c.in_ok-module.setup-is in
    let same : c.into_vec-2.result.items ≡ setup_for c.args.number = cc in
    record { fits = subst (λ xs. length xs ≤ setup_limit) (sym same) (setup_fits c.args.number c.requires.high) }
