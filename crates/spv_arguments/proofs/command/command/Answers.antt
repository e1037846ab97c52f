use Rattle.std.proofs.Common.{rules, ◌≡◌, ◌∙◌, ap, ap₂, codes}
use Rattle.std.proofs.lemmas.Result.{IfOk-weaker}
use Rattle.clap.specs.Words.{App, app_of, new_app, with_subcommand}
use Rattle.spv_arguments.specs.CommandLine.{spvdbg, with_required_subcommand}
use Rattle.spv_arguments.proofs.command.command.Goals as goal

pub returns : goal.returns
unfolding spvdbg
returns c =
    let start : app_of c.subcommand_required.result ≡ with_required_subcommand (new_app (codes "spvdbg")) = search rules in
    let first = c.in_ok-subcommand.ensures.shape c.in_ok-debug_command.ensures.local ∙ ap₂ with_subcommand start (ap (λ (a : App). a.top) c.in_ok-debug_command.ensures.app) in
    let second = c.in_ok-subcommand-2.ensures.shape c.in_ok-check_command.ensures.local ∙ ap₂ with_subcommand first (ap (λ (a : App). a.top) c.in_ok-check_command.ensures.app) in
    let third = c.in_ok-subcommand-3.ensures.shape c.in_ok-make_command.ensures.local ∙ ap₂ with_subcommand second (ap (λ (a : App). a.top) c.in_ok-make_command.ensures.app) in
    IfOk-weaker c.subcommand-4.result _ _ (λ r h. h.shape c.in_ok-text_command.ensures.local ∙ ap₂ with_subcommand third (ap (λ (a : App). a.top) c.in_ok-text_command.ensures.app)) c.subcommand-4.ensures
