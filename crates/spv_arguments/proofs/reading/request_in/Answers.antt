use Rattle.std.proofs.Common.{subst, ◌≡◌, ◌∙◌, Some, None, codes, sym}
use Rattle.std.specs.Str.Parse.{ParsesUnsigned, ExplainsUnsignedError, HasUnsignedDigitsIfOk}
use Rattle.clap.specs.Matches.{found_of}
use Rattle.clap.specs.Walk.{rows_of}
use Rattle.clap.specs.Words.{subcommand_rows_of}
use Rattle.clap.proofs.WalkLemmas.{one_text-rows}
use Rattle.spv_arguments.specs.Requests.{IsIn}
use Rattle.spv_arguments.specs.declared.request.Request.TheVariants.{Make}
use Rattle.spv_arguments.proofs.RequestLemmas as request
use Rattle.spv_arguments.proofs.reading.request_in.Goals as goal

pub returns-then-eq : goal.returns-then-eq
returns-then-eq c =
    let known : subcommand_rows_of c.args.matches.now ≡ Some (c.in_ok-command.command.now, rows_of (found_of c.in_ok-command.arguments.now)) =
    request.both_known _ _ _ _ _ c.in_ok-command.ensures.name c.in_ok-command.ensures.rows in
    request.asks_debug (subcommand_rows_of c.args.matches.now) c.in_ok-command.command.now (rows_of (found_of c.in_ok-command.arguments.now)) known c.requires (sym c.eq.ensures ∙ c.if-eq.true) _ _
    (request.value_known (found_of c.in_ok-command.arguments.now) (codes "MODULE") _ c.in_ok-get_str.ensures) (request.value_known (found_of c.in_ok-command.arguments.now) (codes "SETUP") _ c.in_ok-get_str-2.ensures)

pub returns-in_err-get_str : goal.returns-in_err-get_str
returns-in_err-get_str c =
    let known : subcommand_rows_of c.args.matches.now ≡ Some (c.in_ok-command.command.now, rows_of (found_of c.in_ok-command.arguments.now)) =
    request.both_known _ _ _ _ _ c.in_ok-command.ensures.name c.in_ok-command.ensures.rows in
    absurd (request.no_debug_module (subcommand_rows_of c.args.matches.now) c.in_ok-command.command.now (rows_of (found_of c.in_ok-command.arguments.now)) known c.requires (sym c.eq.ensures ∙ c.if-eq.true)
    (request.value_missing (found_of c.in_ok-command.arguments.now) (codes "MODULE") c.in_err-get_str.ensures))

pub returns-in_err-get_str-2 : goal.returns-in_err-get_str-2
returns-in_err-get_str-2 c =
    let known : subcommand_rows_of c.args.matches.now ≡ Some (c.in_ok-command.command.now, rows_of (found_of c.in_ok-command.arguments.now)) =
    request.both_known _ _ _ _ _ c.in_ok-command.ensures.name c.in_ok-command.ensures.rows in
    absurd (request.no_debug_setup (subcommand_rows_of c.args.matches.now) c.in_ok-command.command.now (rows_of (found_of c.in_ok-command.arguments.now)) known c.requires (sym c.eq.ensures ∙ c.if-eq.true) _
    (request.value_known (found_of c.in_ok-command.arguments.now) (codes "MODULE") _ c.in_ok-get_str.ensures) (request.value_missing (found_of c.in_ok-command.arguments.now) (codes "SETUP") c.in_err-get_str-2.ensures))

pub returns-then-eq-2 : goal.returns-then-eq-2
returns-then-eq-2 c =
    let known : subcommand_rows_of c.args.matches.now ≡ Some (c.in_ok-command.command.now, rows_of (found_of c.in_ok-command.arguments.now)) =
    request.both_known _ _ _ _ _ c.in_ok-command.ensures.name c.in_ok-command.ensures.rows in
    request.asks_check (subcommand_rows_of c.args.matches.now) c.in_ok-command.command.now (rows_of (found_of c.in_ok-command.arguments.now)) known c.requires (sym c.eq-2.ensures ∙ c.if-eq-2.true) _
    (request.value_known (found_of c.in_ok-command.arguments.now) (codes "MODULE") _ c.in_ok-get_str-3.ensures)

pub returns-in_err-get_str-3 : goal.returns-in_err-get_str-3
returns-in_err-get_str-3 c =
    let known : subcommand_rows_of c.args.matches.now ≡ Some (c.in_ok-command.command.now, rows_of (found_of c.in_ok-command.arguments.now)) =
    request.both_known _ _ _ _ _ c.in_ok-command.ensures.name c.in_ok-command.ensures.rows in
    absurd (request.no_check_module (subcommand_rows_of c.args.matches.now) c.in_ok-command.command.now (rows_of (found_of c.in_ok-command.arguments.now)) known c.requires (sym c.eq-2.ensures ∙ c.if-eq-2.true)
    (request.value_missing (found_of c.in_ok-command.arguments.now) (codes "MODULE") c.in_err-get_str-3.ensures))

pub returns-then-eq-4 : goal.returns-then-eq-4
returns-then-eq-4 c =
    let known : subcommand_rows_of c.args.matches.now ≡ Some (c.in_ok-command.command.now, rows_of (found_of c.in_ok-command.arguments.now)) =
    request.both_known _ _ _ _ _ c.in_ok-command.ensures.name c.in_ok-command.ensures.rows in
    request.asks_text (subcommand_rows_of c.args.matches.now) c.in_ok-command.command.now (rows_of (found_of c.in_ok-command.arguments.now)) known c.requires (sym c.eq-4.ensures ∙ c.if-eq-4.true) _
    (request.value_known (found_of c.in_ok-command.arguments.now) (codes "MODULE") _ c.in_ok-get_str-4.ensures)

pub returns-in_err-get_str-4 : goal.returns-in_err-get_str-4
returns-in_err-get_str-4 c =
    let known : subcommand_rows_of c.args.matches.now ≡ Some (c.in_ok-command.command.now, rows_of (found_of c.in_ok-command.arguments.now)) =
    request.both_known _ _ _ _ _ c.in_ok-command.ensures.name c.in_ok-command.ensures.rows in
    absurd (request.no_text_module (subcommand_rows_of c.args.matches.now) c.in_ok-command.command.now (rows_of (found_of c.in_ok-command.arguments.now)) known c.requires (sym c.eq-4.ensures ∙ c.if-eq-4.true)
    (request.value_missing (found_of c.in_ok-command.arguments.now) (codes "MODULE") c.in_err-get_str-4.ensures))

pub returns-then-eq-3 : goal.returns-then-eq-3
returns-then-eq-3 c =
    let known : subcommand_rows_of c.args.matches.now ≡ Some (c.in_ok-command.command.now, rows_of (found_of c.in_ok-command.arguments.now)) =
    request.both_known _ _ _ _ _ c.in_ok-command.ensures.name c.in_ok-command.ensures.rows in
    let number = request.reads_number (subcommand_rows_of c.args.matches.now) c.in_ok-command.command.now (rows_of (found_of c.in_ok-command.arguments.now)) known c.requires
    (λ bs r. ParsesUnsigned 32 10 bs r × ExplainsUnsignedError 10 bs r × HasUnsignedDigitsIfOk bs r) (λ u x g. g.0) (sym c.eq-3.ensures ∙ c.if-eq-3.true)
    (Some c.in_ok-get_one.field-0) (λ t e. c.in_ok-get_one.ensures.value t (one_text-rows (found_of c.in_ok-command.arguments.now) (codes "N") ∙ e)) in
    subst (λ n. IsIn (subcommand_rows_of c.args.matches.now) (Make n)) (request.some_is number.0 c.in_ok-get_one.field-0 number.1) number.2

pub returns-in_err-get_one : goal.returns-in_err-get_one
returns-in_err-get_one c =
    let known : subcommand_rows_of c.args.matches.now ≡ Some (c.in_ok-command.command.now, rows_of (found_of c.in_ok-command.arguments.now)) =
    request.both_known _ _ _ _ _ c.in_ok-command.ensures.name c.in_ok-command.ensures.rows in
    let number = request.reads_number (subcommand_rows_of c.args.matches.now) c.in_ok-command.command.now (rows_of (found_of c.in_ok-command.arguments.now)) known c.requires
    (λ bs r. ParsesUnsigned 32 10 bs r × ExplainsUnsignedError 10 bs r × HasUnsignedDigitsIfOk bs r) (λ u x g. g.0) (sym c.eq-3.ensures ∙ c.if-eq-3.true)
    None (λ t e. c.in_err-get_one.ensures.value t (one_text-rows (found_of c.in_ok-command.arguments.now) (codes "N") ∙ e)) in
    absurd (request.none_is number.0 number.1)
