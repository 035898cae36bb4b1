use Rattle.std.proofs.Common.{ap, codes}
use Rattle.std.proofs.lemmas.Result.{IfOk-weaker}
use Rattle.clap.specs.Simple.{App, with_subcommand}
use Rattle.hy_cli.specs.CommandLine.{bare_app, check_parameters, command_of, first_parameters, generate_parameters, query_parameters, recover_parameters, script_parameters, serve_parameters, storm_parameters}
use Rattle.hy_cli.proofs.ProgramLaws.{adds_command}
use Rattle.hy_cli.proofs.program.program.Goals as goal

pub returns : goal.returns
returns c =
    let first = command_of (codes "first") first_parameters in
    let generate = command_of (codes "gen") generate_parameters in
    let check = command_of (codes "check") check_parameters in
    let script = command_of (codes "script") script_parameters in
    let serve = command_of (codes "serve") serve_parameters in
    let query = command_of (codes "query") query_parameters in
    let storm = command_of (codes "storm") storm_parameters in
    let recover = command_of (codes "recover") recover_parameters in
    let with_first = with_subcommand bare_app first in
    let with_generate = with_subcommand with_first generate in
    let with_check = with_subcommand with_generate check in
    let with_script = with_subcommand with_check script in
    let with_serve = with_subcommand with_script serve in
    let with_query = with_subcommand with_serve query in
    let with_storm = with_subcommand with_query storm in
    let one = adds_command bare_app first c.bare.result c.in_ok-first.field-0 c.in_ok-subcommand.field-0 c.bare.ensures c.in_ok-first.ensures c.in_ok-subcommand.ensures in
    let two = adds_command with_first generate c.in_ok-subcommand.field-0 c.in_ok-generate.field-0 c.in_ok-subcommand-2.field-0 one c.in_ok-generate.ensures c.in_ok-subcommand-2.ensures in
    let three = adds_command with_generate check c.in_ok-subcommand-2.field-0 c.in_ok-check.field-0 c.in_ok-subcommand-3.field-0 two c.in_ok-check.ensures c.in_ok-subcommand-3.ensures in
    let four = adds_command with_check script c.in_ok-subcommand-3.field-0 c.in_ok-script.field-0 c.in_ok-subcommand-4.field-0 three c.in_ok-script.ensures c.in_ok-subcommand-4.ensures in
    let five = adds_command with_script serve c.in_ok-subcommand-4.field-0 c.in_ok-serve.field-0 c.in_ok-subcommand-5.field-0 four c.in_ok-serve.ensures c.in_ok-subcommand-5.ensures in
    let six = adds_command with_serve query c.in_ok-subcommand-5.field-0 c.in_ok-query.field-0 c.in_ok-subcommand-6.field-0 five c.in_ok-query.ensures c.in_ok-subcommand-6.ensures in
    let seven = adds_command with_query storm c.in_ok-subcommand-6.field-0 c.in_ok-storm.field-0 c.in_ok-subcommand-7.field-0 six c.in_ok-storm.ensures c.in_ok-subcommand-7.ensures in
    IfOk-weaker c.subcommand-8.result _ _
    (λ command added.
    let eight = adds_command with_storm recover c.in_ok-subcommand-7.field-0 c.in_ok-recover.field-0 command seven c.in_ok-recover.ensures added in
    (eight.0, eight.1, ap (λ (a : App). a.top.subcommand_required) eight.0)) c.subcommand-8.ensures
