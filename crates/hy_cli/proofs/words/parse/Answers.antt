use Rattle.std.proofs.Common.{◌≡◌, true, [], IfErr, IfOk, refl, subst, sym}
use Rattle.std.proofs.lemmas.Result.{IfOk-weaker}
use Rattle.clap.specs.Faults.{fault_of, is_simple_and_free}
use Rattle.clap.specs.Words.{App, HasKind, has_subcommand, is_simple, subcommand_of, subcommand_rows_of}
use Rattle.hy_cli.specs.CommandLine.{program_app, texts_of}
use Rattle.hy_cli.proofs.ParameterLaws.{known_found}
use Rattle.hy_cli.proofs.words.parse.Goals as goal

pub parse_by-requires-clause-simple : goal.parse_by-requires-clause-simple
parse_by-requires-clause-simple c = subst (λ (a : App). is_simple a ≡ true) (sym c.in_ok-program.ensures.0) refl

pub parse_by-requires-clause-free : goal.parse_by-requires-clause-free
parse_by-requires-clause-free c = subst (λ (a : App). is_simple_and_free a ≡ true) (sym c.in_ok-program.ensures.0) refl

pub returns-clause-ok : goal.returns-clause-ok
returns-clause-ok c =
    let words = texts_of c.args.words.now in
    subst (λ (a : App). IfOk c.parse_by.result (λ matches. (fault_of a words ≡ []) × (subcommand_rows_of matches ≡ subcommand_of a words) × (has_subcommand matches ≡ true)))
    c.in_ok-program.ensures.0 c.parse_by.ensures.ok

pub returns-clause-known : goal.returns-clause-known
returns-clause-known c =
    let words = texts_of c.args.words.now in
    let found = subst (λ (a : App). IfOk c.parse_by.result (λ matches. (fault_of a words ≡ []) × (subcommand_rows_of matches ≡ subcommand_of a words) × (has_subcommand matches ≡ true)))
    c.in_ok-program.ensures.0 c.parse_by.ensures.ok in
    known_found words c.parse_by.result
    (IfOk-weaker c.parse_by.result (λ matches. (fault_of program_app words ≡ []) × (subcommand_rows_of matches ≡ subcommand_of program_app words) × (has_subcommand matches ≡ true))
    (λ matches. (fault_of program_app words ≡ []) × (subcommand_rows_of matches ≡ subcommand_of program_app words)) (λ matches is. (is.0, is.1)) found)

pub returns-clause-err : goal.returns-clause-err
returns-clause-err c =
    let words = texts_of c.args.words.now in
    subst (λ (a : App). IfErr c.parse_by.result (HasKind (fault_of a words))) c.in_ok-program.ensures.0 c.parse_by.ensures.err
