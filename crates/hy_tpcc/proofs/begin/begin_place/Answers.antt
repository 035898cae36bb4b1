use Rattle.std.proofs.Common.{◌≡◌, ◌==◌, None, Some, subst}
use Rattle.hy_commands.specs.Commands.{refusal_of_numbers}
use Rattle.hy_writers.specs.of_store.Writes.{stored_in}
use Rattle.hy_tpcc.proofs.BeginLaws.{customer-home, not-refused, refused-customer, refused-numbers}
use Rattle.hy_tpcc.proofs.begin.begin_place.Goals as goal

pub customer_place-requires : goal.customer_place-requires
customer_place-requires g c =
    customer-home c.args.layout.now.warehouse c.args.command.now
    (subst (λ home. refusal_of_numbers (λ named. named == home) c.args.command.now ≡ None) c.warehouse.ensures
    c.in_ok-check_at.ensures.passed)

pub returns-in_err-check_at-clause-refused : goal.returns-in_err-check_at-clause-refused
returns-in_err-check_at-clause-refused g c =
    refused-numbers c.args.layout.now.warehouse c.args.command.now (stored_in g.row.N c.args.space.now).tables
    c.from_residual.result c.in_err-check_at.field-0.0 c.from_residual.ensures.1
    (subst (λ home. refusal_of_numbers (λ named. named == home) c.args.command.now ≡ Some c.in_err-check_at.field-0.0)
    c.warehouse.ensures c.in_err-check_at.ensures.refused)

pub returns-in-Some-clause-begun : goal.returns-in-Some-clause-begun
returns-in-Some-clause-begun g c =
    not-refused c.args.layout.now.warehouse c.args.command.now (stored_in g.row.N c.args.space.now).tables
    (subst (λ home. refusal_of_numbers (λ named. named == home) c.args.command.now ≡ None) c.warehouse.ensures
    c.in_ok-check_at.ensures.passed)
    (c.in-Some.ensures (stored_in g.row.N c.args.space.now).tables c.requires.sound.places).0

pub returns-in-None-clause-refused : goal.returns-in-None-clause-refused
returns-in-None-clause-refused g c =
    refused-customer c.args.layout.now.warehouse c.args.command.now (stored_in g.row.N c.args.space.now).tables
    (subst (λ home. refusal_of_numbers (λ named. named == home) c.args.command.now ≡ None) c.warehouse.ensures
    c.in_ok-check_at.ensures.passed)
    (c.in-None.ensures (stored_in g.row.N c.args.space.now).tables c.requires.sound.places)
