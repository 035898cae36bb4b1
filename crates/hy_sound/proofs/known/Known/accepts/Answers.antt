-- Its numbers refuse a command, or the customer and the items decide.
use Rattle.std.proofs.Common.{◌≡◌, subst, None, Some, ap, sym, ◌∙◌}
use Rattle.hy_rows.specs.Tables.{Lists}
use Rattle.hy_rows.specs.Ranges.{is_between}
use Rattle.hy_commands.specs.Commands.{refusal_of_numbers}
use Rattle.hy_commands.specs.Transactions.{has_items}
use Rattle.hy_sound.proofs.KnownLaws.{known-rest, unknown-numbers}
use Rattle.hy_sound.proofs.known.Known.accepts.Goals as goal

pub returns-in-Err : goal.returns-in-Err
returns-in-Err c =
    unknown-numbers c.args.self.now c.args.command.now c.in-Err.field-0
    (subst (λ n. refusal_of_numbers (is_between 1 n) c.args.command.now ≡ Some c.in-Err.field-0) c.count.ensures.count
    c.in-Err.ensures.refused)

pub has_customer-requires : goal.has_customer-requires
has_customer-requires c =
    subst (λ n. refusal_of_numbers (is_between 1 n) c.args.command.now ≡ None) c.count.ensures.count
    c.in-Ok.ensures.passed

pub returns-then-has_customer : goal.returns-then-has_customer
returns-then-has_customer c =
    c.has_items.ensures
    ∙ ap (λ (lists : Lists). has_items lists.items c.args.command.now) c.self.view_is
    ∙ sym (known-rest c.args.self.now c.args.command.now
    (subst (λ n. refusal_of_numbers (is_between 1 n) c.args.command.now ≡ None) c.count.ensures.count
    c.in-Ok.ensures.passed) (sym c.if-has_customer.ensures))
