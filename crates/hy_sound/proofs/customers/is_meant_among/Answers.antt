-- The one who is meant is there where some customer passes.
use Rattle.std.proofs.Common.{is_some, sym, ap, ◌∙◌}
use Rattle.std.specs.List.{list_any}
use Rattle.hy_rows.specs.Tables.{of_warehouse}
use Rattle.hy_commands.specs.declared.command.Who.{Who}
use Rattle.hy_commands.specs.inside.Named.{who_of}
use Rattle.hy_commands.specs.Customers.{customer_meant, is_named}
use Rattle.hy_sound.proofs.CustomerLaws.{meant-name, meant-number}
use Rattle.hy_sound.proofs.customers.is_meant_among.Goals as goal

pub returns-in-Number : goal.returns-in-Number
returns-in-Number c =
    c.is_number_among.ensures
    ∙ meant-number c.args.customer.warehouse c.args.customer.district c.args.load.now.tables.customers c.in-Number.number
    ∙ ap (λ (w : Who). is_some (customer_meant c.args.customer.warehouse c.args.customer.district w (of_warehouse c.args.customer.warehouse c.args.load.now.tables).customers))
    (sym (ap who_of c.in-Number.is))

pub returns-in-Last : goal.returns-in-Last
returns-in-Last c =
    c.is_name_among.ensures
    ∙ ap (λ name. list_any (is_named c.args.customer.warehouse c.args.customer.district name) c.args.load.now.tables.customers) c.as_bytes.ensures
    ∙ meant-name c.args.customer.warehouse c.args.customer.district c.args.load.now.tables.customers c.in-Last.name.now
    ∙ ap (λ (w : Who). is_some (customer_meant c.args.customer.warehouse c.args.customer.district w (of_warehouse c.args.customer.warehouse c.args.load.now.tables).customers))
    (sym (ap who_of c.in-Last.is))
