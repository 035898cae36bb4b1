-- Some customer of the district has the name exactly where some of all has it there.
use Rattle.std.proofs.Common.{ap, ◌∙◌}
use Rattle.std.specs.List.{list_any}
use Rattle.hy_commands.specs.Customers.{is_named}
use Rattle.hy_sound.proofs.CustomerLaws.{any-named}
use Rattle.hy_sound.proofs.customers.is_name_among.Goals as goal

pub returns : goal.returns
returns c =
    c.some_has_name.ensures
    ∙ ap (list_any (is_named c.args.warehouse c.args.district c.args.name.now)) c.customers_of-rows.ensures
    ∙ any-named c.args.warehouse c.args.district c.args.name.now c.args.load.now.tables.customers
