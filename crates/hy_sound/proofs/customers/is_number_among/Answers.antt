-- Some customer of the district has the number exactly where some of all has it there.
use Rattle.std.proofs.Common.{ap, ◌∙◌}
use Rattle.std.specs.List.{list_any}
use Rattle.hy_rows.specs.Finding.{is_customer}
use Rattle.hy_sound.proofs.CustomerLaws.{any-numbered}
use Rattle.hy_sound.proofs.customers.is_number_among.Goals as goal

pub returns : goal.returns
returns c =
    c.some_has_number.ensures
    ∙ ap (list_any (is_customer c.args.warehouse c.args.district c.args.number)) c.customers_of-rows.ensures
    ∙ any-numbered c.args.warehouse c.args.district c.args.number c.args.load.now.tables.customers
