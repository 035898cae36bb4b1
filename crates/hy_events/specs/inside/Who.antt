-- A customer as a word says it.
use Rattle.hy_commands.specs.declared.command.Who.{Who}
use Rattle.hy_commands.specs.declared.command.Who.TheVariants as who
use Rattle.hy_events.specs.declared.command.WrittenWho.{WrittenWho}
use Rattle.hy_events.specs.declared.command.WrittenWho.TheVariants as written

-- the customer who is meant
abbrev pub who_written : WrittenWho → Who
who_written (written.Number number) = who.Number number
who_written (written.Last name) = who.Last name.now
