use Rattle.std.specs.Prelude.{◌≢◌, get_or}
use Rattle.std.proofs.Common.{rules}
use Rattle.hy_events.proofs.WhoLaws.{none-first, who-number}
use Rattle.hy_events.proofs.command.who.Goals as goal
use Rattle.hy_events.proofs.command.who.Goals.{else-not-is_empty-via-then-not-is_empty+else-word-eq61, else-not-is_empty-via-else-not-is_empty}

pub returns : goal.returns
returns c =
    let other : get_or c.args.word.now 0 0 ≢ 61 = elim c.else-not-is_empty.branch [
      | else-not-is_empty-via-then-not-is_empty+else-word-eq61 w ↦ search rules
      | else-not-is_empty-via-else-not-is_empty w ↦ none-first c.args.word.now (search rules)
    ] in
    let number = who-number c.args.word.now other in
    search (rules, number)
