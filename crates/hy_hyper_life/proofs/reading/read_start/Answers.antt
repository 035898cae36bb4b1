-- The log can't be read, behind the nine files.
use Rattle.std.proofs.Common.{Option, map, subst}
use Rattle.hy_files.specs.Files.{FilesByPath}
use Rattle.hy_hyper_life.specs.Faults.{IsLogUnread}
use Rattle.hy_hyper_life.proofs.ReadLaws.{log-unread}
use Rattle.hy_hyper_life.proofs.reading.read_start.Goals as goal

pub returns-in-Err-clause-fault : goal.returns-in-Err-clause-fault
returns-in-Err-clause-fault g c =
    let path = g.F.Held.HeldLog.path c.args.held.now in
    log-unread (g.F.FileSystem.files c.args.system.now) c.args.directory.now path c.in-Err.unread
    (map (λ text. text.items) c.in_ok-texts.texts.items, c.in_ok-texts.ensures.texts)
    (subst (λ (files : Option FilesByPath). IsLogUnread files path c.in-Err.unread) c.read_texts.ensures.files
    c.in-Err.ensures.fault)
