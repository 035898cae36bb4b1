-- What follows a storm and has acknowledged its last batch has all.
use Rattle.std.proofs.Common.{◌∙◌, sym}
use Rattle.hy_storm.proofs.LogLaws.{has-all}
use Rattle.hy_storm.proofs.logging.end_followed.Goals as goal

pub returns-clause-all : goal.returns-clause-all
returns-clause-all g c = λ nothing.
    has-all g.K.Loaded.load c.args.journal.now.list.log c.drain_last.new.log c.into_log.result c.drain_last.result
    c.follows.ensures.follows c.drain_last.ensures.well c.drain_last.ensures.due c.drain_last.ensures.seen
    c.into_log.ensures (sym c.err-unlogged.ensures.value ∙ nothing)
