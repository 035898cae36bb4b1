-- What an answer to the command tells.
use Rattle.std.proofs.Common.{ℕ, List, slice_get, subst, sym}
use Rattle.std.specs.Prelude.{IfSome}
use Rattle.hy_forks.specs.of_partition.Headline.{Headline}
use Rattle.hy_forks.specs.of_partition.Jobs.{JobState}
use Rattle.hy_forks.specs.of_partition.Partition.{PartitionState}
use Rattle.hy_forks.specs.of_crossing.Crossings.{AllMayRun, Crosses}
use Rattle.hy_recovery.proofs.CrossedLaws.{all-may, enters-crossing, keeps-crossing, lacked}
use Rattle.hy_recovery.proofs.ResultLaws.{err-gives, ok-then}
use Rattle.hy_recovery.proofs.running.run_crossing.Goals as goal

pub returns-clause-kept : goal.returns-clause-kept
returns-clause-kept g c =
    let crosses = subst (λ (job : JobState). Crosses g.K.Loaded.load job c.args.journal.now.list.log
    c.cross-done.new.journal.list.log c.args.parts.now.items c.cross-done.new.parts.items c.cross-done.result)
    c.of_edition.ensures c.cross-done.ensures.crosses in
    ok-then c.pass_of.result _ _ c.pass_of.ensures.accepted (λ pass is.
    keeps-crossing g.K.Loaded.load c.args.edition c.args.number c.args.command c.args.pass c.args.journal.now.list.log
    c.cross-done.new.journal.list.log c.args.parts.now.items c.cross-done.new.parts.items c.cross-done.result
    c.requires.can crosses is.1)

pub returns-clause-log : goal.returns-clause-log
returns-clause-log g c =
    let crosses = subst (λ (job : JobState). Crosses g.K.Loaded.load job c.args.journal.now.list.log
    c.cross-done.new.journal.list.log c.args.parts.now.items c.cross-done.new.parts.items c.cross-done.result)
    c.of_edition.ensures c.cross-done.ensures.crosses in
    ok-then c.pass_of.result _ _ c.pass_of.ensures.accepted (λ pass is.
    enters-crossing g.K.Loaded.load c.args.edition c.args.number c.args.command c.args.pass c.args.journal.now.list.log
    c.cross-done.new.journal.list.log c.args.parts.now.items c.cross-done.new.parts.items c.cross-done.result
    c.requires.can crosses is.1)

pub returns-clause-refused : goal.returns-clause-refused
returns-clause-refused g c =
    let crosses = subst (λ (job : JobState). Crosses g.K.Loaded.load job c.args.journal.now.list.log
    c.cross-done.new.journal.list.log c.args.parts.now.items c.cross-done.new.parts.items c.cross-done.result)
    c.of_edition.ensures c.cross-done.ensures.crosses in
    err-gives c.pass_of.result _ _ c.pass_of.ensures.refused (λ why is.
    lacked g.K.Loaded.load c.args.edition c.args.number c.args.command c.args.pass c.args.journal.now.list.log
    c.cross-done.new.journal.list.log c.args.parts.now.items c.cross-done.new.parts.items c.cross-done.result
    c.requires.can crosses g.row.N
    (subst (λ (parts : List PartitionState). (place : ℕ) → IfSome (slice_get parts place) (Headline g.row.N)) c.as_slice.ensures.value
    c.know_all.ensures) why is)

pub cross-done-requires-clause-edition : goal.cross-done-requires-clause-edition
cross-done-requires-clause-edition g c =
    subst (λ (job : JobState). AllMayRun job.edition job.command c.args.parts.now.items) (sym c.of_edition.ensures)
    (all-may c.args.edition c.args.command c.args.parts.now.items c.requires.can.rest c.requires.can.replays)
