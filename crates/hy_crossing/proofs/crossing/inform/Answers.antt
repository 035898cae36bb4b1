use Rattle.std.proofs.Common.{List, sym, subst, arith}
use Rattle.hy_partition.specs.Jobs.{Log}
use Rattle.hy_partition.specs.Partition.{PartitionState}
use Rattle.hy_crossing.specs.Crossings.{AreInformed, EndsIfNamed, EndsJobs, Informs, TellsIfNamed}
use Rattle.hy_crossing.proofs.InformLaws.{informed-now, may-still, pairs-count, turn-count}
use Rattle.hy_crossing.proofs.crossing.inform.Goals as goal

pub tell_named-requires : goal.tell_named-requires
tell_named-requires g c =
    let ends = turn-count (EndsIfNamed c.args.command.now) 1 c.args.journal.now.list.log c.end_jobs.new.journal.list.log
    (g.P.Parts.states c.know_few.new.parts) (g.P.Parts.states c.end_jobs.new.parts) c.end_jobs.ensures in
    omega (arith, ends, c.know_few.ensures.few)

pub returns-clause-informs : goal.returns-clause-informs
returns-clause-informs g c =
    let command = c.args.command.now in
    let before : Log = c.args.journal.now.list.log in
    let ended = g.P.Parts.states c.end_jobs.new.parts in
    let news = g.P.Parts.states c.tell_named.new.parts in
    subst (λ (log : Log). Informs command before log (g.P.Parts.states c.args.parts.now) news) (sym c.tell_named.ensures.log)
    record {
      ended = ended;
      ends = subst (λ (rows : List PartitionState). EndsJobs command before c.end_jobs.new.journal.list.log rows ended)
          c.know_few.ensures.same c.end_jobs.ensures;
      tells = c.tell_named.ensures.told;
    }

pub returns-clause-few : goal.returns-clause-few
returns-clause-few g c =
    let ended = g.P.Parts.states c.end_jobs.new.parts in
    let news = g.P.Parts.states c.tell_named.new.parts in
    let log : Log = c.end_jobs.new.journal.list.log in
    let ends = turn-count (EndsIfNamed c.args.command.now) 1 c.args.journal.now.list.log log
    (g.P.Parts.states c.know_few.new.parts) ended c.end_jobs.ensures in
    let tells = pairs-count (TellsIfNamed c.args.command.now log) 1 ended news c.tell_named.ensures.told in
    omega (arith, ends, tells, c.know_few.ensures.few)

pub returns-clause-informed : goal.returns-clause-informed
returns-clause-informed g c =
    let command = c.args.command.now in
    let before : Log = c.args.journal.now.list.log in
    let log : Log = c.end_jobs.new.journal.list.log in
    let ended = g.P.Parts.states c.end_jobs.new.parts in
    let ends = subst (λ (rows : List PartitionState). EndsJobs command before log rows ended) c.know_few.ensures.same
    c.end_jobs.ensures in
    subst (λ (log : Log). AreInformed g.K.Loaded.load command log (g.P.Parts.states c.tell_named.new.parts))
    (sym c.tell_named.ensures.log)
    (informed-now g.K.Loaded.load command before log (g.P.Parts.states c.args.parts.now) ended
    (g.P.Parts.states c.tell_named.new.parts) c.requires.parts c.requires.whole ends c.tell_named.ensures.told)

pub returns-clause-editions : goal.returns-clause-editions
returns-clause-editions g c =
    let command = c.args.command.now in
    let before : Log = c.args.journal.now.list.log in
    let log : Log = c.end_jobs.new.journal.list.log in
    let ended = g.P.Parts.states c.end_jobs.new.parts in
    let ends = subst (λ (rows : List PartitionState). EndsJobs command before log rows ended) c.know_few.ensures.same
    c.end_jobs.ensures in
    may-still g.K.Loaded.load command before log (g.P.Parts.states c.args.parts.now) ended
    (g.P.Parts.states c.tell_named.new.parts) ends c.tell_named.ensures.told
