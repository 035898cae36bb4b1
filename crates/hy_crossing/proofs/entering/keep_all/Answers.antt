use Rattle.std.proofs.Common.{◌<◌, ◌++◌, ◌∷◌, [], List, length, sym, ap, ◌∙◌, subst}
use Rattle.hy_commands.specs.declared.command.Command.{Command}
use Rattle.hy_commands.specs.declared.command.Commit.TheVariants as commits
use Rattle.hy_commands.specs.Commands.{warehouses_of_commit}
use Rattle.hy_passes.specs.SerialList.{kept_of, max_commits}
use Rattle.hy_partition.specs.Jobs.{Log}
use Rattle.hy_partition.specs.Partition.{PartitionState}
use Rattle.hy_crossing.specs.Crossings.{AreKnown, AreReady}
use Rattle.hy_crossing.specs.Named.{places_of}
use Rattle.hy_crossing.proofs.EnterLaws.{are-warehouses, few-kept, ready}
use Rattle.hy_crossing.proofs.entering.keep_all.Goals as goal

pub new-requires-2 : goal.new-requires-2
new-requires-2 g c = c.requires.named ∙ ap places_of (sym c.command.ensures)

pub append-requires-clause-named : goal.append-requires-clause-named
append-requires-clause-named g c =
    let rows = g.P.Parts.states c.args.parts.now in
    let known : AreKnown c.args.command g.K.World.passes.partitions rows =
    subst (λ (command : Command). AreKnown command g.K.World.passes.partitions rows) c.new.ensures
    c.know_named.ensures.known in
    are-warehouses g.K.Loaded.load c.args.command (g.P.Parts.states c.args.parts.now) c.requires.parts c.requires.there
    g.K.World.passes.partitions known

pub append-requires-clause-room : goal.append-requires-clause-room
append-requires-clause-room g c w named =
    let rows = g.P.Parts.states c.args.parts.now in
    let known : AreKnown c.args.command g.K.World.passes.partitions rows =
    subst (λ (command : Command). AreKnown command g.K.World.passes.partitions rows) c.new.ensures
    c.know_named.ensures.known in
    subst (λ (log : Log). length (kept_of warehouses_of_commit w log) < max_commits) (sym c.tell_client.ensures.log)
    (few-kept g.K.Loaded.load c.args.command (g.P.Parts.states c.args.parts.now) c.requires.parts c.requires.there
    g.K.World.passes.partitions known w named c.args.edition c.args.journal.now.list.log c.requires.done)

pub keep_parts-requires-clause-ready : goal.keep_parts-requires-clause-ready
keep_parts-requires-clause-ready g c =
    let rows = g.P.Parts.states c.args.parts.now in
    let edition = c.args.edition in
    let crossing = c.next_crossing-crossing.result in
    let start : Log = c.args.journal.now.list.log in
    let known : AreKnown c.args.command g.K.World.passes.partitions rows =
    subst (λ (command : Command). AreKnown command g.K.World.passes.partitions rows) c.new.ensures
    c.know_named.ensures.known in
    subst (λ (parts : List PartitionState). AreReady edition c.new-2.result crossing c.append.new.self.log parts)
    (sym c.know_named.ensures.same)
    (subst (λ (command : Command). AreReady edition command crossing c.append.new.self.log rows)
    (sym (c.new-2.ensures ∙ c.command.ensures))
    (subst (λ (log : Log). AreReady edition c.args.command crossing log rows)
    (sym (c.append.ensures.log ∙ ap (λ (log : Log).
    log ++ record { commit = commits.Cross edition crossing c.args.command; stamp = c.known-stamp.result } ∷ [])
    c.tell_client.ensures.log))
    (ready g.K.Loaded.load c.args.command rows c.requires.parts c.requires.there g.K.World.passes.partitions known edition
    start crossing c.known-stamp.result c.requires.done)))
