-- What the batches say is what the serial list that was recovered says, at the end of which the place stands.
use Rattle.std.proofs.Common.{rules, ◌≡◌, length, sym, ap, ◌∙◌, subst}
use Rattle.hy_rows.specs.Tables.{Lists}
use Rattle.hy_forks.specs.Histories.{IsOneHistory}
use Rattle.hy_forks.specs.Logged.{SaySame}
use Rattle.hy_recovery.specs.Recovering.{AreRecovered, GoesOn}
use Rattle.hy_trials.proofs.halls.Hall.recovered.Goals as goal

pub returns-clause-same : goal.returns-clause-same
returns-clause-same g c =
    let lists = c.args.load.now in
    let batches = c.args.batches.now in
    let made = c.expect-partitions.result in
    let partitions : g.K.World.passes.partitions ≡ length lists.tables.warehouses =
    ap (λ kit. kit.partitions) (sym c.requires.kit) ∙ c.requires.partitions in
    let recovered : AreRecovered lists 20000 10000 batches made.0 = search rules in
    let history : IsOneHistory g.K.World.passes.partitions made.1.list.log made.0 = search rules in
    let goes_on : GoesOn lists batches made.1.list.log = search rules in
    let end : c.expect-cursor.result ≡ made.1.list.log = search rules in
    let same : SaySame lists batches made.1.list.log =
    c.recovered_say_the_same.ensures lists 20000 10000 batches made.1.list.log made.0 c.sound.ensures recovered
    (subst (λ count. IsOneHistory count made.1.list.log made.0) partitions history) goes_on in
    subst (λ log. SaySame g.K.Loaded.load batches log) (sym end)
    (subst (λ (load : Lists). SaySame load batches made.1.list.log) c.requires.load same)
