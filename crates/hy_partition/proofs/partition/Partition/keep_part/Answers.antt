use Rattle.std.proofs.Common.{◌≡◌, ℕ, ◌==◌, ◌∷◌, [], ◌++◌, not, filter, Option, Some, ap, refl, sym, ◌∙◌, subst, arith}
use Rattle.hy_passes.specs.Worlds.{KeptState}
use Rattle.hy_commands.specs.declared.command.Commit.{Commit}
use Rattle.hy_commands.specs.declared.command.Commit.TheVariants as commits
use Rattle.hy_partition.specs.Jobs.{Log}
use Rattle.hy_partition.specs.Partition.{PartState, PartitionState, projection_of}
use Rattle.hy_partition.specs.Parts.{KeepsPart, share_of_part, with_part_entered}
use Rattle.hy_partition.specs.Unsettled.{part_of, with_part_kept}
use Rattle.hy_partition.specs.inside.Soundness.{IsSound, IsTied}
use Rattle.hy_partition.specs.inside.Views.{partition_of}
use Rattle.hy_partition.proofs.AccountLaws.{home-few}
use Rattle.hy_partition.proofs.SoundLaws.{sound-part_kept}
use Rattle.hy_partition.proofs.TieLaws.{tied-part_kept}
use Rattle.hy_partition.proofs.partition.Partition.keep_part.Goals as goal

pub enter_part-share-requires-clause-few_entered : goal.enter_part-share-requires-clause-few_entered
enter_part-share-requires-clause-few_entered g c =
    let p : PartitionState = partition_of c.self.inside in
    omega (
      arith,
      c.self.invariant.1.book.commits_are,
      home-few p.warehouse p.kept,
      c.self.invariant.0.within,
      c.self.invariant.0.limit,
    )

-- how a part is kept
abbrev kept_as : ℕ → PartState → Commit
kept_as number part = commits.Cross part.edition number part.command

-- the part that is done is the one that is known
part-is : (now p : PartitionState) (part known : PartState) → p ≡ now → p.part ≡ Some part → now.part ≡ Some known
    → part ≡ known
part-is now p part known same is known_is =
    let both : Some part ≡ Some known = sym is ∙ ap (λ (q : PartitionState). q.part) same ∙ known_is in
    cc

entered-is : (now p : PartitionState) (part known : PartState) (number : ℕ) (log : Log) → p ≡ now → part ≡ known
    → projection_of now.warehouse log ≡ now.kept ++ kept_as number known ∷ []
    → projection_of p.warehouse log ≡ p.kept ++ kept_as number part ∷ []
entered-is now p part known number log same is entered =
    subst (λ (q : PartitionState). projection_of q.warehouse log ≡ q.kept ++ kept_as number part ∷ []) (sym same)
    (subst (λ (k : PartState). projection_of now.warehouse log ≡ now.kept ++ kept_as number k ∷ []) (sym is) entered)

keeps-now : (now p new : PartitionState) (part known : PartState) (number : ℕ) (log : Log) → p ≡ now → part ≡ known
    → KeepsPart part.edition part.command number log p new (share_of_part p.warehouse part.command)
    → KeepsPart known.edition known.command number log now new (share_of_part now.warehouse known.command)
keeps-now now p new part known number log same is keeps =
    subst (λ (k : PartState). KeepsPart k.edition k.command number log now new (share_of_part now.warehouse k.command)) is
    (subst (λ (q : PartitionState). KeepsPart part.edition part.command number log q new
    (share_of_part q.warehouse part.command)) same keeps)

pub invariant_of-self : goal.invariant_of-self
invariant_of-self g c =
    let p : PartitionState = partition_of c.self.inside in
    let inside = c.self.inside in
    let list : KeptState Commit = c.enter.new.self in
    let here : c.warehouse.result ≡ p.warehouse = c.warehouse.ensures ∙ ap (λ l. l.warehouse) c.layout.ensures in
    let part : p.part ≡ Some c.in-Some.part = sym c.take.ensures.value ∙ c.in-Some.is in
    let is : c.in-Some.part ≡ part_of c.args.unsettled.now =
    part-is c.args.self.now p c.in-Some.part (part_of c.args.unsettled.now) c.self.view_is part c.requires.part in
    let longer : projection_of list.warehouse list.seen ≡ p.kept ++ kept_as c.args.number c.in-Some.part ∷ [] =
    ap (λ warehouse. projection_of warehouse list.seen) (c.enter.ensures.warehouse ∙ c.self.invariant.1.list_of)
    ∙ ap (projection_of p.warehouse) c.enter.ensures.seen.0
    ∙ entered-is c.args.self.now p c.in-Some.part (part_of c.args.unsettled.now) c.args.number c.args.list.now.log
    c.self.view_is is c.requires.entered in
    let after : PartitionState = record p {
      seen = list.seen;
      kept = projection_of list.warehouse list.seen;
      book = c.enter_part-share.new.book;
      undo = c.commit.new.self;
    } in
    subst (λ (part : Option PartState). IsSound g.row.N list.room inside.executor (record after { part = part })
    × IsTied g.K.Loaded.load g.K.World.passes list inside.desk (record after { part = part })) (sym c.take.ensures.after) (
      sound-part_kept g.row.N _ _ p c.self.invariant.0 list.room c.commit.new.self list.seen
          (projection_of list.warehouse list.seen) c.enter_part-share.new.book c.in-Some.part c.args.number part
          c.commit.ensures.log c.commit.ensures.undo_log longer,
      tied-part_kept g.K.Loaded.load g.K.World.passes inside.kept inside.desk p c.self.invariant.1 g.row.N _ _ list c.in-Some.part
          c.args.number (projection_of list.warehouse list.seen) c.enter_part-share.new.book c.commit.new.self
          c.self.invariant.0 part c.enter.ensures.warehouse longer (c.enter_part-share.ensures.book
          ∙ ap (λ warehouse. with_part_entered warehouse inside.book c.open-edition.result.1) here
          ∙ ap (with_part_entered p.warehouse inside.book) c.open-edition.ensures.1),
    )

pub returns-clause-kept : goal.returns-clause-kept
returns-clause-kept g c =
    let p : PartitionState = partition_of c.self.inside in
    let inside = c.self.inside in
    let list : KeptState Commit = c.enter.new.self in
    let here : c.warehouse.result ≡ p.warehouse = c.warehouse.ensures ∙ ap (λ l. l.warehouse) c.layout.ensures in
    let part : p.part ≡ Some c.in-Some.part = sym c.take.ensures.value ∙ c.in-Some.is in
    let is : c.in-Some.part ≡ part_of c.args.unsettled.now =
    part-is c.args.self.now p c.in-Some.part (part_of c.args.unsettled.now) c.self.view_is part c.requires.part in
    let longer : projection_of list.warehouse list.seen ≡ p.kept ++ kept_as c.args.number c.in-Some.part ∷ [] =
    ap (λ warehouse. projection_of warehouse list.seen) (c.enter.ensures.warehouse ∙ c.self.invariant.1.list_of)
    ∙ ap (projection_of p.warehouse) c.enter.ensures.seen.0
    ∙ entered-is c.args.self.now p c.in-Some.part (part_of c.args.unsettled.now) c.args.number c.args.list.now.log
    c.self.view_is is c.requires.entered in
    keeps-now c.args.self.now p _ c.in-Some.part (part_of c.args.unsettled.now) c.args.number c.args.list.now.log
    c.self.view_is is (record {
      part = c.take.ensures.after;
      undo = c.commit.ensures.log;
      space = refl;
      seen = c.enter.ensures.seen.0;
      kept = longer;
      book = c.enter_part-share.ensures.book
          ∙ ap (λ warehouse. with_part_entered warehouse inside.book c.open-edition.result.1) here
          ∙ ap (with_part_entered p.warehouse inside.book) c.open-edition.ensures.1;
      share_is = refl;
      beside = record {
        terms = refl;
        running = refl;
        finished = refl;
        snapshots = refl;
        children = record { tables = refl; bytes = λ child. refl };
        max_frames = refl;
      };
    })

pub returns-clause-settled : goal.returns-clause-settled
returns-clause-settled g c =
    let p : PartitionState = partition_of c.self.inside in
    let here : c.warehouse.result ≡ p.warehouse = c.warehouse.ensures ∙ ap (λ l. l.warehouse) c.layout.ensures in
    let part : p.part ≡ Some c.in-Some.part = sym c.take.ensures.value ∙ c.in-Some.is in
    let is : c.in-Some.part ≡ part_of c.args.unsettled.now =
    part-is c.args.self.now p c.in-Some.part (part_of c.args.unsettled.now) c.self.view_is part c.requires.part in
    let share : c.enter_part-share.result ≡ share_of_part c.args.self.now.warehouse c.args.unsettled.now.command =
    c.enter_part-share.ensures.share ∙ ap (λ warehouse. share_of_part warehouse c.open-edition.result.1) here
    ∙ ap (share_of_part p.warehouse) c.open-edition.ensures.1
    ∙ ap (λ (k : PartState). share_of_part p.warehouse k.command) is
    ∙ ap (λ (q : PartitionState). share_of_part q.warehouse c.args.unsettled.now.command) c.self.view_is in
    c.note_kept.ensures ∙ ap (with_part_kept c.args.unsettled.now) share

pub returns-clause-behind : goal.returns-clause-behind
returns-clause-behind g c =
    c.enter.ensures.behind
    ∙ ap (λ warehouse. filter (λ w. not (w == warehouse)) c.args.list.now.behind)
    (c.self.invariant.1.list_of ∙ ap (λ (q : PartitionState). q.warehouse) c.self.view_is)
