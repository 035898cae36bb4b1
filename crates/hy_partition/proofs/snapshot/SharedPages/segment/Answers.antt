use Rattle.std.proofs.Common.{◌∙◌, ap, arith, length}
use Rattle.std.proofs.lemmas.List.{length-map}
use Rattle.hy_rows.specs.Spelling.{list_at}
use Rattle.hy_partition.specs.Snapshots.{PagesState}
use Rattle.hy_partition.proofs.SnapshotLaws.{segment_at}
use Rattle.hy_partition.proofs.snapshot.SharedPages.segment.Goals as goal

pub returns : goal.returns
returns g c =
    let all = c.self.inside.pages.items in
    c.as_slice.ensures.value
    ∙ segment_at (λ segment. segment.items) all c.args.number c.index.result.now
    (omega (
      arith,
      c.requires,
      length-map all (λ segment. segment.items),
      ap (λ (shared : PagesState). length shared.bytes) c.self.view_is,
    )) c.index.ensures
    ∙ ap (λ (shared : PagesState). list_at shared.bytes c.args.number) c.self.view_is
