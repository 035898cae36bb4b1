use Rattle.std.proofs.Common.{◌≡◌, ◌∙◌, ◌-◌, List, ap, arith, length, subst}
use Rattle.std.specs.Io.KnownBytes.{Appends}
use Rattle.hy_session.specs.of_partition.Snapshots.{SnapshotState}
use Rattle.hy_script.specs.Answers.{snapshot_text}
use Rattle.hy_script.specs.Databases.{DatabaseState, OpenSnapshot}
use Rattle.hy_script.proofs.ListLaws.{last-item}
use Rattle.hy_script.proofs.ResultLaws.{on_ok}
use Rattle.hy_script.proofs.database.Database.write_opened.Goals as goal

pub returns-clause-written : goal.returns-clause-written
returns-clause-written g c =
    on_ok c.write_snapshot.result c.write_snapshot.ensures.written (λ appends others opened is.
    let held = c.self.inside.snapshots.items in
    let all = ap (λ (now : DatabaseState). now.snapshots) c.self.view_is ∙ is in
    let some = ap (λ (now : DatabaseState). length now.snapshots) c.self.view_is in
    let last : c.index-opened.result.now ≡ opened =
    last-item held others c.index-opened.result.now opened (c.len.result - 1) all
    (omega (arith, c.len.ensures, c.requires, some)) c.index-opened.ensures in
    subst (λ (parts : List SnapshotState). Appends (g.O.Output.contents c.args.out.now)
    (g.O.Output.contents c.write_snapshot.new.out) (snapshot_text c.args.name.now parts))
    (c.parts.ensures ∙ c.snapshot.ensures ∙ c.session.ensures ∙ ap (λ (s : OpenSnapshot). s.parts) last) appends)
