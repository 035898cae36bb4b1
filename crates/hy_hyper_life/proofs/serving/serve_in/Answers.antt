-- From the database behind the batches on.
use Rattle.std.proofs.Common.{◌≡◌, ◌∙◌, ap, refl, subst, sym}
use Rattle.std.proofs.lemmas.Result.{IfErr-weaker}
use Rattle.hy_rows.specs.Tables.{Lists}
use Rattle.hy_files.specs.LogFiles.{all_synced}
use Rattle.hy_redo_drains.specs.of_forks.Logged.{SaySame}
use Rattle.hy_redo_drains.specs.of_partition.Jobs.{Log}
use Rattle.hy_script.proofs.ResultLaws.{on_ok}
use Rattle.hy_hyper_service.proofs.RoundLaws.{handed-on}
use Rattle.hy_hyper_life.specs.declared.fault.LifeFault.TheVariants as faults
use Rattle.hy_hyper_life.specs.Served.{EndsBadly, IsUnservedFrom, start_of}
use Rattle.hy_hyper_life.specs.Served.IsUnservedFrom.{unopened}
use Rattle.hy_hyper_life.proofs.BeginLaws.{begins-behind, beside-apart, front-of, served-from, unserved-from}
use Rattle.hy_hyper_life.proofs.serving.serve_in.Goals as goal

pub returns-in_err-database-clause-fault : goal.returns-in_err-database-clause-fault
returns-in_err-database-clause-fault g c =
    let place = c.args.place.now in
    let files = g.F.FileSystem.files c.args.system.now in
    let unwritten = g.F.FileSystem.unwritten c.args.system.now in
    let printed = g.O.Output.contents c.args.out.now in
    let refusal = c.in_err-database.field-0.0 in
    handed-on c.from_residual.result (faults.Refused refusal) (IsUnservedFrom place.path.now place.beside.now place.sums.now
    c.args.terms c.args.load.now c.args.batches.now (files, files) (unwritten, unwritten) (c.args.input.now, c.args.input.now)
    (printed, printed) (g.O.Output.has_failed c.args.out.now) (c.args.out.now ≡ c.args.out.now))
    c.from_residual.ensures.1 (unopened refusal refl c.in_err-database.ensures.refused refl refl)

pub serve_log-requires-clause-begins : goal.serve_log-requires-clause-begins
serve_log-requires-clause-begins g c κs within =
    let batches = c.args.batches.now in
    let opened = c.in_ok-database.ensures.opened in
    let told = c.in-Ok.ensures.log ∙ ap all_synced (front-of batches (g.F.Held.HeldLog.seen c.args.held) c.requires.front.0
    c.bytes.result c.bytes.ensures c.requires.front.1) in (
      batches,
      begins-behind batches (g.F.Log.LogOut.told c.in-Ok.log) told,
      subst (λ (lists : Lists). SaySame lists batches c.in_ok-database.cursor) c.requires.load
          (subst (λ (log : Log). SaySame c.args.load.now batches log) (sym opened.seen_is) opened.same),
    )

pub returns-in-Ok-clause-done : goal.returns-in-Ok-clause-done
returns-in-Ok-clause-done g c =
    let place = c.args.place.now in
    let batches = c.args.batches.now in
    let told = c.in-Ok.ensures.log ∙ ap all_synced (front-of batches (g.F.Held.HeldLog.seen c.args.held) c.requires.front.0
    c.bytes.result c.bytes.ensures c.requires.front.1) in
    on_ok c.serve_log.result c.serve_log.ensures.done
    (served-from place.path.now place.beside.now place.sums.now c.args.terms c.args.load.now g.K.Loaded.load c.requires.load
    batches c.in_ok-database.database c.in_ok-database.cursor c.in_ok-database.ensures.opened
    (g.F.Log.LogOut.told c.in-Ok.log) told (g.O.Output.contents c.args.out.now)
    (g.F.FileSystem.files c.begin_log.new.system) (g.F.FileSystem.files c.serve_log.new.system)
    (beside-apart place.path.now place.beside.now c.requires.beside) c.in-Ok.ensures.sums c.serve_log.ensures.others
    (c.args.input.now, c.serve_log.new.input) (g.O.Output.contents c.serve_log.new.out))

pub returns-in-Ok-clause-fault : goal.returns-in-Ok-clause-fault
returns-in-Ok-clause-fault g c =
    let place = c.args.place.now in
    let batches = c.args.batches.now in
    let told = c.in-Ok.ensures.log ∙ ap all_synced (front-of batches (g.F.Held.HeldLog.seen c.args.held) c.requires.front.0
    c.bytes.result c.bytes.ensures c.requires.front.1) in
    let ends = EndsBadly g.K.Loaded.load
    (start_of c.in_ok-database.database (g.F.Log.LogOut.told c.in-Ok.log) c.args.terms.style
    (g.O.Output.contents c.args.out.now))
    place.path.now (g.F.FileSystem.files c.serve_log.new.system)
    (g.F.FileSystem.unwritten c.begin_log.new.system, g.F.FileSystem.unwritten c.serve_log.new.system)
    (c.args.input.now, c.serve_log.new.input) (g.O.Output.contents c.serve_log.new.out)
    (g.O.Output.has_failed c.serve_log.new.out) in
    let unserved = IsUnservedFrom place.path.now place.beside.now place.sums.now c.args.terms c.args.load.now batches
    (g.F.FileSystem.files c.args.system.now, g.F.FileSystem.files c.serve_log.new.system)
    (g.F.FileSystem.unwritten c.args.system.now, g.F.FileSystem.unwritten c.serve_log.new.system)
    (c.args.input.now, c.serve_log.new.input)
    (g.O.Output.contents c.args.out.now, g.O.Output.contents c.serve_log.new.out)
    (g.O.Output.has_failed c.serve_log.new.out) (c.serve_log.new.out ≡ c.args.out.now) in
    IfErr-weaker c.serve_log.result ends unserved (λ why ends.
    unserved-from place.path.now place.beside.now place.sums.now c.args.terms c.args.load.now g.K.Loaded.load c.requires.load
    batches c.in_ok-database.database c.in_ok-database.cursor c.in_ok-database.ensures.opened
    (g.F.Log.LogOut.told c.in-Ok.log) told (g.O.Output.contents c.args.out.now)
    (g.F.FileSystem.files c.begin_log.new.system) (g.F.FileSystem.files c.serve_log.new.system)
    (beside-apart place.path.now place.beside.now c.requires.beside) c.in-Ok.ensures.sums c.serve_log.ensures.others
    (c.args.input.now, c.serve_log.new.input) (g.O.Output.contents c.serve_log.new.out)
    (g.F.FileSystem.files c.args.system.now) (g.F.FileSystem.unwritten c.args.system.now)
    (g.F.FileSystem.unwritten c.begin_log.new.system) (g.F.FileSystem.unwritten c.serve_log.new.system)
    c.in-Ok.ensures.written (g.O.Output.has_failed c.serve_log.new.out) (c.serve_log.new.out ≡ c.args.out.now) why ends)
    c.serve_log.ensures.fault
