-- No kit is made.
use Rattle.std.proofs.Common.{◌≡◌, refl}
use Rattle.hy_hyper_service.proofs.RoundLaws.{handed-on}
use Rattle.hy_hyper_life.specs.declared.fault.LifeFault.TheVariants as faults
use Rattle.hy_hyper_life.specs.Served.{IsUnservedFrom}
use Rattle.hy_hyper_life.specs.Served.IsUnservedFrom.{unopened}
use Rattle.hy_hyper_life.proofs.serving.serve_batches.Goals as goal

pub returns-in_err-kit-clause-fault : goal.returns-in_err-kit-clause-fault
returns-in_err-kit-clause-fault g c =
    let place = c.args.place.now in
    let files = g.F.FileSystem.files c.args.system.now in
    let unwritten = g.F.FileSystem.unwritten c.args.system.now in
    let printed = g.O.Output.contents c.args.out.now in
    let refusal = c.in_err-kit.field-0.0 in
    handed-on c.from_residual.result (faults.Refused refusal) (IsUnservedFrom place.path.now place.beside.now place.sums.now
    c.args.terms c.args.load.now c.args.batches.now (files, files) (unwritten, unwritten) (c.args.input.now, c.args.input.now)
    (printed, printed) (g.O.Output.has_failed c.args.out.now) (c.args.out.now ≡ c.args.out.now))
    c.from_residual.ensures.1 (unopened refusal refl (c.in_err-kit.ensures.refused c.args.terms.frames) refl refl)
