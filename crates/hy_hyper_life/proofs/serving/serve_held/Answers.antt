-- What was read before the log's batches were served.
use Rattle.std.proofs.Common.{◌≡◌, ◌∙◌, Err, List, Ok, Option, ℕ, refl, subst, sym}
use Rattle.std.specs.Prelude.{string_bytes}
use Rattle.std.proofs.lemmas.Result.{IfErr-weaker}
use Rattle.hy_batches.specs.Logs.{Reads}
use Rattle.hy_files.specs.Files.{HasFile}
use Rattle.hy_hyper_input.specs.Inputs.{InputState}
use Rattle.hy_script.proofs.ResultLaws.{on_ok}
use Rattle.hy_hyper_service.proofs.RoundLaws.{handed-on}
use Rattle.hy_hyper_life.specs.declared.fault.LifeFault.TheVariants as faults
use Rattle.hy_hyper_life.specs.Faults.{IsSumsFault}
use Rattle.hy_hyper_life.specs.Reading.{HasLoad, IsOwn, sums_path}
use Rattle.hy_hyper_life.specs.Served.{IsUnserved, IsUnservedFrom}
use Rattle.hy_hyper_life.specs.Served.IsUnserved.{malformed, unsure}
use Rattle.hy_hyper_life.proofs.HeldLaws.{at-these, served-held, unserved-held}
use Rattle.hy_hyper_life.proofs.serving.serve_held.Goals as goal

pub returns-in_err-are_there-clause-fault : goal.returns-in_err-are_there-clause-fault
returns-in_err-are_there-clause-fault g c =
    let files = g.F.FileSystem.files c.args.system.now in
    let before = g.F.FileSystem.unwritten c.args.system.now in
    let later = g.F.FileSystem.files c.has_sums.new.system in
    let after = g.F.FileSystem.unwritten c.has_sums.new.system in
    let printed = g.O.Output.contents c.args.out.now in
    let why = c.in_err-are_there.field-0.0 in
    let path = c.args.path.now in
    let sums = string_bytes c.in_ok-load.sums in
    let fault = at-these (λ files beside sums. IsSumsFault files beside sums why)
    (g.F.FileSystem.files c.read_start.new.system) files c.as_str.result.now (sums_path path) c.as_bytes.result.now sums
    c.read_start.ensures.files (c.as_str.ensures.value ∙ c.in_ok-beside.ensures) c.as_bytes.ensures.value
    c.in_err-are_there.ensures.fault in
    handed-on c.from_residual-in_err-are_there.result why (IsUnserved c.args.directory.now path c.args.terms (files, later)
    (before, after) (c.args.input.now, c.args.input.now) (printed, printed) (g.O.Output.has_failed c.args.out.now)
    (c.args.out.now ≡ c.args.out.now))
    c.from_residual-in_err-are_there.ensures.1
    (unsure c.in_ok-load.load sums c.in_ok-load.ensures.load fault (c.has_sums.ensures.files ∙ c.read_start.ensures.files) refl)

pub returns-in_err-batches-clause-fault : goal.returns-in_err-batches-clause-fault
returns-in_err-batches-clause-fault g c =
    let files = g.F.FileSystem.files c.args.system.now in
    let before = g.F.FileSystem.unwritten c.args.system.now in
    let later = g.F.FileSystem.files c.has_sums.new.system in
    let after = g.F.FileSystem.unwritten c.has_sums.new.system in
    let printed = g.O.Output.contents c.args.out.now in
    let refusal = c.in_err-batches.field-0.0 in
    let path = c.args.path.now in
    let sums = string_bytes c.in_ok-load.sums in
    let seen = g.F.Held.HeldLog.seen c.read_start.new.held in
    let own = at-these IsOwn (g.F.FileSystem.files c.read_start.new.system) files c.as_str.result.now (sums_path path)
    c.as_bytes.result.now sums c.read_start.ensures.files (c.as_str.ensures.value ∙ c.in_ok-beside.ensures)
    c.as_bytes.ensures.value c.in_ok-are_there.ensures.own in
    let has = subst (λ (path : List ℕ). HasFile files path seen) c.requires.path c.in_ok-load.ensures.bytes in
    let reads = subst (λ (bytes : List ℕ). Reads bytes (Err refusal)) c.bytes.ensures c.in_err-batches.ensures in
    handed-on c.from_residual-in_err-batches.result (faults.Refused refusal) (IsUnserved c.args.directory.now path
    c.args.terms (files, later) (before, after) (c.args.input.now, c.args.input.now) (printed, printed)
    (g.O.Output.has_failed c.args.out.now) (c.args.out.now ≡ c.args.out.now))
    c.from_residual-in_err-batches.ensures.1
    (malformed c.in_ok-load.load sums c.in_ok-load.ensures.load own seen has refusal reads refl
    (c.has_sums.ensures.files ∙ c.read_start.ensures.files) refl)

pub returns-clause-done : goal.returns-clause-done
returns-clause-done g c =
    let files = g.F.FileSystem.files c.args.system.now in
    let directory = c.args.directory.now in
    let path = c.args.path.now in
    let beside = c.as_str-2.result.now in
    let sums = c.as_bytes-2.result.now in
    let seen = g.F.Held.HeldLog.seen c.read_start.new.held in
    let beside-is = c.as_str-2.ensures.value ∙ c.in_ok-beside.ensures in
    let load = subst (λ (sums : List ℕ). HasLoad files directory c.in_ok-load.load sums) (sym c.as_bytes-2.ensures.value)
    c.in_ok-load.ensures.load in
    let own = at-these IsOwn (g.F.FileSystem.files c.read_start.new.system) files c.as_str.result.now beside
    c.as_bytes.result.now sums c.read_start.ensures.files (c.as_str.ensures.value ∙ sym c.as_str-2.ensures.value)
    (c.as_bytes.ensures.value ∙ sym c.as_bytes-2.ensures.value) c.in_ok-are_there.ensures.own in
    let has = subst (λ (path : List ℕ). HasFile files path seen) c.requires.path c.in_ok-load.ensures.bytes in
    let reads = subst (λ (bytes : List ℕ). Reads bytes (Ok c.in_ok-batches.batches)) c.bytes.ensures
    c.in_ok-batches.ensures in
    on_ok c.serve_batches.result c.serve_batches.ensures.done
    (served-held directory path beside sums beside-is c.args.terms files c.in_ok-load.load load own c.in_ok-batches.batches
    seen reads.0 has reads.1 (g.F.FileSystem.files c.serve_batches.new.system)
    (c.args.input.now, c.serve_batches.new.input)
    (g.O.Output.contents c.args.out.now, g.O.Output.contents c.serve_batches.new.out))

pub returns-clause-fault : goal.returns-clause-fault
returns-clause-fault g c =
    let files = g.F.FileSystem.files c.args.system.now in
    let middle = g.F.FileSystem.files c.has_sums.new.system in
    let later = g.F.FileSystem.files c.serve_batches.new.system in
    let before = g.F.FileSystem.unwritten c.args.system.now in
    let kept = g.F.FileSystem.unwritten c.has_sums.new.system in
    let after = g.F.FileSystem.unwritten c.serve_batches.new.system in
    let directory = c.args.directory.now in
    let path = c.args.path.now in
    let beside = c.as_str-2.result.now in
    let sums = c.as_bytes-2.result.now in
    let seen = g.F.Held.HeldLog.seen c.read_start.new.held in
    let inputs : InputState × InputState = (c.args.input.now, c.serve_batches.new.input) in
    let outs : Option (List ℕ) × Option (List ℕ) =
    (g.O.Output.contents c.args.out.now, g.O.Output.contents c.serve_batches.new.out) in
    let has_failed = g.O.Output.has_failed c.serve_batches.new.out in
    let unprinted = c.serve_batches.new.out ≡ c.args.out.now in
    let beside-is = c.as_str-2.ensures.value ∙ c.in_ok-beside.ensures in
    let load = subst (λ (sums : List ℕ). HasLoad files directory c.in_ok-load.load sums) (sym c.as_bytes-2.ensures.value)
    c.in_ok-load.ensures.load in
    let own = at-these IsOwn (g.F.FileSystem.files c.read_start.new.system) files c.as_str.result.now beside
    c.as_bytes.result.now sums c.read_start.ensures.files (c.as_str.ensures.value ∙ sym c.as_str-2.ensures.value)
    (c.as_bytes.ensures.value ∙ sym c.as_bytes-2.ensures.value) c.in_ok-are_there.ensures.own in
    let has = subst (λ (path : List ℕ). HasFile files path seen) c.requires.path c.in_ok-load.ensures.bytes in
    let reads = subst (λ (bytes : List ℕ). Reads bytes (Ok c.in_ok-batches.batches)) c.bytes.ensures
    c.in_ok-batches.ensures in
    IfErr-weaker c.serve_batches.result
    (IsUnservedFrom path beside sums c.args.terms c.in_ok-load.load c.in_ok-batches.batches (middle, later) (kept, after) inputs
    outs has_failed unprinted)
    (IsUnserved directory path c.args.terms (files, later) (before, after) inputs outs has_failed unprinted)
    (λ why is.
    unserved-held directory path beside sums beside-is c.args.terms files c.in_ok-load.load load own c.in_ok-batches.batches
    seen reads.0 has reads.1 later inputs outs middle (c.has_sums.ensures.files ∙ c.read_start.ensures.files) before kept after
    (c.has_sums.ensures.unwritten ∙ c.read_start.ensures.unwritten) has_failed unprinted why is)
    c.serve_batches.ensures.fault
