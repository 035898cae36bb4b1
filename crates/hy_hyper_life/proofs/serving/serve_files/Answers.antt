-- Behind the lock.
use Rattle.std.proofs.Common.{◌≡◌, List, Option, ℕ}
use Rattle.std.proofs.lemmas.Result.{IfErr-weaker}
use Rattle.hy_hyper_life.specs.Reading.{sums_path}
use Rattle.hy_hyper_life.specs.Served.{IsServeFault, IsUnserved}
use Rattle.hy_hyper_life.proofs.FilesLaws.{all-but-behind}
use Rattle.hy_hyper_life.proofs.HeldLaws.{unserved-whole}
use Rattle.hy_hyper_life.proofs.serving.serve_files.Goals as goal

pub returns-clause-files : goal.returns-clause-files
returns-clause-files g c =
    all-but-behind c.args.path.now (sums_path c.args.path.now) (g.F.FileSystem.files c.args.system.now)
    (g.F.FileSystem.files c.hold.new.system) (g.F.FileSystem.files c.serve_held.new.system) c.hold.ensures.others
    c.serve_held.ensures.files

pub returns-clause-fault : goal.returns-clause-fault
returns-clause-fault g c =
    let directory = c.args.directory.now in
    let path = c.args.path.now in
    let files = g.F.FileSystem.files c.args.system.now in
    let held = g.F.FileSystem.files c.hold.new.system in
    let later = g.F.FileSystem.files c.serve_held.new.system in
    let before = g.F.FileSystem.unwritten c.args.system.now in
    let kept = g.F.FileSystem.unwritten c.hold.new.system in
    let after = g.F.FileSystem.unwritten c.serve_held.new.system in
    let outs : Option (List ℕ) × Option (List ℕ) =
    (g.O.Output.contents c.args.out.now, g.O.Output.contents c.serve_held.new.out) in
    let has_failed = g.O.Output.has_failed c.serve_held.new.out in
    let unprinted = c.serve_held.new.out ≡ c.args.out.now in
    let coming = g.I.Read.remaining c.args.input in
    IfErr-weaker c.serve_held.result
    (IsUnserved directory path c.args.terms (held, later) (kept, after) (c.in_ok-input.input, c.serve_held.new.input) outs
    has_failed unprinted)
    (IsServeFault directory path c.args.terms (files, later) (before, after) coming outs has_failed unprinted)
    (λ why is.
    unserved-whole directory path c.args.terms files held later c.in_ok-held.ensures.there before kept after
    c.in_ok-held.ensures.written coming c.in_ok-input.input c.serve_held.new.input c.in_ok-input.ensures outs has_failed
    unprinted why is)
    c.serve_held.ensures.fault
