use Rattle.std.proofs.lemmas.Result.{err_from_is_err_and}
use Rattle.hy_redo.proofs.SendingLaws.{cut_all}
use Rattle.hy_redo.proofs.pending.write_all.Goals as goal

pub returns-in_err-count : goal.returns-in_err-count
returns-in_err-count g c =
    let told = g.W.LogOut.told in
    let p = err_from_is_err_and c.from_residual.result c.from_residual.ensures.1 in
    let far = c.rest.invariant in
    let failed = c.in_err-count.ensures in
    rw p.1 (cut_all (told c.args.out.now) (told c.rest.out) (told c.write.new.self) c.args.bytes.now c.rest.rest.now far.0
    failed.0 far.1 far.2 failed.1 failed.2)
