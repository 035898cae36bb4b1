-- All batches together have fewer bytes than a number of 64 bits counts.
use Rattle.std.proofs.Common.{◌≡◌, ap, length, take, ◌∙◌, arith}
use Rattle.hy_batches.specs.Encoding.{log_bytes}
use Rattle.hy_sound.proofs.LogLaws.{length-taken}
use Rattle.hy_sound.proofs.lengths.place_of.Goals as goal

pub returns : goal.returns
returns c =
    let at : c.loop-place.place ≡ c.args.end = omega (arith, c.loop-place-test.false, c.loop-place.auto.place-end) in
    let less = length-taken c.loop-place.place c.args.batches.now in
    let same : c.loop-place.count.bytes ≡ length (log_bytes (take c.loop-place.place c.args.batches.now)) =
    omega (arith, less, c.loop-place.invariant.0, c.loop-place.invariant.1, c.bytes-all.ensures, c.bytes-all.type_inv) in
    same ∙ ap (λ n. length (log_bytes (take n c.args.batches.now))) at
