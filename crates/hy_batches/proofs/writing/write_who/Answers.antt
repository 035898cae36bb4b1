use Rattle.std.proofs.Common.{◌∷◌, ◌++◌, length, subst, sym}
use Rattle.hy_batches.specs.Encoding.{number_bytes}
use Rattle.hy_batches.proofs.writing.write_who.Goals as goal

-- the tag with the length, and the name behind them
pub returns-in-Last : goal.returns-in-Last
returns-in-Last g c =
    let name = c.as_bytes-name.result.now in
    let front : g.S.Sink.takes c.args.sink.now c.put-in-Last.new.self (1 ∷ number_bytes 1 (length name)) =
    rw (sym c.low.ensures) c.put-in-Last.ensures in
    rw c.in-Last.is
    (subst (λ name. g.S.Sink.takes c.args.sink.now c.put-in-Last-2.new.self (1 ∷ (number_bytes 1 (length name) ++ name)))
    c.as_bytes-name.ensures
    (g.met.S.Sink.takes_both _ _ _ (1 ∷ number_bytes 1 (length name)) name front c.put-in-Last-2.ensures))
