use Rattle.std.proofs.Common.{Err, Ok, rules}
use Rattle.hy_script.specs.inside.Invariants.{IsServed}
use Rattle.hy_script.proofs.ChangesLaws.{changes-known, changes-still}
use Rattle.hy_script.proofs.TerminalLaws.{tried-begin}
use Rattle.hy_script.proofs.terminal.Terminal.begin.Goals as goal

pub returns-in_default : goal.returns-in_default
returns-in_default g c = record {
  begun = changes-still (λ p. IsServed p c.args.self.now) _ c.args.place c.args.partitions.now c.requires.there
      c.requires.served (λ p served. search rules);
}

pub returns-in-Ok : goal.returns-in-Ok
returns-in-Ok g c = record {
  begun = changes-known (λ p. IsServed p c.args.self.now) _ _ c.args.place c.args.partitions.now c.begin.new.self
      c.requires.there c.requires.served
      (λ p q served tries. let begun = tried-begin c.new.result (Ok tt) p q tries in search rules) c.in-Ok.ensures;
}

pub returns-in-Err : goal.returns-in-Err
returns-in-Err g c = record {
  begun = changes-known (λ p. IsServed p c.args.self.now) _ _ c.args.place c.args.partitions.now c.begin.new.self
      c.requires.there c.requires.served (λ p q served tries.
      let unbegun = tried-begin c.new.result (Err (c.in-Err.job, c.in-Err.refusal)) p q tries in search rules)
      c.in-Err.ensures;
}
