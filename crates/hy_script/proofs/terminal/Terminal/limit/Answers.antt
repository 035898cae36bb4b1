use Rattle.std.proofs.Common.{Err, Ok, rules}
use Rattle.hy_script.proofs.ChangesLaws.{changes-known, changes-still}
use Rattle.hy_script.proofs.TerminalLaws.{FindsFree, finds-free, tried-limit}
use Rattle.hy_script.proofs.terminal.Terminal.limit.Goals as goal

pub returns-in_default : goal.returns-in_default
returns-in_default g c =
    let terminal = c.args.self.now in
    let parts = c.args.partitions.now in
    let finds = finds-free terminal c.free.result c.args.place parts c.part.result.now c.requires.there c.part.ensures
    c.requires.served c.free.ensures in
    record {
      limited = changes-still (FindsFree terminal c.free.result) _ c.args.place parts c.requires.there finds
          (λ p finds. search rules);
    }

pub returns-in_err-set_max : goal.returns-in_err-set_max
returns-in_err-set_max g c =
    let terminal = c.args.self.now in
    let parts = c.args.partitions.now in
    let finds = finds-free terminal c.free.result c.args.place parts c.part.result.now c.requires.there c.part.ensures
    c.requires.served c.free.ensures in
    record {
      limited = changes-known (FindsFree terminal c.free.result) _ _ c.args.place parts c.set_max.new.self
          c.requires.there finds (λ p q finds tries.
          let unlimited = tried-limit c.in-Some.max (Err c.in_err-set_max.field-0.0) p q tries in search rules)
          c.in_err-set_max.ensures;
    }

pub returns : goal.returns
returns g c =
    let terminal = c.args.self.now in
    let parts = c.args.partitions.now in
    let finds = finds-free terminal c.free.result c.args.place parts c.part.result.now c.requires.there c.part.ensures
    c.requires.served c.free.ensures in
    record {
      limited = changes-known (FindsFree terminal c.free.result) _ _ c.args.place parts c.set_max.new.self
          c.requires.there finds
          (λ p q finds tries. let limited = tried-limit c.in-Some.max (Ok tt) p q tries in search rules)
          c.in_ok-set_max.ensures;
    }
