use Rattle.std.proofs.Common.{Some, ap, subst, sym}
use Rattle.std.specs.Prelude.{IfOk, Option}
use Rattle.hy_commands.specs.declared.command.Command.TheVariants as commands
use Rattle.hy_commands.specs.declared.reply.Reply.{Reply}
use Rattle.hy_writers.specs.of_store.Writes.{stored_in}
use Rattle.hy_tpcc.specs.Executor.{ExecutorState, IsAnswer, IsReply}
use Rattle.hy_tpcc.proofs.executor.Executor.read_level.Goals as goal
use Rattle.hy_tpcc.proofs.executor.Executor.read_level.Goals.{in-Ok, in-Err}

-- the reply is the answer of the one slice
pub returns-clause-reply : goal.returns-clause-reply
returns-clause-reply g c =
    let answer : Option Reply → Type 0 = λ reply. IsAnswer c.args.self.now.layout (commands.StockLevel c.args.level.now) c.args.self.now.place 0
    (stored_in g.row.N c.args.space.now) reply in
    elim c.match-answer_level.branch [
      | in-Ok w ↦
          let replies : IsReply c.args.self.now.layout (commands.StockLevel c.args.level.now) c.args.self.now.place 0
          (stored_in g.row.N c.args.space.now) w.in-Ok.reply =
          rw (ap (λ (e : ExecutorState). e.layout) c.self.view_is, ap (λ (e : ExecutorState). e.place) c.self.view_is) at w.in-Ok.ensures in
          subst (λ r. IfOk r answer) (sym w.result-is) (λ edition before now. ap Some (replies edition before now))
      | in-Err w ↦ subst (λ r. IfOk r answer) (sym w.result-is) tt
    ]
