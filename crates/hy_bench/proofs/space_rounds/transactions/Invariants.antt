use Rattle.hy_undo.specs.PrivatePages.{IsUndoLog}
use Rattle.hy_bench.proofs.space_rounds.transactions.Given as goal

abbrev pub invariant-loop-round : goal.invariant-loop-round
invariant-loop-round l = IsUndoLog 4096 l.space l.undo
