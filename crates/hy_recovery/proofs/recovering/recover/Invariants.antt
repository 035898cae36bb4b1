-- The batches before were run.
use Rattle.std.proofs.Common.{◌≡◌}
use Rattle.hy_recovery.proofs.JoinedLaws.{AreRun}
use Rattle.hy_recovery.proofs.recovering.recover.Given as goal

abbrev pub invariant-loop-place : goal.invariant-loop-place
invariant-loop-place g l =
    record {
      run : AreRun l.load l.batches l.max_frames l.max_kept l.place l.journal.list.log l.parts.items;
      client : l.pass.client ≡ l.fn.pass.client;
    }
