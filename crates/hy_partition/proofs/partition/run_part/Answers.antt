use Rattle.std.proofs.Common.{Err, inl, inr, ap, ◌∙◌}
use Rattle.hy_partition.proofs.SoundLaws.{undone-none}
use Rattle.hy_partition.proofs.partition.run_part.Goals as goal

pub returns-in-Err-clause-undone : goal.returns-in-Err-clause-undone
returns-in-Err-clause-undone g c =
    let back = c.roll_back.ensures in
    let writes = c.run_part.ensures.writes in
    record {
      none = back.log;
      undo_log = back.undo_log;
      bytes = back.bytes ∙ writes.undoes.undone ∙ undone-none c.args.space.now c.args.undo.now c.requires.none;
      children = record {
        tables = back.gives_up.children.tables ∙ writes.children.tables;
        bytes = λ child. back.gives_up.children.bytes child ∙ writes.children.bytes child;
      };
      max_frames = back.gives_up.limit ∙ writes.limit;
    }

pub returns-in-Err-clause-refused : goal.returns-in-Err-clause-refused
returns-in-Err-clause-refused g c =
    let back = c.roll_back.ensures in
    let writes = c.run_part.ensures.writes in
    elim c.in-Err.ensures.refused [
      | inl frame ↦ inl (
        frame,
        record {
          space = c.run_part.new.space;
          undo = c.run_part.new.undo;
          full = c.in-Err.ensures.no_frame (ap Err frame);
          counts = c.sound.ensures.counts;
          bytes = writes.undoes.undone ∙ undone-none c.args.space.now c.args.undo.now c.requires.none;
          children = writes.children;
          max_frames = writes.limit;
          gives_up = back.gives_up;
        },
      )
      | inr memory ↦ inr memory
    ]
