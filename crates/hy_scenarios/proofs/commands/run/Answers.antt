use Rattle.std.proofs.Common.{◌≡◌, ◌∙◌, ℕ, List, None, Some, [], ap}
use Rattle.std.specs.Prelude.{Vec}
use Rattle.std.specs.declared.alloc.Global.{Global}
use Rattle.hy_files.specs.MemoryFiles.{files_on}
use Rattle.hy_output.specs.declared.stream.Stream.{Stream}
use Rattle.hy_output.specs.Streams.{writer_of}
use Rattle.hy_program.proofs.RunLaws.{refused_weaker}
use Rattle.hy_program.specs.Runs.{KnownBytes, KnownFiles, status_of}
use Rattle.hy_cli.specs.CommandLine.{texts_of}
use Rattle.hy_scenarios.proofs.commands.run.Goals as goal

-- what stands on an output in memory
abbrev items_on : Stream (Vec ℕ Global) → List ℕ
items_on stream = (writer_of stream).items

pub returns-in_default : goal.returns-in_default
returns-in_default g c =
    let no_out = c.nothing-out.ensures in
    let no_err = c.nothing-err.ensures in
    let unprinted : c.run_words.new.out ≡ c.nothing-out.result → (writer_of c.run_words.new.out).items ≡ [] =
    λ same. ap items_on same ∙ no_out in
    let files : KnownFiles = (Some (files_on c.args.stored.now), Some (files_on c.run_words.new.system)) in
    let bytes : KnownBytes =
    (Some (writer_of c.nothing-out.result).items, Some (writer_of c.run_words.new.out).items) in
    let second : KnownBytes =
    (Some (writer_of c.nothing-err.result).items, Some (writer_of c.run_words.new.err).items) in
    let is = c.in_default.ending-is in (
      c.in_default.ending,
      rw c.printed.ensures (record {
        status = ap status_of is;
        printed_all = λ failed. c.in_default.not-WriterFailed (is ∙ failed);
        files = c.run_words.ensures.files;
        done = λ done. (
          rw no_out at (c.run_words.ensures.done (is ∙ done)),
          ap items_on (c.run_words.ensures.done_without_words (is ∙ done)) ∙ no_err,
        );
        refused = λ refused. rw (no_out, no_err) at (refused_weaker files (None, None) (Some c.args.input.now) bytes
            (c.run_words.new.out ≡ c.nothing-out.result) ((writer_of c.run_words.new.out).items ≡ []) unprinted
            (texts_of c.args.words.now) second (c.run_words.ensures.refused (is ∙ refused)));
        no_line = λ none. (
          c.run_words.ensures.at_fault (is ∙ none),
          ap items_on (c.run_words.ensures.no_line (is ∙ none)).1 ∙ no_out,
          ap (λ stored. files_on stored) (c.run_words.ensures.no_line (is ∙ none)).0,
        );
      }),
    )
