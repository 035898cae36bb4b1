-- A writer with a note of whether a write to it has failed.
use Rattle.std.specs.Prelude.{Bool}
use Rattle.hy_output.specs.declared.stream.Stream.{Stream}

-- the writer
abbrev pub writer_of : {W : Type 0} → Stream W → W
writer_of stream = stream.writer

-- whether a write has failed
abbrev pub has_failed : {W : Type 0} → Stream W → Bool
has_failed stream = stream.has_failed
