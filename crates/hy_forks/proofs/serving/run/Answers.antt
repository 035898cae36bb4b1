use Rattle.std.proofs.Common.{◌∙◌, ap, refl}
use Rattle.hy_crossing.specs.of_partition.Jobs.{JobState, refused_answer}
use Rattle.hy_forks.specs.Partitions.{refused_at_begin}
use Rattle.hy_forks.proofs.serving.run.Goals as goal

pub returns-in-Err : goal.returns-in-Err
returns-in-Err g c =
    let why = c.in-Err.refusal in
    refused_at_begin why c.in-Err.ensures.refused
    (c.refuse.ensures ∙ ap (λ (job : JobState). refused_answer job.pass why) c.in-Err.ensures.back) c.in-Err.ensures.err
    refl
