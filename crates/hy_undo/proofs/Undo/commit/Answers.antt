use Rattle.std.proofs.Common.{◌≡◌, List, ap₂, ℕ, ◌<◌, ◌++◌, ◌∷◌, [], length, take, arith, sym, ap, ◌∙◌, length-set}
use Rattle.std.proofs.lemmas.List.{take_more_set, take_all, length-map}
use Rattle.hy_space.specs.Space.{owner_bytes}
use Rattle.hy_undo.specs.UndoLog.{Image, UndoLog, page_counts, undone}
use Rattle.hy_undo.proofs.RollBackLaws.{undone-empty_log}
use Rattle.hy_undo.proofs.PrivatePageLaws.{page_counts-more}
use Rattle.hy_undo.proofs.Undo.commit.Goals as goal

pub loop-segment-preserved : goal.loop-segment-preserved
loop-segment-preserved g c =
    let space = c.args.space.now in
    let segment = c.loop-segment.segment in
    let counts = c.loop-segment.self-inside.counts.items in
    let there : segment < length space.owner = omega arith in
    let within : segment < length counts = omega arith in
    record {
      counts =
          take_more_set counts segment c.pages.result within
          ∙ ap (λ front. front ++ c.pages.result ∷ []) c.loop-segment.invariant.counts
          ∙ ap (λ n. take segment (page_counts space) ++ n ∷ []) c.pages.ensures
          ∙ sym (page_counts-more space segment there);
      segments = length-set counts segment c.pages.result ∙ c.loop-segment.invariant.segments;
    }

pub returns-clause-undone : goal.returns-clause-undone
returns-clause-undone g c =
    let space = c.args.space.now in
    let log_of = λ (n : List ℕ) (all : List Image). let log : UndoLog = record { counts = n; images = all } in log in
    let counts : c.loop-segment.self-inside.counts.items ≡ page_counts space =
    sym (take_all c.loop-segment.segment c.loop-segment.self-inside.counts.items (omega (arith, c.loop-segment.invariant.segments)))
    ∙ c.loop-segment.invariant.counts
    ∙ take_all c.loop-segment.segment (page_counts space) (omega (arith, length-map space.owner length))
    in
    ap (undone (owner_bytes space)) (ap₂ log_of counts c.clear.ensures) ∙ undone-empty_log space
