use Rattle.std.proofs.Common.{sym, ◌∙◌}
use Rattle.hy_query.proofs.WordLaws.{quoted-closed, quoted-early, quoted-open}
use Rattle.hy_query.proofs.words.quoted.Goals as goal
use Rattle.hy_query.proofs.words.quoted.Goals.{then-last-ne39-via-then-last-ne39, then-last-ne39-via-else-last-ne39+then-contains}

pub returns : goal.returns
returns c =
    quoted-closed c.args.text.now c.in_ok-last.letters.now c.in_ok-last.last.now c.in_ok-last.ensures.cases.0
    c.if-last-ne39.false (sym c.contains.ensures.value ∙ c.if-contains.false)

pub returns-then-last-ne39 : goal.returns-then-last-ne39
returns-then-last-ne39 c = elim c.then-last-ne39.branch [
  | then-last-ne39-via-then-last-ne39 w ↦
      quoted-open c.args.text.now c.in_ok-last.letters.now c.in_ok-last.last.now c.in_ok-last.ensures.cases.0
      w.if-last-ne39.true
  | then-last-ne39-via-else-last-ne39+then-contains w ↦
      quoted-early c.args.text.now c.in_ok-last.letters.now c.in_ok-last.last.now c.in_ok-last.ensures.cases.0
      (sym w.contains.ensures.value ∙ w.if-contains.true)
]
