use Rattle.std.specs.Prelude.{◌≡◌, ◌+◌, true, length, is_some}
use Rattle.std.proofs.Common.{arith, ap, rules}
use Rattle.hy_events.specs.Words.{first_word, later_words}
use Rattle.hy_events.specs.Lines.{numbered, without_end}
use Rattle.hy_events.proofs.LineLaws.{fewer}
use Rattle.hy_events.proofs.lines.LinesIterator.next.Goals as goal
use Rattle.hy_events.proofs.lines.LinesIterator.next.Goals.{else-is_empty-via-then-is_empty+else-not-has_more, else-is_empty-via-else-is_empty}

pub returns-clause-goes : goal.returns-clause-goes
returns-clause-goes c =
    let later = c.in_ok-bytes.ensures.later in
    let more : length c.in_ok-bytes.bytes.now ≡ 0 → is_some (first_word (later_words c.self.inside.parts)) ≡ true = λ none. elim c.else-is_empty.branch [
      | else-is_empty-via-then-is_empty+else-not-has_more w ↦
          let some = rw later at w.has_more.ensures in
          search (rules, some)
      | else-is_empty-via-else-is_empty w ↦ absurd (search (rules, none))
    ] in
    let less = fewer c.self.inside.number (c.self.inside.number + 1) c.in_ok-bytes.bytes.now c.self.inside.parts c.in_ok-bytes.ensures.part more in
    let whole = ap length c.self.view_is in
    let rest = ap (λ parts. length (numbered (c.self.inside.number + 1) (without_end parts))) later in
    record { on = λ finite. (tt, tt, omega (arith, less, whole, rest)); keeps = tt; rests = λ finite. tt }
