use Rattle.std.proofs.Common.{◌≡◌, ◌⊎◌, ℕ, ◌+◌, ◌-◌, ◌<◌, ◌≤◌, suc, None, length, slice_index_or, sym, ap, ◌∙◌, subst, arith}
use Rattle.std.specs.Prelude.{Option, IfSome, slice_get}
use Rattle.std.specs.Option.{option_or}
use Rattle.hy_rows.proofs.BetweenLaws.{IsBetween-bounds, bounds}
use Rattle.hy_commands.specs.declared.reply.Reply.{Reply}
use Rattle.hy_commands.specs.Commands.{customer_home_of}
use Rattle.hy_partition.specs.Partition.{PartState, PartitionState}
use Rattle.hy_partition.specs.Unsettled.{UnsettledState, part_of}
use Rattle.hy_crossing.specs.Crossings.{CanDoIfNamed, DoesIfNamed, MayRunIfNamed, RepliesFrom}
use Rattle.hy_crossing.specs.Unsettled.{AreHeldBefore, DoesAt, named_before, unsettled_of}
use Rattle.hy_crossing.proofs.CountLaws.{before-few, none-or-some}
use Rattle.hy_crossing.proofs.InformLaws.{may-at}
use Rattle.hy_crossing.proofs.PlaceLaws.{customer_home-named}
use Rattle.hy_crossing.proofs.ReplyLaws.{replies-some}
use Rattle.hy_crossing.proofs.NamedWalkLaws.{behind}
use Rattle.hy_crossing.proofs.StillLaws.{AreDoneBefore, doing-end, doing-next}
use Rattle.hy_crossing.proofs.StepLaws.{answer-early, answer-late, done-step, halves-count, held-halves, left-all, quiet-halves, why-not}
use Rattle.hy_crossing.proofs.TurnLaws.{done-end, done-get}
use Rattle.hy_crossing.proofs.UnsettledLaws.{counted-more}
use Rattle.hy_crossing.proofs.doing.do_parts.Goals as goal

pub overflow_add-place : goal.overflow_add-place
overflow_add-place g c =
    let places = c.places_before-places.result.now in
    let place = slice_index_or places c.loop-place.place-index 0 in
    let at = doing-next c.args.edition c.args.command.now (g.P.Parts.states c.args.parts.now)
    (g.P.Parts.states c.loop-place.parts) c.loop-place.unsettled c.len.result places c.places_before-places.ensures
    c.loop-place.place-index c.len.ensures c.loop-place-test.true c.loop-place.invariant in
    omega (arith, at.within, c.len.ensures, c.requires.few)

pub undo_parts-requires-clause-end : goal.undo_parts-requires-clause-end
undo_parts-requires-clause-end g c =
    let places = c.places_before-places.result.now in
    let place = slice_index_or places c.loop-place.place-index 0 in
    let at = doing-next c.args.edition c.args.command.now (g.P.Parts.states c.args.parts.now)
    (g.P.Parts.states c.loop-place.parts) c.loop-place.unsettled c.len.result places c.places_before-places.ensures
    c.loop-place.place-index c.len.ensures c.loop-place-test.true c.loop-place.invariant in
    let olds = g.P.Parts.states c.args.parts.now in
    let within : place < length olds = omega (arith, at.within, c.len.ensures) in
    let count = halves-count c.args.edition c.args.command.now place olds (g.P.Parts.states c.loop-place.parts)
    at.holds.done within c.in-Err.refusal (g.P.Parts.states c.do_here.new.parts) c.in-Err.ensures.refused in
    omega (arith, within, count)

pub do_here-requires-clause-there : goal.do_here-requires-clause-there
do_here-requires-clause-there g c =
    let places = c.places_before-places.result.now in
    let place = slice_index_or places c.loop-place.place-index 0 in
    let at = doing-next c.args.edition c.args.command.now (g.P.Parts.states c.args.parts.now)
    (g.P.Parts.states c.loop-place.parts) c.loop-place.unsettled c.len.result places c.places_before-places.ensures
    c.loop-place.place-index c.len.ensures c.loop-place-test.true c.loop-place.invariant in
    let number : ℕ = place + 1 in
    let rows : ℕ = length (g.P.Parts.states c.loop-place.parts) in
    IsBetween-bounds 1 rows number (omega arith) (omega (arith, at.within, c.len.ensures, at.holds.done.count))

pub do_here-requires-clause-named : goal.do_here-requires-clause-named
do_here-requires-clause-named g c =
    let places = c.places_before-places.result.now in
    let place = slice_index_or places c.loop-place.place-index 0 in
    let at = doing-next c.args.edition c.args.command.now (g.P.Parts.states c.args.parts.now)
    (g.P.Parts.states c.loop-place.parts) c.loop-place.unsettled c.len.result places c.places_before-places.ensures
    c.loop-place.place-index c.len.ensures c.loop-place-test.true c.loop-place.invariant in
    at.named

pub do_here-requires-clause-can : goal.do_here-requires-clause-can
do_here-requires-clause-can g c =
    let places = c.places_before-places.result.now in
    let place = slice_index_or places c.loop-place.place-index 0 in
    let at = doing-next c.args.edition c.args.command.now (g.P.Parts.states c.args.parts.now)
    (g.P.Parts.states c.loop-place.parts) c.loop-place.unsettled c.len.result places c.places_before-places.ensures
    c.loop-place.place-index c.len.ensures c.loop-place-test.true c.loop-place.invariant in
    let command = c.args.command.now in
    let olds = g.P.Parts.states c.args.parts.now in
    let news = g.P.Parts.states c.loop-place.parts in
    let back : place ≡ place + 1 - 1 = omega arith in
    let next : suc place ≡ place + 1 = omega arith in
    let same = done-get (DoesIfNamed c.args.edition command) place olds news at.holds.done in
    subst (λ n. IfSome (slice_get news n) (CanDoIfNamed command (place + 1))) back
    (subst (λ n. IfSome (slice_get news place) (CanDoIfNamed command n)) next
    (subst (λ (row : Option PartitionState). IfSome row (CanDoIfNamed command (suc place))) (sym same)
    (c.requires.can place)))

pub do_here-requires-clause-same : goal.do_here-requires-clause-same
do_here-requires-clause-same g c =
    let places = c.places_before-places.result.now in
    let place = slice_index_or places c.loop-place.place-index 0 in
    let at = doing-next c.args.edition c.args.command.now (g.P.Parts.states c.args.parts.now)
    (g.P.Parts.states c.loop-place.parts) c.loop-place.unsettled c.len.result places c.places_before-places.ensures
    c.loop-place.place-index c.len.ensures c.loop-place-test.true c.loop-place.invariant in
    ap part_of at.holds.counted

pub do_here-requires-clause-countable : goal.do_here-requires-clause-countable
do_here-requires-clause-countable g c =
    let places = c.places_before-places.result.now in
    let place = slice_index_or places c.loop-place.place-index 0 in
    let at = doing-next c.args.edition c.args.command.now (g.P.Parts.states c.args.parts.now)
    (g.P.Parts.states c.loop-place.parts) c.loop-place.unsettled c.len.result places c.places_before-places.ensures
    c.loop-place.place-index c.len.ensures c.loop-place-test.true c.loop-place.invariant in
    let count : c.loop-place.unsettled.count ≡ named_before c.args.command.now place =
    ap (λ (u : UnsettledState). u.count) at.holds.counted in
    omega (arith, count, before-few c.args.command.now place, at.within, c.len.ensures, c.requires.few)

pub do_here-requires-clause-edition : goal.do_here-requires-clause-edition
do_here-requires-clause-edition g c =
    let places = c.places_before-places.result.now in
    let place = slice_index_or places c.loop-place.place-index 0 in
    let at = doing-next c.args.edition c.args.command.now (g.P.Parts.states c.args.parts.now)
    (g.P.Parts.states c.loop-place.parts) c.loop-place.unsettled c.len.result places c.places_before-places.ensures
    c.loop-place.place-index c.len.ensures c.loop-place-test.true c.loop-place.invariant in
    let command = c.args.command.now in
    let olds = g.P.Parts.states c.args.parts.now in
    let news = g.P.Parts.states c.loop-place.parts in
    let back : place ≡ place + 1 - 1 = omega arith in
    let next : suc place ≡ place + 1 = omega arith in
    let same = done-get (DoesIfNamed c.args.edition command) place olds news at.holds.done in
    subst (λ n. IfSome (slice_get news n) (MayRunIfNamed c.args.edition command (place + 1))) back
    (subst (λ n. IfSome (slice_get news place) (MayRunIfNamed c.args.edition command n)) next
    (subst (λ (row : Option PartitionState). IfSome row (MayRunIfNamed c.args.edition command (suc place))) (sym same)
    (may-at c.args.edition command olds place c.requires.edition)))

pub undo_parts-requires-clause-quiet : goal.undo_parts-requires-clause-quiet
undo_parts-requires-clause-quiet g c =
    let places = c.places_before-places.result.now in
    let place = slice_index_or places c.loop-place.place-index 0 in
    let at = doing-next c.args.edition c.args.command.now (g.P.Parts.states c.args.parts.now)
    (g.P.Parts.states c.loop-place.parts) c.loop-place.unsettled c.len.result places c.places_before-places.ensures
    c.loop-place.place-index c.len.ensures c.loop-place-test.true c.loop-place.invariant in
    let olds = g.P.Parts.states c.args.parts.now in
    let middles = g.P.Parts.states c.loop-place.parts in
    let news = g.P.Parts.states c.do_here.new.parts in
    let within : place < length olds = omega (arith, at.within, c.len.ensures) in
    quiet-halves c.args.edition c.args.command.now place olds middles at.holds.done within c.in-Err.refusal news
    c.in-Err.ensures.refused c.requires.can

pub undo_parts-requires-clause-held : goal.undo_parts-requires-clause-held
undo_parts-requires-clause-held g c =
    let places = c.places_before-places.result.now in
    let place = slice_index_or places c.loop-place.place-index 0 in
    let at = doing-next c.args.edition c.args.command.now (g.P.Parts.states c.args.parts.now)
    (g.P.Parts.states c.loop-place.parts) c.loop-place.unsettled c.len.result places c.places_before-places.ensures
    c.loop-place.place-index c.len.ensures c.loop-place-test.true c.loop-place.invariant in
    let olds = g.P.Parts.states c.args.parts.now in
    let middles = g.P.Parts.states c.loop-place.parts in
    let news = g.P.Parts.states c.do_here.new.parts in
    let within : place < length olds = omega (arith, at.within, c.len.ensures) in
    let part : part_of c.do_here.new.unsettled ≡ record { edition = c.args.edition; command = c.args.command.now } =
    ap part_of c.in-Err.ensures.uncounted ∙ ap part_of at.holds.counted in
    subst (λ (part : PartState). AreHeldBefore c.args.command.now place part news) (sym part)
    (held-halves c.args.edition c.args.command.now place olds middles at.holds.done within c.in-Err.refusal news
    c.in-Err.ensures.refused c.requires.can)

pub undo_parts-requires-clause-counted : goal.undo_parts-requires-clause-counted
undo_parts-requires-clause-counted g c =
    let places = c.places_before-places.result.now in
    let place = slice_index_or places c.loop-place.place-index 0 in
    let at = doing-next c.args.edition c.args.command.now (g.P.Parts.states c.args.parts.now)
    (g.P.Parts.states c.loop-place.parts) c.loop-place.unsettled c.len.result places c.places_before-places.ensures
    c.loop-place.place-index c.len.ensures c.loop-place-test.true c.loop-place.invariant in
    ap (λ (u : UnsettledState). u.count) c.in-Err.ensures.uncounted
    ∙ ap (λ (u : UnsettledState). u.count) at.holds.counted

pub undo_parts-requires-clause-replied : goal.undo_parts-requires-clause-replied
undo_parts-requires-clause-replied g c =
    let places = c.places_before-places.result.now in
    let place = slice_index_or places c.loop-place.place-index 0 in
    let at = doing-next c.args.edition c.args.command.now (g.P.Parts.states c.args.parts.now)
    (g.P.Parts.states c.loop-place.parts) c.loop-place.unsettled c.len.result places c.places_before-places.ensures
    c.loop-place.place-index c.len.ensures c.loop-place-test.true c.loop-place.invariant in
    let command = c.args.command.now in
    let home = customer_home_of command in
    let olds = g.P.Parts.states c.args.parts.now in
    let ends = bounds 1 (length olds) home c.requires.there in
    let same : c.do_here.new.unsettled ≡ c.loop-place.unsettled = c.in-Err.ensures.uncounted in
    let count : c.loop-place.unsettled.count ≡ named_before command place =
    ap (λ (u : UnsettledState). u.count) at.holds.counted in
    subst (λ (u : UnsettledState). (u.reply ≡ None) ⊎ (1 ≤ u.count)) (sym same)
    (subst (λ n. (c.loop-place.unsettled.reply ≡ None) ⊎ (1 ≤ n)) (sym count)
    (none-or-some command home place (c.loop-place.unsettled.reply ≡ None) ends.0 (customer_home-named command)
    at.holds.early))

pub undo_parts-requires-clause-unshared : goal.undo_parts-requires-clause-unshared
undo_parts-requires-clause-unshared g c =
    let places = c.places_before-places.result.now in
    let place = slice_index_or places c.loop-place.place-index 0 in
    let at = doing-next c.args.edition c.args.command.now (g.P.Parts.states c.args.parts.now)
    (g.P.Parts.states c.loop-place.parts) c.loop-place.unsettled c.len.result places c.places_before-places.ensures
    c.loop-place.place-index c.len.ensures c.loop-place-test.true c.loop-place.invariant in
    ap (λ (u : UnsettledState). u.share) c.in-Err.ensures.uncounted
    ∙ ap (λ (u : UnsettledState). u.share) at.holds.counted

pub returns-in-Err-clause-left : goal.returns-in-Err-clause-left
returns-in-Err-clause-left g c =
    let places = c.places_before-places.result.now in
    let place = slice_index_or places c.loop-place.place-index 0 in
    let at = doing-next c.args.edition c.args.command.now (g.P.Parts.states c.args.parts.now)
    (g.P.Parts.states c.loop-place.parts) c.loop-place.unsettled c.len.result places c.places_before-places.ensures
    c.loop-place.place-index c.len.ensures c.loop-place-test.true c.loop-place.invariant in
    let olds = g.P.Parts.states c.args.parts.now in
    let middles = g.P.Parts.states c.loop-place.parts in
    let news = g.P.Parts.states c.do_here.new.parts in
    let last = g.P.Parts.states c.undo_parts.new.parts in
    let within : place < length olds = omega (arith, at.within, c.len.ensures) in
    left-all c.args.edition c.args.command.now place olds middles at.holds.done within c.in-Err.refusal news
    c.in-Err.ensures.refused last c.undo_parts.ensures

pub returns-in-Err-clause-refused : goal.returns-in-Err-clause-refused
returns-in-Err-clause-refused g c =
    let places = c.places_before-places.result.now in
    let place = slice_index_or places c.loop-place.place-index 0 in
    let at = doing-next c.args.edition c.args.command.now (g.P.Parts.states c.args.parts.now)
    (g.P.Parts.states c.loop-place.parts) c.loop-place.unsettled c.len.result places c.places_before-places.ensures
    c.loop-place.place-index c.len.ensures c.loop-place-test.true c.loop-place.invariant in
    let olds = g.P.Parts.states c.args.parts.now in
    let middles = g.P.Parts.states c.loop-place.parts in
    let news = g.P.Parts.states c.do_here.new.parts in
    let last = g.P.Parts.states c.undo_parts.new.parts in
    let within : place < length olds = omega (arith, at.within, c.len.ensures) in
    why-not c.args.edition c.args.command.now place olds middles at.holds.done within c.in-Err.refusal news
    c.in-Err.ensures.refused last c.undo_parts.ensures

pub loop-place-preserved : goal.loop-place-preserved
loop-place-preserved g c =
    let places = c.places_before-places.result.now in
    let place = slice_index_or places c.loop-place.place-index 0 in
    let at = doing-next c.args.edition c.args.command.now (g.P.Parts.states c.args.parts.now)
    (g.P.Parts.states c.loop-place.parts) c.loop-place.unsettled c.len.result places c.places_before-places.ensures
    c.loop-place.place-index c.len.ensures c.loop-place-test.true c.loop-place.invariant in
    let command = c.args.command.now in
    let olds = g.P.Parts.states c.args.parts.now in
    let middles = g.P.Parts.states c.loop-place.parts in
    let news = g.P.Parts.states c.do_here.new.parts in
    let done = at.holds.done in
    let within : place < length olds = omega (arith, at.within, c.len.ensures) in
    let does : DoesAt c.args.edition command (place + 1) c.loop-place.unsettled c.do_here.new.unsettled middles news =
    c.in_default.ensures.done in
    let answer = c.loop-place.unsettled.reply in
    let replied : c.do_here.new.unsettled.reply ≡ option_or does.reply answer =
    ap (λ (u : UnsettledState). u.reply) does.counted in
    behind places c.loop-place.place-index (AreDoneBefore c.args.edition command olds news c.do_here.new.unsettled) record {
      done = done-step c.args.edition command place olds middles done within does.reply news does.changes;
      early = λ before. replied ∙ answer-early c.args.edition command place olds middles done within does.reply news does.changes
          g.K.Loaded.load c.requires.parts answer at.holds.early before;
      late = λ passed. subst (λ (r : Option Reply). RepliesFrom c.args.edition command olds r) (sym replied)
          (answer-late c.args.edition command place olds middles done within does.reply news does.changes
          g.K.Loaded.load c.requires.parts answer at.holds.late passed);
      counted = counted-more c.args.edition command place c.loop-place.unsettled c.do_here.new.unsettled does.reply
          at.holds.counted does.counted;
    }

pub returns-clause-done : goal.returns-clause-done
returns-clause-done g c =
    let olds = g.P.Parts.states c.args.parts.now in
    let news = g.P.Parts.states c.loop-place.parts in
    let ended = doing-end c.args.edition c.args.command.now olds news c.loop-place.unsettled c.len.result
    c.places_before-places.result.now c.places_before-places.ensures c.loop-place.place-index c.len.ensures
    c.loop-place.auto.place-index-end c.loop-place-test.false c.loop-place.invariant in
    done-end (DoesIfNamed c.args.edition c.args.command.now) c.len.result olds news ended.done (omega (arith, c.len.ensures))

pub returns-clause-all : goal.returns-clause-all
returns-clause-all g c =
    let edition = c.args.edition in
    let command = c.args.command.now in
    let olds = g.P.Parts.states c.args.parts.now in
    let unsettled = c.loop-place.unsettled in
    let ends = bounds 1 (length olds) (customer_home_of command) c.requires.there in
    let ended = doing-end edition command olds (g.P.Parts.states c.loop-place.parts) unsettled c.len.result
    c.places_before-places.result.now c.places_before-places.ensures c.loop-place.place-index c.len.ensures
    c.loop-place.auto.place-index-end c.loop-place-test.false c.loop-place.invariant in
    let replies : RepliesFrom edition command olds unsettled.reply = ended.late (omega (arith, ends.1, c.len.ensures)) in
    let some = replies-some g.K.Loaded.load edition command olds unsettled.reply c.requires.parts c.requires.there replies in
    record {
      reply = some.0;
      replies = subst (λ (r : Option Reply). RepliesFrom edition command olds r) some.1 replies;
      counted = ended.counted
          ∙ ap (λ n. unsettled_of edition command (named_before command n) unsettled.reply None) c.len.ensures
          ∙ ap (λ (r : Option Reply). unsettled_of edition command (named_before command (length olds)) r None) some.1;
    }
