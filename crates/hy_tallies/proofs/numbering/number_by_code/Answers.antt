use Rattle.std.proofs.Common.{◌≡◌, ◌∙◌, ap, arith, length, map, subst}
use Rattle.std.proofs.lemmas.List.{with_items_is}
use Rattle.std.proofs.lemmas.Result.{on_ok_weaker}
use Rattle.hy_tallies.specs.Lines.{column_in}
use Rattle.hy_tallies.specs.inside.Groups.{HasNumbered}
use Rattle.hy_tallies.specs.inside.Repeats.{IsNoted, Repeat}
use Rattle.hy_tallies.proofs.numbering.number_by_code.Goals as goal

pub returns-clause-numbered : goal.returns-clause-numbered
returns-clause-numbered c =
    let columns = map column_in c.args.columns.now in
    let noted = c.deref_mut.ensures.value in
    let kept : c.deref.result.now ≡ c.keep_repeats.new.repeats =
    c.deref.ensures.value
    ∙ with_items_is c.begin_repeats.new.repeats c.keep_repeats.new.repeats
    (omega (arith, c.keep_repeats.ensures.long, c.deref_mut.ensures.len, ap length noted)) in
    let long : length c.deref.result.now ≡ c.args.count =
    ap length kept ∙ c.keep_repeats.ensures.long ∙ ap length noted ∙ c.in_ok-begin_repeats.ensures.long in
    let repeat : Repeat columns c.deref.result.now = λ line is.
    let both = c.keep_repeats.ensures.repeats line (subst (λ lines. IsNoted lines line) kept is) in (
      c.in_ok-begin_repeats.ensures.behind line (subst (λ lines. IsNoted lines line) noted both.0),
      both.1,
    ) in
    on_ok_weaker c.number_keys.result
    (λ numbered are. subst (λ count. HasNumbered columns count c.args.groups.now c.number_keys.new.groups c.number_keys.new.numbers.items)
    long (numbered are repeat)) c.number_keys.ensures.numbered
