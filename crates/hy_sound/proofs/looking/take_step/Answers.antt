-- What the steps come to.
use Rattle.std.proofs.Common.{◌∙◌, sym}
use Rattle.std.proofs.lemmas.Bool.{false≢true}
use Rattle.hy_sound.proofs.SoundLaws.{all-stop, leads-crossing, leads-locals, leads-then, sound-end, unsound-before, unsound-lacking, unsound-none, unsound-unknown}
use Rattle.hy_sound.proofs.looking.take_step.Goals as goal
use Rattle.hy_sound.proofs.looking.take_step.Goals.{else-accepts-via-then-accepts+else-pass_crossing, else-accepts-via-else-accepts}

pub returns-then-pass_crossing : goal.returns-then-pass_crossing
returns-then-pass_crossing c =
    let lists = c.args.known.now in
    let old = c.args.merge.now in
    let middle = c.pass_all_locals.new.merge in
    let new = c.pass_crossing.new.self in
    let last = c.args.last in
    let edition = c.in-Some.edition in
    let number = c.in-Some.number in
    let locals = leads-locals lists last old middle c.if-not-pass_all_locals.ensures in
    let crossing = leads-crossing lists last edition number c.in-Some.command.now middle c.in-Some.ensures
    (sym c.if-accepts.ensures) new c.if-pass_crossing.ensures in
    (c.in-Some.ensures.0, leads-then lists last last number old middle new locals crossing)

pub returns-else-accepts : goal.returns-else-accepts
returns-else-accepts c =
    let lists = c.args.known.now in
    let old = c.args.merge.now in
    let middle = c.pass_all_locals.new.merge in
    let last = c.args.last in
    let edition = c.in-Some.edition in
    let number = c.in-Some.number in
    let command = c.in-Some.command.now in
    let locals = leads-locals lists last old middle c.if-not-pass_all_locals.ensures in
    unsound-before lists last last old middle locals (elim c.else-accepts.branch [
      | else-accepts-via-then-accepts+else-pass_crossing w ↦
          unsound-lacking lists last edition number command middle c.in-Some.ensures
          (all-stop lists old middle c.if-not-pass_all_locals.ensures) w.if-pass_crossing.ensures
      | else-accepts-via-else-accepts w ↦
          unsound-unknown lists last edition number command middle c.in-Some.ensures (sym w.if-accepts.ensures)
    ])

pub returns-then-is_at_end : goal.returns-then-is_at_end
returns-then-is_at_end c =
    let lists = c.args.known.now in
    let old = c.args.merge.now in
    let middle = c.pass_all_locals.new.merge in
    let last = c.args.last in
    (leads-locals lists last old middle c.if-not-pass_all_locals.ensures).back last
    (sound-end lists last middle (c.is_at_end.ensures.0 c.if-is_at_end.true))

pub returns-else-is_at_end : goal.returns-else-is_at_end
returns-else-is_at_end c =
    let lists = c.args.known.now in
    let old = c.args.merge.now in
    let middle = c.pass_all_locals.new.merge in
    let last = c.args.last in
    let locals = leads-locals lists last old middle c.if-not-pass_all_locals.ensures in
    unsound-before lists last last old middle locals
    (unsound-none lists last middle c.in-None.ensures (all-stop lists old middle c.if-not-pass_all_locals.ensures)
    (λ none. false≢true (sym c.if-is_at_end.false ∙ c.is_at_end.ensures.1 none)))
