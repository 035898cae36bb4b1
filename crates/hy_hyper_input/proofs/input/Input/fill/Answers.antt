use Rattle.std.proofs.Common.{◌≡◌, ◌+◌, ℕ, false, nat_lt, Result, Ok, Err, OnErr, subst, sym, arith}
use Rattle.std.proofs.lemmas.Bool.{ltb-false}
use Rattle.hy_hyper_input.specs.Inputs.{FailsToFill, Fills, InputState, between}
use Rattle.hy_hyper_input.proofs.FillsLaws.{fails, fills}
use Rattle.hy_hyper_input.proofs.TakesLaws.{behind}
use Rattle.hy_hyper_input.proofs.input.Input.fill.Goals as goal

on_err : {T E P : Type 0} (result : Result T E) → P → OnErr result P
on_err (Ok value) holds = tt
on_err (Err error) holds = holds

no-more : (count : ℕ) → nat_lt 0 count ≡ false → count ≡ 0
no-more count none = omega (arith, ltb-false 0 count none)

pub returns-in_err-count-clause-failed : goal.returns-in_err-count-clause-failed
returns-in_err-count-clause-failed g c =
    let bytes = c.self.inside.room.items in
    let line = between c.self.inside.line_start c.self.inside.line_end bytes in
    let news = c.read_behind.new.room.items in
    let none = between c.self.inside.line_start c.self.inside.line_start news in
    let coming = g.R.Read.remaining c.self.inside.reader in
    let later = g.R.Read.remaining c.read_behind.new.reader in
    let first = c.make_room-is_full.new.start in
    let last = c.make_room-is_full.new.end in
    let made = fails c.self.inside.number line c.self.inside.is_long coming c.self.inside.start c.self.inside.end bytes
    c.self.invariant.3 (omega (arith, c.self.invariant.0, c.self.invariant.4)) c.self.invariant.0
    c.make_room-is_full.result c.make_room-is_full.ensures.full c.make_room-is_full.new.room.items first last later none
    news c.make_room-is_full.ensures.order c.make_room-is_full.ensures.left
    c.in_err-count.ensures.before
    c.in_err-count.ensures.failed in
    on_err c.from_residual.result
    (subst (λ (now : InputState). FailsToFill now (behind c.self.inside.number none c.true_or-self-inside.result
    (between first last news) later)) c.self.view_is
    (subst (λ is_long. FailsToFill (behind c.self.inside.number line c.self.inside.is_long
    (between c.self.inside.start c.self.inside.end bytes) coming)
    (behind c.self.inside.number none is_long (between first last news) later)) (sym c.true_or-self-inside.ensures) made))

pub returns-clause-filled : goal.returns-clause-filled
returns-clause-filled g c =
    let bytes = c.self.inside.room.items in
    let line = between c.self.inside.line_start c.self.inside.line_end bytes in
    let news = c.read_behind.new.room.items in
    let none = between c.self.inside.line_start c.self.inside.line_start news in
    let coming = g.R.Read.remaining c.self.inside.reader in
    let later = g.R.Read.remaining c.read_behind.new.reader in
    let first = c.make_room-is_full.new.start in
    let last = c.make_room-is_full.new.end in
    let made = fills c.self.inside.number line c.self.inside.is_long coming c.self.inside.start c.self.inside.end bytes
    c.self.invariant.3 (omega (arith, c.self.invariant.0, c.self.invariant.4)) c.self.invariant.0
    c.make_room-is_full.result c.make_room-is_full.ensures.full c.make_room-is_full.new.room.items first last later none
    news c.make_room-is_full.ensures.order c.make_room-is_full.ensures.left
    c.in_ok-count.ensures.before
    c.in_ok-count.count (nat_lt 0 c.in_ok-count.count) c.in_ok-count.ensures.read (no-more c.in_ok-count.count)
    c.in_ok-count.ensures.at_end in
    subst (λ (now : InputState). Fills now (behind c.self.inside.number none c.true_or-self-inside.result
    (between first (last + c.in_ok-count.count) news) later) (nat_lt 0 c.in_ok-count.count)) c.self.view_is
    (subst (λ is_long. Fills (behind c.self.inside.number line c.self.inside.is_long
    (between c.self.inside.start c.self.inside.end bytes) coming)
    (behind c.self.inside.number none is_long (between first (last + c.in_ok-count.count) news) later) (nat_lt 0 c.in_ok-count.count))
    (sym c.true_or-self-inside.ensures) made)
