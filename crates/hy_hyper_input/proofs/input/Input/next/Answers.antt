use Rattle.std.proofs.Common.{◌+◌, false, None, Some, arith, subst}
use Rattle.memchr.specs.Find.{IsFirstByte, is_byte}
use Rattle.hy_hyper_input.specs.declared.input.Next.TheVariants as next
use Rattle.hy_hyper_input.specs.Inputs.{InputState, Takes, between, line_feed}
use Rattle.hy_hyper_input.proofs.TakesLaws.{behind, drops-all, takes-line, takes-long, takes-nothing}
use Rattle.hy_hyper_input.proofs.input.Input.next.Goals as goal

pub returns-then-self : goal.returns-then-self
returns-then-self g c =
    let bytes = c.self.inside.room.items in
    let line = between c.self.inside.line_start c.self.inside.line_end bytes in
    let coming = g.R.Read.remaining c.self.inside.reader in
    subst (λ (now : InputState). Takes now (behind c.self.inside.number line c.self.inside.is_long
    (between c.self.inside.end c.self.inside.end bytes) coming) next.Nothing) c.self.view_is
    (drops-all c.self.inside.number line coming c.self.inside.start c.self.inside.end bytes c.self.inside.is_long c.if-self.true
    (subst (λ bytes. IsFirstByte (is_byte line_feed) (between c.self.inside.start c.self.inside.end bytes) None)
    c.deref.ensures.value c.in_default.ensures))

pub returns-else-self : goal.returns-else-self
returns-else-self g c =
    let bytes = c.self.inside.room.items in
    let line = between c.self.inside.line_start c.self.inside.line_end bytes in
    let coming = g.R.Read.remaining c.self.inside.reader in
    subst (λ (now : InputState). Takes now now next.Nothing) c.self.view_is
    (takes-nothing c.self.inside.number line coming c.self.inside.start c.self.inside.end bytes c.self.inside.is_long
    c.if-self.false
    (subst (λ bytes. IsFirstByte (is_byte line_feed) (between c.self.inside.start c.self.inside.end bytes) None)
    c.deref.ensures.value c.in_default.ensures))

pub returns-then-self-2 : goal.returns-then-self-2
returns-then-self-2 g c =
    let bytes = c.self.inside.room.items in
    let line = between c.self.inside.line_start c.self.inside.line_end bytes in
    let coming = g.R.Read.remaining c.self.inside.reader in
    subst (λ (now : InputState). Takes now (behind c.number_behind-self-inside.result line false
    (between (c.self.inside.start + c.in-Some.place + 1) c.self.inside.end bytes) coming) next.TooLong) c.self.view_is
    (takes-long c.self.inside.number line coming c.self.inside.start c.self.inside.end bytes c.in-Some.place
    c.number_behind-self-inside.result c.self.invariant.3 (omega (arith, c.self.invariant.0, c.self.invariant.4))
    (subst (λ bytes. IsFirstByte (is_byte line_feed) (between c.self.inside.start c.self.inside.end bytes)
    (Some c.in-Some.place)) c.deref.ensures.value c.in-Some.ensures)
    c.number_behind-self-inside.ensures c.self.inside.is_long c.if-self-2.true)

pub returns : goal.returns
returns g c =
    let bytes = c.self.inside.room.items in
    let line = between c.self.inside.line_start c.self.inside.line_end bytes in
    let coming = g.R.Read.remaining c.self.inside.reader in
    subst (λ (now : InputState). Takes now (behind c.number_behind-self-inside.result
    (between c.self.inside.start (c.self.inside.start + c.in-Some.place) bytes) c.self.inside.is_long
    (between (c.self.inside.start + c.in-Some.place + 1) c.self.inside.end bytes) coming) next.Line) c.self.view_is
    (takes-line c.self.inside.number line coming c.self.inside.start c.self.inside.end bytes c.in-Some.place
    c.number_behind-self-inside.result c.self.invariant.3 (omega (arith, c.self.invariant.0, c.self.invariant.4))
    (subst (λ bytes. IsFirstByte (is_byte line_feed) (between c.self.inside.start c.self.inside.end bytes)
    (Some c.in-Some.place)) c.deref.ensures.value c.in-Some.ensures)
    c.number_behind-self-inside.ensures c.self.inside.is_long c.if-self-2.false c.self.invariant.0)
