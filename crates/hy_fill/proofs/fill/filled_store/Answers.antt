use Rattle.std.proofs.Common.{◌≡◌, ◌≤◌, ◌∙◌, Result, Ok, Err, IsErrAnd, subst, arith}
use Rattle.hy_frames.specs.declared.errors.Shortage.{Shortage}
use Rattle.hy_frames.specs.FrameTable.{free_of}
use Rattle.hy_space.specs.Space.{SpaceState}
use Rattle.hy_layout.specs.Layout.{own_rows}
use Rattle.hy_fill.specs.Frames.{frames_for, most_of}
use Rattle.hy_fill.proofs.FrameLaws.{full-bound, some_frames}
use Rattle.hy_fill.proofs.fill.filled_store.Goals as goal

-- a refusal that is handed on is the same
handed_on : {T U : Type 0} (made : Result T Shortage) (was : Result U Shortage) (error shortage : Shortage)
    → IsErrAnd made (λ e. e ≡ error) → was ≡ Err error → made ≡ Err shortage → was ≡ Err shortage
handed_on (Ok value) was error shortage is failed told = absurd is
handed_on (Err e) was error shortage is failed told = cc

pub returns-in_err-space-clause-no_frame : goal.returns-in_err-space-clause-no_frame
returns-in_err-space-clause-no_frame g c told =
    let few = c.empty_store.ensures.no_frame (handed_on c.from_residual.result c.empty_store.result c.in_err-space.field-0.0 _
    c.from_residual.ensures.1 c.in_err-space.was told) in
    omega (arith, few, some_frames g.row.N (own_rows c.args.layout.now))

pub returns-in_err-filled-clause-no_frame : goal.returns-in_err-filled-clause-no_frame
returns-in_err-filled-clause-no_frame g c told =
    let own = own_rows c.args.layout.now in
    let space : SpaceState = c.fill-filled.new.space in
    let full : free_of space.frames ≡ 0 =
    c.fill-filled.ensures.no_frame (handed_on c.from_residual-in_err-filled.result c.fill-filled.result c.in_err-filled.field-0.0 _
    c.from_residual-in_err-filled.ensures.1 c.in_err-filled.was told) in
    let bound : space.frames.max ≤ frames_for g.row.N own =
    full-bound g.row.N own space c.sound.ensures (c.fill-filled.ensures.stays.children ∙ c.in_ok-space.ensures.children)
    (c.fill-filled.ensures.pages (c.in_ok-space.ensures.pages (most_of own))) full in
    subst (λ max. max ≤ frames_for g.row.N own) (c.fill-filled.ensures.stays.limit ∙ c.in_ok-space.ensures.limit) bound
