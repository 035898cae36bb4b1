use Rattle.std.proofs.Common.{◌≡◌, ℕ, ◌+◌, ◌≤◌, ◌++◌, List, length, arith, ap, subst, ◌∙◌}
use Rattle.hy_page.specs.Bytes.{overwritten}
use Rattle.hy_space.specs.Space.{WritesPage, owner_bytes, page_at, page_bytes}
use Rattle.hy_undo.proofs.PutBackLaws.{page_at-with_page_same}
use Rattle.hy_undo.proofs.PrivatePageLaws.{IsThere-owner_bytes, length-page_bytes}
use Rattle.hy_undo.proofs.SpliceLaws.{WritesPage-then, overwritten-both}
use Rattle.hy_undo.proofs.write_both.Goals as goal

pub returns-clause-writes : goal.returns-clause-writes
returns-clause-writes g c =
    let old = c.args.space.now in
    let mid = c.write_in_place.new.self in
    let new = c.write_in_place-2.new.self in
    let here = page_bytes old c.args.segment c.args.page in
    let first = c.args.first.now in
    let behind = c.args.behind.now in
    let between = overwritten here (c.args.offset + length first) behind in
    let within : c.args.offset + (length first + length behind) ≤ length here = omega (arith, c.requires.within, length-page_bytes g.row.N old c.args.segment c.args.page c.sound.ensures c.requires.there) in
    let now : page_bytes mid c.args.segment c.args.page ≡ between =
    ap (λ (all : List (List (List ℕ))). page_at all c.args.segment c.args.page) c.write_in_place.ensures.writes.bytes
    ∙ page_at-with_page_same (owner_bytes old) c.args.segment c.args.page between (IsThere-owner_bytes old c.args.segment c.args.page c.requires.there) in
    WritesPage-then old mid new c.args.segment c.args.page between (overwritten here c.args.offset (first ++ behind)) c.write_in_place.ensures.writes
    (subst (λ (content : List ℕ). WritesPage mid new c.args.segment c.args.page content)
    (ap (λ (bytes : List ℕ). overwritten bytes c.args.offset first) now ∙ overwritten-both here c.args.offset first behind within)
    c.write_in_place-2.ensures.writes)
