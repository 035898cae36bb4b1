use Rattle.std.proofs.Common.{◌≡◌, ℕ, ◌+◌, ◌-◌, ◌%◌, ◌/◌, [], ◌∙◌, arith}
use Rattle.std.proofs.lemmas.List.{get_or_default}
use Rattle.hy_rows.specs.Spelling.{list_at}
use Rattle.hy_columns.proofs.SpannedLaws.{bytes-there, page-there}
use Rattle.hy_columns.proofs.joined.bytes_on.Goals as goal

pub bounds-pages-start : goal.bounds-pages-start
bounds-pages-start g c =
    page-there g.row.N c.args.pages.now c.requires.sized c.requires.size c.args.start c.args.count c.requires.some c.requires.within

pub returns : goal.returns
returns g c =
    let n : ℕ = g.row.N in
    let offset : ℕ = c.args.start % n in
    let there = page-there n c.args.pages.now c.requires.sized c.requires.size c.args.start c.args.count c.requires.some c.requires.within in
    let all : offset + c.args.count - offset ≡ c.args.count = omega arith in
    let page : c.bytes.result.now ≡ list_at c.args.pages.now (1 + c.args.start / n) =
    c.bytes.ensures.bytes ∙ c.page.ensures.bytes ∙ c.index-pages-start.is
    ∙ get_or_default c.args.pages.now (1 + c.args.start / n) c.index-pages-start.result [] there in
    bytes-there n c.args.pages.now c.requires.sized c.requires.size c.args.start c.args.count (offset + c.args.count - offset)
    c.bytes.result.now c.requires.some c.requires.within c.requires.fits all page
