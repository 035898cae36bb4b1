use Rattle.std.proofs.Common.{◌≡◌, ℕ, ◌-◌, ◌≤◌, length, get_or, ap, sym, ◌∙◌, arith}
use Rattle.hy_page.specs.Bytes.{bytes_at}
use Rattle.hy_columns.proofs.CopiedLaws.{text-at, text-rises, text-within}
use Rattle.hy_columns.proofs.texts.text_at.Goals as goal

pub slice_bounds-result-count : goal.slice_bounds-result-count
slice_bounds-result-count c =
    omega (arith, c.begin_of.ensures, text-rises 0 c.args.ends.now (length c.args.bytes.now) c.args.place c.requires.ends c.requires.there)

pub slice_bounds-result-start : goal.slice_bounds-result-start
slice_bounds-result-start c =
    omega (arith, c.begin_of.ensures, text-rises 0 c.args.ends.now (length c.args.bytes.now) c.args.place c.requires.ends c.requires.there)

pub slice_bounds-result-end : goal.slice_bounds-result-end
slice_bounds-result-end c =
    text-within 0 c.args.ends.now (length c.args.bytes.now) c.args.place c.requires.ends c.requires.there

pub returns : goal.returns
returns c =
    ap (λ (from : ℕ). bytes_at c.args.bytes.now from (get_or c.args.ends.now c.args.place 0 - from)) c.begin_of.ensures
    ∙ sym (text-at c.args.bytes.now 0 c.args.ends.now c.args.place c.requires.there)
