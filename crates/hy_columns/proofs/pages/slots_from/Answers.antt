use Rattle.std.proofs.Common.{◌≡◌, ℕ, ◌+◌, ◌-◌, ◌*◌, ◌/◌, ◌%◌, List, [], length, take, drop, ap, ◌∙◌, arith}
use Rattle.std.proofs.lemmas.List.{get_or_default, length-drop, take_all}
use Rattle.hy_rows.specs.Spelling.{list_at, slot_width, slots_per_page}
use Rattle.hy_columns.proofs.PageRows.{left-within, slot-there, some-fit, some-left}
use Rattle.hy_columns.proofs.pages.slots_from.Goals as goal

pub overflow_add-slot : goal.overflow_add-slot
overflow_add-slot g c =
    omega (arith, slot-there g.row.N c.args.row_bytes c.args.pages.now c.requires.pages c.requires.size c.args.slot c.requires.used, c.requires.pages.few)

pub offset_bounds-pages-slot : goal.offset_bounds-pages-slot
offset_bounds-pages-slot g c =
    omega (arith, slot-there g.row.N c.args.row_bytes c.args.pages.now c.requires.pages c.requires.size c.args.slot c.requires.used, c.requires.pages.few)

pub bounds-pages-slot : goal.bounds-pages-slot
bounds-pages-slot g c = slot-there g.row.N c.args.row_bytes c.args.pages.now c.requires.pages c.requires.size c.args.slot c.requires.used

pub returns-clause-bytes : goal.returns-clause-bytes
returns-clause-bytes g c =
    let per : ℕ = slots_per_page g.row.N c.args.row_bytes in
    let before : ℕ = c.args.slot % per * slot_width c.args.row_bytes in
    let there = slot-there g.row.N c.args.row_bytes c.args.pages.now c.requires.pages c.requires.size c.args.slot c.requires.used in
    let page : c.bytes.result.now ≡ list_at c.args.pages.now (1 + c.args.slot / per) =
    c.bytes.ensures.bytes ∙ c.page.ensures.bytes ∙ c.index-pages-slot.is
    ∙ get_or_default c.args.pages.now (1 + c.args.slot / per) c.index-pages-slot.result [] there in
    take_all (length c.bytes.result.now - before) (drop before c.bytes.result.now) (omega (arith, length-drop before c.bytes.result.now))
    ∙ ap (drop before) page

pub returns-clause-size : goal.returns-clause-size
returns-clause-size g c =
    let per : ℕ = slots_per_page g.row.N c.args.row_bytes in
    let before : ℕ = c.args.slot % per * slot_width c.args.row_bytes in
    let bytes : List ℕ = c.bytes.result.now in
    let part : List ℕ = take (length bytes - before) (drop before bytes) in
    let all : length part ≡ length bytes - before =
    ap length (take_all (length bytes - before) (drop before bytes) (omega (arith, length-drop before bytes))) ∙ length-drop before bytes in
    left-within g.row.N c.args.row_bytes c.args.slot bytes part (some-fit g.row.N c.args.row_bytes c.args.pages.now c.requires.pages c.requires.size)
    (ap length c.bytes.ensures.bytes ∙ c.bytes.ensures.size) all

pub returns-clause-some : goal.returns-clause-some
returns-clause-some g c = some-left g.row.N c.args.row_bytes c.args.pages.now c.requires.pages c.requires.size c.args.slot
