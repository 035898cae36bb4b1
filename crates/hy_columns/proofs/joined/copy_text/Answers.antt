use Rattle.std.proofs.Common.{◌≡◌, ℕ, ◌+◌, ◌-◌, ◌≤◌, List, ◌++◌, length, ap, ap₂, ◌∙◌, arith}
use Rattle.hy_page.specs.Bytes.{bytes_at}
use Rattle.hy_page.proofs.ByteLaws.{length-bytes_at}
use Rattle.hy_rows.specs.Spelling.{slot_bytes}
use Rattle.hy_rows.specs.Texts.{text_of}
use Rattle.hy_rows.proofs.TextLaws.{length-text_of}
use Rattle.hy_columns.proofs.CopiedLaws.{copied-end, copied-part}
use Rattle.hy_columns.proofs.joined.copy_text.Goals as goal

pub push_bytes-requires : goal.push_bytes-requires
push_bytes-requires g c =
    let part : List ℕ = c.bytes_on.result.now in
    let size = ap length c.bytes_on.ensures
    ∙ length-bytes_at (slot_bytes c.args.pages.now) c.loop-at.at c.min-count.result (omega (arith, c.min-count.ensures, c.requires.within, c.loop-at-test.true)) in
    omega (arith, c.loop-at.invariant.room, ap length c.text_in-text.ensures, length-text_of part, size, c.min-count.ensures)

-- the text ends in this part
pub returns-then-text-count : goal.returns-then-text-count
returns-then-text-count g c =
    let joined : List ℕ = slot_bytes c.args.pages.now in
    let whole : List ℕ = c.args.copied.now.items ++ text_of (bytes_at joined c.args.start c.args.width) in
    let left : ℕ = c.args.start + c.args.width - c.loop-at.at in
    let size = ap length c.bytes_on.ensures
    ∙ length-bytes_at joined c.loop-at.at c.min-count.result (omega (arith, c.min-count.ensures, c.requires.within, c.loop-at-test.true)) in
    c.push_bytes.ensures.bytes
    ∙ copied-end joined c.loop-at.copied.items whole c.bytes_on.result.now c.text_in-text.result.now c.loop-at.at c.min-count.result left
    (omega (arith, c.min-count.ensures)) c.bytes_on.ensures c.text_in-text.ensures c.loop-at.invariant.so_far
    (omega (arith, c.if-text-count.true, size))

-- it goes on behind it
pub loop-at-preserved : goal.loop-at-preserved
loop-at-preserved g c =
    let joined : List ℕ = slot_bytes c.args.pages.now in
    let whole : List ℕ = c.args.copied.now.items ++ text_of (bytes_at joined c.args.start c.args.width) in
    let count : ℕ = c.min-count.result in
    let left : ℕ = c.args.start + c.args.width - c.loop-at.at in
    let size = ap length c.bytes_on.ensures
    ∙ length-bytes_at joined c.loop-at.at count (omega (arith, c.min-count.ensures, c.requires.within, c.loop-at-test.true)) in
    let rest : c.args.start + c.args.width - (c.loop-at.at + count) ≡ left - count = omega arith in
    record {
      within = omega (arith, c.min-count.ensures, c.loop-at-test.true);
      so_far = ap₂ (λ copied some. copied ++ text_of (bytes_at joined (c.loop-at.at + count) some)) c.push_bytes.ensures.bytes rest
          ∙ copied-part joined c.loop-at.copied.items whole c.bytes_on.result.now c.text_in-text.result.now c.loop-at.at count left
          (omega (arith, c.min-count.ensures)) c.bytes_on.ensures c.text_in-text.ensures c.loop-at.invariant.so_far
          (omega (arith, c.if-text-count.false, size));
      room = omega (
        arith,
        c.loop-at.invariant.room,
        c.push_bytes.ensures.len,
        c.push_bytes.ensures.capacity,
        ap length c.text_in-text.ensures,
        length-text_of c.bytes_on.result.now,
        size,
        c.min-count.ensures,
      );
    }
