use Rattle.std.proofs.Common.{◌≡◌, ℕ, ◌+◌, ◌-◌, ◌≤◌, ◌++◌, vec_capacity, vec_len}
use Rattle.hy_page.specs.Bytes.{bytes_at}
use Rattle.hy_rows.specs.Spelling.{slot_bytes}
use Rattle.hy_rows.specs.Texts.{text_of}
use Rattle.hy_columns.proofs.joined.copy_text.Given as goal

-- the bytes that are left
abbrev pub decreases-loop-at : goal.decreases-loop-at
decreases-loop-at g l = l.start + l.width - l.at

-- what was copied and the text of what is left are the whole text, and there is room for what is left
abbrev pub invariant-loop-at : goal.invariant-loop-at
invariant-loop-at g l = record {
  within : l.at ≤ l.start + l.width;
  so_far : l.copied.items ++ text_of (bytes_at (slot_bytes l.pages) l.at (l.start + l.width - l.at))
      ≡ l.fn.copied.items ++ text_of (bytes_at (slot_bytes l.pages) l.start l.width);
  room : vec_len l.copied + (l.start + l.width - l.at) ≤ vec_capacity l.copied;
}
