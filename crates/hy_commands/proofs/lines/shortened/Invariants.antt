-- Short lines for those so far, with room for all, and the others fit too.
use Rattle.std.proofs.Common.{◌≡◌, true, drop, length, map, take, vec_capacity}
use Rattle.std.specs.List.{list_all}
use Rattle.hy_commands.specs.inside.Lines.{is_short, line_of}
use Rattle.hy_commands.proofs.lines.shortened.Given as goal

abbrev pub invariant-loop-line : goal.invariant-loop-line
invariant-loop-line l = record {
  made : map line_of l.short.items ≡ take l.line-index l.lines;
  fit : list_all is_short (drop l.line-index l.lines) ≡ true;
  room : vec_capacity l.short ≡ length l.lines;
  many : length l.short.items ≡ l.line-index;
}
