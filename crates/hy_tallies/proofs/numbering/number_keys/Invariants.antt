use Rattle.std.proofs.Common.{map}
use Rattle.hy_tallies.specs.Lines.{column_in}
use Rattle.hy_tallies.specs.inside.Groups.{AreGroups, HasNumbered, Stays, keys_of}
use Rattle.hy_tallies.specs.inside.Repeats.{Repeat}
use Rattle.hy_tallies.proofs.RepeatLaws.{IsLast}
use Rattle.hy_tallies.proofs.numbering.number_keys.Given as goal

-- the lines so far, and the number of the last of them
abbrev pub invariant-loop-line : goal.invariant-loop-line
invariant-loop-line l = record {
  stays : Stays l.fn.groups l.groups;
  numbered : AreGroups l.fn.groups → Repeat (map column_in l.columns) l.repeats
      → HasNumbered (map column_in l.columns) l.line l.fn.groups l.groups l.numbers.items
      × IsLast (keys_of l.fn.groups) (map column_in l.columns) l.line l.last;
}
