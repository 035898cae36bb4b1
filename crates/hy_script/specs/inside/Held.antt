-- An output in front of another one.
use Rattle.std.specs.Prelude.{Bool, List, Option, ℕ}
use Rattle.std.specs.Io.KnownBytes.{append_known}
use Rattle.hy_script.specs.declared.held.Held.{Held}

-- the other one
abbrev pub output_behind : {O : Type 0} → Held O → O
output_behind held = held.output

-- what that one has, and what is held behind it
abbrev pub contents_behind : {O : Type 0} → (O → Option (List ℕ)) → Held O → Option (List ℕ)
contents_behind contents held = append_known (contents held.output) held.bytes.items

-- whether a write to it has failed
abbrev pub failed_behind : {O : Type 0} → (O → Bool) → Held O → Bool
failed_behind has_failed held = has_failed held.output
