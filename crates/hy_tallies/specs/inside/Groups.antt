-- Groups by their keys, and buckets in which they are found.
use Rattle.std.specs.Prelude.{◌≡◌, ◌≤◌, ◌+◌, ◌-◌, ℕ, Bool, true, false, List, length}
use Rattle.std.specs.List.{AllByRecursion}
use Rattle.hy_query.specs.Rows.{Row}
use Rattle.hy_tallies.specs.declared.groups.Groups.{Groups}
use Rattle.hy_tallies.specs.inside.Keys.{Apart, AreFound, numbered, place_of_key, rising, rows_in, seen, with_key}

-- the next group has a place in them, unless there is no room
pub record IsRoomy (groups : Groups) : Type 0 where
  pub within : groups.count ≤ groups.room
  pub lowest : groups.buckets.lowest ≡ groups.room - groups.count

-- the keys of the groups
abbrev pub keys_of : Groups → List Row
keys_of groups = rows_in groups.keys.items groups.count

-- each column of keys has a value for each group, no two groups have equal keys, and each is found
pub record AreGroups (groups : Groups) : Type 0 where
  pub long : AllByRecursion (λ values. length values ≡ groups.count) groups.keys.items
  pub apart : Apart (keys_of groups)
  pub found : AreFound groups.buckets.buckets groups.room groups.keys.items groups.count

-- a key was looked up, and put behind the others where it wasn't there
pub record IsNumbered (key : Row) (old new : Groups) (number : ℕ) : Type 0 where
  pub place : number ≡ place_of_key key (keys_of old)
  pub keys : keys_of new ≡ with_key (keys_of old) key
  pub groups : AreGroups new

-- how many columns of keys there are stays, and so does that there is room
pub record Stays (old new : Groups) : Type 0 where
  pub keys : length new.keys.items ≡ length old.keys.items
  pub room : IsRoomy new

-- what is found stays, and there is room for a group
pub record HasMade (old new : Groups) : Type 0 where
  pub keys : new.keys ≡ old.keys
  pub count : new.count ≡ old.count
  pub room : IsRoomy new

-- the keys of so many lines were looked up
pub record HasNumbered (columns : List Row) (count : ℕ) (old new : Groups) (numbers : List ℕ) : Type 0 where
  pub places : numbers ≡ numbered (keys_of old) columns count
  pub keys : keys_of new ≡ seen (keys_of old) columns count
  pub groups : AreGroups new

-- so many lines have numbers: each one of its own, or that of its group
pub record HasCounted (alone : Bool) (columns : List Row) (count : ℕ) (old new : Groups) (numbers : List ℕ) : Type 0 where
  pub rising : alone ≡ true → (numbers ≡ rising old.count count) × (new.count ≡ old.count + count)
  pub grouped : alone ≡ false → AreGroups old → HasNumbered columns count old new numbers
