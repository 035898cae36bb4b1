-- What of a row was read is that of the row at its place.
use Rattle.std.proofs.Common.{◌≡◌, Option, None, Some, refl, sym, ap, ◌∙◌}
use Rattle.std.specs.Option.{option_map}

-- what is read of an item is there where the item is
pub mapped_some : {Item Read : Type 0} (read : Item → Read) (item : Option Item) (value : Read) → option_map read item ≡ Some value
    → (here : Item) × (item ≡ Some here) × (read here ≡ value)
mapped_some read None value is = absurd (cc)
mapped_some read (Some here) value is = (here, refl, some_same is)
  where
    some_same : {Value : Type 0} {one other : Value} → Some one ≡ Some other → one ≡ other
    some_same same = cc

-- and so it is that of a row which is known to be there
pub part_is : {Row Part : Type 0} (part_of : Row → Part) (item : Option Row) (row : Row) (part : Part) → item ≡ Some row
    → option_map part_of item ≡ Some part → part_of row ≡ part
part_is part_of item row part here is = some_same (ap (option_map part_of) (sym here) ∙ is)
  where
    some_same : {Value : Type 0} {one other : Value} → Some one ≡ Some other → one ≡ other
    some_same same = cc
