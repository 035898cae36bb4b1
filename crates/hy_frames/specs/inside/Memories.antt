-- What the memory of a slot has.
use Rattle.std.specs.Prelude.{ℕ, Bool, true, false, List, []}
use Rattle.hy_frames.specs.declared.slot.Memory.{Memory}
use Rattle.hy_frames.specs.declared.slot.Memory.TheVariants.{Unused, Own, Lent}

-- the bytes of the page, of which there are none without a page
abbrev pub bytes_in : {n : ℕ} → Memory n → List ℕ
bytes_in Unused = []
bytes_in (Own page) = page.value
bytes_in (Lent hold) = hold

-- whether holds may have the page
abbrev pub is_lent : {n : ℕ} → Memory n → Bool
is_lent Unused = false
is_lent (Own page) = false
is_lent (Lent hold) = true

-- there is a page
abbrev pub HasPage : {n : ℕ} → Memory n → Type 0
HasPage Unused = ⊥
HasPage (Own page) = Unit {0}
HasPage (Lent hold) = Unit {0}
