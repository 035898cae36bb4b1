-- Worked rows, which the checker computes: three commits of two warehouses, one of them crossing.
use Rattle.std.specs.Prelude.{◌≡◌, ℕ, true, false, List, [], ◌∷◌, Option, Some, None, refl}
use Rattle.hy_passes.specs.declared.entry.Entry.{Entry}
use Rattle.hy_passes.specs.SerialList.{are_warehouses, home_of, kept_of, number_after, numbers_of, respects_stamps}

-- a commit of these rows: its warehouses, its number if it is crossing, and what it does
record Note : Type 0 where
  pub warehouses : List ℕ
  pub number : Option ℕ
  pub text : ℕ

abbrev first : Note
first = record { warehouses = 1 ∷ []; number = None; text = 10 }

abbrev crossing : Note
crossing = record { warehouses = 2 ∷ 1 ∷ []; number = Some 1; text = 20 }

abbrev last : Note
last = record { warehouses = 2 ∷ []; number = None; text = 30 }

abbrev warehouses_of : Note → List ℕ
warehouses_of note = note.warehouses

abbrev number_of : Note → Option ℕ
number_of note = note.number

abbrev stamped : Note → ℕ → Entry Note
stamped note stamp = record { commit = note; stamp = stamp }

-- the clients of the first two commits knew nothing, that of the last one knew the first commit
abbrev log : List (Entry Note)
log = stamped first 0 ∷ stamped crossing 0 ∷ stamped last 1 ∷ []

-- what each warehouse keeps
kept-1 : kept_of warehouses_of 1 log ≡ first ∷ crossing ∷ []
kept-1 = refl

kept-2 : kept_of warehouses_of 2 log ≡ crossing ∷ last ∷ []
kept-2 = refl

kept-3 : kept_of warehouses_of 3 log ≡ []
kept-3 = refl

-- the home of the crossing commit is the first warehouse that it names
home : home_of warehouses_of crossing ≡ Some 2
home = refl

-- the stamps are respected; a commit whose client knew three can't be the third
respected : respects_stamps log ≡ true
respected = refl

not-respected : respects_stamps (stamped first 0 ∷ stamped crossing 0 ∷ stamped last 3 ∷ []) ≡ false
not-respected = refl

-- it can follow two others
at-the-edge : respects_stamps (stamped first 0 ∷ stamped crossing 0 ∷ stamped last 2 ∷ []) ≡ true
at-the-edge = refl

-- one number was drawn, and the next crossing commit gets the second
numbers : numbers_of warehouses_of number_of log ≡ 1 ∷ []
numbers = refl

next-number : number_after warehouses_of number_of log crossing ≡ Some 2
next-number = refl

no-number : number_after warehouses_of number_of log first ≡ None
no-number = refl

-- warehouses of a kit of two
within : are_warehouses 2 (2 ∷ 1 ∷ []) ≡ true
within = refl

beyond : are_warehouses 2 (2 ∷ 3 ∷ []) ≡ false
beyond = refl
