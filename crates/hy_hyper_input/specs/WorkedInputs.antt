-- Examples of the words for an input; the checker computes them.
use Rattle.std.specs.Prelude.{◌≡◌, [], ◌∷◌, true, false, map, refl}
use Rattle.hy_hyper_input.specs.Inputs.{between, is_ended, number_behind}
use Rattle.hy_hyper_input.specs.Received.{Said, number_after, said_by, whole}

abbrev two_of_four : between 1 3 (10 ∷ 20 ∷ 30 ∷ 40 ∷ []) ≡ 20 ∷ 30 ∷ []
two_of_four = refl

abbrev none_of_four : between 2 2 (10 ∷ 20 ∷ 30 ∷ 40 ∷ []) ≡ []
none_of_four = refl

-- a line feed is byte 10, wherever it stands
abbrev ended : map is_ended ((65 ∷ 10 ∷ []) ∷ (10 ∷ 65 ∷ []) ∷ (65 ∷ 13 ∷ []) ∷ [] ∷ []) ≡ true ∷ true ∷ false ∷ false ∷ []
ended = refl

-- lines are counted from 1, and the greatest number stays
abbrev numbers : map number_behind (0 ∷ 1 ∷ 18_446_744_073_709_551_614 ∷ 18_446_744_073_709_551_615 ∷ [])
    ≡ 1 ∷ 2 ∷ 18_446_744_073_709_551_615 ∷ 18_446_744_073_709_551_615 ∷ []
numbers = refl

-- three lines, of which the second is empty
abbrev three_lines : said_by 4 ((65 ∷ []) ∷ [] ∷ (66 ∷ 67 ∷ []) ∷ [])
    ≡ Said.a_line 5 (65 ∷ []) ∷ Said.a_line 6 [] ∷ Said.a_line 7 (66 ∷ 67 ∷ []) ∷ []
three_lines = refl

abbrev three_lines_whole : whole ((65 ∷ []) ∷ [] ∷ (66 ∷ 67 ∷ []) ∷ []) ≡ 65 ∷ 10 ∷ 10 ∷ 66 ∷ 67 ∷ 10 ∷ []
three_lines_whole = refl

abbrev last_of_three : number_after 4 ((65 ∷ []) ∷ [] ∷ (66 ∷ 67 ∷ []) ∷ []) ≡ 7
last_of_three = refl
