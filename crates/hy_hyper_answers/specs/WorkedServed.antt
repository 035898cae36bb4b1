-- Examples of what is printed for an answer; the checker computes them.
use Rattle.std.specs.Prelude.{◌≡◌, [], codes, map, refl, ◌∷◌}
use Rattle.std.specs.Fmt.{digits}
use Rattle.hy_hyper_answers.specs.Served.{bad_event_text, line_count, printed}
use Rattle.hy_hyper_answers.specs.declared.answers.Style.TheVariants as styles

abbrev a_bad_line : bad_event_text 12 ≡ codes "bad event on line 12\n"
unfolding digits
a_bad_line = refl

-- lines are counted by their ends
abbrev counted : map line_count ([] ∷ codes "begun\n" ∷ codes "low 3\nbegun\n" ∷ codes "\n\nbegun" ∷ []) ≡ 0 ∷ 1 ∷ 2 ∷ 2 ∷ []
counted = refl

abbrev plain : printed styles.Plain 7 (codes "begun\n") ≡ codes "begun\n"
plain = refl

abbrev numbered : printed styles.Numbered 7 (codes "low 3\nbegun\n") ≡ codes "@7 2\nlow 3\nbegun\n"
unfolding digits
numbered = refl

abbrev numbered_first : printed styles.Numbered 1 (codes "begun\n") ≡ codes "@1 1\nbegun\n"
unfolding digits
numbered_first = refl

-- an empty line has no answer
abbrev nothing : map (λ style. printed style 7 []) (styles.Plain ∷ styles.Numbered ∷ []) ≡ [] ∷ [] ∷ []
nothing = refl
