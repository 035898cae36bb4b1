-- Examples of the lines of a script and of databases that are told less; the checker computes them.
use Rattle.std.specs.Prelude.{◌≡◌, [], ◌∷◌, codes, refl}
use Rattle.hy_script.specs.Databases.{DatabaseState}
use Rattle.hy_hyper_input.specs.Received.{Said}
use Rattle.std.specs.Fmt.{digits}
use Rattle.hy_hyper_answers.specs.declared.answers.Style.TheVariants as styles
use Rattle.hy_hyper_rounds.specs.Rounds.{AreLines, AreToldLess, lines_of, styled}

all_lines : lines_of (Said.a_line 2 (codes "step 1") ∷ Said.a_line 4 (codes "done 1") ∷ [])
    ≡ (2, codes "step 1") ∷ (4, codes "done 1") ∷ []
all_lines = refl

-- a line that is too long ends them
up_to_a_long_line : lines_of (Said.a_line 1 (codes "step 1") ∷ Said.too_long 2 ∷ Said.a_line 3 (codes "done 1") ∷ [])
    ≡ (1, codes "step 1") ∷ []
up_to_a_long_line = refl

are_lines : AreLines (Said.a_line 1 (codes "step 1") ∷ [])
are_lines = tt

long_lines_are_none : AreLines (Said.a_line 1 (codes "step 1") ∷ Said.too_long 2 ∷ []) → ⊥
long_lines_are_none lines = lines

abbrev nothing : DatabaseState
nothing = record { parts = []; snapshots = []; log = [] }

told_nothing : AreToldLess nothing nothing
told_nothing = record { parts = tt; snapshots = refl; log = refl }

-- one with an open snapshot isn't one without
snapshots_stay : AreToldLess nothing (record nothing { snapshots = record { name = codes "A"; parts = [] } ∷ [] }) → ⊥
snapshots_stay less = cc

-- answers are printed each in its style
in_numbered_style : styled styles.Numbered (Said.a_line 7 (codes "check A") ∷ Said.a_line 9 (codes "close A") ∷ [])
    (codes "begun\n" ∷ codes "closed A\n" ∷ []) ≡ codes "@7 1\nbegun\n@9 1\nclosed A\n"
unfolding digits
in_numbered_style = refl

in_plain_style : styled styles.Plain (Said.a_line 7 (codes "check A") ∷ []) (codes "begun\n" ∷ []) ≡ codes "begun\n"
in_plain_style = refl
