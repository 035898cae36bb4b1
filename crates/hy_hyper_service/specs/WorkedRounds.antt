-- Examples of what a service prints of itself, and of the line that ends it; the checker computes them.
use Rattle.std.specs.Prelude.{◌≡◌, [], ◌∷◌, codes, refl}
use Rattle.hy_hyper_input.specs.Received.{Said}
use Rattle.hy_hyper_service.specs.declared.lines.RoundEnd.TheVariants as ends
use Rattle.hy_hyper_service.specs.Rounds.{told_at}

-- the line that ends a service is told, and stands behind those that are answered
abbrev ended_by_a_line : told_at ends.Quit 2 (Said.a_line 1 (codes "step 1") ∷ [])
    ≡ Said.a_line 1 (codes "step 1") ∷ Said.a_line 2 (codes "quit") ∷ []
ended_by_a_line = refl

abbrev no_more_lines : told_at ends.Waits 1 (Said.a_line 1 (codes "step 1") ∷ []) ≡ Said.a_line 1 (codes "step 1") ∷ []
no_more_lines = refl
