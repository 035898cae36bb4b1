-- Writes one behind another.
use Rattle.std.specs.Prelude.{◌≡◌, ℕ, ◌+◌, ◌<◌, List, [], ◌∷◌, ◌++◌, length, take, get_or, Option, None, Some, Result, Ok, Err, OnOk}
use Rattle.std.specs.List.{flat_map}
use Rattle.std.specs.Io.KnownBytes.{Appends}
use Rattle.std.proofs.Common.{◌∙◌, ap, subst, sym, append-nil, append_assoc}
use Rattle.std.proofs.lemmas.Grind.{flat_map-append}
use Rattle.std.proofs.lemmas.List.{take_more}

pub appends-then : (old middle new : Option (List ℕ)) (first later : List ℕ)
    → Appends old middle first → Appends middle new later → Appends old new (first ++ later)
appends-then None middle new first later before after = tt
appends-then (Some held) None new first later before after = absurd before
appends-then (Some held) (Some more) None first later before after = absurd after
appends-then (Some held) (Some more) (Some all) first later before after =
    after ∙ ap (λ bytes. bytes ++ later) before ∙ append_assoc held first later

-- texts of three parts behind another
pub regrouped : (first second third fourth : List ℕ)
    → first ++ (second ++ third ++ fourth) ≡ first ++ second ++ third ++ fourth
regrouped first second third fourth = simp append_assoc

-- the last of them gives the result
pub appends-last : {T E : Type 0} (result : Result T E) (old middle new : Option (List ℕ)) (first later : List ℕ)
    → Appends old middle first → OnOk result (Appends middle new later) → OnOk result (Appends old new (first ++ later))
appends-last (Ok value) old middle new first later before after =
    appends-then old middle new first later before after
appends-last (Err error) old middle new first later before after = tt

-- one of several, each behind the one before
pub appends-more : {Row : Type 0} (text : Row → List ℕ) (rows : List Row) (place : ℕ) (blank : Row)
    → (old middle new : Option (List ℕ)) → place < length rows
    → Appends old middle (flat_map text (take place rows)) → Appends middle new (text (get_or rows place blank))
    → Appends old new (flat_map text (take (place + 1) rows))
appends-more text rows place blank old middle new within before after =
    let row = get_or rows place blank in
    let next = take_more rows place blank within in
    let all : flat_map text (take (place + 1) rows) ≡ flat_map text (take place rows) ++ text row =
    ap (flat_map text) next ∙ flat_map-append text (take place rows) (row ∷ [])
    ∙ ap (λ bytes. flat_map text (take place rows) ++ bytes) (append-nil (text row)) in
    subst (Appends old new) (sym all) (appends-then old middle new (flat_map text (take place rows)) (text row) before after)
