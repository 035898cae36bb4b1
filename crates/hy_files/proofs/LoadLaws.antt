-- Laws on the readings of nine texts.
use Rattle.std.proofs.Common.{◌≡◌, ℕ, ◌<◌, List, [], ◌∷◌, get_or, length, map, refl, sym, ap, ◌∙◌}
use Rattle.std.proofs.lemmas.List.{get_or-map}
use Rattle.hy_tables.specs.Files.{readings_of}

-- the text of the file at a place
pub text-at : {X : Type 0} (text_of : X → List ℕ) (files : List X) (place : ℕ) (file : X) (text : List ℕ)
    → place < length files → file ≡ get_or files place file → text ≡ text_of file
    → get_or (map text_of files) place [] ≡ text
text-at text_of files place file text within here is =
    get_or-map text_of files place file [] within ∙ sym (is ∙ ap text_of here)

-- a list is read as its first nine texts
pub readings-nine : (texts : List (List ℕ)) (t₀ t₁ t₂ t₃ t₄ t₅ t₆ t₇ t₈ : List ℕ)
    → get_or texts 0 [] ≡ t₀ → get_or texts 1 [] ≡ t₁ → get_or texts 2 [] ≡ t₂ → get_or texts 3 [] ≡ t₃
    → get_or texts 4 [] ≡ t₄ → get_or texts 5 [] ≡ t₅ → get_or texts 6 [] ≡ t₆ → get_or texts 7 [] ≡ t₇
    → get_or texts 8 [] ≡ t₈
    → readings_of (t₀ ∷ t₁ ∷ t₂ ∷ t₃ ∷ t₄ ∷ t₅ ∷ t₆ ∷ t₇ ∷ t₈ ∷ []) ≡ readings_of texts
readings-nine texts t₀ t₁ t₂ t₃ t₄ t₅ t₆ t₇ t₈ e₀ e₁ e₂ e₃ e₄ e₅ e₆ e₇ e₈ =
    rw (e₀, e₁, e₂, e₃, e₄, e₅, e₆, e₇, e₈) refl
