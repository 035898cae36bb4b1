-- Texts of answers; the checker computes each row.
use Rattle.std.specs.Prelude.{◌≡◌, ◌++◌, ◌^◌, ◌-◌, [], ◌∷◌, pos, negsuc, codes, refl}
use Rattle.std.specs.Fmt.{digits}
use Rattle.csv.specs.Writing.{escaped, fields_text, is_blank}
use Rattle.hy_rows.specs.declared.value.Value.TheVariants.{Text, Whole}
use Rattle.hy_answers.specs.Texts.{answer_text, record_text}

-- numbers in decimal digits, those below zero behind a minus
numbers : record_text (Whole (pos 0) ∷ Whole (pos 120) ∷ Whole (negsuc 4) ∷ []) ≡ codes "0,120,-5\n"
unfolding digits fields_text is_blank
numbers = refl

-- the least number that a sum can be
least_number : record_text (Whole (negsuc (2 ^ 127 - 1)) ∷ []) ≡ codes "-170141183460469231731687303715884105728\n"
unfolding digits fields_text is_blank
least_number = refl

-- a text with a comma stands in quotes, and so does one with a quote, which is doubled
text_with_comma : record_text (Text (codes "a, b") ∷ Text (codes "c") ∷ []) ≡ codes "\"a, b\",c\n"
unfolding escaped fields_text is_blank
text_with_comma = refl

text_with_quote : record_text (Text (codes "a\"b") ∷ []) ≡ codes "\"a\"\"b\"\n"
unfolding escaped fields_text is_blank
text_with_quote = refl

-- an empty text alone is two quotes; beside others it is nothing
empty_text_alone : record_text (Text [] ∷ []) ≡ codes "\"\"\n"
unfolding fields_text is_blank
empty_text_alone = refl

empty_text_beside : record_text (Text [] ∷ Whole (pos 7) ∷ []) ≡ codes ",7\n"
unfolding digits fields_text is_blank
empty_text_beside = refl

-- a record a row, in their order, and then how many there are
whole_answer : answer_text ((Text (codes "b") ∷ Whole (pos 2) ∷ []) ∷ (Text (codes "a") ∷ Whole (pos 10) ∷ []) ∷ [])
    ≡ codes "b,2\n" ++ codes "a,10\n" ++ codes "2 rows\n"
unfolding digits fields_text is_blank
whole_answer = refl

-- also where there is one, or none
one_row : answer_text ((Whole (pos 3) ∷ []) ∷ []) ≡ codes "3\n1 rows\n"
unfolding digits fields_text is_blank
one_row = refl

no_rows : answer_text [] ≡ codes "0 rows\n"
unfolding digits
no_rows = refl
