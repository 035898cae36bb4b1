-- What a writer of records has written.
use Rattle.std.specs.Prelude.{ℕ, ◌+◌, ◌-◌, ◌^◌, ◌==◌, min, Bool, true, false, not, ◌||◌, List, [], ◌∷◌, ◌++◌, length, Option, Some, None, option_map, unwrap_or, Vec}
use Rattle.csv.specs.Writing.{default_writer, field_text, fields_written, has_written, next_sep, tail_text, text_written}
use Rattle.csv.specs.declared.writer.Writer.{Writer}
use Rattle.hy_rows.specs.Columns.{Column}
use Rattle.hy_rows.specs.declared.value.Value.{Value}
use Rattle.hy_csv.specs.Fields.{field_of}

-- the text so far, how many fields of a record that isn't ended stand at its end, and whether these show a byte
pub record Written : Type 0 where
  pub text : List ℕ
  pub fields : ℕ
  pub shown : Bool

-- a text of whole records
abbrev pub between : List ℕ → Written
between text = record { text = text; fields = 0; shown = false }

-- a field more
abbrev pub with_field : Written → List ℕ → Written
with_field written field = record {
  text = written.text ++ (next_sep default_writer written.fields ++ field_text default_writer field);
  fields = min (written.fields + 1) (2 ^ 64 - 1);
  shown = written.shown || not (length (field_text default_writer field) == 0);
}

abbrev pub with_fields : Written → List (List ℕ) → Written
with_fields written [] = written
with_fields written (field ∷ fields) = with_fields (with_field written field) fields

-- the end of a record
abbrev pub with_end : Written → Written
with_end written = between (written.text ++ tail_text default_writer written.shown written.fields)

-- a record more
abbrev pub with_record : List (List ℕ) → Written → Written
with_record fields written = with_end (with_fields written fields)

-- a value of a row more, where it is known what was written
abbrev pub with_value : Option Written → Column → Value → Option Written
with_value written column value = option_map (λ known. with_field known (field_of value)) written

-- what a writer has written, if each field and each end was taken
abbrev pub written_by : {Alloc : Type 0} → Bool → Writer (Vec ℕ Alloc) → Option Written
written_by false writer = None
written_by true writer = Some (record {
  text = unwrap_or (text_written (λ bytes. Some bytes.items) writer) [];
  fields = fields_written writer;
  shown = has_written writer;
})
