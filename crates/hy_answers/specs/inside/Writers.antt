-- What a writer of records has written.
use Rattle.std.specs.Prelude.{◌≡◌, ◌==◌, ◌&&◌, ◌||◌, ◌++◌, ℕ, not, List, Some, Vec, length}
use Rattle.csv.specs.Writing.{default_writer, fields_written, has_written, is_blank, row_body, text_written, writer_setup}
use Rattle.csv.specs.declared.writer.Writer.{Writer}

-- a writer of the usual form, behind this text and these fields of the next record
pub record HasFields {Alloc : Type 0} (text : List ℕ) (fields : List (List ℕ)) (writer : Writer (Vec ℕ Alloc)) : Type 0
  where
    pub setup : writer_setup writer ≡ default_writer
    pub count : fields_written writer ≡ length fields
    pub shown : is_blank default_writer fields
        ≡ (not (has_written writer) && ((length fields == 0) || (length fields == 1)))
    pub written : text_written (λ bytes. Some bytes.items) writer ≡ Some (text ++ row_body default_writer fields)
