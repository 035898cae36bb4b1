-- Which bytes are a log, where others fail, and what reading answers.
use Rattle.std.specs.Prelude.{◌≡◌, ℕ, ◌+◌, ◌≤◌, ◌==◌, ◌⊎◌, Bool, false, ◌&&◌, ◌||◌, nat_lt, IsTrue, List, ◌++◌, length, take, bytes_eq, Result, Ok, Err}
use Rattle.hy_page.specs.Bytes.{bytes_at, number_of}
use Rattle.hy_schema.specs.declared.refusal.Refusal.{Refusal}
use Rattle.hy_schema.specs.declared.refusal.Refusal.TheVariants as refusals
use Rattle.hy_commands.specs.declared.edition.Edition.{Edition}
use Rattle.hy_commands.specs.declared.edition.Edition.TheVariants as editions
use Rattle.hy_batches.specs.Batches.{Batch, may_follow}
use Rattle.hy_batches.specs.Encoding.{batch_bytes, log_bytes, mark}
use Rattle.hy_batches.specs.Grammar.{IsBatch, are_batches, last_edition}

-- ---- the end of a log

-- the length of the content that the bytes behind a mark say
abbrev pub said_length : List ℕ → ℕ
said_length rest = number_of (bytes_at rest 4 8)

-- whether bytes are shorter than a batch with the length that they say, or too short to say one
abbrev pub is_short : List ℕ → Bool
is_short rest = nat_lt (length rest) 12 || nat_lt (length rest) (13 + said_length rest)

-- whether the first bytes, up to four, are those of the mark of an edition
abbrev pub has_mark : List ℕ → Edition → Bool
has_mark rest edition = bytes_eq (take 4 rest) (take (length rest) (mark edition))

-- whether bytes are the begin of a batch that was cut: at least one byte, the first of them, up to four, those of a mark,
-- and too few. What stands behind the length doesn't matter, nor which edition it is of
abbrev pub is_beginning : List ℕ → Bool
is_beginning rest =
    nat_lt 0 (length rest) && (has_mark rest editions.First || has_mark rest editions.Second) && is_short rest

-- whether nothing, or no more than such a beginning, is left
abbrev pub is_end : List ℕ → Bool
is_end rest = length rest == 0 || is_beginning rest

-- ---- logs

-- the bytes are those of whole batches, and what is left is the end
pub record IsLog (bytes : List ℕ) (batches : List Batch) (rest : List ℕ) : Type 0 where
  pub spelled : bytes ≡ log_bytes batches ++ rest
  pub whole : IsTrue (are_batches batches)
  pub ended : IsTrue (is_end rest)

-- whole batches come first, and what is left is no end, nor does it begin with a batch that may stand behind them
pub record IsFaultyBehind (bytes : List ℕ) (batches : List Batch) (rest : List ℕ) : Type 0 where
  pub spelled : bytes ≡ log_bytes batches ++ rest
  pub whole : IsTrue (are_batches batches)
  pub goes_on : is_end rest ≡ false
  pub fault : (batch : Batch) (more : List ℕ) → IsBatch batch → IsTrue (may_follow (last_edition editions.First batches) batch.edition)
      → rest ≡ batch_bytes batch ++ more → ⊥

-- the place is that of the first byte of what is no batch
abbrev pub IsFaultyAt : List ℕ → ℕ → Type 0
IsFaultyAt bytes place =
    (batches : List Batch) × (rest : List ℕ)
    × IsFaultyBehind bytes batches rest × (place ≡ length (log_bytes batches))

-- ---- laws

-- bytes are a log, or they fail at a place
abbrev pub IsDecided : List ℕ → Type 0
IsDecided bytes =
    ((batches : List Batch) × (rest : List ℕ) × IsLog bytes batches rest) ⊎ ((place : ℕ) × IsFaultyAt bytes place)

-- the first bytes of a log, so many of them, are a log of the first batches, all that are whole in these bytes
abbrev pub BeginsLog : List Batch → ℕ → Type 0
BeginsLog batches size =
    (count : ℕ) × (rest : List ℕ) × IsLog (take size (log_bytes batches)) (take count batches) rest
    × ((whole : ℕ) → whole ≤ length batches → length (log_bytes (take whole batches)) ≤ size → whole ≤ count)

-- ---- reading

-- bytes are read as their batches where they are a log, unless memory lacks; where they are none, the place of what is no
-- batch is told, whatever memory there is
abbrev pub Reads : List ℕ → Result (List Batch) Refusal → Type 0
Reads bytes (Ok batches) = (rest : List ℕ) × IsLog bytes batches rest
Reads bytes (Err (refusals.LogMalformed place)) = IsFaultyAt bytes place
Reads bytes (Err refusals.NoMemory) = (batches : List Batch) × (rest : List ℕ) × IsLog bytes batches rest
Reads bytes (Err refusal) = ⊥
