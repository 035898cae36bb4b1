-- The memory of an engine.
use Rattle.std.specs.Prelude.{ℕ, List}

-- how many places each queue of jobs has, and each of answers
pub record RoomsState : Type 0 where
  pub jobs : List ℕ
  pub answers : List ℕ
