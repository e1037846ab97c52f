-- What the streams of a call tell: the input, the output, and the count of steps.
use Rattle.std.specs.Prelude.{ℕ, List, Option}

pub record Streams : Type 0 where
  pub left : Option (List ℕ)  -- the bytes that the input has left
  pub held : Option (List ℕ)  -- the bytes that the output has taken
  pub offers : List (List ℕ)  -- the pieces that the output was offered
  pub steps : ℕ  -- how many steps were counted
