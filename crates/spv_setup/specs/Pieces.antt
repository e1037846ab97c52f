-- The pieces that a schedule is kept as.
use Rattle.std.specs.Prelude.{◌≡◌, ℕ, ◌+◌, ◌-◌, ◌<◌, ◌≤◌, List, [], ◌∷◌, ◌++◌, length, slice_get, Result, Ok, Err}
use Rattle.std.specs.List.{repeat, range_with_len}
use Rattle.spv_base.specs.declared.causes.SetupRefusal.{SetupRefusal}
use Rattle.spv_base.specs.declared.causes.Fail.{Fail}
use Rattle.spv_base.specs.declared.causes.Fail.TheVariants.{Refused, NoMemory}
use Rattle.spv_setup.specs.Schedule.{Entries}
use Rattle.spv_setup.specs.declared.pieces.Turn.{Turn}
use Rattle.spv_setup.specs.declared.pieces.Turn.TheVariants.{Of, Each}
use Rattle.spv_setup.specs.declared.pieces.Piece.{Piece}

abbrev pub turns_of : ℕ → Turn → List ℕ
turns_of invocations (Of invocation) = invocation ∷ []
turns_of invocations Each = range_with_len 0 invocations

abbrev pub piece_entries : ℕ → Piece → List ℕ
piece_entries invocations p = repeat p.count (turns_of invocations p.turn)

abbrev pub pieces_entries : ℕ → List Piece → List ℕ
pieces_entries invocations [] = []
pieces_entries invocations (p ∷ ps) = piece_entries invocations p ++ pieces_entries invocations ps

-- the invocation that a turn names exists
abbrev pub Exists : ℕ → Turn → Type 0
Exists invocations (Of invocation) = invocation < invocations
Exists invocations Each = Unit {0}

-- each piece starts where the one before ends, the first at a place, and names invocations that exist
abbrev pub StartFrom : ℕ → ℕ → List Piece → Type 0
StartFrom invocations n [] = Unit {0}
StartFrom invocations n (p ∷ ps) = (p.start ≡ n) × Exists invocations p.turn × StartFrom invocations (n + length (piece_entries invocations p)) ps

pub record ArePieces (invocations : ℕ) (ps : List Piece) (len : ℕ) : Type 0 where
  pub some : 0 < invocations
  pub starts : StartFrom invocations 0 ps
  pub whole : len ≡ length (pieces_entries invocations ps)
  pub most : len ≤ 4194304

-- entries are added to a schedule where there are at most 4,194,304 then; else it is refused by S9 and stays
abbrev pub Grows : Entries → Entries → List ℕ → Result Unit (Fail SetupRefusal) → Type 0
Grows old new more (Ok _) = (new ≡ record { invocations = old.invocations; list = old.list ++ more }) × (length (old.list ++ more) ≤ 4194304)
Grows old new more (Err (Refused r)) = (r ≡ record { code = 9; line = 0 }) × (4194304 < length (old.list ++ more)) × (new ≡ old)
Grows old new more (Err NoMemory) = new ≡ old

-- an entry of the pieces is the one of a piece at the place behind its start
pub record IsPieceAt (invocations : ℕ) (ps : List Piece) (n : ℕ) (p : Piece) : Type 0 where
  pub exists : Exists invocations p.turn
  pub from : p.start ≤ n
  pub to : n - p.start < length (piece_entries invocations p)
  pub entry : slice_get (pieces_entries invocations ps) n ≡ slice_get (piece_entries invocations p) (n - p.start)
