-- What the commands of one plan change: a run, one that is begun, a part and a run that goes on put values of pieces, and dropping
-- removes pieces. This project's own rules.
use Rattle.std.specs.Prelude.{◌≡◌, ◌⊎◌, ℕ, List, [], ◌∷◌, None}
use Rattle.cu_store.specs.Steps.{Shown, Changes, Steps}
use Rattle.cu_run_law.specs.Left.{RunChange}
use Rattle.cu_run_law.specs.Pieces.{PlanRun, Piece, IsPiece, piece_key}

-- a piece is removed
abbrev pub PieceRemoval : PlanRun → Changes
PieceRemoval r key value = (q : Piece) × IsPiece r q × (key ≡ piece_key r q) × (value ≡ None)

-- a put under the key of a piece, of its value where the store was left so at a first moment; or a removal
abbrev pub CommandChange : PlanRun → Shown → Changes
CommandChange r first key value = RunChange r first key value ⊎ PieceRemoval r key value

-- one command, with the calls that it made
abbrev pub IsCommand : PlanRun → Shown → Shown → Type 0
IsCommand r old new = (least : ℕ) × (most : ℕ) × Steps (CommandChange r old) least most old new

-- the moments after each of some commands, one after another
abbrev pub AreCommands : PlanRun → Shown → List Shown → Type 0
AreCommands r old [] = Unit {0}
AreCommands r old (new ∷ rest) = IsCommand r old new × AreCommands r new rest
