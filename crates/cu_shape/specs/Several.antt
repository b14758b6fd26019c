-- Broadcasting of several shapes, one after another from the left (Python array API 2022.12, "Broadcasting"). That a
-- mismatch is named by its axis in the result of all is this project's own rule.
use Rattle.std.specs.Prelude.{ℕ, ◌+◌, ◌-◌, max, Option, None, Some, Result, Ok, Err, List, [], ◌∷◌, length}
use Rattle.cu_shape.specs.declared.fault.ShapeFault.{ShapeFault}
use Rattle.cu_shape.specs.declared.fault.ShapeFault.TheVariants.{Mismatch}
use Rattle.cu_shape.specs.Broadcast.{rank_of, broadcast_of, mismatch_of}

-- the rank of the result
abbrev pub rank_of_all : List (List ℕ) → ℕ
rank_of_all [] = 0
rank_of_all (s ∷ ss) = max (length s) (rank_of_all ss)

-- where two shapes have this mismatch, it is the fault, with its axis counted in a result of `rank` axes; else the value stands
abbrev pub unless_apart : ℕ → List ℕ → List ℕ → Option ℕ → Result (List ℕ) ShapeFault → Result (List ℕ) ShapeFault
unless_apart rank a b None value = value
unless_apart rank a b (Some axis) value = Err (Mismatch (axis + (rank - rank_of a b)))

-- two shapes, as part of a result of `rank` axes
abbrev pub broadcast_in : ℕ → List ℕ → List ℕ → Result (List ℕ) ShapeFault
broadcast_in rank a b = unless_apart rank a b (mismatch_of a b) (Ok (broadcast_of a b))

-- a shape and then those of a list
abbrev pub broadcast_from : ℕ → List ℕ → List (List ℕ) → Result (List ℕ) ShapeFault
broadcast_from rank shape [] = Ok shape
broadcast_from rank shape (s ∷ ss) = unless_apart rank shape s (mismatch_of shape s) (broadcast_from rank (broadcast_of shape s) ss)

-- several shapes, from the shape of a single number on
abbrev pub broadcast_of_all : List (List ℕ) → Result (List ℕ) ShapeFault
broadcast_of_all shapes = broadcast_from (rank_of_all shapes) [] shapes
