-- Operations of a list that are put together with the readers of their arrays, one array after
-- another (this project's own rule).
use Rattle.std.specs.Prelude.{ℕ, Bool, List, [], ◌∷◌, Option, Some, None, option_map, unwrap_or, if◌then◌else◌}
use Rattle.cu_op.specs.Operation.{writes_of}
use Rattle.cu_op.specs.declared.operation.Planned.{Planned}
use Rattle.cu_fuse.specs.Fused.{is_reader}
use Rattle.cu_op.specs.Numbers.{stands_in}

-- whether the maker of an array and its reader may be put together, where these operations stand
-- behind the reader
abbrev pub Test : Type 0
Test = Planned → Planned → List Planned → ℕ → Bool

-- what they are together
abbrev pub Joining : Type 0
Joining = Planned → Planned → ℕ → Planned

-- the operations behind the maker of array `a`, with it put together with the first that reads the
-- array, where it may be
abbrev pub into_first : Test → Joining → Planned → ℕ → List Planned → Option (List Planned)
into_first may both maker a [] = None
into_first may both maker a (o ∷ os) =
    if is_reader a o then (if may maker o os a then Some (both maker o a ∷ os) else None)
    else option_map (λ rest. o ∷ rest) (into_first may both maker a os)

-- the operations with the maker of array `a` put together with its reader, where it may be
abbrev pub put_together : Test → Joining → ℕ → List Planned → List Planned
put_together may both a [] = []
put_together may both a (o ∷ os) =
    if stands_in (writes_of o.op) a then unwrap_or (into_first may both o a os) (o ∷ os)
    else (o ∷ put_together may both a os)

-- one array after another
abbrev pub all_together : Test → Joining → List ℕ → List Planned → List Planned
all_together may both [] ops = ops
all_together may both (a ∷ rest) ops = all_together may both rest (put_together may both a ops)
