-- What a read of a chunk says of what was held at an earlier moment, and why it ends.
use Rattle.std.proofs.Common.{◌≡◌, ℕ, ◌*◌, ◌≤◌, ◌^◌, ◌==◌, Bool, true, false, not, nat_lt, if◌then◌else◌, List, length, Option, Some, None, Result, Ok, Err, refl, arith}
use Rattle.std.specs.Prelude.{OnOk, OnErr}
use Rattle.std.specs.List.{list_any}
use Rattle.cu_num.specs.Dtype.{size_of}
use Rattle.cu_shape.specs.Index.{product}
use Rattle.cu_grid.specs.Counts.{counts_of, at_least_one}
use Rattle.cu_grid.specs.Limits.{IsWithinLimits}
use Rattle.cu_grid.specs.declared.fault.GridFault.TheVariants.{ZeroChunk, Rank, TooManyElements, TooManyChunks, ChunkTooLarge}
use Rattle.cu_op.specs.declared.layout.ArrayInfo.{ArrayInfo}
use Rattle.cu_op.specs.declared.layout.Layout.{Layout}
use Rattle.cu_store.specs.Steps.{Shown, NoChange}
use Rattle.cu_command.specs.Seen.{Seen, Stepped}
use Rattle.cu_command.specs.Stored.{IsArrayLayout}
use Rattle.cu_command.specs.declared.status.Status.{Status}
use Rattle.cu_command.specs.declared.status.Status.TheVariants.{BadChunk, DepotFailed, NoMemory}
use Rattle.cu_command.proofs.ChunkReads.{fault_since}
use Rattle.cu_print.specs.Print.{chunk_key_at}
use Rattle.cu_print.specs.Runs.{IsReadEnd, IsRunPrintFault}

-- ---- limits

unless : {A : Type 0} → (b : Bool) (x : A) (rest : Option A) → (if b then Some x else rest) ≡ None → (b ≡ false) × (rest ≡ None)
unless true x rest e = cc
unless false x rest e = (refl, e)

not_below : (m n : ℕ) → nat_lt m n ≡ false → n ≤ m
not_below m n e = grind arith

pub limits_of : (l : Layout) → IsArrayLayout l → IsWithinLimits l.grid (size_of l.dtype)
limits_of l ok =
    let a = unless (list_any (λ c. c == 0) l.grid.chunk) ZeroChunk _ ok.storable.grid in
    let b = unless (not (length l.grid.shape == length l.grid.chunk)) Rank _ a.1 in
    let c = unless (nat_lt (2 ^ 40) (product (at_least_one l.grid.shape))) TooManyElements _ b.1 in
    let d = unless (nat_lt 65536 (product (at_least_one (counts_of l.grid.shape l.grid.chunk)))) TooManyChunks _ c.1 in
    let e = unless (nat_lt (2 ^ 28) (product l.grid.chunk * size_of l.dtype)) ChunkTooLarge None d.1 in
    record { elements = not_below _ _ c.0; chunks = not_below _ _ d.0; bytes = not_below _ _ e.0 }

-- ---- results

pub on_ok : {T E : Type 0} → (r : Result T E) (P Q : Type 0) → (P → Q) → OnOk r P → OnOk r Q
on_ok (Ok x) P Q f h = f h
on_ok (Err e) P Q f h = tt

pub on_err : {T E : Type 0} → (r : Result T E) (P Q : Type 0) → (P → Q) → OnErr r P → OnErr r Q
on_err (Ok x) P Q f h = tt
on_err (Err e) P Q f h = f h

-- ---- why a read ends

-- of the calls since an earlier moment
pub end_since : (tries : ℕ) (old mid new : Shown) (l : Layout) (key : List ℕ) (status : Status) → Stepped NoChange old mid → IsReadEnd tries mid new l key status → IsReadEnd tries old new l key status
end_since tries old mid new l key status step ended = fault_since tries old mid new l (λ k. k ≡ key) status step.step.count ended

-- what is answered where printing ends at a chunk that wasn't read
pub run_fault : (tries : ℕ) (info : ArrayInfo) (place : ℕ) (old new : Seen) (status : Status) → new.out.told ≡ old.out.told
    → IsReadEnd tries old.depot new.depot info.layout (chunk_key_at info.prefix info.layout place) status → IsRunPrintFault tries info place old new status
run_fault tries info place old new (DepotFailed key) told ended = (told, ended.0, ended.1)
run_fault tries info place old new (BadChunk key got want) told ended = (told, ended.0, (ended.1, ended.2, ended.3))
run_fault tries info place old new NoMemory told ended = told
run_fault tries info place old new status told ended = absurd ended
