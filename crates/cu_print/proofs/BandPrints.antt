-- Why printing a band ends, from why reading it or writing it ended.
use Rattle.std.proofs.Common.{◌≡◌, ℕ, ◌+◌, ◌<◌, ◌≤◌, List, [], Option, Some, None, Result, Ok, Err, refl, sym, subst, arith}
use Rattle.std.specs.Prelude.{OnOk, IfErr}
use Rattle.std.proofs.lemmas.List.{append-nil}
use Rattle.std.proofs.lemmas.List.Elements.{All-nil}
use Rattle.cu_num.specs.Dtype.{InRange}
use Rattle.cu_shape.specs.Index.{product, index_at, quotients, differences}
use Rattle.cu_shape.proofs.Places.{place-below}
use Rattle.cu_grid.specs.declared.region.Region.{Region}
use Rattle.cu_codec.proofs.Shared.{within_sizes}
use Rattle.cu_op.specs.declared.layout.ArrayInfo.{ArrayInfo}
use Rattle.cu_store.specs.Faults.{Rose}
use Rattle.cu_store.specs.Steps.{Shown}
use Rattle.cu_region.specs.Reading.{key_at}
use Rattle.cu_command.specs.Seen.{Seen}
use Rattle.cu_command.specs.declared.status.Status.{Status}
use Rattle.cu_command.specs.declared.status.Status.TheVariants.{WriteFault}
use Rattle.cu_print.specs.Bands.{HasFirst, IsBandUnread, IsBandFault}
use Rattle.cu_print.specs.Runs.{PrintsRun, PrintsPart, IsReadEnd, IsRunPrintFault}
use Rattle.cu_print.specs.Text.{WroteAll}
use Rattle.cu_print.specs.declared.reads.Unread.{Unread}
use Rattle.cu_print.proofs.ChunkReads.{run_fault}

-- so many elements were read, be it all or those before a chunk that wasn't
pub ready_read : {T : Type 0} → (read : Result T Unread) (info : ArrayInfo) (r : Region) (tries : ℕ) (old new : Shown) (out : List ℕ) (ready : ℕ)
    → OnOk read (ready ≡ product (differences r.hi r.lo)) → IfErr read (λ unread. ready ≡ unread.ready)
    → OnOk read (HasFirst info r old (product (differences r.hi r.lo)) out) → IfErr read (λ unread. HasFirst info r old unread.ready out)
    → IfErr read (IsBandUnread tries old new info r) → (ready ≤ product (differences r.hi r.lo)) × HasFirst info r old ready out
ready_read (Ok x) info r tries old new out ready same before all front unread = (omega arith, subst (λ (n : ℕ). HasFirst info r old n out) (sym same) all)
ready_read (Err e) info r tries old new out ready same before all front unread =
    let place = unread.place in
    let below = place-below (differences r.hi r.lo) (differences unread.idx r.lo) (within_sizes r.lo r.hi unread.idx unread.within) in
    (omega arith, subst (λ (n : ℕ). HasFirst info r old n out) (sym before) front)

pub ok_is : {T : Type 0} → (read : Result T Unread) (P : Type 0) (x : T) → read ≡ Ok x → OnOk read P → P
ok_is read P x same holds = rw same at holds

pub err_is : {T : Type 0} → (read : Result T Unread) (P : Unread → Type 0) (unread : Unread) → read ≡ Err unread → IfErr read P → P unread
err_is read P unread same holds = rw same at holds

pub read_fault : (tries : ℕ) (info : ArrayInfo) (place : ℕ) (idx : List ℕ) (old new : Seen) (status : Status) → new.out.told ≡ old.out.told → index_at info.layout.grid.shape place ≡ idx
    → IsReadEnd tries old.depot new.depot info.layout (key_at info (quotients idx info.layout.grid.chunk)) status → IsRunPrintFault tries info place old new status
read_fault tries info place idx old new status told here ended =
    run_fault tries info place old new status told
    (subst (λ (x : List ℕ). IsReadEnd tries old.depot new.depot info.layout (key_at info (quotients x info.layout.grid.chunk)) status) (sym here) ended)

wrote_none : (a : Option (List ℕ)) → WroteAll a a []
wrote_none None = tt
wrote_none (Some a) = sym (append-nil a)

-- no element
pub prints_none : (info : ArrayInfo) (start : ℕ) (shown : Shown) (a : Option (List ℕ)) → start ≤ product info.layout.grid.shape → PrintsRun info start shown a a 0
prints_none info start shown a below = record {
  ys = [];
  long = refl;
  read = record { few = omega arith; numbers = All-nil (InRange info.layout.dtype); stored = λ entry step k less steady. absurd (omega arith) };
  wrote = wrote_none a;
}

pub write_fault : (tries : ℕ) (info : ArrayInfo) (start : ℕ) (old new : Seen) → start < product info.layout.grid.shape → Rose 1 old.out.faults new.out.faults
    → PrintsPart info start old.depot old.out.told new.out.told → IsBandFault tries info start old new WriteFault
write_fault tries info start old new below rose part =
    let same : start ≡ start + 0 = omega arith in
    record {
      len = 0;
      told = old.out.told;
      prints = prints_none info start old.depot old.out.told (omega arith);
      below = omega arith;
      ended = (rose, subst (λ (n : ℕ). PrintsPart info n old.depot old.out.told new.out.told) same part);
    }
