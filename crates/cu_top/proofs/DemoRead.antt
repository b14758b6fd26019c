-- The result of a demonstration is read and told.
use Rattle.std.proofs.Common.{◌≡◌, ◌∙◌, ℕ, ◌≤◌, ℤ, pos, List, [], ◌++◌, length, take, Option, Some, None, Ok, refl, sym, ap, arith, true}
use Rattle.std.specs.Prelude.{◌==◌}
use Rattle.std.proofs.lemmas.List.{take-append-le, take_all}
use Rattle.cu_num.specs.Element.{element_at}
use Rattle.cu_num.specs.declared.layout.Endian.TheVariants.{Little}
use Rattle.cu_num.specs.declared.types.Dtype.TheVariants.{Int64}
use Rattle.cu_store.specs.Held.{Contents, Gets}
use Rattle.cu_store.specs.Steps.{Shown}
use Rattle.cu_store.specs.declared.depot.Got.TheVariants.{Absent, Held}
use Rattle.cu_zarr.specs.Stored.{element_in}
use Rattle.cu_op.specs.Layout.{layout_view}
use Rattle.cu_command.specs.Seen.{Stream, seen}
use Rattle.cu_command.specs.Streams.{WroteFront}
use Rattle.cu_command.specs.declared.status.Status.{Status}
use Rattle.cu_command.specs.declared.status.Status.TheVariants.{BadChunk, DepotFailed, NoMemory}
use Rattle.cu_region.specs.Steady.{HoldsLength}
use Rattle.cu_top.specs.Demo.{IsResult, IsResultUnread, ResultTells, result_key, result_layout}

-- a chunk of eight bytes is the element
pub read_held : (held : Option Contents) (key buf : List ℕ) (n : ℕ) → key ≡ result_key → length buf ≡ 8 → n ≡ 8 → Gets held key buf (Ok (Held n)) → IsResult held (element_at Little Int64 buf 0)
read_held None key buf n at long eight gets = tt
read_held (Some held) key buf n at long eight (bytes, there, is, same) =
    let size : length bytes ≡ 8 = sym is ∙ eight in
    let left : take n buf ≡ buf = take_all n buf (omega (arith, long, eight)) in
    let right : take (length buf) bytes ≡ bytes = take_all (length buf) bytes (omega (arith, long, size)) in
    let whole : bytes ≡ buf = sym right ∙ sym same ∙ left in
    let test : length bytes == 8 ≡ true = ap (λ (k : ℕ). k == 8) size in
    ap (λ (v : Option (List ℕ)). element_in (layout_view result_layout) v []) (ap held (sym at) ∙ there)
    ∙ rw test (ap (λ (b : List ℕ). Some (element_at Little Int64 b 0)) whole)

-- one that is absent is the fill value
pub read_absent : (held : Option Contents) (key buf : List ℕ) → key ≡ result_key → Gets held key buf (Ok Absent) → IsResult held (pos 0)
read_absent None key buf at gets = tt
read_absent (Some held) key buf at gone = ap (λ (v : Option (List ℕ)). element_in (layout_view result_layout) v []) (ap held (sym at) ∙ gone)

pub read_length : (held : Option Contents) (key buf : List ℕ) (n : ℕ) → Gets held key buf (Ok (Held n)) → HoldsLength held key n
read_length None key buf n gets = tt
read_length (Some held) key buf n (bytes, there, is, same) = (bytes, there, sym is)

-- it wasn't read
pub unread_end : (tries : ℕ) (text : ℤ → List ℕ) (out : Stream) (old new : Shown) (status : Status) → IsResultUnread tries old new status
    → ResultTells tries text (seen out old) (seen out new) status
unread_end tries text out old new (DepotFailed key) fault = (refl, fault)
unread_end tries text out old new (BadChunk key got want) fault = (refl, fault)
unread_end tries text out old new NoMemory fault = refl
unread_end tries text out old new status fault = absurd fault

-- a front of the first line is one of both
pub front_of : (a c : Option (List ℕ)) (n : ℕ) (x rest : List ℕ) → n ≤ length x → WroteFront a c x n → WroteFront a c (x ++ rest) n
front_of None None n x rest few h = tt
front_of (Some a) (Some c) n x rest few h = rw (take-append-le n x rest few) h
front_of None (Some c) n x rest few h = h
front_of (Some a) None n x rest few h = h
