use Rattle.std.proofs.Common.{◌≡◌, ◌<◌, ℕ, List, Option, refl, ◌+◌, ◌*◌, ◌≤◌, sym, ap, ◌∙◌, subst, arith}
use Rattle.std.proofs.lemmas.List.{length-take-le}
use Rattle.std.proofs.lemmas.Nat.{mul-le}
use Rattle.cu_num.specs.Dtype.{size_of}
use Rattle.cu_shape.specs.Index.{product, index_at, differences}
use Rattle.cu_codec.specs.Box.{run_length}
use Rattle.cu_codec.specs.Parts.{place_within}
use Rattle.cu_codec.proofs.BoxRuns.{run_positive}
use Rattle.cu_grid.proofs.Covers.{bounds_of}
use Rattle.cu_grid.proofs.Products.{product_within}
use Rattle.cu_command.specs.Seen.{stream, seen}
use Rattle.cu_print.specs.Bands.{HasFirst, IsBandUnread}
use Rattle.cu_print.specs.Runs.{AreFrom, PrintsRun, numbers_of}
use Rattle.cu_print.specs.Text.{elements_text, WroteAll, WroteSome}
use Rattle.cu_print.proofs.BandPrints.{ready_read, ok_is, err_is, read_fault, write_fault}
use Rattle.cu_print.proofs.ChunkReads.{limits_of, on_ok}
use Rattle.cu_print.specs.Reads.{band_sizes, IsBandStart, IsBandRead}
use Rattle.cu_print.specs.Runs.{ends}
use Rattle.cu_print.proofs.BandSteps.{BandStep, band_step}
use Rattle.cu_print.proofs.ReadCounts.{same_ends, band_read, band_end}
use Rattle.cu_print.proofs.RunElements.{run_elements, run_within, run_place}
use Rattle.cu_print.proofs.Written.{length-numbers_of}
use Rattle.cu_print.proofs.command.print_band.Goals as goal
use Rattle.cu_print.proofs.command.print_band.Goals.{After-row_of-row}
use Rattle.cu_print.proofs.command.print_band.Given.{Over}

pub extents-requires : goal.extents-requires
extents-requires g c =
    let b = bounds_of c.args.place.array.bands.now.shape c.run_from-region.result.lo c.run_from-region.result.hi c.run_from-region.ensures.run.region in
    b.hi_rank ∙ sym b.lo_rank

row_is : (g : Over) (c : After-row_of-row g) → c.row_of-row.result ≡ run_length c.args.place.array.info.now.layout.grid.shape
row_is g c = c.row_of-row.ensures ∙ ap run_length c.shape-shape.ensures.value

first_is : (g : Over) (c : After-row_of-row g) → c.run_from-region.result.lo ≡ index_at c.args.place.array.info.now.layout.grid.shape c.args.place.start
first_is g c = c.run_from-region.ensures.lo ∙ c.index_of.ensures.index ∙ ap (λ shape. index_at shape c.args.place.start) c.shape-shape.ensures.value

ready : (g : Over) (c : After-row_of-row g) → (c.ready_of-ready.result ≤ product (differences c.run_from-region.result.hi c.run_from-region.result.lo))
    × HasFirst c.args.place.array.info.now c.run_from-region.result (g.D.PutStore.shown c.args.depot.now) c.ready_of-ready.result c.read_band-read.new.out
ready g c =
    ready_read c.read_band-read.result c.args.place.array.info.now c.run_from-region.result (c.args.retries + 1) (g.D.PutStore.shown c.args.depot.now) (g.D.PutStore.shown c.read_band-read.new.depot)
    c.read_band-read.new.out c.ready_of-ready.result
    (on_ok c.read_band-read.result (c.ready_of-ready.result ≡ c.elements-count.result) (c.ready_of-ready.result ≡ product (differences c.run_from-region.result.hi c.run_from-region.result.lo))
    (λ same. same ∙ c.elements-count.ensures ∙ ap product c.extents.ensures) c.ready_of-ready.ensures.all)
    c.ready_of-ready.ensures.front c.read_band-read.ensures.all c.read_band-read.ensures.front c.read_band-read.ensures.unread

read : (g : Over) (c : After-row_of-row g) → AreFrom c.args.place.array.info.now.prefix c.args.place.array.info.now.layout c.args.place.start (g.D.PutStore.shown c.args.depot.now)
    (numbers_of c.args.place.array.info.now.layout.dtype c.read_band-read.new.out c.ready_of-ready.result)
read g c =
    run_elements c.args.place.array.info.now c.args.place.array.bands.now c.run_from-region.result c.args.place.start c.requires.bands.shape c.run_from-region.ensures.run c.requires.start (first_is g c)
    c.read_band-read.new.out (g.D.PutStore.shown c.args.depot.now) c.ready_of-ready.result (ready g c).0 (ready g c).1

within : (g : Over) (c : After-row_of-row g) → c.args.place.start + product (differences c.run_from-region.result.hi c.run_from-region.result.lo) ≤ product c.args.place.array.info.now.layout.grid.shape
within g c = run_within c.args.place.array.info.now c.args.place.array.bands.now c.run_from-region.result c.args.place.start c.requires.bands.shape c.run_from-region.ensures.run c.requires.start (first_is g c)

pub write_elements-requires-clause-row : goal.write_elements-requires-clause-row
write_elements-requires-clause-row g c =
    rw (row_is g (goal.at.write_elements-requires-clause-row g c).After-row_of-row) (run_positive c.args.place.array.info.now.layout.grid.shape (let s = c.requires.start in omega arith))

pub write_elements-requires-clause-start : goal.write_elements-requires-clause-start
write_elements-requires-clause-start g c =
    let few = (ready g (goal.at.write_elements-requires-clause-start g c).After-row_of-row).0 in
    let all = within g (goal.at.write_elements-requires-clause-start g c).After-row_of-row in
    let most = (limits_of c.args.place.array.info.now.layout c.requires.shown.layout).elements in
    let whole = product_within c.args.place.array.info.now.layout.grid.shape in
    omega arith

pub write_elements-requires-clause-bytes : goal.write_elements-requires-clause-bytes
write_elements-requires-clause-bytes g c =
    let few = (ready g (goal.at.write_elements-requires-clause-bytes g c).After-row_of-row).0 in
    let count : c.elements-count.result ≡ product (differences c.run_from-region.result.hi c.run_from-region.result.lo) = c.elements-count.ensures ∙ ap product c.extents.ensures in
    let most = c.run_from-region.ensures.run.few in
    let fits = mul-le c.elements-count.result (size_of c.args.place.array.info.now.layout.dtype) (product c.args.place.array.bands.now.chunk) (size_of c.args.place.array.info.now.layout.dtype) (omega arith) (omega arith) in
    let room = c.requires.piece in
    let size : c.elements-count.result * c.size.result ≡ c.elements-count.result * size_of c.args.place.array.info.now.layout.dtype = ap (λ n. c.elements-count.result * n) c.size.ensures in
    let cut = length-take-le (c.elements-count.result * c.size.result) c.args.piece.now (omega arith) in
    let long = c.read_band-read.auto.out in
    let less = mul-le c.ready_of-ready.result (size_of c.args.place.array.info.now.layout.dtype) c.elements-count.result (size_of c.args.place.array.info.now.layout.dtype) (omega arith) (omega arith) in
    omega arith

prints : (g : Over) (c : After-row_of-row g) (after : Option (List ℕ))
    → WroteAll (g.W.Sink.written c.args.out.now) after (elements_text c.args.place.array.info.now.layout.dtype c.row_of-row.result c.args.place.start (numbers_of c.args.place.array.info.now.layout.dtype c.read_band-read.new.out c.ready_of-ready.result))
    → PrintsRun c.args.place.array.info.now c.args.place.start (g.D.PutStore.shown c.args.depot.now) (g.W.Sink.written c.args.out.now) after c.ready_of-ready.result
prints g c after wrote = record {
  ys = numbers_of c.args.place.array.info.now.layout.dtype c.read_band-read.new.out c.ready_of-ready.result;
  long = length-numbers_of c.args.place.array.info.now.layout.dtype c.read_band-read.new.out c.ready_of-ready.result;
  read = read g c;
  wrote = subst (λ (row : ℕ). WroteAll (g.W.Sink.written c.args.out.now) after (elements_text c.args.place.array.info.now.layout.dtype row c.args.place.start (numbers_of c.args.place.array.info.now.layout.dtype c.read_band-read.new.out c.ready_of-ready.result)))
      (row_is g c) wrote;
}

pub returns-in-Err-clause-fault : goal.returns-in-Err-clause-fault
returns-in-Err-clause-fault g c =
    write_fault (c.args.retries + 1) c.args.place.array.info.now c.args.place.start (seen (stream (g.W.Sink.written c.args.out.now) (g.W.Sink.faults c.args.out.now)) (g.D.PutStore.shown c.args.depot.now))
    (seen (stream (g.W.Sink.written c.write_elements.new.out) (g.W.Sink.faults c.write_elements.new.out)) (g.D.PutStore.shown c.read_band-read.new.depot)) c.requires.start c.in-Err.ensures.cause (
      numbers_of c.args.place.array.info.now.layout.dtype c.read_band-read.new.out c.ready_of-ready.result,
      read g (goal.at.returns-in-Err-clause-fault g c).After-row_of-row,
      subst (λ (row : ℕ). WroteSome (g.W.Sink.written c.args.out.now) (g.W.Sink.written c.write_elements.new.out) (elements_text c.args.place.array.info.now.layout.dtype row c.args.place.start (numbers_of c.args.place.array.info.now.layout.dtype c.read_band-read.new.out c.ready_of-ready.result)))
          (row_is g (goal.at.returns-in-Err-clause-fault g c).After-row_of-row) c.in-Err.ensures.front,
    )

pub returns-in-Ok-read-clause-prints : goal.returns-in-Ok-read-clause-prints
returns-in-Ok-read-clause-prints g c =
    subst (λ (n : ℕ). PrintsRun c.args.place.array.info.now c.args.place.start (g.D.PutStore.shown c.args.depot.now) (g.W.Sink.written c.args.out.now) (g.W.Sink.written c.write_elements.new.out) n)
    (ok_is c.read_band-read.result (c.ready_of-ready.result ≡ c.elements-count.result) _ c.in-Ok-read.is c.ready_of-ready.ensures.all)
    (prints g (goal.at.returns-in-Ok-read-clause-prints g c).After-row_of-row (g.W.Sink.written c.write_elements.new.out) c.in-Ok.ensures.all)

pub returns-in-Err-read-clause-fault : goal.returns-in-Err-read-clause-fault
returns-in-Err-read-clause-fault g c =
    let unread = err_is c.read_band-read.result (IsBandUnread (c.args.retries + 1) (g.D.PutStore.shown c.args.depot.now) (g.D.PutStore.shown c.read_band-read.new.depot) c.args.place.array.info.now c.run_from-region.result) c.in-Err-read.unread c.in-Err-read.is c.read_band-read.ensures.unread in
    let same = err_is c.read_band-read.result (λ unread. c.ready_of-ready.result ≡ unread.ready) c.in-Err-read.unread c.in-Err-read.is c.ready_of-ready.ensures.front in
    let here = run_place c.args.place.array.info.now c.args.place.array.bands.now c.run_from-region.result c.args.place.start c.requires.bands.shape c.run_from-region.ensures.run c.requires.start (first_is g (goal.at.returns-in-Err-read-clause-fault g c).After-row_of-row) unread.idx unread.within in
    let place : c.args.place.start + place_within c.run_from-region.result.lo c.run_from-region.result.hi unread.idx ≡ c.args.place.start + c.ready_of-ready.result = ap (λ n. c.args.place.start + n) (unread.place ∙ sym same) in
    record {
      len = c.ready_of-ready.result;
      told = g.W.Sink.written c.write_elements.new.out;
      prints = prints g (goal.at.returns-in-Err-read-clause-fault g c).After-row_of-row (g.W.Sink.written c.write_elements.new.out) c.in-Ok.ensures.all;
      below = subst (λ (n : ℕ). n < product c.args.place.array.info.now.layout.grid.shape) place here.0;
      ended = read_fault (c.args.retries + 1) c.args.place.array.info.now (c.args.place.start + c.ready_of-ready.result) unread.idx
          (seen (stream (g.W.Sink.written c.write_elements.new.out) (g.W.Sink.faults c.args.out.now)) (g.D.PutStore.shown c.args.depot.now))
          (seen (stream (g.W.Sink.written c.write_elements.new.out) (g.W.Sink.faults c.write_elements.new.out)) (g.D.PutStore.shown c.read_band-read.new.depot)) c.in-Err-read.unread.status refl
          (subst (λ (n : ℕ). index_at c.args.place.array.info.now.layout.grid.shape n ≡ unread.idx) place here.1) unread.ended;
    }

step : (g : Over) (c : After-row_of-row g) (axis : ℕ) → c.args.place.array.bands.now.chunk ≡ band_sizes axis c.args.place.array.info.now.layout.grid.shape c.args.place.array.info.now.layout.grid.chunk
    → IsBandStart axis c.args.place.array.info.now.layout.grid.shape c.args.place.array.info.now.layout.grid.chunk c.args.place.start
    → BandStep axis c.args.place.array.info.now.layout.grid.shape c.args.place.array.info.now.layout.grid.chunk c.args.place.start c.run_from-region.result.lo c.run_from-region.result.hi
step g c axis sizes starts =
    let grid = c.args.place.array.info.now.layout.grid in
    let ok = c.shape-shape.ensures.kept in
    let hi : c.run_from-region.result.hi ≡ ends c.args.place.array.info.now.layout.grid.shape (band_sizes axis c.args.place.array.info.now.layout.grid.shape c.args.place.array.info.now.layout.grid.chunk) (index_at c.args.place.array.info.now.layout.grid.shape c.args.place.start) =
    c.run_from-region.ensures.hi ∙ same_ends c.requires.bands.shape sizes (c.index_of.ensures.index ∙ ap (λ shape. index_at shape c.args.place.start) c.shape-shape.ensures.value) in
    subst (λ (xs : List ℕ). BandStep axis c.args.place.array.info.now.layout.grid.shape c.args.place.array.info.now.layout.grid.chunk c.args.place.start xs c.run_from-region.result.hi) (sym (first_is g c))
    (subst (λ (xs : List ℕ). BandStep axis c.args.place.array.info.now.layout.grid.shape c.args.place.array.info.now.layout.grid.chunk c.args.place.start (index_at c.args.place.array.info.now.layout.grid.shape c.args.place.start) xs) (sym hi)
    (band_step axis grid.shape grid.chunk c.args.place.start ok.positive ok.ranks c.requires.start starts))

pub returns-in-Ok-read-clause-calls : goal.returns-in-Ok-read-clause-calls
returns-in-Ok-read-clause-calls g c axis sizes starts =
    let here = (goal.at.returns-in-Ok-read-clause-calls g c).After-row_of-row in
    let whole : product (differences c.run_from-region.result.hi c.run_from-region.result.lo) ≡ c.elements-count.result = sym (c.elements-count.ensures ∙ ap product c.extents.ensures) in
    subst (IsBandRead (c.args.retries + 1) axis c.args.place.array.info.now.layout.grid c.args.place.start (g.D.PutStore.shown c.args.depot.now) (g.D.PutStore.shown c.read_band-read.new.depot)) whole
    (band_read (c.args.retries + 1) axis c.args.place.array.info.now.layout.grid c.args.place.start c.run_from-region.result.lo c.run_from-region.result.hi (g.D.PutStore.shown c.args.depot.now) (g.D.PutStore.shown c.read_band-read.new.depot)
    (step g here axis sizes starts) c.read_band-read.ensures.calls c.read_band-read.ensures.once)

pub returns-in-Err-clause-calls_end : goal.returns-in-Err-clause-calls_end
returns-in-Err-clause-calls_end g c axis sizes starts =
    band_end (c.args.retries + 1) axis c.args.place.array.info.now.layout.grid c.args.place.start c.run_from-region.result.lo c.run_from-region.result.hi (g.D.PutStore.shown c.args.depot.now) (g.D.PutStore.shown c.read_band-read.new.depot)
    (step g (goal.at.returns-in-Err-clause-calls_end g c).After-row_of-row axis sizes starts) c.read_band-read.ensures.calls c.read_band-read.ensures.once

pub returns-in-Err-read-clause-calls_end : goal.returns-in-Err-read-clause-calls_end
returns-in-Err-read-clause-calls_end g c axis sizes starts =
    band_end (c.args.retries + 1) axis c.args.place.array.info.now.layout.grid c.args.place.start c.run_from-region.result.lo c.run_from-region.result.hi (g.D.PutStore.shown c.args.depot.now) (g.D.PutStore.shown c.read_band-read.new.depot)
    (step g (goal.at.returns-in-Err-read-clause-calls_end g c).After-row_of-row axis sizes starts) c.read_band-read.ensures.calls c.read_band-read.ensures.once
