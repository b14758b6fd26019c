-- The calls for a band, from the number of chunks that it meets.
use Rattle.std.proofs.Common.{◌≡◌, ℕ, ◌+◌, ◌*◌, ◌<◌, ◌≤◌, List, ◌∙◌, arith}
use Rattle.std.specs.List.{range_with_len}
use Rattle.std.proofs.lemmas.List.{length-map}
use Rattle.std.proofs.lemmas.List.FromFn.{length-range_with_len}
use Rattle.cu_shape.specs.Index.{product, index_at, quotients, sums, differences}
use Rattle.cu_grid.specs.Cover.{spans_of}
use Rattle.cu_grid.specs.Grid.{RegularGrid}
use Rattle.cu_region.specs.Calls.{chunks_met}
use Rattle.cu_store.specs.Steps.{Shown, OnceEach}
use Rattle.cu_store.proofs.Once.{once_then, once_few}
use Rattle.cu_command.proofs.SeenLemmas.{within_then, within_few}
use Rattle.cu_command.specs.Seen.{WithinCalls}
use Rattle.cu_print.specs.Reads.{reads_before, IsBandStart, IsBandRead, IsBandEnd}
use Rattle.cu_print.specs.Runs.{ends}
use Rattle.cu_print.proofs.BandSteps.{BandStep}

pub same_ends : {s t b c i j : List ℕ} → s ≡ t → b ≡ c → i ≡ j → ends s b i ≡ ends t c j
same_ends p q r = cc

met_is : (g : RegularGrid) (lo hi : List ℕ) → chunks_met g lo hi ≡ product (spans_of lo hi g.chunk)
met_is g lo hi =
    let spans = spans_of lo hi g.chunk in
    length-map (range_with_len 0 (product spans)) (λ p. sums (quotients lo g.chunk) (index_at spans p)) ∙ length-range_with_len 0 (product spans)

module _ (tries axis : ℕ) (g : RegularGrid) (start : ℕ) (lo hi : List ℕ) (old new : Shown) (step : BandStep axis g.shape g.chunk start lo hi) (calls : WithinCalls (chunks_met g lo hi * tries) old new)
    (once : OnceEach (chunks_met g lo hi) old new) where
  pub band_read : IsBandRead tries axis g start old new (product (differences hi lo))
  band_read = record { next = step.next; met = chunks_met g lo hi; few = omega (arith, met_is g lo hi, step.more); calls = calls; once = once }

  pub band_end : IsBandEnd tries axis g start old new
  band_end = record { met = chunks_met g lo hi; few = omega (arith, met_is g lo hi, step.most); calls = calls; once = once }

-- what was read before this place, where a band may begin
pub record ReadTo (tries axis : ℕ) (g : RegularGrid) (old new : Shown) (start : ℕ) : Type 0 where
  pub next : start < product g.shape → IsBandStart axis g.shape g.chunk start
  pub calls : WithinCalls (reads_before axis g.shape g.chunk start * tries) old new
  pub once : OnceEach (reads_before axis g.shape g.chunk start) old new

-- a band more, or the end of one
pub calls_more : (before met after tries : ℕ) (a b c : Shown) → before + met ≤ after → WithinCalls (before * tries) a b → WithinCalls (met * tries) b c → WithinCalls (after * tries) a c
calls_more before met after tries a b c few first next = within_few (before + met) after tries a c few (within_then before met tries a b c first next)

pub once_more : (before met after : ℕ) (a b c : Shown) → before + met ≤ after → OnceEach before a b → OnceEach met b c → OnceEach after a c
once_more before met after a b c few first next = once_few (before + met) after a c few (once_then before met a b c first next)
