use Rattle.std.proofs.Common.{◌≡◌, suc, ◌+◌, ◌*◌, ◌%◌, ◌<◌, ◌≤◌, length, Some, ap, ◌∙◌, arith, ◌⊎◌, inl, inr, ⊎_elim}
use Rattle.std.proofs.Math.Nat.{mod-lt, mul-le-mul_right}
use Rattle.std.proofs.lemmas.Bool.{cases_lt}
use Rattle.cu_num.specs.Dtype.{size_of}
use Rattle.cu_shape.specs.Index.{index_at}
use Rattle.cu_kern.specs.Lays.{lay_element}
use Rattle.std.proofs.lemmas.List.{length-take-le}
use Rattle.cu_kern.proofs.Parts.{has_value_same}
use Rattle.cu_kern.proofs.Repeats.{bytes_in_front, repeated_value}
use Rattle.cu_kern.proofs.fills.row_of_region.Goals as goal

pub returns : goal.returns
returns c k b =
    let l = c.args.region.lay.now in
    let t = l.dtype in
    let all = c.args.range.count in
    let first = c.min-first.result in
    let period = c.pace_of-pace.result.period in
    let least = c.min-first.ensures in
    let lasting = c.pace_of-pace.ensures.lasting in
    let some : 0 < first = omega (arith, least, lasting, b) in
    let low : k % first < first = mod-lt k some in
    let part = c.pieces_of_region.new.out in
    let size : first * c.size.result ≡ first * size_of t = ap (λ s. first * s) c.size.ensures in
    let fits : first * size_of t ≤ all * size_of t = mul-le-mul_right (size_of t) (let l : first ≤ all = omega (arith, least) in l) in
    let long : length part ≡ first * size_of t = c.pieces_of_region.auto.out ∙ length-take-le (first * c.size.result) c.args.out.now (omega (arith, size, fits, c.requires.room)) ∙ size in
    let room : k % first * size_of t + size_of t ≤ length part = omega (arith, long, mul-le-mul_right {m = suc (k % first)} (size_of t) low) in
    let same = c.repeat.ensures k b ∙ bytes_in_front t part _ (k % first) room in
    let has = has_value_same t c.repeat.new.out part k (k % first) (Some (lay_element l c.args.region.ins.now (index_at c.args.dims.now (c.args.range.from + k % first)))) same (c.pieces_of_region.ensures (k % first) low) in
    let which : (all ≤ first) ⊎ (first ≡ period) = ⊎_elim (λ less. inl (omega (arith, least, less))) (λ more. inr (omega (arith, least, more))) (cases_lt all period) in
    repeated_value l c.args.region.ins.now c.args.dims.now c.repeat.new.out period c.args.range.from k first all c.pace_of-pace.ensures.period lasting c.requires.within b which has
