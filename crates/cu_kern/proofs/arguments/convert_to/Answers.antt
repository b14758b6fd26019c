use Rattle.std.proofs.Common.{◌≡◌, ◌≤◌, ◌*◌, ◌/◌, length, drop, ap, ◌∙◌, arith}
use Rattle.std.proofs.lemmas.List.{length-take-le}
use Rattle.std.proofs.Math.Nat.{mul-le-mul_right, div-mul-le_self}
use Rattle.cu_num.specs.Dtype.{size_of}
use Rattle.cu_kern.specs.Strips.{strip}
use Rattle.cu_kern.proofs.RowResults.{converted_same}
use Rattle.cu_kern.proofs.arguments.convert_to.Goals as goal

pub returns : goal.returns
returns c met =
    let count = c.args.count in
    let size = c.size-size.result in
    let x = c.args.x in
    let out = c.args.out.now in
    let far : count * size ≤ length out / size * size = mul-le-mul_right size (let l : count ≤ length out / size = omega arith in l) in
    let all = div-mul-le_self (length out) size in
    let long : length c.call_strips.new.out ≡ count * size_of c.args.t = c.call_strips.auto.out ∙ length-take-le (count * size) out (omega arith) ∙ ap (λ s. count * s) c.size-size.ensures in
    converted_same c.args.kind c.args.t (strip x.bytes.now x.step) c.call_strips.new.out (drop (count * size) out) count c.requires.promoted long c.call_strips.ensures
