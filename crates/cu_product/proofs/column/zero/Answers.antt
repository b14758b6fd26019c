use Rattle.std.proofs.Common.{◌≤◌, ◌+◌, ◌*◌, List, [], ◌∷◌, ℕ, length, arith, ap, ◌∙◌, pos}
use Rattle.cu_num.specs.Dtype.{size_of}
use Rattle.cu_num.specs.Element.{bytes_at, element_bytes}
use Rattle.cu_num.specs.declared.layout.Endian.TheVariants.{Little}
use Rattle.cu_num.proofs.ElementBytes.{bytes_at-written_at_same, length-element_bytes}
use Rattle.cu_product.proofs.Parts.{size_most}
use Rattle.cu_product.proofs.column.zero.Goals as goal

pub returns : goal.returns
returns c =
    let t = c.args.t in
    let eight : List ℕ = 0 ∷ 0 ∷ 0 ∷ 0 ∷ 0 ∷ 0 ∷ 0 ∷ 0 ∷ [] in
    let most = size_most t in
    let fits : 0 * size_of t + size_of t ≤ length eight = omega arith in
    ap (λ all. bytes_at t all 0) c.save.ensures ∙ bytes_at-written_at_same t eight (element_bytes Little t (pos 0)) 0 (length-element_bytes Little t (pos 0)) fits
