-- The memory of an elementwise node whose arguments are aligned.
use Rattle.std.proofs.Common.{◌≡◌, ◌+◌, ◌*◌, true, false, not, List, [], ◌∷◌, ℕ, max, map, refl, sym, ap, ◌∙◌, ◌↔◌, arith}
use Rattle.std.specs.Prelude.{sum_by, filter}
use Rattle.std.proofs.lemmas.Bool.{and_parts, not-false}
use Rattle.std.proofs.lemmas.List.Sums.{sum_by-cons}
use Rattle.std.proofs.lemmas.Slice.Eq.{bytes_eq-Decides}
use Rattle.cu_node.specs.Info.{chunk_bytes}
use Rattle.cu_node.specs.declared.info.NodeInfo.{NodeInfo}
use Rattle.cu_num.specs.Dtype.{size_of}
use Rattle.cu_shape.specs.Index.{product}
use Rattle.cu_typing.specs.Joined.{aligned_chunk}
use Rattle.cu_need.specs.Chunks.{aligned_bytes, is_aligned}
use Rattle.cu_copy.specs.Copies.{is_misaligned, rechunk_need}
use Rattle.cu_need.specs.Elementwise.{are_aligned, in_aligned, function_need}
use Rattle.cu_copy.specs.declared.copies.Rechunk.{Rechunk}
use Rattle.cu_shape.specs.Counts.{largest}

own_chunk : (result i : NodeInfo) → is_aligned result i ≡ true → i.chunk ≡ aligned_chunk result.dims result.chunk i
own_chunk result i aligned = (bytes_eq-Decides i.chunk (aligned_chunk result.dims result.chunk i)).0 aligned

pub aligned_exactly : (result i : NodeInfo) → (is_misaligned (in_aligned result i) ≡ false) ↔ (i.chunk ≡ aligned_chunk result.dims result.chunk i)
aligned_exactly result i = (
  (λ none. own_chunk result i (not-false (is_aligned result i) none)),
  (λ same. ap not ((bytes_eq-Decides i.chunk (aligned_chunk result.dims result.chunk i)).1 same)),
)

own_bytes : (result i : NodeInfo) → is_aligned result i ≡ true → aligned_bytes result i ≡ chunk_bytes i
own_bytes result i aligned = ap (λ (chunk : List ℕ). product chunk * size_of i.dtype) (sym (own_chunk result i aligned))

none_misaligned : (result : NodeInfo) (is : List NodeInfo) → are_aligned result is ≡ true → filter is_misaligned (map (in_aligned result) is) ≡ []
none_misaligned result [] h = refl
none_misaligned result (i ∷ is) h =
    let both = and_parts (is_aligned result i) (are_aligned result is) h in
    rw both.0 (none_misaligned result is both.1)

own_greatest : (result : NodeInfo) (is : List NodeInfo) → are_aligned result is ≡ true → map (aligned_bytes result) is ≡ map chunk_bytes is
own_greatest result [] h = refl
own_greatest result (i ∷ is) h =
    let both = and_parts (is_aligned result i) (are_aligned result is) h in
    ap (λ (n : ℕ). n ∷ map (aligned_bytes result) is) (own_bytes result i both.0) ∙ ap (λ (ns : List ℕ). chunk_bytes i ∷ ns) (own_greatest result is both.1)

own_sum : (result : NodeInfo) (is : List NodeInfo) → are_aligned result is ≡ true → sum_by (aligned_bytes result) is ≡ sum_by chunk_bytes is
own_sum result [] h = refl
own_sum result (i ∷ is) h =
    let both = and_parts (is_aligned result i) (are_aligned result is) h in
    sum_by-cons (aligned_bytes result) i is
    ∙ ap (λ (n : ℕ). n + sum_by (aligned_bytes result) is) (own_bytes result i both.0)
    ∙ ap (λ (n : ℕ). chunk_bytes i + n) (own_sum result is both.1)
    ∙ sym (sum_by-cons chunk_bytes i is)

function_aligned : (reserved instructions : ℕ) (result : NodeInfo) (is : List NodeInfo) → are_aligned result is ≡ true
    → function_need reserved result instructions is ≡ reserved + largest (map chunk_bytes (result ∷ is)) + sum_by chunk_bytes is + chunk_bytes result + 512 * instructions
function_aligned reserved instructions result is h =
    let sizes = own_greatest result is h in
    let sum = own_sum result is h in
    let scratch : largest (chunk_bytes result ∷ map (aligned_bytes result) is) ≡ largest (map chunk_bytes (result ∷ is)) = ap (λ (ns : List ℕ). largest (chunk_bytes result ∷ ns)) sizes in
    omega (arith, scratch, sum)

-- no argument is copied, and the function needs what its own chunks do
pub aligned_need : (reserved instructions : ℕ) (result : NodeInfo) (is : List NodeInfo) → are_aligned result is ≡ true
    → max (function_need reserved result instructions is) (largest (map (rechunk_need reserved) (filter is_misaligned (map (in_aligned result) is))))
    ≡ reserved + largest (map chunk_bytes (result ∷ is)) + sum_by chunk_bytes is + chunk_bytes result + 512 * instructions
aligned_need reserved instructions result is h =
    let none : largest (map (rechunk_need reserved) (filter is_misaligned (map (in_aligned result) is))) ≡ 0 =
    ap (λ (copies : List Rechunk). largest (map (rechunk_need reserved) copies)) (none_misaligned result is h) in
    let own = function_aligned reserved instructions result is h in
    omega (arith, none, own)
