-- The elements of a call, written one by one and in parts.
use Rattle.std.proofs.Common.{◌≡◌, ◌≢◌, ℕ, ℤ, ◌+◌, ◌-◌, ◌*◌, ◌/◌, ◌<◌, ◌≤◌, List, length, ap, subst, ◌∙◌, arith, ⊎_elim, below_more}
use Rattle.std.proofs.Math.Nat.{mul-le-mul_right}
use Rattle.std.proofs.lemmas.Bool.{cases_lt}
use borrow.Rule.Slice.PartMut.{put_mid}
use Rattle.cu_num.specs.Dtype.{size_of}
use Rattle.cu_num.specs.Element.{element_bytes, bytes_at}
use Rattle.cu_num.specs.declared.types.Dtype.{Dtype}
use Rattle.cu_num.specs.declared.layout.Endian.TheVariants.{Little}
use Rattle.cu_num.proofs.ElementBytes.{written_at, bytes_at-written_at_same, bytes_at-written_at_other, length-written_at, length-element_bytes}
use Rattle.cu_kern.specs.declared.calls.Call.{Call}
use Rattle.cu_kern.specs.Strips.{Strip, call_type, HasPlace, HasArguments}
use Rattle.cu_kern.proofs.Parts.{bytes_below, bytes_inside}

pub has_place : (call : Call) (x y z : Strip) (room count k : ℕ) → HasArguments call x y z room → count ≡ room / size_of (call_type call) → k < count → HasPlace call x y z k
has_place call x y z room count k h e b = record {
  first = h.first.inside k (omega (arith, e, b));
  second = h.second.inside k (omega (arith, e, b));
  third = h.third.inside k (omega (arith, e, b));
}

-- a step of at most one leads no further than the place
pub step_below : (step at : ℕ) → step ≤ 1 → step * at ≤ at
step_below step at h = let far : step * at ≤ 1 * at = mul-le-mul_right at h in omega arith

-- one element more, which `save` writes at place `at`
pub saved_more : (own r : Dtype) (out new : List ℕ) (at : ℕ) (x : ℤ) (g : ℕ → ℤ) → own ≡ r → at * size_of r + size_of r ≤ length out → new ≡ written_at own out at (element_bytes Little own x) → x ≡ g at
    → ((k : ℕ) → k < at → bytes_at r out k ≡ element_bytes Little r (g k)) → (length new ≡ length out) × ((k : ℕ) → k < at + 1 → bytes_at r new k ≡ element_bytes Little r (g k))
saved_more own r out new at x g e fits is value below =
    let P : Dtype → Type 0 = λ d. new ≡ written_at d out at (element_bytes Little d x) in
    let written : new ≡ written_at r out at (element_bytes Little r x) = subst P e is in
    let long = length-element_bytes Little r x in (
      ap length written ∙ length-written_at Little r out at x fits,
      below_more (λ k. bytes_at r new k ≡ element_bytes Little r (g k)) at
          (λ k b. let apart : k ≢ at = omega arith in ap (λ all. bytes_at r all k) written ∙ bytes_at-written_at_other r out (element_bytes Little r x) at k apart long fits ∙ below k b)
          (ap (λ all. bytes_at r all at) written ∙ bytes_at-written_at_same r out (element_bytes Little r x) at long fits ∙ ap (element_bytes Little r) value),
    )

-- a part of elements of one byte more, of which element k is the value of `g` at k
pub part_more : (r : Dtype) (g : ℕ → ℤ) (out part : List ℕ) (from width n : ℕ) → size_of r ≡ 1 → length part ≡ width → from + width ≤ length out
    → ((k : ℕ) → k < from → bytes_at r out k ≡ element_bytes Little r (g k))
    → ((k : ℕ) → k * size_of r + size_of r ≤ length part → bytes_at r part k ≡ element_bytes Little r (g (from + k)))
    → (k : ℕ) → k < from + width → bytes_at r (put_mid from n out part) k ≡ element_bytes Little r (g k)
part_more r g out part from width n e long fits done more k b =
    let one : (m : ℕ) → m * size_of r ≡ m = λ m. ap (λ s. m * s) e ∙ omega arith in
    ⊎_elim
    (λ less. bytes_below r from n out part k (omega (arith, one k, e)) (omega arith) ∙ done k less)
    (λ over.
    let j = k - from in
    let sum : from + j ≡ k = omega arith in
    let room : j * size_of r + size_of r ≤ length part = omega (arith, one j, e) in
    bytes_inside r from n out part k j (omega (arith, one k, one j)) room (omega arith) ∙ more j room ∙ ap (λ q. element_bytes Little r (g q)) sum)
    (cases_lt k from)
