use Rattle.std.proofs.Common.{◌≡◌, ℕ, suc, ◌+◌, ◌*◌, ◌%◌, ◌<◌, ◌≤◌, length, take, drop, refl, ap, sym, ◌∙◌, arith, length-append, length-drop}
use Rattle.std.proofs.Math.Nat.{mod_self, mod-eq_of_lt, mul-le-mul_right}
use Rattle.std.proofs.lemmas.List.{length-take-le}
use Rattle.cu_num.specs.Dtype.{size_of}
use Rattle.cu_num.specs.Element.{bytes_at}
use Rattle.cu_kern.proofs.Parts.{elements_fit}
use Rattle.cu_kern.proofs.Repeats.{bytes_in_part, twice_whole, repeat_more}
use Rattle.cu_kern.proofs.fills.repeat.Goals as goal
use Rattle.cu_kern.proofs.fills.repeat.Goals.{After-split_at_mut-front}

pub loop-done-init : goal.loop-done-init
loop-done-init c = record {
  begun = omega arith;
  within = c.requires.first;
  out_length = refl;
  whole = λ less. mod_self c.args.first;
  values = λ k b. ap (bytes_at c.args.t c.args.out.now) (sym (mod-eq_of_lt b));
}

-- what is there has its bytes, and what is written next
there : (c : goal.After-split_at_mut-arg-1) → c.loop-done.done * c.size-size.result ≤ length c.loop-done.out
there c = elements_fit c.args.t c.loop-done.done c.args.all c.size-size.result (length c.loop-done.out) c.size-size.ensures c.loop-done.invariant.within (c.loop-done.invariant.out_length ∙ c.requires.room)

next : (c : After-split_at_mut-front) → (c.min-count.result * c.size-size.result ≤ c.loop-done.done * c.size-size.result) × ((c.loop-done.done + c.min-count.result) * c.size-size.result ≤ length c.loop-done.out)
next c = (
  mul-le-mul_right c.size-size.result (let short : c.min-count.result ≤ c.loop-done.done = omega (arith, c.min-count.ensures) in short),
  elements_fit c.args.t (c.loop-done.done + c.min-count.result) c.args.all c.size-size.result (length c.loop-done.out) c.size-size.ensures (omega (arith, c.min-count.ensures, c.loop-done-test.true)) (c.loop-done.invariant.out_length ∙ c.requires.room),
)

pub overflow_mul-done : goal.overflow_mul-done
overflow_mul-done c = omega (arith, there c)

pub split_at_mut-front-requires : goal.split_at_mut-front-requires
split_at_mut-front-requires c = omega (arith, there c)

pub overflow_mul-count : goal.overflow_mul-count
overflow_mul-count c = omega (arith, next c)

pub overflow_mul-count-in-loop-done : goal.overflow_mul-count-in-loop-done
overflow_mul-count-in-loop-done c = omega (arith, next (goal.at.overflow_mul-count-in-loop-done c).After-split_at_mut-front)

pub slice_bounds-copy_from_slice-end : goal.slice_bounds-copy_from_slice-end
slice_bounds-copy_from_slice-end c = omega (arith, next c, c.split_at_mut-front.ensures.front_len, c.split_at_mut-front.ensures.back_len)

pub slice_bounds-copy_from_slice-end-in-loop-done-2 : goal.slice_bounds-copy_from_slice-end-in-loop-done-2
slice_bounds-copy_from_slice-end-in-loop-done-2 c = omega (arith, next (goal.at.slice_bounds-copy_from_slice-end-in-loop-done-2 c).After-split_at_mut-front, c.split_at_mut-front.ensures.front_len, c.split_at_mut-front.ensures.back_len)

pub copy_from_slice-requires : goal.copy_from_slice-requires
copy_from_slice-requires c =
    let n = c.min-count.result * c.size-size.result in
    let fits = next (goal.at.copy_from_slice-requires c).After-split_at_mut-front in
    length-take-le n c.split_at_mut-front.result.1.now (omega (arith, fits, c.split_at_mut-front.ensures.back_len)) ∙ sym (length-take-le n c.split_at_mut-front.result.0.now (omega (arith, fits, c.split_at_mut-front.ensures.front_len)))

pub loop-done-preserved : goal.loop-done-preserved
loop-done-preserved c =
    let t = c.args.t in
    let size = c.size-size.result in
    let own : size ≡ size_of t = c.size-size.ensures in
    let done = c.loop-done.done in
    let count = c.min-count.result in
    let front = c.split_at_mut-front.result.0.now in
    let back = c.split_at_mut-front.result.1.now in
    let copied = c.copy_from_slice.new.self in
    let long : length front ≡ done * size_of t = c.split_at_mut-front.ensures.front_len ∙ ap (λ s. done * s) own in
    let out : length c.loop-done.out ≡ c.args.all * size_of t = c.loop-done.invariant.out_length ∙ c.requires.room in
    let within : done + count ≤ c.args.all = omega (arith, c.min-count.ensures, c.loop-done-test.true) in
    let n : count * size ≡ count * size_of t = ap (λ s. count * s) own in
    let less : count * size_of t ≤ done * size_of t = mul-le-mul_right (size_of t) (let l : count ≤ done = omega (arith, c.min-count.ensures) in l) in
    let far : (done + count) * size_of t ≤ c.args.all * size_of t = mul-le-mul_right (size_of t) within in
    let copy : copied ≡ take (count * size) front = c.copy_from_slice.ensures.after in
    let copied_long : length copied ≡ count * size_of t = ap length copy ∙ length-take-le (count * size) front (omega (arith, n, less, long)) ∙ n in
    let whole : done % c.args.first ≡ 0 = c.loop-done.invariant.whole c.loop-done-test.true in
    let front_same : (k : ℕ) → k < done → bytes_at t front k ≡ bytes_at t c.args.out.now (k % c.args.first) = λ k b.
    let room : k * size_of t + size_of t ≤ done * size = omega (arith, mul-le-mul_right {m = suc k} (size_of t) b, ap (λ s. done * s) own) in
    ap (λ xs. bytes_at t xs k) c.split_at_mut-front.ensures.front ∙ bytes_in_part t (done * size) k c.loop-done.out room ∙ c.loop-done.invariant.values k b in
    let back_long = c.split_at_mut-front.ensures.back_len in
    record {
      begun = omega (arith, c.loop-done.invariant.begun);
      within = within;
      out_length = length-append front _ ∙ ap (λ q. length front + q) (length-append copied _ ∙ ap (λ q. length copied + q) (length-drop (count * size) back)) ∙ omega (arith, long, copied_long, back_long, n, far, out, c.loop-done.invariant.out_length, ap (λ s. done * s) own);
      whole = λ more. ap (λ q. (done + q) % c.args.first) (let all : count ≡ done = omega (arith, c.min-count.ensures, more) in all) ∙ twice_whole done c.args.first whole;
      values = λ k b. repeat_more t c.args.out.now front copied (drop (count * size) back) done count c.args.first size long copy n (omega (arith, c.min-count.ensures)) whole front_same k b;
    }
