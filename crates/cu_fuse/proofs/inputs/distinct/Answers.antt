use Rattle.std.proofs.Common.{◌≡◌, ◌++◌, [], ◌∷◌, List, ℕ, length, get_or, ap, sym, ◌∙◌, arith, length-append}
use Rattle.cu_op.specs.Numbers.{stands_in}
use Rattle.cu_fuse.proofs.Distinct.{distinct_more_again, distinct_more_new}
use Rattle.cu_fuse.proofs.inputs.distinct.Goals as goal
use Rattle.cu_fuse.proofs.inputs.distinct.Goals.{then-not-stands_in, else-not-stands_in}

pub loop-number-preserved : goal.loop-number-preserved
loop-number-preserved c =
    let xs = c.args.numbers.now in
    let n = c.loop-number.number-index in
    let items = c.loop-number.list.items in
    let x = get_or xs n 0 in
    let so_far = c.loop-number.invariant.so_far in
    let few = c.loop-number.invariant.few in
    let test : c.stands_in.result ≡ stands_in items x =
    c.stands_in.ensures ∙ ap (λ (l : List ℕ). stands_in l x) c.as_slice.ensures.value in
    elim c.if-not-stands_in.branch [
      | then-not-stands_in w ↦
          let made : c.if-not-stands_in.list.items ≡ items ++ x ∷ [] =
          ap (λ v. v.items) w.list-is ∙ w.push.ensures.items in
          let long = ap length made in
          let one = length-append items (x ∷ []) in
          record {
            so_far = made
                ∙ distinct_more_new xs n items c.loop-number-test.true so_far
                (sym test ∙ w.if-not-stands_in.true);
            few = omega (arith, long, one, few);
          }
      | else-not-stands_in w ↦
          let made : c.if-not-stands_in.list.items ≡ items = ap (λ v. v.items) w.list-is in
          let long = ap length made in
          record {
            so_far = made
                ∙ distinct_more_again xs n items c.loop-number-test.true so_far
                (sym test ∙ w.if-not-stands_in.false);
            few = omega (arith, long, few);
          }
    ]
