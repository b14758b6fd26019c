use Rattle.std.proofs.Common.{◌≡◌, ◌+◌, ◌-◌, ◌*◌, ℕ, length, take, drop, sym, ap, ◌∙◌, subst, arith}
use Rattle.std.specs.Prelude.{reverse}
use borrow.Rule.Slice.PartMut.{put_mid}
use Rattle.cu_box.specs.Order.{part_at}
use Rattle.cu_box.proofs.Swapped.{row_fits_in}
use Rattle.cu_box.proofs.Swapped.{SwappedTo, swapped_none, swapped_more, swapped_all}
use Rattle.cu_box.proofs.order.reverse_each.Goals as goal

pub loop-at-init : goal.loop-at-init
loop-at-init c = swapped_none c.args.size c.args.bytes.now

pub loop-at-preserved : goal.loop-at-preserved
loop-at-preserved c =
    let width : c.loop-at.at * c.args.size + c.args.size - c.loop-at.at * c.args.size ≡ c.args.size = omega arith in
    let fits = row_fits_in c.loop-at.at (length c.args.bytes.now) c.args.size c.loop-at-test.true in
    let is : c.reverse.new.self ≡ reverse (part_at c.args.size c.loop-at.bytes c.loop-at.at) =
    c.reverse.ensures.after ∙ ap (λ n. reverse (take n (drop (c.loop-at.at * c.args.size) c.loop-at.bytes))) width in
    subst (λ (n : ℕ). SwappedTo c.args.size (c.loop-at.at + 1) c.args.bytes.now (put_mid (c.loop-at.at * c.args.size) n c.loop-at.bytes c.reverse.new.self)) (sym width)
    (swapped_more c.args.size c.loop-at.at c.args.bytes.now c.loop-at.bytes c.reverse.new.self c.loop-at.invariant fits is)

pub returns : goal.returns
returns c = swapped_all c.args.size c.loop-at.at c.args.bytes.now c.loop-at.bytes c.requires.size (omega arith) c.loop-at.invariant
