use Rattle.std.proofs.Common.{◌≡◌, ℕ, ap, ◌∙◌, arith}
use Rattle.std.proofs.lemmas.List.{length-append}
use Rattle.std.specs.Int.{div_ceil}
use Rattle.cu_tree.specs.Rounds.{axis_rounds}
use Rattle.cu_tree.proofs.Falls.{halves, round_pushed, round_fits, rounds_done}
use Rattle.cu_tree.proofs.tree.push_rounds.Goals as goal

pub push-requires : goal.push-requires
push-requires c =
    let l = length-append c.args.rounds.now.items (axis_rounds c.args.split_every c.args.axis c.args.count c.args.count) in
    (omega arith, round_fits c.args.split_every c.args.axis c.loop-from.from _ c.loop-from.rounds.items c.requires.groups c.loop-from-test.true c.loop-from.invariant.whole (omega (arith, c.requires.room)))

pub loop-from-smaller : goal.loop-from-smaller
loop-from-smaller c = let h = halves c.loop-from.from c.args.split_every c.requires.groups in let e : c.div_ceil-to.result ≡ div_ceil c.loop-from.from c.args.split_every = c.div_ceil-to.ensures ∙ ap (λ (g : ℕ). div_ceil c.loop-from.from g) c.from.ensures in omega arith

pub loop-from-preserved : goal.loop-from-preserved
loop-from-preserved c = record {
  whole = round_pushed c.args.split_every c.args.axis c.loop-from.from c.div_ceil-to.result _ c.loop-from.rounds.items c.push.new.self.items c.requires.groups c.loop-from-test.true (c.div_ceil-to.ensures ∙ ap (λ (g : ℕ). div_ceil c.loop-from.from g) c.from.ensures) c.push.ensures.items c.loop-from.invariant.whole;
}

pub returns : goal.returns
returns c = rounds_done c.args.split_every c.args.axis c.loop-from.from _ c.loop-from.rounds.items c.loop-from-test.false c.loop-from.invariant.whole
