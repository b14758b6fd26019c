use Rattle.std.proofs.Common.{◌≡◌, ℕ, ap, ◌∙◌, arith}
use Rattle.std.specs.Int.{div_ceil}
use Rattle.cu_tree.proofs.Falls.{halves}
use Rattle.cu_tree.proofs.SumRounds.{round_pushed, round_fits, rounds_done, rounds_fit}
use Rattle.cu_tree.proofs.sums.sum_rounds.Goals as goal

pub push-requires : goal.push-requires
push-requires c =
    (omega arith, round_fits c.args.split_every c.args.axis c.loop-from.from _ c.loop-from.rounds.items c.requires.several (omega arith) c.loop-from.invariant.whole (rounds_fit c.args.split_every c.args.axis c.args.count c.requires.several c.requires.few))

pub loop-from-smaller : goal.loop-from-smaller
loop-from-smaller c =
    let h = halves c.loop-from.from c.args.split_every c.requires.several in
    let e : c.div_ceil-to.result ≡ div_ceil c.loop-from.from c.args.split_every = c.div_ceil-to.ensures ∙ ap (λ (g : ℕ). div_ceil c.loop-from.from g) c.from-in-loop-from.ensures in
    omega arith

pub loop-from-preserved : goal.loop-from-preserved
loop-from-preserved c = record {
  whole = round_pushed c.args.split_every c.args.axis c.loop-from.from c.div_ceil-to.result _ c.loop-from.rounds.items c.push.new.self.items c.requires.several (omega arith)
      (c.div_ceil-to.ensures ∙ ap (λ (g : ℕ). div_ceil c.loop-from.from g) c.from-in-loop-from.ensures) c.push.ensures.items c.loop-from.invariant.whole;
}

pub returns : goal.returns
returns c = rounds_done c.args.split_every c.args.axis c.loop-from.from _ c.loop-from.rounds.items (omega arith) c.loop-from.invariant.whole
