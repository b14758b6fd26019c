use Rattle.std.proofs.Common.{◌≤◌, length, refl, sym, ap, ◌∙◌, subst, arith}
use Rattle.cu_check.proofs.Compared.{like_node, as_node}
use Rattle.cu_check.proofs.metadata.check_output.Goals as goal

pub at-requires : goal.at-requires
at-requires c =
    let count = c.typing_law.ensures.count c.args.job.now.inputs.items c.args.job.now.expr c.args.job.now.types c.requires in
    omega (arith, count, c.out.ensures.out, c.out.ensures.form.out)

pub count_elements-count-requires : goal.count_elements-count-requires
count_elements-count-requires c =
    let same = ap length c.nodes.ensures.nodes in
    record {
      nodes = same ∙ sym (c.typing_law.ensures.count c.args.job.now.inputs.items c.args.job.now.expr c.args.job.now.types c.requires);
      few = omega (arith, same, c.nodes.ensures.form.few);
    }

pub returns-then-not-is_of_node : goal.returns-then-not-is_of_node
returns-then-not-is_of_node c = record {
  node = tt;
  few = tt;
  refused = (
    refl,
    refl,
    λ like.
        let same = c.is_of_node.ensures.1 (as_node c.args.job.now c.args.output.now c.out.result c.at.result.now c.out.ensures.out c.at.ensures.value like) in
        cc (same, c.if-not-is_of_node.true),
  );
}

pub returns-then-count-gt-MOST_ELEMENTS : goal.returns-then-count-gt-MOST_ELEMENTS
returns-then-count-gt-MOST_ELEMENTS c =
    let like = like_node c.args.job.now c.args.output.now c.out.result c.at.result.now c.out.ensures.out c.at.ensures.value (c.is_of_node.ensures.0 c.if-not-is_of_node.false) in
    record { node = tt; few = tt; refused = (refl, like, c.count_elements-count.ensures, c.if-count-gt-MOST_ELEMENTS.true) }

pub returns : goal.returns
returns c = record {
  node = like_node c.args.job.now c.args.output.now c.out.result c.at.result.now c.out.ensures.out c.at.ensures.value (c.is_of_node.ensures.0 c.if-not-is_of_node.false);
  few = subst (λ n. n ≤ 4194304) c.count_elements-count.ensures c.if-count-gt-MOST_ELEMENTS.false;
  refused = tt;
}
