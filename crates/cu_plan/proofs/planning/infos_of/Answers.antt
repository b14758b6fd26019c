use Rattle.std.proofs.Common.{◌∙◌, ◌++◌, ◌∷◌, [], ap, sym, subst, List, All, rules}
use Rattle.cu_node.specs.Info.{IsInfo}
use Rattle.cu_node.specs.declared.info.NodeInfo.{NodeInfo}
use Rattle.cu_plan.proofs.Taken.{taken, kept_more}
use Rattle.cu_plan.proofs.planning.infos_of.Goals as goal

pub loop-k-preserved : goal.loop-k-preserved
loop-k-preserved c = record {
  copied = c.in-Ok.ensures.items ∙ ap (λ (is : List NodeInfo). is ++ c.at.result.now ∷ []) c.loop-k.invariant.copied ∙ taken c.args.types.now c.loop-k.k c.at.result.now (search rules) c.at.ensures.value;
  kept = subst (All IsInfo) (sym c.in-Ok.ensures.items) (kept_more c.loop-k.infos.items c.at.result.now c.loop-k.invariant.kept c.at.ensures.kept);
}
