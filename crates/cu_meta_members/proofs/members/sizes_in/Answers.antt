use Rattle.std.proofs.Common.{◌∙◌, arith}
use Rattle.serde_json.specs.View.{view}
use Rattle.cu_meta_members.proofs.Counted.{few_enough, too_many}
use Rattle.cu_meta_members.proofs.members.sizes_in.Goals as goal

pub returns-then-len-gt-MOST_AXES : goal.returns-then-len-gt-MOST_AXES
returns-then-len-gt-MOST_AXES c = too_many (view c.args.value.now) c.in-Some.items.now.items c.in-Some.ensures (omega arith)

pub returns : goal.returns
returns c = c.naturals.ensures ∙ few_enough (view c.args.value.now) c.in-Some.items.now.items c.in-Some.ensures (omega arith)
