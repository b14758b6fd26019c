use Rattle.std.proofs.Common.{◌≡◌, List, ℕ, true, sym, subst}
use Rattle.cu_name.specs.Name.{is_name}
use Rattle.cu_lower.specs.Inputs.{input_array}
use Rattle.cu_lower.proofs.Collected.{one_more_made, all_made_of}
use Rattle.cu_lower.proofs.inputs.input_arrays.Goals as goal

pub input_array-requires : goal.input_array-requires
input_array-requires c = subst (λ (name : List ℕ). is_name name ≡ true) (sym c.name-item.is) (c.requires c.loop-name.name-index c.name-item.result c.loop-name-test.true)

pub loop-name-preserved : goal.loop-name-preserved
loop-name-preserved c =
    one_more_made (input_array c.args.inputs.now) c.args.names.now c.loop-name.name-index c.name-item.result c.input_array.result c.loop-name.arrays.items c.push.new.self.items
    c.loop-name-test.true c.name-item.is c.input_array.ensures c.in_ok-push.ensures.items c.loop-name.invariant

pub returns : goal.returns
returns c = all_made_of (input_array c.args.inputs.now) c.args.names.now c.loop-name.name-index c.loop-name.arrays.items c.loop-name-test.false c.loop-name.invariant
