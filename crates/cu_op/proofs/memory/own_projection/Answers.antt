use Rattle.std.proofs.Common.{◌≡◌, ◌<◌, ◌+◌, ◌*◌, length, refl, arith}
use Rattle.cu_op.specs.Projection.{own_projection, instruction_count}
use Rattle.cu_op.proofs.Operations.{target_among}
use Rattle.cu_op.proofs.memory.own_projection.Goals as goal

-- what has been computed before the sum
whole : (c : goal.After-output_room-outputs) → c.args.reserved + c.scratch_room-scratch.result + c.input_room-inputs.result + c.output_room-outputs.result + 512 * instruction_count c.args.op.now ≡ own_projection c.args.arrays.now c.args.reserved c.args.op.now
whole c = rw (c.scratch_room-scratch.ensures, c.input_room-inputs.ensures, c.output_room-outputs.ensures) refl

pub overflow_add-result : goal.overflow_add-result
overflow_add-result c = let e = whole c in let s = c.requires.small in omega (arith, e, s)

pub overflow_add-result-2 : goal.overflow_add-result-2
overflow_add-result-2 c = let e = whole c in let s = c.requires.small in omega (arith, e, s)

pub overflow_add-result-3 : goal.overflow_add-result-3
overflow_add-result-3 c = let e = whole c in let s = c.requires.small in omega (arith, e, s)

pub overflow_add-result-4 : goal.overflow_add-result-4
overflow_add-result-4 c = let e = whole c in let s = c.requires.small in let n = c.steps.ensures.count in let f = c.from-code.ensures in omega (arith, e, s, n, f)

pub returns : goal.returns
returns c = let e = whole c in let n = c.steps.ensures.count in let f = c.from-code.ensures in omega (arith, e, n, f)

pub input_room-inputs-requires-clause-within : goal.input_room-inputs-requires-clause-within
input_room-inputs-requires-clause-within c = c.requires.reads

pub input_room-inputs-requires-clause-small : goal.input_room-inputs-requires-clause-small
input_room-inputs-requires-clause-small c = let s = c.requires.small in omega (arith, s)

pub output_room-outputs-requires-clause-reads : goal.output_room-outputs-requires-clause-reads
output_room-outputs-requires-clause-reads c = c.requires.reads

pub output_room-outputs-requires-clause-target : goal.output_room-outputs-requires-clause-target
output_room-outputs-requires-clause-target c = target_among (λ a. a < length c.args.arrays.now) c.args.op.now c.requires.writes
