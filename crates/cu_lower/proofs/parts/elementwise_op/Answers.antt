use Rattle.std.proofs.Common.{◌≡◌, ◌++◌, List, map, ap, ◌∙◌}
use Rattle.cu_op.specs.declared.kernel.Instr.{Instr}
use Rattle.cu_op.specs.Kind.Map.{map_of}
use Rattle.cu_expr.specs.Kernel.{loads_from, function_of}
use Rattle.cu_expr.specs.Typing.{argument_of}
use Rattle.cu_lower.specs.Parts.{instructions_of}
use Rattle.cu_lower.proofs.parts.elementwise_op.Goals as goal

pub returns : goal.returns
returns c =
    let told = map (argument_of c.args.infos.now) c.args.args.now in
    let last = ap (function_of c.args.op) c.shared_type.ensures in
    let code : c.push_function.new.code.items ≡ instructions_of c.args.op told =
    c.push_function.ensures.code ∙ ap (λ (xs : List Instr). xs ++ function_of c.args.op c.shared_type.result) (c.loads-code.ensures.code c.args.infos.now) ∙ ap (λ (is : List Instr). loads_from 0 told ++ is) last in
    c.map_of.ensures ∙ ap (λ (xs : List Instr). map_of xs c.args.ins.items c.args.out) code
