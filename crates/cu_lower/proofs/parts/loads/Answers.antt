use Rattle.std.proofs.Common.{◌≡◌, ◌+◌, ◌++◌, ◌∷◌, Bool, List, ℕ, [], length, map, drop, get_or, refl, sym, ap, ◌∙◌, arith}
use Rattle.std.specs.Prelude.{if◌then◌else◌}
use Rattle.std.proofs.lemmas.List.{length_push}
use Rattle.cu_op.specs.declared.kernel.Instr.{Instr}
use Rattle.cu_form.specs.declared.args.Arg.{Arg}
use Rattle.cu_expr.specs.Kernel.{loads_from}
use Rattle.cu_expr.specs.Typing.{argument_of}
use Rattle.cu_lower.proofs.Codes.{code_more, code_end}
use Rattle.cu_lower.proofs.parts.loads.Goals as goal
use Rattle.cu_lower.proofs.parts.loads.Goals.{then-is_array, else-is_array}

pub loop-arg-preserved : goal.loop-arg-preserved
loop-arg-preserved c =
    let args : List Arg = c.args.args.now in
    let k = c.loop-arg.arg-index in
    let code : List Instr = c.loop-arg.code.items in
    let i = c.load_of.result in
    let a : Arg = get_or c.args.args.now c.loop-arg.arg-index (Arg.Node 0) in
    let known = c.loop-arg.invariant.so_far in
    let more = length_push code i in
    let size = ap length c.push.ensures.items in
    let long = c.loop-arg.invariant.long in
    let few = c.loop-arg.invariant.few in
    elim c.if-is_array.branch [
      | then-is_array w ↦
          let next : c.if-is_array.arrays ≡ (if c.is_array.result then c.loop-arg.arrays + 1 else c.loop-arg.arrays) = w.arrays-is ∙ sym (ap (λ (b : Bool). if b then c.loop-arg.arrays + 1 else c.loop-arg.arrays) w.if-is_array.true) in
          let count = w.arrays-is in
          record {
            so_far = λ infos.
                ap (λ (xs : List Instr). xs ++ loads_from c.if-is_array.arrays (map (argument_of infos) (drop (k + 1) args))) c.push.ensures.items
                ∙ ap (λ (n : ℕ). (code ++ i ∷ []) ++ loads_from n (map (argument_of infos) (drop (k + 1) args))) (next ∙ ap (λ (b : Bool). if b then c.loop-arg.arrays + 1 else c.loop-arg.arrays) c.is_array.ensures)
                ∙ code_more infos args k code (loads_from 0 (map (argument_of infos) args)) c.loop-arg.arrays c.loop-arg-test.true (known infos) a i refl (c.load_of.ensures infos);
            long = omega (arith, size, more, long);
            few = omega (arith, count, few);
          }
      | else-is_array w ↦
          let next : c.if-is_array.arrays ≡ (if c.is_array.result then c.loop-arg.arrays + 1 else c.loop-arg.arrays) = w.arrays-is ∙ sym (ap (λ (b : Bool). if b then c.loop-arg.arrays + 1 else c.loop-arg.arrays) w.if-is_array.false) in
          let count = w.arrays-is in
          record {
            so_far = λ infos.
                ap (λ (xs : List Instr). xs ++ loads_from c.if-is_array.arrays (map (argument_of infos) (drop (k + 1) args))) c.push.ensures.items
                ∙ ap (λ (n : ℕ). (code ++ i ∷ []) ++ loads_from n (map (argument_of infos) (drop (k + 1) args))) (next ∙ ap (λ (b : Bool). if b then c.loop-arg.arrays + 1 else c.loop-arg.arrays) c.is_array.ensures)
                ∙ code_more infos args k code (loads_from 0 (map (argument_of infos) args)) c.loop-arg.arrays c.loop-arg-test.true (known infos) a i refl (c.load_of.ensures infos);
            long = omega (arith, size, more, long);
            few = omega (arith, count, few);
          }
    ]

pub returns-clause-code : goal.returns-clause-code
returns-clause-code c = λ infos. code_end infos c.args.args.now c.loop-arg.arg-index c.loop-arg.code.items (loads_from 0 (map (argument_of infos) c.args.args.now)) c.loop-arg.arrays c.loop-arg-test.false (c.loop-arg.invariant.so_far infos)
