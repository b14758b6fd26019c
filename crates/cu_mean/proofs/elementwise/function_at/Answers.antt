use Rattle.std.proofs.Common.{map, sym, ap, ◌∙◌, arith}
use Rattle.std.specs.Int.{w128}
use Rattle.std.proofs.lemmas.Int.{to_z-of_z}
use Rattle.cu_form.specs.declared.args.Arg.{Arg}
use Rattle.cu_semantics.specs.Rule.{function_value}
use Rattle.cu_typing.specs.Types.{typed_elements}
use Rattle.cu_expr.specs.Typing.{argument_of}
use Rattle.cu_mean.specs.Elementwise.{argument_in}
use Rattle.cu_mean.proofs.Arities.{arity, other_arity, one_listed, two_listed, three_listed}
use Rattle.cu_mean.proofs.elementwise.function_at.Goals as goal

pub one-requires-clause-typed : goal.one-requires-clause-typed
one-requires-clause-typed c =
    let args = one_listed c.args.args.now (Arg.Node 0) c.in-One-len1.len_at_least c.in-One-len1.len_below in
    (λ i. typed_elements (sym c.in-One-len1.is-0 i) (map (argument_of c.args.scope.now.infos.now) (sym args i))) ∙ c.requires.typed

pub two-requires-clause-typed : goal.two-requires-clause-typed
two-requires-clause-typed c =
    let args = two_listed c.args.args.now (Arg.Node 0) c.in-Two-len2.len_at_least c.in-Two-len2.len_below in
    (λ i. typed_elements (sym c.in-Two-len2.is-0 i) (map (argument_of c.args.scope.now.infos.now) (sym args i))) ∙ c.requires.typed

pub returns-in-One-len1 : goal.returns-in-One-len1
returns-in-One-len1 c =
    let args = one_listed c.args.args.now (Arg.Node 0) c.in-One-len1.len_at_least c.in-One-len1.len_below in
    to_z-of_z w128 c.one.result (record { sfits = c.one.type_inv })
    ∙ c.one.ensures
    ∙ (λ i. function_value (sym c.in-One-len1.is-0 i) c.args.t (map (argument_in c.args.scope.now) (sym args i)))

pub returns-in-Two-len2 : goal.returns-in-Two-len2
returns-in-Two-len2 c =
    let args = two_listed c.args.args.now (Arg.Node 0) c.in-Two-len2.len_at_least c.in-Two-len2.len_below in
    to_z-of_z w128 c.two.result (record { sfits = c.two.type_inv })
    ∙ c.two.ensures
    ∙ (λ i. function_value (sym c.in-Two-len2.is-0 i) c.args.t (map (argument_in c.args.scope.now) (sym args i)))

pub returns-in-Where-len3 : goal.returns-in-Where-len3
returns-in-Where-len3 c =
    let args = three_listed c.args.args.now (Arg.Node 0) c.in-Where-len3.len_at_least c.in-Where-len3.len_below in
    to_z-of_z w128 c.selected.result (record { sfits = c.selected.type_inv })
    ∙ c.selected.ensures
    ∙ (λ i. function_value (sym c.in-Where-len3.is-0 i) c.args.t (map (argument_in c.args.scope.now) (sym args i)))

pub returns-in_default : goal.returns-in_default
returns-in_default c = other_arity c.args.op c.args.t (argument_in c.args.scope.now) c.args.args.now (λ e. omega (arith, ap arity c.in_default.is-0))

pub returns-in_default-2 : goal.returns-in_default-2
returns-in_default-2 c = other_arity c.args.op c.args.t (argument_in c.args.scope.now) c.args.args.now (λ e. omega (arith, ap arity c.in_default.is-0))

pub returns-in_default-3 : goal.returns-in_default-3
returns-in_default-3 c = other_arity c.args.op c.args.t (argument_in c.args.scope.now) c.args.args.now (λ e. omega (arith, ap arity c.in_default.is-0))

pub returns-in_default-4 : goal.returns-in_default-4
returns-in_default-4 c = other_arity c.args.op c.args.t (argument_in c.args.scope.now) c.args.args.now (λ e. omega (arith, ap arity c.in_default.is-0))

pub returns-in_default-5 : goal.returns-in_default-5
returns-in_default-5 c = other_arity c.args.op c.args.t (argument_in c.args.scope.now) c.args.args.now (λ e. omega (arith, ap arity c.in_default.is-0))

pub returns-in_default-6 : goal.returns-in_default-6
returns-in_default-6 c = other_arity c.args.op c.args.t (argument_in c.args.scope.now) c.args.args.now (λ e. omega (arith, ap arity c.in_default.is-0))

pub returns-in_default-7 : goal.returns-in_default-7
returns-in_default-7 c = other_arity c.args.op c.args.t (argument_in c.args.scope.now) c.args.args.now (λ e. omega (arith, ap arity c.in_default.is-0))

pub returns-in_default-8 : goal.returns-in_default-8
returns-in_default-8 c = other_arity c.args.op c.args.t (argument_in c.args.scope.now) c.args.args.now (λ e. omega (arith, ap arity c.in_default.is-0))
