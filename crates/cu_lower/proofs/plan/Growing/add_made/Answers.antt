use Rattle.std.proofs.Common.{◌≡◌, ◌<◌, ◌≤◌, ◌+◌, ◌^◌, List, ℕ, length, sym, ap, subst, ◌∙◌, arith}
use Rattle.cu_form.specs.Expression.{Expression}
use Rattle.cu_lower.specs.Inputs.{input_names}
use Rattle.cu_lower.specs.declared.options.Options.{Options}
use Rattle.cu_lower_reduce.specs.Steps.{all_made}
use Rattle.cu_form.specs.declared.form.Form.{Form}
use Rattle.cu_node.specs.Info.{info_at}
use Rattle.cu_node.specs.declared.info.NodeInfo.{NodeInfo}
use Rattle.cu_lower_reduce.specs.declared.step.Step.{Step}
use Rattle.cu_lower.specs.Parts.{Grown, IsGrown, Make, source_places, steps_of}
use Rattle.cu_lower.proofs.Growing.{make_some, steps_long, steps_ops, steps_growing}
use Rattle.cu_lower.proofs.plan.Growing.add_made.Goals as goal

-- the steps make the node's array, by other names of its number, of the places and of what they read
made_again : (e : Expression) (infos : List NodeInfo) (options : Options) (f : Form) (places others : List ℕ) (k node first : ℕ) (read : List ℕ) (ss : List Step)
    → ((ps : List ℕ) (first : ℕ) → first < 2 ^ 30 → Make (info_at infos k) (steps_of infos options k f (source_places e ps f) first)) → first < 2 ^ 30 → node ≡ k → others ≡ places → read ≡ source_places e others f
    → ss ≡ steps_of infos options node f read first → Make (info_at infos k) ss
made_again e infos options f places others k node first read ss make small number same reads steps =
    subst (λ (xs : List Step). Make (info_at infos k) xs)
    (sym (steps ∙ ap (λ n. steps_of infos options n f read first) number ∙ ap (λ ins. steps_of infos options k f ins first) (reads ∙ ap (λ ps. source_places e ps f) same))) (make places first small)

-- the number of the first array is small
small_first : (e : Expression) (g : Grown) (first given : ℕ) → given ≡ length (input_names e) → given ≤ 256 → length g.places ≤ 256 → IsGrown e g → first ≡ length g.arrays → first < 2 ^ 30
small_first e g first given same inputs nodes known is =
    let arrays = known.growing.few in
    let ops = known.few in
    omega (arith, same, inputs, nodes, arrays, ops, is)

made : (c : goal.After-add_steps-arg-1) → Make (info_at c.args.infos.now (length c.args.self.now.places)) c.in_ok-steps.steps.items
made c =
    made_again c.args.expr.now c.args.infos.now c.args.options.now c.args.form.now c.args.self.now.places c.deref.result.now (length c.args.self.now.places) c.len-node.result c.len-first.result
    c.source_places-sources.result.items c.in_ok-steps.steps.items c.requires.steps
    (small_first c.args.expr.now c.args.self.now c.len-first.result (length c.args.names.now) (ap length c.requires.names) c.requires.inputs c.requires.nodes c.requires.grown
    (c.len-first.ensures ∙ c.self.inside.arrays.ok.0 ∙ ap (λ (g : Grown). length g.arrays) c.self.view_is))
    (c.len-node.ensures ∙ c.self.inside.places.ok.0 ∙ ap (λ (g : Grown). length g.places) c.self.view_is)
    (c.deref.ensures.value ∙ ap (λ (g : Grown). g.places) c.self.view_is) (c.source_places-sources.ensures c.args.expr.now c.requires.names) c.in_ok-steps.ensures

pub add_steps-requires-clause-few : goal.add_steps-requires-clause-few
add_steps-requires-clause-few c =
    let few = (made c).few in
    let known = c.requires.grown.few in
    let nodes = c.requires.nodes in
    omega (arith, few, known, nodes)

pub add_steps-requires-clause-grids : goal.add_steps-requires-clause-grids
add_steps-requires-clause-grids c = (made c).grids

-- the arrays behind the steps
new_arrays : (c : goal.After-len) → (c.len.result ≡ length c.args.self.now.arrays + length (all_made c.in_ok-steps.steps.items)) × Make (info_at c.args.infos.now (length c.args.self.now.places)) c.in_ok-steps.steps.items
new_arrays c =
    let len = c.len.ensures ∙ c.self-2.inside.arrays.ok.0 in
    let view = ap (λ (g : Grown). length g.arrays) c.self-2.view_is in
    let new = ap (λ (g : Grown). length g.arrays) c.in_ok-add_steps.ensures in
    let long = steps_long c.args.expr.now c.args.self.now c.in_ok-steps.steps.items in
    let make = made_again c.args.expr.now c.args.infos.now c.args.options.now c.args.form.now c.args.self.now.places c.deref.result.now (length c.args.self.now.places) c.len-node.result c.len-first.result
    c.source_places-sources.result.items c.in_ok-steps.steps.items c.requires.steps
    (small_first c.args.expr.now c.args.self.now c.len-first.result (length c.args.names.now) (ap length c.requires.names) c.requires.inputs c.requires.nodes c.requires.grown
    (c.len-first.ensures ∙ c.self.inside.arrays.ok.0 ∙ ap (λ (g : Grown). length g.arrays) c.self.view_is))
    (c.len-node.ensures ∙ c.self.inside.places.ok.0 ∙ ap (λ (g : Grown). length g.places) c.self.view_is)
    (c.deref.ensures.value ∙ ap (λ (g : Grown). g.places) c.self.view_is) (c.source_places-sources.ensures c.args.expr.now c.requires.names) c.in_ok-steps.ensures in
    (omega (arith, len, view, new, long), make)

pub overflow_sub-place : goal.overflow_sub-place
overflow_sub-place c =
    let n = new_arrays c in
    let new = n.0 in
    let some = make_some (info_at c.args.infos.now (length c.args.self.now.places)) c.in_ok-steps.steps.items n.1 in
    omega (arith, new, some)

pub overflow_cast-place : goal.overflow_cast-place
overflow_cast-place c =
    let n = new_arrays c in
    let new = n.0 in
    let more = n.1.few in
    let given = ap length c.requires.names in
    let inputs = c.requires.inputs in
    let nodes = c.requires.nodes in
    let few = c.requires.grown.few in
    let ops = steps_ops c.args.expr.now c.args.self.now c.in_ok-steps.steps.items in
    let long = steps_long c.args.expr.now c.args.self.now c.in_ok-steps.steps.items in
    let grown = (steps_growing c.args.expr.now c.args.self.now c.in_ok-steps.steps.items c.requires.grown.growing).few in
    omega (arith, new, more, given, inputs, nodes, few, ops, long, grown)
