use Rattle.std.proofs.Common.{◌≡◌, ◌∙◌, ◌*◌, ◌++◌, ◌∷◌, [], ap, arith, rules}
use Rattle.std.proofs.lemmas.Int.{to_z-of_z}
use Rattle.std.specs.Int.{w128}
use Rattle.std.specs.Prelude.{FitsSigned}
use Rattle.cu_demo.proofs.Elements.{demo_front, one_more, whole}
use Rattle.cu_demo.proofs.input.demo_elements.Goals as goal

pub loop-place-preserved : goal.loop-place-preserved
loop-place-preserved c =
    let small : FitsSigned w128 c.demo_element-element.result = search rules in
    let more : c.push.new.self.items ≡ c.loop-place.elements.items ++ c.demo_element-element.result ∷ [] = rw (to_z-of_z w128 c.demo_element-element.result small) at c.in-Ok.ensures.items in
    one_more c.args.input c.args.size c.loop-place.place c.loop-place.elements.items _ c.demo_element-element.result c.loop-place.invariant c.demo_element-element.ensures more

pub returns : goal.returns
returns c =
    let at : c.loop-place.place ≡ c.args.size * c.args.size = omega (arith, c.loop-place-test.false) in
    c.loop-place.invariant ∙ ap (demo_front c.args.input c.args.size) at ∙ whole c.args.input c.args.size
