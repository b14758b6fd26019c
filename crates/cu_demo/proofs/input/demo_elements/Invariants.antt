use Rattle.std.proofs.Common.{◌≡◌}
use Rattle.cu_demo.proofs.Elements.{demo_front}
use Rattle.cu_demo.proofs.input.demo_elements.Given as goal

-- the elements before the place
abbrev pub invariant-loop-place : goal.invariant-loop-place
invariant-loop-place l = l.elements.items ≡ demo_front l.input l.size l.place
