use Rattle.std.proofs.Common.{◌≡◌, drop, max}
use Rattle.cu_tree.specs.Outlines.{outline_bytes}
use Rattle.cu_tree.proofs.outline.outline_bytes.Given as goal

abbrev pub invariant-loop-one : goal.invariant-loop-one
invariant-loop-one l = max l.most (outline_bytes (drop l.one-index l.outline)) ≡ outline_bytes l.outline
