use Rattle.std.proofs.Common.{ap, ◌∙◌, ◌||◌, bytes_eq}
use Rattle.std.specs.HashSet.{contains_text}
use Rattle.cu_work.proofs.AskedKeys.{inserted}
use Rattle.cu_work.proofs.choosing.add_key.Goals as goal
use Rattle.cu_work.proofs.choosing.add_key.Goals.{in-Ok, in-Err}

pub returns : goal.returns
returns c = elim c.match-insert.branch [
  | in-Ok w ↦ rw w.result-is (λ other.
      inserted c.args.known.now c.insert.new.self c.in_ok-text.text w.in-Ok.ensures.updates other
      ∙ ap (λ t. contains_text c.args.known.now other || bytes_eq t other) (c.in_ok-text.ensures.ok ∙ c.text.ensures.text))
  | in-Err w ↦ rw w.result-is tt
]
