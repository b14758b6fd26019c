use Rattle.std.proofs.Common.{ap, ◌∙◌, ◌||◌, bytes_eq}
use Rattle.std.specs.HashSet.{contains_text}
use Rattle.cu_dir.proofs.KeysLemmas.{inserted}
use Rattle.cu_dir.proofs.keys.add_made.Goals as goal
use Rattle.cu_dir.proofs.keys.add_made.Goals.{in-Ok, in-Err}

pub returns : goal.returns
returns c = elim c.match-insert.branch [
  | in-Ok w ↦ rw w.result-is (λ key. rw c.if-not-spec.false
      (inserted c.args.made.now c.insert.new.self c.in_ok-text.text w.in-Ok.ensures.updates key
      ∙ ap (λ t. contains_text c.args.made.now key || bytes_eq t key) (c.in_ok-text.ensures.ok ∙ c.text.ensures.text)))
  | in-Err w ↦ rw w.result-is tt
]
