use Rattle.std.proofs.Common.{◌≡◌, ◌||◌, ℕ, true, false, length, get_or, drop}
use Rattle.std.specs.List.{list_all, list_any}
use Rattle.cu_form.specs.Form.{is_earlier}
use Rattle.cu_need.specs.Live.{is_node}
use Rattle.cu_need.proofs.live.mark_arguments.Given as goal

-- what is left decides
abbrev pub invariant-loop-arg : goal.invariant-loop-arg
invariant-loop-arg l = record {
  all : length l.marks ≡ 256;
  earlier : list_all (is_earlier l.number) (drop l.arg-index l.args) ≡ true;
  rest : (j : ℕ) → (get_or l.marks j false || list_any (is_node j) (drop l.arg-index l.args)) ≡ (get_or l.initial.marks j false || list_any (is_node j) l.args);
}
