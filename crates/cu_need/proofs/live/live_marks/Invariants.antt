use Rattle.std.proofs.Common.{◌≡◌, ℕ, false, length, get_or, drop}
use Rattle.cu_need.specs.Live.{is_live_from}
use Rattle.cu_need.proofs.live.live_marks.Given as goal

-- the marks are those of the nodes from k on
abbrev pub invariant-loop-k : goal.invariant-loop-k
invariant-loop-k l = record {
  all : length l.marks ≡ 256;
  done : (j : ℕ) → get_or l.marks j false ≡ is_live_from l.expr.out l.k (drop l.k l.nodes) j;
}
