use Rattle.std.proofs.Common.{◌≡◌, nat_lt, drop}
use Rattle.std.specs.Prelude.{find}
use Rattle.cu_need.specs.Live.{live_behind, live_nodes}
use Rattle.cu_need.specs.Need.{need_of}
use Rattle.cu_need.proofs.need.first_over.Given as goal

-- what is left decides
abbrev pub invariant-loop-k : goal.invariant-loop-k
invariant-loop-k l =
    find (λ numbered. nat_lt l.allowed (need_of l.reserved l.split_every l.infos l.expr.out numbered.0 numbered.1.form)) (live_behind l.expr l.k (drop l.k l.nodes))
    ≡ find (λ numbered. nat_lt l.allowed (need_of l.reserved l.split_every l.infos l.expr.out numbered.0 numbered.1.form)) (live_nodes l.expr)
