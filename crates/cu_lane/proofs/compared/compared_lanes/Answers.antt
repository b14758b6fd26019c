use Rattle.std.proofs.Common.{◌∙◌, ◌+◌, ◌%◌, ◌^◌, ◌==◌, ℕ, ap, sym, nat_lt, nat_le, w64}
use Rattle.std.specs.Prelude.{Bool as Test, not, replicate, map}
use Rattle.std.specs.Simd.Lanes.{zip2}
use Rattle.std.proofs.lemmas.Simd.{tops_compared}
use lib.Lanes.{sel_l, top}
use Rattle.cu_lane.specs.Compared.{compared}
use Rattle.cu_lane.proofs.Ordered.{chosen}
use Rattle.cu_lane.proofs.compared.compared_lanes.Goals as goal
use Rattle.cu_lane.proofs.compared.compared_lanes.Goals.{in-Equal, in-NotEqual, in-Less, in-LessEqual}

pub returns : goal.returns
returns c =
    let a = c.args.a in
    let b = c.args.b in
    let bias = c.args.bias in
    let x = zip2 (λ m n. (m + n) % 2 ^ 64) a (replicate 8 bias) in
    let y = zip2 (λ m n. (m + n) % 2 ^ 64) b (replicate 8 bias) in
    let own = λ (t : ℕ → ℕ → Test). ap (λ ms. sel_l ms (replicate 8 1) (replicate 8 0)) (tops_compared w64 t x y) ∙ chosen t 8 bias a b c.requires.first c.requires.second in
    elim c.match-order.branch [
      | in-Equal w ↦ ap (λ m. sel_l (map (top 63) m) (replicate 8 1) (replicate 8 0)) w.test-is ∙ own (λ m n. m == n) ∙ ap (λ o. zip2 (compared o bias) a b) (sym w.in-Equal.is)
      | in-NotEqual w ↦ ap (λ m. sel_l (map (top 63) m) (replicate 8 1) (replicate 8 0)) w.test-is ∙ own (λ m n. not (m == n)) ∙ ap (λ o. zip2 (compared o bias) a b) (sym w.in-NotEqual.is)
      | in-Less w ↦ ap (λ m. sel_l (map (top 63) m) (replicate 8 1) (replicate 8 0)) w.test-is ∙ own nat_lt ∙ ap (λ o. zip2 (compared o bias) a b) (sym w.in-Less.is)
      | in-LessEqual w ↦ ap (λ m. sel_l (map (top 63) m) (replicate 8 1) (replicate 8 0)) w.test-is ∙ own nat_le ∙ ap (λ o. zip2 (compared o bias) a b) (sym w.in-LessEqual.is)
    ]
