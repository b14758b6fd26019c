use Rattle.std.proofs.Common.{◌≡◌, ◌-◌, ◌≤◌, ℕ, ℤ, true, List, length, ap, ◌∙◌, subst, rules, if◌then◌else◌}
use mir.Syntax.{w64}
use mir.Val.{SFits}
use Rattle.std.proofs.lemmas.Int.{to_z-of_z}
use Rattle.cu_origin.specs.Pull.{is_in_triangle}
use Rattle.cu_origin.specs.declared.pull.Pull.{Pull}
use Rattle.cu_view.specs.Pieces.{HasAxes, IsShown}
use Rattle.cu_view.proofs.Corners.{corner_shown}
use Rattle.cu_view.proofs.touching.is_shown_in.Goals as goal

pub returns-in-Triangle-clause-some : goal.returns-in-Triangle-clause-some
returns-in-Triangle-clause-some c = λ idx w s.
    let t : is_in_triangle c.in-Triangle.lower c.in-Triangle.k idx ≡ true = subst (λ (p : Pull). IsShown p idx) c.in-Triangle.is s in
    let l : 2 ≤ length c.args.shared.now.lo = subst (λ (p : Pull). HasAxes p (length c.args.shared.now.lo)) c.in-Triangle.is c.requires.axes in
    let fits : SFits w64 c.in-Triangle.k = search rules in
    c.is_in_triangle.ensures ∙ ap (λ (z : ℤ). is_in_triangle c.in-Triangle.lower z c.corner_of.result) (to_z-of_z w64 c.in-Triangle.k fits)
    ∙ ap (λ (x : List ℕ). is_in_triangle c.in-Triangle.lower c.in-Triangle.k x) c.corner_of.ensures.value
    ∙ corner_shown c.in-Triangle.lower c.in-Triangle.k c.args.shared.now.lo c.args.shared.now.hi idx c.furthest_axis-axis.result
    (c.furthest_axis-axis.ensures ∙ ap (λ (n : ℕ). if c.in-Triangle.lower then n - 2 else n - 1) c.rank.ensures.rank) c.requires.some w l t
