use Rattle.std.proofs.Common.{◌≡◌, ℕ, ◌+◌, ◌-◌, ◌*◌, arith, ap, ◌∙◌}
use Rattle.cu_box.proofs.rows.place_on.Goals as goal

down : (first next j d : ℕ) → first ≡ next + d → first - j * d ≡ first + j * next - j * first
down first next j d e = let p : j * first ≡ j * next + j * d = ap (λ n. j * n) e ∙ omega arith in omega arith

pub returns-else-spacing : goal.returns-else-spacing
returns-else-spacing c = down c.args.spacing.now.first c.args.spacing.now.next c.args.row (c.args.spacing.now.first - c.args.spacing.now.next) (omega arith)
