use Rattle.std.proofs.Common.{◌≡◌, ◌<◌, ◌+◌, ℕ, sym, ap, ◌∙◌, subst, ⊎_elim}
use Rattle.cu_cells.specs.Layout.{Laid, cell_size, first_word, value_at}
use Rattle.cu_cells.specs.Rule.{IsIn}
use Rattle.cu_cells.proofs.cells.cell_word.Goals as goal

pub returns-clause-value : goal.returns-clause-value
returns-clause-value c =
    let told = c.load_word.ensures.read in
    let laid = c.requires.laid in
    let k = c.args.k in
    let size : k < cell_size c.args.seat.now.me.0.laid c.args.cell = subst (λ (x : Laid). k < cell_size x c.args.cell) (sym laid) c.requires.word in
    let word : c.args.first + k ≡ first_word c.args.seat.now.me.0.laid c.args.cell + k = ap (λ (x : ℕ). x + k) (c.requires.first ∙ ap (λ (x : Laid). first_word x c.args.cell) (sym laid)) in
    ⊎_elim (λ seen. told.1 c.args.cell k seen size word) (λ stored. told.2 (subst (IsIn c.args.seat.now.me.0.stored) (sym word) (stored k size))) c.requires.known
    ∙ ap (λ (x : Laid). value_at x (c.args.first + k)) laid
