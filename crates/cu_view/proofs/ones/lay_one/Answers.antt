use Rattle.std.proofs.Common.{◌≡◌, ℕ, ℤ, pos, ◌+ℤ◌, List, ap, sym, ◌∙◌, arith, w64}
use Rattle.std.proofs.lemmas.Int.{to_z-of_z}
use Rattle.cu_num.specs.Element.{bytes_at}
use Rattle.cu_view_box.specs.Block.{buffer_place}
use Rattle.cu_view.proofs.Eyes.{on_diagonal, off_diagonal, none_on_diagonal}
use Rattle.cu_view.proofs.ones.lay_one.Goals as goal

pub returns-in-Some-clause-here : goal.returns-in-Some-clause-here
returns-in-Some-clause-here c = λ idx w r d.
    let k : pos c.in-Some.column ≡ pos c.args.row +ℤ c.args.k = c.in-Some.ensures.some.0 ∙ ap (λ (z : ℤ). pos c.args.row +ℤ z) (to_z-of_z w64 c.args.k c.ranges.k) in
    ap (λ (x : List ℕ). bytes_at c.args.to.now.dtype c.put_one.new.output (buffer_place c.args.to.now x))
    (on_diagonal c.args.to.now.region.lo c.args.to.now.region.hi idx c.args.row c.in-Some.column c.args.k c.requires.axes k w r d)
    ∙ c.put_one.ensures.here

pub returns-in-Some-clause-others : goal.returns-in-Some-clause-others
returns-in-Some-clause-others c = λ idx w apart.
    let k : pos c.in-Some.column ≡ pos c.args.row +ℤ c.args.k = c.in-Some.ensures.some.0 ∙ ap (λ (z : ℤ). pos c.args.row +ℤ z) (to_z-of_z w64 c.args.k c.ranges.k) in
    c.put_one.ensures.others idx w (off_diagonal c.args.to.now.region.lo idx c.args.row c.in-Some.column c.args.k c.requires.axes k apart)

pub returns-in-None-clause-here : goal.returns-in-None-clause-here
returns-in-None-clause-here c = λ idx w r d.
    absurd (none_on_diagonal c.args.to.now.region.lo c.args.to.now.region.hi idx c.args.row c.args.k c.requires.axes (λ column p q e. c.in-None.ensures.none column (let a = c.at.ensures in omega arith) (let a = c.at-2.ensures in omega arith) (e ∙ sym (ap (λ (z : ℤ). pos c.args.row +ℤ z) (to_z-of_z w64 c.args.k c.ranges.k)))) w r d)
