use Rattle.std.proofs.Common.{ℕ, ◌-◌, ◌≤◌, List, length, take, drop, subst, arith}
use Rattle.std.proofs.lemmas.List.{length-drop, take_all}
use Rattle.cu_box.specs.Strided.{AreSameAxes}
use Rattle.cu_box.specs.declared.strides.Axis.{Axis}
use Rattle.cu_box.proofs.StridedAxes.{same_trans, copied_as}
use Rattle.cu_box.proofs.StridedNormal.{can_as, some_as, nothing_copied}
use Rattle.cu_box.proofs.copying.copy_strided.Goals as goal

same_all : (xs held new : List Axis) (first n : ℕ) → length (drop first held) ≤ n → AreSameAxes xs (drop first held) → AreSameAxes (take n (drop first held)) new → AreSameAxes xs new
same_all xs held new first n b p q = same_trans xs (drop first held) new p (subst (λ (ys : List Axis). AreSameAxes ys new) (take_all n (drop first held) b) q)

pub returns-then-is_empty : goal.returns-then-is_empty
returns-then-is_empty c = nothing_copied c.args.size c.args.order c.args.axes.now c.args.start c.args.source.now c.args.target.now (c.is_empty.ensures.none c.if-is_empty.true)

pub copy_axes-requires-clause-two : goal.copy_axes-requires-clause-two
copy_axes-requires-clause-two c =
    let two = c.join-first.ensures.two in
    let n = length-drop c.join-first.result c.join-first.new.held in
    omega (arith, two, n)

pub copy_axes-requires-clause-can : goal.copy_axes-requires-clause-can
copy_axes-requires-clause-can c =
    can_as c.args.size c.args.axes.now c.sort.new.axes c.args.start c.args.source.now (length c.args.target.now)
    (same_all c.args.axes.now c.join-first.new.held c.sort.new.axes c.join-first.result (14 - c.join-first.result) (let n = length-drop c.join-first.result c.join-first.new.held in omega (arith, n)) c.join-first.ensures.same c.sort.ensures)
    (record { sized = c.requires.size; places = c.requires.places; each = c.requires.each })

pub copy_axes-requires-clause-some : goal.copy_axes-requires-clause-some
copy_axes-requires-clause-some c =
    some_as c.args.axes.now c.sort.new.axes
    (same_all c.args.axes.now c.join-first.new.held c.sort.new.axes c.join-first.result (14 - c.join-first.result) (let n = length-drop c.join-first.result c.join-first.new.held in omega (arith, n)) c.join-first.ensures.same c.sort.ensures)
    (c.is_empty.ensures.some c.if-is_empty.false)

pub returns : goal.returns
returns c =
    copied_as c.args.size c.args.order c.args.axes.now c.sort.new.axes c.args.start c.args.source.now c.args.target.now c.copy_axes.new.target
    (same_all c.args.axes.now c.join-first.new.held c.sort.new.axes c.join-first.result (14 - c.join-first.result) (let n = length-drop c.join-first.result c.join-first.new.held in omega (arith, n)) c.join-first.ensures.same c.sort.ensures) c.copy_axes.ensures
