use Rattle.std.proofs.Common.{[], ◌∷◌, length, ap, ◌∙◌, arith, rules}
use Rattle.cu_box.proofs.StridedLoops.{start_of, can_there, copied_there, none_copied, all_copied, can_of, some_of, first_of, copied_of, one_rest}
use Rattle.cu_box.proofs.copying.+copy_axes.Goals as goal

pub copy_plane-requires-clause-can : goal.copy_plane-requires-clause-can
copy_plane-requires-clause-can t c =
    let e = c.in-Some.ensures.cases in
    let r = one_rest c.in-Some.rest.now c.axis_at.result c.if-rest-eq1.true c.axis_at.ensures in
    can_of c.args.size c.args.axes.now c.in-Some.outer.now (c.axis_at.result ∷ []) c.args.start c.args.source.now (length c.args.target.now) (e.0 ∙ ap (λ xs. c.in-Some.outer.now ∷ xs) r) c.requires.can

pub copy_plane-requires-clause-rows : goal.copy_plane-requires-clause-rows
copy_plane-requires-clause-rows t c =
    let e = c.in-Some.ensures.cases in
    first_of c.args.axes.now c.in-Some.outer.now c.in-Some.rest.now e.0 c.requires.some

pub copy_plane-requires-clause-some : goal.copy_plane-requires-clause-some
copy_plane-requires-clause-some t c =
    let e = c.in-Some.ensures.cases in
    let r = one_rest c.in-Some.rest.now c.axis_at.result c.if-rest-eq1.true c.axis_at.ensures in
    let p = some_of c.args.axes.now c.in-Some.outer.now (c.axis_at.result ∷ []) (e.0 ∙ ap (λ xs. c.in-Some.outer.now ∷ xs) r) c.requires.some in
    omega (arith, p)

pub returns-then-rest-eq1 : goal.returns-then-rest-eq1
returns-then-rest-eq1 t c =
    let e = c.in-Some.ensures.cases in
    let r = one_rest c.in-Some.rest.now c.axis_at.result c.if-rest-eq1.true c.axis_at.ensures in
    copied_of c.args.size c.args.order c.args.axes.now c.in-Some.outer.now (c.axis_at.result ∷ []) c.args.start c.args.source.now c.args.target.now c.copy_plane.new.target
    (e.0 ∙ ap (λ xs. c.in-Some.outer.now ∷ xs) r) c.copy_plane.ensures

pub loop-number-init : goal.loop-number-init
loop-number-init t c = none_copied c.args.size c.args.order c.in-Some.outer.now c.in-Some.rest.now c.args.start c.args.source.now c.args.target.now

pub later-place-requires : goal.later-place-requires
later-place-requires t c =
    let e = c.in-Some.ensures.cases in
    start_of c.args.size c.in-Some.outer.now c.in-Some.rest.now c.args.start c.loop-number.number c.args.source.now (length c.args.target.now)
    (can_of c.args.size c.args.axes.now c.in-Some.outer.now c.in-Some.rest.now c.args.start c.args.source.now (length c.args.target.now) e.0 c.requires.can)
    (some_of c.args.axes.now c.in-Some.outer.now c.in-Some.rest.now e.0 c.requires.some) c.loop-number-test.true (omega arith) (omega arith)

pub copy_axes-requires : goal.copy_axes-requires
copy_axes-requires t c =
    let e = c.in-Some.ensures.cases in
    let l = e.1 in
    let n = c.if-rest-eq1.false in
    let two = c.requires.two in (
      search rules,
      (
        omega arith,
        (
          can_there c.args.size c.in-Some.outer.now c.in-Some.rest.now c.args.start c.loop-number.number c.args.source.now (length c.args.target.now)
              (can_of c.args.size c.args.axes.now c.in-Some.outer.now c.in-Some.rest.now c.args.start c.args.source.now (length c.args.target.now) e.0 c.requires.can)
              (some_of c.args.axes.now c.in-Some.outer.now c.in-Some.rest.now e.0 c.requires.some) c.loop-number-test.true
              c.later-place.result c.later-place.ensures (length c.loop-number.target) c.loop-number.invariant.same_length,
          some_of c.args.axes.now c.in-Some.outer.now c.in-Some.rest.now e.0 c.requires.some,
        ),
      ),
    )

pub loop-number-preserved : goal.loop-number-preserved
loop-number-preserved t c =
    let e = c.in-Some.ensures.cases in
    copied_there c.args.size c.in-Some.outer.now c.in-Some.rest.now c.args.start c.loop-number.number c.args.source.now (length c.args.target.now)
    (can_of c.args.size c.args.axes.now c.in-Some.outer.now c.in-Some.rest.now c.args.start c.args.source.now (length c.args.target.now) e.0 c.requires.can)
    (some_of c.args.axes.now c.in-Some.outer.now c.in-Some.rest.now e.0 c.requires.some) c.loop-number-test.true
    c.later-place.result c.later-place.ensures c.args.order c.args.target.now c.loop-number.target c.copy_axes.new.target c.loop-number.invariant c.copy_axes.ensures

pub returns-after-loop-number : goal.returns-after-loop-number
returns-after-loop-number t c =
    let e = c.in-Some.ensures.cases in
    copied_of c.args.size c.args.order c.args.axes.now c.in-Some.outer.now c.in-Some.rest.now c.args.start c.args.source.now c.args.target.now c.loop-number.target e.0
    (all_copied c.args.size c.args.order c.in-Some.outer.now c.in-Some.rest.now c.args.start c.loop-number.number c.args.source.now c.args.target.now c.loop-number.target (omega arith) c.loop-number.invariant)
