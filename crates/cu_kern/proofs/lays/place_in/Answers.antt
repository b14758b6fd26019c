use Rattle.std.proofs.Common.{◌≡◌, ◌≤◌, ◌+◌, ◌-◌, ◌*◌, ◌/◌, arith, ap, ◌∙◌, sym}
use Rattle.std.proofs.lemmas.List.{drop_all}
use Rattle.cu_shape.specs.Index.{product}
use Rattle.cu_kern.specs.Lays.{place_read}
use Rattle.cu_kern.proofs.ReadPlaces.{place_from, place_from-step, place_from-below, place_from-all, place_from-none, read_below}
use Rattle.cu_kern.proofs.lays.place_in.Goals as goal

pub digit_of-requires : goal.digit_of-requires
digit_of-requires c =
    let s = place_from-step c.args.shape.now c.args.dims.now (c.rank.result - c.rank-2.result) c.loop-axis.axis (c.loop-axis.axis - 1) c.args.place c.at-own.result c.at-size.result c.loop-axis.rest c.loop-axis.stride c.loop-axis.at
    c.requires.broadcasts (omega arith) (omega arith) (omega arith) (omega arith) c.at-own.ensures c.at-size.ensures c.loop-axis.invariant.left c.loop-axis.invariant.stride c.loop-axis.invariant.sum in
    s.1

pub overflow_mul-at : goal.overflow_mul-at
overflow_mul-at c =
    let s = place_from-step c.args.shape.now c.args.dims.now (c.rank.result - c.rank-2.result) c.loop-axis.axis (c.loop-axis.axis - 1) c.args.place c.at-own.result c.at-size.result c.loop-axis.rest c.loop-axis.stride c.loop-axis.at
    c.requires.broadcasts (omega arith) (omega arith) (omega arith) (omega arith) c.at-own.ensures c.at-size.ensures c.loop-axis.invariant.left c.loop-axis.invariant.stride c.loop-axis.invariant.sum in
    let b = place_from-below c.args.shape.now c.args.dims.now (c.rank.result - c.rank-2.result) (c.loop-axis.axis - 1) c.args.place c.requires.broadcasts (omega arith) (omega arith) (omega arith) in
    let times = ap (λ d. d * c.loop-axis.stride) c.digit_of.ensures in
    record { fits = omega (arith, s.0, b.0, b.1, times) }

pub overflow_add-at : goal.overflow_add-at
overflow_add-at c =
    let s = place_from-step c.args.shape.now c.args.dims.now (c.rank.result - c.rank-2.result) c.loop-axis.axis (c.loop-axis.axis - 1) c.args.place c.at-own.result c.at-size.result c.loop-axis.rest c.loop-axis.stride c.loop-axis.at
    c.requires.broadcasts (omega arith) (omega arith) (omega arith) (omega arith) c.at-own.ensures c.at-size.ensures c.loop-axis.invariant.left c.loop-axis.invariant.stride c.loop-axis.invariant.sum in
    let b = place_from-below c.args.shape.now c.args.dims.now (c.rank.result - c.rank-2.result) (c.loop-axis.axis - 1) c.args.place c.requires.broadcasts (omega arith) (omega arith) (omega arith) in
    let times = ap (λ d. d * c.loop-axis.stride) c.digit_of.ensures in
    record { fits = omega (arith, s.0, b.0, b.1, times) }

pub nonzero_div-rest : goal.nonzero_div-rest
nonzero_div-rest c =
    let s = place_from-step c.args.shape.now c.args.dims.now (c.rank.result - c.rank-2.result) c.loop-axis.axis (c.loop-axis.axis - 1) c.args.place c.at-own.result c.at-size.result c.loop-axis.rest c.loop-axis.stride c.loop-axis.at
    c.requires.broadcasts (omega arith) (omega arith) (omega arith) (omega arith) c.at-own.ensures c.at-size.ensures c.loop-axis.invariant.left c.loop-axis.invariant.stride c.loop-axis.invariant.sum in
    s.1

pub overflow_mul-stride : goal.overflow_mul-stride
overflow_mul-stride c =
    let s = place_from-step c.args.shape.now c.args.dims.now (c.rank.result - c.rank-2.result) c.loop-axis.axis (c.loop-axis.axis - 1) c.args.place c.at-own.result c.at-size.result c.loop-axis.rest c.loop-axis.stride c.loop-axis.at
    c.requires.broadcasts (omega arith) (omega arith) (omega arith) (omega arith) c.at-own.ensures c.at-size.ensures c.loop-axis.invariant.left c.loop-axis.invariant.stride c.loop-axis.invariant.sum in
    let b = place_from-below c.args.shape.now c.args.dims.now (c.rank.result - c.rank-2.result) (c.loop-axis.axis - 1) c.args.place c.requires.broadcasts (omega arith) (omega arith) (omega arith) in
    record { fits = omega (arith, s.3, b.1) }

pub loop-axis-init : goal.loop-axis-init
loop-axis-init c =
    let none = drop_all c.rank-axis.result c.args.shape.now (omega arith) in
    let rank = c.requires.broadcasts.rank in
    let last = drop_all (c.rank.result - c.rank-2.result + c.rank-axis.result) c.args.dims.now (omega arith) in
    record {
      left = sym (ap (λ d. c.args.place / product d) last ∙ omega arith);
      stride = sym (ap product none);
      sum = sym (place_from-none c.args.shape.now c.args.dims.now (c.rank.result - c.rank-2.result) c.rank-axis.result c.args.place (omega arith));
    }

pub loop-axis-preserved : goal.loop-axis-preserved
loop-axis-preserved c =
    let s = place_from-step c.args.shape.now c.args.dims.now (c.rank.result - c.rank-2.result) c.loop-axis.axis (c.loop-axis.axis - 1) c.args.place c.at-own.result c.at-size.result c.loop-axis.rest c.loop-axis.stride c.loop-axis.at
    c.requires.broadcasts (omega arith) (omega arith) (omega arith) (omega arith) c.at-own.ensures c.at-size.ensures c.loop-axis.invariant.left c.loop-axis.invariant.stride c.loop-axis.invariant.sum in
    let times = ap (λ d. d * c.loop-axis.stride) c.digit_of.ensures in
    record { left = s.2; stride = s.3; sum = omega (arith, s.0, times) }

all : (c : goal.After-loop-axis) → c.loop-axis.axis ≤ 0 → c.loop-axis.at ≡ place_read c.args.shape.now c.args.dims.now c.args.place
all c h =
    let lead = c.rank.result - c.rank-2.result in
    let none : c.loop-axis.axis ≡ 0 = omega arith in
    c.loop-axis.invariant.sum ∙ ap (λ k. place_from c.args.shape.now c.args.dims.now lead k c.args.place) none
    ∙ place_from-all c.args.shape.now c.args.dims.now lead c.args.place c.requires.broadcasts (omega arith) c.requires.within

pub returns-clause-place : goal.returns-clause-place
returns-clause-place c = all c c.loop-axis-test.false

pub returns-clause-below : goal.returns-clause-below
returns-clause-below c = rw (all c c.loop-axis-test.false) (read_below c.args.shape.now c.args.dims.now c.args.place c.requires.broadcasts c.requires.within)
