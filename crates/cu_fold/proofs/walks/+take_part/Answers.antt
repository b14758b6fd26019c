use Rattle.std.proofs.Common.{rules, ◌≡◌, ◌≤◌, ◌+◌, ◌-◌, ◌*◌, ◌/◌, List, [], ◌∷◌, min, length, take, drop, refl, sym, ap, ◌∙◌, subst, arith}
use Rattle.std.proofs.lemmas.List.Edits.{length-between}
use borrow.Rule.Slice.PartMut.{put_mid}
use Rattle.cu_num.specs.Dtype.{size_of}
use Rattle.cu_take.proofs.Buffers.{length-put_mid}
use Rattle.cu_fold.specs.declared.levels.Level.{Level}
use Rattle.cu_fold.specs.Levels.{extent, results, result_step}
use Rattle.cu_fold.specs.Taken.{TakesPart}
use Rattle.cu_fold.proofs.PartTaken.{no_level, next_part, old_inside, new_inside, new_outside, inner_is, at_index, IsWithin, within_fits, within_follows, later_fits, within_later, later_is, all_reached, in_room}
use Rattle.cu_fold.proofs.walks.+take_part.Goals as goal

no_levels : (levels : List Level) → length levels ≡ 0 → levels ≡ []
no_levels [] h = refl
no_levels (l ∷ ls) h = absurd (omega arith)

pub returns-in_default : goal.returns-in_default
returns-in_default t c =
    let e = c.in_default.ensures.cases in
    let none : c.args.levels.now ≡ [] = no_levels c.args.levels.now e in
    let one : c.args.places.start + c.args.places.count ≤ 1 = subst (λ ls. c.args.places.start + c.args.places.count ≤ extent ls) none (subst (λ n. c.args.places.start + c.args.places.count ≤ n) c.requires.whole c.requires.places) in
    subst (λ ls. TakesPart c.args.fold ls c.args.places c.args.input.now c.args.out.now c.take_one.new.out) (sym none)
    (no_level c.args.fold c.args.places c.args.input.now c.args.out.now c.take_one.new.out (let some = c.if-places-eq0.false in omega (arith, some)) one c.take_one.ensures.takes)

pub nonzero_div-last : goal.nonzero_div-last
nonzero_div-last t c =
    let e = c.in-Some.ensures.cases in
    (inner_is c.args.places c.in-Some.level.now c.in-Some.rest.now c.args.levels.now c.args.whole e.0 c.requires.whole c.requires.places c.if-places-eq0.false).1

pub overflow_step-i : goal.overflow_step-i
overflow_step-i t c =
    let e = c.in-Some.ensures.cases in
    (inner_is c.args.places c.in-Some.level.now c.in-Some.rest.now c.args.levels.now c.args.whole e.0 c.requires.whole c.requires.places c.if-places-eq0.false).1

pub places_within-own-requires-clause-begun : goal.places_within-own-requires-clause-begun
places_within-own-requires-clause-begun t c =
    let e = c.in-Some.ensures.cases in
    let level = c.in-Some.level.now in
    let rest = c.in-Some.rest.now in
    let at = at_index c.args.places level rest c.args.levels.now c.args.whole c.loop-i.i e.0 c.requires.whole c.requires.places c.if-places-eq0.false c.loop-i.auto.i c.loop-i-test.true in
    at.begun

pub later-after-requires : goal.later-after-requires
later-after-requires t c =
    let e = c.in-Some.ensures.cases in
    let level = c.in-Some.level.now in
    let rest = c.in-Some.rest.now in
    let at = at_index c.args.places level rest c.args.levels.now c.args.whole c.loop-i.i e.0 c.requires.whole c.requires.places c.if-places-eq0.false c.loop-i.auto.i c.loop-i-test.true in
    later_fits c.args.places (c.loop-i.i * (c.args.whole / level.size)) c.saturating_sub.result (size_of c.args.fold.from) c.size-size.result (length c.args.input.now) at.reached c.saturating_sub.ensures c.size-size.ensures c.requires.input

pub overflow_mul-part : goal.overflow_mul-part
overflow_mul-part t c =
    let e = c.in-Some.ensures.cases in
    let level = c.in-Some.level.now in
    let rest = c.in-Some.rest.now in
    let at = at_index c.args.places level rest c.args.levels.now c.args.whole c.loop-i.i e.0 c.requires.whole c.requires.places c.if-places-eq0.false c.loop-i.auto.i c.loop-i-test.true in
    let room = in_room level rest c.args.levels.now (size_of c.args.fold.acc) (length c.args.out.now) c.loop-i.i c.room_of-room.result.size c.room_of-room.result.step e.0 c.requires.out at.below c.room_of-room.ensures.size c.room_of-room.ensures.step in
    let fits = room.fits in
    omega (arith, fits)

pub overflow_mul-part-in-loop-i : goal.overflow_mul-part-in-loop-i
overflow_mul-part-in-loop-i t c =
    let e = c.in-Some.ensures.cases in
    let level = c.in-Some.level.now in
    let rest = c.in-Some.rest.now in
    let at = at_index c.args.places level rest c.args.levels.now c.args.whole c.loop-i.i e.0 c.requires.whole c.requires.places c.if-places-eq0.false c.loop-i.auto.i c.loop-i-test.true in
    let room = in_room level rest c.args.levels.now (size_of c.args.fold.acc) (length c.args.out.now) c.loop-i.i c.room_of-room.result.size c.room_of-room.result.step e.0 c.requires.out at.below c.room_of-room.ensures.size c.room_of-room.ensures.step in
    let fits = room.fits in
    omega (arith, fits)

pub overflow_add-part : goal.overflow_add-part
overflow_add-part t c =
    let e = c.in-Some.ensures.cases in
    let level = c.in-Some.level.now in
    let rest = c.in-Some.rest.now in
    let at = at_index c.args.places level rest c.args.levels.now c.args.whole c.loop-i.i e.0 c.requires.whole c.requires.places c.if-places-eq0.false c.loop-i.auto.i c.loop-i-test.true in
    let room = in_room level rest c.args.levels.now (size_of c.args.fold.acc) (length c.args.out.now) c.loop-i.i c.room_of-room.result.size c.room_of-room.result.step e.0 c.requires.out at.below c.room_of-room.ensures.size c.room_of-room.ensures.step in
    let fits = room.fits in
    omega (arith, fits)

pub slice_bounds-part-end : goal.slice_bounds-part-end
slice_bounds-part-end t c =
    let e = c.in-Some.ensures.cases in
    let level = c.in-Some.level.now in
    let rest = c.in-Some.rest.now in
    let at = at_index c.args.places level rest c.args.levels.now c.args.whole c.loop-i.i e.0 c.requires.whole c.requires.places c.if-places-eq0.false c.loop-i.auto.i c.loop-i-test.true in
    let room = in_room level rest c.args.levels.now (size_of c.args.fold.acc) (length c.args.out.now) c.loop-i.i c.room_of-room.result.size c.room_of-room.result.step e.0 c.requires.out at.below c.room_of-room.ensures.size c.room_of-room.ensures.step in
    let fits = room.fits in
    omega (arith, fits)

pub take_part-requires : goal.take_part-requires
take_part-requires t c =
    let e = c.in-Some.ensures.cases in
    let level = c.in-Some.level.now in
    let rest = c.in-Some.rest.now in
    let at = at_index c.args.places level rest c.args.levels.now c.args.whole c.loop-i.i e.0 c.requires.whole c.requires.places c.if-places-eq0.false c.loop-i.auto.i c.loop-i-test.true in
    let room = in_room level rest c.args.levels.now (size_of c.args.fold.acc) (length c.args.out.now) c.loop-i.i c.room_of-room.result.size c.room_of-room.result.step e.0 c.requires.out at.below c.room_of-room.ensures.size c.room_of-room.ensures.step in
    let inner = c.args.whole / level.size in
    let own = c.places_within-own.result in
    let within : IsWithin c.args.places own inner (c.loop-i.i * inner) = record { start = c.places_within-own.ensures.start; count = c.places_within-own.ensures.count } in
    let fits = room.fits in
    let step = c.loop-i.i * c.room_of-room.result.step in
    let long = length-between c.loop-i.out step (step + c.room_of-room.result.size) (omega (arith, fits)) in
    let size : step + c.room_of-room.result.size - step ≡ c.room_of-room.result.size = omega arith in (
      search rules,
      (
        c.requires.types,
        (
          at.is,
          (
            within_fits c.args.places own inner (c.loop-i.i * inner) within at.begun,
            (
              within_later c.args.places own inner (c.loop-i.i * inner) c.saturating_sub.result (size_of c.args.fold.from) c.size-size.result c.args.input.now c.later-after.result.now within at.reached
                  c.saturating_sub.ensures c.size-size.ensures c.requires.input c.later-after.ensures,
              long ∙ size ∙ room.wide,
            ),
          ),
        ),
      ),
    )

pub loop-i-preserved : goal.loop-i-preserved
loop-i-preserved t c =
    let e = c.in-Some.ensures.cases in
    let level = c.in-Some.level.now in
    let rest = c.in-Some.rest.now in
    let at = at_index c.args.places level rest c.args.levels.now c.args.whole c.loop-i.i e.0 c.requires.whole c.requires.places c.if-places-eq0.false c.loop-i.auto.i c.loop-i-test.true in
    let room = in_room level rest c.args.levels.now (size_of c.args.fold.acc) (length c.args.out.now) c.loop-i.i c.room_of-room.result.size c.room_of-room.result.step e.0 c.requires.out at.below c.room_of-room.ensures.size c.room_of-room.ensures.step in
    let inner = c.args.whole / level.size in
    let own = c.places_within-own.result in
    let within : IsWithin c.args.places own inner (c.loop-i.i * inner) = record { start = c.places_within-own.ensures.start; count = c.places_within-own.ensures.count } in
    let fold = c.args.fold in
    let i = c.loop-i.i in
    let a = i * c.room_of-room.result.step in
    let m = a + c.room_of-room.result.size - a in
    let mid = c.loop-i.out in
    let part = c.take_part.new.out in
    let new = put_mid a m mid part in
    let fits = room.fits in
    let inside : a + m ≤ length mid = omega (arith, fits) in
    let long : length part ≡ m = c.take_part.auto.out ∙ length-between mid a (a + c.room_of-room.result.size) (omega (arith, fits)) in
    let first : a ≡ i * result_step level rest * size_of fold.acc = ap (λ k. i * k) room.apart ∙ (let turn : i * (result_step level rest * size_of fold.acc) ≡ i * result_step level rest * size_of fold.acc = omega arith in turn) in
    let wide : m ≡ results rest * size_of fold.acc = (let s : m ≡ c.room_of-room.result.size = omega arith in s) ∙ room.wide in
    let done = min c.args.places.count (i * inner - c.args.places.start) in
    let follows = within_follows c.args.places own inner (i * inner) within at.begun at.reached in
    let next : min c.args.places.count ((i + 1) * inner - c.args.places.start) ≡ done + own.count =
    (let turn : (i + 1) * inner ≡ i * inner + inner = omega arith in ap (λ k. min c.args.places.count (k - c.args.places.start)) turn) ∙ follows.2 in
    let taken : TakesPart fold (level ∷ rest) (record { start = c.args.places.start; count = done }) c.args.input.now c.args.out.now mid =
    subst (λ ls. TakesPart fold ls (record { start = c.args.places.start; count = done }) c.args.input.now c.args.out.now mid) e.0 c.loop-i.invariant.taken in
    record {
      same_length = length-put_mid a m mid part long inside ∙ c.loop-i.invariant.same_length;
      taken = subst (λ n. TakesPart fold c.args.levels.now (record { start = c.args.places.start; count = n }) c.args.input.now c.args.out.now new) (sym next)
          (subst (λ ls. TakesPart fold ls (record { start = c.args.places.start; count = done + own.count }) c.args.input.now c.args.out.now new) (sym e.0)
          (next_part fold level rest c.args.places own i done c.args.input.now c.later-after.result.now c.args.out.now mid new (take m (drop a mid)) part
          (subst (λ n. own.start + own.count ≤ n) at.is (within_fits c.args.places own inner (i * inner) within at.begun))
          (follows.0 ∙ ap (λ n. i * n + own.start) at.is)
          follows.1
          (later_is c.args.places (i * inner) c.saturating_sub.result (size_of fold.from) c.size-size.result c.args.input.now c.later-after.result.now at.reached c.saturating_sub.ensures c.size-size.ensures c.later-after.ensures)
          (λ q k s less. (old_inside fold.acc mid (i * result_step level rest) (results rest) a m q k first wide s less, new_inside fold.acc mid part (i * result_step level rest) (results rest) a m q k first wide long inside s less))
          (λ q other. new_outside fold.acc mid part (i * result_step level rest) (results rest) a m q first wide long inside other)
          taken c.take_part.ensures));
    }

pub returns : goal.returns
returns t c =
    let e = c.in-Some.ensures.cases in
    subst (λ n. TakesPart c.args.fold c.args.levels.now (record { start = c.args.places.start; count = n }) c.args.input.now c.args.out.now c.loop-i.out)
    (all_reached c.args.places c.in-Some.level.now c.in-Some.rest.now c.args.levels.now c.args.whole c.loop-i.i e.0 c.requires.whole c.requires.places c.if-places-eq0.false c.loop-i-test.false)
    c.loop-i.invariant.taken
