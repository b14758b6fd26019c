use Rattle.std.proofs.Common.{◌≡◌, ◌≤◌, ◌+◌, ◌-◌, ◌*◌, [], ◌∷◌, length, take, drop, refl, sym, ap, ◌∙◌, subst, arith}
use Rattle.std.proofs.lemmas.List.Edits.{length-between}
use borrow.Rule.Slice.PartMut.{put_mid}
use Rattle.cu_num.specs.Dtype.{size_of}
use Rattle.cu_fold.specs.Levels.{extent, results, result_step}
use Rattle.cu_fold.specs.Taken.{TakesPart}
use Rattle.cu_fold.proofs.PartTaken.{index_below, in_room, no_part, old_inside, new_inside, new_outside}
use Rattle.cu_fold.proofs.Wholes.{index_part}
use Rattle.cu_fold.proofs.walks.take_index.Goals as goal

pub returns-then-places-eq0 : goal.returns-then-places-eq0
returns-then-places-eq0 c =
    let places = c.args.places in
    let none : 0 ≡ places.count = sym c.if-places-eq0.true in
    let levels = c.args.level ∷ c.args.inner ∷ [] in
    subst (λ n. TakesPart c.args.fold levels (record { start = c.args.i * c.args.inner.size + places.start; count = n }) c.args.input.now c.args.out.now c.args.out.now) none
    (no_part c.args.fold levels (c.args.i * c.args.inner.size + places.start) c.args.input.now c.args.out.now)

pub room_of-room-requires : goal.room_of-room-requires
room_of-room-requires c =
    let some = c.if-places-eq0.false in
    let below = index_below c.args.i c.args.level.size c.args.inner.size (let all = c.requires.index in omega (arith, some, all)) in
    omega (arith, below)

pub overflow_mul-part : goal.overflow_mul-part
overflow_mul-part c =
    let some = c.if-places-eq0.false in
    let below = index_below c.args.i c.args.level.size c.args.inner.size (let all = c.requires.index in omega (arith, some, all)) in
    let rest = c.args.inner ∷ [] in
    let room = in_room c.args.level rest (c.args.level ∷ rest) (size_of c.args.fold.acc) (length c.args.out.now) c.args.i c.room_of-room.result.size c.room_of-room.result.step refl c.requires.out below c.room_of-room.ensures.size c.room_of-room.ensures.step in
    let fits = room.fits in
    omega (arith, fits)

pub overflow_mul-part-2 : goal.overflow_mul-part-2
overflow_mul-part-2 c =
    let some = c.if-places-eq0.false in
    let below = index_below c.args.i c.args.level.size c.args.inner.size (let all = c.requires.index in omega (arith, some, all)) in
    let rest = c.args.inner ∷ [] in
    let room = in_room c.args.level rest (c.args.level ∷ rest) (size_of c.args.fold.acc) (length c.args.out.now) c.args.i c.room_of-room.result.size c.room_of-room.result.step refl c.requires.out below c.room_of-room.ensures.size c.room_of-room.ensures.step in
    let fits = room.fits in
    omega (arith, fits)

pub overflow_add-part : goal.overflow_add-part
overflow_add-part c =
    let some = c.if-places-eq0.false in
    let below = index_below c.args.i c.args.level.size c.args.inner.size (let all = c.requires.index in omega (arith, some, all)) in
    let rest = c.args.inner ∷ [] in
    let room = in_room c.args.level rest (c.args.level ∷ rest) (size_of c.args.fold.acc) (length c.args.out.now) c.args.i c.room_of-room.result.size c.room_of-room.result.step refl c.requires.out below c.room_of-room.ensures.size c.room_of-room.ensures.step in
    let fits = room.fits in
    omega (arith, fits)

pub slice_bounds-part-end : goal.slice_bounds-part-end
slice_bounds-part-end c =
    let some = c.if-places-eq0.false in
    let below = index_below c.args.i c.args.level.size c.args.inner.size (let all = c.requires.index in omega (arith, some, all)) in
    let rest = c.args.inner ∷ [] in
    let room = in_room c.args.level rest (c.args.level ∷ rest) (size_of c.args.fold.acc) (length c.args.out.now) c.args.i c.room_of-room.result.size c.room_of-room.result.step refl c.requires.out below c.room_of-room.ensures.size c.room_of-room.ensures.step in
    let fits = room.fits in
    omega (arith, fits)

pub take_level-requires-clause-out : goal.take_level-requires-clause-out
take_level-requires-clause-out c =
    let some = c.if-places-eq0.false in
    let below = index_below c.args.i c.args.level.size c.args.inner.size (let all = c.requires.index in omega (arith, some, all)) in
    let rest = c.args.inner ∷ [] in
    let room = in_room c.args.level rest (c.args.level ∷ rest) (size_of c.args.fold.acc) (length c.args.out.now) c.args.i c.room_of-room.result.size c.room_of-room.result.step refl c.requires.out below c.room_of-room.ensures.size c.room_of-room.ensures.step in
    let fits = room.fits in
    let step = c.args.i * c.room_of-room.result.step in
    let long = length-between c.args.out.now step (step + c.room_of-room.result.size) (omega (arith, fits)) in
    let size : step + c.room_of-room.result.size - step ≡ c.room_of-room.result.size = omega arith in
    long ∙ size ∙ room.wide

pub returns : goal.returns
returns c =
    let fold = c.args.fold in
    let level = c.args.level in
    let rest = c.args.inner ∷ [] in
    let i = c.args.i in
    let old = c.args.out.now in
    let some = c.if-places-eq0.false in
    let below = index_below i level.size c.args.inner.size (let all = c.requires.index in omega (arith, some, all)) in
    let room = in_room level rest (level ∷ rest) (size_of fold.acc) (length old) i c.room_of-room.result.size c.room_of-room.result.step refl c.requires.out below c.room_of-room.ensures.size c.room_of-room.ensures.step in
    let fits = room.fits in
    let a = i * c.room_of-room.result.step in
    let m = a + c.room_of-room.result.size - a in
    let part = c.take_level.new.out in
    let new = put_mid a m old part in
    let inside : a + m ≤ length old = omega (arith, fits) in
    let long : length part ≡ m = c.take_level.auto.out ∙ length-between old a (a + c.room_of-room.result.size) (omega (arith, fits)) in
    let turn : i * (result_step level rest * size_of fold.acc) ≡ i * result_step level rest * size_of fold.acc = omega arith in
    let first : a ≡ i * result_step level rest * size_of fold.acc = ap (λ k. i * k) room.apart ∙ turn in
    let size : m ≡ c.room_of-room.result.size = omega arith in
    let wide : m ≡ results rest * size_of fold.acc = size ∙ room.wide in
    let one : extent rest ≡ c.args.inner.size = omega arith in
    subst (λ n. TakesPart fold (level ∷ rest) (record { start = i * n + c.args.places.start; count = c.args.places.count }) c.args.input.now old new) one
    (index_part fold level rest c.args.places i c.args.input.now old new (take m (drop a old)) part (let fit = c.requires.places in omega (arith, fit))
    (λ q k s less. (old_inside fold.acc old (i * result_step level rest) (results rest) a m q k first wide s less, new_inside fold.acc old part (i * result_step level rest) (results rest) a m q k first wide long inside s less))
    (λ q other. new_outside fold.acc old part (i * result_step level rest) (results rest) a m q first wide long inside other)
    c.take_level.ensures)
