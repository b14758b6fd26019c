use Rattle.std.proofs.Common.{◌≡◌, ◌<◌, ◌≤◌, ◌^◌, ◌+◌, ◌==◌, ◌||◌, get_or, refl, ap, sym, ◌∙◌, subst, arith}
use Rattle.cu_fuse.proofs.Choices.{array_within, joined_is, maker_before, maker_within, not_taken, rooms_before, small_enough, some_reads, taken_now, target_within, too_large, too_long}
use Rattle.cu_fuse.proofs.Finished.{room_at, rooms_alike, rooms_long}
use Rattle.cu_fuse.proofs.Flagged.{stored_again}
use Rattle.cu_fuse.proofs.ReadOnce.{stands_at}
use Rattle.cu_fuse.specs.Choosing.{all_stored, plan_view, IsChosenTo}
use Rattle.cu_fuse.specs.Rooms.{joined, room_fits, room_within}
use Rattle.cu_fuse.specs.declared.room.Room.{Room}
use Rattle.cu_op.specs.Arrays.{is_inlined}
use Rattle.cu_op.specs.Operation.{reads_of}
use Rattle.cu_op.specs.PlanView.{PlanView, op_of}
use Rattle.cu_fuse.proofs.choice.Choice.choose.Goals as goal

abbrev no_room : Room
no_room = record { steps = 0; reads = 0; scratch = 0; inputs = 0; output = 0 }

pub maker-requires-clause-array : goal.maker-requires-clause-array
maker-requires-clause-array c =
    let p = plan_view c.args.self.now in
    array_within p c.args.k c.args.i c.requires.chosen c.input-a.result
    (stands_at (reads_of (op_of p c.args.k)) c.args.i c.input-a.result c.input-a.ensures)

pub maker-requires-clause-makers : goal.maker-requires-clause-makers
maker-requires-clause-makers c =
    let p = plan_view c.args.self.now in
    λ m made. maker_within p c.args.k c.args.i c.requires.chosen c.input-a.result m
    (array_within p c.args.k c.args.i c.requires.chosen c.input-a.result
    (stands_at (reads_of (op_of p c.args.k)) c.args.i c.input-a.result c.input-a.ensures)) made

pub maker-requires-clause-target : goal.maker-requires-clause-target
maker-requires-clause-target c =
    target_within (plan_view c.args.self.now) c.args.k c.args.i c.requires.chosen c.requires.reader

pub returns-in_default-clause-chosen : goal.returns-in_default-clause-chosen
returns-in_default-clause-chosen c =
    not_taken (plan_view c.args.self.now) c.args.k c.args.i c.requires.chosen c.input-a.result c.input-a.ensures
    (λ may room. c.in_default.ensures.none refl may)

pub bounds-rooms-maker : goal.bounds-rooms-maker
bounds-rooms-maker c =
    let p = plan_view c.args.self.now in
    let long = rooms_long p c.args.k c.args.rooms.now c.requires.rooms in
    let before = maker_before p c.args.k c.args.i c.requires.chosen c.input-a.result c.in-Some.maker
    (stands_at (reads_of (op_of p c.args.k)) c.args.i c.input-a.result c.input-a.ensures) c.in-Some.ensures.maker in
    omega (arith, long, before)

pub joined-requires-clause-read : goal.joined-requires-clause-read
joined-requires-clause-read c =
    let p = plan_view c.args.self.now in
    subst (λ (r : Room). 0 < r.reads) (sym c.requires.room)
    (some_reads p c.args.k c.args.i c.requires.chosen c.input-a.result c.input-a.ensures c.in-Some.ensures.may)

pub returns-in_default-joined-clause-chosen : goal.returns-in_default-joined-clause-chosen
returns-in_default-joined-clause-chosen c =
    let p = plan_view c.args.self.now in
    let k = c.args.k in
    let m = c.in-Some.maker in
    let made = c.in-Some.ensures.maker in
    let before = maker_before p k c.args.i c.requires.chosen c.input-a.result m
    (stands_at (reads_of (op_of p k)) c.args.i c.input-a.result c.input-a.ensures) made in
    let inner = room_at p k m c.args.rooms.now no_room c.requires.rooms before in
    let same : joined c.args.room (get_or c.args.rooms.now m no_room) ≡ joined (room_within p k) (room_within p m) =
    (λ t. joined (c.requires.room t) (inner t)) in
    let far = subst (λ (r : Room). 2 ^ 64 ≤ r.inputs) same (c.in_default-joined.ensures.none refl) in
    not_taken p k c.args.i c.requires.chosen c.input-a.result c.input-a.ensures
    (λ may room. too_long p k c.args.i c.requires.chosen c.input-a.result c.input-a.ensures may m made far room)

pub returns-then-not-fits-clause-chosen : goal.returns-then-not-fits-clause-chosen
returns-then-not-fits-clause-chosen c =
    let p = plan_view c.args.self.now in
    let k = c.args.k in
    let m = c.in-Some.maker in
    let made = c.in-Some.ensures.maker in
    let before = maker_before p k c.args.i c.requires.chosen c.input-a.result m
    (stands_at (reads_of (op_of p k)) c.args.i c.input-a.result c.input-a.ensures) made in
    let inner = room_at p k m c.args.rooms.now no_room c.requires.rooms before in
    let same : c.in-Some-joined.both ≡ joined (room_within p k) (room_within p m) =
    c.in-Some-joined.ensures.room ∙ (λ t. joined (c.requires.room t) (inner t)) in
    let off = ap (room_fits p.allowed p.reserved) (sym same) ∙ sym c.fits.ensures ∙ c.if-not-fits.true in
    not_taken p k c.args.i c.requires.chosen c.input-a.result c.input-a.ensures
    (λ may room. too_large p k c.args.i c.requires.chosen c.input-a.result c.input-a.ensures may m made off room)

pub returns-clause-chosen : goal.returns-clause-chosen
returns-clause-chosen c =
    let p = plan_view c.args.self.now in
    let k = c.args.k in
    let m = c.in-Some.maker in
    let made = c.in-Some.ensures.maker in
    let may = c.in-Some.ensures.may in
    let before = maker_before p k c.args.i c.requires.chosen c.input-a.result m
    (stands_at (reads_of (op_of p k)) c.args.i c.input-a.result c.input-a.ensures) made in
    let inner = room_at p k m c.args.rooms.now no_room c.requires.rooms before in
    let same : c.in-Some-joined.both ≡ joined (room_within p k) (room_within p m) =
    c.in-Some-joined.ensures.room ∙ (λ t. joined (c.requires.room t) (inner t)) in
    let on = ap (room_fits p.allowed p.reserved) (sym same) ∙ sym c.fits.ensures ∙ c.if-not-fits.false in
    subst (λ (q : PlanView). IsChosenTo q k (c.args.i + 1)) (sym c.inline_array.ensures)
    (taken_now p k c.args.i c.requires.chosen c.input-a.result c.input-a.ensures may
    (small_enough p k c.args.i c.requires.chosen c.input-a.result c.input-a.ensures may m made on))

pub returns-clause-plan : goal.returns-clause-plan
returns-clause-plan c =
    let p = plan_view c.args.self.now in
    ap all_stored c.inline_array.ensures ∙ stored_again p (λ b. b == c.input-a.result || is_inlined p.arrays b)

pub returns-clause-room : goal.returns-clause-room
returns-clause-room c =
    let p = plan_view c.args.self.now in
    let k = c.args.k in
    let m = c.in-Some.maker in
    let made = c.in-Some.ensures.maker in
    let may = c.in-Some.ensures.may in
    let before = maker_before p k c.args.i c.requires.chosen c.input-a.result m
    (stands_at (reads_of (op_of p k)) c.args.i c.input-a.result c.input-a.ensures) made in
    let inner = room_at p k m c.args.rooms.now no_room c.requires.rooms before in
    let same : c.in-Some-joined.both ≡ joined (room_within p k) (room_within p m) =
    c.in-Some-joined.ensures.room ∙ (λ t. joined (c.requires.room t) (inner t)) in
    same ∙ sym (joined_is p k c.args.i c.requires.chosen c.input-a.result c.input-a.ensures may m made)
    ∙ ap (λ (q : PlanView). room_within q k) (sym c.inline_array.ensures)

pub returns-clause-rooms : goal.returns-clause-rooms
returns-clause-rooms c =
    let p = plan_view c.args.self.now in
    let k = c.args.k in
    c.requires.rooms
    ∙ rooms_alike p (plan_view c.inline_array.new.self) k (λ j l.
    ap (λ (q : PlanView). room_within q j) c.inline_array.ensures
    ∙ rooms_before p k c.args.i c.requires.chosen c.input-a.result c.input-a.ensures c.in-Some.ensures.may j l)
