use Rattle.std.proofs.Common.{◌≡◌, ◌<◌, ◌+◌, ◌-◌, ◌*◌, ◌%◌, min, ℤ, ap, ◌∙◌, sym, subst, arith, length, drop, get_or, ⊎_elim}
use Rattle.std.proofs.lemmas.Bool.{cases_lt}
use Rattle.std.proofs.lemmas.Nat.{mod_below}
use Rattle.std.proofs.lemmas.List.Edits.{length-between}
use Rattle.cu_num.specs.Element.{element_at}
use Rattle.cu_num.specs.Word.{IsWord}
use Rattle.cu_num.specs.declared.layout.Endian.TheVariants.{Little}
use Rattle.cu_kern.specs.Lays.{place_read}
use borrow.Rule.Slice.PartMut.{put_mid}
use Rattle.std.specs.List.{between}
use Rattle.cu_kern.proofs.Parts.{put_mid_below, put_mid_inside, length-put_mid}
use Rattle.cu_kern.proofs.ReadPlaces.{piece_inside}
use Rattle.cu_kern.proofs.lays.load_lay.Goals as goal

pub load_piece-requires-clause-inside : goal.load_piece-requires-clause-inside
load_piece-requires-clause-inside c =
    let done = c.loop-done.done in
    let run = c.pace_of-pace.result.run in
    let count = c.min-count.result in
    let least = c.min-count.ensures in
    let same = c.loop-done.invariant.same_length in
    let low = mod_below (c.args.from + done) run c.pace_of-pace.ensures.some in
    let long : length (between done (done + count) c.loop-done.out) ≡ count = length-between c.loop-done.out done (done + count) (omega arith) ∙ omega arith in
    rw long (piece_inside c.args.lay.now c.args.dims.now (length c.args.ins.now) (c.args.from + done) run c.pace_of-pace.result.step count c.place_in-first.result
    c.requires.fits c.pace_of-pace.ensures.run (omega arith) (omega arith) (omega arith) c.place_in-first.ensures.place)

pub loop-done-preserved : goal.loop-done-preserved
loop-done-preserved c =
    let lay = c.args.lay.now in
    let ins = c.args.ins.now in
    let dims = c.args.dims.now in
    let from = c.args.from in
    let done = c.loop-done.done in
    let run = c.pace_of-pace.result.run in
    let step = c.pace_of-pace.result.step in
    let count = c.min-count.result in
    let least : count ≡ min (length c.loop-done.out - done) (run - (from + done) % run) = c.min-count.ensures in
    let same = c.loop-done.invariant.same_length in
    let low = mod_below (from + done) run c.pace_of-pace.ensures.some in
    let part : length c.load_piece.new.out ≡ count = c.load_piece.auto.out ∙ length-between c.loop-done.out done (done + count) (omega arith) ∙ omega arith in
    let long : length (put_mid done (done + count - done) c.loop-done.out c.load_piece.new.out) ≡ length c.loop-done.out = length-put_mid done (done + count - done) c.loop-done.out c.load_piece.new.out (omega arith) (omega arith) in
    record {
      within = rw long (omega arith);
      same_length = long ∙ same;
      words = λ k b. ⊎_elim
          (λ less. rw (put_mid_below done (done + count - done) c.loop-done.out c.load_piece.new.out k less (omega arith)) (c.loop-done.invariant.words k less))
          (λ more.
          let j = k - done in
          let sum : k ≡ done + j = omega arith in
          let inside : j < length c.load_piece.new.out = omega arith in
          let place : from + done + j ≡ from + k = omega arith in
          let paced = c.pace_of-pace.ensures.run (from + done) j (omega arith) (omega arith) in
          let at : c.place_in-first.result + step * j ≡ place_read lay.dims dims (from + k) = ap (λ p. p + step * j) c.place_in-first.ensures.place ∙ sym paced ∙ ap (place_read lay.dims dims) place in
          let P : ℤ → Type 0 = IsWord lay.dtype (get_or c.load_piece.new.out j 0) in
          rw (put_mid_inside done (done + count - done) c.loop-done.out c.load_piece.new.out k j sum inside (omega arith))
          (subst P (ap (element_at Little lay.dtype (drop lay.at ins)) at) (c.load_piece.ensures j inside)))
          (cases_lt k done);
    }
