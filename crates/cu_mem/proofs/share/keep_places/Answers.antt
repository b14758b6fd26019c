use Rattle.std.proofs.Common.{sym, ◌∙◌}
use Rattle.cu_mem.specs.Entries.{has_place}
use Rattle.cu_mem.proofs.Sharing.{kept_more}
use Rattle.cu_mem.proofs.share.keep_places.Goals as goal

pub loop-at-preserved : goal.loop-at-preserved
loop-at-preserved c =
    let before = c.loop-at.invariant in
    let one = c.keep_one.ensures in
    record {
      held = λ key. one.held key ∙ before.held key;
      places = λ key was. one.places key (before.places key was);
      kept = λ key made. kept_more c.args.specs.now c.loop-at.at c.index-specs-at.result key (has_place c.keep_one.new.slots.items) c.loop-at-test.true (sym c.index-specs-at.is) made
          (λ old. one.places key (before.kept key old)) c.in_ok-keep_one.ensures.kept;
      room = one.room;
    }
