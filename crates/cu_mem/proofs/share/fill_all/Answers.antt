use Rattle.std.proofs.Common.{IsTrue, sym, ap, ◌∙◌, subst}
use Rattle.cu_store.specs.Yard.{is_made}
use Rattle.cu_cells.specs.Cells.{spec_key}
use Rattle.cu_cells.specs.Yard.{known_of, known_entries}
use Rattle.cu_cells.proofs.Own.{key_there}
use Rattle.cu_mem.specs.Entries.{held_in}
use Rattle.cu_mem.proofs.Sharing.{filled_more}
use Rattle.cu_mem.proofs.share.fill_all.Goals as goal

pub fill_one-requires-clause-key : goal.fill_one-requires-clause-key
fill_one-requires-clause-key c =
    ap (λ ss. spec_key ss c.loop-at.at) c.loop-at.invariant.specs ∙ key_there c.args.specs.now c.loop-at.at c.index-specs-at.result c.loop-at-test.true (sym c.index-specs-at.is)

pub fill_one-requires-clause-promised : goal.fill_one-requires-clause-promised
fill_one-requires-clause-promised c key bytes made held =
    ap (λ p. p key) c.loop-at.invariant.promise ∙ c.requires.promised key bytes (subst (λ ss. IsTrue (is_made ss key)) c.loop-at.invariant.specs made) held

pub loop-at-preserved : goal.loop-at-preserved
loop-at-preserved c =
    let before = c.loop-at.invariant in
    let one = c.in_ok-fill_one.ensures in
    record {
      own = one.own;
      specs = one.specs ∙ before.specs;
      promise = one.promise ∙ before.promise;
      filled = filled_more c.loop-at.yard.layout.specs c.args.specs.now c.loop-at.at c.index-specs-at.result (held_in c.args.slots.now) (known_of c.loop-at.pass).seen (known_of c.fill_one.new.pass).seen (known_entries c.loop-at.pass) (known_entries c.fill_one.new.pass)
          before.specs c.loop-at-test.true (sym c.index-specs-at.is) before.filled one.seen one.entries;
      faults = one.counts.0 ∙ before.faults;
      calls = one.counts.1 ∙ before.calls;
      waits = one.kept.0 ∙ before.waits;
      landed = one.kept.1 ∙ before.landed;
    }
