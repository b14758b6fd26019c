use Rattle.std.proofs.Common.{◌≡◌, Some, None, refl, sym, subst, arith}
use Rattle.cu_table.specs.Own.{running_of}
use Rattle.cu_table.specs.Table.{TableView, start_event}
use Rattle.cu_table.proofs.Own.{none_free}
use Rattle.test_rows.proofs.Turning.{after_entry}
use Rattle.test_rows.proofs.claims.Turns.claim.Goals as goal

pub claim-claim-requires : goal.claim-claim-requires
claim-claim-requires c =
    none_free c.self.inside.table.state.copies c.args.worker
    (subst (λ (t : TableView). running_of t.state.copies c.args.worker ≡ None) (sym c.self.view_is) c.in-None.ensures)

pub invariant_of-self : goal.invariant_of-self
invariant_of-self c =
    let t = c.self.inside.table in
    let within = c.if-place-len.false in
    let long = c.len.ensures in
    after_entry t c.claim-claim.new.self c.self.inside.running.items c.self.invariant (start_event t.settings.plan c.args.worker c.in-Run.op c.in-Run.task) c.in-Run.ensures.answer.0 c.claim-claim.ensures.legal
    (Some (record { op = c.in-Run.op; task = c.in-Run.task })) refl (omega (arith, within, long))
