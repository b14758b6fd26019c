use Rattle.std.proofs.Common.{refl}
use Rattle.cu_board.proofs.Tables.{DoneLaw, claim_grown}
use Rattle.cu_board.proofs.States.{claim_keeps, sees_claimed, sees_more, joined_seen, halted_cause, on_run, not_run, yard_of}
use Rattle.cu_board.proofs.turns.claim_in.Goals as goal

pub claim-claim-requires : goal.claim-claim-requires
claim-claim-requires g c =
    let t = c.args.state.now.table in
    c.own_law.ensures.rests t.settings t.done t.history t.state c.args.number c.requires.legal c.requires.resting

pub returns-in-Run-clause-claimed : goal.returns-in-Run-clause-claimed
returns-in-Run-clause-claimed g c = c.claim-claim.ensures.answer

pub returns-in_default-clause-claimed : goal.returns-in_default-clause-claimed
returns-in_default-clause-claimed g c = c.claim-claim.ensures.answer

pub returns-in-Run-clause-grown : goal.returns-in-Run-clause-grown
returns-in-Run-clause-grown g c =
    let t = c.args.state.now.table in
    claim_grown c.args.number t c.claim-claim.result c.claim-claim.new.self c.claim-claim.ensures.answer
    (λ h. (c.ended_law.ensures.halt t.settings t.done t.history t.state c.requires.legal).0 h)

pub returns-in-Run-clause-kept : goal.returns-in-Run-clause-kept
returns-in-Run-clause-kept g c = λ made first owned state.
    let laws = g.Y.Yard.laws in
    let knows = g.Y.Yard.knows in
    let t = c.args.state.now.table in
    let u = c.claim-claim.new.self in
    let r = c.claim-claim.result in
    let p = c.args.state.now.pass in
    let claims = c.claim-claim.ensures.answer in
    let law : DoneLaw t u = λ e goes op task is d. (c.step_law.ensures.done t.settings t.done t.history t.state u.state e op task c.requires.legal goes.step is).0 d in
    let more = joined_seen (knows p) (knows c.args.pass.now) (knows c.split-copy.result) (knows c.join.new.pass) c.join.ensures.joined c.split-copy.ensures.second in (
      claim_keeps knows g.Y.Yard.owns made first c.args.number t p r u c.split-copy.new.pass state claims law c.claim-claim.ensures.legal c.split-copy.ensures.first
          (yard_of g.Y.Yard.serves knows g.Y.Yard.owns g.Y.Yard.together laws c.args.yard.now first c.split-copy.new.pass owned c.split-copy.ensures.own.0),
      (
        on_run r (sees_more u.settings.plan u.state (knows p) (knows c.join.new.pass) more (sees_claimed c.args.number t r u (knows p) claims law state.seen)),
        halted_cause c.args.number t r u (knows p) (knows c.join.new.pass) state.cause claims
            (laws.same p c.join.new.pass (laws.one_yard c.args.yard.now p c.join.new.pass c.requires.own.0 c.join.ensures.own)),
      ),
    )

pub returns-in_default-clause-grown : goal.returns-in_default-clause-grown
returns-in_default-clause-grown g c =
    let t = c.args.state.now.table in
    claim_grown c.args.number t c.claim-claim.result c.claim-claim.new.self c.claim-claim.ensures.answer
    (λ h. (c.ended_law.ensures.halt t.settings t.done t.history t.state c.requires.legal).0 h)

pub returns-in_default-clause-kept : goal.returns-in_default-clause-kept
returns-in_default-clause-kept g c = λ made first owned state.
    let laws = g.Y.Yard.laws in
    let knows = g.Y.Yard.knows in
    let t = c.args.state.now.table in
    let u = c.claim-claim.new.self in
    let r = c.claim-claim.result in
    let p = c.args.state.now.pass in
    let claims = c.claim-claim.ensures.answer in
    let law : DoneLaw t u = λ e goes op task is d. (c.step_law.ensures.done t.settings t.done t.history t.state u.state e op task c.requires.legal goes.step is).0 d in (
      claim_keeps knows g.Y.Yard.owns made first c.args.number t p r u p state claims law c.claim-claim.ensures.legal refl state.yard,
      (
        not_run _ r c.in_default.not-Run,
        halted_cause c.args.number t r u (knows p) (knows c.args.pass.now) state.cause claims
            (laws.same p c.args.pass.now (laws.one_yard c.args.yard.now p c.args.pass.now c.requires.own.0 c.requires.own.1)),
      ),
    )
