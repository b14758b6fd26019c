use Rattle.std.proofs.Common.{rules, ◌≡◌, ◌<◌, ◌+◌, ◌∙◌, ap, sym, refl, subst, arith, length, get_or}
use Rattle.std.proofs.lemmas.Option.{slice_get_read}
use Rattle.std.specs.Prelude.{FitsSigned}
use Rattle.std.specs.Int.{w128}
use Rattle.cu_num.specs.Word.{word_of, IsWord}
use Rattle.cu_shape.specs.Index.{index_at}
use Rattle.cu_op.specs.declared.kernel.Instr.{Instr}
use Rattle.cu_kern.specs.declared.lays.Lay.{Lay}
use Rattle.cu_kern.specs.Lays.{lay_types, lay_element}
use Rattle.cu_kern.specs.Steps.{StepHolds, NamesBefore, loaded_by_place}
use Rattle.cu_kern.proofs.StepResults.{load_holds, const_holds, one_holds, two_holds, select_holds}
use Rattle.cu_lane.proofs.Words.{kept}
use Rattle.cu_kern.proofs.LaneWords.{word_filled}
use Rattle.cu_kern.proofs.steps.run_step.Goals as goal

pub returns-in-Load : goal.returns-in-Load
returns-in-Load c k h =
    let P : Instr → Type 0 = λ i. StepHolds i (lay_types c.args.inputs.lays.now) (loaded_by_place c.args.inputs.lays.now c.args.inputs.ins.now c.args.inputs.dims.now (c.args.from + k)) c.args.before.now k (get_or c.load_lay.new.out k 0) in
    let N : Instr → Type 0 = λ i. NamesBefore i (length c.args.inputs.lays.now) (length c.args.before.now) in
    let named : c.in-Load.k < length c.args.inputs.lays.now = subst N c.in-Load.is c.requires.names in
    let at = slice_get_read c.args.inputs.lays.now (length c.args.inputs.lays.now) c.in-Load.k c.index-inputs-k.result refl named c.index-inputs-k.is in
    let W : Lay → Type 0 = λ l. IsWord l.dtype (get_or c.load_lay.new.out k 0) (lay_element l c.args.inputs.ins.now (index_at c.args.inputs.dims.now (c.args.from + k))) in
    subst P (sym c.in-Load.is) (load_holds c.in-Load.k c.index-inputs-k.result c.args.inputs.lays.now c.args.inputs.ins.now (index_at c.args.inputs.dims.now (c.args.from + k)) c.args.before.now k _ at (subst W (sym c.index-inputs-k.is) (c.load_lay.ensures k h)))

pub returns-in-Const : goal.returns-in-Const
returns-in-Const c k h =
    let P : Instr → Type 0 = λ i. StepHolds i (lay_types c.args.inputs.lays.now) (loaded_by_place c.args.inputs.lays.now c.args.inputs.ins.now c.args.inputs.dims.now (c.args.from + k)) c.args.before.now k (get_or c.fill.new.self k 0) in
    let same = c.fill.ensures.len in
    let is = word_filled c.fill.new.self (length c.args.out.now) c.word.result k (c.fill.ensures.after (λ y e. e)) (omega arith) in
    let fits : FitsSigned w128 c.in-Const.x = search rules in
    let own : c.word.result ≡ word_of c.in-Const.x = c.word.ensures ∙ ap word_of (kept c.in-Const.x fits) in
    subst P (sym c.in-Const.is) (const_holds c.in-Const.x (lay_types c.args.inputs.lays.now) (loaded_by_place c.args.inputs.lays.now c.args.inputs.ins.now c.args.inputs.dims.now (c.args.from + k)) c.args.before.now k _ (is ∙ own))

pub returns-in-One : goal.returns-in-One
returns-in-One c k h =
    let count = c.lane1.auto.out in
    let P : Instr → Type 0 = λ i. StepHolds i (lay_types c.args.inputs.lays.now) (loaded_by_place c.args.inputs.lays.now c.args.inputs.ins.now c.args.inputs.dims.now (c.args.from + k)) c.args.before.now k (get_or c.lane1.new.out k 0) in
    subst P (sym c.in-One.is) (one_holds c.in-One.f c.in-One.t c.in-One.a (lay_types c.args.inputs.lays.now) (loaded_by_place c.args.inputs.lays.now c.args.inputs.ins.now c.args.inputs.dims.now (c.args.from + k)) c.args.before.now k _ _ (c.row.ensures.words k (omega arith)) (λ d x. c.lane1.ensures k d x h))

pub returns-in-Two : goal.returns-in-Two
returns-in-Two c k h =
    let count = c.lane2.auto.out in
    let P : Instr → Type 0 = λ i. StepHolds i (lay_types c.args.inputs.lays.now) (loaded_by_place c.args.inputs.lays.now c.args.inputs.ins.now c.args.inputs.dims.now (c.args.from + k)) c.args.before.now k (get_or c.lane2.new.out k 0) in
    subst P (sym c.in-Two.is) (two_holds c.in-Two.f c.in-Two.t c.in-Two.a c.in-Two.b (lay_types c.args.inputs.lays.now) (loaded_by_place c.args.inputs.lays.now c.args.inputs.ins.now c.args.inputs.dims.now (c.args.from + k)) c.args.before.now k _ _ _
    (c.row-in-Two.ensures.words k (omega arith)) (c.row-in-Two-2.ensures.words k (omega arith)) (λ x y. c.lane2.ensures k x y h))

pub returns-in-Select : goal.returns-in-Select
returns-in-Select c k h =
    let count = c.lane_select.auto.out in
    let P : Instr → Type 0 = λ i. StepHolds i (lay_types c.args.inputs.lays.now) (loaded_by_place c.args.inputs.lays.now c.args.inputs.ins.now c.args.inputs.dims.now (c.args.from + k)) c.args.before.now k (get_or c.lane_select.new.out k 0) in
    subst P (sym c.in-Select.is) (select_holds c.in-Select.c c.in-Select.a c.in-Select.b (lay_types c.args.inputs.lays.now) (loaded_by_place c.args.inputs.lays.now c.args.inputs.ins.now c.args.inputs.dims.now (c.args.from + k)) c.args.before.now k _ _ _ _
    (c.row-in-Select.ensures.words k (omega arith)) (c.row-in-Select-2.ensures.words k (omega arith)) (c.row-in-Select-3.ensures.words k (omega arith)) (c.lane_select.ensures k h))
