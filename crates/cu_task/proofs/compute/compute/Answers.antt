use Rattle.std.proofs.Common.{refl, sym, ap, ◌∙◌, subst}
use Rattle.cu_num.specs.declared.types.Dtype.{Dtype}
use Rattle.cu_op.specs.Schedule.{op_of}
use Rattle.cu_op.proofs.TaskCells.{fit_of}
use Rattle.cu_region.specs.Writing.{AreElements}
use Rattle.cu_task.specs.Task.{IsPlaceSearch}
use Rattle.cu_op.specs.Operation.{value_array}
use Rattle.cu_task.proofs.TaskKinds.{none_stored, searched_room}
use Rattle.cu_task.proofs.TaskRegions.{stored_type}
use Rattle.cu_op.specs.declared.operation.Op.{Op}
use Rattle.cu_task.specs.Inputs.{IsMapOf, IsMergeOf, IsSearchOf, IsSearchAmong, IsCarryOf, IsScanOf}
use Rattle.cu_task.proofs.compute.compute.Goals as goal

pub returns-in-Map-clause-values : goal.returns-in-Map-clause-values
returns-in-Map-clause-values c array is = absurd (none_stored array (sym (ap value_array (sym c.operation.ensures.operation ∙ c.in-Map.is)) ∙ is))

pub returns-in-Map-clause-value_elements : goal.returns-in-Map-clause-value_elements
returns-in-Map-clause-value_elements c array is = absurd (none_stored array (sym (ap value_array (sym c.operation.ensures.operation ∙ c.in-Map.is)) ∙ is))

pub returns-in-Fold-clause-values : goal.returns-in-Fold-clause-values
returns-in-Fold-clause-values c array is = absurd (none_stored array (sym (ap value_array (sym c.operation.ensures.operation ∙ c.in-Fold.is)) ∙ is))

pub returns-in-Fold-clause-value_elements : goal.returns-in-Fold-clause-value_elements
returns-in-Fold-clause-value_elements c array is = absurd (none_stored array (sym (ap value_array (sym c.operation.ensures.operation ∙ c.in-Fold.is)) ∙ is))

pub returns-in-Merge-clause-values : goal.returns-in-Merge-clause-values
returns-in-Merge-clause-values c array is = absurd (none_stored array (sym (ap value_array (sym c.operation.ensures.operation ∙ c.in-Merge.is)) ∙ is))

pub returns-in-Merge-clause-value_elements : goal.returns-in-Merge-clause-value_elements
returns-in-Merge-clause-value_elements c array is = absurd (none_stored array (sym (ap value_array (sym c.operation.ensures.operation ∙ c.in-Merge.is)) ∙ is))

pub returns-in-Mul-clause-values : goal.returns-in-Mul-clause-values
returns-in-Mul-clause-values c array is = absurd (none_stored array (sym (ap value_array (sym c.operation.ensures.operation ∙ c.in-Mul.is)) ∙ is))

pub returns-in-Mul-clause-value_elements : goal.returns-in-Mul-clause-value_elements
returns-in-Mul-clause-value_elements c array is = absurd (none_stored array (sym (ap value_array (sym c.operation.ensures.operation ∙ c.in-Mul.is)) ∙ is))

pub returns-in-GroupFold-clause-values : goal.returns-in-GroupFold-clause-values
returns-in-GroupFold-clause-values c array is = absurd (none_stored array (sym (ap value_array (sym c.operation.ensures.operation ∙ c.in-GroupFold.is)) ∙ is))

pub returns-in-GroupFold-clause-value_elements : goal.returns-in-GroupFold-clause-value_elements
returns-in-GroupFold-clause-value_elements c array is = absurd (none_stored array (sym (ap value_array (sym c.operation.ensures.operation ∙ c.in-GroupFold.is)) ∙ is))

pub reduce_groups-requires-clause-fold : goal.reduce_groups-requires-clause-fold
reduce_groups-requires-clause-fold c = sym c.operation.ensures.operation ∙ c.in-GroupFold.is

pub reduce_groups-requires-clause-input : goal.reduce_groups-requires-clause-input
reduce_groups-requires-clause-input c = c.requires.inputs

pub reduce_groups-requires-clause-output : goal.reduce_groups-requires-clause-output
reduce_groups-requires-clause-output c = c.requires.output

pub returns-in-GroupFold-clause-output : goal.returns-in-GroupFold-clause-output
returns-in-GroupFold-clause-output c = c.reduce_groups.ensures.values

pub returns-in-GroupFold-clause-output_elements : goal.returns-in-GroupFold-clause-output_elements
returns-in-GroupFold-clause-output_elements c = c.reduce_groups.ensures.elements

pub find_first-requires-clause-values : goal.find_first-requires-clause-values
find_first-requires-clause-values c =
    let search : IsPlaceSearch (op_of c.args.task.now.plan c.args.task.now.op) = subst IsPlaceSearch (sym (sym c.operation.ensures.operation ∙ c.in-PairFold.is)) tt in
    c.requires.values ∙ searched_room c.args.task.now.plan.arrays (op_of c.args.task.now.plan c.args.task.now.op) c.args.task.now.number search

pub returns-in-PairFold-clause-value_elements : goal.returns-in-PairFold-clause-value_elements
returns-in-PairFold-clause-value_elements c array is =
    let search : IsPlaceSearch (op_of c.args.task.now.plan c.args.task.now.op) = subst IsPlaceSearch (sym (sym c.operation.ensures.operation ∙ c.in-PairFold.is)) tt in
    subst (λ (t : Dtype). AreElements t c.find_first.new.values) (sym (stored_type c.args.task.now.plan.arrays c.args.task.now.op (op_of c.args.task.now.plan c.args.task.now.op) array (fit_of c.args.task.now.plan c.operation.ensures.sound c.args.task.now.op c.args.task.now.operation) search is)) c.find_first.ensures.value_elements

pub find_again-requires-clause-values : goal.find_again-requires-clause-values
find_again-requires-clause-values c =
    let search : IsPlaceSearch (op_of c.args.task.now.plan c.args.task.now.op) = subst IsPlaceSearch (sym (sym c.operation.ensures.operation ∙ c.in-PairMerge.is)) tt in
    c.requires.values ∙ searched_room c.args.task.now.plan.arrays (op_of c.args.task.now.plan c.args.task.now.op) c.args.task.now.number search

pub returns-in-PairMerge-clause-value_elements : goal.returns-in-PairMerge-clause-value_elements
returns-in-PairMerge-clause-value_elements c array is =
    let search : IsPlaceSearch (op_of c.args.task.now.plan c.args.task.now.op) = subst IsPlaceSearch (sym (sym c.operation.ensures.operation ∙ c.in-PairMerge.is)) tt in
    subst (λ (t : Dtype). AreElements t c.find_again.new.values) (sym (stored_type c.args.task.now.plan.arrays c.args.task.now.op (op_of c.args.task.now.plan c.args.task.now.op) array (fit_of c.args.task.now.plan c.operation.ensures.sound c.args.task.now.op c.args.task.now.operation) search is)) c.find_again.ensures.value_elements

pub run_map-requires-clause-map : goal.run_map-requires-clause-map
run_map-requires-clause-map c = subst (λ (o : Op). IsMapOf o c.in-Map.kernel) (sym (sym c.operation.ensures.operation ∙ c.in-Map.is)) refl

pub run_map-requires-clause-inputs : goal.run_map-requires-clause-inputs
run_map-requires-clause-inputs c = c.requires.inputs

pub run_map-requires-clause-output : goal.run_map-requires-clause-output
run_map-requires-clause-output c = c.requires.output

pub run_map-requires-clause-words : goal.run_map-requires-clause-words
run_map-requires-clause-words c = c.requires.words

pub fold-requires-clause-fold : goal.fold-requires-clause-fold
fold-requires-clause-fold c = sym c.operation.ensures.operation ∙ c.in-Fold.is

pub multiply-requires-clause-product : goal.multiply-requires-clause-product
multiply-requires-clause-product c = sym c.operation.ensures.operation ∙ c.in-Mul.is

pub merge-requires-clause-merge : goal.merge-requires-clause-merge
merge-requires-clause-merge c = subst (λ (o : Op). IsMergeOf o c.in-Merge.kind c.in-Merge.axis c.in-Merge.out) (sym (sym c.operation.ensures.operation ∙ c.in-Merge.is)) (refl, refl, refl)

pub find_first-requires-clause-search : goal.find_first-requires-clause-search
find_first-requires-clause-search c = subst (λ (o : Op). IsSearchOf o c.in-PairFold.least c.in-PairFold.axis c.in-PairFold.source) (sym (sym c.operation.ensures.operation ∙ c.in-PairFold.is)) (refl, refl, refl)

pub find_again-requires-clause-search : goal.find_again-requires-clause-search
find_again-requires-clause-search c = subst (λ (o : Op). IsSearchAmong o c.in-PairMerge.least c.in-PairMerge.axis c.in-PairMerge.value_source) (sym (sym c.operation.ensures.operation ∙ c.in-PairMerge.is)) (refl, refl, refl)

pub fold-requires-clause-input : goal.fold-requires-clause-input
fold-requires-clause-input c = c.requires.inputs

pub fold-requires-clause-output : goal.fold-requires-clause-output
fold-requires-clause-output c = c.requires.output

pub merge-requires-clause-input : goal.merge-requires-clause-input
merge-requires-clause-input c = c.requires.inputs

pub merge-requires-clause-output : goal.merge-requires-clause-output
merge-requires-clause-output c = c.requires.output

pub multiply-requires-clause-input : goal.multiply-requires-clause-input
multiply-requires-clause-input c = c.requires.inputs

pub multiply-requires-clause-output : goal.multiply-requires-clause-output
multiply-requires-clause-output c = c.requires.output

pub find_first-requires-clause-inputs : goal.find_first-requires-clause-inputs
find_first-requires-clause-inputs c = c.requires.inputs

pub find_first-requires-clause-places : goal.find_first-requires-clause-places
find_first-requires-clause-places c = c.requires.output

pub find_again-requires-clause-inputs : goal.find_again-requires-clause-inputs
find_again-requires-clause-inputs c = c.requires.inputs

pub find_again-requires-clause-places : goal.find_again-requires-clause-places
find_again-requires-clause-places c = c.requires.output

pub returns-in-Map-clause-output : goal.returns-in-Map-clause-output
returns-in-Map-clause-output c = c.run_map.ensures.values

pub returns-in-Map-clause-output_elements : goal.returns-in-Map-clause-output_elements
returns-in-Map-clause-output_elements c = c.run_map.ensures.elements

pub returns-in-Fold-clause-output : goal.returns-in-Fold-clause-output
returns-in-Fold-clause-output c = c.fold.ensures.values

pub returns-in-Fold-clause-output_elements : goal.returns-in-Fold-clause-output_elements
returns-in-Fold-clause-output_elements c = c.fold.ensures.elements

pub returns-in-Merge-clause-output : goal.returns-in-Merge-clause-output
returns-in-Merge-clause-output c = c.merge.ensures.values

pub returns-in-Merge-clause-output_elements : goal.returns-in-Merge-clause-output_elements
returns-in-Merge-clause-output_elements c = c.merge.ensures.elements

pub returns-in-Mul-clause-output : goal.returns-in-Mul-clause-output
returns-in-Mul-clause-output c = c.multiply.ensures.values

pub returns-in-Mul-clause-output_elements : goal.returns-in-Mul-clause-output_elements
returns-in-Mul-clause-output_elements c = c.multiply.ensures.elements

pub returns-in-PairFold-clause-output : goal.returns-in-PairFold-clause-output
returns-in-PairFold-clause-output c = c.find_first.ensures.places

pub returns-in-PairFold-clause-output_elements : goal.returns-in-PairFold-clause-output_elements
returns-in-PairFold-clause-output_elements c = c.find_first.ensures.place_elements

pub returns-in-PairFold-clause-values : goal.returns-in-PairFold-clause-values
returns-in-PairFold-clause-values c = c.find_first.ensures.values

pub returns-in-PairMerge-clause-output : goal.returns-in-PairMerge-clause-output
returns-in-PairMerge-clause-output c = c.find_again.ensures.places

pub returns-in-PairMerge-clause-output_elements : goal.returns-in-PairMerge-clause-output_elements
returns-in-PairMerge-clause-output_elements c = c.find_again.ensures.place_elements

pub returns-in-PairMerge-clause-values : goal.returns-in-PairMerge-clause-values
returns-in-PairMerge-clause-values c = c.find_again.ensures.values

pub returns-in-Carry-clause-values : goal.returns-in-Carry-clause-values
returns-in-Carry-clause-values c array is = absurd (none_stored array (sym (ap value_array (sym c.operation.ensures.operation ∙ c.in-Carry.is)) ∙ is))

pub returns-in-Carry-clause-value_elements : goal.returns-in-Carry-clause-value_elements
returns-in-Carry-clause-value_elements c array is = absurd (none_stored array (sym (ap value_array (sym c.operation.ensures.operation ∙ c.in-Carry.is)) ∙ is))

pub carry-requires-clause-inputs : goal.carry-requires-clause-inputs
carry-requires-clause-inputs c = c.requires.inputs

pub carry-requires-clause-output : goal.carry-requires-clause-output
carry-requires-clause-output c = c.requires.output

pub returns-in-Carry-clause-output : goal.returns-in-Carry-clause-output
returns-in-Carry-clause-output c = c.carry.ensures.values

pub returns-in-Carry-clause-output_elements : goal.returns-in-Carry-clause-output_elements
returns-in-Carry-clause-output_elements c = c.carry.ensures.elements

pub returns-in-Scan-clause-values : goal.returns-in-Scan-clause-values
returns-in-Scan-clause-values c array is = absurd (none_stored array (sym (ap value_array (sym c.operation.ensures.operation ∙ c.in-Scan.is)) ∙ is))

pub returns-in-Scan-clause-value_elements : goal.returns-in-Scan-clause-value_elements
returns-in-Scan-clause-value_elements c array is = absurd (none_stored array (sym (ap value_array (sym c.operation.ensures.operation ∙ c.in-Scan.is)) ∙ is))

pub scan-requires-clause-inputs : goal.scan-requires-clause-inputs
scan-requires-clause-inputs c = c.requires.inputs

pub scan-requires-clause-output : goal.scan-requires-clause-output
scan-requires-clause-output c = c.requires.output

pub returns-in-Scan-clause-output : goal.returns-in-Scan-clause-output
returns-in-Scan-clause-output c = c.scan.ensures.values

pub returns-in-Scan-clause-output_elements : goal.returns-in-Scan-clause-output_elements
returns-in-Scan-clause-output_elements c = c.scan.ensures.elements

pub carry-requires-clause-carry : goal.carry-requires-clause-carry
carry-requires-clause-carry c = subst (λ (o : Op). IsCarryOf o c.in-Carry.axis c.in-Carry.out) (sym (sym c.operation.ensures.operation ∙ c.in-Carry.is)) (refl, refl)

pub scan-requires-clause-scan : goal.scan-requires-clause-scan
scan-requires-clause-scan c = subst (λ (o : Op). IsScanOf o c.in-Scan.axis c.in-Scan.source c.in-Scan.out) (sym (sym c.operation.ensures.operation ∙ c.in-Scan.is)) (refl, refl, refl)
