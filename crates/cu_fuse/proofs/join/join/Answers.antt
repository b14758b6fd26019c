use Rattle.std.proofs.Common.{◌≡◌, ℕ, ◌<◌, List, All, length, map, ap, sym, ◌∙◌, refl, subst, arith, true, ◌≤◌, ◌∷◌, [], ⊎_elim, IfSome}
use Rattle.std.proofs.lemmas.List.{length-map}
use Rattle.std.proofs.lemmas.Option.{slice_get_within}
use Rattle.cu_op.proofs.KindLaws.{map_by_kernel}
use Rattle.cu_op.specs.Kind.Map.{map_of}
use Rattle.cu_op.specs.declared.kernel.Instr.{Instr}
use Rattle.cu_op.specs.declared.operation.Op.{Op}
use Rattle.cu_op.specs.Arrays.{type_at}
use Rattle.cu_op.specs.declared.operation.Planned.{Planned}
use Rattle.cu_op.specs.Operation.{reads_of, target_of, writes_of}
use Rattle.cu_op.specs.Projection.{HasSmallRegions, instruction_count, own_projection}
use Rattle.cu_fuse.specs.Fused.{SettingView, is_small, joint, joint_op}
use Rattle.cu_fuse.specs.Merge.{merged_map}
use Rattle.cu_fuse.specs.Once.{loaded_by}
use Rattle.cu_op.specs.Numbers.{number_in}
use Rattle.cu_fuse.specs.Splice.{AreNumbersBelow, put_in, spliced}
use Rattle.cu_fuse.proofs.ByKernel.{map_fits}
use Rattle.cu_fuse.proofs.Distinct.{at_place}
use Rattle.cu_fuse.proofs.Joining.{joined, many_inputs, many_steps, much_memory, on_some_then, small_is}
use Rattle.cu_fuse.proofs.Merging.{all_put_in}
use Rattle.cu_fuse.proofs.Same.{loaded_does, loaded_small, reads_same, same_target}
use Rattle.cu_fuse.proofs.SmallNumbers.{small_numbers, some_steps}
use Rattle.cu_fuse.proofs.join.join.Goals as goal
use Rattle.cu_fuse.proofs.join.join.Goals.{After-loaded_map}

-- what is put together is the joint map
joint_is : (c : After-loaded_map) → joint_op c.args.setting.now c.args.maker.now c.args.reader.now c.args.a
    ≡ loaded_by c.setting.inside.once (map_of c.as_slice-6.result.now c.as_slice-7.result.now c.target-out.result)
joint_is c =
    let s = c.args.setting.now in
    let mk = c.args.maker.now in
    let rd = c.args.reader.now in
    let inner = c.in_ok-inner.inner.now.code.items in
    let outer = c.in_ok-outer.outer.now.code.items in
    let from : c.as_slice.result.now ≡ reads_of rd.op = c.as_slice.ensures.value ∙ c.reads-outer_ins.ensures in
    let width : c.len.result ≡ length (reads_of mk.op) = c.len.ensures.value ∙ ap length c.reads-inner_ins.ensures in
    let j : c.number_in-j.result ≡ number_in (reads_of rd.op) c.args.a =
    c.number_in-j.ensures.place ∙ ap (λ (xs : List ℕ). number_in xs c.args.a) from in
    let code : c.as_slice-6.result.now ≡ spliced (number_in (reads_of rd.op) c.args.a) (length (reads_of mk.op)) inner outer =
    c.as_slice-6.ensures.value ∙ c.spliced-code.ensures.code
    ∙ (λ i. spliced (j i) (width i) (c.as_slice-2.ensures.value i) (c.as_slice-3.ensures.value i)) in
    let ins : c.as_slice-7.result.now ≡ put_in (number_in (reads_of rd.op) c.args.a) (reads_of mk.op) (reads_of rd.op) =
    c.as_slice-7.ensures.value ∙ c.put_in-ins.ensures.list
    ∙ (λ i. put_in (j i) ((c.as_slice-4.ensures.value ∙ c.reads-inner_ins.ensures) i) ((c.as_slice-5.ensures.value ∙ c.reads-outer_ins.ensures) i)) in
    let once : c.setting.inside.once ≡ s.once = ap (λ (v : SettingView). v.once) c.setting.view_is in
    joined s mk rd c.args.a inner outer c.in_ok-inner.ensures.kernel c.in_ok-outer.ensures.kernel
    ∙ (λ i. loaded_by (sym once i) (map_of (sym code i) (sym ins i) (sym c.target-out.ensures i)))

pub spliced-code-requires-clause-some : goal.spliced-code-requires-clause-some
spliced-code-requires-clause-some c =
    let arrays = c.args.setting.now.arrays in
    let mk = c.args.maker.now in
    let inner = c.in_ok-inner.inner.now.code.items in
    let fits = map_fits arrays mk.op inner c.in_ok-inner.ensures.kernel c.requires.maker.fits in
    subst (λ (l : List Instr). 0 < length l) (sym c.as_slice-2.ensures.value)
    (some_steps inner (map (type_at arrays) (reads_of mk.op)) (type_at arrays (target_of mk.op)) fits.kernel)

pub spliced-code-requires-clause-small : goal.spliced-code-requires-clause-small
spliced-code-requires-clause-small c =
    let arrays = c.args.setting.now.arrays in
    let mk = c.args.maker.now in
    let inner = c.in_ok-inner.inner.now.code.items in
    let fits = map_fits arrays mk.op inner c.in_ok-inner.ensures.kernel c.requires.maker.fits in
    let l = length-map (reads_of mk.op) (type_at arrays) in
    let ins = ap length c.reads-inner_ins.ensures in
    let few = c.len.ensures in
    let code = c.as_slice-2.ensures in
    subst (All AreNumbersBelow) (sym code.value)
    (small_numbers inner (map (type_at arrays) (reads_of mk.op)) [] (type_at arrays (target_of mk.op)) fits.kernel (omega (arith, l, ins)) (let v = ap length code.value in let f = code.fits in omega (arith, v, f)))

pub spliced-code-requires-clause-own : goal.spliced-code-requires-clause-own
spliced-code-requires-clause-own c =
    let arrays = c.args.setting.now.arrays in
    let rd = c.args.reader.now in
    let outer = c.in_ok-outer.outer.now.code.items in
    let fits = map_fits arrays rd.op outer c.in_ok-outer.ensures.kernel c.requires.reader.fits in
    let l = length-map (reads_of rd.op) (type_at arrays) in
    let ins = c.as_slice.ensures in
    let code = c.as_slice-3.ensures in
    subst (All AreNumbersBelow) (sym code.value)
    (small_numbers outer (map (type_at arrays) (reads_of rd.op)) [] (type_at arrays (target_of rd.op)) fits.kernel
    (let v = ap length (ins.value ∙ c.reads-outer_ins.ensures) in let f = ins.fits in omega (arith, l, v, f)) (let v = ap length code.value in let f = code.fits in omega (arith, v, f)))

pub put_in-ins-requires-clause-within : goal.put_in-ins-requires-clause-within
put_in-ins-requires-clause-within c =
    let a = c.args.a in
    let ins = reads_of c.args.reader.now.op in
    let w = slice_get_within ins (number_in ins a) a (at_place ins a c.requires.read) in
    let first = c.number_in-j.ensures.place ∙ ap (λ (xs : List ℕ). number_in xs a) (c.as_slice.ensures.value ∙ c.reads-outer_ins.ensures) in
    let last = ap length (c.as_slice-5.ensures.value ∙ c.reads-outer_ins.ensures) in
    omega (arith, w, first, last)

pub within_allowed-requires-clause-reads : goal.within_allowed-requires-clause-reads
within_allowed-requires-clause-reads c =
    let s = c.args.setting.now in
    let mk = c.args.maker.now in
    let rd = c.args.reader.now in
    let inner = c.in_ok-inner.inner.now.code.items in
    let outer = c.in_ok-outer.outer.now.code.items in
    let n = length s.arrays in
    let j = number_in (reads_of rd.op) c.args.a in
    let is : c.in_ok-op.op ≡ joint_op s mk rd c.args.a = c.in_ok-op.ensures.map ∙ sym (joint_is (goal.at.within_allowed-requires-clause-reads c).After-loaded_map) in
    let plain : Op = merged_map mk.op rd.op j inner outer in
    subst (λ (o : Op). All (λ r. r < n) (reads_of o))
    (sym (is ∙ joined s mk rd c.args.a inner outer c.in_ok-inner.ensures.kernel c.in_ok-outer.ensures.kernel))
    (reads_same s.arrays plain (loaded_by s.once plain) (λ (r : ℕ). r < n) (loaded_does s.arrays s.once plain)
    (all_put_in (λ r. r < n) j (reads_of mk.op) (reads_of rd.op) c.requires.maker.reads c.requires.reader.reads))

pub within_allowed-requires-clause-room : goal.within_allowed-requires-clause-room
within_allowed-requires-clause-room c =
    let s = c.args.setting.now in
    let mk = c.args.maker.now in
    let rd = c.args.reader.now in
    let inner = c.in_ok-inner.inner.now.code.items in
    let outer = c.in_ok-outer.outer.now.code.items in
    let n = length s.arrays in
    let j = number_in (reads_of rd.op) c.args.a in
    let op : Op = c.in_ok-op.op in
    let is : op ≡ joint_op s mk rd c.args.a = c.in_ok-op.ensures.map ∙ sym (joint_is (goal.at.within_allowed-requires-clause-room c).After-loaded_map) in
    let plain : Op = merged_map mk.op rd.op j inner outer in
    let whole : op ≡ loaded_by s.once plain =
    is ∙ joined s mk rd c.args.a inner outer c.in_ok-inner.ensures.kernel c.in_ok-outer.ensures.kernel in
    let reads = within_allowed-requires-clause-reads c in
    let writes : All (λ r. r < n) (target_of rd.op ∷ []) =
    subst (λ (o : Op). All (λ r. r < n) (writes_of o)) (map_by_kernel rd.op outer c.in_ok-outer.ensures.kernel) c.requires.reader.writes in
    let same : op ≡ loaded_by c.setting.inside.once (map_of c.as_slice-6.result.now c.as_slice-7.result.now c.target-out.result) = c.in_ok-op.ensures.map in
    let inputs : length (reads_of op) ≤ 8 = subst (λ (o : Op). length (reads_of o) ≤ 8) (sym same) c.in_ok-op.ensures.inputs in
    let steps : instruction_count op ≤ 32 = subst (λ (o : Op). instruction_count o ≤ 32) (sym same) c.in_ok-op.ensures.steps in
    let target : target_of op < n = subst (λ (o : Op). target_of o < n) (sym whole)
    (subst (λ (m : ℕ). m < n) (sym (same_target s.once plain)) (writes 0 0 (omega arith))) in
    let small : HasSmallRegions op = subst HasSmallRegions (sym whole) (loaded_small s.once plain tt) in
    c.one_map_law.ensures.room op s.arrays 0 c.requires.arrays reads target inputs steps small (omega arith)

pub returns-clause-joint : goal.returns-clause-joint
returns-clause-joint c =
    let s = c.args.setting.now in
    let mk = c.args.maker.now in
    let rd = c.args.reader.now in
    let is : c.in_ok-op.op ≡ joint_op s mk rd c.args.a = c.in_ok-op.ensures.map ∙ sym (joint_is (goal.at.returns-clause-joint c).After-loaded_map) in
    subst (λ (p : Planned). IfSome c.within_allowed.result (λ x. x ≡ p))
    (λ i. record { op = is i; node = rd.node; projected = own_projection s.arrays s.reserved (is i) })
    c.within_allowed.ensures.planned

pub returns-clause-small : goal.returns-clause-small
returns-clause-small c =
    let s = c.args.setting.now in
    let mk = c.args.maker.now in
    let rd = c.args.reader.now in
    let both = joint_is (goal.at.returns-clause-small c).After-loaded_map in
    let is : c.in_ok-op.op ≡ joint_op s mk rd c.args.a = c.in_ok-op.ensures.map ∙ sym both in
    let inputs : length (reads_of (joint_op s mk rd c.args.a)) ≤ 8 = subst (λ (o : Op). length (reads_of o) ≤ 8) (sym both) c.in_ok-op.ensures.inputs in
    let steps : instruction_count (joint_op s mk rd c.args.a) ≤ 32 = subst (λ (o : Op). instruction_count o ≤ 32) (sym both) c.in_ok-op.ensures.steps in
    on_some_then c.within_allowed.result (own_projection s.arrays s.reserved c.in_ok-op.op ≤ s.allowed)
    (is_small s (joint s mk rd c.args.a) ≡ true)
    (λ few. small_is s (joint s mk rd c.args.a) inputs steps (subst (λ (o : Op). own_projection s.arrays s.reserved o ≤ s.allowed) is few))
    c.within_allowed.ensures.within

pub returns-clause-none : goal.returns-clause-none
returns-clause-none c = λ none.
    let s = c.args.setting.now in
    let mk = c.args.maker.now in
    let rd = c.args.reader.now in
    let is : c.in_ok-op.op ≡ joint_op s mk rd c.args.a = c.in_ok-op.ensures.map ∙ sym (joint_is (goal.at.returns-clause-none c).After-loaded_map) in
    much_memory s mk rd (joint s mk rd c.args.a)
    (subst (λ (o : Op). s.allowed < own_projection s.arrays s.reserved o) is (c.within_allowed.ensures.over none))

pub returns-in_err-op-clause-none : goal.returns-in_err-op-clause-none
returns-in_err-op-clause-none c = λ none.
    let s = c.args.setting.now in
    let mk = c.args.maker.now in
    let rd = c.args.reader.now in
    let both = joint_is (goal.at.returns-in_err-op-clause-none c).After-loaded_map in
    ⊎_elim
    (λ many. many_steps s mk rd (joint s mk rd c.args.a) (subst (λ (o : Op). 32 < instruction_count o) (sym both) many))
    (λ many. many_inputs s mk rd (joint s mk rd c.args.a) (subst (λ (o : Op). 8 < length (reads_of o)) (sym both) many))
    (c.in_err-op.ensures.none refl)
