use Rattle.std.proofs.Common.{◌≡◌, inl, inr, ℕ, ◌==◌, ◌<◌, ◌≤◌, length, sym, subst}
use Rattle.cu_fuse.specs.Close.{fused_loading_once}
use Rattle.cu_fuse.specs.Copies.{copies_joined}
use Rattle.cu_lower.specs.Inputs.{input_names}
use Rattle.cu_lower.specs.Plan.{plan_of}
use Rattle.cu_num.specs.declared.layout.Encoding.TheVariants.{Plain}
use Rattle.cu_num.specs.declared.layout.Sep.TheVariants.{Slash}
use Rattle.cu_op.proofs.Members.{bool_cases}
use Rattle.cu_op.specs.Arrays.{array_at}
use Rattle.cu_op.specs.Names.{HasCells}
use Rattle.cu_op.specs.PlanView.{operation_at}
use Rattle.cu_plan.proofs.Choice.{is_inlined_of}
use Rattle.cu_plan.proofs.Kept.{both_keep, copies_keep, fused_keeps, fused_once_keeps, inlined_keeps}
use Rattle.cu_plan.proofs.Merged.{has_names, inputs_first, plan_inlined, plan_merged, room}
use Rattle.cu_plan.proofs.laws.keeping_law.Goals as goal
use Rattle.cu_plan.specs.Inlined.{inlined_of}
use Rattle.cu_plan.specs.Keeping.{KeepsPlan}

pub returns : goal.returns
returns c = λ e infos inputs options ok.
    let lowered = c.plan_law.ensures in
    let arrays = c.array_law.ensures in
    let p = plan_of e infos inputs options in
    let n = length (input_names e) in
    let sound = lowered.sound e infos inputs options ok in
    let stored = lowered.stored e infos inputs options ok in
    let output = arrays.output e infos inputs options ok in
    let order = arrays.order e infos inputs options ok in
    let names = has_names e infos inputs options ok output order in
    let few = room e infos inputs options ok output order in
    let first = inputs_first e infos inputs options ok output order in
    let within : (j : ℕ) → j < length p.ops → (operation_at p.ops j).projected ≤ p.allowed = λ j below. (lowered.needs e infos inputs options j ok below).allowed in
    let plain : (a : ℕ) → HasCells p.arrays a → (array_at p.arrays a).layout.encoding ≡ Plain Slash = λ a cells. order.encodings a cells.within cells.made in
    elim (bool_cases (options.fusion == 2)) [
      | inr f ↦ subst (KeepsPlan p n) (plan_merged e infos inputs options f) (fused_keeps p n sound stored names first output.made plain few within)
      | inl t ↦
          let once = fused_loading_once p in
          let q = copies_joined once in
          let r = inlined_of q in
          let one : KeepsPlan p n once = fused_once_keeps p n sound stored names first output.made plain few within in
          let called = c.made_names_law.ensures.loading_once p sound names few in
          let stay = c.fused_loading_once_law.ensures.stored p stored in
          let two : KeepsPlan once n q = copies_keep once n one.sound stay called one.first one.output one.encodings few one.needs in
          let copies = c.copies_joined_law.ensures in
          let all = copies.stored once stay in
          let law = c.inlining_law.ensures in
          let is = is_inlined_of q in
          let three : KeepsPlan q n r =
          inlined_keeps q r n all two.output two.encodings two.first (law.sound q r two.sound (copies.made_names once one.sound called) all few is)
          (λ j l. subst (λ m. (operation_at r.ops j).projected ≤ m) (sym (law.numbers q r is).1) (law.needs q r j two.sound all two.needs is l)) (law.numbers q r is)
          (law.counts q r is).0 (λ a. law.layout q r a is) (λ a. law.maker q r a is) (λ a none. law.inputs q r a all is none) (law.first q r n is two.first)
          (law.output q r two.sound is).1 (λ apart. law.names q r two.sound all is apart) (λ a l made stays. law.made q r a two.sound is l made stays) (λ env a idx. law.value q r env a idx is) in
          subst (KeepsPlan p n) (plan_inlined e infos inputs options t) (both_keep p once r n one (both_keep once q r n two three))
    ]
