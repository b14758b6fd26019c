-- The first task of the small store's copy may be run where a run of it goes on.
use Rattle.std.proofs.Common.{◌≡◌, ◌⊎◌, inr, ℕ, ◌<◌, ◌≤◌, List, length}
use Rattle.std.proofs.Common.{Option, Some, None, Ok, refl, sym, subst, arith}
use Rattle.cu_command.specs.Job.{IsJob}
use Rattle.cu_command.specs.declared.job.Job.{Job}
use Rattle.cu_op.specs.Arrays.{maker_at}
use Rattle.cu_op.specs.Cells.{tasks_of}
use Rattle.cu_op.specs.PlanView.{PlanView}
use Rattle.cu_op.specs.Schedule.{op_of}
use Rattle.cu_op.specs.Operation.{IsBefore}
use Rattle.cu_op.proofs.Fetched.{fetched_before}
use Rattle.cu_op.proofs.Plans.{own_region}
use Rattle.cu_plan.specs.Plan.{merged_plan_of}
use Rattle.cu_work.specs.Part.{HasInputs, IsMadeInput, IsPartOf}
use Rattle.cu_work.specs.World.{IsStored}
use Rattle.cu_work.specs.declared.part.Part.{Part}
use Rattle.cu_top.proofs.SampleLemmas.{copied, copy_plan, infos, inputs, plan_is}
use Rattle.cu_top.proofs.SampleLemmas.{whole_plan}
use Rattle.cu_top.proofs.SampleResume.{SoundLaw, lowerable}
use Rattle.cu_top.specs.Complete.{AreWhole, HasPartReady, IsPartReady}
use Rattle.cu_top.specs.Parts.{inner_part}
use Rattle.cu_top.specs.Sample.{left_held, left_shown, sample_options, sample_part, sample_record}
use Rattle.cu_top.specs.Sample.{sample_tasks, sample_text}
use Rattle.cu_top.specs.Words.{command_of, part}
use Rattle.cu_words.specs.Words.{line_given}

pub part_given : command_of sample_part ≡ Ok (part sample_options sample_tasks)
unfolding command_of line_given
part_given = refl

-- ---- the plan has this task, which reads the input alone

ops_are : length copy_plan.ops ≡ 1
unfolding merged_plan_of
ops_are = refl

some_task : 1 ≤ tasks_of copy_plan.arrays (op_of copy_plan 0)
unfolding merged_plan_of
some_task = omega arith

-- it is the first among the operations whose results are stored
inner_is : inner_part copy_plan sample_tasks ≡ sample_tasks
unfolding merged_plan_of
inner_is = refl

first_operation : 0 < length copy_plan.ops
first_operation = omega (arith, ops_are)

has_task : IsPartOf copy_plan sample_tasks
has_task = record {
  operation = first_operation;
  ordered = omega arith;
  few = omega (arith, some_task);
}

-- no operation stands before the first
no_maker : (m : Option ℕ) → IsBefore m 0 → m ≡ None
no_maker None before = refl
no_maker (Some k) before = absurd (omega (arith, before))

none_made : SoundLaw → (key : List ℕ) → IsMadeInput copy_plan 0 0 key → ⊥
none_made sounds key (k, listed, made, is) =
    let sound = sounds copied infos inputs sample_options lowerable in
    let region = own_region copy_plan.arrays (op_of copy_plan 0) 0 some_task in
    let read = fetched_before copy_plan sound 0 0 k first_operation region listed in
    made (no_maker (maker_at copy_plan.arrays k.array) read.1)

copy_ready : SoundLaw → AreWhole copy_plan left_held → IsPartReady copy_plan sample_tasks left_held
copy_ready sounds whole = record {
  part = has_task;
  ready = λ task within.
      let first : 0 ≡ task = let below = within.1 in omega (arith, below) in
      subst (λ (t : ℕ). IsStored copy_plan left_held 0 t
      ⊎ HasInputs copy_plan 0 t (Some left_held)) first
      (inr (λ key made. absurd (none_made sounds key made)));
  whole = λ task k bytes within listed chunk held. whole k bytes chunk held;
}

-- ---- so it is of the job of the text

module _ (sounds : SoundLaw) (job : Job) (is : IsJob left_shown sample_text job) where
  copy_whole : AreWhole copy_plan left_held
  copy_whole =
      subst (λ (p : PlanView). AreWhole p left_held) (plan_is (Some sample_record) job is)
      (whole_plan (Some sample_record) job is)

pub part_ready : SoundLaw
    → HasPartReady sample_options sample_tasks sample_text left_held left_shown
part_ready sounds job is =
    subst (λ (p : PlanView). IsPartReady p (inner_part p sample_tasks) left_held)
    (sym (plan_is (Some sample_record) job is))
    (subst (λ (q : Part). IsPartReady copy_plan q left_held) (sym inner_is)
    (copy_ready sounds (copy_whole sounds job is)))
