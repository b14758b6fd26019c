-- What the commands leave of what the inputs of their text hold.
use Rattle.std.proofs.Common.{◌≡◌, ◌∙◌, ◌⊎◌, inl, inr, ℕ, suc, ◌<◌, Bool, true, false, List, [], ◌∷◌, ◌++◌, length, get_or, All, Contains, Option, Some, None, Result, Ok, refl, sym, ap, subst, arith}
use Rattle.std.specs.Prelude.{bytes_eq, if◌then◌else◌}
use Rattle.std.specs.List.{list_any}
use Rattle.std.proofs.lemmas.List.Elements.{All-nil, All-cons, All-head, All-tail}
use Rattle.std.proofs.lemmas.Option.{slice_get-get_or}
use Rattle.cu_form.specs.Expression.{Expression, IsExpression}
use Rattle.cu_form.specs.Form.{in_ranges}
use Rattle.cu_form.specs.declared.expr.Node.{Node}
use Rattle.cu_form.specs.declared.form.Form.{Form}
use Rattle.cu_name.specs.Name.{is_name, IsArrayName}
use Rattle.cu_read.specs.Form.{HasForm}
use Rattle.cu_read.specs.Read.{expression_of}
use Rattle.cu_store.specs.Held.{Contents, IsAmong}
use Rattle.cu_store.specs.Steps.{Shown, NoChange, Within, OrLate, Lands, IsChangedBy}
use Rattle.cu_op.specs.Sound.{Sound}
use Rattle.cu_run_law.specs.Names.{HasPlanNames}
use Rattle.cu_run_law.specs.Pieces.{PlanRun, Piece, IsPiece, piece_key}
use Rattle.cu_expr.specs.declared.inputs.InputInfo.{InputInfo}
use Rattle.cu_node.specs.declared.info.NodeInfo.{NodeInfo}
use Rattle.cu_lower.specs.Premises.{IsLowerable, OutputDiffers, expression_run}
use Rattle.cu_lower.specs.declared.options.Options.{Options}
use Rattle.cu_lower.proofs.Names.{array_name}
use Rattle.cu_plan.specs.Plan.{merged_plan_of}
use Rattle.cu_work.specs.Commands.{CommandChange, IsCommand}
use Rattle.cu_work.specs.declared.part.Part.{Part}
use Rattle.cu_command.proofs.SeenLemmas.{stepped, stepped_none, stepped_wider}
use Rattle.cu_command.specs.Inputs.{name_before, names_in, names_of, others_once, used_names}
use Rattle.cu_command.specs.Seen.{Stepped}
use Rattle.cu_command.specs.Streams.{ReadsAll}
use Rattle.cu_command.specs.declared.job.Job.{Job}
use Rattle.cu_command.specs.declared.status.Status.{Status}
use Rattle.cu_command.specs.declared.status.Status.TheVariants.{ReadFault, NoMemory}
use Rattle.cu_top.proofs.LawLemmas.{run_is_command, begin_is_command, part_is_command, resume_is_command, drop_is_command}
use Rattle.cu_top.proofs.PlanLemmas.{differs, used_differs}
use Rattle.cu_top.proofs.ResultLemmas.{FormSays, said_so}
use Rattle.cu_top.specs.Begin.{BeginTells, IsBeginShort}
use Rattle.cu_top.specs.Call.{AreSpared, CameToRun, RunTells}
use Rattle.cu_top.specs.Drop.{DropTells, IsDropShort}
use Rattle.cu_top.specs.Kept.{AreInputsSettled, Elsewhere, IsInputKeyOf, IsUsed, LeavesInputs}
use Rattle.cu_top.specs.Laws.{IsOfPlan}
use Rattle.cu_top.specs.Parts.{IsPartShort, PartTells}
use Rattle.cu_top.specs.Prepare.{HasNoOwnInput, HasPlan, out_metadata}
use Rattle.cu_top.specs.Record.{record_text}
use Rattle.cu_top.specs.Resume.{IsResumeShort, ResumeTells}
use Rattle.cu_top.specs.Run.{RunCase, Scene, case, job_run, plan_in, IsAccepted, IsWanting}

-- ---- names that are used

one_expression : {E : Type 0} (r : Result Expression E) (e f : Expression) → r ≡ Ok e → r ≡ Ok f → e ≡ f
one_expression r e f one other = cc

used_is_name : (e : Expression) (name : List ℕ) → IsExpression e → IsUsed e name → IsArrayName name
used_is_name e name form (node, (k, below, here), is) =
    let at = slice_get-get_or e.nodes k node below ∙ ap Some here in
    array_name name (ap in_ranges (sym is) ∙ (form.nodes k node at).form.ranges)

more : (n : Node) (ns : List Node) (node : Node) → Contains ns node → Contains (n ∷ ns) node
more n ns node (k, below, here) = (suc k, omega arith, here)

module _ (P : List ℕ → Type 0) where
  all_of_either : (b : Bool) (xs ys : List (List ℕ)) → All P xs → All P ys → All P (if b then xs else ys)
  all_of_either true xs ys one other = one
  all_of_either false xs ys one other = other

  all_once : (seen names : List (List ℕ)) → All P names → All P (others_once seen names)
  all_once seen [] all = All-nil P
  all_once seen (x ∷ xs) all =
      all_of_either (list_any (bytes_eq x) seen) (others_once seen xs) (x ∷ others_once (seen ++ x ∷ []) xs)
      (all_once seen xs (All-tail P x xs all))
      (All-cons P x (others_once (seen ++ x ∷ []) xs) (All-head P x xs all) (all_once (seen ++ x ∷ []) xs (All-tail P x xs all)))

  all_before : (form : Form) (names : List (List ℕ)) → ((name : List ℕ) → form ≡ Form.Input name → P name)
      → All P names → All P (name_before form names)
  all_before (Form.Input name) names own all = All-cons P name names (own name refl) all
  all_before form names own all = all

  all_used : (nodes : List Node) → ((node : Node) (name : List ℕ) → Contains nodes node → node.form ≡ Form.Input name → P name)
      → All P (used_names nodes)
  all_used [] own = All-nil P
  all_used (n ∷ ns) own =
      all_before n.form (used_names ns) (λ name is. own n name (0, omega arith, refl) is)
      (all_used ns (λ node name there is. own node name (more n ns node there) is))

  -- from the names of inputs to the inputs
  of_inputs : (inputs : List InputInfo) → All P (names_of inputs) → All (λ i. P i.name) inputs
  of_inputs [] all = All-nil (λ (i : InputInfo). P i.name)
  of_inputs (i ∷ is) all =
      All-cons (λ (i : InputInfo). P i.name) i is (All-head P i.name (names_of is) all)
      (of_inputs is (All-tail P i.name (names_of is) all))

-- each input of a job is used
pub inputs_used : (e : Expression) (inputs : List InputInfo) → names_of inputs ≡ names_in e → All (λ i. IsUsed e i.name) inputs
inputs_used e inputs names =
    let used = all_used (IsUsed e) e.nodes (λ node name there is. (node, there, is)) in
    of_inputs (IsUsed e) inputs (subst (All (IsUsed e)) (sym names) (all_once (IsUsed e) [] (used_names e.nodes) used))

-- ---- a command of a plan

abbrev pub SoundLaw : Type 0
SoundLaw = (e : Expression) (infos : List NodeInfo) (inputs : List InputInfo) (options : Options)
    → IsLowerable e infos inputs options → Sound (merged_plan_of e infos inputs options)

abbrev pub NamesLaw : Type 0
NamesLaw = (e : Expression) (infos : List NodeInfo) (inputs : List InputInfo) (options : Options)
    (recorded metadata : List ℕ) → IsLowerable e infos inputs options → OutputDiffers e
    → HasPlanNames (expression_run e (merged_plan_of e infos inputs options) recorded metadata) e.store_as recorded metadata

abbrev pub OthersLaw : Type 0
OthersLaw = (r : PlanRun) (name recorded metadata : List ℕ) (q : Piece) (other rest : List ℕ) → Sound r.plan
    → HasPlanNames r name recorded metadata → IsPiece r q → IsArrayName other → (other ≡ name → ⊥)
    → piece_key r q ≡ other ++ 47 ∷ rest → ⊥

pub record KeyLaws : Type 0 where
  pub form : FormSays
  pub sound : SoundLaw
  pub names : NamesLaw
  pub others : OthersLaw

module _ (laws : KeyLaws) (c : RunCase) where
  module _ (job : Job) (accepted : IsAccepted c job) (planned : HasPlan c.options job) (own : HasNoOwnInput job.expr) where
    run_names : HasPlanNames (job_run c job) job.expr.store_as (record_text c.options job) (out_metadata job)
    run_names =
        laws.names job.expr job.types job.inputs.items c.options (record_text c.options job) (out_metadata job)
        planned (differs job.expr own)

    no_piece : (key : List ℕ) (q : Piece) → IsInputKeyOf c.text key → IsPiece (job_run c job) q
        → key ≡ piece_key (job_run c job) q → ⊥
    no_piece key q (e, said, (name, used, (rest, under))) piece is =
        let same : e ≡ job.expr =
        one_expression (expression_of c.text) e job.expr ((laws.form c.text e).1 said) accepted.said in
        let uses : IsUsed job.expr name = subst (λ (x : Expression). IsUsed x name) same used in
        laws.others (job_run c job) job.expr.store_as (record_text c.options job) (out_metadata job) q name rest
        (laws.sound job.expr job.types job.inputs.items c.options planned) run_names piece
        (used_is_name job.expr name planned.form uses) (used_differs job.expr name own uses) (sym is ∙ under)

    elsewhere : (first : Shown) → Within (CommandChange (job_run c job) first) (Elsewhere c.text)
    elsewhere first key value (inl (q, bytes, piece, is, valued, rest)) input = no_piece key q input piece is
    elsewhere first key value (inr (q, piece, is, gone)) input = no_piece key q input piece is

    command_leaves : IsCommand (job_run c job) c.old.depot c.new.depot → LeavesInputs c.text c.old.depot c.new.depot
    command_leaves (least, most, steps) = stepped_wider (elsewhere c.old.depot) (stepped steps)

  of_plan_leaves : IsOfPlan c → LeavesInputs c.text c.old.depot c.new.depot
  of_plan_leaves (inl spared) = stepped_none spared
  of_plan_leaves (inr (job, accepted, (planned, (own, command)))) = command_leaves job accepted planned own command

-- ---- what a command answers to the text that the source has

module _ (laws : KeyLaws) (o : Options) (old new : Scene) (text : List ℕ) (has : old.source.told ≡ Some text) where
  spared_leaves : AreSpared old new → LeavesInputs text old.depot new.depot
  spared_leaves spared = stepped_none spared

  -- a key of an input of the text is one of the text that was read
  also_read : (said key : List ℕ) → ReadsAll old.source.told new.source.told said → IsInputKeyOf text key → IsInputKeyOf said key
  also_read said key read (e, form, under) =
      let same = said_so text old.source.told said new.source.told has read in
      (e, (laws.form said e).0 (sym same ∙ (laws.form text e).1 form), under)

  came_leaves : (said : List ℕ) → ReadsAll old.source.told new.source.told said → IsOfPlan (case o said old new)
      → LeavesInputs text old.depot new.depot
  came_leaves said read command =
      stepped_wider (λ key value outside input. outside (also_read said key read input))
      (of_plan_leaves laws (case o said old new) command)

  short_leaves : (W : RunCase → Type 0) → ((c : RunCase) → W c → IsOfPlan c)
      → AreSpared old new ⊎ CameToRun o old new W → LeavesInputs text old.depot new.depot
  short_leaves W command (inl spared) = spared_leaves spared
  short_leaves W command (inr (said, read, was)) = came_leaves said read (command (case o said old new) was)

  module _ (lack : Bool) where
    pub run_leaves : (status : Status) → RunTells lack o old new status → LeavesInputs text old.depot new.depot
    run_leaves ReadFault tells = spared_leaves tells.1
    run_leaves NoMemory tells = short_leaves (IsWanting lack) (λ c ran. run_is_command c lack NoMemory ran) tells
    run_leaves status (said, read, ran) = came_leaves said read (run_is_command (case o said old new) lack status ran)

    pub resume_leaves : (status : Status) → ResumeTells lack o old new status → LeavesInputs text old.depot new.depot
    resume_leaves ReadFault tells = spared_leaves tells.1
    resume_leaves NoMemory tells = short_leaves (IsResumeShort lack) (λ c was. resume_is_command c lack NoMemory was) tells
    resume_leaves status (said, read, was) = came_leaves said read (resume_is_command (case o said old new) lack status was)

  pub begin_leaves : (status : Status) → BeginTells o old new status → LeavesInputs text old.depot new.depot
  begin_leaves ReadFault tells = spared_leaves tells.1
  begin_leaves NoMemory tells = short_leaves IsBeginShort (λ c was. begin_is_command c NoMemory was) tells
  begin_leaves status (said, read, was) = came_leaves said read (begin_is_command (case o said old new) status was)

  pub part_leaves : (q : Part) (status : Status) → PartTells o q old new status → LeavesInputs text old.depot new.depot
  part_leaves q ReadFault tells = spared_leaves tells.1
  part_leaves q NoMemory tells = short_leaves (λ c. IsPartShort c q) (λ c was. part_is_command c q NoMemory was) tells
  part_leaves q status (said, read, was) = came_leaves said read (part_is_command (case o said old new) q status was)

  pub drop_leaves : (status : Status) → DropTells o old new status → LeavesInputs text old.depot new.depot
  drop_leaves ReadFault tells = spared_leaves tells.1
  drop_leaves NoMemory tells = short_leaves IsDropShort (λ c was. drop_is_command c NoMemory was) tells
  drop_leaves status (said, read, was) = came_leaves said read (drop_is_command (case o said old new) status was)

-- ---- where nothing was late under a key of an input

told_after : (W : List ℕ → Option (List ℕ) → Type 0) (a b : Option Contents) (entry : Contents) → a ≡ Some entry → Lands W a b
    → (now : Contents) × (b ≡ Some now)
told_after W None b entry is lands = absurd (none_is_some entry is)
  where
    none_is_some : (c : Contents) → ◌≡◌ {A = Option Contents} None (Some c) → ⊥
    none_is_some c e = cc
told_after W (Some a) None entry is lands = absurd lands
told_after W (Some a) (Some b) entry is lands = (b, refl)

module _ (text : List ℕ) (old new : Shown) (leaves : LeavesInputs text old new) (settled : AreInputsSettled text old) where
  pub still_told : (entry : Contents) → old.held ≡ Some entry → (now : Contents) × (new.held ≡ Some now)
  still_told entry told = told_after (OrLate (Elsewhere text) old.late) old.held new.held entry told leaves.step.lands

  pub still_settled : AreInputsSettled text new
  still_settled key bytes input among = before (leaves.step.late key bytes among)
    where
      before : OrLate (Elsewhere text) old.late key (Some bytes) → ⊥
      before (inl outside) = outside input
      before (inr (other, is, late)) = settled key other input late

  pub still_held : (entry now : Contents) → old.held ≡ Some entry → new.held ≡ Some now → (key : List ℕ) → IsInputKeyOf text key → now key ≡ entry key
  still_held entry now told told_now key input = same (lands key)
    where
      lands : Lands (OrLate (Elsewhere text) old.late) (Some entry) (Some now)
      lands =
          subst (λ (h : Option Contents). Lands (OrLate (Elsewhere text) old.late) (Some entry) h) told_now
          (subst (λ (h : Option Contents). Lands (OrLate (Elsewhere text) old.late) h new.held) told leaves.step.lands)

      same : IsChangedBy (OrLate (Elsewhere text) old.late) entry now key → now key ≡ entry key
      same (inl is) = is
      same (inr (inl outside)) = absurd (outside input)
      same (inr (inr (bytes, is, late))) = absurd (settled key bytes input late)
