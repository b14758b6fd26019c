-- What the call answers: from what the words give to the table of their command's answers.
use Rattle.std.proofs.Common.{◌≡◌, ℕ, ◌+◌, Bool, List, Result, Ok, Err, refl, sym, subst, inl, inr, arith}
use Rattle.cu_store.specs.Steps.{NoChange, OnceEach}
use Rattle.cu_command.proofs.SeenLemmas.{stepped_same}
use Rattle.cu_command.specs.Seen.{Stepped, Stream, WithinCalls}
use Rattle.cu_command.specs.Streams.{ReadsAll}
use Rattle.cu_command.specs.declared.status.Status.{Status}
use Rattle.cu_command.specs.declared.status.Status.TheVariants.{BadWords, NoMemory}
use Rattle.cu_lower.specs.declared.options.Options.{Options}
use Rattle.cu_top.proofs.CallLemmas.{told_run, told_resume, told_drop, told_begin, told_part}
use Rattle.cu_top.proofs.PlannedLemmas.{told_plan}
use Rattle.cu_top.specs.Told.{BeginTold, PartTold, AreTold, CallTold, DropTold, IsCommandTold, PlanTold, ResumeTold, RunTold}
use Rattle.cu_top.specs.Call.{CameToRun, DidNothing, IsWordsRefused}
use Rattle.cu_top.specs.Calls.{DropWithin, ResumeWithin, RunWithin}
use Rattle.cu_work.specs.declared.part.Part.{Part}
use Rattle.cu_top.specs.Begin.{BeginWithin, WasBegun}
use Rattle.cu_top.specs.Parts.{PartWithin, WasParted}
use Rattle.cu_top.specs.Drop.{Dropped}
use Rattle.cu_top.specs.Planned.{Plans, plan_calls}
use Rattle.cu_top.specs.Resume.{WasResumed}
use Rattle.cu_top.specs.Run.{PrintsOnly, Ran, RunCase, Scene, case, scene}
use Rattle.cu_top.specs.Words.{Command, run, resume, drop, plan, load, check, print, demo, begin, part}

-- ---- the commands that read a text, from what its run or its plan answers; `given` is the text that was read

module _ (options : Options) (old new : Scene) (text given : List ℕ) (status : Status) (same : given ≡ text) (read : ReadsAll old.source.told new.source.told text)
    (prints : PrintsOnly status old.sink.told new.sink.told) where
  -- the case of this text, as what is seen of the source doesn't matter, or of the sink neither
  abbrev from_sink : Stream → Stream → RunCase
  from_sink source next = case options given (scene source old.sink old.depot) (scene next new.sink new.depot)

  abbrev from_depot : Stream → Stream → Stream → Stream → RunCase
  from_depot source next sink after = case options given (scene source sink old.depot) (scene next after new.depot)

  -- so it is of the text that was read
  came : (fact : RunCase → Type 0) → fact (case options given old new) → CameToRun options old new fact
  came fact so = (text, read, subst (λ (t : List ℕ). fact (case options t old new)) same so)

  of_text : (fact : RunCase → Type 0) → fact (case options given old new) → fact (case options text old new)
  of_text fact = subst (λ (t : List ℕ). fact (case options t old new)) same

  pub run_answered : (lack : Bool) → ((source next : Stream) → Ran lack (from_sink source next) status) → ((source next sink after : Stream) → RunWithin (from_depot source next sink after) status)
      → RunTold lack options old new status
  run_answered lack ran calls = record {
    tells = told_run lack options old new text status read (of_text (λ c. Ran lack c status) (ran old.source new.source));
    prints = prints;
    calls = inr (came (λ c. RunWithin c status) (calls old.source new.source old.sink new.sink));
  }

  pub resume_answered : (lack : Bool) → ((source next : Stream) → WasResumed lack (from_sink source next) status)
      → ((source next sink after : Stream) → ResumeWithin (from_depot source next sink after) status) → ResumeTold lack options old new status
  resume_answered lack went calls = record {
    tells = told_resume lack options old new text status read (of_text (λ c. WasResumed lack c status) (went old.source new.source));
    prints = prints;
    calls = inr (came (λ c. ResumeWithin c status) (calls old.source new.source old.sink new.sink));
  }

  pub drop_answered : ((source next : Stream) → Dropped (from_sink source next) status) → ((source next sink after : Stream) → DropWithin (from_depot source next sink after) status)
      → DropTold options old new status
  drop_answered dropped calls = record {
    tells = told_drop options old new text status read (of_text (λ c. Dropped c status) (dropped old.source new.source));
    prints = prints;
    calls = inr (came (λ c. DropWithin c status) (calls old.source new.source old.sink new.sink));
  }

  pub begin_answered : ((source next : Stream) → WasBegun (from_sink source next) status) → ((source next sink after : Stream) → BeginWithin (from_depot source next sink after) status)
      → BeginTold options old new status
  begin_answered begun calls = record {
    tells = told_begin options old new text status read (of_text (λ c. WasBegun c status) (begun old.source new.source));
    prints = prints;
    calls = inr (came (λ c. BeginWithin c status) (calls old.source new.source old.sink new.sink));
  }

  pub part_answered : (q : Part) → ((source next : Stream) → WasParted (from_sink source next) q status) → ((source next sink after : Stream) → PartWithin (from_depot source next sink after) q status)
      → PartTold options q old new status
  part_answered q parted calls = record {
    tells = told_part options q old new text status read (of_text (λ c. WasParted c q status) (parted old.source new.source));
    prints = prints;
    calls = inr (came (λ c. PartWithin c q status) (calls old.source new.source old.sink new.sink));
  }

  pub plan_answered : ((source next : Stream) → Plans (from_sink source next) status) → WithinCalls (plan_calls (options.retries + 1) given) old.depot new.depot
      → OnceEach (plan_calls 1 given) old.depot new.depot → PlanTold options old new status
  plan_answered plans calls once = record {
    tells = told_plan options old new text status read (of_text (λ c. Plans c status) (plans old.source new.source));
    prints = prints;
    calls = inr (
      text,
      read,
      subst (λ (t : List ℕ). WithinCalls (plan_calls (options.retries + 1) t) old.depot new.depot) same calls,
      subst (λ (t : List ℕ). OnceEach (plan_calls 1 t) old.depot new.depot) same once,
    );
  }

-- ---- the words are read

-- they give a command, and it is answered
pub by_command : (lack : Bool) (asked : Result Command ℕ) (old new : Scene) (status : Status) (command : Command) → asked ≡ Ok command → IsCommandTold lack command old new status
    → CallTold lack asked old new status
by_command lack asked old new status command is answered = record {
  is_so = subst (λ (a : Result Command ℕ). AreTold lack a old new status) (sym is) answered;
  unknown = λ err. cc;
}

module _ (lack : Bool) (asked : Result Command ℕ) (same : Scene) where
  spared : Stepped NoChange same.depot same.depot
  spared = stepped_same NoChange same.depot

  none : WithinCalls 0 same.depot same.depot
  none = omega arith

  -- they are refused, and nothing is done
  pub by_refusal : (code : ℕ) → asked ≡ Err code → CallTold lack asked same same (BadWords code)
  by_refusal code is = record {
    is_so = subst (λ (a : Result Command ℕ). AreTold lack a same same (BadWords code)) (sym is) (refl, (spared, refl, refl));
    unknown = λ err. cc;
  }

  wanted : (a : Result Command ℕ) → AreTold lack a same same NoMemory
  wanted (Ok (run options)) = record { tells = inl spared; prints = refl; calls = inl none }
  wanted (Ok (resume options)) = record { tells = inl spared; prints = refl; calls = inl none }
  wanted (Ok (drop options)) = record { tells = inl spared; prints = refl; calls = inl none }
  wanted (Ok (plan options)) = record { tells = spared; prints = refl; calls = inl none }
  wanted (Ok (load retries)) = record { tells = inl (spared, refl); calls = inl none; once = inl none }
  wanted (Ok (check retries)) = record { tells = record { spared = spared; printed = refl; ends = tt }; calls = inl none; once = inl none }
  wanted (Ok (print name retries)) = record { tells = (spared, inl refl); kept = refl; calls = inl (omega arith); once = inl (omega arith) }
  wanted (Ok (demo size options)) = record { tells = inl (spared, refl); kept = refl; calls = inl none }
  wanted (Ok (begin options)) = record { tells = inl spared; prints = refl; calls = inl none }
  wanted (Ok (part options q)) = record { tells = inl spared; prints = refl; calls = inl none }
  wanted (Err code) = (tt, (spared, refl, refl))

  -- memory was wanted to read them, and nothing is done
  pub by_want : (asked ≡ Err 1 → ⊥) → CallTold lack asked same same NoMemory
  by_want known = record { is_so = wanted asked; unknown = λ err. absurd (known err) }

-- ---- what each command answers

module _ {lack : Bool} {asked : Result Command ℕ} {old new : Scene} {status : Status} (answered : CallTold lack asked old new status) where
  pub answer_to : (command : Command) → asked ≡ Ok command → IsCommandTold lack command old new status
  answer_to command is = subst (λ (a : Result Command ℕ). AreTold lack a old new status) is answered.is_so

  pub words_refused : (code : ℕ) → asked ≡ Err code → IsWordsRefused code status × DidNothing old new
  words_refused code is = subst (λ (a : Result Command ℕ). AreTold lack a old new status) is answered.is_so
