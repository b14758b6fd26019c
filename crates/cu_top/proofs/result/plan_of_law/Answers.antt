use Rattle.cu_top.proofs.result.plan_of_law.Goals as goal

pub returns : goal.returns
returns c options job has =
    let law = c.merged_plan_law.ensures in
    record {
      sound = law.sound job.expr job.types job.inputs.items options has;
      allowed = law.memory job.expr job.types job.inputs.items options;
      needs = λ j below. law.needs job.expr job.types job.inputs.items options j has below;
      output = law.output job.expr job.types job.inputs.items options has;
      only = λ a below none. law.only job.expr job.types job.inputs.items options a has below none;
      equal = λ env elements idx x types given inside is.
          law.equal job.expr job.types job.inputs.items options env elements idx x
          (record { lowerable = has; typed = types; given = given }) inside is;
      defined = λ env elements idx types given there inside.
          law.defined job.expr job.types job.inputs.items options env elements idx
          (record { lowerable = has; typed = types; given = given }) there inside;
    }
