-- What a result means, from what the commands answer.
use Rattle.std.proofs.Common.{◌≡◌, ◌∙◌, inl, inr, ℕ, Bool, List, [], ◌∷◌, All, Option, Some, None, Ok, refl, sym, ap, subst, arith}
use Rattle.std.proofs.lemmas.List.Elements.{All-weaker}
use Rattle.std.specs.Prelude.{◌↔◌}
use Rattle.cu_reduce.proofs.Folding.{zero_in_range}
use Rattle.cu_shape.specs.Index.{IsInside}
use Rattle.cu_store.specs.Held.{Contents, Holds, Write, IsAmong}
use Rattle.cu_store.specs.Steps.{Shown}
use Rattle.cu_zarr.specs.Key.{metadata_key_of, zarray_key_of}
use Rattle.cu_zarr.specs.Layout.{ArrayLayout}
use Rattle.cu_zarr.specs.Metadata.{metadata_text}
use Rattle.cu_zarr.specs.Stored.{stored_element}
use Rattle.cu_meta.specs.Metadata.{read_metadata}
use Rattle.cu_meta.specs.Said.{IsMetadataOf}
use Rattle.cu_meta_members.specs.Storable.{IsStorable}
use Rattle.cu_v2.specs.Form.{IsZarray}
use Rattle.cu_v2.specs.Zarray.{zarray_layout}
use Rattle.cu_form.specs.Expression.{Expression}
use Rattle.cu_read.specs.Form.{HasForm}
use Rattle.cu_read.specs.Read.{expression_of}
use Rattle.cu_op.specs.Elements.{Elements}
use Rattle.cu_op.specs.Layout.{layout_view}
use Rattle.cu_op.specs.declared.layout.Layout.{Layout}
use Rattle.cu_run_law.specs.Left.{IsLeft, IsQuiet}
use Rattle.cu_run_law.specs.Pieces.{PlanRun, Text, IsComplete}
use Rattle.cu_node.specs.Info.{IsInfo, info_at}
use Rattle.cu_node.specs.declared.info.NodeInfo.{NodeInfo}
use Rattle.cu_expr.specs.declared.inputs.InputInfo.{InputInfo}
use Rattle.cu_expr.proofs.LayoutInfo.{has_grid}
use Rattle.cu_expr.proofs.ToldArguments.{info_kept}
use Rattle.cu_lower.specs.Parts.{made_layout}
use Rattle.cu_lower.specs.declared.options.Options.{Options}
use Rattle.cu_lower.proofs.Grids.{info_grid}
use Rattle.cu_command.specs.Inputs.{AreCalmAt, IsCalmAt, IsReadAt}
use Rattle.cu_command.specs.Job.{IsJob}
use Rattle.cu_command.specs.Stored.{HoldsLayout, StoresLayout}
use Rattle.cu_command.specs.Streams.{ReadsAll}
use Rattle.cu_command.specs.declared.job.Job.{Job}
use Rattle.cu_command.specs.declared.status.Status.TheVariants.{Done}
use Rattle.cu_check.specs.Elements.{elements_of}
use Rattle.cu_semantics.specs.Meaning.{meaning_of}
use Rattle.cu_top.proofs.CallLemmas.{same_expression}
use Rattle.cu_top.specs.Answered.{CheckAnswered, ResumeAnswered, RunAnswered}
use Rattle.cu_top.specs.Prepare.{out_layout, HasPlan}
use Rattle.cu_top.specs.Result.{HoldsResult, IsArrayOf, StartsFrom}
use Rattle.cu_top.specs.Run.{RunCase, Scene, case, job_run, env_of, HoldsAll}

-- ---- no put is late

none_among : (late : List Write) (key bytes : List ℕ) → late ≡ [] → IsAmong late key bytes → ⊥
none_among [] key bytes none among = among
none_among (w ∷ ws) key bytes none among = cc

quiet_at_rest : (r : PlanRun) (env : Elements) (held : Contents) (late : List Write) → late ≡ []
    → IsQuiet r env held late
quiet_at_rest r env held late none = record {
  pieces = λ q bytes piece among. absurd (none_among late _ bytes none among);
  inputs = λ k bytes chunk among. absurd (none_among late _ bytes none among);
}

calm_at_rest : (shown : Shown) (key : List ℕ) → shown.late ≡ [] → IsCalmAt shown key
calm_at_rest shown key none bytes among = absurd (none_among shown.late key bytes none among)

calm_inputs : (shown : Shown) (name : List ℕ) → shown.late ≡ [] → AreCalmAt shown name
calm_inputs shown name none =
    (calm_at_rest shown (metadata_key_of name) none, calm_at_rest shown (zarray_key_of name) none)

-- ---- what the laws of the texts say

abbrev ReadBack : Type 0
ReadBack = (l : ArrayLayout) → IsStorable l → read_metadata (metadata_text l) ≡ Ok l

abbrev ReadSays : Type 0
ReadSays = (bytes : List ℕ) (l : ArrayLayout) → read_metadata bytes ≡ Ok l → IsMetadataOf bytes l

abbrev ZarraySays : Type 0
ZarraySays = (bytes : List ℕ) (l : ArrayLayout) → (zarray_layout bytes ≡ Ok l) ↔ IsZarray bytes l

abbrev pub FormSays : Type 0
FormSays = (text : List ℕ) (e : Expression) → (expression_of text ≡ Ok e) ↔ HasForm text e

pub record TextLaws : Type 0 where
  pub back : ReadBack
  pub accepted : ReadSays
  pub zarray : ZarraySays
  pub form : FormSays

-- ---- metadata, by its relation

module _ (laws : TextLaws) (held : Contents) (name : List ℕ) (l : Layout) where
  pub as_array : StoresLayout (Some held) name l → IsArrayOf held name l
  as_array (inl (text, at, is)) = record {
    grid = is.grid;
    metadata = inl (text, at, laws.accepted text (layout_view l) is.reads);
  }
  as_array (inr (gone, (text, at, is))) = record {
    grid = is.grid;
    metadata = inr (gone, (text, at, (laws.zarray text (layout_view l)).0 is.reads));
  }

-- what was read of the inputs
module _ (laws : TextLaws) (source : Option (List ℕ)) (shown : Shown) (text : List ℕ)
    (entry : Contents) (start : StartsFrom source shown text entry) where
  stored_at : (i : InputInfo) → IsReadAt shown i → IsArrayOf entry i.name i.layout
  stored_at i was =
      let stored = was.held (calm_inputs shown i.name start.settled) in
      as_array laws entry i.name i.layout
      (subst (λ (h : Option Contents). StoresLayout h i.name i.layout) start.depot_holds stored)

  all_stored : (inputs : List InputInfo) → All (IsReadAt shown) inputs
      → All (λ i. IsArrayOf entry i.name i.layout) inputs
  all_stored inputs read =
      All-weaker (IsReadAt shown) (λ i. IsArrayOf entry i.name i.layout) stored_at inputs read

-- what was read says what the source had
pub said_so : (left : List ℕ) (source : Option (List ℕ)) (text : List ℕ) (next : Option (List ℕ))
    → source ≡ Some left → ReadsAll source next text → expression_of left ≡ expression_of text
said_so left source text next told read =
    sym (same_expression left text next (subst (λ (s : Option (List ℕ)). ReadsAll s next text) told read))

-- ---- the metadata of the output

out_storable : (i : NodeInfo) → IsInfo i → IsStorable (layout_view (made_layout i))
out_storable i ok = record {
  axes = ok.short;
  grid = has_grid i ok;
  fill = zero_in_range i.dtype;
  endian = λ one. refl;
}

module _ (laws : TextLaws) (i : NodeInfo) (ok : IsInfo i) (name : List ℕ) where
  made : ArrayLayout
  made = layout_view (made_layout i)

  held_as_made : (held : Contents) → held (metadata_key_of name) ≡ Some (metadata_text made)
      → IsArrayOf held name (made_layout i)
  unfolding made
  held_as_made held at = record {
    grid = info_grid i ok;
    metadata = inl (
      metadata_text made,
      at,
      laws.accepted (metadata_text made) made (laws.back made (out_storable i ok)),
    );
  }

some_of : (v : Option (List ℕ)) (a b : List ℕ) → Some a ≡ Some b → v ≡ Some b → v ≡ Some a
some_of v a b one other = cc

-- ---- a run whose pieces are all held

module _ (laws : TextLaws) (c : RunCase) (left : List ℕ) (entry now : Contents)
    (source_has : c.old.source.told ≡ Some left) (depot_holds : c.old.depot.held ≡ Some entry)
    (read : ReadsAll c.old.source.told c.new.source.told c.text)
    (told_now : c.new.depot.held ≡ Some now) (job : Job)
    (accepted : IsJob c.old.depot c.text job) (planned : HasPlan c.options job)
    (inputs : All (λ i. IsArrayOf entry i.name i.layout) job.inputs.items)
    (holds : HoldsAll c job) (opened : IsLeft (job_run c job) (env_of c job entry) c.old.depot) where
  metadata_now : now (metadata_key_of job.expr.store_as)
      ≡ Some (metadata_text (layout_view (out_layout job)))
  metadata_now =
      let whole : IsComplete (job_run c job) (env_of c job entry) c.new.depot =
      holds.0 entry depot_holds opened in
      let (bytes, valued, there) = whole (Text 1) (omega arith) in
      let key = metadata_key_of job.expr.store_as in
      some_of (now key) (metadata_text (layout_view (out_layout job))) bytes valued
      (subst (λ (h : Option Contents). Holds h key bytes) told_now there)

  pub result_now : HoldsResult left entry now
  unfolding made
  result_now = record {
    job = job;
    said = (laws.form left job.expr).0
        (said_so left c.old.source.told c.text c.new.source.told source_has read ∙ accepted.said);
    names = accepted.names;
    inputs = inputs;
    types = accepted.types;
    layout = out_layout job;
    output = held_as_made laws (info_at job.types job.expr.out)
        (info_kept job.types job.expr.out planned.kept) job.expr.store_as now metadata_now;
    dtype = refl;
    shape = refl;
    elements = holds.1 entry now depot_holds opened told_now;
  }

-- ---- the commands

module _ (laws : TextLaws) (lack : Bool) (o : Options) (old new : Scene) (text : List ℕ)
    (entry now : Contents) where
  pub run_result : RunAnswered lack o old new Done
      → StartsFrom old.source.told old.depot text entry → new.depot.held ≡ Some now
      → HoldsResult text entry now
  run_result answered start told_now =
      let (said, read, (job, started, (holds, counted))) = answered.answers in
      let c = case o said old new in
      let quiet = quiet_at_rest (job_run c job) (env_of c job entry) entry old.depot.late start.settled in
      let inputs = all_stored laws old.source.told old.depot text entry start job.inputs.items
      started.accepted.inputs in
      result_now laws c text entry now start.source_has start.depot_holds read told_now job
      started.accepted started.planned inputs holds (started.opens entry start.depot_holds quiet)

  pub resume_result : ResumeAnswered lack o old new Done
      → StartsFrom old.source.told old.depot text entry → new.depot.held ≡ Some now
      → HoldsResult text entry now
  resume_result answered start told_now =
      let (said, read, (job, resumed, (holds, counted))) = answered.answers in
      let again = resumed.reopened in
      let inputs = all_stored laws old.source.told old.depot text entry start job.inputs.items
      again.accepted.inputs in
      result_now laws (case o said old new) text entry now start.source_has start.depot_holds read
      told_now job again.accepted again.planned inputs holds (resumed.opens entry start.depot_holds)

module _ (laws : TextLaws) (retries : ℕ) (old new : Scene) (text : List ℕ) (entry : Contents) where
  pub check_result : CheckAnswered retries old new Done
      → StartsFrom old.source.told old.depot text entry → HoldsResult text entry entry
  check_result answered start =
      let (said, read, (job, output, accepted, was, (like, few, (there, wrote)))) =
      answered.answers.ends in
      let (all, equal) = there entry start.depot_holds (λ key bytes k among.
      absurd (none_among old.depot.late key bytes start.settled among)) in
      let calm = calm_at_rest old.depot (metadata_key_of output.name) start.settled in
      let found : HoldsLayout (Some entry) (metadata_key_of output.name) output.layout =
      subst (λ (h : Option Contents). HoldsLayout h (metadata_key_of output.name) output.layout)
      start.depot_holds (was.read.held calm) in
      record {
        job = job;
        said = (laws.form text job.expr).0
            (said_so text old.source.told said new.source.told start.source_has read
            ∙ accepted.said);
        names = accepted.names;
        inputs = all_stored laws old.source.told old.depot text entry start job.inputs.items
            accepted.inputs;
        types = accepted.types;
        layout = output.layout;
        output = as_array laws entry job.expr.store_as output.layout
            (inl (subst (λ (n : List ℕ). HoldsLayout (Some entry) (metadata_key_of n) output.layout)
            was.name found));
        dtype = like.dtype;
        shape = like.shape;
        elements = λ idx inside.
            subst (λ (n : List ℕ). stored_element (layout_view output.layout) n entry idx
            ≡ Some (meaning_of job.expr job.types (elements_of job entry) job.expr.out idx)) was.name
            (equal idx (subst (λ (shape : List ℕ). IsInside shape idx) like.shape inside));
      }
