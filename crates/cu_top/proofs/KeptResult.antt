-- What a result means, by what the inputs held when the first of some commands began.
use Rattle.std.proofs.Common.{◌≡◌, ◌∙◌, inl, inr, ℕ, Bool, List, ◌++◌, codes, get_or, All, Option, Some, refl, sym, ap, subst}
use Rattle.std.proofs.lemmas.List.{append_assoc}
use Rattle.cu_store.specs.Held.{Contents}
use Rattle.cu_store.specs.Steps.{Shown}
use Rattle.cu_zarr.specs.Key.{chunk_key_of, coordinates, metadata_key_of, zarray_key_of}
use Rattle.cu_zarr.specs.Stored.{stored_element}
use Rattle.cu_op.specs.Layout.{layout_view}
use Rattle.cu_expr.specs.Inputs.{layout_named}
use Rattle.cu_expr.specs.declared.inputs.InputInfo.{InputInfo}
use Rattle.cu_read.specs.Form.{HasForm}
use Rattle.cu_lower.specs.declared.options.Options.{Options}
use Rattle.cu_semantics.specs.Argument.{NodeElements}
use Rattle.cu_semantics.specs.Meaning.{meaning_of}
use Rattle.cu_check.specs.Elements.{elements_of}
use Rattle.cu_command.specs.Inputs.{AreCalmAt, IsReadAt}
use Rattle.cu_command.specs.Stored.{StoresLayout}
use Rattle.cu_command.specs.declared.job.Job.{Job}
use Rattle.cu_command.specs.declared.status.Status.TheVariants.{Done}
use Rattle.cu_top.proofs.KeptLemmas.{inputs_used, still_held, still_settled, still_told}
use Rattle.cu_top.proofs.ResultLemmas.{TextLaws, as_array, result_now, said_so}
use Rattle.cu_top.proofs.VersionLemmas.{elements_same}
use Rattle.cu_top.specs.Answered.{ResumeAnswered}
use Rattle.cu_top.specs.Kept.{AreInputsSettled, IsInputKeyOf, IsUsed, LeavesInputs}
use Rattle.cu_top.specs.Result.{HoldsResult, IsArrayOf}
use Rattle.cu_top.specs.Run.{Scene, case}

-- ---- the same inputs at two moments

abbrev AreSame : List ℕ → Contents → Contents → Type 0
AreSame text mid entry = (key : List ℕ) → IsInputKeyOf text key → mid key ≡ entry key

module _ (text : List ℕ) (mid entry now : Contents) (same : AreSame text mid entry) (r : HoldsResult text mid now) where
  used : All (λ i. IsUsed r.job.expr i.name) r.job.inputs.items
  used = inputs_used r.job.expr r.job.inputs.items r.names

  same_under : (name rest : List ℕ) → IsUsed r.job.expr name → mid (name ++ (codes "/" ++ rest)) ≡ entry (name ++ (codes "/" ++ rest))
  same_under name rest uses = same (name ++ (codes "/" ++ rest)) (r.job.expr, r.said, (name, uses, (rest, refl)))

  array_then : (i : InputInfo) → IsUsed r.job.expr i.name → IsArrayOf mid i.name i.layout → IsArrayOf entry i.name i.layout
  array_then i uses was = record {
    grid = was.grid;
    metadata = elim was.metadata [
      | inl found ↦ inl (found.0, sym (same_under i.name (codes "zarr.json") uses) ∙ found.1, found.2)
      | inr found ↦ inr (
        sym (same_under i.name (codes "zarr.json") uses) ∙ found.0,
        (found.1.0, sym (same_under i.name (codes ".zarray") uses) ∙ found.1.1, found.1.2),
      )
    ];
  }

  same_chunks : (name coord : List ℕ) → IsUsed r.job.expr name
      → mid (chunk_key_of name (layout_named r.job.inputs.items name).encoding coord)
      ≡ entry (chunk_key_of name (layout_named r.job.inputs.items name).encoding coord)
  same_chunks name coord uses =
      let rest = coordinates (layout_named r.job.inputs.items name).encoding coord in
      let key = append_assoc name (codes "/") rest in
      ap mid key ∙ same_under name rest uses ∙ sym (ap entry key)

  elements_then : elements_of r.job mid ≡ elements_of r.job entry
  elements_then = λ i k idx. elements_same r.job r.job mid entry refl refl same_chunks k idx i

  pub result_then : HoldsResult text entry now
  result_then = record {
    job = r.job;
    said = r.said;
    names = r.names;
    inputs = λ k d below. array_then (get_or r.job.inputs.items k d) (used k d below) (r.inputs k d below);
    types = r.types;
    layout = r.layout;
    output = r.output;
    dtype = r.dtype;
    shape = r.shape;
    elements = λ idx inside. r.elements idx inside
        ∙ ap (λ (given : NodeElements). Some (meaning_of r.job.expr r.job.types given r.job.expr.out idx)) elements_then;
  }

-- ---- `resume`, after other commands

module _ (laws : TextLaws) (shown : Shown) (text : List ℕ) (mid : Contents) (told : shown.held ≡ Some mid) (settled : AreInputsSettled text shown)
    (job : Job) (form : HasForm text job.expr) where
  under : (name rest : List ℕ) → IsUsed job.expr name → IsInputKeyOf text (name ++ (codes "/" ++ rest))
  under name rest uses = (job.expr, form, (name, uses, (rest, refl)))

  calm : (i : InputInfo) → IsUsed job.expr i.name → AreCalmAt shown i.name
  calm i uses = (
    λ bytes among. absurd (settled (metadata_key_of i.name) bytes (under i.name (codes "zarr.json") uses) among),
    λ bytes among. absurd (settled (zarray_key_of i.name) bytes (under i.name (codes ".zarray") uses) among),
  )

  stored_then : (i : InputInfo) → IsUsed job.expr i.name → IsReadAt shown i → IsArrayOf mid i.name i.layout
  stored_then i uses was =
      as_array laws mid i.name i.layout
      (subst (λ (h : Option Contents). StoresLayout h i.name i.layout) told (was.held (calm i uses)))

module _ (laws : TextLaws) (lack : Bool) (o : Options) (old new : Scene) (text : List ℕ) (first : Shown) (entry now : Contents)
    (leaves : LeavesInputs text first old.depot) (settled : AreInputsSettled text first) (told : first.held ≡ Some entry)
    (has : old.source.told ≡ Some text) (told_now : new.depot.held ≡ Some now) where
  pub went_on : ResumeAnswered lack o old new Done → HoldsResult text entry now
  went_on answered =
      let (said, read, (job, resumed, (holds, counted))) = answered.answers in
      let again = resumed.reopened in
      let (mid, told_mid) = still_told text first old.depot leaves settled entry told in
      let form = (laws.form text job.expr).0 (said_so text old.source.told said new.source.told has read ∙ again.accepted.said) in
      let calm = still_settled text first old.depot leaves settled in
      let used = inputs_used job.expr job.inputs.items again.accepted.names in
      let inputs : All (λ i. IsArrayOf mid i.name i.layout) job.inputs.items =
      λ k d below. stored_then laws old.depot text mid told_mid calm job form (get_or job.inputs.items k d) (used k d below) (again.accepted.inputs k d below) in
      let result = result_now laws (case o said old new) text mid now has told_mid read told_now job again.accepted again.planned inputs holds (resumed.opens mid told_mid) in
      result_then text mid entry now (still_held text first old.depot leaves settled entry mid told told_mid) result
