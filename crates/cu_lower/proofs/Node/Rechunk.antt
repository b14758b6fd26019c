-- What is proved of a rechunk, a copy of its argument in other chunks.
use Rattle.std.proofs.Common.{◌≡◌, ◌==◌, ℕ, true, ℤ, List, [], ◌∷◌, Option, Ok, length, slice_index, refl, sym, subst}
use Rattle.std.proofs.lemmas.List.Elements.{All-head}
use Rattle.cu_copy.specs.Copies.{in_chunks, rechunked}
use Rattle.cu_copy.specs.declared.copies.Rechunk.{Rechunk}
use Rattle.cu_form.specs.Form.{takes_args}
use Rattle.cu_form.specs.declared.args.Arg.{Arg}
use Rattle.cu_form.specs.declared.form.Form.{Form}
use Rattle.cu_node.specs.Fault.{fault}
use Rattle.cu_node.specs.Info.{info_at}
use Rattle.cu_node.specs.declared.faults.FaultCode.TheVariants.{Shape}
use Rattle.cu_node.specs.declared.info.NodeInfo.{NodeInfo}
use Rattle.cu_shape.specs.Index.{IsInside}
use Rattle.cu_typing_view.specs.Reshaped.{typed_rechunk}
use Rattle.cu_lower_reduce.specs.Copies.{IsStaged}
use Rattle.cu_lower_view.proofs.Typed.{checked_array}
use Rattle.cu_lower.specs.Parts.{copying}
use Rattle.cu_lower.proofs.Applied.{Told}
use Rattle.cu_lower.proofs.Node.{no_copies, sources_at, Laws}
use Rattle.cu_lower.proofs.OperandSteps.{copies_own}
use Rattle.cu_lower.proofs.ReductionTypes.{one_array}

-- it has the shape and the type of its argument
rechunk_passed : (a : NodeInfo) (chunk : List ℕ) (made : NodeInfo) → typed_rechunk a chunk ≡ Ok made → (made.dims ≡ a.dims) × (made.dtype ≡ a.dtype)
rechunk_passed a chunk made typed =
    let w = (checked_array (length chunk == length a.dims) (fault Shape) a.dtype a.dims chunk made typed).1 in
    (w.dims, w.dtype)

module _ (m : ℕ) (chunk : List ℕ) where
  abbrev form : Form
  form = Form.Rechunk (Arg.Node m ∷ []) chunk

  abbrev copied : List NodeInfo → ℕ → Rechunk
  copied infos k = in_chunks (info_at infos m) (info_at infos k).chunk

  of_one : Laws form
  of_one = record {
    typed = λ inputs infos k typed. rechunk_passed (info_at infos m) chunk (info_at infos k) typed;
    fitting = λ e inputs infos options k n copies made first. All-head (IsStaged (copying options first)) (copied infos k) [] (copies.staged first);
    copies = λ infos options k fits. no_copies infos options k form refl;
    own = λ laws p inputs k n made fits room.
        let same = rechunk_passed (info_at p.infos m) chunk (info_at p.infos k) n.typed in
        let made : rechunked (copied p.infos k) ≡ info_at p.infos k = λ j. record { dtype = sym same.1 j; dims = sym same.0 j; chunk = (info_at p.infos k).chunk } in
        copies_own p.infos p.options p.e.out k form laws p.first (slice_index (sources_at p form) 0) (copied p.infos k) (fits p.first) made refl refl refl refl;
    steps = λ laws p inputs k n s. laws.rechunks.steps p.arrays (copying p.options p.first) (slice_index p.places m) (copied p.infos k) (s.fitting p.first) s.known.0 s.made;
    told = λ laws p c inputs k n s solves idx inside.
        let dims = (rechunk_passed (info_at p.infos m) chunk (info_at p.infos k) n.typed).0 in
        subst (λ (o : Option ℤ). Told c.must o (c.meaning m idx)) (sym (laws.rechunks.value p.arrays c.at (copying p.options p.first) (slice_index p.places m) (copied p.infos k) solves.made idx))
        (solves.arguments.0.carries idx (subst (λ (ds : List ℕ). IsInside ds idx) dims inside));
  }

pub rechunk_laws : (args : List Arg) (chunk : List ℕ)
    → takes_args (Form.Rechunk args chunk) ≡ true → Laws (Form.Rechunk args chunk)
rechunk_laws args chunk takes =
    let (m, one) = one_array args takes in
    subst (λ (xs : List Arg). Laws (Form.Rechunk xs chunk)) (sym one) (of_one m chunk)
