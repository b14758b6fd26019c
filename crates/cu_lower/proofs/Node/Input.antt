-- What is proved of an input that is itself stored, a copy of the array with its name in chunks of its own.
use Rattle.std.proofs.Common.{ℕ, Bool, ℤ, List, [], ◌∷◌, All, Option, refl, ap, sym, subst, if◌then◌else◌}
use Rattle.std.proofs.lemmas.List.Elements.{All-head}
use Rattle.cu_copy.specs.Copies.{in_chunks}
use Rattle.cu_copy.specs.declared.copies.Rechunk.{Rechunk}
use Rattle.cu_form.specs.declared.form.Form.{Form}
use Rattle.cu_node.specs.Info.{info_at}
use Rattle.cu_node.specs.declared.info.NodeInfo.{NodeInfo}
use Rattle.cu_lower_reduce.specs.Copies.{IsStaged}
use Rattle.cu_lower.specs.Inputs.{input_place}
use Rattle.cu_lower.specs.Parts.{copying}
use Rattle.cu_lower.proofs.Applied.{Told}
use Rattle.cu_lower.proofs.GivenInputs.{input_stored}
use Rattle.cu_lower.proofs.Node.{no_copies, Laws}
use Rattle.cu_lower.proofs.OperandSteps.{copies_own}

module _ (name : List ℕ) where
  abbrev copied : List NodeInfo → ℕ → Rechunk
  copied infos k = in_chunks (info_at infos k) (info_at infos k).chunk

  pub input_laws : Laws (Form.Input name)
  input_laws = record {
    typed = λ inputs infos k typed. tt;
    fitting = λ e inputs infos options k n copies made first.
        All-head (IsStaged (copying options first)) (copied infos k) []
        (subst (λ (rs : List Rechunk). All (IsStaged (copying options first)) rs) (ap (λ (b : Bool). if b then copied infos k ∷ [] else []) (input_stored e k name made)) (copies.staged first));
    copies = λ infos options k fits. no_copies infos options k (Form.Input name) refl;
    own = λ laws p inputs k n made fits room.
        copies_own p.infos p.options p.e.out k (Form.Input name) laws p.first (input_place p.e name) (copied p.infos k) (fits p.first) refl
        (ap (λ (b : Bool). if b then copied p.infos k ∷ [] else []) (input_stored p.e k name made)) refl refl refl;
    steps = λ laws p inputs k n s. laws.rechunks.steps p.arrays (copying p.options p.first) (input_place p.e name) (copied p.infos k) (s.fitting p.first) (s.named name refl) s.made;
    told = λ laws p c inputs k n s solves idx inside.
        subst (λ (o : Option ℤ). Told c.must o (c.elements k idx)) (sym (laws.rechunks.value p.arrays c.at (copying p.options p.first) (input_place p.e name) (copied p.infos k) solves.made idx))
        (solves.named name refl idx inside);
  }
