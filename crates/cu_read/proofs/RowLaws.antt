-- A node is read as a form exactly where it says the form, whatever family the form is of.
use Rattle.std.proofs.Common.{◌⊎◌, inl, inr, List, ℕ, Result, Ok, Err, IfOk}
use Rattle.serde_json.specs.Data.{Data}
use Rattle.cu_form.specs.declared.form.Form.{Form}
use Rattle.cu_read.specs.Creation.{SaysCreation}
use Rattle.cu_read.specs.Elementwise.{SaysElementwise}
use Rattle.cu_read.specs.Form.{IsRow}
use Rattle.cu_read.specs.NewShape.{SaysReshape}
use Rattle.cu_read.specs.Node.{or_row, row_of}
use Rattle.cu_read.specs.Reduction.{SaysReduction}
use Rattle.cu_read.specs.View.{SaysView}
use Rattle.cu_read.specs.declared.faults.NodeCode.{NodeCode}
use Rattle.cu_read.proofs.Row.{Laws}
use Rattle.cu_read.proofs.Row.Creation.{creation_says, creation_laws}
use Rattle.cu_read.proofs.Row.Elementwise.{elementwise_says, elementwise_laws}
use Rattle.cu_read.proofs.Row.NewShape.{new_shape_says, reshape_laws}
use Rattle.cu_read.proofs.Row.Reduction.{reduction_says, reduction_laws}
use Rattle.cu_read.proofs.Row.View.{view_says, view_laws}

either_says : (row next : Result Form NodeCode) (P Q : Form → Type 0) → IfOk row P → IfOk next Q → IfOk (or_row row next) (λ form. P form ⊎ Q form)
either_says (Ok form) next P Q h k = inl h
either_says (Err NodeCode.Form) next P Q h k = tt
either_says (Err NodeCode.Unknown) (Ok form) P Q h k = inr k
either_says (Err NodeCode.Unknown) (Err code) P Q h k = tt
either_says (Err NodeCode.Args) next P Q h k = tt
either_says (Err NodeCode.Id) next P Q h k = tt

pub row_says : (ids : List (List ℕ)) (op : List ℕ) (d : Data) → IfOk (row_of op ids d) (IsRow ids op d)
row_says ids op d =
    either_says _ _ (SaysCreation op d) _ (creation_says op d)
    (either_says _ _ (SaysElementwise ids op d) _ (elementwise_says ids op d)
    (either_says _ _ (SaysView ids op d) _ (view_says ids op d)
    (either_says _ _ (SaysReduction ids op d) (SaysReshape ids op d) (reduction_says ids op d) (new_shape_says ids op d))))

pub row_laws : (ids : List (List ℕ)) (op : List ℕ) (d : Data) (form : Form) → IsRow ids op d form → Laws ids op d form
row_laws ids op d form (inl h) = creation_laws ids op d form h
row_laws ids op d form (inr (inl h)) = elementwise_laws ids op d form h
row_laws ids op d form (inr (inr (inl h))) = view_laws ids op d form h
row_laws ids op d form (inr (inr (inr (inl h)))) = reduction_laws ids op d form h
row_laws ids op d form (inr (inr (inr (inr h)))) = reshape_laws ids op d form h
