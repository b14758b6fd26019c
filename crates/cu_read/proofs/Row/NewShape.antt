-- Views that have as many elements in another shape.
use Rattle.std.proofs.Common.{◌≡◌, true, false, List, ℕ, codes, Result, Ok, Err, IfOk, refl, sym, ◌∙◌, subst}
use Rattle.serde_json.specs.Data.{Data}
use Rattle.serde_json.specs.Find.{get}
use Rattle.serde_json.specs.Written.{has_float}
use Rattle.cu_json.specs.Form.{is_object_of}
use Rattle.cu_node.specs.NewShape.{are_new_sizes, is_new_shape}
use Rattle.cu_node.specs.declared.new_shape.NewShape.{NewShape}
use Rattle.cu_form.specs.declared.args.Arg.{Arg}
use Rattle.cu_form.specs.declared.form.Form.{Form}
use Rattle.cu_result.specs.Results.{◌>>=◌}
use Rattle.cu_read.specs.Args.{args_in, HasArgs}
use Rattle.cu_read.specs.Members.{integer_of, integers_of, new_sizes_of, member_of}
use Rattle.cu_read.specs.NewShape.{IsNewShape, SaysReshape, new_shape_in, new_shape_row}
use Rattle.cu_read.specs.Node.{row_of}
use Rattle.cu_read.specs.declared.faults.NodeCode.{NodeCode}
use Rattle.cu_read.proofs.Passing.{passes, member_passes}
use Rattle.cu_read.proofs.PlainNodes.{HasTexts, one_plain}
use Rattle.cu_read.proofs.PlainReaders.{integer_plain, integers_plain, new_sizes_plain}
use Rattle.cu_read.proofs.Row.{Laws}
use Rattle.cu_read.proofs.RowsRead.{args_read}
use Rattle.cu_read.proofs.Steps.{args_are, member_alone, alone_read, by_name}

-- ---- what is read says it

shape_says : (op : List ℕ) (d : Data) → IfOk (new_shape_in op d) (IsNewShape op d)
shape_says op d =
    let said : Result NewShape NodeCode → Type 0 = λ r. IfOk r (IsNewShape op d) in
    by_name op (codes "reshape") _ _ said (λ is. member_alone _ _ NewShape.Sizes (IsNewShape op d) (λ m sizes h. (is, m, h)))
    (by_name op (codes "expand_dims") _ _ said (λ is. member_alone _ _ NewShape.Expanded (IsNewShape op d) (λ m axis h. (is, m, h)))
    (by_name op (codes "squeeze") _ _ said (λ is. member_alone _ _ NewShape.Squeezed (IsNewShape op d) (λ m axes h. (is, m, h))) tt))

-- ---- what says it is read

abbrev Reads : Data → NewShape → List ℕ → Type 0
Reads d shape op = new_shape_in op d ≡ Ok shape

shape_read : (op : List ℕ) (d : Data) (shape : NewShape) → IsNewShape op d shape → new_shape_in op d ≡ Ok shape
shape_read op d (NewShape.Sizes sizes) h =
    subst (Reads d (NewShape.Sizes sizes)) (sym h.0) (alone_read (is_object_of 4 d) (member_of new_sizes_of (codes "shape") d) NewShape.Sizes sizes h.1 h.2)
shape_read op d (NewShape.Expanded axis) h =
    subst (Reads d (NewShape.Expanded axis)) (sym h.0) (alone_read (is_object_of 4 d) (member_of integer_of (codes "axis") d) NewShape.Expanded axis h.1 h.2)
shape_read op d (NewShape.Squeezed axes) h =
    subst (Reads d (NewShape.Squeezed axes)) (sym h.0) (alone_read (is_object_of 4 d) (member_of integers_of (codes "axes") d) NewShape.Squeezed axes h.1 h.2)

-- no family before this one has such an operator
alone : (op name : List ℕ) (ids : List (List ℕ)) (d : Data) → op ≡ name → row_of name ids d ≡ new_shape_row name ids d → row_of op ids d ≡ new_shape_row op ids d
alone op name ids d is e = subst (λ (o : List ℕ). row_of o ids d ≡ new_shape_row o ids d) (sym is) e

shape_alone : (ids : List (List ℕ)) (op : List ℕ) (d : Data) (shape : NewShape) → IsNewShape op d shape → row_of op ids d ≡ new_shape_row op ids d
shape_alone ids op d (NewShape.Sizes sizes) h = alone op (codes "reshape") ids d h.0 refl
shape_alone ids op d (NewShape.Expanded axis) h = alone op (codes "expand_dims") ids d h.0 refl
shape_alone ids op d (NewShape.Squeezed axes) h = alone op (codes "squeeze") ids d h.0 refl

-- ---- its numbers

shape_in_ranges : (op : List ℕ) (d : Data) (shape : NewShape) → IsNewShape op d shape → is_new_shape shape ≡ true
shape_in_ranges op d (NewShape.Sizes sizes) h = member_passes new_sizes_of are_new_sizes (λ v x e. passes are_new_sizes (integers_of v) x e) (get (codes "shape") d) sizes h.2
shape_in_ranges op d (NewShape.Expanded axis) h = refl
shape_in_ranges op d (NewShape.Squeezed axes) h = refl

-- ---- no float

shape_plain : (ids : List (List ℕ)) (op : List ℕ) (d : Data) (shape : NewShape) (args : List Arg) → HasTexts d → IsNewShape op d shape → HasArgs ids d args → has_float d ≡ false
shape_plain ids op d (NewShape.Sizes sizes) args t is h = one_plain new_sizes_of (codes "shape") ids d sizes args new_sizes_plain refl t is.1 is.2 h
shape_plain ids op d (NewShape.Expanded axis) args t is h = one_plain integer_of (codes "axis") ids d axis args integer_plain refl t is.1 is.2 h
shape_plain ids op d (NewShape.Squeezed axes) args t is h = one_plain integers_of (codes "axes") ids d axes args integers_plain refl t is.1 is.2 h

-- ---- the form with this shape

with_shape : (ids : List (List ℕ)) (op : List ℕ) (d : Data) (found : Result NewShape NodeCode) (args : Result (List Arg) NodeCode) → args_in ids d ≡ args
    → IfOk found (IsNewShape op d) → IfOk (found >>= λ shape. args >>= λ xs. Ok (Form.Reshape xs shape)) (SaysReshape ids op d)
with_shape ids op d (Ok shape) (Ok xs) r h = (h, args_are ids d xs r)
with_shape ids op d (Ok shape) (Err code) r h = tt
with_shape ids op d (Err code) args r h = tt

pub new_shape_says : (ids : List (List ℕ)) (op : List ℕ) (d : Data) → IfOk (new_shape_row op ids d) (SaysReshape ids op d)
new_shape_says ids op d = with_shape ids op d (new_shape_in op d) (args_in ids d) refl (shape_says op d)

with_args : (found : Result NewShape NodeCode) (args : Result (List Arg) NodeCode) (shape : NewShape) (xs : List Arg) → found ≡ Ok shape → args ≡ Ok xs
    → (found >>= λ s. args >>= λ ys. Ok (Form.Reshape ys s)) ≡ Ok (Form.Reshape xs shape)
with_args found args shape xs h r = rw (h, r) refl

pub reshape_laws : (ids : List (List ℕ)) (op : List ℕ) (d : Data) (form : Form) → SaysReshape ids op d form → Laws ids op d form
reshape_laws ids op d (Form.Reshape args shape) h = record {
  read = shape_alone ids op d shape h.0 ∙ with_args (new_shape_in op d) (args_in ids d) shape args (shape_read op d shape h.0) (args_read ids d args h.1);
  ranges = shape_in_ranges op d shape h.0;
  plain = λ t. shape_plain ids op d shape args t h.0 h.1;
}
reshape_laws ids op d form h = absurd h
