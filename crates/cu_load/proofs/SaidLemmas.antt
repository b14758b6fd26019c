-- A text is read as an array exactly where it says that array.
use Rattle.std.proofs.Common.{◌≡◌, ◌==◌, ℕ, ℤ, nat_le, List, [], ◌∷◌, ◌++◌, length, codes, Some, None, option_and_then, is_none, Result, Ok, Err, refl, sym, ap, ◌∙◌, subst, append_assoc}
use Rattle.std.specs.Prelude.{true}
use Rattle.std.specs.Str.{is_utf8}
use Rattle.std.proofs.lemmas.Bool.{leb-true, le-leb, eqb-true, eq-eqb}
use Rattle.std.proofs.lemmas.List.{append-nil}
use Rattle.serde_json.specs.Data.{Data, Items, no_items, item}
use Rattle.serde_json.specs.Events.{items_len}
use Rattle.serde_json.specs.Find.{get}
use Rattle.serde_json.specs.Read.{read}
use Rattle.cu_num.specs.Dtype.{size_of}
use Rattle.cu_num.specs.declared.types.Dtype.{Dtype}
use Rattle.cu_num.specs.TypeName.{dtype_named}
use Rattle.cu_shape.specs.Index.{product}
use Rattle.cu_grid.specs.Limits.{first_fault}
use Rattle.cu_meta_members.specs.Members.{fill_of}
use Rattle.cu_meta.specs.Said.{said_grid}
use Rattle.cu_zarr.specs.Layout.{ArrayLayout}
use Rattle.cu_load.specs.Name.{name_in}
use Rattle.cu_load.proofs.LoadLemmas.{some_of, true_of, none_is_no_some, code_is_no_head, code_is_no_array, no_fault, same_head, same_array}
use Rattle.cu_load.specs.LoadForm.{NamedLayout, GivenArray, has_form, text_member, list_member, sizes_at, layout_given, elements_after, head_in, array_in, load_of}
use Rattle.cu_load.specs.Said.{SayElements, SaysArray, IsTextOf}

-- ---- the elements

record IsSplit (t : Dtype) (front all : List ℤ) (items : Items) : Type 0 where
  rest : List ℤ
  whole : all ≡ front ++ rest
  are : SayElements t items rest

elements_split : (t : Dtype) (front all : List ℤ) (items : Items) → elements_after t front items ≡ Some all → IsSplit t front all items
elements_split t front all no_items h =
    let same : front ≡ all = cc in
    record { rest = []; whole = sym same ∙ sym (append-nil front); are = tt }
elements_split t front all (item d ds) h =
    some_of (fill_of t d) (λ none. none_is_no_some all (rw none at h)) (λ x e.
    let behind = elements_split t (front ++ x ∷ []) all ds (rw e at h) in
    record { rest = x ∷ behind.rest; whole = behind.whole ∙ append_assoc front (x ∷ []) behind.rest; are = (e, behind.are) })

elements_joined : (t : Dtype) (front rest : List ℤ) (items : Items) → SayElements t items rest → elements_after t front items ≡ Some (front ++ rest)
elements_joined t front [] no_items are = ap Some (sym (append-nil front))
elements_joined t front (x ∷ xs) (item d ds) are =
    rw are.0 (elements_joined t (front ++ x ∷ []) xs ds are.1 ∙ ap Some (append_assoc front (x ∷ []) xs))
elements_joined t front rest items are = absurd are

-- ---- the name and the layout

record SaysHead (d : Data) (head : NamedLayout) : Type 0 where
  form : has_form d ≡ true
  name : name_in (get (codes "name") d) ≡ Some head.name
  dtype : option_and_then dtype_named (text_member (codes "data_type") d) ≡ Some head.layout.dtype
  shape : sizes_at (codes "shape") d ≡ Some head.layout.shape
  chunk : sizes_at (codes "chunk_shape") d ≡ Some head.layout.chunk
  grid : first_fault head.layout.shape head.layout.chunk (size_of head.layout.dtype) ≡ None
  layout : head.layout ≡ layout_given head.layout.dtype (said_grid head.layout)

head_said : (d : Data) (head : NamedLayout) → head_in d ≡ Ok head → SaysHead d head
head_said d head h =
    let form = true_of (has_form d) (λ other. code_is_no_head 2 head (rw other at h)) in
    let h1 = rw form at h in
    some_of (name_in (get (codes "name") d)) (λ none. code_is_no_head 3 head (rw none at h1)) (λ name e2.
    let h2 = rw e2 at h1 in
    some_of (option_and_then dtype_named (text_member (codes "data_type") d)) (λ none. code_is_no_head 4 head (rw none at h2)) (λ t e3.
    let h3 = rw e3 at h2 in
    some_of (sizes_at (codes "shape") d) (λ none. code_is_no_head 5 head (rw none at h3)) (λ shape e4.
    let h4 = rw e4 at h3 in
    some_of (sizes_at (codes "chunk_shape") d) (λ none. code_is_no_head 5 head (rw none at h4)) (λ chunk e5.
    let h5 = rw e5 at h4 in
    let fits = true_of (is_none (first_fault shape chunk (size_of t))) (λ fault. code_is_no_head 5 head (rw fault at h5)) in
    let h6 = rw fits at h5 in
    let made : NamedLayout = record { name = name; layout = layout_given t (record { shape = shape; chunk = chunk }) } in
    let same : made ≡ head = same_head made head (Ok made) refl h6 in
    let said : SaysHead d made = record { form = form; name = e2; dtype = e3; shape = e4; chunk = e5; grid = no_fault _ fits; layout = refl } in
    subst (SaysHead d) same said))))

said_head : (d : Data) (a : GivenArray) → SaysArray d a → head_in d ≡ Ok (record { name = a.name; layout = layout_given a.layout.dtype (said_grid a.layout) })
said_head d a says = rw (says.form, says.name, says.dtype, says.shape, says.chunk, says.grid) refl

-- ---- the whole

array_said : (d : Data) (a : GivenArray) → array_in d ≡ Ok a → SaysArray d a
array_said d a h = head_found (head_in d) refl
  where
    head_found : (r : Result NamedLayout ℕ) → head_in d ≡ r → SaysArray d a
    head_found (Err code) e = absurd (code_is_no_array code a (rw e at h))
    head_found (Ok head) e =
        let is = head_said d head e in
        let h1 = rw e at h in
        some_of (list_member (codes "elements") d) (λ none. code_is_no_array 2 a (rw none at h1)) (λ items e2.
        let h2 = rw e2 at h1 in
        let many = true_of (items_len items == product head.layout.shape) (λ other. code_is_no_array 6 a (rw other at h2)) in
        let h3 = rw many at h2 in
        some_of (elements_after head.layout.dtype [] items) (λ none. code_is_no_array 7 a (rw none at h3)) (λ elements e4.
        let h4 = rw e4 at h3 in
        let split = elements_split head.layout.dtype [] elements items e4 in
        let made : GivenArray = record { name = head.name; layout = head.layout; elements = elements } in
        let same : made ≡ a = same_array made a (Ok made) refl h4 in
        let said : SaysArray d made = record {
          form = is.form;
          name = is.name;
          dtype = is.dtype;
          shape = is.shape;
          chunk = is.chunk;
          grid = is.grid;
          layout = is.layout;
          items = items;
          listed = e2;
          count = eqb-true (items_len items) (product head.layout.shape) many;
          elements = subst (SayElements head.layout.dtype items) (sym split.whole) split.are;
        } in
        subst (SaysArray d) same said))

said_array : (d : Data) (a : GivenArray) → SaysArray d a → array_in d ≡ Ok a
said_array d a says =
    rw (said_head d a says, says.listed, eq-eqb (items_len says.items) (product a.layout.shape) says.count, elements_joined a.layout.dtype [] a.elements says.items says.elements)
    (ap (λ (l : ArrayLayout). Ok (record { name = a.name; layout = l; elements = a.elements })) (sym says.layout))

pub load_said : (text : List ℕ) (a : GivenArray) → load_of text ≡ Ok a → IsTextOf text a
unfolding load_of
load_said text a h =
    let short = true_of (nat_le (length text) 1048576) (λ long. code_is_no_array 8 a (rw long at h)) in
    let h0 = rw short at h in
    let utf8 = true_of (is_utf8 text) (λ other. code_is_no_array 1 a (rw other at h0)) in
    let h1 = rw utf8 at h0 in
    some_of (read text) (λ none. code_is_no_array 1 a (rw none at h1)) (λ d e.
    record { short = leb-true (length text) 1048576 short; utf8 = utf8; value = d; reads = e; says = array_said d a (rw e at h1) })

pub said_load : (text : List ℕ) (a : GivenArray) → IsTextOf text a → load_of text ≡ Ok a
unfolding load_of
said_load text a is = rw (le-leb _ _ is.short, is.utf8, is.reads) (said_array is.value a is.says)
