-- What a text of the load form is read as, and what the array that it gives has.
use Rattle.std.proofs.Common.{◌≡◌, ℕ, ◌+◌, ◌≤◌, ◌<◌, ◌^◌, ◌==◌, nat_le, ℤ, pos, List, [], ◌∷◌, ◌++◌, length, codes, All, Option, Some, None, is_none, option_and_then, IsUtf8, Result, Ok, Err, IfOk, IfErr, IfSome, refl, sym, ap, subst, ◌∙◌, arith, length-append}
use Rattle.std.specs.Prelude.{Bool as Test, true, false}
use Rattle.std.specs.Result.{result_ok}
use Rattle.std.specs.Str.{is_utf8, chars}
use Rattle.std.specs.Int.Signed.{le_z_yes}
use Rattle.std.proofs.lemmas.Bool.{le-leb, eqb-true}
use Rattle.std.proofs.lemmas.List.Elements.{All-nil, All-push}
use Rattle.std.proofs.lemmas.Str.{IsUtf8-from_is_utf8, is_utf8-from_IsUtf8}
use Rattle.serde_json.specs.Data.{Data, Items, no_items, item}
use Rattle.serde_json.specs.Events.{items_len}
use Rattle.serde_json.specs.Find.{get, as_str}
use Rattle.serde_json.specs.Read.{read}
use Rattle.serde_json.specs.View.{items_view}
use Rattle.serde_json.specs.declared.value.Value.{Value}
use Rattle.serde_json.proofs.OnLiterals.{serde_json_on_literals}
use Rattle.serde_json.proofs.Views.{items_len-items_view}
use Rattle.cu_num.specs.Dtype.{size_of, InRange}
use Rattle.cu_num.specs.declared.types.Dtype.{Dtype}
use Rattle.cu_num.specs.declared.layout.Endian.TheVariants.{Little}
use Rattle.cu_num.specs.declared.types.Dtype.TheVariants.{Bool, Int8, Int16, Int32, Int64, Uint8, Uint16, Uint32, Uint64}
use Rattle.cu_reduce.proofs.Folding.{zero_in_range}
use Rattle.cu_shape.specs.Index.{product}
use Rattle.cu_grid.specs.Counts.{at_least_one}
use Rattle.cu_grid.specs.Grid.{RegularGrid}
use Rattle.cu_grid.specs.Limits.{first_fault, IsWithinLimits}
use Rattle.cu_grid.specs.declared.fault.GridFault.{GridFault}
use Rattle.cu_grid.proofs.Products.{product_within}
use Rattle.cu_meta_members.specs.Members.{fill_of}
use Rattle.cu_num.specs.TypeName.{dtype_named}
use Rattle.cu_meta_members.specs.Storable.{IsStorable}
use Rattle.cu_meta.proofs.Accepted.{few_sizes, fill_accepted}
use Rattle.cu_load.specs.Name.{name_in}
use Rattle.cu_name.specs.Name.{is_name}
use Rattle.cu_load.specs.LoadForm.{NamedLayout, GivenArray, given_by, IfCode, has_form, text_member, list_member, sizes_at, layout_given, elements_after, head_in, array_in, load_of, IsGivenArray}
use Rattle.cu_load.specs.declared.load_form.LoadForm.{LoadForm}
use Rattle.cu_load.specs.declared.load_form.LoadRefused.{LoadRefused}

-- ---- the text

longer : (m n : ℕ) → n < m → nat_le m n ≡ false
longer m n h = grind arith

pub load_too_long : (text : List ℕ) → 1048576 < length text → load_of text ≡ Err 8
unfolding load_of
load_too_long text long = rw (longer _ _ long) refl

false_unless : (b : Test) → (b ≡ true → ⊥) → b ≡ false
false_unless true h = absurd (h refl)
false_unless false h = refl

pub load_no_text : (text : List ℕ) → length text ≤ 1048576 → ¬ (IsUtf8 text) → load_of text ≡ Err 1
unfolding load_of
load_no_text text short refuted = rw (le-leb _ _ short, false_unless (is_utf8 text) (λ e. refuted (IsUtf8-from_is_utf8 text e))) refl

load_no_value : (text : List ℕ) → length text ≤ 1048576 → IsUtf8 text → read text ≡ None → load_of text ≡ Err 1
unfolding load_of
load_no_value text short utf8 none = rw (le-leb _ _ short, is_utf8-from_IsUtf8 text utf8, none) refl

pub load_value : (text : List ℕ) (d : Data) → length text ≤ 1048576 → IsUtf8 text → read text ≡ Some d → load_of text ≡ array_in d
unfolding load_of
load_value text d short utf8 value = rw (le-leb _ _ short, is_utf8-from_IsUtf8 text utf8, value) refl

pub refused_for_no_value : (text same : List ℕ) (e : LoadRefused) → length text ≤ 1048576 → IsUtf8 text → same ≡ text
    → IfCode e (λ code. (code ≡ 1) × (read same ≡ None)) → IfCode e (λ code. load_of text ≡ Err code)
refused_for_no_value text same (LoadRefused.Code code) short utf8 is h = load_no_value text short utf8 (ap read (sym is) ∙ h.1) ∙ ap (λ c. Err c) (sym h.0)
refused_for_no_value text same LoadRefused.NoMemory short utf8 is h = tt

-- ---- the answer

pub answered_ok : (text : List ℕ) (d : Data) (result : Result LoadForm LoadRefused) → load_of text ≡ array_in d
    → IfOk result (λ f. array_in d ≡ Ok (given_by f)) → IfOk result (λ f. load_of text ≡ Ok (given_by f))
answered_ok text d (Ok f) is h = is ∙ h
answered_ok text d (Err e) is h = tt

refused_with : (text : List ℕ) (d : Data) (e : LoadRefused) → load_of text ≡ array_in d → IfCode e (λ code. array_in d ≡ Err code) → IfCode e (λ code. load_of text ≡ Err code)
refused_with text d (LoadRefused.Code code) is h = is ∙ h
refused_with text d LoadRefused.NoMemory is h = tt

pub answered_code : (text : List ℕ) (d : Data) (result : Result LoadForm LoadRefused) → load_of text ≡ array_in d
    → IfErr result (λ e. IfCode e (λ code. array_in d ≡ Err code)) → IfErr result (λ e. IfCode e (λ code. load_of text ≡ Err code))
answered_code text d (Ok f) is h = tt
answered_code text d (Err e) is h = refused_with text d e is h

-- ---- the grid

pub small_grid : (made : Result RegularGrid GridFault) (result : Option RegularGrid) (size : ℕ) → result ≡ result_ok made
    → IfOk made (λ g. IsWithinLimits g size) → IfSome result (λ g. product g.shape ≤ 2 ^ 40)
small_grid (Ok g) result size is h =
    let within : product g.shape ≤ product (at_least_one g.shape) = product_within g.shape in
    let few : product (at_least_one g.shape) ≤ 2 ^ 40 = h.elements in
    let small : product g.shape ≤ 2 ^ 40 = omega arith in
    subst (λ r. IfSome r (λ k. product k.shape ≤ 2 ^ 40)) (sym is) small
small_grid (Err f) result size is h = subst (λ r. IfSome r (λ k. product k.shape ≤ 2 ^ 40)) (sym is) tt

-- ---- the elements

pub other_count : (d : Data) (head : NamedLayout) (items : List Value) (count : ℕ) (is : Test) → Ok head ≡ head_in d → Some (items_view items) ≡ list_member (codes "elements") d
    → count ≡ length items → is ≡ (count == product head.layout.shape) → is ≡ false → array_in d ≡ Err 6
other_count d head items count is h l n e f = rw (← h, ← l, items_len-items_view items, ← n, ← e, f) refl

no_elements : (d : Data) (head : NamedLayout) (items : List Value) (count : ℕ) (is : Test) → Ok head ≡ head_in d → Some (items_view items) ≡ list_member (codes "elements") d
    → count ≡ length items → is ≡ (count == product head.layout.shape) → is ≡ true → elements_after head.layout.dtype [] (items_view items) ≡ None → array_in d ≡ Err 7
no_elements d head items count is h l n e t none = rw (← h, ← l, items_len-items_view items, ← n, ← e, t, none) refl

pub refused_for_an_element : (d : Data) (head : NamedLayout) (items : List Value) (count : ℕ) (is : Test) (e : LoadRefused) → Ok head ≡ head_in d → Some (items_view items) ≡ list_member (codes "elements") d
    → count ≡ length items → is ≡ (count == product head.layout.shape) → is ≡ true
    → IfCode e (λ code. (code ≡ 7) × (elements_after head.layout.dtype [] (items_view items) ≡ None)) → IfCode e (λ code. array_in d ≡ Err code)
refused_for_an_element d head items count is (LoadRefused.Code code) h l n e t k = no_elements d head items count is h l n e t k.1 ∙ ap (λ c. Err c) (sym k.0)
refused_for_an_element d head items count is LoadRefused.NoMemory h l n e t k = tt

pub all_read : (d : Data) (head : NamedLayout) (items : List Value) (count : ℕ) (is : Test) (xs : List ℤ) → Ok head ≡ head_in d → Some (items_view items) ≡ list_member (codes "elements") d
    → count ≡ length items → is ≡ (count == product head.layout.shape) → is ≡ true → elements_after head.layout.dtype [] (items_view items) ≡ Some xs
    → array_in d ≡ Ok (record { name = head.name; layout = head.layout; elements = xs })
all_read d head items count is xs h l n e t x = rw (← h, ← l, items_len-items_view items, ← n, ← e, t, x) refl

-- ---- what a given array has

pub some_of : {A X : Type 0} (o : Option A) → (o ≡ None → ⊥) → ((x : A) → o ≡ Some x → X) → X
some_of None h f = absurd (h refl)
some_of (Some x) h f = f x refl

pub true_of : (b : Test) → (b ≡ false → ⊥) → b ≡ true
true_of true h = refl
true_of false h = absurd (h refl)

pub none_is_no_some : {A : Type 0} (x : A) → None ≡ Some x → ⊥
none_is_no_some x h = cc

pub code_is_no_head : (code : ℕ) (head : NamedLayout) → Err code ≡ Ok head → ⊥
code_is_no_head code head h = cc

pub code_is_no_array : (code : ℕ) (a : GivenArray) → Err code ≡ Ok a → ⊥
code_is_no_array code a h = cc

name_is : (value : Option Data) (name : List ℕ) → name_in value ≡ Some name → is_name name ≡ true
name_is value name h =
    some_of (option_and_then as_str value) (λ none. none_is_no_some name (rw none at h)) (λ text e.
    let h1 = rw e at h in
    let test = true_of (is_name text) (λ other. none_is_no_some name (rw other at h1)) in
    let h2 = rw test at h1 in
    let same : text ≡ name = cc in
    sym (ap is_name same) ∙ test)

few_sizes_at : (name : List ℕ) (d : Data) (sizes : List ℕ) → sizes_at name d ≡ Some sizes → length sizes ≤ 6
few_sizes_at name d sizes h =
    some_of (get name d) (λ none. none_is_no_some sizes (rw none at h)) (λ value e.
    few_sizes value sizes (rw e at h))

pub no_fault : (o : Option GridFault) → is_none o ≡ true → o ≡ None
no_fault None h = refl
no_fault (Some f) h = cc

layout_storable : (t : Dtype) (shape chunk : List ℕ) → length shape ≤ 6 → first_fault shape chunk (size_of t) ≡ None → IsStorable (layout_given t (record { shape = shape; chunk = chunk }))
layout_storable t shape chunk few fits = record { axes = few; grid = fits; fill = zero_in_range t; endian = λ _. refl }

record IsHead (head : NamedLayout) : Type 0 where
  name : is_name head.name ≡ true
  layout : IsStorable head.layout
  order : head.layout.endian ≡ Little

pub same_head : (a b : NamedLayout) (r : Result NamedLayout ℕ) → r ≡ Ok a → r ≡ Ok b → a ≡ b
same_head a b r e h = cc

head_accepted : (d : Data) (head : NamedLayout) → head_in d ≡ Ok head → IsHead head
head_accepted d head h =
    let form = true_of (has_form d) (λ other. code_is_no_head 2 head (rw other at h)) in
    let h1 = rw form at h in
    some_of (name_in (get (codes "name") d)) (λ none. code_is_no_head 3 head (rw none at h1)) (λ name e2.
    let h2 = rw e2 at h1 in
    some_of (option_and_then dtype_named (text_member (codes "data_type") d)) (λ none. code_is_no_head 4 head (rw none at h2)) (λ t e3.
    let h3 = rw e3 at h2 in
    some_of (sizes_at (codes "shape") d) (λ none. code_is_no_head 5 head (rw none at h3)) (λ shape e4.
    let h4 = rw e4 at h3 in
    some_of (sizes_at (codes "chunk_shape") d) (λ none. code_is_no_head 5 head (rw none at h4)) (λ chunk e5.
    let h5 = rw e5 at h4 in
    let fits = true_of (is_none (first_fault shape chunk (size_of t))) (λ fault. code_is_no_head 5 head (rw fault at h5)) in
    let h6 = rw fits at h5 in
    let made : NamedLayout = record { name = name; layout = layout_given t (record { shape = shape; chunk = chunk }) } in
    let same : made ≡ head = same_head made head (Ok made) refl h6 in
    subst IsHead same (record {
      name = name_is (get (codes "name") d) name e2;
      layout = layout_storable t shape chunk (few_sizes_at (codes "shape") d shape e4) (no_fault _ fits);
      order = refl;
    })))))

record AreElements (t : Dtype) (wanted : ℕ) (xs : List ℤ) : Type 0 where
  count : length xs ≡ wanted
  range : All (InRange t) xs

elements_accepted : (t : Dtype) (front elements : List ℤ) (items : Items) → All (InRange t) front → elements_after t front items ≡ Some elements
    → AreElements t (length front + items_len items) elements
elements_accepted t front elements no_items before h =
    let same : front ≡ elements = cc in
    subst (AreElements t (length front + 0)) same (record { count = omega arith; range = before })
elements_accepted t front elements (item d ds) before h =
    some_of (fill_of t d) (λ none. none_is_no_some elements (rw none at h)) (λ x e.
    let rest = elements_accepted t (front ++ x ∷ []) elements ds (All-push (InRange t) front x before (fill_accepted t d x e)) (rw e at h) in
    record { count = omega (arith, rest.count, length-append front (x ∷ [])); range = rest.range })

pub same_array : (a b : GivenArray) (r : Result GivenArray ℕ) → r ≡ Ok a → r ≡ Ok b → a ≡ b
same_array a b r e h = cc

array_accepted : (d : Data) (a : GivenArray) → array_in d ≡ Ok a → IsGivenArray a
array_accepted d a h = head_found (head_in d) refl
  where
    head_found : (r : Result NamedLayout ℕ) → head_in d ≡ r → IsGivenArray a
    head_found (Err code) e = absurd (code_is_no_array code a (rw e at h))
    head_found (Ok head) e =
        let is = head_accepted d head e in
        let h1 = rw e at h in
        some_of (list_member (codes "elements") d) (λ none. code_is_no_array 2 a (rw none at h1)) (λ items e2.
        let h2 = rw e2 at h1 in
        let many = true_of (items_len items == product head.layout.shape) (λ other. code_is_no_array 6 a (rw other at h2)) in
        let h3 = rw many at h2 in
        some_of (elements_after head.layout.dtype [] items) (λ none. code_is_no_array 7 a (rw none at h3)) (λ elements e4.
        let h4 = rw e4 at h3 in
        let are = elements_accepted head.layout.dtype [] elements items (All-nil (InRange head.layout.dtype)) e4 in
        let wanted : items_len items ≡ product head.layout.shape = eqb-true (items_len items) (product head.layout.shape) many in
        let many_elements : length elements ≡ product head.layout.shape = omega arith in
        let made : GivenArray = record { name = head.name; layout = head.layout; elements = elements } in
        let same : made ≡ a = same_array made a (Ok made) refl h4 in
        subst IsGivenArray same (record { name = is.name; layout = is.layout; order = is.order; count = many_elements; elements = are.range })))

pub load_accepted : (text : List ℕ) (a : GivenArray) → load_of text ≡ Ok a → IsGivenArray a
unfolding load_of
load_accepted text a h =
    let short = true_of (nat_le (length text) 1048576) (λ long. code_is_no_array 8 a (rw long at h)) in
    let h0 = rw short at h in
    let utf8 = true_of (is_utf8 text) (λ other. code_is_no_array 1 a (rw other at h0)) in
    let h1 = rw utf8 at h0 in
    some_of (read text) (λ none. code_is_no_array 1 a (rw none at h1)) (λ d e.
    array_accepted d a (rw e at h1))

pub given : (text : List ℕ) (result : Result LoadForm LoadRefused) → IfOk result (λ f. load_of text ≡ Ok (given_by f)) → IfOk result (λ f. IsGivenArray (given_by f))
given text (Ok f) h = load_accepted text (given_by f) h
given text (Err e) h = tt

-- ---- some texts

six_integers : load_of (codes "{\"name\":\"a\",\"data_type\":\"int32\",\"shape\":[6],\"chunk_shape\":[4],\"elements\":[1,2,3,4,5,6]}")
    ≡ Ok (record { name = codes "a"; layout = layout_given Int32 (record { shape = 6 ∷ []; chunk = 4 ∷ [] }); elements = pos 1 ∷ pos 2 ∷ pos 3 ∷ pos 4 ∷ pos 5 ∷ pos 6 ∷ [] })
unfolding load_of serde_json_on_literals is_utf8 chars
six_integers = refl

-- an array of rank 0 has one element
one_truth : load_of (codes "{\"name\":\"a\",\"data_type\":\"bool\",\"shape\":[],\"chunk_shape\":[],\"elements\":[true]}")
    ≡ Ok (record { name = codes "a"; layout = layout_given Bool (record { shape = []; chunk = [] }); elements = pos 1 ∷ [] })
unfolding load_of serde_json_on_literals is_utf8 chars
one_truth = refl
