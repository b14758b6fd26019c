-- A text is read as a layout exactly where it has the form of a `.zarray` of this layout.
use Rattle.std.proofs.Common.{◌≡◌, ℕ, ℤ, ◌↔◌, nat_le, ◌||◌, ◌⊎◌, inl, inr, ⊎_elim, List, length, codes, Some, is_some, Result, Ok, Err, refl, ap, subst, ◌∙◌, le-leb}
use Rattle.std.specs.Prelude.{true}
use Rattle.std.specs.Str.{is_utf8}
use Rattle.std.proofs.lemmas.Bool.{leb-true}
use Rattle.std.proofs.lemmas.Str.{IsUtf8-from_is_utf8, is_utf8-from_IsUtf8}
use Rattle.serde_json.specs.Data.{unsigned, Data, null, boolean, number, string, array, object, no_items}
use Rattle.serde_json.specs.Find.{get, as_null, as_object}
use Rattle.serde_json.specs.Read.{read}
use Rattle.cu_num.specs.declared.types.Dtype.{Dtype}
use Rattle.cu_num.specs.declared.layout.Encoding.TheVariants.{V2}
use Rattle.cu_num.specs.declared.layout.Endian.{Endian}
use Rattle.cu_num.specs.declared.layout.Sep.{Sep}
use Rattle.cu_num.specs.declared.layout.Sep.TheVariants.{Dot}
use Rattle.cu_grid.specs.Grid.{RegularGrid}
use Rattle.cu_zarr.specs.Layout.{ArrayLayout}
use Rattle.cu_json.specs.Form.{is_text, is_number, is_list_of}
use Rattle.cu_meta_members.specs.Members.{separator_of}
use Rattle.cu_meta_members.specs.Storable.{IsStorable}
use Rattle.cu_meta_members.proofs.Sizes.{same_ranks}
use Rattle.cu_v2.specs.Fault.{ZarrayFault}
use Rattle.cu_v2.specs.Members.{element_of, plain_grid_of, is_uncoded, fill_or_null}
use Rattle.cu_v2.specs.Zarray.{zarray_in, zarray_layout}
use Rattle.cu_v2.specs.Form.{IsZarrayValue, IsZarray}
use Rattle.cu_v2.proofs.Values.{some_of, true_of, is_null, is_this_text, is_this_number}
use Rattle.cu_v2.proofs.Elements.{IsElementText, is_element, element_back, byte_is_little}
use Rattle.cu_v2.proofs.Parts.{IsGridOf, is_grid, grid_back, both, no_filters, is_fill, fill_back, fill_range, is_separator, separator_back}

fault_is_no_layout : (e : ZarrayFault) (l : ArrayLayout) → Err e ≡ Ok l → ⊥
fault_is_no_layout e l h = cc

same_layout : (r : Result ArrayLayout ZarrayFault) (l m : ArrayLayout) → r ≡ Ok l → r ≡ Ok m → l ≡ m
same_layout r l m e h = cc

-- ---- what is read has the form

-- the value has these members, from which the layout's parts are read
record HasParts (d : Data) (t : Dtype) (endian : Endian) (g : RegularGrid) (sep : Sep) : Type 0 where
  version : get (codes "zarr_format") d ≡ Some (number (unsigned 2))
  shape : Data
  chunks : Data
  dtype : Data
  compressor : Data
  order : Data
  filters : Data
  has_shape : get (codes "shape") d ≡ Some shape
  has_chunks : get (codes "chunks") d ≡ Some chunks
  has_dtype : get (codes "dtype") d ≡ Some dtype
  has_compressor : get (codes "compressor") d ≡ Some compressor
  has_order : get (codes "order") d ≡ Some order
  has_filters : get (codes "filters") d ≡ Some filters
  is_element : IsElementText dtype t endian
  is_grid : IsGridOf t shape chunks g
  is_plain : compressor ≡ null
  is_unfiltered : (filters ≡ null) ⊎ (filters ≡ array no_items)
  is_row_major : Some order ≡ Some (string (codes "C"))
  separator : separator_of Dot (get (codes "dimension_separator") d) ≡ Some sep

value_told : (d fill : Data) (t : Dtype) (endian : Endian) (g : RegularGrid) (sep : Sep) (x : ℤ) → HasParts d t endian g sep → get (codes "fill_value") d ≡ Some fill
    → fill_or_null t fill ≡ Some x → IsZarrayValue d (record { dtype = t; shape = g.shape; chunk = g.chunk; encoding = V2 sep; endian = endian; fill = x })
value_told d fill t endian g sep x p has is = record {
  version = p.version;
  shape = p.has_shape ∙ ap Some p.is_grid.sizes.is;
  chunks = p.has_chunks ∙ ap Some p.is_grid.sides.is;
  dtype = (p.is_element.text, p.has_dtype ∙ ap Some p.is_element.is, p.is_element.says);
  compressor = p.has_compressor ∙ ap Some p.is_plain;
  filters = ⊎_elim (λ (e : p.filters ≡ null). inl (p.has_filters ∙ ap Some e)) (λ (e : p.filters ≡ array no_items). inr (p.has_filters ∙ ap Some e)) p.is_unfiltered;
  order = p.has_order ∙ p.is_row_major;
  fill = (fill, has, is_fill t fill x is);
  separator = is_separator (get (codes "dimension_separator") d) sep p.separator;
  axes = p.is_grid.sizes.few;
  grid = p.is_grid.fits;
}

read_told : (d : Data) (l : ArrayLayout) → zarray_in d ≡ Ok l → IsZarrayValue d l
read_told d l h =
    let object_there = true_of (is_some (as_object d)) (λ other. fault_is_no_layout _ l (rw other at h)) in
    let h0 = rw object_there at h in
    let version = true_of (is_number 2 (get (codes "zarr_format") d)) (λ other. fault_is_no_layout _ l (rw other at h0)) in
    let h1 = rw version at h0 in
    some_of (get (codes "shape") d) (λ none. fault_is_no_layout _ l (rw none at h1)) (λ shape e1.
    let h2 = rw e1 at h1 in
    some_of (get (codes "chunks") d) (λ none. fault_is_no_layout _ l (rw none at h2)) (λ chunks e2.
    let h3 = rw e2 at h2 in
    some_of (get (codes "dtype") d) (λ none. fault_is_no_layout _ l (rw none at h3)) (λ dtype e3.
    let h4 = rw e3 at h3 in
    some_of (get (codes "compressor") d) (λ none. fault_is_no_layout _ l (rw none at h4)) (λ compressor e4.
    let h5 = rw e4 at h4 in
    some_of (get (codes "fill_value") d) (λ none. fault_is_no_layout _ l (rw none at h5)) (λ fill e5.
    let h6 = rw e5 at h5 in
    some_of (get (codes "order") d) (λ none. fault_is_no_layout _ l (rw none at h6)) (λ order e6.
    let h7 = rw e6 at h6 in
    some_of (get (codes "filters") d) (λ none. fault_is_no_layout _ l (rw none at h7)) (λ filters e7.
    let h8 = rw e7 at h7 in
    some_of (element_of dtype) (λ none. fault_is_no_layout _ l (rw none at h8)) (λ element e8.
    let h9 = rw e8 at h8 in
    some_of (plain_grid_of element.0 shape chunks) (λ none. fault_is_no_layout _ l (rw none at h9)) (λ g e9.
    let h10 = rw e9 at h9 in
    let uncoded = true_of (is_uncoded compressor filters) (λ other. fault_is_no_layout _ l (rw other at h10)) in
    let h11 = rw uncoded at h10 in
    let row_major = true_of (is_text (codes "C") (Some order)) (λ other. fault_is_no_layout _ l (rw other at h11)) in
    let h12 = rw row_major at h11 in
    some_of (fill_or_null element.0 fill) (λ none. fault_is_no_layout _ l (rw none at h12)) (λ x e10.
    let h13 = rw e10 at h12 in
    some_of (separator_of Dot (get (codes "dimension_separator") d)) (λ none. fault_is_no_layout _ l (rw none at h13)) (λ sep e11.
    let h14 = rw e11 at h13 in
    let plain = both (is_some (as_null compressor)) (is_some (as_null filters) || is_list_of 0 filters) uncoded in
    let parts : HasParts d element.0 element.1 g sep = record {
      version = is_this_number 2 (get (codes "zarr_format") d) version;
      shape = shape;
      chunks = chunks;
      dtype = dtype;
      compressor = compressor;
      order = order;
      filters = filters;
      has_shape = e1;
      has_chunks = e2;
      has_dtype = e3;
      has_compressor = e4;
      has_order = e6;
      has_filters = e7;
      is_element = is_element dtype element.0 element.1 e8;
      is_grid = is_grid element.0 shape chunks g e9;
      is_plain = is_null compressor plain.0;
      is_unfiltered = no_filters filters plain.1;
      is_row_major = is_this_text (codes "C") (Some order) row_major;
      separator = e11;
    } in
    let m : ArrayLayout = record { dtype = element.0; shape = g.shape; chunk = g.chunk; encoding = V2 sep; endian = element.1; fill = x } in
    subst (IsZarrayValue d) (same_layout (Ok m) m l refl h14) (value_told d fill element.0 element.1 g sep x parts e5 e10))))))))))))

has_form : (bytes : List ℕ) (l : ArrayLayout) → zarray_layout bytes ≡ Ok l → IsZarray bytes l
unfolding zarray_layout
has_form bytes l h =
    let short = true_of (nat_le (length bytes) 1048576) (λ long. fault_is_no_layout _ l (rw long at h)) in
    let h0 = rw short at h in
    let text = true_of (is_utf8 bytes) (λ other. fault_is_no_layout _ l (rw other at h0)) in
    let h1 = rw text at h0 in
    some_of (read bytes) (λ none. fault_is_no_layout _ l (rw none at h1)) (λ d e.
    let h2 = rw e at h1 in
    record { short = leb-true (length bytes) 1048576 short; utf8 = IsUtf8-from_is_utf8 bytes text; value = d; reads = e; says = read_told d l h2 })

-- ---- an array may be stored in it

pub form_storable : (d : Data) (l : ArrayLayout) → IsZarrayValue d l → IsStorable l
form_storable d l z = record {
  axes = z.axes;
  grid = z.grid;
  fill = fill_range l.dtype z.fill.0 l.fill z.fill.2;
  endian = byte_is_little z.dtype.0 l.dtype l.endian z.dtype.2;
}

pub read_storable : (bytes : List ℕ) (l : ArrayLayout) → zarray_layout bytes ≡ Ok l → IsStorable l
read_storable bytes l h = let f = has_form bytes l h in form_storable f.value l f.says

-- ---- what has the form is read

object_with_member : (d v : Data) (name : List ℕ) → get name d ≡ Some v → is_some (as_object d) ≡ true
object_with_member null v name h = cc
object_with_member (boolean b) v name h = cc
object_with_member (number n) v name h = cc
object_with_member (string s) v name h = cc
object_with_member (array items) v name h = cc
object_with_member (object ms) v name h = refl

record HasFilters (d : Data) : Type 0 where
  filters : Data
  has : get (codes "filters") d ≡ Some filters
  none : is_uncoded null filters ≡ true

filters_back : (d : Data) → (get (codes "filters") d ≡ Some null) ⊎ (get (codes "filters") d ≡ Some (array no_items)) → HasFilters d
filters_back d h = ⊎_elim
    (λ (e : get (codes "filters") d ≡ Some null). record { filters = null; has = e; none = refl })
    (λ (e : get (codes "filters") d ≡ Some (array no_items)). record { filters = array no_items; has = e; none = refl }) h

value_back : (d : Data) (l : ArrayLayout) → IsZarrayValue d l → zarray_in d ≡ Ok l
value_back d l z =
    let whole = object_with_member d (number (unsigned 2)) (codes "zarr_format") z.version in
    let f = filters_back d z.filters in
    let s = separator_back (get (codes "dimension_separator") d) l.encoding z.separator in
    let few = same_ranks l (form_storable d l z) in
    rw (
      whole,
      z.version,
      z.shape,
      z.chunks,
      z.dtype.1,
      z.compressor,
      z.fill.1,
      z.order,
      f.has,
      element_back z.dtype.0 l.dtype l.endian z.dtype.2,
      grid_back l.dtype l.shape l.chunk z.axes few z.grid,
      f.none,
      fill_back l.dtype z.fill.0 l.fill z.fill.2,
      s.reads,
    )
    (ap (λ e. Ok (record { dtype = l.dtype; shape = l.shape; chunk = l.chunk; encoding = e; endian = l.endian; fill = l.fill })) s.is)

form_read : (bytes : List ℕ) (l : ArrayLayout) → IsZarray bytes l → zarray_layout bytes ≡ Ok l
unfolding zarray_layout
form_read bytes l f = rw (le-leb _ _ f.short, is_utf8-from_IsUtf8 bytes f.utf8, f.reads) (value_back f.value l f.says)

pub exact : (bytes : List ℕ) (l : ArrayLayout) → (zarray_layout bytes ≡ Ok l) ↔ IsZarray bytes l
exact bytes l = (has_form bytes l, form_read bytes l)
