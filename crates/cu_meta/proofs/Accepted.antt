-- A text is read as a layout exactly where it says that layout, and it is one in which an array may be stored.
use Rattle.std.proofs.Common.{◌≡◌, ◌≤◌, ℕ, ◌+◌, nat_le, ℤ, ◌≤ℤ◌, int_lt, ◌&&◌, not, List, [], ◌∷◌, ◌++◌, length, codes, Option, Some, None, is_none, option_map, if◌then◌else◌, Result, Ok, Err, refl, subst, arith, length-append}
use Rattle.std.specs.Prelude.{Bool as Test, true, false}
use Rattle.std.specs.Str.{is_utf8}
use Rattle.std.specs.Int.Signed.{lt_z_no, le_z_yes}
use Rattle.std.proofs.lemmas.Bool.{leb-true, le-leb, eq-eqb}
use Rattle.serde_json.specs.Data.{Data, Items, no_items, item}
use Rattle.serde_json.specs.Find.{get, at, as_bool, as_array, as_object, as_number, as_integer}
use Rattle.serde_json.specs.Events.{items_len}
use Rattle.serde_json.specs.Read.{read}
use Rattle.cu_num.specs.Dtype.{size_of, least, greatest, InRange}
use Rattle.cu_num.specs.declared.types.Dtype.{Dtype}
use Rattle.cu_num.specs.declared.types.Dtype.TheVariants.{Bool, Int8, Int16, Int32, Int64, Uint8, Uint16, Uint32, Uint64}
use Rattle.cu_num.specs.declared.layout.Endian.{Endian}
use Rattle.cu_num.specs.declared.layout.Endian.TheVariants.{Little}
use Rattle.cu_grid.specs.Grid.{RegularGrid}
use Rattle.cu_grid.specs.Limits.{first_fault}
use Rattle.cu_grid.specs.declared.fault.GridFault.{GridFault}
use Rattle.cu_zarr.specs.Layout.{ArrayLayout}
use Rattle.cu_json.specs.Form.{is_text, is_number, is_list_of, as_natural, naturals_after, naturals_of}
use Rattle.cu_meta.specs.Fault.{Fault}
use Rattle.cu_meta.specs.Part.{is_part_of, configuration_member}
use Rattle.cu_meta.specs.Members.{data_type_of, chunk_grid_of, encoding_of, endian_of, are_attributes, are_dimension_names, are_no_transformers, are_understood}
use Rattle.cu_meta_members.specs.Members.{within, truth, whole_of, fill_of}
use Rattle.cu_meta.specs.Metadata.{layout_in, read_metadata}
use Rattle.cu_meta.specs.Said.{said_grid, SaysLayout, IsMetadataOf}
use Rattle.cu_meta_members.specs.Storable.{IsStorable}

-- ---- a value that cannot be absent is there

some_of : {A X : Type 0} (o : Option A) → (o ≡ None → ⊥) → ((x : A) → o ≡ Some x → X) → X
some_of None h f = absurd (h refl)
some_of (Some x) h f = f x refl

true_of : (b : Test) → (b ≡ false → ⊥) → b ≡ true
true_of true h = refl
true_of false h = absurd (h refl)

none_is_no_some : {A : Type 0} (x : A) → None ≡ Some x → ⊥
none_is_no_some x h = cc

fault_is_no_layout : (e : Fault) (l : ArrayLayout) → Err e ≡ Ok l → ⊥
fault_is_no_layout e l h = cc

-- ---- the sizes

length_after : (front ns : List ℕ) (items : Items) → naturals_after front items ≡ Some ns → length ns ≡ length front + items_len items
length_after front ns no_items h = let e : front ≡ ns = cc in rw (← e) (omega arith)
length_after front ns (item d ds) h =
    some_of (as_natural d) (λ none. none_is_no_some ns (rw none at h)) (λ n e.
    let rest = rw e at h in
    let far = length_after (front ++ n ∷ []) ns ds rest in
    omega (arith, far, length-append front (n ∷ [])))

pub few_sizes : (d : Data) (ns : List ℕ) → naturals_of 6 d ≡ Some ns → length ns ≤ 6
few_sizes d ns h =
    some_of (as_array d) (λ none. none_is_no_some ns (rw none at h)) (λ items e.
    let h1 = rw e at h in
    let few = true_of (nat_le (items_len items) 6) (λ more. none_is_no_some ns (rw more at h1)) in
    let h2 = rw few at h1 in
    let long = length_after [] ns items h2 in
    let bound = leb-true (items_len items) 6 few in
    omega arith)

no_fault : (o : Option GridFault) → is_none o ≡ true → o ≡ None
no_fault None h = refl
no_fault (Some f) h = cc

same_grid : (g k : RegularGrid) → Some g ≡ Some k → g ≡ k
same_grid g k h = cc

grid_accepted : (t : Dtype) (shape part : Data) (g : RegularGrid) → chunk_grid_of t shape part ≡ Some g → (length g.shape ≤ 6) × (first_fault g.shape g.chunk (size_of t) ≡ None)
grid_accepted t shape part g h =
    some_of (naturals_of 6 shape) (λ none. none_is_no_some g (rw none at h)) (λ sizes e.
    let h0 = rw e at h in
    let named = true_of (is_part_of (codes "regular") (codes "chunk_shape") part) (λ other. none_is_no_some g (rw other at h0)) in
    let h1 = rw named at h0 in
    some_of (configuration_member (codes "chunk_shape") part) (λ none. none_is_no_some g (rw none at h1)) (λ chunks f.
    let h2 = rw f at h1 in
    some_of (naturals_of 6 chunks) (λ none. none_is_no_some g (rw none at h2)) (λ chunk k.
    let h3 = rw k at h2 in
    let fits = true_of (is_none (first_fault sizes chunk (size_of t))) (λ fault. none_is_no_some g (rw fault at h3)) in
    let h4 = rw fits at h3 in
    let same : record { shape = sizes; chunk = chunk } ≡ g = same_grid _ _ h4 in
    subst (λ (x : RegularGrid). (length x.shape ≤ 6) × (first_fault x.shape x.chunk (size_of t) ≡ None)) same (few_sizes shape sizes e, no_fault _ fits))))

-- ---- the fill value

at_least : (a b : ℤ) → int_lt b a ≡ false → a ≤ℤ b
at_least a b h = lt_z_no (rw h tt)

both_not : (a b : Test) → (not a && not b) ≡ true → (a ≡ false) × (b ≡ false)
both_not true b h = cc
both_not false true h = cc
both_not false false h = (refl, refl)

in_range : (t : Dtype) (x : ℤ) → within t x ≡ true → InRange t x
in_range t x h =
    let parts = both_not (int_lt x (least t)) (int_lt (greatest t) x) h in
    (at_least (least t) x parts.0, at_least x (greatest t) parts.1)

whole_accepted : (t : Dtype) (d : Data) (x : ℤ) → whole_of t d ≡ Some x → InRange t x
whole_accepted t d x h =
    some_of (as_number d) (λ none. none_is_no_some x (rw none at h)) (λ number e.
    let h1 = rw e at h in
    some_of (as_integer number) (λ none. none_is_no_some x (rw none at h1)) (λ y f.
    let h2 = rw f at h1 in
    let fits = true_of (within t y) (λ out. none_is_no_some x (rw out at h2)) in
    let h3 = rw fits at h2 in
    let same : y ≡ x = cc in
    subst (InRange t) same (in_range t y fits)))

truth_accepted : (b : Test) → InRange Bool (truth b)
truth_accepted true = (le_z_yes tt, le_z_yes tt)
truth_accepted false = (le_z_yes tt, le_z_yes tt)

bool_accepted : (o : Option Test) (x : ℤ) → option_map truth o ≡ Some x → InRange Bool x
bool_accepted None x h = cc
bool_accepted (Some b) x h = let same : truth b ≡ x = cc in subst (InRange Bool) same (truth_accepted b)

pub fill_accepted : (t : Dtype) (d : Data) (x : ℤ) → fill_of t d ≡ Some x → InRange t x
fill_accepted Bool d x h = bool_accepted (as_bool d) x h
fill_accepted Int8 d x h = whole_accepted Int8 d x h
fill_accepted Int16 d x h = whole_accepted Int16 d x h
fill_accepted Int32 d x h = whole_accepted Int32 d x h
fill_accepted Int64 d x h = whole_accepted Int64 d x h
fill_accepted Uint8 d x h = whole_accepted Uint8 d x h
fill_accepted Uint16 d x h = whole_accepted Uint16 d x h
fill_accepted Uint32 d x h = whole_accepted Uint32 d x h
fill_accepted Uint64 d x h = whole_accepted Uint64 d x h

-- ---- the byte order

little_chosen : (absent little big : Test) (e : Endian) → (if absent then Some Little else if little then Some Little else if big then Some Little else None) ≡ Some e → e ≡ Little
little_chosen true little big e h = cc
little_chosen false true big e h = cc
little_chosen false false true e h = cc
little_chosen false false false e h = cc

endian_accepted : (t : Dtype) (codecs : Data) (e : Endian) → endian_of t codecs ≡ Some e → size_of t ≡ 1 → e ≡ Little
endian_accepted t codecs e h one =
    let listed = true_of (is_list_of 1 codecs) (λ other. none_is_no_some e (rw other at h)) in
    let h1 = rw listed at h in
    some_of (at 0 codecs) (λ none. none_is_no_some e (rw none at h1)) (λ codec f.
    let h2 = rw f at h1 in
    let named = true_of (is_part_of (codes "bytes") (codes "endian") codec) (λ other. none_is_no_some e (rw other at h2)) in
    let h3 = rw named at h2 in
    let single = eq-eqb (size_of t) 1 one in
    let h4 = rw single at h3 in
    little_chosen (is_none (configuration_member (codes "endian") codec)) (is_text (codes "little") (configuration_member (codes "endian") codec)) (is_text (codes "big") (configuration_member (codes "endian") codec)) e h4)

-- ---- the whole

says_storable : (d : Data) (l : ArrayLayout) → SaysLayout d l → IsStorable l
says_storable d l says =
    let (shape, at_shape, (part, at_part, grid)) = says.grid in
    let (value, at_value, filled) = says.fill in
    let (list, at_list, ordered) = says.endian in
    let fits = grid_accepted l.dtype shape part (said_grid l) grid in
    record {
      axes = fits.0;
      grid = fits.1;
      fill = fill_accepted l.dtype value l.fill filled;
      endian = endian_accepted l.dtype list l.endian ordered;
    }

same_record : (r : Result ArrayLayout Fault) (l m : ArrayLayout) → r ≡ Ok l → r ≡ Ok m → l ≡ m
same_record r l m e h = cc

both_true : (a b : Test) → (a && b) ≡ true → (a ≡ true) × (b ≡ true)
both_true true true h = (refl, refl)
both_true true false h = cc
both_true false b h = cc

layout_said : (d : Data) (l : ArrayLayout) → layout_in d ≡ Ok l → SaysLayout d l
layout_said d l h =
    some_of (as_object d) (λ none. fault_is_no_layout _ l (rw none at h)) (λ members e0.
    let h0 = rw e0 at h in
    let kind = true_of (is_number 3 (get (codes "zarr_format") d) && is_text (codes "array") (get (codes "node_type") d)) (λ other. fault_is_no_layout _ l (rw other at h0)) in
    let h1 = rw kind at h0 in
    some_of (get (codes "shape") d) (λ none. fault_is_no_layout _ l (rw none at h1)) (λ shape e1.
    let h2 = rw e1 at h1 in
    some_of (get (codes "data_type") d) (λ none. fault_is_no_layout _ l (rw none at h2)) (λ data_type e2.
    let h3 = rw e2 at h2 in
    some_of (get (codes "chunk_grid") d) (λ none. fault_is_no_layout _ l (rw none at h3)) (λ grid e3.
    let h4 = rw e3 at h3 in
    some_of (get (codes "chunk_key_encoding") d) (λ none. fault_is_no_layout _ l (rw none at h4)) (λ key_encoding e4.
    let h5 = rw e4 at h4 in
    some_of (get (codes "fill_value") d) (λ none. fault_is_no_layout _ l (rw none at h5)) (λ fill e5.
    let h6 = rw e5 at h5 in
    some_of (get (codes "codecs") d) (λ none. fault_is_no_layout _ l (rw none at h6)) (λ codecs e6.
    let h7 = rw e6 at h6 in
    some_of (data_type_of data_type) (λ none. fault_is_no_layout _ l (rw none at h7)) (λ t e7.
    let h8 = rw e7 at h7 in
    some_of (chunk_grid_of t shape grid) (λ none. fault_is_no_layout _ l (rw none at h8)) (λ g e8.
    let h9 = rw e8 at h8 in
    some_of (encoding_of key_encoding) (λ none. fault_is_no_layout _ l (rw none at h9)) (λ encoding e9.
    let h10 = rw e9 at h9 in
    some_of (fill_of t fill) (λ none. fault_is_no_layout _ l (rw none at h10)) (λ x e10.
    let h11 = rw e10 at h10 in
    some_of (endian_of t codecs) (λ none. fault_is_no_layout _ l (rw none at h11)) (λ endian e11.
    let h12 = rw e11 at h11 in
    let attributes = true_of (are_attributes (get (codes "attributes") d)) (λ other. fault_is_no_layout _ l (rw other at h12)) in
    let h13 = rw attributes at h12 in
    let names = true_of (are_dimension_names (length g.shape) (get (codes "dimension_names") d)) (λ other. fault_is_no_layout _ l (rw other at h13)) in
    let h14 = rw names at h13 in
    let transformers = true_of (are_no_transformers (get (codes "storage_transformers") d)) (λ other. fault_is_no_layout _ l (rw other at h14)) in
    let h15 = rw transformers at h14 in
    let understood = true_of (are_understood members) (λ other. fault_is_no_layout _ l (rw other at h15)) in
    let h16 = rw understood at h15 in
    let m : ArrayLayout = record { dtype = t; shape = g.shape; chunk = g.chunk; encoding = encoding; endian = endian; fill = x } in
    let same : m ≡ l = same_record (Ok m) m l refl h16 in
    let two = both_true (is_number 3 (get (codes "zarr_format") d)) (is_text (codes "array") (get (codes "node_type") d)) kind in
    let said : SaysLayout d m = record {
      format = two.0;
      node_type = two.1;
      data_type = (data_type, e2, e7);
      grid = (shape, e1, (grid, e3, e8));
      encoding = (key_encoding, e4, e9);
      fill = (fill, e5, e10);
      endian = (codecs, e6, e11);
      attributes = attributes;
      dimension_names = names;
      transformers = transformers;
      members = members;
      object = e0;
      understood = understood;
    } in
    subst (SaysLayout d) same said))))))))))))

said_layout : (d : Data) (l : ArrayLayout) → SaysLayout d l → layout_in d ≡ Ok l
said_layout d l says =
    let (data_type, e2, e7) = says.data_type in
    let (shape, e1, (grid, e3, e8)) = says.grid in
    let (key_encoding, e4, e9) = says.encoding in
    let (fill, e5, e10) = says.fill in
    let (codecs, e6, e11) = says.endian in
    rw (says.object, says.format, says.node_type, e1, e2, e3, e4, e5, e6, e7, e8, e9, e10, e11, says.attributes, says.dimension_names, says.transformers, says.understood) refl

pub read_said : (bytes : List ℕ) (l : ArrayLayout) → read_metadata bytes ≡ Ok l → IsMetadataOf bytes l
unfolding read_metadata
read_said bytes l h =
    let short = true_of (nat_le (length bytes) 1048576) (λ long. fault_is_no_layout _ l (rw long at h)) in
    let h0 = rw short at h in
    let text = true_of (is_utf8 bytes) (λ other. fault_is_no_layout _ l (rw other at h0)) in
    let h1 = rw text at h0 in
    some_of (read bytes) (λ none. fault_is_no_layout _ l (rw none at h1)) (λ d e.
    let h2 = rw e at h1 in
    record { short = leb-true (length bytes) 1048576 short; utf8 = text; value = d; reads = e; says = layout_said d l h2 })

pub said_read : (bytes : List ℕ) (l : ArrayLayout) → IsMetadataOf bytes l → read_metadata bytes ≡ Ok l
unfolding read_metadata
said_read bytes l is = rw (le-leb _ _ is.short, is.utf8, is.reads) (said_layout is.value l is.says)

pub read_accepted : (bytes : List ℕ) (l : ArrayLayout) → read_metadata bytes ≡ Ok l → IsStorable l
read_accepted bytes l h = let is = read_said bytes l h in says_storable is.value l is.says
