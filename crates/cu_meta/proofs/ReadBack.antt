-- The data of a layout is read back as that layout.
use Rattle.std.proofs.Common.{◌≡◌, ◌≤◌, ℕ, ◌==◌, List, [], ◌∷◌, ◌++◌, length, codes, Some, None, Ok, refl, sym, ap, ◌∙◌, append_assoc, append-nil, le-leb}
use Rattle.std.specs.Prelude.{true, false}
use Rattle.serde_json.specs.Data.{Data, string, array, object, no_items, item, Members, no_members, member}
use Rattle.serde_json.specs.Find.{get, as_object}
use Rattle.serde_json.specs.Events.{items_len}
use Rattle.cu_num.specs.Dtype.{size_of}
use Rattle.cu_num.specs.declared.types.Dtype.{Dtype}
use Rattle.cu_num.specs.declared.types.Dtype.TheVariants.{Bool, Int8, Int16, Int32, Int64, Uint8, Uint16, Uint32, Uint64}
use Rattle.cu_num.specs.declared.layout.Encoding.{Encoding}
use Rattle.cu_num.specs.declared.layout.Encoding.TheVariants.{Plain, V2}
use Rattle.cu_num.specs.declared.layout.Sep.TheVariants.{Slash, Dot}
use Rattle.cu_num.specs.declared.layout.Endian.{Endian}
use Rattle.cu_num.specs.declared.layout.Endian.TheVariants.{Little, Big}
use Rattle.cu_grid.specs.Limits.{first_fault}
use Rattle.cu_zarr.specs.Layout.{ArrayLayout}
use Rattle.cu_num.specs.TypeName.{type_name}
use Rattle.cu_json.specs.Form.{is_number, is_text, naturals_after, naturals_of}
use Rattle.cu_meta.specs.Members.{data_type_of, chunk_grid_of, encoding_of, endian_of, are_understood}
use Rattle.cu_meta_members.specs.Members.{fill_of}
use Rattle.cu_meta.specs.Metadata.{layout_in}
use Rattle.cu_meta_members.specs.Storable.{IsStorable}
use Rattle.cu_meta.proofs.LayoutData.{numbers, configured, encoding_data, endian_data, codec_data, fill_data, whole_data, layout_data}
use Rattle.cu_meta_members.proofs.Sizes.{same_ranks}
use Rattle.cu_meta.proofs.Fills.{fill_back}

numbers_len : (ns : List ℕ) → items_len (numbers ns) ≡ length ns
numbers_len [] = refl
numbers_len (n ∷ ns) = rw (numbers_len ns) refl

naturals_back : (front ns : List ℕ) → naturals_after front (numbers ns) ≡ Some (front ++ ns)
naturals_back front [] = ap Some (sym (append-nil front))
naturals_back front (n ∷ ns) = naturals_back (front ++ n ∷ []) ns ∙ ap Some (append_assoc front (n ∷ []) ns)

sizes_back : (ns : List ℕ) → length ns ≤ 6 → naturals_of 6 (array (numbers ns)) ≡ Some ns
sizes_back ns few = rw (numbers_len ns, le-leb (length ns) 6 few) (naturals_back [] ns)

dtype_back : (t : Dtype) → data_type_of (string (type_name t)) ≡ Some t
dtype_back Bool = refl
dtype_back t = refl

grid_back : (t : Dtype) (shape chunk : List ℕ) → length shape ≤ 6 → length chunk ≤ 6 → first_fault shape chunk (size_of t) ≡ None
    → chunk_grid_of t (array (numbers shape)) (configured (codes "chunk_shape") (array (numbers chunk)) (codes "regular")) ≡ Some (record { shape = shape; chunk = chunk })
grid_back t shape chunk few few_chunk h = rw (sizes_back shape few, sizes_back chunk few_chunk, h) refl

encoding_back : (e : Encoding) → encoding_of (encoding_data e) ≡ Some e
encoding_back (Plain Slash) = refl
encoding_back (Plain Dot) = refl
encoding_back (V2 Slash) = refl
encoding_back (V2 Dot) = refl

-- in a type of more bytes
endian_told : (t : Dtype) (e : Endian) → (size_of t == 1) ≡ false → endian_of t (array (item (endian_data e) no_items)) ≡ Some e
endian_told t Little h = refl
endian_told t Big h = rw h refl

one_byte : (t : Dtype) (e : Endian) → (size_of t == 1) ≡ true → e ≡ Little → endian_of t (array (item (object (member (codes "name") (string (codes "bytes")) no_members)) no_items)) ≡ Some e
one_byte t e h little = rw (h, little) refl

endian_back : (t : Dtype) (e : Endian) → (size_of t ≡ 1 → e ≡ Little) → endian_of t (array (item (codec_data t e) no_items)) ≡ Some e
endian_back Bool e h = one_byte Bool e refl (h refl)
endian_back Int8 e h = one_byte Int8 e refl (h refl)
endian_back Uint8 e h = one_byte Uint8 e refl (h refl)
endian_back Int16 e h = endian_told Int16 e refl
endian_back Int32 e h = endian_told Int32 e refl
endian_back Int64 e h = endian_told Int64 e refl
endian_back Uint16 e h = endian_told Uint16 e refl
endian_back Uint32 e h = endian_told Uint32 e refl
endian_back Uint64 e h = endian_told Uint64 e refl

-- what the members of a value are, where it has none that may be left out
record HasMembers (d chunk_grid encoding codecs data_type fill shape : Data) : Type 0 where
  members : Members
  is_object : as_object d ≡ Some members
  understood : are_understood members ≡ true
  version : is_number 3 (get (codes "zarr_format") d) ≡ true
  kind : is_text (codes "array") (get (codes "node_type") d) ≡ true
  has_shape : get (codes "shape") d ≡ Some shape
  has_type : get (codes "data_type") d ≡ Some data_type
  has_grid : get (codes "chunk_grid") d ≡ Some chunk_grid
  has_encoding : get (codes "chunk_key_encoding") d ≡ Some encoding
  has_fill : get (codes "fill_value") d ≡ Some fill
  has_codecs : get (codes "codecs") d ≡ Some codecs
  no_attributes : get (codes "attributes") d ≡ None
  no_names : get (codes "dimension_names") d ≡ None
  no_transformers : get (codes "storage_transformers") d ≡ None

whole_members : (chunk encoding codec fill shape : Data) (name : List ℕ)
    → HasMembers (whole_data chunk encoding codec name fill shape) (configured (codes "chunk_shape") chunk (codes "regular")) encoding (array (item codec no_items)) (string name) fill shape
whole_members chunk encoding codec fill shape name = record {
  members = _;
  is_object = refl;
  understood = refl;
  version = refl;
  kind = refl;
  has_shape = refl;
  has_type = refl;
  has_grid = refl;
  has_encoding = refl;
  has_fill = refl;
  has_codecs = refl;
  no_attributes = refl;
  no_names = refl;
  no_transformers = refl;
}

layout_of_members : (d chunk_grid encoding codecs data_type fill shape : Data) (l : ArrayLayout) → HasMembers d chunk_grid encoding codecs data_type fill shape
    → data_type_of data_type ≡ Some l.dtype → chunk_grid_of l.dtype shape chunk_grid ≡ Some (record { shape = l.shape; chunk = l.chunk }) → encoding_of encoding ≡ Some l.encoding
    → fill_of l.dtype fill ≡ Some l.fill → endian_of l.dtype codecs ≡ Some l.endian → layout_in d ≡ Ok l
layout_of_members d chunk_grid encoding codecs data_type fill shape l m a b c e f =
    rw (m.is_object, m.version, m.kind, m.has_shape, m.has_type, m.has_grid, m.has_encoding, m.has_fill, m.has_codecs, a, b, c, e, f, m.no_attributes, m.no_names, m.no_transformers, m.understood) refl

pub layout_back : (l : ArrayLayout) → IsStorable l → layout_in (layout_data l) ≡ Ok l
layout_back l s =
    layout_of_members (layout_data l) _ _ _ _ _ _ l (whole_members (array (numbers l.chunk)) (encoding_data l.encoding) (codec_data l.dtype l.endian) (fill_data l.dtype l.fill) (array (numbers l.shape)) (type_name l.dtype))
    (dtype_back l.dtype) (grid_back l.dtype l.shape l.chunk s.axes (same_ranks l s) s.grid) (encoding_back l.encoding) (fill_back l.dtype l.fill s.fill) (endian_back l.dtype l.endian s.endian)
