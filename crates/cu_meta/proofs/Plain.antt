-- The data of a layout: its integers fit, its objects are in order, and it nests little, so its compact text reads back.
use Rattle.std.proofs.Common.{◌≡◌, ◌≤◌, ℕ, suc, ◌+◌, ℤ, List, [], ◌∷◌, codes, Some, refl, arith}
use Rattle.std.proofs.Math.Nat.{max-le}
use Rattle.serde_json.specs.Data.{Data, number, string, array, object, no_members, member, depth, items_depth}
use Rattle.serde_json.specs.Find.{of_integer}
use Rattle.serde_json.specs.Read.{max_depth, read}
use Rattle.serde_json.specs.Written.{compact_text}
use Rattle.cu_json.proofs.Compact.{AreWritten, ItemsAreWritten}
use Rattle.cu_json.proofs.Ordered.{AreOrdered, ItemsAreOrdered, read_of_ordered}
use Rattle.cu_num.specs.Dtype.{InRange}
use Rattle.cu_num.specs.declared.types.Dtype.{Dtype}
use Rattle.cu_num.specs.declared.types.Dtype.TheVariants.{Bool, Int8, Int16, Int32, Int64, Uint8, Uint16, Uint32, Uint64}
use Rattle.cu_num.specs.declared.layout.Encoding.{Encoding}
use Rattle.cu_num.specs.declared.layout.Encoding.TheVariants.{Plain, V2}
use Rattle.cu_num.specs.declared.layout.Endian.{Endian}
use Rattle.cu_zarr.specs.Layout.{ArrayLayout}
use Rattle.cu_zarr.specs.Metadata.{separator_name, endian_name}
use Rattle.cu_num.specs.TypeName.{type_name}
use Rattle.cu_meta_members.specs.Storable.{IsStorable}
use Rattle.cu_meta.proofs.LayoutData.{numbers, configured, encoding_data, endian_data, codec_data, fill_data, whole_data, layout_data}
use Rattle.cu_meta_members.proofs.Sizes.{AreSmall, small_shape, small_chunk}
use Rattle.cu_meta.proofs.Fills.{written_integer}

-- what a part has for its text to read back inside the whole
record IsPlain (d : Data) : Type 0 where
  written : AreWritten d
  ordered : AreOrdered d
  shallow : depth d ≤ 2

numbers_written : (ns : List ℕ) → AreSmall ns → ItemsAreWritten (numbers ns)
numbers_written [] h = tt
numbers_written (n ∷ ns) h = (h.0, numbers_written ns h.1)

numbers_ordered : (ns : List ℕ) → ItemsAreOrdered (numbers ns)
numbers_ordered [] = tt
numbers_ordered (n ∷ ns) = (tt, numbers_ordered ns)

numbers_shallow : (ns : List ℕ) → items_depth (numbers ns) ≡ 0
numbers_shallow [] = refl
numbers_shallow (n ∷ ns) = rw (numbers_shallow ns) refl

plain_numbers : (ns : List ℕ) → AreSmall ns → IsPlain (array (numbers ns))
plain_numbers ns h = record { written = numbers_written ns h; ordered = numbers_ordered ns; shallow = rw (numbers_shallow ns) (omega arith) }

one_more : (n : ℕ) → n ≤ 126 → suc n ≤ max_depth
one_more n h = omega arith

configured_plain : (key name : List ℕ) (value : Data) (k : ℕ) → AreWritten value → AreOrdered value → depth value ≤ k
    → AreWritten (configured key value name) × AreOrdered (configured key value name) × (depth (configured key value name) ≤ k + 2)
configured_plain key name value k w o d = (((w, tt), (tt, tt)), (tt, (tt, o, tt), ((refl, tt), tt, tt)), omega (arith, d))

plain_setting : (key name text : List ℕ) → IsPlain (configured key (string text) name)
plain_setting key name text =
    let parts = configured_plain key name (string text) 0 tt tt (omega arith) in
    record { written = parts.0; ordered = parts.1; shallow = parts.2 }

plain_encoding : (e : Encoding) → IsPlain (encoding_data e)
plain_encoding (Plain sep) = plain_setting (codes "separator") (codes "default") (separator_name sep)
plain_encoding (V2 sep) = plain_setting (codes "separator") (codes "v2") (separator_name sep)

plain_endian : (e : Endian) → IsPlain (endian_data e)
plain_endian e = plain_setting (codes "endian") (codes "bytes") (endian_name e)

plain_bytes : IsPlain (object (member (codes "name") (string (codes "bytes")) no_members))
plain_bytes = record { written = (tt, tt); ordered = (tt, tt, tt); shallow = omega arith }

plain_codec : (t : Dtype) (e : Endian) → IsPlain (codec_data t e)
plain_codec Bool e = plain_bytes
plain_codec Int8 e = plain_bytes
plain_codec Uint8 e = plain_bytes
plain_codec Int16 e = plain_endian e
plain_codec Int32 e = plain_endian e
plain_codec Int64 e = plain_endian e
plain_codec Uint16 e = plain_endian e
plain_codec Uint32 e = plain_endian e
plain_codec Uint64 e = plain_endian e

plain_number : (t : Dtype) (x : ℤ) → InRange t x → IsPlain (number (of_integer x))
plain_number t x h = record { written = written_integer t x h; ordered = tt; shallow = omega arith }

plain_fill : (t : Dtype) (x : ℤ) → InRange t x → IsPlain (fill_data t x)
plain_fill Bool x h = record { written = tt; ordered = tt; shallow = omega arith }
plain_fill Int8 x h = plain_number Int8 x h
plain_fill Int16 x h = plain_number Int16 x h
plain_fill Int32 x h = plain_number Int32 x h
plain_fill Int64 x h = plain_number Int64 x h
plain_fill Uint8 x h = plain_number Uint8 x h
plain_fill Uint16 x h = plain_number Uint16 x h
plain_fill Uint32 x h = plain_number Uint32 x h
plain_fill Uint64 x h = plain_number Uint64 x h

module _ (chunk encoding codec fill shape : Data) (name : List ℕ) (a : IsPlain chunk) (b : IsPlain encoding) (c : IsPlain codec) (d : IsPlain fill) (e : IsPlain shape) where
  whole_written : AreWritten (whole_data chunk encoding codec name fill shape)
  whole_written = (((a.written, tt), (tt, tt)), (b.written, ((c.written, tt), (tt, (d.written, (tt, (e.written, (omega arith, tt))))))))

  whole_ordered : AreOrdered (whole_data chunk encoding codec name fill shape)
  whole_ordered =
      let grid : AreOrdered (configured (codes "chunk_shape") chunk (codes "regular")) = (configured_plain (codes "chunk_shape") (codes "regular") chunk 2 a.written a.ordered a.shallow).1 in (
        tt,
        grid,
        (
          (refl, tt),
          b.ordered,
          (
            (refl, (refl, tt)),
            (c.ordered, tt),
            (
              (refl, (refl, (refl, tt))),
              tt,
              (
                (refl, (refl, (refl, (refl, tt)))),
                d.ordered,
                ((refl, (refl, (refl, (refl, (refl, tt))))), tt, ((refl, (refl, (refl, (refl, (refl, (refl, tt)))))), e.ordered, ((refl, (refl, (refl, (refl, (refl, (refl, (refl, tt))))))), tt, tt))),
              ),
            ),
          ),
        ),
      )

  whole_shallow : depth (whole_data chunk encoding codec name fill shape) ≤ max_depth
  whole_shallow =
      let grid : depth (configured (codes "chunk_shape") chunk (codes "regular")) ≤ 4 = (configured_plain (codes "chunk_shape") (codes "regular") chunk 2 a.written a.ordered a.shallow).2 in
      one_more _ (max-le (omega arith) (max-le (omega arith) (max-le (omega arith) (max-le (omega arith) (max-le (omega arith) (max-le (omega arith) (max-le (omega arith) (omega arith))))))))

  whole_read : read (compact_text (whole_data chunk encoding codec name fill shape)) ≡ Some (whole_data chunk encoding codec name fill shape)
  whole_read = read_of_ordered _ whole_written whole_shallow whole_ordered

pub layout_data_read : (l : ArrayLayout) → IsStorable l → read (compact_text (layout_data l)) ≡ Some (layout_data l)
layout_data_read l s =
    whole_read (array (numbers l.chunk)) (encoding_data l.encoding) (codec_data l.dtype l.endian) (fill_data l.dtype l.fill) (array (numbers l.shape)) (type_name l.dtype)
    (plain_numbers l.chunk (small_chunk l s)) (plain_encoding l.encoding) (plain_codec l.dtype l.endian) (plain_fill l.dtype l.fill s.fill) (plain_numbers l.shape (small_shape l s))
