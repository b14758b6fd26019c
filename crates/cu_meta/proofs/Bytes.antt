-- The written metadata is ASCII, and short.
use Rattle.std.proofs.Common.{◌≡◌, ◌<◌, ◌≤◌, ℕ, zero, suc, ◌+◌, ◌*◌, ◌^◌, ℤ, pos, negsuc, ◌&&◌, nat_lt, nat_le, List, [], ◌∷◌, ◌++◌, length, codes, decimal, IsAscii, refl, arith, length-append}
use Rattle.std.specs.Prelude.{Bool as Test, true}
use Rattle.std.specs.Fmt.{signed_decimal}
use Rattle.std.proofs.lemmas.Bool.{and_parts, ltb-true, leb-true}
use Rattle.std.proofs.lemmas.Fmt.{IsAscii-decimal, length-decimal-le}
use Rattle.std.proofs.lemmas.Str.{IsAscii-append}
use Rattle.std.proofs.lemmas.Str.Ascii.{IsAscii-nil, IsAscii-cons}
use Rattle.cu_num.specs.Dtype.{InRange}
use Rattle.cu_num.specs.declared.types.Dtype.{Dtype}
use Rattle.cu_num.specs.declared.types.Dtype.TheVariants.{Bool, Int8, Int16, Int32, Int64, Uint8, Uint16, Uint32, Uint64}
use Rattle.cu_num.specs.declared.layout.Encoding.{Encoding}
use Rattle.cu_num.specs.declared.layout.Encoding.TheVariants.{Plain, V2}
use Rattle.cu_num.specs.declared.layout.Sep.TheVariants.{Slash, Dot}
use Rattle.cu_num.specs.declared.layout.Endian.{Endian}
use Rattle.cu_num.specs.declared.layout.Endian.TheVariants.{Little, Big}
use Rattle.cu_zarr.specs.Layout.{ArrayLayout}
use Rattle.cu_zarr.specs.Metadata.{more_numbers, number_list, encoding_text, codec_with_endian, codec_text, truth_text, fill_text, metadata_text}
use Rattle.cu_num.specs.TypeName.{type_name}
use Rattle.cu_meta.specs.Written.{text_of}
use Rattle.cu_meta_members.specs.Storable.{IsStorable}
use Rattle.cu_meta_members.proofs.Sizes.{AreSmall, same_ranks, small_shape, small_chunk}
use Rattle.cu_meta.proofs.Fills.{most, least_below}

-- ASCII, of at most n bytes
pub record Fits (n : ℕ) (bs : List ℕ) : Type 0 where
  pub ascii : IsAscii bs
  pub short : length bs ≤ n

fits_append : (m n : ℕ) (a b : List ℕ) → Fits m a → Fits n b → Fits (m + n) (a ++ b)
fits_append m n a b p q = let s = p.short in let r = q.short in record { ascii = IsAscii-append a b p.ascii q.ascii; short = rw length-append (omega arith) }

fits_more : (m n : ℕ) (a : List ℕ) → m ≤ n → Fits m a → Fits n a
fits_more m n a h p = let s = p.short in record { ascii = p.ascii; short = omega arith }

fits_cons : (n b : ℕ) (bs : List ℕ) → b < 128 → Fits n bs → Fits (1 + n) (b ∷ bs)
fits_cons n b bs h p = let s = p.short in record { ascii = IsAscii-cons b bs h p.ascii; short = omega arith }

abbrev are_ascii : List ℕ → Test
are_ascii [] = true
are_ascii (b ∷ bs) = nat_lt b 128 && are_ascii bs

ascii_by_test : (bs : List ℕ) → are_ascii bs ≡ true → IsAscii bs
ascii_by_test [] h = IsAscii-nil
ascii_by_test (b ∷ bs) h = let parts = and_parts (nat_lt b 128) (are_ascii bs) h in IsAscii-cons b bs (ltb-true b 128 parts.0) (ascii_by_test bs parts.1)

fits_by_test : (n : ℕ) (bs : List ℕ) → (are_ascii bs && nat_le (length bs) n) ≡ true → Fits n bs
fits_by_test n bs h = let parts = and_parts (are_ascii bs) (nat_le (length bs) n) h in record { ascii = ascii_by_test bs parts.0; short = leb-true (length bs) n parts.1 }

fits_decimal : (n : ℕ) → n < 2 ^ 64 → Fits 20 (decimal n)
fits_decimal n h = record { ascii = IsAscii-decimal n h; short = length-decimal-le 20 n (omega arith) (omega arith) h }

fits_more_numbers : (ns : List ℕ) → AreSmall ns → Fits (21 * length ns) (more_numbers ns)
fits_more_numbers [] h = fits_by_test 0 [] refl
fits_more_numbers (n ∷ ns) h =
    fits_more (1 + (20 + 21 * length ns)) (21 * suc (length ns)) _ (omega arith)
    (fits_cons (20 + 21 * length ns) 44 (decimal n ++ more_numbers ns) (omega arith) (fits_append 20 (21 * length ns) (decimal n) (more_numbers ns) (fits_decimal n h.0) (fits_more_numbers ns h.1)))

fits_number_list : (ns : List ℕ) → AreSmall ns → length ns ≤ 6 → Fits 200 (number_list ns)
fits_number_list [] h few = fits_by_test 200 (codes "[]") refl
fits_number_list (n ∷ ns) h few =
    let more : Fits 150 (more_numbers ns) = fits_more (21 * length ns) 150 (more_numbers ns) (omega arith) (fits_more_numbers ns h.1) in
    fits_more 172 200 (number_list (n ∷ ns)) (omega arith)
    (fits_append 171 1 (codes "[" ++ decimal n ++ more_numbers ns) (codes "]") (fits_append 21 150 (codes "[" ++ decimal n) (more_numbers ns) (fits_append 1 20 (codes "[") (decimal n) (fits_by_test 1 (codes "[") refl) (fits_decimal n h.0)) more) (fits_by_test 1 (codes "]") refl))

fits_encoding : (e : Encoding) → Fits 100 (encoding_text e)
fits_encoding (Plain Slash) = fits_by_test 100 (encoding_text (Plain Slash)) refl
fits_encoding (Plain Dot) = fits_by_test 100 (encoding_text (Plain Dot)) refl
fits_encoding (V2 Slash) = fits_by_test 100 (encoding_text (V2 Slash)) refl
fits_encoding (V2 Dot) = fits_by_test 100 (encoding_text (V2 Dot)) refl

fits_endian : (e : Endian) → Fits 100 (codec_with_endian e)
fits_endian Little = fits_by_test 100 (codec_with_endian Little) refl
fits_endian Big = fits_by_test 100 (codec_with_endian Big) refl

fits_codec : (t : Dtype) (e : Endian) → Fits 100 (codec_text t e)
fits_codec Bool e = fits_by_test 100 (codes "{\"name\":\"bytes\"}") refl
fits_codec Int8 e = fits_by_test 100 (codes "{\"name\":\"bytes\"}") refl
fits_codec Uint8 e = fits_by_test 100 (codes "{\"name\":\"bytes\"}") refl
fits_codec Int16 e = fits_endian e
fits_codec Int32 e = fits_endian e
fits_codec Int64 e = fits_endian e
fits_codec Uint16 e = fits_endian e
fits_codec Uint32 e = fits_endian e
fits_codec Uint64 e = fits_endian e

fits_name : (t : Dtype) → Fits 100 (type_name t)
fits_name Bool = fits_by_test 100 (type_name Bool) refl
fits_name Int8 = fits_by_test 100 (type_name Int8) refl
fits_name Int16 = fits_by_test 100 (type_name Int16) refl
fits_name Int32 = fits_by_test 100 (type_name Int32) refl
fits_name Int64 = fits_by_test 100 (type_name Int64) refl
fits_name Uint8 = fits_by_test 100 (type_name Uint8) refl
fits_name Uint16 = fits_by_test 100 (type_name Uint16) refl
fits_name Uint32 = fits_by_test 100 (type_name Uint32) refl
fits_name Uint64 = fits_by_test 100 (type_name Uint64) refl

fits_truth : (x : ℤ) → Fits 100 (truth_text x)
fits_truth (pos zero) = fits_by_test 100 (codes "false") refl
fits_truth (pos (suc n)) = fits_by_test 100 (codes "true") refl
fits_truth (negsuc n) = fits_by_test 100 (codes "true") refl

fits_integer : (t : Dtype) (x : ℤ) → InRange t x → Fits 100 (signed_decimal x)
fits_integer t (pos n) h = fits_more 20 100 _ (omega arith) (fits_decimal n (most t n h.1))
fits_integer t (negsuc n) h = let b : n < 2 ^ 63 = least_below t n h.0 in fits_more 21 100 _ (omega arith) (fits_cons 20 45 (decimal (suc n)) (omega arith) (fits_decimal (suc n) (omega arith)))

fits_fill : (t : Dtype) (x : ℤ) → InRange t x → Fits 100 (fill_text t x)
fits_fill Bool x h = fits_truth x
fits_fill Int8 x h = fits_integer Int8 x h
fits_fill Int16 x h = fits_integer Int16 x h
fits_fill Int32 x h = fits_integer Int32 x h
fits_fill Int64 x h = fits_integer Int64 x h
fits_fill Uint8 x h = fits_integer Uint8 x h
fits_fill Uint16 x h = fits_integer Uint16 x h
fits_fill Uint32 x h = fits_integer Uint32 x h
fits_fill Uint64 x h = fits_integer Uint64 x h

-- a part, with what stands before it and behind it
fits_part : (m n k : ℕ) (before part behind : List ℕ) → Fits m before → Fits n part → Fits k behind → Fits (m + n + k) (before ++ part ++ behind)
fits_part m n k before part behind p q r = fits_append (m + n) k (before ++ part) behind (fits_append m n before part p q) r

fits_whole : (chunk encoding codec name fill shape : List ℕ) → Fits 200 chunk → Fits 100 encoding → Fits 100 codec → Fits 100 name → Fits 100 fill → Fits 200 shape
    → Fits 1500 (text_of chunk encoding codec name fill shape)
fits_whole chunk encoding codec name fill shape a b c d e f =
    fits_part 1200 200 100 _ shape (codes ",\"zarr_format\":3}")
    (fits_part 1000 100 100 _ fill (codes ",\"node_type\":\"array\",\"shape\":")
    (fits_part 800 100 100 _ name (codes "\",\"fill_value\":")
    (fits_part 600 100 100 _ codec (codes "],\"data_type\":\"")
    (fits_part 400 100 100 _ encoding (codes ",\"codecs\":[")
    (fits_part 100 200 100 (codes "{\"chunk_grid\":{\"configuration\":{\"chunk_shape\":") chunk (codes "},\"name\":\"regular\"},\"chunk_key_encoding\":") (fits_by_test 100 _ refl) a (fits_by_test 100 _ refl)) b (fits_by_test 100 _ refl)) c (fits_by_test 100 _ refl)) d (fits_by_test 100 _ refl)) e (fits_by_test 100 _ refl)) f (fits_by_test 100 _ refl)

pub fits_metadata : (l : ArrayLayout) → IsStorable l → Fits 1500 (metadata_text l)
fits_metadata l s =
    fits_whole (number_list l.chunk) (encoding_text l.encoding) (codec_text l.dtype l.endian) (type_name l.dtype) (fill_text l.dtype l.fill) (number_list l.shape)
    (fits_number_list l.chunk (small_chunk l s) (same_ranks l s)) (fits_encoding l.encoding) (fits_codec l.dtype l.endian) (fits_name l.dtype) (fits_fill l.dtype l.fill s.fill)
    (fits_number_list l.shape (small_shape l s) s.axes)
