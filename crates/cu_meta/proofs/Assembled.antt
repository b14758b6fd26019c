-- The written text, from the texts of its parts.
use Rattle.std.proofs.Common.{◌≡◌, ◌++◌, ℕ, List, [], refl}
use Rattle.cu_meta.specs.Written.{text_of}
use Rattle.cu_zarr.specs.Layout.{ArrayLayout}
use Rattle.cu_zarr.specs.Metadata.{number_list, encoding_text, codec_text, fill_text, metadata_text}
use Rattle.cu_num.specs.TypeName.{type_name}

same_text : (chunk encoding codec name fill shape chunk_is encoding_is codec_is name_is fill_is shape_is : List ℕ) → chunk ≡ chunk_is → encoding ≡ encoding_is → codec ≡ codec_is → name ≡ name_is
    → fill ≡ fill_is → shape ≡ shape_is → text_of chunk encoding codec name fill shape ≡ text_of chunk_is encoding_is codec_is name_is fill_is shape_is
same_text chunk encoding codec name fill shape chunk_is encoding_is codec_is name_is fill_is shape_is a b c d e f = rw (a, b, c, d, e, f) refl

pub assembled : (l : ArrayLayout) (chunk encoding codec name fill shape : List ℕ) → chunk ≡ number_list l.chunk → encoding ≡ encoding_text l.encoding → codec ≡ codec_text l.dtype l.endian
    → name ≡ type_name l.dtype → fill ≡ fill_text l.dtype l.fill → shape ≡ number_list l.shape → text_of chunk encoding codec name fill shape ≡ metadata_text l
assembled l chunk encoding codec name fill shape a b c d e f = same_text chunk encoding codec name fill shape _ _ _ _ _ _ a b c d e f

-- texts `t`, each of which is the one before it with more behind
pub joined_parts : (t0 t1 t2 t3 t4 t5 t6 t7 a chunk b encoding c codec d name e fill f shape g : List ℕ) → t0 ≡ [] → t1 ≡ t0 ++ a ++ chunk → t2 ≡ t1 ++ b ++ encoding → t3 ≡ t2 ++ c ++ codec
    → t4 ≡ t3 ++ d ++ name → t5 ≡ t4 ++ e ++ fill → t6 ≡ t5 ++ f ++ shape → t7 ≡ t6 ++ g
    → t7 ≡ a ++ chunk ++ b ++ encoding ++ c ++ codec ++ d ++ name ++ e ++ fill ++ f ++ shape ++ g
joined_parts t0 t1 t2 t3 t4 t5 t6 t7 a chunk b encoding c codec d name e fill f shape g e0 e1 e2 e3 e4 e5 e6 e7 = rw (e7, e6, e5, e4, e3, e2, e1, e0) refl
