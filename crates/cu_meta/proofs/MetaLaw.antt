-- The written metadata of a layout is read back as that layout.
use Rattle.std.proofs.Common.{◌≡◌, Result, Ok, sym, ap, ◌∙◌, arith}
use Rattle.std.proofs.lemmas.Str.{IsUtf8-from_ascii}
use Rattle.serde_json.specs.Read.{read}
use Rattle.cu_zarr.specs.Layout.{ArrayLayout}
use Rattle.cu_zarr.specs.Metadata.{metadata_text}
use Rattle.cu_meta.specs.Fault.{Fault}
use Rattle.cu_meta.specs.Metadata.{read_metadata}
use Rattle.cu_meta_members.specs.Storable.{IsStorable}
use Rattle.cu_meta.proofs.Answered.{read_value}
use Rattle.cu_meta.proofs.Bytes.{fits_metadata}
use Rattle.cu_meta.proofs.LayoutData.{layout_data, layout_data_text}
use Rattle.cu_meta.proofs.Plain.{layout_data_read}
use Rattle.cu_meta.proofs.ReadBack.{layout_back}

pub read_back : (l : ArrayLayout) → IsStorable l → read_metadata (metadata_text l) ≡ Ok l
read_back l s =
    let fits = fits_metadata l s in
    let few = fits.short in
    read_value (metadata_text l) (layout_data l) (omega arith) (IsUtf8-from_ascii (metadata_text l) fits.ascii) (ap read (sym (layout_data_text l)) ∙ layout_data_read l s) ∙ layout_back l s

same_layout : (a b : Result ArrayLayout Fault) (l m : ArrayLayout) → a ≡ Ok l → a ≡ b → b ≡ Ok m → l ≡ m
same_layout a b l m p q r = cc

-- two such layouts with one text are one
pub told_apart : (l m : ArrayLayout) → IsStorable l → IsStorable m → metadata_text l ≡ metadata_text m → l ≡ m
told_apart l m s r e = same_layout _ _ l m (read_back l s) (ap read_metadata e) (read_back m r)
