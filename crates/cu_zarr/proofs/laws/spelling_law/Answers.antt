use Rattle.cu_zarr.proofs.Spelled.{length-spelled, spelled_element}
use Rattle.cu_zarr.proofs.laws.spelling_law.Goals as goal

pub returns : goal.returns
returns c = record { full = length-spelled; elements = spelled_element }
