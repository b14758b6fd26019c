use Rattle.cu_read.proofs.Says.{text_has_form}
use Rattle.cu_read.proofs.SaidRead.{form_read}
use Rattle.cu_read.proofs.laws.form_law.Goals as goal

pub returns : goal.returns
returns c text e = (text_has_form text e, form_read text e)
