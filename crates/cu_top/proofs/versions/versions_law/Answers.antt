use Rattle.cu_top.proofs.VersionLemmas.{expr_same, inputs_same, run_same, elements_same}
use Rattle.cu_top.proofs.versions.versions_law.Goals as goal

pub returns-clause-run : goal.returns-clause-run
returns-clause-run c options text a b inputs one other first second is_one is_other = run_same text a b inputs one other first second is_one is_other options

pub returns-clause-elements : goal.returns-clause-elements
returns-clause-elements c text a b inputs one other first second is_one is_other held now chunks =
    elements_same one other held now (expr_same text a b inputs one other first second is_one is_other) (inputs_same text a b inputs one other first second is_one is_other) chunks
