use Rattle.cu_fuse.proofs.InlinedLaw.{first_is, input_is, layout_is, long_is, made_is, maker_is, names_is, needs_is, numbers_is, one_plan, op_is, output_is, sound_is, value_is}
use Rattle.cu_fuse.proofs.inlining_laws.inlining_law.Goals as goal

pub returns : goal.returns
returns c = record {
  sound = λ p q s names stored allowed r. sound_is p q r s names stored allowed;
  needs = λ p q k s stored all r l. needs_is p q r k s stored all l;
  only = one_plan;
  counts = λ p q r. long_is p q r;
  numbers = λ p q r. numbers_is p q r;
  ops = λ p q k r. op_is p q r k;
  layout = λ p q a r. layout_is p q r a;
  maker = λ p q a r. maker_is p q r a;
  inputs = λ p q a stored r none. input_is p q r a stored none;
  first = λ p q n r h. first_is p q r n h;
  output = λ p q s r. output_is p q r s;
  value = λ p q env a idx r. value_is p q r env a idx;
  names = λ p q s stored r own. names_is p q r s stored own;
  made = λ p q a s r l made stored. made_is p q r a s l made stored;
}
