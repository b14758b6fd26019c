use Rattle.cu_typing_view.proofs.HeldElements.{holds_all}
use Rattle.cu_typing_view.proofs.laws.reshape_law.Goals as goal

pub returns : goal.returns
returns c count shape most h = holds_all count shape most h
