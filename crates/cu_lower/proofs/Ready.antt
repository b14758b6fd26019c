-- What each node's part takes for granted, where the expression can be lowered.
use Rattle.std.proofs.Common.{◌≡◌, ℕ, ◌<◌, ◌^◌, true, false, All, List, Some, get_or, refl, subst, arith}
use Rattle.std.specs.Prelude.{slice_get}
use Rattle.std.proofs.lemmas.Option.{slice_get-get_or}
use Rattle.cu_copy.proofs.Staged.{staged_exactly}
use Rattle.cu_name.specs.Name.{is_name}
use Rattle.cu_form.specs.Expression.{Expression}
use Rattle.cu_form.specs.Form.{takes_args, names_earlier, HasShortIndex}
use Rattle.cu_form.specs.declared.expr.Node.{Node}
use Rattle.cu_form.specs.declared.form.Form.{Form}
use Rattle.cu_node.specs.declared.info.NodeInfo.{NodeInfo}
use Rattle.cu_expr.specs.declared.inputs.InputInfo.{InputInfo}
use Rattle.cu_need.specs.Live.{is_live, IsClosed}
use Rattle.cu_need.specs.Operands.{copies_of}
use Rattle.cu_need.proofs.Staged.{all_staged}
use Rattle.cu_need.proofs.TypedNodes.{typed_within}
use Rattle.cu_lower_reduce.specs.Copies.{IsStaged}
use Rattle.cu_lower.specs.Inputs.{input_names}
use Rattle.cu_lower.specs.Parts.{AreOptions, IsWritten, IsFitting, CanGrow, copying, is_given}
use Rattle.cu_lower.specs.Premises.{IsLowerable}
use Rattle.cu_lower.specs.declared.options.Options.{Options}
use Rattle.cu_lower.proofs.Names.{input_used, used_is_name}
use Rattle.cu_lower.proofs.Needs.{node_need}
use Rattle.cu_lower.proofs.NoNode.{no_node}
use Rattle.cu_lower.proofs.Node.{CanStage}
use Rattle.cu_lower.proofs.NodeLaws.{laws_of}
use Rattle.cu_lower.proofs.OperandSteps.{HasRoom}
use Rattle.cu_lower.proofs.Typed as typed

module _ (e : Expression) (infos : List NodeInfo) (inputs : List InputInfo) (options : Options) (ok : IsLowerable e infos inputs options) where
  written : (k : ℕ) (n : Node) (f : Form) → slice_get e.nodes k ≡ Some n → n.form ≡ f → IsWritten k f
  written k n f at is =
      let own = (ok.form.nodes k n at).form in
      record {
        takes = subst (λ (g : Form). takes_args g ≡ true) is own.args;
        earlier = subst (λ (g : Form). names_earlier k g ≡ true) is own.earlier;
        short = subst HasShortIndex is (ok.form.indices k n at);
      }

  -- each copy of a live node can be made
  all_staged_at : (k : ℕ) (n : Node) → slice_get e.nodes k ≡ Some n → is_live e k ≡ true → (first : ℕ) → All (IsStaged (copying options first)) (copies_of infos e.out k n.form)
  all_staged_at k n at live first =
      let rechunks = (typed_within infos (typed.known_kept e infos inputs options ok) e.out k n.form (typed.node_typed e infos inputs options ok k n at)).copies in
      let within = all_staged options.allowed options.reserved options.split_every e.out k infos n.form (typed.need_within e infos inputs options ok k n at live) in
      λ j d below. record {
        rechunk = rechunks j d below;
        fits = (staged_exactly options.allowed options.reserved (get_or (copies_of infos e.out k n.form) j d) (rechunks j d below)).1 (within j d below);
      }

  can_stage : (k : ℕ) (n : Node) (f : Form) → slice_get e.nodes k ≡ Some n → n.form ≡ f → is_live e k ≡ true → CanStage infos options e.out k f
  can_stage k n f at is live =
      subst (CanStage infos options e.out k) is (record {
        operands = (typed_within infos (typed.known_kept e infos inputs options ok) e.out k n.form (typed.node_typed e infos inputs options ok k n at)).operands;
        staged = all_staged_at k n at live;
      })

  -- ---- each node

  pub fitting : (k : ℕ) (n : Node) (f : Form) → slice_get e.nodes k ≡ Some n → n.form ≡ f → is_live e k ≡ true → is_given e k f ≡ false → IsFitting infos options k f
  fitting k n f at is live made =
      let accepted = typed.accepted e infos inputs options ok k n f at is in
      (laws_of f accepted.args).fitting e inputs infos options k accepted (can_stage k n f at is live) made

  pub node_ready : (k : ℕ) (n : Node) → slice_get e.nodes k ≡ Some n → is_live e k ≡ true → is_given e k n.form ≡ false → CanGrow infos options k n.form
  node_ready k n at live made = record { written = written k n n.form at refl; fitting = fitting k n n.form at refl live made }

  pub names_ready : All (λ name. is_name name ≡ true) (input_names e)
  names_ready k d below = used_is_name e (get_or (input_names e) k d) ok.form (input_used e k d below)

  -- the options lie in their ranges, since some node is live
  pub has_room : (k : ℕ) (n : Node) (first : ℕ) → slice_get e.nodes k ≡ Some n → is_live e k ≡ true → first < 2 ^ 30 → HasRoom options first
  has_room k n first at live small =
      let low = node_need infos options.reserved options.split_every e.out k n.form in
      let high = typed.need_within e infos inputs options ok k n at live in
      let most = ok.allowed in
      record { several = ok.several; few = ok.few; reserved = omega (arith, low, high, most); allowed = ok.allowed; room = small }

  pub are_options : IsClosed e (is_live e) → AreOptions options
  are_options closed =
      let room = has_room e.out (get_or e.nodes e.out no_node) 0 (slice_get-get_or e.nodes e.out no_node ok.form.out) closed.stored (omega arith) in
      record { allowed = room.allowed; reserved = room.reserved; several = room.several; few = room.few }
