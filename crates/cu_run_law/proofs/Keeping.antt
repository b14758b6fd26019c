-- What a put of a value of a piece keeps.
use Rattle.std.proofs.Common.{◌≡◌, ◌⊎◌, inl, inr, ℕ, List, Option, Some, None, refl, ap, sym, ◌∙◌, subst, arith}
use Rattle.cu_shape.specs.Index.{quotients}
use Rattle.cu_grid.proofs.Parting.{has_coordinate}
use Rattle.cu_store.specs.Held.{Contents, IsAmong, Holds}
use Rattle.cu_store.specs.Steps.{Shown, Changes, OrLate, IsChangedBy, Lands, Steps}
use Rattle.cu_store.proofs.Steps.{steps_wider}
use Rattle.cu_zarr.specs.Stored.{element_in}
use Rattle.cu_op.specs.declared.cells.Cell.{Cell}
use Rattle.cu_op.specs.Arrays.{layout_at, grid_at}
use Rattle.cu_op.specs.Chunks.{cell}
use Rattle.cu_op.specs.Schedule.{key_of}
use Rattle.cu_op.specs.Sound.{Sound}
use Rattle.cu_op.specs.Elements.{Elements}
use Rattle.cu_op.specs.Value.{stored_inputs, HasTypes}
use Rattle.cu_op.proofs.Plans.{grid_ok}
use Rattle.cu_run_law.specs.Left.{IsQuiet, IsLeft, Begun, RunChange}
use Rattle.cu_run_law.specs.Pieces.{PlanRun, chunks_alone, Piece, Text, Chunk, IsPiece, piece_key, piece_value, IsInputChunk, KeysApart, HoldsPiece, PieceChange}

-- what is held after a step of a depot that tells it
told_after : (W : Changes) (held : Contents) (now : Option Contents) → Lands W (Some held) now → (new : Contents) × (now ≡ Some new) × ((key : List ℕ) → IsChangedBy W held new key)
told_after W held None lands = absurd lands
told_after W held (Some new) lands = (new, refl, lands)

module _ (r : PlanRun) (env : Elements) (old : Shown) (left : IsLeft r env old) where
  -- one of the changes at the key of a piece is a put of its value
  piece_put : (q : Piece) (value : Option (List ℕ)) → IsPiece r q → OrLate (PieceChange r env) old.late (piece_key r q) value → (bytes : List ℕ) × (value ≡ Some bytes) × (piece_value r env q ≡ Some bytes)
  piece_put q value piece (inl (s, bytes, there, key, is, v)) =
      (bytes, is, subst (λ (x : Piece). piece_value r env x ≡ Some bytes) (sym (left.apart.pieces q s piece there key)) v)
  piece_put q value piece (inr (bytes, is, among)) = (bytes, is, left.quiet.pieces q bytes piece among)

  -- one at the key of a chunk of an input is a late put of what it holds
  input_put : (c : Cell) (value : Option (List ℕ)) → IsInputChunk r.plan.arrays c → OrLate (PieceChange r env) old.late (key_of r.plan.arrays c) value → value ≡ left.held (key_of r.plan.arrays c)
  input_put c value input (inl (s, bytes, there, key, is, v)) = absurd (left.apart.inputs s c there input (sym key))
  input_put c value input (inr (bytes, is, among)) = is ∙ sym (left.quiet.inputs c bytes input among)

  module _ (l m : ℕ) (new : Shown) (step : Begun r env l m old new) where
    after : (now : Contents) × (new.held ≡ Some now) × ((key : List ℕ) → IsChangedBy (OrLate (PieceChange r env) old.late) left.held now key)
    after = told_after (OrLate (PieceChange r env) old.late) left.held new.held (subst (λ (h : Option Contents). Lands (OrLate (PieceChange r env) old.late) h new.held) left.told step.lands)

    input_same : (now : Contents) (c : Cell) → IsInputChunk r.plan.arrays c → IsChangedBy (OrLate (PieceChange r env) old.late) left.held now (key_of r.plan.arrays c)
        → now (key_of r.plan.arrays c) ≡ left.held (key_of r.plan.arrays c)
    input_same now c input (inl same) = same
    input_same now c input (inr change) = input_put c (now (key_of r.plan.arrays c)) input change

    piece_after : (now : Contents) (q : Piece) → IsPiece r q → IsChangedBy (OrLate (PieceChange r env) old.late) left.held now (piece_key r q)
        → (left.held (piece_key r q) ≡ None) ⊎ ((bytes : List ℕ) × (left.held (piece_key r q) ≡ Some bytes) × (piece_value r env q ≡ Some bytes))
        → (now (piece_key r q) ≡ None) ⊎ ((bytes : List ℕ) × (now (piece_key r q) ≡ Some bytes) × (piece_value r env q ≡ Some bytes))
    piece_after now q piece (inl same) (inl none) = inl (same ∙ none)
    piece_after now q piece (inl same) (inr (bytes, is, v)) = inr (bytes, same ∙ is, v)
    piece_after now q piece (inr change) was = let put = piece_put q (now (piece_key r q)) piece change in inr (put.0, put.1, put.2)

    pub left_kept : IsLeft r env new
    left_kept =
        let (now, told, changed) = after in
        record {
          held = now;
          told = told;
          sound = left.sound;
          apart = left.apart;
          typed = left.typed;
          inputs = λ a idx within given inside.
              let g = grid_at r.plan.arrays a in
              let c = cell a (quotients idx g.chunk) in
              let input : IsInputChunk r.plan.arrays c = record { within = within; given = given; coordinate = has_coordinate g idx (grid_ok r.plan a left.sound within) inside } in
              ap (λ (bytes : Option (List ℕ)). element_in (layout_at r.plan.arrays a) bytes idx) (input_same now c input (changed (key_of r.plan.arrays c)))
              ∙ left.inputs a idx within given inside;
          pieces = λ q piece. piece_after now q piece (changed (piece_key r q)) (left.pieces q piece);
          quiet = record {
            pieces = λ q bytes piece among. let put = piece_put q (Some bytes) piece (step.late (piece_key r q) bytes among) in put.2 ∙ sym put.1;
            inputs = λ c bytes input among. input_same now c input (changed (key_of r.plan.arrays c)) ∙ sym (input_put c (Some bytes) input (step.late (key_of r.plan.arrays c) bytes among));
          };
        }

    pub piece_stays : (q : Piece) → IsPiece r q → HoldsPiece r env q old → HoldsPiece r env q new
    piece_stays q piece (bytes, v, holds) =
        let (now, told, changed) = after in
        let was : left.held (piece_key r q) ≡ Some bytes = subst (λ (h : Option Contents). Holds h (piece_key r q) bytes) left.told holds in
        (bytes, v, subst (λ (h : Option Contents). Holds h (piece_key r q) bytes) (sym told) (still now q piece bytes v was (changed (piece_key r q))))
      where
        still : (now : Contents) (q : Piece) → IsPiece r q → (bytes : List ℕ) → piece_value r env q ≡ Some bytes → left.held (piece_key r q) ≡ Some bytes
            → IsChangedBy (OrLate (PieceChange r env) old.late) left.held now (piece_key r q) → now (piece_key r q) ≡ Some bytes
        still now q piece bytes v was (inl same) = same ∙ was
        still now q piece bytes v was (inr change) = let put = piece_put q (now (piece_key r q)) piece change in put.1 ∙ sym put.2 ∙ v

  -- puts whose bytes are the values where the store was left so are such puts
  pub begun_since : (l m : ℕ) (new : Shown) → Steps (RunChange r old) l m old new → Begun r env l m old new
  begun_since l m new step =
      steps_wider (λ key value change. let (q, bytes, piece, at, is, valued) = change in (q, bytes, piece, at, is, valued env left)) (omega arith) (omega arith) step

-- what a run finds where no piece is held
pub left_at_first : (r : PlanRun) (shown : Shown) (held : Contents) → Sound r.plan → KeysApart r → shown.held ≡ Some held → HasTypes r.plan.arrays (stored_inputs r.plan.arrays held)
    → ((q : Piece) → IsPiece r q → held (piece_key r q) ≡ None) → IsQuiet r (stored_inputs r.plan.arrays held) held shown.late
    → IsLeft r (stored_inputs r.plan.arrays held) shown
left_at_first r shown held sound apart told typed free quiet = record {
  held = held;
  told = told;
  sound = sound;
  apart = apart;
  typed = typed;
  inputs = λ a idx within given inside. refl;
  pieces = λ q piece. inl (free q piece);
  quiet = quiet;
}

-- the chunks alone
alone_piece : (r : PlanRun) (q : Piece) → IsPiece (chunks_alone r.plan) q → IsPiece r q × ((env : Elements) → piece_value (chunks_alone r.plan) env q ≡ piece_value r env q) × (piece_key (chunks_alone r.plan) q ≡ piece_key r q)
alone_piece r (Text n) piece = absurd (omega arith)
alone_piece r (Chunk c) piece = (piece, (λ env. refl), refl)

pub left_alone : (r : PlanRun) (env : Elements) (shown : Shown) → IsLeft r env shown → IsLeft (chunks_alone r.plan) env shown
left_alone r env shown left = record {
  held = left.held;
  told = left.told;
  sound = left.sound;
  apart = record {
    pieces = λ q s hq hs e. let a = alone_piece r q hq in let b = alone_piece r s hs in left.apart.pieces q s a.0 b.0 (sym a.2 ∙ e ∙ b.2);
    inputs = λ q c hq input e. let a = alone_piece r q hq in left.apart.inputs q c a.0 input (sym a.2 ∙ e);
  };
  typed = left.typed;
  inputs = left.inputs;
  pieces = λ q hq.
      let a = alone_piece r q hq in
      was q a.2 (a.1 env) (left.pieces q a.0);
  quiet = record {
    pieces = λ q bytes hq among.
        let a = alone_piece r q hq in
        a.1 env ∙ left.quiet.pieces q bytes a.0 (subst (λ (key : List ℕ). IsAmong shown.late key bytes) a.2 among);
    inputs = left.quiet.inputs;
  };
}
  where
    was : (q : Piece) → piece_key (chunks_alone r.plan) q ≡ piece_key r q → piece_value (chunks_alone r.plan) env q ≡ piece_value r env q
        → (left.held (piece_key r q) ≡ None) ⊎ ((bytes : List ℕ) × (left.held (piece_key r q) ≡ Some bytes) × (piece_value r env q ≡ Some bytes))
        → (left.held (piece_key (chunks_alone r.plan) q) ≡ None) ⊎ ((bytes : List ℕ) × (left.held (piece_key (chunks_alone r.plan) q) ≡ Some bytes) × (piece_value (chunks_alone r.plan) env q ≡ Some bytes))
    was q key value (inl none) = inl (ap left.held key ∙ none)
    was q key value (inr (bytes, is, v)) = inr (bytes, ap left.held key ∙ is, value ∙ v)

pub change_alone : (r : PlanRun) (first : Shown) (l m : ℕ) (old new : Shown) → Steps (RunChange (chunks_alone r.plan) first) l m old new → Steps (RunChange r first) l m old new
change_alone r first l m old new step =
    steps_wider (λ key value change.
    let (q, bytes, piece, at, is, valued) = change in
    let a = alone_piece r q piece in
    (q, bytes, a.0, at ∙ a.2, is, λ env left. sym (a.1 env) ∙ valued env (left_alone r env first left))) (omega arith) (omega arith) step
