use Rattle.std.proofs.Common.{◌≡◌, ℕ, Bool, true, false, List, sym, subst, arith, inl, inr}
use Rattle.std.proofs.lemmas.Bool.Decides.{eqb_tells}
use Rattle.cu_grid.specs.Counts.{IsWithin}
use Rattle.cu_view_box.specs.Reshape.{IsReshape}
use Rattle.cu_view.specs.Pieces.{number_at}
use Rattle.cu_view.proofs.Asked.{lo_length}
use Rattle.cu_view.proofs.Fitting.{first_is}
use Rattle.cu_view.proofs.Ranges.{inside_of}
use Rattle.cu_view.proofs.Shares.{in_piece, piece_ranks, has_axes, is_reshape, only_first, number_below}
use Rattle.cu_view.proofs.touching.touches_of.Goals as goal

pub reshape_touches-requires-clause-reshape : goal.reshape_touches-requires-clause-reshape
reshape_touches-requires-clause-reshape c =
    let one = only_first c.args.pull.now c.args.sources.now c.args.shape.now c.in-Reshape.is c.requires.view.fits in
    let e = first_is c.args.sources.now c.index-sources-0.result (omega arith) c.index-sources-0.is in
    subst (λ (x : List ℕ). IsReshape x c.args.shape.now) (sym e) (is_reshape c.args.pull.now c.args.sources.now c.args.shape.now c.in-Reshape.is c.requires.view)

pub piece_touches-requires : goal.piece_touches-requires
piece_touches-requires c =
    let n = c.piece_at-piece.ensures in
    record {
      ranks = λ e. piece_ranks c.args.pull.now c.args.sources.now c.args.shape.now c.loop-number.number c.args.source c.piece_at-piece.result c.args.out.now c.args.part.now n e c.requires.out c.requires.part;
      ways = n.is_piece.ways;
      axes = has_axes c.args.pull.now c.args.sources.now c.args.shape.now c.piece_at-piece.result.region.lo c.requires.view.fits (lo_length c.args.shape.now c.piece_at-piece.result.region.lo c.piece_at-piece.result.region.hi n.is_piece.region);
    }

true_false : {A : Type 0} (b : Bool) → b ≡ true → b ≡ false → A
true_false true h g = cc
true_false false h g = cc

pub loop-number-preserved : goal.loop-number-preserved
loop-number-preserved c = λ idx i w b e p.
    elim (eqb_tells (number_at c.args.pull.now c.args.sources.now c.args.shape.now idx) c.loop-number.number) [
      | inl q ↦
          let m = in_piece c.args.pull.now c.args.sources.now c.args.shape.now idx c.loop-number.number c.args.source i c.piece_at-piece.result c.piece_at-piece.ensures (inside_of c.args.shape.now c.args.out.now.lo c.args.out.now.hi idx c.requires.out w) q.1 e in
          true_false c.piece_touches.result (c.piece_touches.ensures.some idx m.source (record { of_piece = m.within; of_out = w; of_part = subst (λ (x : List ℕ). IsWithin c.args.part.now.lo c.args.part.now.hi x) (sym m.index) p }) m.shown) c.if-piece_touches.false
      | inr q ↦ let n = q.1 in c.loop-number.invariant idx i w (omega arith) e p
    ]

pub returns : goal.returns
returns c = record {
  some = λ idx i w e p.
      let h = inside_of c.args.shape.now c.args.out.now.lo c.args.out.now.hi idx c.requires.out w in
      let l = number_below c.args.pull.now c.args.sources.now c.args.shape.now idx c.args.source i c.requires.view.fits h c.in_default.not-Reshape e in
      absurd (c.loop-number.invariant idx i w (omega arith) e p);
  only = λ n t. cc;
  rows = λ n t. cc;
}
