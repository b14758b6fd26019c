use Rattle.std.proofs.Common.{◌≡◌, ℕ, List, ap, ◌∙◌, sym, subst, arith, inl, inr}
use Rattle.std.proofs.lemmas.Bool.Decides.{eqb_tells}
use Rattle.cu_num.specs.Element.{bytes_at, element_at, element_bytes}
use Rattle.cu_num.specs.declared.layout.Endian.TheVariants.{Little}
use Rattle.cu_grid.specs.Counts.{IsWithin}
use Rattle.cu_origin.specs.declared.provenance.Provenance.TheVariants.{From}
use Rattle.cu_view_box.specs.Block.{buffer_place}
use Rattle.cu_view_box.specs.Piece.{read_at}
use Rattle.cu_view_box.specs.Reshape.{IsReshape}
use Rattle.cu_view.specs.Pieces.{number_at}
use Rattle.cu_view.proofs.Asked.{lo_length}
use Rattle.cu_view.proofs.Fitting.{first_is}
use Rattle.cu_view.proofs.Ranges.{inside_of}
use Rattle.cu_view.proofs.Shares.{is_reshape, only_first, in_piece, piece_ranks, has_axes, number_below}
use Rattle.cu_view.proofs.gathering.gather.Goals as goal

pub reshape_gather-requires-clause-reshape : goal.reshape_gather-requires-clause-reshape
reshape_gather-requires-clause-reshape c =
    let one = only_first c.args.pull.now c.args.sources.now c.args.shape.now c.in-Reshape.is c.requires.view.fits in
    let e = first_is c.args.sources.now c.index-sources-0.result (omega arith) c.index-sources-0.is in
    subst (λ (x : List ℕ). IsReshape x c.args.shape.now) (sym e) (is_reshape c.args.pull.now c.args.sources.now c.args.shape.now c.in-Reshape.is c.requires.view)

pub gather_piece-requires-clause-ranks : goal.gather_piece-requires-clause-ranks
gather_piece-requires-clause-ranks c = λ e. piece_ranks c.args.pull.now c.args.sources.now c.args.shape.now c.loop-number.number c.args.source c.piece_at-piece.result c.args.to.now.region c.args.from.now.region c.piece_at-piece.ensures e c.requires.to_region c.requires.from_region

pub gather_piece-requires-clause-axes : goal.gather_piece-requires-clause-axes
gather_piece-requires-clause-axes c = has_axes c.args.pull.now c.args.sources.now c.args.shape.now c.piece_at-piece.result.region.lo c.requires.view.fits (lo_length c.args.shape.now c.piece_at-piece.result.region.lo c.piece_at-piece.result.region.hi c.piece_at-piece.ensures.is_piece.region)

pub gather_piece-requires-clause-ways : goal.gather_piece-requires-clause-ways
gather_piece-requires-clause-ways c = c.piece_at-piece.ensures.is_piece.ways

pub loop-number-preserved : goal.loop-number-preserved
loop-number-preserved c = record {
  moved = λ idx i w b e p.
      let h = inside_of c.args.shape.now c.args.to.now.region.lo c.args.to.now.region.hi idx c.requires.to_region w in
      elim (eqb_tells (number_at c.args.pull.now c.args.sources.now c.args.shape.now idx) c.loop-number.number) [
        | inl q ↦
            let m = in_piece c.args.pull.now c.args.sources.now c.args.shape.now idx c.loop-number.number c.args.source i c.piece_at-piece.result c.piece_at-piece.ensures h q.1 e in
            subst (λ (x : List ℕ). bytes_at c.args.to.now.dtype c.gather_piece.new.output (buffer_place c.args.to.now idx) ≡ element_bytes Little c.args.to.now.dtype (element_at Little c.args.from.now.dtype c.args.bytes.now (buffer_place c.args.from.now x))) m.index
            (c.gather_piece.ensures.moved idx m.source (record { of_piece = m.within; of_out = w; of_part = subst (λ (x : List ℕ). IsWithin c.args.from.now.region.lo c.args.from.now.region.hi x) (sym m.index) p }) m.shown)
        | inr q ↦
            let n = q.1 in
            c.gather_piece.ensures.others idx w (λ s sh t. q.1 ((c.piece_at-piece.ensures.exactly idx h).0 sh.of_piece)) ∙ c.loop-number.invariant.moved idx i w (omega arith) e p
      ];
  others = λ idx w no.
      let h = inside_of c.args.shape.now c.args.to.now.region.lo c.args.to.now.region.hi idx c.requires.to_region w in
      c.gather_piece.ensures.others idx w
      (λ s sh t.
      let e = (c.piece_at-piece.ensures.exactly idx h).0 sh.of_piece in
      no (omega arith) (read_at c.piece_at-piece.result idx) (c.piece_at-piece.ensures.comes idx sh.of_piece t ∙ ap (λ (k : ℕ). From k (read_at c.piece_at-piece.result idx)) s) sh.of_part)
      ∙ c.loop-number.invariant.others idx w (λ b i e. no (omega arith) i e);
}

pub returns-after-loop-number-clause-moved : goal.returns-after-loop-number-clause-moved
returns-after-loop-number-clause-moved c = λ idx i w e p.
    let h = inside_of c.args.shape.now c.args.to.now.region.lo c.args.to.now.region.hi idx c.requires.to_region w in
    let l = number_below c.args.pull.now c.args.sources.now c.args.shape.now idx c.args.source i c.requires.view.fits h c.in_default.not-Reshape e in
    c.loop-number.invariant.moved idx i w (omega arith) e p

pub returns-after-loop-number-clause-others : goal.returns-after-loop-number-clause-others
returns-after-loop-number-clause-others c = λ idx w no. c.loop-number.invariant.others idx w (λ b i e. no i e)
