use Rattle.std.proofs.Common.{◌≡◌, ℕ, List, [], get_or, ap, ◌∙◌, sym, subst, arith, inl, inr}
use Rattle.std.proofs.lemmas.Bool.Decides.{eqb_tells}
use Rattle.std.specs.Option.{IfSome}
use Rattle.cu_shape.specs.Index.{IsInside}
use Rattle.cu_grid.specs.Counts.{IsRegion, IsWithin}
use Rattle.cu_origin.specs.Pull.{origin_of}
use Rattle.cu_origin.specs.declared.provenance.Provenance.TheVariants.{From}
use Rattle.cu_view_box.specs.Piece.{read_at}
use Rattle.cu_view_box.specs.Reshape.{IsReshape}
use Rattle.cu_view.specs.Hull.{HoldsIndex}
use Rattle.cu_view.specs.Pieces.{number_at}
use Rattle.cu_view.proofs.Fitting.{first_is, source_is}
use Rattle.cu_view.proofs.Hulls.{holds_of, none_of, self_region}
use Rattle.cu_view.proofs.Ranges.{inside_of}
use Rattle.cu_view.proofs.Shares.{in_piece, piece_ranks, is_reshape, only_first, number_below}
use Rattle.cu_view.proofs.hull.hull_of.Goals as goal

pub reshape_hull-requires-clause-reshape : goal.reshape_hull-requires-clause-reshape
reshape_hull-requires-clause-reshape c =
    let one = only_first c.args.pull.now c.args.sources.now c.args.shape.now c.in-Reshape.is c.requires.view.fits in
    let e = first_is c.args.sources.now c.index-sources-0.result (omega arith) c.index-sources-0.is in
    subst (λ (x : List ℕ). IsReshape x c.args.shape.now) (sym e) (is_reshape c.args.pull.now c.args.sources.now c.args.shape.now c.in-Reshape.is c.requires.view)

pub piece_hull-requires : goal.piece_hull-requires
piece_hull-requires c =
    let n = c.piece_at-piece.ensures in
    let s : c.index-sources-source.result ≡ get_or c.args.sources.now c.args.source [] = source_is c.args.sources.now c.args.source c.index-sources-source.result c.requires.source c.index-sources-source.is in
    record {
      ranks = λ e. piece_ranks c.args.pull.now c.args.sources.now c.args.shape.now c.loop-number.number c.args.source c.piece_at-piece.result c.args.out.now (record { lo = c.index-sources-source.result; hi = c.index-sources-source.result }) n e c.requires.out
          (subst (λ (x : List ℕ). IsRegion x c.index-sources-source.result c.index-sources-source.result) s (self_region c.index-sources-source.result));
      ways = n.is_piece.ways;
      inside = λ idx e w. subst (λ (x : List ℕ). IsInside x (read_at c.piece_at-piece.result idx)) (ap (λ (k : ℕ). get_or c.args.sources.now k []) e ∙ sym s) (n.is_piece.inside idx w);
    }

pub loop-number-preserved : goal.loop-number-preserved
loop-number-preserved c =
    let s : c.index-sources-source-in-loop-number.result ≡ get_or c.args.sources.now c.args.source [] = source_is c.args.sources.now c.args.source c.index-sources-source-in-loop-number.result c.requires.source c.index-sources-source-in-loop-number.is in
    record {
      region = subst (λ (x : List ℕ). IfSome c.joined-hull.result (λ r. IsRegion x r.lo r.hi)) s c.joined-hull.ensures.region;
      covers = λ idx i w b e.
          elim (eqb_tells (number_at c.args.pull.now c.args.sources.now c.args.shape.now idx) c.loop-number.number) [
            | inl q ↦
                let m = in_piece c.args.pull.now c.args.sources.now c.args.shape.now idx c.loop-number.number c.args.source i c.piece_at-piece.result c.piece_at-piece.ensures (inside_of c.args.shape.now c.args.out.now.lo c.args.out.now.hi idx c.requires.out w) q.1 e in
                c.joined-hull.ensures.second i (subst (λ (x : List ℕ). HoldsIndex c.piece_hull.result x) m.index (c.piece_hull.ensures.covers idx m.source m.within w))
            | inr q ↦ let n = q.1 in c.joined-hull.ensures.first i (c.loop-number.invariant.covers idx i w (omega arith) e)
          ];
    }

pub returns : goal.returns
returns c =
    let all = λ (idx i : List ℕ) (w : IsWithin c.args.out.now.lo c.args.out.now.hi idx) (e : origin_of c.args.pull.now c.args.sources.now c.args.shape.now idx ≡ From c.args.source i).
    let h = inside_of c.args.shape.now c.args.out.now.lo c.args.out.now.hi idx c.requires.out w in
    let l = number_below c.args.pull.now c.args.sources.now c.args.shape.now idx c.args.source i c.requires.view.fits h c.in_default.not-Reshape e in
    c.loop-number.invariant.covers idx i w (omega arith) e in
    record {
      region = c.loop-number.invariant.region;
      holds = holds_of c.loop-number.hull (λ idx. IsWithin c.args.out.now.lo c.args.out.now.hi idx) (λ idx i. origin_of c.args.pull.now c.args.sources.now c.args.shape.now idx ≡ From c.args.source i) all;
      none = none_of c.loop-number.hull (λ idx. IsWithin c.args.out.now.lo c.args.out.now.hi idx) (λ idx i. origin_of c.args.pull.now c.args.sources.now c.args.shape.now idx ≡ From c.args.source i) all;
    }
