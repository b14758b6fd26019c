use Rattle.std.proofs.Common.{◌≡◌, ℕ, List, [], length, get_or, ap, ◌∙◌, sym, subst}
use Rattle.cu_shape.specs.Index.{IsInside}
use Rattle.cu_view_box.specs.Piece.{read_by_ways}
use Rattle.cu_view.specs.Boxes.{source_of, index_read}
use Rattle.cu_view.proofs.Comes.{comes_from, read_inside, from_same}
use Rattle.cu_view.proofs.Fitting.{source_is}
use Rattle.cu_view.proofs.Ranges.{inside_of}
use Rattle.cu_view.proofs.pieces.piece_at.Goals as goal

pub returns : goal.returns
returns c =
    let b = c.box_at-region.ensures in
    let r = c.source_at-source.ensures in
    let source : c.index-sources-source.result ≡ get_or c.args.sources.now (source_of c.args.pull.now c.args.number) [] = source_is c.args.sources.now c.source_at-source.result c.index-sources-source.result r.below c.index-sources-source.is ∙ ap (λ (k : ℕ). get_or c.args.sources.now k []) r.value in
    record {
      is_piece = record {
        region = b.region;
        source = r.below;
        ways = c.ways_of-ways.ensures.over;
        inside = λ idx w.
            let h = inside_of c.args.shape.now c.box_at-region.result.lo c.box_at-region.result.hi idx b.region w in
            let e = (b.exactly idx h).0 w in
            let i = read_inside c.args.pull.now c.args.sources.now c.args.shape.now idx c.args.number c.requires.view.fits h c.requires.number e in
            let q = c.ways_of-ways.ensures.reads idx h e (subst (λ (x : List ℕ). IsInside x (index_read c.args.pull.now c.args.sources.now c.args.shape.now idx)) (sym source) i) in
            subst (λ (k : ℕ). IsInside (get_or c.args.sources.now k []) (read_by_ways c.box_at-region.result.lo c.ways_of-ways.result.items idx)) (sym r.value) (subst (λ (x : List ℕ). IsInside (get_or c.args.sources.now (source_of c.args.pull.now c.args.number) []) x) (sym q) i);
      };
      rank = c.ways_of-ways.ensures.count ∙ ap (λ (x : List ℕ). length x) (source_is c.args.sources.now c.source_at-source.result c.index-sources-source.result r.below c.index-sources-source.is);
      exactly = b.exactly;
      comes = λ idx w s.
          let h = inside_of c.args.shape.now c.box_at-region.result.lo c.box_at-region.result.hi idx b.region w in
          let e = (b.exactly idx h).0 w in
          let i = read_inside c.args.pull.now c.args.sources.now c.args.shape.now idx c.args.number c.requires.view.fits h c.requires.number e in
          let q = c.ways_of-ways.ensures.reads idx h e (subst (λ (x : List ℕ). IsInside x (index_read c.args.pull.now c.args.sources.now c.args.shape.now idx)) (sym source) i) in
          comes_from c.args.pull.now c.args.sources.now c.args.shape.now idx c.args.number c.requires.view.fits h c.requires.number e s ∙ from_same _ _ _ _ (sym r.value) (sym q);
    }
