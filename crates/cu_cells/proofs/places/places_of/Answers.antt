use Rattle.std.proofs.Common.{◌≡◌, false, sym, subst, arith, bytes_eq}
use Rattle.std.specs.List.{list_any}
use Rattle.cu_cells.proofs.Texts.{new_key}
use Rattle.cu_cells.proofs.places.places_of.Goals as goal

pub add-requires : goal.add-requires
add-requires c = record {
  new = subst (λ ks. list_any (bytes_eq c.spec-item.result.key) ks ≡ false) (sym c.loop-spec.invariant)
      (new_key c.args.specs.now c.loop-spec.spec-index c.spec-item.result c.requires (omega (arith, c.loop-spec-test.true)) (sym c.spec-item.is));
}
