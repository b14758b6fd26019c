-- The laws of cells as a yard.
use Rattle.std.proofs.Common.{ℕ, Bool, true, false, IsTrue, ◌&&◌, List, Option, Some, None, IsSome, refl, sym, ap, ◌∙◌, subst, inr}
use Rattle.std.specs.Option.{is_some}
use Rattle.cu_store.specs.Yard.{bytes_under, is_made, YardLaws}
use Rattle.cu_cells.specs.Layout.{Laid}
use Rattle.cu_cells.specs.Cells.{entries_in}
use Rattle.cu_cells.specs.Yard.{served_by, known_of, IsOwnPass, AreOfOneTable}

first_true : (a b : Bool) → IsTrue (a && b) → IsTrue a
first_true true b h = refl
first_true false b h = h

second_true : (a b : Bool) → IsTrue (a && b) → IsTrue b
second_true true b h = h
second_true false b h = cc

is_there : (o : Option (List ℕ)) → IsTrue (is_some o) → IsSome o
is_there (Some x) h = refl
is_there None h = cc

pub cell_laws : YardLaws served_by known_of IsOwnPass AreOfOneTable
cell_laws = record {
  one_yard = λ y p q mine' yours'. let mine = mine'.hand in let yours = yours'.hand in record { first = mine.use_; second = yours.use_; table = mine.table ∙ sym yours.table; laid = mine.laid ∙ sym yours.laid; entries = mine.entries ∙ sym yours.entries };
  own = λ y p q mine' same. let mine = mine'.hand in record { hand = record { sound = mine.sound; use_ = same.second; table = sym same.table ∙ mine.table; laid = sym same.laid ∙ mine.laid; entries = sym same.entries ∙ mine.entries }; rooms = mine'.rooms };
  same = λ p q same. record {
    promise = ap (λ (l : Laid). bytes_under l.promise) (sym same.laid);
    entries = (λ k. Some (entries_in (sym same.laid k) (sym same.entries k).items));
    lacks = refl;
  };
  fits = λ y p mine'. let mine = mine'.hand in record {
    promise = inr (ap (λ (l : Laid). Some (bytes_under l.promise)) (sym mine.laid));
    entries = (λ k. Some (entries_in (sym mine.laid k) (sym mine.entries k).items));
    told = tt;
    made = λ entries told key seen. subst (λ (l : Laid). IsTrue (is_made l.specs key)) mine.laid (first_true (is_made p.seat.me.0.laid.specs key) _ seen);
    present = λ entries told key seen. is_there (bytes_under p.seat.me.0.laid.promise key) (first_true (is_some (bytes_under p.seat.me.0.laid.promise key)) _ (second_true (is_made p.seat.me.0.laid.specs key) _ seen));
  };
}
