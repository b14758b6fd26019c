-- What a pass of a yard goes on knowing along calls.
use Rattle.std.proofs.Common.{ℕ, Bool, IsTrue, List, Option, Result, Ok, Err, OnOk, refl}
use Rattle.cu_store.specs.Chunks.{Keeps, Allows}
use Rattle.cu_store.specs.Held.{Contents}
use Rattle.cu_store.specs.Yard.{is_made, Served, Known, MayGet, MayPut, YardLaws}
use Rattle.cu_store.proofs.Specs.{made_is_served}
use Rattle.cu_store.specs.declared.yard.Spec.{Spec}
use Rattle.cu_op.specs.declared.layout.ArrayInfo.{ArrayInfo}
use Rattle.cu_region.specs.Passes.{IsLaterIn}
use Rattle.cu_region.specs.Reading.{IsChunkKey}
use Rattle.cu_region.specs.Writing.{RegionPut, StoresRegion}

pub seen_then : (specs : List Spec) (old new : List ℕ → Bool) (key : List ℕ) → Keeps (MayGet specs old) (MayGet specs new) → IsTrue (is_made specs key) → IsTrue (old key) → IsTrue (new key)
seen_then specs old new key gets made seen = (gets key (record { served = made_is_served specs key made; known = λ again. seen })).known made

pub later_pass : {Y P : Type 0} {serves : Y → Served} {knows : P → Known} {owns : Y → P → Type 0} {together : P → P → Type 0} → YardLaws serves knows owns together
    → (y : Y) (p q : P) → owns y p → owns y q → Keeps (MayGet (serves y).specs (knows p).seen) (MayGet (serves y).specs (knows q).seen)
    → IsLaterIn (serves y).specs (knows p) (knows q)
later_pass {serves = serves} {knows = knows} laws y p q first second gets = record {
  yard = laws.same p q (laws.one_yard y p q first second);
  seen = λ key made seen. seen_then (serves y).specs (knows p).seen (knows q).seen key gets made seen;
}

on_ok_both : {T E A B C : Type 0} (r : Result T E) → (A → B → C) → OnOk r A → OnOk r B → OnOk r C
on_ok_both (Ok x) more a b = more a b
on_ok_both (Err e) more a b = tt

-- the chunks of a region that were put under made keys and may then be asked for were seen
pub region_seen : {T E : Type 0} (result : Result T E) (info : ArrayInfo) (lo hi input : List ℕ) (yard : Served) (seen : List ℕ → Bool) (held : Option Contents)
    → Allows (RegionPut info lo hi input) (MayPut yard) → OnOk result (StoresRegion info lo hi input held) → OnOk result (Keeps (IsChunkKey info lo hi) (MayGet yard.specs seen))
    → OnOk result (Keeps (IsChunkKey info lo hi) (λ key. IsTrue (seen key)))
region_seen result info lo hi input yard seen held may = on_ok_both result (λ stores got key (coord, meets, is).
    let (bytes, value, holds) = stores coord meets in
    (got key (coord, meets, is)).known (may key bytes (bytes, refl, (coord, meets, is, value))).made)
