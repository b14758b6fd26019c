use Rattle.std.proofs.Common.{◌≡◌, ◌+◌, ◌-◌, ◌<◌, ◌≤◌, refl, List, length, take, drop, ap, sym, subst, ◌∙◌, arith, true, false}
use Rattle.cu_op.specs.declared.operation.Planned.{Planned}
use Rattle.cu_fuse.specs.Close.{maker_of}
use Rattle.cu_fuse.specs.Copies.{joint_copy, may_join}
use Rattle.cu_fuse.specs.Fused.{reader_of}
use Rattle.cu_fuse.specs.Runs.{IsOverArrays}
use Rattle.cu_fuse.proofs.MergedAway.{StandAt}
use Rattle.cu_fuse.proofs.PutTogether.{away_nowhere, unread, kept_apart, taken_together, maker_writes, reader_reads}
use Rattle.cu_fuse.proofs.Scanning.{rest_taken}
use Rattle.cu_fuse.proofs.copies.join_at.Goals as goal

-- a slice up to the end of a list that another is
rest_of : (xs ys : List Planned) (n : _) → xs ≡ ys → take (length xs - n) (drop n xs) ≡ drop n ys
rest_of xs ys n e = rest_taken xs n ∙ ap (drop n) e

pub returns-then-maker-len : goal.returns-then-maker-len
returns-then-maker-len c =
    let ops = c.args.ops.now.items in
    let a = c.args.a in
    let place = c.maker_of-maker.ensures.number ∙ ap (λ (l : List Planned). maker_of l a) c.deref.ensures.value in
    let none : length ops ≤ maker_of ops a = (let l = c.len.ensures in let b = c.if-maker-len.true in omega (arith, l, b, place)) in
    sym (away_nowhere (may_join c.args.setting.now) (λ maker reader b. joint_copy c.args.setting.now maker reader) a ops none)

pub returns-then-reader-len : goal.returns-then-reader-len
returns-then-reader-len c =
    let ops = c.args.ops.now.items in
    let a = c.args.a in
    let m = c.maker_of-maker.result in
    let r = c.reader_of.result in
    let place = c.maker_of-maker.ensures.number ∙ ap (λ (l : List Planned). maker_of l a) c.deref.ensures.value in
    let below : m < length ops = (let l = c.len.ensures in let b = c.if-maker-len.false in omega (arith, l, b)) in
    let rest = c.reader_of.ensures.number ∙ ap (λ (l : List Planned). reader_of l a) (rest_of c.deref-2.result.now ops (m + 1) c.deref-2.ensures.value) in
    let long : length ops ≤ m + 1 + r = (let l = c.len-2.ensures in let b = c.if-reader-len.true in omega (arith, l, b)) in
    sym (unread (may_join c.args.setting.now) (λ maker reader b. joint_copy c.args.setting.now maker reader) a ops m r place below rest long)

pub joined_reader-joined-requires-clause-read : goal.joined_reader-joined-requires-clause-read
joined_reader-joined-requires-clause-read c =
    let ops = c.args.ops.now.items in
    let a = c.args.a in
    let m = c.maker_of-maker.result in
    let r = c.reader_of.result in
    let at : StandAt ops a m r = record {
      maker = c.maker_of-maker.ensures.number ∙ ap (λ (l : List Planned). maker_of l a) c.deref.ensures.value;
      below = (let l = c.len.ensures in let b = c.if-maker-len.false in omega (arith, l, b));
      reader = c.reader_of.ensures.number ∙ ap (λ (l : List Planned). reader_of l a) (rest_of c.deref-2.result.now ops (m + 1) c.deref-2.ensures.value);
      there = (let l = c.len-2.ensures in let b = c.if-reader-len.false in omega (arith, l, b));
    } in
    reader_reads (may_join c.args.setting.now) (λ maker reader b. joint_copy c.args.setting.now maker reader) a ops m r at c.index-2.result.now c.index-2.ensures

pub joined_reader-joined-requires-clause-written : goal.joined_reader-joined-requires-clause-written
joined_reader-joined-requires-clause-written c =
    let ops = c.args.ops.now.items in
    let a = c.args.a in
    let m = c.maker_of-maker.result in
    let r = c.reader_of.result in
    let at : StandAt ops a m r = record {
      maker = c.maker_of-maker.ensures.number ∙ ap (λ (l : List Planned). maker_of l a) c.deref.ensures.value;
      below = (let l = c.len.ensures in let b = c.if-maker-len.false in omega (arith, l, b));
      reader = c.reader_of.ensures.number ∙ ap (λ (l : List Planned). reader_of l a) (rest_of c.deref-2.result.now ops (m + 1) c.deref-2.ensures.value);
      there = (let l = c.len-2.ensures in let b = c.if-reader-len.false in omega (arith, l, b));
    } in
    maker_writes (may_join c.args.setting.now) (λ maker reader b. joint_copy c.args.setting.now maker reader) a ops m r at c.index.result.now c.index.ensures

pub returns-in-Some : goal.returns-in-Some
returns-in-Some c =
    let ops = c.args.ops.now.items in
    let a = c.args.a in
    let m = c.maker_of-maker.result in
    let r = c.reader_of.result in
    let s = c.args.setting.now in
    let mk = c.index.result.now in
    let rd = c.index-2.result.now in
    let at : StandAt ops a m r = record {
      maker = c.maker_of-maker.ensures.number ∙ ap (λ (l : List Planned). maker_of l a) c.deref.ensures.value;
      below = (let l = c.len.ensures in let b = c.if-maker-len.false in omega (arith, l, b));
      reader = c.reader_of.ensures.number ∙ ap (λ (l : List Planned). reader_of l a) (rest_of c.deref-2.result.now ops (m + 1) c.deref-2.ensures.value);
      there = (let l = c.len-2.ensures in let b = c.if-reader-len.false in omega (arith, l, b));
    } in
    let may = subst (λ (l : List Planned). may_join s mk rd l a ≡ true) (rest_of c.deref-3.result.now ops (m + 1 + r + 1) c.deref-3.ensures.value) (c.in-Some.ensures {u = tt}).joins in
    let done = taken_together (may_join c.args.setting.now) (λ maker reader b. joint_copy c.args.setting.now maker reader) a ops m r at mk rd c.in-Some.both c.index.ensures c.index-2.ensures may (c.in-Some.ensures {u = tt}).joint in
    c.remove.ensures.items ∙ done

pub returns-in_default : goal.returns-in_default
returns-in_default c =
    let ops = c.args.ops.now.items in
    let a = c.args.a in
    let m = c.maker_of-maker.result in
    let r = c.reader_of.result in
    let s = c.args.setting.now in
    let mk = c.index.result.now in
    let rd = c.index-2.result.now in
    let at : StandAt ops a m r = record {
      maker = c.maker_of-maker.ensures.number ∙ ap (λ (l : List Planned). maker_of l a) c.deref.ensures.value;
      below = (let l = c.len.ensures in let b = c.if-maker-len.false in omega (arith, l, b));
      reader = c.reader_of.ensures.number ∙ ap (λ (l : List Planned). reader_of l a) (rest_of c.deref-2.result.now ops (m + 1) c.deref-2.ensures.value);
      there = (let l = c.len-2.ensures in let b = c.if-reader-len.false in omega (arith, l, b));
    } in
    let not = subst (λ (l : List Planned). may_join s mk rd l a ≡ false) (rest_of c.deref-3.result.now ops (m + 1 + r + 1) c.deref-3.ensures.value) ((c.in_default.ensures {u = tt}).none refl) in
    kept_apart (may_join c.args.setting.now) (λ maker reader b. joint_copy c.args.setting.now maker reader) a ops m r at mk rd c.index.ensures c.index-2.ensures not

pub joined_reader-joined-requires-clause-maker : goal.joined_reader-joined-requires-clause-maker
joined_reader-joined-requires-clause-maker c =
    let below : c.maker_of-maker.result < length c.args.ops.now.items = (let l = c.len.ensures in let b = c.if-maker-len.false in omega (arith, l, b)) in
    subst (λ (o : Planned). IsOverArrays c.args.setting.now.arrays o.op) (sym c.index.ensures) (c.requires.over c.maker_of-maker.result c.index.result.now below)

pub joined_reader-joined-requires-clause-reader : goal.joined_reader-joined-requires-clause-reader
joined_reader-joined-requires-clause-reader c =
    let there : c.maker_of-maker.result + 1 + c.reader_of.result < length c.args.ops.now.items = (let l = c.len-2.ensures in let b = c.if-reader-len.false in omega (arith, l, b)) in
    subst (λ (o : Planned). IsOverArrays c.args.setting.now.arrays o.op) (sym c.index-2.ensures) (c.requires.over (c.maker_of-maker.result + 1 + c.reader_of.result) c.index-2.result.now there)
