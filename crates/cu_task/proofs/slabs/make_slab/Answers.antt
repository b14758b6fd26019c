use Rattle.std.proofs.Common.{◌≡◌, ◌+◌, ◌-◌, ◌*◌, ◌++◌, ℕ, List, length, refl, ap, sym, ◌∙◌, arith}
use Rattle.std.proofs.lemmas.List.{length-append}
use Rattle.cu_num.specs.Dtype.{size_of}
use Rattle.cu_task.proofs.SlabSteps.{inputs_kept, results_kept, shown_axis, shown_rows, shown_type, slab_made, slab_room, strip_count, IsSlabStep}
use Rattle.cu_task.specs.Slabs.{input_start, input_type, made_type, view_type}
use Rattle.cu_task.proofs.slabs.make_slab.Goals as goal

pub overflow_mul-from : goal.overflow_mul-from
overflow_mul-from c =
    let room = slab_room c.args.task.now c.args.job.now c.requires.job c.args.first c.args.end (size_of (made_type c.args.task.now)) (size_of (input_type c.args.task.now c.args.job.now.place)) c.requires.first c.requires.end c.requires.few refl refl in
    let most = c.requires.memory in
    let bytes = c.result_bytes.ensures.bytes in
    let ends = room.ends in
    let within = room.most in
    let few = room.few in
    let all = room.bytes in
    let gap = room.gap in
    let strip = room.strip in
    omega (arith, most, bytes, ends, within, few, all, gap, strip)

pub overflow_mul-count : goal.overflow_mul-count
overflow_mul-count c =
    let room = slab_room c.args.task.now c.args.job.now c.requires.job c.args.first c.args.end (size_of (made_type c.args.task.now)) (size_of (input_type c.args.task.now c.args.job.now.place)) c.requires.first c.requires.end c.requires.few refl refl in
    let most = c.requires.memory in
    let bytes = c.result_bytes.ensures.bytes in
    let ends = room.ends in
    let within = room.most in
    let few = room.few in
    let all = room.bytes in
    let gap = room.gap in
    let strip = room.strip in
    omega (arith, most, bytes, ends, within, few, all, gap, strip)

pub overflow_mul-at : goal.overflow_mul-at
overflow_mul-at c =
    let room = slab_room c.args.task.now c.args.job.now c.requires.job c.args.first c.args.end c.made_size-made.result (size_of (input_type c.args.task.now c.args.job.now.place)) c.requires.first c.requires.end c.requires.few c.made_size-made.ensures refl in
    let most = c.requires.memory in
    let bytes = c.result_bytes.ensures.bytes in
    let ends = room.ends in
    let within = room.most in
    let few = room.few in
    let all = room.bytes in
    let gap = room.gap in
    let strip = room.strip in
    omega (arith, most, bytes, ends, within, few, all, gap, strip)

pub overflow_add-at : goal.overflow_add-at
overflow_add-at c =
    let room = slab_room c.args.task.now c.args.job.now c.requires.job c.args.first c.args.end c.made_size-made.result (size_of (input_type c.args.task.now c.args.job.now.place)) c.requires.first c.requires.end c.requires.few c.made_size-made.ensures refl in
    let most = c.requires.memory in
    let bytes = c.result_bytes.ensures.bytes in
    let ends = room.ends in
    let within = room.most in
    let few = room.few in
    let all = room.bytes in
    let gap = room.gap in
    let strip = room.strip in
    omega (arith, most, bytes, ends, within, few, all, gap, strip)

pub overflow_add-at-2 : goal.overflow_add-at-2
overflow_add-at-2 c =
    let room = slab_room c.args.task.now c.args.job.now c.requires.job c.args.first c.args.end c.made_size-made.result (size_of (input_type c.args.task.now c.args.job.now.place)) c.requires.first c.requires.end c.requires.few c.made_size-made.ensures refl in
    let most = c.requires.memory in
    let bytes = c.result_bytes.ensures.bytes in
    let ends = room.ends in
    let within = room.most in
    let few = room.few in
    let all = room.bytes in
    let gap = room.gap in
    let strip = room.strip in
    omega (arith, most, bytes, ends, within, few, all, gap, strip)

pub overflow_mul-count-2 : goal.overflow_mul-count-2
overflow_mul-count-2 c =
    let room = slab_room c.args.task.now c.args.job.now c.requires.job c.args.first c.args.end c.made_size-made.result (size_of (input_type c.args.task.now c.args.job.now.place)) c.requires.first c.requires.end c.requires.few c.made_size-made.ensures refl in
    let most = c.requires.memory in
    let bytes = c.result_bytes.ensures.bytes in
    let ends = room.ends in
    let within = room.most in
    let few = room.few in
    let all = room.bytes in
    let gap = room.gap in
    let strip = room.strip in
    omega (arith, most, bytes, ends, within, few, all, gap, strip)

pub split_at_mut-inputs-requires : goal.split_at_mut-inputs-requires
split_at_mut-inputs-requires c =
    let room = slab_room c.args.task.now c.args.job.now c.requires.job c.args.first c.args.end c.made_size-made.result (size_of (input_type c.args.task.now c.args.job.now.place)) c.requires.first c.requires.end c.requires.few c.made_size-made.ensures refl in
    let most = c.requires.memory in
    let bytes = c.result_bytes.ensures.bytes in
    let ends = room.ends in
    let within = room.most in
    let few = room.few in
    let all = room.bytes in
    let gap = room.gap in
    let strip = room.strip in
    omega (arith, most, bytes, ends, within, few, all, gap, strip)

pub split_at_mut-output-requires : goal.split_at_mut-output-requires
split_at_mut-output-requires c =
    let room = slab_room c.args.task.now c.args.job.now c.requires.job c.args.first c.args.end c.made_size-made.result (size_of (input_type c.args.task.now c.args.job.now.place)) c.requires.first c.requires.end c.requires.few c.made_size-made.ensures refl in
    let most = c.requires.memory in
    let bytes = c.result_bytes.ensures.bytes in
    let ends = room.ends in
    let within = room.most in
    let few = room.few in
    let all = room.bytes in
    let gap = room.gap in
    let strip = room.strip in
    let back = c.split_at_mut-inputs.ensures.back_len in
    omega (arith, most, bytes, ends, within, few, all, gap, strip, back)

pub overflow_mul-count-3 : goal.overflow_mul-count-3
overflow_mul-count-3 c =
    let room = slab_room c.args.task.now c.args.job.now c.requires.job c.args.first c.args.end c.made_size-made.result c.input_size.result c.requires.first c.requires.end c.requires.few c.made_size-made.ensures c.input_size.ensures in
    let most = c.requires.memory in
    let bytes = c.result_bytes.ensures.bytes in
    let ends = room.ends in
    let within = room.most in
    let few = room.few in
    let all = room.bytes in
    let gap = room.gap in
    let strip = room.strip in
    omega (arith, most, bytes, ends, within, few, all, gap, strip)

pub split_at_mut-strip-requires : goal.split_at_mut-strip-requires
split_at_mut-strip-requires c =
    let room = slab_room c.args.task.now c.args.job.now c.requires.job c.args.first c.args.end c.made_size-made.result c.input_size.result c.requires.first c.requires.end c.requires.few c.made_size-made.ensures c.input_size.ensures in
    let most = c.requires.memory in
    let bytes = c.result_bytes.ensures.bytes in
    let ends = room.ends in
    let within = room.most in
    let few = room.few in
    let all = room.bytes in
    let gap = room.gap in
    let strip = room.strip in
    let front = c.split_at_mut-inputs.ensures.front_len in
    omega (arith, most, bytes, ends, within, few, all, gap, strip, front)

pub show_rows-requires-clause-axis : goal.show_rows-requires-clause-axis
show_rows-requires-clause-axis c = shown_axis c.args.task.now c.args.job.now c.requires.job

pub show_rows-requires-clause-end : goal.show_rows-requires-clause-end
show_rows-requires-clause-end c =
    let rows = shown_rows c.args.task.now c.args.job.now c.requires.job in
    let end = c.requires.end in
    omega (arith, rows, end)

pub show_rows-requires-clause-strip : goal.show_rows-requires-clause-strip
show_rows-requires-clause-strip c =
    let front = c.split_at_mut-strip.ensures.front_len in
    let size = ap (λ (n : ℕ). (c.args.end - c.args.first) * c.args.job.now.sizes.row * n) (c.input_size.ensures ∙ ap size_of (sym (shown_type c.args.task.now c.args.job.now c.requires.job))) in
    front ∙ size ∙ ap (λ (n : ℕ). n * size_of (view_type c.args.job.now.chunk.now)) (sym (strip_count c.args.task.now c.args.job.now c.requires.job c.args.first c.args.end))

pub run_slab-requires-clause-strip : goal.run_slab-requires-clause-strip
run_slab-requires-clause-strip c =
    let room = slab_room c.args.task.now c.args.job.now c.requires.job c.args.first c.args.end c.made_size-made.result c.input_size.result c.requires.first c.requires.end c.requires.few c.made_size-made.ensures c.input_size.ensures in
    let most = c.requires.memory in
    let bytes = c.result_bytes.ensures.bytes in
    let ends = room.ends in
    let within = room.most in
    let few = room.few in
    let all = room.bytes in
    let gap = room.gap in
    let strip = room.strip in
    let size = ap (λ (n : ℕ). (c.args.end - c.args.first) * c.args.job.now.sizes.row * n) c.input_size.ensures in
    let front = c.split_at_mut-strip.ensures.front_len in
    let new = c.show_rows.auto.strip in
    let both = length-append c.show_rows.new.strip c.split_at_mut-strip.result.1.now in
    omega (arith, size, front, new, both)

pub run_slab-requires-clause-other : goal.run_slab-requires-clause-other
run_slab-requires-clause-other c =
    let room = slab_room c.args.task.now c.args.job.now c.requires.job c.args.first c.args.end c.made_size-made.result c.input_size.result c.requires.first c.requires.end c.requires.few c.made_size-made.ensures c.input_size.ensures in
    let most = c.requires.memory in
    let bytes = c.result_bytes.ensures.bytes in
    let ends = room.ends in
    let within = room.most in
    let few = room.few in
    let all = room.bytes in
    let gap = room.gap in
    let strip = room.strip in
    let size = ap (λ (n : ℕ). (c.args.end - c.args.first) * c.args.job.now.sizes.row * n) (c.made_size-made.ensures ∙ sym c.requires.job.sizes.bytes) in
    let front = c.split_at_mut-inputs.ensures.front_len in
    let parted = c.split_at_mut-strip.ensures.back_len in
    let cut = c.split_at_mut-strip.ensures.front_len in
    let new = c.show_rows.auto.strip in
    let both = length-append c.show_rows.new.strip c.split_at_mut-strip.result.1.now in
    omega (arith, most, bytes, ends, within, few, all, gap, strip, size, front, parted, cut, new, both)

pub run_slab-requires-clause-output : goal.run_slab-requires-clause-output
run_slab-requires-clause-output c =
    let front = c.split_at_mut-output.ensures.front_len in
    front ∙ ap (λ (n : ℕ). (c.args.end - c.args.first) * c.args.job.now.sizes.row * n) c.made_size-made.ensures

pub returns-clause-made : goal.returns-clause-made
returns-clause-made c =
    let task = c.args.task.now in
    let job = c.args.job.now in
    let S = c.split_at_mut-strip.result.0.now in
    let S1 = c.show_rows.new.strip in
    let R = c.split_at_mut-strip.result.1.now in
    let O = c.split_at_mut-output.result.0.now in
    let O1 = c.run_slab.new.output in
    let L = c.split_at_mut-output.result.1.now in
    let most = c.requires.memory in
    let bytes = c.result_bytes.ensures.bytes in
    let start : length c.args.memory.now - c.args.job.now.sizes.gap - c.result_bytes.result ≡ input_start c.args.task.now c.args.job.now.sizes (length c.args.memory.now) = omega (arith, bytes) in
    let from = ap (λ (n : ℕ). c.args.first * c.args.job.now.sizes.row * n) c.made_size-made.ensures in
    let step : IsSlabStep c.args.task.now c.args.job.now c.args.first c.args.end c.args.memory.now S S1 R O O1 L = record {
      least = c.requires.first;
      most = c.requires.end;
      few = c.requires.few;
      fits = c.requires.memory;
      parts = c.split_at_mut-inputs.ensures.value ∙ ap (λ (x : List ℕ). x ++ c.split_at_mut-inputs.result.1.now) c.split_at_mut-strip.ensures.value ∙ ap (λ (x : List ℕ). (S ++ R) ++ x) c.split_at_mut-output.ensures.value;
      strip = c.split_at_mut-strip.ensures.front_len ∙ ap (λ (n : ℕ). (c.args.end - c.args.first) * c.args.job.now.sizes.row * n) c.input_size.ensures;
      strip_new = c.show_rows.auto.strip;
      front = (let a = c.split_at_mut-strip.ensures.front_len in let b = c.split_at_mut-strip.ensures.back_len in let d = c.split_at_mut-inputs.ensures.front_len in omega (arith, a, b, d, start, from));
      out = c.split_at_mut-output.ensures.front_len ∙ ap (λ (n : ℕ). (c.args.end - c.args.first) * c.args.job.now.sizes.row * n) c.made_size-made.ensures;
      out_new = c.run_slab.auto.output;
    } in
    slab_made c.args.task.now c.args.job.now c.requires.job c.args.first c.args.end c.args.memory.now S S1 R O O1 L step c.args.front.now (length c.args.memory.now - c.args.job.now.sizes.gap - c.result_bytes.result + c.args.first * c.args.job.now.sizes.row * c.made_size-made.result) (omega (arith, start, from)) c.show_rows.ensures
    (record { values = c.run_slab.ensures.values; bytes = c.run_slab.ensures.bytes })

pub returns-clause-before : goal.returns-clause-before
returns-clause-before c =
    let task = c.args.task.now in
    let job = c.args.job.now in
    let S = c.split_at_mut-strip.result.0.now in
    let S1 = c.show_rows.new.strip in
    let R = c.split_at_mut-strip.result.1.now in
    let O = c.split_at_mut-output.result.0.now in
    let O1 = c.run_slab.new.output in
    let L = c.split_at_mut-output.result.1.now in
    let most = c.requires.memory in
    let bytes = c.result_bytes.ensures.bytes in
    let start : length c.args.memory.now - c.args.job.now.sizes.gap - c.result_bytes.result ≡ input_start c.args.task.now c.args.job.now.sizes (length c.args.memory.now) = omega (arith, bytes) in
    let from = ap (λ (n : ℕ). c.args.first * c.args.job.now.sizes.row * n) c.made_size-made.ensures in
    let step : IsSlabStep c.args.task.now c.args.job.now c.args.first c.args.end c.args.memory.now S S1 R O O1 L = record {
      least = c.requires.first;
      most = c.requires.end;
      few = c.requires.few;
      fits = c.requires.memory;
      parts = c.split_at_mut-inputs.ensures.value ∙ ap (λ (x : List ℕ). x ++ c.split_at_mut-inputs.result.1.now) c.split_at_mut-strip.ensures.value ∙ ap (λ (x : List ℕ). (S ++ R) ++ x) c.split_at_mut-output.ensures.value;
      strip = c.split_at_mut-strip.ensures.front_len ∙ ap (λ (n : ℕ). (c.args.end - c.args.first) * c.args.job.now.sizes.row * n) c.input_size.ensures;
      strip_new = c.show_rows.auto.strip;
      front = (let a = c.split_at_mut-strip.ensures.front_len in let b = c.split_at_mut-strip.ensures.back_len in let d = c.split_at_mut-inputs.ensures.front_len in omega (arith, a, b, d, start, from));
      out = c.split_at_mut-output.ensures.front_len ∙ ap (λ (n : ℕ). (c.args.end - c.args.first) * c.args.job.now.sizes.row * n) c.made_size-made.ensures;
      out_new = c.run_slab.auto.output;
    } in
    inputs_kept c.args.task.now c.args.job.now c.requires.job c.args.first c.args.end c.args.memory.now S S1 R O O1 L step

pub returns-clause-behind : goal.returns-clause-behind
returns-clause-behind c =
    let task = c.args.task.now in
    let job = c.args.job.now in
    let S = c.split_at_mut-strip.result.0.now in
    let S1 = c.show_rows.new.strip in
    let R = c.split_at_mut-strip.result.1.now in
    let O = c.split_at_mut-output.result.0.now in
    let O1 = c.run_slab.new.output in
    let L = c.split_at_mut-output.result.1.now in
    let most = c.requires.memory in
    let bytes = c.result_bytes.ensures.bytes in
    let start : length c.args.memory.now - c.args.job.now.sizes.gap - c.result_bytes.result ≡ input_start c.args.task.now c.args.job.now.sizes (length c.args.memory.now) = omega (arith, bytes) in
    let from = ap (λ (n : ℕ). c.args.first * c.args.job.now.sizes.row * n) c.made_size-made.ensures in
    let step : IsSlabStep c.args.task.now c.args.job.now c.args.first c.args.end c.args.memory.now S S1 R O O1 L = record {
      least = c.requires.first;
      most = c.requires.end;
      few = c.requires.few;
      fits = c.requires.memory;
      parts = c.split_at_mut-inputs.ensures.value ∙ ap (λ (x : List ℕ). x ++ c.split_at_mut-inputs.result.1.now) c.split_at_mut-strip.ensures.value ∙ ap (λ (x : List ℕ). (S ++ R) ++ x) c.split_at_mut-output.ensures.value;
      strip = c.split_at_mut-strip.ensures.front_len ∙ ap (λ (n : ℕ). (c.args.end - c.args.first) * c.args.job.now.sizes.row * n) c.input_size.ensures;
      strip_new = c.show_rows.auto.strip;
      front = (let a = c.split_at_mut-strip.ensures.front_len in let b = c.split_at_mut-strip.ensures.back_len in let d = c.split_at_mut-inputs.ensures.front_len in omega (arith, a, b, d, start, from));
      out = c.split_at_mut-output.ensures.front_len ∙ ap (λ (n : ℕ). (c.args.end - c.args.first) * c.args.job.now.sizes.row * n) c.made_size-made.ensures;
      out_new = c.run_slab.auto.output;
    } in
    results_kept c.args.task.now c.args.job.now c.requires.job c.args.first c.args.end c.args.memory.now S S1 R O O1 L step
