-- The bytes of a sample stand behind those of the samples before it.
use Rattle.std.proofs.Common.{◌≡◌, ℕ, suc, ◌+◌, ◌*◌, ◌<◌, ◌≤◌, List, sym, ap, ◌∙◌, arith}
use Rattle.std.specs.Prelude.{slice_index}
use Rattle.std.proofs.Math.Nat.{mul-le-mul_right}
use Rattle.coupling_set.specs.CouplingsFile.{sample_bytes, samples_in, byte_at}
use Rattle.coupling_set.proofs.FileLaws.{byte_at-held, byte_at-absent}
use Rattle.coupling_set.proofs.file_reading.byte_of.Goals as goal

held_within : (b samples read each stride k len : ℕ) → read ≡ samples → each ≡ stride → b < read → k < stride → len ≡ 48 + samples * stride
    → 16 + b * each + k < len
held_within b samples read each stride k len of_read of_each less byte long =
    let before : suc b * stride ≤ samples * stride = mul-le-mul_right stride (omega arith) in
    rw (of_each, long) (omega arith)

held_fits : (b samples read each stride k : ℕ) → read ≡ samples → samples ≤ 256 → each ≡ stride → each ≤ 98304 → b < read → k < stride
    → 16 + b * each + k < 4294967296
held_fits b samples read each stride k of_read few of_each small less byte =
    let before : b * each ≤ 256 * each = mul-le-mul_right each (omega arith) in
    omega arith

held_byte : (l : ℕ) (bytes : List ℕ) (b read each k : ℕ) → read ≡ samples_in bytes → each ≡ sample_bytes l → b < read
    → slice_index bytes (16 + b * each + k) ≡ byte_at l bytes b k
held_byte l bytes b read each k of_read of_each less = ap (λ (n : ℕ). slice_index bytes (16 + b * n + k)) of_each ∙ sym (byte_at-held l bytes b k (rw (← of_read) less))

absent_byte : (l : ℕ) (bytes : List ℕ) (b read k : ℕ) → read ≡ samples_in bytes → read ≤ b → 0 ≡ byte_at l bytes b k
absent_byte l bytes b read k of_read past = sym (byte_at-absent l bytes b k (rw (← of_read) past))

pub overflow_mul-result : goal.overflow_mul-result
overflow_mul-result c =
    let fits = held_fits c.args.sample _ c.samples_in.result c.sample_bytes.result _ c.args.k c.samples_in.ensures c.requires.few (c.sample_bytes.ensures.value ∙ ap sample_bytes c.size.ensures.value) c.sample_bytes.ensures.few c.if-sample-samples_in.true c.requires.byte in
    omega arith

pub overflow_add-result : goal.overflow_add-result
overflow_add-result c =
    let fits = held_fits c.args.sample _ c.samples_in.result c.sample_bytes.result _ c.args.k c.samples_in.ensures c.requires.few (c.sample_bytes.ensures.value ∙ ap sample_bytes c.size.ensures.value) c.sample_bytes.ensures.few c.if-sample-samples_in.true c.requires.byte in
    omega arith

pub overflow_add-result-then-sample-samples_in : goal.overflow_add-result-then-sample-samples_in
overflow_add-result-then-sample-samples_in c =
    let fits = held_fits c.args.sample _ c.samples_in.result c.sample_bytes.result _ c.args.k c.samples_in.ensures c.requires.few (c.sample_bytes.ensures.value ∙ ap sample_bytes c.size.ensures.value) c.sample_bytes.ensures.few c.if-sample-samples_in.true c.requires.byte in
    omega arith

pub overflow_cast-result : goal.overflow_cast-result
overflow_cast-result c =
    let fits = held_fits c.args.sample _ c.samples_in.result c.sample_bytes.result _ c.args.k c.samples_in.ensures c.requires.few (c.sample_bytes.ensures.value ∙ ap sample_bytes c.size.ensures.value) c.sample_bytes.ensures.few c.if-sample-samples_in.true c.requires.byte in
    omega arith

pub bounds-bytes-sample : goal.bounds-bytes-sample
bounds-bytes-sample c =
    held_within c.args.sample _ c.samples_in.result c.sample_bytes.result _ c.args.k _ c.samples_in.ensures (c.sample_bytes.ensures.value ∙ ap sample_bytes c.size.ensures.value) c.if-sample-samples_in.true c.requires.byte c.requires.long

pub returns-then-sample-samples_in : goal.returns-then-sample-samples_in
returns-then-sample-samples_in c =
    held_byte c.args.lattice.now c.args.bytes.now c.args.sample c.samples_in.result c.sample_bytes.result c.args.k c.samples_in.ensures (c.sample_bytes.ensures.value ∙ ap sample_bytes c.size.ensures.value) c.if-sample-samples_in.true

pub returns-else-sample-samples_in : goal.returns-else-sample-samples_in
returns-else-sample-samples_in c = absent_byte c.args.lattice.now c.args.bytes.now c.args.sample c.samples_in.result c.args.k c.samples_in.ensures c.if-sample-samples_in.false
