-- The summary of a run: sums over the samples, and the records of its last epoch.
use Rattle.std.proofs.Common.{arith, ◌≡◌, ℕ, ◌+◌, ◌*◌, ◌<◌, ◌≤◌, Bool, List, [], ◌++◌, length, get_or, drop, refl, sym, ap, ◌∙◌, add-one}
use Rattle.std.specs.Prelude.{ℤ, pos, ◌+ℤ◌, unsigned_abs, not, ◌==◌, slice_index, flat_map}
use Rattle.report_text.specs.Lines.{summary_line, end_line}
use Rattle.scalar_rule.specs.Plan.{Plan, slots_of}
use Rattle.std.proofs.lemmas.Int.{ints}
use Rattle.std.proofs.lemmas.List.{get_or-take, get_or-drop, get_or-map}
use Rattle.spin_model.specs.Steps.{table, count_below}
use Rattle.spin_model.specs.SignedSums.{sum_of}
use Rattle.plane_sweep.specs.Packed.{part_slot}
use Rattle.plane_sweep.specs.Uneven.{uneven_part}
use Rattle.plane_sweep.specs.declared.replica.Duo.{Duo}
use Rattle.plane_sweep.specs.declared.uneven.RaggedStand.{RaggedStand}
use Rattle.scalar_rule.specs.Epoch.{slot_at}
use Rattle.scalar_rule.specs.declared.plain_copy.PlainCopy.{PlainCopy}
use Rattle.scalar_rule.specs.declared.sample.PlainSlot.{PlainSlot}
use Rattle.scalar_rule.specs.declared.sample.Record.{Record}
use Rattle.glass_engine.specs.RecordPieces.{piece}
use Rattle.glass_engine.specs.Summary.{slot_sums, summary_text}

pub sum-zero : (item : ℕ → ℤ) → sum_of item 0 ≡ pos 0
unfolding sum_of
sum-zero item = refl

pub sum-more : (item : ℕ → ℤ) (n : ℕ) → sum_of item (n + 1) ≡ sum_of item n +ℤ item n
unfolding sum_of
sum-more item n = rw add-one refl

-- record t of sample b lies at b * slots + t
pub piece-at : (records : List Record) (slots b t : ℕ) (d : Record) → t < slots → get_or (piece records slots b) t d ≡ get_or records (b * slots + t) d
piece-at records slots b t d below = get_or-take slots (drop (b * slots) records) t d below ∙ get_or-drop (b * slots) records t d

-- sums stay small
pub sum-small : (e f : ℤ) (n : ℕ) → unsigned_abs e ≤ 4294967296 * n → unsigned_abs f ≤ 4294967296 → unsigned_abs (e +ℤ f) ≤ 4294967296 * (n + 1)
sum-small e f n a b = omega (arith, ints, a, b)

-- the labels of a slot that was read are those of the samples' slots
pub away-read : (size t : ℕ) (stand : RaggedStand) (duo : Duo) → t < length stand.slots → duo ≡ get_or stand.slots t duo
    → count_below (λ b. not (slice_index duo.first.labels b == t)) 64
    ≡ count_below (λ b. not ((slot_at (uneven_part size b stand).slots t).first.replica == t)) 64
away-read size t stand duo below is =
    let copy : PlainCopy = record { spins = []; wheels = []; replica = 0 } in
    let none : PlainSlot = record { first = copy; second = copy } in
    let read : (b : ℕ) → part_slot size b duo ≡ slot_at (uneven_part size b stand).slots t =
    λ b. sym (get_or-map (part_slot size b) stand.slots t duo none below ∙ ap (part_slot size b) (sym is)) in
    ap (λ (test : ℕ → Bool). count_below test 64) (λ i. λ b. ap (λ (s : PlainSlot). not (s.first.replica == t)) (read b) i)

-- ---- three texts put one after another

pub summary-parts : (n : ℕ) (plan : Plan) (measured : ℕ → List Record) (contents : ℕ → List PlainSlot) (until : ℕ)
    → summary_text n plan measured contents until ≡ summary_line n plan 64 until ++ flat_map (slot_sums measured contents) (table (λ t. t) (slots_of plan)) ++ end_line until
unfolding summary_text
summary-parts n plan measured contents until = refl
